use Rattle.std.proofs.Common.{◌≡◌, ◌∙◌, sym, subst, ap, List, ℕ}
use Rattle.std.specs.Prelude.{IfOk, Option}
use Rattle.std.specs.Option.{option_map}
use Rattle.octets.specs.declared.address.Addr6.{Addr6}
use Rattle.ip4_packet.specs.declared.head.Head4.{Head4}
use Rattle.l4_headers.specs.declared.ports.L4.{L4}
use Rattle.l4_headers.specs.declared.ports.Ports.{Ports}
use Rattle.l4_headers.proofs.Given.{given_ports}
use Rattle.xlat46.specs.Whole.{Parts4, HasPorts, packet46}
use Rattle.octets.proofs.Segments.{segment4}
use Rattle.xlat46.proofs.Read.{are_parts}
use Rattle.xlat46.proofs.whole.whole46.Goals as goal

pub returns : goal.returns
returns c = λ p sound.
    let src = c.args.src in
    let dst = c.args.dst in
    let ends = c.between.result in
    let new = λ (header : Option L4). option_map (λ (h : L4). ends.ports) header in
    let is_head : p.head ≡ c.accepted-head.result = c.accepted-head.ensures.only p.head p.payload sound.is in
    let given_head : c.requires.parts.head ≡ c.accepted-head.result = c.accepted-head.ensures.only c.requires.parts.head c.requires.parts.payload c.requires.sound.is in
    let has : HasPorts c.accepted-head.result c.args.ports = subst (λ (h : Head4). HasPorts h c.args.ports) given_head c.requires.with_ports in
    let is = are_parts p c.args.packet.now c.accepted-head.result c.of_segment-proto.result c.payload-payload.result.now sound is_head c.of_segment-proto.ensures.four c.payload-payload.ensures in
    subst (λ (all : List ℕ). IfOk c.packet46.result (λ octets. octets ≡ all))
    (ap (λ (q : Parts4). packet46 q ends.src ends.dst (new c.header_in.result)) (sym is)
    ∙ ap (λ (a : Addr6). packet46 p a ends.dst (new c.header_in.result)) c.between.ensures.source
    ∙ ap (λ (a : Addr6). packet46 p src a (new c.header_in.result)) c.between.ensures.destination
    ∙ ap (λ (header : Option L4). packet46 p src dst (new header)) c.header_in.ensures
    ∙ ap (λ (ports : Option Ports). packet46 p src dst ports) (given_ports c.accepted-head.result.offset c.of_segment-proto.result c.payload-payload.result.now c.args.ports ends.ports has c.between.ensures.ports))
    c.packet46.ensures

-- the packet's protocol is TCP or UDP
pub of_segment-proto-requires : goal.of_segment-proto-requires
of_segment-proto-requires c =
    let p = c.requires.parts in
    let sound = c.requires.sound in
    let is_head : p.head ≡ c.accepted-head.result = c.accepted-head.ensures.only p.head p.payload sound.is in
    let protocol = rw is_head at sound.carried.protocol in
    segment4 c.accepted-head.result.proto p.proto protocol sound.carried.no_icmp
