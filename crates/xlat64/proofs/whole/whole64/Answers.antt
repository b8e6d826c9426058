use Rattle.std.proofs.Common.{◌≡◌, ◌∙◌, sym, subst, ap, List, ℕ}
use Rattle.std.specs.Prelude.{IfOk, Option}
use Rattle.std.specs.Option.{option_map}
use Rattle.octets.specs.declared.address.Addr4.{Addr4}
use Rattle.ip6_packet.specs.declared.head.Head6.{Head6}
use Rattle.ip6_packet.specs.Fragment.{fragment_offset}
use Rattle.xlat64.proofs.Read.{offset_fits}
use Rattle.l4_headers.specs.declared.ports.L4.{L4}
use Rattle.l4_headers.specs.declared.ports.Ports.{Ports}
use Rattle.l4_headers.proofs.Given.{given_ports}
use Rattle.xlat64.specs.Whole.{Parts6, IsCarried6, HasPorts, packet64}
use Rattle.octets.proofs.Segments.{segment6}
use Rattle.xlat64.proofs.Read.{are_parts}
use Rattle.xlat64.proofs.whole.whole64.Goals as goal

pub returns : goal.returns
returns c = λ p sound.
    let src = c.args.src in
    let dst = c.args.dst in
    let ends = c.between.result in
    let new = λ (header : Option L4). option_map (λ (h : L4). ends.ports) header in
    let is_head : p.head ≡ c.accepted-head.result = c.accepted-head.ensures.only p.head p.payload sound.is in
    let given_head : c.requires.parts.head ≡ c.accepted-head.result = c.accepted-head.ensures.only c.requires.parts.head c.requires.parts.payload c.requires.sound.is in
    let has : HasPorts c.accepted-head.result c.args.ports = subst (λ (h : Head6). HasPorts h c.args.ports) given_head c.requires.with_ports in
    let is = are_parts p c.args.packet.now c.accepted-head.result c.of_segment-proto.result c.payload-payload.result.now sound is_head c.of_segment-proto.ensures.six c.payload-payload.ensures in
    subst (λ (all : List ℕ). IfOk c.packet64.result (λ octets. octets ≡ all))
    (ap (λ (q : Parts6). packet64 q ends.src ends.dst (new c.header_in.result) c.args.id) (sym is)
    ∙ ap (λ (a : Addr4). packet64 p a ends.dst (new c.header_in.result) c.args.id) c.between.ensures.source
    ∙ ap (λ (a : Addr4). packet64 p src a (new c.header_in.result) c.args.id) c.between.ensures.destination
    ∙ ap (λ (header : Option L4). packet64 p src dst (new header) c.args.id) c.header_in.ensures
    ∙ ap (λ (ports : Option Ports). packet64 p src dst ports c.args.id) (given_ports (fragment_offset c.accepted-head.result.frag) c.of_segment-proto.result c.payload-payload.result.now c.args.ports ends.ports has c.between.ensures.ports))
    c.packet64.ensures

pub packet64-requires-clause-offset : goal.packet64-requires-clause-offset
packet64-requires-clause-offset c =
    offset_fits c.accepted-head.result _ c.args.packet.now c.accepted-head.ensures.found c.requires.sound.header

pub packet64-requires-clause-carried : goal.packet64-requires-clause-carried
packet64-requires-clause-carried c =
    let p = c.requires.parts in
    let sound = c.requires.sound in
    let is_head : p.head ≡ c.accepted-head.result = c.accepted-head.ensures.only p.head p.payload sound.is in
    subst IsCarried6 (are_parts p c.args.packet.now c.accepted-head.result c.of_segment-proto.result c.payload-payload.result.now sound is_head c.of_segment-proto.ensures.six c.payload-payload.ensures) sound.carried

-- the packet's protocol is TCP or UDP
pub of_segment-proto-requires : goal.of_segment-proto-requires
of_segment-proto-requires c =
    let p = c.requires.parts in
    let sound = c.requires.sound in
    let is_head : p.head ≡ c.accepted-head.result = c.accepted-head.ensures.only p.head p.payload sound.is in
    let protocol = rw is_head at sound.carried.protocol in
    segment6 c.accepted-head.result.upper p.proto protocol sound.carried.no_icmp
