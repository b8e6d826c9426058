use Rattle.std.proofs.Common.{◌≡◌, ◌-◌, arith, ap, length, subst, ℕ, List}
use Rattle.ip4_packet.specs.Grammar.{payload_of4}
use Rattle.packet_faults.specs.Cut.{cut_for, AreCut}
use Rattle.xlat46.specs.Head.{translated}
use Rattle.ip6_packet.specs.Written.{IsInRange}
use Rattle.transit.proofs.Both.{follows}
use Rattle.transit.proofs.Form.{cuttable}
use Rattle.transit.proofs.to_ipv6.cut.Goals as goal

pub cut6-requires-clause-written : goal.cut6-requires-clause-written
cut6-requires-clause-written c =
    let head = c.args.packet.now.head in
    let range : IsInRange (translated head c.args.passing.now.ends.src c.args.passing.now.ends.dst) = subst IsInRange c.header-header.ensures.value c.header-header.ensures.in_range in
    let same : length c.payload_in-payload.result.now ≡ length (payload_of4 head c.args.octets.now) = ap (λ (x : List ℕ). length x) c.payload_in-payload.ensures.value in
    let exact : length (payload_of4 head c.args.octets.now) ≡ head.total - head.head_len = omega (arith, same, c.payload_in-payload.ensures.total) in
    cuttable c.args.passing.now.mtus c.args.packet.now c.args.octets.now c.args.written.now c.args.passing.now.ends c.requires.is exact c.header-header.ensures.total c.header-header.ensures.id range c.requires.no_message c.requires.written

pub returns : goal.returns
returns c =
    let head = c.args.packet.now.head in
    let range : IsInRange (translated head c.args.passing.now.ends.src c.args.passing.now.ends.dst) = subst IsInRange c.header-header.ensures.value c.header-header.ensures.in_range in
    let same : length c.payload_in-payload.result.now ≡ length (payload_of4 head c.args.octets.now) = ap (λ (x : List ℕ). length x) c.payload_in-payload.ensures.value in
    let exact : length (payload_of4 head c.args.octets.now) ≡ head.total - head.head_len = omega (arith, same, c.payload_in-payload.ensures.total) in
    let form = cuttable c.args.passing.now.mtus c.args.packet.now c.args.octets.now c.args.written.now c.args.passing.now.ends c.requires.is exact c.header-header.ensures.total c.header-header.ensures.id range c.requires.no_message c.requires.written in
    let told = c.cut6.ensures.cut form.0 form.1 form.2 in
    follows _ _ c.cut6.result (λ pieces are. (form.0, form.1, form.2, subst (λ (id : ℕ). AreCut (cut_for form.0 form.1 c.args.passing.now.mtus.mtu6 id) pieces) c.from-id.ensures are)) told
