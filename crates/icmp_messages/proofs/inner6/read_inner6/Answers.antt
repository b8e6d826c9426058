use Rattle.std.proofs.Common.{◌≡◌, ◌≤◌, length, arith, ap, rules}
use Rattle.ip6_packet.specs.Fragment.{fragment_offset}
use Rattle.ip6_packet.specs.Grammar.{payload_of6}
use Rattle.icmp_messages.proofs.InnerLemmas.{not_bad6}
use Rattle.icmp_messages.proofs.inner6.read_inner6.Goals as goal

pub returns-in_err-extend-clause-refused : goal.returns-in_err-extend-clause-refused
returns-in_err-extend-clause-refused c =
    let octets = c.args.octets.now in
    let e : c.payload-payload.result.now ≡ payload_of6 c.in-Some.head octets = c.payload-payload.ensures in
    let stands : 8 ≤ length (payload_of6 c.in-Some.head octets) = omega (arith, ap length e) in
    let first : fragment_offset c.in-Some.head.frag ≡ 0 = search rules in
    (λ is. let f = rw is at c.from_residual.ensures in cc, λ bad. absurd (not_bad6 c.in-Some.head c.in-Some-carried.proto octets c.in-Some.ensures.headers stands first (rw e at c.in-Some-carried.ensures.some) bad))

pub returns-clause-refused : goal.returns-clause-refused
returns-clause-refused c =
    let octets = c.args.octets.now in
    let e : c.payload-payload.result.now ≡ payload_of6 c.in-Some.head octets = c.payload-payload.ensures in
    let stands : 8 ≤ length (payload_of6 c.in-Some.head octets) = omega (arith, ap length e) in
    let first : fragment_offset c.in-Some.head.frag ≡ 0 = search rules in
    (λ is. cc, λ bad. absurd (not_bad6 c.in-Some.head c.in-Some-carried.proto octets c.in-Some.ensures.headers stands first (rw e at c.in-Some-carried.ensures.some) bad))
