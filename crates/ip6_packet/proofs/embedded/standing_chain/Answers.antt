use Rattle.std.proofs.Common.{◌≡◌, ℕ, ◌+◌, ◌-◌, ◌≤◌, List, length, take, drop, min, ap, ◌∙◌, arith, length-drop}
use Rattle.std.proofs.lemmas.List.{take_min}
use Rattle.ip6_packet.specs.Grammar.{payload_len}
use Rattle.ip6_packet.specs.Chain.{chain_in}
use Rattle.octets.specs.Field.{octet}
use Rattle.ip6_packet.proofs.embedded.standing_chain.Goals as goal

-- as far as the octets stand is as many as there are
reach : (octets : List ℕ) (n : ℕ) → 40 ≤ length octets → take (min (length octets) (40 + n) - 40) (drop 40 octets) ≡ take n (drop 40 octets)
reach octets n h =
    let e : min (length octets) (40 + n) - 40 ≡ min n (length (drop 40 octets)) = omega (arith, length-drop 40 octets) in
    ap (λ (k : ℕ). take k (drop 40 octets)) e ∙ take_min n (drop 40 octets)

pub returns-clause-value : goal.returns-clause-value
returns-clause-value c =
    let octets = c.args.octets.now in
    let end : c.min-end.result ≡ min (length octets) (40 + payload_len octets) = c.min-end.ensures ∙ ap (λ (n : ℕ). min (length octets) (40 + n)) c.payload_len.ensures.value in
    let cut : take (c.min-end.result - 40) (drop 40 octets) ≡ take (payload_len octets) (drop 40 octets) =
    ap (λ (n : ℕ). take (n - 40) (drop 40 octets)) end ∙ reach octets (payload_len octets) c.requires in
    c.chain_of.ensures.value ∙ ap (chain_in 40 (octet octets 6) 0) cut
