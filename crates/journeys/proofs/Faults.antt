-- ICMP errors: what is written as one is one, and one is by its header and payload.
use Rattle.std.proofs.Common.{◌≡◌, refl, sym, ap, ◌∙◌, ℕ, ◌+◌, ◌-◌, ◌*◌, ◌^◌, ◌<◌, ◌≤◌, ◌⊎◌, true, List, ◌∷◌, Some, None, arith}
use Rattle.std.specs.Prelude.{◌++◌, ◌==◌, length, [], get_or, drop}
use Rattle.std.proofs.lemmas.Bool.{lt-ltb, ltb-true, eqb-true}
use Rattle.std.proofs.lemmas.List.{get_or-take, get_or-drop, length-take-le, length-drop}
use Rattle.octets.specs.Field.{octet, in_quad, in_word, in_sixteen, part}
use Rattle.octets.proofs.Parts.{number_back}
use Rattle.octets.proofs.Same.{both_true}
use Rattle.ip4_packet.specs.declared.head.Head4.{Head4}
use Rattle.ip4_packet.specs.Grammar.{header_len, total_len, payload_of4, Is4}
use Rattle.ip4_packet.specs.Written.{written4}
use Rattle.ip6_packet.specs.declared.head.Head6.{Head6}
use Rattle.ip6_packet.specs.Grammar.{chain_of, payload_len, payload_of6, Is6}
use Rattle.ip6_packet.specs.Written.{written6}
use Rattle.ip6_packet.proofs.ChainLemmas.{tail}
use Rattle.packet_faults.specs.Error.{IsError4, IsError6}
use Rattle.journeys.specs.Rank.{is_fault4, is_fault6, is_fault_behind, is_error_type4, is_error_type6}

-- ---- what is written

-- octets with a header of ICMPv6 and no other in front of these
abbrev front6 : ℕ → ℕ → ℕ → ℕ → ℕ → List ℕ → List ℕ
front6 first len hop src dst payload =
    in_quad first ++ in_word (len + 0) ++ 58 ∷ hop ∷ [] ++ in_sixteen src ++ in_sixteen dst ++ payload

chain_there : (first len hop src dst : ℕ) (payload : List ℕ)
    → chain_of (front6 first len hop src dst payload) ≡ Some (record { upper = 58; start = 40; frag = None; left = None })
chain_there first len hop src dst payload =
    tail 40 58 (part (front6 first len hop src dst payload) 40 (payload_len (front6 first len hop src dst payload))) refl

len_there : (first len hop src dst : ℕ) (payload : List ℕ) → len < 65536 → payload_len (front6 first len hop src dst payload) ≡ len
len_there first len hop src dst payload fits =
    omega (arith, number_back 2 (len + 0) (58 ∷ hop ∷ in_sixteen src ++ (in_sixteen dst ++ payload)) (omega (arith, fits)))

front_fault : (first len hop src dst : ℕ) (payload : List ℕ) → 0 < len → len < 65536 → is_error_type6 (octet payload 0) ≡ true
    → is_fault6 (front6 first len hop src dst payload) ≡ true
front_fault first len hop src dst payload some fits kind =
    rw (chain_there first len hop src dst payload, len_there first len hop src dst payload fits, lt-ltb 40 (40 + len) (omega (arith, some))) kind

pub written_fault6 : (h : Head6) (payload : List ℕ) → h.upper ≡ 58 → h.frag ≡ None → 0 < h.length → h.length < 65536
    → is_error_type6 (octet payload 0) ≡ true → is_fault6 (written6 h payload) ≡ true
written_fault6 h payload upper bare some fits kind =
    rw (upper, bare) (front_fault (6 * 2 ^ 28 + h.class * 2 ^ 20) h.length h.hop h.src.0 h.dst.0 payload some fits kind)

pub written_fault4 : (h : Head4) (payload : List ℕ) → h.proto ≡ 1 → 20 < h.total → h.total < 65536
    → is_error_type4 (octet payload 0) ≡ true → is_fault4 (written4 h payload) ≡ true
written_fault4 h payload proto some fits kind = rw (proto, total_there, lt-ltb 20 h.total some) kind
  where
    total_there : total_len (written4 h payload) ≡ h.total
    total_there = omega (arith, fits)

-- ---- what is read

-- the first octet of a part, and that a part inside has its length
octet_part : (xs : List ℕ) (at count : ℕ) → 0 < count → octet (part xs at count) 0 ≡ octet xs at
octet_part xs at count some =
    get_or-take count (drop at xs) 0 0 some ∙ get_or-drop at xs 0 0 ∙ ap (λ k. get_or xs k 0) (omega arith)

length_part : (xs : List ℕ) (at count : ℕ) → at + count ≤ length xs → length (part xs at count) ≡ count
length_part xs at count within = length-take-le count (drop at xs) (omega (arith, length-drop at xs, within))

-- an ICMP error is one by its header and payload, so that nothing answers it
pub is_error6 : (h : Head6) (octets : List ℕ) → Is6 h (payload_of6 h octets) octets → is_fault6 octets ≡ true → IsError6 h.upper (payload_of6 h octets)
is_error6 h octets is fault =
    let there : is_fault_behind octets (Some (record { upper = h.upper; start = h.start; frag = h.frag; left = h.left })) ≡ true =
    sym (ap (is_fault_behind octets) is.chain) ∙ fault in
    let parts = both_true (h.upper == 58) _ there in
    let rest = both_true _ (is_error_type6 (octet octets h.start)) parts.1 in
    let within = ltb-true _ _ rest.0 in
    let some : 0 < h.length = omega (arith, within, is.ends) in
    let long = length_part octets h.start h.length (omega (arith, is.ends, is.whole)) in
    (eqb-true _ _ parts.0, omega (arith, long, some), rw (octet_part octets h.start h.length some) (ltb-true _ _ rest.1))

-- one of the types is the type
error_types : (kind : ℕ) → is_error_type4 kind ≡ true
    → (kind ≡ 3) ⊎ ((kind ≡ 4) ⊎ ((kind ≡ 5) ⊎ ((kind ≡ 11) ⊎ (kind ≡ 12))))
error_types kind is = grind (arith, is, eqb-true kind 3, eqb-true kind 4, eqb-true kind 5, eqb-true kind 11, eqb-true kind 12)

pub is_error4 : (h : Head4) (octets : List ℕ) → Is4 h (payload_of4 h octets) octets → is_fault4 octets ≡ true → IsError4 h.proto (payload_of4 h octets)
is_error4 h octets is fault =
    let parts = both_true (octet octets 9 == 1) _ fault in
    let rest = both_true _ (is_error_type4 (octet octets (header_len octets))) parts.1 in
    let within = ltb-true _ _ rest.0 in
    let some : 0 < h.total - h.head_len = omega (arith, within, is.fields.total, is.fields.head_len) in
    let long = length_part octets h.head_len (h.total - h.head_len) (omega (arith, is.whole, is.total_fits)) in
    let first : octet (payload_of4 h octets) 0 ≡ octet octets (header_len octets) =
    octet_part octets h.head_len (h.total - h.head_len) some ∙ ap (octet octets) is.fields.head_len in
    (is.fields.proto ∙ eqb-true _ _ parts.0, omega (arith, long, some), rw first (error_types (octet octets (header_len octets)) rest.1))
