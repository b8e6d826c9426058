-- The MAP addresses of one rule, and its edges.
use Rattle.std.proofs.Common.{◌≡◌, ℕ, zero, suc, ◌+◌, ◌-◌, ◌*◌, ◌/◌, ◌%◌, ◌^◌, ◌<◌, ◌≤◌, Bool, true, false, refl, sym, ◌∙◌, ap, arith, lit<}
use Rattle.std.specs.Prelude.{◌&&◌, ◌==◌, if◌then◌else◌, Some, None}
use Rattle.std.proofs.Math.Nat.{mul-le-mul_right, pow-le-pow_right}
use Rattle.std.proofs.lemmas.Nat.{shr-shr, one_shl, pow_pos, div-add-mod', div-mul-add, mod-mul-add}
use Rattle.std.proofs.lemmas.Bool.Decides.{nat_tests}
use Rattle.octets.specs.Bits.{bits_at, IsClearFrom, SameFirst}
use Rattle.port_set.specs.PortSet.{in_set}
use Rattle.map_rules.specs.Address.{psid_of}
use Rattle.map_rules.specs.Rule.{psid_len, suffix_of, HasAddress, rule_address, ce6_of, IsSource, HasEdge, ea_bits, edge_address, edge_psid}
use Rattle.map_rules.specs.declared.rule.Rule.{Rule}
use Rattle.map_rules.proofs.Parts.{power, clear-parts, high-small, shift-fits}
use Rattle.map_rules.proofs.MapAddress.{HasSizes, sum_of, sum-small, ea-small, addr-part, psid-part, front-part}

-- the EA bits of an address and a PSID
abbrev pub ea_of : Rule → ℕ → ℕ → ℕ
ea_of rule addr v = suffix_of rule addr * 2 ^ psid_len rule + v

psid-fits : (rule : Rule) (v : ℕ) → v < 2 ^ psid_len rule → v < 2 ^ 16
psid-fits rule v less =
    let short : psid_len rule ≤ 16 = omega (arith, rule.psid_most) in
    let within : 2 ^ psid_len rule ≤ 2 ^ 16 = pow-le-pow_right {n = 2} (lit< tt) {i = psid_len rule} {j = 16} short in
    omega arith

pub rule-sizes : (rule : Rule) (addr v : ℕ) → addr < 2 ^ 32 → v < 2 ^ psid_len rule → HasSizes rule.prefix6.bits rule.prefix6.len rule.ea (ea_of rule addr v) addr v
rule-sizes rule addr v small less = record {
  clear = rule.prefix6.clear;
  edge = rule.edge_length;
  bits_of_ea = ea-small rule.prefix4.len rule.ea addr v rule.prefix4.within rule.ea_least less;
  four = small;
  psid = psid-fits rule v less;
}

pub rule_address-sum : (rule : Rule) (addr v : ℕ) → rule_address rule addr v ≡ sum_of rule.prefix6.bits rule.prefix6.len rule.ea (ea_of rule addr v) addr v
unfolding rule_address
rule_address-sum rule addr v = refl

-- what is cut from a MAP address
pub source-addr : (rule : Rule) (s addr v : ℕ) → IsSource rule s addr v → bits_at 128 s 80 32 ≡ addr
source-addr rule s addr v is =
    rw (← is.whole, rule_address-sum rule addr v) (addr-part rule.prefix6.bits rule.prefix6.len rule.ea (ea_of rule addr v) addr v (rule-sizes rule addr v is.four is.psid))

pub source-psid : (rule : Rule) (s addr v : ℕ) → IsSource rule s addr v → bits_at 128 s 112 16 ≡ v
source-psid rule s addr v is =
    rw (← is.whole, rule_address-sum rule addr v) (psid-part rule.prefix6.bits rule.prefix6.len rule.ea (ea_of rule addr v) addr v (rule-sizes rule addr v is.four is.psid))

-- two sources of one address are one
pub source-one : (rule : Rule) (s addr v addr' v' : ℕ) → IsSource rule s addr v → IsSource rule s addr' v' → (addr ≡ addr') × (v ≡ v')
source-one rule s addr v addr' v' one other = (sym (source-addr rule s addr v one) ∙ source-addr rule s addr' v' other, sym (source-psid rule s addr v one) ∙ source-psid rule s addr' v' other)

with_bits : (k : ℕ) → (suc k == 0) ≡ false
with_bits k = grind (arith, nat_tests)

pub psid_of-small : (a k x : ℕ) → psid_of a k x < 2 ^ k
psid_of-small a zero x = lit< tt
psid_of-small a (suc k) x =
    let some : 0 < 2 ^ suc k = pow_pos (suc k) in
    let part : x / 2 ^ (16 - a - suc k) % 2 ^ suc k < 2 ^ suc k = omega arith in
    rw (with_bits k) part

-- the sum of the parts of a MAP address as they are computed
pub address-sum : (rule : Rule) (addr v p q t : ℕ) → p ≡ ea_of rule addr v * 2 ^ (128 - (rule.prefix6.len + rule.ea)) → q ≡ addr * 2 ^ 16 → t ≡ v → rule.prefix6.bits + p + q + t ≡ rule_address rule addr v
address-sum rule addr v p q t is_p is_q is_t =
    let width : 128 - (rule.prefix6.len + rule.ea) ≡ 128 - rule.prefix6.len - rule.ea = omega arith in
    rw (is_p, is_q, is_t, width, rule_address-sum rule addr v) refl

pub address-small : (rule : Rule) (addr v : ℕ) → rule.prefix6.bits < 2 ^ 128 → addr < 2 ^ 32 → v < 2 ^ psid_len rule → rule_address rule addr v < 2 ^ 128
address-small rule addr v fits small less =
    rw (rule_address-sum rule addr v) (sum-small rule.prefix6.bits rule.prefix6.len rule.ea (ea_of rule addr v) addr v fits (rule-sizes rule addr v small less))

pub ea-computed : (rule : Rule) (addr v x k y e : ℕ) → x ≡ addr → k ≡ psid_len rule → y ≡ v → e ≡ x % (1 * 2 ^ (32 - rule.prefix4.len) % 2 ^ 64) * 2 ^ k % 2 ^ 64 + y → e ≡ ea_of rule addr v
ea-computed rule addr v x k y e is_x is_k is_y is_e =
    let r : ℕ = rule.prefix4.len in
    let one : 1 * 2 ^ (32 - r) % 2 ^ 64 ≡ 2 ^ (32 - r) = one_shl (32 - r) 64 (omega arith) in
    let some : 0 < 2 ^ (32 - r) = pow_pos (32 - r) in
    let part : suffix_of rule addr < 2 ^ (32 - r) = omega arith in
    let short : psid_len rule ≤ 16 = omega (arith, rule.psid_most) in
    let kept : suffix_of rule addr * 2 ^ psid_len rule % 2 ^ 64 ≡ suffix_of rule addr * 2 ^ psid_len rule = shift-fits (suffix_of rule addr) (32 - r) (psid_len rule) 64 part (omega arith) in
    is_e ∙ rw (is_x, is_k, is_y, one, kept) refl

pub ea_of-small : (rule : Rule) (addr v : ℕ) → v < 2 ^ psid_len rule → ea_of rule addr v < 2 ^ rule.ea
ea_of-small rule addr v less = ea-small rule.prefix4.len rule.ea addr v rule.prefix4.within rule.ea_least less

-- the EA bits and what they give
ea_bits-small : (rule : Rule) (bits : ℕ) → ea_bits rule bits < 2 ^ rule.ea
ea_bits-small rule bits =
    let some : 0 < 2 ^ rule.ea = pow_pos rule.ea in
    omega arith

pub edge-psid-small : (rule : Rule) (bits : ℕ) → edge_psid rule bits < 2 ^ psid_len rule
edge-psid-small rule bits =
    let some : 0 < 2 ^ psid_len rule = pow_pos (psid_len rule) in
    omega arith

edge-suffix-small : (rule : Rule) (bits : ℕ) → ea_bits rule bits / 2 ^ psid_len rule < 2 ^ (32 - rule.prefix4.len)
edge-suffix-small rule bits =
    high-small (ea_bits rule bits) (32 - rule.prefix4.len) (psid_len rule) rule.ea (omega (arith, rule.ea_least, rule.prefix4.within)) (ea_bits-small rule bits)

-- an address of a prefix is the prefix and a suffix
with-suffix : (x y r : ℕ) → r ≤ 32 → x < 2 ^ 32 → IsClearFrom 32 x r → y < 2 ^ (32 - r) → (x + y < 2 ^ 32) × SameFirst 32 r x (x + y) × ((x + y) % 2 ^ (32 - r) ≡ y)
with-suffix x y r within fits clear less =
    let m : ℕ = x / 2 ^ (32 - r) in
    let whole : m * 2 ^ (32 - r) ≡ x = clear-parts x (32 - r) clear in
    let high : m < 2 ^ r = high-small x r (32 - r) 32 (omega arith) fits in
    let up_to : suc m * 2 ^ (32 - r) ≤ 2 ^ r * 2 ^ (32 - r) = mul-le-mul_right (2 ^ (32 - r)) high in
    let all : 2 ^ 32 ≡ 2 ^ r * 2 ^ (32 - r) = power 32 r (32 - r) (omega arith) in
    let parts : x + y ≡ m * 2 ^ (32 - r) + y = omega arith in
    (omega arith, sym (rw parts (div-mul-add m (2 ^ (32 - r)) y less)), rw parts (mod-mul-add m (2 ^ (32 - r)) y less))

-- the address that an edge's bits give is of the rule
pub edge-has : (rule : Rule) (bits : ℕ) → rule.prefix4.bits < 2 ^ 32 → (edge_address rule bits < 2 ^ 32) × HasAddress rule (edge_address rule bits)
edge-has rule bits fits =
    let told = with-suffix rule.prefix4.bits (ea_bits rule bits / 2 ^ psid_len rule) rule.prefix4.len rule.prefix4.within fits rule.prefix4.clear (edge-suffix-small rule bits) in
    (told.0, told.1)

-- and its EA bits are the edge's
ea_of-edge : (rule : Rule) (bits : ℕ) → rule.prefix4.bits < 2 ^ 32 → ea_of rule (edge_address rule bits) (edge_psid rule bits) ≡ ea_bits rule bits
ea_of-edge rule bits fits =
    let told = with-suffix rule.prefix4.bits (ea_bits rule bits / 2 ^ psid_len rule) rule.prefix4.len rule.prefix4.within fits rule.prefix4.clear (edge-suffix-small rule bits) in
    rw told.2 (div-add-mod' (ea_bits rule bits) (2 ^ psid_len rule))

-- the first n + o bits of an edge's prefix
edge-front : (rule : Rule) (bits len : ℕ) → HasEdge rule bits len → bits / 2 ^ (128 - len) ≡ rule.prefix6.bits / 2 ^ (128 - rule.prefix6.len) * 2 ^ rule.ea + ea_bits rule bits
edge-front rule bits len edge =
    let n : ℕ = rule.prefix6.len in
    let o : ℕ = rule.ea in
    let q : ℕ = bits / 2 ^ (128 - (n + o)) in
    let at : 128 - (n + o) + o ≡ 128 - n = omega (arith, rule.edge_length) in
    let above : q / 2 ^ o ≡ bits / 2 ^ (128 - n) = shr-shr bits (128 - (n + o)) o ∙ ap (λ x. bits / 2 ^ x) at in
    let split : q / 2 ^ o * 2 ^ o + q % 2 ^ o ≡ q = div-add-mod' q (2 ^ o) in
    let whole : rule.prefix6.bits / 2 ^ (128 - n) * 2 ^ o + q % 2 ^ o ≡ q = rw (above ∙ sym edge.1) at split in
    rw edge.0 (sym whole)

-- the front of an edge's MAP address is the edge's prefix
pub edge-inside : (rule : Rule) (bits len s : ℕ) → rule.prefix4.bits < 2 ^ 32 → HasEdge rule bits len → rule_address rule (edge_address rule bits) (edge_psid rule bits) ≡ s → SameFirst 128 len bits s
edge-inside rule bits len s fits edge is =
    let addr : ℕ = edge_address rule bits in
    let v : ℕ = edge_psid rule bits in
    let n : ℕ = rule.prefix6.len in
    let o : ℕ = rule.ea in
    let width : 128 - len ≡ 128 - n - o = omega (arith, edge.0) in
    let front : s / 2 ^ (128 - len) ≡ rule.prefix6.bits / 2 ^ (128 - n) * 2 ^ o + ea_of rule addr v =
    rw (← is, rule_address-sum rule addr v, width) (front-part rule.prefix6.bits n o (ea_of rule addr v) addr v (rule-sizes rule addr v (edge-has rule bits fits).0 (edge-psid-small rule bits))) in
    edge-front rule bits len edge ∙ sym (front ∙ ap (λ x. rule.prefix6.bits / 2 ^ (128 - n) * 2 ^ o + x) (ea_of-edge rule bits fits))

pub psid-short : (rule : Rule) → psid_len rule < 32
psid-short rule = omega (arith, rule.psid_most)

-- the PSID of a set is that of each of its ports
psid-told : (a k v x : ℕ) → v < 2 ^ k → in_set a k v x ≡ true → psid_of a k x ≡ v
psid-told a zero v x less passes = omega arith
psid-told a (suc k) v x less passes = grind (arith, nat_tests)

has-test : (rule : Rule) (addr : ℕ) → HasAddress rule addr → ((rule.prefix4.bits / 2 ^ (32 - rule.prefix4.len)) == (addr / 2 ^ (32 - rule.prefix4.len))) ≡ true
has-test rule addr has = rw has (grind (arith, nat_tests))

test-has : (rule : Rule) (addr : ℕ) → ((rule.prefix4.bits / 2 ^ (32 - rule.prefix4.len)) == (addr / 2 ^ (32 - rule.prefix4.len))) ≡ true → HasAddress rule addr
test-has rule addr e = grind (arith, nat_tests)

pub ce6-source : (rule : Rule) (s addr v x : ℕ) → IsSource rule s addr v → in_set rule.offset (psid_len rule) v x ≡ true → ce6_of rule addr x ≡ Some s
unfolding ce6_of
ce6-source rule s addr v x is passes =
    let psid : psid_of rule.offset (psid_len rule) x ≡ v = psid-told rule.offset (psid_len rule) v x is.psid passes in
    rw (psid, has-test rule addr is.has, passes, is.whole) refl

some-tells : (b c : Bool) (n s : ℕ) → (if b && c then Some n else None) ≡ Some s → (b ≡ true) × (c ≡ true) × (n ≡ s)
some-tells true true n s e = (refl, refl, cc)
some-tells true false n s e = cc
some-tells false c n s e = cc

pub source-ce6 : (rule : Rule) (s addr x : ℕ) → addr < 2 ^ 32 → ce6_of rule addr x ≡ Some s → IsSource rule s addr (psid_of rule.offset (psid_len rule) x) × (in_set rule.offset (psid_len rule) (psid_of rule.offset (psid_len rule) x) x ≡ true)
unfolding ce6_of
source-ce6 rule s addr x small e =
    let v : ℕ = psid_of rule.offset (psid_len rule) x in
    let told = some-tells ((rule.prefix4.bits / 2 ^ (32 - rule.prefix4.len)) == (addr / 2 ^ (32 - rule.prefix4.len))) (in_set rule.offset (psid_len rule) v x) (rule_address rule addr v) s e in
    (record { four = small; has = test-has rule addr told.0; psid = psid_of-small rule.offset (psid_len rule) x; whole = told.2 }, told.1)

-- a MAP address begins with its rule's prefix
pub address-inside : (rule : Rule) (s addr v : ℕ) → IsSource rule s addr v → SameFirst 128 rule.prefix6.len rule.prefix6.bits s
address-inside rule s addr v is =
    let n : ℕ = rule.prefix6.len in
    let o : ℕ = rule.ea in
    let m : ℕ = rule.prefix6.bits / 2 ^ (128 - n) in
    let front : s / 2 ^ (128 - n - o) ≡ m * 2 ^ o + ea_of rule addr v =
    rw (← is.whole, rule_address-sum rule addr v) (front-part rule.prefix6.bits n o (ea_of rule addr v) addr v (rule-sizes rule addr v is.four is.psid)) in
    let above : s / 2 ^ (128 - n - o) / 2 ^ o ≡ m = rw front (div-mul-add m (2 ^ o) (ea_of rule addr v) (ea_of-small rule addr v is.psid)) in
    let at : 128 - n - o + o ≡ 128 - n = omega (arith, rule.edge_length) in
    sym (ap (λ x. s / 2 ^ x) (sym at) ∙ sym (shr-shr s (128 - n - o) o) ∙ above)

same-rest : (x y z : ℕ) → x + y ≡ x + z → y ≡ z
same-rest x y z e = omega arith

-- two edges that hold the same are one
pub edges-apart : (rule : Rule) (bits len other end : ℕ) → HasEdge rule bits len → HasEdge rule other end → IsClearFrom 128 bits len → IsClearFrom 128 other end → edge_address rule bits ≡ edge_address rule other → edge_psid rule bits ≡ edge_psid rule other → (bits ≡ other) × (len ≡ end)
edges-apart rule bits len other end edge edge' clear clear' same_addr same_psid =
    let k : ℕ = psid_len rule in
    let suffix : ea_bits rule bits / 2 ^ k ≡ ea_bits rule other / 2 ^ k = same-rest rule.prefix4.bits _ _ same_addr in
    let ea : ea_bits rule bits ≡ ea_bits rule other = sym (div-add-mod' (ea_bits rule bits) (2 ^ k)) ∙ rw (suffix, same_psid) (div-add-mod' (ea_bits rule other) (2 ^ k)) in
    let lens : len ≡ end = edge.0 ∙ sym edge'.0 in
    let front : bits / 2 ^ (128 - len) ≡ other / 2 ^ (128 - end) = edge-front rule bits len edge ∙ rw ea (sym (edge-front rule other end edge')) in
    (sym (clear-parts bits (128 - len) clear) ∙ rw (front, lens) (clear-parts other (128 - end) clear'), lens)
