-- What is read of an IPv6 address's text is what it spells, and what it spells is read.
use Rattle.std.proofs.Common.{◌≡◌, ◌≢◌, ℕ, zero, suc, ◌+◌, ◌-◌, ◌*◌, ◌^◌, ◌≤◌, ◌<◌, true, false, cond, ltb, List, [], ◌∷◌, ◌++◌, length, get_or, Option, Some, None, refl, sym, ap, subst, ◌∙◌, arith, inl, inr}
use Rattle.std.specs.Prelude.{◌==◌}
use Rattle.std.proofs.lemmas.Bool.{eqb-true, eq-eqb, ltb-false, le-ltb}
use Rattle.std.proofs.lemmas.List.{nil_from_length}
use Rattle.std.specs.Char.{digit_value}
use Rattle.octets.specs.Numeral.{◌>>=◌, colon, slash, cut_at, numeral_at, or_else}
use Rattle.octets.specs.Text6.{IsGroup, AreGroups, AreSomeGroups, number_from, number_of_groups, IsWhole, IsShortened, IsText6, gap_at, groups_from, part_at, around_gap, whole_at, addr6_at}
use Rattle.octets.proofs.Cuts.{Lacks, CutTells, cut_tells, cut_at-append, cut_at-none, not_equal, lacks_cons, lacks_append}
use Rattle.octets.proofs.Numerals.{either, some_behind, digit_in, numeral_tells, numeral_again}
use Rattle.octets.proofs.GroupNumbers.{number_round_gap}
use Rattle.octets.proofs.Gaps.{IsSolid, GapTells, gap_tells, solid_has_none, solid_then_gap}

-- ---- groups

-- no digit is such an octet
group_without : (octet : ℕ) (text : List ℕ) (g : ℕ) → 16 ≤ digit_value octet → IsGroup text g → Lacks octet text
group_without octet text g high h i within e =
    let digit = digit_in 16 text i h.digits.1 within in
    let same : digit_value (get_or text i 0) ≡ digit_value octet = ap digit_value e in
    omega (arith, digit, same)

group_lacks : (text : List ℕ) (g : ℕ) → IsGroup text g → Lacks colon text
group_lacks text g h = group_without colon text g (omega arith) h

-- a colon stands in no group
pub groups_again : (room count n : ℕ) (text : List ℕ) (gs : List ℕ) → AreGroups text gs → length gs ≤ room → groups_from room count n text ≡ Some (count + length gs, number_from n gs)
unfolding groups_from
groups_again room count n text [] h le = absurd h
groups_again zero count n text (g ∷ gs) h le = absurd (omega arith)
groups_again (suc room) count n text (g ∷ []) h le =
    rw (cut_at-none colon text (group_lacks text g h), numeral_again 16 g text h) refl
groups_again (suc room) count n text (g ∷ k ∷ gs) h le =
    let first = h.0 in
    let rest = h.1 in
    let cut = cut_at-append colon first rest (group_lacks first g h.3) in
    let ih = groups_again room (count + 1) (n * 65536 + g) rest (k ∷ gs) h.4 (omega arith) in
    let sum : (count + 1) + suc (length gs) ≡ count + suc (suc (length gs)) = omega arith in
    rw (h.2, cut, numeral_again 16 g first h.3) (ih ∙ ap (λ (x : ℕ). Some (x, number_from (n * 65536 + g) (k ∷ gs))) sum)

-- what was read of groups
pub record AreRead (room count n : ℕ) (text : List ℕ) (found : ℕ × ℕ) : Type 0 where
  pub groups : List ℕ
  pub spelled : AreGroups text groups
  pub few : length groups ≤ room
  pub count_is : found.0 ≡ count + length groups
  pub number_is : found.1 ≡ number_from n groups

groups_more : (room count n g : ℕ) (text first rest : List ℕ) (found : ℕ × ℕ) → text ≡ first ++ colon ∷ rest → IsGroup first g → AreRead room (count + 1) (n * 65536 + g) rest found → AreRead (suc room) count n text found
groups_more room count n g text first rest found parts is r = spread r.groups r.spelled r.few r.count_is r.number_is
  where
    spread : (gs : List ℕ) → AreGroups rest gs → length gs ≤ room → found.0 ≡ (count + 1) + length gs → found.1 ≡ number_from (n * 65536 + g) gs → AreRead (suc room) count n text found
    spread [] h few c v = absurd h
    spread (k ∷ gs) h few c v = record {
      groups = g ∷ k ∷ gs;
      spelled = (first, rest, parts, is, h);
      few = omega arith;
      count_is = omega (arith, c);
      number_is = v;
    }

abbrev both : ℕ × ℕ → Option (ℕ × ℕ)
both p = Some p

both_are : (p q : ℕ × ℕ) → both p ≡ both q → (q.0 ≡ p.0) × (q.1 ≡ p.1)
both_are p q e = let f : p ≡ q = cc in (ap (λ (x : ℕ × ℕ). x.0) (sym f), ap (λ (x : ℕ × ℕ). x.1) (sym f))

last_found : (room count n : ℕ) (text : List ℕ) (found : ℕ × ℕ) → (numeral_at 16 text >>= λ g. both (count + 1, n * 65536 + g)) ≡ both found → AreRead (suc room) count n text found
last_found room count n text found e =
    let b = some_behind (numeral_at 16 text) (λ g. both (count + 1, n * 65536 + g)) found e in
    let p = both_are (count + 1, n * 65536 + b.0) found b.2 in
    record {
      groups = b.0 ∷ [];
      spelled = numeral_tells 16 b.0 text b.1;
      few = omega arith;
      count_is = p.0;
      number_is = p.1;
    }

pub groups_found : (room count n : ℕ) (text : List ℕ) (found : ℕ × ℕ) → groups_from room count n text ≡ both found → AreRead room count n text found
unfolding groups_from CutTells
groups_found zero count n text found e = absurd cc
groups_found (suc room) count n text found e =
    elim (cut_at colon text) as (λ o. CutTells colon text o → or_else o (numeral_at 16 text >>= λ g. both (count + 1, n * 65536 + g)) (λ parts. numeral_at 16 parts.0 >>= λ g. groups_from room (count + 1) (n * 65536 + g) parts.1) ≡ both found → AreRead (suc room) count n text found) [
      | None ↦ λ t f. last_found room count n text found f
      | Some parts ↦ λ t f.
          let b = some_behind (numeral_at 16 parts.0) (λ g. groups_from room (count + 1) (n * 65536 + g) parts.1) found f in
          groups_more room count n b.0 text parts.0 parts.1 found t.0 (numeral_tells 16 b.0 parts.0 b.1) (groups_found room (count + 1) (n * 65536 + b.0) parts.1 found b.2)
    ] (cut_tells colon text) e

-- ---- groups have no gap

lacks_solid : (text : List ℕ) → Lacks colon text → IsSolid text
unfolding IsSolid
lacks_solid [] h = tt
lacks_solid (c ∷ []) h = h 0 (omega arith)
lacks_solid (c ∷ d ∷ cs) h = (λ p q. h 0 (omega arith) p, lacks_solid (d ∷ cs) (λ i lt. h (suc i) (omega arith)))

solid_join : (first : List ℕ) (r : ℕ) (rs : List ℕ) → 0 < length first → Lacks colon first → r ≢ 58 → IsSolid (r ∷ rs) → IsSolid (first ++ colon ∷ r ∷ rs)
unfolding IsSolid
solid_join [] r rs full h other solid = absurd (omega arith)
solid_join (c ∷ []) r rs full h other solid = (λ p q. h 0 (omega arith) p, (λ p q. other q, solid))
solid_join (c ∷ d ∷ cs) r rs full h other solid =
    (λ p q. h 0 (omega arith) p, solid_join (d ∷ cs) r rs (omega arith) (λ i lt. h (suc i) (omega arith)) other solid)

-- groups begin with a digit
pub record AreSolid (text : List ℕ) : Type 0 where
  pub head : ℕ
  pub tail : List ℕ
  pub parts : text ≡ head ∷ tail
  pub other : head ≢ 58
  pub solid : IsSolid text

begins : (text : List ℕ) → 0 < length text → Lacks colon text → AreSolid text
begins [] full h = absurd (omega arith)
begins (c ∷ cs) full h = record { head = c; tail = cs; parts = refl; other = h 0 (omega arith); solid = lacks_solid (c ∷ cs) h }

first_joins : (first rest : List ℕ) → AreSolid first → Lacks colon first → AreSolid rest → AreSolid (first ++ colon ∷ rest)
first_joins first rest f h r = record {
  head = f.head;
  tail = f.tail ++ colon ∷ rest;
  parts = ap (λ (xs : List ℕ). xs ++ colon ∷ rest) f.parts;
  other = f.other;
  solid = subst (λ (xs : List ℕ). IsSolid (first ++ colon ∷ xs)) (sym r.parts) (solid_join first r.head r.tail (omega (arith, ap length f.parts)) h r.other (subst (λ (xs : List ℕ). IsSolid xs) r.parts r.solid));
}

pub groups_solid : (text : List ℕ) (gs : List ℕ) → AreGroups text gs → AreSolid text
groups_solid text [] h = absurd h
groups_solid text (g ∷ []) h = begins text h.digits.0 (group_lacks text g h)
groups_solid text (g ∷ k ∷ gs) h =
    let lacks = group_lacks h.0 g h.3 in
    let joined = first_joins h.0 h.1 (begins h.0 h.3.digits.0 lacks) lacks (groups_solid h.1 (k ∷ gs) h.4) in
    subst (λ (xs : List ℕ). AreSolid xs) (sym h.2) joined

some_solid : (text : List ℕ) (gs : List ℕ) → AreSomeGroups text gs → IsSolid text
unfolding IsSolid
some_solid text gs (inl none) = subst (λ (xs : List ℕ). IsSolid xs) (sym none.0) tt
some_solid text gs (inr h) = (groups_solid text gs h).solid

-- ---- a whole address

abbrev some : ℕ → Option ℕ
some n = Some n

some_is : (m n : ℕ) → some m ≡ some n → n ≡ m
some_is m n e = cc

whole_again : (text : List ℕ) (gs : List ℕ) (n : ℕ) → AreGroups text gs → length gs ≡ 8 → n ≡ number_of_groups gs → whole_at text ≡ some n
unfolding whole_at
whole_again text gs n h eight v =
    let all : (0 + length gs == 8) ≡ true = eq-eqb (0 + length gs) 8 (omega (arith, eight)) in
    rw (groups_again 8 0 0 text gs h (omega (arith, eight)), all) (ap (λ (x : ℕ). some x) (sym v))

whole_found : (text : List ℕ) (n : ℕ) → whole_at text ≡ some n → IsWhole text n
unfolding whole_at
whole_found text n e =
    let b = some_behind (groups_from 8 0 0 text) (λ found. cond (found.0 == 8) (some found.1) None) n e in
    let r = groups_found 8 0 0 text b.0 b.1 in
    elim (either (b.0.0 == 8)) [
      | inl t ↦
          let f : some b.0.1 ≡ some n = rw t at b.2 in
          let eight : b.0.0 ≡ 8 = eqb-true b.0.0 8 t in
          record { groups = r.groups; count = omega (arith, eight, r.count_is); spelled = r.spelled; value = some_is b.0.1 n f ∙ r.number_is }
      | inr t ↦ absurd (let f : None ≡ some n = rw t at b.2 in cc)
    ]

-- ---- an address round a gap

part_again : (text : List ℕ) (gs : List ℕ) → AreSomeGroups text gs → length gs ≤ 8 → part_at text ≡ both (length gs, number_of_groups gs)
unfolding part_at
part_again text gs (inl none) le = rw (none.0, none.1) refl
part_again text gs (inr h) le =
    let s = groups_solid text gs h in
    let full : length text ≢ 0 = omega (arith, ap length s.parts) in
    let count : 0 + length gs ≡ length gs = omega arith in
    rw (not_equal (length text) 0 full) (groups_again 8 0 0 text gs h le ∙ ap (λ (x : ℕ). both (x, number_of_groups gs)) count)

-- what was read beside a gap
record ArePart (text : List ℕ) (found : ℕ × ℕ) : Type 0 where
  groups : List ℕ
  spelled : AreSomeGroups text groups
  count_is : found.0 ≡ length groups
  number_is : found.1 ≡ number_of_groups groups

part_found : (text : List ℕ) (found : ℕ × ℕ) → part_at text ≡ both found → ArePart text found
unfolding part_at
part_found text found e =
    elim (either (length text == 0)) [
      | inl t ↦
          let f : both (0, 0) ≡ both found = rw t at e in
          let p = both_are (0, 0) found f in
          record { groups = []; spelled = inl (nil_from_length text (eqb-true (length text) 0 t), refl); count_is = p.0; number_is = p.1 }
      | inr t ↦
          let f : groups_from 8 0 0 text ≡ both found = rw t at e in
          let r = groups_found 8 0 0 text found f in
          record { groups = r.groups; spelled = inr r.spelled; count_is = omega (arith, r.count_is); number_is = r.number_is }
    ]

round_again : (text : List ℕ) (n : ℕ) (h : IsShortened text n) → (part_at h.left >>= λ left. part_at h.right >>= λ right. around_gap left right) ≡ some n
round_again text n h =
    let few : ltb 7 (length h.first_groups + length h.last_groups) ≡ false = le-ltb 7 (length h.first_groups + length h.last_groups) h.count in
    rw (part_again h.left h.first_groups h.left_is (omega (arith, h.count)), part_again h.right h.last_groups h.right_is (omega (arith, h.count)), few) (ap (λ (x : ℕ). some x) (sym (h.value ∙ number_round_gap h.first_groups h.last_groups h.count)))

around_tells : (left right : ℕ × ℕ) (n : ℕ) → around_gap left right ≡ some n → (left.0 + right.0 ≤ 7) × (n ≡ left.1 * 2 ^ (16 * (8 - left.0)) + right.1)
around_tells left right n e =
    elim (either (ltb 7 (left.0 + right.0))) [
      | inl t ↦ absurd (let f : None ≡ some n = rw t at e in cc)
      | inr t ↦
          let f : some (left.1 * 2 ^ (16 * (8 - left.0)) + right.1) ≡ some n = rw t at e in
          (ltb-false 7 (left.0 + right.0) t, some_is (left.1 * 2 ^ (16 * (8 - left.0)) + right.1) n f)
    ]

shortened_from : (text left right : List ℕ) (n : ℕ) (a b : ℕ × ℕ) → text ≡ left ++ colon ∷ colon ∷ right → ArePart left a → ArePart right b → around_gap a b ≡ some n → IsShortened text n
shortened_from text left right n a b parts l r e =
    let t = around_tells a b n e in
    let few : length l.groups + length r.groups ≤ 7 = omega (arith, t.0, l.count_is, r.count_is) in
    let value : n ≡ number_of_groups l.groups * 2 ^ (16 * (8 - length l.groups)) + number_of_groups r.groups = t.1 ∙ rw (l.count_is, l.number_is, r.number_is) refl in
    record {
      left = left;
      right = right;
      parts = parts;
      first_groups = l.groups;
      last_groups = r.groups;
      left_is = l.spelled;
      right_is = r.spelled;
      count = few;
      value = value ∙ sym (number_round_gap l.groups r.groups few);
    }

-- ---- any address

pub addr6_again : (text : List ℕ) (n : ℕ) → IsText6 text n → addr6_at text ≡ some n
unfolding addr6_at
addr6_again text n (inl h) =
    rw (solid_has_none text (groups_solid text h.groups h.spelled).solid) (whole_again text h.groups n h.spelled h.count h.value)
addr6_again text n (inr h) =
    let gap : gap_at text ≡ Some (h.left, h.right) = ap gap_at h.parts ∙ solid_then_gap h.left h.right (some_solid h.left h.first_groups h.left_is) in
    rw gap (round_again text n h)

pub addr6_found : (text : List ℕ) (n : ℕ) → addr6_at text ≡ some n → IsText6 text n
unfolding addr6_at GapTells
addr6_found text n e =
    elim (gap_at text) as (λ o. GapTells text o → or_else o (whole_at text) (λ parts. part_at parts.0 >>= λ left. part_at parts.1 >>= λ right. around_gap left right) ≡ some n → IsText6 text n) [
      | None ↦ λ t f. inl (whole_found text n f)
      | Some parts ↦ λ t f.
          let a = some_behind (part_at parts.0) (λ left. part_at parts.1 >>= λ right. around_gap left right) n f in
          let b = some_behind (part_at parts.1) (λ right. around_gap a.0 right) n a.2 in
          inr (shortened_from text parts.0 parts.1 n a.0 b.0 t (part_found parts.0 a.0 a.1) (part_found parts.1 b.0 b.1) b.2)
    ] (gap_tells text) e

-- no slash stands in an address
groups_no_slash : (text : List ℕ) (gs : List ℕ) → AreGroups text gs → Lacks slash text
groups_no_slash text [] h = absurd h
groups_no_slash text (g ∷ []) h = group_without slash text g (omega arith) h
groups_no_slash text (g ∷ k ∷ gs) h =
    let first = group_without slash h.0 g (omega arith) h.3 in
    let rest = lacks_cons slash colon h.1 (omega arith) (groups_no_slash h.1 (k ∷ gs) h.4) in
    subst (λ (xs : List ℕ). Lacks slash xs) (sym h.2) (lacks_append slash h.0 (colon ∷ h.1) first rest)

some_no_slash : (text : List ℕ) (gs : List ℕ) → AreSomeGroups text gs → Lacks slash text
some_no_slash text gs (inl none) = λ i lt. absurd (omega (arith, ap length none.0))
some_no_slash text gs (inr h) = groups_no_slash text gs h

pub no_slash6 : (text : List ℕ) (n : ℕ) → IsText6 text n → Lacks slash text
no_slash6 text n (inl h) = groups_no_slash text h.groups h.spelled
no_slash6 text n (inr h) =
    let right = lacks_cons slash colon (colon ∷ h.right) (omega arith) (lacks_cons slash colon h.right (omega arith) (some_no_slash h.right h.last_groups h.right_is)) in
    subst (λ (xs : List ℕ). Lacks slash xs) (sym h.parts) (lacks_append slash h.left (colon ∷ colon ∷ h.right) (some_no_slash h.left h.first_groups h.left_is) right)
