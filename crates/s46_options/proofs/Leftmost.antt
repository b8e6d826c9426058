-- Faults stand in the order of their places.
use Rattle.std.proofs.Common.{◌≡◌, ℕ, zero, suc, ◌+◌, ◌-◌, ◌*◌, ◌/◌, ◌%◌, ◌^◌, ◌<◌, ◌≤◌, Bool, true, false, cond, leb, ltb, eqb, List, [], ◌∷◌, ◌++◌, length, get_or, take, drop, replicate, Some, None, refl, sym, ap, ◌∙◌, subst, arith, inl, inr, ◌&&◌, not, append_assoc, length-append, pow-add}
use Rattle.std.specs.List.{All, list_any, count_by}
use Rattle.std.proofs.Math.Nat.{mod-lt, div-add-mod', dvd-mul_left, mod-mod_of_dvd, mul-add-mod_self_right, mod-eq_of_lt, one-le-pow, mul_assoc}
use Rattle.std.proofs.lemmas.Bool.{cases_Bool, cases_lt, eqb-true, leb-true, ltb-true, ltb-false}
use Rattle.std.proofs.lemmas.List.{append-nil, length-drop, length-take-le}
use Rattle.byteorder.specs.Endian.{big_from}
use Rattle.byteorder.specs.Numbers.{big_from-cons}
use Rattle.byteorder.proofs.Bytes.{big_from-zeros}
use Rattle.octets.specs.Field.{octet, word, quad, sixteen, part}
use Rattle.s46_options.specs.declared.fault.OptionFault.{OptionFault}
use Rattle.s46_options.specs.declared.fault.OptionFault.TheVariants.{Short, NotMapt, BadLength, Reserved, BadPrefixLen, Padding, SecondParams, SecondDmr, TooManyRules, NoRule, NoDmr}
use Rattle.s46_options.specs.Options.{DhcpOption, spelled, spelled_all, Cut, cut, cut_most, starts_whole, first_option}
use Rattle.s46_options.specs.Items.{octets_for}
use Rattle.s46_options.specs.Digits.{fault_place}
use Rattle.s46_options.specs.Faults.{when, over, padding, zero_octets, prefix_number, has_code, place_behind, leaves_over, left_over, Judge, too_long, each_faults, all_faults, params_faults, sub_faults, sub_faults_beside, sub_judge, field_faults, rule_end, subs_of, body_faults, rule_faults, dmr_faults, item_faults, item_faults_beside, item_judge, missing, inside_faults, faults, fault_of, first}
use Rattle.s46_options.proofs.Cuts.{whole_len, cut_stops, cut_goes}
use Rattle.s46_options.proofs.Zeros.{in_bits}

-- faults of a text of n octets, each at a place from lo to hi, and none before the one that stands before it
abbrev pub Spans : ℕ → ℕ → ℕ → List OptionFault → Type 0
Spans n lo hi [] = lo ≤ hi
Spans n lo hi (f ∷ fs) = (lo ≤ fault_place f n) × Spans n (fault_place f n) hi fs

spans_le : (n lo hi : ℕ) (fs : List OptionFault) → Spans n lo hi fs → lo ≤ hi
spans_le n lo hi [] h = h
spans_le n lo hi (f ∷ fs) h = omega (arith, h.0, spans_le n (fault_place f n) hi fs h.1)

spans_from : (n lo low hi : ℕ) (fs : List OptionFault) → low ≤ lo → Spans n lo hi fs → Spans n low hi fs
spans_from n lo low hi [] le h = omega (arith, le, h)
spans_from n lo low hi (f ∷ fs) le h = (omega (arith, le, h.0), h.1)

spans_to : (n lo hi high : ℕ) (fs : List OptionFault) → hi ≤ high → Spans n lo hi fs → Spans n lo high fs
spans_to n lo hi high [] le h = omega (arith, le, h)
spans_to n lo hi high (f ∷ fs) le h = (h.0, spans_to n (fault_place f n) hi high fs le h.1)

spans_join : (n lo mid hi : ℕ) (fs gs : List OptionFault) → Spans n lo mid fs → Spans n mid hi gs → Spans n lo hi (fs ++ gs)
spans_join n lo mid hi [] gs h g = spans_from n mid lo hi gs h g
spans_join n lo mid hi (f ∷ fs) gs h g = (h.0, spans_join n (fault_place f n) mid hi fs gs h.1 g)

spans_one : (n lo hi : ℕ) (f : OptionFault) → lo ≤ fault_place f n → fault_place f n ≤ hi → Spans n lo hi (f ∷ [])
spans_one n lo hi f least most = (least, most)

spans_when : (n lo hi : ℕ) (b : Bool) (f : OptionFault) → lo ≤ hi → lo ≤ fault_place f n → (b ≡ true → fault_place f n ≤ hi) → Spans n lo hi (when b f)
spans_when n lo hi true f h least most = (least, most refl)
spans_when n lo hi false f h least most = h

spans_cond : (n lo hi : ℕ) (b : Bool) (fs gs : List OptionFault) → (b ≡ true → Spans n lo hi fs) → (b ≡ false → Spans n lo hi gs) → Spans n lo hi (cond b fs gs)
spans_cond n lo hi true fs gs h g = h refl
spans_cond n lo hi false fs gs h g = g refl

-- ---- the first octet that isn't 0

zeros_most : (count number : ℕ) → zero_octets count number ≤ count
zeros_most zero number = omega arith
zeros_most (suc count) number =
    elim (cases_Bool (eqb (number / 2 ^ (8 * count)) 0)) [
      | inl e ↦ rw e (omega (arith, zeros_most count number))
      | inr e ↦ rw e (omega arith)
    ]

no_part : (number p : ℕ) → 0 < p → number / p ≡ 0 → number < p
no_part number p some none =
    let whole = div-add-mod' number p in
    let rest = mod-lt number some in
    let nothing : number / p * p ≡ 0 * p = ap (λ (k : ℕ). k * p) none in
    omega (arith, whole, rest, nothing)

zeros_few : (count behind number : ℕ) → behind < count → 2 ^ (8 * behind) ≤ number → zero_octets count number + behind < count
zeros_few zero behind number lt big = absurd (omega (arith, lt))
zeros_few (suc count) behind number lt big =
    elim (cases_Bool (eqb (number / 2 ^ (8 * count)) 0)) [
      | inl e ↦
          elim (cases_lt behind count) [
            | inl less ↦ rw e (omega (arith, zeros_few count behind number less big))
            | inr more ↦
                let same : behind ≡ count = omega (arith, more, lt) in
                let some : 0 < 2 ^ (8 * count) = omega (arith, one-le-pow (8 * count) 2 (omega arith)) in
                let small = no_part number (2 ^ (8 * count)) some (eqb-true (number / 2 ^ (8 * count)) 0 e) in
                let large : 2 ^ (8 * count) ≤ number = rw (← same) big in
                absurd (omega (arith, small, large))
          ]
      | inr e ↦ rw e (omega (arith, lt))
    ]

zeros_behind : (octets : List ℕ) (j : ℕ) → big_from 0 (length octets + j) (octets ++ replicate j 0) % 256 ^ j ≡ 0
zeros_behind [] j =
    ap (λ (k : ℕ). big_from 0 k (replicate j 0) % 256 ^ j) (let k : length {A = ℕ} [] + j ≡ j = omega arith in k)
    ∙ ap (λ (xs : List ℕ). big_from 0 j xs % 256 ^ j) (sym (append-nil (replicate j 0)))
    ∙ ap (λ (k : ℕ). k % 256 ^ j) (big_from-zeros j 0 j [] (omega arith))
    ∙ mod-eq_of_lt (omega (arith, one-le-pow j 256 (omega arith)))
zeros_behind (x ∷ xs) j =
    let n = length xs + j in
    let rest = big_from 0 n (xs ++ replicate j 0) in
    let high : x * 256 ^ n ≡ x * 256 ^ length xs * 256 ^ j = ap (λ (k : ℕ). x * k) (pow-add 256 (length xs) j) ∙ sym (mul_assoc x (256 ^ length xs) (256 ^ j)) in
    let number : x * 256 ^ n + big_from 1 n (x ∷ (xs ++ replicate j 0)) ≡ x * 256 ^ length xs * 256 ^ j + rest = ap (λ (k : ℕ). k + big_from 1 n (x ∷ (xs ++ replicate j 0))) high ∙ ap (λ (k : ℕ). x * 256 ^ length xs * 256 ^ j + k) (big_from-cons 0 n x (xs ++ replicate j 0)) in
    ap (λ (k : ℕ). big_from 0 k (x ∷ (xs ++ replicate j 0)) % 256 ^ j) (let k : length (x ∷ xs) + j ≡ suc n = omega arith in k)
    ∙ ap (λ (k : ℕ). k % 256 ^ j) number ∙ mul-add-mod_self_right (x * 256 ^ length xs) (256 ^ j) rest ∙ zeros_behind xs j

-- bits past a prefix stand in the octets that hold it
past_high : (octets : List ℕ) (len : ℕ) → length octets ≡ octets_for len → len ≤ 128 → 0 < prefix_number octets % 2 ^ (128 - len) → 2 ^ (8 * (16 - octets_for len)) ≤ prefix_number octets % 2 ^ (128 - len)
unfolding prefix_number
past_high octets len own most some =
    let j = 16 - octets_for len in
    let p = 2 ^ (8 * j) in
    let e = 128 - len - 8 * j in
    let number = sixteen (octets ++ replicate (16 - length octets) 0) 0 in
    let r = number % 2 ^ (128 - len) in
    let number_is : big_from 0 (length octets + j) (octets ++ replicate j 0) ≡ number = ap (λ (k : ℕ). big_from 0 (length octets + k) (octets ++ replicate k 0)) (let k : j ≡ 16 - length octets = omega (arith, own) in k) ∙ ap (λ (k : ℕ). big_from 0 k (octets ++ replicate (16 - length octets) 0)) (let k : length octets + (16 - length octets) ≡ 16 = omega (arith, own, most) in k) in
    let clear : number % p ≡ 0 = ap (λ (k : ℕ). number % k) (in_bits j) ∙ ap (λ (k : ℕ). k % 256 ^ j) (sym number_is) ∙ zeros_behind octets j in
    let modulus : 2 ^ e * p ≡ 2 ^ (128 - len) = sym (pow-add 2 e (8 * j)) ∙ ap (λ (k : ℕ). 2 ^ k) (let k : e + 8 * j ≡ 128 - len = omega (arith, most) in k) in
    let rest : r % p ≡ 0 = ap (λ (k : ℕ). number % k % p) (sym modulus) ∙ mod-mod_of_dvd p number (dvd-mul_left p (2 ^ e)) ∙ clear in
    elim (cases_lt r p) [
      | inl less ↦ absurd (let same = mod-eq_of_lt less in omega (arith, same, rest, some))
      | inr more ↦ more
    ]

spans_padding : (n lo hi at count number len : ℕ) → lo ≤ at → at + count ≤ hi → Spans n lo hi (padding at count number len)
spans_padding n lo hi at count number len least most =
    let past = number % 2 ^ (8 * count - len) in
    let few = zeros_most count past in
    spans_when n lo hi (ltb 0 past) (Padding (at + zero_octets count past)) (omega (arith, least, most)) (omega (arith, least)) (λ e. omega (arith, few, most))

-- padding of a prefix in the least number of octets ends before these do
spans_prefix : (n at : ℕ) (octets : List ℕ) (len : ℕ) → length octets ≡ octets_for len → len ≤ 128 → Spans n at (at + octets_for len) (padding at 16 (prefix_number octets) len)
spans_prefix n at octets len own most =
    let past = prefix_number octets % 2 ^ (128 - len) in
    spans_when n at (at + octets_for len) (ltb 0 past) (Padding (at + zero_octets 16 past)) (omega arith) (omega arith) (λ e.
    let some : 0 < past = ltb-true 0 past e in
    let j = 16 - octets_for len in
    let inside : j < 16 = elim (cases_lt j 16) [
      | inl less ↦ less
      | inr more ↦
          let big = past_high octets len own most some in
          let small = mod-lt (prefix_number octets) (let k : 0 < 2 ^ (128 - len) = omega (arith, one-le-pow (128 - len) 2 (omega arith)) in k) in
          let all : 2 ^ (8 * j) ≡ 2 ^ (128 - len) = ap (λ (k : ℕ). 2 ^ k) (let k : 8 * j ≡ 128 - len = omega (arith, more) in k) in
          absurd (omega (arith, big, small, all))
    ] in
    let few = zeros_few 16 j past inside (past_high octets len own most some) in
    omega (arith, few, most))

-- ---- options one after another

abbrev JudgedWithin : ℕ → (ℕ → List DhcpOption → DhcpOption → List OptionFault) → Type 0
JudgedWithin n judge = (p : ℕ) (earlier : List DhcpOption) (o : DhcpOption) → Spans n p (p + (4 + length o.octets)) (judge p earlier o)

abbrev BegunAt : ℕ → Judge → Type 0
BegunAt n judge = (p : ℕ) (earlier : List DhcpOption) (code : ℕ) → Spans n p p (judge.begun p earlier code)

spelled_push : (os : List DhcpOption) (o : DhcpOption) → length (spelled_all (os ++ o ∷ [])) ≡ length (spelled_all os) + (4 + length o.octets)
spelled_push [] o = omega (arith, length-append (spelled o) [])
spelled_push (x ∷ xs) o = omega (arith, length-append (spelled x) (spelled_all (xs ++ o ∷ [])), length-append (spelled x) (spelled_all xs), spelled_push xs o)

each_span : (n : ℕ) (judge : ℕ → List DhcpOption → DhcpOption → List OptionFault) (at : ℕ) → JudgedWithin n judge → (earlier options : List DhcpOption) → Spans n (place_behind at earlier) (place_behind at (earlier ++ options)) (each_faults judge at earlier options)
each_span n judge at one earlier [] = omega (arith, ap (λ (os : List DhcpOption). length (spelled_all os)) (append-nil earlier))
each_span n judge at one earlier (o ∷ os) =
    let here = place_behind at earlier in
    let next = place_behind at (earlier ++ o ∷ []) in
    let end = place_behind at (earlier ++ o ∷ os) in
    let joined : (earlier ++ o ∷ []) ++ os ≡ earlier ++ o ∷ os = append_assoc earlier (o ∷ []) os in
    let first_one : Spans n here next (judge here earlier o) = spans_to n here (here + (4 + length o.octets)) next (judge here earlier o) (omega (arith, spelled_push earlier o)) (one here earlier o) in
    let others : Spans n next end (each_faults judge at (earlier ++ o ∷ []) os) = subst (λ (xs : List DhcpOption). Spans n next (place_behind at xs) (each_faults judge at (earlier ++ o ∷ []) os)) joined (each_span n judge at one (earlier ++ o ∷ []) os) in
    spans_join n here next end (judge here earlier o) (each_faults judge at (earlier ++ o ∷ []) os) first_one others

long_span : (n : ℕ) (judge : Judge) (p : ℕ) (earlier : List DhcpOption) (left : List ℕ) → BegunAt n judge → Spans n p (p + length left) (too_long judge p earlier left)
long_span n judge p earlier left begun =
    let long = judge.begun p earlier (word left 0) in
    spans_cond n p (p + length left) (leb 4 (length left)) (long ++ BadLength (p + 2) ∷ []) [] (λ e.
    let some = leb-true 4 (length left) e in
    spans_join n p p (p + length left) long (BadLength (p + 2) ∷ []) (begun p earlier (word left 0)) (spans_one n p (p + length left) (BadLength (p + 2)) (let k : p ≤ p + 2 = omega arith in k) (let k : p + 2 ≤ p + length left = omega (arith, some) in k)))
    (λ e. omega arith)

all_span : (n : ℕ) (judge : Judge) (at : ℕ) (parts : Cut) → JudgedWithin n judge.whole → BegunAt n judge → Spans n at (at + (length (spelled_all parts.options) + length parts.left)) (all_faults judge at parts)
all_span n judge at parts one begun =
    let end = place_behind at parts.options in
    let hi = at + (length (spelled_all parts.options) + length parts.left) in
    let all : Spans n at end (each_faults judge.whole at [] parts.options) = spans_from n (place_behind at []) at end (each_faults judge.whole at [] parts.options) (omega arith) (each_span n judge.whole at one [] parts.options) in
    let last : Spans n end hi (too_long judge end parts.options parts.left) = spans_to n end (end + length parts.left) hi (too_long judge end parts.options parts.left) (omega arith) (long_span n judge end parts.options parts.left begun) in
    spans_join n at end hi (each_faults judge.whole at [] parts.options) (too_long judge end parts.options parts.left) all last

zero_size : (octets : List ℕ) → length (spelled_all (cut_most 0 octets).options) + length (cut_most 0 octets).left ≡ length octets
unfolding cut_most
zero_size octets = let e : 0 + length octets ≡ length octets = omega arith in e

-- as long as the octets that were cut
cut_size : (most : ℕ) (octets : List ℕ) → length (spelled_all (cut_most most octets).options) + length (cut_most most octets).left ≡ length octets
cut_size zero octets = zero_size octets
cut_size (suc most) octets =
    elim (cases_Bool (starts_whole octets)) [
      | inl w ↦
          let both = whole_len octets w in
          let size = word octets 2 in
          let rest = drop (4 + size) octets in
          let parts = cut_most most rest in
          let own : length (take size (drop 4 octets)) ≡ size = length-take-le size (drop 4 octets) (omega (arith, length-drop 4 octets, both.0, both.1)) in
          let head : length (spelled (first_option octets)) ≡ 4 + size = omega (arith, own) in
          let split : length (spelled_all (first_option octets ∷ parts.options)) ≡ length (spelled (first_option octets)) + length (spelled_all parts.options) = length-append (spelled (first_option octets)) (spelled_all parts.options) in
          ap (λ (p : Cut). length (spelled_all p.options) + length p.left) (cut_goes most octets w) ∙ omega (arith, split, head, cut_size most rest, length-drop (4 + size) octets, both.1)
      | inr w ↦ ap (λ (p : Cut). length (spelled_all p.options) + length p.left) (cut_stops (suc most) octets w) ∙ (let e : 0 + length octets ≡ length octets = omega arith in e)
    ]

-- ---- an option inside of a rule

params_span : (n p : ℕ) (octets : List ℕ) → Spans n p (p + (4 + length octets)) (params_faults p octets)
params_span n p octets =
    let hi = p + (4 + length octets) in
    let one = over (p + 4) 15 (octet octets 0) in
    let two = over (p + 5) 16 (octet octets 1) in
    let three = padding (p + 6) 2 (word octets 2) (octet octets 1) in
    spans_cond n p hi (eqb (length octets) 4) (one ++ (two ++ three)) (BadLength (p + 2) ∷ []) (λ e.
    let size = eqb-true (length octets) 4 e in
    spans_join n p (p + 4) hi one (two ++ three) (spans_when n p (p + 4) (ltb 15 (octet octets 0)) (BadPrefixLen (p + 4)) (omega arith) (let k : p ≤ p + 4 = omega arith in k) (λ t. let k : p + 4 ≤ p + 4 = omega arith in k))
    (spans_join n (p + 4) (p + 5) hi two three (spans_when n (p + 4) (p + 5) (ltb 16 (octet octets 1)) (BadPrefixLen (p + 5)) (omega arith) (let k : p + 4 ≤ p + 5 = omega arith in k) (λ t. let k : p + 5 ≤ p + 5 = omega arith in k))
    (spans_padding n (p + 5) hi (p + 6) 2 (word octets 2) (octet octets 1) (omega arith) (omega (arith, size)))))
    (λ e. spans_one n p hi (BadLength (p + 2)) (let k : p ≤ p + 2 = omega arith in k) (let k : p + 2 ≤ p + (4 + length octets) = omega arith in k))

sub_span : (n : ℕ) → JudgedWithin n sub_faults
unfolding sub_faults_beside
sub_span n p earlier o =
    let second = list_any (has_code 93) earlier in
    let hi = p + (4 + length o.octets) in
    spans_cond n p hi (eqb o.code 93) (when second (SecondParams p) ++ params_faults p o.octets) [] (λ e.
    spans_join n p p hi (when second (SecondParams p)) (params_faults p o.octets) (spans_when n p p second (SecondParams p) (omega arith) (let k : p ≤ p = omega arith in k) (λ t. let k : p ≤ p = omega arith in k)) (params_span n p o.octets))
    (λ e. omega arith)

begun_sub_span : (n : ℕ) → BegunAt n sub_judge
begun_sub_span n p earlier code = spans_when n p p (eqb code 93 && list_any (has_code 93) earlier) (SecondParams p) (omega arith) (let k : p ≤ p = omega arith in k) (λ t. let k : p ≤ p = omega arith in k)

-- ---- an option inside of the container

fields_span : (n p : ℕ) (octets : List ℕ) → Spans n (p + 2) (p + 11) (field_faults p octets)
unfolding field_faults
fields_span n p octets =
    let one = when (ltb 1 (octet octets 0)) (Reserved (p + 4)) in
    let two = over (p + 5) 48 (octet octets 1) in
    let three = over (p + 6) 32 (octet octets 2) in
    let four = padding (p + 7) 4 (quad octets 3) (octet octets 2) in
    spans_join n (p + 2) (p + 4) (p + 11) one (two ++ (three ++ four)) (spans_when n (p + 2) (p + 4) (ltb 1 (octet octets 0)) (Reserved (p + 4)) (omega arith) (let k : p + 2 ≤ p + 4 = omega arith in k) (λ t. let k : p + 4 ≤ p + 4 = omega arith in k))
    (spans_join n (p + 4) (p + 5) (p + 11) two (three ++ four) (spans_when n (p + 4) (p + 5) (ltb 48 (octet octets 1)) (BadPrefixLen (p + 5)) (omega arith) (let k : p + 4 ≤ p + 5 = omega arith in k) (λ t. let k : p + 5 ≤ p + 5 = omega arith in k))
    (spans_join n (p + 5) (p + 6) (p + 11) three four (spans_when n (p + 5) (p + 6) (ltb 32 (octet octets 2)) (BadPrefixLen (p + 6)) (omega arith) (let k : p + 5 ≤ p + 6 = omega arith in k) (λ t. let k : p + 6 ≤ p + 6 = omega arith in k))
    (spans_padding n (p + 6) (p + 11) (p + 7) 4 (quad octets 3) (octet octets 2) (omega arith) (omega arith))))

part_size : (octets : List ℕ) (at size : ℕ) → at + size ≤ length octets → length (part octets at size) ≡ size
part_size octets at size h = length-take-le size (drop at octets) (omega (arith, h, length-drop at octets))

body_span : (n p : ℕ) (octets : List ℕ) → octet octets 7 ≤ 128 → rule_end octets ≤ length octets → Spans n (p + 2) (p + (4 + length octets)) (body_faults p octets)
unfolding body_faults
body_span n p octets most whole =
    let size = octets_for (octet octets 7) in
    let fields = field_faults p octets in
    let bits = padding (p + 12) 16 (prefix_number (part octets 8 size)) (octet octets 7) in
    let start = p + (4 + rule_end octets) in
    let hi = p + (4 + length octets) in
    let subs = all_faults sub_judge start (subs_of octets) in
    let rest = drop (rule_end octets) octets in
    let len = cut_size (length rest) rest in
    spans_join n (p + 2) (p + 11) hi fields (bits ++ subs) (fields_span n p octets)
    (spans_join n (p + 11) start hi bits subs
    (spans_from n (p + 12) (p + 11) start bits (omega arith) (spans_to n (p + 12) (p + 12 + size) start bits (omega arith) (spans_prefix n (p + 12) (part octets 8 size) (octet octets 7) (part_size octets 8 size (omega (arith, whole))) most)))
    (spans_to n start (start + (length (spelled_all (subs_of octets).options) + length (subs_of octets).left)) hi subs (omega (arith, len, length-drop (rule_end octets) octets, whole)) (all_span n sub_judge start (subs_of octets) (sub_span n) (begun_sub_span n))))

rule_span : (n p : ℕ) (octets : List ℕ) → Spans n p (p + (4 + length octets)) (rule_faults p octets)
rule_span n p octets =
    let hi = p + (4 + length octets) in
    let bad : OptionFault = BadLength (p + 2) in
    let bad_one : Spans n p hi (bad ∷ []) = spans_one n p hi bad (let k : p ≤ p + 2 = omega arith in k) (let k : p + 2 ≤ p + (4 + length octets) = omega arith in k) in
    let long = field_faults p octets ++ BadPrefixLen (p + 11) ∷ [] in
    let used = left_over (p + 2) (subs_of octets) ++ body_faults p octets in
    let last = cond (ltb (length octets) (rule_end octets)) (bad ∷ []) used in
    spans_cond n p hi (ltb (length octets) 8) (bad ∷ []) (cond (ltb 128 (octet octets 7)) long last) (λ e. bad_one) (λ e.
    let some = ltb-false (length octets) 8 e in
    spans_cond n p hi (ltb 128 (octet octets 7)) long last
    (λ f. spans_join n p (p + 11) hi (field_faults p octets) (BadPrefixLen (p + 11) ∷ []) (spans_from n (p + 2) p (p + 11) (field_faults p octets) (omega arith) (fields_span n p octets)) (spans_one n (p + 11) hi (BadPrefixLen (p + 11)) (let k : p + 11 ≤ p + 11 = omega arith in k) (let k : p + 11 ≤ p + (4 + length octets) = omega (arith, some) in k)))
    (λ f. spans_cond n p hi (ltb (length octets) (rule_end octets)) (bad ∷ []) used (λ g. bad_one)
    (λ g. spans_join n p (p + 2) hi (left_over (p + 2) (subs_of octets)) (body_faults p octets) (spans_when n p (p + 2) (leaves_over (subs_of octets)) bad (omega arith) (let k : p ≤ p + 2 = omega arith in k) (λ t. let k : p + 2 ≤ p + 2 = omega arith in k)) (body_span n p octets (ltb-false 128 (octet octets 7) f) (ltb-false (length octets) (rule_end octets) g)))))

dmr_span : (n p : ℕ) (octets : List ℕ) → Spans n p (p + (4 + length octets)) (dmr_faults p octets)
dmr_span n p octets =
    let hi = p + (4 + length octets) in
    let size = octets_for (octet octets 0) in
    let bad : OptionFault = BadLength (p + 2) in
    let bad_one : Spans n p hi (bad ∷ []) = spans_one n p hi bad (let k : p ≤ p + 2 = omega arith in k) (let k : p + 2 ≤ p + (4 + length octets) = omega arith in k) in
    let bits = padding (p + 5) 16 (prefix_number (drop 1 octets)) (octet octets 0) in
    let last = cond (eqb (length octets) (1 + size)) bits (bad ∷ []) in
    spans_cond n p hi (eqb (length octets) 0) (bad ∷ []) (cond (ltb 128 (octet octets 0)) (BadPrefixLen (p + 4) ∷ []) last) (λ e. bad_one) (λ e.
    spans_cond n p hi (ltb 128 (octet octets 0)) (BadPrefixLen (p + 4) ∷ []) last
    (λ f. spans_one n p hi (BadPrefixLen (p + 4)) (let k : p ≤ p + 4 = omega arith in k) (let k : p + 4 ≤ p + (4 + length octets) = omega arith in k))
    (λ f. spans_cond n p hi (eqb (length octets) (1 + size)) bits (bad ∷ [])
    (λ g. let own = eqb-true (length octets) (1 + size) g in
    spans_from n (p + 5) p hi bits (omega arith) (spans_to n (p + 5) (p + 5 + size) hi bits (omega (arith, own)) (spans_prefix n (p + 5) (drop 1 octets) (octet octets 0) (omega (arith, own, length-drop 1 octets)) (ltb-false 128 (octet octets 0) f))))
    (λ g. bad_one)))

item_span : (n : ℕ) → JudgedWithin n item_faults
unfolding item_faults_beside
item_span n p earlier o =
    let rules = count_by (has_code 89) earlier in
    let second = list_any (has_code 91) earlier in
    let hi = p + (4 + length o.octets) in
    let many = when (leb 256 rules) (TooManyRules p) in
    let twice = when second (SecondDmr p) in
    let here : p ≤ p = omega arith in
    let dmr = cond (eqb o.code 91) (twice ++ dmr_faults p o.octets) [] in
    spans_cond n p hi (eqb o.code 89) (many ++ rule_faults p o.octets) dmr
    (λ e. spans_join n p p hi many (rule_faults p o.octets) (spans_when n p p (leb 256 rules) (TooManyRules p) here here (λ t. here)) (rule_span n p o.octets))
    (λ e. spans_cond n p hi (eqb o.code 91) (twice ++ dmr_faults p o.octets) []
    (λ f. spans_join n p p hi twice (dmr_faults p o.octets) (spans_when n p p second (SecondDmr p) here here (λ t. here)) (dmr_span n p o.octets))
    (λ f. omega arith))

begun_item_span : (n : ℕ) → BegunAt n item_judge
begun_item_span n p earlier code =
    let here : p ≤ p = omega arith in
    let many = eqb code 89 && leb 256 (count_by (has_code 89) earlier) in
    let twice = eqb code 91 && list_any (has_code 91) earlier in
    spans_join n p p p (when many (TooManyRules p)) (when twice (SecondDmr p)) (spans_when n p p many (TooManyRules p) here here (λ t. here)) (spans_when n p p twice (SecondDmr p) here here (λ t. here))

-- ---- the text

missing_span : (n : ℕ) (options : List DhcpOption) → Spans n n n (missing options)
missing_span n options =
    let here : n ≤ n = omega arith in
    let rules = not (list_any (has_code 89) options) in
    let dmr = not (list_any (has_code 91) options) in
    spans_join n n n n (when rules NoRule) (when dmr NoDmr) (spans_when n n n rules NoRule here here (λ t. here)) (spans_when n n n dmr NoDmr here here (λ t. here))

inside_span : (n : ℕ) (inside : List ℕ) → n ≡ 4 + length inside → Spans n 0 n (inside_faults (cut inside))
unfolding inside_faults
inside_span n inside is =
    let parts = cut inside in
    let all = all_faults item_judge 4 parts in
    let len = cut_size (length inside) inside in
    spans_join n 0 2 n (left_over 2 parts) (all ++ missing parts.options) (spans_when n 0 2 (leaves_over parts) (BadLength 2) (omega arith) (let k : 0 ≤ 2 = omega arith in k) (λ t. let k : 2 ≤ 2 = omega arith in k))
    (spans_join n 2 n n all (missing parts.options) (spans_from n 4 2 n all (omega arith) (spans_to n 4 (4 + (length (spelled_all parts.options) + length parts.left)) n all (omega (arith, len, is)) (all_span n item_judge 4 parts (item_span n) (begun_item_span n)))) (missing_span n parts.options))

faults_span : (octets : List ℕ) → Spans (length octets) 0 (length octets) (faults octets)
unfolding faults
faults_span octets =
    let n = length octets in
    let short : OptionFault = Short n in
    let other : OptionFault = NotMapt (word octets 0) in
    let end = 4 + word octets 2 in
    let here : n ≤ n = omega arith in
    let least : (k : ℕ) → 0 ≤ k = λ k. omega arith in
    let inside = inside_faults (cut (drop 4 octets)) in
    let three = cond (ltb end n) (BadLength 2 ∷ []) inside in
    let two = cond (ltb n end) (short ∷ []) three in
    let one = cond (not (eqb (word octets 0) 95)) (other ∷ []) two in
    spans_cond n 0 n (ltb n 4) (short ∷ []) one (λ e. spans_one n 0 n short (least n) here) (λ e.
    let some = ltb-false n 4 e in
    spans_cond n 0 n (not (eqb (word octets 0) 95)) (other ∷ []) two (λ f. spans_one n 0 n other (least 0) (least n)) (λ f.
    spans_cond n 0 n (ltb n end) (short ∷ []) three (λ g. spans_one n 0 n short (least n) here) (λ g.
    spans_cond n 0 n (ltb end n) (BadLength 2 ∷ []) inside (λ h. spans_one n 0 n (BadLength 2) (least 2) (let k : 2 ≤ n = omega (arith, some) in k)) (λ h. inside_span n (drop 4 octets) (omega (arith, some, length-drop 4 octets))))))

-- ---- the first is the least

none_before : (n lo hi : ℕ) (fs : List OptionFault) → Spans n lo hi fs → (k : ℕ) (d : OptionFault) → k < length fs → lo ≤ fault_place (get_or fs k d) n
none_before n lo hi [] h k d lt = absurd (omega (arith, lt))
none_before n lo hi (f ∷ fs) h zero d lt = h.0
none_before n lo hi (f ∷ fs) h (suc k) d lt = let rest = none_before n (fault_place f n) hi fs h.1 k d (omega (arith, lt)) in omega (arith, h.0, rest)

none_told : (told : OptionFault) → None ≡ Some told → ⊥
none_told told e = cc

told_is : (f told : OptionFault) → Some f ≡ Some told → f ≡ told
told_is f told e = cc

first_least : (n lo hi : ℕ) (fs : List OptionFault) (told : OptionFault) → Spans n lo hi fs → first fs ≡ Some told → All (λ (f : OptionFault). fault_place told n ≤ fault_place f n) fs
first_least n lo hi [] told h e k d lt = absurd (none_told told e)
first_least n lo hi (f ∷ fs) told h e k d lt =
    let same : fault_place told n ≡ fault_place f n = ap (λ (x : OptionFault). fault_place x n) (sym (told_is f told e)) in
    let own : Spans n (fault_place f n) hi (f ∷ fs) = (omega arith, h.1) in
    let rest = none_before n (fault_place f n) hi (f ∷ fs) own k d lt in
    omega (arith, same, rest)

pub told_least : (octets : List ℕ) (told : OptionFault) → fault_of octets ≡ Some told → All (λ (f : OptionFault). fault_place told (length octets) ≤ fault_place f (length octets)) (faults octets)
told_least octets told e = first_least (length octets) 0 (length octets) (faults octets) told (faults_span octets) e
