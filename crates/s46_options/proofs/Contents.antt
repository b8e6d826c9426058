-- The octets of options that are read are those of what is read.
use Rattle.std.proofs.Common.{◌≡◌, ℕ, zero, suc, ◌+◌, ◌-◌, ◌*◌, ◌/◌, ◌%◌, ◌^◌, ◌<◌, ◌≤◌, Bool, true, false, List, [], ◌∷◌, ◌++◌, length, get_or, take, drop, map, replicate, refl, sym, ap, ◌∙◌, arith, append_assoc, inl, inr, ltb, Some, None, leb, cond, ◌&&◌}
use Rattle.std.proofs.lemmas.List.{length-append, length-replicate, take-append-drop, length-take-le, append-nil, nil_from_length, drop-drop, drop-replicate}
use Rattle.std.proofs.lemmas.Bool.{cases_Bool}
use Rattle.std.specs.List.{sum_by}
use Rattle.std.proofs.lemmas.List.Concat.{length-flat_map}
use Rattle.std.proofs.lemmas.List.Sums.{sum_by-cons, get_or-le-sum_by}
use Rattle.std.proofs.lemmas.Nat.{pow-add, div_below}
use Rattle.std.proofs.Math.Nat.{mul-lt-mul_of_pos_right, one-le-pow, mod-eq_of_lt}
use Rattle.std.proofs.Math.Pow.{pow-lt}
use Rattle.std.proofs.Math.Seq.{take-append_seam}
use Rattle.std.proofs.Math.Nat.{div-add-mod'}
use Rattle.std.proofs.lemmas.Bool.{cases_eq, lt-ltb, leb-false, ltb-false, and_cases}
use Rattle.std.proofs.Math.Nat.{div-one}
use Rattle.octets.specs.Bits.{bit_of, bits_at, IsClearFrom}
use Rattle.octets.specs.Field.{octet, word, quad, part, in_word, in_quad, in_sixteen}
use Rattle.octets.specs.declared.prefix.Prefix4.{Prefix4}
use Rattle.octets.specs.declared.prefix.Prefix6.{Prefix6}
use Rattle.s46_options.specs.declared.subs.Sub.{Sub}
use Rattle.s46_options.specs.Options.{DhcpOption, spelled, spelled_all, Cut, starts_whole, first_option, cut_most, cut}
use Rattle.s46_options.specs.Items.{octets_for, prefix_octets, params_octets, sub_option, rule_octets, dmr_octets}
use Rattle.s46_options.specs.declared.fault.OptionFault.{OptionFault}
use Rattle.s46_options.specs.declared.fault.OptionFault.TheVariants.{Padding, BadLength}
use Rattle.s46_options.specs.Faults.{Judge, leaves_over, too_long, place_behind, each_faults, all_faults, prefix_number, padding, zero_octets, first}
use Rattle.s46_options.proofs.Numbers.{AreOctets, octets_append, octets_zeros, octets_drop, octets_take, bytes_again}
use Rattle.s46_options.proofs.Cuts.{whole_len, cut_stops, cut_goes}

-- a prefix whose bits are the number of these octets has these octets
-- octets that were copied over the first of 16 zeros
pub copied : (xs made : List ℕ) → made ≡ xs → made ++ drop (length xs) (replicate 16 0) ≡ xs ++ replicate (16 - length xs) 0
copied xs made is = ap (λ (ys : List ℕ). ys ++ drop (length xs) (replicate 16 0)) is ∙ ap (λ (ys : List ℕ). xs ++ ys) (drop-replicate (length xs) 16 0)

pub prefix_again : (prefix : Prefix6) (octets : List ℕ) → AreOctets octets → length octets ≡ octets_for prefix.len → prefix.len ≤ 128 → prefix.bits ≡ prefix_number octets → prefix_octets prefix ≡ octets
unfolding prefix_number
prefix_again prefix octets h len most bits =
    let short : length octets ≤ 16 = omega (arith, len) in
    let all = octets ++ replicate (16 - length octets) 0 in
    let long : length all ≡ 16 = omega (arith, length-append octets (replicate (16 - length octets) 0), length-replicate {A = ℕ} (16 - length octets) 0) in
    let fits : AreOctets all = octets_append octets (replicate (16 - length octets) 0) h (octets_zeros (16 - length octets)) in
    ap (λ (n : ℕ). take (octets_for prefix.len) (in_sixteen n)) bits
    ∙ ap (take (octets_for prefix.len)) (bytes_again 16 all long fits)
    ∙ ap (λ (n : ℕ). take n all) (sym len)
    ∙ take-append_seam octets (replicate (16 - length octets) 0)

-- bits past the length are told by their first octet
pub prefix_refused : (at number len past zeros : ℕ) → len ≤ 128 → ((len ≤ 128) × IsClearFrom 128 number len → ⊥) → past ≡ bits_at 128 number len (128 - len) → zeros ≡ zero_octets 16 past → first (padding at 16 number len) ≡ Some (Padding (at + zeros))
prefix_refused at number len past zeros most not_clear is zeros_are =
    let own : past ≡ number % 2 ^ (128 - len) =
    is
    ∙ ap (λ (k : ℕ). number / 2 ^ (128 - k) % 2 ^ (128 - len)) (let k : len + (128 - len) ≡ 128 = omega arith in k)
    ∙ ap (λ (k : ℕ). k % 2 ^ (128 - len)) (div-one number) in
    let set : ltb 0 (number % 2 ^ (128 - len)) ≡ true =
    lt-ltb 0 _ (elim (cases_eq (number % 2 ^ (128 - len)) 0) [
      | inl e ↦ absurd (not_clear (most, e))
      | inr ne ↦ omega (arith, ne)
    ]) in
    rw (set, zeros_are, own) refl

pub dmr_again : (prefix : Prefix6) (octets : List ℕ) → AreOctets octets → length octets ≡ 1 + octets_for (octet octets 0) → prefix.len ≡ octet octets 0 → prefix.len ≤ 128 → prefix.bits ≡ prefix_number (drop 1 octets) → dmr_octets prefix ≡ octets
dmr_again prefix [] h len same most bits = absurd (omega (arith, len))
dmr_again prefix (o ∷ os) h len same most bits =
    let short : length os ≡ octets_for prefix.len = rw same (omega (arith, len)) in
    let rest : prefix_octets prefix ≡ os = prefix_again prefix os (λ i. h (suc i)) short most bits in
    ap (λ (x : ℕ). x ∷ prefix_octets prefix) same ∙ ap (λ (xs : List ℕ). o ∷ xs) rest

-- a number of whole parts is this many of them
pub parts_again : (n p : ℕ) → n % p ≡ 0 → n / p * p ≡ n
parts_again n p h = let e = div-add-mod' n p in omega (arith, e, h)

-- the fields of a rule
pub record ReadsFields (flag : Bool) (ea : ℕ) (prefix4 : Prefix4) (octets : List ℕ) : Type 0 where
  pub flag_is : bit_of flag ≡ octet octets 0
  pub ea_is : ea ≡ octet octets 1
  pub len4 : prefix4.len ≡ octet octets 2
  pub bits4 : prefix4.bits ≡ quad octets 3

fields_again : (flag : Bool) (ea : ℕ) (prefix4 : Prefix4) (a b c d e f g : ℕ) (rest : List ℕ) → AreOctets (a ∷ b ∷ c ∷ d ∷ e ∷ f ∷ g ∷ rest) → ReadsFields flag ea prefix4 (a ∷ b ∷ c ∷ d ∷ e ∷ f ∷ g ∷ rest)
    → (bit_of flag ∷ ea ∷ prefix4.len ∷ in_quad prefix4.bits) ≡ a ∷ b ∷ c ∷ d ∷ e ∷ f ∷ g ∷ []
fields_again flag ea prefix4 a b c d e f g rest h fields =
    let four : List ℕ = d ∷ e ∷ f ∷ g ∷ [] in
    let fits : AreOctets four = octets_take 4 (d ∷ e ∷ f ∷ g ∷ rest) (octets_drop 3 (a ∷ b ∷ c ∷ d ∷ e ∷ f ∷ g ∷ rest) h) in
    let quad_is : in_quad prefix4.bits ≡ four = ap in_quad fields.bits4 ∙ bytes_again 4 four refl fits in
    ap (λ (x : ℕ). x ∷ ea ∷ prefix4.len ∷ in_quad prefix4.bits) fields.flag_is
    ∙ ap (λ (x : ℕ). a ∷ x ∷ prefix4.len ∷ in_quad prefix4.bits) fields.ea_is
    ∙ ap (λ (x : ℕ). a ∷ b ∷ x ∷ in_quad prefix4.bits) fields.len4
    ∙ ap (λ (xs : List ℕ). a ∷ b ∷ c ∷ xs) quad_is

tail_again : (prefix6 : Prefix6) (l : ℕ) (rest subs : List ℕ) → AreOctets rest → prefix6.len ≡ l → l ≤ 128 → octets_for l ≤ length rest → prefix6.bits ≡ prefix_number (take (octets_for l) rest) → subs ≡ drop (octets_for l) rest → (prefix6.len ∷ prefix_octets prefix6) ++ subs ≡ l ∷ rest
tail_again prefix6 l rest subs h len most fits bits is =
    let short : length (take (octets_for l) rest) ≡ octets_for prefix6.len = rw len (length-take-le (octets_for l) rest fits) in
    let m : prefix6.len ≤ 128 = omega (arith, len) in
    let own : prefix_octets prefix6 ≡ take (octets_for l) rest = prefix_again prefix6 (take (octets_for l) rest) (octets_take (octets_for l) rest h) short m bits in
    ap (λ (x : ℕ). x ∷ (prefix_octets prefix6 ++ subs)) len
    ∙ ap (λ (xs : List ℕ). l ∷ (xs ++ subs)) own
    ∙ ap (λ (xs : List ℕ). l ∷ (take (octets_for l) rest ++ xs)) is
    ∙ ap (λ (xs : List ℕ). l ∷ xs) (take-append-drop (octets_for l) rest)

pub rule_again : (flag : Bool) (ea : ℕ) (prefix4 : Prefix4) (prefix6 : Prefix6) (subs : List Sub) (octets : List ℕ) → AreOctets octets → 8 ≤ length octets → ReadsFields flag ea prefix4 octets → prefix6.len ≡ octet octets 7 → octet octets 7 ≤ 128 → 8 + octets_for (octet octets 7) ≤ length octets
    → prefix6.bits ≡ prefix_number (part octets 8 (octets_for (octet octets 7))) → spelled_all (map sub_option subs) ≡ drop (8 + octets_for (octet octets 7)) octets → rule_octets flag ea prefix4 prefix6 subs ≡ octets
rule_again flag ea prefix4 prefix6 subs (a ∷ b ∷ c ∷ d ∷ e ∷ f ∷ g ∷ l ∷ rest) h long fields len most whole bits is =
    let head = fields_again flag ea prefix4 a b c d e f g (l ∷ rest) h fields in
    let own : AreOctets rest = octets_drop 8 (a ∷ b ∷ c ∷ d ∷ e ∷ f ∷ g ∷ l ∷ rest) h in
    let behind8 : drop (8 + octets_for l) (a ∷ b ∷ c ∷ d ∷ e ∷ f ∷ g ∷ l ∷ rest) ≡ drop (octets_for l) rest = sym (drop-drop (octets_for l) 8 (a ∷ b ∷ c ∷ d ∷ e ∷ f ∷ g ∷ l ∷ rest)) in
    let tail = tail_again prefix6 l rest (spelled_all (map sub_option subs)) own len most (omega (arith, whole)) bits (is ∙ behind8) in
    let joined : rule_octets flag ea prefix4 prefix6 subs ≡ (bit_of flag ∷ ea ∷ prefix4.len ∷ in_quad prefix4.bits) ++ ((prefix6.len ∷ prefix_octets prefix6) ++ spelled_all (map sub_option subs)) = append_assoc (bit_of flag ∷ ea ∷ prefix4.len ∷ in_quad prefix4.bits) (prefix6.len ∷ prefix_octets prefix6) (spelled_all (map sub_option subs)) in
    joined
    ∙ ap (λ (xs : List ℕ). xs ++ ((prefix6.len ∷ prefix_octets prefix6) ++ spelled_all (map sub_option subs))) head
    ∙ ap (λ (xs : List ℕ). (a ∷ b ∷ c ∷ d ∷ e ∷ f ∷ g ∷ []) ++ xs) tail
rule_again flag ea prefix4 prefix6 subs [] h long fields len most whole bits is = absurd (omega (arith, long))
rule_again flag ea prefix4 prefix6 subs (a ∷ []) h long fields len most whole bits is = absurd (omega (arith, long))
rule_again flag ea prefix4 prefix6 subs (a ∷ b ∷ []) h long fields len most whole bits is = absurd (omega (arith, long))
rule_again flag ea prefix4 prefix6 subs (a ∷ b ∷ c ∷ []) h long fields len most whole bits is = absurd (omega (arith, long))
rule_again flag ea prefix4 prefix6 subs (a ∷ b ∷ c ∷ d ∷ []) h long fields len most whole bits is = absurd (omega (arith, long))
rule_again flag ea prefix4 prefix6 subs (a ∷ b ∷ c ∷ d ∷ e ∷ []) h long fields len most whole bits is = absurd (omega (arith, long))
rule_again flag ea prefix4 prefix6 subs (a ∷ b ∷ c ∷ d ∷ e ∷ f ∷ []) h long fields len most whole bits is = absurd (omega (arith, long))
rule_again flag ea prefix4 prefix6 subs (a ∷ b ∷ c ∷ d ∷ e ∷ f ∷ g ∷ []) h long fields len most whole bits is = absurd (omega (arith, long))

-- ---- options

stops_at : (octets : List ℕ) → cut_most 0 octets ≡ record { options = []; left = octets }
unfolding cut_most
stops_at octets = refl

first_again : (octets : List ℕ) → AreOctets octets → starts_whole octets ≡ true → spelled (first_option octets) ++ drop (4 + word octets 2) octets ≡ octets
first_again (a ∷ b ∷ c ∷ d ∷ rest) h w =
    let len = word (a ∷ b ∷ c ∷ d ∷ rest) 2 in
    let both = whole_len (a ∷ b ∷ c ∷ d ∷ rest) w in
    let fits : len ≤ length rest = omega (arith, both.1) in
    let code : in_word (word (a ∷ b ∷ []) 0) ≡ a ∷ b ∷ [] = bytes_again 2 (a ∷ b ∷ []) refl (octets_take 2 (a ∷ b ∷ c ∷ d ∷ rest) h) in
    let size : in_word (word (c ∷ d ∷ []) 0) ≡ c ∷ d ∷ [] = bytes_again 2 (c ∷ d ∷ []) refl (octets_take 2 (c ∷ d ∷ rest) (octets_drop 2 (a ∷ b ∷ c ∷ d ∷ rest) h)) in
    let own : length (take len rest) ≡ len = length-take-le len rest fits in
    let behind4 : drop (4 + len) (a ∷ b ∷ c ∷ d ∷ rest) ≡ drop len rest = sym (drop-drop len 4 (a ∷ b ∷ c ∷ d ∷ rest)) in
    let head : spelled (first_option (a ∷ b ∷ c ∷ d ∷ rest)) ≡ a ∷ b ∷ c ∷ d ∷ take len rest = ap (λ (xs : List ℕ). (xs ++ in_word (length (take len rest))) ++ take len rest) code ∙ ap (λ (n : ℕ). ((a ∷ b ∷ []) ++ in_word n) ++ take len rest) own ∙ ap (λ (xs : List ℕ). ((a ∷ b ∷ []) ++ xs) ++ take len rest) size in
    ap (λ (xs : List ℕ). xs ++ drop (4 + len) (a ∷ b ∷ c ∷ d ∷ rest)) head
    ∙ ap (λ (xs : List ℕ). a ∷ b ∷ c ∷ d ∷ (take len rest ++ xs)) behind4
    ∙ ap (λ (xs : List ℕ). a ∷ b ∷ c ∷ d ∷ xs) (take-append-drop len rest)
first_again [] h w = absurd (let both = whole_len [] w in omega (arith, both.0))
first_again (a ∷ []) h w = absurd (let both = whole_len (a ∷ []) w in omega (arith, both.0))
first_again (a ∷ b ∷ []) h w = absurd (let both = whole_len (a ∷ b ∷ []) w in omega (arith, both.0))
first_again (a ∷ b ∷ c ∷ []) h w = absurd (let both = whole_len (a ∷ b ∷ c ∷ []) w in omega (arith, both.0))

most_again : (n : ℕ) (octets : List ℕ) → AreOctets octets → spelled_all (cut_most n octets).options ++ (cut_most n octets).left ≡ octets
most_again zero octets h = ap (λ (parts : Cut). spelled_all parts.options ++ parts.left) (stops_at octets)
most_again (suc n) octets h =
    elim (cases_Bool (starts_whole octets)) [
      | inl w ↦
          let rest = drop (4 + word octets 2) octets in
          ap (λ (parts : Cut). spelled_all parts.options ++ parts.left) (cut_goes n octets w)
          ∙ append_assoc (spelled (first_option octets)) (spelled_all (cut_most n rest).options) (cut_most n rest).left
          ∙ ap (λ (xs : List ℕ). spelled (first_option octets) ++ xs) (most_again n rest (octets_drop (4 + word octets 2) octets h))
          ∙ first_again octets h w
      | inr w ↦ ap (λ (parts : Cut). spelled_all parts.options ++ parts.left) (cut_stops (suc n) octets w)
    ]

-- the options and what is left are all of the octets
pub cut_again : (octets : List ℕ) → AreOctets octets → spelled_all (cut octets).options ++ (cut octets).left ≡ octets
cut_again octets h = most_again (length octets) octets h

-- a PSID of so many bits stands within 16 bits, from the left
pub psid_fits : (len psid made : ℕ) → len ≤ 16 → psid < 2 ^ len → made ≡ psid → made * 2 ^ (16 - len) < 65536
psid_fits len psid made most fits is =
    let some : 0 < 2 ^ (16 - len) = (let k = one-le-pow (16 - len) 2 (omega arith) in omega (arith, k)) in
    let whole : 2 ^ len * 2 ^ (16 - len) ≡ 65536 = sym (pow-add 2 len (16 - len)) ∙ ap (λ (k : ℕ). 2 ^ k) (let k : len + (16 - len) ≡ 16 = omega arith in k) in
    let less : psid * 2 ^ (16 - len) < 2 ^ len * 2 ^ (16 - len) = mul-lt-mul_of_pos_right fits some in
    rw is (omega (arith, less, whole))

length_spelled : (o : DhcpOption) → length (spelled o) ≡ 4 + length o.octets
length_spelled o = omega arith

sum_by-map : {A : Type 0} (option : A → DhcpOption) (xs : List A) → sum_by (λ (o : DhcpOption). length (spelled o)) (map option xs) ≡ sum_by (λ (y : A). length (spelled (option y))) xs
sum_by-map {A} option [] = refl
sum_by-map {A} option (x ∷ xs) =
    sum_by-cons (λ (o : DhcpOption). length (spelled o)) (option x) (map option xs)
    ∙ ap (λ (n : ℕ). length (spelled (option x)) + n) (sum_by-map option xs)
    ∙ sym (sum_by-cons (λ (y : A). length (spelled (option y))) x xs)

-- an option among others is no longer than they are together
pub option_short : {A : Type 0} (option : A → DhcpOption) (xs : List A) (i : ℕ) (x : A) → i < length xs → x ≡ get_or xs i x → length (spelled_all (map option xs)) < 65536 → length (option x).octets < 65536
option_short {A} option xs i x lt is short =
    let one = get_or-le-sum_by (λ (y : A). length (spelled (option y))) xs i x lt in
    let all : length (spelled_all (map option xs)) ≡ sum_by (λ (y : A). length (spelled (option y))) xs = length-flat_map spelled (map option xs) ∙ sum_by-map option xs in
    let here : length (spelled (option (get_or xs i x))) ≡ length (spelled (option x)) = ap (λ (y : A). length (spelled (option y))) (sym is) in
    omega (arith, one, all, here, short, length_spelled (option x))

none_some : (e : OptionFault) → None ≡ Some e → ⊥
none_some e h = cc

-- the first of faults where those before are none
pub first_left : (a b : List OptionFault) (e : OptionFault) → first a ≡ Some e → first (a ++ b) ≡ Some e
first_left [] b e h = absurd (none_some e h)
first_left (x ∷ xs) b e h = h

pub first_second : (a b d : List OptionFault) (e : OptionFault) → a ≡ [] → first b ≡ Some e → first (a ++ (b ++ d)) ≡ Some e
first_second a b d e h f = rw h (first_left b d e f)

-- ---- what the readers read

pow_small : (k : ℕ) → k ≤ 16 → 1 * 2 ^ k % 4294967296 ≡ 2 ^ k
pow_small k h =
    let less : 2 ^ k < 2 ^ 32 = pow-lt {j = 32} (omega arith) in
    let one : 1 * 2 ^ k ≡ 2 ^ k = omega arith in
    rw one (mod-eq_of_lt (omega (arith, less)))

pub params_read : (octets : List ℕ) (bits : ℕ) → AreOctets octets → length octets ≡ 4 → bits ≡ word (take (length octets - 2) (drop 2 octets)) 0 → bits % (1 * 2 ^ (16 - octet octets 1) % 4294967296) ≤ 0 → params_octets (octet octets 0) (octet octets 1) (bits / 2 ^ (16 - octet octets 1)) ≡ octets
params_read (a ∷ b ∷ c ∷ d ∷ []) bits h len is clear =
    let past : bits % 2 ^ (16 - b) ≡ 0 = rw (sym (pow_small (16 - b) (omega arith))) (omega (arith, clear)) in
    let pair : in_word (word (c ∷ d ∷ []) 0) ≡ c ∷ d ∷ [] = bytes_again 2 (c ∷ d ∷ []) refl (octets_drop 2 (a ∷ b ∷ c ∷ d ∷ []) h) in
    ap (λ (n : ℕ). a ∷ b ∷ in_word n) (parts_again bits (2 ^ (16 - b)) past ∙ is) ∙ ap (λ (xs : List ℕ). a ∷ b ∷ xs) pair
params_read [] bits h len is clear = absurd (omega (arith, len))
params_read (a ∷ []) bits h len is clear = absurd (omega (arith, len))
params_read (a ∷ b ∷ []) bits h len is clear = absurd (omega (arith, len))
params_read (a ∷ b ∷ c ∷ []) bits h len is clear = absurd (omega (arith, len))
params_read (a ∷ b ∷ c ∷ d ∷ e ∷ rest) bits h len is clear = absurd (omega (arith, len))

pub psid_read : (bits len : ℕ) → bits < 65536 → len ≤ 16 → bits / 2 ^ (16 - len) < 2 ^ len
psid_read bits len fits most =
    let some : 0 < 2 ^ (16 - len) = (let k = one-le-pow (16 - len) 2 (omega arith) in omega (arith, k)) in
    let whole : 2 ^ len * 2 ^ (16 - len) ≡ 65536 = sym (pow-add 2 len (16 - len)) ∙ ap (λ (k : ℕ). 2 ^ k) (let k : len + (16 - len) ≡ 16 = omega arith in k) in
    div_below bits (2 ^ (16 - len)) (2 ^ len) some (omega (arith, whole, fits))

cons_not_nil : (x : OptionFault) (xs : List OptionFault) → x ∷ xs ≡ [] → ⊥
cons_not_nil x xs h = cc

not_long : (b : Bool) (begun : List OptionFault) (f : OptionFault) → cond b (begun ++ f ∷ []) [] ≡ [] → b ≡ false
not_long true [] f h = absurd (cons_not_nil f [] h)
not_long true (g ∷ gs) f h = absurd (cons_not_nil g (gs ++ f ∷ []) h)
not_long false begun f h = refl

short_left : (n : ℕ) → (leb 1 n && ltb n 4) ≡ false → leb 4 n ≡ false → n ≡ 0
short_left n used short =
    let less = leb-false 4 n short in
    elim (and_cases (leb 1 n) (ltb n 4) used) [
      | inl e ↦ omega (arith, leb-false 1 n e)
      | inr e ↦ omega (arith, ltb-false n 4 e, less)
    ]

no_second : (a b : List OptionFault) → a ++ b ≡ [] → b ≡ []
no_second [] b h = h
no_second (x ∷ xs) b h = absurd (cons_not_nil x (xs ++ b) h)

-- options in which nothing is wrong leave nothing
pub none_left : (judge : Judge) (at : ℕ) (parts : Cut) → leaves_over parts ≡ false → all_faults judge at parts ≡ [] → parts.left ≡ []
none_left judge at parts used sound =
    let long = no_second (each_faults judge.whole at [] parts.options) (too_long judge (place_behind at parts.options) parts.options parts.left) sound in
    nil_from_length parts.left (short_left (length parts.left) used (not_long (leb 4 (length parts.left)) (judge.begun (place_behind at parts.options) parts.options (word parts.left 0)) (BadLength (place_behind at parts.options + 2)) long))

pub all_cut : (judge : Judge) (at : ℕ) (octets : List ℕ) (parts : Cut) → AreOctets octets → parts ≡ cut octets → leaves_over parts ≡ false → all_faults judge at parts ≡ [] → spelled_all parts.options ≡ octets
all_cut judge at octets parts h is used sound =
    sym (append-nil (spelled_all parts.options))
    ∙ ap (λ (xs : List ℕ). spelled_all parts.options ++ xs) (sym (none_left judge at parts used sound))
    ∙ ap (λ (p : Cut). spelled_all p.options ++ p.left) is
    ∙ cut_again octets h

-- the options and what is left are as long as the octets
pub cut_len : (octets : List ℕ) (parts : Cut) → AreOctets octets → parts ≡ cut octets → length (spelled_all parts.options) + length parts.left ≡ length octets
cut_len octets parts h is =
    sym (length-append (spelled_all parts.options) parts.left)
    ∙ ap length (ap (λ (p : Cut). spelled_all p.options ++ p.left) is ∙ cut_again octets h)

pub container_again : (octets inside : List ℕ) → AreOctets octets → 4 ≤ length octets → word octets 0 ≡ 95 → length octets ≡ 4 + word octets 2 → inside ≡ drop 4 octets → spelled (record { code = 95; octets = inside }) ≡ octets
container_again (a ∷ b ∷ c ∷ d ∷ rest) inside h long code len is =
    let pair : in_word (word (a ∷ b ∷ []) 0) ≡ a ∷ b ∷ [] = bytes_again 2 (a ∷ b ∷ []) refl (octets_take 2 (a ∷ b ∷ c ∷ d ∷ rest) h) in
    let size : in_word (word (c ∷ d ∷ []) 0) ≡ c ∷ d ∷ [] = bytes_again 2 (c ∷ d ∷ []) refl (octets_take 2 (c ∷ d ∷ rest) (octets_drop 2 (a ∷ b ∷ c ∷ d ∷ rest) h)) in
    let own : length rest ≡ word (c ∷ d ∷ []) 0 = omega (arith, len) in
    ap (λ (xs : List ℕ). spelled (record { code = 95; octets = xs })) is
    ∙ ap (λ (n : ℕ). (in_word n ++ in_word (length rest)) ++ rest) (sym code)
    ∙ ap (λ (xs : List ℕ). (xs ++ in_word (length rest)) ++ rest) pair
    ∙ ap (λ (n : ℕ). ((a ∷ b ∷ []) ++ in_word n) ++ rest) own
    ∙ ap (λ (xs : List ℕ). ((a ∷ b ∷ []) ++ xs) ++ rest) size
container_again [] inside h long code len is = absurd (omega (arith, long))
container_again (a ∷ []) inside h long code len is = absurd (omega (arith, long))
container_again (a ∷ b ∷ []) inside h long code len is = absurd (omega (arith, long))
container_again (a ∷ b ∷ c ∷ []) inside h long code len is = absurd (omega (arith, long))

pub same_cut : (made parts : Cut) → made.options ≡ parts.options → made.left ≡ parts.left → made ≡ parts
same_cut made parts options left = λ i. record { options = options i; left = left i }

pub params_word : (octets : List ℕ) → length octets ≡ 4 → word (take (length octets - 2) (drop 2 octets)) 0 ≡ word octets 2
params_word (a ∷ b ∷ c ∷ d ∷ []) len = refl
params_word [] len = absurd (omega (arith, len))
params_word (a ∷ []) len = absurd (omega (arith, len))
params_word (a ∷ b ∷ []) len = absurd (omega (arith, len))
params_word (a ∷ b ∷ c ∷ []) len = absurd (omega (arith, len))
params_word (a ∷ b ∷ c ∷ d ∷ e ∷ rest) len = absurd (omega (arith, len))
