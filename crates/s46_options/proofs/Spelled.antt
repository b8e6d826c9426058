-- Options that were spelled one after another are cut into the same options.
use Rattle.std.proofs.Common.{◌≡◌, ℕ, ◌+◌, ◌<◌, Bool, true, List, [], ◌∷◌, ◌++◌, length, drop, map, refl, sym, ap, ◌∙◌, arith, length-append}
use Rattle.std.specs.List.{list_all}
use Rattle.std.proofs.lemmas.Bool.{and_parts, and_from, le-leb}
use Rattle.std.proofs.lemmas.List.{drop-drop}
use Rattle.std.proofs.Math.Seq.{take-append_seam, drop-append_seam}
use Rattle.byteorder.specs.Numbers.{big_number-reads_back}
use Rattle.octets.specs.Field.{word, in_word, part}
use Rattle.s46_options.specs.Options.{DhcpOption, spelled, spelled_all, starts_whole, first_option, behind, cut}
use Rattle.s46_options.proofs.Cuts.{cut_stops, cut_first}
use Rattle.s46_options.proofs.Walks.{spelled_len}

-- the code and the number of octets have 16 bits
pub record FitsOption (o : DhcpOption) : Type 0 where
  pub code : o.code < 65536
  pub octets : length o.octets < 65536

abbrev pub AllFit : List DhcpOption → Type 0
AllFit [] = Unit
AllFit (o ∷ os) = FitsOption o × AllFit os

code_back : (o : DhcpOption) (rest : List ℕ) → FitsOption o → word (spelled o ++ rest) 0 ≡ o.code
code_back o rest fits = big_number-reads_back 2 o.code (in_word (length o.octets) ++ (o.octets ++ rest)) fits.code

len_back : (o : DhcpOption) (rest : List ℕ) → FitsOption o → word (spelled o ++ rest) 2 ≡ length o.octets
len_back o rest fits = big_number-reads_back 2 (length o.octets) (o.octets ++ rest) fits.octets

starts : (o : DhcpOption) (rest : List ℕ) → FitsOption o → starts_whole (spelled o ++ rest) ≡ true
starts o rest fits =
    let len = length-append (spelled o) rest in
    let own = spelled_len o in
    let back = len_back o rest fits in
    and_from _ _ (le-leb 4 (length (spelled o ++ rest)) (omega (arith, len, own))) (le-leb (4 + word (spelled o ++ rest) 2) (length (spelled o ++ rest)) (omega (arith, len, own, back)))

first_back : (o : DhcpOption) (rest : List ℕ) → FitsOption o → first_option (spelled o ++ rest) ≡ o
first_back o rest fits =
    let code = code_back o rest fits in
    let octets : part (spelled o ++ rest) 4 (word (spelled o ++ rest) 2) ≡ o.octets = ap (λ (n : ℕ). part (spelled o ++ rest) 4 n) (len_back o rest fits) ∙ take-append_seam o.octets rest in
    λ i. record { code = code i; octets = octets i }

rest_back : (o : DhcpOption) (rest : List ℕ) → FitsOption o → drop (4 + word (spelled o ++ rest) 2) (spelled o ++ rest) ≡ rest
rest_back o rest fits =
    ap (λ (n : ℕ). drop (4 + n) (spelled o ++ rest)) (len_back o rest fits)
    ∙ sym (drop-drop (length o.octets) 4 (spelled o ++ rest))
    ∙ drop-append_seam o.octets rest

pub cut_spelled : (options : List DhcpOption) → AllFit options → cut (spelled_all options) ≡ record { options = options; left = [] }
cut_spelled [] fits = cut_stops 0 [] refl
cut_spelled (o ∷ os) fits =
    let rest = spelled_all os in
    cut_first (spelled o ++ rest) (starts o rest fits.0)
    ∙ ap (λ (p : DhcpOption). behind p (cut (drop (4 + word (spelled o ++ rest) 2) (spelled o ++ rest)))) (first_back o rest fits.0)
    ∙ ap (λ (xs : List ℕ). behind o (cut xs)) (rest_back o rest fits.0)
    ∙ ap (behind o) (cut_spelled os fits.1)

-- things whose options have a code of 16 bits, and are no longer than that together
pub all_fit : {A : Type 0} (option : A → DhcpOption) (small : A → Bool) → ((x : A) → small x ≡ true → (option x).code < 65536) → (xs : List A) → list_all small xs ≡ true → length (spelled_all (map option xs)) < 65536 → AllFit (map option xs)
all_fit {A} option small code [] h short = tt
all_fit {A} option small code (x ∷ xs) h short =
    let both = and_parts (small x) (list_all small xs) h in
    let len : length (spelled_all (map option (x ∷ xs))) ≡ length (spelled (option x)) + length (spelled_all (map option xs)) = length-append (spelled (option x)) (spelled_all (map option xs)) in
    let own = spelled_len (option x) in
    (record { code = code x both.0; octets = omega (arith, len, own, short) }, all_fit option small code xs both.1 (omega (arith, len, short)))
