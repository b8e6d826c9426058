-- Walking the chain one header after the other, as a loop does.
use Rattle.std.proofs.Common.{◌≡◌, ℕ, zero, suc, ◌+◌, ◌-◌, ◌*◌, ◌<◌, ◌≤◌, true, false, List, [], ◌∷◌, length, get_or, take, drop, Option, None, Some, refl, sym, ap, ◌∙◌, arith, add-zero}
use Rattle.std.specs.Option.{option_or}
use Rattle.std.proofs.lemmas.List.{length-take-le, get_or-take, take_rest}
use Rattle.ip6_packet.specs.declared.chain.Chain.{Chain}
use Rattle.ip6_packet.specs.Chain.{is_sized, route_at, behind, end_of, chain_in, IsFirstHeader, HasNoHeader}

-- a header that began goes on for as long as it says
skipped : (n place number : ℕ) (octets : List ℕ) → n ≤ length octets → chain_in place number n octets ≡ chain_in (place + n) number 0 (drop n octets)
unfolding chain_in
skipped zero place number octets h = ap (λ (p : ℕ). chain_in p number 0 octets) (sym (add-zero place))
skipped (suc n) place number [] h = absurd (omega arith)
skipped (suc n) place number (octet ∷ rest) h =
    let there : (place + 1) + n ≡ place + suc n = omega arith in
    skipped n (place + 1) number rest (omega arith) ∙ ap (λ (p : ℕ). chain_in p number 0 (drop n rest)) there

-- a header may not pass the end
passes : (n place number : ℕ) (octets : List ℕ) → length octets < n → chain_in place number n octets ≡ None
unfolding chain_in
passes zero place number octets h = absurd (omega arith)
passes (suc n) place number [] h = refl
passes (suc n) place number (octet ∷ rest) h = passes n (place + 1) number rest (omega arith)

-- a header of which octets are missing
pub missing : (octets : List ℕ) → length octets < (get_or octets 1 0 + 1) * 8 → HasNoHeader octets
unfolding chain_in
missing [] short place number sized = rw sized refl
missing (next ∷ []) short place number sized = rw sized refl
missing (next ∷ len ∷ rest) short place number sized =
    rw sized (ap (behind (route_at number (place + 3) (get_or rest 1 0))) (passes (8 * len + 6) (place + 2) next rest (omega arith)))

opened : (next len : ℕ) (rest : List ℕ) (n place number : ℕ) → n ≡ (len + 1) * 8 → n ≤ length (next ∷ len ∷ rest) → is_sized number ≡ true
    → chain_in place number 0 (next ∷ len ∷ rest) ≡ behind (route_at number (place + 3) (get_or rest 1 0)) (chain_in (place + n) next 0 (drop n (next ∷ len ∷ rest)))
unfolding chain_in
opened next len rest n place number e whole sized =
    let split : n ≡ suc (suc (8 * len + 6)) = omega arith in
    let there : place + 2 + (8 * len + 6) ≡ place + n = omega arith in
    let on : chain_in (place + 2) next (8 * len + 6) rest ≡ chain_in (place + n) next 0 (drop n (next ∷ len ∷ rest)) =
    skipped (8 * len + 6) (place + 2) next rest (omega arith) ∙ ap (λ (p : ℕ). chain_in p next 0 (drop (8 * len + 6) rest)) there ∙ ap (λ (xs : List ℕ). chain_in (place + n) next 0 xs) (rw split refl) in
    rw sized (ap (behind (route_at number (place + 3) (get_or rest 1 0))) on)

-- a header that stands whole
pub stands : (octets : List ℕ) (n : ℕ) → n ≡ (get_or octets 1 0 + 1) * 8 → n ≤ length octets → IsFirstHeader (take n octets) octets
stands [] n e whole = absurd (omega arith)
stands (next ∷ []) n e whole = absurd (omega arith)
stands (next ∷ len ∷ rest) n e whole =
    rw (length_is, next_is, count_is) (omega arith, whole, λ place number sized. opened next len rest n place number e whole sized)
  where
    length_is : length (take n (next ∷ len ∷ rest)) ≡ n
    length_is = length-take-le n (next ∷ len ∷ rest) whole

    next_is : get_or (take n (next ∷ len ∷ rest)) 0 0 ≡ next
    next_is = get_or-take n (next ∷ len ∷ rest) 0 0 (omega arith)

    count_is : get_or (take n (next ∷ len ∷ rest)) 3 0 ≡ get_or rest 1 0
    count_is = get_or-take n (next ∷ len ∷ rest) 3 0 (omega arith)

-- behind the last header stands the end
pub tail : (place number : ℕ) (octets : List ℕ) → is_sized number ≡ false → chain_in place number 0 octets ≡ end_of place number octets
unfolding chain_in
tail place number [] last = rw last refl
tail place number (next ∷ []) last = rw last refl
tail place number (next ∷ len ∷ rest) last = rw last refl

or_assoc : (a b c : Option ℕ) → option_or (option_or a b) c ≡ option_or a (option_or b c)
or_assoc None b c = refl
or_assoc (Some x) b c = refl

regrouped : (left here : Option ℕ) (later : Option Chain) → behind (option_or left here) later ≡ behind left (behind here later)
regrouped left here None = refl
regrouped left here (Some chain) = ap (λ (o : Option ℕ). Some (record { upper = chain.upper; start = chain.start; frag = chain.frag; left = o })) (or_assoc left here chain.left)

-- a header more of the chain
pub goes_on : (left here : Option ℕ) (place number : ℕ) (rest header : List ℕ) (all : Option Chain) → IsFirstHeader header rest
    → is_sized number ≡ true → here ≡ route_at number (place + 3) (get_or header 3 0) → behind left (chain_in place number 0 rest) ≡ all
    → behind (option_or left here) (chain_in (place + length header) (get_or header 0 0) 0 (take (length rest - length header) (drop (length header) rest))) ≡ all
goes_on left here place number rest header all first sized e so_far =
    rw (take_rest rest (length header)) (regrouped left here (chain_in (place + length header) (get_or header 0 0) 0 (drop (length header) rest)) ∙ ap (behind left) (ap (λ (o : Option ℕ). behind o (chain_in (place + length header) (get_or header 0 0) 0 (drop (length header) rest))) e ∙ sym (first.2 place number sized)) ∙ so_far)

-- nothing found yet
pub alone : (chain : Option Chain) → behind None chain ≡ chain
alone None = refl
alone (Some chain) = refl

-- the end of the chain, behind what was found
pub is_done : (left : Option ℕ) (place number : ℕ) (rest : List ℕ) (all : Option Chain) → is_sized number ≡ false
    → behind left (chain_in place number 0 rest) ≡ all → behind left (end_of place number rest) ≡ all
is_done left place number rest all last so_far = ap (behind left) (sym (tail place number rest last)) ∙ so_far
