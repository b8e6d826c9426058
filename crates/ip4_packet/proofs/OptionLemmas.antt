-- Walking options one after the other, as a loop does.
use Rattle.std.proofs.Common.{◌≡◌, ℕ, zero, suc, ◌-◌, ◌<◌, ◌≤◌, Bool, true, false, cond, ◌||◌, ◌&&◌, leb, List, [], ◌∷◌, length, get_or, take, drop, Option, None, Some, ◌⊎◌, inl, inr, refl, sym, ap, ◌∙◌, arith}
use Rattle.std.proofs.lemmas.Bool.{le-ltb, lt-ltb, ne_eqb, eq-eqb}
use Rattle.std.proofs.lemmas.List.{length-take-le, get_or-take, take_rest}
use Rattle.ip4_packet.specs.Options.{is_source_route, least_length, is_unspent, beside, routed_in, IsFirstOption}

-- an option that began goes on for as long as it says
pub skipped : (n : ℕ) (octets : List ℕ) → n ≤ length octets → routed_in n octets ≡ routed_in 0 (drop n octets)
unfolding routed_in
skipped zero octets h = refl
skipped (suc n) [] h = absurd (omega arith)
skipped (suc n) (octet ∷ rest) h = skipped n rest (omega arith)

-- an option may not pass the end
pub passes : (n : ℕ) (octets : List ℕ) → length octets < n → routed_in n octets ≡ None
unfolding routed_in
passes zero octets h = absurd (omega arith)
passes (suc n) [] h = refl
passes (suc n) (octet ∷ rest) h = passes n rest (omega arith)

-- every option with a length octet has at least two octets
pub two_or_more : (kind : ℕ) → 2 ≤ least_length kind
two_or_more kind = elim (is_source_route kind) as (λ b. 2 ≤ cond b 3 2) [ true ↦ omega arith | false ↦ omega arith ]

-- a pointer counts in a source route alone
pub unspent_alike : (kind len p q : ℕ) → (3 ≤ least_length kind → p ≡ q) → is_unspent kind len p ≡ is_unspent kind len q
unspent_alike kind len p q =
    elim (is_source_route kind) as (λ b. (3 ≤ cond b 3 2 → p ≡ q) → (b && leb p len) ≡ (b && leb q len)) [
      | true ↦ (λ (same : 3 ≤ 3 → p ≡ q). ap (λ (x : ℕ). leb x len) (same (omega arith)))
      | false ↦ (λ (same : 3 ≤ 2 → p ≡ q). refl)
    ]

-- the end of the list
pub ends : (octets : List ℕ) → (length octets ≡ 0) ⊎ (get_or octets 0 0 ≡ 0) → routed_in 0 octets ≡ Some false
unfolding routed_in
ends [] h = refl
ends (kind ∷ []) (inl h) = absurd (omega arith)
ends (kind ∷ []) (inr h) = rw (eq-eqb kind 0 h) refl
ends (kind ∷ len ∷ rest) (inl h) = absurd (omega arith)
ends (kind ∷ len ∷ rest) (inr h) = rw (eq-eqb kind 0 h) refl

-- an option of one octet
pub passed_over : (octets : List ℕ) → get_or octets 0 0 ≡ 1 → routed_in 0 octets ≡ routed_in 0 (drop 1 octets)
unfolding routed_in
passed_over [] h = absurd (omega arith)
passed_over (kind ∷ []) h = rw (ne_eqb kind 0 (omega arith), eq-eqb kind 1 h) refl
passed_over (kind ∷ len ∷ rest) h = rw (ne_eqb kind 0 (omega arith), eq-eqb kind 1 h) refl

-- an option without a length octet
pub unsized : (octets : List ℕ) → length octets ≤ 1 → 2 ≤ get_or octets 0 0 → routed_in 0 octets ≡ None
unfolding routed_in
unsized [] few large = absurd (omega arith)
unsized (kind ∷ []) few large = rw (ne_eqb kind 0 (omega arith), ne_eqb kind 1 (omega arith)) refl
unsized (kind ∷ len ∷ rest) few large = absurd (omega arith)

-- an option that is too short
pub too_short : (octets : List ℕ) → 1 < length octets → 2 ≤ get_or octets 0 0
    → get_or octets 1 0 < least_length (get_or octets 0 0) → routed_in 0 octets ≡ None
unfolding routed_in
too_short [] many large short = absurd (omega arith)
too_short (kind ∷ []) many large short = absurd (omega arith)
too_short (kind ∷ len ∷ rest) many large short =
    rw (ne_eqb kind 0 (omega arith), ne_eqb kind 1 (omega arith), lt-ltb len (least_length kind) short) refl

-- an option of its own length
pub opens : (kind len : ℕ) (rest : List ℕ) → 2 ≤ kind → least_length kind ≤ len
    → routed_in 0 (kind ∷ len ∷ rest) ≡ beside (is_unspent kind len (get_or rest 0 0)) (routed_in (len - 2) rest)
unfolding routed_in
opens kind len rest large fits =
    rw (ne_eqb kind 0 (omega arith), ne_eqb kind 1 (omega arith), le-ltb len (least_length kind) fits) refl

-- an option that passes the end
pub too_long : (octets : List ℕ) → 1 < length octets → 2 ≤ get_or octets 0 0
    → least_length (get_or octets 0 0) ≤ get_or octets 1 0 → length octets < get_or octets 1 0
    → routed_in 0 octets ≡ None
too_long [] many large fits long = absurd (omega arith)
too_long (kind ∷ []) many large fits long = absurd (omega arith)
too_long (kind ∷ len ∷ rest) many large fits long =
    let none = passes (len - 2) rest (omega arith) in
    opens kind len rest large fits ∙ ap (beside (is_unspent kind len (get_or rest 0 0))) none

behind : (kind len : ℕ) (rest : List ℕ) (n : ℕ) → 2 ≤ len → n ≡ len → drop (len - 2) rest ≡ drop n (kind ∷ len ∷ rest)
behind kind len rest n two e =
    let split : n ≡ suc (suc (len - 2)) = omega arith in
    rw split refl

or_assoc : (a b c : Bool) → (a || b) || c ≡ a || (b || c)
or_assoc true b c = refl
or_assoc false b c = refl

regrouped : (found here : Bool) (later : Option Bool) → beside (found || here) later ≡ beside found (beside here later)
regrouped found here None = refl
regrouped found here (Some b) = ap Some (or_assoc found here b)

-- an option that stands whole
pub stands : (octets : List ℕ) (n : ℕ) → n ≡ get_or octets 1 0 → 1 < length octets → 2 ≤ get_or octets 0 0
    → least_length (get_or octets 0 0) ≤ n → n ≤ length octets → IsFirstOption (take n octets) octets
stands [] n e many large fits whole = absurd (omega arith)
stands (kind ∷ []) n e many large fits whole = absurd (omega arith)
stands (kind ∷ len ∷ rest) n e many large fits whole =
    let two = two_or_more kind in
    let len_is = length-take-le n (kind ∷ len ∷ rest) whole in
    let kind_is = get_or-take n (kind ∷ len ∷ rest) 0 0 (omega arith) in
    let length_is = get_or-take n (kind ∷ len ∷ rest) 1 0 (omega arith) in
    let pointer_is = unspent_alike kind len (get_or rest 0 0) (get_or (take n (kind ∷ len ∷ rest)) 2 0) (λ (three : 3 ≤ least_length kind). sym (get_or-take n (kind ∷ len ∷ rest) 2 0 (omega arith))) in
    rw (len_is, kind_is, length_is)
    ((omega arith, fits), whole, opens kind len rest large (omega arith) ∙ ap (λ (b : Bool). beside b (routed_in (len - 2) rest)) pointer_is ∙ ap (beside (is_unspent kind len (get_or (take n (kind ∷ len ∷ rest)) 2 0))) (skipped (len - 2) rest (omega arith) ∙ ap (routed_in 0) (behind kind len rest n (omega arith) e)))

-- what was found, and nothing behind it
alone : (found : Bool) → found || false ≡ found
alone true = refl
alone false = refl

pub goes_on : (found : Bool) (left : List ℕ) (all : Option Bool) → get_or left 0 0 ≡ 1
    → beside found (routed_in 0 left) ≡ all → beside found (routed_in 0 (take (length left - 1) (drop 1 left))) ≡ all
goes_on found left all one so_far =
    rw (take_rest left 1, ← passed_over left one) so_far

pub is_done : (found : Bool) (left : List ℕ) (all : Option Bool) → (length left ≡ 0) ⊎ (get_or left 0 0 ≡ 0)
    → beside found (routed_in 0 left) ≡ all → Some found ≡ all
is_done found left all end so_far = ap Some (sym (alone found)) ∙ sym (ap (beside found) (ends left end)) ∙ so_far

pub one_more : (found here : Bool) (left : List ℕ) (all : Option Bool) (option : List ℕ) → IsFirstOption option left
    → here ≡ is_unspent (get_or option 0 0) (get_or option 1 0) (get_or option 2 0)
    → beside found (routed_in 0 left) ≡ all
    → beside (found || here) (routed_in 0 (take (length left - length option) (drop (length option) left))) ≡ all
one_more found here left all option first e so_far =
    rw (take_rest left (length option)) (regrouped found here (routed_in 0 (drop (length option) left)) ∙ ap (beside found) (ap (λ (b : Bool). beside b (routed_in 0 (drop (length option) left))) e ∙ sym first.2) ∙ so_far)
