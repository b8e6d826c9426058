-- Cutting octets into options, one after the other.
use Rattle.std.proofs.Common.{inl, inr, ◌≡◌, ℕ, zero, suc, ◌+◌, ◌-◌, ◌≤◌, true, false, List, [], ◌∷◌, ◌++◌, length, drop, refl, sym, ap, ◌∙◌, arith, append_assoc}
use Rattle.std.proofs.lemmas.Bool.{and_parts, leb-true, cases_Bool}
use Rattle.std.proofs.lemmas.List.{length-drop, append-nil}
use Rattle.octets.specs.Field.{word}
use Rattle.s46_options.specs.Options.{DhcpOption, Cut, starts_whole, first_option, behind, cut_most, cut}

-- options that were cut before, and what is still cut
abbrev pub after : List DhcpOption → Cut → Cut
after options parts = record { options = options ++ parts.options; left = parts.left }

pub whole_len : (octets : List ℕ) → starts_whole octets ≡ true → (4 ≤ length octets) × (4 + word octets 2 ≤ length octets)
whole_len octets h =
    let both = and_parts _ _ h in
    (leb-true _ _ both.0, leb-true _ _ both.1)

pub cut_stops : (n : ℕ) (octets : List ℕ) → starts_whole octets ≡ false → cut_most n octets ≡ record { options = []; left = octets }
unfolding cut_most
cut_stops zero octets h = refl
cut_stops (suc n) octets h = rw h refl

pub cut_goes : (n : ℕ) (octets : List ℕ) → starts_whole octets ≡ true → cut_most (suc n) octets ≡ behind (first_option octets) (cut_most n (drop (4 + word octets 2) octets))
unfolding cut_most
cut_goes n octets h = rw h refl

-- more leave than there are octets cuts no more
pub cut_enough : (n m : ℕ) (octets : List ℕ) → length octets ≤ n → length octets ≤ m → cut_most n octets ≡ cut_most m octets
cut_enough zero m octets hn hm =
    elim (cases_Bool (starts_whole octets)) [
      | inl h ↦ absurd (let w = whole_len octets h in omega (arith, w.0))
      | inr h ↦ cut_stops zero octets h ∙ sym (cut_stops m octets h)
    ]
cut_enough (suc n) zero octets hn hm =
    elim (cases_Bool (starts_whole octets)) [
      | inl h ↦ absurd (let w = whole_len octets h in omega (arith, w.0))
      | inr h ↦ cut_stops (suc n) octets h ∙ sym (cut_stops zero octets h)
    ]
cut_enough (suc n) (suc m) octets hn hm =
    elim (cases_Bool (starts_whole octets)) [
      | inl h ↦
          let w = whole_len octets h in
          let rest = drop (4 + word octets 2) octets in
          let len : length rest ≡ length octets - (4 + word octets 2) = length-drop (4 + word octets 2) octets in
          cut_goes n octets h
          ∙ ap (behind (first_option octets)) (cut_enough n m rest (omega (arith, w.0, len)) (omega (arith, w.0, len)))
          ∙ sym (cut_goes m octets h)
      | inr h ↦ cut_stops (suc n) octets h ∙ sym (cut_stops (suc m) octets h)
    ]

pub cut_first : (octets : List ℕ) → starts_whole octets ≡ true → cut octets ≡ behind (first_option octets) (cut (drop (4 + word octets 2) octets))
cut_first octets h =
    let w = whole_len octets h in
    let n = length octets - 1 in
    let rest = drop (4 + word octets 2) octets in
    let len : length rest ≡ length octets - (4 + word octets 2) = length-drop (4 + word octets 2) octets in
    let one : length octets ≡ suc n = omega (arith, w.0) in
    ap (λ (k : ℕ). cut_most k octets) one
    ∙ cut_goes n octets h
    ∙ ap (behind (first_option octets)) (cut_enough n (length rest) rest (omega (arith, w.0, len)) (omega arith))

-- one more option is cut
pub goes_on : (total : Cut) (before : List DhcpOption) (octets : List ℕ) → total ≡ after before (cut octets) → starts_whole octets ≡ true → total ≡ after (before ++ first_option octets ∷ []) (cut (drop (4 + word octets 2) octets))
goes_on total before octets h w =
    let rest = cut (drop (4 + word octets 2) octets) in
    let joined : before ++ (first_option octets ∷ rest.options) ≡ (before ++ first_option octets ∷ []) ++ rest.options = simp append_assoc in
    h ∙ ap (after before) (cut_first octets w) ∙ ap (λ (options : List DhcpOption). let parts : Cut = record { options = options; left = rest.left } in parts) joined

-- nothing whole is left
pub ends : (total : Cut) (before : List DhcpOption) (octets : List ℕ) → total ≡ after before (cut octets) → starts_whole octets ≡ false → total ≡ record { options = before; left = octets }
ends total before octets h w =
    h ∙ ap (after before) (cut_stops (length octets) octets w) ∙ ap (λ (options : List DhcpOption). let parts : Cut = record { options = options; left = octets } in parts) (append-nil before)
