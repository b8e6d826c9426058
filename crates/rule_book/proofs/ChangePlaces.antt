-- The places that the refusal of a change names are the least.
use Rattle.std.proofs.Common.{◌≡◌, ℕ, Bool, true, false, cond, List, subst, inl, inr}
use Rattle.std.specs.Prelude.{Some, None, is_some, nat_lt, length}
use Rattle.std.specs.Option.{option_or}
use Rattle.std.specs.List.{position}
use Rattle.std.proofs.lemmas.Option.{none-some}
use Rattle.octets.specs.Place.{IsFirstPlace}
use Rattle.octets.proofs.Places.{position-exactly}
use Rattle.map_rules.specs.declared.rule.Rule.{Rule}
use Rattle.map_rules.specs.declared.dmr.Dmr.{Dmr}
use Rattle.rule_book.specs.declared.change.Change.{Change}
use Rattle.rule_book.specs.declared.change.Change.TheVariants.{Add, Remove, Replace}
use Rattle.rule_book.specs.declared.fault.BookFault.{BookFault}
use Rattle.rule_book.specs.declared.fault.BookFault.TheVariants.{TooManyRules, NoSuchRule, RuleThere, Overlap4, Overlap6, OverlapDmr, NoMemory}
use Rattle.rule_book.specs.Valid.{clash4, clash6, clash_dmr}
use Rattle.rule_book.specs.Refusal.{too_many, overlap_of}
use Rattle.rule_book.specs.Change.{same_rule, place_of, no_such, already, misfit_of, rules_after, change_refusal}
use Rattle.rule_book.specs.Least.{IsLeastPair}
use Rattle.rule_book.proofs.LeastPlaces.{or-Some, map-Some, many-fault, four, six, dmr_at, four-kind, six-kind, dmr-kind, overlap4-found, overlap6-found, overlap_dmr-found}

-- a fault that is tested before prefixes are compared
abbrev IsMisfit : BookFault → Type 0
IsMisfit TooManyRules = Unit {0}
IsMisfit NoSuchRule = Unit {0}
IsMisfit (RuleThere i) = Unit {0}
IsMisfit (Overlap4 i j) = ⊥
IsMisfit (Overlap6 i j) = ⊥
IsMisfit (OverlapDmr i) = ⊥
IsMisfit NoMemory = ⊥

is_misfit : (fault other : BookFault) → IsMisfit fault → fault ≡ other → IsMisfit other
is_misfit fault other is same = subst (λ f. IsMisfit f) same is

missing-fault : (b : Bool) (fault : BookFault) → cond b None (Some NoSuchRule) ≡ Some fault → NoSuchRule ≡ fault
missing-fault true fault e = absurd (none-some fault e)
missing-fault false fault e = cc

no_such-fault : (change : Change) (rules : List Rule) (fault : BookFault) → no_such change rules ≡ Some fault → IsMisfit fault
no_such-fault (Add rule) rules fault e = absurd (none-some fault e)
no_such-fault (Remove prefix) rules fault e = is_misfit NoSuchRule fault tt (missing-fault (is_some (place_of prefix rules)) fault e)
no_such-fault (Replace prefix rule) rules fault e = is_misfit NoSuchRule fault tt (missing-fault (is_some (place_of prefix rules)) fault e)

already-fault : (change : Change) (rules : List Rule) (fault : BookFault) → already change rules ≡ Some fault → IsMisfit fault
already-fault (Add rule) rules fault e =
    let place = map-Some RuleThere (position (λ r. same_rule r rule) rules) fault e in
    is_misfit (RuleThere place.0) fault tt place.2
already-fault (Remove prefix) rules fault e = absurd (none-some fault e)
already-fault (Replace prefix rule) rules fault e = absurd (none-some fault e)

misfit-fault : (change : Change) (rules : List Rule) (fault : BookFault) → misfit_of change rules ≡ Some fault → IsMisfit fault
misfit-fault change rules fault e =
    elim (or-Some (too_many (rules_after change rules)) (option_or (no_such change rules) (already change rules)) fault e) [
      | inl many ↦ is_misfit TooManyRules fault tt (many-fault (nat_lt 256 (length (rules_after change rules))) fault many)
      | inr few ↦ elim (or-Some (no_such change rules) (already change rules) fault few.1) [
        | inl none ↦ no_such-fault change rules fault none
        | inr there ↦ already-fault change rules fault there.1
      ]
    ]

overlap-fault : (rules : List Rule) (dmr : Dmr) (fault : BookFault) → overlap_of rules dmr ≡ Some fault → ¬ IsMisfit fault
overlap-fault rules dmr fault e =
    let Other : BookFault → Type 0 = λ f. ¬ IsMisfit f in
    elim (or-Some (four rules) (option_or (six rules) (dmr_at rules dmr)) fault e) [
      | inl found ↦ (let kind = four-kind rules fault found in subst Other kind.2 (λ h. h))
      | inr past ↦ elim (or-Some (six rules) (dmr_at rules dmr) fault past.1) [
        | inl found ↦ (let kind = six-kind rules fault found in subst Other kind.2 (λ h. h))
        | inr found ↦ (let kind = dmr-kind rules dmr fault found.1 in subst Other kind.1 (λ h. h))
      ]
    ]

-- a fault of overlap comes of the rules after the change
after-fault : (change : Change) (rules : List Rule) (dmr : Dmr) (fault : BookFault) → ¬ IsMisfit fault → change_refusal change rules dmr ≡ Some fault → overlap_of (rules_after change rules) dmr ≡ Some fault
after-fault change rules dmr fault other e =
    elim (or-Some (misfit_of change rules) (overlap_of (rules_after change rules) dmr) fault e) [
      | inl misfit ↦ absurd (other (misfit-fault change rules fault misfit))
      | inr past ↦ past.1
    ]

pub change-overlap4 : (change : Change) (rules : List Rule) (dmr : Dmr) (i j : ℕ) → change_refusal change rules dmr ≡ Some (Overlap4 i j) → IsLeastPair clash4 (rules_after change rules) i j
change-overlap4 change rules dmr i j e = overlap4-found (rules_after change rules) dmr i j (after-fault change rules dmr (Overlap4 i j) (λ h. h) e)

pub change-overlap6 : (change : Change) (rules : List Rule) (dmr : Dmr) (i j : ℕ) → change_refusal change rules dmr ≡ Some (Overlap6 i j) → IsLeastPair clash6 (rules_after change rules) i j
change-overlap6 change rules dmr i j e = overlap6-found (rules_after change rules) dmr i j (after-fault change rules dmr (Overlap6 i j) (λ h. h) e)

pub change-overlap_dmr : (change : Change) (rules : List Rule) (dmr : Dmr) (i : ℕ) → change_refusal change rules dmr ≡ Some (OverlapDmr i) → IsFirstPlace (clash_dmr dmr) (rules_after change rules) i
change-overlap_dmr change rules dmr i e = overlap_dmr-found (rules_after change rules) dmr i (after-fault change rules dmr (OverlapDmr i) (λ h. h) e)

-- the rule that stands already
many≢there : (i : ℕ) → ¬ (TooManyRules ≡ RuleThere i)
many≢there i e = cc

pub change-there : (rule : Rule) (rules : List Rule) (dmr : Dmr) (i : ℕ) → change_refusal (Add rule) rules dmr ≡ Some (RuleThere i) → IsFirstPlace (λ r. same_rule r rule) rules i
change-there rule rules dmr i e =
    let same : Rule → Bool = λ r. same_rule r rule in
    elim (or-Some (misfit_of (Add rule) rules) (overlap_of (rules_after (Add rule) rules) dmr) (RuleThere i) e) [
      | inr past ↦ absurd (overlap-fault (rules_after (Add rule) rules) dmr (RuleThere i) past.1 tt)
      | inl misfit ↦ elim (or-Some (too_many (rules_after (Add rule) rules)) (already (Add rule) rules) (RuleThere i) misfit) [
        | inl many ↦ absurd (many≢there i (many-fault (nat_lt 256 (length (rules_after (Add rule) rules))) (RuleThere i) many))
        | inr few ↦
            let place = map-Some RuleThere (position same rules) (RuleThere i) few.1 in
            let at : place.0 ≡ i = (let same_place = place.2 in cc) in
            let First : ℕ → Type 0 = λ n. IsFirstPlace same rules n in
            subst First at ((position-exactly same rules place.0).0 place.1)
      ]
    ]
