-- The test of captures tells exactly whether they fit.
use Rattle.std.proofs.Common.{◌≡◌, ℕ, zero, suc, ◌<◌, Bool, true, false, List, [], ◌∷◌, length, get_or, take, refl, sym, ap, subst, ◌∙◌, arith, Option, Some, None}
use Rattle.std.specs.Prelude.{◌↔◌, ◌&&◌, ◌||◌, IsTrue, is_none}
use Rattle.std.specs.List.{All, AllPairs, list_all, list_any}
use Rattle.std.proofs.lemmas.Bool.{and_parts, leb-true, le-leb, ltb-true, lt-ltb}
use Rattle.std.proofs.lemmas.List.{get_or-take, get_or_default, length-take-le}
use Rattle.pcap_files.specs.declared.records.Record.{Record}
use Rattle.pcap_files.specs.Written.{IsWritable, is_writable}
use Rattle.mapt_setup.specs.declared.capture.Capture.{Capture}
use Rattle.mapt_setup.specs.declared.setup.Setup.{Setup}
use Rattle.mapt_setup.specs.Beside.{first_after}
use Rattle.mapt_setup.specs.Fit.{is_side_of, same_side, has_side_of, is_fitting, FitsSetup}
use Rattle.mapt_setup.proofs.FirstBeside.{none-is, is-none}
use Rattle.mapt_setup.proofs.ValidForwards.{all_fail}

-- a test of each element
all_true : {A : Type 0} (p : A → Bool) (xs : List A) → list_all p xs ≡ true → All (λ x. IsTrue (p x)) xs
all_true p [] e k d within = absurd (omega arith)
all_true p (x ∷ xs) e zero d within = (and_parts (p x) (list_all p xs) e).0
all_true p (x ∷ xs) e (suc k) d within = all_true p xs (and_parts (p x) (list_all p xs) e).1 k d (omega arith)

both_true : (a b : Bool) → a ≡ true → b ≡ true → (a && b) ≡ true
both_true a b e f = rw (e, f) refl

true_all : {A : Type 0} (p : A → Bool) (xs : List A) → All (λ x. IsTrue (p x)) xs → list_all p xs ≡ true
true_all p [] all = refl
true_all p (x ∷ xs) all = both_true (p x) (list_all p xs) (all 0 x (omega arith)) (true_all p xs (λ k d within. all (suc k) d (omega arith)))

writable_told : (r : Record) → is_writable r ≡ true → IsWritable r
writable_told r e =
    let p = and_parts _ _ e in
    (leb-true _ _ p.0, ltb-true _ _ p.1)

writable_tells : (r : Record) → IsWritable r → is_writable r ≡ true
writable_tells r w = both_true _ _ (le-leb _ _ w.0) (lt-ltb _ _ w.1)

none_test : (o : Option ℕ) → is_none o ≡ true → o ≡ None
none_test None e = refl
none_test (Some i) e = cc

test_none : (o : Option ℕ) → o ≡ None → is_none o ≡ true
test_none o e = rw e refl

once_pairs : (captures : List Capture) → first_after has_side_of captures ≡ None → AllPairs (λ (c d : Capture). ¬ IsTrue (same_side c.side d.side)) captures
once_pairs captures none i j d before within =
    let never = none-is has_side_of captures none j d within in
    let short : i < length (take j captures) = omega (arith, length-take-le j captures (omega arith)) in
    let fails = all_fail (λ (other : Capture). same_side other.side (get_or captures j d).side) (take j captures) never i d short in
    let same : get_or (take j captures) i d ≡ get_or captures i d = get_or-take j captures i d before in
    subst (λ (c : Capture). ¬ IsTrue (same_side c.side (get_or captures j d).side)) same fails

none_any : {A : Type 0} (test : A → Bool) (xs : List A) → ((k : ℕ) (d : A) → k < length xs → ¬ (test (get_or xs k d) ≡ true)) → ¬ (list_any test xs ≡ true)
none_any test [] never found = cc
none_any test (x ∷ xs) never found = here (test x) refl found (none_any test xs (λ k d within. never (suc k) d (omega arith)))
  where
    here : (b : Bool) → test x ≡ b → (b || list_any test xs) ≡ true → ¬ (list_any test xs ≡ true) → ⊥
    here true e f rest = never 0 x (omega arith) e
    here false e f rest = rest f

pairs_once : (captures : List Capture) → AllPairs (λ (c d : Capture). ¬ IsTrue (same_side c.side d.side)) captures → first_after has_side_of captures ≡ None
pairs_once captures pairs = is-none has_side_of captures (first_after has_side_of captures) refl (λ j d within.
    none_any (λ (other : Capture). same_side other.side (get_or captures j d).side) (take j captures) (λ i e below found.
    let short : length (take j captures) ≡ j = length-take-le j captures (omega arith) in
    let before : i < j = omega arith in
    let same : get_or (take j captures) i e ≡ get_or captures i e = get_or-take j captures i e before in
    pairs_at i j e d before within (ap (λ (c : Capture). same_side c.side (get_or captures j d).side) (sym same) ∙ found)))
  where
    pairs_at : (i j : ℕ) (e d : Capture) → i < j → j < length captures → same_side (get_or captures i e).side (get_or captures j d).side ≡ true → ⊥
    pairs_at i j e d before within found = pairs i j d before within (ap (λ (c : Capture). same_side c.side (get_or captures j d).side) (get_or_default captures i d e (omega arith)) ∙ found)

pub fits_exactly : (setup : Setup) (captures : List Capture)
    → IsTrue (is_fitting setup captures) ↔ FitsSetup setup captures
fits_exactly setup captures = (
  λ e.
      let a = and_parts _ _ e in
      let b = and_parts _ _ a.1 in
      let d = and_parts _ _ b.1 in
      record {
        sides = all_true (λ (c : Capture). is_side_of setup c.side) captures a.0;
        once = once_pairs captures (none_test _ b.0);
        few = leb-true _ _ d.0;
        writable = λ k c within i r short. writable_told _ (all_true is_writable _ (all_true (λ (x : Capture). list_all is_writable x.records) captures d.1 k c within) i r short);
      },
  λ fit.
      both_true _ _ (true_all (λ (c : Capture). is_side_of setup c.side) captures fit.sides) (both_true _ _ (test_none _ (pairs_once captures fit.once)) (both_true _ _ (le-leb _ _ fit.few) (true_all (λ (x : Capture). list_all is_writable x.records) captures (λ k c within. true_all is_writable _ (λ i r short. writable_tells _ (fit.writable k c within i r short)))))),
)
