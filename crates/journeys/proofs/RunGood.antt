-- A history that is good over rules of generations of a setup is good over those of all its generations.
use Rattle.std.proofs.Common.{◌≡◌, refl, sym, ap, ◌∙◌, ℕ, zero, suc, ◌<◌, ◌≤◌, ◌⊎◌, inl, inr, Bool, true, false, cond, List, [], ◌∷◌, length, Option, Some, None, subst, arith}
use Rattle.std.specs.Prelude.{◌==◌, unwrap_or, IsSome}
use Rattle.std.specs.Option.{option_or}
use Rattle.std.proofs.lemmas.Bool.{eq-eqb, ne_eqb, eqb-true}
use Rattle.std.proofs.lemmas.List.Folds.{find-append}
use Rattle.octets.specs.declared.prefix.Prefix6.{Prefix6}
use Rattle.nat_model.specs.declared.entry.Entry.{Entry}
use Rattle.nat_model.specs.History.{Reached, outset, book_of, further, IsGoodEntry, AreGoodFrom, IsGood}
use Rattle.nat_model.specs.Machine.{nat}
use Rattle.nat_model.specs.State.{Generation, NatStep}
use Rattle.mapt_setup.specs.declared.setup.Setup.{Setup}
use Rattle.journeys.specs.OneThread.{generation, generations_to, generations, edge_start}
use Rattle.journeys.specs.Run.{AreGenerations, IsGoodAt}

-- ---- a generation among all

none_above : (setup : Setup) (most number : ℕ) → most < number → book_of number (generations_to setup most) ≡ None
none_above setup zero number above = rw (ne_eqb 0 number (λ same. absurd (omega arith))) refl
none_above setup (suc most) number above =
    find-append (λ (b : Generation). b.number == number) (generations_to setup most) (generation setup (suc most) ∷ [])
    ∙ ap (λ (o : Option Generation). option_or o (book_of number (generation setup (suc most) ∷ []))) (none_above setup most number (omega arith))
    ∙ rw (ne_eqb (suc most) number (λ same. absurd (omega arith))) refl

last_or_before : (number most : ℕ) → number ≤ suc most → (number ≤ most) ⊎ (number ≡ suc most)
last_or_before number most low = by (number == suc most) refl
  where
    by : (b : Bool) → (number == suc most) ≡ b → (number ≤ most) ⊎ (number ≡ suc most)
    by true is = inr (eqb-true number (suc most) is)
    by false is = inl (grind (arith, eq-eqb number (suc most)))

book_at : (setup : Setup) (most number : ℕ) → number ≤ most → book_of number (generations_to setup most) ≡ Some (generation setup number)
book_at setup zero number low =
    let none : 0 ≡ number = omega arith in
    rw (eq-eqb 0 number none) (ap (λ (n : ℕ). Some (generation setup n)) none)
book_at setup (suc most) number low = by (last_or_before number most low) (book_at setup most number)
  where
    parts : book_of number (generations_to setup (suc most)) ≡ option_or (book_of number (generations_to setup most)) (book_of number (generation setup (suc most) ∷ []))
    parts = find-append (λ (b : Generation). b.number == number) (generations_to setup most) (generation setup (suc most) ∷ [])

    by : (number ≤ most) ⊎ (number ≡ suc most) → (number ≤ most → book_of number (generations_to setup most) ≡ Some (generation setup number))
        → book_of number (generations_to setup (suc most)) ≡ Some (generation setup number)
    by (inl under) before =
        parts ∙ ap (λ (o : Option Generation). option_or o (book_of number (generation setup (suc most) ∷ []))) (before under)
    by (inr last) before =
        parts
        ∙ ap (λ (o : Option Generation). option_or o (book_of number (generation setup (suc most) ∷ []))) (none_above setup most number (omega arith))
        ∙ rw (eq-eqb (suc most) number (sym last)) (ap (λ (n : ℕ). Some (generation setup n)) (sym last))

-- ---- one of these

found_generation : (setup : Setup) (books : List Generation) (number : ℕ) (b : Generation) → AreGenerations setup books → book_of number books ≡ Some b
    → (b ≡ generation setup number) × (number ≤ length setup.changes)
found_generation setup [] number b are found = absurd (cc)
found_generation setup (book ∷ books) number b are found =
    by (book.number == number) refl found (found_generation setup books number b (λ k d within. are (suc k) d (omega arith)))
  where
    some : (x y : Generation) → Some x ≡ Some y → x ≡ y
    some x y equal = cc

    by : (t : Bool) → (book.number == number) ≡ t → cond t (Some book) (book_of number books) ≡ Some b
        → (book_of number books ≡ Some b → (b ≡ generation setup number) × (number ≤ length setup.changes))
        → (b ≡ generation setup number) × (number ≤ length setup.changes)
    by true is here later =
        let same = eqb-true book.number number is in
        let this = are 0 book (omega arith) in
        (sym (some book b here) ∙ this.0 ∙ ap (generation setup) same, subst (λ (n : ℕ). n ≤ length setup.changes) same this.1)
    by false is here later = later here

same_book : (setup : Setup) (books : List Generation) (number : ℕ) → AreGenerations setup books → IsSome (book_of number books)
    → book_of number books ≡ book_of number (generations setup)
same_book setup books number are some = by (book_of number books) refl some
  where
    by : (o : Option Generation) → book_of number books ≡ o → IsSome o → book_of number books ≡ book_of number (generations setup)
    by None is nothing = absurd (cc)
    by (Some b) is something =
        let found = found_generation setup books number b are is in
        is ∙ ap Some found.0 ∙ sym (book_at setup (length setup.changes) number found.1)

-- ---- a history

module _ (setup : Setup) (books : List Generation) (are : AreGenerations setup books) (prefix : Prefix6) where
  -- the step of an entry, by the rules that are found
  abbrev step_by : Reached → Entry → Option Generation → NatStep
  step_by r e found = nat prefix r.state (record { seen = unwrap_or found r.state.book; now = e.now; place = r.place }) e.ask

  pub good_over : (r : Reached) (entries : List Entry) → AreGoodFrom nat prefix books r entries → AreGoodFrom nat prefix (generations setup) r entries
  good_over r [] good = tt
  good_over r (e ∷ entries) good =
      let same = same_book setup books e.mark.used are good.0.book in
      let first : IsGoodEntry nat prefix (generations setup) r e = record {
        answer = good.0.answer ∙ ap (λ (o : Option Generation). (step_by r e o).answer) same;
        used = good.0.used;
        book = subst (λ (o : Option Generation). IsSome o) same good.0.book;
      } in
      let on : further nat prefix books r e ≡ further nat prefix (generations setup) r e =
      ap (λ (o : Option Generation). record { place = suc r.place; used = e.mark.used; state = (step_by r e o).after }) same in
      (first, subst (λ (x : Reached). AreGoodFrom nat prefix (generations setup) x entries) on (good_over (further nat prefix books r e) entries good.1))

pub good_at : (setup : Setup) (number : ℕ) (entries : List Entry) (good : IsGoodAt setup number entries)
    → IsGood nat (edge_start setup number good.0) (generations setup) entries
good_at setup number entries (line, there, (books, are, good)) =
    good_over setup books are (edge_start setup number line).prefix (outset (edge_start setup number line)) entries good
