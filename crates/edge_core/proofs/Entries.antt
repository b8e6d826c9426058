-- One more entry of an edge's history.
use Rattle.std.proofs.Common.{◌≡◌, ℕ, suc, ◌+◌, ◌<◌, ◌≤◌, List, [], ◌∷◌, ◌++◌, length, max, Option, Some, None, cond, is_some, refl, sym, ap, subst, ◌∙◌, add-zero, arith}
use Rattle.std.proofs.lemmas.List.{append-nil, map-append}
use Rattle.std.specs.Prelude.{unwrap_or}
use Rattle.std.specs.Option.{IsSome, MatchOption, option_to_list, option_map}
use Rattle.std.proofs.lemmas.Bool.{le-ltb, eq-eqb}
use Rattle.std.proofs.lemmas.List.Elements.{All-cons, All-nil}
use Rattle.octets.specs.declared.prefix.Prefix6.{Prefix6}
use Rattle.nat_model.specs.declared.ask.Ask.{Ask}
use Rattle.nat_model.specs.declared.entry.Entry.{Entry}
use Rattle.nat_model.specs.State.{Generation, NatState, NatStep, generation_in}
use Rattle.nat_model.specs.Machine.{nat, renewed}
use Rattle.nat_model.specs.History.{EdgeStart, Reached, outset, book_of, entry_step, further, replay_from, replay, IsGoodEntry, AreGoodFrom, IsGood}
use Rattle.rule_book.specs.declared.book.Book.{Book}
use Rattle.nat_model.specs.Sound.{IsSound}
use Rattle.edge_core.specs.Shown.{EdgeShown, KeepsEdge}
use Rattle.edge_core.specs.Used.{AreUsed, used_books}
use Rattle.edge_core.proofs.Books.{book_of-more, book_of-number, book_of-newest, AreUsed-newest}

-- rules that aren't newer aren't used
renewed-old : (prefix : Prefix6) (seen : Generation) (s : NatState) → seen.number ≤ s.book.number → renewed prefix seen s ≡ s
unfolding renewed
renewed-old prefix seen s old = rw (le-ltb s.book.number seen.number old) refl

-- two steps that see rules neither of which is newer are the same
nat-old : (prefix : Prefix6) (s : NatState) (a b : Generation) (now place : ℕ) (ask : Ask) → a.number ≤ s.book.number → b.number ≤ s.book.number → nat prefix s (record { seen = a; now = now; place = place }) ask ≡ nat prefix s (record { seen = b; now = now; place = place }) ask
unfolding nat
nat-old prefix s a b now place ask old_a old_b = rw (renewed-old prefix a s old_a, renewed-old prefix b s old_b) refl

module _ (prefix : Prefix6) (books more : List Generation) where
  further-more : (r : Reached) (e : Entry) → IsGoodEntry nat prefix books r e → further nat prefix (books ++ more) r e ≡ further nat prefix books r e
  further-more r e good =
      let found = book_of-more e.mark.used books more good.book in
      ap (λ o. record { place = suc r.place; used = e.mark.used; state = (nat prefix r.state (record { seen = unwrap_or o r.state.book; now = e.now; place = r.place }) e.ask).after }) found

  entry-more : (r : Reached) (e : Entry) → IsGoodEntry nat prefix books r e → IsGoodEntry nat prefix (books ++ more) r e
  entry-more r e good =
      let found = book_of-more e.mark.used books more good.book in
      let same = ap (λ o. (nat prefix r.state (record { seen = unwrap_or o r.state.book; now = e.now; place = r.place }) e.ask).answer) found in
      record { answer = good.answer ∙ sym same; used = good.used; book = ap is_some found ∙ good.book }

  -- more rules change nothing for entries that are good
  replay-more : (r : Reached) (entries : List Entry) → AreGoodFrom nat prefix books r entries → replay_from nat prefix (books ++ more) r entries ≡ replay_from nat prefix books r entries
  replay-more r [] good = refl
  replay-more r (e ∷ entries) good =
      ap (λ s. replay_from nat prefix (books ++ more) s entries) (further-more r e good.0) ∙ replay-more (further nat prefix books r e) entries good.1

  good-more : (r : Reached) (entries : List Entry) → AreGoodFrom nat prefix books r entries → AreGoodFrom nat prefix (books ++ more) r entries
  good-more r [] good = tt
  good-more r (e ∷ entries) good =
      let P : Reached → Type 0 = λ s. AreGoodFrom nat prefix (books ++ more) s entries in
      (entry-more r e good.0, subst P (sym (further-more r e good.0)) (good-more (further nat prefix books r e) entries good.1))

module _ (prefix : Prefix6) (books : List Generation) where
  -- as many places as entries
  place-is : (r : Reached) (entries : List Entry) → (replay_from nat prefix books r entries).place ≡ r.place + length entries
  place-is r [] = sym (add-zero r.place)
  place-is r (e ∷ entries) = omega (arith, place-is (further nat prefix books r e) entries)

  replay-push : (r : Reached) (entries : List Entry) (e : Entry) → replay_from nat prefix books r (entries ++ e ∷ []) ≡ further nat prefix books (replay_from nat prefix books r entries) e
  replay-push r [] e = refl
  replay-push r (d ∷ entries) e = replay-push (further nat prefix books r d) entries e

  good-push : (r : Reached) (entries : List Entry) (e : Entry) → AreGoodFrom nat prefix books r entries → IsGoodEntry nat prefix books (replay_from nat prefix books r entries) e → AreGoodFrom nat prefix books r (entries ++ e ∷ [])
  good-push r [] e good last = (last, tt)
  good-push r (d ∷ entries) e good last = (good.0, good-push (further nat prefix books r d) entries e good.1 last)

-- the rules that the machine goes by at an entry, in place of those that were seen
same_step : (prefix : Prefix6) (books : List Generation) (here : Reached) (e : Entry) (view : Generation) (newer : Option Generation) → here.state.book.number ≡ here.used → AreUsed books here.used → e.mark.used ≡ max view.number here.used → MatchOption newer (view.number ≤ here.used) (λ g. (here.used < view.number) × (g ≡ view)) → entry_step nat prefix (books ++ option_to_list newer) here e ≡ nat prefix here.state (record { seen = view; now = e.now; place = here.place }) e.ask
same_step prefix books here e view (Some g) generation are used (newer, same) =
    let number : e.mark.used ≡ g.number = omega (arith, ap (λ (h : Generation). h.number) same) in
    let greater : here.used < g.number = omega (arith, ap (λ (h : Generation). h.number) same) in
    let found = ap (λ n. book_of n (books ++ g ∷ [])) number ∙ book_of-newest here.used books g are.greatest greater in
    let seen = ap (λ o. unwrap_or o here.state.book) found ∙ same in
    ap (λ s. nat prefix here.state (record { seen = s; now = e.now; place = here.place }) e.ask) seen
same_step prefix books here e view None generation are used older =
    let number : e.mark.used ≡ here.used = omega arith in
    let there = book_of-more e.mark.used books [] (ap (λ n. is_some (book_of n books)) number ∙ are.there) in
    let found = there ∙ ap (λ n. book_of n books) number in
    by_book (book_of here.used books) refl found are.there
  where
    by_book : (o : Option Generation) → book_of here.used books ≡ o → book_of e.mark.used (books ++ []) ≡ book_of here.used books → IsSome (book_of here.used books) → entry_step nat prefix (books ++ []) here e ≡ nat prefix here.state (record { seen = view; now = e.now; place = here.place }) e.ask
    by_book None none found some = absurd (cc)
    by_book (Some b) is found some =
        let old : b.number ≤ here.state.book.number = omega (arith, book_of-number here.used books b is, generation) in
        let seen = ap (λ o. unwrap_or o here.state.book) (found ∙ is) in
        ap (λ s. nat prefix here.state (record { seen = s; now = e.now; place = here.place }) e.ask) seen ∙ nat-old prefix here.state b view e.now here.place e.ask old (omega arith)

-- what holds of an edge with its history
pub record IsKept (start : EdgeStart) (books : List Generation) (used : ℕ) (state : NatState) (entries : List Entry) : Type 0 where
  pub good : IsGood nat start books entries
  pub replays : state ≡ replay nat start books entries
  pub latest : used ≡ (replay_from nat start.prefix books (outset start) entries).used
  pub are_used : AreUsed books used

-- a step that is the machine's keeps it so
pub kept-more : (start : EdgeStart) (books : List Generation) (used : ℕ) (state after : NatState) (entries : List Entry) (e : Entry) (view : Generation) (newer : Option Generation) → IsKept start books used state entries → state.book.number ≡ used → e.mark.seen ≡ view.number → e.mark.used ≡ max view.number used → MatchOption newer (view.number ≤ used) (λ g. (used < view.number) × (g ≡ view)) → e.answer ≡ (nat start.prefix state (record { seen = view; now = e.now; place = length entries }) e.ask).answer → after ≡ (nat start.prefix state (record { seen = view; now = e.now; place = length entries }) e.ask).after → IsKept start (books ++ option_to_list newer) e.mark.used after (entries ++ e ∷ [])
kept-more start books used state after entries e view newer kept generation seen uses newer_is answered left =
    let books-after = books ++ option_to_list newer in
    let reached = replay_from nat start.prefix books (outset start) entries in
    let here : Reached = record { place = length entries; used = used; state = state } in
    let place : reached.place ≡ length entries = omega (arith, place-is start.prefix books (outset start) entries) in
    let is_here : reached ≡ here = λ i. record { place = place i; used = sym kept.latest i; state = sym kept.replays i } in
    let come = replay-more start.prefix books (option_to_list newer) (outset start) entries kept.good ∙ is_here in
    let step = same_step start.prefix books here e view newer generation kept.are_used uses newer_is in
    let answer_of = λ (s : NatStep). s.answer in
    let after_of = λ (s : NatStep). s.after in
    let last : IsGoodEntry nat start.prefix books-after here e = record { answer = answered ∙ ap answer_of (sym step); used = uses ∙ ap (λ n. max n used) (sym seen); book = used_there e newer newer_is uses kept.are_used } in
    let P : Reached → Type 0 = λ r. IsGoodEntry nat start.prefix books-after r e in
    let arrived = replay-push start.prefix books-after (outset start) entries e ∙ ap (λ r. further nat start.prefix books-after r e) come in
    record {
      good = good-push start.prefix books-after (outset start) entries e (good-more start.prefix books (option_to_list newer) (outset start) entries kept.good) (subst P (sym come) last);
      replays = left ∙ ap after_of (sym step) ∙ sym (ap (λ (r : Reached). r.state) arrived);
      latest = sym (ap (λ (r : Reached). r.used) arrived);
      are_used = used_after e newer newer_is uses kept.are_used;
    }
  where
    used_after : (e : Entry) (newer : Option Generation) → MatchOption newer (view.number ≤ used) (λ g. (used < view.number) × (g ≡ view)) → e.mark.used ≡ max view.number used → AreUsed books used → AreUsed (books ++ option_to_list newer) e.mark.used
    used_after e (Some g) (greater, same) uses are =
        let number : g.number ≡ e.mark.used = omega (arith, ap (λ (h : Generation). h.number) same) in
        let P : ℕ → Type 0 = λ n. AreUsed (books ++ g ∷ []) n in
        subst P number (AreUsed-newest used books g are (omega (arith, ap (λ (h : Generation). h.number) same)))
    used_after e None older uses are =
        let number : used ≡ e.mark.used = omega arith in
        let P : List Generation → Type 0 = λ bs. AreUsed bs e.mark.used in
        let Q : ℕ → Type 0 = λ n. AreUsed books n in
        subst P (sym (append-nil books)) (subst Q number are)

    used_there : (e : Entry) (newer : Option Generation) → MatchOption newer (view.number ≤ used) (λ g. (used < view.number) × (g ≡ view)) → e.mark.used ≡ max view.number used → AreUsed books used → IsSome (book_of e.mark.used (books ++ option_to_list newer))
    used_there e newer newer_is uses are = (used_after e newer newer_is uses are).there

-- an edge that has made no step
pub kept-begun : (start : EdgeStart) (books : List Generation) (used : ℕ) (state : NatState) (entries : List Entry) → books ≡ start.book ∷ [] → used ≡ start.book.number → state ≡ record { book = start.book; clock = 0; bindings = start.kept; notes = [] } → entries ≡ [] → IsKept start books used state entries
kept-begun start books used state entries only first begun none =
    let there : IsSome (book_of start.book.number (start.book ∷ [])) = ap (λ t. is_some (cond t (Some start.book) None)) (eq-eqb start.book.number start.book.number refl) in
    let are : AreUsed (start.book ∷ []) start.book.number = record {
      rising = λ i j d before within. absurd (omega arith);
      greatest = All-cons (λ b. b.number ≤ start.book.number) start.book [] (omega arith) (All-nil (λ b. b.number ≤ start.book.number));
      there = there;
    } in
    let begin : IsKept start (start.book ∷ []) start.book.number (record { book = start.book; clock = 0; bindings = start.kept; notes = [] }) [] = record { good = tt; replays = refl; latest = refl; are_used = are } in
    let B : List Generation → Type 0 = λ bs. IsKept start bs start.book.number (record { book = start.book; clock = 0; bindings = start.kept; notes = [] }) [] in
    let U : ℕ → Type 0 = λ n. IsKept start books n (record { book = start.book; clock = 0; bindings = start.kept; notes = [] }) [] in
    let S : NatState → Type 0 = λ s. IsKept start books used s [] in
    let E : List Entry → Type 0 = λ es. IsKept start books used state es in
    subst E (sym none) (subst S (sym begun) (subst U (sym first) (subst B (sym only) begin)))

-- the same of other lists that are equal
pub kept-as : (start : EdgeStart) (books books-now : List Generation) (used : ℕ) (state : NatState) (entries entries-now : List Entry) → books-now ≡ books → entries-now ≡ entries → IsKept start books used state entries → IsKept start books-now used state entries-now
kept-as start books books-now used state entries entries-now same_books same_entries kept =
    let B : List Generation → Type 0 = λ bs. IsKept start bs used state entries in
    let E : List Entry → Type 0 = λ es. IsKept start books-now used state es in
    subst E (sym same_entries) (subst B (sym same_books) kept)

-- the rules that were used, with newer ones if there are any
pub used_books-more : (first : Book) (later : List Book) (newer : Option Book) → used_books first (later ++ option_to_list newer) ≡ used_books first later ++ option_to_list (option_map generation_in newer)
used_books-more first later None = ap (λ bs. generation_in first ∷ bs) (map-append generation_in later [])
used_books-more first later (Some book) = ap (λ bs. generation_in first ∷ bs) (map-append generation_in later (book ∷ []))

-- newer rules, by their generation
pub newer-in : (newer : Option Book) (view : Generation) (used : ℕ) → MatchOption newer (view.number ≤ used) (λ book. (used < view.number) × (generation_in book ≡ view)) → MatchOption (option_map generation_in newer) (view.number ≤ used) (λ g. (used < view.number) × (g ≡ view))
newer-in None view used is = is
newer-in (Some book) view used is = is

-- what an edge keeps, by the greatest generation that it used
pub edge-kept : (start : EdgeStart) (books : List Generation) (used : ℕ) (state : NatState) (entries : List Entry) → IsKept start books used state entries → IsSound start.prefix state → state.book.number ≡ used → KeepsEdge (record { start = start; books = books; state = state; history = entries })
edge-kept start books used state entries kept sound number =
    let P : ℕ → Type 0 = λ n. AreUsed books n in
    record { good = kept.good; replays = kept.replays; sound = sound; are_used = subst P (sym number) kept.are_used; latest = number ∙ kept.latest }

pub kept-edge : (e : EdgeShown) (used : ℕ) → KeepsEdge e → e.state.book.number ≡ used → IsKept e.start e.books used e.state e.history
kept-edge e used keeps number =
    let P : ℕ → Type 0 = λ n. AreUsed e.books n in
    record { good = keeps.good; replays = keeps.replays; latest = sym number ∙ keeps.latest; are_used = subst P number keeps.are_used }
