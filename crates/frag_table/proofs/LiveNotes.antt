-- The notes whose deadline is still to come, among all of them.
use Rattle.std.proofs.Common.{◌≡◌, ℕ, zero, suc, ◌+◌, ◌<◌, Bool, true, false, List, [], ◌∷◌, ◌++◌, length, get_or, set, take, Some, None, cond, refl, sym, ap, ◌∙◌, arith, add-one}
use Rattle.std.specs.Prelude.{◌&&◌, ◌==◌}
use Rattle.std.specs.List.{slice_get, remove, filter}
use Rattle.std.proofs.lemmas.Bool.{eqb-true}
use Rattle.std.proofs.lemmas.List.Elements.{filter-append}
use Rattle.frag_table.specs.declared.key.FragKey.{FragKey}
use Rattle.frag_table.specs.declared.note.Note.{Note}
use Rattle.frag_table.specs.Frag.{is_live, same_key, note_of, with_note}
use Rattle.frag_table.specs.Place.{is_note}

pub both : (a b : Bool) → a && b ≡ true → (a ≡ true) × (b ≡ true)
both true b h = (refl, h)
both false b h = absurd (cc)

-- two keys that are the same in each of their parts are one key
pub same_key-sound : (a b : FragKey) → same_key a b ≡ true → a ≡ b
same_key-sound a b same =
    let way = both (a.way == b.way) _ same in
    let src = both (a.src == b.src) _ way.1 in
    let dst = both (a.dst == b.dst) _ src.1 in
    let proto = both (a.proto == b.proto) _ dst.1 in
    let e0 = eqb-true a.way b.way way.0 in
    let e1 = eqb-true a.src b.src src.0 in
    let e2 = eqb-true a.dst b.dst dst.0 in
    let e3 = eqb-true a.proto b.proto proto.0 in
    let e4 = eqb-true a.id b.id proto.1 in
    λ i. record { way = e0 i; src = e1 i; dst = e2 i; proto = e3 i; id = e4 i }

module _ {X : Type 0} (p : X → Bool) where
  by_head : (b : Bool) (y : X) (more less last : List X) → more ≡ less ++ last → cond b (y ∷ more) more ≡ cond b (y ∷ less) less ++ last
  by_head true y more less last same = ap (λ ys. y ∷ ys) same
  by_head false y more less last same = same

  filter_take_suc : (xs : List X) (i : ℕ) (x : X) → slice_get xs i ≡ Some x → filter p (take (suc i) xs) ≡ filter p (take i xs) ++ cond (p x) (x ∷ []) []
  filter_take_suc [] i x found = absurd (cc)
  filter_take_suc (y ∷ xs) zero x found = let same : y ≡ x = cc in ap (λ z. cond (p z) (z ∷ []) []) same
  filter_take_suc (y ∷ xs) (suc i) x found =
      by_head (p y) y (filter p (take (suc i) xs)) (filter p (take i xs)) (cond (p x) (x ∷ []) []) (filter_take_suc xs i x found)

  -- one more of the items
  pub filter_take_more : (xs : List X) (i : ℕ) (x : X) → slice_get xs i ≡ Some x → filter p (take (i + 1) xs) ≡ filter p (take i xs) ++ cond (p x) (x ∷ []) []
  filter_take_more xs i x found = rw add-one (filter_take_suc xs i x found)

  -- an item that doesn't pass may go
  pub filter_remove : (xs : List X) (i : ℕ) (x : X) → slice_get xs i ≡ Some x → p x ≡ false → filter p (remove xs i) ≡ filter p xs
  filter_remove [] i x found fails = absurd (cc)
  filter_remove (y ∷ xs) zero x found fails =
      let same : y ≡ x = cc in
      let out : p y ≡ false = ap p same ∙ fails in
      sym (ap (λ b. cond b (y ∷ filter p xs) (filter p xs)) out)
  filter_remove (y ∷ xs) (suc i) x found fails = ap (λ ys. cond (p y) (y ∷ ys) ys) (filter_remove xs i x found fails)

-- what stands before a removed item stays
pub take_remove : {X : Type 0} (xs : List X) (i : ℕ) → take i (remove xs i) ≡ take i xs
take_remove [] zero = refl
take_remove [] (suc i) = refl
take_remove (x ∷ xs) zero = refl
take_remove (x ∷ xs) (suc i) = ap (λ ys. x ∷ ys) (take_remove xs i)

-- a note that isn't live, or is another key's, isn't found
skip_found : (key : FragKey) (n : Note) (rest : List Note) (live : Bool) → live && same_key n.key key ≡ false → note_of key (cond live (n ∷ rest) rest) ≡ note_of key rest
skip_found key n rest false h = refl
skip_found key n rest true h = ap (λ b. cond b (Some n) (note_of key rest)) h

-- and isn't replaced
skip_put : (new n : Note) (rest : List Note) (live : Bool) → live && same_key n.key new.key ≡ false → with_note new (cond live (n ∷ rest) rest) ≡ cond live (n ∷ with_note new rest) (with_note new rest)
skip_put new n rest false h = refl
skip_put new n rest true h = ap (λ b. cond b (new ∷ rest) (n ∷ with_note new rest)) h

-- where no note is the key's, none is found
pub note_of-none : (clock : ℕ) (key : FragKey) (notes : List Note) → ((k : ℕ) (d : Note) → k < length notes → is_note clock key (get_or notes k d) ≡ false) → note_of key (filter (is_live clock) notes) ≡ None
note_of-none clock key [] none = refl
note_of-none clock key (n ∷ notes) none =
    skip_found key n (filter (is_live clock) notes) (is_live clock n) (none 0 n (omega arith)) ∙ note_of-none clock key notes (λ k d h. none (suc k) d (omega arith))

-- the first note that is live and the key's is found
pub note_of-found : (clock : ℕ) (key : FragKey) (notes : List Note) (at : ℕ) (note : Note) → slice_get notes at ≡ Some note → is_note clock key note ≡ true → ((k : ℕ) (d : Note) → k < at → is_note clock key (get_or notes k d) ≡ false) → note_of key (filter (is_live clock) notes) ≡ Some note
note_of-found clock key [] at note found is first = absurd (cc)
note_of-found clock key (n ∷ notes) zero note found is first =
    let same : n ≡ note = cc in
    let facts = both (is_live clock n) (same_key n.key key) (ap (is_note clock key) same ∙ is) in
    ap (λ b. note_of key (cond b (n ∷ filter (is_live clock) notes) (filter (is_live clock) notes))) facts.0 ∙ ap (λ b. cond b (Some n) (note_of key (filter (is_live clock) notes))) facts.1 ∙ ap Some same
note_of-found clock key (n ∷ notes) (suc at) note found is first =
    skip_found key n (filter (is_live clock) notes) (is_live clock n) (first 0 n (omega arith)) ∙ note_of-found clock key notes at note found is (λ k d h. first (suc k) d (omega arith))

-- a changed note of the key stands in its place
pub with_note-found : (clock : ℕ) (notes : List Note) (at : ℕ) (note new : Note) → slice_get notes at ≡ Some note → is_note clock new.key note ≡ true → ((k : ℕ) (d : Note) → k < at → is_note clock new.key (get_or notes k d) ≡ false) → is_live clock new ≡ true → filter (is_live clock) (set notes at new) ≡ with_note new (filter (is_live clock) notes)
with_note-found clock [] at note new found is first live = absurd (cc)
with_note-found clock (n ∷ notes) zero note new found is first live =
    let same : n ≡ note = cc in
    let rest = filter (is_live clock) notes in
    let facts = both (is_live clock n) (same_key n.key new.key) (ap (is_note clock new.key) same ∙ is) in
    ap (λ b. cond b (new ∷ rest) rest) live ∙ sym (ap (λ b. with_note new (cond b (n ∷ rest) rest)) facts.0 ∙ ap (λ b. cond b (new ∷ rest) (n ∷ with_note new rest)) facts.1)
with_note-found clock (n ∷ notes) (suc at) note new found is first live =
    ap (λ ns. cond (is_live clock n) (n ∷ ns) ns) (with_note-found clock notes at note new found is (λ k d h. first (suc k) d (omega arith)) live) ∙ sym (skip_put new n (filter (is_live clock) notes) (is_live clock n) (first 0 n (omega arith)))

-- a live note that is added comes last
pub filter_push : (clock : ℕ) (notes : List Note) (note : Note) → is_live clock note ≡ true → filter (is_live clock) (notes ++ note ∷ []) ≡ filter (is_live clock) notes ++ note ∷ []
filter_push clock notes note live =
    filter-append (is_live clock) notes (note ∷ []) ∙ ap (λ b. filter (is_live clock) notes ++ cond b (note ∷ []) []) live
