-- Values that lie in a slab, in the order of a list of their keys.
use Rattle.std.proofs.Common.{◌≡◌, ◌≢◌, ℕ, zero, suc, ◌<◌, List, [], ◌∷◌, ◌++◌, length, get_or, set, Option, Some, None, Result, Ok, Err, is_some, refl, sym, ap, ◌∙◌, subst, inl, inr, arith}
use Rattle.std.specs.Option.{IsSome}
use Rattle.std.specs.Result.{OnOk}
use Rattle.std.specs.List.{slice_get, remove, AllByRecursion}
use Rattle.std.proofs.lemmas.Bool.{cases_eq}
use Rattle.std.proofs.lemmas.List.Elements.{filter_map-append}
use Rattle.slab.specs.Slab.{Slab, get, ContainsKey, Updates}
use Rattle.frag_table.specs.Listed.{listed, AreKeys}

-- what is there is something
pub present : {X : Type 0} (o : Option X) → IsSome o → (x : X) × (o ≡ Some x)
present None h = absurd (cc)
present (Some x) h = (x, refl)

-- one more at the end
pub AllByRecursion-push : {X : Type 0} (P : X → Type 0) (xs : List X) (x : X) → AllByRecursion P xs → P x → AllByRecursion P (xs ++ x ∷ [])
AllByRecursion-push P [] x all here = (here, tt)
AllByRecursion-push P (y ∷ xs) x all here = (all.0, AllByRecursion-push P xs x all.1 here)

-- what is left after a removal
pub AllByRecursion-remove : {X : Type 0} (P : X → Type 0) (xs : List X) (i : ℕ) → AllByRecursion P xs → AllByRecursion P (remove xs i)
AllByRecursion-remove P [] zero all = tt
AllByRecursion-remove P [] (suc i) all = tt
AllByRecursion-remove P (y ∷ xs) zero all = all.1
AllByRecursion-remove P (y ∷ xs) (suc i) all = (all.0, AllByRecursion-remove P xs i all.1)

-- the one at a place
pub AllByRecursion-at : {X : Type 0} (P : X → Type 0) (xs : List X) (i : ℕ) (d : X) → i < length xs → AllByRecursion P xs → P (get_or xs i d)
AllByRecursion-at P [] i d within all = absurd (omega arith)
AllByRecursion-at P (y ∷ xs) zero d within all = all.0
AllByRecursion-at P (y ∷ xs) (suc i) d within all = AllByRecursion-at P xs i d (omega arith) all.1

-- what follows from a fact on an answer
pub on_ok_map : {X E : Type 0} (r : Result X E) (A B : Type 0) → (A → B) → OnOk r A → OnOk r B
on_ok_map (Ok x) A B f holds = f holds
on_ok_map (Err e) A B f holds = tt

module _ {T : Type 0} where
  -- a key that has a value gives it first
  pub listed-cons : (slab : Slab T) (key : ℕ) (keys : List ℕ) (value : T) → get slab key ≡ Some value → listed slab (key ∷ keys) ≡ value ∷ listed slab keys
  listed-cons slab key keys value found = rw found refl

  -- there are as many values as keys
  pub length-listed : (slab : Slab T) (keys : List ℕ) → AreKeys slab keys → length (listed slab keys) ≡ length keys
  length-listed slab [] are = refl
  length-listed slab (key ∷ keys) are =
      let here = present _ are.0 in
      ap length (listed-cons slab key keys here.0 here.1) ∙ ap suc (length-listed slab keys are.2)

  -- the value at a place is that of the key there
  pub slice_get-listed : (slab : Slab T) (keys : List ℕ) (i d : ℕ) → AreKeys slab keys → i < length keys → slice_get (listed slab keys) i ≡ get slab (get_or keys i d)
  slice_get-listed slab [] i d are within = absurd (omega arith)
  slice_get-listed slab (key ∷ keys) zero d are within =
      let here = present _ are.0 in
      ap (λ xs. slice_get xs 0) (listed-cons slab key keys here.0 here.1) ∙ sym here.1
  slice_get-listed slab (key ∷ keys) (suc i) d are within =
      let here = present _ are.0 in
      ap (λ xs. slice_get xs (suc i)) (listed-cons slab key keys here.0 here.1) ∙ slice_get-listed slab keys i d are.2 (omega arith)

  -- the key at a place has a value
  pub ContainsKey-at : (slab : Slab T) (keys : List ℕ) (i d : ℕ) → AreKeys slab keys → i < length keys → ContainsKey slab (get_or keys i d)
  ContainsKey-at slab [] i d are within = absurd (omega arith)
  ContainsKey-at slab (key ∷ keys) zero d are within = are.0
  ContainsKey-at slab (key ∷ keys) (suc i) d are within = ContainsKey-at slab keys i d are.2 (omega arith)

  -- where the two slabs agree at each of the keys, they list the same
  pub listed-agree : (old new : Slab T) (key : ℕ) (keys : List ℕ) → ((other : ℕ) → other ≢ key → get new other ≡ get old other) → AllByRecursion (λ other. other ≢ key) keys → listed new keys ≡ listed old keys
  listed-agree old new key [] others apart = refl
  listed-agree old new key (k ∷ keys) others apart = rw (others k apart.0, listed-agree old new key keys others apart.1) refl

  -- and the keys have values in both
  pub AreKeys-agree : (old new : Slab T) (key : ℕ) (keys : List ℕ) → ((other : ℕ) → other ≢ key → get new other ≡ get old other) → AllByRecursion (λ other. other ≢ key) keys → AreKeys old keys → AreKeys new keys
  AreKeys-agree old new key [] others apart are = tt
  AreKeys-agree old new key (k ∷ keys) others apart are = (ap is_some (others k apart.0) ∙ are.0, are.1, AreKeys-agree old new key keys others apart.1 are.2)

  -- a vacant key is none of the keys
  pub apart_from_vacant : (slab : Slab T) (key : ℕ) (keys : List ℕ) → AreKeys slab keys → get slab key ≡ None → AllByRecursion (λ other. other ≢ key) keys
  apart_from_vacant slab key [] are vacant = tt
  apart_from_vacant slab key (k ∷ keys) are vacant =
      (λ same. let none : get slab k ≡ None = ap (get slab) same ∙ vacant in absurd (cc), apart_from_vacant slab key keys are.2 vacant)

  -- a value under a new key comes last
  pub listed-push : (old new : Slab T) (key : ℕ) (keys : List ℕ) (value : T) → AreKeys old keys → get old key ≡ None → Updates old new key (Some value) → listed new (keys ++ key ∷ []) ≡ listed old keys ++ value ∷ []
  listed-push old new key keys value are vacant updates =
      filter_map-append (get new) keys (key ∷ []) ∙ ap (λ xs. xs ++ listed new (key ∷ [])) (listed-agree old new key keys updates.others (apart_from_vacant old key keys are vacant)) ∙ ap (λ xs. listed old keys ++ xs) (listed-cons new key [] value updates.changed)

  AreKeys-append : (slab : Slab T) (key : ℕ) (keys : List ℕ) → ContainsKey slab key → AllByRecursion (λ other. other ≢ key) keys → AreKeys slab keys → AreKeys slab (keys ++ key ∷ [])
  AreKeys-append slab key [] there apart are = (there, tt, tt)
  AreKeys-append slab key (k ∷ keys) there apart are =
      (are.0, AllByRecursion-push (λ other. other ≢ k) keys key are.1 (λ same. apart.0 (sym same)), AreKeys-append slab key keys there apart.1 are.2)

  pub AreKeys-push : (old new : Slab T) (key : ℕ) (keys : List ℕ) (value : T) → AreKeys old keys → get old key ≡ None → Updates old new key (Some value) → AreKeys new (keys ++ key ∷ [])
  AreKeys-push old new key keys value are vacant updates =
      let apart = apart_from_vacant old key keys are vacant in
      AreKeys-append new key keys (ap is_some updates.changed) apart (AreKeys-agree old new key keys updates.others apart are)

  -- a new value under one of the keys stands in the place of the old one
  pub listed-set : (old new : Slab T) (keys : List ℕ) (i d : ℕ) (value : T) → AreKeys old keys → i < length keys → Updates old new (get_or keys i d) (Some value) → listed new keys ≡ set (listed old keys) i value
  listed-set old new [] i d value are within updates = absurd (omega arith)
  listed-set old new (key ∷ keys) zero d value are within updates =
      let here = present _ are.0 in
      listed-cons new key keys value updates.changed ∙ ap (λ xs. value ∷ xs) (listed-agree old new key keys updates.others are.1) ∙ sym (ap (λ xs. set xs 0 value) (listed-cons old key keys here.0 here.1))
  listed-set old new (key ∷ keys) (suc i) d value are within updates =
      let lower : i < length keys = omega arith in
      let here = present _ are.0 in
      let differs = AllByRecursion-at (λ other. other ≢ key) keys i d lower are.1 in
      listed-cons new key keys here.0 (updates.others key (λ same. differs (sym same)) ∙ here.1) ∙ ap (λ xs. here.0 ∷ xs) (listed-set old new keys i d value are.2 lower updates) ∙ sym (ap (λ xs. set xs (suc i) value) (listed-cons old key keys here.0 here.1))

  -- each key keeps having a value
  pub AreKeys-set : (old new : Slab T) (key : ℕ) (keys : List ℕ) (value : T) → AreKeys old keys → Updates old new key (Some value) → AreKeys new keys
  AreKeys-set old new key [] value are updates = tt
  AreKeys-set old new key (k ∷ keys) value are updates =
      let there : ContainsKey new k = elim (cases_eq k key) [
        | inl same ↦ ap (λ j. is_some (get new j)) same ∙ ap is_some updates.changed
        | inr differs ↦ ap is_some (updates.others k differs) ∙ are.0
      ] in
      (there, are.1, AreKeys-set old new key keys value are.2 updates)

  -- a value that is removed with its key is gone from the list
  pub listed-remove : (old new : Slab T) (keys : List ℕ) (i d : ℕ) → AreKeys old keys → i < length keys → Updates old new (get_or keys i d) None → listed new (remove keys i) ≡ remove (listed old keys) i
  listed-remove old new [] i d are within updates = absurd (omega arith)
  listed-remove old new (key ∷ keys) zero d are within updates =
      let here = present _ are.0 in
      listed-agree old new key keys updates.others are.1 ∙ sym (ap (λ xs. remove xs 0) (listed-cons old key keys here.0 here.1))
  listed-remove old new (key ∷ keys) (suc i) d are within updates =
      let lower : i < length keys = omega arith in
      let here = present _ are.0 in
      let differs = AllByRecursion-at (λ other. other ≢ key) keys i d lower are.1 in
      listed-cons new key (remove keys i) here.0 (updates.others key (λ same. differs (sym same)) ∙ here.1) ∙ ap (λ xs. here.0 ∷ xs) (listed-remove old new keys i d are.2 lower updates) ∙ sym (ap (λ xs. remove xs (suc i)) (listed-cons old key keys here.0 here.1))

  pub AreKeys-remove : (old new : Slab T) (keys : List ℕ) (i d : ℕ) → AreKeys old keys → i < length keys → Updates old new (get_or keys i d) None → AreKeys new (remove keys i)
  AreKeys-remove old new [] i d are within updates = absurd (omega arith)
  AreKeys-remove old new (key ∷ keys) zero d are within updates = AreKeys-agree old new key keys updates.others are.1 are.2
  AreKeys-remove old new (key ∷ keys) (suc i) d are within updates =
      let lower : i < length keys = omega arith in
      let differs = AllByRecursion-at (λ other. other ≢ key) keys i d lower are.1 in
      (ap is_some (updates.others key (λ same. differs (sym same))) ∙ are.0, AllByRecursion-remove (λ other. other ≢ key) keys i are.1, AreKeys-remove old new keys i d are.2 lower updates)

  -- a place among the values is one among the keys
  pub within_keys : (slab : Slab T) (keys : List ℕ) (values : List T) (i : ℕ) → AreKeys slab keys → listed slab keys ≡ values → i < length values → i < length keys
  within_keys slab keys values i are same within = omega (arith, length-listed slab keys are, ap length same)

  -- the value at a place is that of the key there
  pub value_at : (slab : Slab T) (keys : List ℕ) (values : List T) (i key : ℕ) → AreKeys slab keys → listed slab keys ≡ values → i < length values → key ≡ get_or keys i key → slice_get values i ≡ get slab key
  value_at slab keys values i key are same within at =
      ap (λ xs. slice_get xs i) (sym same) ∙ slice_get-listed slab keys i key are (within_keys slab keys values i are same within) ∙ ap (get slab) (sym at)

  -- so it is there
  pub key_present : (slab : Slab T) (keys : List ℕ) (values : List T) (i key : ℕ) → AreKeys slab keys → listed slab keys ≡ values → i < length values → key ≡ get_or keys i key → ContainsKey slab key
  key_present slab keys values i key are same within at =
      ap (λ k. is_some (get slab k)) at ∙ ContainsKey-at slab keys i key are (within_keys slab keys values i are same within)

  -- a new value under the key of a place
  pub set_at : (old new : Slab T) (keys : List ℕ) (values : List T) (i key : ℕ) (value : T) → AreKeys old keys → listed old keys ≡ values → i < length values → key ≡ get_or keys i key → Updates old new key (Some value) → listed new keys ≡ set values i value
  set_at old new keys values i key value are same within at updates =
      let P : ℕ → Type 0 = λ k. Updates old new k (Some value) in
      listed-set old new keys i key value are (within_keys old keys values i are same within) (subst P at updates) ∙ ap (λ xs. set xs i value) same

  -- the removal of the key of a place, with its value
  pub remove_at : (old new : Slab T) (keys : List ℕ) (values : List T) (i key : ℕ) → AreKeys old keys → listed old keys ≡ values → i < length values → key ≡ get_or keys i key → Updates old new key None → (listed new (remove keys i) ≡ remove values i) × AreKeys new (remove keys i)
  remove_at old new keys values i key are same within at updates =
      let P : ℕ → Type 0 = λ k. Updates old new k None in
      let lower = within_keys old keys values i are same within in
      (listed-remove old new keys i key are lower (subst P at updates) ∙ ap (λ xs. remove xs i) same, AreKeys-remove old new keys i key are lower (subst P at updates))
