-- A step that reads comes to one thing at most on given files.
use Rattle.std.proofs.Common.{◌≡◌, ◌⊎◌, ℕ, ◌<◌, List, [], ◌∷◌, ◌++◌, length, Result, Ok, Err, refl, sym, ap, subst, ◌∙◌, inl, inr, arith}
use Rattle.std.proofs.Math.Seq.{take-append_seam, drop-append_seam}
use Rattle.std.proofs.lemmas.List.Elements.{All-take, All-drop, All-head}
use Rattle.outside.specs.Files.{Files, content_of}
use Rattle.outside.specs.declared.file_id.FileId.{FileId}
use Rattle.mapt_tool.specs.declared.status.Status.{Status}
use Rattle.mapt_tool.specs.Reading.{Read, Next, gives, refuses, wants, lacks, Answers, Reads, Goes, Then, AreOf}

-- an end on these files: a value, a refusal, or a file that is too long
abbrev pub IsEnd : {A : Type 0} → Files → Next A Status → Type 0
IsEnd files (gives x) = Unit {0}
IsEnd files (refuses fault) = Unit {0}
IsEnd files (wants file name limit) = limit < length (content_of files name)
IsEnd files lacks = ⊥

-- an end that comes after these files
pub record EndsAt {A : Type 0} (Step : List Read → Next A Status → Type 0) (files : Files) (reads : List Read) (next : Next A Status) : Type 0 where
  pub held : AreOf files reads
  pub end : IsEnd files next
  pub reached : Step reads next

pub record IsSame {A : Type 0} (reads others : List Read) (next other : Next A Status) : Type 0 where
  pub reads_same : reads ≡ others
  pub next_same : next ≡ other

abbrev pub IsSingle : {A : Type 0} → (List Read → Next A Status → Type 0) → Type 0
IsSingle {A} Step = (files : Files) (reads others : List Read) (next other : Next A Status) → EndsAt Step files reads next → EndsAt Step files others other → IsSame reads others next other

-- ---- constructors

abbrev given : {A : Type 0} → A → Next A Status
given x = gives x

abbrev set : {A : Type 0} → A → Result A Status
set x = Ok x

abbrev unset : {A : Type 0} → Status → Result A Status
unset e = Err e

pub same_value : {A : Type 0} (x y : A) (e : Next A Status) → e ≡ gives x → e ≡ gives y → x ≡ y
same_value x y e a b = cc

pub same_fault : {A : Type 0} (x y : Status) (e : Next A Status) → e ≡ refuses x → e ≡ refuses y → x ≡ y
same_fault x y e a b = cc

pub same_file : {A : Type 0} (x y : FileId) (m n : List ℕ) (k l : ℕ) (e : Next A Status) → e ≡ wants x m k → e ≡ wants y n l → (x ≡ y) × (m ≡ n) × (k ≡ l)
same_file x y m n k l e a b = (cc, cc, cc)

ok_same : {A : Type 0} (x y : A) → set x ≡ set y → x ≡ y
ok_same x y e = cc

err_same : {A : Type 0} (e f : Status) → unset {A = A} e ≡ unset f → e ≡ f
err_same e f same = cc

ok_or_err : {A : Type 0} (x : A) (e : Status) → set x ≡ unset e → ⊥
ok_or_err x e same = cc

-- ---- the files before are part of all

abbrev Holds : Files → Read → Type 0
Holds files r = r.octets ≡ content_of files r.name

held_front : (files : Files) (front back : List Read) → AreOf files (front ++ back) → AreOf files front
held_front files front back held = rw take-append_seam at (All-take (Holds files) (length front) (front ++ back) held)

held_back : (files : Files) (front back : List Read) → AreOf files (front ++ back) → AreOf files back
held_back files front back held = rw drop-append_seam at (All-drop (Holds files) (length front) (front ++ back) held)

held_one : (files : Files) (read : Read) (reads : List Read) → reads ≡ read ∷ [] → AreOf files reads → read.octets ≡ content_of files read.name
held_one files read reads is held = All-head (Holds files) read [] (subst (λ (r : List Read). AreOf files r) is held)

-- ---- one step after another

-- the first step stops here
abbrev StopsAt : {A B : Type 0} → (List Read → Next A Status → Type 0) → List Read → Next B Status → Type 0
StopsAt First reads (gives y) = ⊥
StopsAt First reads (refuses fault) = First reads (refuses fault)
StopsAt First reads (wants file name limit) = First reads (wants file name limit)
StopsAt First reads lacks = First reads lacks

parted : {A B : Type 0} (First : List Read → Next A Status → Type 0) (Second : A → List Read → Next B Status → Type 0) (reads : List Read) (next : Next B Status) → Then First Second reads next → StopsAt First reads next ⊎ Goes First Second reads next
parted First Second reads (gives y) h = inr h
parted First Second reads (refuses fault) h = h
parted First Second reads (wants file name limit) h = h
parted First Second reads lacks h = h

first_held : {A B : Type 0} (First : List Read → Next A Status → Type 0) (Second : A → List Read → Next B Status → Type 0) (files : Files) (reads : List Read) (next : Next B Status) (goes : Goes First Second reads next) → AreOf files reads → EndsAt First files goes.front (gives goes.value)
first_held First Second files reads next goes held = record {
  held = held_front files goes.front goes.back (subst (λ (r : List Read). AreOf files r) goes.parts held);
  end = tt;
  reached = goes.first;
}

second_held : {A B : Type 0} (First : List Read → Next A Status → Type 0) (Second : A → List Read → Next B Status → Type 0) (files : Files) (reads : List Read) (next : Next B Status) (goes : Goes First Second reads next) → AreOf files reads → IsEnd files next → EndsAt (Second goes.value) files goes.back next
second_held First Second files reads next goes held end = record {
  held = held_back files goes.front goes.back (subst (λ (r : List Read). AreOf files r) goes.parts held);
  end = end;
  reached = goes.second;
}

both_go : {A B : Type 0} (First : List Read → Next A Status → Type 0) (Second : A → List Read → Next B Status → Type 0) (files : Files) (reads others : List Read) (next other : Next B Status)
    → IsSingle First → ((x : A) → IsSingle (Second x)) → (goes : Goes First Second reads next) (goes' : Goes First Second others other) → AreOf files reads → AreOf files others → IsEnd files next → IsEnd files other → IsSame reads others next other
both_go First Second files reads others next other one more goes goes' held held' end end' =
    let first = one files goes.front goes'.front (gives goes.value) (gives goes'.value) (first_held First Second files reads next goes held) (first_held First Second files others other goes' held') in
    let value : goes'.value ≡ goes.value = same_value goes'.value goes.value (gives goes'.value) refl (sym first.next_same) in
    let last : EndsAt (Second goes.value) files goes'.back other = subst (λ x. EndsAt (Second x) files goes'.back other) value (second_held First Second files others other goes' held' end') in
    let second = more goes.value files goes.back goes'.back next other (second_held First Second files reads next goes held end) last in
    record {
      reads_same = goes.parts ∙ ap (λ (r : List Read). r ++ goes.back) first.reads_same ∙ ap (λ (r : List Read). goes'.front ++ r) second.reads_same ∙ sym goes'.parts;
      next_same = second.next_same;
    }

-- the first step can't both stop and go on
one_stops : {A B : Type 0} (First : List Read → Next A Status → Type 0) (files : Files) (reads front : List Read) (next : Next B Status) (x : A) → IsSingle First → StopsAt First reads next → AreOf files reads → IsEnd files next → EndsAt First files front (gives x) → ⊥
one_stops First files reads front (gives y) x one stops held end goes = stops
one_stops First files reads front (refuses fault) x one stops held end goes =
    let same = one files reads front (refuses fault) (gives x) (record { held = held; end = tt; reached = stops }) goes in
    let clash = same.next_same in cc
one_stops First files reads front (wants file name limit) x one stops held end goes =
    let same = one files reads front (wants file name limit) (gives x) (record { held = held; end = end; reached = stops }) goes in
    let clash = same.next_same in cc
one_stops First files reads front lacks x one stops held end goes = end

both_stop : {A B : Type 0} (First : List Read → Next A Status → Type 0) (files : Files) (reads others : List Read) (next other : Next B Status) → IsSingle First → StopsAt First reads next → StopsAt First others other → AreOf files reads → AreOf files others → IsEnd files next → IsEnd files other → IsSame reads others next other
both_stop First files reads others (gives y) other one s t held held' end end' = absurd s
both_stop First files reads others lacks other one s t held held' end end' = absurd end
both_stop First files reads others next (gives y) one s t held held' end end' = absurd t
both_stop First files reads others next lacks one s t held held' end end' = absurd end'
both_stop First files reads others (refuses e) (refuses f) one s t held held' end end' =
    let same = one files reads others (refuses e) (refuses f) (record { held = held; end = tt; reached = s }) (record { held = held'; end = tt; reached = t }) in
    record { reads_same = same.reads_same; next_same = ap (λ (x : Status). refuses x) (same_fault e f (refuses e) refl same.next_same) }
both_stop First files reads others (refuses e) (wants file name limit) one s t held held' end end' =
    let same = one files reads others (refuses e) (wants file name limit) (record { held = held; end = tt; reached = s }) (record { held = held'; end = end'; reached = t }) in
    let clash = same.next_same in absurd (cc)
both_stop First files reads others (wants file name limit) (refuses f) one s t held held' end end' =
    let same = one files reads others (wants file name limit) (refuses f) (record { held = held; end = end; reached = s }) (record { held = held'; end = tt; reached = t }) in
    let clash = same.next_same in absurd (cc)
both_stop First files reads others (wants file name limit) (wants file' name' limit') one s t held held' end end' =
    let same = one files reads others (wants file name limit) (wants file' name' limit') (record { held = held; end = end; reached = s }) (record { held = held'; end = end'; reached = t }) in
    let parts = same_file file file' name name' limit limit' (wants file name limit) refl same.next_same in
    record { reads_same = same.reads_same; next_same = rw (parts.0, parts.1, parts.2) refl }

then_cases : {A B : Type 0} (First : List Read → Next A Status → Type 0) (Second : A → List Read → Next B Status → Type 0) (files : Files) (reads others : List Read) (next other : Next B Status) → IsSingle First → ((x : A) → IsSingle (Second x)) → AreOf files reads → AreOf files others → IsEnd files next → IsEnd files other
    → StopsAt First reads next ⊎ Goes First Second reads next → StopsAt First others other ⊎ Goes First Second others other → IsSame reads others next other
then_cases First Second files reads others next other one more held held' end end' (inl s) (inl t) = both_stop First files reads others next other one s t held held' end end'
then_cases First Second files reads others next other one more held held' end end' (inl s) (inr t) =
    absurd (one_stops First files reads t.front next t.value one s held end (first_held First Second files others other t held'))
then_cases First Second files reads others next other one more held held' end end' (inr s) (inl t) =
    absurd (one_stops First files others s.front other s.value one t held' end' (first_held First Second files reads next s held))
then_cases First Second files reads others next other one more held held' end end' (inr s) (inr t) = both_go First Second files reads others next other one more s t held held' end end'

pub then_single : {A B : Type 0} (First : List Read → Next A Status → Type 0) (Second : A → List Read → Next B Status → Type 0) → IsSingle First → ((x : A) → IsSingle (Second x)) → IsSingle (Then First Second)
then_single First Second one more files reads others next other h g =
    then_cases First Second files reads others next other one more h.held g.held h.end g.end (parted First Second reads next h.reached) (parted First Second others other g.reached)

-- ---- steps that read nothing

pub answers_single : {A : Type 0} (IsAnswer : Result A Status → Type 0) → ((x y : Result A Status) → IsAnswer x → IsAnswer y → x ≡ y) → IsSingle (Answers IsAnswer)
answers_single IsAnswer one files reads others (gives x) (gives y) h g =
    let same = one (Ok x) (Ok y) h.reached.1 g.reached.1 in
    record { reads_same = h.reached.0 ∙ sym g.reached.0; next_same = ap (λ z. given z) (ok_same x y same) }
answers_single IsAnswer one files reads others (refuses e) (refuses f) h g =
    let same = one (Err e) (Err f) h.reached.1 g.reached.1 in
    record { reads_same = h.reached.0 ∙ sym g.reached.0; next_same = ap (λ (z : Status). refuses z) (err_same e f same) }
answers_single IsAnswer one files reads others (gives x) (refuses f) h g = absurd (ok_or_err x f (one (Ok x) (Err f) h.reached.1 g.reached.1))
answers_single IsAnswer one files reads others (refuses e) (gives y) h g = absurd (ok_or_err y e (one (Ok y) (Err e) g.reached.1 h.reached.1))
answers_single IsAnswer one files reads others (wants file name limit) other h g = absurd h.reached
answers_single IsAnswer one files reads others lacks other h g = absurd h.end
answers_single IsAnswer one files reads others next (wants file name limit) h g = absurd g.reached
answers_single IsAnswer one files reads others next lacks h g = absurd g.end

pub determined : {A : Type 0} (x : Result A Status) → IsSingle (Answers (λ answer. answer ≡ x))
determined x = answers_single (λ answer. answer ≡ x) (λ r s h g. h ∙ sym g)

-- ---- the reading of a file

pub reads_single : (file : FileId) (name : List ℕ) (limit : ℕ) → IsSingle (Reads file name limit)
reads_single file name limit files reads others (gives x) (gives y) h g =
    let mine = held_one files (record { file = file; name = name; octets = x }) reads h.reached.0 h.held in
    let theirs = held_one files (record { file = file; name = name; octets = y }) others g.reached.0 g.held in
    let same : x ≡ y = mine ∙ sym theirs in
    record {
      reads_same = h.reached.0 ∙ ap (λ (z : List ℕ). record { file = file; name = name; octets = z } ∷ []) same ∙ sym g.reached.0;
      next_same = ap (λ (z : List ℕ). given z) same;
    }
reads_single file name limit files reads others (gives x) (wants f n l) h g =
    let mine = held_one files (record { file = file; name = name; octets = x }) reads h.reached.0 h.held in
    let longer : limit < length (content_of files name) = rw (← g.reached.2, ← g.reached.3) g.end in
    absurd (omega (arith, ap length mine, h.reached.1, longer))
reads_single file name limit files reads others (wants f n l) (gives x) h g =
    let mine = held_one files (record { file = file; name = name; octets = x }) others g.reached.0 g.held in
    let longer : limit < length (content_of files name) = rw (← h.reached.2, ← h.reached.3) h.end in
    absurd (omega (arith, ap length mine, g.reached.1, longer))
reads_single file name limit files reads others (wants f n l) (wants f' n' l') h g = record {
  reads_same = h.reached.0 ∙ sym g.reached.0;
  next_same = rw (h.reached.1, h.reached.2, h.reached.3, g.reached.1, g.reached.2, g.reached.3) refl;
}
reads_single file name limit files reads others (refuses e) other h g = absurd h.reached
reads_single file name limit files reads others next (refuses f) h g = absurd g.reached
reads_single file name limit files reads others lacks other h g = absurd h.end
reads_single file name limit files reads others next lacks h g = absurd g.end
