-- Records one after the other: those that are read are those of the grammar, and a fault is the first one.
use Rattle.std.proofs.Common.{◌≡◌, ◌≢◌, ℕ, zero, suc, ◌+◌, ◌-◌, ◌≤◌, ◌<◌, true, false, eqb, List, [], ◌∷◌, ◌++◌, length, take, drop, Some, None, Result, Ok, Err, refl, sym, ap, ◌∙◌, append_assoc, arith, inl, inr}
use Rattle.std.specs.Prelude.{◌⊎◌}
use Rattle.std.proofs.lemmas.Bool.{eqb-true}
use Rattle.std.proofs.lemmas.Bool.Decides.{eqb_tells}
use Rattle.std.proofs.lemmas.List.{take-append-drop, take_at, drop_at, length-append, append-nil, nil_from_length}
use Rattle.pcap_files.specs.declared.form.Form.{Form}
use Rattle.pcap_files.specs.declared.records.Record.{Record}
use Rattle.pcap_files.specs.declared.fault.CaptureFault.{CaptureFault}
use Rattle.pcap_files.specs.declared.fault.CaptureFault.TheVariants.{Cut, TooManyRecords}
use Rattle.pcap_files.specs.Form.{IsEntry}
use Rattle.pcap_files.specs.Grammar.{AreEntries}
use Rattle.pcap_files.specs.Capture.{◌>>=◌, entry_len, record_of, records_at}
use Rattle.pcap_files.proofs.Frames.{either}
use Rattle.pcap_files.proofs.Loop.{with_front, records_at-end}
use Rattle.pcap_files.proofs.Entries.{entry_found, entry_measured, entry_again, entry_long}

-- a test for octets that are left
pub more_left : (octets : List ℕ) → octets ≢ [] → eqb (length octets) 0 ≡ false
more_left octets h =
    elim (eqb_tells (length octets) 0) [
      | inl t ↦ absurd (h (nil_from_length octets t.1))
      | inr t ↦ t.0
    ]

pub none_left : (octets : List ℕ) → eqb (length octets) 0 ≡ true → octets ≡ []
none_left octets h = nil_from_length octets (eqb-true _ _ h)

some_left : (octets : List ℕ) → eqb (length octets) 0 ≡ false → octets ≢ []
some_left [] h = absurd cc
some_left (o ∷ octets) h = λ e. absurd cc

front_nil : (read : Result (List Record) CaptureFault) → with_front [] read ≡ read
front_nil (Ok rs) = refl
front_nil (Err e) = refl

front_cons : (r : Record) (front : List Record) (read : Result (List Record) CaptureFault) → (with_front front read >>= λ rest. Ok (r ∷ rest)) ≡ with_front (r ∷ front) read
front_cons r front (Ok rs) = refl
front_cons r front (Err e) = refl

-- one record more, whatever follows it
step : (form : Form) (i left : ℕ) (first rest : List ℕ) (r : Record) → IsEntry form first r → records_at form i (suc left) (first ++ rest) ≡ (records_at form (i + 1) left rest >>= λ others. Ok (r ∷ others))
unfolding records_at
step form i left first rest r h =
    let long : 16 ≤ length first = entry_long form first r h in
    let more : eqb (length (first ++ rest)) 0 ≡ false = more_left (first ++ rest) (λ e. absurd (omega (arith, ap length e, length-append first rest))) in
    let len = entry_measured form first rest r h in
    let front = take_at first rest (length first) refl in
    let back = drop_at first rest (length first) refl in
    rw (more, len, front, back, entry_again form first r h) refl

-- records that stand first are read, and then the rest
pub records_after : (form : Form) (i left : ℕ) (front rest : List ℕ) (rs : List Record) → AreEntries form front rs → length rs ≤ left → records_at form i left (front ++ rest) ≡ with_front rs (records_at form (i + length rs) (left - length rs) rest)
records_after form i left front rest [] h le =
    let e : front ++ rest ≡ rest = ap (λ (xs : List ℕ). xs ++ rest) h in
    let k : left - 0 ≡ left = omega arith in
    let j : i + 0 ≡ i = omega arith in
    rw (e, k, j) (sym (front_nil (records_at form i left rest)))
records_after form i zero front rest (r ∷ rs) h le = absurd (omega arith)
records_after form i (suc left) front rest (r ∷ rs) h le =
    let first = h.0 in
    let tail = h.1 in
    let parts : front ++ rest ≡ first ++ (tail ++ rest) = ap (λ (xs : List ℕ). xs ++ rest) h.2 ∙ append_assoc first tail rest in
    let ih = records_after form (i + 1) left tail rest rs h.4 (omega arith) in
    let j : (i + 1) + length rs ≡ i + suc (length rs) = omega arith in
    let k : left - length rs ≡ suc left - suc (length rs) = omega arith in
    ap (records_at form i (suc left)) parts
    ∙ step form i left first (tail ++ rest) r h.3
    ∙ ap (λ (x : Result (List Record) CaptureFault). x >>= λ others. Ok (r ∷ others)) ih
    ∙ front_cons r rs (records_at form ((i + 1) + length rs) (left - length rs) rest)
    ∙ ap (λ (n : ℕ). with_front (r ∷ rs) (records_at form n (left - length rs) rest)) j
    ∙ ap (λ (n : ℕ). with_front (r ∷ rs) (records_at form (i + suc (length rs)) n rest)) k

-- all records are read
pub records_again : (form : Form) (i left : ℕ) (octets : List ℕ) (rs : List Record) → AreEntries form octets rs → length rs ≤ left → records_at form i left octets ≡ Ok rs
records_again form i left octets rs h le =
    ap (records_at form i left) (sym (append-nil octets))
    ∙ records_after form i left octets [] rs h le
    ∙ ap (with_front rs) (records_at-end form (i + length rs) (left - length rs) [] refl)
    ∙ ap (λ (xs : List Record). Ok xs) (append-nil rs)

-- what was answered, where nothing or something was left
pub records_full : (form : Form) (i : ℕ) (octets : List ℕ) → octets ≢ [] → records_at form i 0 octets ≡ Err TooManyRecords
unfolding records_at
records_full form i octets h = rw (more_left octets h) refl

pub records_cut : (form : Form) (i left : ℕ) (octets : List ℕ) → octets ≢ [] → entry_len form octets ≡ None → records_at form i (suc left) octets ≡ Err (Cut i)
unfolding records_at
records_cut form i left octets h e = rw (more_left octets h, e) refl

records_next : (form : Form) (i left len : ℕ) (octets : List ℕ) → octets ≢ [] → entry_len form octets ≡ Some len → records_at form i (suc left) octets ≡ (records_at form (i + 1) left (drop len octets) >>= λ others. Ok (record_of form (take len octets) ∷ others))
unfolding records_at
records_next form i left len octets h e = rw (more_left octets h, e) refl

-- the fault in the place of the record after these
pub record Fault (form : Form) (i left : ℕ) (octets : List ℕ) (e : CaptureFault) : Type 0 where
  pub front : List ℕ
  pub rest : List ℕ
  pub records : List Record
  pub parts : octets ≡ front ++ rest
  pub entries : AreEntries form front records
  pub more : rest ≢ []
  pub which : ((length records < left) × (e ≡ Cut (i + length records)) × (entry_len form rest ≡ None)) ⊎ ((length records ≡ left) × (e ≡ TooManyRecords))

later : (form : Form) (i left len : ℕ) (octets : List ℕ) (e : CaptureFault) → entry_len form octets ≡ Some len → Fault form (i + 1) left (drop len octets) e → Fault form i (suc left) octets e
later form i left len octets e h f = record {
  front = take len octets ++ f.front;
  rest = f.rest;
  records = record_of form (take len octets) ∷ f.records;
  parts = sym (take-append-drop len octets) ∙ ap (λ (xs : List ℕ). take len octets ++ xs) f.parts ∙ sym (append_assoc (take len octets) f.front f.rest);
  entries = (take len octets, f.front, refl, entry_found form octets len h, f.entries);
  more = f.more;
  which = elim f.which [
    | inl w ↦ inl (omega (arith, w.0), w.1 ∙ ap (λ (n : ℕ). Cut n) (let j : (i + 1) + length f.records ≡ i + suc (length f.records) = omega arith in j), w.2)
    | inr w ↦ inr (ap suc w.0, w.1)
  ];
}

-- what reading answers is what stands there
unfoldable pub Tells : Form → ℕ → ℕ → List ℕ → Result (List Record) CaptureFault → Type 0
Tells form i left octets (Ok rs) = AreEntries form octets rs × (length rs ≤ left)
Tells form i left octets (Err e) = Fault form i left octets e

tells_more : (form : Form) (i left len : ℕ) (octets : List ℕ) (read : Result (List Record) CaptureFault) → entry_len form octets ≡ Some len → Tells form (i + 1) left (drop len octets) read → Tells form i (suc left) octets (read >>= λ others. Ok (record_of form (take len octets) ∷ others))
unfolding Tells
tells_more form i left len octets (Ok rs) h t =
    ((take len octets, drop len octets, sym (take-append-drop len octets), entry_found form octets len h, t.0), omega (arith, t.1))
tells_more form i left len octets (Err e) h t = later form i left len octets e h t

pub records_tell : (form : Form) (i left : ℕ) (octets : List ℕ) → Tells form i left octets (records_at form i left octets)
unfolding Tells
records_tell form i zero octets =
    elim (either (eqb (length octets) 0)) [
      | inl p ↦ rw (records_at-end form i 0 octets p) (none_left octets p, omega arith)
      | inr p ↦ rw (records_full form i octets (some_left octets p)) (record {
        front = [];
        rest = octets;
        records = [];
        parts = refl;
        entries = refl;
        more = some_left octets p;
        which = inr (refl, refl);
      })
    ]
records_tell form i (suc left) octets =
    elim (either (eqb (length octets) 0)) [
      | inl p ↦ rw (records_at-end form i (suc left) octets p) (none_left octets p, omega arith)
      | inr p ↦ elim (entry_len form octets) as (λ o. entry_len form octets ≡ o → Tells form i (suc left) octets (records_at form i (suc left) octets)) [
        | Some len ↦ λ h. rw (records_next form i left len octets (some_left octets p) h) (tells_more form i left len octets (records_at form (i + 1) left (drop len octets)) h (records_tell form (i + 1) left (drop len octets)))
        | None ↦ λ h. rw (records_cut form i left octets (some_left octets p) h) (record {
          front = [];
          rest = octets;
          records = [];
          parts = refl;
          entries = refl;
          more = some_left octets p;
          which = inl (omega arith, ap (λ (n : ℕ). Cut n) (let j : i ≡ i + 0 = omega arith in j), h);
        })
      ] refl
    ]
