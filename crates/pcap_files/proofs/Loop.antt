-- Reading records one after the other, as a loop does.
use Rattle.std.proofs.Common.{◌≡◌, ℕ, zero, suc, ◌-◌, ◌+◌, ◌≤◌, ◌<◌, eqb, true, false, List, [], ◌∷◌, ◌++◌, length, take, drop, Some, None, Result, Ok, Err, refl, sym, ap, ◌∙◌, append_assoc, arith}
use Rattle.std.proofs.lemmas.List.{append-nil}
use Rattle.pcap_files.specs.declared.form.Form.{Form}
use Rattle.pcap_files.specs.declared.records.Record.{Record}
use Rattle.pcap_files.specs.declared.fault.CaptureFault.{CaptureFault}
use Rattle.pcap_files.specs.declared.fault.CaptureFault.TheVariants.{Cut, TooManyRecords}
use Rattle.pcap_files.specs.Capture.{◌>>=◌, entry_len, record_of, records_at}

-- what was read before, and what is still read
abbrev pub with_front : List Record → Result (List Record) CaptureFault → Result (List Record) CaptureFault
with_front front read = read >>= λ rest. Ok (front ++ rest)

regroup : (front : List Record) (r : Record) (read : Result (List Record) CaptureFault) → with_front front (read >>= λ rest. Ok (r ∷ rest)) ≡ with_front (front ++ r ∷ []) read
regroup front r (Ok rest) = ap (λ (rs : List Record). Ok rs) (simp append_assoc)
regroup front r (Err e) = refl

-- where nothing is left the records so far are all
pub records_at-end : (form : Form) (i left : ℕ) (octets : List ℕ) → eqb (length octets) 0 ≡ true → records_at form i left octets ≡ Ok []
unfolding records_at
records_at-end form i zero octets h = rw h refl
records_at-end form i (suc left) octets h = rw h refl

pub is_done : (front : List Record) (form : Form) (i left : ℕ) (octets : List ℕ) (total : Result (List Record) CaptureFault) → eqb (length octets) 0 ≡ true → with_front front (records_at form i left octets) ≡ total → total ≡ Ok front
is_done front form i left octets total h so_far =
    let one : with_front front (records_at form i left octets) ≡ Ok front = rw (records_at-end form i left octets h) (ap (λ (rs : List Record). Ok rs) (append-nil front)) in
    sym so_far ∙ one

pub goes_on : (front : List Record) (form : Form) (room i len : ℕ) (octets : List ℕ) (total : Result (List Record) CaptureFault) → i < room → eqb (length octets) 0 ≡ false → entry_len form octets ≡ Some len
    → with_front front (records_at form i (room - i) octets) ≡ total → with_front (front ++ record_of form (take len octets) ∷ []) (records_at form (i + 1) (room - (i + 1)) (drop len octets)) ≡ total
unfolding records_at
goes_on front form room i len octets total lt more h so_far =
    let k : room - i ≡ suc (room - (i + 1)) = omega arith in
    let one : with_front front (records_at form i (room - i) octets) ≡ with_front (front ++ record_of form (take len octets) ∷ []) (records_at form (i + 1) (room - (i + 1)) (drop len octets)) = rw (k, more, h) (regroup front (record_of form (take len octets)) (records_at form (i + 1) (room - (i + 1)) (drop len octets))) in
    sym one ∙ so_far

pub is_cut : (front : List Record) (form : Form) (room i : ℕ) (octets : List ℕ) (total : Result (List Record) CaptureFault) → i < room → eqb (length octets) 0 ≡ false → entry_len form octets ≡ None
    → with_front front (records_at form i (room - i) octets) ≡ total → total ≡ Err (Cut i)
unfolding records_at
is_cut front form room i octets total lt more h so_far =
    let k : room - i ≡ suc (room - (i + 1)) = omega arith in
    let one : with_front front (records_at form i (room - i) octets) ≡ Err (Cut i) = rw (k, more, h) refl in
    sym so_far ∙ one

pub is_full : (front : List Record) (form : Form) (room i : ℕ) (octets : List ℕ) (total : Result (List Record) CaptureFault) → room ≤ i → eqb (length octets) 0 ≡ false
    → with_front front (records_at form i (room - i) octets) ≡ total → total ≡ Err TooManyRecords
unfolding records_at
is_full front form room i octets total le more so_far =
    let k : room - i ≡ 0 = omega arith in
    let one : with_front front (records_at form i (room - i) octets) ≡ Err TooManyRecords = rw (k, more) refl in
    sym so_far ∙ one
