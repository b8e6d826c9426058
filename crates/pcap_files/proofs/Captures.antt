-- What is read is the capture of the grammar, a fault is the first one, and both ways.
use Rattle.std.proofs.Common.{◌≡◌, ℕ, suc, ◌+◌, ◌-◌, ◌≤◌, ◌<◌, List, length, drop, Result, Ok, Err, refl, sym, ap, subst, ◌∙◌, arith, inl, inr}
use Rattle.pcap_files.specs.declared.form.Form.{Form}
use Rattle.pcap_files.specs.declared.records.Record.{Record}
use Rattle.pcap_files.specs.declared.fault.CaptureFault.{CaptureFault}
use Rattle.pcap_files.specs.declared.fault.CaptureFault.TheVariants.{NotPcap, BadVersion, BadLink, Cut, TooManyRecords, NoMemory}
use Rattle.pcap_files.specs.Form.{IsHeader}
use Rattle.pcap_files.specs.Grammar.{IsCapture, StandsAfter, HasFault}
use Rattle.pcap_files.specs.Capture.{◌>>=◌, form_at, records_at, capture}
use Rattle.pcap_files.proofs.Numbers.{AreOctets}
use Rattle.pcap_files.proofs.Loop.{with_front}
use Rattle.pcap_files.proofs.Entries.{no_entry, no_length}
use Rattle.pcap_files.proofs.Runs.{Fault, Tells, records_tell, records_after, records_again, records_full, records_cut}
use Rattle.pcap_files.proofs.Header.{HeaderTells, header_tell, form_again, not_pcap_again, bad_version_again, bad_link_again}

unfoldable pub CaptureTells : ℕ → List ℕ → Result (List Record) CaptureFault → Type 0
CaptureTells room octets (Ok rs) = IsCapture room octets rs
CaptureTells room octets (Err e) = HasFault room octets e

fault_told : (form : Form) (room : ℕ) (octets : List ℕ) (e : CaptureFault) → IsHeader form octets → Fault form 0 room (drop 24 octets) e → HasFault room octets e
fault_told form room octets e h f =
    let stands : StandsAfter form octets f.records f.rest = record { header = h; front = f.front; parts = f.parts; entries = f.entries; more = f.more } in
    elim f.which [
      | inl w ↦
          let cut : HasFault room octets (Cut (0 + length f.records)) = (form, f.records, f.rest, stands, (let k : length f.records ≡ 0 + length f.records = omega arith in k), omega (arith, w.0), λ first after r parts entry. no_entry form f.rest first after r w.2 parts entry) in
          subst (λ (x : CaptureFault). HasFault room octets x) (sym w.1) cut
      | inr w ↦ subst (λ (x : CaptureFault). HasFault room octets x) (sym w.1) (form, f.records, f.rest, stands, w.0)
    ]

records_told : (form : Form) (room : ℕ) (octets : List ℕ) (read : Result (List Record) CaptureFault) → IsHeader form octets → Tells form 0 room (drop 24 octets) read → CaptureTells room octets read
unfolding CaptureTells Tells
records_told form room octets (Ok rs) h t = record { form = form; header = h; entries = t.0; fits = t.1 }
records_told form room octets (Err e) h t = fault_told form room octets e h t

told : (room : ℕ) (octets : List ℕ) (read : Result Form CaptureFault) → HeaderTells octets read → CaptureTells room octets (read >>= λ form. records_at form 0 room (drop 24 octets))
unfolding CaptureTells HeaderTells
told room octets (Ok form) h = records_told form room octets (records_at form 0 room (drop 24 octets)) h (records_tell form 0 room (drop 24 octets))
told room octets (Err e) h = h room

pub capture_tells : (room : ℕ) (octets : List ℕ) → AreOctets octets → CaptureTells room octets (capture room octets)
unfolding capture
capture_tells room octets fits = told room octets (form_at octets) (header_tell octets fits)

pub capture_found : (room : ℕ) (octets : List ℕ) (rs : List Record) → AreOctets octets → capture room octets ≡ Ok rs → IsCapture room octets rs
unfolding CaptureTells
capture_found room octets rs fits e = subst (λ (x : Result (List Record) CaptureFault). CaptureTells room octets x) e (capture_tells room octets fits)

pub fault_found : (room : ℕ) (octets : List ℕ) (fault : CaptureFault) → AreOctets octets → capture room octets ≡ Err fault → HasFault room octets fault
unfolding CaptureTells
fault_found room octets fault fits e = subst (λ (x : Result (List Record) CaptureFault). CaptureTells room octets x) e (capture_tells room octets fits)

-- ---- the other way

behind : (room : ℕ) (octets : List ℕ) (form : Form) → AreOctets octets → IsHeader form octets → capture room octets ≡ records_at form 0 room (drop 24 octets)
unfolding capture
behind room octets form fits h = rw (form_again form octets fits h) refl

pub capture_again : (room : ℕ) (octets : List ℕ) (rs : List Record) → AreOctets octets → IsCapture room octets rs → capture room octets ≡ Ok rs
capture_again room octets rs fits h =
    behind room octets h.form fits h.header ∙ records_again h.form 0 room (drop 24 octets) rs h.entries h.fits

header_fault : (room : ℕ) (octets : List ℕ) (fault : CaptureFault) → form_at octets ≡ Err fault → capture room octets ≡ Err fault
unfolding capture
header_fault room octets fault h = rw h refl

-- behind records that stand first the rest is read
at_rest : (room : ℕ) (octets : List ℕ) (form : Form) (records : List Record) (rest : List ℕ) (fault : CaptureFault) → AreOctets octets → (s : StandsAfter form octets records rest) → length records ≤ room → records_at form (0 + length records) (room - length records) rest ≡ Err fault → capture room octets ≡ Err fault
at_rest room octets form records rest fault fits s le e =
    behind room octets form fits s.header
    ∙ ap (records_at form 0 room) s.parts
    ∙ records_after form 0 room s.front rest records s.entries le
    ∙ ap (with_front records) e

pub fault_again : (room : ℕ) (octets : List ℕ) (fault : CaptureFault) → AreOctets octets → HasFault room octets fault → capture room octets ≡ Err fault
fault_again room octets NotPcap fits h = header_fault room octets NotPcap (not_pcap_again octets fits h)
fault_again room octets (BadVersion v) fits h =
    header_fault room octets (BadVersion v) (bad_version_again h.0 h.1 octets v fits h.2 h.3 h.4)
fault_again room octets (BadLink v) fits h =
    header_fault room octets (BadLink v) (bad_link_again h.0 h.1 octets v fits h.2 h.3 h.4 h.5)
fault_again room octets (Cut i) fits h =
    let lt : length h.1 < room = omega (arith, h.4, h.5) in
    let k : room - length h.1 ≡ suc (room - suc (length h.1)) = omega arith in
    let j : 0 + length h.1 ≡ i = omega (arith, h.4) in
    let cut : records_at h.0 (0 + length h.1) (room - length h.1) h.2 ≡ Err (Cut i) = ap (λ (n : ℕ). records_at h.0 (0 + length h.1) n h.2) k ∙ records_cut h.0 (0 + length h.1) (room - suc (length h.1)) h.2 h.3.more (no_length h.0 h.2 h.6) ∙ ap (λ (n : ℕ). Err (Cut n)) j in
    at_rest room octets h.0 h.1 h.2 (Cut i) fits h.3 (omega (arith, lt)) cut
fault_again room octets TooManyRecords fits h =
    let k : room - length h.1 ≡ 0 = omega (arith, h.4) in
    let full : records_at h.0 (0 + length h.1) (room - length h.1) h.2 ≡ Err TooManyRecords = ap (λ (n : ℕ). records_at h.0 (0 + length h.1) n h.2) k ∙ records_full h.0 (0 + length h.1) h.2 h.3.more in
    at_rest room octets h.0 h.1 h.2 TooManyRecords fits h.3 (omega (arith, h.4)) full
fault_again room octets NoMemory fits h = absurd h
