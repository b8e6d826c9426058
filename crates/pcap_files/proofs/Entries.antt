-- A record that is read is one of the grammar, and one of the grammar is read.
use Rattle.std.proofs.Common.{◌≡◌, ℕ, ◌+◌, ◌-◌, ◌≤◌, false, ltb, List, ◌++◌, length, take, drop, Some, None, refl, sym, ap, ◌∙◌, arith, inl, inr}
use Rattle.std.proofs.lemmas.Bool.{ltb-false, le-ltb}
use Rattle.std.proofs.lemmas.List.{length-take-le, length-append, take-append-drop}
use Rattle.pcap_files.specs.declared.form.Form.{Form}
use Rattle.pcap_files.specs.declared.records.Record.{Record}
use Rattle.pcap_files.specs.Form.{number, IsEntry}
use Rattle.pcap_files.specs.Capture.{entry_len, record_of}
use Rattle.pcap_files.proofs.Numbers.{number-take, number-append}
use Rattle.pcap_files.proofs.Frames.{packet_is, packet_only, either}

-- a length that is read leaves the record within the octets
pub record Measured (form : Form) (octets : List ℕ) (len : ℕ) : Type 0 where
  pub len_is : len ≡ 16 + number form.order 8 4 octets
  pub within : len ≤ length octets

pub measured : (form : Form) (octets : List ℕ) (len : ℕ) → entry_len form octets ≡ Some len → Measured form octets len
unfolding entry_len
measured form octets len e =
    elim (either (ltb (length octets) 16)) [
      | inl p ↦ absurd (let f : None ≡ Some len = rw p at e in cc)
      | inr p ↦ elim (either (ltb (length octets - 16) (number form.order 8 4 octets))) [
        | inl q ↦ absurd (let f : None ≡ Some len = rw (p, q) at e in cc)
        | inr q ↦
            let f : Some (16 + number form.order 8 4 octets) ≡ Some len = rw (p, q) at e in
            let a : 16 ≤ length octets = ltb-false _ _ p in
            let b : number form.order 8 4 octets ≤ length octets - 16 = ltb-false _ _ q in
            let g : 16 + number form.order 8 4 octets ≡ len = cc in
            record { len_is = sym g; within = omega arith }
      ]
    ]

pub entry_len-is : (form : Form) (octets : List ℕ) → 16 + number form.order 8 4 octets ≤ length octets → entry_len form octets ≡ Some (16 + number form.order 8 4 octets)
unfolding entry_len
entry_len-is form octets h =
    let p : ltb (length octets) 16 ≡ false = le-ltb _ _ (omega arith) in
    let q : ltb (length octets - 16) (number form.order 8 4 octets) ≡ false = le-ltb _ _ (omega arith) in
    rw (p, q) refl

-- what is read is a record
pub entry_found : (form : Form) (octets : List ℕ) (len : ℕ) → entry_len form octets ≡ Some len → IsEntry form (take len octets) (record_of form (take len octets))
unfolding record_of
entry_found form octets len e =
    let m = measured form octets len e in
    let same : number form.order 8 4 (take len octets) ≡ number form.order 8 4 octets = number-take form.order 8 4 len octets (omega (arith, m.len_is)) in
    record {
      whole = length-take-le len octets m.within ∙ m.len_is ∙ ap (λ (n : ℕ). 16 + n) (sym same);
      time = refl;
      packet = packet_is form.link (drop 16 (take len octets));
    }

-- a record is measured, whatever follows it
pub entry_measured : (form : Form) (first rest : List ℕ) (r : Record) → IsEntry form first r → entry_len form (first ++ rest) ≡ Some (length first)
entry_measured form first rest r h =
    let same : number form.order 8 4 (first ++ rest) ≡ number form.order 8 4 first = number-append form.order 8 4 first rest (omega (arith, h.whole)) in
    let len : 16 + number form.order 8 4 (first ++ rest) ≡ length first = ap (λ (n : ℕ). 16 + n) same ∙ sym h.whole in
    entry_len-is form (first ++ rest) (omega (arith, len, length-append first rest)) ∙ ap (λ (n : ℕ). Some n) len

-- and read as itself
pub entry_again : (form : Form) (first : List ℕ) (r : Record) → IsEntry form first r → record_of form first ≡ r
unfolding record_of
entry_again form first r h =
    rw (← h.time, ← packet_only form.link (drop 16 first) r.bytes h.packet) refl

pub entry_long : (form : Form) (first : List ℕ) (r : Record) → IsEntry form first r → 16 ≤ length first
entry_long form first r h = omega (arith, h.whole)

-- where no length is read no record stands first
pub no_entry : (form : Form) (octets first after : List ℕ) (r : Record) → entry_len form octets ≡ None → octets ≡ first ++ after → IsEntry form first r → ⊥
no_entry form octets first after r e parts h =
    let f : Some (length first) ≡ None = sym (entry_measured form first after r h) ∙ ap (λ (xs : List ℕ). entry_len form xs) (sym parts) ∙ e in
    cc

pub no_length : (form : Form) (octets : List ℕ) → ((first after : List ℕ) (r : Record) → octets ≡ first ++ after → IsEntry form first r → ⊥) → entry_len form octets ≡ None
no_length form octets h =
    elim (entry_len form octets) as (λ o. entry_len form octets ≡ o → o ≡ None) [
      | Some len ↦ λ e. absurd (h (take len octets) (drop len octets) (record_of form (take len octets)) (sym (take-append-drop len octets)) (entry_found form octets len e))
      | None ↦ λ e. refl
    ] refl
