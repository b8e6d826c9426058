-- What an answer by the reading means in the words of the grammar.
use Rattle.std.proofs.Common.{◌≡◌, ℕ, ◌+◌, ◌≤◌, ◌<◌, List, [], ◌∷◌, ◌++◌, length, drop, Result, Ok, Err, All, refl, ap, subst, arith, inl, inr}
use Rattle.std.specs.Prelude.{IfOk, IfErr, ◌⊎◌}
use Rattle.std.specs.List.{AllByRecursion}
use Rattle.std.proofs.lemmas.Bool.{cases_lt}
use Rattle.std.proofs.lemmas.List.{get_or_append_left, get_or-append-add, get_or-drop, get_or_past, length-drop}
use Rattle.std.proofs.lemmas.List.Elements.{All-from_recursion}
use Rattle.pcap_files.specs.declared.form.Form.{Form}
use Rattle.pcap_files.specs.declared.form.Unit.{Unit as TimeUnit}
use Rattle.pcap_files.specs.declared.form.Unit.TheVariants.{Micro, Nano}
use Rattle.pcap_files.specs.declared.form.Link.{Link}
use Rattle.pcap_files.specs.declared.form.Link.TheVariants.{Ethernet, Raw}
use Rattle.pcap_files.specs.declared.records.Record.{Record}
use Rattle.pcap_files.specs.declared.fault.CaptureFault.{CaptureFault}
use Rattle.pcap_files.specs.declared.fault.CaptureFault.TheVariants.{NotPcap, BadVersion, BadLink, Cut, TooManyRecords, NoMemory}
use Rattle.pcap_files.specs.Form.{number, in_micros, IsEntry, IsPacket}
use Rattle.pcap_files.specs.Grammar.{AreEntries, IsCapture, HasFault}
use Rattle.pcap_files.specs.Written.{IsWritable}
use Rattle.pcap_files.specs.Capture.{Fails, Gives, capture}
use Rattle.pcap_files.proofs.Numbers.{AreOctets, number-lt}
use Rattle.pcap_files.proofs.Captures.{capture_found, capture_again, fault_found, fault_again}

pub found : (room : ℕ) (octets : List ℕ) (answer : Result (List Record) CaptureFault) → AreOctets octets → Gives (λ (r : List Record). r) answer (capture room octets) → IfOk answer (λ records. IsCapture room octets records)
found room octets (Ok records) fits h = capture_found room octets records fits h
found room octets (Err e) fits h = tt

pub only : (room : ℕ) (octets : List ℕ) (answer : Result (List Record) CaptureFault) → AreOctets octets → Gives (λ (r : List Record). r) answer (capture room octets) → (records : List Record) → IsCapture room octets records → Gives (λ (r : List Record). r) answer (Ok records)
only room octets answer fits h records is =
    subst (λ (x : Result (List Record) CaptureFault). Gives (λ (r : List Record). r) answer x) (capture_again room octets records fits is) h

pub refused : (room : ℕ) (octets : List ℕ) (answer : Result (List Record) CaptureFault) → AreOctets octets → Gives (λ (r : List Record). r) answer (capture room octets) → (fault : CaptureFault) → HasFault room octets fault → Gives (λ (r : List Record). r) answer (Err fault)
refused room octets answer fits h fault is =
    subst (λ (x : Result (List Record) CaptureFault). Gives (λ (r : List Record). r) answer x) (fault_again room octets fault fits is) h

fails : (room : ℕ) (octets : List ℕ) (e : CaptureFault) → AreOctets octets → Fails e (capture room octets) → (e ≡ NoMemory) ⊎ HasFault room octets e
fails room octets NoMemory fits h = inl refl
fails room octets NotPcap fits h = inr (fault_found room octets NotPcap fits h)
fails room octets (BadVersion v) fits h = inr (fault_found room octets (BadVersion v) fits h)
fails room octets (BadLink v) fits h = inr (fault_found room octets (BadLink v) fits h)
fails room octets (Cut i) fits h = inr (fault_found room octets (Cut i) fits h)
fails room octets TooManyRecords fits h = inr (fault_found room octets TooManyRecords fits h)

pub first_fault : (room : ℕ) (octets : List ℕ) (answer : Result (List Record) CaptureFault) → AreOctets octets → Gives (λ (r : List Record). r) answer (capture room octets) → IfErr answer (λ fault. (fault ≡ NoMemory) ⊎ HasFault room octets fault)
first_fault room octets (Ok records) fits h = tt
first_fault room octets (Err e) fits h = fails room octets e fits h

-- ---- each record can be written again

micros_le : (unit : TimeUnit) (n : ℕ) → in_micros unit n ≤ n
micros_le Micro n = omega arith
micros_le Nano n = omega arith

packet_le : (link : Link) (captured packet : List ℕ) → IsPacket link captured packet → length packet ≤ length captured
packet_le Raw captured packet h = omega (arith, ap length h)
packet_le Ethernet captured packet (inl (inl plain)) = omega (arith, ap length plain.2, length-drop 14 captured)
packet_le Ethernet captured packet (inl (inr tagged)) = omega (arith, ap length tagged.3, length-drop 18 captured)
packet_le Ethernet captured packet (inr foreign) = omega (arith, ap length foreign.1)

entry_writable : (form : Form) (octets : List ℕ) (r : Record) → AreOctets octets → IsEntry form octets r → IsWritable r
entry_writable form octets r fits h =
    let a = number-lt form.order 0 4 octets fits in
    let b = number-lt form.order 4 4 octets fits in
    let d = number-lt form.order 8 4 octets fits in
    let m = micros_le form.unit (number form.order 4 4 octets) in
    (omega (arith, h.time), omega (arith, packet_le form.link (drop 16 octets) r.bytes h.packet, length-drop 16 octets, h.whole))

octets_left : (xs ys : List ℕ) → AreOctets (xs ++ ys) → AreOctets xs
octets_left xs ys fits i =
    elim (cases_lt i (length xs)) [
      | inl lt ↦ rw (← get_or_append_left xs ys 0 i lt) (fits i)
      | inr le ↦ rw (get_or_past xs i 0 le) (omega arith)
    ]

octets_right : (xs ys : List ℕ) → AreOctets (xs ++ ys) → AreOctets ys
octets_right xs ys fits i = rw (← get_or-append-add xs ys i 0) (fits (length xs + i))

entries_writable : (form : Form) (octets : List ℕ) (records : List Record) → AreOctets octets → AreEntries form octets records → AllByRecursion IsWritable records
entries_writable form octets [] fits h = tt
entries_writable form octets (r ∷ rs) fits h =
    let both : AreOctets (h.0 ++ h.1) = subst (λ (xs : List ℕ). AreOctets xs) h.2 fits in
    (entry_writable form h.0 r (octets_left h.0 h.1 both) h.3, entries_writable form h.1 rs (octets_right h.0 h.1 both) h.4)

pub writable : (room : ℕ) (octets : List ℕ) (answer : Result (List Record) CaptureFault) → AreOctets octets → Gives (λ (r : List Record). r) answer (capture room octets) → IfOk answer (λ records. All IsWritable records)
writable room octets (Ok records) fits h =
    let c = capture_found room octets records fits h in
    All-from_recursion IsWritable records (entries_writable c.form (drop 24 octets) records (λ i. rw get_or-drop (fits (24 + i))) c.entries)
writable room octets (Err e) fits h = tt

pub octets_are : (octets : List ℕ) → All (λ octet. octet < 256) octets → AreOctets octets
octets_are octets h i =
    elim (cases_lt i (length octets)) [
      | inl lt ↦ h i 0 lt
      | inr le ↦ rw (get_or_past octets i 0 le) (omega arith)
    ]
