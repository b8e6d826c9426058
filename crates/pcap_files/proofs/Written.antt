-- What is written is read again, and what follows a capture changes none of its records.
use Rattle.std.proofs.Common.{◌≡◌, ℕ, ◌+◌, ◌*◌, ◌^◌, ◌≤◌, ◌<◌, ltb, false, List, [], ◌∷◌, ◌++◌, length, drop, Ok, All, refl, arith}
use Rattle.std.specs.List.{AllByRecursion}
use Rattle.std.proofs.lemmas.Bool.{le-ltb}
use Rattle.std.proofs.lemmas.List.Elements.{recursion_from_All}
use Rattle.std.specs.List.{flat_map}
use Rattle.byteorder.specs.Numbers.{little_number-reads_back}
use Rattle.pcap_files.specs.declared.form.Form.{Form}
use Rattle.pcap_files.specs.declared.form.Order.TheVariants.{Little}
use Rattle.pcap_files.specs.declared.form.Unit.TheVariants.{Micro}
use Rattle.pcap_files.specs.declared.form.Link.TheVariants.{Raw}
use Rattle.pcap_files.specs.declared.records.Record.{Record}
use Rattle.pcap_files.specs.Form.{IsEntry}
use Rattle.pcap_files.specs.Grammar.{AreEntries}
use Rattle.pcap_files.specs.Written.{empty_capture, entry, written, seconds, fraction, IsWritable, IsWritableTime}
use Rattle.pcap_files.specs.Capture.{way_at, version_at, link_at, form_at, capture}
use Rattle.pcap_files.proofs.Runs.{records_again}

-- the form that is written
pub plain : Form
plain = record { order = Little; unit = Micro; link = Raw }

-- the header that is written is read so, whatever follows it
form_of_written : (rest : List ℕ) → form_at (empty_capture ++ rest) ≡ Ok plain
unfolding form_at way_at version_at link_at empty_capture plain
form_of_written rest =
    let long : ltb (length (empty_capture ++ rest)) 24 ≡ false = le-ltb _ _ (omega arith) in
    rw long refl

behind_written : (rest : List ℕ) → drop 24 (empty_capture ++ rest) ≡ rest
unfolding empty_capture
behind_written rest = refl

-- the two parts of a time are the time again
parts_of_time : (time : ℕ) → IsWritableTime time → (seconds time < 256 ^ 4) × (fraction time < 256 ^ 4) × (seconds time * 1000000 + fraction time ≡ time)
parts_of_time time h = (omega arith, omega arith, omega arith)

pub entry_is : (r : Record) → IsWritable r → IsEntry plain (entry r.time r.bytes) r
unfolding entry plain
entry_is r h =
    let t = parts_of_time r.time h.0 in
    let len = little_number-reads_back 4 (length r.bytes) [] (omega (arith, h.1)) in
    let s = little_number-reads_back 4 (seconds r.time) [] t.0 in
    let f = little_number-reads_back 4 (fraction r.time) [] t.1 in
    record {
      whole = omega (arith, len);
      time = omega (arith, s, f, t.2);
      packet = refl;
    }

-- the records that are written stand one after the other
pub entries_are : (records : List Record) → AllByRecursion IsWritable records → AreEntries plain (flat_map (λ r. entry r.time r.bytes) records) records
entries_are [] h = refl
entries_are (r ∷ rs) h =
    (entry r.time r.bytes, flat_map (λ r. entry r.time r.bytes) rs, refl, entry_is r h.0, entries_are rs h.1)

pub written_again : (room : ℕ) (records : List Record) → All IsWritable records → length records ≤ room → capture room (written records) ≡ Ok records
unfolding capture
written_again room records h le =
    let body = flat_map (λ (r : Record). entry r.time r.bytes) records in
    let all = entries_are records (recursion_from_All IsWritable records h) in
    rw (form_of_written body, behind_written body) (records_again plain 0 room body records all le)
