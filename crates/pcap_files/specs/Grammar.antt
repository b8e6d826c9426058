-- What octets are a capture of which records, and what the first fault of others is.
use Rattle.std.specs.Prelude.{◌≡◌, ◌≢◌, ℕ, ◌<◌, ◌≤◌, List, [], ◌∷◌, ◌++◌, drop, length}
use Rattle.pcap_files.specs.declared.form.Form.{Form}
use Rattle.pcap_files.specs.declared.form.Order.{Order}
use Rattle.pcap_files.specs.declared.form.Unit.{Unit as TimeUnit}
use Rattle.pcap_files.specs.declared.form.Link.{Link}
use Rattle.pcap_files.specs.declared.records.Record.{Record}
use Rattle.pcap_files.specs.declared.fault.CaptureFault.{CaptureFault}
use Rattle.pcap_files.specs.declared.fault.CaptureFault.TheVariants.{NotPcap, BadVersion, BadLink, Cut, TooManyRecords, NoMemory}
use Rattle.pcap_files.specs.Form.{link_number, HasMagic, version_in, version_2_4, link_in, IsHeader, IsEntry}

-- the octets are these records, one after the other
abbrev pub AreEntries : Form → List ℕ → List Record → Type 0
AreEntries form octets [] = octets ≡ []
AreEntries form octets (r ∷ rs) =
    (first rest : List ℕ) × (octets ≡ first ++ rest) × IsEntry form first r × AreEntries form rest rs

-- a header, and behind it these records, for which there is room
pub record IsCapture (room : ℕ) (octets : List ℕ) (records : List Record) : Type 0 where
  pub form : Form
  pub header : IsHeader form octets
  pub entries : AreEntries form (drop 24 octets) records
  pub fits : length records ≤ room

-- behind a header these records stand first, and the rest, which isn't empty, after them
pub record StandsAfter (form : Form) (octets : List ℕ) (records : List Record) (rest : List ℕ) : Type 0 where
  pub header : IsHeader form octets
  pub front : List ℕ
  pub parts : drop 24 octets ≡ front ++ rest
  pub entries : AreEntries form front records
  pub more : rest ≢ []

-- the first fault from the left
abbrev pub HasFault : ℕ → List ℕ → CaptureFault → Type 0
HasFault room octets NotPcap = (order : Order) (unit : TimeUnit) → HasMagic order unit octets → ⊥
HasFault room octets (BadVersion v) =
    (order : Order) × (unit : TimeUnit) × HasMagic order unit octets × (version_in order octets ≡ v) × (v ≢ version_2_4)
HasFault room octets (BadLink v) =
    (order : Order) × (unit : TimeUnit) × HasMagic order unit octets × (version_in order octets ≡ version_2_4)
    × (link_in order octets ≡ v)
    × ((link : Link) → v ≢ link_number link)
-- no first octets of what stands in the place of record i are a record
HasFault room octets (Cut i) =
    (form : Form) × (records : List Record) × (rest : List ℕ) × StandsAfter form octets records rest
    × (length records ≡ i)
    × (i < room)
    × ((first after : List ℕ) (r : Record) → rest ≡ first ++ after → IsEntry form first r → ⊥)
HasFault room octets TooManyRecords =
    (form : Form) × (records : List Record) × (rest : List ℕ) × StandsAfter form octets records rest × (length records ≡ room)
HasFault room octets NoMemory = ⊥
