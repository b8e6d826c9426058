-- Reading a capture from left to right, with the first fault that is met. The grammar that it follows
-- stands apart, in `Grammar`.
use Rattle.std.specs.Prelude.{◌≡◌, ℕ, zero, suc, ◌+◌, ◌*◌, ◌-◌, List, [], ◌∷◌, length, take, drop, Option, Some, None, Result, Ok, Err, Bool, ◌&&◌, ◌||◌, nat_lt, nat_le, ◌==◌, if◌then◌else◌}
use Rattle.octets.specs.Field.{word}
use Rattle.pcap_files.specs.declared.form.Form.{Form}
use Rattle.pcap_files.specs.declared.form.Order.{Order}
use Rattle.pcap_files.specs.declared.form.Order.TheVariants.{Big, Little}
use Rattle.pcap_files.specs.declared.form.Unit.{Unit as TimeUnit}
use Rattle.pcap_files.specs.declared.form.Unit.TheVariants.{Micro, Nano}
use Rattle.pcap_files.specs.declared.form.Link.{Link}
use Rattle.pcap_files.specs.declared.form.Link.TheVariants.{Ethernet, Raw}
use Rattle.pcap_files.specs.declared.records.Record.{Record}
use Rattle.pcap_files.specs.declared.fault.CaptureFault.{CaptureFault}
use Rattle.pcap_files.specs.declared.fault.CaptureFault.TheVariants.{NotPcap, BadVersion, BadLink, Cut, TooManyRecords, NoMemory}
use Rattle.pcap_files.specs.Form.{number, version_in, version_2_4, link_in, in_micros}

infixl 10 ◌>>=◌
abbrev pub ◌>>=◌ : {A B : Type 0} → Result A CaptureFault → (A → Result B CaptureFault) → Result B CaptureFault
(Ok x) >>= f = f x
(Err e) >>= f = Err e

-- the value, or the fault where there is none
abbrev pub or_fault : {A : Type 0} → Option A → CaptureFault → Result A CaptureFault
or_fault (Some x) fault = Ok x
or_fault None fault = Err fault

-- What a function answered, seen by view, is what reading gives, unless memory ran out.
abbrev pub Fails : {Y : Type 0} → CaptureFault → Result Y CaptureFault → Type 0
Fails NoMemory read = Unit {0}
Fails NotPcap read = read ≡ Err NotPcap
Fails (BadVersion v) read = read ≡ Err (BadVersion v)
Fails (BadLink v) read = read ≡ Err (BadLink v)
Fails (Cut i) read = read ≡ Err (Cut i)
Fails TooManyRecords read = read ≡ Err TooManyRecords

abbrev pub Gives : {X Y : Type 0} → (X → Y) → Result X CaptureFault → Result Y CaptureFault → Type 0
Gives view (Ok x) read = read ≡ Ok (view x)
Gives view (Err e) read = Fails e read

-- the order and the unit, by the magic number as its first octet highest gives it
abbrev pub way_of : ℕ → Option (Order × TimeUnit)
way_of magic =
    if magic == 0xa1b2c3d4 then Some (Big, Micro)
    else (if magic == 0xd4c3b2a1 then Some (Little, Micro)
    else (if magic == 0xa1b23c4d then Some (Big, Nano)
    else (if magic == 0x4d3cb2a1 then Some (Little, Nano)
    else None)))

unfoldable pub way_at : List ℕ → Result (Order × TimeUnit) CaptureFault
way_at octets = if nat_lt (length octets) 24 then Err NotPcap else or_fault (way_of (number Big 0 4 octets)) NotPcap

unfoldable pub version_at : Order → List ℕ → Result ℕ CaptureFault
version_at order octets =
    if version_in order octets == version_2_4 then Ok (version_in order octets) else Err (BadVersion (version_in order octets))

unfoldable pub link_at : Order → List ℕ → Result Link CaptureFault
link_at order octets =
    if link_in order octets == 1 then Ok Ethernet
    else (if link_in order octets == 101 then Ok Raw
    else Err (BadLink (link_in order octets)))

-- the form that the file header says
unfoldable pub form_at : List ℕ → Result Form CaptureFault
form_at octets = do
  way ← way_at octets
  version ← version_at way.0 octets
  link ← link_at way.0 octets
  Ok (record { order = way.0; unit = way.1; link = link })

-- the type of IPv4 or of IPv6 stands at the place
abbrev pub has_ip_type : List ℕ → ℕ → Bool
has_ip_type frame at = nat_le (at + 2) (length frame) && (word frame at == 0x0800 || word frame at == 0x86dd)

-- the tag of IEEE 802.1Q stands where the type stands else
abbrev pub has_tag : List ℕ → Bool
has_tag frame = nat_le 18 (length frame) && word frame 12 == 0x8100

-- the packet of what was captured, and none where it is foreign
unfoldable pub packet_of : Link → List ℕ → List ℕ
packet_of Raw captured = captured
packet_of Ethernet frame =
    if has_ip_type frame 12 then drop 14 frame else (if has_tag frame && has_ip_type frame 16 then drop 18 frame else [])

-- the octets of the first record, where they all stand there
unfoldable pub entry_len : Form → List ℕ → Option ℕ
entry_len form octets =
    if nat_lt (length octets) 16 then None
    else (if nat_lt (length octets - 16) (number form.order 8 4 octets) then None
    else Some (16 + number form.order 8 4 octets))

abbrev pub time_of : Form → List ℕ → ℕ
time_of form octets =
    number form.order 0 4 octets * 1000000 + in_micros form.unit (number form.order 4 4 octets)

-- the record that these octets are
unfoldable pub record_of : Form → List ℕ → Record
record_of form octets = record { time = time_of form octets; bytes = packet_of form.link (drop 16 octets) }

-- the records from number i on, of which there may be so many more
unfoldable pub records_at : Form → ℕ → ℕ → List ℕ → Result (List Record) CaptureFault
records_at form i zero octets = if length octets == 0 then Ok [] else Err TooManyRecords
records_at form i (suc left) octets =
    if length octets == 0 then Ok []
    else (or_fault (entry_len form octets) (Cut i)
    >>= λ len. records_at form (i + 1) left (drop len octets)
    >>= λ rest. Ok (record_of form (take len octets) ∷ rest))

-- what the octets are read as, with room for so many records
unfoldable pub capture : ℕ → List ℕ → Result (List Record) CaptureFault
capture room octets = do
  form ← form_at octets
  records_at form 0 room (drop 24 octets)
