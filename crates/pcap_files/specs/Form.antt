-- How a capture file spells its header and its records, field by field and by place (classic pcap:
-- draft-ietf-opsawg-pcap, sections 4 and 5). Each number is spelled in the file's own order.
use Rattle.std.specs.Prelude.{◌≡◌, ℕ, ◌+◌, ◌*◌, ◌/◌, ◌≤◌, ◌⊎◌, List, [], drop, length}
use Rattle.byteorder.specs.Endian.{big_from, little_from}
use Rattle.octets.specs.Field.{word}
use Rattle.pcap_files.specs.declared.form.Form.{Form}
use Rattle.pcap_files.specs.declared.form.Order.{Order}
use Rattle.pcap_files.specs.declared.form.Order.TheVariants.{Big, Little}
use Rattle.pcap_files.specs.declared.form.Unit.{Unit as TimeUnit}
use Rattle.pcap_files.specs.declared.form.Unit.TheVariants.{Micro, Nano}
use Rattle.pcap_files.specs.declared.form.Link.{Link}
use Rattle.pcap_files.specs.declared.form.Link.TheVariants.{Ethernet, Raw}
use Rattle.pcap_files.specs.declared.records.Record.{Record}

-- the number in so many octets from a place on
abbrev pub number : Order → ℕ → ℕ → List ℕ → ℕ
number Big at count octets = big_from at count octets
number Little at count octets = little_from at count octets

-- the magic number says the unit of the fractions of a time, and by its own spelling the order
abbrev pub magic_of : TimeUnit → ℕ
magic_of Micro = 0xa1b2c3d4
magic_of Nano = 0xa1b23c4d

-- the link type
abbrev pub link_number : Link → ℕ
link_number Ethernet = 1
link_number Raw = 101

-- 24 octets of header: the magic number, the two parts of the version, three numbers that aren't
-- looked at, and the link type
abbrev pub HasMagic : Order → TimeUnit → List ℕ → Type 0
HasMagic order unit octets = (24 ≤ length octets) × (number order 0 4 octets ≡ magic_of unit)

-- the two parts of the version, as one number
abbrev pub version_in : Order → List ℕ → ℕ
version_in order octets = number order 4 2 octets * 65536 + number order 6 2 octets

abbrev pub link_in : Order → List ℕ → ℕ
link_in order octets = number order 20 4 octets

-- version 2.4
abbrev pub version_2_4 : ℕ
version_2_4 = 2 * 65536 + 4

pub record IsHeader (form : Form) (octets : List ℕ) : Type 0 where
  pub magic : HasMagic form.order form.unit octets
  pub version : version_in form.order octets ≡ version_2_4
  pub link : link_in form.order octets ≡ link_number form.link

-- the type of an IPv4 or an IPv6 packet (RFC 894 and RFC 2464)
abbrev pub IsIpType : ℕ → Type 0
IsIpType type = (type ≡ 0x0800) ⊎ (type ≡ 0x86dd)

-- a frame of Ethernet: two addresses of 6 octets, the type, and the packet
abbrev pub IsPlain : List ℕ → List ℕ → Type 0
IsPlain frame packet = (14 ≤ length frame) × IsIpType (word frame 12) × (packet ≡ drop 14 frame)

-- the same with a tag of IEEE 802.1Q before the type: 8100, and two octets
abbrev pub IsTagged : List ℕ → List ℕ → Type 0
IsTagged frame packet = (18 ≤ length frame) × (word frame 12 ≡ 0x8100) × IsIpType (word frame 16) × (packet ≡ drop 18 frame)

-- no packet of IP stands in the frame
abbrev pub IsForeign : List ℕ → Type 0
IsForeign frame = ((packet : List ℕ) → (IsPlain frame packet ⊎ IsTagged frame packet) → ⊥)

-- the packet of what was captured; what is foreign counts as an empty one
abbrev pub IsPacket : Link → List ℕ → List ℕ → Type 0
IsPacket Raw captured packet = packet ≡ captured
IsPacket Ethernet captured packet = (IsPlain captured packet ⊎ IsTagged captured packet) ⊎ (IsForeign captured × (packet ≡ []))

-- a fraction in microseconds, rounded down
abbrev pub in_micros : TimeUnit → ℕ → ℕ
in_micros Micro fraction = fraction
in_micros Nano fraction = fraction / 1000

-- one record: seconds, fraction, captured and original length, and what was captured
pub record IsEntry (form : Form) (octets : List ℕ) (r : Record) : Type 0 where
  pub whole : length octets ≡ 16 + number form.order 8 4 octets
  pub time : r.time ≡ number form.order 0 4 octets * 1000000 + in_micros form.unit (number form.order 4 4 octets)
  pub packet : IsPacket form.link (drop 16 octets) r.bytes
