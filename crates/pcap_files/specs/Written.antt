-- The captures that are written: classic pcap (draft-ietf-opsawg-pcap, sections 4 and 5) with the
-- lowest octet of each number first, in microseconds, with raw IP packets.
use Rattle.std.specs.Prelude.{ℕ, ◌+◌, ◌-◌, ◌*◌, ◌/◌, ◌<◌, ◌≤◌, ◌^◌, ◌&&◌, min, nat_le, nat_lt, Bool, List, ◌++◌, length}
use Rattle.std.specs.List.{flat_map}
use Rattle.byteorder.specs.Endian.{little_bytes}
use Rattle.pcap_files.specs.declared.records.Record.{Record}

-- the file header alone: the magic number of microseconds, version 2.4, time zone 0, accuracy 0, 262144
-- octets at most of each packet, and raw IP
unfoldable pub empty_capture : List ℕ
empty_capture =
    little_bytes 4 0xa1b2c3d4 ++ little_bytes 2 2 ++ little_bytes 2 4 ++ little_bytes 4 0 ++ little_bytes 4 0
    ++ little_bytes 4 262144 ++ little_bytes 4 101

-- the seconds of a time in microseconds, as far as 32 bits hold them
abbrev pub seconds : ℕ → ℕ
seconds time = min (time / 1000000) 4294967295

-- the rest of the time, in microseconds
abbrev pub fraction : ℕ → ℕ
fraction time = time - 1000000 * seconds time

-- before a packet: the two parts of its time, and its length as the captured and the original one
abbrev pub entry_header : ℕ → ℕ → List ℕ
entry_header time len =
    little_bytes 4 (seconds time) ++ little_bytes 4 (fraction time) ++ little_bytes 4 len ++ little_bytes 4 len

-- a packet's record
unfoldable pub entry : ℕ → List ℕ → List ℕ
entry time packet = entry_header time (length packet) ++ packet

-- the capture of these records
abbrev pub written : List Record → List ℕ
written records = empty_capture ++ flat_map (λ r. entry r.time r.bytes) records

-- a time that two numbers of 32 bits can tell
abbrev pub IsWritableTime : ℕ → Type 0
IsWritableTime time = time ≤ 4294967295 * 1000000 + 4294967295

-- a record that a capture can hold
abbrev pub IsWritable : Record → Type 0
IsWritable r = IsWritableTime r.time × (length r.bytes < 2 ^ 32)

-- the test of that
abbrev pub is_writable : Record → Bool
is_writable r = nat_le r.time (4294967295 * 1000000 + 4294967295) && nat_lt (length r.bytes) (2 ^ 32)
