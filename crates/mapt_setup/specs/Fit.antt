-- Captures that fit a setup.
use Rattle.std.specs.Prelude.{◌≤◌, ℕ, ◌==◌, ◌&&◌, nat_le, nat_lt, IsTrue, is_none, Bool, true, false, List, length}
use Rattle.std.specs.List.{All, AllPairs, list_any, list_all, sum_by}
use Rattle.pcap_files.specs.Written.{IsWritable, is_writable}
use Rattle.mapt_setup.specs.declared.capture.Side.{Side}
use Rattle.mapt_setup.specs.declared.capture.Side.TheVariants.{Lan, Access, Core}
use Rattle.mapt_setup.specs.declared.capture.Capture.{Capture}
use Rattle.mapt_setup.specs.declared.setup.Setup.{Setup}
use Rattle.mapt_setup.specs.Beside.{first_after}

-- the side is one of the setup: the LAN of one of its edges, the access network, or the core
abbrev pub is_side_of : Setup → Side → Bool
is_side_of setup (Lan edge) = nat_lt edge (length setup.edges)
is_side_of setup Access = true
is_side_of setup Core = true

-- two sides are the same
abbrev pub same_side : Side → Side → Bool
same_side (Lan edge) (Lan other) = edge == other
same_side (Lan edge) Access = false
same_side (Lan edge) Core = false
same_side Access (Lan other) = false
same_side Access Access = true
same_side Access Core = false
same_side Core (Lan other) = false
same_side Core Access = false
same_side Core Core = true

-- an earlier capture is of this one's side
abbrev pub has_side_of : List Capture → Capture → Bool
has_side_of earlier capture = list_any (λ (other : Capture). same_side other.side capture.side) earlier

-- how many records captures have together
abbrev pub records_count : List Capture → ℕ
records_count captures = sum_by (λ (c : Capture). length c.records) captures

-- the most that a script has
abbrev pub most_records : ℕ
most_records = 200000

-- captures fit a setup: each side is one of the setup and stands at most once, there are at most 200,000 records
-- together, and a capture that is written can hold each of them
pub record FitsSetup (setup : Setup) (captures : List Capture) : Type 0 where
  pub sides : All (λ c. IsTrue (is_side_of setup c.side)) captures
  pub once : AllPairs (λ c d. ¬ IsTrue (same_side c.side d.side)) captures
  pub few : records_count captures ≤ most_records
  pub writable : All (λ c. All IsWritable c.records) captures

-- the tests of these
abbrev pub is_fitting : Setup → List Capture → Bool
is_fitting setup captures =
    list_all (λ (c : Capture). is_side_of setup c.side) captures
    && (is_none (first_after has_side_of captures)
    && (nat_le (records_count captures) most_records && list_all (λ (c : Capture). list_all is_writable c.records) captures))
