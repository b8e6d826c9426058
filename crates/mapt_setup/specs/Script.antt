-- The script of a setup and its captures: all changes and all records in one list, by time; of one time changes
-- before records, and of these the LANs in the order of the edges, the access network and the core; and of one
-- file by their place in it.
use Rattle.std.specs.Prelude.{ℕ, IsTrue, ◌-◌, suc, slice_get, Bool, true, false, List, [], ◌∷◌, ◌++◌, map, take, if◌then◌else◌}
use Rattle.std.specs.Option.{option_map_or}
use Rattle.std.specs.List.{flat_map, count_by}
use Rattle.std.specs.List.Sorted.{IsPermutation, IsSorted, IsStable}
use Rattle.std.specs.Ordering.{nat_cmp, ordering_then}
use Rattle.std.specs.declared.cmp.Ordering.{Ordering}
use Rattle.pcap_files.specs.declared.records.Record.{Record}
use Rattle.pcap_files.specs.Written.{IsWritable}
use Rattle.mapt_setup.specs.declared.capture.Side.{Side}
use Rattle.mapt_setup.specs.declared.capture.Side.TheVariants.{Lan, Access, Core}
use Rattle.mapt_setup.specs.declared.capture.Capture.{Capture}
use Rattle.mapt_setup.specs.declared.script.ScriptItem.{ScriptItem}
use Rattle.mapt_setup.specs.declared.script.ScriptItem.TheVariants.{Rec, Move}
use Rattle.mapt_setup.specs.declared.moves.MoveLine.{MoveLine}
use Rattle.mapt_setup.specs.declared.setup.Setup.{Setup}
use Rattle.mapt_setup.specs.Fit.{is_side_of, FitsSetup}

-- changes stand before records, and of these the LANs before the access network, and this before the core
abbrev pub kind_of : Side → ℕ
kind_of (Lan edge) = 1
kind_of Access = 2
kind_of Core = 3

-- the LANs stand in the order of their edges
abbrev pub edge_of : Side → ℕ
edge_of (Lan edge) = edge
edge_of Access = 0
edge_of Core = 0

-- the kind and the edge of an item: changes stand first
abbrev pub item_kind : ScriptItem → ℕ
item_kind (Rec side time bytes) = kind_of side
item_kind (Move number live) = 0

abbrev pub item_edge : ScriptItem → ℕ
item_edge (Rec side time bytes) = edge_of side
item_edge (Move number live) = 0

-- the time of a change, by its number from 1
abbrev pub change_time : List MoveLine → ℕ → ℕ
change_time changes number = option_map_or (λ (move : MoveLine). move.at) (slice_get changes (number - 1)) 0

-- the time of an item
abbrev pub item_time : List MoveLine → ScriptItem → ℕ
item_time changes (Rec side time bytes) = time
item_time changes (Move number live) = change_time changes number

-- the order of a script: by time, kind and edge
abbrev pub order : List MoveLine → ScriptItem → ScriptItem → Ordering
order changes x y =
    ordering_then (nat_cmp (item_time changes x) (item_time changes y))
    (ordering_then (nat_cmp (item_kind x) (item_kind y)) (nat_cmp (item_edge x) (item_edge y)))

-- the changes in their order, numbered from some number on
abbrev pub move_items : ℕ → List MoveLine → List ScriptItem
move_items number [] = []
move_items number (move ∷ moves) = Move number move.live ∷ move_items (suc number) moves

-- the records of a capture in their order
abbrev pub record_items : Side → List Record → List ScriptItem
record_items side records = map (λ (r : Record). Rec side r.time r.bytes) records

abbrev pub capture_items : List Capture → List ScriptItem
capture_items captures = flat_map (λ (c : Capture). record_items c.side c.records) captures

-- all changes, numbered from 1, and all records, file by file
abbrev pub all_items : List MoveLine → List Capture → List ScriptItem
all_items changes captures = move_items 1 changes ++ capture_items captures

-- these are all changes and all records in that order, and those of one file and one time as they stand there
pub record IsScript (changes : List MoveLine) (captures : List Capture) (items : List ScriptItem) : Type 0 where
  pub all : IsPermutation (all_items changes captures) items
  pub sorted : IsSorted (order changes) items
  pub stable : IsStable (order changes) (all_items changes captures) items

-- a script belongs to a setup: it is that of the setup's changes and of captures that fit the setup
pub record BelongsTo (setup : Setup) (items : List ScriptItem) : Type 0 where
  pub captures : List Capture
  pub fit : FitsSetup setup captures
  pub script : IsScript setup.changes captures items

-- an item of such a script: its record is one of a side of the setup, and one that a capture can hold
abbrev pub IsItemOf : Setup → ScriptItem → Type 0
IsItemOf setup (Rec side time bytes) = IsTrue (is_side_of setup side) × IsWritable (record { time = time; bytes = bytes })
IsItemOf setup (Move number live) = Unit {0}

-- ---- numbers and segments

abbrev pub is_record : ScriptItem → Bool
is_record (Rec side time bytes) = true
is_record (Move number live) = false

-- the number of the record at a place, from 0: how many records stand before it
abbrev pub record_number : List ScriptItem → ℕ → ℕ
record_number items place = count_by is_record (take place items)

-- a change that isn't live
abbrev pub is_still : ScriptItem → Bool
is_still (Rec side time bytes) = false
is_still (Move number true) = false
is_still (Move number false) = true

-- the first segment with one more item before it
abbrev pub with_first : ScriptItem → List (List ScriptItem) → List (List ScriptItem)
with_first item [] = (item ∷ []) ∷ []
with_first item (segment ∷ segments) = (item ∷ segment) ∷ segments

-- the segments: a change that isn't live ends one, and stands in none
abbrev pub segments_of : List ScriptItem → List (List ScriptItem)
segments_of [] = [] ∷ []
segments_of (item ∷ items) = if is_still item then [] ∷ segments_of items else with_first item (segments_of items)
