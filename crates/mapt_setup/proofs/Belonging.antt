-- The items of a script that belongs to a setup: records of its sides that a capture can hold, and its changes.
use Rattle.std.proofs.Common.{ℕ, suc, List, [], ◌∷◌}
use Rattle.std.specs.Prelude.{IsTrue}
use Rattle.std.specs.List.{All}
use Rattle.std.proofs.lemmas.List.Elements.{All-nil, All-cons, All-append, All-map, All-head, All-tail}
use Rattle.std.proofs.lemmas.List.Sorted.{All-permutation}
use Rattle.pcap_files.specs.declared.records.Record.{Record}
use Rattle.pcap_files.specs.Written.{IsWritable}
use Rattle.mapt_setup.specs.declared.capture.Side.{Side}
use Rattle.mapt_setup.specs.declared.capture.Capture.{Capture}
use Rattle.mapt_setup.specs.declared.moves.MoveLine.{MoveLine}
use Rattle.mapt_setup.specs.declared.script.ScriptItem.{ScriptItem}
use Rattle.mapt_setup.specs.declared.script.ScriptItem.TheVariants.{Rec, Move}
use Rattle.mapt_setup.specs.declared.setup.Setup.{Setup}
use Rattle.mapt_setup.specs.Fit.{is_side_of, FitsSetup}
use Rattle.mapt_setup.specs.Script.{BelongsTo, IsItemOf, all_items, move_items, record_items, capture_items}

moves_are : (setup : Setup) (number : ℕ) (changes : List MoveLine) → All (IsItemOf setup) (move_items number changes)
moves_are setup number [] = All-nil (IsItemOf setup)
moves_are setup number (move ∷ changes) = All-cons (IsItemOf setup) (Move number move.live) (move_items (suc number) changes) tt (moves_are setup (suc number) changes)

records_are : (setup : Setup) (side : Side) (records : List Record) → IsTrue (is_side_of setup side) → All IsWritable records
    → All (IsItemOf setup) (record_items side records)
records_are setup side records is_side writable =
    All-map (IsItemOf setup) (λ (r : Record). Rec side r.time r.bytes) records (λ k d within. (is_side, writable k d within))

captures_are : (setup : Setup) (captures : List Capture) → All (λ (c : Capture). IsTrue (is_side_of setup c.side)) captures
    → All (λ (c : Capture). All IsWritable c.records) captures → All (IsItemOf setup) (capture_items captures)
captures_are setup [] sides writable = All-nil (IsItemOf setup)
captures_are setup (c ∷ captures) sides writable =
    All-append (IsItemOf setup) (record_items c.side c.records) (capture_items captures)
    (records_are setup c.side c.records (All-head (λ (c : Capture). IsTrue (is_side_of setup c.side)) c captures sides) (All-head (λ (c : Capture). All IsWritable c.records) c captures writable))
    (captures_are setup captures (All-tail (λ (c : Capture). IsTrue (is_side_of setup c.side)) c captures sides) (All-tail (λ (c : Capture). All IsWritable c.records) c captures writable))

all_are : (setup : Setup) (captures : List Capture) → FitsSetup setup captures → All (IsItemOf setup) (all_items setup.changes captures)
all_are setup captures fit =
    All-append (IsItemOf setup) (move_items 1 setup.changes) (capture_items captures) (moves_are setup 1 setup.changes) (captures_are setup captures fit.sides fit.writable)

-- in whatever order they stand
pub items_are : (setup : Setup) (items : List ScriptItem) → BelongsTo setup items → All (IsItemOf setup) items
items_are setup items belongs =
    All-permutation (IsItemOf setup) (all_items setup.changes belongs.captures) items belongs.script.all (all_are setup belongs.captures belongs.fit)
