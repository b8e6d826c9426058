-- What belongs to a setup has what is taken: records of its sides, early enough, and no more changes than it has.
use Rattle.std.proofs.Common.{◌≡◌, refl, ◌∙◌, ℕ, suc, ◌+◌, ◌<◌, ◌≤◌, List, [], ◌∷◌, length, arith}
use Rattle.std.specs.Prelude.{◌^◌}
use Rattle.std.specs.List.{All, sum_by}
use Rattle.std.proofs.lemmas.List.Elements.{All-head, All-tail}
use Rattle.std.proofs.lemmas.List.Sorted.{sum_by-IsPermutation}
use Rattle.std.proofs.lemmas.List.Sums.{sum_by-cons, sum_by-append}
use Rattle.pcap_files.specs.declared.records.Record.{Record}
use Rattle.pcap_files.specs.Written.{IsWritableTime}
use Rattle.mapt_setup.specs.declared.capture.Side.{Side}
use Rattle.mapt_setup.specs.declared.capture.Capture.{Capture}
use Rattle.mapt_setup.specs.declared.moves.MoveLine.{MoveLine}
use Rattle.mapt_setup.specs.declared.script.ScriptItem.{ScriptItem}
use Rattle.mapt_setup.specs.declared.script.ScriptItem.TheVariants.{Rec, Move}
use Rattle.mapt_setup.specs.declared.setup.Setup.{Setup}
use Rattle.mapt_setup.specs.Script.{BelongsTo, IsItemOf, all_items, move_items, record_items, capture_items}
use Rattle.mapt_setup.proofs.Belonging.{items_are}
use Rattle.domain_run.specs.Items.{AreTakeable}

-- an item counts as a change, or doesn't
abbrev moved : ScriptItem → ℕ
moved (Rec side time bytes) = 0
moved (Move number meanwhile) = 1

abbrev moves_of : List ScriptItem → ℕ
moves_of items = sum_by moved items

early : (time : ℕ) → IsWritableTime time → time < 2 ^ 63
early time writable = omega (arith, writable)

-- ---- the changes

moves_count : (number : ℕ) (changes : List MoveLine) → moves_of (move_items number changes) ≡ length changes
moves_count number [] = refl
moves_count number (move ∷ changes) =
    let first : moves_of (move_items number (move ∷ changes)) ≡ 1 + moves_of (move_items (suc number) changes) =
    sum_by-cons moved (Move number move.live) (move_items (suc number) changes) in
    omega (arith, first, moves_count (suc number) changes)

-- ---- the records

records_count : (side : Side) (records : List Record) → moves_of (record_items side records) ≡ 0
records_count side [] = refl
records_count side (r ∷ records) =
    let first : moves_of (record_items side (r ∷ records)) ≡ 0 + moves_of (record_items side records) =
    sum_by-cons moved (Rec side r.time r.bytes) (record_items side records) in
    omega (arith, first, records_count side records)

captures_count : (captures : List Capture) → moves_of (capture_items captures) ≡ 0
captures_count [] = refl
captures_count (c ∷ captures) =
    let both : moves_of (capture_items (c ∷ captures)) ≡ moves_of (record_items c.side c.records) + moves_of (capture_items captures) = sum_by-append moved (record_items c.side c.records) (capture_items captures) in
    omega (arith, both, records_count c.side c.records, captures_count captures)

-- ---- all items, and then in any order

all_count : (changes : List MoveLine) (captures : List Capture) → moves_of (all_items changes captures) ≡ length changes
all_count changes captures =
    omega (arith, sum_by-append moved (move_items 1 changes) (capture_items captures), moves_count 1 changes, captures_count captures)

takeable : (setup : Setup) (changes : ℕ) (items : List ScriptItem) → All (IsItemOf setup) items
    → changes + moves_of items ≤ length setup.changes → AreTakeable setup changes items
takeable setup changes [] are few = tt
takeable setup changes (Rec side time bytes ∷ items) are few =
    let item = All-head (IsItemOf setup) (Rec side time bytes) items are in
    let rest = All-tail (IsItemOf setup) (Rec side time bytes) items are in
    (item.0, early time item.1.0, takeable setup changes items rest (omega (arith, few, sum_by-cons moved (Rec side time bytes) items)))
takeable setup changes (Move number meanwhile ∷ items) are few =
    let rest = All-tail (IsItemOf setup) (Move number meanwhile) items are in
    let more = sum_by-cons moved (Move number meanwhile) items in
    (omega (arith, few, more), takeable setup (suc changes) items rest (omega (arith, few, more)))

pub script_takeable : (setup : Setup) (items : List ScriptItem) → BelongsTo setup items → AreTakeable setup 0 items
script_takeable setup items belongs =
    let all = all_items setup.changes belongs.captures in
    let count : moves_of items ≡ length setup.changes = sum_by-IsPermutation moved all items belongs.script.all ∙ all_count setup.changes belongs.captures in
    takeable setup 0 items (items_are setup items belongs) (omega (arith, count))
