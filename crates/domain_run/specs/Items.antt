-- The items of a script as machines take them.
use Rattle.std.specs.Prelude.{◌≡◌, ℕ, suc, ◌<◌, ◌≤◌, ◌^◌, ◌++◌, true, false, IsTrue, List, [], ◌∷◌, map, length, None}
use Rattle.std.specs.List.{list_all}
use Rattle.mapt_setup.specs.declared.script.ScriptItem.{ScriptItem}
use Rattle.mapt_setup.specs.declared.script.ScriptItem.TheVariants.{Rec, Move}
use Rattle.mapt_setup.specs.declared.setup.Setup.{Setup}
use Rattle.mapt_setup.specs.Fit.{is_side_of}
use Rattle.domain_core.specs.declared.journey.HopNote.{HopNote}
use Rattle.domain_core.specs.Form.{relay, is_item_written}
use Rattle.journeys.specs.declared.made.MadeHop.{MadeHop}
use Rattle.journeys.specs.Waiting.{start_of}
use Rattle.journeys.specs.Run.{Histories, Step as RunStep, Walks, first_waiting, ItemRun, ran, live, still, item_of, made_in, no_histories}
use Rattle.domain_run.specs.declared.replay.Replay.{Replay}
use Rattle.domain_run.specs.Machines.{histories_of, AreMachines}

-- What a script has that belongs to a setup, behind so many changes: records of the setup's sides, before 2^63 microseconds, and no
-- more changes than the setup has.
abbrev pub AreTakeable : Setup → ℕ → List ScriptItem → Type 0
AreTakeable setup changes [] = Unit {0}
AreTakeable setup changes (Rec side time bytes ∷ items) = IsTrue (is_side_of setup side) × (time < 2 ^ 63) × AreTakeable setup changes items
AreTakeable setup changes (Move number meanwhile ∷ items) = (changes < length setup.changes) × AreTakeable setup (suc changes) items

-- the notes of these hops name nodes, and no stripe without a place
abbrev pub IsNoted : HopNote → Type 0
IsNoted note = (note.node ≤ relay) × (note.place ≡ None → note.stripe ≡ None)

abbrev pub AreNoted : List MadeHop → Type 0
AreNoted [] = Unit {0}
AreNoted (made ∷ others) = IsNoted made.note × AreNoted others

-- ---- the items in their order

-- As `Runs` says of these items, with the numbers of records and changes behind them.
abbrev pub RunsTo : Setup → ℕ → ℕ → List ScriptItem → List ItemRun → Histories → ℕ → ℕ → Histories → Type 0
RunsTo setup rec changes [] runs before last_rec last_changes after = (runs ≡ []) × (after ≡ before) × (last_rec ≡ rec) × (last_changes ≡ changes)
RunsTo setup rec changes (Rec side time bytes ∷ script) runs before last_rec last_changes after =
    (steps : List RunStep) × (others : List ItemRun) × (mid : Histories)
    × Walks setup (record { rec = rec; time = time; seen = changes }) 0 (first_waiting (start_of setup side bytes)) steps before mid
    × RunsTo setup (suc rec) changes script others mid last_rec last_changes after
    × (runs ≡ ran rec steps ∷ others)
RunsTo setup rec changes (Move number true ∷ script) runs before last_rec last_changes after =
    (others : List ItemRun) × RunsTo setup rec (suc changes) script others before last_rec last_changes after × (runs ≡ live number ∷ others)
RunsTo setup rec changes (Move number false ∷ script) runs before last_rec last_changes after =
    (others : List ItemRun) × RunsTo setup rec (suc changes) script others before last_rec last_changes after × (runs ≡ still number ∷ others)

-- a replay between two items: the machines, what a trace tells so far, the hops of its records, and the records and changes so far
pub record IsReplayed (setup : Setup) (done : List ScriptItem) (replay : Replay) : Type 0 where
  pub runs : List ItemRun
  pub are : RunsTo setup 0 0 done runs (no_histories setup) replay.records replay.changes (histories_of replay.machines)
  pub items : replay.items.items ≡ map item_of runs
  pub kept : replay.kept.items ≡ made_in runs
  pub machines : AreMachines setup replay.changes replay.machines
  pub form : IsTrue (list_all is_item_written replay.items.items)

-- one item more
pub record IsItemTaken (setup : Setup) (item : ScriptItem) (before after : Replay) : Type 0 where
  pub run : ItemRun
  pub are : RunsTo setup before.records before.changes (item ∷ []) (run ∷ []) (histories_of before.machines) after.records after.changes (histories_of after.machines)
  pub items : after.items.items ≡ before.items.items ++ item_of run ∷ []
  pub kept : after.kept.items ≡ before.kept.items ++ made_in (run ∷ [])
  pub machines : AreMachines setup after.changes after.machines
  pub form : IsTrue (is_item_written (item_of run))
