use Rattle.std.specs.Prelude.{◌≡◌, take, map, IsTrue}
use Rattle.std.specs.List.{list_all}
use Rattle.domain_core.specs.Form.{is_edge_note_written}
use Rattle.journeys.specs.OneThread.{edge_note}
use Rattle.domain_run.proofs.told.edge_history_of.Given as goal

-- the notes of the entries so far
abbrev pub invariant-loop-entry : goal.invariant-loop-entry
invariant-loop-entry l =
    (l.notes ≡ map edge_note (take l.entry-index l.entries)) × IsTrue (list_all is_edge_note_written l.notes)
