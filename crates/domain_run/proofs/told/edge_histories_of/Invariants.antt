use Rattle.std.specs.Prelude.{◌≡◌, take, map, IsTrue}
use Rattle.std.specs.List.{list_all}
use Rattle.edge_core.specs.Shown.{EdgeShown}
use Rattle.domain_core.specs.declared.history.EdgeHistory.{EdgeHistory}
use Rattle.domain_core.specs.Form.{is_edge_written}
use Rattle.journeys.specs.OneThread.{edge_note}
use Rattle.domain_run.proofs.told.edge_histories_of.Given as goal

-- the histories of the edges so far
abbrev pub invariant-loop-edge : goal.invariant-loop-edge
invariant-loop-edge l =
    (map (λ (h : EdgeHistory). h.notes) l.histories ≡ map (map edge_note) (map (λ (e : EdgeShown). e.history) (take l.edge-index l.edges)))
    × IsTrue (list_all is_edge_written l.histories)
