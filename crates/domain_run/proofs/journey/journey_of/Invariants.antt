use Rattle.std.specs.Prelude.{◌≡◌, take, map, IsTrue}
use Rattle.std.specs.List.{list_all}
use Rattle.domain_core.specs.Form.{is_hop_written}
use Rattle.journeys.specs.declared.made.MadeHop.{MadeHop}
use Rattle.domain_run.proofs.journey.journey_of.Given as goal

-- the notes of the hops so far
abbrev pub invariant-loop-made : goal.invariant-loop-made
invariant-loop-made l =
    (l.notes ≡ map (λ (m : MadeHop). m.note) (take l.made-index l.hops)) × IsTrue (list_all is_hop_written l.notes)
