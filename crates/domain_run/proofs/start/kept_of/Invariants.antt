use Rattle.std.specs.Prelude.{◌≡◌, map, take, ◌==◌}
use Rattle.std.specs.List.{filter}
use Rattle.mapt_setup.specs.declared.forward.ForwardLine.{ForwardLine}
use Rattle.domain_run.proofs.start.kept_of.Given as goal

abbrev pub invariant-loop-forward : goal.invariant-loop-forward
invariant-loop-forward l =
    l.kept ≡ map (λ (f : ForwardLine). f.binding) (filter (λ (f : ForwardLine). f.edge == l.number) (take l.forward-index l.forwards))
