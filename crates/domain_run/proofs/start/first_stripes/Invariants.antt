use Rattle.std.specs.Prelude.{◌≡◌, length}
use Rattle.std.specs.List.{All}
use Rattle.domain_run.specs.Start.{IsFirstStripe}
use Rattle.domain_run.proofs.start.first_stripes.Given as goal

abbrev pub invariant-loop : goal.invariant-loop
invariant-loop l = (length l.made.items ≡ l.counter) × All IsFirstStripe l.made.items
