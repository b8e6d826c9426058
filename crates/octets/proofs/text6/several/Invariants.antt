use Rattle.std.proofs.Common.{◌≡◌, ◌-◌}
use Rattle.octets.specs.Text6.{groups_from}
use Rattle.octets.proofs.text6.several.Given as goal

abbrev pub invariant-loop : goal.invariant-loop
invariant-loop l = record {
  counted : l.found.count ≡ l.counter;
  rest : groups_from (8 - l.counter) l.found.count l.found.value l.rest ≡ groups_from 8 0 0 l.text;
}
