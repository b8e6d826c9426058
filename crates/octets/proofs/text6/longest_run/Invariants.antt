use Rattle.std.proofs.Common.{◌≡◌, ◌+◌, ◌≤◌, drop, length}
use Rattle.octets.specs.Text6.{zeros_first, longest_run}
use Rattle.octets.proofs.text6.longest_run.Given as goal

abbrev pub invariant-loop-at : goal.invariant-loop-at
invariant-loop-at l = record {
  eight : length l.groups ≡ 8;
  zeros_are : l.zeros ≡ zeros_first (drop l.at l.groups);
  start_is : l.longest.start ≡ l.at + (longest_run (drop l.at l.groups)).start;
  len_is : l.longest.len ≡ (longest_run (drop l.at l.groups)).len;
  zeros_within : l.at + l.zeros ≤ 8;
  within : l.longest.start + l.longest.len ≤ 8;
}
