use Rattle.std.proofs.Common.{◌≡◌, map, take}
use Rattle.mapt_tool.proofs.asked.prefixes_of.Given as goal

abbrev pub invariant-loop-edge : goal.invariant-loop-edge
invariant-loop-edge l = l.prefixes.items ≡ map (λ e. e.prefix) (take l.edge-index l.edges)
