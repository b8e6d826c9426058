use Rattle.std.proofs.Common.{◌≡◌, map, take}
use Rattle.mapt_tool.proofs.asked.names_of.Given as goal

abbrev pub invariant-loop-edge : goal.invariant-loop-edge
invariant-loop-edge l = l.names.items ≡ map (λ e. e.name) (take l.edge-index l.edges)
