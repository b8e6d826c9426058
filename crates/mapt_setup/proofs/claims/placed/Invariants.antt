use Rattle.std.proofs.Common.{map, take}
use Rattle.std.specs.List.{AllZip}
use Rattle.setup_tables.specs.declared.forward.ForwardText.{ForwardText}
use Rattle.mapt_setup.specs.Claims.{IsAtEdge}
use Rattle.mapt_setup.proofs.claims.placed.Given as goal

abbrev pub invariant-loop-i : goal.invariant-loop-i
invariant-loop-i l = AllZip (IsAtEdge l.edges) (map (λ (text : ForwardText). text) (take l.i l.texts)) l.forwards
