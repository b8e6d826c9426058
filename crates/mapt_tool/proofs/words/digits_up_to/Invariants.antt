use Rattle.std.proofs.Common.{◌≡◌, ◌≤◌, drop}
use Rattle.mapt_tool.specs.Words.{digits_up_to}
use Rattle.mapt_tool.proofs.words.digits_up_to.Given as goal

abbrev pub invariant-loop-octet : goal.invariant-loop-octet
invariant-loop-octet l =
    (digits_up_to l.most l.number (drop l.octet-index l.word) ≡ digits_up_to l.most 0 l.word) × (l.number ≤ l.most)
