use Rattle.std.proofs.Common.{ℕ, take, ap, ◌∙◌}
use Rattle.std.proofs.lemmas.List.{take_min}
use Rattle.packet_faults.proofs.error4.embedded.Goals as goal

pub returns-clause-part : goal.returns-clause-part
returns-clause-part c =
    ap (λ (n : ℕ). take n c.trimmed-whole.result.now) c.min.ensures
    ∙ (take_min 548 c.trimmed-whole.result.now ∙ ap (take 548) c.trimmed-whole.ensures)
