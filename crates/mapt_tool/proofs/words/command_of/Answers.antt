use Rattle.std.proofs.Common.{map, subst, sym, ℕ}
use Rattle.std.specs.String.{string_bytes}
use Rattle.mapt_tool.specs.Request.{IsUsage}
use Rattle.mapt_tool.proofs.Forms.{usage_counted}
use Rattle.mapt_tool.proofs.words.command_of.Goals as goal

pub returns-in-None-clause-none : goal.returns-in-None-clause-none
returns-in-None-clause-none c =
    let words = map string_bytes c.args.words.now in
    subst (λ (n : ℕ). IsUsage words n) (sym c.usage.ensures) (usage_counted words c.in-None.ensures.none)
