use Rattle.std.proofs.Common.{ap, ◌∙◌}
use Rattle.mapt_tool.specs.Words.{number_up_to}
use Rattle.mapt_tool.proofs.Numbers.{number_is, number_is_none}
use Rattle.mapt_tool.proofs.words.number_in.Goals as goal

pub returns-clause-found : goal.returns-clause-found
returns-clause-found c =
    number_is c.args.most c.args.word.now c.number_up_to.result c.requires (c.number_up_to.ensures.value ∙ ap (number_up_to c.args.most) c.as_bytes.ensures.value)

pub returns-clause-none : goal.returns-clause-none
returns-clause-none c =
    number_is_none c.args.most c.args.word.now c.number_up_to.result c.requires (c.number_up_to.ensures.value ∙ ap (number_up_to c.args.most) c.as_bytes.ensures.value)
