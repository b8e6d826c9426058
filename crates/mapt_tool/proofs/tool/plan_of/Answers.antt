use Rattle.mapt_tool.proofs.tool.plan_of.Goals as goal

pub returns-in-Rules : goal.returns-in-Rules
returns-in-Rules g c = rw c.in-Rules.is c.rules.ensures

pub returns-in-Owner : goal.returns-in-Owner
returns-in-Owner g c = rw c.in-Owner.is c.owner.ensures

pub returns-in-Options : goal.returns-in-Options
returns-in-Options g c = rw c.in-Options.is c.options.ensures
