use Rattle.std.proofs.Common.{◌≡◌, take}
use Rattle.std.proofs.lemmas.List.{take_all}
use Rattle.setup_tables.proofs.LinesFew.{lines_few}
use Rattle.setup_tables.proofs.origin.lines_of.Goals as goal

pub returns-clause-few : goal.returns-clause-few
returns-clause-few c =
    let all : take c.loop-item.item-index c.args.items.now ≡ c.args.items.now = take_all c.loop-item.item-index c.args.items.now c.loop-item-test.false in
    rw (c.loop-item.invariant, all) (lines_few c.args.items.now c.requires)
