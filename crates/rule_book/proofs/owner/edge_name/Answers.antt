use Rattle.std.proofs.Common.{◌<◌, length, sym, ◌∙◌, arith}
use Rattle.rule_book.proofs.Names.{edge_name-next}
use Rattle.rule_book.proofs.owner.edge_name.Goals as goal

pub loop-at-preserved : goal.loop-at-preserved
loop-at-preserved c =
    let beside : c.loop-at.at < length c.args.names.now = omega (arith, c.requires) in
    edge_name-next _ c.args.prefixes.now c.args.names.now c.args.own.0 c.loop-at.at c.index-prefixes-at.result _ c.loop-at-test.true beside c.index-prefixes-at.is (sym c.has_own.ensures ∙ c.if-has_own.false) c.loop-at.invariant
