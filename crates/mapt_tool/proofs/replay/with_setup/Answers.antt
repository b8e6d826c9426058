use Rattle.std.proofs.Common.{length, sym, ap, ◌∙◌, subst}
use Rattle.mapt_tool.specs.Replay.{asks_for_more, HasNoEdge}
use Rattle.mapt_tool.specs.Target.{target_of}
use Rattle.mapt_tool.proofs.Replays.{none_beside, none_of_many, ends_without}
use Rattle.mapt_tool.proofs.replay.with_setup.Goals as goal

pub returns-then-asks_for_more : goal.returns-then-asks_for_more
returns-then-asks_for_more g c =
    let seen = g.F.Folder.seen in
    let setup = c.args.setup.now in
    let none = none_beside (asks_for_more setup) setup.edges (sym c.asks_for_more.ensures ∙ c.if-asks_for_more.true) in
    ends_without (target_of c.args.to) setup (seen c.args.folder.now) (subst (HasNoEdge setup) (sym none) tt)

pub returns-then-edges-ne1 : goal.returns-then-edges-ne1
returns-then-edges-ne1 g c =
    let seen = g.F.Folder.seen in
    let setup = c.args.setup.now in
    let none = none_of_many (asks_for_more setup) setup.edges (λ one. c.if-edges-ne1.true (ap length c.as_slice-edges.ensures ∙ one)) in
    ends_without (target_of c.args.to) setup (seen c.args.folder.now) (subst (HasNoEdge setup) (sym none) tt)
