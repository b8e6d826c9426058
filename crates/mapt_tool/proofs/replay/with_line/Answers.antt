use Rattle.std.proofs.Common.{sym, subst, refl, Option}
use Rattle.rule_book.specs.declared.book.Book.{Book}
use Rattle.setup_tables.specs.declared.edge.EdgeLine.{EdgeLine}
use Rattle.one_edge.specs.Edge.{edge_in, IsEdgeUnder}
use Rattle.mapt_tool.specs.Replay.{only_edge, Replayed, IsEdgeOf}
use Rattle.mapt_tool.specs.Target.{target_of}
use Rattle.mapt_tool.proofs.Replays.{ends_with}
use Rattle.mapt_tool.proofs.replay.with_line.Goals as goal

pub returns : goal.returns
returns g c =
    let seen = g.F.Folder.seen in
    let setup = c.args.setup.now in
    let line = c.args.line.now in
    let e = edge_in c.in-Some.edge in
    let found : IsEdgeUnder setup.book line.prefix setup.mtus e = subst (λ (book : Book). IsEdgeUnder book line.prefix setup.mtus e) c.in-Ok.ensures c.in-Some.ensures.found in
    let x : Replayed = record { edge = e; lan = line.capture } in
    let is : IsEdgeOf setup (only_edge setup) x = subst (λ (one : Option EdgeLine). IsEdgeOf setup one x) (sym c.requires) (found, refl) in
    ends_with (target_of c.args.to) setup (seen c.args.folder.now) (seen c.with_edge.new.folder) x c.with_edge.result is c.with_edge.ensures
