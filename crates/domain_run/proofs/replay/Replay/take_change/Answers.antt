use Rattle.std.proofs.Common.{◌≡◌, refl, sym, ap, ◌∙◌, Bool}
use Rattle.domain_run.proofs.Replaying.{change_item, change_taken}
use Rattle.domain_run.proofs.replay.Replay.take_change.Goals as goal
use Rattle.domain_run.proofs.replay.Replay.take_change.Goals.{then-live, else-live}

pub returns : goal.returns
returns c =
    let is : c.if-live.item ≡ change_item c.args.live c.args.number =
    elim c.if-live.branch [
      | then-live w ↦ w.item-is ∙ ap (λ (b : Bool). change_item b c.args.number) (sym w.if-live.true)
      | else-live w ↦ w.item-is ∙ ap (λ (b : Bool). change_item b c.args.number) (sym w.if-live.false)
    ] in
    change_taken c.args.setup.now c.args.number c.args.live c.if-live.item c.args.self.now
    (record { machines = c.change.new.self; items = c.push.new.self; kept = c.args.self.now.kept; records = c.args.self.now.records; changes = c.in_ok-changes.changes })
    c.ranges.number.fits is c.in_ok-push.ensures.items refl refl c.in_ok-changes.ensures c.in_ok-change.ensures.machines c.in_ok-change.ensures.histories
