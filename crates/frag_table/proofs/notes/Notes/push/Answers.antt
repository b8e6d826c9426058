use Rattle.std.proofs.Common.{[], ◌∷◌, ◌++◌, ◌∙◌, ap}
use Rattle.frag_table.proofs.Keys.{AreKeys-push, listed-push}
use Rattle.frag_table.proofs.notes.Notes.push.Goals as goal

pub invariant_of-self-in_err-key : goal.invariant_of-self-in_err-key
invariant_of-self-in_err-key c = rw (c.in_err-key.ensures.err, c.reserve.ensures.items) c.self.invariant

pub invariant_of-self-2 : goal.invariant_of-self-2
invariant_of-self-2 c =
    rw (c.push_reserved.ensures.items, c.reserve.ensures.items) (AreKeys-push c.self.inside.slab c.insert.new.self c.in_ok-key.key c.self.inside.keys.items c.args.note c.self.invariant c.in_ok-key.ensures.was_vacant c.in_ok-key.ensures.updates)

pub returns-clause-ok : goal.returns-clause-ok
returns-clause-ok c =
    rw (c.push_reserved.ensures.items, c.reserve.ensures.items) (listed-push c.self.inside.slab c.insert.new.self c.in_ok-key.key c.self.inside.keys.items c.args.note c.self.invariant c.in_ok-key.ensures.was_vacant c.in_ok-key.ensures.updates ∙ ap (λ ns. ns ++ c.args.note ∷ []) c.self.view_is)
