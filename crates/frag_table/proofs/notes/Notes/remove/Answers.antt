use Rattle.std.proofs.Common.{arith}
use Rattle.frag_table.proofs.Keys.{within_keys, remove_at}
use Rattle.frag_table.proofs.notes.Notes.remove.Goals as goal

pub remove-key-requires : goal.remove-key-requires
remove-key-requires c =
    omega (arith, c.self.inside.keys.ok.0, within_keys c.self.inside.slab c.self.inside.keys.items c.args.self.now c.args.at c.self.invariant c.self.view_is c.requires)

pub invariant_of-self : goal.invariant_of-self
invariant_of-self c =
    rw c.remove-key.ensures.items (remove_at c.self.inside.slab c.try_remove.new.self c.self.inside.keys.items c.args.self.now c.args.at c.remove-key.result c.self.invariant c.self.view_is c.requires c.remove-key.ensures.value c.try_remove.ensures.updates).1

pub returns : goal.returns
returns c =
    rw c.remove-key.ensures.items (remove_at c.self.inside.slab c.try_remove.new.self c.self.inside.keys.items c.args.self.now c.args.at c.remove-key.result c.self.invariant c.self.view_is c.requires c.remove-key.ensures.value c.try_remove.ensures.updates).0
