use Rattle.std.proofs.Common.{◌∙◌, arith}
use Rattle.frag_table.proofs.Keys.{within_keys, value_at, key_present}
use Rattle.frag_table.proofs.notes.Notes.get.Goals as goal

pub index-requires : goal.index-requires
index-requires c =
    omega (arith, c.self.inside.keys.ok.0, within_keys c.self.inside.slab c.self.inside.keys.items c.args.self.now c.args.at c.self.invariant c.self.view_is c.requires)

pub index-requires-2 : goal.index-requires-2
index-requires-2 c =
    key_present c.self.inside.slab c.self.inside.keys.items c.args.self.now c.args.at c.index.result.now c.self.invariant c.self.view_is c.requires c.index.ensures

pub returns : goal.returns
returns c =
    value_at c.self.inside.slab c.self.inside.keys.items c.args.self.now c.args.at c.index.result.now c.self.invariant c.self.view_is c.requires c.index.ensures ∙ c.index-2.ensures
