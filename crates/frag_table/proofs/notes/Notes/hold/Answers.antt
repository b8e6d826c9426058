use Rattle.std.proofs.Common.{◌≡◌, [], ◌∷◌, ◌++◌, set, ◌∙◌, arith}
use Rattle.std.specs.List.{slice_get}
use Rattle.frag_table.specs.Listed.{listed}
use Rattle.std.specs.Option.{IfSome}
use Rattle.slab.specs.Slab.{with_value}
use Rattle.slab.proofs.SlabLemmas.{Updates-with_value}
use Rattle.frag_table.proofs.Keys.{within_keys, value_at, key_present, AreKeys-set, set_at, on_ok_map}
use Rattle.frag_table.proofs.notes.Notes.hold.Goals as goal

pub index-requires : goal.index-requires
index-requires c =
    omega (arith, c.self.inside.keys.ok.0, within_keys c.self.inside.slab c.self.inside.keys.items c.args.self.now c.args.at c.self.invariant c.self.view_is c.requires)

pub index_mut-note-requires : goal.index_mut-note-requires
index_mut-note-requires c =
    key_present c.self.inside.slab c.self.inside.keys.items c.args.self.now c.args.at c.index.result.now c.self.invariant c.self.view_is c.requires c.index.ensures

pub invariant_of-self : goal.invariant_of-self
invariant_of-self c =
    let key = c.index.result.now in
    let there = key_present c.self.inside.slab c.self.inside.keys.items c.args.self.now c.args.at key c.self.invariant c.self.view_is c.requires c.index.ensures in
    let value = record c.index_mut-note.result.now { held = c.push.new.self } in
    AreKeys-set c.self.inside.slab (with_value c.self.inside.slab key value) key c.self.inside.keys.items value c.self.invariant (Updates-with_value c.self.inside.slab key value there)

pub returns-clause-ok : goal.returns-clause-ok
returns-clause-ok c =
    let key = c.index.result.now in
    let there = key_present c.self.inside.slab c.self.inside.keys.items c.args.self.now c.args.at key c.self.invariant c.self.view_is c.requires c.index.ensures in
    let value = record c.index_mut-note.result.now { held = c.push.new.self } in
    let found = value_at c.self.inside.slab c.self.inside.keys.items c.args.self.now c.args.at key c.self.invariant c.self.view_is c.requires c.index.ensures ∙ c.index_mut-note.ensures.value in
    let after = IfSome (slice_get c.args.self.now c.args.at) (λ note. listed (with_value c.self.inside.slab key value) c.self.inside.keys.items ≡ set c.args.self.now c.args.at (record note { held = note.held ++ c.args.parcel ∷ [] })) in
    on_ok_map c.push.result _ after (λ pushed. rw (found, ← pushed) (set_at c.self.inside.slab (with_value c.self.inside.slab key value) c.self.inside.keys.items c.args.self.now c.args.at key value c.self.invariant c.self.view_is c.requires c.index.ensures (Updates-with_value c.self.inside.slab key value there))) c.push.ensures.ok
