use Rattle.std.proofs.Common.{◌≡◌, refl, ◌∙◌, ap, ℕ, ◌<◌, List, length, get_or, Some}
use Rattle.std.specs.Prelude.{slice_get}
use Rattle.std.proofs.lemmas.Option.{slice_get_read}
use Rattle.mapt_setup.specs.declared.moves.MoveLine.{MoveLine}
use Rattle.mapt_setup.specs.declared.setup.Setup.{Setup}
use Rattle.domain_run.proofs.Starting.{one_fault, machines_after}
use Rattle.domain_run.proofs.machines.Machines.change.Goals as goal

-- the change, by the place at which it was read
there : (setup : Setup) (moves : List MoveLine) (number : ℕ) (line : MoveLine) → moves ≡ setup.changes → number < length setup.changes → line ≡ get_or moves number line → slice_get setup.changes number ≡ Some line
there setup moves number line same within is = slice_get_read setup.changes _ number line refl within (is ∙ ap (λ (ms : List MoveLine). get_or ms number line) same)

pub lack-requires : goal.lack-requires
lack-requires c =
    let setup = c.args.setup.now in
    let line = c.index-as_slice-changes.result in
    one_fault setup c.args.changes line c.args.self.now c.in-Err.fault c.requires.valid c.requires.machines
    (there setup _ c.args.changes line c.as_slice.ensures c.requires.within c.index-as_slice-changes.is) c.in-Err.ensures.refused

pub returns-clause-machines : goal.returns-clause-machines
returns-clause-machines c =
    let setup = c.args.setup.now in
    let before = c.args.self.now in
    let line = c.index-as_slice-changes.result in
    let told = c.in-Ok.ensures in
    machines_after setup c.args.changes line before (record { book = c.in-Ok.book; edges = before.edges; stripes = before.stripes }) c.requires.machines
    (there setup _ c.args.changes line c.as_slice.ensures c.requires.within c.index-as_slice-changes.is)
    told.rules told.dmr told.generation c.read_rules.ensures refl refl
