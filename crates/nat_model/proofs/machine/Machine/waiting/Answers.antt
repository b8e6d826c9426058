use Rattle.std.proofs.Common.{◌≡◌, ℕ, List, refl, subst, sym, ap, ◌∙◌}
use Rattle.std.specs.Option.{option_map}
use Rattle.octets.specs.declared.parcel.Parcel.{Parcel}
use Rattle.frag_table.specs.Frag.{frag, freed_by}
use Rattle.frag_table.specs.Fragment.{frag_ask}
use Rattle.nat_model.specs.State.{Generation, NatMachine}
use Rattle.nat_model.specs.Inside.{state_in}
use Rattle.nat_model.specs.Machine.{nat}
use Rattle.nat_model.specs.Waiting.{FreesAtMost}
use Rattle.nat_model.proofs.Freed.{waiting-frees, whole-frees, if_ok_map}
use Rattle.nat_model.proofs.machine.Machine.waiting.Goals as goal

pub returns-in-Some : goal.returns-in-Some
returns-in-Some c =
    let inside = c.self.inside in
    let is = sym c.fragment_of.ensures ∙ ap (option_map frag_ask) c.in-Some.is in
    let waits = λ (parcels : List Parcel). (step : ℕ) → parcels ≡ freed_by (frag inside.notes c.max.result step (frag_ask c.in-Some.fragment)).answer in
    let frees = λ (parcels : List Parcel). (seen : Generation) → FreesAtMost parcels (nat c.args.self.now.prefix c.args.self.now.state (record { seen = seen; now = c.args.now; place = c.args.self.now.steps }) c.args.ask.now).answer in
    if_ok_map c.waiting.result waits frees (λ parcels known seen.
    let P : NatMachine → Type 0 = λ m. FreesAtMost parcels (nat m.prefix m.state (record { seen = seen; now = c.args.now; place = m.steps }) c.args.ask.now).answer in
    subst P c.self.view_is (waiting-frees inside.prefix (state_in inside) inside.notes (record { seen = seen; now = c.args.now; place = inside.steps }) c.args.ask.now parcels (frag_ask c.in-Some.fragment) refl c.self.invariant.notes is (λ step. known step ∙ ap (λ t. freed_by (frag inside.notes t step (frag_ask c.in-Some.fragment)).answer) c.max.ensures))) c.waiting.ensures

pub returns-in-None : goal.returns-in-None
returns-in-None c =
    let is = sym c.fragment_of.ensures ∙ ap (option_map frag_ask) c.in-None.is in
    λ seen.
    let P : List Parcel → Type 0 = λ parcels. FreesAtMost parcels (nat c.args.self.now.prefix c.args.self.now.state (record { seen = seen; now = c.args.now; place = c.args.self.now.steps }) c.args.ask.now).answer in
    subst P (sym c.new.ensures) (whole-frees c.args.self.now.prefix c.args.self.now.state (record { seen = seen; now = c.args.now; place = c.args.self.now.steps }) c.args.ask.now is)
