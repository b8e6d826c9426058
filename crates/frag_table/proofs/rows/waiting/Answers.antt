use Rattle.std.proofs.Common.{◌≡◌, ℕ, List, ◌∙◌}
use Rattle.octets.specs.declared.parcel.Parcel.{Parcel}
use Rattle.l4_headers.specs.declared.ports.Ports.{Ports}
use Rattle.frag_table.specs.declared.ask.FragAsk.TheVariants.{First}
use Rattle.frag_table.specs.Frag.{live_at, frag_now, freed_by}
use Rattle.frag_table.proofs.EachRow.{if_ok_map, freed_again, freed_new}
use Rattle.frag_table.proofs.rows.waiting.Goals as goal

pub returns-in-Some : goal.returns-in-Some
returns-in-Some c =
    let same = λ (parcels : List Parcel). parcels ≡ c.get.result.now.held in
    let freed = λ (parcels : List Parcel). (step : ℕ) (ports : Ports) → parcels ≡ freed_by (frag_now (live_at c.args.clock c.args.notes.now) step (First c.args.key.now ports)).answer in
    if_ok_map c.copy.result same freed (λ parcels copied step ports. copied ∙ freed_again c.args.clock c.args.key.now c.args.notes.now c.in-Some.at c.get.result.now step ports c.in-Some.ensures.found c.get.ensures) c.copy.ensures.same

pub returns-in-None : goal.returns-in-None
returns-in-None c = λ step ports. c.new.ensures ∙ freed_new c.args.clock c.args.key.now c.args.notes.now step ports c.in-None.ensures.none
