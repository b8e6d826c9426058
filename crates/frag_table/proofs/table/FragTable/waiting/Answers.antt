use Rattle.std.proofs.Common.{◌≡◌, ℕ, List, ◌∙◌, ap, sym}
use Rattle.octets.specs.declared.parcel.Parcel.{Parcel}
use Rattle.l4_headers.specs.declared.ports.Ports.{Ports}
use Rattle.frag_table.specs.declared.fragment.Fragment.{Fragment}
use Rattle.frag_table.specs.Fragment.{frag_ask}
use Rattle.frag_table.specs.declared.ask.FragAsk.TheVariants.{First}
use Rattle.frag_table.specs.State.{FragState}
use Rattle.frag_table.specs.Frag.{frag, live_at, aged, frag_now, freed_by}
use Rattle.frag_table.proofs.EachRow.{if_ok_map, freed_later}
use Rattle.frag_table.proofs.table.FragTable.waiting.Goals as goal

pub returns-in-First : goal.returns-in-First
unfolding frag
returns-in-First c =
    let now_freed = λ (parcels : List Parcel). (step : ℕ) (ports : Ports) → parcels ≡ freed_by (frag_now (live_at c.max.result c.self.inside.notes) step (First c.in-First.key ports)).answer in
    let freed = λ (parcels : List Parcel). (step : ℕ) → parcels ≡ freed_by (frag_now (aged c.args.self.now c.args.now) step (frag_ask c.args.fragment.now)).answer in
    let at_clock = λ (step : ℕ). ap (λ clock. freed_by (frag_now (live_at clock c.self.inside.notes) step (First c.in-First.key c.in-First.field-1)).answer) c.max.ensures in
    let of_state = λ (step : ℕ). ap (λ (s : FragState). freed_by (frag_now (aged s c.args.now) step (First c.in-First.key c.in-First.field-1)).answer) c.self.view_is in
    let of_ask = λ (step : ℕ). ap (λ (f : Fragment). freed_by (frag_now (aged c.args.self.now c.args.now) step (frag_ask f)).answer) (sym c.in-First.is) in
    if_ok_map c.waiting.result now_freed freed (λ parcels known step. known step c.in-First.field-1 ∙ at_clock step ∙ of_state step ∙ of_ask step) c.waiting.ensures

pub returns-in-Later : goal.returns-in-Later
unfolding frag
returns-in-Later c =
    λ step. c.new.ensures ∙ freed_later (aged c.args.self.now c.args.now) step c.in-Later.field-0 c.in-Later.field-1.now ∙ ap (λ (f : Fragment). freed_by (frag_now (aged c.args.self.now c.args.now) step (frag_ask f)).answer) (sym c.in-Later.is)
