-- A flow, or a port that is to be kept, finds no port exactly where its host end has no binding and all ports are bound.
use Rattle.std.proofs.Common.{◌≡◌, ℕ, ◌<◌, false, List, [], Option, Some, None, refl, sym, ap, subst, ◌∙◌, ◌↔◌}
use Rattle.std.specs.Prelude.{option_map}
use Rattle.std.specs.List.{find}
use Rattle.std.proofs.lemmas.Bool.{cond_both}
use Rattle.octets.specs.declared.cause.Cause.TheVariants.{NoPort}
use Rattle.octets.specs.declared.parcel.Parcel.{Parcel}
use Rattle.octets.specs.declared.prefix.Prefix6.{Prefix6}
use Rattle.octets.specs.declared.proto.Proto.{Proto}
use Rattle.octets.specs.declared.address.Addr4.{Addr4}
use Rattle.l4_headers.specs.declared.ports.Ports.{Ports}
use Rattle.rule_book.specs.Holder.{Holder}
use Rattle.frag_table.specs.declared.ask.FragAsk.{FragAsk}
use Rattle.frag_table.specs.declared.answer.FragAnswer.{FragAnswer}
use Rattle.frag_table.specs.declared.answer.FragAnswer.TheVariants.{Noted, Known, Held, Released, Full}
use Rattle.frag_table.specs.Frag.{frag, FragStep}
use Rattle.nat_model.specs.declared.answer.Answer.{Answer}
use Rattle.nat_model.specs.declared.answer.Answer.TheVariants.{Out, Turn}
use Rattle.nat_model.specs.declared.ask.Ask.{Ask}
use Rattle.nat_model.specs.declared.ask.Ask.TheVariants.{Outward, Keep}
use Rattle.nat_model.specs.declared.ask.End4.{End4}
use Rattle.nat_model.specs.declared.ask.Part.{Part}
use Rattle.nat_model.specs.declared.ask.Part.TheVariants.{Whole}
use Rattle.nat_model.specs.declared.binding.Binding.{Binding}
use Rattle.nat_model.specs.Binding.{is_of_host, refreshed, kept_until}
use Rattle.nat_model.specs.Claim.{Wish, Bound, bound, bound_as, added, claim, claimed_port}
use Rattle.nat_model.specs.Delivered.{told_ports, stepped_ports, gone_by, FindsNoPort}
use Rattle.nat_model.specs.Fragment.{Gathered, ports_of, frag_ask_of}
use Rattle.nat_model.specs.Machine.{sent_by, sent_flow, kept_by, keeps, passed, told, gathered, held_by, timed, nat}
use Rattle.nat_model.specs.Refusal.{cause_in, settled}
use Rattle.nat_model.specs.Remote.{far_port, reached, is_own, sent}
use Rattle.nat_model.specs.State.{Generation, NatState, NatStep, Moment, holder_at}
use Rattle.nat_model.proofs.WholeSteps.{no_port-full, full-no_port}

-- what is sent isn't refused
sent-goes : (h : Holder) (book : Generation) (outside : ℕ) (far : End4) (freed : List Parcel) → cause_in (sent h book outside far freed) ≡ None
unfolding sent
sent-goes h book outside far freed =
    let turn : Answer = Turn (record { 0 = h.addr }) outside freed in
    let out : Answer = Out (record { 0 = h.addr }) outside (record { 0 = h.own6 }) (record { 0 = reached book far.addr.0 far.port }) freed in
    cond_both (is_own h far.addr.0 far.port) turn out (λ a. cause_in a ≡ None) (λ e. refl) (λ e. refl)

pub sent_by-fails : (h : Holder) (s : NatState) (far : End4) (freed : List Parcel) (o : Option Bound) → cause_in (sent_by h s far freed o).answer ≡ Some NoPort → o ≡ None
sent_by-fails h s far freed None e = refl
sent_by-fails h s far freed (Some b) e =
    let to : End4 = record { addr = far.addr; port = far_port b.binding.proto far.port b.binding.port } in
    let goes = sent-goes h s.book b.binding.port to freed in
    absurd (cc)

added-none : (f : ℕ → Bound) (o : Option ℕ) → option_map f o ≡ None → o ≡ None
added-none f None e = refl
added-none f (Some x) e = absurd (cc)

-- no binding, and no port to claim
bound_as-none : (h : Holder) (clock : ℕ) (wish : Wish) (change : Binding → Binding) (bs : List Binding) (o : Option Binding) → bound_as h clock wish change bs o ≡ None → (o ≡ None) × (claimed_port h wish bs ≡ None)
bound_as-none h clock wish change bs None e = (refl, added-none (λ x. added change bs (claim clock wish x)) (claimed_port h wish bs) e)
bound_as-none h clock wish change bs (Some b) e = absurd (cc)

pub bound-none : (h : Holder) (clock : ℕ) (wish : Wish) (change : Binding → Binding) (bs : List Binding) → bound h clock wish change bs ≡ None → (find (is_of_host wish.proto wish.near) bs ≡ None) × (claimed_port h wish bs ≡ None)
unfolding bound
bound-none h clock wish change bs e = bound_as-none h clock wish change bs (find (is_of_host wish.proto wish.near) bs) e

pub none-bound : (h : Holder) (clock : ℕ) (wish : Wish) (change : Binding → Binding) (bs : List Binding) → find (is_of_host wish.proto wish.near) bs ≡ None → claimed_port h wish bs ≡ None → bound h clock wish change bs ≡ None
unfolding bound
none-bound h clock wish change bs f c = rw (f, c) refl

-- a host end without a binding, and no port to claim
bound-fails : (h : Holder) (clock : ℕ) (wish : Wish) (change : Binding → Binding) (bs : List Binding) → bound h clock wish change bs ≡ None → FindsNoPort h bs wish.proto wish.near
bound-fails h clock wish change bs e =
    let none = bound-none h clock wish change bs e in
    record { unbound = none.0; full = no_port-full h wish bs none.1 }

fails-bound : (h : Holder) (clock : ℕ) (wish : Wish) (change : Binding → Binding) (bs : List Binding) → wish.port < 65536 → FindsNoPort h bs wish.proto wish.near → bound h clock wish change bs ≡ None
fails-bound h clock wish change bs small none = none-bound h clock wish change bs none.unbound (full-no_port h wish bs small none.full)

module _ (h : Holder) (proto : Proto) (near far : End4) (flags : ℕ) (part : Part) where
  abbrev flow : Ask
  flow = Outward false proto near far flags part

  abbrev Refuses : NatStep → Type 0
  Refuses step = cause_in step.answer ≡ Some NoPort

  -- a flow that goes by these ports
  flow-fails : (t : NatState) (g : Gathered) → Refuses (passed h t flow g) → FindsNoPort h t.bindings proto (record near { port = g.ports.src })
  unfolding sent_flow
  flow-fails t g e =
      let wish : Wish = record { proto = proto; near = record { addr = near.addr; port = g.ports.src }; port = g.ports.src } in
      let to : End4 = record { addr = far.addr; port = g.ports.dst } in
      let place : Option Bound = bound h t.clock wish (refreshed t.clock) t.bindings in
      bound-fails h t.clock wish (refreshed t.clock) t.bindings (sent_by-fails h t to g.freed place e)

  flow-none : (t : NatState) (g : Gathered) → g.ports.src < 65536 → FindsNoPort h t.bindings proto (record near { port = g.ports.src }) → Refuses (passed h t flow g)
  unfolding sent_flow
  flow-none t g small none =
      let wish : Wish = record { proto = proto; near = record { addr = near.addr; port = g.ports.src }; port = g.ports.src } in
      let to : End4 = record { addr = far.addr; port = g.ports.dst } in
      ap (λ o. cause_in (sent_by h t to g.freed o).answer) (fails-bound h t.clock wish (refreshed t.clock) t.bindings small none)

  -- by some ports
  abbrev FailsBy : List Binding → Option Ports → Type 0
  FailsBy bs o = (ports : Ports) × (o ≡ Some ports) × FindsNoPort h bs proto (record near { port = ports.src })

  told-fails : (t : NatState) (answer : FragAnswer) → Refuses (told h t flow answer) → FailsBy t.bindings (told_ports flow answer)
  told-fails t Noted e = (ports_of flow, refl, flow-fails t (record { ports = ports_of flow; freed = [] }) e)
  told-fails t (Known ports) e = (ports, refl, flow-fails t (record { ports = ports; freed = [] }) e)
  told-fails t Held e = absurd (cc)
  told-fails t (Released parcels) e = (ports_of flow, refl, flow-fails t (record { ports = ports_of flow; freed = parcels }) e)
  told-fails t Full e = absurd (cc)

  by-ports : (t : NatState) (g : Gathered) (ports : Ports) → Some g.ports ≡ Some ports → ports.src < 65536 → FindsNoPort h t.bindings proto (record near { port = ports.src }) → Refuses (passed h t flow g)
  by-ports t g ports is small none =
      let same : g.ports ≡ ports = cc in
      let P : Ports → Type 0 = λ q. q.src < 65536 → FindsNoPort h t.bindings proto (record near { port = q.src }) → Refuses (passed h t flow g) in
      subst P same (flow-none t g) small none

  told-none : (t : NatState) (answer : FragAnswer) (ports : Ports) → told_ports flow answer ≡ Some ports → ports.src < 65536 → FindsNoPort h t.bindings proto (record near { port = ports.src }) → Refuses (told h t flow answer)
  told-none t Noted ports is small none = by-ports t (record { ports = ports_of flow; freed = [] }) ports is small none
  told-none t (Known known) ports is small none = by-ports t (record { ports = known; freed = [] }) ports is small none
  told-none t Held ports is small none = absurd (cc)
  told-none t (Released parcels) ports is small none = by-ports t (record { ports = ports_of flow; freed = parcels }) ports is small none
  told-none t Full ports is small none = absurd (cc)

  gathered-fails : (t : NatState) (place : ℕ) (o : Option FragAsk) → Refuses (gathered h t place flow o) → FailsBy t.bindings (stepped_ports t place flow o)
  gathered-fails t place None e = (ports_of flow, refl, flow-fails t (record { ports = ports_of flow; freed = [] }) e)
  gathered-fails t place (Some f) e =
      let step : FragStep = frag (record { clock = t.clock; notes = t.notes }) t.clock place f in
      told-fails (record t { notes = step.after.notes }) step.answer e

  gathered-none : (t : NatState) (place : ℕ) (o : Option FragAsk) (ports : Ports) → stepped_ports t place flow o ≡ Some ports → ports.src < 65536 → FindsNoPort h t.bindings proto (record near { port = ports.src }) → Refuses (gathered h t place flow o)
  gathered-none t place None ports is small none = by-ports t (record { ports = ports_of flow; freed = [] }) ports is small none
  gathered-none t place (Some f) ports is small none =
      let step : FragStep = frag (record { clock = t.clock; notes = t.notes }) t.clock place f in
      told-none (record t { notes = step.after.notes }) step.answer ports is small none

pub flow-no_port : (prefix : Prefix6) (s : NatState) (m : Moment) (h : Holder) (proto : Proto) (near far : End4) (flags : ℕ) (part : Part)
    → holder_at prefix (settled prefix s m) ≡ Some h
    → ((ports : Ports) → gone_by (settled prefix s m) m.place (Outward false proto near far flags part) ≡ Some ports → ports.src < 65536)
    → cause_in (nat prefix s m (Outward false proto near far flags part)).answer ≡ Some NoPort ↔ ((ports : Ports) × (gone_by (settled prefix s m) m.place (Outward false proto near far flags part) ≡ Some ports) × FindsNoPort h (settled prefix s m).bindings proto (record near { port = ports.src }))
unfolding nat timed
flow-no_port prefix s m h proto near far flags part e small =
    let t : NatState = settled prefix s m in
    let ask : Ask = Outward false proto near far flags part in
    let o = frag_ask_of part (ports_of ask) in
    let same = ap (λ x. cause_in (held_by t m.place ask x).answer) e in (
      λ f. gathered-fails h proto near far flags part t m.place o (sym same ∙ f),
      λ p. same ∙ gathered-none h proto near far flags part t m.place o p.0 p.1 (small p.0 p.1) p.2,
    )

-- a whole flow goes by its own ports
pub no_port : (prefix : Prefix6) (s : NatState) (m : Moment) (h : Holder) (proto : Proto) (near far : End4) (flags : ℕ)
    → holder_at prefix (settled prefix s m) ≡ Some h
    → near.port < 65536
    → cause_in (nat prefix s m (Outward false proto near far flags Whole)).answer ≡ Some NoPort ↔ FindsNoPort h (settled prefix s m).bindings proto near
no_port prefix s m h proto near far flags e lt =
    let own : Ports = ports_of (Outward false proto near far flags Whole) in
    let bs = (settled prefix s m).bindings in
    let all = flow-no_port prefix s m h proto near far flags Whole e (λ ports is. let same : own ≡ ports = cc in let P : Ports → Type 0 = λ q. q.src < 65536 in subst P same lt) in (
      λ f. let by = all.0 f in let same : own ≡ by.0 = cc in let P : Ports → Type 0 = λ q. FindsNoPort h bs proto (record near { port = q.src }) in subst P (sym same) by.2,
      λ none. all.1 (own, refl, none),
    )

-- a port that is to be kept
kept_by-fails : (s : NatState) (o : Option Bound) → cause_in (kept_by s o).answer ≡ Some NoPort → o ≡ None
kept_by-fails s None e = refl
kept_by-fails s (Some b) e = absurd (cc)

pub keep-no_port : (prefix : Prefix6) (s : NatState) (m : Moment) (h : Holder) (proto : Proto) (host : Addr4) (host_port port until : ℕ)
    → holder_at prefix (settled prefix s m) ≡ Some h
    → port < 65536
    → cause_in (nat prefix s m (Keep proto host host_port port until)).answer ≡ Some NoPort ↔ FindsNoPort h (settled prefix s m).bindings proto (record { addr = host; port = host_port })
unfolding nat timed keeps
keep-no_port prefix s m h proto host host_port port until e small =
    let t : NatState = settled prefix s m in
    let ask : Ask = Keep proto host host_port port until in
    let wish : Wish = record { proto = proto; near = record { addr = host; port = host_port }; port = port } in
    let place : Option Bound = bound h t.clock wish (kept_until until) t.bindings in
    let same = ap (λ x. cause_in (held_by t m.place ask x).answer) e in (
      λ f. bound-fails h t.clock wish (kept_until until) t.bindings (kept_by-fails t place (sym same ∙ f)),
      λ none. same ∙ ap (λ o. cause_in (kept_by t o).answer) (fails-bound h t.clock wish (kept_until until) t.bindings small none),
    )
