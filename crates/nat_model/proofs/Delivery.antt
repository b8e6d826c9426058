-- Where an inward packet goes: the laws on delivery, and on ports that aren't found.
use Rattle.std.proofs.Common.{◌≡◌, ℕ, suc, ◌<◌, ◌^◌, Bool, true, false, cond, IsTrue, List, [], ◌∷◌, Option, Some, None, Result, Ok, Err, length, get_or, refl, sym, ap, ◌∙◌, subst, arith}
use Rattle.std.specs.List.{find, filter, AllPairs}
use Rattle.std.proofs.lemmas.Bool.{cond_both, and_parts, eqb-true}
use Rattle.octets.specs.Bits.{bits_at}
use Rattle.octets.specs.declared.address.Addr4.{Addr4}
use Rattle.octets.specs.declared.cause.Cause.{Cause}
use Rattle.octets.specs.declared.cause.Cause.TheVariants.{WrongDestination}
use Rattle.octets.specs.declared.parcel.Parcel.{Parcel}
use Rattle.octets.specs.declared.prefix.Prefix6.{Prefix6}
use Rattle.octets.specs.declared.proto.Proto.{Proto}
use Rattle.octets.specs.declared.proto.Proto.TheVariants.{Tcp, Udp, Icmp}
use Rattle.l4_headers.specs.declared.ports.Ports.{Ports}
use Rattle.map_rules.specs.declared.rule.Rule.{Rule}
use Rattle.map_rules.specs.Rule.{edge_address, edge_psid}
use Rattle.map_rules.proofs.MapAddress.{addr-part}
use Rattle.map_rules.proofs.Rules.{ea_of, rule-sizes, rule_address-sum, edge-psid-small}
use Rattle.rule_book.specs.Holder.{Holder, has_edge, holder_under, holder_of}
use Rattle.frag_table.specs.declared.ask.FragAsk.{FragAsk}
use Rattle.frag_table.specs.declared.answer.FragAnswer.{FragAnswer}
use Rattle.frag_table.specs.declared.answer.FragAnswer.TheVariants.{Noted, Known, Held, Released, Full}
use Rattle.frag_table.specs.Frag.{frag, FragStep}
use Rattle.nat_model.specs.declared.answer.Answer.TheVariants.{In}
use Rattle.nat_model.specs.declared.ask.Ask.{Ask}
use Rattle.nat_model.specs.declared.ask.Ask.TheVariants.{Inward}
use Rattle.nat_model.specs.declared.ask.End4.{End4}
use Rattle.nat_model.specs.declared.ask.Far.{Far}
use Rattle.nat_model.specs.declared.ask.Far.TheVariants.{Six, Turned}
use Rattle.nat_model.specs.declared.ask.Part.{Part}
use Rattle.nat_model.specs.declared.binding.Binding.{Binding}
use Rattle.nat_model.specs.Binding.{same_proto, is_of_port}
use Rattle.nat_model.specs.Delivered.{told_ports, stepped_ports, gone_by, sent_to, IsEndOf, IsDelivered, IsDeliveredAlone}
use Rattle.nat_model.specs.Fragment.{Gathered, ports_of, frag_ask_of}
use Rattle.nat_model.specs.Machine.{refuses, is_for, received, received_by, received_from, with_entry, told, gathered, held_by, timed, nat}
use Rattle.nat_model.specs.Refusal.{settled}
use Rattle.nat_model.specs.Remote.{Remote, remote}
use Rattle.nat_model.specs.Sound.{AreApart, IsSound}
use Rattle.nat_model.specs.State.{NatState, NatStep, Moment, holder_at}
use Rattle.nat_model.proofs.EachStep.{renewed-sound, at_time-sound}

-- a holder's own MAP address has its IPv4 address
under-own : (r : Rule) (prefix : Prefix6) → (holder_under r prefix).addr < 2 ^ 32 → bits_at 128 (holder_under r prefix).own6 80 32 ≡ (holder_under r prefix).addr
under-own r prefix small =
    let addr = edge_address r prefix.bits in
    let v = edge_psid r prefix.bits in
    ap (λ x. bits_at 128 x 80 32) (rule_address-sum r addr v) ∙ addr-part r.prefix6.bits r.prefix6.len r.ea (ea_of r addr v) addr v (rule-sizes r addr v small (edge-psid-small r prefix.bits))

holder-own : (rules : List Rule) (prefix : Prefix6) (h : Holder) → holder_of rules prefix ≡ Some h → h.addr < 2 ^ 32 → bits_at 128 h.own6 80 32 ≡ h.addr
holder-own [] prefix h is small = absurd (cc)
holder-own (r ∷ rules) prefix h is small = by_rule (has_edge prefix r) is (holder-own rules prefix h)
  where
    by_rule : (b : Bool) → cond b (Some (holder_under r prefix)) (holder_of rules prefix) ≡ Some h → (holder_of rules prefix ≡ Some h → h.addr < 2 ^ 32 → bits_at 128 h.own6 80 32 ≡ h.addr) → bits_at 128 h.own6 80 32 ≡ h.addr
    by_rule true e rest =
        let same : holder_under r prefix ≡ h = cc in
        let P : Holder → Type 0 = λ g. g.addr < 2 ^ 32 → bits_at 128 g.own6 80 32 ≡ g.addr in
        subst P same (under-own r prefix) small
    by_rule false e rest = rest e small

-- what a packet was sent to, where it is for the holder
sent-own : (rules : List Rule) (prefix : Prefix6) (h : Holder) (far : Far) → holder_of rules prefix ≡ Some h → IsTrue (is_for h far) → h.addr < 2 ^ 32 → sent_to far ≡ h.addr
sent-own rules prefix h (Six dst src peer port) is own small = ap (λ x. bits_at 128 x 80 32) (eqb-true dst.0 h.own6 own) ∙ holder-own rules prefix h is small
sent-own rules prefix h (Turned dst src peer port) is own small = eqb-true dst.0 h.addr own

-- an inward packet that was let in, by the ports that it goes by
module _ (proto : Proto) (to from peer : Addr4) (host_port : ℕ) (freed : List Parcel) where
  abbrev host_end : End4
  host_end = record { addr = to; port = host_port }

  pub record Comes (bs : List Binding) (ports : Option Ports) : Type 0 where
    pub by : Ports
    pub told : ports ≡ Some by
    pub binding : Binding
    pub bound : find (is_of_port proto by.dst) bs ≡ Some binding
    pub end : IsEndOf binding host_end

  abbrev LetIn : NatStep → Type 0
  LetIn step = step.answer ≡ In to host_port from peer freed

  received_by-comes : (t after : NatState) (gone : List Parcel) (r : Remote) (by : Ports) (o : Option Binding) → find (is_of_port proto by.dst) t.bindings ≡ o → LetIn (received_by t after gone r o) → Comes t.bindings (Some by)
  received_by-comes t after gone r by None f e = absurd (cc)
  received_by-comes t after gone r by (Some b) f e =
      let host : b.host ≡ to = cc in
      let at : b.host_port ≡ host_port = cc in
      let r : Comes t.bindings (Some by) = record { by = by; told = refl; binding = b; bound = f; end = record { addr = host; port = at } } in
      r

  received-comes : (t : NatState) (fault : Bool) (g : Gathered) (r : Remote) → LetIn (received t fault proto g r) → Comes t.bindings (Some g.ports)
  unfolding received
  received-comes t fault g r e = received_by-comes t (with_entry t fault proto g.ports.dst) g.freed r g.ports (find (is_of_port proto g.ports.dst) t.bindings) refl e

  received_from-comes : (t : NatState) (fault : Bool) (g : Gathered) (r : Result Remote Cause) → LetIn (received_from t fault proto g r) → Comes t.bindings (Some g.ports)
  received_from-comes t fault g (Err cause) e = absurd (cc)
  received_from-comes t fault g (Ok r) e = received-comes t fault g r e

  module _ (fault : Bool) (port flags : ℕ) (far : Far) (part : Part) where
    abbrev comer : Ask
    comer = Inward fault proto port far flags part

    told-comes : (h : Holder) (t : NatState) (answer : FragAnswer) → LetIn (told h t comer answer) → Comes t.bindings (told_ports comer answer)
    told-comes h t Noted e = received_from-comes t fault (record { ports = ports_of comer; freed = [] }) (remote t.book far (ports_of comer).src) e
    told-comes h t (Known ports) e = received_from-comes t fault (record { ports = ports; freed = [] }) (remote t.book far ports.src) e
    told-comes h t Held e = absurd (cc)
    told-comes h t (Released parcels) e = received_from-comes t fault (record { ports = ports_of comer; freed = parcels }) (remote t.book far (ports_of comer).src) e
    told-comes h t Full e = absurd (cc)

    gathered-comes : (h : Holder) (t : NatState) (place : ℕ) (o : Option FragAsk) → LetIn (gathered h t place comer o) → Comes t.bindings (stepped_ports t place comer o)
    gathered-comes h t place None e = received_from-comes t fault (record { ports = ports_of comer; freed = [] }) (remote t.book far (ports_of comer).src) e
    gathered-comes h t place (Some f) e =
        let step : FragStep = frag (record { clock = t.clock; notes = t.notes }) t.clock place f in
        told-comes h (record t { notes = step.after.notes }) step.answer e

    held_by-comes : (prefix : Prefix6) (t : NatState) (place : ℕ) (o : Option Holder) → holder_at prefix t ≡ o → LetIn (held_by t place comer o) → IsDelivered prefix t proto far (gone_by t place comer) host_end
    held_by-comes prefix t place None holds e = absurd (cc)
    held_by-comes prefix t place (Some h) holds e =
        let o = frag_ask_of part (ports_of comer) in
        let Goal : NatStep → Type 0 = λ step. LetIn step → IsDelivered prefix t proto far (gone_by t place comer) host_end in
        cond_both (is_for h far) (gathered h t place comer o) (refuses t WrongDestination []) Goal
        (λ own let_in.
        let comes = gathered-comes h t place o let_in in
        let r : IsDelivered prefix t proto far (gone_by t place comer) host_end = record {
          holder = h;
          holds = holds;
          own = own;
          address = sent-own t.book.rules prefix h far holds own;
          by = comes.by;
          told = comes.told;
          binding = comes.binding;
          bound = comes.bound;
          end = comes.end;
        } in
        r)
        (λ away let_in. absurd (cc)) e

pub delivered : (prefix : Prefix6) (s : NatState) (m : Moment) (fault : Bool) (proto : Proto) (port flags : ℕ) (far : Far) (part : Part) (to from peer : Addr4) (host_port : ℕ) (freed : List Parcel)
    → (nat prefix s m (Inward fault proto port far flags part)).answer ≡ In to host_port from peer freed
    → IsDelivered prefix (settled prefix s m) proto far (gone_by (settled prefix s m) m.place (Inward fault proto port far flags part)) (record { addr = to; port = host_port })
unfolding nat timed
delivered prefix s m fault proto port flags far part to from peer host_port freed e =
    let t : NatState = settled prefix s m in
    held_by-comes proto to from peer host_port freed fault port flags far part prefix t m.place (holder_at prefix t) refl e

-- the one element that passes a test
none-pass : (test : Binding → Bool) (bs : List Binding) → ((j : ℕ) (d : Binding) → j < length bs → test (get_or bs j d) ≡ true → ⊥) → filter test bs ≡ []
none-pass test [] none = refl
none-pass test (b ∷ bs) none = by_test (test b) refl (none-pass test bs (λ j d within passes. none (suc j) d (omega arith) passes))
  where
    by_test : (t : Bool) → test b ≡ t → filter test bs ≡ [] → cond t (b ∷ filter test bs) (filter test bs) ≡ []
    by_test true is rest = absurd (none 0 b (omega arith) is)
    by_test false is rest = rest

one-passes : (test : Binding → Bool) (bs : List Binding) (b : Binding) → AllPairs (λ c d. test c ≡ true → test d ≡ true → ⊥) bs → find test bs ≡ Some b → filter test bs ≡ b ∷ []
one-passes test [] b pairs found = absurd (cc)
one-passes test (c ∷ bs) b pairs found =
    by_test (test c) refl found (one-passes test bs b (λ i j d before within. pairs (suc i) (suc j) d (omega arith) (omega arith)))
  where
    by_test : (t : Bool) → test c ≡ t → cond t (Some c) (find test bs) ≡ Some b → (find test bs ≡ Some b → filter test bs ≡ b ∷ []) → cond t (c ∷ filter test bs) (filter test bs) ≡ b ∷ []
    by_test true is e rest =
        let same : c ≡ b = cc in
        let others = none-pass test bs (λ j d within passes. pairs 0 (suc j) d (omega arith) (omega arith) is passes) in
        (λ i. same i ∷ others i)
    by_test false is e rest = rest e

protos-same : (p q : Proto) → same_proto p q ≡ true → p ≡ q
protos-same Tcp Tcp e = refl
protos-same Udp Udp e = refl
protos-same Icmp Icmp e = refl
protos-same _ _ e = absurd (cc)

apart-ports : (proto : Proto) (x : ℕ) (bs : List Binding) → AllPairs AreApart bs → AllPairs (λ c d. is_of_port proto x c ≡ true → is_of_port proto x d ≡ true → ⊥) bs
apart-ports proto x bs apart i j d before within one two =
    let b = get_or bs i d in
    let c = get_or bs j d in
    let of_b = and_parts (same_proto b.proto proto) _ one in
    let of_c = and_parts (same_proto c.proto proto) _ two in
    let protos = protos-same b.proto proto of_b.0 ∙ sym (protos-same c.proto proto of_c.0) in
    let ports = eqb-true b.port x of_b.1 ∙ sym (eqb-true c.port x of_c.1) in
    (apart i j d before within).ports protos ports

settled-sound : (prefix : Prefix6) (s : NatState) (m : Moment) → IsSound prefix s → IsSound prefix (settled prefix s m)
settled-sound prefix s m sound = at_time-sound prefix m.now _ (renewed-sound prefix m.seen s sound)

pub alone : (prefix : Prefix6) (s : NatState) (m : Moment) (fault : Bool) (proto : Proto) (port flags : ℕ) (far : Far) (part : Part) (to from peer : Addr4) (host_port : ℕ) (freed : List Parcel)
    → IsSound prefix s
    → (nat prefix s m (Inward fault proto port far flags part)).answer ≡ In to host_port from peer freed
    → IsDeliveredAlone (settled prefix s m) proto (gone_by (settled prefix s m) m.place (Inward fault proto port far flags part)) (record { addr = to; port = host_port })
alone prefix s m fault proto port flags far part to from peer host_port freed sound e =
    let t : NatState = settled prefix s m in
    let is = delivered prefix s m fault proto port flags far part to from peer host_port freed e in
    let sound-now = settled-sound prefix s m sound in
    record {
      by = is.by;
      told = is.told;
      binding = is.binding;
      only = one-passes (is_of_port proto is.by.dst) t.bindings is.binding (apart-ports proto is.by.dst t.bindings sound-now.apart) is.bound;
      end = is.end;
    }
