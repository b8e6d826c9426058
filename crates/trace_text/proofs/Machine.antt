-- The addresses in an answer of the machine.
use Rattle.std.proofs.Common.{◌≡◌, ℕ, Bool, true, false, cond, List, [], Option, Some, None, refl, ap, subst}
use Rattle.std.specs.Prelude.{Result, Ok, Err}
use Rattle.octets.specs.declared.address.Addr4.{Addr4}
use Rattle.octets.specs.declared.address.Addr6.{Addr6}
use Rattle.octets.specs.declared.cause.Cause.{Cause}
use Rattle.octets.specs.declared.cause.Cause.TheVariants.{WrongDestination}
use Rattle.octets.specs.declared.parcel.Parcel.{Parcel}
use Rattle.octets.specs.declared.proto.Proto.{Proto}
use Rattle.octets.specs.declared.prefix.Prefix6.{Prefix6}
use Rattle.rule_book.specs.Holder.{Holder, holder_of}
use Rattle.frag_table.specs.declared.ask.FragAsk.{FragAsk}
use Rattle.frag_table.specs.declared.answer.FragAnswer.{FragAnswer}
use Rattle.frag_table.specs.declared.answer.FragAnswer.TheVariants.{Noted, Known, Held, Released, Full}
use Rattle.frag_table.specs.Frag.{frag, FragStep}
use Rattle.l4_headers.specs.declared.ports.Ports.{Ports}
use Rattle.nat_model.specs.declared.answer.Answer.{Answer}
use Rattle.nat_model.specs.declared.answer.Answer.TheVariants.{Out, Turn, In, Held as HeldBack, Refused}
use Rattle.nat_model.specs.declared.ask.Ask.{Ask}
use Rattle.nat_model.specs.declared.ask.Ask.TheVariants.{Outward, Inward}
use Rattle.nat_model.specs.declared.ask.Far.TheVariants.{Six}
use Rattle.nat_model.specs.declared.ask.End4.{End4}
use Rattle.nat_model.specs.declared.ask.Part.{Part}
use Rattle.nat_model.specs.declared.binding.Binding.{Binding}
use Rattle.nat_model.specs.Claim.{Bound}
use Rattle.nat_model.specs.Fragment.{frag_ask_of, part_of, ports_of}
use Rattle.nat_model.specs.Machine.{nat, timed, renewed, at_time, held_by, gathered, told, passed, sent_flow, sent_by, sent_error, sent_error_by, received, received_by, received_from, arrives, refuses}
use Rattle.nat_model.specs.Remote.{remote, behind, both, reached, sent, is_own}
use Rattle.nat_model.specs.State.{Generation, NatState, Moment}

abbrev ok_of : Addr4 → Result Addr4 Cause
ok_of a = Ok a

-- ---- a packet that goes out

-- from the holder's addresses, to where the destination is reached
pub record IsWayOut (h : Holder) (book : Generation) (dst : Addr4) (from : Addr4) (src6 dst6 : Addr6) : Type 0 where
  pub from_is : from ≡ record { 0 = h.addr }
  pub src_is : src6 ≡ record { 0 = h.own6 }
  pub port : ℕ
  pub dst_is : dst6 ≡ record { 0 = reached book dst.0 port }

sent_out : (h : Holder) (book : Generation) (outside : ℕ) (far : End4) (parcels freed : List Parcel) (from : Addr4) (port : ℕ) (src6 dst6 : Addr6)
    → sent h book outside far parcels ≡ Out from port src6 dst6 freed → IsWayOut h book far.addr from src6 dst6
unfolding sent
sent_out h book outside far parcels freed from port src6 dst6 e = by (is_own h far.addr.0 far.port) e
  where
    by : (b : Bool) → cond b (Turn (record { 0 = h.addr }) outside parcels) (Out (record { 0 = h.addr }) outside (record { 0 = h.own6 }) (record { 0 = reached book far.addr.0 far.port }) parcels) ≡ Out from port src6 dst6 freed → IsWayOut h book far.addr from src6 dst6
    by true e = cc
    by false e = record { from_is = cc; src_is = cc; port = far.port; dst_is = cc }

flow_out : (h : Holder) (s : NatState) (proto : Proto) (far : End4) (parcels freed : List Parcel) (from : Addr4) (port : ℕ) (src6 dst6 : Addr6) (found : Option Bound)
    → (sent_by h s far parcels found).answer ≡ Out from port src6 dst6 freed → IsWayOut h s.book far.addr from src6 dst6
flow_out h s proto far parcels freed from port src6 dst6 None e = cc
flow_out h s proto far parcels freed from port src6 dst6 (Some b) e = sent_out h s.book b.binding.port _ parcels freed from port src6 dst6 e

error_out : (h : Holder) (s : NatState) (far : End4) (parcels freed : List Parcel) (from : Addr4) (port : ℕ) (src6 dst6 : Addr6) (found : Option Binding)
    → (sent_error_by h s far parcels found).answer ≡ Out from port src6 dst6 freed → IsWayOut h s.book far.addr from src6 dst6
error_out h s far parcels freed from port src6 dst6 None e = cc
error_out h s far parcels freed from port src6 dst6 (Some b) e = sent_out h s.book b.port _ parcels freed from port src6 dst6 e

passed_out : (h : Holder) (s : NatState) (fault : Bool) (proto : Proto) (near far : End4) (flags : ℕ) (part : Part) (ports : Ports) (parcels freed : List Parcel) (from : Addr4) (port : ℕ) (src6 dst6 : Addr6)
    → (passed h s (Outward fault proto near far flags part) (record { ports = ports; freed = parcels })).answer ≡ Out from port src6 dst6 freed → IsWayOut h s.book far.addr from src6 dst6
unfolding sent_flow sent_error
passed_out h s true proto near far flags part ports parcels freed from port src6 dst6 e = error_out h s (record { addr = far.addr; port = ports.dst }) parcels freed from port src6 dst6 _ e
passed_out h s false proto near far flags part ports parcels freed from port src6 dst6 e = flow_out h s proto (record { addr = far.addr; port = ports.dst }) parcels freed from port src6 dst6 _ e

-- ---- a packet that comes in

-- from the addresses behind its source and its flow's remote address
pub record IsWayIn (book : Generation) (src peer : Addr6) (from far : Addr4) : Type 0 where
  pub port : ℕ
  pub from_is : behind book src.0 port ≡ Ok from
  pub far_is : behind book peer.0 port ≡ Ok far

received_in : (s after : NatState) (parcels freed : List Parcel) (source remote : Addr4) (to : Addr4) (port : ℕ) (from far : Addr4) (found : Option Binding)
    → (received_by s after parcels (record { from = source; peer = remote }) found).answer ≡ In to port from far freed → (source ≡ from) × (remote ≡ far)
received_in s after parcels freed source remote to port from far None e = cc
received_in s after parcels freed source remote to port from far (Some b) e = (cc, cc)

both_in : (s : NatState) (fault : Bool) (proto : Proto) (ports : Ports) (parcels freed : List Parcel) (to : Addr4) (port : ℕ) (from far : Addr4) (one other : Result Addr4 Cause)
    → (received_from s fault proto (record { ports = ports; freed = parcels }) (both one other)).answer ≡ In to port from far freed → (one ≡ Ok from) × (other ≡ Ok far)
unfolding received
both_in s fault proto ports parcels freed to port from far (Err cause) other e = cc
both_in s fault proto ports parcels freed to port from far (Ok a) (Err cause) e = cc
both_in s fault proto ports parcels freed to port from far (Ok a) (Ok b) e =
    let same = received_in s _ parcels freed a b to port from far _ e in
    (ap (λ (x : Addr4). ok_of x) same.0, ap (λ (x : Addr4). ok_of x) same.1)

passed_in : (h : Holder) (s : NatState) (fault : Bool) (proto : Proto) (x : ℕ) (dst src peer : Addr6) (far_port flags : ℕ) (part : Part) (ports : Ports) (parcels freed : List Parcel) (to : Addr4) (port : ℕ) (from far : Addr4)
    → (passed h s (Inward fault proto x (Six dst src peer far_port) flags part) (record { ports = ports; freed = parcels })).answer ≡ In to port from far freed → IsWayIn s.book src peer from far
unfolding remote
passed_in h s fault proto x dst src peer far_port flags part ports parcels freed to port from far e =
    let same = both_in s fault proto ports parcels freed to port from far (behind s.book src.0 ports.src) (behind s.book peer.0 ports.src) e in
    record { port = ports.src; from_is = same.0; far_is = same.1 }

-- ---- the steps before

-- an answer that is neither a refusal nor a wait is that of a packet whose ports are known
record Otherwise (Q : Answer → Type 0) : Type 0 where
  refused : (cause : Cause) (parcels : List Parcel) → Q (Refused cause parcels)
  held : Q HeldBack

told_by : (Q : Answer → Type 0) → Otherwise Q → (h : Holder) (s : NatState) (ask : Ask) (answer : FragAnswer)
    → ((ports : Ports) (parcels : List Parcel) → Q (passed h s ask (record { ports = ports; freed = parcels })).answer) → Q (told h s ask answer).answer
told_by Q other h s ask Noted step = step (ports_of ask) []
told_by Q other h s ask (Known ports) step = step ports []
told_by Q other h s ask Held step = other.held
told_by Q other h s ask (Released parcels) step = step (ports_of ask) parcels
told_by Q other h s ask Full step = other.refused _ []

gathered_by : (Q : Answer → Type 0) → Otherwise Q → (h : Holder) (s : NatState) (place : ℕ) (ask : Ask) (asked : Option FragAsk)
    → ((t : NatState) (ports : Ports) (parcels : List Parcel) → t.book ≡ s.book → Q (passed h t ask (record { ports = ports; freed = parcels })).answer) → Q (gathered h s place ask asked).answer
gathered_by Q other h s place ask None step = step s (ports_of ask) [] refl
gathered_by Q other h s place ask (Some f) step =
    let f_step : FragStep = frag (record { clock = s.clock; notes = s.notes }) s.clock place f in
    told_by Q other h (record s { notes = f_step.after.notes }) ask f_step.answer (λ ports parcels. step (record s { notes = f_step.after.notes }) ports parcels refl)

held_out : (s : NatState) (place : ℕ) (fault : Bool) (proto : Proto) (near far : End4) (flags : ℕ) (part : Part) (freed : List Parcel) (from : Addr4) (port : ℕ) (src6 dst6 : Addr6) (holder : Option Holder)
    → (held_by s place (Outward fault proto near far flags part) holder).answer ≡ Out from port src6 dst6 freed → (h : Holder) × (holder ≡ Some h) × IsWayOut h s.book far.addr from src6 dst6
held_out s place fault proto near far flags part freed from port src6 dst6 None e = cc
held_out s place fault proto near far flags part freed from port src6 dst6 (Some h) e =
    let ask = Outward fault proto near far flags part in
    let Q = λ (a : Answer). a ≡ Out from port src6 dst6 freed → IsWayOut h s.book far.addr from src6 dst6 in
    let other : Otherwise Q = record { refused = λ cause parcels is. cc; held = λ is. cc } in
    (h, refl, gathered_by Q other h s place ask _ (λ t ports parcels same is. subst (λ (b : Generation). IsWayOut h b far.addr from src6 dst6) same (passed_out h t fault proto near far flags part ports parcels freed from port src6 dst6 is)) e)

held_in : (s : NatState) (place : ℕ) (fault : Bool) (proto : Proto) (x : ℕ) (dst src peer : Addr6) (far_port flags : ℕ) (part : Part) (freed : List Parcel) (to : Addr4) (port : ℕ) (from far : Addr4) (holder : Option Holder)
    → (held_by s place (Inward fault proto x (Six dst src peer far_port) flags part) holder).answer ≡ In to port from far freed → IsWayIn s.book src peer from far
held_in s place fault proto x dst src peer far_port flags part freed to port from far None e = cc
held_in s place fault proto x dst src peer far_port flags part freed to port from far (Some h) e =
    let ask = Inward fault proto x (Six dst src peer far_port) flags part in
    let Q = λ (a : Answer). a ≡ In to port from far freed → IsWayIn s.book src peer from far in
    let other : Otherwise Q = record { refused = λ cause parcels is. cc; held = λ is. cc } in
    let inside = gathered_by Q other h s place ask (frag_ask_of (part_of ask) (ports_of ask)) (λ t ports parcels same is. subst (λ (b : Generation). IsWayIn b src peer from far) same (passed_in h t fault proto x dst src peer far_port flags part ports parcels freed to port from far is)) in
    by (arrives h ask) inside e
  where
    by : (b : Bool) → ((gathered h s place (Inward fault proto x (Six dst src peer far_port) flags part) (frag_ask_of (part_of (Inward fault proto x (Six dst src peer far_port) flags part)) (ports_of (Inward fault proto x (Six dst src peer far_port) flags part)))).answer ≡ In to port from far freed → IsWayIn s.book src peer from far)
        → (cond b (gathered h s place (Inward fault proto x (Six dst src peer far_port) flags part) (frag_ask_of (part_of (Inward fault proto x (Six dst src peer far_port) flags part)) (ports_of (Inward fault proto x (Six dst src peer far_port) flags part)))) (refuses s WrongDestination [])).answer ≡ In to port from far freed → IsWayIn s.book src peer from far
    by true inside is = inside is
    by false inside is = cc

pub way_out : (prefix : Prefix6) (s : NatState) (m : Moment) (fault : Bool) (proto : Proto) (near far : End4) (flags : ℕ) (part : Part) (freed : List Parcel) (from : Addr4) (port : ℕ) (src6 dst6 : Addr6)
    → (nat prefix s m (Outward fault proto near far flags part)).answer ≡ Out from port src6 dst6 freed
    → (h : Holder) × (holder_of (renewed prefix m.seen s).book.rules prefix ≡ Some h) × IsWayOut h (renewed prefix m.seen s).book far.addr from src6 dst6
unfolding nat timed at_time
way_out prefix s m fault proto near far flags part freed from port src6 dst6 e = held_out _ m.place fault proto near far flags part freed from port src6 dst6 _ e

pub way_in : (prefix : Prefix6) (s : NatState) (m : Moment) (fault : Bool) (proto : Proto) (x : ℕ) (dst src peer : Addr6) (far_port flags : ℕ) (part : Part) (freed : List Parcel) (to : Addr4) (port : ℕ) (from far : Addr4)
    → (nat prefix s m (Inward fault proto x (Six dst src peer far_port) flags part)).answer ≡ In to port from far freed → IsWayIn (renewed prefix m.seen s).book src peer from far
unfolding nat timed at_time
way_in prefix s m fault proto x dst src peer far_port flags part freed to port from far e = held_in _ m.place fault proto x dst src peer far_port flags part freed to port from far _ e
