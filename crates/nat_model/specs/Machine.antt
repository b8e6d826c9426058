-- The NAPT44 of a customer edge: seven steps, in this order (RFC 7599, section 8; RFC 6146, section 3.5).
use Rattle.std.specs.Prelude.{ℕ, ◌==◌, ◌&&◌, nat_lt, max, Bool, true, if◌then◌else◌, List, [], Option, Some, None, Result, Ok, Err}
use Rattle.std.specs.List.{filter, find}
use Rattle.octets.specs.declared.prefix.Prefix6.{Prefix6}
use Rattle.octets.specs.declared.parcel.Parcel.{Parcel}
use Rattle.octets.specs.declared.proto.Proto.{Proto}
use Rattle.octets.specs.declared.cause.Cause.{Cause}
use Rattle.octets.specs.declared.cause.Cause.TheVariants.{NoBasicRule, WrongDestination, FragmentsFull, NoBinding, NoPort}
use Rattle.rule_book.specs.Holder.{Holder, holder_of}
use Rattle.frag_table.specs.declared.ask.FragAsk.{FragAsk}
use Rattle.frag_table.specs.declared.answer.FragAnswer.{FragAnswer}
use Rattle.frag_table.specs.declared.answer.FragAnswer.TheVariants.{Noted, Known, Held, Released, Full}
use Rattle.frag_table.specs.Frag.{frag, FragStep}
use Rattle.nat_model.specs.declared.answer.Answer.{Answer}
use Rattle.nat_model.specs.declared.answer.Answer.TheVariants.{In, Kept, Held as HeldBack, Refused}
use Rattle.nat_model.specs.declared.ask.End4.{End4}
use Rattle.nat_model.specs.declared.ask.Far.{Far}
use Rattle.nat_model.specs.declared.ask.Far.TheVariants.{Six, Turned}
use Rattle.nat_model.specs.declared.ask.Ask.{Ask}
use Rattle.nat_model.specs.declared.ask.Ask.TheVariants.{Outward, Inward, Keep}
use Rattle.nat_model.specs.declared.binding.Binding.{Binding}
use Rattle.nat_model.specs.Binding.{is_of_host, is_of_port, is_unexpired, outlives, refreshed, entered, kept_until, first_changed}
use Rattle.nat_model.specs.Claim.{Wish, Bound, bound}
use Rattle.nat_model.specs.Fragment.{Gathered, ports_of, part_of, frag_ask_of}
use Rattle.nat_model.specs.Remote.{Remote, remote, far_port, sent}
use Rattle.nat_model.specs.State.{Generation, NatState, NatStep, Moment, holder_at}

-- a step that changes nothing more
abbrev pub ends : NatState → Answer → NatStep
ends s answer = record { after = s; answer = answer }

-- a step that drops the packet, and all that it frees
abbrev pub refuses : NatState → Cause → List Parcel → NatStep
refuses s cause freed = ends s (Refused cause freed)

-- the state with other bindings
abbrev pub with_bindings : NatState → List Binding → NatState
with_bindings s bs = record s { bindings = bs }

-- STEP 1, the rules. Two holders have the same address and the same port set, which is its three numbers
abbrev pub same_holding : Holder → Holder → Bool
same_holding g h = (g.addr == h.addr) && ((g.offset == h.offset) && ((g.psid_length == h.psid_length) && (g.psid == h.psid)))

-- the bindings that stay when rules change: without a holder none, with the same one all, and else those that are
-- kept and whose port the new holder may claim
unfoldable pub staying : Option Holder → Option Holder → List Binding → List Binding
staying old None bs = []
staying None (Some h) bs = filter (outlives h) bs
staying (Some g) (Some h) bs = if same_holding g h then bs else filter (outlives h) bs

-- rules that are seen are used where their generation is greater than the state's
unfoldable pub renewed : Prefix6 → Generation → NatState → NatState
renewed prefix seen s =
    if nat_lt s.book.number seen.number
    then record s { book = seen; bindings = staying (holder_of s.book.rules prefix) (holder_of seen.rules prefix) s.bindings }
    else s

-- STEP 2, the time. The clock never goes back, and bindings whose deadline has come go
unfoldable pub at_time : ℕ → NatState → NatState
at_time now s = let clock = max s.clock now in record s { clock = clock; bindings = filter (is_unexpired clock) s.bindings }

-- STEP 4, the destination. An inward packet is for the edge's own MAP address, and a turned one for its IPv4 address
abbrev pub is_for : Holder → Far → Bool
is_for h (Six dst src peer port) = dst.0 == h.own6
is_for h (Turned dst src peer port) = dst.0 == h.addr

abbrev pub arrives : Holder → Ask → Bool
arrives h (Outward fault proto near far flags part) = true
arrives h (Inward fault proto port far flags part) = is_for h far
arrives h (Keep proto host host_port port until) = true

-- STEP 7, the binding. What is sent from a binding: to the far end, whose port is for ICMP the outside one
abbrev pub sent_from : Holder → NatState → Binding → End4 → List Parcel → Answer
sent_from h s b far freed = sent h s.book b.port (record far { port = far_port b.proto far.port b.port }) freed

-- an outward flow goes by the binding of its protocol and near end or claims one, and refreshes it
abbrev pub sent_by : Holder → NatState → End4 → List Parcel → Option Bound → NatStep
sent_by h s far freed None = refuses s NoPort freed
sent_by h s far freed (Some b) = ends (with_bindings s b.bindings) (sent_from h s b.binding far freed)

unfoldable pub sent_flow : Holder → NatState → Wish → End4 → List Parcel → NatStep
sent_flow h s wish far freed = sent_by h s far freed (bound h s.clock wish (refreshed s.clock) s.bindings)

-- an outward error goes by the binding of its flow, and changes none
abbrev pub sent_error_by : Holder → NatState → End4 → List Parcel → Option Binding → NatStep
sent_error_by h s far freed None = refuses s NoBinding freed
sent_error_by h s far freed (Some b) = ends s (sent_from h s b far freed)

unfoldable pub sent_error : Holder → NatState → Wish → End4 → List Parcel → NatStep
sent_error h s wish far freed = sent_error_by h s far freed (find (is_of_host wish.proto wish.near) s.bindings)

-- an inward packet goes by the binding of its protocol and outside port, and enters it
abbrev pub received_by : NatState → NatState → List Parcel → Remote → Option Binding → NatStep
received_by s after freed r None = refuses s NoBinding freed
received_by s after freed r (Some b) = ends after (In b.host b.host_port r.from r.peer freed)

abbrev pub with_entry : NatState → Bool → Proto → ℕ → NatState
with_entry s fault proto port = with_bindings s (first_changed (is_of_port proto port) (entered fault s.clock) s.bindings)

unfoldable pub received : NatState → Bool → Proto → Gathered → Remote → NatStep
received s fault proto g r =
    received_by s (with_entry s fault proto g.ports.dst) g.freed r (find (is_of_port proto g.ports.dst) s.bindings)

-- a port is kept: the binding of the protocol and host end, or else a claim
abbrev pub kept_by : NatState → Option Bound → NatStep
kept_by s None = refuses s NoPort []
kept_by s (Some b) = ends (with_bindings s b.bindings) (Kept b.binding.port b.binding.deadline)

unfoldable pub keeps : Holder → NatState → Wish → ℕ → NatStep
keeps h s wish until = kept_by s (bound h s.clock wish (kept_until until) s.bindings)

-- STEP 6, the remote addresses of an inward packet
abbrev pub received_from : NatState → Bool → Proto → Gathered → Result Remote Cause → NatStep
received_from s fault proto g (Err cause) = refuses s cause g.freed
received_from s fault proto g (Ok r) = received s fault proto g r

-- a packet whose ports are known goes through steps 6 and 7
abbrev pub passed : Holder → NatState → Ask → Gathered → NatStep
passed h s (Outward fault proto near far flags part) g =
    let from : End4 = record { addr = near.addr; port = g.ports.src } in
    let wish : Wish = record { proto = proto; near = from; port = g.ports.src } in
    let to : End4 = record { addr = far.addr; port = g.ports.dst } in
    if fault then sent_error h s wish to g.freed else sent_flow h s wish to g.freed
passed h s (Inward fault proto port far flags part) g = received_from s fault proto g (remote s.book far g.ports.src)
passed h s (Keep proto host host_port port until) g =
    let near : End4 = record { addr = host; port = host_port } in
    let wish : Wish = record { proto = proto; near = near; port = port } in
    keeps h s wish until

-- STEP 5, fragments. Full is refused, a fragment that is held waits, and the others give ports and freed parcels
abbrev pub told : Holder → NatState → Ask → FragAnswer → NatStep
told h s ask Noted = passed h s ask (record { ports = ports_of ask; freed = [] })
told h s ask (Known ports) = passed h s ask (record { ports = ports; freed = [] })
told h s ask Held = ends s HeldBack
told h s ask (Released parcels) = passed h s ask (record { ports = ports_of ask; freed = parcels })
told h s ask Full = refuses s FragmentsFull []

abbrev pub after_frag : Holder → NatState → Ask → FragStep → NatStep
after_frag h s ask f = told h (record s { notes = f.after.notes }) ask f.answer

abbrev pub gathered : Holder → NatState → ℕ → Ask → Option FragAsk → NatStep
gathered h s place ask None = passed h s ask (record { ports = ports_of ask; freed = [] })
gathered h s place ask (Some f) = after_frag h s ask (frag (record { clock = s.clock; notes = s.notes }) s.clock place f)

-- STEPS 3 to 7: without a holder nothing goes, nor does a packet for another destination
abbrev pub held_by : NatState → ℕ → Ask → Option Holder → NatStep
held_by s place ask None = refuses s NoBasicRule []
held_by s place ask (Some h) =
    if arrives h ask then gathered h s place ask (frag_ask_of (part_of ask) (ports_of ask)) else refuses s WrongDestination []

-- STEPS 2 to 7, under the state's own rules
unfoldable pub timed : Prefix6 → NatState → ℕ → ℕ → Ask → NatStep
timed prefix s now place ask = let t = at_time now s in held_by t place ask (holder_at prefix t)

-- a step of the machine of the edge with this prefix
unfoldable pub nat : Prefix6 → NatState → Moment → Ask → NatStep
nat prefix s m ask = timed prefix (renewed prefix m.seen s) m.now m.place ask
