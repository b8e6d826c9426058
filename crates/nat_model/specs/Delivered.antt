-- The ports that a step goes by once a fragment has taken its fragment step, and where an inward packet goes by them.
use Rattle.std.specs.Prelude.{◌≡◌, ℕ, ◌<◌, ◌^◌, IsTrue, List, [], ◌∷◌, Option, Some, None}
use Rattle.std.specs.List.{filter, find}
use Rattle.octets.specs.Bits.{bits_at}
use Rattle.octets.specs.declared.prefix.Prefix6.{Prefix6}
use Rattle.octets.specs.declared.proto.Proto.{Proto}
use Rattle.l4_headers.specs.declared.ports.Ports.{Ports}
use Rattle.rule_book.specs.Holder.{Holder}
use Rattle.frag_table.specs.declared.ask.FragAsk.{FragAsk}
use Rattle.frag_table.specs.declared.answer.FragAnswer.{FragAnswer}
use Rattle.frag_table.specs.declared.answer.FragAnswer.TheVariants.{Noted, Known, Held, Released, Full}
use Rattle.frag_table.specs.Frag.{frag}
use Rattle.nat_model.specs.declared.ask.Ask.{Ask}
use Rattle.nat_model.specs.declared.ask.End4.{End4}
use Rattle.nat_model.specs.declared.ask.Far.{Far}
use Rattle.nat_model.specs.declared.ask.Far.TheVariants.{Six, Turned}
use Rattle.nat_model.specs.declared.binding.Binding.{Binding}
use Rattle.nat_model.specs.Binding.{is_of_host, is_of_port}
use Rattle.nat_model.specs.Fragment.{ports_of, part_of, frag_ask_of}
use Rattle.nat_model.specs.Machine.{is_for}
use Rattle.nat_model.specs.Refusal.{IsFull}
use Rattle.nat_model.specs.State.{NatState, holder_at}

-- the ports that a fragment goes by, where it neither waits nor finds no room: a first one goes by its own, and a later one
-- by those of its first one
abbrev pub told_ports : Ask → FragAnswer → Option Ports
told_ports ask Noted = Some (ports_of ask)
told_ports ask (Known ports) = Some ports
told_ports ask Held = None
told_ports ask (Released parcels) = Some (ports_of ask)
told_ports ask Full = None

abbrev pub stepped_ports : NatState → ℕ → Ask → Option FragAsk → Option Ports
stepped_ports s place ask None = Some (ports_of ask)
stepped_ports s place ask (Some f) = told_ports ask (frag (record { clock = s.clock; notes = s.notes }) s.clock place f).answer

-- the ports that an ask goes by in a state whose rules and time are settled, at the place of the step
abbrev pub gone_by : NatState → ℕ → Ask → Option Ports
gone_by s place ask = stepped_ports s place ask (frag_ask_of (part_of ask) (ports_of ask))

-- the IPv4 address that an inward packet was sent to. A MAP address has it in its interface identifier (RFC 7597,
-- section 6)
abbrev pub sent_to : Far → ℕ
sent_to (Six dst src peer port) = bits_at 128 dst.0 80 32
sent_to (Turned dst src peer port) = dst.0

-- the binding is of this host end
pub record IsEndOf (binding : Binding) (host : End4) : Type 0 where
  pub addr : binding.host ≡ host.addr
  pub port : binding.host_port ≡ host.port

-- An inward packet comes to a host and its port: what it was sent to is the edge's own address, and the host end is that of
-- the binding with the protocol and the outside port that the packet goes by.
pub record IsDelivered (prefix : Prefix6) (s : NatState) (proto : Proto) (far : Far) (ports : Option Ports) (host : End4) : Type 0 where
  pub holder : Holder
  pub holds : holder_at prefix s ≡ Some holder
  pub own : IsTrue (is_for holder far)
  pub address : holder.addr < 2 ^ 32 → sent_to far ≡ holder.addr
  pub by : Ports
  pub told : ports ≡ Some by
  pub binding : Binding
  pub bound : find (is_of_port proto by.dst) s.bindings ≡ Some binding
  pub end : IsEndOf binding host

-- and no other binding has that protocol and port
pub record IsDeliveredAlone (s : NatState) (proto : Proto) (ports : Option Ports) (host : End4) : Type 0 where
  pub by : Ports
  pub told : ports ≡ Some by
  pub binding : Binding
  pub only : filter (is_of_port proto by.dst) s.bindings ≡ binding ∷ []
  pub end : IsEndOf binding host

-- a host end has no binding of the protocol, and bindings of it have every port that the holder may claim
pub record FindsNoPort (h : Holder) (bs : List Binding) (proto : Proto) (near : End4) : Type 0 where
  pub unbound : find (is_of_host proto near) bs ≡ None
  pub full : IsFull h proto bs
