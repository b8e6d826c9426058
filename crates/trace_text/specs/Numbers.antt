-- Numbers fit their fields, as the types of rules, packets and bindings keep them.
use Rattle.std.specs.Prelude.{◌<◌, ◌^◌, List, Option, Some, None}
use Rattle.std.specs.List.{All}
use Rattle.rule_book.specs.Valid.{FitBook}
use Rattle.l4_headers.specs.declared.ports.Ports.{Ports}
use Rattle.xlat46.specs.Whole.{ArePorts}
use Rattle.frag_table.specs.declared.note.Note.{Note}
use Rattle.nat_model.specs.declared.answer.Answer.{Answer}
use Rattle.nat_model.specs.declared.answer.Answer.TheVariants.{Out, In}
use Rattle.nat_model.specs.declared.ask.Ask.{Ask}
use Rattle.nat_model.specs.declared.ask.Ask.TheVariants.{Outward, Inward, Keep}
use Rattle.nat_model.specs.declared.binding.Binding.{Binding}
use Rattle.nat_model.specs.Fragment.{ports_of}
use Rattle.nat_model.specs.History.{EdgeStart}
use Rattle.nat_model.specs.State.{Generation, NatState}

-- both ports of a binding are numbers of 16 bits, and so are those of a note
pub record FitsBinding (b : Binding) : Type 0 where
  pub port : b.port < 65536
  pub host_port : b.host_port < 65536

abbrev pub FitsNoted : Option Ports → Type 0
FitsNoted None = Unit {0}
FitsNoted (Some ports) = ArePorts ports

-- a state of an edge's machine
pub record FitsState (s : NatState) : Type 0 where
  pub book : FitBook s.book.rules s.book.dmr
  pub bindings : All FitsBinding s.bindings
  pub notes : All (λ (n : Note). FitsNoted n.ports) s.notes

-- the ports of the packet that an ask is about, and the address that it is sent to over IPv4
abbrev pub FitsFar : Ask → Type 0
FitsFar (Outward fault proto near far flags part) = far.addr.0 < 2 ^ 32
FitsFar (Inward fault proto port far flags part) = Unit {0}
FitsFar (Keep proto host host_port port until) = Unit {0}

pub record FitsAsk (ask : Ask) : Type 0 where
  pub ports : ArePorts (ports_of ask)
  pub far : FitsFar ask

-- those of an answer: of the others nothing is asked
abbrev pub FitsAnswer : Answer → Type 0
FitsAnswer (Out from port src6 dst6 freed) = (port < 65536) × (src6.0 < 2 ^ 128) × (dst6.0 < 2 ^ 128)
FitsAnswer (In to port from peer freed) = port < 65536
FitsAnswer _ = Unit {0}

-- where an edge begins, and the rules that it used
pub record FitsStart (start : EdgeStart) (books : List Generation) : Type 0 where
  pub book : FitBook start.book.rules start.book.dmr
  pub kept : All FitsBinding start.kept
  pub later : All (λ (g : Generation). FitBook g.rules g.dmr) books
