-- Words of the laws: what an answer refuses, the state in which a step looks for a binding, and what stays.
use Rattle.std.specs.Prelude.{ℕ, ◌<◌, not, IsTrue, List, Option, Some, None}
use Rattle.std.specs.List.{Any, filter}
use Rattle.octets.specs.declared.cause.Cause.{Cause}
use Rattle.octets.specs.declared.prefix.Prefix6.{Prefix6}
use Rattle.octets.specs.declared.proto.Proto.{Proto}
use Rattle.rule_book.specs.Holder.{Holder}
use Rattle.nat_model.specs.declared.answer.Answer.{Answer}
use Rattle.nat_model.specs.declared.answer.Answer.TheVariants.{Out, Turn, In, Kept, Held, Refused}
use Rattle.nat_model.specs.declared.ask.Ask.{Ask}
use Rattle.nat_model.specs.declared.ask.Ask.TheVariants.{Outward, Inward, Keep}
use Rattle.nat_model.specs.declared.binding.Binding.{Binding}
use Rattle.nat_model.specs.Binding.{same_proto, is_of_port, is_claimable_by}
use Rattle.nat_model.specs.State.{NatState, Moment}
use Rattle.nat_model.specs.Machine.{renewed, at_time}

-- the cause for which an answer refuses
abbrev pub cause_in : Answer → Option Cause
cause_in (Out from port src6 dst6 freed) = None
cause_in (Turn from port freed) = None
cause_in (In to port from peer freed) = None
cause_in (Kept port until) = None
cause_in Held = None
cause_in (Refused cause freed) = Some cause

-- the protocol that is asked about
abbrev pub proto_of : Ask → Proto
proto_of (Outward fault proto near far flags part) = proto
proto_of (Inward fault proto port far flags part) = proto
proto_of (Keep proto host host_port port until) = proto

-- the state once the rules and the time are settled: its bindings are the unexpired ones
abbrev pub settled : Prefix6 → NatState → Moment → NatState
settled prefix s m = at_time m.now (renewed prefix m.seen s)

-- the bindings of all other protocols
abbrev pub of_others : Proto → List Binding → List Binding
of_others proto bs = filter (λ b. not (same_proto b.proto proto)) bs

-- a binding of the protocol has each port that the holder may claim
abbrev pub IsFull : Holder → Proto → List Binding → Type 0
IsFull h proto bs = (x : ℕ) → x < 65536 → IsTrue (is_claimable_by h x) → Any (λ b. IsTrue (is_of_port proto x b)) bs
