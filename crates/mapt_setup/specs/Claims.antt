-- The forwards of a configuration at the edges that they name.
use Rattle.std.specs.Prelude.{◌≡◌, ℕ, ◌==◌, ◌&&◌, ◌||◌, not, nat_eq, Bool, false, List, Option, Some, None, option_map, option_and_then, slice_get, Result, Ok}
use Rattle.std.specs.Option.{option_or}
use Rattle.std.specs.List.{list_any, position}
use Rattle.std.specs.Cmp.Lexicographic.{pointwise}
use Rattle.map_rules.specs.declared.rule.Rule.{Rule}
use Rattle.rule_book.specs.Holder.{Holder, holder_of}
use Rattle.nat_model.specs.declared.ask.End4.{End4}
use Rattle.nat_model.specs.declared.binding.Binding.{Binding}
use Rattle.nat_model.specs.Binding.{is_of_host, is_of_port, is_claimable_by}
use Rattle.setup_tables.specs.declared.edge.EdgeLine.{EdgeLine}
use Rattle.setup_tables.specs.declared.forward.ForwardText.{ForwardText}
use Rattle.mapt_setup.specs.declared.forward.ForwardLine.{ForwardLine}
use Rattle.setup_tables.specs.declared.fault.SetupCause.TheVariants.{ForwardEdge, ForwardPort, ForwardTwice}
use Rattle.setup_tables.specs.declared.fault.SetupFault.{SetupFault}
use Rattle.setup_tables.specs.declared.fault.SetupFault.TheVariants.{Refused}
use Rattle.setup_tables.specs.Answer.{◌>>=◌, each, HasNone, barring, exactly}
use Rattle.mapt_setup.specs.Beside.{first_after}

-- the place of the edge with this name
abbrev pub edge_place : List ℕ → List EdgeLine → Option ℕ
edge_place name edges = position (λ edge. pointwise nat_eq edge.name name) edges

-- the forward is at the edge that the text names, with the text's binding
pub record IsAtEdge (edges : List EdgeLine) (text : ForwardText) (forward : ForwardLine) : Type 0 where
  pub edge : edge_place text.edge edges ≡ Some forward.edge
  pub binding : forward.binding ≡ text.binding

-- what an edge holds under these rules, by its place
abbrev pub holder_of_edge : List Rule → List EdgeLine → ℕ → Option Holder
holder_of_edge rules edges place = option_and_then (λ (edge : EdgeLine). holder_of rules edge.prefix) (slice_get edges place)

-- a port may be claimed there
abbrev pub may_claim : Option Holder → ℕ → Bool
may_claim None port = false
may_claim (Some holder) port = is_claimable_by holder port

-- a forward's edge may not claim its port
abbrev pub is_unclaimable : List Rule → List EdgeLine → ForwardLine → Bool
is_unclaimable rules edges forward = not (may_claim (holder_of_edge rules edges forward.edge) forward.binding.port)

-- the host's end of a binding
abbrev pub host_end : Binding → End4
host_end b = record { addr = b.host; port = b.host_port }

-- two forwards are of one edge and one protocol, and have one outside port or one host's end
abbrev pub collides : ForwardLine → ForwardLine → Bool
collides forward other =
    (other.edge == forward.edge)
    && (is_of_port forward.binding.proto forward.binding.port other.binding
    || is_of_host forward.binding.proto (host_end forward.binding) other.binding)

-- an earlier forward does with it
abbrev pub is_taken : List ForwardLine → ForwardLine → Bool
is_taken earlier forward = list_any (collides forward) earlier

-- the first thing that is wrong with forwards at their edges under these rules
abbrev pub forward_fault : List Rule → List EdgeLine → List ForwardLine → Option SetupFault
forward_fault rules edges forwards =
    option_or (option_map (Refused ForwardPort) (position (is_unclaimable rules edges) forwards))
    (option_map (Refused ForwardTwice) (first_after is_taken forwards))

-- the forwards of these texts at their edges
unfoldable pub forwards_of : List Rule → List EdgeLine → List ForwardText → Result (List ForwardLine) SetupFault → Type 0
forwards_of rules edges texts = do
  forwards ← each ForwardEdge (IsAtEdge edges) (HasNone (IsAtEdge edges)) texts
  barring (forward_fault rules edges forwards) (exactly (Ok forwards))
