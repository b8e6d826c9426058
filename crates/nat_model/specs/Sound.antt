-- What holds of the bindings in each state of the machine.
use Rattle.std.specs.Prelude.{◌≡◌, IsTrue, List, [], Option, Some, None}
use Rattle.std.specs.List.{All, AllPairs}
use Rattle.octets.specs.declared.prefix.Prefix6.{Prefix6}
use Rattle.rule_book.specs.Holder.{Holder}
use Rattle.nat_model.specs.declared.binding.Binding.{Binding}
use Rattle.nat_model.specs.Binding.{is_claimable_by}
use Rattle.nat_model.specs.State.{NatState, holder_at}

-- two bindings of one protocol have different outside ports, and different host ends (RFC 4787, section 4.2.1;
-- RFC 6146, section 3.1)
pub record AreApart (b c : Binding) : Type 0 where
  pub ports : b.proto ≡ c.proto → ¬ (b.port ≡ c.port)
  pub hosts : b.proto ≡ c.proto → b.host ≡ c.host → ¬ (b.host_port ≡ c.host_port)

-- the holder may claim the port of each binding; without a holder there is none
abbrev pub AreClaimable : Option Holder → List Binding → Type 0
AreClaimable None bs = bs ≡ []
AreClaimable (Some h) bs = All (λ b. IsTrue (is_claimable_by h b.port)) bs

-- the bindings of an edge
pub record AreSound (holder : Option Holder) (bs : List Binding) : Type 0 where
  pub apart : AllPairs AreApart bs
  pub claimable : AreClaimable holder bs

-- a state of the machine of the edge with this prefix
abbrev pub IsSound : Prefix6 → NatState → Type 0
IsSound prefix s = AreSound (holder_at prefix s) s.bindings
