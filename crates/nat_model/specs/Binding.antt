-- One binding: what it is for, and how it changes.
use Rattle.std.specs.Prelude.{ℕ, ◌+◌, ◌==◌, ◌&&◌, nat_lt, max, not, Bool, true, false, if◌then◌else◌, List, [], ◌∷◌}
use Rattle.octets.specs.declared.proto.Proto.{Proto}
use Rattle.octets.specs.declared.proto.Proto.TheVariants.{Tcp, Udp, Icmp}
use Rattle.port_set.specs.PortSet.{is_claimable}
use Rattle.rule_book.specs.Holder.{Holder}
use Rattle.nat_model.specs.declared.ask.End4.{End4}
use Rattle.nat_model.specs.declared.binding.Binding.{Binding}
use Rattle.nat_model.specs.Timer.{timer}

-- two protocols are the same
abbrev pub same_proto : Proto → Proto → Bool
same_proto Tcp Tcp = true
same_proto Udp Udp = true
same_proto Icmp Icmp = true
same_proto Tcp Udp = false
same_proto Tcp Icmp = false
same_proto Udp Tcp = false
same_proto Udp Icmp = false
same_proto Icmp Tcp = false
same_proto Icmp Udp = false

-- the binding is of this protocol and host end
abbrev pub is_of_host : Proto → End4 → Binding → Bool
is_of_host proto near b = same_proto b.proto proto && ((b.host.0 == near.addr.0) && (b.host_port == near.port))

-- the binding is of this protocol and outside port
abbrev pub is_of_port : Proto → ℕ → Binding → Bool
is_of_port proto port b = same_proto b.proto proto && (b.port == port)

-- its deadline is still to come
abbrev pub is_unexpired : ℕ → Binding → Bool
is_unexpired clock b = nat_lt clock b.deadline

-- the holder may claim its port
abbrev pub is_claimable_by : Holder → ℕ → Bool
is_claimable_by h x = is_claimable h.offset h.psid_length h.psid x

-- it outlives a change to this holder
abbrev pub outlives : Holder → Binding → Bool
outlives h b = b.kept && is_claimable_by h b.port

-- its deadline is at least this one
abbrev pub extended : ℕ → Binding → Binding
extended until b = record b { deadline = max b.deadline until }

-- an outward flow refreshes it (RFC 4787, section 4.3, requirement 6)
abbrev pub refreshed : ℕ → Binding → Binding
refreshed clock b = extended (clock + timer b.proto b.live) b

-- what an inward packet makes of its binding: a flow of TCP makes it live and refreshes it. Errors and other flows
-- leave it as it is (RFC 4787, section 4.3, requirement 6: no refresh from outside)
abbrev pub entered : Bool → ℕ → Binding → Binding
entered fault clock b = if same_proto b.proto Tcp && not fault then refreshed clock (record b { live = true }) else b

-- it is kept, at least until then
abbrev pub kept_until : ℕ → Binding → Binding
kept_until until b = extended until (record b { kept = true })

-- the bindings with the first that passes the test changed
abbrev pub first_changed : (Binding → Bool) → (Binding → Binding) → List Binding → List Binding
first_changed test change [] = []
first_changed test change (b ∷ bs) = if test b then change b ∷ bs else b ∷ first_changed test change bs
