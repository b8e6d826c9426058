-- Which outside port a host end gets: the one that it has, or a claim (RFC 7597, section 5.1; RFC 6146,
-- section 3.5.1.1).
use Rattle.std.specs.Prelude.{ℕ, ◌+◌, ◌&&◌, not, Bool, false, if◌then◌else◌, List, [], ◌∷◌, ◌++◌, Option, Some, None, option_map, zero, suc}
use Rattle.std.specs.List.{list_any, find}
use Rattle.octets.specs.declared.proto.Proto.{Proto}
use Rattle.rule_book.specs.Holder.{Holder}
use Rattle.nat_model.specs.declared.ask.End4.{End4}
use Rattle.nat_model.specs.declared.binding.Binding.{Binding}
use Rattle.nat_model.specs.Binding.{is_of_host, is_of_port, is_claimable_by, first_changed}
use Rattle.nat_model.specs.Timer.{timer}

-- a host end that wants a binding of this protocol, by preference with this outside port
pub record Wish : Type 0 where
  pub proto : Proto
  pub near : End4
  pub port : ℕ

-- the holder may claim the port, and no binding of the protocol has it
abbrev pub is_free : Holder → Proto → List Binding → ℕ → Bool
is_free h proto bs x = is_claimable_by h x && not (list_any (is_of_port proto x) bs)

-- the least number below n + 1 that passes, given the least below n
abbrev pub least_or_this : (ℕ → Bool) → ℕ → Option ℕ → Option ℕ
least_or_this test n (Some x) = Some x
least_or_this test n None = if test n then Some n else None

-- the least number below n that passes the test
unfoldable pub least_below : (ℕ → Bool) → ℕ → Option ℕ
least_below test zero = None
least_below test (suc n) = least_or_this test n (least_below test n)

-- the port of a claim: the one that is wished, where it is free, and else the least that is
unfoldable pub claimed_port : Holder → Wish → List Binding → Option ℕ
claimed_port h wish bs =
    if is_free h wish.proto bs wish.port then Some wish.port else least_below (is_free h wish.proto bs) 65536

-- a claim
abbrev pub claim : ℕ → Wish → ℕ → Binding
claim clock wish x =
    let deadline = clock + timer wish.proto false in
    record {
      proto = wish.proto;
      host = wish.near.addr;
      host_port = wish.near.port;
      port = x;
      deadline = deadline;
      live = false;
      kept = false;
    }

-- a binding, and all of them with it
pub record Bound : Type 0 where
  pub binding : Binding
  pub bindings : List Binding

-- a claim is added at the end, changed as the step changes bindings
abbrev pub added : (Binding → Binding) → List Binding → Binding → Bound
added change bs b = record { binding = change b; bindings = bs ++ change b ∷ [] }

-- the binding of the protocol and host end, or else a claim, changed as the step changes it; none where no port
-- is free
abbrev pub bound_as : Holder → ℕ → Wish → (Binding → Binding) → List Binding → Option Binding → Option Bound
bound_as h clock wish change bs (Some b) =
    Some (record { binding = change b; bindings = first_changed (is_of_host wish.proto wish.near) change bs })
bound_as h clock wish change bs None = option_map (λ x. added change bs (claim clock wish x)) (claimed_port h wish bs)

unfoldable pub bound : Holder → ℕ → Wish → (Binding → Binding) → List Binding → Option Bound
bound h clock wish change bs = bound_as h clock wish change bs (find (is_of_host wish.proto wish.near) bs)
