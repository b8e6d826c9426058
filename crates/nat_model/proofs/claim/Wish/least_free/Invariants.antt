use Rattle.std.proofs.Common.{◌≡◌, ℕ, ◌<◌, false, Some}
use Rattle.port_set.specs.PortSet.{rank_of}
use Rattle.rule_book.specs.Holder.{holder_in}
use Rattle.nat_model.specs.Claim.{is_free}
use Rattle.nat_model.proofs.claim.Wish.least_free.Given as goal

-- no claimable port of a lower rank is free
abbrev pub invariant-loop-i : goal.invariant-loop-i
invariant-loop-i l =
    (y j : ℕ) → y < 65536 → rank_of l.edge.ports.a l.edge.ports.k l.edge.ports.psid y ≡ Some j → j < l.i → is_free (holder_in l.edge) l.self.proto l.bindings y ≡ false
