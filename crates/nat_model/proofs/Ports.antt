-- The free ports of a holder, by rank.
use Rattle.std.proofs.Common.{◌≡◌, ℕ, ◌<◌, ◌≤◌, true, false, List, Some, None, refl, arith, ⊎_elim}
use Rattle.std.proofs.lemmas.Bool.{cases_Bool, and_left}
use Rattle.octets.specs.declared.proto.Proto.{Proto}
use Rattle.port_set.specs.PortSet.{rank_of, is_claimable, claimable_count}
use Rattle.port_set.proofs.Ranks.{rank-when, rank-below, ranks-rise}
use Rattle.rule_book.specs.Holder.{Holder}
use Rattle.nat_model.specs.declared.binding.Binding.{Binding}
use Rattle.nat_model.specs.Claim.{is_free, least_below}
use Rattle.nat_model.proofs.Claims.{least-is, least-none}

-- no claimable port of a lower rank is free
abbrev pub NoneBelow : Holder → Proto → List Binding → ℕ → Type 0
NoneBelow h proto bs i = (y j : ℕ) → y < 65536 → rank_of h.offset h.psid_length h.psid y ≡ Some j → j < i → is_free h proto bs y ≡ false

-- a port isn't free unless it is claimable
pub not-free : (h : Holder) (proto : Proto) (bs : List Binding) (y : ℕ) → ((j : ℕ) → rank_of h.offset h.psid_length h.psid y ≡ Some j → is_free h proto bs y ≡ false) → is_free h proto bs y ≡ false
not-free h proto bs y ranked =
    ⊎_elim
    (λ (yes : is_claimable h.offset h.psid_length h.psid y ≡ true). ranked _ (rank-when h.offset h.psid_length h.psid y _ yes refl))
    (λ (no : is_claimable h.offset h.psid_length h.psid y ≡ false). and_left _ _ no)
    (cases_Bool (is_claimable h.offset h.psid_length h.psid y))

pub free-least : (h : Holder) (proto : Proto) (bs : List Binding) (x i : ℕ) → x < 65536 → rank_of h.offset h.psid_length h.psid x ≡ Some i → is_free h proto bs x ≡ true → NoneBelow h proto bs i → least_below (is_free h proto bs) 65536 ≡ Some x
free-least h proto bs x i small rank free below =
    least-is (is_free h proto bs) 65536 x small free
    (λ y lt. not-free h proto bs y (λ j r. below y j (omega arith) r (ranks-rise h.offset h.psid_length h.psid y x j i r rank lt)))

pub free-none : (h : Holder) (proto : Proto) (bs : List Binding) (i : ℕ) → claimable_count h.offset h.psid_length h.psid ≤ i → NoneBelow h proto bs i → least_below (is_free h proto bs) 65536 ≡ None
free-none h proto bs i all below =
    least-none (is_free h proto bs) 65536
    (λ y lt. not-free h proto bs y (λ j r. let b = rank-below h.offset h.psid_length h.psid y j lt r in below y j lt r (omega (arith, b, all))))
