-- What holds of all packets that a hop sends, by the parts that it is put together of.
use Rattle.std.proofs.Common.{◌≡◌, refl, sym, ℕ, suc, inl, inr, List, [], ◌∷◌, Option, Some, None, subst}
use Rattle.std.specs.Prelude.{◌++◌, map, slice_get}
use Rattle.octets.specs.declared.cause.Cause.{Cause}
use Rattle.octets.specs.declared.cause.Cause.TheVariants.{TtlSpent, TooBig as IsTooBig}
use Rattle.octets.specs.declared.parcel.Parcel.{Parcel}
use Rattle.hops.specs.declared.exit.Exit.{Exit}
use Rattle.hops.specs.declared.hop.Hop.{Hop}
use Rattle.hops.specs.declared.hop.Out.{Out}
use Rattle.hops.specs.Hop.{nothing, sends, sends_pieces, lost, drops, answers, then, leaving, IsRefused, IsCarried, IsFreed, AreFreed}
use Rattle.transit.specs.declared.passage.Passage.{Passage}
use Rattle.transit.specs.declared.passage.Passage.TheVariants.{Sent, Cut, Spent, TooBig}

-- each of these is so
abbrev pub Each : (Out → Type 0) → List Out → Type 0
Each P [] = Unit {0}
Each P (out ∷ outs) = P out × Each P outs

-- the octets of a packet that passes, whole or one of its pieces
abbrev pub Leaves : Passage → List ℕ → Type 0
Leaves (Sent sent) octets = octets ≡ sent
Leaves (Cut pieces) octets = (at : ℕ) × (piece : Parcel) × (slice_get pieces at ≡ Some piece) × (octets ≡ piece.bytes)
Leaves Spent octets = ⊥
Leaves TooBig octets = ⊥

module _ (P : Out → Type 0) where
  pub each_both : (xs ys : List Out) → Each P xs → Each P ys → Each P (xs ++ ys)
  each_both [] ys left right = right
  each_both (x ∷ xs) ys left right = (left.0, each_both xs ys left.1 right)

  -- of a hop that is this one
  pub each_is : (hop this : Hop) → hop ≡ this → Each P this.outs → Each P hop.outs
  each_is hop this is each = subst (λ (h : Hop). Each P h.outs) (sym is) each

  each_reply : (exit : Exit) (reply : Option (List ℕ)) → ((octets : List ℕ) → reply ≡ Some octets → P (leaving exit octets)) → Each P (answers exit reply)
  each_reply exit None so = tt
  each_reply exit (Some octets) so = (so octets refl, tt)

  each_piece : (exit : Exit) (pieces : List Parcel) → ((at : ℕ) (piece : Parcel) → slice_get pieces at ≡ Some piece → P (leaving exit piece.bytes))
      → Each P (map (λ piece. leaving exit piece.bytes) pieces)
  each_piece exit [] so = tt
  each_piece exit (piece ∷ pieces) so = (so 0 piece refl, each_piece exit pieces (λ at. so (suc at)))

  pub each_lost : (cause : Cause) (hop : Hop) → hop ≡ lost cause → Each P hop.outs
  each_lost cause hop is = each_is hop (lost cause) is tt

  pub each_refused : (IsReply : Cause → Option (List ℕ) → Type 0) (exit : Exit) (cause : Cause) (hop : Hop)
      → ((octets : List ℕ) → IsReply cause (Some octets) → P (leaving exit octets)) → IsRefused IsReply exit cause hop → Each P hop.outs
  each_refused IsReply exit cause hop so (reply, is, hop_is) =
      each_is hop (drops cause exit reply) hop_is
      (each_reply exit reply (λ octets some. so octets (subst (IsReply cause) some is)))

  pub each_carried : (Refused : Cause → Hop → Type 0) (exit : Exit) (passage : Passage) (hop : Hop)
      → ((cause : Cause) → Refused cause hop → Each P hop.outs) → ((octets : List ℕ) → Leaves passage octets → P (leaving exit octets))
      → IsCarried Refused exit passage hop → Each P hop.outs
  each_carried Refused exit (Sent octets) hop refused so is = each_is hop (sends exit octets) is (so octets refl, tt)
  each_carried Refused exit (Cut pieces) hop refused so is =
      each_is hop (sends_pieces exit pieces) is (each_piece exit pieces (λ at piece found. so piece.bytes (at, piece, found, refl)))
  each_carried Refused exit Spent hop refused so is = refused TtlSpent is
  each_carried Refused exit TooBig hop refused so is = refused IsTooBig is

  pub each_freed : (IsLater : List ℕ → Type 0) (Becomes : List ℕ → Hop → Type 0) (parcels : List Parcel) (hop : Hop)
      → ((octets : List ℕ) (one : Hop) → Becomes octets one → Each P one.outs) → AreFreed IsLater Becomes parcels hop → Each P hop.outs
  each_freed IsLater Becomes [] hop so is = each_is hop nothing is tt
  each_freed IsLater Becomes (parcel ∷ parcels) hop so (one, others, first, rest, is) =
      each_is hop (then one others) is (each_both one.outs others.outs (by first) (each_freed IsLater Becomes parcels others so rest))
    where
      by : IsFreed IsLater Becomes parcel.bytes one → Each P one.outs
      by (inl later) = so parcel.bytes one later.1
      by (inr over) = each_is one nothing over.1 tt

-- one after the other, as far as it says more of less
pub each_more : (P Q : Out → Type 0) (outs : List Out) → ((out : Out) → P out → Q out) → Each P outs → Each Q outs
each_more P Q [] more each = tt
each_more P Q (out ∷ outs) more each = (more out each.0, each_more P Q outs more each.1)
