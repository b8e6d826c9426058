-- What an edge sends: from the access network only to its LAN, and ICMP errors back where the packet is none; and what it turned
-- to its LAN alone.
use Rattle.std.proofs.Common.{◌≡◌, ℕ, ◌⊎◌, inl, inr, Bool, true, false, List, [], Option, Some, None, subst}
use Rattle.octets.specs.declared.cause.Cause.{Cause}
use Rattle.octets.specs.declared.parcel.Parcel.{Parcel}
use Rattle.octets.proofs.Numerals.{either}
use Rattle.nat_model.specs.declared.answer.Answer.{Answer}
use Rattle.nat_model.specs.declared.answer.Answer.TheVariants.{Out as LetOut, Turn as TurnedBack, In as LetIn, Kept, Held, Refused}
use Rattle.hops.specs.declared.exit.Exit.TheVariants.{ToLan, ToAccess}
use Rattle.hops.specs.declared.hop.Hop.{Hop}
use Rattle.hops.specs.declared.hop.Out.{Out}
use Rattle.hops.specs.declared.hop.Out.TheVariants.{Lan as OnLan, Access as OnAccess, Core as IntoCore, Turn as ToTurn}
use Rattle.hops.specs.Hop.{nothing, sends, AreFreed}
use Rattle.hops.specs.Reply.{IsReply6}
use Rattle.turned_packets.specs.Turned.{turned_in}
use Rattle.edge_node.specs.declared.way.Node.{Node}
use Rattle.edge_node.specs.declared.way.Way.TheVariants.{Access, Turned}
use Rattle.edge_node.specs.Hop.{access_answering, Drops, Becomes, Own, IsLaterAt}
use Rattle.journeys.specs.Rank.{is_fault6}
use Rattle.journeys.proofs.Replies.{reply_fault6, no_reply6}
use Rattle.journeys.proofs.Outs.{Each, each_is, each_lost, each_refused, each_carried, each_freed, each_more}

-- to the LAN, or an ICMP error back where the packet is none
abbrev pub IsFromAccess : Bool → Out → Type 0
IsFromAccess fault (OnLan octets) = Unit {0}
IsFromAccess fault (OnAccess octets) = (fault ≡ false) × (is_fault6 octets ≡ true)
IsFromAccess fault (IntoCore octets) = ⊥
IsFromAccess fault (ToTurn octets) = ⊥

abbrev pub IsFromItself : Out → Type 0
IsFromItself (OnLan octets) = Unit {0}
IsFromItself (OnAccess octets) = ⊥
IsFromItself (IntoCore octets) = ⊥
IsFromItself (ToTurn octets) = ⊥

drops_outs : (node : Node) (octets : List ℕ) (cause : Cause) (hop : Hop) → Drops node Access octets cause hop → Each (IsFromAccess (is_fault6 octets)) hop.outs
drops_outs node octets cause hop (inl unanswered) = each_lost (IsFromAccess (is_fault6 octets)) cause hop unanswered.1
drops_outs node octets cause hop (inr (h, here, refused)) =
    each_refused (IsFromAccess (is_fault6 octets)) (IsReply6 (access_answering node h) h octets) ToAccess cause hop back refused
  where
    none : (xs : List ℕ) → ◌≡◌ {A = Option (List ℕ)} (Some xs) None → ⊥
    none xs e = absurd (cc)

    back : (xs : List ℕ) → IsReply6 (access_answering node h) h octets cause (Some xs) → (is_fault6 octets ≡ false) × (is_fault6 xs ≡ true)
    back xs is = (
      elim (either (is_fault6 octets)) [
        | inl fault ↦ absurd (none xs (no_reply6 (access_answering node h) h octets cause (Some xs) here fault is))
        | inr other ↦ other
      ],
      reply_fault6 (access_answering node h) h octets cause xs is,
    )

becomes_outs : (node : Node) (answer : Answer) (octets : List ℕ) (hop : Hop) → Becomes node Access answer octets hop → Each (IsFromAccess (is_fault6 octets)) hop.outs
becomes_outs node (LetOut from port src6 dst6 freed) octets hop is = absurd is.2
becomes_outs node (TurnedBack from port freed) octets hop is = absurd is.2
becomes_outs node (LetIn to port from peer freed) octets hop is =
    each_carried (IsFromAccess (is_fault6 octets)) (Drops node Access octets) ToLan is.2.0 hop (λ cause dropped. drops_outs node octets cause hop dropped) (λ xs leaves. tt) is.2.2
becomes_outs node (Kept port until) octets hop is = absurd is.2
becomes_outs node Held octets hop is = each_is (IsFromAccess (is_fault6 octets)) hop nothing is.2 tt
becomes_outs node (Refused cause freed) octets hop is = drops_outs node octets cause hop is.2

more : (fault : Bool) (octets : List ℕ) → fault ≡ false → (out : Out) → IsFromAccess (is_fault6 octets) out → IsFromAccess fault out
more fault octets none (OnLan xs) is = tt
more fault octets none (OnAccess xs) is = (none, is.1)
more fault octets none (IntoCore xs) is = is
more fault octets none (ToTurn xs) is = is

-- the packet's own part, and what it frees, where that is none to an ICMP error
pub own_from_access : (node : Node) (answer : Answer) (octets : List ℕ) (own : Hop) → Own node Access answer octets own → Each (IsFromAccess (is_fault6 octets)) own.outs
own_from_access node answer octets own (inl becomes) = becomes_outs node answer octets own becomes
own_from_access node answer octets own (inr (cause, dropped, refused, drop)) = drops_outs node octets cause own drop

pub freed_from_access : (node : Node) (answer : Answer) (octets : List ℕ) (parcels : List Parcel) (others : Hop) → (is_fault6 octets ≡ true → parcels ≡ [])
    → AreFreed (IsLaterAt Access) (Becomes node Access answer) parcels others → Each (IsFromAccess (is_fault6 octets)) others.outs
freed_from_access node answer octets parcels others frees are = by (either (is_fault6 octets))
  where
    by : (is_fault6 octets ≡ true) ⊎ (is_fault6 octets ≡ false) → Each (IsFromAccess (is_fault6 octets)) others.outs
    by (inl fault) =
        each_is (IsFromAccess (is_fault6 octets)) others nothing
        (subst (λ ps. AreFreed (IsLaterAt Access) (Becomes node Access answer) ps others) (frees fault) are) tt
    by (inr none) =
        each_freed (IsFromAccess (is_fault6 octets)) (IsLaterAt Access) (Becomes node Access answer) parcels others
        (λ xs one becomes. each_more (IsFromAccess (is_fault6 xs)) (IsFromAccess (is_fault6 octets)) one.outs (more (is_fault6 octets) xs none)
        (becomes_outs node answer xs one becomes)) are

turned_outs : (node : Node) (answer : Answer) (octets : List ℕ) (hop : Hop) → Becomes node Turned answer octets hop → Each IsFromItself hop.outs
turned_outs node (LetOut from port src6 dst6 freed) octets hop is = absurd is.2
turned_outs node (TurnedBack from port freed) octets hop is = absurd is.2
turned_outs node (LetIn to port from peer freed) octets hop is = each_is IsFromItself hop (sends ToLan (turned_in to port is.0 octets)) is.2 (tt, tt)
turned_outs node (Kept port until) octets hop is = absurd is.2
turned_outs node Held octets hop is = each_is IsFromItself hop nothing is.2 tt
turned_outs node (Refused cause freed) octets hop is = each_lost IsFromItself cause hop is.2

pub own_from_itself : (node : Node) (answer : Answer) (octets : List ℕ) (own : Hop) → Own node Turned answer octets own → Each IsFromItself own.outs
own_from_itself node answer octets own (inl becomes) = turned_outs node answer octets own becomes
own_from_itself node answer octets own (inr (cause, dropped, refused, drop)) = each_lost IsFromItself cause own drop

pub freed_from_itself : (node : Node) (answer : Answer) (parcels : List Parcel) (others : Hop) → AreFreed (IsLaterAt Turned) (Becomes node Turned answer) parcels others
    → Each IsFromItself others.outs
freed_from_itself node answer parcels others are =
    each_freed IsFromItself (IsLaterAt Turned) (Becomes node Turned answer) parcels others (λ xs one becomes. turned_outs node answer xs one becomes) are
