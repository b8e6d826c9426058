-- What a hop comes to, put together: what is sent where, and what is dropped with or without an answer; of one packet, and
-- of the fragments that it frees.
use Rattle.std.specs.Prelude.{◌≡◌, ℕ, ◌⊎◌, false, List, [], ◌∷◌, ◌++◌, map, Option, Some, None}
use Rattle.octets.specs.declared.cause.Cause.{Cause}
use Rattle.octets.specs.declared.cause.Cause.TheVariants.{TtlSpent, TooBig as IsTooBig}
use Rattle.octets.specs.declared.parcel.Parcel.{Parcel}
use Rattle.hops.specs.declared.hop.Hop.{Hop}
use Rattle.hops.specs.declared.hop.Out.{Out}
use Rattle.hops.specs.declared.hop.Out.TheVariants.{Lan, Access, Core, Turn}
use Rattle.hops.specs.declared.exit.Exit.{Exit}
use Rattle.hops.specs.declared.exit.Exit.TheVariants.{ToLan, ToAccess, ToCore, ToItself}
use Rattle.hops.specs.Reply.{has_notice}
use Rattle.packets.specs.declared.found.Found.{Found}
use Rattle.packets.specs.declared.found.Found.TheVariants.{Taken, Unreadable, Dropped}
use Rattle.packets.specs.declared.asked.Extent.{Extent}
use Rattle.packets.specs.declared.asked.Extent.TheVariants.{Later}
use Rattle.transit.specs.declared.passage.Passage.{Passage}
use Rattle.transit.specs.declared.passage.Passage.TheVariants.{Sent, Cut, Spent, TooBig}

-- a packet that leaves by an exit
abbrev pub leaving : Exit → List ℕ → Out
leaving ToLan octets = Lan octets
leaving ToAccess octets = Access octets
leaving ToCore octets = Core octets
leaving ToItself octets = Turn octets

-- nothing is sent, and nothing dropped
abbrev pub nothing : Hop
nothing = record { outs = []; drops = [] }

-- one packet is sent, or the pieces of one in their order
abbrev pub sends : Exit → List ℕ → Hop
sends exit octets = record { outs = leaving exit octets ∷ []; drops = [] }

abbrev pub sends_pieces : Exit → List Parcel → Hop
sends_pieces exit pieces = record { outs = map (λ piece. leaving exit piece.bytes) pieces; drops = [] }

-- a packet is dropped, and answered by this error where there is one
abbrev pub answers : Exit → Option (List ℕ) → List Out
answers exit None = []
answers exit (Some octets) = leaving exit octets ∷ []

abbrev pub drops : Cause → Exit → Option (List ℕ) → Hop
drops cause exit reply = record { outs = answers exit reply; drops = cause ∷ [] }

-- a packet is dropped, and nothing answers it
abbrev pub lost : Cause → Hop
lost cause = record { outs = []; drops = cause ∷ [] }

-- one after the other
abbrev pub then : Hop → Hop → Hop
then first second = record { outs = first.outs ++ second.outs; drops = first.drops ++ second.drops }

-- A packet whose header was read is dropped, and answered by what may answer it.
abbrev pub IsRefused : (Cause → Option (List ℕ) → Type 0) → Exit → Cause → Hop → Type 0
IsRefused IsReply exit cause hop = (reply : Option (List ℕ)) × IsReply cause reply × (hop ≡ drops cause exit reply)

-- A packet is dropped: it is lost where its cause has no answer, and else refused behind its header.
abbrev pub IsDroppedFor : {H : Type 0} → (H → Type 0) → (H → Cause → Hop → Type 0) → Cause → Hop → Type 0
IsDroppedFor {H} IsHeader Refused cause hop =
    ((has_notice cause ≡ false) × (hop ≡ lost cause)) ⊎ ((h : H) × IsHeader h × Refused h cause hop)

-- What becomes of a packet that is translated: it leaves by the exit, or is dropped as this says.
abbrev pub IsCarried : (Cause → Hop → Type 0) → Exit → Passage → Hop → Type 0
IsCarried Refused exit (Sent octets) hop = hop ≡ sends exit octets
IsCarried Refused exit (Cut pieces) hop = hop ≡ sends_pieces exit pieces
IsCarried Refused exit Spent hop = Refused TtlSpent hop
IsCarried Refused exit TooBig hop = Refused IsTooBig hop

-- octets that give a later fragment, and what becomes of a packet that octets give
abbrev pub IsLaterFragment : {P : Type 0} → (P → List ℕ → Type 0) → (P → Extent) → List ℕ → Type 0
IsLaterFragment {P} IsPacket extent octets = (p : P) × IsPacket p octets × (extent p ≡ Later)

abbrev pub IsOne : {P : Type 0} → (P → List ℕ → Type 0) → (P → List ℕ → Hop → Type 0) → List ℕ → Hop → Type 0
IsOne {P} IsPacket Becomes octets hop = (p : P) × IsPacket p octets × Becomes p octets hop

-- What becomes of the fragments that were freed, in their order, where the first says what octets give a later fragment, and
-- the second what becomes of one. Other octets are passed over.
abbrev pub IsFreed : (List ℕ → Type 0) → (List ℕ → Hop → Type 0) → List ℕ → Hop → Type 0
IsFreed IsLater Becomes octets hop = (IsLater octets × Becomes octets hop) ⊎ ((IsLater octets → ⊥) × (hop ≡ nothing))

abbrev pub AreFreed : (List ℕ → Type 0) → (List ℕ → Hop → Type 0) → List Parcel → Hop → Type 0
AreFreed IsLater Becomes [] hop = hop ≡ nothing
AreFreed IsLater Becomes (parcel ∷ parcels) hop =
    (one : Hop) × (others : Hop) × IsFreed IsLater Becomes parcel.bytes one
    × AreFreed IsLater Becomes parcels others
    × (hop ≡ then one others)

-- What a hop comes to where the first says what becomes of the packet itself, and the second of what it frees.
abbrev pub AreBoth : (Hop → Type 0) → (Hop → Type 0) → Hop → Type 0
AreBoth Own Others hop = (own : Hop) × (others : Hop) × Own own × Others others × (hop ≡ then own others)

-- What a hop comes to by what is found in octets: what is made of a packet, or it is dropped, without an answer where no header
-- could be read.
abbrev pub IsMade : {P H : Type 0} → (P → Hop → Type 0) → (H → Cause → Hop → Type 0) → Found P H → Hop → Type 0
IsMade Made Refused (Taken p) hop = Made p hop
IsMade Made Refused (Unreadable cause) hop = hop ≡ lost cause
IsMade Made Refused (Dropped cause h) hop = Refused h cause hop
