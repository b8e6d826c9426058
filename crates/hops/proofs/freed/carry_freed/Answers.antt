use Rattle.std.proofs.Common.{◌≡◌, ◌∙◌, sym, refl, inr, ⊎_elim}
use Rattle.hops.specs.Hop.{IsLaterFragment, IsOne, IsFreed}
use Rattle.packets.specs.declared.found.Found.TheVariants.{Taken}
use Rattle.hops.proofs.Gained.{unmoved}
use Rattle.hops.proofs.Later.{no_later, whole, first, unreadable, dropped}
use Rattle.hops.proofs.freed.carry_freed.Goals as goal

pub returns-in-Taken : goal.returns-in-Taken
returns-in-Taken g c =
    let octets = c.args.octets.now in
    let found = c.in_ok-packet.field-0 in
    let packet = c.in-Taken.packet in
    let extent = g.S.Side.extent_of packet in
    let told = ⊎_elim (λ e. whole extent (sym c.extent.ensures ∙ e)) (λ e. first extent (sym c.extent.ensures ∙ e)) c.in-Whole.is in
    unmoved (IsFreed (IsLaterFragment g.S.Side.IsPacket g.S.Side.extent_of) (IsOne g.S.Side.IsPacket (g.C.Carries.Becomes c.args.carrier.now)) octets) c.args.hop.now
    (inr (no_later g.S.Side.IsPacket g.S.Side.extent_of octets found packet (λ p is. g.met.S.Side.only octets found p c.in_ok-packet.ensures is) c.in-Taken.is told, refl))

pub returns : goal.returns
returns g c =
    let octets = c.args.octets.now in
    let found = c.in_ok-packet.field-0 in
    let only : (p : g.row.S-Packet.Denot) → g.S.Side.IsPacket p octets → found ≡ Taken p = λ p is. g.met.S.Side.only octets found p c.in_ok-packet.ensures is in
    let IsPacket = g.S.Side.IsPacket in
    let none = ⊎_elim
    (λ e. unreadable IsPacket g.S.Side.extent_of octets found e.0 only e.1)
    (λ e. dropped IsPacket g.S.Side.extent_of octets found e.0 e.1 only e.2) c.in-Unreadable.is in
    unmoved (IsFreed (IsLaterFragment IsPacket g.S.Side.extent_of) (IsOne IsPacket (g.C.Carries.Becomes c.args.carrier.now)) octets) c.args.hop.now (inr (none, refl))
