use Rattle.std.proofs.Common.{◌≡◌, sym, subst}
use Rattle.ip4_packet.specs.declared.head.Head4.{Head4}
use Rattle.ip4_packet.specs.Grammar.{payload_of4}
use Rattle.icmp_messages.specs.declared.icmp4.Icmp4.{Icmp4}
use Rattle.icmp_messages.specs.Message.{IsIcmp4}
use Rattle.icmp_xlat.specs.Icmp46.{IsAnswer46}
use Rattle.icmp_messages.specs.Rows.{MayEmbed46}
use Rattle.icmp_xlat.proofs.to_icmp6.icmp46.Goals as goal

pub answer46-requires-clause-embeds : goal.answer46-requires-clause-embeds
answer46-requires-clause-embeds c =
    let given = c.requires.is in
    let is_head : c.requires.head ≡ c.accepted-head.result = c.accepted-head.ensures.only c.requires.head (payload_of4 c.requires.head c.args.packet.now) given.is in
    let there : IsIcmp4 c.requires.message c.payload.result.now = rw (c.payload.ensures, ← is_head) given.message in
    let is_message : c.in_ok-message.message ≡ c.requires.message = c.in_ok-message.ensures.only c.requires.message there in
    subst (λ (m : Icmp4). MayEmbed46 m) (sym is_message) c.requires.embeds

pub returns : goal.returns
returns c = λ head m given.
    let is_head : head ≡ c.accepted-head.result = c.accepted-head.ensures.only head (payload_of4 head c.args.packet.now) given.is in
    let there : IsIcmp4 m c.payload.result.now = rw (c.payload.ensures, ← is_head) given.message in
    let is_message : c.in_ok-message.message ≡ m = c.in_ok-message.ensures.only m there in
    subst (λ (h : Head4). IsAnswer46 c.args.mtus h m c.args.ends.now c.answer46.result) (sym is_head)
    (subst (λ (x : Icmp4). IsAnswer46 c.args.mtus c.accepted-head.result x c.args.ends.now c.answer46.result) is_message c.answer46.ensures)
