-- What the translators of whole packets take, by what a node takes: a packet of TCP or UDP by its parts, and an ICMP packet
-- by its message. The packets are the same.
use Rattle.std.specs.Prelude.{◌≡◌, ◌⊎◌, Bool, List, ℕ, Some}
use Rattle.octets.specs.declared.cause.Cause.TheVariants.{IcmpKind}
use Rattle.octets.specs.declared.proto.Proto.{Proto}
use Rattle.ip4_packet.specs.declared.head.Head4.{Head4}
use Rattle.ip4_packet.specs.Grammar.{payload_of4, Is4}
use Rattle.ip6_packet.specs.declared.head.Head6.{Head6}
use Rattle.ip6_packet.specs.Grammar.{payload_of6, Is6}
use Rattle.icmp_messages.specs.declared.icmp4.Icmp4.{Icmp4}
use Rattle.icmp_messages.specs.declared.icmp6.Icmp6.{Icmp6}
use Rattle.icmp_messages.specs.declared.inner4.Inner4.{Inner4}
use Rattle.icmp_messages.specs.declared.inner6.Inner6.{Inner6}
use Rattle.icmp_messages.specs.Message.{IsIcmp4, IsIcmp6}
use Rattle.icmp_messages.specs.Inner.{IsInner4, IsInner6}
use Rattle.xlat46.specs.Whole.{Parts4}
use Rattle.xlat64.specs.Whole.{Parts6}
use Rattle.icmp_messages.specs.declared.table.Row.{Row}
use Rattle.icmp_messages.specs.declared.table.Rest.TheVariants.{Query as QueryRest}
use Rattle.icmp_messages.specs.Table.{table46, table64, row_of}
use Rattle.icmp_messages.specs.Rows.{HasNoRow46, HasNoRow64}
use Rattle.icmp_messages.specs.Extension.{embedded46, embedded64}
use Rattle.packets.specs.declared.packet4.Content4.{Content4}
use Rattle.packets.specs.declared.packet4.Content4.TheVariants.{Segment as Segment4, Later as Later4, Query as Query4, Error as Error4}
use Rattle.packets.specs.declared.packet6.Content6.{Content6}
use Rattle.packets.specs.declared.packet6.Content6.TheVariants.{Segment as Segment6, Later as Later6, Query as Query6, Error as Error6}
use Rattle.packets.specs.Behind4.{IsDropped4}
use Rattle.packets.specs.Behind6.{IsAnswered6, IsDropped6}
use Rattle.packets.specs.Packet4.{IsPacket4}
use Rattle.packets.specs.Packet6.{IsPacket6}

-- the content is one of TCP or UDP, with this protocol
abbrev pub IsOf4 : Proto → Content4 → Type 0
IsOf4 proto (Segment4 of l4) = proto ≡ of
IsOf4 proto (Later4 of) = proto ≡ of
IsOf4 proto (Query4 message row) = ⊥
IsOf4 proto (Error4 message row inner) = ⊥

abbrev pub IsOf6 : Proto → Content6 → Type 0
IsOf6 proto (Segment6 of l4) = proto ≡ of
IsOf6 proto (Later6 of) = proto ≡ of
IsOf6 proto (Query6 message row) = ⊥
IsOf6 proto (Error6 message row inner) = ⊥

-- a node takes the octets as a packet of TCP or UDP of these parts
abbrev pub TakesParts4 : Parts4 → List ℕ → Type 0
TakesParts4 parts octets =
    (content : Content4)
    × IsPacket4 (record { head = parts.head; content = content }) octets
    × (parts.payload ≡ payload_of4 parts.head octets)
    × IsOf4 parts.proto content

abbrev pub TakesParts6 : Bool → Parts6 → List ℕ → Type 0
TakesParts6 at_relay parts octets =
    (content : Content6)
    × IsPacket6 at_relay (record { head = parts.head; content = content }) octets
    × (parts.payload ≡ payload_of6 parts.head octets)
    × IsOf6 parts.proto content

-- it takes them as an ICMP packet of this header and message, or drops them because the message has no translation
abbrev pub TakesMessage4 : Head4 → Icmp4 → List ℕ → Type 0
TakesMessage4 h m octets =
    ((row : Row) × IsPacket4 (record { head = h; content = Query4 m row }) octets)
    ⊎ (((row : Row) × (inner : Inner4) × IsPacket4 (record { head = h; content = Error4 m row inner }) octets)
    ⊎ (IsDropped4 IcmpKind octets × Is4 h (payload_of4 h octets) octets × IsIcmp4 m (payload_of4 h octets)))

abbrev pub TakesMessage6 : Bool → Head6 → Icmp6 → List ℕ → Type 0
TakesMessage6 at_relay h m octets =
    ((row : Row) × IsPacket6 at_relay (record { head = h; content = Query6 m row }) octets)
    ⊎ (((row : Row) × (inner : Inner6) × IsPacket6 at_relay (record { head = h; content = Error6 m row inner }) octets)
    ⊎ (IsDropped6 at_relay IcmpKind octets × Is6 h (payload_of6 h octets) octets × IsIcmp6 h.src h.dst m (payload_of6 h octets)))

-- a message that has a translation is a query, or embeds a packet that a node asks for behind this header
abbrev pub EmbedsFor4 : Head4 → Icmp4 → Type 0
EmbedsFor4 h m =
    (row : Row)
    → row_of table46 m.kind m.code ≡ Some row
    → (HasNoRow46 m → ⊥)
    → (row.rest ≡ QueryRest) ⊎ ((inner : Inner4) × IsInner4 inner (embedded46 m) × (inner.head.src ≡ h.dst))

abbrev pub EmbedsFor6 : Bool → Head6 → Icmp6 → Type 0
EmbedsFor6 at_relay h m =
    (row : Row)
    → row_of table64 m.kind m.code ≡ Some row
    → (HasNoRow64 m → ⊥)
    → (row.rest ≡ QueryRest) ⊎ ((inner : Inner6) × IsInner6 inner (embedded64 m) × IsAnswered6 at_relay h inner)
