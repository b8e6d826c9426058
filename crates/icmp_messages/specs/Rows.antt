-- Which messages have a translation, by the tables, and what those that are no query embed.
use Rattle.std.specs.Prelude.{◌≡◌, ◌/◌, ◌^◌, ◌⊎◌, Option, Some, None}
use Rattle.icmp_messages.specs.declared.icmp4.Icmp4.{Icmp4}
use Rattle.icmp_messages.specs.declared.icmp6.Icmp6.{Icmp6}
use Rattle.icmp_messages.specs.declared.inner4.Inner4.{Inner4}
use Rattle.icmp_messages.specs.declared.inner6.Inner6.{Inner6}
use Rattle.icmp_messages.specs.declared.table.Row.{Row}
use Rattle.icmp_messages.specs.declared.table.Rest.TheVariants.{Query, Pointer}
use Rattle.icmp_messages.specs.Extension.{embedded46, embedded64}
use Rattle.icmp_messages.specs.Inner.{IsInner4, IsInner6}
use Rattle.icmp_messages.specs.Table.{table46, table64, row_of, pointers46, pointers64, pointer_of}

-- the message has no translation: no row of the table, or no row of the table of pointers
abbrev pub LacksPointer46 : Icmp4 → Option Row → Type 0
LacksPointer46 m None = Unit {0}
LacksPointer46 m (Some row) = (row.rest ≡ Pointer) × (pointer_of pointers46 (m.rest / 2 ^ 24) ≡ None)

abbrev pub HasNoRow46 : Icmp4 → Type 0
HasNoRow46 m = LacksPointer46 m (row_of table46 m.kind m.code)

-- a message of this row, that is no query, embeds a packet
abbrev pub EmbedsOne46 : Icmp4 → Option Row → Type 0
EmbedsOne46 m None = Unit {0}
EmbedsOne46 m (Some row) = (row.rest ≡ Query) ⊎ ((inner : Inner4) × IsInner4 inner (embedded46 m))

-- a message that has a translation, and is no query, embeds a packet; of one that has none nothing is asked
abbrev pub MayEmbed46 : Icmp4 → Type 0
MayEmbed46 m = (HasNoRow46 m → ⊥) → EmbedsOne46 m (row_of table46 m.kind m.code)

-- the message has no translation: no row of the table, or no row of the table of pointers
abbrev pub LacksPointer64 : Icmp6 → Option Row → Type 0
LacksPointer64 m None = Unit {0}
LacksPointer64 m (Some row) = (row.rest ≡ Pointer) × (pointer_of pointers64 m.rest ≡ None)

abbrev pub HasNoRow64 : Icmp6 → Type 0
HasNoRow64 m = LacksPointer64 m (row_of table64 m.kind m.code)

-- a message of this row, that is no query, embeds a packet
abbrev pub EmbedsOne64 : Icmp6 → Option Row → Type 0
EmbedsOne64 m None = Unit {0}
EmbedsOne64 m (Some row) = (row.rest ≡ Query) ⊎ ((inner : Inner6) × IsInner6 inner (embedded64 m))

-- a message that has a translation, and is no query, embeds a packet; of one that has none nothing is asked
abbrev pub MayEmbed64 : Icmp6 → Type 0
MayEmbed64 m = (HasNoRow64 m → ⊥) → EmbedsOne64 m (row_of table64 m.kind m.code)
