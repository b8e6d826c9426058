-- The tables of ICMP types, codes and pointers, row by row (tables of this project, made after RFC 7915, sections
-- 4.2, 4.3, 5.2 and 5.3). What has no row has no translation.
use Rattle.std.specs.Prelude.{ℕ, ◌&&◌, ◌==◌, nat_le, if◌then◌else◌, List, [], ◌∷◌, Option, Some, None}
use Rattle.icmp_messages.specs.declared.table.Row.{Row}
use Rattle.icmp_messages.specs.declared.table.PointerRow.{PointerRow}
use Rattle.icmp_messages.specs.declared.table.Rest.{Rest}
use Rattle.icmp_messages.specs.declared.table.Rest.TheVariants.{Query, Zero, Protocol, Mtu, Pointer}

-- a type and a code, and what they become; what becomes of the four octets behind the sum
abbrev pub row : ℕ → ℕ → ℕ → ℕ → Rest → Row
row kind code to_kind to_code rest = record { kind = kind; code = code; to_kind = to_kind; to_code = to_code; rest = rest }

-- the pointers from the first to the last, and what they become
abbrev pub places : ℕ → ℕ → ℕ → PointerRow
places first last to = record { first = first; last = last; to = to }

-- ICMPv4 to ICMPv6: echo; unreachable; its protocol, port, and too big; prohibited; time exceeded; parameter problem
abbrev pub table46 : List Row
table46 =
    row 8 0 128 0 Query
    ∷ row 0 0 129 0 Query
    ∷ row 3 0 1 0 Zero
    ∷ row 3 1 1 0 Zero
    ∷ row 3 5 1 0 Zero
    ∷ row 3 6 1 0 Zero
    ∷ row 3 7 1 0 Zero
    ∷ row 3 8 1 0 Zero
    ∷ row 3 11 1 0 Zero
    ∷ row 3 12 1 0 Zero
    ∷ row 3 2 4 1 Protocol
    ∷ row 3 3 1 4 Zero
    ∷ row 3 4 2 0 Mtu
    ∷ row 3 9 1 1 Zero
    ∷ row 3 10 1 1 Zero
    ∷ row 3 13 1 1 Zero
    ∷ row 3 15 1 1 Zero
    ∷ row 11 0 3 0 Zero
    ∷ row 11 1 3 1 Zero
    ∷ row 12 0 4 0 Pointer
    ∷ row 12 2 4 0 Pointer
    ∷ []

-- ICMPv6 to ICMPv4: echo; unreachable; prohibited; port; too big; time exceeded; parameter problem; next header
abbrev pub table64 : List Row
table64 =
    row 128 0 8 0 Query
    ∷ row 129 0 0 0 Query
    ∷ row 1 0 3 1 Zero
    ∷ row 1 2 3 1 Zero
    ∷ row 1 3 3 1 Zero
    ∷ row 1 1 3 10 Zero
    ∷ row 1 4 3 3 Zero
    ∷ row 2 0 3 4 Mtu
    ∷ row 3 0 11 0 Zero
    ∷ row 3 1 11 1 Zero
    ∷ row 4 0 12 0 Pointer
    ∷ row 4 1 3 2 Zero
    ∷ []

-- places in an IPv4 header, in octets, and in the IPv6 header
abbrev pub pointers46 : List PointerRow
pointers46 =
    places 0 0 0
    ∷ places 1 1 1
    ∷ places 2 3 4
    ∷ places 8 8 7
    ∷ places 9 9 6
    ∷ places 12 15 8
    ∷ places 16 19 24
    ∷ []

-- places in an IPv6 header, in octets, and in the IPv4 header
abbrev pub pointers64 : List PointerRow
pointers64 =
    places 0 0 0
    ∷ places 1 1 1
    ∷ places 4 5 2
    ∷ places 6 6 9
    ∷ places 7 7 8
    ∷ places 8 23 12
    ∷ places 24 39 16
    ∷ []

-- the row of a type and a code, the first that has them
abbrev pub row_of : List Row → ℕ → ℕ → Option Row
row_of [] kind code = None
row_of (r ∷ rows) kind code = if r.kind == kind && r.code == code then Some r else row_of rows kind code

-- what a pointer becomes, by the first row that has it
abbrev pub pointer_of : List PointerRow → ℕ → Option ℕ
pointer_of [] pointer = None
pointer_of (r ∷ rows) pointer =
    if nat_le r.first pointer && nat_le pointer r.last then Some r.to else pointer_of rows pointer
