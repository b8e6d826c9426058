-- The causes in the order in which they are tested.
use Rattle.std.specs.Prelude.{ℕ, List, [], ◌∷◌, ◌-◌, ◌<◌, ◌==◌, if◌then◌else◌, Option, None, slice_get}
use Rattle.octets.specs.declared.cause.Cause.{Cause}
use Rattle.octets.specs.declared.cause.Cause.TheVariants.{NotIp, Truncated, BadHeader, BadHeaderSum, BadDestination, SourceRoute, UnsupportedProtocol, IcmpFragment, BadTransport, IcmpSum, IcmpKind, BadInner, NoUdpSum, NoBasicRule, WrongDestination, FragmentsFull, Spoofed, NotDefault, NoOwner, NoBinding, NoPort, TtlSpent, TooBig}

-- a cause's number
abbrev pub number_of : Cause → ℕ
number_of NotIp = 1
number_of Truncated = 2
number_of BadHeader = 3
number_of BadHeaderSum = 4
number_of BadDestination = 5
number_of SourceRoute = 6
number_of UnsupportedProtocol = 7
number_of IcmpFragment = 8
number_of BadTransport = 9
number_of IcmpSum = 10
number_of IcmpKind = 11
number_of BadInner = 12
number_of NoUdpSum = 13
number_of NoBasicRule = 14
number_of WrongDestination = 15
number_of FragmentsFull = 16
number_of Spoofed = 17
number_of NotDefault = 18
number_of NoOwner = 19
number_of NoBinding = 20
number_of NoPort = 21
number_of TtlSpent = 22
number_of TooBig = 23

-- all causes, by rising number
abbrev pub causes : List Cause
causes =
    NotIp ∷ Truncated ∷ BadHeader ∷ BadHeaderSum ∷ BadDestination ∷ SourceRoute ∷ UnsupportedProtocol ∷ IcmpFragment
    ∷ BadTransport ∷ IcmpSum ∷ IcmpKind ∷ BadInner ∷ NoUdpSum
    ∷ NoBasicRule ∷ WrongDestination ∷ FragmentsFull ∷ Spoofed ∷ NotDefault ∷ NoOwner ∷ NoBinding ∷ NoPort
    ∷ TtlSpent ∷ TooBig ∷ []

-- the cause with this number
abbrev pub cause_of : ℕ → Option Cause
cause_of n = if n == 0 then None else slice_get causes (n - 1)

-- of what holds by cause, nothing
abbrev pub HoldsNone : (Cause → Type 0) → Type 0
HoldsNone Holds = (c : Cause) → ¬ Holds c

-- of what holds by cause, this one and none with a lesser number
abbrev pub IsLeast : (Cause → Type 0) → Cause → Type 0
IsLeast Holds cause = Holds cause × ((lesser : Cause) → number_of lesser < number_of cause → ¬ Holds lesser)
