-- No cause of a header has an answer.
use Rattle.std.proofs.Common.{◌≡◌, refl, false, List, ℕ}
use Rattle.octets.specs.declared.cause.Cause.{Cause}
use Rattle.octets.specs.declared.cause.Cause.TheVariants.{NotIp, Truncated, BadHeader, BadHeaderSum, BadDestination, SourceRoute, UnsupportedProtocol, IcmpFragment, BadTransport, IcmpSum, IcmpKind, BadInner, NoUdpSum, NoBasicRule, WrongDestination, FragmentsFull, Spoofed, NotDefault, NoOwner, NoBinding, NoPort, TtlSpent, TooBig}
use Rattle.ip4_packet.specs.Causes.{HasCause4}
use Rattle.ip6_packet.specs.Causes.{HasCause6}
use Rattle.hops.specs.Reply.{has_notice}

pub header_silent4 : (cause : Cause) (octets : List ℕ) → HasCause4 cause octets → has_notice cause ≡ false
header_silent4 NotIp octets has = refl
header_silent4 Truncated octets has = refl
header_silent4 BadHeader octets has = refl
header_silent4 BadHeaderSum octets has = refl
header_silent4 BadDestination octets has = refl
header_silent4 SourceRoute octets has = absurd has
header_silent4 UnsupportedProtocol octets has = refl
header_silent4 IcmpFragment octets has = refl
header_silent4 BadTransport octets has = refl
header_silent4 IcmpSum octets has = refl
header_silent4 IcmpKind octets has = refl
header_silent4 BadInner octets has = refl
header_silent4 NoUdpSum octets has = refl
header_silent4 NoBasicRule octets has = refl
header_silent4 WrongDestination octets has = refl
header_silent4 FragmentsFull octets has = refl
header_silent4 Spoofed octets has = refl
header_silent4 NotDefault octets has = refl
header_silent4 NoOwner octets has = refl
header_silent4 NoBinding octets has = refl
header_silent4 NoPort octets has = refl
header_silent4 TtlSpent octets has = absurd has
header_silent4 TooBig octets has = absurd has

pub header_silent6 : (cause : Cause) (octets : List ℕ) → HasCause6 cause octets → has_notice cause ≡ false
header_silent6 NotIp octets has = refl
header_silent6 Truncated octets has = refl
header_silent6 BadHeader octets has = refl
header_silent6 BadHeaderSum octets has = refl
header_silent6 BadDestination octets has = refl
header_silent6 SourceRoute octets has = absurd has
header_silent6 UnsupportedProtocol octets has = refl
header_silent6 IcmpFragment octets has = refl
header_silent6 BadTransport octets has = refl
header_silent6 IcmpSum octets has = refl
header_silent6 IcmpKind octets has = refl
header_silent6 BadInner octets has = refl
header_silent6 NoUdpSum octets has = refl
header_silent6 NoBasicRule octets has = refl
header_silent6 WrongDestination octets has = refl
header_silent6 FragmentsFull octets has = refl
header_silent6 Spoofed octets has = refl
header_silent6 NotDefault octets has = refl
header_silent6 NoOwner octets has = refl
header_silent6 NoBinding octets has = refl
header_silent6 NoPort octets has = refl
header_silent6 TtlSpent octets has = absurd has
header_silent6 TooBig octets has = absurd has
