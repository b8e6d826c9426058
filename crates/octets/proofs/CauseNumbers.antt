-- The numbers of the causes.
use Rattle.std.proofs.Common.{◌<◌, arith}
use Rattle.octets.specs.declared.cause.Cause.{Cause}
use Rattle.octets.specs.declared.cause.Cause.TheVariants.{NotIp, Truncated, BadHeader, BadHeaderSum, BadDestination, SourceRoute, UnsupportedProtocol, IcmpFragment, BadTransport, IcmpSum, IcmpKind, BadInner, NoUdpSum, NoBasicRule, WrongDestination, FragmentsFull, Spoofed, NotDefault, NoOwner, NoBinding, NoPort, TtlSpent, TooBig}
use Rattle.octets.specs.Cause.{number_of}

-- there is no number above that of the last
pub below : (c : Cause) → number_of c < 24
below NotIp = omega arith
below Truncated = omega arith
below BadHeader = omega arith
below BadHeaderSum = omega arith
below BadDestination = omega arith
below SourceRoute = omega arith
below UnsupportedProtocol = omega arith
below IcmpFragment = omega arith
below BadTransport = omega arith
below IcmpSum = omega arith
below IcmpKind = omega arith
below BadInner = omega arith
below NoUdpSum = omega arith
below NoBasicRule = omega arith
below WrongDestination = omega arith
below FragmentsFull = omega arith
below Spoofed = omega arith
below NotDefault = omega arith
below NoOwner = omega arith
below NoBinding = omega arith
below NoPort = omega arith
below TtlSpent = omega arith
below TooBig = omega arith
