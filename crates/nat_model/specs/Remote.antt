-- Who is at the other end: the IPv4 addresses behind the source and the peer of an inward packet, and the way to
-- the far end of an outward one (RFC 7599, sections 5 and 8).
use Rattle.std.specs.Prelude.{ℕ, ◌==◌, ◌&&◌, if◌then◌else◌, Bool, List, unwrap_or, Result, Ok, Err}
use Rattle.octets.specs.declared.address.Addr4.{Addr4}
use Rattle.octets.specs.declared.parcel.Parcel.{Parcel}
use Rattle.octets.specs.declared.proto.Proto.{Proto}
use Rattle.octets.specs.declared.proto.Proto.TheVariants.{Tcp, Udp, Icmp}
use Rattle.octets.specs.declared.cause.Cause.{Cause}
use Rattle.octets.specs.declared.cause.Cause.TheVariants.{Spoofed, NotDefault}
use Rattle.port_set.specs.PortSet.{in_set}
use Rattle.map_rules.specs.Embedding.{embedded}
use Rattle.rule_book.specs.declared.view.FarOf.{FarOf}
use Rattle.rule_book.specs.declared.view.FarOf.TheVariants.{Addr as FarAddr, Spoofed as FarSpoofed, NotDefault as FarNotDefault}
use Rattle.rule_book.specs.Holder.{Holder}
use Rattle.rule_book.specs.Owner.{forward_of}
use Rattle.rule_book.specs.Far.{far_of}
use Rattle.nat_model.specs.declared.answer.Answer.{Answer}
use Rattle.nat_model.specs.declared.answer.Answer.TheVariants.{Out, Turn}
use Rattle.nat_model.specs.declared.ask.End4.{End4}
use Rattle.nat_model.specs.declared.ask.Far.{Far}
use Rattle.nat_model.specs.declared.ask.Far.TheVariants.{Six, Turned}
use Rattle.nat_model.specs.State.{Generation}

-- the IPv4 addresses from which an inward packet comes, and with which its flow is
pub record Remote : Type 0 where
  pub from : Addr4
  pub peer : Addr4

-- an address that was looked for, or the cause for which there is none
abbrev pub found_behind : FarOf → Result Addr4 Cause
found_behind (FarAddr addr) = Ok addr
found_behind FarSpoofed = Err Spoofed
found_behind FarNotDefault = Err NotDefault

-- the IPv4 address behind an IPv6 address and a port
unfoldable pub behind : Generation → ℕ → ℕ → Result Addr4 Cause
behind book s port = found_behind (far_of book.rules book.dmr s port)

-- the source's address and then the peer's, each with the remote port
abbrev pub both : Result Addr4 Cause → Result Addr4 Cause → Result Remote Cause
both (Err cause) peer = Err cause
both (Ok from) (Err cause) = Err cause
both (Ok from) (Ok peer) = Ok (record { from = from; peer = peer })

unfoldable pub remote : Generation → Far → ℕ → Result Remote Cause
remote book (Turned dst src peer port) x = Ok (record { from = src; peer = peer })
remote book (Six dst src peer port) x = both (behind book src.0 x) (behind book peer.0 x)

-- the far port of an outward packet: for ICMP the identifier, which the edge replaces
abbrev pub far_port : Proto → ℕ → ℕ → ℕ
far_port Tcp port outside = port
far_port Udp port outside = port
far_port Icmp port outside = outside

-- where an IPv4 address and port are reached over IPv6: by a forwarding rule, or under the default mapping rule
abbrev pub reached : Generation → ℕ → ℕ → ℕ
reached book addr port = unwrap_or (forward_of book.rules addr port) (embedded book.dmr.prefix.bits book.dmr.prefix.len addr)

-- the far end is the edge itself
abbrev pub is_own : Holder → ℕ → ℕ → Bool
is_own h addr port = (addr == h.addr) && in_set h.offset h.psid_length h.psid port

-- the answer to an outward packet whose binding has this outside port, with this far address and far port
unfoldable pub sent : Holder → Generation → ℕ → End4 → List Parcel → Answer
sent h book outside far freed =
    if is_own h far.addr.0 far.port then Turn (record { 0 = h.addr }) outside freed
    else Out (record { 0 = h.addr }) outside (record { 0 = h.own6 }) (record { 0 = reached book far.addr.0 far.port }) freed
