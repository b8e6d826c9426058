-- What becomes of a packet at the relay: it is lost, or it is received as the crossings say, and leaves or is dropped with an answer.
use Rattle.std.specs.Prelude.{◌≡◌, ◌⊎◌, ℕ, List}
use Rattle.octets.specs.declared.cause.Cause.{Cause}
use Rattle.hops.specs.declared.hop.Hop.{Hop}
use Rattle.packets.specs.declared.packet4.Packet4.{Packet4}
use Rattle.packets.specs.declared.packet6.Packet6.{Packet6}
use Rattle.hops.specs.declared.exit.Exit.TheVariants.{ToAccess}
use Rattle.transit.specs.declared.passage.Passage.{Passage}
use Rattle.hops.specs.Hop.{IsCarried, lost}
use Rattle.relay_node.specs.Relay.{Relay, exit_of}
use Rattle.relay_node.specs.FromAccess.{IsRefused6}
use Rattle.relay_node.specs.FromIpv4.{IsRefused4}
use Rattle.trace_text.specs.Hops.{RelaySends, RelayReceives}

-- from the access network
abbrev pub IsRelayed6 : Relay → Packet6 → List ℕ → Hop → Type 0
IsRelayed6 relay q six hop =
    ((cause : Cause) × (hop ≡ lost cause))
    ⊎ ((passage : Passage)
    × (got : RelayReceives relay q six passage)
    × IsCarried (IsRefused6 relay six q.head) (exit_of relay.rules got.dst) passage hop)

-- from IPv4
abbrev pub IsRelayed4 : Relay → Packet4 → List ℕ → Hop → Type 0
IsRelayed4 relay p octets hop =
    ((cause : Cause) × (hop ≡ lost cause))
    ⊎ ((passage : Passage) × RelaySends relay p octets passage × IsCarried (IsRefused4 relay octets p.head) ToAccess passage hop)
