-- The fragment of an ask: which fragment step it takes, and the ports that it goes by.
use Rattle.std.specs.Prelude.{ℕ, List, Option, Some, None}
use Rattle.octets.specs.declared.parcel.Parcel.{Parcel}
use Rattle.l4_headers.specs.declared.ports.Ports.{Ports}
use Rattle.frag_table.specs.declared.ask.FragAsk.{FragAsk}
use Rattle.frag_table.specs.declared.ask.FragAsk.TheVariants.{First as FirstAsk, Later as LaterAsk}
use Rattle.nat_model.specs.declared.ask.Part.{Part}
use Rattle.nat_model.specs.declared.ask.Part.TheVariants.{Whole, First, Later}
use Rattle.nat_model.specs.declared.ask.Far.{Far}
use Rattle.nat_model.specs.declared.ask.Far.TheVariants.{Six, Turned}
use Rattle.nat_model.specs.declared.ask.Ask.{Ask}
use Rattle.nat_model.specs.declared.ask.Ask.TheVariants.{Outward, Inward, Keep}

-- what a packet goes by once its fragment step is made: its ports, and the fragments that it frees
pub record Gathered : Type 0 where
  pub ports : Ports
  pub freed : List Parcel

-- the remote port
abbrev pub port_of : Far → ℕ
port_of (Six dst src peer port) = port
port_of (Turned dst src peer port) = port

-- the same with another remote port
abbrev pub with_port : ℕ → Far → Far
with_port x (Six dst src peer port) = Six dst src peer x
with_port x (Turned dst src peer port) = Turned dst src peer x

-- the ports of the packet that is asked about, its source's first
abbrev pub ports_of : Ask → Ports
ports_of (Outward fault proto near far flags part) = record { src = near.port; dst = far.port }
ports_of (Inward fault proto port far flags part) = record { src = port_of far; dst = port }
ports_of (Keep proto host host_port port until) = record { src = host_port; dst = port }

-- the part of a packet that is asked about
abbrev pub part_of : Ask → Part
part_of (Outward fault proto near far flags part) = part
part_of (Inward fault proto port far flags part) = part
part_of (Keep proto host host_port port until) = Whole

-- the fragment step of a part with these ports
abbrev pub frag_ask_of : Part → Ports → Option FragAsk
frag_ask_of Whole ports = None
frag_ask_of (First key) ports = Some (FirstAsk key ports)
frag_ask_of (Later key octets) ports = Some (LaterAsk key octets)
