-- What an edge asks its machine about a packet that it takes from its LAN, from the access network, or from itself.
use Rattle.std.specs.Prelude.{◌≡◌, ℕ, false, if◌then◌else◌, List}
use Rattle.octets.specs.declared.address.Addr4.{Addr4}
use Rattle.octets.specs.declared.address.Addr6.{Addr6}
use Rattle.octets.specs.declared.cause.Cause.{Cause}
use Rattle.frag_table.specs.declared.key.FragKey.{FragKey}
use Rattle.nat_model.specs.declared.ask.Ask.{Ask}
use Rattle.nat_model.specs.declared.ask.Ask.TheVariants.{Outward, Inward}
use Rattle.nat_model.specs.declared.ask.Far.TheVariants.{Six, Turned as FromItself}
use Rattle.nat_model.specs.declared.ask.Part.{Part}
use Rattle.nat_model.specs.declared.ask.Part.TheVariants.{Whole as WholePart, First as FirstPart, Later as LaterPart}
use Rattle.packets.specs.declared.asked.Flow.{Flow}
use Rattle.packets.specs.declared.asked.Extent.{Extent}
use Rattle.packets.specs.declared.asked.Extent.TheVariants.{Whole, First, Later}
use Rattle.packets.specs.declared.packet4.Content4.{Content4}
use Rattle.packets.specs.declared.packet4.Content4.TheVariants.{Segment as Segment4, Later as Later4, Query as Query4, Error as Error4}
use Rattle.packets.specs.declared.packet4.Packet4.{Packet4}
use Rattle.packets.specs.declared.packet6.Content6.{Content6}
use Rattle.packets.specs.declared.packet6.Content6.TheVariants.{Segment as Segment6, Later as Later6, Query as Query6, Error as Error6}
use Rattle.packets.specs.declared.packet6.Packet6.{Packet6}
use Rattle.packets.specs.Asked.{flow_of4, flow_of6, extent_of4, extent_of6, key_of4, key_of6}
use Rattle.packets.specs.Packet4.{IsPacket4}
use Rattle.packets.specs.Packet6.{IsPacket6}
use Rattle.packets.specs.Behind4.{IsDropped4}
use Rattle.packets.specs.Behind6.{IsDropped6}
use Rattle.edge_node.specs.declared.way.Way.{Way}
use Rattle.edge_node.specs.declared.way.Way.TheVariants.{Lan, Access, Turned}

-- The flow's end at the side from which the packet comes. An error is about a packet that was sent to that end.
abbrev pub near_addr4 : Packet4 → Content4 → Addr4
near_addr4 p (Segment4 proto l4) = p.head.src
near_addr4 p (Later4 proto) = p.head.src
near_addr4 p (Query4 message row) = p.head.src
near_addr4 p (Error4 message row inner) = inner.head.dst

abbrev pub near_addr6 : Packet6 → Content6 → Addr6
near_addr6 p (Segment6 proto l4) = p.head.src
near_addr6 p (Later6 proto) = p.head.src
near_addr6 p (Query6 message row) = p.head.src
near_addr6 p (Error6 message row inner) = inner.head.dst

abbrev pub near_port : Flow → ℕ
near_port flow = if flow.fault then flow.ports.dst else flow.ports.src

-- the flow's port at the other side
abbrev pub other_port : Flow → ℕ
other_port flow = if flow.fault then flow.ports.src else flow.ports.dst

-- which part of a packet it is; a later fragment is asked about with its octets as they were taken
abbrev pub asked_part : Extent → FragKey → List ℕ → Part
asked_part Whole key octets = WholePart
asked_part First key octets = FirstPart key
asked_part Later key octets = LaterPart key octets

-- a packet from the LAN, whose side in a fragment's key is 0
abbrev pub outward : Packet4 → Flow → List ℕ → Ask
outward p flow octets = Outward flow.fault flow.proto
    (record { addr = near_addr4 p p.content; port = near_port flow })
    (record { addr = p.head.dst; port = other_port flow })
    flow.flags
    (asked_part (extent_of4 p.head) (key_of4 0 p.head) octets)

-- a packet from the access network, whose side is 1
abbrev pub inward : Packet6 → Flow → List ℕ → Ask
inward p flow octets = Inward flow.fault flow.proto (other_port flow)
    (Six p.head.dst p.head.src (near_addr6 p p.content) (near_port flow))
    flow.flags
    (asked_part (extent_of6 p.head) (key_of6 1 p.head) octets)

-- a packet that the edge turned, whose side is 2
abbrev pub inward_turned : Packet4 → Flow → List ℕ → Ask
inward_turned p flow octets = Inward flow.fault flow.proto (other_port flow)
    (FromItself p.head.dst p.head.src (near_addr4 p p.content) (near_port flow))
    flow.flags
    (asked_part (extent_of4 p.head) (key_of4 2 p.head) octets)

-- what is asked about a packet that is taken on this way
abbrev pub IsAsk : Way → List ℕ → Ask → Type 0
IsAsk Lan octets ask = (p : Packet4) × IsPacket4 p octets × (ask ≡ outward p (flow_of4 p.content) octets)
IsAsk Access octets ask = (p : Packet6) × IsPacket6 false p octets × (ask ≡ inward p (flow_of6 p.content) octets)
IsAsk Turned octets ask = (p : Packet4) × IsPacket4 p octets × (ask ≡ inward_turned p (flow_of4 p.content) octets)

-- the cause for which a packet is dropped that is taken on this way, before anything is asked
abbrev pub IsDroppedAt : Way → Cause → List ℕ → Type 0
IsDroppedAt Lan cause octets = IsDropped4 cause octets
IsDroppedAt Access cause octets = IsDropped6 false cause octets
IsDroppedAt Turned cause octets = IsDropped4 cause octets
