-- The premises of the laws of hops, met: hops of both nodes that send on the packets of the instances of crossings, with what they free.
-- What stands at a place in what a hop sends is read off it.
use Rattle.std.proofs.Common.{◌≡◌, ℕ, true, false, List, [], ◌∷◌, Option, Some, None, inl, refl, sym, ap, ◌∙◌, subst, arith}
use Rattle.octets.specs.declared.address.Addr4.{Addr4}
use Rattle.octets.specs.declared.address.Addr6.{Addr6}
use Rattle.octets.specs.declared.proto.Proto.{Proto}
use Rattle.octets.specs.declared.parcel.Parcel.{Parcel}
use Rattle.ip6_packet.specs.Grammar.{payload_of6}
use Rattle.l4_headers.specs.declared.ports.Ports.{Ports}
use Rattle.frag_table.specs.declared.ask.FragAsk.{FragAsk}
use Rattle.frag_table.specs.declared.answer.FragAnswer.{FragAnswer}
use Rattle.frag_table.specs.declared.answer.FragAnswer.TheVariants.{Released, Known}
use Rattle.nat_model.specs.declared.answer.Answer.TheVariants.{Out, In}
use Rattle.map_rules.specs.Embedding.{embedded}
use Rattle.hops.specs.declared.hop.Hop.{Hop}
use Rattle.packets.specs.declared.found.Found.TheVariants.{Taken}
use Rattle.packets.specs.declared.asked.Extent.TheVariants.{Later as LastPart}
use Rattle.packets.specs.declared.packet4.Packet4.{Packet4}
use Rattle.packets.specs.declared.packet4.Content4.TheVariants.{Later as Later4}
use Rattle.packets.specs.declared.packet6.Packet6.{Packet6}
use Rattle.packets.specs.Asked.{flow_of4, flow_of6, extent_of4, extent_of6, key_of4, key_of6}
use Rattle.packets.specs.Packet4.{IsPacket4}
use Rattle.packets.specs.Packet6.{IsPacket6}
use Rattle.packets.proofs.Taken4.{same_packet4, never_both4}
use Rattle.packets.proofs.Taken6.{same_packet6, never_both6}
use Rattle.hops.specs.declared.exit.Exit.TheVariants.{ToLan, ToAccess, ToCore}
use Rattle.transit.specs.declared.passage.Passage.{Passage}
use Rattle.transit.specs.declared.passage.Passage.TheVariants.{Sent, Cut}
use Rattle.transit.specs.Passage64.{IsPassage64}
use Rattle.hops.specs.Hop.{nothing, sends, sends_pieces, then, IsCarried}
use Rattle.edge_node.specs.declared.way.EdgeParams.{EdgeParams}
use Rattle.edge_node.specs.declared.way.Way.TheVariants.{Lan, Access}
use Rattle.edge_node.specs.Hop.{Drops, IsEdgeHop}
use Rattle.edge_node.specs.declared.way.Node.{Node}
use Rattle.relay_node.specs.Asked.{asked, from_access, from_ipv4, MayBeTold, IsTold}
use Rattle.relay_node.specs.Relay.{source_addr, source_port, extracted}
use Rattle.relay_node.specs.FromAccess.{ends64, IsPassed6, Becomes6, IsSent6}
use Rattle.relay_node.specs.FromIpv4.{ends46, IsPassed4, Becomes4, IsSent4, IsRefused4}
use Rattle.relay_node.specs.Hop.{IsRelayHop}
use Rattle.trace_text.specs.Hops.{EdgeSends, EdgeReceives, RelaySends}
use Rattle.trace_text.proofs.SmallDomain.{mtus, shared, home6, server6, host, server, router, relay, home_is_the_owner, home_is_a_source, server_is_a_destination}
use Rattle.trace_text.proofs.InstancesToRelay as out
use Rattle.trace_text.proofs.InstancesFromRelay as back
use Rattle.trace_text.proofs.InstancesInPieces as cut

-- an edge in the hop of record 7
abbrev params : EdgeParams
params = record { lan = record { 0 = 0xc0a8_0101 }; mtus = mtus }

abbrev node : Node
node = record { params = params; id = 7 }

-- ---- a packet of an edge's LAN goes out, alone, or with the later fragment that it frees

goes : (from : Addr4) (port : ℕ) (src6 dst6 : Addr6) (p : Packet4) (octets : List ℕ) (passage : Passage) (hop : Hop)
    → IsPacket4 p octets
    → EdgeSends mtus (Out from port src6 dst6 []) p octets passage
    → IsCarried (Drops node Lan octets) ToAccess passage hop
    → IsEdgeHop node Lan (Out from port src6 dst6 []) octets (then hop nothing)
goes from port src6 dst6 p octets passage hop is sent carried = (hop, nothing, inl (p, is, (passage, sent, carried)), refl, refl)

goes_with : (from : Addr4) (port : ℕ) (src6 dst6 : Addr6) (p q : Packet4) (octets other six others : List ℕ) (place : ℕ)
    → IsPacket4 p octets
    → IsPacket4 q other
    → extent_of4 q.head ≡ LastPart
    → EdgeSends mtus (Out from port src6 dst6 []) p octets (Sent six)
    → EdgeSends mtus (Out from port src6 dst6 []) q other (Sent others)
    → IsEdgeHop node Lan (Out from port src6 dst6 (record { place = place; bytes = other } ∷ [])) octets
    (then (sends ToAccess six) (then (sends ToAccess others) nothing))
goes_with from port src6 dst6 p q octets other six others place is also later sent freed = (
  sends ToAccess six,
  then (sends ToAccess others) nothing,
  inl (p, is, (Sent six, sent, refl)),
  (sends ToAccess others, nothing, inl ((q, also, later), (q, also, (Sent others, freed, refl))), refl, refl),
  refl,
)

pub an_edge_sends_a_whole_packet : IsEdgeHop node Lan (out.goes_out []) out.whole.octets (sends ToAccess out.whole.six)
an_edge_sends_a_whole_packet =
    goes shared 1232 home6 server6 out.whole.taken out.whole.octets out.whole.passage (sends ToAccess out.whole.six)
    out.a_whole_packet.taken.is out.a_whole_packet.sent refl

pub an_edge_sends_a_first_fragment_and_the_one_that_waited : IsEdgeHop node Lan (out.goes_out (out.parcel ∷ [])) out.first.octets
    (then (sends ToAccess out.first.six) (then (sends ToAccess out.later.six) nothing))
an_edge_sends_a_first_fragment_and_the_one_that_waited =
    goes_with shared 1232 home6 server6 out.first.taken out.later.taken out.first.octets out.later.octets out.first.six out.later.six 2
    out.a_first_fragment.taken.is out.a_later_fragment_that_is_freed.taken.is refl
    out.a_first_fragment.sent out.a_later_fragment_that_is_freed.sent

pub an_edge_sends_a_later_fragment : IsEdgeHop node Lan (out.goes_out []) out.later.octets (sends ToAccess out.later.six)
an_edge_sends_a_later_fragment =
    goes shared 1232 home6 server6 out.later.taken out.later.octets out.later.passage (sends ToAccess out.later.six)
    out.a_later_fragment.taken.is out.a_later_fragment.sent refl

pub an_edge_sends_an_echo : IsEdgeHop node Lan (out.goes_out []) out.echo.octets (sends ToAccess out.echo.six)
an_edge_sends_an_echo =
    goes shared 1232 home6 server6 out.echo.taken out.echo.octets out.echo.passage (sends ToAccess out.echo.six)
    out.an_echo_request.taken.is out.an_echo_request.sent refl

pub an_edge_sends_an_error : IsEdgeHop node Lan (out.goes_out []) out.error.octets (sends ToAccess out.error.six)
an_edge_sends_an_error =
    goes shared 1232 home6 server6 out.error.taken out.error.octets out.error.passage (sends ToAccess out.error.six)
    out.an_error.taken.is out.an_error.sent refl

pub an_edge_sends_pieces : IsEdgeHop node Lan cut.goes_out cut.out_passed.octets (sends_pieces ToAccess cut.out_pieces)
an_edge_sends_pieces =
    goes shared 1232 home6 server6 cut.out_passed.taken cut.out_passed.octets (Cut cut.out_pieces) (sends_pieces ToAccess cut.out_pieces)
    cut.pieces_to_the_relay.taken.is cut.pieces_to_the_relay.sent refl

-- ---- one comes in from the access network

comes : (to : Addr4) (port : ℕ) (from peer : Addr4) (q : Packet6) (six four : List ℕ)
    → IsPacket6 false q six
    → EdgeReceives (record { mtus = mtus; id = 7 }) (In to port from peer []) q six (Sent four)
    → IsEdgeHop node Access (In to port from peer []) six (sends ToLan four)
comes to port from peer q six four is received = (sends ToLan four, nothing, inl (q, is, (Sent four, received, refl)), refl, refl)

comes_with : (to : Addr4) (port : ℕ) (from peer : Addr4) (q r : Packet6) (six other four others : List ℕ) (place : ℕ)
    → IsPacket6 false q six
    → IsPacket6 false r other
    → extent_of6 r.head ≡ LastPart
    → EdgeReceives (record { mtus = mtus; id = 7 }) (In to port from peer []) q six (Sent four)
    → EdgeReceives (record { mtus = mtus; id = 7 }) (In to port from peer []) r other (Sent others)
    → IsEdgeHop node Access (In to port from peer (record { place = place; bytes = other } ∷ [])) six
    (then (sends ToLan four) (then (sends ToLan others) nothing))
comes_with to port from peer q r six other four others place is also later received freed = (
  sends ToLan four,
  then (sends ToLan others) nothing,
  inl (q, is, (Sent four, received, refl)),
  (sends ToLan others, nothing, inl ((r, also, later), (r, also, (Sent others, freed, refl))), refl, refl),
  refl,
)

pub an_edge_delivers_a_whole_packet : IsEdgeHop node Access (back.comes_in []) back.whole.six (sends ToLan back.whole.four)
an_edge_delivers_a_whole_packet =
    comes host 5000 server server back.whole.read back.whole.six back.whole.four
    back.a_whole_packet.arrives (omega arith, refl, omega arith)

pub an_edge_delivers_a_first_fragment_and_the_one_that_waited : IsEdgeHop node Access (back.comes_in (back.parcel ∷ [])) back.first.six
    (then (sends ToLan back.first.four) (then (sends ToLan back.later.four) nothing))
an_edge_delivers_a_first_fragment_and_the_one_that_waited =
    comes_with host 5000 server server back.first.read back.later.read back.first.six back.later.six back.first.four back.later.four
    back.parcel.place back.a_first_fragment.arrives back.a_later_fragment_that_is_freed.arrives refl
    back.a_first_fragment.received back.a_later_fragment_that_is_freed.received

pub an_edge_delivers_an_echo : IsEdgeHop node Access (back.comes_in []) back.echo.six (sends ToLan back.echo.four)
an_edge_delivers_an_echo =
    comes host 5000 server server back.echo.read back.echo.six back.echo.four back.an_echo_reply.arrives (omega arith, refl, omega arith)

pub an_edge_delivers_an_error : IsEdgeHop node Access (In host 5000 router server []) back.error.six (sends ToLan back.error.four)
an_edge_delivers_an_error =
    comes host 5000 router server back.error.read back.error.six back.error.four back.an_error.arrives (omega arith, refl, omega arith)

-- ---- the relay: what it is told of a packet that is whole, or a fragment whose first one has told its ports or tells them now

told6 : (q : Packet6) (six : List ℕ) (told : Option FragAnswer) → IsPacket6 true q six
    → MayBeTold (asked (extent_of6 q.head) (key_of6 from_access q.head) (flow_of6 q.content).ports six) told
    → IsTold true six told
told6 q six told is may = record {
  kind = λ ask (p, also, e). subst (λ (a : Option FragAsk). MayBeTold a told)
      (ap (λ (x : Packet6). asked (extent_of6 x.head) (key_of6 from_access x.head) (flow_of6 x.content).ports six) (same_packet6 true q p six is also)
      ∙ sym e) may;
  unread = λ cause dropped. absurd (never_both6 true q cause six is dropped);
}

told4 : (p : Packet4) (octets : List ℕ) (told : Option FragAnswer) → IsPacket4 p octets
    → MayBeTold (asked (extent_of4 p.head) (key_of4 from_ipv4 p.head) (flow_of4 p.content).ports octets) told
    → IsTold false octets told
told4 p octets told is may = record {
  kind = λ ask (q, also, e). subst (λ (a : Option FragAsk). MayBeTold a told)
      (ap (λ (x : Packet4). asked (extent_of4 x.head) (key_of4 from_ipv4 x.head) (flow_of4 x.content).ports octets) (same_packet4 p q octets is also)
      ∙ sym e) may;
  unread = λ cause dropped. absurd (never_both4 p cause octets is dropped);
}

-- ---- a packet from the access network, into the core

crosses6 : (q : Packet6) (six four : List ℕ) (ports : Ports)
    → source_addr relay q.head.src (source_port (flow_of6 q.content).fault ports) ≡ Some shared
    → extracted relay.dmr q.head.dst ≡ Some server.0
    → IsPassage64 (record { mtus = mtus; ends = ends64 shared server ports; id = 7 }) q (payload_of6 q.head six) (Sent four)
    → Becomes6 relay q six ports (sends ToCore four)
crosses6 q six four ports source destination passes =
    subst (λ (src : Option Addr4). IsSent6 (IsPassed6 relay q six) ports src (extracted relay.dmr q.head.dst) (sends ToCore four)) (sym source)
    (subst (λ (dst : Option ℕ). IsSent6 (IsPassed6 relay q six) ports (Some shared) dst (sends ToCore four)) (sym destination) (Sent four, passes, refl))

abbrev flow : Ports
flow = record { src = 1232; dst = 53 }

pub the_relay_delivers_a_whole_packet : IsRelayHop relay true out.whole.six None (sends ToCore out.whole.four)
the_relay_delivers_a_whole_packet = (
  Taken out.whole.read,
  out.a_whole_packet.arrives,
  crosses6 out.whole.read out.whole.six out.whole.four flow home_is_a_source server_is_a_destination (omega arith, refl, omega arith),
)

pub and_is_told_nothing : IsTold true out.whole.six None
and_is_told_nothing = told6 out.whole.read out.whole.six None out.a_whole_packet.arrives tt

later_crosses : Becomes6 relay out.later.read out.later.six flow (sends ToCore out.later.four)
later_crosses =
    crosses6 out.later.read out.later.six out.later.four flow home_is_a_source server_is_a_destination (omega arith, refl, omega arith)

abbrev held : Parcel
held = record { place = 4; bytes = out.later.six }

pub the_relay_delivers_a_first_fragment_and_the_one_that_waited : IsRelayHop relay true out.first.six (Some (Released (held ∷ [])))
    (then (sends ToCore out.first.four) (then (sends ToCore out.later.four) nothing))
the_relay_delivers_a_first_fragment_and_the_one_that_waited = (
  Taken out.first.read,
  out.a_first_fragment.arrives,
  (
    sends ToCore out.first.four,
    then (sends ToCore out.later.four) nothing,
    crosses6 out.first.read out.first.six out.first.four flow home_is_a_source server_is_a_destination (omega arith, refl, omega arith),
    (
      sends ToCore out.later.four,
      nothing,
      inl (
        (out.later.read, out.a_later_fragment.arrives, refl),
        (out.later.read, out.a_later_fragment.arrives, later_crosses),
      ),
      refl,
      refl,
    ),
    refl,
  ),
)

pub and_is_told_of_it : IsTold true out.first.six (Some (Released (held ∷ [])))
and_is_told_of_it = told6 out.first.read out.first.six (Some (Released (held ∷ []))) out.a_first_fragment.arrives tt

pub the_relay_delivers_a_later_fragment : IsRelayHop relay true out.later.six (Some (Known flow)) (sends ToCore out.later.four)
the_relay_delivers_a_later_fragment = (Taken out.later.read, out.a_later_fragment.arrives, later_crosses)

pub and_is_told_its_ports : IsTold true out.later.six (Some (Known flow))
and_is_told_its_ports = told6 out.later.read out.later.six (Some (Known flow)) out.a_later_fragment.arrives tt

pub the_relay_delivers_an_echo : IsRelayHop relay true out.echo.six None (sends ToCore out.echo.four)
the_relay_delivers_an_echo = (
  Taken out.echo.read,
  out.an_echo_request.arrives,
  crosses6 out.echo.read out.echo.six out.echo.four (record { src = 1232; dst = 1232 }) home_is_a_source server_is_a_destination
      (omega arith, refl, omega arith),
)

pub the_relay_delivers_an_error : IsRelayHop relay true out.error.six None (sends ToCore out.error.four)
the_relay_delivers_an_error = (
  Taken out.error.read,
  out.an_error.arrives,
  crosses6 out.error.read out.error.six out.error.four (record { src = 53; dst = 1232 }) home_is_a_source server_is_a_destination
      (omega arith, refl, omega arith),
)

-- ---- one from IPv4, over the access network

crosses4 : (p : Packet4) (octets : List ℕ) (passage : Passage) (hop : Hop) (sent : RelaySends relay p octets passage)
    → IsCarried (IsRefused4 relay octets p.head) ToAccess passage hop
    → Becomes4 relay p octets sent.ports hop
crosses4 p octets passage hop sent carried =
    subst (λ (own : Option ℕ). IsSent4 (λ (own : Addr6). IsPassed4 relay p octets (ends46 relay p own sent.ports)) own hop) (sym sent.owned) (passage, sent.is, carried)

-- of a packet that is no later fragment
crosses4_whole : (p : Packet4) (octets : List ℕ) (passage : Passage) (hop : Hop) (sent : RelaySends relay p octets passage)
    → ((proto : Proto) → p.content ≡ Later4 proto → ⊥)
    → IsCarried (IsRefused4 relay octets p.head) ToAccess passage hop
    → Becomes4 relay p octets (flow_of4 p.content).ports hop
crosses4_whole p octets passage hop sent first carried =
    subst (λ (ports : Ports). Becomes4 relay p octets ports hop) (sent.flow first) (crosses4 p octets passage hop sent carried)

pub the_relay_sends_a_whole_packet : IsRelayHop relay false back.whole.octets None (sends ToAccess back.whole.six)
the_relay_sends_a_whole_packet = (
  Taken back.whole.taken,
  back.a_whole_packet.taken.is,
  crosses4_whole back.whole.taken back.whole.octets back.whole.passage (sends ToAccess back.whole.six) back.a_whole_packet.sent
      (λ proto e. cc) refl,
)

pub and_is_told_nothing_of_it : IsTold false back.whole.octets None
and_is_told_nothing_of_it = told4 back.whole.taken back.whole.octets None back.a_whole_packet.taken.is tt

abbrev back_flow : Ports
back_flow = record { src = 53; dst = 1232 }

later_goes : Becomes4 relay back.later.taken back.later.octets back_flow (sends ToAccess back.later.six)
unfolding embedded
later_goes =
    subst (λ (own : Option ℕ). IsSent4 (λ (own : Addr6). IsPassed4 relay back.later.taken back.later.octets (ends46 relay back.later.taken own back_flow)) own (sends ToAccess back.later.six))
    (sym home_is_the_owner) (Sent back.later.six, (omega arith, refl, omega arith), refl)

abbrev held_back : Parcel
held_back = record { place = 4; bytes = back.later.octets }

pub the_relay_sends_a_first_fragment_and_the_one_that_waited : IsRelayHop relay false back.first.octets (Some (Released (held_back ∷ [])))
    (then (sends ToAccess back.first.six) (then (sends ToAccess back.later.six) nothing))
the_relay_sends_a_first_fragment_and_the_one_that_waited = (
  Taken back.first.taken,
  back.a_first_fragment.taken.is,
  (
    sends ToAccess back.first.six,
    then (sends ToAccess back.later.six) nothing,
    crosses4_whole back.first.taken back.first.octets back.first.passage (sends ToAccess back.first.six) back.a_first_fragment.sent
        (λ proto e. cc) refl,
    (
      sends ToAccess back.later.six,
      nothing,
      inl (
        (back.later.taken, back.a_later_fragment.taken.is, refl),
        (back.later.taken, back.a_later_fragment.taken.is, later_goes),
      ),
      refl,
      refl,
    ),
    refl,
  ),
)

pub the_relay_sends_a_later_fragment : IsRelayHop relay false back.later.octets (Some (Known back_flow)) (sends ToAccess back.later.six)
the_relay_sends_a_later_fragment = (Taken back.later.taken, back.a_later_fragment.taken.is, later_goes)

pub and_is_told_the_ports_of_it : IsTold false back.later.octets (Some (Known back_flow))
and_is_told_the_ports_of_it = told4 back.later.taken back.later.octets (Some (Known back_flow)) back.a_later_fragment.taken.is tt

pub the_relay_sends_an_echo : IsRelayHop relay false back.echo.octets None (sends ToAccess back.echo.six)
the_relay_sends_an_echo = (
  Taken back.echo.taken,
  back.an_echo_reply.taken.is,
  crosses4_whole back.echo.taken back.echo.octets back.echo.passage (sends ToAccess back.echo.six) back.an_echo_reply.sent
      (λ proto e. cc) refl,
)

pub the_relay_sends_an_error : IsRelayHop relay false back.error.octets None (sends ToAccess back.error.six)
the_relay_sends_an_error = (
  Taken back.error.taken,
  back.an_error.taken.is,
  crosses4_whole back.error.taken back.error.octets back.error.passage (sends ToAccess back.error.six) back.an_error.sent
      (λ proto e. cc) refl,
)

pub the_relay_sends_pieces : IsRelayHop relay false cut.in_passed.octets None (sends_pieces ToAccess cut.in_pieces)
the_relay_sends_pieces = (
  Taken cut.in_passed.taken,
  cut.pieces_from_the_relay.taken.is,
  crosses4_whole cut.in_passed.taken cut.in_passed.octets (Cut cut.in_pieces) (sends_pieces ToAccess cut.in_pieces)
      cut.pieces_from_the_relay.sent (λ proto e. cc) refl,
)
