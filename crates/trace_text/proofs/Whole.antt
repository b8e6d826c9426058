-- The pieces of a packet that is cut arrive as its whole payload.
use Rattle.std.proofs.Common.{◌≡◌, ℕ, suc, ◌+◌, ◌*◌, ◌%◌, ◌^◌, ◌<◌, Bool, true, false, not, ◌&&◌, List, [], ◌∷◌, Option, Some, None, inl, inr, refl, sym, ap, ◌∙◌, subst, arith}
use Rattle.std.specs.Prelude.{slice_get}
use Rattle.std.proofs.lemmas.Bool.{false≢true}
use Rattle.octets.specs.declared.address.Addr4.{Addr4}
use Rattle.octets.specs.declared.address.Addr6.{Addr6}
use Rattle.octets.specs.declared.mtus.Mtus.{Mtus}
use Rattle.octets.specs.declared.parcel.Parcel.{Parcel}
use Rattle.octets.specs.declared.proto.Proto.{Proto}
use Rattle.ip4_packet.specs.Grammar.{payload_of4}
use Rattle.ip6_packet.specs.declared.head.Head6.{Head6}
use Rattle.ip6_packet.specs.declared.head.Frag6.{Frag6}
use Rattle.xlat46.specs.Whole.{ArePorts}
use Rattle.ip6_packet.specs.Grammar.{payload_of6}
use Rattle.l4_headers.specs.declared.ports.Ports.{Ports}
use Rattle.packet_faults.specs.Cut.{step_of}
use Rattle.l4_headers.specs.declared.ends.Ends.{Ends}
use Rattle.packets.specs.declared.packet4.Content4.{Content4}
use Rattle.packets.specs.declared.packet4.Content4.TheVariants.{Segment, Later, Query, Error}
use Rattle.packets.specs.declared.packet4.Packet4.{Packet4}
use Rattle.packets.specs.declared.packet6.Content6.{Content6}
use Rattle.packets.specs.declared.packet6.Content6.TheVariants.{Later as Later6}
use Rattle.packets.specs.declared.packet6.Packet6.{Packet6}
use Rattle.packets.specs.Packet6.{IsPacket6}
use Rattle.transit.specs.Passage46.{is_message4, IsPassage46}
use Rattle.transit.specs.Passage64.{translation64}
use Rattle.crossing.specs.Named.{piece_at}
use Rattle.crossing.specs.Pieces.{Arrived, IsCutInto, PieceBack, AreBack, arrived_by, ComeTogether}
use Rattle.crossing.specs.Transfer.{Transfer, FitsPorts, IsTakenAs, IsPieceThere, IsBack, with_ends, packet_with, FitsEnds}
use Rattle.crossing.proofs.Over.{seen, FlowMay, piece_fragment}
use Rattle.crossing.proofs.Uncut.{FlowIs}
use Rattle.crossing.proofs.Together.{comes_together}
use Rattle.crossing.specs.Nat44.{nat44, packet_from, packet_to, content_from, content_to}
use Rattle.map_rules.specs.declared.dmr.Dmr.{Dmr}
use Rattle.nat_model.specs.declared.answer.Answer.{Answer}
use Rattle.nat_model.specs.declared.answer.Answer.TheVariants.{Out, Turn, In, Kept, Held, Refused}
use Rattle.packets.specs.Asked.{flow_of4, flow_of6}
use Rattle.transit.specs.declared.passage.Passage.TheVariants.{Sent, Cut}
use Rattle.ip4_packet.specs.Fragment.{is_fragment}
use Rattle.edge_node.specs.Asked.{near_addr6}
use Rattle.edge_node.specs.Ends.{ends_out, ends_in, with_far_port}
use Rattle.relay_node.specs.Relay.{Relay, source_port, embedded_in}
use Rattle.relay_node.specs.FromAccess.{ends64}
use Rattle.relay_node.specs.FromIpv4.{ends46}
use Rattle.trace_text.specs.Answered.{AnsweredOut, AnsweredIn}
use Rattle.trace_text.specs.Behind.{ipv4_behind}
use Rattle.trace_text.specs.Crossings.{Setting, EdgeAnswer}
use Rattle.trace_text.specs.Numbers.{FitsAnswer}
use Rattle.trace_text.specs.Hops.{IsTaken4, EdgeSends, EdgeReceives}
use Rattle.trace_text.specs.Pieces.{PassedInPieces, AreReceived, RelayTakes, EdgeTakes, PiecesToRelay, PiecesFromRelay, PiecesBetweenEdges, crossing_in_pieces, ArriveWhole}
use Rattle.trace_text.proofs.Addresses.{embedded_holds, extracted_holds, one_behind}
use Rattle.trace_text.proofs.Directions.{HoldsOut, holds_out, sourced, from_told, replaced_is, back_with, not_rigid, own_ports, relay_passage, own_flow, relay_ends_fit, ports_same, near_inner, far_inner, out_given, in_given}
use Rattle.trace_text.proofs.Fits.{head_fits, id_fits, src_fits, dst_fits, ports_fit, content_fits, within}
use Rattle.trace_text.proofs.Ports.{near_fits, PortsAre, InnerBoth, source_given, destination_given, both_given, read_near, read_far}

-- ---- the second node's ends may be these

-- a later fragment is translated by its outer addresses alone
later_outer : (mtus : Mtus) (head : Head6) (payload : List ℕ) (one other : Ends Addr4) (id : ℕ) (proto : Proto) → one.src ≡ other.src → one.dst ≡ other.dst
    → translation64 (record { mtus = mtus; ends = one; id = id }) head payload (Later6 proto) ≡ translation64 (record { mtus = mtus; ends = other; id = id }) head payload (Later6 proto)
later_outer mtus head payload one other id proto src dst =
    ap (λ (a : Addr4). translation64 (record { mtus = mtus; ends = (record one { src = a }); id = id }) head payload (Later6 proto)) src
    ∙ ap (λ (a : Addr4). translation64 (record { mtus = mtus; ends = (record other { dst = a }); id = id }) head payload (Later6 proto)) dst

later_given : (mtus : Mtus) (head : Head6) (payload four : List ℕ) (one other : Ends Addr4) (id : ℕ) (proto : Proto) (q : Content6) → q ≡ Later6 proto → one.src ≡ other.src → one.dst ≡ other.dst
    → translation64 (record { mtus = mtus; ends = one; id = id }) head payload q ≡ Some four → translation64 (record { mtus = mtus; ends = other; id = id }) head payload q ≡ Some four
later_given mtus head payload four one other id proto q later src dst is =
    let plain = subst (λ (x : Content6). translation64 (record { mtus = mtus; ends = one; id = id }) head payload x ≡ Some four) later is in
    subst (λ (x : Content6). translation64 (record { mtus = mtus; ends = other; id = id }) head payload x ≡ Some four) (sym later) (sym (later_outer mtus head payload one other id proto src dst) ∙ plain)

given_back : (content : Content4) (mtus : Mtus) (head : Head6) (payload four : List ℕ) (six : Ends Addr6) (one other : Ends Addr4) (id : ℕ) (q : Content6) → is_message4 content ≡ false → FlowMay content six q → one.src ≡ other.src → one.dst ≡ other.dst
    → (FlowIs content six q → PortsAre content one.ports other.ports) → translation64 (record { mtus = mtus; ends = one; id = id }) head payload q ≡ Some four → translation64 (record { mtus = mtus; ends = other; id = id }) head payload q ≡ Some four
given_back (Segment proto l4) mtus head payload four six one other id q flows (inl flow) src dst ports is = sym (flow.outer mtus head payload one other id src dst (ports flow)) ∙ is
given_back (Later proto) mtus head payload four six one other id q flows (inl flow) src dst ports is = later_given mtus head payload four one other id proto q flow src dst is
given_back (Query m row) mtus head payload four six one other id q flows (inl flow) src dst ports is = absurd (false≢true (sym flows))
given_back (Error m row inner) mtus head payload four six one other id q flows (inl flow) src dst ports is = absurd (false≢true (sym flows))
given_back content mtus head payload four six one other id q flows (inr later) src dst ports is = later_given mtus head payload four one other id later.0 q later.1 src dst is

-- ---- one piece after the other

-- the second node's part on one piece, for whichever place it has
-- the ends that it gives the piece, by which it is the packet that was replaced so
pub record IsOnBy (t : Transfer) (at_relay : Bool) (six : List ℕ) (a : Arrived) : Type 0 where
  pub ends : Ends Addr4
  pub read : Packet6
  pub back : IsBack (with_ends t ends) at_relay read six a.octets
  pub replaced : packet_with ends t.taken ≡ a.replaced

abbrev pub OnePiece : Transfer → Bool → (List ℕ → Arrived → Type 0) → Type 0
OnePiece t at_relay Receives = (six : List ℕ) (a : Arrived) (at : ℕ) → IsPieceThere t at six → Receives six a → IsOnBy t at_relay six a

next : (k j : ℕ) → k + suc j ≡ suc k + j
next k j = omega arith

plus_none : (k : ℕ) → k ≡ k + 0
plus_none k = omega arith

-- all of them behind the second node
record AllBack (t : Transfer) (at_relay : Bool) (pieces : List Parcel) (arrived : List Arrived) : Type 0 where
  backs : List PieceBack
  are : AreBack t at_relay pieces backs
  arrived_is : arrived_by t.taken backs ≡ arrived

one_more : (t : Transfer) (one : PieceBack) (backs : List PieceBack) (a : Arrived) (arrived : List Arrived) → packet_with one.ends t.taken ≡ a.replaced → one.octets ≡ a.octets → arrived_by t.taken backs ≡ arrived
    → arrived_by t.taken (one ∷ backs) ≡ a ∷ arrived
one_more t one backs a arrived replaced octets others =
    ap (λ (r : Packet4). (record { replaced = r; octets = one.octets }) ∷ arrived_by t.taken backs) replaced
    ∙ ap (λ (xs : List ℕ). (record { replaced = a.replaced; octets = xs }) ∷ arrived_by t.taken backs) octets
    ∙ ap (λ (those : List Arrived). a ∷ those) others

are_back : (t : Transfer) (at_relay : Bool) (Receives : List ℕ → Arrived → Type 0) (all : List Parcel) (cut : IsCutInto t all) (k : ℕ) (pieces : List Parcel) (arrived : List Arrived) → t.taken.head.id < 65536
    → OnePiece t at_relay Receives → ((j : ℕ) → slice_get all (k + j) ≡ slice_get pieces j) → AreReceived Receives pieces arrived → AllBack t at_relay pieces arrived
are_back t at_relay Receives all cut k [] [] small one lookup received = record { backs = []; are = tt; arrived_is = refl }
are_back t at_relay Receives all cut k [] (a ∷ arrived) small one lookup received = absurd received
are_back t at_relay Receives all cut k (piece ∷ pieces) [] small one lookup received = absurd received
are_back t at_relay Receives all cut k (piece ∷ pieces) (a ∷ arrived) small one lookup received =
    let there : IsPieceThere t (k * step_of t.mtus.mtu6) piece.bytes = record {
      octets = cut.six;
      there = cut.there;
      flows = cut.flows;
      id = small;
      pieces = all;
      cut = cut.cut;
      k = k;
      piece = piece;
      found = ap (λ (n : ℕ). slice_get all n) (plus_none k) ∙ lookup 0;
      bytes = refl;
      begins = refl;
    } in
    let this = one piece.bytes a (k * step_of t.mtus.mtu6) there received.0 in
    let others = are_back t at_relay Receives all cut (suc k) pieces arrived small one (λ j. ap (λ (n : ℕ). slice_get all n) (sym (next k j)) ∙ lookup (suc j)) received.1 in
    let back : PieceBack = record { ends = this.ends; octets = a.octets } in
    record {
      backs = back ∷ others.backs;
      are = ((this.read, this.back), others.are);
      arrived_is = one_more t back others.backs a arrived this.replaced refl others.arrived_is;
    }

-- ---- all of them

abbrev cut_transfer : Setting → PassedInPieces → Ends Addr6 → Ends Addr4 → Transfer
cut_transfer setting c six four = record {
  taken = c.taken;
  payload = payload_of4 c.taken.head c.octets;
  six = six;
  four = four;
  mtus = setting.mtus;
  number = setting.number;
}

taken_as : (setting : Setting) (c : PassedInPieces) (six : Ends Addr6) (four : Ends Addr4) → IsTaken4 c.taken c.octets → FitsEnds six → IsTakenAs (cut_transfer setting c six four) c.octets
taken_as setting c six four taken fits = record {
  is = taken.is;
  payload = refl;
  fits = head_fits c.taken.head c.octets taken.are taken.is.is.fields;
  inner = content_fits c.taken.content c.taken.head.dst (within c.taken c.octets taken);
  six = fits;
}

cut_into : (t : Transfer) (pieces : List Parcel) → IsPassage46 t.mtus t.taken t.payload t.six (Cut pieces) → IsCutInto t pieces
cut_into t pieces is = record {
  six = is.1.0;
  there = is.1.1;
  flows = not_rigid (not (is_fragment t.taken.head) && t.taken.head.df) (is_message4 t.taken.content) is.1.3;
  cut = is.1.4;
}

-- no ends yet over IPv4
abbrev any_ends : Packet4 → Ports → Ends Addr4
any_ends p ports = record { src = p.head.src; dst = p.head.dst; inner_src = p.head.src; inner_dst = p.head.dst; ports = ports }

arrive : (setting : Setting) (c : PassedInPieces) (six : Ends Addr6) (at_relay : Bool) (Receives : List ℕ → Arrived → Type 0) → let t = cut_transfer setting c six (any_ends c.taken six.ports) in
    IsTaken4 c.taken c.octets → FitsEnds six → IsPassage46 setting.mtus c.taken (payload_of4 c.taken.head c.octets) six (Cut c.pieces) → OnePiece t at_relay Receives → AreReceived Receives c.pieces c.arrived
    → ArriveWhole setting c
arrive setting c six at_relay Receives taken fits passage one received =
    let t = cut_transfer setting c six (any_ends c.taken six.ports) in
    let small = id_fits c.taken.head c.octets taken.are taken.is.is.fields in
    let cut = cut_into t c.pieces passage in
    let all = are_back t at_relay Receives c.pieces cut 0 c.pieces c.arrived small one (λ j. ap (λ (n : ℕ). slice_get c.pieces n) (none_plus j)) received in
    subst (λ (arrived : List Arrived). ComeTogether (crossing_in_pieces setting c) arrived) all.arrived_is (comes_together t c.octets at_relay c.pieces all.backs (taken_as setting c six (any_ends c.taken six.ports) taken fits) small cut all.are)
  where
    none_plus : (j : ℕ) → 0 + j ≡ j
    none_plus j = omega arith

same_packet : (p r : Packet4) → ◌≡◌ {A = Option Packet4} (Some p) (Some r) → p ≡ r
same_packet p r e = cc

-- a piece has a Fragment Header
piece_unnumbered : (t : Transfer) (octets six : List ℕ) (at : ℕ) (at_relay : Bool) (q : Packet6) (id : ℕ) → IsTakenAs t octets → IsPieceThere t at six → IsPacket6 at_relay q six → q.head.frag ≡ None → id ≡ t.number % 2 ^ 16
piece_unnumbered t octets six at at_relay q id taken there is none =
    let frag = piece_fragment t octets six at at_relay q taken there is in
    absurd (no_frag frag.0 (sym none ∙ frag.1))
  where
    no_frag : (f : Frag6) → ◌≡◌ {A = Option Frag6} None (Some f) → ⊥
    no_frag f e = cc

-- ---- one piece at the relay

relay_piece : (setting : Setting) (c : PassedInPieces) (from : Addr4) (port : ℕ) (src6 dst6 : Addr6) (octets : List ℕ) (a : Arrived) (at : ℕ) → let six = ends_out (flow_of4 c.taken.content) port src6 dst6 in
    let t = cut_transfer setting c six (any_ends c.taken six.ports) in
    IsTakenAs t c.octets → port < 65536 → ArePorts (flow_of4 c.taken.content).ports → HoldsOut setting.dmr from c.taken.head.dst src6 dst6
    → IsPieceThere t at octets → RelayTakes setting (packet_from from port c.taken) octets a → IsOnBy t true octets a
relay_piece setting c from port src6 dst6 octets a at taken fits are holds there takes =
    let p = c.taken in
    let six = ends_out (flow_of4 p.content) port src6 dst6 in
    let t = cut_transfer setting c six (any_ends p six.ports) in
    let q = takes.read in
    let relay = takes.relay in
    let got = takes.received in
    let plain = ends64 got.src got.dst got.ports in
    let given : Ends Addr4 = record { src = from; dst = p.head.dst; inner_src = near_inner p.content from; inner_dst = from; ports = six.ports } in
    let replaces = source_given p.content port from given fits are (ports_same p.content six.ports) (out_given p.content given from refl refl) in
    let saw = seen t c.octets octets (piece_at at) true q taken there takes.arrives in
    let source : ipv4_behind setting.dmr src6.0 ≡ Some got.src.0 = subst (λ (d : Dmr). ipv4_behind d src6.0 ≡ Some got.src.0) takes.relay_is.dmr (subst (λ (a : Addr6). ipv4_behind relay.dmr a.0 ≡ Some got.src.0) saw.ends.src (sourced relay q.head.src (source_port (flow_of6 q.content).fault got.ports) got.src got.source)) in
    let destination : ipv4_behind setting.dmr dst6.0 ≡ Some got.dst.0 = subst (λ (d : Dmr). ipv4_behind d dst6.0 ≡ Some got.dst.0) takes.relay_is.dmr (subst (λ (a : Addr6). ipv4_behind relay.dmr a.0 ≡ Some got.dst.0) saw.ends.dst (extracted_holds relay.dmr q.head.dst.0 got.dst.0 got.destination)) in
    let src = one_behind setting.dmr src6.0 got.src from source holds.source in
    let dst = one_behind setting.dmr dst6.0 got.dst p.head.dst destination holds.destination in
    let makes = back_with relay.params.mtus setting.mtus relay.id q octets a.octets plain takes.relay_is.mtus got.is.1 in
    let back = given_back p.content setting.mtus q.head (payload_of6 q.head octets) a.octets six plain given relay.id q.content there.flows saw.flow src dst
    (λ (flow : FlowIs p.content six q.content). read_near p.content port src6 dst6 q.content got.ports flow got.flow) makes in
    record {
      ends = given;
      read = q;
      back = record { is = takes.arrives; lasts = got.is.0; ports = replaces.fits; id = relay.id; numbered = piece_unnumbered t c.octets octets at true q relay.id taken there takes.arrives; back = back };
      replaced = replaced_is p given from p.head.dst (content_from from port p.content) refl refl replaces.is ∙ sym takes.replaced;
    }

pub pieces_to_relay : (setting : Setting) (edge : EdgeAnswer) (sent_as : Packet4) (c : PassedInPieces) → PiecesToRelay setting edge sent_as c → ArriveWhole setting c
pieces_to_relay setting edge sent_as c is = by edge.answer is.answered is.fits is.sent is.replaced
  where
    by : (answer : Answer) → AnsweredOut edge.step c.taken.head.dst answer → FitsAnswer answer → EdgeSends setting.mtus answer c.taken c.octets (Cut c.pieces) → nat44 c.taken answer ≡ Some sent_as → ArriveWhole setting c
    by (Out from port src6 dst6 freed) answered fits sent e =
        let p = c.taken in
        let flow4 = flow_of4 p.content in
        let six = ends_out flow4 port src6 dst6 in
        let are = ports_fit p c.octets is.taken in
        let ends : FitsEnds six = record { src = fits.1; dst = fits.2; inner_src = fits.2; inner_dst = fits.1; ports = near_fits flow4.proto flow4.fault port flow4.ports fits.0 are } in
        let t = cut_transfer setting c six (any_ends p six.ports) in
        let taken = taken_as setting c six (any_ends p six.ports) is.taken ends in
        let holds = holds_out setting.dmr edge.step p.head.dst from port src6 dst6 freed is.rules (dst_fits p.head c.octets is.taken.are is.taken.is.is.fields) answered in
        let one : OnePiece t true (RelayTakes setting sent_as) = λ (octets : List ℕ) (a : Arrived) (at : ℕ) (there : IsPieceThere t at octets) (takes : RelayTakes setting sent_as octets a).
        relay_piece setting c from port src6 dst6 octets a at taken fits.0 are holds there (subst (λ (r : Packet4). RelayTakes setting r octets a) (sym (same_packet (packet_from from port p) sent_as e)) takes) in
        arrive setting c six true (RelayTakes setting sent_as) is.taken ends sent one is.received
    by (Turn from port freed) answered fits sent e = absurd sent
    by (In to port from peer freed) answered fits sent e = absurd sent
    by (Kept port until) answered fits sent e = absurd sent
    by Held answered fits sent e = absurd sent
    by (Refused cause freed) answered fits sent e = absurd sent

-- ---- one piece at an edge

-- what is replaced in the packet that was sent, for every host and port
abbrev Replaced : Packet4 → Ports → Packet4 → Addr4 → Type 0
Replaced taken six sent source =
    (to : Addr4) (port : ℕ) (given : Ends Addr4) → port < 65536 → given.src ≡ source → given.dst ≡ to → given.inner_src ≡ to → given.ports ≡ with_far_port (flow_of4 taken.content).proto (flow_of4 taken.content).fault port six
    → given.inner_dst ≡ far_inner sent.content to → (packet_with given taken ≡ packet_to to port sent) × FitsPorts taken.content given.ports

edge_piece : (setting : Setting) (c : PassedInPieces) (six : Ends Addr6) (sent : Packet4) (source : Addr4) (octets : List ℕ) (a : Arrived) (at : ℕ) → let t = cut_transfer setting c six (any_ends c.taken six.ports) in
    IsTakenAs t c.octets → Replaced c.taken six.ports sent source → ipv4_behind setting.dmr six.src.0 ≡ Some source.0 → IsPieceThere t at octets → EdgeTakes setting sent octets a → IsOnBy t false octets a
edge_piece setting c six sent source octets a at taken replaces holds there takes = by takes.edge.answer takes.fits takes.answered takes.received takes.replaced
  where
    by : (answer : Answer) → FitsAnswer answer → AnsweredIn takes.edge.step takes.read.head.src (near_addr6 takes.read takes.read.content) answer → EdgeReceives (record { mtus = setting.mtus; id = takes.id }) answer takes.read octets (Sent a.octets) → nat44 sent answer ≡ Some a.replaced
        → IsOnBy (cut_transfer setting c six (any_ends c.taken six.ports)) false octets a
    by (In to port from peer freed) fits answered received e =
        let p = c.taken in
        let t = cut_transfer setting c six (any_ends p six.ports) in
        let q = takes.read in
        let given : Ends Addr4 = record { src = source; dst = to; inner_src = to; inner_dst = far_inner sent.content to; ports = with_far_port (flow_of4 p.content).proto (flow_of4 p.content).fault port six.ports } in
        let plain = ends_in (flow_of6 q.content) to port from peer in
        let saw = seen t c.octets octets (piece_at at) false q taken there takes.arrives in
        let told : ipv4_behind setting.dmr six.src.0 ≡ Some from.0 = subst (λ (a : Addr6). ipv4_behind setting.dmr a.0 ≡ Some from.0) saw.ends.src (from_told setting takes.edge.step q to port from peer freed takes.rules answered) in
        let src = one_behind setting.dmr six.src.0 from source told holds in
        let all = replaces to port given fits refl refl refl refl refl in
        let back = given_back p.content setting.mtus q.head (payload_of6 q.head octets) a.octets six plain given takes.id q.content there.flows saw.flow src refl
        (λ (flow : FlowIs p.content six q.content). read_far p.content six port q.content flow) received.1 in
        record {
          ends = given;
          read = q;
          back = record { is = takes.arrives; lasts = received.0; ports = all.1; id = takes.id; numbered = piece_unnumbered t c.octets octets at false q takes.id taken there takes.arrives; back = back };
          replaced = all.0 ∙ same_packet (packet_to to port sent) a.replaced e;
        }
    by (Out from port src6 dst6 freed) fits answered received e = absurd received
    by (Turn from port freed) fits answered received e = absurd received
    by (Kept port until) fits answered received e = absurd received
    by Held fits answered received e = absurd received
    by (Refused cause freed) fits answered received e = absurd received

pub pieces_from_relay : (setting : Setting) (relay : Relay) (c : PassedInPieces) → PiecesFromRelay setting relay c → ArriveWhole setting c
pieces_from_relay setting relay c is =
    let p = c.taken in
    let six = ends46 relay p is.sent.own (own_ports p.content is.sent.ports) in
    let t = cut_transfer setting c six (any_ends p six.ports) in
    let ends : FitsEnds six = relay_ends_fit relay p c.octets (Cut c.pieces) is.relay_fits is.taken is.sent in
    let taken = taken_as setting c six (any_ends p six.ports) is.taken ends in
    let own = own_flow p.content is.sent.ports is.sent.flow in
    let replaces : Replaced p six.ports p p.head.src = λ (to : Addr4) (port : ℕ) (given : Ends Addr4) fits source destination inner ports far.
    let all = destination_given p.content six.ports port to given fits ends.ports own (subst (λ (ports : Ports). PortsAre p.content given.ports ports) ports (ports_same p.content given.ports)) (in_given p.content given to inner far) in
    (replaced_is p given p.head.src to (content_to to port p.content) source destination all.is, all.fits) in
    let small = src_fits p.head c.octets is.taken.are is.taken.is.is.fields in
    let holds : ipv4_behind setting.dmr (embedded_in relay.dmr p.head.src).0 ≡ Some p.head.src.0 = subst (λ (d : Dmr). ipv4_behind d (embedded_in relay.dmr p.head.src).0 ≡ Some p.head.src.0) is.relay_is.dmr (embedded_holds relay.dmr p.head.src.0 small) in
    let passage = relay_passage relay setting.mtus p c.octets is.sent.own is.sent.ports (Cut c.pieces) is.relay_is.mtus is.sent.is in
    let one : OnePiece t false (EdgeTakes setting p) = λ (octets : List ℕ) (a : Arrived) (at : ℕ) (there : IsPieceThere t at octets) (takes : EdgeTakes setting p octets a).
    edge_piece setting c six p p.head.src octets a at taken replaces holds there takes in
    arrive setting c six false (EdgeTakes setting p) is.taken ends passage one is.received

-- the embedded destination of an error that an edge sent
far_sent : (content : Content4) (from to : Addr4) (port : ℕ) (given : Ends Addr4) → given.inner_src ≡ to → given.inner_dst ≡ far_inner (content_from from port content) to → InnerBoth content given from to
far_sent (Segment proto l4) from to port given one other = tt
far_sent (Later proto) from to port given one other = tt
far_sent (Query m row) from to port given one other = tt
far_sent (Error m row inner) from to port given one other = (one, other)

pub pieces_between_edges : (setting : Setting) (edge : EdgeAnswer) (sent_as : Packet4) (c : PassedInPieces) → PiecesBetweenEdges setting edge sent_as c → ArriveWhole setting c
pieces_between_edges setting edge sent_as c is = by edge.answer is.answered is.fits is.sent is.replaced
  where
    by : (answer : Answer) → AnsweredOut edge.step c.taken.head.dst answer → FitsAnswer answer → EdgeSends setting.mtus answer c.taken c.octets (Cut c.pieces) → nat44 c.taken answer ≡ Some sent_as → ArriveWhole setting c
    by (Out from out_port src6 dst6 freed) answered fits sent e =
        let p = c.taken in
        let flow4 = flow_of4 p.content in
        let six = ends_out flow4 out_port src6 dst6 in
        let sent_is = packet_from from out_port p in
        let are = ports_fit p c.octets is.taken in
        let ends : FitsEnds six = record { src = fits.1; dst = fits.2; inner_src = fits.2; inner_dst = fits.1; ports = near_fits flow4.proto flow4.fault out_port flow4.ports fits.0 are } in
        let t = cut_transfer setting c six (any_ends p six.ports) in
        let taken = taken_as setting c six (any_ends p six.ports) is.taken ends in
        let replaces : Replaced p six.ports sent_is from = λ (to : Addr4) (port : ℕ) (given : Ends Addr4) fit source destination inner ports far.
        let all = both_given p.content out_port port from to given fits.0 fit are (subst (λ (ports : Ports). PortsAre p.content given.ports ports) ports (ports_same p.content given.ports)) (far_sent p.content from to out_port given inner far) in
        (replaced_is p given from to (content_to to port (content_from from out_port p.content)) source destination all.is, all.fits) in
        let holds = holds_out setting.dmr edge.step p.head.dst from out_port src6 dst6 freed is.rules (dst_fits p.head c.octets is.taken.are is.taken.is.is.fields) answered in
        let one : OnePiece t false (EdgeTakes setting sent_as) = λ (octets : List ℕ) (a : Arrived) (at : ℕ) (there : IsPieceThere t at octets) (takes : EdgeTakes setting sent_as octets a).
        edge_piece setting c six sent_is from octets a at taken replaces holds.source there (subst (λ (r : Packet4). EdgeTakes setting r octets a) (sym (same_packet sent_is sent_as e)) takes) in
        arrive setting c six false (EdgeTakes setting sent_as) is.taken ends sent one is.received
    by (Turn from out_port freed) answered fits sent e = absurd sent
    by (In host out_port from peer freed) answered fits sent e = absurd sent
    by (Kept out_port until) answered fits sent e = absurd sent
    by Held answered fits sent e = absurd sent
    by (Refused cause freed) answered fits sent e = absurd sent
