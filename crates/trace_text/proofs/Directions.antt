-- The three directions of a crossing.
use Rattle.std.proofs.Common.{◌≡◌, ℕ, ◌^◌, ◌<◌, Bool, true, false, cond, not, ◌||◌, ◌&&◌, List, [], ◌∷◌, inl, inr, Option, Some, None, refl, sym, ap, ◌∙◌, subst}
use Rattle.std.specs.Prelude.{Ok}
use Rattle.std.proofs.lemmas.Bool.{false≢true}
use Rattle.octets.specs.declared.address.Addr4.{Addr4}
use Rattle.octets.specs.declared.address.Addr6.{Addr6}
use Rattle.octets.specs.declared.mtus.Mtus.{Mtus}
use Rattle.octets.specs.declared.parcel.Parcel.{Parcel}
use Rattle.octets.specs.declared.proto.Proto.{Proto}
use Rattle.ip4_packet.specs.declared.head.Head4.{Head4}
use Rattle.ip4_packet.specs.Grammar.{payload_of4}
use Rattle.ip6_packet.specs.Grammar.{payload_of6}
use Rattle.l4_headers.specs.declared.ports.Ports.{Ports}
use Rattle.ip4_packet.specs.Fragment.{is_fragment}
use Rattle.xlat46.specs.Whole.{ArePorts}
use Rattle.map_rules.specs.declared.dmr.Dmr.{Dmr}
use Rattle.rule_book.specs.declared.view.FarOf.{FarOf}
use Rattle.rule_book.specs.declared.view.FarOf.TheVariants.{Addr, Spoofed, NotDefault}
use Rattle.rule_book.specs.Far.{has_addr6, far_of}
use Rattle.l4_headers.specs.declared.ends.Ends.{Ends}
use Rattle.nat_model.specs.declared.answer.Answer.{Answer}
use Rattle.nat_model.specs.declared.answer.Answer.TheVariants.{Out, Turn, In, Kept, Held, Refused}
use Rattle.nat_model.specs.Remote.{behind, found_behind}
use Rattle.nat_model.specs.State.{Generation}
use Rattle.icmp_messages.specs.declared.inner4.Inner4.{Inner4}
use Rattle.packets.specs.declared.packet4.Content4.{Content4}
use Rattle.packets.specs.declared.packet4.Content4.TheVariants.{Segment, Later, Query, Error}
use Rattle.packets.specs.declared.packet4.Packet4.{Packet4}
use Rattle.packets.specs.declared.packet6.Content6.{Content6}
use Rattle.packets.specs.declared.packet6.Content6.TheVariants.{Later as Later6}
use Rattle.packets.specs.declared.packet6.Packet6.{Packet6}
use Rattle.packets.specs.Packet6.{IsPacket6}
use Rattle.packets.specs.Asked.{no_ports, flow_of4, flow_of6}
use Rattle.transit.specs.declared.passage.Passage.{Passage}
use Rattle.transit.specs.declared.passage.Passage.TheVariants.{Sent, Cut, Spent, TooBig}
use Rattle.transit.specs.Passage46.{IsPassage46, translation46, is_message4}
use Rattle.transit.specs.Passage64.{translation64}
use Rattle.edge_node.specs.Ends.{ends_out, ends_in, with_far_port}
use Rattle.edge_node.specs.Asked.{near_addr6}
use Rattle.relay_node.specs.Relay.{Relay, source_port, destination_port, source_addr, address_in, embedded_in}
use Rattle.relay_node.specs.FromAccess.{ends64}
use Rattle.relay_node.specs.FromIpv4.{ends46, far_end}
use Rattle.crossing.specs.Nat44.{packet_from, packet_to, content_from, content_to}
use Rattle.crossing.specs.Named.{Portion, uncut, piece_at}
use Rattle.crossing.specs.Transfer.{Transfer, IsTakenAs, IsThere, IsSentThere, IsBack, ComesOf, FitsEnds, packet_with, content_with}
use Rattle.crossing.proofs.Error.{ReadsError}
use Rattle.crossing.proofs.Over.{Seen, seen, over_crosses}
use Rattle.crossing.proofs.Uncut.{FlowIs}
use Rattle.trace_text.specs.Answered.{Step, AreRulesOf, AnsweredOut, AnsweredIn, rules_of_step}
use Rattle.trace_text.specs.Behind.{ipv4_behind}
use Rattle.rule_book.specs.Valid.{FitBook}
use Rattle.trace_text.specs.Numbers.{FitsAnswer}
use Rattle.trace_text.specs.Hops.{IsTaken4, EdgeSends, EdgeReceives, IsEmitted, RelaySends, ArePortsOf4}
use Rattle.trace_text.specs.Crossings.{Passed, Setting, IsNumbered, ToRelay, FromRelay, EdgeAnswer, EdgeToEdge, IsOneStep, crossing_with}
use Rattle.trace_text.proofs.Machine.{way_out, way_in}
use Rattle.trace_text.proofs.Addresses.{accepted, holder_holds, embedded_holds, embedded_small, owned_small, extracted_holds, reached_holds, one_behind}
use Rattle.trace_text.proofs.Fits.{head_fits, id_fits, src_fits, dst_fits, ports_fit, content_fits, FitsWithin, within}
use Rattle.trace_text.proofs.Ports.{near_fits, Replaces, PortsAre, InnerOut, InnerIn, InnerBoth, source_given, destination_given, both_given, read_near, read_far}

-- ---- addresses

address_told : (far : FarOf) (a : Addr4) → address_in far ≡ Some a → far ≡ Addr a
address_told (Addr b) a e = cc
address_told Spoofed a e = cc
address_told NotDefault a e = cc

-- the source that the relay accepts
pub sourced : (relay : Relay) (s : Addr6) (port : ℕ) (a : Addr4) → source_addr relay s port ≡ Some a → ipv4_behind relay.dmr s.0 ≡ Some a.0
sourced relay s port a e = by (has_addr6 relay.dmr.prefix s.0) e
  where
    by : (b : Bool) → cond b None (address_in (far_of relay.rules relay.dmr s.0 port)) ≡ Some a → ipv4_behind relay.dmr s.0 ≡ Some a.0
    by true is = cc
    by false is = accepted relay.rules relay.dmr s.0 port a (address_told (far_of relay.rules relay.dmr s.0 port) a is)

found_told : (far : FarOf) (a : Addr4) → found_behind far ≡ Ok a → far ≡ Addr a
found_told (Addr b) a e = cc
found_told Spoofed a e = cc
found_told NotDefault a e = cc

-- the address behind an IPv6 address that an edge accepts
pub behind_holds : (book : Generation) (dmr : Dmr) (s port : ℕ) (a : Addr4) → book.dmr ≡ dmr → behind book s port ≡ Ok a → ipv4_behind dmr s ≡ Some a.0
unfolding behind
behind_holds book dmr s port a fixed e = subst (λ (d : Dmr). ipv4_behind d s ≡ Some a.0) fixed (accepted book.rules book.dmr s port a (found_told (far_of book.rules book.dmr s port) a e))

-- what an edge's way out tells: both addresses over IPv6 hold those over IPv4
pub record HoldsOut (dmr : Dmr) (from dst : Addr4) (src6 dst6 : Addr6) : Type 0 where
  pub source : ipv4_behind dmr src6.0 ≡ Some from.0
  pub destination : ipv4_behind dmr dst6.0 ≡ Some dst.0

pub holds_out : (dmr : Dmr) (step : Step) (dst : Addr4) (from : Addr4) (port : ℕ) (src6 dst6 : Addr6) (freed : List Parcel) → AreRulesOf dmr (rules_of_step step) → dst.0 < 2 ^ 32
    → AnsweredOut step dst (Out from port src6 dst6 freed) → HoldsOut dmr from dst src6 dst6
holds_out dmr step dst from port src6 dst6 freed rules fits answered =
    let way = way_out step.prefix step.state step.moment answered.fault answered.proto answered.near (record { addr = dst; port = answered.port }) answered.flags answered.part freed from port src6 dst6 answered.is in
    let h = way.0 in
    let own = holder_holds (rules_of_step step).rules dmr step.prefix h rules.fit rules.valid.apart_dmr way.1 in
    record {
      source = ap (λ (a : Addr6). ipv4_behind dmr a.0) way.2.src_is ∙ own.0 ∙ ap (λ (a : Addr4). some_number a.0) (sym way.2.from_is);
      destination = ap (λ (a : Addr6). ipv4_behind dmr a.0) way.2.dst_is ∙ reached_holds (rules_of_step step) dmr dst.0 way.2.port rules fits;
    }
  where
    some_number : ℕ → Option ℕ
    some_number n = Some n

-- ---- what comes of a transfer

pub replaced_is : (p : Packet4) (ends : Ends Addr4) (src dst : Addr4) (content : Content4) → ends.src ≡ src → ends.dst ≡ dst → content_with ends p.content ≡ content
    → packet_with ends p ≡ record { head = record p.head { src = src; dst = dst }; content = content }
replaced_is p ends src dst content is_src is_dst is_content =
    ap (λ (a : Addr4). record { head = record p.head { src = a; dst = ends.dst }; content = content_with ends p.content }) is_src
    ∙ ap (λ (a : Addr4). record { head = record p.head { src = src; dst = a }; content = content_with ends p.content }) is_dst
    ∙ ap (λ (c : Content4). record { head = record p.head { src = src; dst = dst }; content = c }) is_content

-- ---- a crossing as a transfer

abbrev transfer : Setting → Passed → Ends Addr6 → Ends Addr4 → Transfer
transfer setting c six four = record {
  taken = c.taken;
  payload = payload_of4 c.taken.head c.octets;
  six = six;
  four = four;
  mtus = setting.mtus;
  number = setting.number;
}

taken_as : (setting : Setting) (c : Passed) (six : Ends Addr6) (four : Ends Addr4) → IsTaken4 c.taken c.octets → FitsEnds six → IsTakenAs (transfer setting c six four) c.octets
taken_as setting c six four taken fits = record { is = taken.is; payload = refl; fits = head_fits c.taken.head c.octets taken.are taken.is.is.fields; inner = content_fits c.taken.content c.taken.head.dst (within c.taken c.octets taken); six = fits }

pub back_with : (mtus domain_mtus : Mtus) (id : ℕ) (q : Packet6) (six four : List ℕ) (ends : Ends Addr4) → mtus ≡ domain_mtus
    → translation64 (record { mtus = mtus; ends = ends; id = id }) q.head (payload_of6 q.head six) q.content ≡ Some four → translation64 (record { mtus = domain_mtus; ends = ends; id = id }) q.head (payload_of6 q.head six) q.content ≡ Some four
back_with mtus domain_mtus id q six four ends one is = subst (λ (m : Mtus). translation64 (record { mtus = m; ends = ends; id = id }) q.head (payload_of6 q.head six) q.content ≡ Some four) one is

-- what goes over the access network is the packet, or one of its pieces
pub not_rigid : (a b : Bool) → (a || b) ≡ false → b ≡ false
not_rigid true b e = absurd (false≢true (sym e))
not_rigid false b e = e

sent_there : (t : Transfer) (passage : Passage) (portion : Portion) (six : List ℕ) → t.taken.head.id < 65536 → IsPassage46 t.mtus t.taken t.payload t.six passage → IsEmitted t.mtus passage portion six → IsSentThere t portion six
sent_there t (Sent octets) uncut six small is emitted = subst (λ (xs : List ℕ). IsThere t xs) emitted is.1
sent_there t (Cut pieces) (piece_at at) six small is emitted = record {
  octets = is.1.0;
  there = is.1.1;
  flows = not_rigid (not (is_fragment t.taken.head) && t.taken.head.df) (is_message4 t.taken.content) is.1.3;
  id = small;
  pieces = pieces;
  cut = is.1.4;
  k = emitted.0;
  piece = emitted.1;
  found = emitted.2;
  bytes = emitted.3;
  begins = emitted.4;
}
sent_there t (Sent octets) (piece_at at) six small is emitted = absurd emitted
sent_there t (Cut pieces) uncut six small is emitted = absurd emitted
sent_there t Spent portion six small is emitted = absurd emitted
sent_there t TooBig portion six small is emitted = absurd emitted

-- a later fragment is translated back with any ports
later_back : (mtus : Mtus) (id : ℕ) (q : Packet6) (six four : List ℕ) (src dst a b c d : Addr4) (ports others : Ports) (proto : Proto) → q.content ≡ Later6 proto
    → translation64 (record { mtus = mtus; ends = (record { src = src; dst = dst; inner_src = a; inner_dst = b; ports = ports }); id = id }) q.head (payload_of6 q.head six) q.content ≡ Some four
    → translation64 (record { mtus = mtus; ends = (record { src = src; dst = dst; inner_src = c; inner_dst = d; ports = others }); id = id }) q.head (payload_of6 q.head six) q.content ≡ Some four
later_back mtus id q six four src dst a b c d ports others proto later is =
    let plain = subst (λ (x : Content6). translation64 (record { mtus = mtus; ends = (record { src = src; dst = dst; inner_src = a; inner_dst = b; ports = ports }); id = id }) q.head (payload_of6 q.head six) x ≡ Some four) later is in
    subst (λ (x : Content6). translation64 (record { mtus = mtus; ends = (record { src = src; dst = dst; inner_src = c; inner_dst = d; ports = others }); id = id }) q.head (payload_of6 q.head six) x ≡ Some four) (sym later) plain

-- what the first node did, between these ends over IPv6
record IsThrough (setting : Setting) (c : Passed) (six : Ends Addr6) : Type 0 where
  taken : IsTaken4 c.taken c.octets
  fits : FitsEnds six
  passage : IsPassage46 setting.mtus c.taken (payload_of4 c.taken.head c.octets) six c.passage
  emitted : IsEmitted setting.mtus c.passage c.portion c.six

over : (setting : Setting) (c : Passed) (six : Ends Addr6) (four : Ends Addr4) → IsThrough setting c six → IsSentThere (transfer setting c six four) c.portion c.six
over setting c six four is = sent_there (transfer setting c six four) c.passage c.portion c.six (id_fits c.taken.head c.octets is.taken.are is.taken.is.is.fields) is.passage is.emitted

sees : (setting : Setting) (c : Passed) (six : Ends Addr6) (four : Ends Addr4) (at_relay : Bool) → IsThrough setting c six → IsPacket6 at_relay c.read c.six → Seen (transfer setting c six four) c.read
sees setting c six four at_relay is arrives = seen (transfer setting c six four) c.octets c.six c.portion at_relay c.read (taken_as setting c six four is.taken is.fits) (over setting c six four is) arrives

-- what the second node did, with this identification, between these ends over IPv4
record IsOn (setting : Setting) (c : Passed) (at_relay : Bool) (id : ℕ) : Type 0 where
  arrives : IsPacket6 at_relay c.read c.six
  numbered : IsNumbered setting c.read id
  lasts : 1 < c.read.head.hop

comes_of : (setting : Setting) (c : Passed) (six : Ends Addr6) (four : Ends Addr4) (at_relay : Bool) (id : ℕ) (src dst : Addr4) (content : Content4) → IsThrough setting c six → IsOn setting c at_relay id
    → translation64 (record { mtus = setting.mtus; ends = four; id = id }) c.read.head (payload_of6 c.read.head c.six) c.read.content ≡ Some c.four
    → four.src ≡ src → four.dst ≡ dst → Replaces c.taken.content four content → ComesOf (crossing_with setting c (record { head = record c.taken.head { src = src; dst = dst }; content = content })) c.portion c.four
comes_of setting c six four at_relay id src dst content is on makes is_src is_dst replaces =
    let t = transfer setting c six four in
    let back : IsBack t at_relay c.read c.six c.four = record { is = on.arrives; lasts = on.lasts; ports = replaces.fits; id = id; numbered = on.numbered; back = makes } in
    let comes = over_crosses t c.octets c.six c.four c.portion at_relay c.read (taken_as setting c six four is.taken is.fits) (over setting c six four is) back in
    subst (λ (r : Packet4). ComesOf (crossing_with setting c r) c.portion c.four) (replaced_is c.taken four src dst content is_src is_dst replaces.is) comes

-- ---- the ends of what an error embeds

pub ports_same : (content : Content4) (ports : Ports) → PortsAre content ports ports
ports_same (Segment proto l4) ports = refl
ports_same (Later proto) ports = tt
ports_same (Query m row) ports = refl
ports_same (Error m row inner) ports = refl

-- the source and the destination of an embedded packet, and else this
abbrev pub near_inner : Content4 → Addr4 → Addr4
near_inner (Error m row inner) other = inner.head.src
near_inner _ other = other

abbrev pub far_inner : Content4 → Addr4 → Addr4
far_inner (Error m row inner) other = inner.head.dst
far_inner _ other = other

pub out_given : (content : Content4) (ends : Ends Addr4) (from : Addr4) → ends.inner_src ≡ near_inner content from → ends.inner_dst ≡ from → InnerOut content ends from
out_given (Segment proto l4) ends from one other = tt
out_given (Later proto) ends from one other = tt
out_given (Query m row) ends from one other = tt
out_given (Error m row inner) ends from one other = (one, other)

pub in_given : (content : Content4) (ends : Ends Addr4) (to : Addr4) → ends.inner_src ≡ to → ends.inner_dst ≡ far_inner content to → InnerIn content ends to
in_given (Segment proto l4) ends to one other = tt
in_given (Later proto) ends to one other = tt
in_given (Query m row) ends to one other = tt
in_given (Error m row inner) ends to one other = (one, other)

pub both_ends : (content : Content4) (ends : Ends Addr4) (from to : Addr4) → ends.inner_src ≡ to → ends.inner_dst ≡ from → InnerBoth content ends from to
both_ends (Segment proto l4) ends from to one other = tt
both_ends (Later proto) ends from to one other = tt
both_ends (Query m row) ends from to one other = tt
both_ends (Error m row inner) ends from to one other = (one, other)

inner_out : (content : Content4) (ends : Ends Addr4) (from dst : Addr4) → FitsWithin content dst → ends.inner_src ≡ dst → ends.inner_dst ≡ from → InnerOut content ends from
inner_out (Segment proto l4) ends from dst inside one other = tt
inner_out (Later proto) ends from dst inside one other = tt
inner_out (Query m row) ends from dst inside one other = tt
inner_out (Error m row inner) ends from dst inside one other = (one ∙ sym inside.1, other)

-- the remote address of an error's flow, as the second node reads it
far_seen : (inner : Inner4) (six : Ends Addr6) (q : Packet6) → ReadsError inner six q.content → near_addr6 q q.content ≡ six.inner_dst
far_seen inner six q read = ap (λ (c : Content6). near_addr6 q c) read.is ∙ read.far

inner_in : (dmr : Dmr) (relay : Relay) (content : Content4) (src dst peer to : Addr4) (six : Ends Addr6) (ends : Ends Addr4) (q : Packet6) → relay.dmr ≡ dmr → six.inner_dst ≡ embedded_in relay.dmr (far_end src content) → FlowIs content six q.content
    → FitsWithin content dst → ipv4_behind dmr (near_addr6 q q.content).0 ≡ Some peer.0 → ends.inner_src ≡ to → ends.inner_dst ≡ peer → InnerIn content ends to
inner_in dmr relay (Segment proto l4) src dst peer to six ends q fixed is flow inside told one other = tt
inner_in dmr relay (Later proto) src dst peer to six ends q fixed is flow inside told one other = tt
inner_in dmr relay (Query m row) src dst peer to six ends q fixed is flow inside told one other = tt
inner_in dmr relay (Error m row inner) src dst peer to six ends q fixed is flow inside told one other =
    let at = embedded_in relay.dmr inner.head.dst in
    let found : ipv4_behind dmr at.0 ≡ Some peer.0 = subst (λ (a : Addr6). ipv4_behind dmr a.0 ≡ Some peer.0) (far_seen inner six q flow ∙ is) told in
    let holds : ipv4_behind dmr at.0 ≡ Some inner.head.dst.0 = subst (λ (d : Dmr). ipv4_behind d at.0 ≡ Some inner.head.dst.0) fixed (embedded_holds relay.dmr inner.head.dst.0 inside.0.dst) in
    (one, other ∙ one_behind dmr at.0 peer inner.head.dst found holds)

inner_both : (dmr : Dmr) (content : Content4) (from peer to : Addr4) (six : Ends Addr6) (ends : Ends Addr4) (q : Packet6) → ipv4_behind dmr six.inner_dst.0 ≡ Some from.0 → FlowIs content six q.content
    → ipv4_behind dmr (near_addr6 q q.content).0 ≡ Some peer.0 → ends.inner_src ≡ to → ends.inner_dst ≡ peer → InnerBoth content ends from to
inner_both dmr (Segment proto l4) from peer to six ends q holds flow told one other = tt
inner_both dmr (Later proto) from peer to six ends q holds flow told one other = tt
inner_both dmr (Query m row) from peer to six ends q holds flow told one other = tt
inner_both dmr (Error m row inner) from peer to six ends q holds flow told one other =
    let found : ipv4_behind dmr six.inner_dst.0 ≡ Some peer.0 = subst (λ (a : Addr6). ipv4_behind dmr a.0 ≡ Some peer.0) (far_seen inner six q flow) told in
    (one, other ∙ one_behind dmr six.inner_dst.0 peer from found holds)

-- ---- from an edge to the relay

through_out : (setting : Setting) (c : Passed) (from : Addr4) (port : ℕ) (src6 dst6 : Addr6) (freed : List Parcel) → IsTaken4 c.taken c.octets → FitsAnswer (Out from port src6 dst6 freed)
    → EdgeSends setting.mtus (Out from port src6 dst6 freed) c.taken c.octets c.passage → IsEmitted setting.mtus c.passage c.portion c.six → IsThrough setting c (ends_out (flow_of4 c.taken.content) port src6 dst6)
through_out setting c from port src6 dst6 freed taken fits sent emitted =
    let flow = flow_of4 c.taken.content in
    record {
      taken = taken;
      fits = record { src = fits.1; dst = fits.2; inner_src = fits.2; inner_dst = fits.1; ports = near_fits flow.proto flow.fault port flow.ports fits.0 (ports_fit c.taken c.octets taken) };
      passage = sent;
      emitted = emitted;
    }

pub to_relay : (setting : Setting) (step : Step) (answer : Answer) (relay : Relay) (c : Passed) → ToRelay setting step answer relay c → IsOneStep setting (answer ∷ []) c
to_relay setting step (Out from port src6 dst6 freed) relay c is =
    let p = c.taken in
    let q = c.read in
    let got = is.received in
    let flow4 = flow_of4 p.content in
    let six = ends_out flow4 port src6 dst6 in
    let plain = ends64 got.src got.dst got.ports in
    let given : Ends Addr4 = record { src = got.src; dst = got.dst; inner_src = near_inner p.content from; inner_dst = from; ports = six.ports } in
    let inside = within p c.octets is.taken in
    let through = through_out setting c from port src6 dst6 freed is.taken is.fits is.sent is.emitted in
    let saw = sees setting c six plain true through is.arrives in
    let are = ports_fit p c.octets is.taken in
    let holds = holds_out setting.dmr step p.head.dst from port src6 dst6 freed is.rules (dst_fits p.head c.octets is.taken.are is.taken.is.is.fields) is.answered in
    let source : ipv4_behind setting.dmr src6.0 ≡ Some got.src.0 = subst (λ (d : Dmr). ipv4_behind d src6.0 ≡ Some got.src.0) is.relay_is.dmr (subst (λ (a : Addr6). ipv4_behind relay.dmr a.0 ≡ Some got.src.0) saw.ends.src (sourced relay q.head.src (source_port (flow_of6 q.content).fault got.ports) got.src got.source)) in
    let destination : ipv4_behind setting.dmr dst6.0 ≡ Some got.dst.0 = subst (λ (d : Dmr). ipv4_behind d dst6.0 ≡ Some got.dst.0) is.relay_is.dmr (subst (λ (a : Addr6). ipv4_behind relay.dmr a.0 ≡ Some got.dst.0) saw.ends.dst (extracted_holds relay.dmr q.head.dst.0 got.dst.0 got.destination)) in
    let src = one_behind setting.dmr src6.0 got.src from source holds.source in
    let dst = one_behind setting.dmr dst6.0 got.dst p.head.dst destination holds.destination in
    let makes = back_with relay.params.mtus setting.mtus relay.id q c.six c.four plain is.relay_is.mtus got.is.1 in
    let on : IsOn setting c true relay.id = record { arrives = is.arrives; numbered = is.numbered; lasts = got.is.0 } in
    record {
      replaced = packet_from from port p;
      by_answers = refl;
      comes = elim saw.flow [
        | inl flow ↦ comes_of setting c six plain true relay.id from p.head.dst (content_from from port p.content) through on makes src dst
            (source_given p.content port from plain is.fits.0 are (read_near p.content port src6 dst6 q.content got.ports flow got.flow) (inner_out p.content plain from p.head.dst inside dst src))
        | inr later ↦ comes_of setting c six given true relay.id from p.head.dst (content_from from port p.content) through on
            (later_back setting.mtus relay.id q c.six c.four got.src got.dst got.dst got.src given.inner_src given.inner_dst got.ports six.ports later.0 later.1 makes) src dst (source_given p.content port from given is.fits.0 are (ports_same p.content six.ports) (out_given p.content given from refl refl))
      ];
    }
to_relay setting step (Turn from port freed) relay c is = absurd is.sent
to_relay setting step (In to port from peer freed) relay c is = absurd is.sent
to_relay setting step (Kept port until) relay c is = absurd is.sent
to_relay setting step Held relay c is = absurd is.sent
to_relay setting step (Refused cause freed) relay c is = absurd is.sent

-- ---- to an edge

-- the address that the edge finds behind the source
pub from_told : (setting : Setting) (step : Step) (q : Packet6) (to : Addr4) (port : ℕ) (from peer : Addr4) (freed : List Parcel) → AreRulesOf setting.dmr (rules_of_step step)
    → AnsweredIn step q.head.src (near_addr6 q q.content) (In to port from peer freed) → ipv4_behind setting.dmr q.head.src.0 ≡ Some from.0
from_told setting step q to port from peer freed rules answered =
    let way = way_in step.prefix step.state step.moment answered.fault answered.proto answered.port answered.dst q.head.src (near_addr6 q q.content) answered.far_port answered.flags answered.part freed to port from peer answered.is in
    behind_holds (rules_of_step step) setting.dmr q.head.src.0 way.port from rules.fixed way.from_is

-- and behind the remote address of its flow
peer_told : (setting : Setting) (step : Step) (q : Packet6) (to : Addr4) (port : ℕ) (from peer : Addr4) (freed : List Parcel) → AreRulesOf setting.dmr (rules_of_step step)
    → AnsweredIn step q.head.src (near_addr6 q q.content) (In to port from peer freed) → ipv4_behind setting.dmr (near_addr6 q q.content).0 ≡ Some peer.0
peer_told setting step q to port from peer freed rules answered =
    let way = way_in step.prefix step.state step.moment answered.fault answered.proto answered.port answered.dst q.head.src (near_addr6 q q.content) answered.far_port answered.flags answered.part freed to port from peer answered.is in
    behind_holds (rules_of_step step) setting.dmr (near_addr6 q q.content).0 way.port peer rules.fixed way.far_is

-- a later fragment has no ports, whatever those of its flow
abbrev pub own_ports : Content4 → Ports → Ports
own_ports (Later proto) ports = no_ports
own_ports content ports = ports

-- so it is translated without
with_own : (content : Content4) (mtus : Mtus) (head : Head4) (payload : List ℕ) (ends : Ends Addr6)
    → translation46 mtus head payload (record ends { ports = own_ports content ends.ports }) content ≡ translation46 mtus head payload ends content
with_own (Segment proto l4) mtus head payload ends = refl
with_own (Later proto) mtus head payload ends = refl
with_own (Query m row) mtus head payload ends = refl
with_own (Error m row inner) mtus head payload ends = refl

own_passage : (mtus : Mtus) (p : Packet4) (payload : List ℕ) (ends : Ends Addr6) (passage : Passage) → IsPassage46 mtus p payload ends passage
    → IsPassage46 mtus p payload (record ends { ports = own_ports p.content ends.ports }) passage
own_passage mtus p payload ends Spent is = is
own_passage mtus p payload ends (Sent octets) is = (is.0, with_own p.content mtus p.head payload ends ∙ is.1, is.2)
own_passage mtus p payload ends (Cut pieces) is = (is.0, (is.1.0, with_own p.content mtus p.head payload ends ∙ is.1.1, is.1.2, is.1.3, is.1.4))
own_passage mtus p payload ends TooBig is = (is.0, (is.1.0, with_own p.content mtus p.head payload ends ∙ is.1.1, is.1.2, is.1.3))

pub relay_passage : (relay : Relay) (mtus : Mtus) (p : Packet4) (octets : List ℕ) (own : Addr6) (ports : Ports) (passage : Passage) → relay.params.mtus ≡ mtus
    → IsPassage46 relay.params.mtus p (payload_of4 p.head octets) (ends46 relay p own ports) passage
    → IsPassage46 mtus p (payload_of4 p.head octets) (ends46 relay p own (own_ports p.content ports)) passage
relay_passage relay mtus p octets own ports passage same is =
    own_passage mtus p (payload_of4 p.head octets) (ends46 relay p own ports) passage (subst (λ (m : Mtus). IsPassage46 m p (payload_of4 p.head octets) (ends46 relay p own ports) passage) same is)

pub own_flow : (content : Content4) (ports : Ports) → ArePortsOf4 content ports → ArePortsOf4 content (own_ports content ports)
own_flow (Segment proto l4) ports flow = flow
own_flow (Later proto) ports flow = λ first. absurd (first proto refl)
own_flow (Query m row) ports flow = flow
own_flow (Error m row inner) ports flow = flow

-- the ends that the relay gives fit their fields
far_small : (content : Content4) (src dst : Addr4) → FitsWithin content dst → src.0 < 2 ^ 32 → (far_end src content).0 < 2 ^ 32
far_small (Segment proto l4) src dst inside small = small
far_small (Later proto) src dst inside small = small
far_small (Query m row) src dst inside small = small
far_small (Error m row inner) src dst inside small = inside.0.dst

own_fit : (content : Content4) (ports : Ports) → ArePorts (flow_of4 content).ports → ArePortsOf4 content ports → ArePorts (own_ports content ports)
own_fit (Segment proto l4) ports are flow = subst (λ (p : Ports). ArePorts p) (sym (flow (λ other later. cc))) are
own_fit (Later proto) ports are flow = are
own_fit (Query m row) ports are flow = subst (λ (p : Ports). ArePorts p) (sym (flow (λ other later. cc))) are
own_fit (Error m row inner) ports are flow = subst (λ (p : Ports). ArePorts p) (sym (flow (λ other later. cc))) are

pub relay_ends_fit : (relay : Relay) (p : Packet4) (octets : List ℕ) (passage : Passage) → FitBook relay.rules relay.dmr → IsTaken4 p octets → (sent : RelaySends relay p octets passage)
    → FitsEnds (ends46 relay p sent.own (own_ports p.content sent.ports))
relay_ends_fit relay p octets passage fit taken sent =
    let src = src_fits p.head octets taken.are taken.is.is.fields in
    let own = owned_small relay.rules p.head.dst.0 (destination_port (flow_of4 p.content).fault sent.ports) sent.own.0 (dst_fits p.head octets taken.are taken.is.is.fields) fit.each sent.owned in
    record {
      src = embedded_small relay.dmr p.head.src.0 fit.default src;
      dst = own;
      inner_src = own;
      inner_dst = embedded_small relay.dmr (far_end p.head.src p.content).0 fit.default (far_small p.content p.head.src p.head.dst (within p octets taken) src);
      ports = own_fit p.content sent.ports (ports_fit p octets taken) sent.flow;
    }

pub from_relay : (setting : Setting) (relay : Relay) (step : Step) (answer : Answer) (c : Passed) → FromRelay setting relay step answer c → IsOneStep setting (answer ∷ []) c
from_relay setting relay step (In to port from peer freed) c is =
    let p = c.taken in
    let q = c.read in
    let flow4 = flow_of4 p.content in
    let ports = is.sent.ports in
    let six = ends46 relay p is.sent.own (own_ports p.content ports) in
    let plain = ends_in (flow_of6 q.content) to port from peer in
    let given : Ends Addr4 = record { src = from; dst = to; inner_src = to; inner_dst = far_inner p.content to; ports = with_far_port flow4.proto flow4.fault port six.ports } in
    let inside = within p c.octets is.taken in
    let ends = relay_ends_fit relay p c.octets c.passage is.relay_fits is.taken is.sent in
    let through : IsThrough setting c six = record { taken = is.taken; fits = ends; passage = relay_passage relay setting.mtus p c.octets is.sent.own ports c.passage is.relay_is.mtus is.sent.is; emitted = is.emitted } in
    let saw = sees setting c six plain false through is.arrives in
    let small = src_fits p.head c.octets is.taken.are is.taken.is.is.fields in
    let told : ipv4_behind setting.dmr (embedded_in relay.dmr p.head.src).0 ≡ Some from.0 = subst (λ (a : Addr6). ipv4_behind setting.dmr a.0 ≡ Some from.0) saw.ends.src (from_told setting step q to port from peer freed is.rules is.answered) in
    let holds : ipv4_behind setting.dmr (embedded_in relay.dmr p.head.src).0 ≡ Some p.head.src.0 = subst (λ (d : Dmr). ipv4_behind d (embedded_in relay.dmr p.head.src).0 ≡ Some p.head.src.0) is.relay_is.dmr (embedded_holds relay.dmr p.head.src.0 small) in
    let src = one_behind setting.dmr (embedded_in relay.dmr p.head.src).0 from p.head.src told holds in
    let makes = is.received.1 in
    let on : IsOn setting c false is.id = record { arrives = is.arrives; numbered = is.numbered; lasts = is.received.0 } in
    let own = own_flow p.content ports is.sent.flow in
    record {
      replaced = packet_to to port p;
      by_answers = refl;
      comes = elim saw.flow [
        | inl flow ↦ comes_of setting c six plain false is.id p.head.src to (content_to to port p.content) through on makes src refl
            (destination_given p.content six.ports port to plain is.fits ends.ports own (read_far p.content six port q.content flow) (inner_in setting.dmr relay p.content p.head.src p.head.dst peer to six plain q is.relay_is.dmr refl flow inside (peer_told setting step q to port from peer freed is.rules is.answered) refl refl))
        | inr later ↦ comes_of setting c six given false is.id p.head.src to (content_to to port p.content) through on
            (later_back setting.mtus is.id q c.six c.four from to to peer to given.inner_dst plain.ports given.ports later.0 later.1 makes) src refl (destination_given p.content six.ports port to given is.fits ends.ports own (ports_same p.content given.ports) (in_given p.content given to refl refl))
      ];
    }
from_relay setting relay step (Out from port src6 dst6 freed) c is = absurd is.received
from_relay setting relay step (Turn from port freed) c is = absurd is.received
from_relay setting relay step (Kept port until) c is = absurd is.received
from_relay setting relay step Held c is = absurd is.received
from_relay setting relay step (Refused cause freed) c is = absurd is.received

pub edge_to_edge : (setting : Setting) (one other : EdgeAnswer) (c : Passed) → EdgeToEdge setting one other c → IsOneStep setting (one.answer ∷ other.answer ∷ []) c
edge_to_edge setting one other c is = by one.answer other.answer is.out is.fits_out is.sent is.inward is.fits_in is.received
  where
    by : (out inward : Answer) → AnsweredOut one.step c.taken.head.dst out → FitsAnswer out → EdgeSends setting.mtus out c.taken c.octets c.passage
        → AnsweredIn other.step c.read.head.src (near_addr6 c.read c.read.content) inward → FitsAnswer inward → EdgeReceives (record { mtus = setting.mtus; id = is.id }) inward c.read c.six (Sent c.four)
        → IsOneStep setting (out ∷ inward ∷ []) c
    by (Out out_from out_port src6 dst6 out_freed) (In to port from peer freed) answered fits sent answered_in fits_in received =
        let p = c.taken in
        let q = c.read in
        let flow4 = flow_of4 p.content in
        let six = ends_out flow4 out_port src6 dst6 in
        let plain = ends_in (flow_of6 q.content) to port from peer in
        let given : Ends Addr4 = record { src = from; dst = to; inner_src = to; inner_dst = out_from; ports = with_far_port flow4.proto flow4.fault port six.ports } in
        let through = through_out setting c out_from out_port src6 dst6 out_freed is.taken fits sent is.emitted in
        let saw = sees setting c six plain false through is.arrives in
        let are = ports_fit p c.octets is.taken in
        let holds = holds_out setting.dmr one.step p.head.dst out_from out_port src6 dst6 out_freed is.rules_out (dst_fits p.head c.octets is.taken.are is.taken.is.is.fields) answered in
        let told : ipv4_behind setting.dmr src6.0 ≡ Some from.0 = subst (λ (a : Addr6). ipv4_behind setting.dmr a.0 ≡ Some from.0) saw.ends.src (from_told setting other.step q to port from peer freed is.rules_in answered_in) in
        let src = one_behind setting.dmr src6.0 from out_from told holds.source in
        let content = content_to to port (content_from out_from out_port p.content) in
        let makes = received.1 in
        let on : IsOn setting c false is.id = record { arrives = is.arrives; numbered = is.numbered; lasts = received.0 } in
        record {
          replaced = packet_to to port (packet_from out_from out_port p);
          by_answers = refl;
          comes = elim saw.flow [
            | inl flow ↦ comes_of setting c six plain false is.id out_from to content through on makes src refl
                (both_given p.content out_port port out_from to plain fits.0 fits_in are (read_far p.content six port q.content flow) (inner_both setting.dmr p.content out_from peer to six plain q holds.source flow (peer_told setting other.step q to port from peer freed is.rules_in answered_in) refl refl))
            | inr later ↦ comes_of setting c six given false is.id out_from to content through on
                (later_back setting.mtus is.id q c.six c.four from to to peer to out_from plain.ports given.ports later.0 later.1 makes) src refl (both_given p.content out_port port out_from to given fits.0 fits_in are (ports_same p.content given.ports) (both_ends p.content given out_from to refl refl))
          ];
        }
    by (Out out_from out_port src6 dst6 out_freed) (Out from port src dst freed) answered fits sent answered_in fits_in received = absurd received
    by (Out out_from out_port src6 dst6 out_freed) (Turn from port freed) answered fits sent answered_in fits_in received = absurd received
    by (Out out_from out_port src6 dst6 out_freed) (Kept port until) answered fits sent answered_in fits_in received = absurd received
    by (Out out_from out_port src6 dst6 out_freed) Held answered fits sent answered_in fits_in received = absurd received
    by (Out out_from out_port src6 dst6 out_freed) (Refused cause freed) answered fits sent answered_in fits_in received = absurd received
    by (In to port from peer freed) inward answered fits sent answered_in fits_in received = absurd sent
    by (Turn from port freed) inward answered fits sent answered_in fits_in received = absurd sent
    by (Kept port until) inward answered fits sent answered_in fits_in received = absurd sent
    by Held inward answered fits sent answered_in fits_in received = absurd sent
    by (Refused cause freed) inward answered fits sent answered_in fits_in received = absurd sent
