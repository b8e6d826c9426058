-- Each packet that a hop sends on is that of one packet of the hop.
use Rattle.std.proofs.Common.{◌≡◌, ◌≢◌, ◌⊎◌, ℕ, zero, suc, ◌*◌, Bool, true, false, cond, not, List, [], ◌∷◌, ◌++◌, map, Option, Some, None, inl, inr, refl, sym, ◌∙◌, subst}
use Rattle.std.specs.Prelude.{slice_get, ◌==◌}
use Rattle.std.proofs.lemmas.Bool.{false≢true}
use Rattle.octets.specs.declared.cause.Cause.{Cause}
use Rattle.octets.specs.declared.cause.Cause.TheVariants.{TtlSpent, TooBig as IsTooBig, NoOwner, Spoofed, NotDefault, FragmentsFull}
use Rattle.octets.specs.declared.mtus.Mtus.{Mtus}
use Rattle.octets.specs.declared.parcel.Parcel.{Parcel}
use Rattle.octets.specs.declared.proto.Proto.{Proto}
use Rattle.octets.specs.declared.address.Addr4.{Addr4}
use Rattle.octets.specs.declared.address.Addr6.{Addr6}
use Rattle.ip4_packet.specs.declared.head.Head4.{Head4}
use Rattle.ip4_packet.specs.Grammar.{payload_of4}
use Rattle.ip6_packet.specs.declared.head.Head6.{Head6}
use Rattle.ip6_packet.specs.Grammar.{payload_of6}
use Rattle.ip6_packet.specs.Fragment.{fragment_offset, more_fragments}
use Rattle.ip6_packet.proofs.EmbeddedLemmas.{same_headers6, headers_of6}
use Rattle.l4_headers.specs.declared.ports.Ports.{Ports}
use Rattle.frag_table.specs.declared.key.FragKey.{FragKey}
use Rattle.frag_table.specs.declared.answer.FragAnswer.{FragAnswer}
use Rattle.frag_table.specs.declared.answer.FragAnswer.TheVariants.{Noted, Known, Held, Released, Full}
use Rattle.nat_model.specs.declared.answer.Answer.{Answer}
use Rattle.nat_model.specs.declared.answer.Answer.TheVariants.{Out as LetOut, Turn as TurnedBack, In as LetIn, Kept, Held as HeldBack, Refused}
use Rattle.nat_model.specs.Waiting.{freed_of}
use Rattle.hops.specs.declared.hop.Hop.{Hop}
use Rattle.hops.specs.declared.hop.Out.{Out}
use Rattle.hops.specs.declared.hop.Out.TheVariants.{Lan as OnLan, Access as OnAccess, Core as InCore, Turn as ToTurn}
use Rattle.packet_faults.specs.Cut.{step_of}
use Rattle.packets.specs.declared.asked.Extent.{Extent}
use Rattle.packets.specs.declared.asked.Extent.TheVariants.{Whole, First, Later}
use Rattle.packets.specs.declared.found.Found.{Found}
use Rattle.packets.specs.declared.found.Found.TheVariants.{Taken as TakenAs, Unreadable, Dropped}
use Rattle.packets.specs.Found.{IsFound4, IsFound6}
use Rattle.packets.specs.declared.packet4.Content4.{Content4}
use Rattle.packets.specs.declared.packet4.Content4.TheVariants.{Segment as Segment4, Later as Later4, Query as Query4, Error as Error4}
use Rattle.packets.specs.declared.packet4.Packet4.{Packet4}
use Rattle.packets.specs.declared.packet6.Content6.{Content6}
use Rattle.packets.specs.declared.packet6.Content6.TheVariants.{Segment as Segment6, Later as Later6, Query as Query6, Error as Error6}
use Rattle.packets.specs.declared.packet6.Packet6.{Packet6}
use Rattle.packets.specs.Asked.{flow_of4, flow_of6, extent_of, extent_of4, extent_of6, key_of4, key_of6}
use Rattle.packets.specs.Packet4.{IsPacket4, IsContent4}
use Rattle.packets.specs.Packet6.{IsPacket6, IsContent6}
use Rattle.hops.specs.declared.exit.Exit.{Exit}
use Rattle.hops.specs.declared.exit.Exit.TheVariants.{ToLan, ToAccess, ToCore, ToItself}
use Rattle.transit.specs.declared.passage.Passage.{Passage}
use Rattle.transit.specs.declared.passage.Passage.TheVariants.{Sent, Cut, Spent, TooBig}
use Rattle.hops.specs.Hop.{leaving, nothing, sends, sends_pieces, drops, then, IsCarried, AreFreed, IsMade, lost}
use Rattle.edge_node.specs.declared.way.EdgeParams.{EdgeParams}
use Rattle.edge_node.specs.declared.way.Way.TheVariants.{Lan, Access}
use Rattle.turned_packets.specs.Turned.{turned_out}
use Rattle.edge_node.specs.Hop.{Drops, Becomes, Own, IsLaterAt, IsEdgeHop}
use Rattle.relay_node.specs.Asked.{asked, from_access, from_ipv4, MayBeTold, IsTold}
use Rattle.relay_node.specs.Relay.{Relay, source_port, destination_port, own_of, extracted, source_addr, exit_of}
use Rattle.relay_node.specs.FromAccess.{IsPassed6, Becomes6, IsSent6, IsRefused6, IsLaterFragment6, IsOne6, AreFreed6}
use Rattle.relay_node.specs.FromIpv4.{ends46, IsPassed4, Becomes4, IsSent4, IsRefused4, IsLaterFragment4, IsOne4, AreFreed4}
use Rattle.relay_node.specs.Hop.{IsAnswered, IsTaken4, IsTaken6, IsRelayHop}
use Rattle.rule_book.specs.Owner.{covers_of}
use Rattle.map_rules.specs.declared.rule.Rule.{Rule}
use Rattle.crossing.specs.Named.{Portion, uncut, piece_at}
use Rattle.crossing.proofs.Heads.{whole_parts}
use Rattle.trace_text.specs.Hops.{EdgeReceives, Station, IsEmitted, RelayReceives, ArePortsOf4, ArePortsOf6}
use Rattle.trace_text.specs.Onward.{freed_with, IsOfHop, EdgeEmits, RelayEmits, EdgeDelivers, RelayDelivers, IsOnIpv4}

-- ---- packets of a list

none_of : (k : ℕ) (x : Out) → slice_get [] k ≡ Some x → ⊥
none_of zero x e = cc
none_of (suc k) x e = cc

same_out : (x y : Out) → ◌≡◌ {A = Option Out} (Some x) (Some y) → x ≡ y
same_out x y e = cc

alone : (x y : Out) (k : ℕ) → slice_get (x ∷ []) k ≡ Some y → x ≡ y
alone x y zero e = same_out x y e
alone x y (suc k) e = absurd (none_of k y e)

of_then : (xs ys : List Out) (k : ℕ) (out : Out) → slice_get (xs ++ ys) k ≡ Some out → (slice_get xs k ≡ Some out) ⊎ ((j : ℕ) × (slice_get ys j ≡ Some out))
of_then [] ys k out e = inr (k, e)
of_then (x ∷ xs) ys zero out e = inl e
of_then (x ∷ xs) ys (suc k) out e = of_then xs ys k out e

piece_of : (exit : Exit) (pieces : List Parcel) (k : ℕ) (out : Out) → slice_get (map (λ piece. leaving exit piece.bytes) pieces) k ≡ Some out
    → (piece : Parcel) × (slice_get pieces k ≡ Some piece) × (leaving exit piece.bytes ≡ out)
piece_of exit [] k out e = absurd (none_of k out e)
piece_of exit (p ∷ pieces) zero out e = (p, refl, same_out (leaving exit p.bytes) out e)
piece_of exit (p ∷ pieces) (suc k) out e = piece_of exit pieces k out e

-- an answer to a dropped packet leaves by its own exit
reply_of : (cause : Cause) (exit : Exit) (reply : Option (List ℕ)) (k : ℕ) (out : Out) → slice_get (drops cause exit reply).outs k ≡ Some out → (octets : List ℕ) × (leaving exit octets ≡ out)
reply_of cause exit None k out e = absurd (none_of k out e)
reply_of cause exit (Some octets) k out e = (octets, alone (leaving exit octets) out k e)

-- an out of a hop that is this one
out_of : (hop this : Hop) (k : ℕ) (out : Out) → hop ≡ this → slice_get hop.outs k ≡ Some out → slice_get this.outs k ≡ Some out
out_of hop this k out is e = subst (λ (h : Hop). slice_get h.outs k ≡ Some out) is e

-- octets by the way that they leave
access_octets : (a b : List ℕ) → OnAccess a ≡ OnAccess b → a ≡ b
access_octets a b e = cc

lan_octets : (a b : List ℕ) → OnLan a ≡ OnLan b → a ≡ b
lan_octets a b e = cc

core_octets : (a b : List ℕ) → InCore a ≡ InCore b → a ≡ b
core_octets a b e = cc

turn_octets : (a b : List ℕ) → ToTurn a ≡ ToTurn b → a ≡ b
turn_octets a b e = cc

lan_or_access : (a b : List ℕ) → OnLan a ≡ OnAccess b → ⊥
lan_or_access a b e = cc

access_or_lan : (a b : List ℕ) → OnAccess a ≡ OnLan b → ⊥
access_or_lan a b e = cc

turn_or_access : (a b : List ℕ) → ToTurn a ≡ OnAccess b → ⊥
turn_or_access a b e = cc

core_or_access : (a b : List ℕ) → InCore a ≡ OnAccess b → ⊥
core_or_access a b e = cc

-- ---- fragments that were freed

record FreedOut (IsLater : List ℕ → Type 0) (OnePart : List ℕ → Hop → Type 0) (parcels : List Parcel) (out : Out) : Type 0 where
  place : ℕ
  parcel : Parcel
  found : slice_get parcels place ≡ Some parcel
  later : IsLater parcel.bytes
  hop : Hop
  becomes : OnePart parcel.bytes hop
  at : ℕ
  sent : slice_get hop.outs at ≡ Some out

freed_out : (IsLater : List ℕ → Type 0) (OnePart : List ℕ → Hop → Type 0) (parcels : List Parcel) (hop : Hop) (k : ℕ) (out : Out) → AreFreed IsLater OnePart parcels hop → slice_get hop.outs k ≡ Some out
    → FreedOut IsLater OnePart parcels out
freed_out IsLater OnePart [] hop k out is e = absurd (none_of k out (out_of hop nothing k out is e))
freed_out IsLater OnePart (p ∷ parcels) hop k out is e =
    let one : Hop = is.0 in
    let others : Hop = is.1 in
    elim (of_then one.outs others.outs k out (out_of hop (then one others) k out is.4 e)) [
      | inl here ↦ first is.2 here
      | inr there ↦ next (freed_out IsLater OnePart parcels others there.0 out is.3 there.1)
    ]
  where
    first : (IsLater p.bytes × OnePart p.bytes is.0) ⊎ ((IsLater p.bytes → ⊥) × (is.0 ≡ nothing)) → slice_get (is.0).outs k ≡ Some out → FreedOut IsLater OnePart (p ∷ parcels) out
    first (inl taken) here = record { place = 0; parcel = p; found = refl; later = taken.0; hop = is.0; becomes = taken.1; at = k; sent = here }
    first (inr over) here = absurd (none_of k out (out_of is.0 nothing k out over.1 here))

    next : FreedOut IsLater OnePart parcels out → FreedOut IsLater OnePart (p ∷ parcels) out
    next f = record { place = suc f.place; parcel = f.parcel; found = f.found; later = f.later; hop = f.hop; becomes = f.becomes; at = f.at; sent = f.sent }

-- ---- a packet that is carried over IPv6

carried_over : (Loses : Cause → Hop → Type 0) (mtus : Mtus) (passage : Passage) (hop : Hop) (k : ℕ) (six : List ℕ) → ((cause : Cause) → Loses cause hop → slice_get hop.outs k ≡ Some (OnAccess six) → ⊥)
    → IsCarried Loses ToAccess passage hop → slice_get hop.outs k ≡ Some (OnAccess six) → (portion : Portion) × IsEmitted mtus passage portion six
carried_over Loses mtus (Sent octets) hop k six never is e =
    (uncut, access_octets octets six (alone (OnAccess octets) (OnAccess six) k (out_of hop (sends ToAccess octets) k (OnAccess six) is e)))
carried_over Loses mtus (Cut pieces) hop k six never is e =
    let found = piece_of ToAccess pieces k (OnAccess six) (out_of hop (sends_pieces ToAccess pieces) k (OnAccess six) is e) in
    (piece_at (k * step_of mtus.mtu6), (k, found.0, found.1, access_octets (found.0).bytes six found.2, refl))
carried_over Loses mtus Spent hop k six never is e = absurd (never TtlSpent is e)
carried_over Loses mtus TooBig hop k six never is e = absurd (never IsTooBig is e)

-- ---- an edge, from its LAN

lost_over : (cause : Cause) (hop : Hop) (k : ℕ) (out : Out) → hop ≡ lost cause → slice_get hop.outs k ≡ Some out → ⊥
lost_over cause hop k out is e = none_of k out (out_of hop (lost cause) k out is e)

lan_drops : (params : EdgeParams) (id : ℕ) (octets six : List ℕ) (cause : Cause) (hop : Hop) (k : ℕ) → Drops (record { params = params; id = id }) Lan octets cause hop → slice_get hop.outs k ≡ Some (OnAccess six) → ⊥
lan_drops params id octets six cause hop k (inl unanswered) e = lost_over cause hop k (OnAccess six) unanswered.1 e
lan_drops params id octets six cause hop k (inr (h, has, (reply, answer, is))) e =
    let told = reply_of cause ToLan reply k (OnAccess six) (out_of hop (drops cause ToLan reply) k (OnAccess six) is e) in
    lan_or_access told.0 six told.1

lan_emits : (params : EdgeParams) (id : ℕ) (answer : Answer) (octets six : List ℕ) (hop : Hop) (k : ℕ) → Becomes (record { params = params; id = id }) Lan answer octets hop → slice_get hop.outs k ≡ Some (OnAccess six) → EdgeEmits params.mtus answer octets six
lan_emits params id (LetOut from port src6 dst6 freed) octets six hop k is e =
    let over = carried_over (Drops (record { params = params; id = id }) Lan octets) params.mtus is.2.0 hop k six (λ cause dropped at. lan_drops params id octets six cause hop k dropped at) is.2.2 e in
    record { taken = is.0; is = is.1; passage = is.2.0; sent = is.2.1; portion = over.0; emitted = over.1 }
lan_emits params id (TurnedBack from port freed) octets six hop k is e =
    let new : List ℕ = turned_out from port is.0 octets in
    absurd (elim is.2 [
      | inl spent ↦ lan_drops params id octets six TtlSpent hop k spent.1 e
      | inr turned ↦ turn_or_access new six (alone (ToTurn new) (OnAccess six) k (out_of hop (sends ToItself new) k (OnAccess six) turned.1 e))
    ])
lan_emits params id (LetIn to port from peer freed) octets six hop k is e = absurd is.2
lan_emits params id (Kept port until) octets six hop k is e = absurd is.2
lan_emits params id HeldBack octets six hop k is e = absurd (none_of k (OnAccess six) (out_of hop nothing k (OnAccess six) is.2 e))
lan_emits params id (Refused cause freed) octets six hop k is e = absurd (lan_drops params id octets six cause hop k is.2 e)

pub edge_emits : (params : EdgeParams) (id : ℕ) (answer : Answer) (octets six : List ℕ) (hop : Hop) (k : ℕ) → IsEdgeHop (record { params = params; id = id }) Lan answer octets hop → slice_get hop.outs k ≡ Some (OnAccess six)
    → (one : List ℕ) × IsOfHop (IsLaterAt Lan) octets (freed_of answer) one × EdgeEmits params.mtus answer one six
edge_emits params id answer octets six hop k is e =
    let own : Hop = is.0 in
    let others : Hop = is.1 in
    elim (of_then own.outs others.outs k (OnAccess six) (out_of hop (then own others) k (OnAccess six) is.4 e)) [
      | inl here ↦ own_part is.2 here
      | inr there ↦ freed_part (freed_out (IsLaterAt Lan) (Becomes (record { params = params; id = id }) Lan answer) (freed_of answer) others there.0 (OnAccess six) is.3 there.1)
    ]
  where
    own_part : Own (record { params = params; id = id }) Lan answer octets is.0 → slice_get (is.0).outs k ≡ Some (OnAccess six) → (one : List ℕ) × IsOfHop (IsLaterAt Lan) octets (freed_of answer) one × EdgeEmits params.mtus answer one six
    own_part (inl becomes) here = (octets, inl refl, lan_emits params id answer octets six is.0 k becomes here)
    own_part (inr dropped) here = absurd (lan_drops params id octets six dropped.0 is.0 k dropped.3 here)

    freed_part : FreedOut (IsLaterAt Lan) (Becomes (record { params = params; id = id }) Lan answer) (freed_of answer) (OnAccess six) → (one : List ℕ) × IsOfHop (IsLaterAt Lan) octets (freed_of answer) one × EdgeEmits params.mtus answer one six
    freed_part f = ((f.parcel).bytes, inr (f.later, (f.place, f.parcel, f.found, refl)), lan_emits params id answer (f.parcel).bytes six f.hop f.at f.becomes f.sent)

-- ---- an edge, from the access network

access_drops : (params : EdgeParams) (id : ℕ) (octets four : List ℕ) (cause : Cause) (hop : Hop) (k : ℕ) → Drops (record { params = params; id = id }) Access octets cause hop → slice_get hop.outs k ≡ Some (OnLan four) → ⊥
access_drops params id octets four cause hop k (inl unanswered) e = lost_over cause hop k (OnLan four) unanswered.1 e
access_drops params id octets four cause hop k (inr (h, has, (reply, answer, is))) e =
    let told = reply_of cause ToAccess reply k (OnLan four) (out_of hop (drops cause ToAccess reply) k (OnLan four) is e) in
    access_or_lan told.0 four told.1

abbrev station_of : EdgeParams → ℕ → Station
station_of params id = record { mtus = params.mtus; id = id }

access_delivers : (params : EdgeParams) (id : ℕ) (answer : Answer) (octets four : List ℕ) (hop : Hop) (k : ℕ) → Becomes (record { params = params; id = id }) Access answer octets hop → slice_get hop.outs k ≡ Some (OnLan four) → EdgeDelivers (station_of params id) answer octets four
access_delivers params id (LetIn to port from peer freed) octets four hop k is e = by is.2.0 is.2.1 is.2.2
  where
    by : (passage : Passage) → EdgeReceives (record { mtus = params.mtus; id = id }) (LetIn to port from peer freed) is.0 octets passage → IsCarried (Drops (record { params = params; id = id }) Access octets) ToLan passage hop → EdgeDelivers (station_of params id) (LetIn to port from peer freed) octets four
    by (Sent sent) received carried =
        let same = lan_octets sent four (alone (OnLan sent) (OnLan four) k (out_of hop (sends ToLan sent) k (OnLan four) carried e)) in
        record { read = is.0; arrives = is.1; received = subst (λ (xs : List ℕ). EdgeReceives (record { mtus = params.mtus; id = id }) (LetIn to port from peer freed) is.0 octets (Sent xs)) same received }
    by (Cut pieces) received carried = absurd received
    by Spent received carried = absurd (access_drops params id octets four TtlSpent hop k carried e)
    by TooBig received carried = absurd (access_drops params id octets four IsTooBig hop k carried e)
access_delivers params id (LetOut from port src6 dst6 freed) octets four hop k is e = absurd is.2
access_delivers params id (TurnedBack from port freed) octets four hop k is e = absurd is.2
access_delivers params id (Kept port until) octets four hop k is e = absurd is.2
access_delivers params id HeldBack octets four hop k is e = absurd (none_of k (OnLan four) (out_of hop nothing k (OnLan four) is.2 e))
access_delivers params id (Refused cause freed) octets four hop k is e = absurd (access_drops params id octets four cause hop k is.2 e)

pub edge_delivers : (params : EdgeParams) (id : ℕ) (answer : Answer) (octets four : List ℕ) (hop : Hop) (k : ℕ) → IsEdgeHop (record { params = params; id = id }) Access answer octets hop → slice_get hop.outs k ≡ Some (OnLan four)
    → (one : List ℕ) × IsOfHop (IsLaterAt Access) octets (freed_of answer) one × EdgeDelivers (station_of params id) answer one four
edge_delivers params id answer octets four hop k is e =
    let own : Hop = is.0 in
    let others : Hop = is.1 in
    elim (of_then own.outs others.outs k (OnLan four) (out_of hop (then own others) k (OnLan four) is.4 e)) [
      | inl here ↦ own_part is.2 here
      | inr there ↦ freed_part (freed_out (IsLaterAt Access) (Becomes (record { params = params; id = id }) Access answer) (freed_of answer) others there.0 (OnLan four) is.3 there.1)
    ]
  where
    own_part : Own (record { params = params; id = id }) Access answer octets is.0 → slice_get (is.0).outs k ≡ Some (OnLan four) → (one : List ℕ) × IsOfHop (IsLaterAt Access) octets (freed_of answer) one × EdgeDelivers (station_of params id) answer one four
    own_part (inl becomes) here = (octets, inl refl, access_delivers params id answer octets four is.0 k becomes here)
    own_part (inr dropped) here = absurd (access_drops params id octets four dropped.0 is.0 k dropped.3 here)

    freed_part : FreedOut (IsLaterAt Access) (Becomes (record { params = params; id = id }) Access answer) (freed_of answer) (OnLan four) → (one : List ℕ) × IsOfHop (IsLaterAt Access) octets (freed_of answer) one × EdgeDelivers (station_of params id) answer one four
    freed_part f = ((f.parcel).bytes, inr (f.later, (f.place, f.parcel, f.found, refl)), access_delivers params id answer (f.parcel).bytes four f.hop f.at f.becomes f.sent)

-- ---- later fragments, by their offset

not_first : (offset : ℕ) (more : Bool) → extent_of offset more ≡ Later → (offset == 0) ≡ false
not_first offset more e = by (offset == 0) more e
  where
    by : (zero_offset m : Bool) → cond (not zero_offset) Later (cond m First Whole) ≡ Later → zero_offset ≡ false
    by false m is = refl
    by true true is = absurd (let h : First ≡ Later = is in cc)
    by true false is = absurd (let h : Whole ≡ Later = is in cc)

not_zero : (offset : ℕ) → (offset == 0) ≡ false → offset ≢ 0
not_zero offset e none = false≢true (sym (subst (λ (n : ℕ). (n == 0) ≡ false) none e))

later_content4 : (h : Head4) (payload : List ℕ) (content : Content4) → (h.offset == 0) ≡ false → IsContent4 h payload content → (proto : Proto) × (content ≡ Later4 proto)
later_content4 h payload (Segment4 proto l4) e has = absurd (not_zero h.offset e has.first)
later_content4 h payload (Later4 proto) e has = (proto, refl)
later_content4 h payload (Query4 m row) e has = absurd (not_zero h.offset e (whole_parts h.mf h.offset has.0.whole).1)
later_content4 h payload (Error4 m row inner) e has = absurd (not_zero h.offset e (whole_parts h.mf h.offset has.message.whole).1)

later_content6 : (at_relay : Bool) (h : Head6) (payload : List ℕ) (content : Content6) → (fragment_offset h.frag == 0) ≡ false → IsContent6 at_relay h payload content → (proto : Proto) × (content ≡ Later6 proto)
later_content6 at_relay h payload (Segment6 proto l4) e has = absurd (not_zero (fragment_offset h.frag) e has.first)
later_content6 at_relay h payload (Later6 proto) e has = (proto, refl)
later_content6 at_relay h payload (Query6 m row) e has = absurd (has.0.whole (inr (not_zero (fragment_offset h.frag) e)))
later_content6 at_relay h payload (Error6 m row inner) e has = absurd (has.message.whole (inr (not_zero (fragment_offset h.frag) e)))

-- the ports of its flow are then any
ports_later4 : (p : Packet4) (octets : List ℕ) (ports : Ports) → (p.head.offset == 0) ≡ false → IsPacket4 p octets → ArePortsOf4 p.content ports
ports_later4 p octets ports e packet =
    let later = later_content4 p.head (payload_of4 p.head octets) p.content e packet.content in
    λ first. absurd (first later.0 later.1)

ports_later6 : (p : Packet6) (octets : List ℕ) (ports : Ports) → (fragment_offset p.head.frag == 0) ≡ false → IsPacket6 true p octets → ArePortsOf6 p.content ports
ports_later6 p octets ports e packet =
    let later = later_content6 true p.head (payload_of6 p.head octets) p.content e packet.content in
    λ first. absurd (first later.0 later.1)

-- ---- the relay, from IPv4

abbrev says_known : Ports → Option FragAnswer
says_known first = Some (Known first)

known_later : (extent : Extent) (key : FragKey) (ports first : Ports) (octets : List ℕ) → MayBeTold (asked extent key ports octets) (says_known first) → extent ≡ Later
known_later Whole key ports first octets told = absurd told
known_later First key ports first octets told = absurd told
known_later Later key ports first octets told = refl

refused4_over : (relay : Relay) (h : Head4) (octets six : List ℕ) (cause : Cause) (hop : Hop) (k : ℕ) → IsRefused4 relay octets h cause hop → slice_get hop.outs k ≡ Some (OnAccess six) → ⊥
refused4_over relay h octets six cause hop k is e =
    let reply = reply_of cause (exit_of relay.rules h.src) is.0 k (OnAccess six) (out_of hop (drops cause (exit_of relay.rules h.src) is.0) k (OnAccess six) is.2 e) in
    by (covers_of relay.rules h.src.0) reply.0 reply.1
  where
    by : (b : Bool) (xs : List ℕ) → leaving (cond b ToItself ToCore) xs ≡ OnAccess six → ⊥
    by true xs is_out = turn_or_access xs six is_out
    by false xs is_out = core_or_access xs six is_out

becomes4_emits : (relay : Relay) (p : Packet4) (octets six : List ℕ) (ports : Ports) (hop : Hop) (k : ℕ) → IsPacket4 p octets → ArePortsOf4 p.content ports → Becomes4 relay p octets ports hop → slice_get hop.outs k ≡ Some (OnAccess six)
    → RelayEmits relay octets six
becomes4_emits relay p octets six ports hop k packet flow is e = by (own_of relay p.head.dst (destination_port (flow_of4 p.content).fault ports)) refl is
  where
    by : (own : Option ℕ) → own_of relay p.head.dst (destination_port (flow_of4 p.content).fault ports) ≡ own → IsSent4 (λ (own : Addr6). IsPassed4 relay p octets (ends46 relay p own ports)) own hop → RelayEmits relay octets six
    by None one sent = absurd (lost_over NoOwner hop k (OnAccess six) sent e)
    by (Some own) one sent =
        let over = carried_over (IsRefused4 relay octets p.head) relay.params.mtus sent.0 hop k six (λ cause dropped at. refused4_over relay p.head octets six cause hop k dropped at) sent.2 e in
        record {
          taken = p;
          is = packet;
          passage = sent.0;
          sent = record { ports = ports; flow = flow; own = record { 0 = own }; owned = one; is = sent.1 };
          portion = over.0;
          emitted = over.1;
        }

-- one header is read of the octets
offset_read4 : (p q : Packet4) (octets : List ℕ) → IsPacket4 p octets → IsPacket4 q octets → (p.head.offset == 0) ≡ false → (q.head.offset == 0) ≡ false
offset_read4 p q octets one other e = subst (λ (n : ℕ). (n == 0) ≡ false) (one.is.fields.offset ∙ sym other.is.fields.offset) e

freed4_emits : (relay : Relay) (ports : Ports) (parcels : List Parcel) (hop : Hop) (k : ℕ) (six : List ℕ) → AreFreed4 relay ports parcels hop → slice_get hop.outs k ≡ Some (OnAccess six)
    → (one : List ℕ) × (IsLaterFragment4 one × ((j : ℕ) × (parcel : Parcel) × (slice_get parcels j ≡ Some parcel) × (parcel.bytes ≡ one))) × RelayEmits relay one six
freed4_emits relay ports parcels hop k six is e =
    let f = freed_out IsLaterFragment4 (IsOne4 relay ports) parcels hop k (OnAccess six) is e in
    let bytes : List ℕ = (f.parcel).bytes in
    let later = f.later in
    let one = f.becomes in
    let behind = offset_read4 later.0 one.0 bytes later.1 one.1 (not_first (later.0).head.offset (later.0).head.mf later.2) in
    (bytes, (f.later, (f.place, f.parcel, f.found, refl)), becomes4_emits relay one.0 bytes six ports f.hop f.at one.1 (ports_later4 one.0 bytes ports behind one.1) one.2 f.sent)

abbrev EmitsOne : Relay → List ℕ → Option FragAnswer → List ℕ → Type 0
EmitsOne relay octets told six = (one : List ℕ) × IsOfHop IsLaterFragment4 octets (freed_with told) one × RelayEmits relay one six

answered4_emits : (relay : Relay) (p : Packet4) (octets six : List ℕ) (told : Option FragAnswer) (hop : Hop) (k : ℕ) → IsPacket4 p octets → MayBeTold (asked (extent_of4 p.head) (key_of4 from_ipv4 p.head) (flow_of4 p.content).ports octets) told
    → IsAnswered (Becomes4 relay p octets) (AreFreed4 relay) (flow_of4 p.content).ports told hop → slice_get hop.outs k ≡ Some (OnAccess six) → EmitsOne relay octets told six
answered4_emits relay p octets six None hop k packet may is e = (octets, inl refl, becomes4_emits relay p octets six (flow_of4 p.content).ports hop k packet (λ first. refl) is e)
answered4_emits relay p octets six (Some Noted) hop k packet may is e = (octets, inl refl, becomes4_emits relay p octets six (flow_of4 p.content).ports hop k packet (λ first. refl) is e)
answered4_emits relay p octets six (Some (Known first)) hop k packet may is e =
    let behind = not_first p.head.offset p.head.mf (known_later (extent_of4 p.head) (key_of4 from_ipv4 p.head) (flow_of4 p.content).ports first octets may) in
    (octets, inl refl, becomes4_emits relay p octets six first hop k packet (ports_later4 p octets first behind packet) is e)
answered4_emits relay p octets six (Some Held) hop k packet may is e = absurd (none_of k (OnAccess six) (out_of hop nothing k (OnAccess six) is e))
answered4_emits relay p octets six (Some (Released parcels)) hop k packet may is e =
    let own : Hop = is.0 in
    let others : Hop = is.1 in
    let ports = (flow_of4 p.content).ports in
    elim (of_then own.outs others.outs k (OnAccess six) (out_of hop (then own others) k (OnAccess six) is.4 e)) [
      | inl here ↦ (octets, inl refl, becomes4_emits relay p octets six ports own k packet (λ first. refl) is.2 here)
      | inr there ↦ let freed = freed4_emits relay ports parcels others there.0 six is.3 there.1 in (freed.0, inr freed.1, freed.2)
    ]
answered4_emits relay p octets six (Some Full) hop k packet may is e = absurd (lost_over FragmentsFull hop k (OnAccess six) is e)

pub relay_emits : (relay : Relay) (told : Option FragAnswer) (octets six : List ℕ) (hop : Hop) (k : ℕ) → IsTold false octets told → IsRelayHop relay false octets told hop → slice_get hop.outs k ≡ Some (OnAccess six) → EmitsOne relay octets told six
relay_emits relay told octets six hop k may (found, read, made) e = by found read made
  where
    by : (found : Found Packet4 Head4) → IsFound4 octets found → IsMade (IsTaken4 relay octets told) (IsRefused4 relay octets) found hop → EmitsOne relay octets told six
    by (TakenAs p) read made =
        answered4_emits relay p octets six told hop k read (may.kind (asked (extent_of4 p.head) (key_of4 from_ipv4 p.head) (flow_of4 p.content).ports octets) (p, read, refl)) made e
    by (Unreadable cause) read made = absurd (lost_over cause hop k (OnAccess six) made e)
    by (Dropped cause h) read made = absurd (refused4_over relay h octets six cause hop k made e)

-- ---- the relay, from the access network

-- what leaves over IPv4 has these octets
over4 : (rules : List Rule) (d : Addr4) (xs four : List ℕ) (out : Out) → leaving (exit_of rules d) xs ≡ out → IsOnIpv4 four out → xs ≡ four
over4 rules d xs four out is on = by (covers_of rules d.0) is on
  where
    by : (b : Bool) → leaving (cond b ToItself ToCore) xs ≡ out → IsOnIpv4 four out → xs ≡ four
    by true e (inl core) = absurd (let h : ToTurn xs ≡ InCore four = e ∙ core in cc)
    by true e (inr turn) = turn_octets xs four (e ∙ turn)
    by false e (inl core) = core_octets xs four (e ∙ core)
    by false e (inr turn) = absurd (let h : InCore xs ≡ ToTurn four = e ∙ turn in cc)

access_never : (xs four : List ℕ) (out : Out) → OnAccess xs ≡ out → IsOnIpv4 four out → ⊥
access_never xs four out e (inl core) = (let h : OnAccess xs ≡ InCore four = e ∙ core in cc)
access_never xs four out e (inr turn) = (let h : OnAccess xs ≡ ToTurn four = e ∙ turn in cc)

refused6_over : (relay : Relay) (h : Head6) (octets four : List ℕ) (cause : Cause) (hop : Hop) (k : ℕ) (out : Out) → IsRefused6 relay octets h cause hop → slice_get hop.outs k ≡ Some out → IsOnIpv4 four out → ⊥
refused6_over relay h octets four cause hop k out is e on =
    let reply = reply_of cause ToAccess is.0 k out (out_of hop (drops cause ToAccess is.0) k out is.2 e) in
    access_never reply.0 four out reply.1 on

becomes6_delivers : (relay : Relay) (q : Packet6) (octets four : List ℕ) (ports : Ports) (hop : Hop) (k : ℕ) (out : Out) → IsPacket6 true q octets → ArePortsOf6 q.content ports → Becomes6 relay q octets ports hop → slice_get hop.outs k ≡ Some out → IsOnIpv4 four out
    → RelayDelivers relay octets four
becomes6_delivers relay q octets four ports hop k out packet flow is e on = by (source_addr relay q.head.src (source_port (flow_of6 q.content).fault ports)) (extracted relay.dmr q.head.dst) refl refl is
  where
    passed : (passage : Passage) (src : Addr4) (dst : ℕ) → RelayReceives relay q octets passage → IsCarried (IsRefused6 relay octets q.head) (exit_of relay.rules (record { 0 = dst })) passage hop → RelayDelivers relay octets four
    passed (Sent sent) src dst got carried =
        let same = over4 relay.rules (record { 0 = dst }) sent four out (alone (leaving (exit_of relay.rules (record { 0 = dst })) sent) out k (out_of hop (sends (exit_of relay.rules (record { 0 = dst })) sent) k out carried e)) on in
        record { read = q; arrives = packet; received = subst (λ (xs : List ℕ). RelayReceives relay q octets (Sent xs)) same got }
    passed (Cut pieces) src dst got carried = absurd got.is
    passed Spent src dst got carried = absurd (refused6_over relay q.head octets four TtlSpent hop k out carried e on)
    passed TooBig src dst got carried = absurd (refused6_over relay q.head octets four IsTooBig hop k out carried e on)

    by : (src : Option Addr4) (dst : Option ℕ) → source_addr relay q.head.src (source_port (flow_of6 q.content).fault ports) ≡ src → extracted relay.dmr q.head.dst ≡ dst → IsSent6 (IsPassed6 relay q octets) ports src dst hop → RelayDelivers relay octets four
    by None dst one other sent = absurd (lost_over Spoofed hop k out sent e)
    by (Some src) None one other sent = absurd (lost_over NotDefault hop k out sent e)
    by (Some src) (Some dst) one other sent =
        passed sent.0 src dst (record { ports = ports; flow = flow; src = src; dst = record { 0 = dst }; source = one; destination = other; is = sent.1 }) sent.2

offset_read6 : (p q : Packet6) (octets : List ℕ) → IsPacket6 true p octets → IsPacket6 true q octets → (fragment_offset p.head.frag == 0) ≡ false → (fragment_offset q.head.frag == 0) ≡ false
offset_read6 p q octets one other e =
    let same = same_headers6 p.head q.head octets (headers_of6 p.head (payload_of6 p.head octets) octets one.is) (headers_of6 q.head (payload_of6 q.head octets) octets other.is) in
    subst (λ (h : Head6). (fragment_offset h.frag == 0) ≡ false) same e

freed6_delivers : (relay : Relay) (ports : Ports) (parcels : List Parcel) (hop : Hop) (k : ℕ) (four : List ℕ) (out : Out) → AreFreed6 relay ports parcels hop → slice_get hop.outs k ≡ Some out → IsOnIpv4 four out
    → (one : List ℕ) × (IsLaterFragment6 one × ((j : ℕ) × (parcel : Parcel) × (slice_get parcels j ≡ Some parcel) × (parcel.bytes ≡ one))) × RelayDelivers relay one four
freed6_delivers relay ports parcels hop k four out is e on =
    let f = freed_out IsLaterFragment6 (IsOne6 relay ports) parcels hop k out is e in
    let bytes : List ℕ = (f.parcel).bytes in
    let later = f.later in
    let one = f.becomes in
    let behind = offset_read6 later.0 one.0 bytes later.1 one.1 (not_first (fragment_offset (later.0).head.frag) (more_fragments (later.0).head.frag) later.2) in
    (bytes, (f.later, (f.place, f.parcel, f.found, refl)), becomes6_delivers relay one.0 bytes four ports f.hop f.at out one.1 (ports_later6 one.0 bytes ports behind one.1) one.2 f.sent on)

abbrev DeliversOne : Relay → List ℕ → Option FragAnswer → List ℕ → Type 0
DeliversOne relay octets told four = (one : List ℕ) × IsOfHop IsLaterFragment6 octets (freed_with told) one × RelayDelivers relay one four

answered6_delivers : (relay : Relay) (q : Packet6) (octets four : List ℕ) (told : Option FragAnswer) (hop : Hop) (k : ℕ) (out : Out) → IsPacket6 true q octets → MayBeTold (asked (extent_of6 q.head) (key_of6 from_access q.head) (flow_of6 q.content).ports octets) told
    → IsAnswered (Becomes6 relay q octets) (AreFreed6 relay) (flow_of6 q.content).ports told hop → slice_get hop.outs k ≡ Some out → IsOnIpv4 four out → DeliversOne relay octets told four
answered6_delivers relay q octets four None hop k out packet may is e on = (octets, inl refl, becomes6_delivers relay q octets four (flow_of6 q.content).ports hop k out packet (λ first. refl) is e on)
answered6_delivers relay q octets four (Some Noted) hop k out packet may is e on = (octets, inl refl, becomes6_delivers relay q octets four (flow_of6 q.content).ports hop k out packet (λ first. refl) is e on)
answered6_delivers relay q octets four (Some (Known first)) hop k out packet may is e on =
    let behind = not_first (fragment_offset q.head.frag) (more_fragments q.head.frag) (known_later (extent_of6 q.head) (key_of6 from_access q.head) (flow_of6 q.content).ports first octets may) in
    (octets, inl refl, becomes6_delivers relay q octets four first hop k out packet (ports_later6 q octets first behind packet) is e on)
answered6_delivers relay q octets four (Some Held) hop k out packet may is e on = absurd (none_of k out (out_of hop nothing k out is e))
answered6_delivers relay q octets four (Some (Released parcels)) hop k out packet may is e on =
    let own : Hop = is.0 in
    let others : Hop = is.1 in
    let ports = (flow_of6 q.content).ports in
    elim (of_then own.outs others.outs k out (out_of hop (then own others) k out is.4 e)) [
      | inl here ↦ (octets, inl refl, becomes6_delivers relay q octets four ports own k out packet (λ first. refl) is.2 here on)
      | inr there ↦ let freed = freed6_delivers relay ports parcels others there.0 four out is.3 there.1 on in (freed.0, inr freed.1, freed.2)
    ]
answered6_delivers relay q octets four (Some Full) hop k out packet may is e on = absurd (lost_over FragmentsFull hop k out is e)

pub relay_delivers : (relay : Relay) (told : Option FragAnswer) (octets four : List ℕ) (hop : Hop) (k : ℕ) (out : Out) → IsTold true octets told → IsRelayHop relay true octets told hop → slice_get hop.outs k ≡ Some out → IsOnIpv4 four out
    → DeliversOne relay octets told four
relay_delivers relay told octets four hop k out may (found, read, made) e on = by found read made
  where
    by : (found : Found Packet6 Head6) → IsFound6 true octets found → IsMade (IsTaken6 relay octets told) (IsRefused6 relay octets) found hop → DeliversOne relay octets told four
    by (TakenAs q) read made =
        answered6_delivers relay q octets four told hop k out read (may.kind (asked (extent_of6 q.head) (key_of6 from_access q.head) (flow_of6 q.content).ports octets) (q, read, refl)) made e on
    by (Unreadable cause) read made = absurd (lost_over cause hop k out made e)
    by (Dropped cause h) read made = absurd (refused6_over relay h octets four cause hop k out made e on)
