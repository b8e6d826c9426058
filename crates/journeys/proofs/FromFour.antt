-- What the relay sends that took a packet of IPv4: to the address of an edge, which isn't inside the default mapping rule; and ICMP
-- errors back over IPv4.
use Rattle.std.proofs.Common.{◌≡◌, refl, sym, ap, ◌∙◌, ℕ, ◌+◌, ◌*◌, ◌<◌, ◌^◌, ◌⊎◌, inl, inr, Bool, true, false, cond, List, [], Option, Some, None, subst}
use Rattle.std.specs.Prelude.{◌++◌, length, slice_get, nat_lt}
use Rattle.std.specs.Option.{option_map}
use Rattle.std.proofs.lemmas.Bool.{ltb-true, ltb-false}
use Rattle.octets.specs.Field.{sixteen}
use Rattle.octets.specs.declared.address.Addr6.{Addr6}
use Rattle.octets.specs.declared.cause.Cause.{Cause}
use Rattle.octets.specs.declared.mtus.Mtus.{Mtus}
use Rattle.octets.specs.declared.parcel.Parcel.{Parcel}
use Rattle.octets.proofs.Numerals.{either}
use Rattle.octets.proofs.Parts.{number_back}
use Rattle.ip4_packet.specs.declared.head.Head4.{Head4}
use Rattle.ip4_packet.specs.Grammar.{payload_of4, Is4}
use Rattle.ip6_packet.specs.declared.head.Head6.{Head6}
use Rattle.ip6_packet.specs.Destination.{has_header6, destination_in}
use Rattle.ip6_packet.specs.Written.{fragment_part, written6}
use Rattle.l4_headers.specs.declared.ports.Ports.{Ports}
use Rattle.l4_headers.specs.declared.ends.Ends.{Ends}
use Rattle.map_rules.specs.declared.dmr.Dmr.{Dmr}
use Rattle.rule_book.specs.Far.{has_addr6}
use Rattle.rule_book.specs.Owner.{covers_of}
use Rattle.rule_book.proofs.OutsideDefault.{IsOutside, owner_outside}
use Rattle.frag_table.specs.declared.answer.FragAnswer.{FragAnswer}
use Rattle.xlat46.specs.Head.{translated as translated46}
use Rattle.xlat46.specs.Whole.{Parts4, payload46}
use Rattle.icmp_messages.specs.declared.icmp6.Icmp6.{Icmp6}
use Rattle.icmp_messages.specs.Message.{message6}
use Rattle.icmp_xlat.specs.Icmp46.{rest46, query46, error46}
use Rattle.packet_faults.specs.Cut.{cut_for, piece_head, piece_payload, piece}
use Rattle.packets.specs.declared.packet4.Content4.{Content4}
use Rattle.packets.specs.declared.packet4.Content4.TheVariants.{Segment, Later, Query, Error}
use Rattle.packets.specs.declared.packet4.Packet4.{Packet4}
use Rattle.packets.specs.declared.found.Found.{Found}
use Rattle.packets.specs.declared.found.Found.TheVariants.{Taken, Unreadable, Dropped}
use Rattle.packets.specs.Found.{IsFound4}
use Rattle.packets.specs.Packet4.{IsPacket4}
use Rattle.packets.specs.Asked.{flow_of4}
use Rattle.transit.specs.declared.passage.Passage.{Passage}
use Rattle.transit.specs.declared.passage.Passage.TheVariants.{Sent, Cut, Spent, TooBig}
use Rattle.transit.specs.Passage46.{translation46, is_rigid4, IsPassage46, AreCutOf}
use Rattle.hops.specs.declared.exit.Exit.TheVariants.{ToCore, ToItself, ToAccess}
use Rattle.hops.specs.declared.hop.Hop.{Hop}
use Rattle.hops.specs.declared.hop.Out.{Out}
use Rattle.hops.specs.declared.hop.Out.TheVariants.{Lan as OnLan, Access as OnAccess, Core as IntoCore, Turn as ToTurn}
use Rattle.hops.specs.Hop.{nothing, leaving, IsMade}
use Rattle.hops.specs.Reply.{IsReply4}
use Rattle.relay_node.specs.Relay.{Relay, exit_of, own_of, destination_port}
use Rattle.relay_node.specs.FromIpv4.{answering4, IsRefused4, IsPassed4, IsSent4, Becomes4, IsLaterFragment4, IsOne4, AreFreed4, ends46}
use Rattle.relay_node.specs.Hop.{IsTaken4, IsHop4}
use Rattle.journeys.specs.Rank.{is_fault4, is_fault6, freed_by_told, IsBook}
use Rattle.journeys.proofs.Faults.{is_error4}
use Rattle.journeys.proofs.Errors.{translated_fault6, fault_is_rigid}
use Rattle.journeys.proofs.Replies.{reply_fault4, no_reply4}
use Rattle.journeys.proofs.Outs.{Each, Leaves, each_is, each_lost, each_refused, each_carried, each_freed, each_more}
use Rattle.journeys.proofs.FromSix.{answered_outs}

-- ---- the destination of what is translated

-- they go to no address inside the default mapping rule
abbrev pub IsElsewhere : Dmr → List ℕ → Type 0
IsElsewhere dmr octets = (dst : ℕ) → destination_in octets ≡ Some dst → has_addr6 dmr.prefix dst ≡ false

some_number : (x y : ℕ) → ◌≡◌ {A = Option ℕ} (Some x) (Some y) → x ≡ y
some_number x y e = cc

there : (octets : List ℕ) (dst : ℕ) → destination_in octets ≡ Some dst → sixteen octets 24 ≡ dst
there octets dst e = by (has_header6 octets) e
  where
    by : (b : Bool) → cond b (Some (sixteen octets 24)) None ≡ Some dst → sixteen octets 24 ≡ dst
    by true is = some_number (sixteen octets 24) dst is
    by false is = absurd (cc)

elsewhere : (dmr : Dmr) (octets : List ℕ) (own : ℕ) → sixteen octets 24 ≡ own → has_addr6 dmr.prefix own ≡ false → IsElsewhere dmr octets
elsewhere dmr octets own at out dst found = subst (λ (n : ℕ). has_addr6 dmr.prefix n ≡ false) (sym at ∙ there octets dst found) out

written_dst : (h : Head6) (payload : List ℕ) → h.dst.0 < 2 ^ 128 → sixteen (written6 h payload) 24 ≡ h.dst.0
written_dst h payload fits = number_back 16 h.dst.0 (fragment_part h.upper h.frag ++ payload) fits

some_octets : (xs ys : List ℕ) → ◌≡◌ {A = Option (List ℕ)} (Some xs) (Some ys) → xs ≡ ys
some_octets xs ys e = cc

-- what is written with this destination
written_so : (h : Head6) (payload octets : List ℕ) → h.dst.0 < 2 ^ 128 → ◌≡◌ {A = Option (List ℕ)} (Some (written6 h payload)) (Some octets) → sixteen octets 24 ≡ h.dst.0
written_so h payload octets fits e =
    subst (λ (xs : List ℕ). sixteen xs 24 ≡ h.dst.0) (some_octets (written6 h payload) octets e) (written_dst h payload fits)

message_dst : (h : Head4) (m : Icmp6) (ends : Ends Addr6) (octets : List ℕ) → ends.dst.0 < 2 ^ 128
    → ◌≡◌ {A = Option (List ℕ)} (Some (written6 (record (translated46 h ends.src ends.dst) { length = 8 + length m.body }) (message6 ends.src ends.dst m))) (Some octets)
    → sixteen octets 24 ≡ ends.dst.0
message_dst h m ends octets fits e =
    written_so (record (translated46 h ends.src ends.dst) { length = 8 + length m.body }) (message6 ends.src ends.dst m) octets fits e

segment_dst : (parts : Parts4) (ends : Ends Addr6) (ports : Option Ports) (octets : List ℕ) → ends.dst.0 < 2 ^ 128
    → ◌≡◌ {A = Option (List ℕ)} (Some (written6 (translated46 parts.head ends.src ends.dst) (payload46 parts ends.src ends.dst ports))) (Some octets)
    → sixteen octets 24 ≡ ends.dst.0
segment_dst parts ends ports octets fits e =
    written_so (translated46 parts.head ends.src ends.dst) (payload46 parts ends.src ends.dst ports) octets fits e

translated_dst : (mtus : Mtus) (h : Head4) (payload : List ℕ) (ends : Ends Addr6) (content : Content4) (octets : List ℕ) → ends.dst.0 < 2 ^ 128
    → translation46 mtus h payload ends content ≡ Some octets → sixteen octets 24 ≡ ends.dst.0
translated_dst mtus h payload ends (Segment proto l4) octets fits e =
    segment_dst (record { head = h; proto = proto; payload = payload }) ends (Some ends.ports) octets fits e
translated_dst mtus h payload ends (Later proto) octets fits e =
    segment_dst (record { head = h; proto = proto; payload = payload }) ends None octets fits e
translated_dst mtus h payload ends (Query m row) octets fits e = message_dst h (query46 m row ends) ends octets fits e
translated_dst mtus h payload ends (Error m row inner) octets fits e = by (rest46 mtus inner.head.total m.rest row.rest) e
  where
    by : (rest : Option ℕ)
        → option_map (λ rest. written6 (record (translated46 h ends.src ends.dst) { length = 8 + length (error46 row rest inner ends).body }) (message6 ends.src ends.dst (error46 row rest inner ends))) rest ≡ Some octets
        → sixteen octets 24 ≡ ends.dst.0
    by None e = absurd (cc)
    by (Some rest) e = message_dst h (error46 row rest inner ends) ends octets fits e

-- of a cut packet each piece has the destination
piece_dst : (mtu6 id own : ℕ) (octets : List ℕ) (pieces : List Parcel) (at : ℕ) (found : Parcel) → sixteen octets 24 ≡ own → AreCutOf octets mtu6 id pieces
    → slice_get pieces at ≡ Some found → sixteen found.bytes 24 ≡ own
piece_dst mtu6 id own octets pieces at found whole (h, payload, cuttable, cut) here = by (nat_lt (at * (cut_for h payload mtu6 id).step) (length payload)) refl
  where
    -- the destination of the packet that is cut
    is_own : h.dst.0 ≡ own
    is_own =
        sym (written_dst h payload cuttable.form.in_range.dst) ∙ ap (λ (xs : List ℕ). sixteen xs 24) (sym cuttable.form.written) ∙ whole

    by : (b : Bool) → nat_lt (at * (cut_for h payload mtu6 id).step) (length payload) ≡ b → sixteen found.bytes 24 ≡ own
    by true inside =
        let same : found ≡ piece (cut_for h payload mtu6 id) (at * (cut_for h payload mtu6 id).step) =
        some_parcel found (piece (cut_for h payload mtu6 id) (at * (cut_for h payload mtu6 id).step)) (sym here ∙ cut.each at (ltb-true _ _ inside)) in
        ap (λ (p : Parcel). sixteen p.bytes 24) same
        ∙ written_dst (piece_head (cut_for h payload mtu6 id) (at * (cut_for h payload mtu6 id).step)) (piece_payload (cut_for h payload mtu6 id) (at * (cut_for h payload mtu6 id).step)) cuttable.form.in_range.dst
        ∙ is_own
      where
        some_parcel : (p q : Parcel) → ◌≡◌ {A = Option Parcel} (Some p) (Some q) → p ≡ q
        some_parcel p q e = cc
    by false past = absurd (none_parcel found (sym here ∙ cut.no_more at (ltb-false _ _ past)))
      where
        none_parcel : (p : Parcel) → ◌≡◌ {A = Option Parcel} (Some p) None → ⊥
        none_parcel p e = absurd (cc)

-- ---- what passes

-- to the address of an edge, where an ICMP error is one still; to the core; or an ICMP error to the relay itself where the packet is none
abbrev pub IsFromFour : Dmr → Bool → Out → Type 0
IsFromFour dmr fault (OnLan octets) = ⊥
IsFromFour dmr fault (OnAccess octets) = IsElsewhere dmr octets × (fault ≡ true → is_fault6 octets ≡ true)
IsFromFour dmr fault (IntoCore octets) = Unit {0}
IsFromFour dmr fault (ToTurn octets) = (fault ≡ false) × (is_fault4 octets ≡ true)

true_false : (b : Bool) → b ≡ true → b ≡ false → ⊥
true_false b is isnt = absurd (cc)

leaves46 : (dmr : Dmr) (mtus : Mtus) (p : Packet4) (octets : List ℕ) (ends : Ends Addr6) (passage : Passage) (xs : List ℕ) → IsOutside dmr ends.dst.0 → IsPacket4 p octets
    → IsPassage46 mtus p (payload_of4 p.head octets) ends passage → Leaves passage xs → IsFromFour dmr (is_fault4 octets) (OnAccess xs)
leaves46 dmr mtus p octets ends (Sent sent) xs out packet passes is =
    subst (λ (ys : List ℕ). IsFromFour dmr (is_fault4 octets) (OnAccess ys)) (sym is) (
      elsewhere dmr sent ends.dst.0 (translated_dst mtus p.head (payload_of4 p.head octets) ends p.content sent out.small passes.1) out.outside,
      λ fault. translated_fault6 mtus ends p.head (payload_of4 p.head octets) sent p.content packet.content (is_error4 p.head octets packet.is fault) passes.1,
    )
leaves46 dmr mtus p octets ends (Cut pieces) xs out packet (alive, (whole, translated, long, soft, cut)) (at, found, here, is) =
    subst (λ (ys : List ℕ). IsFromFour dmr (is_fault4 octets) (OnAccess ys)) (sym is) (
      elsewhere dmr found.bytes ends.dst.0
          (piece_dst mtus.mtu6 p.head.id ends.dst.0 whole pieces at found
          (translated_dst mtus p.head (payload_of4 p.head octets) ends p.content whole out.small translated) cut here) out.outside,
      λ fault. absurd (true_false (is_rigid4 p) (fault_is_rigid p (payload_of4 p.head octets) packet.content (is_error4 p.head octets packet.is fault)) soft),
    )
leaves46 dmr mtus p octets ends Spent xs out packet passes is = absurd is
leaves46 dmr mtus p octets ends TooBig xs out packet passes is = absurd is

-- ---- a hop

none_some : (xs : List ℕ) → ◌≡◌ {A = Option (List ℕ)} (Some xs) None → ⊥
none_some xs e = absurd (cc)

to_ipv4 : (dmr : Dmr) (fault : Bool) (octets : List ℕ) (inside : Bool) → (fault ≡ false) × (is_fault4 octets ≡ true) → IsFromFour dmr fault (leaving (cond inside ToItself ToCore) octets)
to_ipv4 dmr fault octets true is = is
to_ipv4 dmr fault octets false is = tt

refused4 : (relay : Relay) (octets : List ℕ) (h : Head4) (cause : Cause) (hop : Hop) → Is4 h (payload_of4 h octets) octets → IsRefused4 relay octets h cause hop
    → Each (IsFromFour relay.dmr (is_fault4 octets)) hop.outs
refused4 relay octets h cause hop here refused =
    each_refused (IsFromFour relay.dmr (is_fault4 octets)) (IsReply4 (answering4 relay h) h octets) (exit_of relay.rules h.src) cause hop
    (λ xs is. to_ipv4 relay.dmr (is_fault4 octets) xs (covers_of relay.rules h.src.0) (back xs is)) refused
  where
    back : (xs : List ℕ) → IsReply4 (answering4 relay h) h octets cause (Some xs) → (is_fault4 octets ≡ false) × (is_fault4 xs ≡ true)
    back xs is = (
      elim (either (is_fault4 octets)) [
        | inl fault ↦ absurd (none_some xs (no_reply4 (answering4 relay h) h octets cause (Some xs) here fault is))
        | inr other ↦ other
      ],
      reply_fault4 (answering4 relay h) h octets cause xs is,
    )

becomes4 : (relay : Relay) (p : Packet4) (octets : List ℕ) (ports : Ports) (hop : Hop) → IsBook relay → IsPacket4 p octets → Becomes4 relay p octets ports hop
    → Each (IsFromFour relay.dmr (is_fault4 octets)) hop.outs
becomes4 relay p octets ports hop book packet is = by (own_of relay p.head.dst (destination_port (flow_of4 p.content).fault ports)) refl is
  where
    by : (own : Option ℕ) → own_of relay p.head.dst (destination_port (flow_of4 p.content).fault ports) ≡ own
        → IsSent4 (λ own. IsPassed4 relay p octets (ends46 relay p own ports)) own hop → Each (IsFromFour relay.dmr (is_fault4 octets)) hop.outs
    by None e is = each_lost (IsFromFour relay.dmr (is_fault4 octets)) _ hop is
    by (Some own) e (passage, passes, carried) =
        each_carried (IsFromFour relay.dmr (is_fault4 octets)) (IsRefused4 relay octets p.head) ToAccess passage hop
        (λ cause refused. refused4 relay octets p.head cause hop packet.is refused)
        (λ xs leaves. leaves46 relay.dmr relay.params.mtus p octets (ends46 relay p (record { 0 = own }) ports) passage xs
        (owner_outside relay.rules relay.dmr p.head.dst.0 (destination_port (flow_of4 p.content).fault ports) own book.0 book.1 e) packet passes leaves)
        carried

more4 : (dmr : Dmr) (fault : Bool) (octets : List ℕ) → fault ≡ false → (out : Out) → IsFromFour dmr (is_fault4 octets) out → IsFromFour dmr fault out
more4 dmr fault octets none (OnLan xs) is = is
more4 dmr fault octets none (OnAccess xs) is = (is.0, λ yes. absurd (cc))
more4 dmr fault octets none (IntoCore xs) is = tt
more4 dmr fault octets none (ToTurn xs) is = (none, is.1)

pub freed4 : (relay : Relay) (octets : List ℕ) (parcels : List Parcel) → IsBook relay → (is_fault4 octets ≡ true → parcels ≡ []) → (ports : Ports) (hop : Hop)
    → AreFreed4 relay ports parcels hop → Each (IsFromFour relay.dmr (is_fault4 octets)) hop.outs
freed4 relay octets parcels book frees ports hop are = by (either (is_fault4 octets))
  where
    by : (is_fault4 octets ≡ true) ⊎ (is_fault4 octets ≡ false) → Each (IsFromFour relay.dmr (is_fault4 octets)) hop.outs
    by (inl fault) =
        each_is (IsFromFour relay.dmr (is_fault4 octets)) hop nothing (subst (λ ps. AreFreed4 relay ports ps hop) (frees fault) are) tt
    by (inr none) =
        each_freed (IsFromFour relay.dmr (is_fault4 octets)) IsLaterFragment4 (IsOne4 relay ports) parcels hop
        (λ xs one becomes. each_more (IsFromFour relay.dmr (is_fault4 xs)) (IsFromFour relay.dmr (is_fault4 octets)) one.outs (more4 relay.dmr (is_fault4 octets) xs none)
        (becomes4 relay becomes.0 xs ports one book becomes.1 becomes.2)) are

-- where it frees none to an ICMP error
pub from_four : (relay : Relay) (octets : List ℕ) (told : Option FragAnswer) (hop : Hop) → IsBook relay → (is_fault4 octets ≡ true → freed_by_told told ≡ [])
    → IsHop4 relay octets told hop → Each (IsFromFour relay.dmr (is_fault4 octets)) hop.outs
from_four relay octets told hop book frees (found, is, made) = by found is made
  where
    by : (found : Found Packet4 Head4) → IsFound4 octets found → IsMade (IsTaken4 relay octets told) (IsRefused4 relay octets) found hop
        → Each (IsFromFour relay.dmr (is_fault4 octets)) hop.outs
    by (Taken p) packet taken =
        answered_outs (IsFromFour relay.dmr (is_fault4 octets)) (Becomes4 relay p octets) (AreFreed4 relay) (flow_of4 p.content).ports told hop
        (λ ports one is. becomes4 relay p octets ports one book packet is)
        (λ others are. freed4 relay octets (freed_by_told told) book frees (flow_of4 p.content).ports others are) taken
    by (Unreadable cause) is lost_is = each_lost (IsFromFour relay.dmr (is_fault4 octets)) cause hop lost_is
    by (Dropped cause h) is refused = refused4 relay octets h cause hop is.0.0 refused
