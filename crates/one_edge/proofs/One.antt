-- What octets hold is one packet, and what becomes of a record is one.
use Rattle.std.proofs.Common.{◌≡◌, ℕ, ◌+◌, ◌%◌, ◌^◌, Bool, true, false, List, [], ◌∷◌, Option, Some, refl, sym, ap, ◌∙◌, subst, arith}
use Rattle.octets.specs.Bits.{bit_of}
use Rattle.octets.specs.Protocol.{proto4, proto6}
use Rattle.octets.specs.declared.address.Addr4.{Addr4}
use Rattle.octets.specs.declared.mtus.Mtus.{Mtus}
use Rattle.octets.specs.declared.prefix.Prefix6.{Prefix6}
use Rattle.octets.specs.declared.proto.Proto.{Proto}
use Rattle.pcap_files.specs.declared.records.Record.{Record}
use Rattle.ip4_packet.specs.declared.head.Head4.{Head4}
use Rattle.ip4_packet.specs.Grammar.{HasFields4, payload_of4}
use Rattle.ip6_packet.specs.declared.head.Head6.{Head6}
use Rattle.ip6_packet.specs.Embedded.{HasHeaders6}
use Rattle.ip6_packet.specs.Grammar.{payload_of6}
use Rattle.ip6_packet.proofs.EmbeddedLemmas.{same_headers6, headers_of6}
use Rattle.l4_headers.specs.Transport.{l4_of}
use Rattle.port_set.proofs.Ranks.{rank-one, rank-below}
use Rattle.rule_book.specs.declared.book.Book.{Book}
use Rattle.rule_book.specs.Holder.{Holder}
use Rattle.xlat46.specs.Whole.{packet46}
use Rattle.xlat64.specs.Whole.{Parts6, packet64}
use Rattle.pcap_files.specs.Written.{written}
use Rattle.port_set.specs.PortSet.{claimable_count}
use Rattle.one_edge.specs.declared.captures.Captures.{Captures}
use Rattle.one_edge.specs.declared.taken.Taken.{Taken}
use Rattle.one_edge.specs.Edge.{Edge, IsEdgeUnder, IsLeastPort, HoldsNothing, LacksEdge, own4, own6, far6}
use Rattle.one_edge.specs.Served.{IsServed, AreServed, parts_of}
use Rattle.one_edge.specs.Crossed.{IsCrossed, AreCrossed, AreCaptured, ports_outside}

same_bit : (a b : Bool) → bit_of a ≡ bit_of b → a ≡ b
same_bit true true e = refl
same_bit false false e = refl
same_bit true false e = absurd (omega arith)
same_bit false true e = absurd (omega arith)

same_flag : (a b : Bool) → ◌≡◌ {A = Option Bool} (Some a) (Some b) → a ≡ b
same_flag a b e = cc

one_proto : (a b : Proto) → ◌≡◌ {A = Option Proto} (Some a) (Some b) → a ≡ b
one_proto a b e = cc

same_addr : (a b : Addr4) → a.0 ≡ b.0 → a ≡ b
same_addr a b e = ap (λ (n : ℕ). record { 0 = n }) e

-- the fields of a header are one
pub same_head : (h g : Head4) (octets : List ℕ) → HasFields4 h octets → HasFields4 g octets → h.routed ≡ g.routed → h ≡ g
same_head h g octets is other routed =
    let made : Head4 = record { tos = h.tos; id = h.id; df = h.df; mf = h.mf; offset = h.offset; ttl = h.ttl; proto = h.proto; src = h.src; dst = h.dst; head_len = h.head_len; total = h.total; routed = h.routed } in
    let first : h ≡ made = refl in
    first
    ∙ rw (is.tos ∙ sym other.tos, is.id ∙ sym other.id, same_bit h.df g.df (is.df ∙ sym other.df), same_bit h.mf g.mf (is.mf ∙ sym other.mf), is.offset ∙ sym other.offset, is.ttl ∙ sym other.ttl, is.proto ∙ sym other.proto, same_addr h.src g.src (is.src ∙ sym other.src), same_addr h.dst g.dst (is.dst ∙ sym other.dst), is.head_len ∙ sym other.head_len, is.total ∙ sym other.total, routed) refl

-- octets are one packet
pub same_taken : (e : Edge) (t u : Taken) (octets : List ℕ) → IsServed e t octets → IsServed e u octets → t ≡ u
same_taken e t u octets is other =
    let routed : t.head.routed ≡ u.head.routed = is.sound.carried.unrouted ∙ sym other.sound.carried.unrouted in
    let head = same_head t.head u.head octets is.sound.is.fields other.sound.is.fields routed in
    let proto : t.proto ≡ u.proto = one_proto t.proto u.proto (sym is.sound.carried.protocol ∙ ap (λ (h : Head4). proto4 h.proto) head ∙ other.sound.carried.protocol) in
    let read = λ (h : Head4) (proto : Proto). (l4_of proto (payload_of4 h octets)).ports in
    let ports : t.ports ≡ u.ports = is.ports ∙ ap (λ (h : Head4). read h t.proto) head ∙ ap (λ (p : Proto). read u.head p) proto ∙ sym other.ports in
    let made : Taken = record { head = t.head; proto = t.proto; ports = t.ports } in
    let first : t ≡ made = refl in
    first ∙ rw (head, proto, ports) refl

pub same_served : (e : Edge) (records : List Record) (ts us : List Taken) → AreServed e records ts → AreServed e records us → ts ≡ us
same_served e [] [] [] is other = refl
same_served e [] [] (u ∷ us) is other = absurd other
same_served e [] (t ∷ ts) us is other = absurd is
same_served e (r ∷ rs) [] us is other = absurd is
same_served e (r ∷ rs) (t ∷ ts) [] is other = absurd other
same_served e (r ∷ rs) (t ∷ ts) (u ∷ us) is other =
    ap (λ (x : Taken). x ∷ ts) (same_taken e t u r.bytes is.0 other.0) ∙ ap (λ (xs : List Taken). u ∷ xs) (same_served e rs ts us is.1 other.1)

-- what becomes of a record is one packet on each network
pub same_crossed : (e : Edge) (number : ℕ) (octets a b c d : List ℕ) → IsCrossed e number octets a c → IsCrossed e number octets b d → (a ≡ b) × (c ≡ d)
same_crossed e number octets a b c d is other =
    let taken = same_taken e is.taken other.taken octets is.served other.served in
    let out = λ (t : Taken). packet46 (parts_of t octets) (own6 e) (far6 e t.head.dst) (Some (ports_outside e t.ports)) in
    let access : a ≡ b = is.out ∙ ap out taken ∙ sym other.out in
    let read = headers_of6 other.carried.head other.carried.payload b other.read in
    let head : is.carried.head ≡ other.carried.head = same_headers6 is.carried.head other.carried.head b (subst (λ (octets : List ℕ). HasHeaders6 is.carried.head octets) access (headers_of6 is.carried.head is.carried.payload a is.read)) read in
    let payload : is.carried.payload ≡ other.carried.payload = is.read.payload_is ∙ ap (λ (h : Head6). payload_of6 h a) head ∙ ap (λ (octets : List ℕ). payload_of6 other.carried.head octets) access ∙ sym other.read.payload_is in
    let proto : is.carried.proto ≡ other.carried.proto = one_proto is.carried.proto other.carried.proto (sym is.sound.protocol ∙ ap (λ (h : Head6). proto6 h.upper) head ∙ other.sound.protocol) in
    let made : Parts6 = record { head = is.carried.head; proto = is.carried.proto; payload = is.carried.payload } in
    let first : is.carried ≡ made = refl in
    let carried : is.carried ≡ other.carried = first ∙ rw (head, proto, payload) refl in
    let back = λ (q : Parts6) (t : Taken). packet64 q (own4 e) t.head.dst (Some (l4_of q.proto q.payload).ports) (number % 2 ^ 16) in
    (access, is.back ∙ ap (λ (q : Parts6). back q is.taken) carried ∙ ap (λ (t : Taken). back other.carried t) taken ∙ sym other.back)

same_record : (r s : Record) → r.time ≡ s.time → r.bytes ≡ s.bytes → r ≡ s
same_record r s time bytes =
    let made : Record = record { time = r.time; bytes = r.bytes } in
    let first : r ≡ made = refl in
    first ∙ rw (time, bytes) refl

pub record AreSame (one other there back : List Record) : Type 0 where
  pub access_same : one ≡ other
  pub core_same : there ≡ back

pub same_all : (e : Edge) (number : ℕ) (records one other there back : List Record) → AreCrossed e number records one there → AreCrossed e number records other back → AreSame one other there back
same_all e number [] [] [] [] [] is same = record { access_same = refl; core_same = refl }
same_all e number (r ∷ rs) (a ∷ one) (b ∷ other) (c ∷ there) (d ∷ back) is same =
    let packets = same_crossed e number r.bytes a.bytes b.bytes c.bytes d.bytes is.2 same.2 in
    let rest = same_all e (number + 1) rs one other there back is.3 same.3 in
    record {
      access_same = ap (λ (x : Record). x ∷ one) (same_record a b (is.0 ∙ sym same.0) packets.0) ∙ ap (λ (xs : List Record). b ∷ xs) rest.access_same;
      core_same = ap (λ (x : Record). x ∷ there) (same_record c d (is.1 ∙ sym same.1) packets.1) ∙ ap (λ (xs : List Record). d ∷ xs) rest.core_same;
    }
same_all e number [] [] (b ∷ other) [] back is same = absurd same
same_all e number [] [] [] [] (d ∷ back) is same = absurd same
same_all e number [] (a ∷ one) other there back is same = absurd is
same_all e number [] [] other (c ∷ there) back is same = absurd is
same_all e number (r ∷ rs) [] other there back is same = absurd is
same_all e number (r ∷ rs) (a ∷ one) other [] back is same = absurd is
same_all e number (r ∷ rs) (a ∷ one) [] (c ∷ there) back is same = absurd same
same_all e number (r ∷ rs) (a ∷ one) (b ∷ other) (c ∷ there) [] is same = absurd same

same_holder : (h g : Holder) → ◌≡◌ {A = Option Holder} (Some h) (Some g) → h ≡ g
same_holder h g e = cc

-- a prefix is one edge
pub same_edge : (book : Book) (prefix : Prefix6) (mtus : Mtus) (e f : Edge) → IsEdgeUnder book prefix mtus e → IsEdgeUnder book prefix mtus f → e ≡ f
same_edge book prefix mtus e f is other =
    let rules : e.rules ≡ f.rules = is.by_rules ∙ sym other.by_rules in
    let dmr : e.dmr ≡ f.dmr = is.by_default ∙ sym other.by_default in
    let holder : e.holder ≡ f.holder = same_holder e.holder f.holder (sym is.holds ∙ other.holds) in
    let claims : IsLeastPort f.holder e.least = subst (λ (h : Holder). IsLeastPort h e.least) holder is.claims in
    let least : e.least ≡ f.least = rank-one f.holder.offset f.holder.psid_length f.holder.psid e.least f.least 0 claims.1 other.claims.1 in
    let mtus_same : e.mtus ≡ f.mtus = is.between ∙ sym other.between in
    let made : Edge = record { rules = e.rules; dmr = e.dmr; holder = e.holder; least = e.least; mtus = e.mtus } in
    let first : e ≡ made = refl in
    first ∙ rw (rules, dmr, holder, least, mtus_same) refl

-- records give one pair of captures
pub same_made : (e : Edge) (records : List Record) (one other : Captures) → AreCaptured e records one → AreCaptured e records other → one ≡ other
same_made e records one other is same =
    let all = same_all e 0 records is.accesses same.accesses is.cores same.cores is.crossed same.crossed in
    let access : one.access ≡ other.access = is.access ∙ ap (λ (rs : List Record). written rs) all.access_same ∙ sym same.access in
    let core : one.core ≡ other.core = is.core ∙ ap (λ (rs : List Record). written rs) all.core_same ∙ sym same.core in
    let made : Captures = record { access = one.access; core = one.core } in
    let first : one ≡ made = refl in
    first ∙ rw (access, core) refl

-- a prefix is an edge, or lacks one
pub edge_or_none : (book : Book) (prefix : Prefix6) (mtus : Mtus) (e : Edge) → IsEdgeUnder book prefix mtus e → LacksEdge book prefix → ⊥
edge_or_none book prefix mtus e is lacks =
    let none : claimable_count e.holder.offset e.holder.psid_length e.holder.psid ≡ 0 = subst HoldsNothing is.holds lacks in
    let some = rank-below e.holder.offset e.holder.psid_length e.holder.psid e.least 0 is.claims.0 is.claims.1 in
    omega (arith, none, some)
