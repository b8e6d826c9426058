-- ICMP errors, there and back.
use Rattle.std.proofs.Common.{◌≡◌, ◌≢◌, ℕ, ◌+◌, ◌*◌, ◌-◌, ◌/◌, ◌%◌, ◌^◌, ◌<◌, ◌≤◌, Bool, true, false, cond, not, ◌&&◌, List, length, take, min, Option, Some, None, refl, sym, ap, ◌∙◌, subst, arith}
use Rattle.std.specs.Prelude.{nat_le, is_some, option_and_then}
use Rattle.std.specs.Option.{option_map}
use Rattle.std.proofs.lemmas.List.{length-take}
use Rattle.octets.specs.declared.address.Addr4.{Addr4}
use Rattle.octets.specs.declared.address.Addr6.{Addr6}
use Rattle.octets.specs.declared.mtus.Mtus.{Mtus}
use Rattle.octets.specs.declared.proto.Proto.{Proto}
use Rattle.octets.specs.declared.proto.Proto.TheVariants.{Tcp, Udp, Icmp}
use Rattle.xlat46.specs.Whole.{ArePorts}
use Rattle.ip4_packet.specs.declared.head.Head4.{Head4}
use Rattle.ip4_packet.specs.Grammar.{payload_of4}
use Rattle.ip4_packet.specs.Written.{written4}
use Rattle.ip6_packet.specs.declared.head.Head6.{Head6}
use Rattle.ip6_packet.specs.declared.head.Frag6.{Frag6}
use Rattle.ip6_packet.specs.Written.{written6}
use Rattle.l4_headers.specs.declared.ports.Ports.{Ports}
use Rattle.icmp_messages.specs.declared.icmp4.Icmp4.{Icmp4}
use Rattle.icmp_messages.specs.declared.icmp6.Icmp6.{Icmp6}
use Rattle.icmp_messages.specs.declared.inner4.Inner4.{Inner4}
use Rattle.icmp_messages.specs.declared.inner6.Inner6.{Inner6}
use Rattle.icmp_messages.proofs.InnerLemmas.{one_inner6}
use Rattle.icmp_messages.specs.Inner.{IsInner4, IsInner6, IsCarried4}
use Rattle.icmp_messages.specs.Message.{message4, message6}
use Rattle.xlat46.specs.Fits.{FitsHead}
use Rattle.xlat46.specs.Head.{upper_protocol}
use Rattle.ip4_packet.specs.Fragment.{is_fragment}
use Rattle.xlat64.specs.Head.{protocol_of}
use Rattle.l4_headers.specs.declared.ends.Ends.{Ends}
use Rattle.icmp_messages.specs.declared.table.Row.{Row}
use Rattle.icmp_messages.specs.declared.table.Rest.{Rest}
use Rattle.icmp_messages.specs.declared.table.Rest.TheVariants.{Query, Zero, Protocol, Mtu, Pointer}
use Rattle.icmp_messages.specs.Table.{table46, table64, row_of, pointers64, pointer_of}
use Rattle.icmp_xlat.specs.Mtu.{mtu46}
use Rattle.icmp_xlat.specs.Icmp46.{rest46, error46, with_message46}
use Rattle.icmp_messages.specs.Extension.{embedded46, embedded64}
use Rattle.icmp_xlat.specs.Icmp64.{rest64, error64, with_message64}
use Rattle.icmp_xlat.specs.Inner.{inner46, inner64, inner_head64, inner_payload}
use Rattle.icmp_xlat.specs.Moved.{ports_of, moved46, held6, FitsInnerEnds6}
use Rattle.icmp_xlat.proofs.ReadAgain.{held46, all_embedded6}
use Rattle.packets.specs.declared.packet4.Content4.{Content4}
use Rattle.packets.specs.declared.packet4.Content4.TheVariants.{Error as Error4}
use Rattle.packets.specs.declared.packet6.Content6.{Content6}
use Rattle.packets.specs.declared.packet6.Content6.TheVariants.{Segment as Segment6, Later as Later6, Query as Query6, Error as Error6}
use Rattle.packets.specs.declared.packet6.Packet6.{Packet6}
use Rattle.packets.specs.Packet4.{IsContent4, IsErrorOf4}
use Rattle.packets.specs.Packet6.{IsContent6, IsPacket6}
use Rattle.packets.proofs.Spared6.{icmp_alone}
use Rattle.transit.specs.Passage46.{translation46}
use Rattle.transit.specs.Passage64.{translation64}
use Rattle.transit.proofs.Room.{length-written4}
use Rattle.crossing.specs.Named.{IsPayload, IsMessage, IsErrorAfter, rest_after, inner_after, inner_head, inner_room, inner_change, uncut}
use Rattle.crossing.specs.Transfer.{Transfer, FitsContent, IsTakenAs, IsThere, IsBack, ComesOf, crossing_of, content_with, inner_with}
use Rattle.crossing.proofs.Heads.{id_twice, df_twice, some_same, frag_of, offset_there, more_there, head_there, head_back, IsLaid, laid_inside, between, named_uncut}
use Rattle.crossing.proofs.Inner.{inner_there, payload_back}
use Rattle.crossing.proofs.Query.{IsRead, is_read, found_by, length-message4, length-message6, upper_58}
use Rattle.crossing.proofs.Rows.{rest_again, row_again, pointer_small}

-- ---- the four octets behind the sum

same_number : (a b : ℕ) → ◌≡◌ {A = Option ℕ} (Some a) (Some b) → a ≡ b
same_number a b e = cc

no_number : (a : ℕ) → ◌≡◌ {A = Option ℕ} None (Some a) → ⊥
no_number a e = cc

rest_small : (mtus : Mtus) (total rest found : ℕ) (kind : Rest) → rest46 mtus total rest kind ≡ Some found → found < 2 ^ 32
rest_small mtus total rest found Query is = absurd (no_number found is)
rest_small mtus total rest found Zero is = let same = same_number 0 found is in omega arith
rest_small mtus total rest found Protocol is = let same = same_number 6 found is in omega arith
rest_small mtus total rest found Mtu is = let same = same_number (mtu46 mtus total (rest % 2 ^ 16)) found is in omega (arith, mtus.most6)
rest_small mtus total rest found Pointer is = pointer_small (rest / 2 ^ 24) found is

rest_told : (mtus : Mtus) (total rest there back : ℕ) (kind again : Rest) → again ≡ rest_again kind → rest46 mtus total rest kind ≡ Some there → rest64 mtus there again ≡ Some back → rest_after mtus total rest kind ≡ Some back
rest_told mtus total rest there back Query again is one other = absurd (no_number there one)
rest_told mtus total rest there back Zero again is one other = rw is at other
rest_told mtus total rest there back Protocol again is one other = rw is at other
rest_told mtus total rest there back Mtu again is one other =
    let found : rest64 mtus there Mtu ≡ Some back = rw is at other in
    ap (λ (n : ℕ). rest64 mtus n Mtu) (same_number (mtu46 mtus total (rest % 2 ^ 16)) there one) ∙ found
rest_told mtus total rest there back Pointer again is one other =
    let found : rest64 mtus there Pointer ≡ Some back = rw is at other in
    ap (λ (o : Option ℕ). option_map (λ four. four * 2 ^ 24) (option_and_then (λ six. pointer_of pointers64 six) o)) one ∙ found

-- ---- what is read of the message

pub record IsOneError (m : Icmp6) (content : Content6) : Type 0 where
  pub message : Icmp6
  pub row : Row
  pub inner : Inner6
  pub is : content ≡ Error6 message row inner
  pub read : IsRead m message
  pub found : row_of table64 m.kind m.code ≡ Some row
  pub embedded : IsInner6 inner (embedded64 message)

one_error : (at_relay : Bool) (h : Head6) (m : Icmp6) (content : Content6) → h.upper ≡ 58 → m.rest < 2 ^ 32 → ((row : Row) → row_of table64 m.kind m.code ≡ Some row → row.rest ≢ Query)
    → IsContent6 at_relay h (message6 h.src h.dst m) content → IsOneError m content
one_error at_relay h m (Segment6 proto l4) upper fits no_query has = absurd (has.no_icmp (icmp_alone h.upper proto upper has.protocol))
one_error at_relay h m (Later6 proto) upper fits no_query has = absurd (has.no_icmp (icmp_alone h.upper proto upper has.protocol))
one_error at_relay h m (Query6 n row) upper fits no_query has =
    let read = is_read h.src h.dst m n fits has.0.message in
    absurd (no_query row (found_by m n row read has.0.found) has.1)
one_error at_relay h m (Error6 n row inner) upper fits no_query has =
    let read = is_read h.src h.dst m n fits has.message.message in
    record { message = n; row = row; inner = inner; is = refl; read = read; found = found_by m n row read has.message.found; embedded = has.embedded }

-- ---- an error that was taken, on the access network

pub record IsErrorLaid (t : Transfer) (m : Icmp4) (row : Row) (inner : Inner4) (six : List ℕ) : Type 0 where
  pub protocol : t.taken.head.proto ≡ 1
  pub found : row_of table46 m.kind m.code ≡ Some row
  pub no_query : row.rest ≢ Query
  pub embedded : IsInner4 inner (embedded46 m)
  pub fits : FitsHead inner.head
  pub answers : inner.head.src ≡ t.taken.head.dst
  pub rest : ℕ
  pub rest_is : rest46 t.mtus inner.head.total m.rest row.rest ≡ Some rest
  pub laid : IsLaid t (message6 t.six.src t.six.dst (error46 row rest inner t.six)) six

rest_there : (mtus : Mtus) (h : Head4) (m : Icmp4) (row : Row) (inner : Inner4) (ends : Ends Addr6) (six : List ℕ) (found : Option ℕ) → option_map (λ rest. with_message46 h (error46 row rest inner ends) ends) found ≡ Some six
    → (rest : ℕ) × (found ≡ Some rest) × (with_message46 h (error46 row rest inner ends) ends ≡ six)
rest_there mtus h m row inner ends six None e = absurd (none_sent six e)
  where
    none_sent : (xs : List ℕ) → ◌≡◌ {A = Option (List ℕ)} None (Some xs) → ⊥
    none_sent xs is = cc
rest_there mtus h m row inner ends six (Some rest) e = (rest, refl, some_same (with_message46 h (error46 row rest inner ends) ends) six e)

pub error_laid : (t : Transfer) (m : Icmp4) (row : Row) (inner : Inner4) (octets six : List ℕ) → t.taken.content ≡ Error4 m row inner → IsTakenAs t octets → IsThere t six → IsErrorLaid t m row inner six
error_laid t m row inner octets six e taken there =
    let h = t.taken.head in
    let has : IsErrorOf4 h (payload_of4 h octets) m row inner = subst (λ (c : Content4). IsContent4 h (payload_of4 h octets) c) e taken.is.content in
    let fit : FitsHead inner.head = subst (λ (c : Content4). FitsContent c) e taken.inner in
    let told = rest_there t.mtus h m row inner t.six six (rest46 t.mtus inner.head.total m.rest row.rest) (subst (λ (c : Content4). translation46 t.mtus h t.payload t.six c ≡ Some six) e there) in
    let rest : ℕ = told.0 in
    let m6 = error46 row rest inner t.six in
    let over = message6 t.six.src t.six.dst m6 in
    let long : length over ≡ 8 + length m6.body = length-message6 t.six.src t.six.dst m6 in
    let short : length m6.body ≤ 1232 = omega (arith, length-take 1232 (inner46 inner t.six)) in
    record {
      protocol = has.message.protocol;
      found = has.message.found;
      no_query = has.error.no_query;
      embedded = has.embedded;
      fits = fit;
      answers = has.answers;
      rest = rest;
      rest_is = told.1;
      laid = record {
        fits = omega (arith, long, short);
        upper = upper_58 h.proto has.message.protocol;
        written = sym told.2 ∙ ap (λ (n : ℕ). written6 (head_there t n) over) (sym long);
      };
    }

-- what is read of it there
pub record SeesError (t : Transfer) (row : Row) (inner : Inner4) (rest : ℕ) (content : Content6) : Type 0 where
  pub one : IsOneError (error46 row rest inner t.six) content
  pub again : one.row.rest ≡ rest_again row.rest
  pub inside : one.inner ≡ held6 (moved46 inner t.six)

no_query_again : (kind again : Rest) → again ≡ rest_again kind → kind ≢ Query → again ≢ Query
no_query_again Query again is none query = none refl
no_query_again Zero again is none query = cc
no_query_again Protocol again is none query = cc
no_query_again Mtu again is none query = cc
no_query_again Pointer again is none query = cc

pub sees_error : (t : Transfer) (m : Icmp4) (row : Row) (inner : Inner4) (octets six : List ℕ) (at_relay : Bool) (q : Packet6) → IsTakenAs t octets → (laid : IsErrorLaid t m row inner six) → IsPacket6 at_relay q six
    → SeesError t row inner laid.rest q.content
sees_error t m row inner octets six at_relay q taken laid is =
    let m6 = error46 row laid.rest inner t.six in
    let over = message6 t.six.src t.six.dst m6 in
    let upper : upper_protocol t.taken.head.proto ≡ 58 = ap (λ (n : ℕ). upper_protocol n) laid.protocol in
    let one = one_error at_relay (head_there t (length over)) m6 q.content upper (rest_small t.mtus inner.head.total m.rest laid.rest row.rest laid.rest_is)
    (λ s found. no_query_again row.rest s.rest (row_again m.kind m.code row s laid.found found) laid.no_query) (laid_inside t octets over six at_relay q taken laid.laid is) in
    let n = one.message in
    let rest : rest46 t.mtus inner.head.total m.rest row.rest ≡ Some n.rest = laid.rest_is ∙ ap (λ (k : ℕ). Some k) (sym one.read.rest) in
    let all : embedded64 n ≡ take 1232 (inner46 inner t.six) = all_embedded6 t.mtus inner.head.total m.rest m.kind m.code row n laid.found rest one.read.kind ∙ one.read.body in
    let ends : FitsInnerEnds6 t.six = record { src = taken.six.inner_src; dst = taken.six.inner_dst; ports = taken.six.ports } in
    record {
      one = one;
      again = row_again m.kind m.code row one.row laid.found one.found;
      inside = one_inner6 one.inner (held6 (moved46 inner t.six)) (take 1232 (inner46 inner t.six)) (subst (λ (xs : List ℕ). IsInner6 one.inner xs) all one.embedded)
          (held46 inner (embedded46 m) t.six laid.embedded laid.fits ends);
    }

-- ---- the embedded packet, back

-- the embedded header is that of the table
head_is : (total other proto number : ℕ) (id identification : ℕ) (df dont : Bool) (mf more : Bool) (offset at : ℕ) (tos ttl : ℕ) (src dst : Addr4) → total ≡ other → proto ≡ number → id ≡ identification → df ≡ dont → mf ≡ more → offset ≡ at
    → ◌≡◌ {A = Head4} (record { tos = tos; id = id; df = df; mf = mf; offset = offset; ttl = ttl; proto = proto; src = src; dst = dst; head_len = 20; total = total; routed = false })
    (record { tos = tos; id = identification; df = dont; mf = more; offset = at; ttl = ttl; proto = number; src = src; dst = dst; head_len = 20; total = other; routed = false })
head_is total other proto number id identification df dont mf more offset at tos ttl src dst a b c d e f = rw (a, b, c, d, e, f) refl

upper_back : (proto : Proto) (number : ℕ) (payload : List ℕ) → IsCarried4 proto number payload → protocol_of (upper_protocol number) ≡ number
upper_back Tcp number payload is = rw is refl
upper_back Udp number payload is = rw is refl
upper_back Icmp number payload is = rw is.0 refl

inner_head_back : (inner : Inner4) (octets : List ℕ) (six : Ends Addr6) (four : Ends Addr4) (room : ℕ) (ports : Ports) → IsInner4 inner octets → FitsHead inner.head → inner_head64 (inner_there inner six room ports) four ≡ inner_head (inner_with four inner).head
inner_head_back inner octets six four room ports is fit =
    let h = inner.head in
    let total : min (20 + (h.total - h.head_len)) 65535 ≡ 20 + (h.total - h.head_len) = omega (arith, fit.total, is.header.least) in
    head_is _ _ _ _ _ _ _ _ _ _ _ _ h.tos h.ttl four.inner_src four.inner_dst total (upper_back inner.proto h.proto inner.payload is.carried)
    (id_twice (is_fragment h) (frag_of h) 0 fit.id)
    (df_twice (is_fragment h) (frag_of h) (min (20 + (h.total - h.head_len)) 65535) ∙ ap (λ (n : ℕ). not (is_fragment h) && not (nat_le n 1260)) total)
    (more_there h) (offset_there h)

-- the packet that was read there
room_is : (b : Bool) (frag : Frag6) → ◌≡◌ {A = ℕ} (1232 - cond (is_some (cond b (Some frag) None)) 48 40) (1280 - (40 + 8 + cond b 48 40))
room_is true frag = refl
room_is false frag = refl

same_inner : (inner : Inner4) (six : Ends Addr6) (n : Inner6) → n ≡ held6 (moved46 inner six) → n ≡ inner_there inner six (inner_room inner.head) (ports_of inner.proto six.ports)
same_inner inner six n is = is ∙ ap (λ (room : ℕ). inner_there inner six room (ports_of inner.proto six.ports)) (room_is (is_fragment inner.head) (frag_of inner.head))

room_long : (b : Bool) → 20 ≤ 1280 - (40 + 8 + cond b 48 40)
room_long true = omega arith
room_long false = omega arith

inner_back : (inner : Inner4) (octets : List ℕ) (six : Ends Addr6) (four : Ends Addr4) (n : Inner6) → IsInner4 inner octets → FitsHead inner.head → ArePorts six.ports → n ≡ held6 (moved46 inner six) → inner64 n four ≡ inner_after inner (inner_with four inner)
inner_back inner octets six four n embedded fit are is =
    let room = inner_room inner.head in
    let ports = ports_of inner.proto six.ports in
    let there = inner_there inner six room ports in
    ap (λ (x : Inner6). inner64 x four) (same_inner inner six n is)
    ∙ ap (λ (xs : List ℕ). written4 (inner_head64 there four) xs) (payload_back inner six four room ports (room_long (is_fragment inner.head)) embedded.stands are embedded.carried)
    ∙ ap (λ (h : Head4). written4 h (take room (inner_payload inner.proto inner.payload (inner_change inner (inner_with four inner) inner.proto)))) (inner_head_back inner octets six four room ports embedded fit)

-- ---- the error, back

rest_back : (mtus : Mtus) (h : Head6) (n : Icmp6) (row : Row) (inner : Inner6) (ends : Ends Addr4) (id : ℕ) (four : List ℕ) (found : Option ℕ) → option_map (λ rest. with_message64 h (error64 row rest inner ends) ends id) found ≡ Some four
    → (rest : ℕ) × (found ≡ Some rest) × (with_message64 h (error64 row rest inner ends) ends id ≡ four)
rest_back mtus h n row inner ends id four None e = absurd (none_sent four e)
  where
    none_sent : (xs : List ℕ) → ◌≡◌ {A = Option (List ℕ)} None (Some xs) → ⊥
    none_sent xs is = cc
rest_back mtus h n row inner ends id four (Some rest) e = (rest, refl, some_same (with_message64 h (error64 row rest inner ends) ends id) four e)

pub error_crosses : (t : Transfer) (m : Icmp4) (row : Row) (inner : Inner4) (octets six four : List ℕ) (at_relay : Bool) (q : Packet6) → t.taken.content ≡ Error4 m row inner
    → IsTakenAs t octets → IsThere t six → IsBack t at_relay q six four → ComesOf (crossing_of t) uncut four
error_crosses t m row inner octets six four at_relay q e taken there back =
    let id = t.number % 2 ^ 16 in
    let laid = error_laid t m row inner octets six e taken there in
    let m6 = error46 row laid.rest inner t.six in
    let over = message6 t.six.src t.six.dst m6 in
    let read = between t octets over six four at_relay q taken laid.laid back in
    let sees = sees_error t m row inner octets six at_relay q taken laid back.is in
    let one = sees.one in
    let n = one.message in
    let head6 = head_there t (length over) in
    let told = rest_back t.mtus head6 n one.row one.inner t.four id four (rest64 t.mtus n.rest one.row.rest) (subst (λ (c : Content6). translation64 (record { mtus = t.mtus; ends = t.four; id = id }) head6 over c ≡ Some four) one.is read.back) in
    let rest : ℕ = told.0 in
    let new : Icmp4 = error64 one.row rest one.inner t.four in
    let whole = message4 new in
    let body : new.body ≡ inner_after inner (inner_with t.four inner) = inner_back inner (embedded46 m) t.six t.four one.inner laid.embedded laid.fits taken.six.ports sees.inside in
    let long : length whole ≡ 8 + length new.body = length-message4 new in
    let size : length new.body ≤ 1212 = short inner (inner_with t.four inner) new.body body in
    let after : rest_after t.mtus inner.head.total m.rest row.rest ≡ Some rest = rest_told t.mtus inner.head.total m.rest laid.rest rest row.rest one.row.rest sees.again laid.rest_is (subst (λ (k : ℕ). rest64 t.mtus k one.row.rest ≡ Some rest) one.read.rest told.1) in
    let message : IsMessage m new whole = record { there = row; back = one.row; first = laid.found; second = one.found; kind = refl; code = refl; sum = refl } in
    let error : IsErrorAfter t.mtus m inner (inner_with t.four inner) whole = record { told = new; message = message; rest = after; body = body } in
    record {
      whole = whole;
      sent = record { head = head_back t (length whole); payload = whole; octets = written4 (head_back t (length whole)) whole };
      named = named_uncut t whole taken.fits read.lasts (omega (arith, long, size)) (subst (λ (k : ℕ). protocol_of (upper_protocol k) ≡ k) (sym laid.protocol) refl)
          (subst (λ (c : Content4). IsPayload (crossing_of t) c (content_with t.four c) whole) (sym e) error);
      octets_are = sym told.2 ∙ ap (λ (k : ℕ). written4 (head_back t k) whole) (sym long);
    }
  where
    room_short : (b : Bool) → 1280 - (40 + 8 + cond b 48 40) ≤ 1192
    room_short true = omega arith
    room_short false = omega arith

    short : (taken new : Inner4) (xs : List ℕ) → xs ≡ inner_after taken new → length xs ≤ 1212
    short taken new xs is =
        let room = inner_room new.head in
        let payload = inner_payload new.proto new.payload (inner_change taken new new.proto) in
        omega (arith, ap (λ (ys : List ℕ). length ys) is, length-written4 (inner_head new.head) (take room payload), length-take room payload, room_short (is_fragment new.head))

-- ---- the flow that is read

pub record ReadsError (inner : Inner4) (six : Ends Addr6) (q : Content6) : Type 0 where
  pub message : Icmp6
  pub row : Row
  pub about : Inner6
  pub is : q ≡ Error6 message row about
  pub proto_is : about.proto ≡ inner.proto
  pub ports_are : about.ports ≡ ports_of inner.proto six.ports
  pub far : about.head.dst ≡ six.inner_dst

pub error_flow : (t : Transfer) (m : Icmp4) (row : Row) (inner : Inner4) (octets six : List ℕ) (at_relay : Bool) (q : Packet6) → t.taken.content ≡ Error4 m row inner
    → IsTakenAs t octets → IsThere t six → IsPacket6 at_relay q six → ReadsError inner t.six q.content
error_flow t m row inner octets six at_relay q e taken there is =
    let laid = error_laid t m row inner octets six e taken there in
    let sees = sees_error t m row inner octets six at_relay q taken laid is in
    let one = sees.one in
    record {
      message = one.message;
      row = one.row;
      about = one.inner;
      is = one.is;
      proto_is = ap (λ (n : Inner6). n.proto) sees.inside;
      ports_are = ap (λ (n : Inner6). n.ports) sees.inside;
      far = ap (λ (n : Inner6). n.head.dst) sees.inside;
    }
