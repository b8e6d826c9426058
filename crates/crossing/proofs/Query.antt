-- Echo requests and replies, there and back.
use Rattle.std.proofs.Common.{◌≡◌, ℕ, ◌+◌, ◌*◌, ◌-◌, ◌/◌, ◌%◌, ◌^◌, ◌<◌, ◌≤◌, Bool, List, ◌++◌, length, Option, Some, refl, sym, ap, ◌∙◌, subst, arith}
use Rattle.std.proofs.lemmas.List.{length-drop}
use Rattle.octets.specs.Field.{quad}
use Rattle.octets.proofs.Parts.{number_back}
use Rattle.inet_sum.specs.Sum.{words, check_sum}
use Rattle.octets.specs.declared.address.Addr4.{Addr4}
use Rattle.octets.specs.declared.address.Addr6.{Addr6}
use Rattle.octets.specs.declared.mtus.Mtus.{Mtus}
use Rattle.octets.specs.declared.proto.Proto.TheVariants.{Icmp}
use Rattle.ip4_packet.specs.Grammar.{payload_of4}
use Rattle.ip4_packet.specs.Written.{written4}
use Rattle.ip6_packet.specs.declared.head.Head6.{Head6}
use Rattle.ip6_packet.specs.Written.{written6, IsUpper}
use Rattle.l4_headers.specs.declared.ports.Ports.{Ports}
use Rattle.icmp_messages.specs.declared.icmp4.Icmp4.{Icmp4}
use Rattle.icmp_messages.specs.declared.icmp6.Icmp6.{Icmp6}
use Rattle.icmp_messages.specs.Message.{IsIcmp6, front, with_sum4, with_sum6, covered6, message4, message6}
use Rattle.xlat46.specs.Head.{upper_protocol}
use Rattle.xlat64.specs.Head.{protocol_of}
use Rattle.l4_headers.specs.declared.ends.Ends.{Ends}
use Rattle.icmp_messages.specs.declared.table.Row.{Row}
use Rattle.icmp_messages.specs.declared.table.Rest.TheVariants.{Query}
use Rattle.icmp_messages.specs.Table.{table46, table64, row_of}
use Rattle.icmp_xlat.specs.Icmp46.{query46, with_message46}
use Rattle.icmp_xlat.specs.Icmp64.{query64, with_message64}
use Rattle.packets.specs.declared.packet4.Content4.{Content4}
use Rattle.packets.specs.declared.packet4.Content4.TheVariants.{Query as Query4}
use Rattle.packets.specs.declared.packet6.Content6.{Content6}
use Rattle.packets.specs.declared.packet6.Content6.TheVariants.{Segment as Segment6, Later as Later6, Query as Query6, Error as Error6}
use Rattle.packets.specs.declared.packet6.Packet6.{Packet6}
use Rattle.packets.specs.Packet4.{IsContent4, IsMessage4}
use Rattle.packets.specs.Packet6.{IsContent6, IsPacket6}
use Rattle.packets.proofs.Spared6.{icmp_alone}
use Rattle.transit.specs.Passage46.{translation46}
use Rattle.transit.specs.Passage64.{translation64}
use Rattle.crossing.specs.Nat44.{with_identifier}
use Rattle.crossing.specs.Named.{IsPayload, IsMessage, IsQueryAfter, uncut}
use Rattle.crossing.specs.Transfer.{Transfer, IsTakenAs, IsThere, IsBack, ComesOf, crossing_of, content_with}
use Rattle.crossing.proofs.Heads.{payload_len_is, some_same, head_there, head_back, IsLaid, laid_inside, between, named_uncut}
use Rattle.crossing.proofs.Rows.{query_again}
use Rattle.crossing.proofs.Segment.{ReadsFlow}

-- ---- a message as it is written

pub length-front : (kind code rest sum : ℕ) (body : List ℕ) → length (front kind code rest sum ++ body) ≡ 8 + length body
length-front kind code rest sum body = omega arith

pub quad-front : (kind code rest sum : ℕ) (body : List ℕ) → rest < 2 ^ 32 → quad (front kind code rest sum ++ body) 4 ≡ rest
quad-front kind code rest sum body fits = number_back 4 rest body fits

pub length-message4 : (m : Icmp4) → length (message4 m) ≡ 8 + length m.body
length-message4 m = length-front m.kind m.code m.rest (check_sum (words (with_sum4 m 0))) m.body

pub length-message6 : (src dst : Addr6) (m : Icmp6) → length (message6 src dst m) ≡ 8 + length m.body
length-message6 src dst m = length-front m.kind m.code m.rest (check_sum (words (covered6 src dst (with_sum6 m 0)))) m.body

-- what was read of it is the message
pub record IsRead (m n : Icmp6) : Type 0 where
  pub kind : n.kind ≡ m.kind
  pub code : n.code ≡ m.code
  pub rest : n.rest ≡ m.rest
  pub body : n.body ≡ m.body

pub is_read : (src dst : Addr6) (m n : Icmp6) → m.rest < 2 ^ 32 → IsIcmp6 src dst n (message6 src dst m) → IsRead m n
is_read src dst m n fits is = record { kind = is.kind; code = is.code; rest = is.rest ∙ quad-front m.kind m.code m.rest (check_sum (words (covered6 src dst (with_sum6 m 0)))) m.body fits; body = is.body }

pub record IsOneQuery (m : Icmp6) (content : Content6) : Type 0 where
  pub message : Icmp6
  pub row : Row
  pub is : content ≡ Query6 message row
  pub read : IsRead m message
  pub found : row_of table64 m.kind m.code ≡ Some row

pub found_by : (m n : Icmp6) (row : Row) → IsRead m n → row_of table64 n.kind n.code ≡ Some row → row_of table64 m.kind m.code ≡ Some row
found_by m n row read found = subst (λ (c : ℕ). row_of table64 m.kind c ≡ Some row) read.code (subst (λ (k : ℕ). row_of table64 k n.code ≡ Some row) read.kind found)

one_query : (at_relay : Bool) (h : Head6) (m : Icmp6) (content : Content6) → h.upper ≡ 58 → m.rest < 2 ^ 32 → ((row : Row) → row_of table64 m.kind m.code ≡ Some row → row.rest ≡ Query)
    → IsContent6 at_relay h (message6 h.src h.dst m) content → IsOneQuery m content
one_query at_relay h m (Segment6 proto l4) upper fits query has = absurd (has.no_icmp (icmp_alone h.upper proto upper has.protocol))
one_query at_relay h m (Later6 proto) upper fits query has = absurd (has.no_icmp (icmp_alone h.upper proto upper has.protocol))
one_query at_relay h m (Query6 n row) upper fits query has =
    let read = is_read h.src h.dst m n fits has.0.message in
    record { message = n; row = row; is = refl; read = read; found = found_by m n row read has.0.found }
one_query at_relay h m (Error6 n row inner) upper fits query has =
    let read = is_read h.src h.dst m n fits has.message.message in
    absurd (has.error.no_query (query row (found_by m n row read has.message.found)))

-- ---- a query

abbrev both_ports : ℕ → Ports
both_ports n = record { src = n; dst = n }

pub upper_58 : (proto : ℕ) → proto ≡ 1 → IsUpper (upper_protocol proto)
upper_58 proto is = subst (λ (n : ℕ). IsUpper (upper_protocol n)) (sym is) (λ h. omega arith, λ h. omega arith, λ h. omega arith, λ h. omega arith)

identified : (port rest : ℕ) → port < 65536 → port * 2 ^ 16 + rest % 2 ^ 16 < 2 ^ 32
identified port rest fits = omega arith

kept : (port rest : ℕ) → (port * 2 ^ 16 + rest % 2 ^ 16) % 2 ^ 16 ≡ rest % 2 ^ 16
kept port rest = omega arith

-- a query was taken, and is on the access network
pub record IsQueryLaid (t : Transfer) (m : Icmp4) (row : Row) (six : List ℕ) : Type 0 where
  pub protocol : t.taken.head.proto ≡ 1
  pub found : row_of table46 m.kind m.code ≡ Some row
  pub query : row.rest ≡ Query
  pub short : 8 + length m.body ≤ 65515
  pub laid : IsLaid t (message6 t.six.src t.six.dst (query46 m row t.six)) six

pub query_laid : (t : Transfer) (m : Icmp4) (row : Row) (octets six : List ℕ) → t.taken.content ≡ Query4 m row → IsTakenAs t octets → IsThere t six → IsQueryLaid t m row six
query_laid t m row octets six e taken there =
    let h = t.taken.head in
    let has : IsMessage4 h (payload_of4 h octets) m row × (row.rest ≡ Query) = subst (λ (c : Content4). IsContent4 h (payload_of4 h octets) c) e taken.is.content in
    let m6 = query46 m row t.six in
    let over = message6 t.six.src t.six.dst m6 in
    let long : length over ≡ 8 + length m.body = length-message6 t.six.src t.six.dst m6 in
    let declared : length (payload_of4 h octets) ≡ h.total - h.head_len = payload_len_is h (payload_of4 h octets) octets taken.is.is in
    let body : length m.body ≡ length (payload_of4 h octets) - 8 = ap (λ (xs : List ℕ). length xs) has.0.message.body ∙ length-drop 8 (payload_of4 h octets) in
    let short : 8 + length m.body ≤ 65515 = omega (arith, declared, body, has.0.message.stands, taken.fits.total, taken.is.is.head_fits) in
    record {
      protocol = has.0.protocol;
      found = has.0.found;
      query = has.1;
      short = short;
      laid = record {
        fits = omega (arith, long, short);
        upper = upper_58 h.proto has.0.protocol;
        written = sym (some_same (with_message46 h m6 t.six) six (subst (λ (c : Content4). translation46 t.mtus h t.payload t.six c ≡ Some six) e there)) ∙ ap (λ (n : ℕ). written6 (head_there t n) over) (sym long);
      };
    }

-- what is read of it there
pub query_read : (t : Transfer) (m : Icmp4) (row : Row) (octets six : List ℕ) (at_relay : Bool) (q : Packet6) → IsTakenAs t octets → IsQueryLaid t m row six → IsPacket6 at_relay q six → IsOneQuery (query46 m row t.six) q.content
query_read t m row octets six at_relay q taken laid is =
    let m6 = query46 m row t.six in
    let over = message6 t.six.src t.six.dst m6 in
    let upper : upper_protocol t.taken.head.proto ≡ 58 = ap (λ (n : ℕ). upper_protocol n) laid.protocol in
    one_query at_relay (head_there t (length over)) m6 q.content upper (identified t.six.ports.src m.rest taken.six.ports.0) (λ s again. query_again m.kind m.code row s laid.found laid.query again)
    (laid_inside t octets over six at_relay q taken laid.laid is)

identifier : (port rest : ℕ) → (port * 2 ^ 16 + rest % 2 ^ 16) / 2 ^ 16 ≡ port
identifier port rest = omega arith

outer_query : (n : Icmp6) (row : Row) (mtus : Mtus) (head : Head6) (payload : List ℕ) (one other : Ends Addr4) (id : ℕ) → one.src ≡ other.src → one.dst ≡ other.dst → one.ports ≡ other.ports
    → translation64 (record { mtus = mtus; ends = one; id = id }) head payload (Query6 n row) ≡ translation64 (record { mtus = mtus; ends = other; id = id }) head payload (Query6 n row)
outer_query n row mtus head payload one other id src dst ports =
    ap (λ (a : Addr4). some_octets (with_message64 head (query64 n row one) (record one { src = a }) id)) src
    ∙ ap (λ (a : Addr4). some_octets (with_message64 head (query64 n row one) (record one { src = other.src; dst = a }) id)) dst
    ∙ ap (λ (p : Ports). some_octets (with_message64 head (query64 n row (record one { ports = p })) (record one { src = other.src; dst = other.dst }) id)) ports
  where
    some_octets : List ℕ → Option (List ℕ)
    some_octets xs = Some xs

pub query_flow : (t : Transfer) (m : Icmp4) (row : Row) (octets six : List ℕ) (at_relay : Bool) (q : Packet6) → t.taken.content ≡ Query4 m row
    → IsTakenAs t octets → IsThere t six → IsPacket6 at_relay q six → ReadsFlow q.content Icmp (record { src = t.six.ports.src; dst = t.six.ports.src })
query_flow t m row octets six at_relay q e taken there is =
    let one = query_read t m row octets six at_relay q taken (query_laid t m row octets six e taken there) is in
    let port : one.message.rest / 2 ^ 16 ≡ t.six.ports.src = ap (λ (n : ℕ). n / 2 ^ 16) one.read.rest ∙ identifier t.six.ports.src m.rest in
    subst (λ (c : Content6). ReadsFlow c Icmp (record { src = t.six.ports.src; dst = t.six.ports.src })) (sym one.is)
    (record { fault = refl; proto_is = refl; ports_are = ap (λ (n : ℕ). both_ports n) port; no_later = λ other later. cc; outer = λ mtus head payload ends other id src dst ports. outer_query one.message one.row mtus head payload ends other id src dst ports })

pub query_crosses : (t : Transfer) (m : Icmp4) (row : Row) (octets six four : List ℕ) (at_relay : Bool) (q : Packet6) → t.taken.content ≡ Query4 m row
    → IsTakenAs t octets → IsThere t six → IsBack t at_relay q six four → ComesOf (crossing_of t) uncut four
query_crosses t m row octets six four at_relay q e taken there back =
    let h = t.taken.head in
    let id = t.number % 2 ^ 16 in
    let laid = query_laid t m row octets six e taken there in
    let over = message6 t.six.src t.six.dst (query46 m row t.six) in
    let read = between t octets over six four at_relay q taken laid.laid back in
    let one = query_read t m row octets six at_relay q taken laid back.is in
    let n = one.message in
    let new : Icmp4 = query64 n one.row t.four in
    let whole = message4 new in
    let long_back : length whole ≡ 8 + length n.body = length-message4 new in
    let same : length n.body ≡ length m.body = ap (λ (xs : List ℕ). length xs) one.read.body in
    let comes : with_message64 (head_there t (length over)) new t.four id ≡ four = some_same (with_message64 (head_there t (length over)) new t.four id) four (subst (λ (c : Content6). translation64 (record { mtus = t.mtus; ends = t.four; id = id }) (head_there t (length over)) over c ≡ Some four) one.is read.back) in
    let rest : new.rest ≡ (with_identifier t.four.ports.src m).rest = ap (λ (r : ℕ). t.four.ports.src * 2 ^ 16 + r % 2 ^ 16) one.read.rest ∙ ap (λ (r : ℕ). t.four.ports.src * 2 ^ 16 + r) (kept t.six.ports.src m.rest) in
    let message : IsMessage (with_identifier t.four.ports.src m) new whole = record { there = row; back = one.row; first = laid.found; second = one.found; kind = refl; code = refl; sum = refl } in
    let after : IsQueryAfter (with_identifier t.four.ports.src m) whole = record { new = new; message = message; rest = rest; body = one.read.body } in
    record {
      whole = whole;
      sent = record { head = head_back t (length whole); payload = whole; octets = written4 (head_back t (length whole)) whole };
      named = named_uncut t whole taken.fits read.lasts (omega (arith, long_back, same, laid.short)) (subst (λ (k : ℕ). protocol_of (upper_protocol k) ≡ k) (sym laid.protocol) refl)
          (subst (λ (c : Content4). IsPayload (crossing_of t) c (content_with t.four c) whole) (sym e) after);
      octets_are = sym comes ∙ ap (λ (k : ℕ). written4 (head_back t k) whole) (sym long_back);
    }
