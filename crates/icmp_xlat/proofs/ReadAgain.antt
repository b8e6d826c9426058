-- A translated embedded packet is read again, with its new ends.
use Rattle.std.proofs.Common.{◌≡◌, ◌⊎◌, ℕ, suc, ◌+◌, ◌*◌, ◌-◌, ◌/◌, ◌%◌, ◌^◌, ◌<◌, ◌≤◌, ◌==◌, Bool, true, false, cond, not, ◌||◌, ◌&&◌, List, length, take, drop, min, Option, Some, None, inl, inr, refl, sym, ap, ◌∙◌, subst, arith}
use Rattle.std.specs.Prelude.{is_some}
use Rattle.std.specs.Option.{option_map}
use Rattle.std.proofs.lemmas.Bool.Decides.{leb_tells}
use Rattle.std.proofs.lemmas.List.{places, length-take, length-drop, take_all}
use Rattle.octets.specs.Field.{octet, word, part, with_word}
use Rattle.octets.proofs.Parts.{number_back}
use Rattle.octets.proofs.Words.{length-with_word, word-with_word, word-with_word_other}
use Rattle.octets.specs.declared.address.Addr4.{Addr4}
use Rattle.octets.specs.declared.address.Addr6.{Addr6}
use Rattle.octets.specs.declared.mtus.Mtus.{Mtus}
use Rattle.octets.specs.declared.proto.Proto.{Proto}
use Rattle.octets.specs.declared.proto.Proto.TheVariants.{Tcp, Udp, Icmp}
use Rattle.ip4_packet.specs.Written.{IsInRange as IsInRange4}
use Rattle.ip4_packet.proofs.WrittenLemmas.{written_header4}
use Rattle.ip6_packet.specs.declared.head.Head6.{Head6}
use Rattle.ip6_packet.specs.declared.head.Frag6.{Frag6}
use Rattle.ip6_packet.specs.Embedded.{HasHeaders6}
use Rattle.ip6_packet.specs.Fragment.{fragment_offset}
use Rattle.ip6_packet.specs.Grammar.{payload_len}
use Rattle.ip6_packet.specs.Written.{written6, IsUpper, IsPlaced, FitsFrag}
use Rattle.ip6_packet.proofs.ChainGrammar.{read}
use Rattle.ip6_packet.proofs.WrittenLemmas.{written_headers6, written_payload6}
use Rattle.l4_headers.specs.declared.ports.Ports.{Ports}
use Rattle.l4_headers.specs.Transport.{l4_of, with_l4}
use Rattle.l4_headers.specs.Readdressed.{readdressed_sum}
use Rattle.l4_headers.proofs.Laws.{length-with_l4}
use Rattle.icmp_messages.specs.declared.icmp4.Icmp4.{Icmp4}
use Rattle.icmp_messages.specs.declared.icmp6.Icmp6.{Icmp6}
use Rattle.icmp_messages.specs.declared.inner4.Inner4.{Inner4}
use Rattle.icmp_messages.specs.declared.inner6.Inner6.{Inner6}
use Rattle.icmp_messages.specs.Inner.{IsCarried4, IsCarried6, IsInner4, IsInner6}
use Rattle.xlat46.specs.Fits.{FitsHead}
use Rattle.xlat46.specs.Head.{upper_protocol}
use Rattle.ip4_packet.specs.Fragment.{is_fragment}
use Rattle.xlat46.specs.Whole.{ArePorts}
use Rattle.xlat46.proofs.Placed.{placed}
use Rattle.xlat64.specs.Head.{protocol_of, identification}
use Rattle.l4_headers.specs.declared.ends.Ends.{Ends}
use Rattle.icmp_messages.specs.declared.table.Row.{Row}
use Rattle.icmp_messages.specs.declared.table.Rest.{Rest}
use Rattle.icmp_messages.specs.declared.table.Rest.TheVariants.{Query, Zero, Protocol, Mtu, Pointer}
use Rattle.icmp_xlat.specs.Icmp46.{rest46, error46}
use Rattle.icmp_messages.specs.Extension.{embedded46, embedded64}
use Rattle.icmp_xlat.specs.Icmp64.{rest64, error64}
use Rattle.icmp_xlat.specs.Inner.{Change, inner_echo, inner_payload, echo46, echo64, change46, change64, inner_head46, inner_head64, inner46, inner64}
use Rattle.icmp_xlat.specs.Moved.{ports_of, moved46, moved64, held6, FitsInnerEnds6, FitsInnerEnds4}
use Rattle.icmp_xlat.specs.Mtu.{mtu64}
use Rattle.icmp_messages.specs.Table.{row_of, table46, pointer_of, pointers64}
use Rattle.icmp_xlat.proofs.Rows.{no_length}

-- ---- the payload

pub tcp_length : (payload : List ℕ) (ports : Ports) (sum : ℕ) → 18 ≤ length payload → length (with_l4 Tcp payload ports sum) ≡ length payload
tcp_length payload ports sum stands =
    let x0 = with_word 0 ports.src payload in
    let x2 = with_word 2 ports.dst x0 in
    let l0 = length-with_word 0 ports.src payload (omega arith) in
    let l2 = length-with_word 2 ports.dst x0 (omega arith) in
    length-with_word 16 sum x2 (omega arith) ∙ l2 ∙ l0

-- there are as many octets
length-inner : (proto : Proto) (payload : List ℕ) (change : Change) → 8 ≤ length payload → length (inner_payload proto payload change) ≡ length payload
length-inner Tcp payload change stands = elim (leb_tells 18 (length payload)) [
  | inl long ↦ rw long.0 (tcp_length payload change.ports _ long.1)
  | inr short ↦
      let l0 = length-with_word 0 change.ports.src payload (omega arith) in
      rw short.0 (length-with_word 2 change.ports.dst (with_word 0 change.ports.src payload) (omega arith) ∙ l0)
]
length-inner Udp payload change stands = length-with_l4 Udp payload change.ports _ stands
length-inner Icmp payload change stands = omega (arith, length-drop 6 payload)

pub two_ports : (src dst : ℕ) (ports : Ports) → src ≡ ports.src → dst ≡ ports.dst → record { src = src; dst = dst } ≡ ports
two_ports src dst ports a b = ap (λ (n : ℕ). record { src = n; dst = dst }) a ∙ ap (λ (n : ℕ). record { src = ports.src; dst = n }) b

-- both ports at the front, and perhaps a sum behind them
bare_ports : (ports : Ports) (xs : List ℕ) → 4 ≤ length xs → ArePorts ports
    → (word (with_word 2 ports.dst (with_word 0 ports.src xs)) 0 ≡ ports.src) × (word (with_word 2 ports.dst (with_word 0 ports.src xs)) 2 ≡ ports.dst)
bare_ports ports xs stands are =
    let x0 = with_word 0 ports.src xs in
    let l0 = length-with_word 0 ports.src xs (omega arith) in (
      word-with_word_other 2 ports.dst x0 0 (omega arith) (inl (omega arith)) ∙ word-with_word 0 ports.src xs (omega arith) are.0,
      word-with_word 2 ports.dst x0 (omega arith) are.1,
    )

summed_ports : (at sum : ℕ) (ports : Ports) (xs : List ℕ) → 4 ≤ at → at + 2 ≤ length xs → ArePorts ports
    → let there = with_word at sum (with_word 2 ports.dst (with_word 0 ports.src xs)) in record { src = word there 0; dst = word there 2 } ≡ ports
summed_ports at sum ports xs later stands are =
    let x0 = with_word 0 ports.src xs in
    let x2 = with_word 2 ports.dst x0 in
    let l0 = length-with_word 0 ports.src xs (omega arith) in
    let l2 = length-with_word 2 ports.dst x0 (omega arith) in
    let bare = bare_ports ports xs (omega arith) are in
    two_ports (word (with_word at sum x2) 0) (word (with_word at sum x2) 2) ports
    (word-with_word_other at sum x2 0 (omega arith) (inl (omega arith)) ∙ bare.0)
    (word-with_word_other at sum x2 2 (omega arith) (inl (omega arith)) ∙ bare.1)

-- they are read again, and of an echo the identifier
ports_back : (proto : Proto) (payload : List ℕ) (change : Change) → 8 ≤ length payload → ArePorts change.ports → (l4_of proto (inner_payload proto payload change)).ports ≡ ports_of proto change.ports
ports_back Tcp payload change stands are = elim (leb_tells 18 (length payload)) [
  | inl long ↦ rw long.0 (summed_ports 16 (readdressed_sum Tcp (l4_of Tcp payload) change.before change.after change.ports) change.ports payload (omega arith) (omega (arith, long.1)) are)
  | inr short ↦
      let bare = bare_ports change.ports payload (omega arith) are in
      let there = with_word 2 change.ports.dst (with_word 0 change.ports.src payload) in
      rw short.0 (two_ports (word there 0) (word there 2) change.ports bare.0 bare.1)
]
ports_back Udp payload change stands are =
    summed_ports 6 (cond (word payload 6 == 0) 0 (readdressed_sum Udp (l4_of Udp payload) change.before change.after change.ports)) change.ports payload (omega arith) (omega arith) are
ports_back Icmp payload change stands are =
    let n = word (inner_echo payload change) 4 in
    let is : n ≡ change.ports.src = number_back 2 change.ports.src (drop 6 payload) are.0 in
    two_ports n n (record { src = change.ports.src; dst = change.ports.src }) is is

-- the first octets of it say the same
octet-first : (xs : List ℕ) (room at : ℕ) → at < room → octet (take room xs) at ≡ octet xs at
octet-first xs room at inside = grind (arith, places)

word-first : (xs : List ℕ) (room at : ℕ) → at + 2 ≤ room → word (take room xs) at ≡ word xs at
word-first xs room at inside = omega (arith, octet-first xs room at (omega arith), octet-first xs room (suc at) (omega arith))

ports-first : (proto : Proto) (xs : List ℕ) (room : ℕ) → 8 ≤ room → (l4_of proto (take room xs)).ports ≡ (l4_of proto xs).ports
ports-first Tcp xs room fits = two_ports (word (take room xs) 0) (word (take room xs) 2) (record { src = word xs 0; dst = word xs 2 }) (word-first xs room 0 (omega arith)) (word-first xs room 2 (omega arith))
ports-first Udp xs room fits = two_ports (word (take room xs) 0) (word (take room xs) 2) (record { src = word xs 0; dst = word xs 2 }) (word-first xs room 0 (omega arith)) (word-first xs room 2 (omega arith))
ports-first Icmp xs room fits = two_ports (word (take room xs) 4) (word (take room xs) 4) (record { src = word xs 4; dst = word xs 4 }) (word-first xs room 4 (omega arith)) (word-first xs room 4 (omega arith))

given46 : (inner : Inner4) (ends : Ends Addr6) (proto : Proto) → (change46 inner ends proto).ports ≡ ends.ports
given46 inner ends Tcp = refl
given46 inner ends Udp = refl
given46 inner ends Icmp = refl

given64 : (inner : Inner6) (ends : Ends Addr4) (proto : Proto) → (change64 inner ends proto).ports ≡ ends.ports
given64 inner ends Tcp = refl
given64 inner ends Udp = refl
given64 inner ends Icmp = refl

-- ---- the protocol

kind46 : (k : ℕ) → (echo46 k ≡ 128) ⊎ (echo46 k ≡ 129)
kind46 k = by (k == 8)
  where
    by : (b : Bool) → let k : ℕ = cond b 128 129 in (k ≡ 128) ⊎ (k ≡ 129)
    by true = inl refl
    by false = inr refl

kind64 : (k : ℕ) → (echo64 k ≡ 8) ⊎ (echo64 k ≡ 0)
kind64 k = by (k == 128)
  where
    by : (b : Bool) → let k : ℕ = cond b 8 0 in (k ≡ 8) ⊎ (k ≡ 0)
    by true = inl refl
    by false = inr refl

carried46 : (proto : Proto) (inner : Inner4) (ends : Ends Addr6) (room : ℕ) → 8 ≤ room → IsCarried4 proto inner.head.proto inner.payload
    → IsCarried6 proto (upper_protocol inner.head.proto) (take room (inner_payload proto inner.payload (change46 inner ends proto)))
carried46 Tcp inner ends room fits is = ap upper_protocol is
carried46 Udp inner ends room fits is = ap upper_protocol is
carried46 Icmp inner ends room fits is =
    let there = inner_echo inner.payload (change46 inner ends Icmp) in
    (ap upper_protocol is.0, (subst (λ (k : ℕ). (k ≡ 128) ⊎ (k ≡ 129)) (sym (octet-first there room 0 (omega arith))) (kind46 (octet inner.payload 0)), octet-first there room 1 (omega arith)))

carried64 : (proto : Proto) (inner : Inner6) (ends : Ends Addr4) → IsCarried6 proto inner.head.upper inner.payload
    → IsCarried4 proto (protocol_of inner.head.upper) (inner_payload proto inner.payload (change64 inner ends proto))
carried64 Tcp inner ends is = ap protocol_of is
carried64 Udp inner ends is = ap protocol_of is
carried64 Icmp inner ends is = (ap protocol_of is.0, (kind64 (octet inner.payload 0), refl))

upper_is : (proto : Proto) (number : ℕ) (payload : List ℕ) → IsCarried4 proto number payload → IsUpper (upper_protocol number)
upper_is Tcp number payload is = subst (λ (n : ℕ). IsUpper (upper_protocol n)) (sym is) (λ h. omega arith, λ h. omega arith, λ h. omega arith, λ h. omega arith)
upper_is Udp number payload is = subst (λ (n : ℕ). IsUpper (upper_protocol n)) (sym is) (λ h. omega arith, λ h. omega arith, λ h. omega arith, λ h. omega arith)
upper_is Icmp number payload is = subst (λ (n : ℕ). IsUpper (upper_protocol n)) (sym is.0) (λ h. omega arith, λ h. omega arith, λ h. omega arith, λ h. omega arith)

-- ---- to IPv6

first_by : (b : Bool) (frag : Frag6) → frag.offset ≡ 0 → fragment_offset (cond b (Some frag) None) ≡ 0
first_by true frag first = first
first_by false frag first = refl

frag_fits : (b : Bool) (frag : Frag6) → (b ≡ true → frag.id < 65536) → FitsFrag (cond b (Some frag) None)
frag_fits true frag fits = omega (arith, fits refl)
frag_fits false frag fits = tt

begins6 : (inner : Inner4) (octets : List ℕ) (ends : Ends Addr6) (room : ℕ) → IsInner4 inner octets → FitsHead inner.head → FitsInnerEnds6 ends → 8 ≤ room
    → IsInner6 (record (moved46 inner ends) { payload = take room (moved46 inner ends).payload }) (written6 (inner_head46 inner ends) (take room (moved46 inner ends).payload))
begins6 inner octets ends room is fits are enough =
    let h = inner_head46 inner ends in
    let declared = inner.head.total - inner.head.head_len in
    let change = change46 inner ends inner.proto in
    let body = inner_payload inner.proto inner.payload change in
    let stands : length inner.payload ≤ declared = omega (arith, ap length is.payload, length-take declared (drop inner.head.head_len octets)) in
    let size : length body ≡ length inner.payload = length-inner inner.proto inner.payload change is.stands in
    let most : length (take room body) ≤ declared = omega (arith, length-take room body) in
    let short : declared ≤ 65515 = omega (arith, fits.total, is.header.least) in
    let at : IsPlaced h.start h.length h.frag = placed inner.head ends.inner_src ends.inner_dst (omega (arith, is.first)) short in
    let ports : ArePorts change.ports = subst (λ (p : Ports). ArePorts p) (sym (given46 inner ends inner.proto)) are.ports in
    record {
      headers = written_headers6 h (take room body) most refl (upper_is inner.proto inner.head.proto inner.payload is.carried) at
          (record { class = fits.tos; length_fits = omega arith; src = are.src; dst = are.dst })
          (frag_fits (is_fragment inner.head) (record { offset = inner.head.offset; more = inner.head.mf; id = inner.head.id }) fits.id);
      payload = sym (written_payload6 h (take room body) at (omega arith) ∙ take_all declared (take room body) most);
      stands = omega (arith, length-take room body, size, is.stands);
      first = first_by (is_fragment inner.head) (record { offset = inner.head.offset; more = inner.head.mf; id = inner.head.id }) is.first;
      carried = carried46 inner.proto inner ends room enough is.carried;
      ports = sym (ports-first inner.proto body room enough ∙ ports_back inner.proto inner.payload change is.stands ports ∙ ap (λ (p : Ports). ports_of inner.proto p) (given46 inner ends inner.proto));
    }

pub again46 : (inner : Inner4) (octets : List ℕ) (ends : Ends Addr6) → IsInner4 inner octets → FitsHead inner.head → FitsInnerEnds6 ends → IsInner6 (moved46 inner ends) (inner46 inner ends)
again46 inner octets ends is fits are =
    let body = (moved46 inner ends).payload in
    let all : take (length body) body ≡ body = take_all (length body) body (omega arith) in
    let size : length body ≡ length inner.payload = length-inner inner.proto inner.payload (change46 inner ends inner.proto) is.stands in
    subst (λ (xs : List ℕ). IsInner6 (record (moved46 inner ends) { payload = xs }) (written6 (inner_head46 inner ends) xs)) all
    (begins6 inner octets ends (length body) is fits are (omega (arith, size, is.stands)))

-- what an error holds of it
cut_by : (b : Bool) (frag : Frag6) (h : Head6) (payload : List ℕ) → h.frag ≡ cond b (Some frag) None → h.start ≡ cond b 48 40
    → take 1232 (written6 h payload) ≡ written6 h (take (1232 - h.start) payload)
cut_by true frag h payload is start = rw (is, start) refl
cut_by false frag h payload is start = rw (is, start) refl

start_by : (b : Bool) (frag : Frag6) → ◌≡◌ {A = ℕ} (cond (is_some (cond b (Some frag) None)) 48 40) (cond b 48 40)
start_by true frag = refl
start_by false frag = refl

room_by : (b : Bool) (start : ℕ) → start ≡ cond b 48 40 → 8 ≤ 1232 - start
room_by true start is = omega arith
room_by false start is = omega arith

pub held46 : (inner : Inner4) (octets : List ℕ) (ends : Ends Addr6) → IsInner4 inner octets → FitsHead inner.head → FitsInnerEnds6 ends → IsInner6 (held6 (moved46 inner ends)) (take 1232 (inner46 inner ends))
held46 inner octets ends is fits are =
    let h = inner_head46 inner ends in
    let b = is_fragment inner.head in
    let frag : Frag6 = record { offset = inner.head.offset; more = inner.head.mf; id = inner.head.id } in
    let start : h.start ≡ cond b 48 40 = start_by b frag in
    subst (λ (xs : List ℕ). IsInner6 (held6 (moved46 inner ends)) xs) (sym (cut_by b frag h (moved46 inner ends).payload refl start))
    (begins6 inner octets ends (1232 - h.start) is fits are (room_by b h.start start))

-- the message says no length of what it embeds
same_number : (a b : ℕ) → ◌≡◌ {A = Option ℕ} (Some a) (Some b) → a ≡ b
same_number a b e = cc

no_number : (a : ℕ) → ◌≡◌ {A = Option ℕ} None (Some a) → ⊥
no_number a e = cc

zero_rest : (mtus : Mtus) (total rest found : ℕ) (kind : Rest) → kind ≡ Zero → rest46 mtus total rest kind ≡ Some found → found / 2 ^ 24 ≡ 0
zero_rest mtus total rest found kind zero is =
    let same : 0 ≡ found = same_number 0 found (rw zero at is) in
    omega arith

no_words : (b : Bool) → (b && false) ≡ false
no_words true = refl
no_words false = refl

pub all_embedded6 : (mtus : Mtus) (total told : ℕ) (kind code : ℕ) (row : Row) (m : Icmp6) → row_of table46 kind code ≡ Some row → rest46 mtus total told row.rest ≡ Some m.rest → m.kind ≡ row.to_kind → embedded64 m ≡ m.body
all_embedded6 mtus total told kind code row m found rest is = elim (no_length kind code row found) [
  | inl zero ↦ rw (zero_rest mtus total told m.rest row.rest zero rest, no_words (m.kind == 1 || m.kind == 3)) refl
  | inr other ↦
      let none : (m.kind == 1 || m.kind == 3) ≡ false = ap (λ (k : ℕ). (k == 1 || k == 3)) is ∙ other in
      rw none refl
]

pub in_message46 : (mtus : Mtus) (m : Icmp4) (row : Row) (rest : ℕ) (inner : Inner4) (ends : Ends Addr6) → row_of table46 m.kind m.code ≡ Some row → rest46 mtus inner.head.total m.rest row.rest ≡ Some rest
    → IsInner4 inner (embedded46 m) → FitsHead inner.head → FitsInnerEnds6 ends → IsInner6 (held6 (moved46 inner ends)) (embedded64 (error46 row rest inner ends))
in_message46 mtus m row rest inner ends found told is fits are =
    subst (λ (xs : List ℕ). IsInner6 (held6 (moved46 inner ends)) xs) (sym (all_embedded6 mtus inner.head.total m.rest m.kind m.code row (error46 row rest inner ends) found told refl))
    (held46 inner (embedded46 m) ends is fits are)

-- ---- to IPv4

id_fits : (frag : Option Frag6) → identification frag 0 < 65536
id_fits (Some frag) = omega arith
id_fits None = omega arith

pub again64 : (inner : Inner6) (octets : List ℕ) (ends : Ends Addr4) → IsInner6 inner octets → length inner.payload ≤ 65515 → FitsInnerEnds4 ends → IsInner4 (moved64 inner ends) (inner64 inner ends)
again64 inner octets ends is short are =
    let h = inner_head64 inner ends in
    let change = change64 inner ends inner.proto in
    let body = inner_payload inner.proto inner.payload change in
    let stands : length inner.payload ≤ inner.head.length = omega (arith, ap length is.payload, length-take inner.head.length (drop inner.head.start octets)) in
    let size : length body ≡ length inner.payload = length-inner inner.proto inner.payload change is.stands in
    let most : length body ≤ min (20 + inner.head.length) 65535 - 20 = omega arith in
    let ports : ArePorts change.ports = subst (λ (p : Ports). ArePorts p) (sym (given64 inner ends inner.proto)) are.ports in
    let in_range : IsInRange4 h = record { total = omega arith; id = id_fits inner.head.frag; src = are.src; dst = are.dst } in
    record {
      header = written_header4 h body in_range refl refl (omega (arith, is.first));
      payload = sym (take_all (min (20 + inner.head.length) 65535 - 20) body most);
      stands = omega (arith, is.stands);
      first = is.first;
      carried = carried64 inner.proto inner ends is.carried;
      ports = sym (ports_back inner.proto inner.payload change is.stands ports ∙ ap (λ (p : Ports). ports_of inner.proto p) (given64 inner ends inner.proto));
    }

-- no pointer and no MTU is taken for a length of what is embedded
length_octet : (mtus : Mtus) (told rest : ℕ) (kind : Rest) → rest64 mtus told kind ≡ Some rest → rest / 2 ^ 16 % 256 ≡ 0
length_octet mtus told rest Query is = absurd (no_number rest is)
length_octet mtus told rest Zero is = let same = same_number 0 rest is in omega arith
length_octet mtus told rest Protocol is = let same = same_number 0 rest is in omega arith
length_octet mtus told rest Mtu is = let same = same_number (mtu64 mtus told) rest is in omega (arith, mtus.most4)
length_octet mtus told rest Pointer is = by (pointer_of pointers64 told) is
  where
    by : (found : Option ℕ) → option_map (λ pointer. pointer * 2 ^ 24) found ≡ Some rest → rest / 2 ^ 16 % 256 ≡ 0
    by None e = absurd (no_number rest e)
    by (Some pointer) e = let same = same_number (pointer * 2 ^ 24) rest e in omega arith

all_embedded4 : (mtus : Mtus) (told : ℕ) (kind : Rest) (m : Icmp4) → rest64 mtus told kind ≡ Some m.rest → embedded46 m ≡ m.body
all_embedded4 mtus told kind m is = rw (length_octet mtus told m.rest kind is) refl

-- behind the headers of an IPv6 packet so much of a message stands at most
start_least : (h : Head6) (octets : List ℕ) → HasHeaders6 h octets → 40 ≤ h.start
start_least h octets has = elim (read 40 (octet octets 6) (part octets 40 (payload_len octets)) (record { upper = h.upper; start = h.start; frag = h.frag; left = h.left }) has.chain).ends [
  | inl upper ↦ omega (arith, upper.start)
  | inr fragment ↦ omega (arith, fragment.start)
]

embedded_short : (m : Icmp6) → length (embedded64 m) ≤ length m.body
embedded_short m = by ((m.kind == 1 || m.kind == 3) && not (m.rest / 2 ^ 24 == 0))
  where
    by : (b : Bool) → length (cond b (take (8 * (m.rest / 2 ^ 24)) m.body) m.body) ≤ length m.body
    by true = omega (arith, length-take (8 * (m.rest / 2 ^ 24)) m.body)
    by false = omega arith

inner_short : (inner : Inner6) (octets : List ℕ) → IsInner6 inner octets → length octets ≤ 65527 → length inner.payload ≤ 65515
inner_short inner octets is fits =
    omega (arith, ap length is.payload, length-take inner.head.length (drop inner.head.start octets), length-drop inner.head.start octets, start_least inner.head octets is.headers)

pub in_message64 : (mtus : Mtus) (m : Icmp6) (row : Row) (rest : ℕ) (inner : Inner6) (ends : Ends Addr4) → rest64 mtus m.rest row.rest ≡ Some rest
    → IsInner6 inner (embedded64 m) → length m.body ≤ 65527 → FitsInnerEnds4 ends → IsInner4 (moved64 inner ends) (embedded46 (error64 row rest inner ends))
in_message64 mtus m row rest inner ends told is fits are =
    subst (λ (xs : List ℕ). IsInner4 (moved64 inner ends) xs) (sym (all_embedded4 mtus m.rest row.rest (error64 row rest inner ends) told))
    (again64 inner (embedded64 m) ends is (inner_short inner (embedded64 m) is (omega (arith, embedded_short m))) are)
