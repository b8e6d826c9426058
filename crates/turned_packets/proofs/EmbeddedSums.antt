-- A right sum of an embedded packet stays right where it is turned.
use Rattle.std.proofs.Common.{◌≡◌, ◌≢◌, ◌⊎◌, ℕ, ◌+◌, ◌-◌, ◌%◌, ◌<◌, ◌≤◌, if◌then◌else◌, List, length, drop, inl, inr, refl, sym, ap, ◌∙◌, arith}
use Rattle.std.specs.Prelude.{nat_le}
use Rattle.std.proofs.lemmas.Bool.{cases_lt, le-leb, ne_eqb, eq-eqb}
use Rattle.octets.specs.Field.{word, with_word, in_quad}
use Rattle.octets.proofs.Words.{length-with_word, word-with_word, word-with_word_other}
use Rattle.octets.specs.declared.address.Addr4.{Addr4}
use Rattle.octets.specs.declared.proto.Proto.{Proto}
use Rattle.octets.specs.declared.proto.Proto.TheVariants.{Tcp, Udp, Icmp}
use Rattle.inet_sum.specs.Sum.{words, folded, adjusted, as_udp}
use Rattle.inet_sum.proofs.Laws.{full_folded, right_adjusted, right_as_udp}
use Rattle.ip4_packet.specs.declared.head.Head4.{Head4}
use Rattle.l4_headers.specs.declared.ports.Ports.{Ports}
use Rattle.l4_headers.specs.PseudoHeader.{pseudo_header4}
use Rattle.l4_headers.specs.Transport.{l4_of}
use Rattle.l4_headers.proofs.RightSums.{words-pseudo4}
use Rattle.l4_headers.proofs.Words.{words-with_word}
use Rattle.icmp_messages.specs.declared.inner4.Inner4.{Inner4}
use Rattle.icmp_messages.specs.Inner.{IsCarried4, IsInner4}
use Rattle.icmp_xlat.specs.Sums.{outside4, IsRightIn4, HasSum}
use Rattle.icmp_xlat.proofs.RightSums.{words-echo}
use Rattle.turned_packets.specs.Ends.{End, Source, Destination, NewEnd, address_at, port_at, with_address}
use Rattle.turned_packets.specs.Segment.{changed_sum, end_words}
use Rattle.turned_packets.specs.Embedded.{port_place, sum_place}
use Rattle.turned_packets.specs.Sums.{turned_inner_payload, turned_inner, IsZeroEcho}
use Rattle.turned_packets.proofs.RightSums.{balanced}

-- the words of a payload with one word and its sum replaced
words-two : (at place n sum : ℕ) (xs : List ℕ) → at % 2 ≡ 0 → place % 2 ≡ 0 → at + 2 ≤ length xs → place + 2 ≤ length xs → (place + 2 ≤ at) ⊎ (at + 2 ≤ place) → n < 65536 → sum < 65536
    → words (with_word place sum (with_word at n xs)) + (word xs at + word xs place) ≡ words xs + (n + sum)
words-two at place n sum xs even also stands there apart small fits =
    let a = with_word at n xs in
    let la : length a ≡ length xs = length-with_word at n xs stands in
    let sa = words-with_word at n xs stands even small in
    let sb = words-with_word place sum a (omega arith) also fits in
    let kept = word-with_word_other at n xs place stands apart in
    omega arith

-- a sum at `place` stays right where the word at `at` becomes `n`, and words of sum `gone` outside become words of sum `come`
right_adjusted_at : (at place n rest rest' gone come : ℕ) (xs : List ℕ) → at % 2 ≡ 0 → place % 2 ≡ 0 → at + 2 ≤ length xs → place + 2 ≤ length xs → (place + 2 ≤ at) ⊎ (at + 2 ≤ place) → n < 65536
    → rest' + gone ≡ rest + come → 0 < rest' + words (with_word place 0 (with_word at n xs)) → folded (rest + words xs) ≡ 65535
    → folded (rest' + words (with_word place (adjusted (word xs place) (gone + word xs at) (come + n)) (with_word at n xs))) ≡ 65535
right_adjusted_at at place n rest rest' gone come xs even also stands there apart small moves some right =
    let c = word xs place in
    let old = gone + word xs at in
    let new = come + n in
    let sum = adjusted c old new in
    let with_sum = words-two at place n sum xs even also stands there apart small (omega arith) in
    let none = words-two at place n 0 xs even also stands there apart small (omega arith) in
    let zeroed = words-two at place 0 0 xs even also stands there apart (omega arith) (omega arith) in
    let others = words (with_word place 0 (with_word at 0 xs)) in
    let front = rest + others + word xs at in
    let front' = rest' + others + n in
    let before : front + c ≡ rest + words xs = omega (arith, zeroed) in
    let after : rest' + words (with_word place sum (with_word at n xs)) ≡ front' + sum = omega (arith, with_sum, zeroed) in
    ap folded after ∙ right_adjusted front front' c old new (ap folded before ∙ right) (omega (arith, moves)) (omega (arith, some, none, zeroed))

right_udp_at : (at place n rest rest' gone come : ℕ) (xs : List ℕ) → at % 2 ≡ 0 → place % 2 ≡ 0 → at + 2 ≤ length xs → place + 2 ≤ length xs → (place + 2 ≤ at) ⊎ (at + 2 ≤ place) → n < 65536
    → rest' + gone ≡ rest + come → folded (rest + words xs) ≡ 65535
    → folded (rest' + words (with_word place (as_udp (adjusted (word xs place) (gone + word xs at) (come + n))) (with_word at n xs))) ≡ 65535
right_udp_at at place n rest rest' gone come xs even also stands there apart small moves right =
    let c = word xs place in
    let old = gone + word xs at in
    let new = come + n in
    let sum = as_udp (adjusted c old new) in
    let with_sum = words-two at place n sum xs even also stands there apart small (udp_fits (adjusted c old new) (omega arith)) in
    let zeroed = words-two at place 0 0 xs even also stands there apart (omega arith) (omega arith) in
    let others = words (with_word place 0 (with_word at 0 xs)) in
    let front = rest + others + word xs at in
    let front' = rest' + others + n in
    let before : front + c ≡ rest + words xs = omega (arith, zeroed) in
    let after : rest' + words (with_word place sum (with_word at n xs)) ≡ front' + sum = omega (arith, with_sum, zeroed) in
    ap folded after ∙ right_as_udp front front' c old new (ap folded before ∙ right) (omega (arith, moves))
  where
    udp_fits : (d : ℕ) → d < 65535 → as_udp d < 65536
    udp_fits d below = grind arith

-- where a port of TCP and UDP stands
record PortAt (end : End) (at : ℕ) (payload : List ℕ) (ports : Ports) : Type 0 where
  even : at % 2 ≡ 0
  below : at + 2 ≤ 4
  is : port_at end ports ≡ word payload at

port_of : (end : End) (proto : Proto) (payload : List ℕ) (ports : Ports) → proto ≢ Icmp → ports ≡ (l4_of proto payload).ports → PortAt end (port_place proto end) payload ports
port_of Source Tcp payload ports carried is = record { even = refl; below = omega arith; is = ap (λ (p : Ports). p.src) is }
port_of Destination Tcp payload ports carried is = record { even = refl; below = omega arith; is = ap (λ (p : Ports). p.dst) is }
port_of Source Udp payload ports carried is = record { even = refl; below = omega arith; is = ap (λ (p : Ports). p.src) is }
port_of Destination Udp payload ports carried is = record { even = refl; below = omega arith; is = ap (λ (p : Ports). p.dst) is }
port_of end Icmp payload ports carried is = absurd (carried refl)

identifier_of : (end : End) (payload : List ℕ) (ports : Ports) → ports ≡ (l4_of Icmp payload).ports → port_at end ports ≡ word payload 4
identifier_of Source payload ports is = ap (λ (p : Ports). p.src) is
identifier_of Destination payload ports is = ap (λ (p : Ports). p.dst) is

regroup : (a b c : ℕ) → a + b + c ≡ a + c + b
regroup a b c = omega arith

nothing_outside : (w later : ℕ) → 0 + w + later ≡ later + w
nothing_outside w later = omega arith

some_words : (b a d number len later w : ℕ) → b ≡ a + d + (number + len) → 0 < number → 0 < (b + later) + w
some_words b a d number len later w is some = omega arith

moves_later : (rest rest' gone come later : ℕ) → rest' + gone ≡ rest + come → (rest' + later) + gone ≡ (rest + later) + come
moves_later rest rest' gone come later moves = omega arith

-- the pseudo header of the turned embedded packet
abbrev outside : NewEnd → Inner4 → ℕ
outside new inner =
    let there = with_address new.end new.addr inner.head in
    words (pseudo_header4 there.src there.dst inner.head.proto (inner.head.total - inner.head.head_len))

other_fields : (end : End) (addr : Addr4) (h : Head4)
    → words (pseudo_header4 (with_address end addr h).src (with_address end addr h).dst (with_address end addr h).proto ((with_address end addr h).total - (with_address end addr h).head_len))
    ≡ words (pseudo_header4 (with_address end addr h).src (with_address end addr h).dst h.proto (h.total - h.head_len))
other_fields Source addr h = refl
other_fields Destination addr h = refl

same_outside : (new : NewEnd) (inner : Inner4) (proto : Proto) → proto ≢ Icmp → outside4 (turned_inner new inner) proto ≡ outside new inner
same_outside new inner Tcp carried = other_fields new.end new.addr inner.head
same_outside new inner Udp carried = other_fields new.end new.addr inner.head
same_outside new inner Icmp carried = absurd (carried refl)

-- what becomes of the payload, by protocol, with the port as it is read there
sum_of : (proto : Proto) (c addr addr' port port' read : ℕ) → port ≡ read → changed_sum proto c (addr + port) (addr' + port') ≡ changed_sum proto c (addr + read) (addr' + port')
sum_of proto c addr addr' port port' read is = ap (λ (n : ℕ). changed_sum proto c (addr + n) (addr' + port')) is

abbrev by_proto : (proto : Proto) (new : NewEnd) (inner : Inner4) → List ℕ
by_proto proto new inner =
    let ported = with_word (port_place proto new.end) new.port inner.payload in
    let sum = changed_sum proto (word inner.payload (sum_place proto)) (end_words proto (address_at new.end inner.head) (port_at new.end inner.ports)) (end_words proto new.addr new.port) in
    if nat_le (sum_place proto + 2) (length inner.payload) then with_word (sum_place proto) sum ported else ported

of_proto : (new : NewEnd) (inner : Inner4) (proto : Proto) → inner.proto ≡ proto → turned_inner_payload new inner ≡ by_proto proto new inner
of_proto new inner proto is = ap (λ (p : Proto). by_proto p new inner) is

tcp_payload : (new : NewEnd) (inner : Inner4) → inner.proto ≡ Tcp → 18 ≤ length inner.payload → port_at new.end inner.ports ≡ word inner.payload (port_place Tcp new.end)
    → turned_inner_payload new inner
    ≡ with_word 16 (adjusted (word inner.payload 16) (words (in_quad (address_at new.end inner.head).0) + word inner.payload (port_place Tcp new.end)) (words (in_quad new.addr.0) + new.port)) (with_word (port_place Tcp new.end) new.port inner.payload)
tcp_payload new inner proto stands port =
    of_proto new inner Tcp proto
    ∙ rw (le-leb 18 (length inner.payload) stands) (ap (λ (n : ℕ). with_word 16 (adjusted (word inner.payload 16) (words (in_quad (address_at new.end inner.head).0) + n) (words (in_quad new.addr.0) + new.port)) (with_word (port_place Tcp new.end) new.port inner.payload)) port)

udp_payload : (new : NewEnd) (inner : Inner4) → inner.proto ≡ Udp → 8 ≤ length inner.payload → word inner.payload 6 ≢ 0 → port_at new.end inner.ports ≡ word inner.payload (port_place Udp new.end)
    → turned_inner_payload new inner
    ≡ with_word 6 (as_udp (adjusted (word inner.payload 6) (words (in_quad (address_at new.end inner.head).0) + word inner.payload (port_place Udp new.end)) (words (in_quad new.addr.0) + new.port))) (with_word (port_place Udp new.end) new.port inner.payload)
udp_payload new inner proto stands sum port =
    of_proto new inner Udp proto
    ∙ rw (le-leb 8 (length inner.payload) stands, ne_eqb (word inner.payload 6) 0 sum) (ap (λ (n : ℕ). with_word 6 (as_udp (adjusted (word inner.payload 6) (words (in_quad (address_at new.end inner.head).0) + n) (words (in_quad new.addr.0) + new.port))) (with_word (port_place Udp new.end) new.port inner.payload)) port)

missing_payload : (new : NewEnd) (inner : Inner4) → inner.proto ≡ Udp → 8 ≤ length inner.payload → word inner.payload 6 ≡ 0
    → turned_inner_payload new inner ≡ with_word 6 0 (with_word (port_place Udp new.end) new.port inner.payload)
missing_payload new inner proto stands none =
    of_proto new inner Udp proto ∙ rw (le-leb 8 (length inner.payload) stands, eq-eqb (word inner.payload 6) 0 none) refl

echo_payload : (new : NewEnd) (inner : Inner4) → inner.proto ≡ Icmp → 8 ≤ length inner.payload → port_at new.end inner.ports ≡ word inner.payload 4
    → turned_inner_payload new inner ≡ with_word 2 (adjusted (word inner.payload 2) (0 + word inner.payload 4) (0 + new.port)) (with_word 4 new.port inner.payload)
echo_payload new inner proto stands port =
    of_proto new inner Icmp proto
    ∙ rw (le-leb 4 (length inner.payload) (omega (arith, stands))) (ap (λ (n : ℕ). with_word 2 (adjusted (word inner.payload 2) n new.port) (with_word 4 new.port inner.payload)) port ∙ zeros)
  where
    none : (n : ℕ) → n ≡ 0 + n
    none n = omega arith

    zeros : with_word 2 (adjusted (word inner.payload 2) (word inner.payload 4) new.port) (with_word 4 new.port inner.payload) ≡ with_word 2 (adjusted (word inner.payload 2) (0 + word inner.payload 4) (0 + new.port)) (with_word 4 new.port inner.payload)
    zeros = ap (λ (n : ℕ). with_word 2 (adjusted (word inner.payload 2) n new.port) (with_word 4 new.port inner.payload)) (none (word inner.payload 4))
        ∙ ap (λ (n : ℕ). with_word 2 (adjusted (word inner.payload 2) (0 + word inner.payload 4) n) (with_word 4 new.port inner.payload)) (none new.port)

-- a transport sum stays right
right_at : (proto : Proto) (new : NewEnd) (inner : Inner4) (later : ℕ) → inner.proto ≡ proto → 8 ≤ length inner.payload → inner.head.total < 65536 → new.port < 65536 → IsCarried4 proto inner.head.proto inner.payload
    → inner.ports ≡ (l4_of proto inner.payload).ports → HasSum proto inner.payload → (IsZeroEcho new inner later → ⊥)
    → folded (outside4 inner proto + words inner.payload + later) ≡ 65535
    → folded (outside4 (turned_inner new inner) proto + words (turned_inner_payload new inner) + later) ≡ 65535
right_at Tcp new inner later proto long short port is ports sum some right =
    let payload = inner.payload in
    let at = port_place Tcp new.end in
    let found : PortAt new.end at payload inner.ports = port_of new.end Tcp payload inner.ports (λ e. cc) ports in
    let len = inner.head.total - inner.head.head_len in
    let a = outside4 inner Tcp in
    let b = outside new inner in
    let change = balanced new.end new.addr inner.head len (omega arith) in
    let gone = words (in_quad (address_at new.end inner.head).0) in
    let come = words (in_quad new.addr.0) in
    let there = with_address new.end new.addr inner.head in
    let positive : 0 < b + later + words (with_word 16 0 (with_word at new.port payload)) = some_words b (words (in_quad there.src.0)) (words (in_quad there.dst.0)) inner.head.proto len later _ (words-pseudo4 there.src there.dst inner.head.proto len (omega arith)) (omega (arith, is)) in
    let made = right_adjusted_at at 16 new.port (a + later) (b + later) gone come payload found.even refl (omega (arith, found.below, sum)) (omega (arith, sum)) (inr (omega (arith, found.below))) port (moves_later a b gone come later change) positive (ap folded (regroup a later (words payload)) ∙ right) in
    let written : turned_inner_payload new inner ≡ with_word 16 (adjusted (word payload 16) (gone + word payload at) (come + new.port)) (with_word at new.port payload) = tcp_payload new inner proto sum found.is in
    ap (λ (o : ℕ). folded (o + words (turned_inner_payload new inner) + later)) (same_outside new inner Tcp (λ e. cc))
    ∙ ap (λ (xs : List ℕ). folded (b + words xs + later)) written
    ∙ ap folded (regroup b (words (with_word 16 (adjusted (word payload 16) (gone + word payload at) (come + new.port)) (with_word at new.port payload))) later)
    ∙ made
right_at Udp new inner later proto long short port is ports sum some right =
    let payload = inner.payload in
    let at = port_place Udp new.end in
    let found : PortAt new.end at payload inner.ports = port_of new.end Udp payload inner.ports (λ e. cc) ports in
    let len = inner.head.total - inner.head.head_len in
    let a = outside4 inner Udp in
    let b = outside new inner in
    let change = balanced new.end new.addr inner.head len (omega arith) in
    let gone = words (in_quad (address_at new.end inner.head).0) in
    let come = words (in_quad new.addr.0) in
    let made = right_udp_at at 6 new.port (a + later) (b + later) gone come payload found.even refl (omega (arith, found.below, long)) (omega (arith, long)) (inr (omega (arith, found.below))) port (moves_later a b gone come later change) (ap folded (regroup a later (words payload)) ∙ right) in
    let written : turned_inner_payload new inner ≡ with_word 6 (as_udp (adjusted (word payload 6) (gone + word payload at) (come + new.port))) (with_word at new.port payload) = udp_payload new inner proto long sum found.is in
    ap (λ (o : ℕ). folded (o + words (turned_inner_payload new inner) + later)) (same_outside new inner Udp (λ e. cc))
    ∙ ap (λ (xs : List ℕ). folded (b + words xs + later)) written
    ∙ ap folded (regroup b (words (with_word 6 (as_udp (adjusted (word payload 6) (gone + word payload at) (come + new.port))) (with_word at new.port payload))) later)
    ∙ made
right_at Icmp new inner later proto long short port is ports sum some right =
    let payload = inner.payload in
    let zeroed = words-two 4 2 new.port 0 payload refl refl (omega (arith, long)) (omega (arith, long)) (inl (omega arith)) port (omega arith) in
    let all = words-echo payload long in
    let positive : 0 < later + words (with_word 2 0 (with_word 4 new.port payload)) = covers (word payload 0) (word payload 2) (word payload 4) (words (drop 6 payload)) (words payload) new.port (words (with_word 2 0 (with_word 4 new.port payload))) later all zeroed (λ k i d. some (proto, k, i, d)) in
    let made = right_adjusted_at 4 2 new.port later later 0 0 payload refl refl (omega (arith, long)) (omega (arith, long)) (inl (omega arith)) port refl positive (ap folded (sym (nothing_outside (words payload) later)) ∙ right) in
    let written : turned_inner_payload new inner ≡ with_word 2 (adjusted (word payload 2) (0 + word payload 4) (0 + new.port)) (with_word 4 new.port payload) = echo_payload new inner proto long (identifier_of new.end payload inner.ports ports) in
    ap (λ (xs : List ℕ). folded (0 + words xs + later)) written
    ∙ ap folded (nothing_outside (words (with_word 2 (adjusted (word payload 2) (0 + word payload 4) (0 + new.port)) (with_word 4 new.port payload))) later)
    ∙ made
  where
    covers : (a c id data' all port zeroed later : ℕ) → all ≡ a + c + id + data' → zeroed + (id + c) ≡ all + (port + 0) → (a ≡ 0 → port ≡ 0 → data' + later ≡ 0 → ⊥) → 0 < later + zeroed
    covers a c id data' all port zeroed later is with_it h = elim (cases_lt 0 (later + zeroed)) [ inl some ↦ some | inr none ↦ absurd (h (omega arith) (omega arith) (omega arith)) ]

pub right_embedded : (new : NewEnd) (inner : Inner4) (octets : List ℕ) (later : ℕ) → IsInner4 inner octets → inner.head.total < 65536 → new.port < 65536 → HasSum inner.proto inner.payload → (IsZeroEcho new inner later → ⊥)
    → IsRightIn4 inner later → IsRightIn4 (turned_inner new inner) later
right_embedded new inner octets later is short port sum some right = right_at inner.proto new inner later refl is.stands short port is.carried is.ports sum some right

pub zero_embedded : (new : NewEnd) (inner : Inner4) (octets : List ℕ) (later : ℕ) → IsInner4 inner octets → IsZeroEcho new inner later → IsRightIn4 inner later → word (turned_inner new inner).payload 2 ≡ 0
zero_embedded new inner octets later is (icmp, kind, id, rest) right =
    let payload = inner.payload in
    let written = echo_payload new inner icmp is.stands (identifier_of new.end payload inner.ports (is.ports ∙ ap (λ (p : Proto). (l4_of p payload).ports) icmp)) in
    let all = words-echo payload is.stands in
    let given : folded (0 + words payload + later) ≡ 65535 = ap (λ (p : Proto). folded (outside4 inner p + words payload + later)) (sym icmp) ∙ right in
    let sum = adjusted (word payload 2) (0 + word payload 4) (0 + new.port) in
    let zero' : sum ≡ 0 = none (word payload 0) (word payload 2) (word payload 4) (words (drop 6 payload)) later (words payload) new.port all given kind id rest in
    ap (λ (xs : List ℕ). word xs 2) written
    ∙ word-with_word 2 sum (with_word 4 new.port payload) (longer payload new.port is.stands) (fits (word payload 2) (0 + word payload 4) (0 + new.port))
    ∙ zero'
  where
    none : (a c w data' later all port : ℕ) → all ≡ a + c + w + data' → folded (0 + all + later) ≡ 65535 → a ≡ 0 → port ≡ 0 → data' + later ≡ 0 → adjusted c (0 + w) (0 + port) ≡ 0
    none a c w data' later all port is right kind id rest = let whole = (full_folded _ right).1 in omega arith

    longer : (xs : List ℕ) (n : ℕ) → 8 ≤ length xs → 2 + 2 ≤ length (with_word 4 n xs)
    longer xs n long = omega (arith, length-with_word 4 n xs (omega arith))

    fits : (c old new : ℕ) → adjusted c old new < 65536
    fits c old new = omega arith

pub missing_embedded : (new : NewEnd) (inner : Inner4) (octets : List ℕ) → IsInner4 inner octets → inner.proto ≡ Udp → word inner.payload 6 ≡ 0 → word (turned_inner new inner).payload 6 ≡ 0
missing_embedded new inner octets is udp none =
    ap (λ (xs : List ℕ). word xs 6) (missing_payload new inner udp is.stands none)
    ∙ word-with_word 6 0 (with_word (port_place Udp new.end) new.port inner.payload) (longer new.end inner.payload new.port is.stands) (omega arith)
  where
    longer : (end : End) (xs : List ℕ) (n : ℕ) → 8 ≤ length xs → 6 + 2 ≤ length (with_word (port_place Udp end) n xs)
    longer Source xs n long = omega (arith, length-with_word 0 n xs (omega arith))
    longer Destination xs n long = omega (arith, length-with_word 2 n xs (omega arith))
