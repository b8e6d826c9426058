-- The payload of a packet that an ICMP error embeds, there and back. It is cut in between.
use Rattle.std.proofs.Common.{◌≡◌, ◌≢◌, ◌⊎◌, ℕ, suc, ◌+◌, ◌*◌, ◌-◌, ◌<◌, ◌≤◌, true, false, cond, List, ◌∷◌, ◌++◌, length, take, drop, inl, inr, refl, sym, ap, ◌∙◌, subst, arith}
use Rattle.std.specs.Prelude.{nat_le, ◌==◌}
use Rattle.std.proofs.lemmas.Bool.{cases_eq, ne_eqb}
use Rattle.std.proofs.lemmas.Bool.Decides.{nat_tests, leb_tells}
use Rattle.std.proofs.lemmas.List.{places, length-take}
use Rattle.std.proofs.lemmas.Grind.{same_number_lists}
use Rattle.octets.specs.Field.{octet, word, with_word, part, in_word}
use Rattle.octets.proofs.Parts.{number_back}
use Rattle.octets.proofs.Words.{length-with_word, word-with_word, word-with_word_other}
use Rattle.octets.specs.declared.proto.Proto.{Proto}
use Rattle.octets.specs.declared.proto.Proto.TheVariants.{Tcp, Udp, Icmp}
use Rattle.inet_sum.specs.Sum.{words, adjusted}
use Rattle.l4_headers.specs.declared.ports.Ports.{Ports}
use Rattle.l4_headers.specs.declared.ports.L4.{L4}
use Rattle.l4_headers.specs.Transport.{l4_of, with_l4}
use Rattle.l4_headers.specs.PseudoHeader.{pseudo_header6}
use Rattle.l4_headers.specs.Readdressed.{readdressed_sum, port_words}
use Rattle.l4_headers.proofs.Laws.{length-with_l4, l4_of-with_udp}
use Rattle.octets.specs.declared.address.Addr4.{Addr4}
use Rattle.octets.specs.declared.address.Addr6.{Addr6}
use Rattle.icmp_messages.specs.declared.inner4.Inner4.{Inner4}
use Rattle.icmp_messages.specs.declared.inner6.Inner6.{Inner6}
use Rattle.icmp_messages.specs.Inner.{IsCarried4}
use Rattle.xlat46.specs.Whole.{ArePorts, addresses_before as addresses4, addresses_after as addresses_of6}
use Rattle.xlat64.specs.Whole.{addresses_after as addresses_of4}
use Rattle.l4_headers.specs.declared.ends.Ends.{Ends}
use Rattle.icmp_xlat.specs.Inner.{Change, inner_tcp, inner_udp, inner_echo, echo_sum, inner_payload, change46, change64, echo46, echo64, inner_head46}
use Rattle.icmp_xlat.proofs.ReadAgain.{tcp_length, two_ports}
use Rattle.crossing.specs.Named.{inner_change}
use Rattle.crossing.specs.Transfer.{inner_with}
use Rattle.crossing.proofs.Sums.{adjusted-twice, written-twice, adjusted_fits, udp_fits, udp_some}
use Rattle.crossing.proofs.Twice.{over, apart, three, with_l4-twice}
use Rattle.crossing.proofs.Piece.{word_first, three_front, with_l4-front, l4_of-front}

-- ---- TCP of which at least the sum stands

pub tcp_read : (payload : List ℕ) (ports : Ports) (sum : ℕ) → 18 ≤ length payload → ArePorts ports → sum < 65536
    → (word (with_l4 Tcp payload ports sum) 0 ≡ ports.src) × (word (with_l4 Tcp payload ports sum) 2 ≡ ports.dst) × (word (with_l4 Tcp payload ports sum) 16 ≡ sum)
tcp_read payload ports sum stands are fits =
    let x0 = with_word 0 ports.src payload in
    let x2 = with_word 2 ports.dst x0 in
    let l0 = length-with_word 0 ports.src payload (omega arith) in
    let l2 = length-with_word 2 ports.dst x0 (omega arith) in (
      word-with_word_other 16 sum x2 0 (omega arith) (inl (omega arith)) ∙ word-with_word_other 2 ports.dst x0 0 (omega arith) (inl (omega arith)) ∙ word-with_word 0 ports.src payload (omega arith) are.0,
      word-with_word_other 16 sum x2 2 (omega arith) (inl (omega arith)) ∙ word-with_word 2 ports.dst x0 (omega arith) are.1,
      word-with_word 16 sum x2 (omega arith) fits,
    )

-- the sum by what was read
sum_by : (proto : Proto) (xs : List ℕ) (ports : Ports) (sum old new : ℕ) (given : Ports) → (l4_of proto xs).ports ≡ ports → (l4_of proto xs).sum ≡ sum
    → readdressed_sum proto (l4_of proto xs) old new given ≡ readdressed_sum proto (record { ports = ports; sum = sum; flags = 0 }) old new given
sum_by proto xs ports sum old new given are is =
    ap (λ (p : Ports). readdressed_sum proto (record { ports = p; sum = (l4_of proto xs).sum; flags = 0 }) old new given) are
    ∙ ap (λ (s : ℕ). readdressed_sum proto (record { ports = ports; sum = s; flags = 0 }) old new given) is

tcp_long : (payload : List ℕ) (room before mid after : ℕ) (one other : Ports) → 18 ≤ length payload → 20 ≤ room → ArePorts one
    → with_l4 Tcp (part (with_l4 Tcp payload one (readdressed_sum Tcp (l4_of Tcp payload) before mid one)) 0 room) other (readdressed_sum Tcp (l4_of Tcp (part (with_l4 Tcp payload one (readdressed_sum Tcp (l4_of Tcp payload) before mid one)) 0 room)) mid after other)
    ≡ part (with_l4 Tcp payload other (readdressed_sum Tcp (l4_of Tcp payload) before after other)) 0 room
tcp_long payload room before mid after one other stands fits are =
    let s1 = readdressed_sum Tcp (l4_of Tcp payload) before mid one in
    let there = with_l4 Tcp payload one s1 in
    let cut = part there 0 room in
    let small : s1 < 65536 = adjusted_fits (l4_of Tcp payload).sum (before + port_words (l4_of Tcp payload).ports) (mid + port_words one) in
    let read = tcp_read payload one s1 stands are small in
    let size = tcp_length payload one s1 stands in
    let s2 = readdressed_sum Tcp (l4_of Tcp cut) mid after other in
    let sum : s2 ≡ readdressed_sum Tcp (l4_of Tcp payload) before after other =
    sum_by Tcp cut one s1 mid after other (two_ports (word cut 0) (word cut 2) one (word_first there room 0 (omega arith) ∙ read.0) (word_first there room 2 (omega arith) ∙ read.1)) (word_first there room 16 (omega arith) ∙ read.2)
    ∙ adjusted-twice (l4_of Tcp payload).sum (before + port_words (l4_of Tcp payload).ports) (mid + port_words one) (after + port_words other) in
    let s = readdressed_sum Tcp (l4_of Tcp payload) before after other in
    ap (λ (n : ℕ). with_l4 Tcp cut other n) sum
    ∙ three_front 16 s other.src other.dst there room (omega arith) (omega (arith, size)) (omega arith)
    ∙ ap (λ (xs : List ℕ). part xs 0 room) (three 16 s1 s one.src one.dst other.src other.dst payload (omega arith) stands)

-- ---- TCP of which the ports alone stand

two_over : (p q r v : ℕ) (xs : List ℕ) → 4 ≤ length xs → with_word 2 v (with_word 0 r (with_word 2 q (with_word 0 p xs))) ≡ with_word 2 v (with_word 0 r xs)
two_over p q r v xs fits =
    let x0 = with_word 0 p xs in
    let l0 : length x0 ≡ length xs = length-with_word 0 p xs (omega arith) in
    let l5 : length (with_word 0 r xs) ≡ length xs = length-with_word 0 r xs (omega arith) in
    let e4 : with_word 0 r (with_word 2 q x0) ≡ with_word 2 q (with_word 0 r x0) = apart 0 2 r q x0 (omega arith) (omega arith) (inl (omega arith)) in
    let e5 : with_word 0 r x0 ≡ with_word 0 r xs = over 0 r p xs (omega arith) in
    ap (λ (ys : List ℕ). with_word 2 v ys) (e4 ∙ ap (λ (ys : List ℕ). with_word 2 q ys) e5) ∙ over 2 v q (with_word 0 r xs) (omega arith)

short_whole : (xs : List ℕ) (room : ℕ) → length xs ≤ room → part xs 0 room ≡ xs
short_whole xs room fits = same_number_lists _ _ (grind (arith, places)) (λ k small. grind (arith, places))

tcp_short : (payload : List ℕ) (room : ℕ) (one other : Ports) → 8 ≤ length payload → length payload ≤ room
    → with_word 2 other.dst (with_word 0 other.src (part (with_word 2 one.dst (with_word 0 one.src payload)) 0 room)) ≡ part (with_word 2 other.dst (with_word 0 other.src payload)) 0 room
tcp_short payload room one other stands fits =
    let l0 = length-with_word 0 one.src payload (omega arith) in
    let l2 = length-with_word 2 one.dst (with_word 0 one.src payload) (omega arith) in
    let m0 = length-with_word 0 other.src payload (omega arith) in
    let m2 = length-with_word 2 other.dst (with_word 0 other.src payload) (omega arith) in
    ap (λ (xs : List ℕ). with_word 2 other.dst (with_word 0 other.src xs)) (short_whole (with_word 2 one.dst (with_word 0 one.src payload)) room (omega arith))
    ∙ two_over one.src one.dst other.src other.dst payload (omega arith)
    ∙ sym (short_whole (with_word 2 other.dst (with_word 0 other.src payload)) room (omega arith))

from_start : (xs : List ℕ) (room : ℕ) → take room xs ≡ part xs 0 room
from_start xs room = refl

-- a change of addresses and ports
pub changes : ℕ → ℕ → Ports → ℕ → Change
changes before after ports kind = record { before = before; after = after; ports = ports; kind = kind }

tcp_twice : (payload : List ℕ) (room before mid after : ℕ) (one other : Ports) (k l m : ℕ) → 8 ≤ length payload → 20 ≤ room → ArePorts one
    → inner_tcp (take room (inner_tcp payload (record { before = before; after = mid; ports = one; kind = k }))) (record { before = mid; after = after; ports = other; kind = l })
    ≡ take room (inner_tcp payload (record { before = before; after = after; ports = other; kind = m }))
tcp_twice payload room before mid after one other k l m stands fits are = elim (leb_tells 18 (length payload)) [
  | inl long ↦
      let s1 = readdressed_sum Tcp (l4_of Tcp payload) before mid one in
      let there = with_l4 Tcp payload one s1 in
      let size = tcp_length payload one s1 long.1 in
      let cut : nat_le 18 (length (take room there)) ≡ true = grind (arith, nat_tests, length-take room there) in
      rw (long.0, cut) (tcp_long payload room before mid after one other long.1 fits are)
  | inr short ↦
      let there = with_word 2 one.dst (with_word 0 one.src payload) in
      let l0 = length-with_word 0 one.src payload (omega arith) in
      let l2 = length-with_word 2 one.dst (with_word 0 one.src payload) (omega arith) in
      let cut : nat_le 18 (length (take room there)) ≡ false = grind (arith, nat_tests, length-take room there) in
      rw (short.0, cut) (tcp_short payload room one other stands (omega arith))
]

-- ---- UDP

udp_word : (payload : List ℕ) (ports : Ports) (sum : ℕ) → 8 ≤ length payload → ArePorts ports → sum < 65536 → (l4_of Udp (with_l4 Udp payload ports sum)).sum ≡ sum
udp_word payload ports sum stands are fits = ap (λ (l : L4). l.sum) (l4_of-with_udp payload ports sum stands are.0 are.1 fits)

-- the sum that is given, and 0 where there is none
abbrev given_sum : ℕ → ℕ → ℕ
given_sum word sum = cond (word == 0) 0 sum

udp_twice : (payload : List ℕ) (room before mid after : ℕ) (one other : Ports) (k l m : ℕ) → 8 ≤ length payload → 20 ≤ room → ArePorts one
    → inner_udp (take room (inner_udp payload (record { before = before; after = mid; ports = one; kind = k }))) (record { before = mid; after = after; ports = other; kind = l })
    ≡ take room (inner_udp payload (record { before = before; after = after; ports = other; kind = m }))
udp_twice payload room before mid after one other k l m stands fits are =
    let l4 = l4_of Udp payload in
    let w = word payload 6 in
    let r1 = readdressed_sum Udp l4 before mid one in
    let s1 = given_sum w r1 in
    let small : s1 < 65536 = given_small w r1 (udp_fits (adjusted l4.sum (before + port_words l4.ports) (mid + port_words one)) (adjusted_fits l4.sum (before + port_words l4.ports) (mid + port_words one))) in
    let there = with_l4 Udp payload one s1 in
    let size = length-with_l4 Udp payload one s1 stands in
    let cut = part there 0 room in
    let front : l4_of Udp cut ≡ l4_of Udp there = l4_of-front Udp there room (λ e. cc) (omega arith) in
    let read : l4_of Udp cut ≡ record { ports = one; sum = s1; flags = 0 } = front ∙ l4_of-with_udp payload one s1 stands are.0 are.1 small in
    let found : word cut 6 ≡ s1 = ap (λ (x : L4). x.sum) read in
    let s = given_sum w (readdressed_sum Udp l4 before after other) in
    let again : given_sum (word cut 6) (readdressed_sum Udp (l4_of Udp cut) mid after other) ≡ s =
    ap (λ (n : ℕ). given_sum n (readdressed_sum Udp (l4_of Udp cut) mid after other)) found
    ∙ ap (λ (x : L4). given_sum s1 (readdressed_sum Udp x mid after other)) read
    ∙ twice w r1 (udp_some (adjusted l4.sum (before + port_words l4.ports) (mid + port_words one))) (written-twice Udp l4.sum (before + port_words l4.ports) (mid + port_words one) (after + port_words other)) in
    ap (λ (n : ℕ). with_l4 Udp cut other n) again
    ∙ with_l4-front Udp there other s room (λ e. cc) (omega (arith, size)) fits
    ∙ ap (λ (xs : List ℕ). part xs 0 room) (with_l4-twice Udp payload one other s1 s (λ e. cc) stands)
  where
    given_small : (w r : ℕ) → r < 65536 → given_sum w r < 65536
    given_small w r low = elim (cases_eq w 0) [ inl none ↦ rw none (omega arith) | inr some ↦ rw (ne_eqb w 0 some) low ]

    twice : (w r : ℕ) → r ≢ 0 → readdressed_sum Udp (record { ports = one; sum = r; flags = 0 }) mid after other ≡ readdressed_sum Udp (l4_of Udp payload) before after other
        → given_sum (given_sum w r) (readdressed_sum Udp (record { ports = one; sum = given_sum w r; flags = 0 }) mid after other) ≡ given_sum w (readdressed_sum Udp (l4_of Udp payload) before after other)
    twice w r summed same = elim (cases_eq w 0) [ inl none ↦ rw none refl | inr some ↦ rw (ne_eqb w 0 some, ne_eqb r 0 summed) same ]

-- ---- an echo

abbrev echo_of : List ℕ → ℕ → ℕ → ℕ → List ℕ
echo_of rest kind sum port = kind ∷ 0 ∷ in_word sum ++ in_word port ++ rest

pub echo_word : (rest : List ℕ) (kind sum port : ℕ) → sum < 65536 → port < 65536
    → (word (echo_of rest kind sum port) 0 ≡ kind * 256) × (word (echo_of rest kind sum port) 2 ≡ sum) × (word (echo_of rest kind sum port) 4 ≡ port)
echo_word rest kind sum port low small = (omega arith, number_back 2 sum (in_word port ++ rest) low, number_back 2 port rest small)

pub echo_sum_fits : (payload : List ℕ) (change : Change) → echo_sum payload change < 65536
unfolding echo_sum
echo_sum_fits payload change = adjusted_fits (word payload 2) (change.before + (word payload 0 + word payload 4)) (change.after + (256 * change.kind + change.ports.src))

echo_again : (payload rest : List ℕ) (mid : ℕ) (one other : Ports) (there kind sum : ℕ) → one.src < 65536 → sum < 65536
    → sum ≡ echo_sum payload (record { before = 0; after = mid; ports = one; kind = there })
    → echo_sum (echo_of rest there sum one.src) (record { before = mid; after = 0; ports = other; kind = kind }) ≡ echo_sum payload (record { before = 0; after = 0; ports = other; kind = kind })
unfolding echo_sum
echo_again payload rest mid one other there kind sum small low is =
    let read = echo_word rest there sum one.src low small in
    let middle : mid + (word (echo_of rest there sum one.src) 0 + word (echo_of rest there sum one.src) 4) ≡ mid + (256 * there + one.src) = omega (arith, read.0, read.2) in
    ap (λ (n : ℕ). adjusted n (mid + (word (echo_of rest there sum one.src) 0 + word (echo_of rest there sum one.src) 4)) (0 + (256 * kind + other.src))) (read.1 ∙ is)
    ∙ ap (λ (n : ℕ). adjusted (adjusted (word payload 2) (0 + (word payload 0 + word payload 4)) (mid + (256 * there + one.src))) n (0 + (256 * kind + other.src))) middle
    ∙ adjusted-twice (word payload 2) (0 + (word payload 0 + word payload 4)) (mid + (256 * there + one.src)) (0 + (256 * kind + other.src))

abbrev six_more : ℕ → ℕ
six_more room = suc (suc (suc (suc (suc (suc room)))))

echo_twice : (payload : List ℕ) (room mid : ℕ) (one other : Ports) (there kind : ℕ) → one.src < 65536
    → inner_echo (take (six_more room) (inner_echo payload (record { before = 0; after = mid; ports = one; kind = there }))) (record { before = mid; after = 0; ports = other; kind = kind })
    ≡ take (six_more room) (inner_echo payload (record { before = 0; after = 0; ports = other; kind = kind }))
echo_twice payload room mid one other there kind small =
    let s1 = echo_sum payload (record { before = 0; after = mid; ports = one; kind = there }) in
    let rest = take room (drop 6 payload) in
    ap (λ (n : ℕ). echo_of rest kind n other.src) (echo_again payload rest mid one other there kind s1 small (echo_sum_fits payload (record { before = 0; after = mid; ports = one; kind = there })) refl)

-- ---- all of them

echo_back : (k : ℕ) → (k ≡ 8) ⊎ (k ≡ 0) → echo64 (echo46 k) ≡ k
echo_back k (inl request) = rw request refl
echo_back k (inr reply) = rw reply refl

-- the packet that is embedded over IPv6, cut to so many octets of payload
abbrev pub inner_there : Inner4 → Ends Addr6 → ℕ → Ports → Inner6
inner_there inner six room ports = record {
  head = inner_head46 inner six;
  payload = take room (inner_payload inner.proto inner.payload (change46 inner six inner.proto));
  ports = ports;
  proto = inner.proto;
}

-- its payload is that of the table
abbrev pub PayloadBack : Inner4 → Ends Addr6 → Ends Addr4 → ℕ → Ports → Type 0
PayloadBack inner six four room ports =
    inner_payload inner.proto (inner_there inner six room ports).payload (change64 (inner_there inner six room ports) four inner.proto)
    ≡ take room (inner_payload inner.proto inner.payload (inner_change inner (inner_with four inner) inner.proto))

six_of : (room : ℕ) → 20 ≤ room → room ≡ six_more (room - 6)
six_of room fits = omega arith

payload_back_by : (proto : Proto) (inner : Inner4) (six : Ends Addr6) (four : Ends Addr4) (room : ℕ) (ports : Ports) → 20 ≤ room → 8 ≤ length inner.payload → ArePorts six.ports → IsCarried4 proto inner.head.proto inner.payload
    → inner_payload proto (take room (inner_payload proto inner.payload (change46 inner six proto))) (change64 (record { head = inner_head46 inner six; payload = take room (inner_payload proto inner.payload (change46 inner six proto)); ports = ports; proto = proto }) four proto)
    ≡ take room (inner_payload proto inner.payload (inner_change inner (inner_with four inner) proto))
payload_back_by Tcp inner six four room ports fits stands are is = tcp_twice inner.payload room (addresses4 inner.head) (addresses_of6 six.inner_src six.inner_dst) (addresses_of4 four.inner_src four.inner_dst) six.ports four.ports 0 0 0 stands fits are
payload_back_by Udp inner six four room ports fits stands are is = udp_twice inner.payload room (addresses4 inner.head) (addresses_of6 six.inner_src six.inner_dst) (addresses_of4 four.inner_src four.inner_dst) six.ports four.ports 0 0 0 stands fits are
payload_back_by Icmp inner six four room ports fits stands are is =
    let k = octet inner.payload 0 in
    let mid = words (pseudo_header6 six.inner_src six.inner_dst 58 (inner.head.total - inner.head.head_len)) in
    let stated = λ (n : ℕ). inner_payload Icmp (take n (inner_payload Icmp inner.payload (change46 inner six Icmp))) (change64 (record { head = inner_head46 inner six; payload = take n (inner_payload Icmp inner.payload (change46 inner six Icmp)); ports = ports; proto = Icmp }) four Icmp) ≡ take n (inner_payload Icmp inner.payload (inner_change inner (inner_with four inner) Icmp)) in
    subst stated (sym (six_of room fits))
    (echo_twice inner.payload (room - 6) mid six.ports four.ports (echo46 k) (echo64 (echo46 k)) are.0
    ∙ ap (λ (x : ℕ). take (six_more (room - 6)) (inner_echo inner.payload (record { before = 0; after = 0; ports = four.ports; kind = x }))) (echo_back k is.1.0))

pub payload_back : (inner : Inner4) (six : Ends Addr6) (four : Ends Addr4) (room : ℕ) (ports : Ports) → 20 ≤ room → 8 ≤ length inner.payload → ArePorts six.ports → IsCarried4 inner.proto inner.head.proto inner.payload → PayloadBack inner six four room ports
payload_back inner six four room ports fits stands are is = payload_back_by inner.proto inner six four room ports fits stands are is
