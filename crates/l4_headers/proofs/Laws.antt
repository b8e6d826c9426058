-- What else holds of transport headers: what was written is read again, the causes stay, and so do right sums.
use Rattle.std.proofs.Common.{◌≡◌, ℕ, ◌+◌, ◌%◌, ◌<◌, ◌≤◌, ◌↔◌, ◌⊎◌, inl, inr, Bool, true, false, if◌then◌else◌, List, length, ap, ◌∙◌, refl, arith}
use Rattle.octets.specs.declared.proto.Proto.{Proto}
use Rattle.octets.specs.declared.proto.Proto.TheVariants.{Tcp, Udp, Icmp}
use Rattle.octets.specs.Field.{octet, word, with_word}
use Rattle.octets.proofs.Words.{length-with_word, octet-with_word, word-with_word, word-with_word_other}
use Rattle.inet_sum.specs.Sum.{words, folded, adjusted, as_udp}
use Rattle.inet_sum.proofs.Laws.{right_adjusted, right_as_udp}
use Rattle.l4_headers.specs.declared.ports.Ports.{Ports}
use Rattle.l4_headers.specs.Transport.{header_octets, IsBadTransport, is_query, l4_of, with_l4}
use Rattle.l4_headers.proofs.Words.{words-with_word}

-- ports at 0 and 2, and a sum at a later place
with_ports : ℕ → Ports → ℕ → List ℕ → List ℕ
with_ports at ports sum payload = with_word at sum (with_word 2 ports.dst (with_word 0 ports.src payload))

length-with_ports : (at : ℕ) (ports : Ports) (sum : ℕ) (xs : List ℕ) → 4 ≤ at → at + 2 ≤ length xs → length (with_ports at ports sum xs) ≡ length xs
unfolding with_ports
length-with_ports at ports sum xs later stands =
    let one = length-with_word 0 ports.src xs (omega arith) in
    let two = length-with_word 2 ports.dst (with_word 0 ports.src xs) (omega arith) in
    let three = length-with_word at sum (with_word 2 ports.dst (with_word 0 ports.src xs)) (omega arith) in
    omega arith

octet-with_ports : (at : ℕ) (ports : Ports) (sum : ℕ) (xs : List ℕ) (k : ℕ) → 4 ≤ k → 4 ≤ at → at + 2 ≤ length xs → (k < at) ⊎ (at + 2 ≤ k) → octet (with_ports at ports sum xs) k ≡ octet xs k
unfolding with_ports
octet-with_ports at ports sum xs k past later stands apart =
    let one = length-with_word 0 ports.src xs (omega arith) in
    let two = length-with_word 2 ports.dst (with_word 0 ports.src xs) (omega arith) in
    octet-with_word at sum (with_word 2 ports.dst (with_word 0 ports.src xs)) k (omega arith) apart
    ∙ octet-with_word 2 ports.dst (with_word 0 ports.src xs) k (omega arith) (inr (omega arith))
    ∙ octet-with_word 0 ports.src xs k (omega arith) (inr (omega arith))

-- what is read at the places that were written
words-with_ports : (at : ℕ) (ports : Ports) (sum : ℕ) (xs : List ℕ) → 4 ≤ at → at % 2 ≡ 0 → at + 2 ≤ length xs → ports.src < 65536 → ports.dst < 65536 → sum < 65536
    → (word (with_ports at ports sum xs) 0 ≡ ports.src) × (word (with_ports at ports sum xs) 2 ≡ ports.dst) × (word (with_ports at ports sum xs) at ≡ sum)
    × (words (with_ports at ports sum xs) + (word xs 0 + word xs 2 + word xs at) ≡ words xs + (ports.src + ports.dst + sum))
unfolding with_ports
words-with_ports at ports sum xs later even stands src dst fits =
    let a = with_word 0 ports.src xs in
    let b = with_word 2 ports.dst a in
    let la = length-with_word 0 ports.src xs (omega arith) in
    let lb = length-with_word 2 ports.dst a (omega arith) in
    let sa = words-with_word 0 ports.src xs (omega arith) (omega arith) src in
    let sb = words-with_word 2 ports.dst a (omega arith) (omega arith) dst in
    let sc = words-with_word at sum b (omega arith) even fits in
    let a2 = word-with_word_other 0 ports.src xs 2 (omega arith) (inr (omega arith)) in
    let aat = word-with_word_other 0 ports.src xs at (omega arith) (inr (omega arith)) in
    let bat = word-with_word_other 2 ports.dst a at (omega arith) (inr (omega arith)) in (
      word-with_word_other at sum b 0 (omega arith) (inl (omega arith)) ∙ word-with_word_other 2 ports.dst a 0 (omega arith) (inl (omega arith)) ∙ word-with_word 0 ports.src xs (omega arith) src,
      word-with_word_other at sum b 2 (omega arith) (inl (omega arith)) ∙ word-with_word 2 ports.dst a (omega arith) dst,
      word-with_word at sum b (omega arith) fits,
      omega arith,
    )

-- there are as many octets
pub length-with_l4 : (proto : Proto) (payload : List ℕ) (ports : Ports) (sum : ℕ) → header_octets proto ≤ length payload → length (with_l4 proto payload ports sum) ≡ length payload
unfolding with_ports
length-with_l4 Tcp payload ports sum stands = length-with_ports 16 ports sum payload (omega arith) (omega arith)
length-with_l4 Udp payload ports sum stands = length-with_ports 6 ports sum payload (omega arith) (omega arith)
length-with_l4 Icmp payload ports sum stands = length-with_icmp (is_query payload)
  where
    length-with_icmp : (query : Bool) → length (with_word 2 sum (if query then with_word 4 ports.src payload else payload)) ≡ length payload
    length-with_icmp true =
        let one = length-with_word 4 ports.src payload (omega arith) in
        length-with_word 2 sum (with_word 4 ports.src payload) (omega arith) ∙ one
    length-with_icmp false = length-with_word 2 sum payload (omega arith)

-- it is a bad header where it was one
pub bad_with_l4 : (proto : Proto) (payload : List ℕ) (ports : Ports) (sum : ℕ) (whole : Bool) → header_octets proto ≤ length payload → IsBadTransport proto (with_l4 proto payload ports sum) whole ↔ IsBadTransport proto payload whole
unfolding with_ports
bad_with_l4 Tcp payload ports sum whole stands =
    let len = length-with_l4 Tcp payload ports sum stands in
    let offset = octet-with_ports 16 ports sum payload 12 (omega arith) (omega arith) (omega arith) (inl (omega arith)) in
    rw (len, offset) (λ h. h, λ h. h)
bad_with_l4 Udp payload ports sum whole stands =
    let len = length-with_l4 Udp payload ports sum stands in
    let high = octet-with_ports 6 ports sum payload 4 (omega arith) (omega arith) (omega arith) (inl (omega arith)) in
    let low = octet-with_ports 6 ports sum payload 5 (omega arith) (omega arith) (omega arith) (inl (omega arith)) in
    rw (len, high, low) (λ h. h, λ h. h)
bad_with_l4 Icmp payload ports sum whole stands =
    let len = length-with_l4 Icmp payload ports sum stands in
    rw len (λ h. h, λ h. h)

-- what was written is read again
pub l4_of-with_tcp : (payload : List ℕ) (ports : Ports) (sum : ℕ) → 20 ≤ length payload → ports.src < 65536 → ports.dst < 65536 → sum < 65536
    → l4_of Tcp (with_l4 Tcp payload ports sum) ≡ record { ports = ports; sum = sum; flags = octet payload 13 }
unfolding with_ports
l4_of-with_tcp payload ports sum stands src dst fits =
    let read = words-with_ports 16 ports sum payload (omega arith) (omega arith) (omega arith) src dst fits in
    let flags = octet-with_ports 16 ports sum payload 13 (omega arith) (omega arith) (omega arith) (inl (omega arith)) in
    rw (read.0, read.1, read.2, flags) refl

pub l4_of-with_udp : (payload : List ℕ) (ports : Ports) (sum : ℕ) → 8 ≤ length payload → ports.src < 65536 → ports.dst < 65536 → sum < 65536
    → l4_of Udp (with_l4 Udp payload ports sum) ≡ record { ports = ports; sum = sum; flags = 0 }
unfolding with_ports
l4_of-with_udp payload ports sum stands src dst fits =
    let read = words-with_ports 6 ports sum payload (omega arith) (omega arith) (omega arith) src dst fits in
    rw (read.0, read.1, read.2) refl

-- a query has its new identifier as both ports
pub l4_of-with_query : (payload : List ℕ) (ports : Ports) (sum : ℕ) → is_query payload ≡ true → 8 ≤ length payload → ports.src < 65536 → sum < 65536
    → l4_of Icmp (with_l4 Icmp payload ports sum) ≡ record { ports = record { src = ports.src; dst = ports.src }; sum = sum; flags = 0 }
l4_of-with_query payload ports sum query stands src fits =
    let one = length-with_word 4 ports.src payload (omega arith) in
    let kept = word-with_word_other 2 sum (with_word 4 ports.src payload) 4 (omega arith) (inr (omega arith)) in
    let id = word-with_word 4 ports.src payload (omega arith) src in
    let written = word-with_word 2 sum (with_word 4 ports.src payload) (omega arith) fits in
    rw query (rw (kept, id, written) refl)

-- another ICMP message keeps what stands there
pub l4_of-with_message : (payload : List ℕ) (ports : Ports) (sum : ℕ) → is_query payload ≡ false → 8 ≤ length payload → sum < 65536
    → l4_of Icmp (with_l4 Icmp payload ports sum) ≡ record { ports = (l4_of Icmp payload).ports; sum = sum; flags = 0 }
l4_of-with_message payload ports sum other stands fits =
    let kept = word-with_word_other 2 sum payload 4 (omega arith) (inr (omega arith)) in
    let written = word-with_word 2 sum payload (omega arith) fits in
    rw other (rw (kept, written) refl)

-- the words but for the ports and the sum
others : ℕ → List ℕ → ℕ
others at payload = words (with_ports at (record { src = 0; dst = 0 }) 0 payload)

words-others : (at : ℕ) (ports : Ports) (sum : ℕ) (xs : List ℕ) → 4 ≤ at → at % 2 ≡ 0 → at + 2 ≤ length xs → ports.src < 65536 → ports.dst < 65536 → sum < 65536
    → (words xs ≡ others at xs + (word xs 0 + word xs 2) + word xs at) × (words (with_ports at ports sum xs) ≡ others at xs + (ports.src + ports.dst) + sum)
unfolding others
words-others at ports sum xs later even stands src dst fits =
    let none = words-with_ports at (record { src = 0; dst = 0 }) 0 xs later even stands (omega arith) (omega arith) (omega arith) in
    let some = words-with_ports at ports sum xs later even stands src dst fits in
    (omega (arith, none.3), omega (arith, none.3, some.3))

-- A right TCP sum stays right: outside the payload the words had the sum `rest` and have `rest'`, and `old` and
-- `new` are the sums of the words that changed there and of the ports.
pub right_tcp : (rest rest' old new : ℕ) (payload : List ℕ) (ports : Ports) → 20 ≤ length payload → ports.src < 65536 → ports.dst < 65536 → 0 < rest'
    → rest' + (ports.src + ports.dst) + old ≡ rest + (word payload 0 + word payload 2) + new
    → folded (rest + words payload) ≡ 65535
    → folded (rest' + words (with_l4 Tcp payload ports (adjusted (word payload 16) old new))) ≡ 65535
unfolding with_ports
right_tcp rest rest' old new payload ports stands src dst some change right =
    let c = word payload 16 in
    let w = words-others 16 ports (adjusted c old new) payload (omega arith) (omega arith) (omega arith) src dst (omega arith) in
    let front = rest + others 16 payload + (word payload 0 + word payload 2) in
    let front' = rest' + others 16 payload + (ports.src + ports.dst) in
    let before : front + c ≡ rest + words payload = omega (arith, w.0) in
    let after : rest' + words (with_ports 16 ports (adjusted c old new) payload) ≡ front' + adjusted c old new = omega (arith, w.1) in
    ap folded after ∙ right_adjusted front front' c old new (ap folded before ∙ right) (omega arith) (omega arith)

-- A right UDP sum stays right, written as UDP does.
pub right_udp : (rest rest' old new : ℕ) (payload : List ℕ) (ports : Ports) → 8 ≤ length payload → ports.src < 65536 → ports.dst < 65536
    → rest' + (ports.src + ports.dst) + old ≡ rest + (word payload 0 + word payload 2) + new
    → folded (rest + words payload) ≡ 65535
    → folded (rest' + words (with_l4 Udp payload ports (as_udp (adjusted (word payload 6) old new)))) ≡ 65535
unfolding with_ports
right_udp rest rest' old new payload ports stands src dst change right =
    let c = word payload 6 in
    let w = words-others 6 ports (as_udp (adjusted c old new)) payload (omega arith) (omega arith) (omega arith) src dst (as_udp_fits (adjusted c old new) (omega arith)) in
    let front = rest + others 6 payload + (word payload 0 + word payload 2) in
    let front' = rest' + others 6 payload + (ports.src + ports.dst) in
    let before : front + c ≡ rest + words payload = omega (arith, w.0) in
    let after : rest' + words (with_ports 6 ports (as_udp (adjusted c old new)) payload) ≡ front' + as_udp (adjusted c old new) = omega (arith, w.1) in
    ap folded after ∙ right_as_udp front front' c old new (ap folded before ∙ right) (omega arith)
  where
    as_udp_fits : (d : ℕ) → d < 65535 → as_udp d < 65536
    as_udp_fits d below = grind arith

-- the words of a datagram with a sum, and with 0 in its place
pub words-with_sum : (sum : ℕ) (payload : List ℕ) (ports : Ports) → 8 ≤ length payload → ports.src < 65536 → ports.dst < 65536 → sum < 65536
    → words (with_l4 Udp payload ports sum) ≡ words (with_l4 Udp payload ports 0) + sum
unfolding with_ports
words-with_sum sum payload ports stands src dst fits =
    let one = words-others 6 ports sum payload (omega arith) (omega arith) (omega arith) src dst fits in
    let none = words-others 6 ports 0 payload (omega arith) (omega arith) (omega arith) src dst (omega arith) in
    omega (arith, one.1, none.1)
