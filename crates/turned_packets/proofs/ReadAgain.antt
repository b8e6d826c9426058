-- An embedded packet that was turned is read again, with one end replaced.
use Rattle.std.proofs.Common.{◌≡◌, ◌⊎◌, ℕ, suc, ◌+◌, ◌-◌, ◌*◌, ◌/◌, ◌%◌, ◌^◌, ◌<◌, ◌≤◌, ◌==◌, Bool, true, false, cond, List, length, take, inl, inr, refl, sym, ap, ◌∙◌, subst, arith, rules}
use Rattle.std.specs.Prelude.{nat_le}
use Rattle.std.proofs.lemmas.Bool.{leb-true}
use Rattle.std.proofs.lemmas.Grind.{same_number_lists}
use Rattle.std.proofs.lemmas.List.{places, length-take, take_all}
use Rattle.octets.specs.Field.{octet, word, quad, part, with_word, in_quad}
use Rattle.octets.specs.declared.address.Addr4.{Addr4}
use Rattle.octets.specs.declared.proto.Proto.{Proto}
use Rattle.octets.specs.declared.proto.Proto.TheVariants.{Tcp, Udp, Icmp}
use Rattle.octets.proofs.Words.{length-with_word, octet-with_word, word-with_word, word-with_word_other}
use Rattle.inet_sum.specs.Sum.{words, adjusted}
use Rattle.ip4_packet.specs.declared.head.Head4.{Head4}
use Rattle.ip4_packet.specs.Grammar.{HasFields4}
use Rattle.l4_headers.specs.declared.ports.Ports.{Ports}
use Rattle.l4_headers.specs.Transport.{l4_of}
use Rattle.icmp_messages.specs.declared.icmp4.Icmp4.{Icmp4}
use Rattle.icmp_messages.specs.declared.inner4.Inner4.{Inner4}
use Rattle.icmp_messages.specs.Inner.{IsCarried4, IsInner4}
use Rattle.icmp_messages.specs.Extension.{embedded46}
use Rattle.turned_packets.specs.Ends.{End, Source, Destination, NewEnd, address_at, with_address, with_port}
use Rattle.turned_packets.specs.Embedded.{with_quad, address_place, port_place, sum_place, embedded_sum, embedded_header, turned_embedded}
use Rattle.turned_packets.specs.Sums.{turned_ports, turned_inner_payload, turned_inner, with_embedded}

-- octets with a number of 32 bits at a place
length-with_quad : (at n : ℕ) (xs : List ℕ) → at + 4 ≤ length xs → length (with_quad at n xs) ≡ length xs
length-with_quad at n xs fits = search (rules, places)

octet-with_quad : (at n : ℕ) (xs : List ℕ) (k : ℕ) → at + 4 ≤ length xs → (k < at) ⊎ (at + 4 ≤ k) → octet (with_quad at n xs) k ≡ octet xs k
octet-with_quad at n xs k fits apart = grind (arith, places)

quad-with_quad : (at n : ℕ) (xs : List ℕ) → at + 4 ≤ length xs → n < 2 ^ 32 → quad (with_quad at n xs) at ≡ n
quad-with_quad at n xs fits small =
    let a : octet (with_quad at n xs) at ≡ n / 16777216 % 256 = grind (arith, places) in
    let b : octet (with_quad at n xs) (suc at) ≡ n / 65536 % 256 = grind (arith, places) in
    let c : octet (with_quad at n xs) (suc (suc at)) ≡ n / 256 % 256 = grind (arith, places) in
    let d : octet (with_quad at n xs) (suc (suc (suc at))) ≡ n % 256 = grind (arith, places) in
    omega arith

-- a prefix, and a part behind a place
octet-take : (k i : ℕ) (xs : List ℕ) → i < k → octet (take k xs) i ≡ octet xs i
octet-take k i xs small = grind (arith, places)

-- a word in a part of octets is a word in the octets
part-with_word : (s p n count : ℕ) (xs : List ℕ) → s + p + 2 ≤ length xs → p + 2 ≤ count → part (with_word (s + p) n xs) s count ≡ with_word p n (part xs s count)
part-with_word s p n count xs fits within = same_number_lists _ _ (grind (arith, places)) (λ k small. grind (arith, places))

take-with_word : (k at n : ℕ) (xs : List ℕ) → at + 2 ≤ length xs → at + 2 ≤ k → take k (with_word at n xs) ≡ with_word at n (take k xs)
take-with_word k at n xs fits within = same_number_lists _ _ (grind (arith, places)) (λ i small. grind (arith, places))

octet-part : (s count k j : ℕ) (xs : List ℕ) → j < count → s + j < k → octet (part (take k xs) s count) j ≡ octet xs (s + j)
octet-part s count k j xs within inside = grind (arith, places)

length-part : (s count k : ℕ) (xs ys : List ℕ) → length xs ≡ length ys → length (part (take k xs) s count) ≡ length (part (take k ys) s count)
length-part s count k xs ys same = grind (arith, places)

inside-part : (s count k j : ℕ) (xs : List ℕ) → j < length (part (take k xs) s count) → (j < count) × (s + j < k)
inside-part s count k j xs within = (grind (arith, places), grind (arith, places))

-- octets that are the same from a place on have the same part there
part-same : (s count k : ℕ) (xs ys : List ℕ) → length xs ≡ length ys → ((i : ℕ) → s ≤ i → octet xs i ≡ octet ys i) → part (take k xs) s count ≡ part (take k ys) s count
part-same s count k xs ys long same = same_number_lists _ _ (length-part s count k xs ys long) (λ j small.
    let in_both = inside-part s count k j xs small in
    octet-part s count k j xs in_both.0 in_both.1 ∙ same (s + j) (omega arith) ∙ sym (octet-part s count k j ys in_both.0 in_both.1))

length-part-most : (s count k : ℕ) (xs : List ℕ) → s ≤ length (take k xs) → (length (part (take k xs) s count) ≤ count) × (s + length (part (take k xs) s count) ≤ length xs) × (s + length (part (take k xs) s count) ≤ k)
length-part-most s count k xs stands = (grind (arith, places), grind (arith, places), grind (arith, places))

-- ---- the header

abbrev header_sum : NewEnd → Head4 → List ℕ → ℕ
header_sum new h xs = adjusted (word xs 10) (words (in_quad (address_at new.end h).0)) (words (in_quad new.addr.0))

place_in : (end : End) → (12 ≤ address_place end) × (address_place end + 4 ≤ 20)
place_in Source = (omega arith, omega arith)
place_in Destination = (omega arith, omega arith)

length-header : (new : NewEnd) (h : Head4) (xs : List ℕ) → 20 ≤ length xs → length (embedded_header new h xs) ≡ length xs
length-header new h xs long =
    let place = place_in new.end in
    let one = length-with_word 10 (header_sum new h xs) xs (omega arith) in
    length-with_quad (address_place new.end) new.addr.0 (with_word 10 (header_sum new h xs) xs) (omega (arith, one, place.1)) ∙ one

header_octet : (new : NewEnd) (h : Head4) (xs : List ℕ) (i : ℕ) → 20 ≤ length xs → (i < 10) ⊎ (12 ≤ i) → (i < address_place new.end) ⊎ (address_place new.end + 4 ≤ i) → octet (embedded_header new h xs) i ≡ octet xs i
header_octet new h xs i long beside apart =
    let place = place_in new.end in
    let one = length-with_word 10 (header_sum new h xs) xs (omega arith) in
    octet-with_quad (address_place new.end) new.addr.0 (with_word 10 (header_sum new h xs) xs) i (omega (arith, one, place.1)) apart ∙ octet-with_word 10 (header_sum new h xs) xs i (omega arith) beside

header_quad : (new : NewEnd) (h : Head4) (xs : List ℕ) → 20 ≤ length xs → new.addr.0 < 2 ^ 32 → quad (embedded_header new h xs) (address_place new.end) ≡ new.addr.0
header_quad new h xs long small =
    let place = place_in new.end in
    let one = length-with_word 10 (header_sum new h xs) xs (omega arith) in
    quad-with_quad (address_place new.end) new.addr.0 (with_word 10 (header_sum new h xs) xs) (omega (arith, one, place.1)) small

-- the two lists have the same octets in front, and the address at the other end
pub record SameBut (end : End) (addr : Addr4) (now old : List ℕ) : Type 0 where
  front : (i : ℕ) → i < 10 → octet now i ≡ octet old i
  there : quad now (address_place end) ≡ addr.0
  source : (i : ℕ) → end ≡ Destination → 12 ≤ i → i < 16 → octet now i ≡ octet old i
  destination : (i : ℕ) → end ≡ Source → 16 ≤ i → i < 20 → octet now i ≡ octet old i

same_fields : (end : End) (addr : Addr4) (h : Head4) (now old : List ℕ) → SameBut end addr now old → HasFields4 h old → HasFields4 (with_address end addr h) now
same_fields Source addr h now old same f = record {
  version = rw (same.front 0 (omega arith)) f.version;
  head_len = rw (same.front 0 (omega arith)) f.head_len;
  tos = rw (same.front 1 (omega arith)) f.tos;
  total = rw (same.front 2 (omega arith), same.front 3 (omega arith)) f.total;
  id = rw (same.front 4 (omega arith), same.front 5 (omega arith)) f.id;
  df = rw (same.front 6 (omega arith), same.front 7 (omega arith)) f.df;
  mf = rw (same.front 6 (omega arith), same.front 7 (omega arith)) f.mf;
  offset = rw (same.front 6 (omega arith), same.front 7 (omega arith)) f.offset;
  ttl = rw (same.front 8 (omega arith)) f.ttl;
  proto = rw (same.front 9 (omega arith)) f.proto;
  src = sym same.there;
  dst = rw (same.destination 16 refl (omega arith) (omega arith), same.destination 17 refl (omega arith) (omega arith), same.destination 18 refl (omega arith) (omega arith), same.destination 19 refl (omega arith) (omega arith)) f.dst;
}
same_fields Destination addr h now old same f = record {
  version = rw (same.front 0 (omega arith)) f.version;
  head_len = rw (same.front 0 (omega arith)) f.head_len;
  tos = rw (same.front 1 (omega arith)) f.tos;
  total = rw (same.front 2 (omega arith), same.front 3 (omega arith)) f.total;
  id = rw (same.front 4 (omega arith), same.front 5 (omega arith)) f.id;
  df = rw (same.front 6 (omega arith), same.front 7 (omega arith)) f.df;
  mf = rw (same.front 6 (omega arith), same.front 7 (omega arith)) f.mf;
  offset = rw (same.front 6 (omega arith), same.front 7 (omega arith)) f.offset;
  ttl = rw (same.front 8 (omega arith)) f.ttl;
  proto = rw (same.front 9 (omega arith)) f.proto;
  src = rw (same.source 12 refl (omega arith) (omega arith), same.source 13 refl (omega arith) (omega arith), same.source 14 refl (omega arith) (omega arith), same.source 15 refl (omega arith) (omega arith)) f.src;
  dst = sym same.there;
}

-- what a new end leaves as it was
pub record Kept (h g : Head4) : Type 0 where
  head_len : g.head_len ≡ h.head_len
  total : g.total ≡ h.total
  offset : g.offset ≡ h.offset
  proto : g.proto ≡ h.proto
  routed : g.routed ≡ h.routed

kept : (end : End) (addr : Addr4) (h : Head4) → Kept h (with_address end addr h)
kept Source addr h = record { head_len = refl; total = refl; offset = refl; proto = refl; routed = refl }
kept Destination addr h = record { head_len = refl; total = refl; offset = refl; proto = refl; routed = refl }

-- ---- the transport header

port_in : (proto : Proto) (end : End) → port_place proto end + 2 ≤ 6
port_in Tcp Source = omega arith
port_in Tcp Destination = omega arith
port_in Udp Source = omega arith
port_in Udp Destination = omega arith
port_in Icmp end = omega arith

-- the port and, where it stands, the sum
abbrev placed : Bool → ℕ → ℕ → ℕ → ℕ → ℕ → List ℕ → List ℕ
placed stands start port_at port sum_at sum xs =
    cond stands (with_word (start + sum_at) sum (with_word (start + port_at) port xs)) (with_word (start + port_at) port xs)

length-placed : (stands : Bool) (start port_at port sum_at sum : ℕ) (xs : List ℕ) → start + port_at + 2 ≤ length xs → (stands ≡ true → start + sum_at + 2 ≤ length xs) → length (placed stands start port_at port sum_at sum xs) ≡ length xs
length-placed true start port_at port sum_at sum xs fits also =
    let one = length-with_word (start + port_at) port xs fits in
    let there = also refl in
    length-with_word (start + sum_at) sum (with_word (start + port_at) port xs) (omega (arith, one, there)) ∙ one
length-placed false start port_at port sum_at sum xs fits also = length-with_word (start + port_at) port xs fits

octet-placed : (stands : Bool) (start port_at port sum_at sum : ℕ) (xs : List ℕ) (i : ℕ) → start + port_at + 2 ≤ length xs → (stands ≡ true → start + sum_at + 2 ≤ length xs) → i < start
    → octet (placed stands start port_at port sum_at sum xs) i ≡ octet xs i
octet-placed true start port_at port sum_at sum xs i fits also before =
    let one = length-with_word (start + port_at) port xs fits in
    let there = also refl in
    octet-with_word (start + sum_at) sum (with_word (start + port_at) port xs) i (omega (arith, one, there)) (inl (omega arith)) ∙ octet-with_word (start + port_at) port xs i fits (inl (omega arith))
octet-placed false start port_at port sum_at sum xs i fits also before = octet-with_word (start + port_at) port xs i fits (inl (omega arith))

one-placed : (s p n count k : ℕ) (xs : List ℕ) → s + p + 2 ≤ length xs → s + p + 2 ≤ k → p + 2 ≤ count → part (take k (with_word (s + p) n xs)) s count ≡ with_word p n (part (take k xs) s count)
one-placed s p n count k xs fits within inside =
    ap (λ (ys : List ℕ). part ys s count) (take-with_word k (s + p) n xs fits within)
    ∙ part-with_word s p n count (take k xs) (rw (length-take k xs) (omega arith)) inside

part-placed : (stands : Bool) (s port_at port sum_at sum count k : ℕ) (xs : List ℕ) → s + port_at + 2 ≤ length xs → s + port_at + 2 ≤ k → port_at + 2 ≤ count
    → (stands ≡ true → (s + sum_at + 2 ≤ length xs) × (s + sum_at + 2 ≤ k) × (sum_at + 2 ≤ count))
    → part (take k (placed stands s port_at port sum_at sum xs)) s count ≡ placed stands 0 port_at port sum_at sum (part (take k xs) s count)
part-placed true s port_at port sum_at sum count k xs fits within inside also =
    let there = also refl in
    let one = length-with_word (s + port_at) port xs fits in
    one-placed s sum_at sum count k (with_word (s + port_at) port xs) (omega (arith, one, there.0)) there.1 there.2
    ∙ ap (λ (ys : List ℕ). with_word sum_at sum ys) (one-placed s port_at port count k xs fits within inside)
    ∙ zeros sum_at port_at (part (take k xs) s count)
  where
    zeros : (a b : ℕ) (ys : List ℕ) → with_word a sum (with_word b port ys) ≡ with_word (0 + a) sum (with_word (0 + b) port ys)
    zeros a b ys =
        let x : a ≡ 0 + a = omega arith in
        let y : b ≡ 0 + b = omega arith in
        ap (λ (n : ℕ). with_word n sum (with_word b port ys)) x ∙ ap (λ (n : ℕ). with_word (0 + a) sum (with_word n port ys)) y
part-placed false s port_at port sum_at sum count k xs fits within inside also =
    one-placed s port_at port count k xs fits within inside ∙ zero' port_at (part (take k xs) s count)
  where
    zero' : (b : ℕ) (ys : List ℕ) → with_word b port ys ≡ with_word (0 + b) port ys
    zero' b ys = let y : b ≡ 0 + b = omega arith in ap (λ (n : ℕ). with_word n port ys) y

-- the payload as the definition of the law has it
payload_is : (new : NewEnd) (inner : Inner4) → turned_inner_payload new inner
    ≡ placed (nat_le (sum_place inner.proto + 2) (length inner.payload)) 0 (port_place inner.proto new.end) new.port (sum_place inner.proto) (embedded_sum new inner) inner.payload
payload_is new inner = both (nat_le (sum_place inner.proto + 2) (length inner.payload)) (sum_place inner.proto) (port_place inner.proto new.end) (embedded_sum new inner) new.port inner.payload
  where
    both : (stands : Bool) (a b sum port : ℕ) (ys : List ℕ) → ◌≡◌ {A = List ℕ} (cond stands (with_word a sum (with_word b port ys)) (with_word b port ys)) (placed stands 0 b port a sum ys)
    both true a b sum port ys =
        let x : a ≡ 0 + a = omega arith in
        let y : b ≡ 0 + b = omega arith in
        ap (λ (n : ℕ). with_word n sum (with_word b port ys)) x ∙ ap (λ (n : ℕ). with_word (0 + a) sum (with_word n port ys)) y
    both false a b sum port ys = let y : b ≡ 0 + b = omega arith in ap (λ (n : ℕ). with_word n port ys) y

-- ---- what is read of it

two_words : (xs : List ℕ) (src dst : ℕ) → word xs 0 ≡ src → word xs 2 ≡ dst → ◌≡◌ {A = Ports} (record { src = src; dst = dst }) (record { src = word xs 0; dst = word xs 2 })
two_words xs src dst a b = λ i. record { src = sym a i; dst = sym b i }

-- a word in front of the sum is as it was without it
before_sum : (stands : Bool) (port_at port sum_at sum at : ℕ) (xs : List ℕ) → 0 + port_at + 2 ≤ length xs → (stands ≡ true → 0 + sum_at + 2 ≤ length xs) → (at + 2 ≤ sum_at) ⊎ (sum_at + 2 ≤ at)
    → word (placed stands 0 port_at port sum_at sum xs) at ≡ word (with_word (0 + port_at) port xs) at
before_sum true port_at port sum_at sum at xs fits also apart =
    let one = length-with_word (0 + port_at) port xs fits in
    let there = also refl in
    word-with_word_other (0 + sum_at) sum (with_word (0 + port_at) port xs) at (omega (arith, one, there)) (beside apart)
  where
    beside : (at + 2 ≤ sum_at) ⊎ (sum_at + 2 ≤ at) → (at + 2 ≤ 0 + sum_at) ⊎ (0 + sum_at + 2 ≤ at)
    beside (inl h) = inl (omega arith)
    beside (inr h) = inr (omega arith)
before_sum false port_at port sum_at sum at xs fits also apart = refl

segment_ports : (end : End) (port sum_at sum : ℕ) (stands : Bool) (xs : List ℕ) → 6 ≤ sum_at → 8 ≤ length xs → (stands ≡ true → 0 + sum_at + 2 ≤ length xs) → port < 65536
    → let there = placed stands 0 (port_place Tcp end) port sum_at sum xs in
    with_port end port (record { src = word xs 0; dst = word xs 2 }) ≡ record { src = word there 0; dst = word there 2 }
segment_ports Source port sum_at sum stands xs later long also small =
    let there = placed stands 0 0 port sum_at sum xs in
    two_words there port (word xs 2)
    (before_sum stands 0 port sum_at sum 0 xs (omega arith) also (inl (omega arith)) ∙ word-with_word 0 port xs (omega arith) small)
    (before_sum stands 0 port sum_at sum 2 xs (omega arith) also (inl (omega arith)) ∙ word-with_word_other 0 port xs 2 (omega arith) (inr (omega arith)))
segment_ports Destination port sum_at sum stands xs later long also small =
    let there = placed stands 0 2 port sum_at sum xs in
    two_words there (word xs 0) port
    (before_sum stands 2 port sum_at sum 0 xs (omega arith) also (inl (omega arith)) ∙ word-with_word_other 2 port xs 0 (omega arith) (inl (omega arith)))
    (before_sum stands 2 port sum_at sum 2 xs (omega arith) also (inl (omega arith)) ∙ word-with_word 2 port xs (omega arith) small)

ports_read : (proto : Proto) (new : NewEnd) (sum : ℕ) (stands : Bool) (ports : Ports) (xs : List ℕ) → 8 ≤ length xs → (stands ≡ true → 0 + sum_place proto + 2 ≤ length xs) → new.port < 65536 → ports ≡ (l4_of proto xs).ports
    → turned_ports new proto ports ≡ (l4_of proto (placed stands 0 (port_place proto new.end) new.port (sum_place proto) sum xs)).ports
ports_read Tcp new sum stands ports xs long also small is = ap (λ (p : Ports). with_port new.end new.port p) is ∙ segment_ports new.end new.port 16 sum stands xs (omega arith) long also small
ports_read Udp new sum stands ports xs long also small is = ap (λ (p : Ports). with_port new.end new.port p) is ∙ segment_ports new.end new.port 6 sum stands xs (omega arith) long also small
ports_read Icmp new sum stands ports xs long also small is =
    let there : word (placed stands 0 4 new.port 2 sum xs) 4 ≡ new.port = before_sum stands 4 new.port 2 sum 4 xs (omega arith) also (inr (omega arith)) ∙ word-with_word 4 new.port xs (omega arith) small in
    λ i. record { src = sym there i; dst = sym there i }

carried_read : (proto : Proto) (new : NewEnd) (number sum : ℕ) (stands : Bool) (xs : List ℕ) → 8 ≤ length xs → IsCarried4 proto number xs → IsCarried4 proto number (placed stands 0 (port_place proto new.end) new.port (sum_place proto) sum xs)
carried_read Tcp new number sum stands xs long is = is
carried_read Udp new number sum stands xs long is = is
carried_read Icmp new number sum stands xs long is = (is.0, rw (front stands 0 (omega arith), front stands 1 (omega arith)) is.1)
  where
    front : (b : Bool) (i : ℕ) → i < 2 → octet (placed b 0 4 new.port 2 sum xs) i ≡ octet xs i
    front true i small =
        let one = length-with_word 4 new.port xs (omega arith) in
        octet-with_word 2 sum (with_word 4 new.port xs) i (omega (arith, one)) (inl (omega arith)) ∙ octet-with_word 4 new.port xs i (omega arith) (inl (omega arith))
    front false i small = octet-with_word 4 new.port xs i (omega arith) (inl (omega arith))

same_quad : (xs ys : List ℕ) (at : ℕ) → ((i : ℕ) → at ≤ i → i < at + 4 → octet xs i ≡ octet ys i) → quad xs at ≡ quad ys at
same_quad xs ys at same =
    let a = same at (omega arith) (omega arith) in
    let b = same (suc at) (omega arith) (omega arith) in
    let c = same (suc (suc at)) (omega arith) (omega arith) in
    let d = same (suc (suc (suc at))) (omega arith) (omega arith) in
    omega arith

-- how long what is embedded is
record Room (s count k len : ℕ) (xs : List ℕ) : Type 0 where
  whole : s + len ≤ length xs
  inside : s + len ≤ k
  within : len ≤ count

room_of : (inner : Inner4) (k : ℕ) (xs : List ℕ) → IsInner4 inner (take k xs) → Room inner.head.head_len (inner.head.total - inner.head.head_len) k (length inner.payload) xs
room_of inner k xs is =
    let most = length-part-most inner.head.head_len (inner.head.total - inner.head.head_len) k xs is.header.stands in
    let same : length inner.payload ≡ length (part (take k xs) inner.head.head_len (inner.head.total - inner.head.head_len)) = ap length is.payload in
    record { whole = omega (arith, most.1, same); inside = omega (arith, most.2, same); within = omega (arith, most.0, same) }

-- of the octets that begin with the embedded packet, as many as are taken
again : (new : NewEnd) (inner : Inner4) (k : ℕ) (xs : List ℕ) → IsInner4 inner (take k xs) → new.addr.0 < 2 ^ 32 → new.port < 65536 → IsInner4 (turned_inner new inner) (take k (turned_embedded new inner xs))
again new inner k xs is small port =
    let h = inner.head in
    let s = h.head_len in
    let count = h.total - s in
    let b = nat_le (sum_place inner.proto + 2) (length inner.payload) in
    let pp = port_place inner.proto new.end in
    let sp = sum_place inner.proto in
    let sum = embedded_sum new inner in
    let header = embedded_header new h xs in
    let turned = turned_embedded new inner xs in
    let room = room_of inner k xs is in
    let low = port_in inner.proto new.end in
    let long : 20 ≤ length xs = omega (arith, is.header.least, room.whole, is.stands) in
    let size = length-header new h xs long in
    let stands : b ≡ true → sp + 2 ≤ length inner.payload = leb-true (sp + 2) (length inner.payload) in
    let port_fits : s + pp + 2 ≤ length header = omega (arith, low, room.whole, is.stands, size) in
    let sum_fits : b ≡ true → s + sp + 2 ≤ length header = λ e. let there = stands e in omega (arith, there, room.whole, size) in
    let size' : length turned ≡ length header = length-placed b s pp new.port sp sum header port_fits sum_fits in
    let front : (i : ℕ) → i < 20 → octet (take k turned) i ≡ octet header i = λ i lt. octet-take k i turned (omega (arith, is.header.least, room.inside)) ∙ octet-placed b s pp new.port sp sum header i port_fits sum_fits (omega (arith, is.header.least)) in
    let old : (i : ℕ) → i < 20 → octet xs i ≡ octet (take k xs) i = λ i lt. sym (octet-take k i xs (omega (arith, is.header.least, room.inside))) in
    let place = place_in new.end in
    let same : SameBut new.end new.addr (take k turned) (take k xs) = record {
      front = λ i lt. front i (omega arith) ∙ header_octet new h xs i long (inl lt) (inl (omega (arith, place.0))) ∙ old i (omega arith);
      there = same_quad (take k turned) header (address_place new.end) (λ i from to. front i (omega (arith, place.1))) ∙ header_quad new h xs long small;
      source = λ i e from to. let at : address_place new.end ≡ 16 = ap address_place e in front i (omega arith) ∙ header_octet new h xs i long (inr from) (inl (omega arith)) ∙ old i (omega arith);
      destination = λ i e from to. let at : address_place new.end ≡ 12 = ap address_place e in front i to ∙ header_octet new h xs i long (inr (omega arith)) (inr (omega arith)) ∙ old i to;
    } in
    let keeps = kept new.end new.addr h in
    let body : part (take k header) s count ≡ inner.payload =
    part-same s count k header xs size (λ i from. header_octet new h xs i long (inr (omega (arith, is.header.least))) (inr (omega (arith, is.header.least, place.1)))) ∙ sym is.payload in
    let read : part (take k turned) s count ≡ placed b 0 pp new.port sp sum inner.payload =
    part-placed b s pp new.port sp sum count k header port_fits (omega (arith, low, room.inside, is.stands)) (omega (arith, low, room.within, is.stands))
    (λ e. let there = stands e in (sum_fits e, omega (arith, there, room.inside), omega (arith, there, room.within)))
    ∙ ap (λ (ys : List ℕ). placed b 0 pp new.port sp sum ys) body in
    let sum_inside : b ≡ true → 0 + sp + 2 ≤ length inner.payload = λ e. let there = stands e in omega arith in
    let payload = payload_is new inner in
    record {
      header = record {
        fields = same_fields new.end new.addr h (take k turned) (take k xs) same is.header.fields;
        least = rw keeps.head_len is.header.least;
        stands = rw (keeps.head_len, length-take k turned) (omega (arith, size, size', room.whole, room.inside));
        unrouted = keeps.routed ∙ is.header.unrouted;
      };
      payload = payload ∙ sym read ∙ rw (keeps.head_len, keeps.total) refl;
      stands = rw payload (omega (arith, length-placed b 0 pp new.port sp sum inner.payload (omega (arith, low, is.stands)) sum_inside, is.stands));
      first = keeps.offset ∙ is.first;
      carried = rw (payload, keeps.proto) (carried_read inner.proto new h.proto sum b inner.payload is.stands is.carried);
      ports = ports_read inner.proto new sum b inner.ports inner.payload is.stands sum_inside port is.ports ∙ rw payload refl;
    }

-- there are as many octets
length-turned : (new : NewEnd) (inner : Inner4) (k : ℕ) (xs : List ℕ) → IsInner4 inner (take k xs) → length (turned_embedded new inner xs) ≡ length xs
length-turned new inner k xs is =
    let h = inner.head in
    let room = room_of inner k xs is in
    let low = port_in inner.proto new.end in
    let long : 20 ≤ length xs = omega (arith, is.header.least, room.whole, is.stands) in
    let size = length-header new h xs long in
    let sp = sum_place inner.proto in
    let b = nat_le (sp + 2) (length inner.payload) in
    length-placed b h.head_len (port_place inner.proto new.end) new.port sp (embedded_sum new inner) (embedded_header new h xs)
    (omega (arith, low, room.whole, is.stands, size))
    (λ e. let there = leb-true (sp + 2) (length inner.payload) e in omega (arith, there, room.whole, size))
    ∙ size

-- the octets that the length octet of the message leaves are so many at the front
cut_is : (whole : Bool) (k n : ℕ) (xs : List ℕ) → length xs ≡ n → cond whole xs (take k xs) ≡ take (cond whole n k) xs
cut_is true k n xs is = sym (take_all n xs (omega arith))
cut_is false k n xs is = refl

pub read_again : (new : NewEnd) (m : Icmp4) (inner : Inner4) → IsInner4 inner (embedded46 m) → new.addr.0 < 2 ^ 32 → new.port < 65536 → IsInner4 (turned_inner new inner) (embedded46 (with_embedded new m inner))
read_again new m inner is small port =
    let k = 4 * (m.rest / 2 ^ 16 % 256) in
    let whole = m.rest / 2 ^ 16 % 256 == 0 in
    let n = length m.body in
    let there : IsInner4 inner (take (cond whole n k) m.body) = subst (λ (ys : List ℕ). IsInner4 inner ys) (cut_is whole k n m.body refl) is in
    let turned = again new inner (cond whole n k) m.body there small port in
    subst (λ (ys : List ℕ). IsInner4 (turned_inner new inner) ys) (sym (cut_is whole k n (turned_embedded new inner m.body) (length-turned new inner (cond whole n k) m.body there))) turned
