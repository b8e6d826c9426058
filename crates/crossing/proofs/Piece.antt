-- A packet that the first node cuts: each piece there and back, and all of them together.
use Rattle.std.proofs.Common.{◌≡◌, ◌≢◌, ℕ, suc, ◌+◌, ◌-◌, ◌<◌, ◌≤◌, List, length, drop, min, refl, ap, ◌∙◌, arith, length-drop}
use Rattle.std.proofs.lemmas.List.{places, length-take}
use Rattle.std.proofs.lemmas.Grind.{same_number_lists}
use Rattle.octets.specs.Field.{part, octet, word, with_word}
use Rattle.octets.proofs.Words.{length-with_word}
use Rattle.octets.specs.declared.proto.Proto.{Proto}
use Rattle.octets.specs.declared.proto.Proto.TheVariants.{Tcp, Udp, Icmp}
use Rattle.l4_headers.specs.declared.ports.Ports.{Ports}
use Rattle.l4_headers.specs.declared.ports.L4.{L4}
use Rattle.l4_headers.specs.Transport.{header_octets, l4_of, with_l4}

-- ---- octets of a piece

-- a part begins with as many octets as it has
pub part_self : (xs : List ℕ) (at n : ℕ) → part xs at n ≡ part xs at (length (part xs at n))
part_self xs at n = same_number_lists _ _ (grind (arith, places)) (λ k small. grind (arith, places))

pub length-part : (xs : List ℕ) (at n : ℕ) → length (part xs at n) ≡ min n (length xs - at)
length-part xs at n = length-take n (drop at xs) ∙ ap (min n) (length-drop at xs)

-- behind a transport header nothing was written
word_behind : (place n : ℕ) (xs : List ℕ) (at count : ℕ) → place + 2 ≤ length xs → place + 2 ≤ at → part (with_word place n xs) at count ≡ part xs at count
word_behind place n xs at count fits behind = same_number_lists _ _ (grind (arith, places)) (λ k small. grind (arith, places))

-- a number is written within the first octets as it is in all
pub word_front : (place n : ℕ) (xs : List ℕ) (count : ℕ) → place + 2 ≤ count → place + 2 ≤ length xs → with_word place n (part xs 0 count) ≡ part (with_word place n xs) 0 count
word_front place n xs count inside fits = same_number_lists _ _ (grind (arith, places)) (λ k small. grind (arith, places))

pub octet_front : (xs : List ℕ) (n k : ℕ) → k < n → octet (part xs 0 n) k ≡ octet xs k
octet_front xs n k inside = grind (arith, places)

pub word_first : (xs : List ℕ) (n at : ℕ) → at + 2 ≤ n → word (part xs 0 n) at ≡ word xs at
word_first xs n at inside = omega (arith, octet_front xs n at (omega arith), octet_front xs n (suc at) (omega arith))

pub l4_is : (ports one : Ports) (sum other flags flag : ℕ) → ports ≡ one → sum ≡ other → flags ≡ flag → ◌≡◌ {A = L4} (record { ports = ports; sum = sum; flags = flags }) (record { ports = one; sum = other; flags = flag })
l4_is ports one sum other flags flag a b c = rw (a, b, c) refl

pub ports_is : (src dst one other : ℕ) → src ≡ one → dst ≡ other → ◌≡◌ {A = Ports} (record { src = src; dst = dst }) (record { src = one; dst = other })
ports_is src dst one other a b = rw (a, b) refl

pub l4_of-front : (proto : Proto) (xs : List ℕ) (n : ℕ) → proto ≢ Icmp → header_octets proto ≤ n → l4_of proto (part xs 0 n) ≡ l4_of proto xs
l4_of-front Tcp xs n flows inside = l4_is _ _ _ _ _ _ (ports_is _ _ _ _ (word_first xs n 0 (omega arith)) (word_first xs n 2 (omega arith))) (word_first xs n 16 (omega arith)) (octet_front xs n 13 (omega arith))
l4_of-front Udp xs n flows inside = l4_is _ _ _ _ _ _ (ports_is _ _ _ _ (word_first xs n 0 (omega arith)) (word_first xs n 2 (omega arith))) (word_first xs n 6 (omega arith)) refl
l4_of-front Icmp xs n flows inside = absurd (flows refl)

three_behind : (place s p q : ℕ) (xs : List ℕ) (at n : ℕ) → 4 ≤ place → place + 2 ≤ length xs → place + 2 ≤ at → part (with_word place s (with_word 2 q (with_word 0 p xs))) at n ≡ part xs at n
three_behind place s p q xs at n later fits behind =
    let l0 = length-with_word 0 p xs (omega arith) in
    let l2 = length-with_word 2 q (with_word 0 p xs) (omega arith) in
    word_behind place s (with_word 2 q (with_word 0 p xs)) at n (omega arith) behind
    ∙ word_behind 2 q (with_word 0 p xs) at n (omega arith) (omega arith)
    ∙ word_behind 0 p xs at n (omega arith) (omega arith)

pub with_l4-behind : (proto : Proto) (payload : List ℕ) (ports : Ports) (sum at n : ℕ) → proto ≢ Icmp → header_octets proto ≤ length payload → 20 ≤ at → part (with_l4 proto payload ports sum) at n ≡ part payload at n
with_l4-behind Tcp payload ports sum at n flows stands behind = three_behind 16 sum ports.src ports.dst payload at n (omega arith) (omega arith) (omega arith)
with_l4-behind Udp payload ports sum at n flows stands behind = three_behind 6 sum ports.src ports.dst payload at n (omega arith) (omega arith) (omega arith)
with_l4-behind Icmp payload ports sum at n flows stands behind = absurd (flows refl)

pub three_front : (place s p q : ℕ) (xs : List ℕ) (n : ℕ) → 4 ≤ place → place + 2 ≤ length xs → place + 2 ≤ n → with_word place s (with_word 2 q (with_word 0 p (part xs 0 n))) ≡ part (with_word place s (with_word 2 q (with_word 0 p xs))) 0 n
three_front place s p q xs n later fits inside =
    let l0 = length-with_word 0 p xs (omega arith) in
    let l2 = length-with_word 2 q (with_word 0 p xs) (omega arith) in
    ap (λ (ys : List ℕ). with_word place s (with_word 2 q ys)) (word_front 0 p xs n (omega arith) (omega arith))
    ∙ ap (λ (ys : List ℕ). with_word place s ys) (word_front 2 q (with_word 0 p xs) n (omega arith) (omega arith))
    ∙ word_front place s (with_word 2 q (with_word 0 p xs)) n inside (omega arith)

pub with_l4-front : (proto : Proto) (payload : List ℕ) (ports : Ports) (sum n : ℕ) → proto ≢ Icmp → header_octets proto ≤ length payload → 20 ≤ n → with_l4 proto (part payload 0 n) ports sum ≡ part (with_l4 proto payload ports sum) 0 n
with_l4-front Tcp payload ports sum n flows stands inside = three_front 16 sum ports.src ports.dst payload n (omega arith) (omega arith) (omega arith)
with_l4-front Udp payload ports sum n flows stands inside = three_front 6 sum ports.src ports.dst payload n (omega arith) (omega arith) (omega arith)
with_l4-front Icmp payload ports sum n flows stands inside = absurd (flows refl)
