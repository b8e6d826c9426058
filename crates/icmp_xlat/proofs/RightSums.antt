-- A right sum of an embedded packet stays right where it is translated.
use Rattle.std.proofs.Common.{◌≡◌, ℕ, ◌+◌, ◌-◌, ◌*◌, ◌%◌, ◌<◌, ◌≤◌, ◌==◌, true, false, List, [], ◌∷◌, ◌++◌, length, drop, min, inl, inr, refl, sym, ap, ◌∙◌, subst, arith}
use Rattle.std.specs.Prelude.{nat_le}
use Rattle.std.proofs.lemmas.Bool.{cases_lt, le-leb, ne_eqb, eq-eqb}
use Rattle.octets.specs.Field.{octet, word, with_word, in_word, in_sixteen}
use Rattle.octets.proofs.Words.{length-with_word, word-with_word, word-with_word_other}
use Rattle.octets.specs.declared.address.Addr4.{Addr4}
use Rattle.octets.specs.declared.address.Addr6.{Addr6}
use Rattle.octets.specs.declared.proto.Proto.{Proto}
use Rattle.octets.specs.declared.proto.Proto.TheVariants.{Tcp, Udp, Icmp}
use Rattle.inet_sum.specs.Sum.{words, folded, adjusted}
use Rattle.inet_sum.proofs.Laws.{full_folded, right_adjusted}
use Rattle.l4_headers.specs.declared.ports.Ports.{Ports}
use Rattle.l4_headers.specs.PseudoHeader.{pseudo_header4, pseudo_header6}
use Rattle.l4_headers.specs.Readdressed.{port_words}
use Rattle.l4_headers.specs.Transport.{with_l4}
use Rattle.l4_headers.proofs.RightSums.{words-pseudo4, words-pseudo6, right_readdressed}
use Rattle.l4_headers.proofs.Words.{words-with_word}
use Rattle.icmp_messages.specs.declared.inner4.Inner4.{Inner4}
use Rattle.icmp_messages.specs.declared.inner6.Inner6.{Inner6}
use Rattle.icmp_messages.specs.Inner.{IsCarried4, IsCarried6}
use Rattle.xlat46.specs.Head.{upper_protocol}
use Rattle.xlat46.specs.Whole.{ArePorts}
use Rattle.xlat64.specs.Head.{protocol_of, total_of}
use Rattle.l4_headers.specs.declared.ends.Ends.{Ends}
use Rattle.icmp_xlat.specs.Inner.{Change, inner_tcp, inner_udp, inner_echo, echo_sum, inner_payload, echo46, echo64, change46, change64, Stands4, Stands6}
use Rattle.icmp_xlat.specs.Moved.{moved46, moved64}
use Rattle.icmp_xlat.specs.Sums.{outside4, outside6, IsRightIn4, IsRightIn6, HasSum, IsZeroEcho}

-- the words of a payload with other ports and another sum, where the sum stands
words-ports : (at : ℕ) (ports : Ports) (sum : ℕ) (xs : List ℕ) → 4 ≤ at → at % 2 ≡ 0 → at + 2 ≤ length xs → ports.src < 65536 → ports.dst < 65536 → sum < 65536
    → words (with_word at sum (with_word 2 ports.dst (with_word 0 ports.src xs))) + (word xs 0 + word xs 2 + word xs at) ≡ words xs + (ports.src + ports.dst + sum)
words-ports at ports sum xs later even stands src dst fits =
    let a = with_word 0 ports.src xs in
    let b = with_word 2 ports.dst a in
    let la : length a ≡ length xs = length-with_word 0 ports.src xs (omega arith) in
    let lb : length b ≡ length a = length-with_word 2 ports.dst a (omega arith) in
    let sa = words-with_word 0 ports.src xs (omega arith) (omega arith) src in
    let sb = words-with_word 2 ports.dst a (omega arith) (omega arith) dst in
    let sc = words-with_word at sum b (omega arith) even fits in
    let a2 = word-with_word_other 0 ports.src xs 2 (omega arith) (inr (omega arith)) in
    let aat = word-with_word_other 0 ports.src xs at (omega arith) (inr (omega arith)) in
    let bat = word-with_word_other 2 ports.dst a at (omega arith) (inr (omega arith)) in
    omega arith

-- A right TCP sum stays right where it stands, though the header may be cut behind it.
right_tcp : (rest rest' old new : ℕ) (payload : List ℕ) (ports : Ports) → 18 ≤ length payload → ArePorts ports → 0 < rest' → rest' + old ≡ rest + new
    → folded (rest + words payload) ≡ 65535
    → folded (rest' + words (with_l4 Tcp payload ports (adjusted (word payload 16) (old + (word payload 0 + word payload 2)) (new + port_words ports)))) ≡ 65535
right_tcp rest rest' old new payload ports stands fit some change right =
    let c = word payload 16 in
    let sum = adjusted c (old + (word payload 0 + word payload 2)) (new + port_words ports) in
    let written = with_l4 Tcp payload ports sum in
    let w = words-ports 16 ports sum payload (omega arith) (omega arith) (omega arith) fit.0 fit.1 (omega arith) in
    let w0 = words-ports 16 (record { src = 0; dst = 0 }) 0 payload (omega arith) (omega arith) (omega arith) (omega arith) (omega arith) (omega arith) in
    let others = words (with_word 16 0 (with_word 2 0 (with_word 0 0 payload))) in
    let front = rest + others + (word payload 0 + word payload 2) in
    let front' = rest' + others + (ports.src + ports.dst) in
    let before : front + c ≡ rest + words payload = omega (arith, w0) in
    let after : rest' + words written ≡ front' + sum = omega (arith, w, w0) in
    ap folded after
    ∙ right_adjusted front front' c (old + (word payload 0 + word payload 2)) (new + port_words ports) (ap folded before ∙ right) (omega arith) (omega arith)

-- an echo's words
pub words-echo : (payload : List ℕ) → 8 ≤ length payload → words payload ≡ word payload 0 + word payload 2 + word payload 4 + words (drop 6 payload)
words-echo (a ∷ b ∷ c ∷ d ∷ e ∷ f ∷ rest) long = omega arith
words-echo (a ∷ b ∷ c ∷ d ∷ e ∷ []) long = absurd (omega arith)
words-echo (a ∷ b ∷ c ∷ d ∷ []) long = absurd (omega arith)
words-echo (a ∷ b ∷ c ∷ []) long = absurd (omega arith)
words-echo (a ∷ b ∷ []) long = absurd (omega arith)
words-echo (a ∷ []) long = absurd (omega arith)
words-echo [] long = absurd (omega arith)

words-new_echo : (kind sum id : ℕ) (data' : List ℕ) → sum < 65536 → id < 65536 → words (kind ∷ 0 ∷ in_word sum ++ in_word id ++ data') ≡ 256 * kind + sum + id + words data'
words-new_echo kind sum id data' fits small = omega arith

regroup : (a b c : ℕ) → a + b + c ≡ a + c + b
regroup a b c = omega arith

nothing_outside : (w later : ℕ) → 0 + w + later ≡ later + w
nothing_outside w later = omega arith

-- an echo, whose sum covers words of sum `rest` outside that become `rest'`, which are counted among the words that change
right_echo : (payload : List ℕ) (change : Change) (rest rest' : ℕ) → 8 ≤ length payload → change.ports.src < 65536 → change.kind < 256
    → rest' + change.before ≡ rest + change.after → 0 < rest' + (256 * change.kind + change.ports.src) + words (drop 6 payload)
    → folded (rest + words payload) ≡ 65535 → folded (rest' + words (inner_echo payload change)) ≡ 65535
unfolding echo_sum
right_echo payload change rest rest' long small kind moves some right =
    let c = word payload 2 in
    let gone = word payload 0 + word payload 4 in
    let come = 256 * change.kind + change.ports.src in
    let data' = words (drop 6 payload) in
    let sum = adjusted c (change.before + gone) (change.after + come) in
    let old = words-echo payload long in
    let new : words (inner_echo payload change) ≡ 256 * change.kind + sum + change.ports.src + data' = words-new_echo change.kind sum change.ports.src (drop 6 payload) (omega arith) small in
    let front = rest + gone + data' in
    let front' = rest' + come + data' in
    let before : front + c ≡ rest + words payload = omega (arith, old) in
    let after : rest' + words (inner_echo payload change) ≡ front' + sum = omega (arith, new) in
    ap folded after ∙ right_adjusted front front' c (change.before + gone) (change.after + come) (ap folded before ∙ right) (omega (arith, moves)) (omega (arith, some))

echo46_small : (kind : ℕ) → echo46 kind < 256
echo46_small kind = grind arith

echo64_small : (kind : ℕ) → echo64 kind < 256
echo64_small kind = grind arith

-- pseudo headers of one protocol and one length differ by the addresses
moved : (a b addresses others number to len later : ℕ) → a ≡ addresses + (number + len) → b ≡ others + (to + len) → number ≡ to → (b + later) + addresses ≡ (a + later) + others
moved a b addresses others number to len later one other same = omega arith

some_words : (b others number len later : ℕ) → b ≡ others + (number + len) → 0 < number → 0 < b + later
some_words b others number len later is some = omega arith

added : (b after later : ℕ) → b ≡ after → (b + later) + 0 ≡ later + after
added b after later is = omega arith

taken : (a before later : ℕ) → a ≡ before → later + before ≡ (a + later) + 0
taken a before later is = omega arith

some_echo : (b others number len later come data' : ℕ) → b ≡ others + (number + len) → number ≡ 58 → 0 < (b + later) + come + data'
some_echo b others number len later come data' is icmp = omega arith

-- to IPv6
right46_at : (proto : Proto) (inner : Inner4) (ends : Ends Addr6) (later : ℕ) → 8 ≤ length inner.payload → inner.head.total < 65536 → IsCarried4 proto inner.head.proto inner.payload → ArePorts ends.ports → HasSum proto inner.payload
    → folded (outside4 inner proto + words inner.payload + later) ≡ 65535
    → folded (words (pseudo_header6 ends.inner_src ends.inner_dst (upper_protocol inner.head.proto) (inner.head.total - inner.head.head_len)) + words (inner_payload proto inner.payload (change46 inner ends proto)) + later) ≡ 65535
right46_at Tcp inner ends later long short is fit sum right =
    let len = inner.head.total - inner.head.head_len in
    let a = words (pseudo_header4 inner.head.src inner.head.dst inner.head.proto len) in
    let b = words (pseudo_header6 ends.inner_src ends.inner_dst (upper_protocol inner.head.proto) len) in
    let number : upper_protocol inner.head.proto ≡ 6 = ap upper_protocol is in
    let four = words-pseudo4 inner.head.src inner.head.dst inner.head.proto len (omega arith) in
    let six = words-pseudo6 ends.inner_src ends.inner_dst (upper_protocol inner.head.proto) len (omega arith) in
    let change = change46 inner ends Tcp in
    let new = right_tcp (a + later) (b + later) change.before change.after inner.payload ends.ports sum fit (some_words b change.after 6 len later (six ∙ ap (λ (n : ℕ). change.after + (n + len)) number) (omega arith)) (moved a b change.before change.after inner.head.proto (upper_protocol inner.head.proto) len later four six (is ∙ sym number)) (ap folded (regroup a later (words inner.payload)) ∙ right) in
    let stands : nat_le 18 (length inner.payload) ≡ true = le-leb 18 (length inner.payload) sum in
    ap folded (regroup b (words (inner_tcp inner.payload change)) later) ∙ rw stands new
right46_at Udp inner ends later long short is fit sum right =
    let len = inner.head.total - inner.head.head_len in
    let a = words (pseudo_header4 inner.head.src inner.head.dst inner.head.proto len) in
    let b = words (pseudo_header6 ends.inner_src ends.inner_dst (upper_protocol inner.head.proto) len) in
    let number : upper_protocol inner.head.proto ≡ 17 = ap upper_protocol is in
    let four = words-pseudo4 inner.head.src inner.head.dst inner.head.proto len (omega arith) in
    let six = words-pseudo6 ends.inner_src ends.inner_dst (upper_protocol inner.head.proto) len (omega arith) in
    let change = change46 inner ends Udp in
    let new = right_readdressed Udp inner.payload (a + later) (b + later) change.before change.after ends.ports (λ e. cc) long fit.0 fit.1 (some_words b change.after 17 len later (six ∙ ap (λ (n : ℕ). change.after + (n + len)) number) (omega arith)) (moved a b change.before change.after inner.head.proto (upper_protocol inner.head.proto) len later four six (is ∙ sym number)) (ap folded (regroup a later (words inner.payload)) ∙ right) in
    let there : (word inner.payload 6 == 0) ≡ false = ne_eqb (word inner.payload 6) 0 sum in
    ap folded (regroup b (words (inner_udp inner.payload change)) later) ∙ rw there new
right46_at Icmp inner ends later long short is fit sum right =
    let len = inner.head.total - inner.head.head_len in
    let b = words (pseudo_header6 ends.inner_src ends.inner_dst (upper_protocol inner.head.proto) len) in
    let change = change46 inner ends Icmp in
    let number : upper_protocol inner.head.proto ≡ 58 = ap upper_protocol is.0 in
    let six = words-pseudo6 ends.inner_src ends.inner_dst (upper_protocol inner.head.proto) len (omega arith) in
    let after : b ≡ change.after = ap (λ (n : ℕ). words (pseudo_header6 ends.inner_src ends.inner_dst n len)) number in
    let new = right_echo inner.payload change later (b + later) long fit.0 (echo46_small (octet inner.payload 0)) (added b change.after later after) (some_echo b (words (in_sixteen ends.inner_src.0) + words (in_sixteen ends.inner_dst.0)) (upper_protocol inner.head.proto) len later (256 * change.kind + change.ports.src) (words (drop 6 inner.payload)) six number) (ap folded (sym (nothing_outside (words inner.payload) later)) ∙ right) in
    ap folded (regroup b (words (inner_echo inner.payload change)) later) ∙ new

pub right46 : (inner : Inner4) (ends : Ends Addr6) (later : ℕ) → Stands4 inner → inner.head.total < 65536 → ArePorts ends.ports → HasSum inner.proto inner.payload
    → IsRightIn4 inner later → IsRightIn6 (moved46 inner ends) later
right46 inner ends later stands short fit sum right = right46_at inner.proto inner ends later stands.long short stands.carried fit sum right

whole_length : (len : ℕ) → len ≤ 65515 → min (20 + len) 65535 - 20 ≡ len
whole_length len short = omega arith

small_length : (len : ℕ) → min (20 + len) 65535 - 20 < 65536
small_length len = omega arith

-- to IPv4
right64_at : (proto : Proto) (inner : Inner6) (ends : Ends Addr4) (later : ℕ) → 8 ≤ length inner.payload → inner.head.length ≤ 65515 → IsCarried6 proto inner.head.upper inner.payload → ArePorts ends.ports → HasSum proto inner.payload
    → ((proto ≡ Icmp) × (echo64 (octet inner.payload 0) ≡ 0) × (ends.ports.src ≡ 0) × (words (drop 6 inner.payload) + later ≡ 0) → ⊥)
    → folded (outside6 inner + words inner.payload + later) ≡ 65535
    → folded (outside4 (moved64 inner ends) proto + words (inner_payload proto inner.payload (change64 inner ends proto)) + later) ≡ 65535
right64_at Tcp inner ends later long short is fit sum some right =
    let len = inner.head.length in
    let a = outside6 inner in
    let b = outside4 (moved64 inner ends) Tcp in
    let number : protocol_of inner.head.upper ≡ 6 = ap protocol_of is in
    let six = words-pseudo6 inner.head.src inner.head.dst inner.head.upper len (omega arith) in
    let four = words-pseudo4 ends.inner_src ends.inner_dst (protocol_of inner.head.upper) (total_of inner.head - 20) (small_length len) in
    let whole : total_of inner.head - 20 ≡ len = whole_length len short in
    let change = change64 inner ends Tcp in
    let there4 : b ≡ change.after + (protocol_of inner.head.upper + len) = four ∙ ap (λ (n : ℕ). change.after + (protocol_of inner.head.upper + n)) whole in
    let new = right_tcp (a + later) (b + later) change.before change.after inner.payload ends.ports sum fit (some_words b change.after 6 len later (there4 ∙ ap (λ (n : ℕ). change.after + (n + len)) number) (omega arith)) (moved a b change.before change.after inner.head.upper (protocol_of inner.head.upper) len later six there4 (is ∙ sym number)) (ap folded (regroup a later (words inner.payload)) ∙ right) in
    let stands : nat_le 18 (length inner.payload) ≡ true = le-leb 18 (length inner.payload) sum in
    ap folded (regroup b (words (inner_tcp inner.payload change)) later) ∙ rw stands new
right64_at Udp inner ends later long short is fit sum some right =
    let len = inner.head.length in
    let a = outside6 inner in
    let b = outside4 (moved64 inner ends) Udp in
    let number : protocol_of inner.head.upper ≡ 17 = ap protocol_of is in
    let six = words-pseudo6 inner.head.src inner.head.dst inner.head.upper len (omega arith) in
    let four = words-pseudo4 ends.inner_src ends.inner_dst (protocol_of inner.head.upper) (total_of inner.head - 20) (small_length len) in
    let whole : total_of inner.head - 20 ≡ len = whole_length len short in
    let change = change64 inner ends Udp in
    let there4 : b ≡ change.after + (protocol_of inner.head.upper + len) = four ∙ ap (λ (n : ℕ). change.after + (protocol_of inner.head.upper + n)) whole in
    let new = right_readdressed Udp inner.payload (a + later) (b + later) change.before change.after ends.ports (λ e. cc) long fit.0 fit.1 (some_words b change.after 17 len later (there4 ∙ ap (λ (n : ℕ). change.after + (n + len)) number) (omega arith)) (moved a b change.before change.after inner.head.upper (protocol_of inner.head.upper) len later six there4 (is ∙ sym number)) (ap folded (regroup a later (words inner.payload)) ∙ right) in
    let there : (word inner.payload 6 == 0) ≡ false = ne_eqb (word inner.payload 6) 0 sum in
    ap folded (regroup b (words (inner_udp inner.payload change)) later) ∙ rw there new
right64_at Icmp inner ends later long short is fit sum some right =
    let a = outside6 inner in
    let change = change64 inner ends Icmp in
    let before : a ≡ change.before = ap (λ (n : ℕ). words (pseudo_header6 inner.head.src inner.head.dst n inner.head.length)) is.0 in
    let new = right_echo inner.payload change (a + later) later long fit.0 (echo64_small (octet inner.payload 0)) (taken a change.before later before) (covers (echo64 (octet inner.payload 0)) ends.ports.src (words (drop 6 inner.payload)) later (λ k i d. some (refl, k, i, d))) (ap folded (regroup a later (words inner.payload)) ∙ right) in
    ap folded (nothing_outside (words (inner_echo inner.payload change)) later) ∙ new
  where
    covers : (kind id data' later : ℕ) → (kind ≡ 0 → id ≡ 0 → data' + later ≡ 0 → ⊥) → 0 < later + (256 * kind + id) + data'
    covers kind id data' later h = elim (cases_lt 0 (later + (256 * kind + id) + data')) [ inl some ↦ some | inr none ↦ absurd (h (omega arith) (omega arith) (omega arith)) ]

pub right64 : (inner : Inner6) (ends : Ends Addr4) (later : ℕ) → Stands6 inner → inner.head.length ≤ 65515 → ArePorts ends.ports → HasSum inner.proto inner.payload → (IsZeroEcho inner ends later → ⊥)
    → IsRightIn6 inner later → IsRightIn4 (moved64 inner ends) later
right64 inner ends later stands short fit sum some right = right64_at inner.proto inner ends later stands.long short stands.carried fit sum some right

-- where all is 0 that an echo's sum covers, 0 is written
zero_sum : (c w rest data' later : ℕ) → folded (rest + (w + c + data') + later) ≡ 65535 → data' + later ≡ 0 → adjusted c (rest + w) 0 ≡ 0
zero_sum c w rest data' later right none = let whole = (full_folded _ right).1 in omega arith

second_word : (kind sum id : ℕ) (data' : List ℕ) → sum < 65536 → word (kind ∷ 0 ∷ in_word sum ++ in_word id ++ data') 2 ≡ sum
second_word kind sum id data' fits = omega arith

zero_at : (proto : Proto) (inner : Inner6) (ends : Ends Addr4) (later : ℕ) → 8 ≤ length inner.payload → IsCarried6 proto inner.head.upper inner.payload → proto ≡ Icmp → echo64 (octet inner.payload 0) ≡ 0 → ends.ports.src ≡ 0
    → words (drop 6 inner.payload) + later ≡ 0 → IsRightIn6 inner later → word (inner_payload proto inner.payload (change64 inner ends proto)) 2 ≡ 0
unfolding echo_sum
zero_at Tcp inner ends later long is icmp kind id rest right = cc
zero_at Udp inner ends later long is icmp kind id rest right = cc
zero_at Icmp inner ends later long is icmp kind id rest right =
    let payload = inner.payload in
    let c = word payload 2 in
    let w = word payload 0 + word payload 4 in
    let data' = words (drop 6 payload) in
    let outside = outside6 inner in
    let before : outside ≡ words (pseudo_header6 inner.head.src inner.head.dst 58 inner.head.length) = ap (λ (n : ℕ). words (pseudo_header6 inner.head.src inner.head.dst n inner.head.length)) is.0 in
    let old : words payload ≡ w + c + data' = words-echo payload long ∙ order (word payload 0) c (word payload 4) data' in
    let none : adjusted c (outside + w) 0 ≡ 0 = zero_sum c w outside data' later (subst (λ (n : ℕ). folded (outside + n + later) ≡ 65535) old right) rest in
    let come : 256 * echo64 (octet payload 0) + ends.ports.src ≡ 0 = nothing (echo64 (octet payload 0)) ends.ports.src kind id in
    second_word (echo64 (octet payload 0)) _ ends.ports.src (drop 6 payload) (fits c (words (pseudo_header6 inner.head.src inner.head.dst 58 inner.head.length) + w) (0 + (256 * echo64 (octet payload 0) + ends.ports.src)))
    ∙ ap (λ (n : ℕ). adjusted c (words (pseudo_header6 inner.head.src inner.head.dst 58 inner.head.length) + w) (0 + n)) come
    ∙ ap (λ (n : ℕ). adjusted c (n + w) 0) (sym before)
    ∙ none
  where
    order : (a b c d : ℕ) → a + b + c + d ≡ a + c + b + d
    order a b c d = omega arith

    nothing : (kind id : ℕ) → kind ≡ 0 → id ≡ 0 → 256 * kind + id ≡ 0
    nothing kind id a b = omega arith

    fits : (c old new : ℕ) → adjusted c old new < 65536
    fits c old new = omega arith

pub zero64 : (inner : Inner6) (ends : Ends Addr4) (later : ℕ) → Stands6 inner → IsZeroEcho inner ends later → IsRightIn6 inner later → word (moved64 inner ends).payload 2 ≡ 0
zero64 inner ends later stands (icmp, kind, id, rest) right = zero_at inner.proto inner ends later stands.long stands.carried icmp kind id rest right

-- a missing sum stays missing
missing : (proto : Proto) (payload : List ℕ) (change : Change) → 8 ≤ length payload → proto ≡ Udp → word payload 6 ≡ 0 → word (inner_payload proto payload change) 6 ≡ 0
missing Tcp payload change long udp none = cc
missing Icmp payload change long udp none = cc
missing Udp payload change long udp none =
    let a = with_word 0 change.ports.src payload in
    let la : length a ≡ length payload = length-with_word 0 change.ports.src payload (omega arith) in
    let lb : length (with_word 2 change.ports.dst a) ≡ length a = length-with_word 2 change.ports.dst a (omega arith) in
    let there : (word payload 6 == 0) ≡ true = eq-eqb (word payload 6) 0 none in
    rw there (word-with_word 6 0 (with_word 2 change.ports.dst a) (omega arith) (omega arith))

pub missing46 : (inner : Inner4) (ends : Ends Addr6) → Stands4 inner → inner.proto ≡ Udp → word inner.payload 6 ≡ 0 → word (moved46 inner ends).payload 6 ≡ 0
missing46 inner ends stands udp none = missing inner.proto inner.payload (change46 inner ends inner.proto) stands.long udp none

pub missing64 : (inner : Inner6) (ends : Ends Addr4) → Stands6 inner → inner.proto ≡ Udp → word inner.payload 6 ≡ 0 → word (moved64 inner ends).payload 6 ≡ 0
missing64 inner ends stands udp none = missing inner.proto inner.payload (change64 inner ends inner.proto) stands.long udp none
