-- IPv6 headers stand in octets that have none of their causes, and there is one chain of them.
use Rattle.std.proofs.Common.{◌≡◌, ◌≢◌, ◌⊎◌, ◌<◌, ◌≤◌, ◌+◌, ◌-◌, ◌*◌, ◌/◌, ◌%◌, ◌^◌, ℕ, List, [], ◌∷◌, sym, ◌∙◌, refl, ap, Some, None, inl, inr, arith, length, drop, length-append, length-drop}
use Rattle.std.specs.Prelude.{Option}
use Rattle.std.specs.List.{concat}
use Rattle.std.proofs.lemmas.List.{length-take}
use Rattle.octets.specs.Bits.{bit_of, bits_at}
use Rattle.octets.specs.Field.{octet, word, sixteen, part}
use Rattle.octets.specs.Fragment.{IsWrongFragment}
use Rattle.octets.specs.declared.cause.Cause.{Cause}
use Rattle.octets.specs.declared.cause.Cause.TheVariants.{NotIp, Truncated, BadHeader, BadDestination}
use Rattle.ip6_packet.specs.declared.chain.Chain.{Chain}
use Rattle.ip6_packet.specs.declared.head.Frag6.{Frag6}
use Rattle.ip6_packet.specs.declared.head.Head6.{Head6}
use Rattle.ip6_packet.specs.Headers.{AreHeaders, EndsUpper, EndsInFragment, IsChain}
use Rattle.ip6_packet.specs.Embedded.{HasHeaders6, LacksHeaders6}
use Rattle.ip6_packet.specs.Grammar.{payload_len, payload_of6, chain_of, Is6}
use Rattle.ip6_packet.specs.Causes.{HasCause6, HasNoHeaderCause6, IsCause6, IsNoDestination6, IsWrongFrag6, IsBadChain}
use Rattle.ip6_packet.proofs.CauseLemmas.{long}
use Rattle.ip6_packet.proofs.ChainGrammar.{read}
use Rattle.ip6_packet.proofs.EmbeddedLemmas.{same_headers6, headers_of6}
use Rattle.packets.proofs.Decided.{Either, either, both, neither, equal, less, is_none, some_in, least_or_none}

-- the octets of a packet have one chain of headers
pub same_head6 : (h g : Head6) (octets : List ℕ) → Is6 h (payload_of6 h octets) octets → Is6 g (payload_of6 g octets) octets → h ≡ g
same_head6 h g octets a b = same_headers6 h g octets (headers_of6 h (payload_of6 h octets) octets a) (headers_of6 g (payload_of6 g octets) octets b)

wrong_fragment : (offset more len : ℕ) → Either (IsWrongFragment offset more len)
wrong_fragment offset more len = either (less 65535 (offset * 8 + len)) (both (equal more 1) (neither (equal (len % 8) 0)))

wrong_frag : (frag : Option Frag6) (len : ℕ) → Either (IsWrongFrag6 frag len)
wrong_frag None len = inr (λ h. h)
wrong_frag (Some frag) len = wrong_fragment frag.offset (bit_of frag.more) len

bad_chain : (chain : Option Chain) (end : ℕ) → Either (IsBadChain chain end)
bad_chain None end = inl tt
bad_chain (Some chain) end = wrong_frag chain.frag (end - chain.start)

-- an address that is no destination
pub no_destination6 : (addr : ℕ) → Either (IsNoDestination6 addr)
no_destination6 addr = either (equal (addr / 2 ^ 120) 255) (equal addr 0)

header_cause : (octets : List ℕ) (cause : Cause) → Either (HasCause6 cause octets)
header_cause octets NotIp = either (equal (length octets) 0) (neither (equal (octet octets 0 / 16) 6))
header_cause octets Truncated = either (less (length octets) 40) (less (length octets) (40 + payload_len octets))
header_cause octets BadHeader = bad_chain (chain_of octets) (40 + payload_len octets)
header_cause octets BadDestination = no_destination6 (sixteen octets 24)
header_cause octets _ = inr (λ h. h)

-- octets have a least cause of the headers, or none
pub header_cause_or_none6 : (octets : List ℕ) → ((cause : Cause) × IsCause6 cause octets) ⊎ HasNoHeaderCause6 octets
header_cause_or_none6 octets = least_or_none (λ cause. HasCause6 cause octets) (header_cause octets)

is_six : (n : ℕ) → (n ≢ 6 → ⊥) → n ≡ 6
is_six n h = elim (equal n 6) [ inl same ↦ same | inr other ↦ absurd (h other) ]

not_below : (a b : ℕ) → (a < b → ⊥) → b ≤ a
not_below a b h = omega arith

-- the headers of a chain and what is behind them are all of its octets
lengths : (number : ℕ) (octets : List ℕ) (headers : List (List ℕ)) (last : ℕ) (rest : List ℕ) → AreHeaders number octets headers last rest
    → length (concat headers) + length rest ≡ length octets
lengths number octets [] last rest are = let same : length rest ≡ length octets = ap length (sym are.1) in omega arith
lengths number octets (header ∷ headers) last rest are =
    let others = are.2.0 in
    let later = lengths (octet header 0) others headers last rest are.2.2 in
    let all : length octets ≡ length header + length others = ap length are.2.1 ∙ length-append header others in
    let front : length (concat (header ∷ headers)) ≡ length header + length (concat headers) = length-append header (concat headers) in
    omega (arith, later, all, front)

-- a chain ends within the octets in which it stands
ends_inside : (place number : ℕ) (octets : List ℕ) (chain : Chain) → IsChain place number octets chain → chain.start ≤ place + length octets
ends_inside place number octets chain is = inside is.ends
  where
    all : length (concat is.headers) + length is.rest ≡ length octets
    all = lengths number octets is.headers is.last is.rest is.are

    inside : EndsUpper (place + length (concat is.headers)) is.last chain ⊎ EndsInFragment (place + length (concat is.headers)) is.last is.rest chain → chain.start ≤ place + length octets
    inside (inl upper) = omega (arith, upper.start, all)
    inside (inr fragment) = omega (arith, fragment.start, fragment.whole, all)

-- the chain of a packet ends within the declared packet, and within the octets that stand
record Ends (octets : List ℕ) (chain : Chain) : Type 0 where
  declared : chain.start ≤ 40 + payload_len octets
  standing : 40 ≤ length octets → chain.start ≤ length octets

chain_ends : (octets : List ℕ) (chain : Chain) → chain_of octets ≡ Some chain → Ends octets chain
chain_ends octets chain is =
    let there = part octets 40 (payload_len octets) in
    let ends = ends_inside 40 (octet octets 6) there chain (read 40 (octet octets 6) there chain is) in
    let short : length there ≤ payload_len octets = rw (length-take (payload_len octets) (drop 40 octets)) (omega arith) in
    let less : length there ≤ length octets - 40 = rw (length-take (payload_len octets) (drop 40 octets), length-drop 40 octets) (omega arith) in
    record { declared = omega (arith, ends, short); standing = λ fixed. omega (arith, ends, less, fixed) }

-- the headers with this chain
abbrev head_of : List ℕ → Chain → Head6
head_of octets chain = record {
  class = bits_at 16 (word octets 0) 4 8;
  hop = octet octets 7;
  src = record { 0 = sixteen octets 8 };
  dst = record { 0 = sixteen octets 24 };
  upper = chain.upper;
  start = chain.start;
  length = 40 + payload_len octets - chain.start;
  frag = chain.frag;
  left = chain.left;
}

-- where they have none headers stand there
pub head_in6 : (octets : List ℕ) → HasNoHeaderCause6 octets → (h : Head6) × Is6 h (payload_of6 h octets) octets
head_in6 octets none =
    let is_long = long octets (none Truncated) in
    let version : octet octets 0 / 16 ≡ 6 = is_six _ (λ other. none NotIp (inr other)) in
    let chain = some_in (chain_of octets) (λ lacks. none BadHeader (rw lacks tt)) in
    let ends = chain_ends octets chain.0 chain.1 in (
      head_of octets chain.0,
      record {
        fields = record { version = version; class = refl; hop = refl; src = refl; dst = refl };
        chain = chain.1;
        ends = omega (arith, ends.declared);
        whole = is_long.payload;
        payload_is = refl;
      },
    )

-- embedded headers stand in octets, or none do
pub embedded_or_none6 : (octets : List ℕ) → ((h : Head6) × HasHeaders6 h octets) ⊎ LacksHeaders6 octets
embedded_or_none6 octets = elim (either (less (length octets) 40) (either (neither (equal (octet octets 0 / 16) 6)) (is_none (chain_of octets)))) [
  | inl lacks ↦ inr lacks
  | inr has ↦ inl (made has)
]
  where
    made : (LacksHeaders6 octets → ⊥) → (h : Head6) × HasHeaders6 h octets
    made has =
        let chain = some_in (chain_of octets) (λ lacks. has (inr (inr lacks))) in
        let ends = chain_ends octets chain.0 chain.1 in
        let fixed : 40 ≤ length octets = not_below _ _ (λ lt. has (inl lt)) in (
          head_of octets chain.0,
          record {
            fields = record { version = is_six _ (λ other. has (inr (inl other))); class = refl; hop = refl; src = refl; dst = refl };
            chain = chain.1;
            ends = omega (arith, ends.declared);
            fixed = fixed;
            stands = ends.standing fixed;
          },
        )
