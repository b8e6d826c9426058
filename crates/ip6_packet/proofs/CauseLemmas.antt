-- A reader that answers headers without a cause, or the least cause, answers as its contract says.
use Rattle.std.proofs.Common.{◌≡◌, ◌≢◌, ℕ, ◌+◌, ◌<◌, ◌≤◌, List, ◌++◌, length, Result, Ok, Err, inl, inr, refl, sym, ◌∙◌, arith}
use Rattle.std.specs.Prelude.{IfOk, IfErr}
use Rattle.std.proofs.lemmas.List.{get_or_append_left, length-append}
use Rattle.std.proofs.lemmas.Bool.{cases_lt}
use Rattle.octets.specs.declared.cause.Cause.{Cause}
use Rattle.octets.specs.declared.cause.Cause.TheVariants.{NotIp, Truncated, BadHeader, BadDestination}
use Rattle.octets.specs.Cause.{number_of}
use Rattle.octets.specs.Field.{octet, sixteen}
use Rattle.ip6_packet.specs.declared.head.Head6.{Head6}
use Rattle.ip6_packet.specs.Grammar.{payload_len, payload_of6, chain_of, HasFields6, Is6}
use Rattle.ip6_packet.specs.Causes.{IsTruncated6, HasCause6, HasNoHeaderCause6, IsCause6, StaysRead6}
use Rattle.octets.proofs.Parts.{number-append, part-append}

-- octets that have none of the four causes below a number have no cause below it
pub spared : (octets : List ℕ) (n : ℕ)
    → (1 < n → HasCause6 NotIp octets → ⊥) → (2 < n → HasCause6 Truncated octets → ⊥) → (3 < n → HasCause6 BadHeader octets → ⊥)
    → (5 < n → HasCause6 BadDestination octets → ⊥)
    → (c : Cause) → number_of c < n → HasCause6 c octets → ⊥
spared octets n a b c e NotIp h has = a h has
spared octets n a b c e Truncated h has = b h has
spared octets n a b c e BadHeader h has = c h has
spared octets n a b c e BadDestination h has = e h has
spared octets n a b c e _ h has = has

-- what isn't refused as too few
pub record IsLong (octets : List ℕ) : Type 0 where
  pub shortest : 40 ≤ length octets
  pub payload : 40 + payload_len octets ≤ length octets

not_below : (a b : ℕ) → (a < b → ⊥) → b ≤ a
not_below a b h = elim (cases_lt a b) [ inl lt ↦ absurd (h lt) | inr le ↦ le ]

pub long : (octets : List ℕ) → (IsTruncated6 octets → ⊥) → IsLong octets
long octets whole = record {
  shortest = not_below _ _ (λ lt. whole (inl lt));
  payload = not_below _ _ (λ lt. whole (inr lt));
}

-- the parts that causes speak of are the same
pub record SameHeader (octets longer : List ℕ) : Type 0 where
  pub first : octet longer 0 ≡ octet octets 0
  pub payload : payload_len longer ≡ payload_len octets
  pub chain : chain_of longer ≡ chain_of octets
  pub dst : sixteen longer 24 ≡ sixteen octets 24

-- octets that aren't too few keep their headers where more are added
same_header : (octets more : List ℕ) → IsLong octets → SameHeader octets (octets ++ more)
same_header octets more is = record {
  first = get_or_append_left octets more 0 0 (omega arith);
  payload = payload;
  chain = rw (payload, get_or_append_left octets more 0 6 (omega arith), part-append octets more 40 (payload_len octets) is.payload) refl;
  dst = number-append octets more 24 16 (omega arith);
}
  where
    payload : payload_len (octets ++ more) ≡ payload_len octets
    payload = number-append octets more 4 2 (omega arith)

-- causes but Truncated are read from the declared packet alone
longer_has : (octets more : List ℕ) → IsLong octets → (c : Cause) → HasCause6 c (octets ++ more) → HasCause6 c octets
longer_has octets more is NotIp (inl h) = absurd (omega (arith, length-append octets more))
longer_has octets more is NotIp (inr h) = inr (rw (← (same_header octets more is).first) h)
longer_has octets more is Truncated h = absurd (too_few (same_header octets more is) h)
  where
    too_few : SameHeader octets (octets ++ more) → IsTruncated6 (octets ++ more) → ⊥
    too_few same (inl lt) = omega (arith, length-append octets more)
    too_few same (inr lt) = omega (arith, length-append octets more)
longer_has octets more is BadHeader h =
    let same = same_header octets more is in
    rw (← same.chain, ← same.payload) h
longer_has octets more is BadDestination h = rw (← (same_header octets more is).dst) h
longer_has octets more is _ h = h

-- and the other way round
has_longer : (octets more : List ℕ) → IsLong octets → (c : Cause) → c ≢ Truncated → HasCause6 c octets → HasCause6 c (octets ++ more)
has_longer octets more is NotIp ne (inl h) = absurd (omega arith)
has_longer octets more is NotIp ne (inr h) = inr (rw (same_header octets more is).first h)
has_longer octets more is Truncated ne h = absurd (ne refl)
has_longer octets more is BadHeader ne h =
    let same = same_header octets more is in
    rw (same.chain, same.payload) h
has_longer octets more is BadDestination ne h = rw (same_header octets more is).dst h
has_longer octets more is _ ne h = h

longer_fields : (h : Head6) (octets more : List ℕ) → IsLong octets → HasFields6 h octets → HasFields6 h (octets ++ more)
longer_fields h octets more is old = record {
  version = rw (get_or_append_left octets more 0 0 (omega arith)) old.version;
  class = rw (number-append octets more 0 2 (omega arith)) old.class;
  hop = rw (get_or_append_left octets more 0 7 (omega arith)) old.hop;
  src = rw (number-append octets more 8 16 (omega arith)) old.src;
  dst = rw (number-append octets more 24 16 (omega arith)) old.dst;
}

longer_is : (h : Head6) (payload octets more : List ℕ) → IsLong octets → Is6 h payload octets → Is6 h payload (octets ++ more)
longer_is h payload octets more is old =
    let same = same_header octets more is in
    record {
      fields = longer_fields h octets more is old.fields;
      chain = same.chain ∙ old.chain;
      ends = rw same.payload old.ends;
      whole = omega (arith, same.payload, old.whole, length-append octets more);
      payload_is = old.payload_is ∙ sym (part-append octets more h.start h.length (omega (arith, old.whole, old.ends)));
    }

-- no cause has a lesser number than the first
none_lesser : (octets : List ℕ) (c : Cause) → number_of c < 1 → HasCause6 c octets → ⊥
none_lesser octets = spared octets 1 (λ h. absurd (omega arith)) (λ h. absurd (omega arith)) (λ h. absurd (omega arith)) (λ h. absurd (omega arith))

kept : (c : Cause) (octets more : List ℕ) → IsCause6 c octets → c ≢ Truncated → 2 < number_of c → IsCause6 c (octets ++ more)
kept c octets more is ne above =
    let whole = long octets (is.1 Truncated above) in
    (has_longer octets more whole c ne is.0, λ lesser lt has. is.1 lesser lt (longer_has octets more whole lesser has))

refused_longer : (c : Cause) (octets more : List ℕ) → IsCause6 c octets → c ≢ Truncated → 0 < length octets → IsCause6 c (octets ++ more)
refused_longer NotIp octets more (inl h, least) ne some = absurd (omega arith)
refused_longer NotIp octets more (inr h, least) ne some = (inr (rw (get_or_append_left octets more 0 0 some) h), none_lesser (octets ++ more))
refused_longer Truncated octets more is ne some = absurd (ne refl)
refused_longer BadHeader octets more is ne some = kept BadHeader octets more is ne (omega arith)
refused_longer BadDestination octets more is ne some = kept BadDestination octets more is ne (omega arith)
refused_longer _ octets more is ne some = absurd is.0

-- what was read stays read
pub stays : (read : Result Head6 Cause) (octets more : List ℕ) → IfOk read (λ h. Is6 h (payload_of6 h octets) octets × HasNoHeaderCause6 octets)
    → IfErr read (λ c. IsCause6 c octets) → StaysRead6 read octets (octets ++ more)
stays (Ok h) octets more found refused =
    let is = long octets (found.1 Truncated) in
    (longer_is h (payload_of6 h octets) octets more is found.0, λ c has. found.1 c (longer_has octets more is c has))
stays (Err c) octets more found refused = λ ne some. refused_longer c octets more refused ne some
