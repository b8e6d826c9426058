-- A reader that answers a header without a cause, or the least cause, answers as its contract says.
pub use Rattle.octets.proofs.CauseNumbers.{below}
use Rattle.std.proofs.Common.{◌≡◌, ◌≢◌, ℕ, ◌-◌, ◌<◌, ◌≤◌, List, ◌++◌, length, take, Result, Ok, Err, inl, inr, refl, sym, ◌∙◌, arith}
use Rattle.std.specs.Prelude.{IfOk, IfErr}
use Rattle.octets.specs.declared.cause.Cause.{Cause}
use Rattle.octets.specs.declared.cause.Cause.TheVariants.{NotIp, Truncated, BadHeader, BadHeaderSum, BadDestination}
use Rattle.octets.specs.Cause.{number_of}
use Rattle.ip4_packet.specs.declared.head.Head4.{Head4}
use Rattle.octets.specs.Field.{octet, word, quad}
use Rattle.ip4_packet.specs.Grammar.{header_len, total_len, option_octets, HasFields4, Is4, payload_of4}
use Rattle.ip4_packet.specs.Causes.{IsTruncated4, HasCause4, HasNoHeaderCause4, IsCause4, StaysRead4}
use Rattle.std.proofs.lemmas.List.{take-append-le, get_or_append_left, length-append}
use Rattle.std.proofs.lemmas.Bool.{cases_lt}
use Rattle.octets.proofs.Parts.{number-append, part-append}

-- octets that have none of the five causes below a number have no cause below it
pub spared : (octets : List ℕ) (n : ℕ)
    → (1 < n → HasCause4 NotIp octets → ⊥) → (2 < n → HasCause4 Truncated octets → ⊥) → (3 < n → HasCause4 BadHeader octets → ⊥)
    → (4 < n → HasCause4 BadHeaderSum octets → ⊥) → (5 < n → HasCause4 BadDestination octets → ⊥)
    → (c : Cause) → number_of c < n → HasCause4 c octets → ⊥
spared octets n a b c d e NotIp h has = a h has
spared octets n a b c d e Truncated h has = b h has
spared octets n a b c d e BadHeader h has = c h has
spared octets n a b c d e BadHeaderSum h has = d h has
spared octets n a b c d e BadDestination h has = e h has
spared octets n a b c d e _ h has = has

-- the parts of the header that causes speak of are the same
pub record SameHeader (octets longer : List ℕ) : Type 0 where
  pub first : octet longer 0 ≡ octet octets 0
  pub total : total_len longer ≡ total_len octets
  pub fragment : word longer 6 ≡ word octets 6
  pub dst : quad longer 16 ≡ quad octets 16
  pub options : option_octets longer ≡ option_octets octets
  pub header : take (header_len longer) longer ≡ take (header_len octets) octets

-- what isn't refused as too few
pub record IsLong (octets : List ℕ) : Type 0 where
  pub shortest : 20 ≤ length octets
  pub header : header_len octets ≤ length octets
  pub total : total_len octets ≤ length octets

not_below : (a b : ℕ) → (a < b → ⊥) → b ≤ a
not_below a b h = elim (cases_lt a b) [ inl lt ↦ absurd (h lt) | inr le ↦ le ]

pub long : (octets : List ℕ) → (IsTruncated4 octets → ⊥) → IsLong octets
long octets whole = record {
  shortest = not_below _ _ (λ lt. whole (inl lt));
  header = not_below _ _ (λ lt. whole (inr (inl lt)));
  total = not_below _ _ (λ lt. whole (inr (inr lt)));
}

-- octets that aren't too few keep their header where more are added
same_header : (octets more : List ℕ) → IsLong octets → SameHeader octets (octets ++ more)
same_header octets more is = record {
  first = first;
  total = number-append octets more 2 2 (omega arith);
  fragment = number-append octets more 6 2 (omega arith);
  dst = number-append octets more 16 4 (omega arith);
  options = rw first (part-append octets more 20 (header_len octets - 20) (omega arith));
  header = rw first (take-append-le (header_len octets) octets more is.header);
}
  where
    first : octet (octets ++ more) 0 ≡ octet octets 0
    first = get_or_append_left octets more 0 0 (omega arith)

-- causes but Truncated are read from the header alone
longer_has : (octets more : List ℕ) → IsLong octets → (c : Cause) → HasCause4 c (octets ++ more) → HasCause4 c octets
longer_has octets more is NotIp (inl h) = absurd (omega (arith, length-append octets more))
longer_has octets more is NotIp (inr h) = inr (rw (← (same_header octets more is).first) h)
longer_has octets more is Truncated h = absurd (too_few (same_header octets more is) h)
  where
    too_few : SameHeader octets (octets ++ more) → IsTruncated4 (octets ++ more) → ⊥
    too_few same (inl lt) = omega (arith, length-append octets more)
    too_few same (inr (inl lt)) = omega (arith, length-append octets more)
    too_few same (inr (inr lt)) = omega (arith, length-append octets more)
longer_has octets more is BadHeader h =
    let same = same_header octets more is in
    rw (← same.options, ← same.total, ← same.first, ← same.fragment) h
longer_has octets more is BadHeaderSum h = λ right. h (rw (same_header octets more is).header right)
longer_has octets more is BadDestination h = rw (← (same_header octets more is).dst) h
longer_has octets more is _ h = h

-- and the other way round
has_longer : (octets more : List ℕ) → IsLong octets → (c : Cause) → c ≢ Truncated → HasCause4 c octets → HasCause4 c (octets ++ more)
has_longer octets more is NotIp ne (inl h) = absurd (omega arith)
has_longer octets more is NotIp ne (inr h) = inr (rw (same_header octets more is).first h)
has_longer octets more is Truncated ne h = absurd (ne refl)
has_longer octets more is BadHeader ne h =
    let same = same_header octets more is in
    rw (same.options, same.total, same.first, same.fragment) h
has_longer octets more is BadHeaderSum ne h = λ right. h (rw (← (same_header octets more is).header) right)
has_longer octets more is BadDestination ne h = rw (same_header octets more is).dst h
has_longer octets more is _ ne h = h

longer_fields : (h : Head4) (octets more : List ℕ) → IsLong octets → HasFields4 h octets → HasFields4 h (octets ++ more)
longer_fields h octets more is old = record {
  version = rw first old.version;
  head_len = rw first old.head_len;
  tos = rw (get_or_append_left octets more 0 1 (omega arith)) old.tos;
  total = rw (number-append octets more 2 2 (omega arith)) old.total;
  id = rw (number-append octets more 4 2 (omega arith)) old.id;
  df = rw fragment old.df;
  mf = rw fragment old.mf;
  offset = rw fragment old.offset;
  ttl = rw (get_or_append_left octets more 0 8 (omega arith)) old.ttl;
  proto = rw (get_or_append_left octets more 0 9 (omega arith)) old.proto;
  src = rw (number-append octets more 12 4 (omega arith)) old.src;
  dst = rw (number-append octets more 16 4 (omega arith)) old.dst;
}
  where
    first : octet (octets ++ more) 0 ≡ octet octets 0
    first = get_or_append_left octets more 0 0 (omega arith)

    fragment : word (octets ++ more) 6 ≡ word octets 6
    fragment = number-append octets more 6 2 (omega arith)

longer_is : (h : Head4) (payload octets more : List ℕ) → IsLong octets → Is4 h payload octets → Is4 h payload (octets ++ more)
longer_is h payload octets more is old = record {
  fields = longer_fields h octets more is old.fields;
  head_fits = old.head_fits;
  total_fits = old.total_fits;
  whole = omega (arith, old.whole, length-append octets more);
  options = rw (same_header octets more is).options old.options;
  payload_is = old.payload_is ∙ sym (part-append octets more h.head_len (h.total - h.head_len) (omega (arith, old.whole, old.total_fits)));
}

-- no cause has a lesser number than the first
none_lesser : (octets : List ℕ) (c : Cause) → number_of c < 1 → HasCause4 c octets → ⊥
none_lesser octets = spared octets 1 (λ h. absurd (omega arith)) (λ h. absurd (omega arith)) (λ h. absurd (omega arith)) (λ h. absurd (omega arith)) (λ h. absurd (omega arith))

kept : (c : Cause) (octets more : List ℕ) → IsCause4 c octets → c ≢ Truncated → 2 < number_of c → IsCause4 c (octets ++ more)
kept c octets more is ne above =
    let whole = long octets (is.1 Truncated above) in
    (has_longer octets more whole c ne is.0, λ lesser lt has. is.1 lesser lt (longer_has octets more whole lesser has))

refused_longer : (c : Cause) (octets more : List ℕ) → IsCause4 c octets → c ≢ Truncated → 0 < length octets → IsCause4 c (octets ++ more)
refused_longer NotIp octets more (inl h, least) ne some = absurd (omega arith)
refused_longer NotIp octets more (inr h, least) ne some = (inr (rw (get_or_append_left octets more 0 0 some) h), none_lesser (octets ++ more))
refused_longer Truncated octets more is ne some = absurd (ne refl)
refused_longer BadHeader octets more is ne some = kept BadHeader octets more is ne (omega arith)
refused_longer BadHeaderSum octets more is ne some = kept BadHeaderSum octets more is ne (omega arith)
refused_longer BadDestination octets more is ne some = kept BadDestination octets more is ne (omega arith)
refused_longer _ octets more is ne some = absurd is.0

-- what was read stays read
pub stays : (read : Result Head4 Cause) (octets more : List ℕ) → IfOk read (λ h. Is4 h (payload_of4 h octets) octets × HasNoHeaderCause4 octets)
    → IfErr read (λ c. IsCause4 c octets) → StaysRead4 read octets (octets ++ more)
stays (Ok h) octets more found refused =
    let is = long octets (found.1 Truncated) in
    (longer_is h (payload_of4 h octets) octets more is found.0, λ c has. found.1 c (longer_has octets more is c has))
stays (Err c) octets more found refused = λ ne some. refused_longer c octets more refused ne some
