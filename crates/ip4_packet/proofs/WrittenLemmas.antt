-- What is written is read again.
use Rattle.std.proofs.Common.{◌≡◌, ℕ, ◌+◌, ◌-◌, ◌*◌, ◌/◌, ◌%◌, ◌^◌, ◌<◌, Bool, true, false, List, [], ◌∷◌, ◌++◌, length, take, inl, inr, refl, sym, arith}
use Rattle.octets.specs.Field.{in_word, in_quad}
use Rattle.octets.specs.Bits.{bits_at}
use Rattle.inet_sum.specs.Sum.{words, IsRight}
use Rattle.inet_sum.proofs.Laws.{right_with_check}
use Rattle.ip4_packet.specs.declared.head.Head4.{Head4}
use Rattle.octets.specs.Bits.{bit_of}
use Rattle.octets.specs.Fragment.{IsWrongFragment}
use Rattle.ip4_packet.specs.Written.{fragment_field, header_with, header4, written4, IsInRange}
use Rattle.ip4_packet.specs.Grammar.{HasFields4, Is4}
use Rattle.ip4_packet.specs.Embedded.{HasHeader4}
use Rattle.ip4_packet.specs.Causes.{IsNotIp4, IsTruncated4, IsBadHeader4, IsNoDestination4, HasNoHeaderCause4, IsSound4}
use Rattle.std.proofs.lemmas.List.{take_all}
use Rattle.ip4_packet.proofs.OptionLemmas.{ends}
use Rattle.ip4_packet.proofs.CauseLemmas.{spared, below}

-- a packet whose fields, sum and destination are sound has no cause
sound : (h : Head4) (payload octets : List ℕ) → Is4 h payload octets → IsRight (take h.head_len octets)
    → (IsWrongFragment h.offset (bit_of h.mf) (h.total - h.head_len) → ⊥) → (IsNoDestination4 h.dst.0 → ⊥)
    → HasNoHeaderCause4 octets
sound h payload octets is right agreed reachable c =
    spared octets 24 (λ _. other) (λ _. short) (λ _. bad) (λ _ wrong. wrong (rw (← is.fields.head_len) right)) (λ _. rw (← is.fields.dst) reachable) c (below c)
  where
    other : IsNotIp4 octets → ⊥
    other (inl none) = omega (arith, is.whole, is.head_fits, is.total_fits)
    other (inr ne) = ne is.fields.version

    short : IsTruncated4 octets → ⊥
    short (inl lt) = omega (arith, is.whole, is.head_fits, is.total_fits)
    short (inr (inl lt)) = omega (arith, is.whole, is.total_fits, is.fields.head_len)
    short (inr (inr lt)) = omega (arith, is.whole, is.fields.total)

    bad : IsBadHeader4 octets → ⊥
    bad (inl lt) = omega (arith, is.head_fits, is.fields.head_len)
    bad (inr (inl lt)) = omega (arith, is.total_fits, is.fields.head_len, is.fields.total)
    bad (inr (inr (inl none))) = let e = is.options in cc
    bad (inr (inr (inr wrong))) = agreed (rw (is.fields.offset, is.fields.mf, is.fields.total, is.fields.head_len) wrong)

-- the right sum
right : (h : Head4) → IsRight (header4 h)
right h =
    right_with_check
    ((4 * 16 + 5) ∷ h.tos ∷ in_word h.total ++ in_word h.id ++ in_word (fragment_field h) ++ h.ttl ∷ h.proto ∷ [])
    (in_quad h.src.0 ++ in_quad h.dst.0)
    (words (header_with h 0))
    refl
    (omega arith)

-- the flags and the offset in the two octets of their field
record Flags (df mf : Bool) (offset field : ℕ) : Type 0 where
  df_is : bit_of df ≡ bits_at 16 field 1 1
  mf_is : bit_of mf ≡ bits_at 16 field 2 1
  offset_is : offset ≡ bits_at 16 field 3 13

flags_back : (df mf : Bool) (offset : ℕ) → offset < 8192
    → let field = bit_of df * 2 ^ 14 + bit_of mf * 2 ^ 13 + offset in Flags df mf offset (field / 256 % 256 * 256 + (field % 256 * 1 + 0))
flags_back true true offset low = record { df_is = omega arith; mf_is = omega arith; offset_is = omega arith }
flags_back true false offset low = record { df_is = omega arith; mf_is = omega arith; offset_is = omega arith }
flags_back false true offset low = record { df_is = omega arith; mf_is = omega arith; offset_is = omega arith }
flags_back false false offset low = record { df_is = omega arith; mf_is = omega arith; offset_is = omega arith }

written_fields : (h : Head4) (payload : List ℕ) → IsInRange h → h.head_len ≡ 20 → h.offset < 8192 → HasFields4 h (written4 h payload)
written_fields h payload fits bare low = record {
  version = refl;
  head_len = bare;
  tos = refl;
  total = omega (arith, fits.total);
  id = omega (arith, fits.id);
  df = (flags_back h.df h.mf h.offset low).df_is;
  mf = (flags_back h.df h.mf h.offset low).mf_is;
  offset = (flags_back h.df h.mf h.offset low).offset_is;
  ttl = refl;
  proto = refl;
  src = omega (arith, fits.src);
  dst = omega (arith, fits.dst);
}

-- the header that was written, also where other than the declared octets stand behind it
pub written_header4 : (h : Head4) (payload : List ℕ) → IsInRange h → h.head_len ≡ 20 → h.routed ≡ false → h.offset < 8192 → HasHeader4 h (written4 h payload)
written_header4 h payload fits bare unrouted low = record {
  fields = written_fields h payload fits bare low;
  least = omega arith;
  stands = omega arith;
  unrouted = unrouted;
}

-- the written packet holds these fields and this payload, without a cause
pub written_again : (h : Head4) (payload : List ℕ) → IsInRange h → h.head_len ≡ 20 → h.routed ≡ false → h.offset < 8192 → IsSound4 h payload
    → Is4 h payload (written4 h payload) × HasNoHeaderCause4 (written4 h payload)
written_again h payload fits bare unrouted low is_sound =
    (is, sound h payload (written4 h payload) is (rw bare (right h)) (rw length_is is_sound.1) is_sound.2)
  where
    length_is : h.total - h.head_len ≡ length payload
    length_is = omega (arith, is_sound.0)

    is : Is4 h payload (written4 h payload)
    is = record {
      fields = written_fields h payload fits bare low;
      head_fits = omega arith;
      total_fits = omega (arith, is_sound.0);
      whole = omega (arith, is_sound.0);
      options = rw unrouted (ends [] (inl refl));
      payload_is = rw (length_is, bare) (sym (take_all (length payload) payload (omega arith)));
    }
