-- What is written is read again.
use Rattle.std.proofs.Common.{◌≡◌, ℕ, ◌+◌, ◌-◌, ◌*◌, ◌/◌, ◌%◌, ◌^◌, ◌<◌, ◌≤◌, Bool, true, false, eqb, List, ◌∷◌, ◌++◌, length, take, Option, Some, None, inl, inr, refl, sym, ap, ◌∙◌, arith, length-append}
use Rattle.std.proofs.lemmas.Bool.{ne_eqb, eq-eqb, le-ltb}
use Rattle.std.proofs.lemmas.List.{take_all, drop_at}
use Rattle.octets.specs.Field.{in_sixteen}
use Rattle.ip6_packet.specs.declared.head.Head6.{Head6}
use Rattle.ip6_packet.specs.declared.head.Frag6.{Frag6}
use Rattle.octets.specs.Bits.{bit_of}
use Rattle.ip6_packet.specs.Written.{fragment_header, fragment_part, next_header, fixed_header, written6, IsUpper, IsPlaced, IsInRange, FitsFrag, IsPacket6}
use Rattle.ip6_packet.specs.Chain.{is_sized, frag_of, chain_in}
use Rattle.ip6_packet.specs.Grammar.{payload_len, payload_of6, HasFields6, Is6}
use Rattle.ip6_packet.specs.Embedded.{HasHeaders6}
use Rattle.ip6_packet.specs.Causes.{IsNotIp6, IsTruncated6, IsBadHeader6, IsWrongFrag6, IsNoDestination6, HasNoHeaderCause6, IsSound6}
use Rattle.ip6_packet.proofs.ChainLemmas.{tail}
use Rattle.octets.proofs.Parts.{number_back}
use Rattle.octets.proofs.CauseNumbers.{below}
use Rattle.ip6_packet.proofs.CauseLemmas.{spared}

-- a packet whose fields and destination are sound has no cause
sound : (h : Head6) (payload octets : List ℕ) → Is6 h payload octets → 40 ≤ length octets
    → (IsWrongFrag6 h.frag h.length → ⊥) → (IsNoDestination6 h.dst.0 → ⊥)
    → HasNoHeaderCause6 octets
sound h payload octets is enough agreed reachable c =
    spared octets 24 (λ _. other) (λ _. short) (λ _. bad) (λ _. rw (← is.fields.dst) reachable) c (below c)
  where
    other : IsNotIp6 octets → ⊥
    other (inl none) = omega arith
    other (inr ne) = ne is.fields.version

    short : IsTruncated6 octets → ⊥
    short (inl lt) = omega arith
    short (inr lt) = omega (arith, is.whole)

    len_is : 40 + payload_len octets - h.start ≡ h.length
    len_is = omega (arith, is.ends)

    bad : IsBadHeader6 octets → ⊥
    bad wrong = agreed (rw len_is at (rw is.chain at wrong))

-- the fields of the IPv6 header
written_fields : (h : Head6) (rest : List ℕ) → IsInRange h → HasFields6 h (fixed_header h ++ rest)
written_fields h rest fits = record {
  version = omega (arith, fits.class);
  class = omega (arith, fits.class);
  hop = refl;
  src = sym (number_back 16 h.src.0 (in_sixteen h.dst.0 ++ rest) fits.src);
  dst = sym (number_back 16 h.dst.0 rest fits.dst);
}

-- the fields of the Fragment Header
same_frag : (a b : ℕ) (p q : Bool) (c d : ℕ) → a ≡ b → p ≡ q → c ≡ d
    → let left : Frag6 = record { offset = a; more = p; id = c } in let right : Frag6 = record { offset = b; more = q; id = d } in left ≡ right
same_frag a b p q c d e f g = rw (e, f, g) refl

flag_back : (more : Bool) (offset : ℕ) → eqb ((offset * 8 + bit_of more) % 256 % 2) 1 ≡ more
flag_back true offset = eq-eqb _ _ (omega arith)
flag_back false offset = ne_eqb _ _ (omega arith)

offset_back : (more : Bool) (offset : ℕ) → offset < 8192
    → let field = offset * 8 + bit_of more in (field / 256 % 256 * 256 + (field % 256 * 1 + 0)) / 8 % 8192 ≡ offset
offset_back true offset low = omega arith
offset_back false offset low = omega arith

frag_back : (upper : ℕ) (frag : Frag6) (payload : List ℕ) → frag.offset < 8192 → frag.id < 2 ^ 32
    → frag_of (fragment_header upper frag ++ payload) ≡ frag
frag_back upper frag payload low fits =
    same_frag _ frag.offset _ frag.more _ frag.id (offset_back frag.more frag.offset low) (flag_back frag.more frag.offset) (number_back 4 frag.id payload fits)

not_sized : (number : ℕ) → IsUpper number → is_sized number ≡ false
not_sized number is = rw (ne_eqb number 0 is.0, ne_eqb number 43 is.1, ne_eqb number 60 is.3) refl

-- the chain that was written
chain_back : (upper start len : ℕ) (frag : Option Frag6) (payload : List ℕ) → IsUpper upper → IsPlaced start len frag → FitsFrag frag
    → chain_in 40 (next_header upper frag) 0 (fragment_part upper frag ++ payload) ≡ Some (record { upper = upper; start = start; frag = frag; left = None })
chain_back upper start len None payload is placed fits =
    tail 40 upper payload (not_sized upper is) ∙ rw (ne_eqb upper 44 is.2, placed) refl
chain_back upper start len (Some frag) payload is placed fits =
    tail 40 44 (fragment_header upper frag ++ payload) refl
    ∙ rw (le-ltb (length (fragment_header upper frag ++ payload)) 8 (omega arith), ne_eqb upper 44 is.2, frag_back upper frag payload placed.2 fits, placed.0) refl

-- where the payload stands, and that the lengths fit
record Room (upper start len : ℕ) (frag : Option Frag6) : Type 0 where
  start_is : 40 + length (fragment_part upper frag) ≡ start
  fits : len + length (fragment_part upper frag) < 65536

room : (upper start len : ℕ) (frag : Option Frag6) → IsPlaced start len frag → len < 65536 → Room upper start len frag
room upper start len None placed fits = record { start_is = sym placed; fits = omega arith }
room upper start len (Some frag) placed fits = record { start_is = sym placed.0; fits = omega (arith, placed.1) }

-- the headers that were written, also where fewer octets stand behind them than they declare
pub written_headers6 : (h : Head6) (payload : List ℕ) → length payload ≤ h.length → h.left ≡ None → IsUpper h.upper → IsPlaced h.start h.length h.frag → IsInRange h → FitsFrag h.frag
    → HasHeaders6 h (written6 h payload)
written_headers6 h payload most unrouted upper placed in_range frag_in_range = record {
  fields = written_fields h behind in_range;
  chain = rw (len_is, take_all (h.length + length (fragment_part h.upper h.frag)) behind (omega (arith, behind_is, most)), unrouted) (chain_back h.upper h.start h.length h.frag payload upper placed frag_in_range);
  ends = rw len_is (omega (arith, the_room.start_is));
  fixed = omega arith;
  stands = omega (arith, behind_is, the_room.start_is);
}
  where
    behind : List ℕ
    behind = fragment_part h.upper h.frag ++ payload

    the_room : Room h.upper h.start h.length h.frag
    the_room = room h.upper h.start h.length h.frag placed in_range.length_fits

    len_is : payload_len (fixed_header h ++ behind) ≡ h.length + length (fragment_part h.upper h.frag)
    len_is = number_back 2 (h.length + length (fragment_part h.upper h.frag)) (next_header h.upper h.frag ∷ h.hop ∷ in_sixteen h.src.0 ++ (in_sixteen h.dst.0 ++ behind)) (omega (arith, the_room.fits))

    behind_is : length behind ≡ length (fragment_part h.upper h.frag) + length payload
    behind_is = length-append (fragment_part h.upper h.frag) payload

-- behind them stands the payload, as far as it is declared
pub written_payload6 : (h : Head6) (payload : List ℕ) → IsPlaced h.start h.length h.frag → h.length < 65536 → payload_of6 h (written6 h payload) ≡ take h.length payload
written_payload6 h payload placed fits =
    let the_room = room h.upper h.start h.length h.frag placed fits in
    ap (take h.length) (drop_at (fixed_header h ++ fragment_part h.upper h.frag) payload h.start (omega (arith, the_room.start_is)))

-- the written packet holds these fields and this payload
pub written_is6 : (h : Head6) (payload octets : List ℕ) → IsPacket6 h payload octets → Is6 h payload octets
written_is6 h payload octets form = rw form.written is
  where
    headers : HasHeaders6 h (written6 h payload)
    headers = written_headers6 h payload (omega (arith, form.exact)) form.unrouted form.upper form.placed form.in_range form.frag_in_range

    the_room : Room h.upper h.start h.length h.frag
    the_room = room h.upper h.start h.length h.frag form.placed form.in_range.length_fits

    is : Is6 h payload (written6 h payload)
    is = record {
      fields = headers.fields;
      chain = headers.chain;
      ends = headers.ends;
      whole = omega (arith, headers.ends, form.exact, the_room.start_is, length-append (fragment_part h.upper h.frag) payload);
      payload_is = sym (written_payload6 h payload form.placed form.in_range.length_fits ∙ take_all h.length payload (omega (arith, form.exact)));
    }

-- and has no cause
pub written_again : (h : Head6) (payload octets : List ℕ) → IsPacket6 h payload octets → IsSound6 h payload → Is6 h payload octets × HasNoHeaderCause6 octets
written_again h payload octets form is_sound =
    let is = written_is6 h payload octets form in
    (is, sound h payload octets is (omega (arith, is.whole)) (rw is_sound.0 is_sound.1) is_sound.2)
