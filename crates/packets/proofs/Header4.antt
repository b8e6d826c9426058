-- An IPv4 header stands in octets that have none of its causes, and there is one.
use Rattle.std.proofs.Common.{◌≡◌, ◌≢◌, ◌⊎◌, ◌<◌, ◌≤◌, ◌+◌, ◌-◌, ◌*◌, ◌/◌, ◌%◌, ◌^◌, ℕ, List, false, sym, ◌∙◌, refl, ap, Some, inl, inr, arith, length, take}
use Rattle.std.specs.Prelude.{Option, Bool}
use Rattle.std.proofs.lemmas.Grind.{common_steps}
use Rattle.octets.specs.Bits.{bit_of}
use Rattle.octets.specs.Field.{octet, word, quad}
use Rattle.octets.specs.Fragment.{IsWrongFragment}
use Rattle.octets.specs.declared.cause.Cause.{Cause}
use Rattle.octets.specs.declared.cause.Cause.TheVariants.{NotIp, Truncated, BadHeader, BadHeaderSum, BadDestination}
use Rattle.inet_sum.specs.Sum.{words, folded}
use Rattle.ip4_packet.specs.declared.head.Head4.{Head4}
use Rattle.ip4_packet.specs.Embedded.{HasHeader4, LacksHeader4}
use Rattle.ip4_packet.specs.Grammar.{header_len, total_len, more_flag, fragment_offset, option_octets, payload_of4, HasFields4, Is4}
use Rattle.ip4_packet.specs.Options.{routed_in}
use Rattle.ip4_packet.specs.Causes.{HasCause4, HasNoHeaderCause4, IsCause4, IsNoDestination4}
use Rattle.ip4_packet.proofs.CauseLemmas.{long}
use Rattle.packets.proofs.Decided.{Either, either, both, neither, equal, less, is_none, some_in, flag, least_or_none}

-- the fields of a header are one
same_fields : (h g : Head4) (octets : List ℕ) → HasFields4 h octets → HasFields4 g octets → h.routed ≡ g.routed → h ≡ g
same_fields h g octets a b routed = grind (arith, common_steps)

one_flag : (found : Option Bool) (one other : Bool) → found ≡ Some one → found ≡ Some other → one ≡ other
one_flag found one other a b = cc

-- the octets of a packet have one header
pub same_head4 : (h g : Head4) (octets : List ℕ) → Is4 h (payload_of4 h octets) octets → Is4 g (payload_of4 g octets) octets → h ≡ g
same_head4 h g octets a b = same_fields h g octets a.fields b.fields (one_flag _ h.routed g.routed a.options b.options)

-- and so have those of an embedded one
pub same_embedded4 : (h g : Head4) (octets : List ℕ) → HasHeader4 h octets → HasHeader4 g octets → h ≡ g
same_embedded4 h g octets a b = same_fields h g octets a.fields b.fields (a.unrouted ∙ sym b.unrouted)

wrong_fragment : (offset more len : ℕ) → Either (IsWrongFragment offset more len)
wrong_fragment offset more len = either (less 65535 (offset * 8 + len)) (both (equal more 1) (neither (equal (len % 8) 0)))

-- an address that is no destination
pub no_destination4 : (addr : ℕ) → Either (IsNoDestination4 addr)
no_destination4 addr = either (equal (addr / 2 ^ 28) 14) (either (equal addr (2 ^ 32 - 1)) (equal addr 0))

header_cause : (octets : List ℕ) (cause : Cause) → Either (HasCause4 cause octets)
header_cause octets NotIp = either (equal (length octets) 0) (neither (equal (octet octets 0 / 16) 4))
header_cause octets Truncated = either (less (length octets) 20) (either (less (length octets) (header_len octets)) (less (length octets) (total_len octets)))
header_cause octets BadHeader =
    either (less (header_len octets) 20)
    (either (less (total_len octets) (header_len octets))
    (either (is_none (routed_in 0 (option_octets octets))) (wrong_fragment (fragment_offset octets) (more_flag octets) (total_len octets - header_len octets))))
header_cause octets BadHeaderSum = neither (equal (folded (words (take (header_len octets) octets))) 65535)
header_cause octets BadDestination = no_destination4 (quad octets 16)
header_cause octets _ = inr (λ h. h)

-- octets have a least cause of the header, or none
pub header_cause_or_none4 : (octets : List ℕ) → ((cause : Cause) × IsCause4 cause octets) ⊎ HasNoHeaderCause4 octets
header_cause_or_none4 octets = least_or_none (λ cause. HasCause4 cause octets) (header_cause octets)

is_four : (n : ℕ) → (n ≢ 4 → ⊥) → n ≡ 4
is_four n h = elim (equal n 4) [ inl same ↦ same | inr other ↦ absurd (h other) ]

not_below : (a b : ℕ) → (a < b → ⊥) → b ≤ a
not_below a b h = omega arith

bit_small : (n : ℕ) → n % 2 < 2
bit_small n = omega arith

-- the fields that stand there
fields_in : (octets : List ℕ) (routed : Bool) → octet octets 0 / 16 ≡ 4 → (h : Head4) × HasFields4 h octets × (h.routed ≡ routed)
fields_in octets routed version =
    let df = flag (Rattle.octets.specs.Bits.bits_at 16 (word octets 6) 1 1) (bit_small (word octets 6 / 2 ^ 14)) in
    let mf = flag (more_flag octets) (bit_small (word octets 6 / 2 ^ 13)) in
    let h : Head4 = record {
      tos = octet octets 1;
      id = word octets 4;
      df = df.0;
      mf = mf.0;
      offset = fragment_offset octets;
      ttl = octet octets 8;
      proto = octet octets 9;
      src = record { 0 = quad octets 12 };
      dst = record { 0 = quad octets 16 };
      head_len = header_len octets;
      total = total_len octets;
      routed = routed;
    } in (
      h,
      record {
        version = version;
        head_len = refl;
        tos = refl;
        total = refl;
        id = refl;
        df = df.1;
        mf = mf.1;
        offset = refl;
        ttl = refl;
        proto = refl;
        src = refl;
        dst = refl;
      },
      refl,
    )

-- where they have none a header stands there
pub head_in4 : (octets : List ℕ) → HasNoHeaderCause4 octets → (h : Head4) × Is4 h (payload_of4 h octets) octets
head_in4 octets none =
    let is_long = long octets (none Truncated) in
    let version : octet octets 0 / 16 ≡ 4 = is_four _ (λ other. none NotIp (inr other)) in
    let options = some_in (routed_in 0 (option_octets octets)) (λ lacks. none BadHeader (inr (inr (inl lacks)))) in
    let least : 20 ≤ header_len octets = not_below _ _ (λ lt. none BadHeader (inl lt)) in
    let fits : header_len octets ≤ total_len octets = not_below _ _ (λ lt. none BadHeader (inr (inl lt))) in
    let there = fields_in octets options.0 version in
    let fields : HasFields4 there.0 octets = there.1 in (
      there.0,
      record {
        fields = fields;
        head_fits = rw fields.head_len least;
        total_fits = rw (fields.head_len, fields.total) fits;
        whole = rw fields.total is_long.total;
        options = options.1 ∙ ap (λ (b : Bool). Some b) (sym there.2);
        payload_is = refl;
      },
    )

-- an embedded header stands in octets, or none does
pub embedded_or_none4 : (octets : List ℕ) → ((h : Head4) × HasHeader4 h octets) ⊎ LacksHeader4 octets
embedded_or_none4 octets = elim (either (less (length octets) 20) (either (neither (equal (octet octets 0 / 16) 4)) (either (less (header_len octets) 20) (less (length octets) (header_len octets))))) [
  | inl lacks ↦ inr lacks
  | inr has ↦ inl (made has)
]
  where
    made : (LacksHeader4 octets → ⊥) → (h : Head4) × HasHeader4 h octets
    made has =
        let version : octet octets 0 / 16 ≡ 4 = is_four _ (λ other. has (inr (inl other))) in
        let there = fields_in octets false version in
        let fields : HasFields4 there.0 octets = there.1 in (
          there.0,
          record {
            fields = fields;
            least = rw fields.head_len (not_below _ _ (λ lt. has (inr (inr (inl lt)))));
            stands = rw fields.head_len (not_below _ _ (λ lt. has (inr (inr (inr lt)))));
            unrouted = there.2;
          },
        )
