-- The packet that is taken from a frame is the one of the grammar, and the only one.
use Rattle.std.proofs.Common.{◌≡◌, ℕ, ◌+◌, ◌≤◌, Bool, true, false, ◌&&◌, ◌||◌, List, [], drop, length, refl, sym, ◌∙◌, arith, inl, inr}
use Rattle.std.specs.Prelude.{◌⊎◌, nat_le, ◌==◌}
use Rattle.std.proofs.lemmas.Bool.{and_parts, and_from, leb-true, le-leb, eqb-true, eq-eqb}
use Rattle.octets.specs.Field.{word}
use Rattle.pcap_files.specs.declared.form.Link.{Link}
use Rattle.pcap_files.specs.declared.form.Link.TheVariants.{Ethernet, Raw}
use Rattle.pcap_files.specs.Form.{IsIpType, IsForeign, IsPacket}
use Rattle.pcap_files.specs.Capture.{has_ip_type, has_tag, packet_of}

pub either : (b : Bool) → (b ≡ true) ⊎ (b ≡ false)
either true = inl refl
either false = inr refl

or_cases : (x y : Bool) → (x || y) ≡ true → (x ≡ true) ⊎ (y ≡ true)
or_cases true y e = inl refl
or_cases false y e = inr e

or_left : (x y : Bool) → x ≡ true → (x || y) ≡ true
or_left true y e = refl
or_left false y e = absurd cc

or_right : (x y : Bool) → y ≡ true → (x || y) ≡ true
or_right true y e = refl
or_right false y e = e

ip_told : (frame : List ℕ) (at : ℕ) → has_ip_type frame at ≡ true → (at + 2 ≤ length frame) × IsIpType (word frame at)
ip_told frame at e =
    let p = and_parts (nat_le (at + 2) (length frame)) (word frame at == 0x0800 || word frame at == 0x86dd) e in
    (leb-true _ _ p.0, elim (or_cases (word frame at == 0x0800) (word frame at == 0x86dd) p.1) [ inl h ↦ inl (eqb-true _ _ h) | inr h ↦ inr (eqb-true _ _ h) ])

ip_test : (frame : List ℕ) (at : ℕ) → at + 2 ≤ length frame → IsIpType (word frame at) → has_ip_type frame at ≡ true
ip_test frame at h t =
    and_from (nat_le (at + 2) (length frame)) (word frame at == 0x0800 || word frame at == 0x86dd) (le-leb _ _ h) (elim t [
      | inl e ↦ or_left (word frame at == 0x0800) (word frame at == 0x86dd) (eq-eqb _ _ e)
      | inr e ↦ or_right (word frame at == 0x0800) (word frame at == 0x86dd) (eq-eqb _ _ e)
    ])

tag_told : (frame : List ℕ) → (has_tag frame && has_ip_type frame 16) ≡ true → (18 ≤ length frame) × (word frame 12 ≡ 0x8100) × IsIpType (word frame 16)
tag_told frame e =
    let p = and_parts (has_tag frame) (has_ip_type frame 16) e in
    let t = and_parts (nat_le 18 (length frame)) (word frame 12 == 0x8100) p.0 in
    (leb-true _ _ t.0, eqb-true _ _ t.1, (ip_told frame 16 p.1).1)

tag_test : (frame : List ℕ) → 18 ≤ length frame → word frame 12 ≡ 0x8100 → IsIpType (word frame 16) → (has_tag frame && has_ip_type frame 16) ≡ true
tag_test frame h t ip =
    and_from (has_tag frame) (has_ip_type frame 16) (and_from (nat_le 18 (length frame)) (word frame 12 == 0x8100) (le-leb _ _ h) (eq-eqb _ _ t)) (ip_test frame 16 h ip)

packet_plain : (frame : List ℕ) → has_ip_type frame 12 ≡ true → packet_of Ethernet frame ≡ drop 14 frame
unfolding packet_of
packet_plain frame p = rw p refl

packet_tagged : (frame : List ℕ) → has_ip_type frame 12 ≡ false → (has_tag frame && has_ip_type frame 16) ≡ true → packet_of Ethernet frame ≡ drop 18 frame
unfolding packet_of
packet_tagged frame p q = rw (p, q) refl

packet_foreign : (frame : List ℕ) → has_ip_type frame 12 ≡ false → (has_tag frame && has_ip_type frame 16) ≡ false → packet_of Ethernet frame ≡ []
unfolding packet_of
packet_foreign frame p q = rw (p, q) refl

foreign_from_tests : (frame : List ℕ) → has_ip_type frame 12 ≡ false → (has_tag frame && has_ip_type frame 16) ≡ false → IsForeign frame
foreign_from_tests frame p q packet (inl plain) = let t = ip_test frame 12 plain.0 plain.1 in absurd cc
foreign_from_tests frame p q packet (inr tagged) = let t = tag_test frame tagged.0 tagged.1 tagged.2 in absurd cc

no_plain : (frame : List ℕ) → word frame 12 ≡ 0x8100 → has_ip_type frame 12 ≡ false
no_plain frame t =
    elim (either (has_ip_type frame 12)) [
      | inl p ↦ absurd (elim (ip_told frame 12 p).1 [ inl e ↦ omega (arith, e, t) | inr e ↦ omega (arith, e, t) ])
      | inr p ↦ p
    ]

pub packet_is : (link : Link) (captured : List ℕ) → IsPacket link captured (packet_of link captured)
unfolding packet_of
packet_is Raw captured = refl
packet_is Ethernet frame =
    elim (either (has_ip_type frame 12)) [
      | inl p ↦ inl (inl ((ip_told frame 12 p).0, (ip_told frame 12 p).1, packet_plain frame p))
      | inr p ↦ elim (either (has_tag frame && has_ip_type frame 16)) [
        | inl q ↦ inl (inr ((tag_told frame q).0, (tag_told frame q).1, (tag_told frame q).2, packet_tagged frame p q))
        | inr q ↦ inr (foreign_from_tests frame p q, packet_foreign frame p q)
      ]
    ]

pub packet_only : (link : Link) (captured packet : List ℕ) → IsPacket link captured packet → packet ≡ packet_of link captured
unfolding packet_of
packet_only Raw captured packet h = h
packet_only Ethernet frame packet (inl (inl plain)) = plain.2 ∙ sym (packet_plain frame (ip_test frame 12 plain.0 plain.1))
packet_only Ethernet frame packet (inl (inr tagged)) =
    tagged.3 ∙ sym (packet_tagged frame (no_plain frame tagged.1) (tag_test frame tagged.0 tagged.1 tagged.2))
packet_only Ethernet frame packet (inr foreign) =
    elim (either (has_ip_type frame 12)) [
      | inl p ↦ absurd (foreign.0 (drop 14 frame) (inl ((ip_told frame 12 p).0, (ip_told frame 12 p).1, refl)))
      | inr p ↦ elim (either (has_tag frame && has_ip_type frame 16)) [
        | inl q ↦ absurd (foreign.0 (drop 18 frame) (inr ((tag_told frame q).0, (tag_told frame q).1, (tag_told frame q).2, refl)))
        | inr q ↦ foreign.1 ∙ sym (packet_foreign frame p q)
      ]
    ]
