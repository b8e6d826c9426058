-- The form that is read is that of the header, and a fault is the header's first one.
use Rattle.std.proofs.Common.{◌≡◌, ◌≢◌, ℕ, ◌<◌, false, ltb, List, length, Option, Some, None, Result, Ok, Err, refl, sym, ap, ◌∙◌, arith, inl, inr}
use Rattle.std.proofs.lemmas.Bool.{ltb-false, ltb-true, le-ltb}
use Rattle.std.proofs.lemmas.Bool.Decides.{eqb_tells}
use Rattle.pcap_files.specs.declared.form.Form.{Form}
use Rattle.pcap_files.specs.declared.form.Order.{Order}
use Rattle.pcap_files.specs.declared.form.Order.TheVariants.{Big, Little}
use Rattle.pcap_files.specs.declared.form.Unit.{Unit as TimeUnit}
use Rattle.pcap_files.specs.declared.form.Unit.TheVariants.{Micro, Nano}
use Rattle.pcap_files.specs.declared.form.Link.{Link}
use Rattle.pcap_files.specs.declared.form.Link.TheVariants.{Ethernet, Raw}
use Rattle.pcap_files.specs.declared.fault.CaptureFault.{CaptureFault}
use Rattle.pcap_files.specs.declared.fault.CaptureFault.TheVariants.{NotPcap, BadVersion, BadLink}
use Rattle.pcap_files.specs.Form.{number, magic_of, link_number, HasMagic, version_in, version_2_4, link_in, IsHeader}
use Rattle.pcap_files.specs.Grammar.{HasFault}
use Rattle.pcap_files.specs.Capture.{or_fault, way_of, way_at, version_at, link_at, form_at}
use Rattle.pcap_files.proofs.Numbers.{AreOctets}
use Rattle.pcap_files.proofs.Frames.{either}

-- ---- the magic number

-- the magic number of an order and a unit, with its first octet highest
spelled : Order → TimeUnit → ℕ
spelled Big Micro = 0xa1b2c3d4
spelled Big Nano = 0xa1b23c4d
spelled Little Micro = 0xd4c3b2a1
spelled Little Nano = 0x4d3cb2a1

turned : (order : Order) (unit : TimeUnit) (octets : List ℕ) → AreOctets octets → number order 0 4 octets ≡ magic_of unit → number Big 0 4 octets ≡ spelled order unit
unfolding spelled
turned Big Micro octets fits h = h
turned Big Nano octets fits h = h
turned Little Micro octets fits h = omega (arith, h, fits 0, fits 1, fits 2, fits 3)
turned Little Nano octets fits h = omega (arith, h, fits 0, fits 1, fits 2, fits 3)

way_of-spelled : (order : Order) (unit : TimeUnit) → way_of (spelled order unit) ≡ Some (order, unit)
unfolding spelled
way_of-spelled Big Micro = refl
way_of-spelled Big Nano = refl
way_of-spelled Little Micro = refl
way_of-spelled Little Nano = refl

pub way_again : (order : Order) (unit : TimeUnit) (octets : List ℕ) → AreOctets octets → HasMagic order unit octets → way_at octets ≡ Ok (order, unit)
unfolding way_at
way_again order unit octets fits h =
    let long : ltb (length octets) 24 ≡ false = le-ltb _ _ h.0 in
    let way : way_of (number Big 0 4 octets) ≡ Some (order, unit) = ap way_of (turned order unit octets fits h.1) ∙ way_of-spelled order unit in
    rw (long, way) refl

-- what the magic number told
ToldWay : List ℕ → Option (Order × TimeUnit) → Type 0
ToldWay octets (Some way) = number way.0 0 4 octets ≡ magic_of way.1
ToldWay octets None = Unit {0}

told_way : (octets : List ℕ) → AreOctets octets → ToldWay octets (way_of (number Big 0 4 octets))
unfolding ToldWay
told_way octets fits =
    elim (eqb_tells (number Big 0 4 octets) 0xa1b2c3d4) [
      | inl a ↦ rw a.0 a.1
      | inr a ↦ elim (eqb_tells (number Big 0 4 octets) 0xd4c3b2a1) [
        | inl b ↦ rw (a.0, b.0) (let e = b.1 in omega (arith, e, fits 0, fits 1, fits 2, fits 3))
        | inr b ↦ elim (eqb_tells (number Big 0 4 octets) 0xa1b23c4d) [
          | inl d ↦ rw (a.0, b.0, d.0) d.1
          | inr d ↦ elim (eqb_tells (number Big 0 4 octets) 0x4d3cb2a1) [
            | inl e ↦ rw (a.0, b.0, d.0, e.0) (let g = e.1 in omega (arith, g, fits 0, fits 1, fits 2, fits 3))
            | inr e ↦ rw (a.0, b.0, d.0, e.0) tt
          ]
        ]
      ]
    ]

-- octets without a magic number
pub way_none : (octets : List ℕ) → AreOctets octets → ((order : Order) (unit : TimeUnit) → HasMagic order unit octets → ⊥) → way_at octets ≡ Err NotPcap
unfolding way_at ToldWay
way_none octets fits h =
    elim (either (ltb (length octets) 24)) [
      | inl p ↦ rw p refl
      | inr p ↦ elim (way_of (number Big 0 4 octets)) as (λ o. ToldWay octets o → or_fault o NotPcap ≡ or_fault (way_of (number Big 0 4 octets)) NotPcap → way_at octets ≡ Err NotPcap) [
        | Some way ↦ λ t e. absurd (h way.0 way.1 (ltb-false _ _ p, t))
        | None ↦ λ t e. rw p (sym e)
      ] (told_way octets fits) refl
    ]

-- ---- the version and the link type

version_good : (order : Order) (octets : List ℕ) → version_in order octets ≡ version_2_4 → version_at order octets ≡ Ok version_2_4
unfolding version_at
version_good order octets h = rw h refl

version_bad : (order : Order) (octets : List ℕ) → version_in order octets ≢ version_2_4 → version_at order octets ≡ Err (BadVersion (version_in order octets))
unfolding version_at
version_bad order octets h =
    elim (eqb_tells (version_in order octets) version_2_4) [
      | inl t ↦ absurd (h t.1)
      | inr t ↦ rw t.0 refl
    ]

link_good : (order : Order) (octets : List ℕ) (link : Link) → link_in order octets ≡ link_number link → link_at order octets ≡ Ok link
unfolding link_at
link_good order octets Ethernet h = rw h refl
link_good order octets Raw h = rw h refl

link_bad : (order : Order) (octets : List ℕ) → ((link : Link) → link_in order octets ≢ link_number link) → link_at order octets ≡ Err (BadLink (link_in order octets))
unfolding link_at
link_bad order octets h =
    elim (eqb_tells (link_in order octets) 1) [
      | inl t ↦ absurd (h Ethernet t.1)
      | inr t ↦ elim (eqb_tells (link_in order octets) 101) [
        | inl s ↦ absurd (h Raw s.1)
        | inr s ↦ rw (t.0, s.0) refl
      ]
    ]

neither : (order : Order) (octets : List ℕ) → link_in order octets ≢ 1 → link_in order octets ≢ 101 → (link : Link) → link_in order octets ≢ link_number link
neither order octets a b Ethernet = a
neither order octets a b Raw = b

-- ---- the whole header

pub form_again : (form : Form) (octets : List ℕ) → AreOctets octets → IsHeader form octets → form_at octets ≡ Ok form
unfolding form_at
form_again form octets fits h =
    rw (way_again form.order form.unit octets fits h.magic, version_good form.order octets h.version, link_good form.order octets form.link h.link) refl

pub not_pcap_again : (octets : List ℕ) → AreOctets octets → ((order : Order) (unit : TimeUnit) → HasMagic order unit octets → ⊥) → form_at octets ≡ Err NotPcap
unfolding form_at
not_pcap_again octets fits h = rw (way_none octets fits h) refl

pub bad_version_again : (order : Order) (unit : TimeUnit) (octets : List ℕ) (v : ℕ) → AreOctets octets → HasMagic order unit octets → version_in order octets ≡ v → v ≢ version_2_4 → form_at octets ≡ Err (BadVersion v)
unfolding form_at
bad_version_again order unit octets v fits m e h =
    rw (way_again order unit octets fits m, version_bad order octets (λ p. h (sym e ∙ p))) (ap (λ (n : ℕ). Err (BadVersion n)) e)

pub bad_link_again : (order : Order) (unit : TimeUnit) (octets : List ℕ) (v : ℕ) → AreOctets octets → HasMagic order unit octets → version_in order octets ≡ version_2_4 → link_in order octets ≡ v → ((link : Link) → v ≢ link_number link) → form_at octets ≡ Err (BadLink v)
unfolding form_at
bad_link_again order unit octets v fits m good e h =
    rw (way_again order unit octets fits m, version_good order octets good, link_bad order octets (λ link p. h link (sym e ∙ p))) (ap (λ (n : ℕ). Err (BadLink n)) e)

-- what reading the header answers is what stands there
unfoldable pub HeaderTells : List ℕ → Result Form CaptureFault → Type 0
HeaderTells octets (Ok form) = IsHeader form octets
HeaderTells octets (Err e) = (room : ℕ) → HasFault room octets e

tells_form : (form : Form) (octets : List ℕ) → AreOctets octets → IsHeader form octets → HeaderTells octets (form_at octets)
unfolding HeaderTells
tells_form form octets fits h = rw (form_again form octets fits h) h

tells_magic : (order : Order) (unit : TimeUnit) (octets : List ℕ) → AreOctets octets → HasMagic order unit octets → HeaderTells octets (form_at octets)
unfolding HeaderTells
tells_magic order unit octets fits m =
    elim (eqb_tells (version_in order octets) version_2_4) [
      | inr t ↦ rw (bad_version_again order unit octets (version_in order octets) fits m refl t.1) (λ room. (order, unit, m, refl, t.1))
      | inl v ↦ elim (eqb_tells (link_in order octets) 1) [
        | inl l ↦ tells_form (record { order = order; unit = unit; link = Ethernet }) octets fits (record { magic = m; version = v.1; link = l.1 })
        | inr l ↦ elim (eqb_tells (link_in order octets) 101) [
          | inl k ↦ tells_form (record { order = order; unit = unit; link = Raw }) octets fits (record { magic = m; version = v.1; link = k.1 })
          | inr k ↦ let other : (link : Link) → link_in order octets ≢ link_number link = neither order octets l.1 k.1 in rw (bad_link_again order unit octets (link_in order octets) fits m v.1 refl other) (λ room. (order, unit, m, v.1, refl, other))
        ]
      ]
    ]

tells_none : (octets : List ℕ) → AreOctets octets → ((order : Order) (unit : TimeUnit) → HasMagic order unit octets → ⊥) → HeaderTells octets (form_at octets)
unfolding HeaderTells
tells_none octets fits h = rw (not_pcap_again octets fits h) (λ room. h)

pub header_tell : (octets : List ℕ) → AreOctets octets → HeaderTells octets (form_at octets)
unfolding ToldWay
header_tell octets fits =
    elim (either (ltb (length octets) 24)) [
      | inl p ↦ tells_none octets fits (λ order unit h. let short : length octets < 24 = ltb-true _ _ p in omega (arith, h.0, short))
      | inr p ↦ elim (way_of (number Big 0 4 octets)) as (λ o. ToldWay octets o → o ≡ way_of (number Big 0 4 octets) → HeaderTells octets (form_at octets)) [
        | Some way ↦ λ t e. tells_magic way.0 way.1 octets fits (ltb-false _ _ p, t)
        | None ↦ λ t e. tells_none octets fits (λ order unit h. let some = ap way_of (turned order unit octets fits h.1) ∙ way_of-spelled order unit in absurd (let f : None ≡ Some (order, unit) = e ∙ some in cc))
      ] (told_way octets fits) refl
    ]
