-- Octets that follow a capture change none of its records.
use Rattle.std.proofs.Common.{◌≡◌, ℕ, ◌+◌, ◌-◌, ◌≤◌, false, ltb, List, ◌++◌, length, drop, Result, Ok, Err, refl, sym, ap, subst, ◌∙◌, arith, inl, inr}
use Rattle.std.proofs.lemmas.Bool.{ltb-false, le-ltb}
use Rattle.std.proofs.lemmas.List.{length-append, drop-append-le}
use Rattle.pcap_files.specs.declared.form.Form.{Form}
use Rattle.pcap_files.specs.declared.form.Order.{Order}
use Rattle.pcap_files.specs.declared.form.Order.TheVariants.{Big}
use Rattle.pcap_files.specs.declared.form.Unit.{Unit as TimeUnit}
use Rattle.pcap_files.specs.declared.records.Record.{Record}
use Rattle.pcap_files.specs.declared.fault.CaptureFault.{CaptureFault}
use Rattle.pcap_files.specs.declared.fault.CaptureFault.TheVariants.{NotPcap}
use Rattle.pcap_files.specs.Form.{number}
use Rattle.pcap_files.specs.Grammar.{AreEntries}
use Rattle.pcap_files.specs.Capture.{◌>>=◌, way_at, version_at, link_at, form_at, records_at, capture}
use Rattle.pcap_files.proofs.Numbers.{number-append}
use Rattle.pcap_files.proofs.Frames.{either}
use Rattle.pcap_files.proofs.Loop.{with_front}
use Rattle.pcap_files.proofs.Runs.{Tells, records_tell, records_after}

-- the value of a step that did not fail
bind_ok : {A B : Type 0} (r : Result A CaptureFault) (f : A → Result B CaptureFault) (y : B) → (r >>= f) ≡ Ok y → (x : A) × (r ≡ Ok x) × (f x ≡ Ok y)
bind_ok (Ok x) f y e = (x, refl, e)
bind_ok (Err d) f y e = absurd cc

way_long : (octets : List ℕ) (way : Order × TimeUnit) → way_at octets ≡ Ok way → 24 ≤ length octets
unfolding way_at
way_long octets way e =
    elim (either (ltb (length octets) 24)) [
      | inl p ↦ absurd (let f : Err NotPcap ≡ Ok way = rw p at e in cc)
      | inr p ↦ ltb-false _ _ p
    ]

form_long : (octets : List ℕ) (form : Form) → form_at octets ≡ Ok form → 24 ≤ length octets
unfolding form_at
form_long octets form e =
    let w = bind_ok (way_at octets) (λ way. version_at way.0 octets >>= λ version. link_at way.0 octets >>= λ link. Ok (record { order = way.0; unit = way.1; link = link })) form e in
    way_long octets w.0 w.1

way_same : (octets more : List ℕ) → 24 ≤ length octets → way_at (octets ++ more) ≡ way_at octets
unfolding way_at
way_same octets more h =
    let a : ltb (length (octets ++ more)) 24 ≡ false = le-ltb _ _ (omega (arith, length-append octets more)) in
    let b : ltb (length octets) 24 ≡ false = le-ltb _ _ h in
    let n : number Big 0 4 (octets ++ more) ≡ number Big 0 4 octets = number-append Big 0 4 octets more (omega arith) in
    rw (a, b, n) refl

version_same : (order : Order) (octets more : List ℕ) → 24 ≤ length octets → version_at order (octets ++ more) ≡ version_at order octets
unfolding version_at
version_same order octets more h =
    rw (number-append order 4 2 octets more (omega arith), number-append order 6 2 octets more (omega arith)) refl

link_same : (order : Order) (octets more : List ℕ) → 24 ≤ length octets → link_at order (octets ++ more) ≡ link_at order octets
unfolding link_at
link_same order octets more h = rw (number-append order 20 4 octets more (omega arith)) refl

-- the rest of the header behind the magic number
abbrev behind : List ℕ → Order × TimeUnit → Result Form CaptureFault
behind octets way = version_at way.0 octets >>= λ version. link_at way.0 octets >>= λ link. Ok (record { order = way.0; unit = way.1; link = link })

behind_same : (octets more : List ℕ) (way : Result (Order × TimeUnit) CaptureFault) → 24 ≤ length octets → (way >>= behind (octets ++ more)) ≡ (way >>= behind octets)
behind_same octets more (Ok way) h = rw (version_same way.0 octets more h, link_same way.0 octets more h) refl
behind_same octets more (Err e) h = refl

form_same : (octets more : List ℕ) → 24 ≤ length octets → form_at (octets ++ more) ≡ form_at octets
unfolding form_at
form_same octets more h =
    ap (λ (way : Result (Order × TimeUnit) CaptureFault). way >>= behind (octets ++ more)) (way_same octets more h) ∙ behind_same octets more (way_at octets) h

pub followed : (room : ℕ) (octets more : List ℕ) (records all : List Record) → capture room octets ≡ Ok records → capture room (octets ++ more) ≡ Ok all → (others : List Record) × (all ≡ records ++ others)
unfolding capture Tells
followed room octets more records all e f =
    let a = bind_ok (form_at octets) (λ form. records_at form 0 room (drop 24 octets)) records e in
    let long = form_long octets a.0 a.1 in
    let same : form_at (octets ++ more) ≡ Ok a.0 = form_same octets more long ∙ a.1 in
    let told : AreEntries a.0 (drop 24 octets) records × (length records ≤ room) = subst (λ (x : Result (List Record) CaptureFault). Tells a.0 0 room (drop 24 octets) x) a.2 (records_tell a.0 0 room (drop 24 octets)) in
    let back = drop-append-le 24 octets more long in
    let after = records_after a.0 0 room (drop 24 octets) more records told.0 told.1 in
    let g : records_at a.0 0 room (drop 24 (octets ++ more)) ≡ Ok all = rw same at f in
    let read : with_front records (records_at a.0 (0 + length records) (room - length records) more) ≡ Ok all = sym after ∙ ap (records_at a.0 0 room) (sym back) ∙ g in
    let b = bind_ok (records_at a.0 (0 + length records) (room - length records) more) (λ rest. Ok (records ++ rest)) all read in
    (b.0, let h = b.2 in cc)
