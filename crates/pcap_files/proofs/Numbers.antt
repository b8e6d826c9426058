-- A number of a file is read from its own octets alone.
use Rattle.std.proofs.Common.{◌≡◌, ℕ, ◌+◌, ◌^◌, ◌≤◌, ◌<◌, List, ◌++◌, length, take, get_or, refl, sym, ap, ◌∙◌}
use Rattle.std.proofs.lemmas.List.{take_at}
use Rattle.byteorder.specs.Numbers.{big_from-take, little_from-take, big_from-lt, little_from-lt}
use Rattle.pcap_files.specs.declared.form.Order.{Order}
use Rattle.pcap_files.specs.declared.form.Order.TheVariants.{Big, Little}
use Rattle.pcap_files.specs.Form.{number}

abbrev pub AreOctets : List ℕ → Type 0
AreOctets octets = (i : ℕ) → get_or octets i 0 < 256

pub number-take : (order : Order) (at count m : ℕ) (octets : List ℕ) → at + count ≤ m → number order at count (take m octets) ≡ number order at count octets
number-take Big at count m octets h = big_from-take at count m octets h
number-take Little at count m octets h = little_from-take at count m octets h

pub number-append : (order : Order) (at count : ℕ) (xs ys : List ℕ) → at + count ≤ length xs → number order at count (xs ++ ys) ≡ number order at count xs
number-append order at count xs ys h =
    sym (number-take order at count (length xs) (xs ++ ys) h) ∙ ap (λ (zs : List ℕ). number order at count zs) (take_at xs ys (length xs) refl)

pub number-lt : (order : Order) (at count : ℕ) (octets : List ℕ) → AreOctets octets → number order at count octets < 256 ^ count
number-lt Big at count octets h = big_from-lt at count octets h
number-lt Little at count octets h = little_from-lt at count octets h
