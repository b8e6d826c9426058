-- Where the digits of a text go wrong.
use Rattle.std.proofs.Common.{◌≡◌, ℕ, ◌<◌, ◌+◌, List, length, ◌≤◌, Ok, Err, arith, inl, inr}
use Rattle.std.specs.Prelude.{◌⊎◌}
use Rattle.hex.specs.declared.error.FromHexError.TheVariants.{InvalidHexCharacter, OutOfMemory, OddLength}
use Rattle.hex.specs.Hex.{decode_of}
use Rattle.hex.proofs.HexLemmas.{decode_of-err, decode_of-ok}

no_memory : (c i : ℕ) → InvalidHexCharacter c i ≡ OutOfMemory → ⊥
no_memory c i h = cc

not_odd : (c i : ℕ) → InvalidHexCharacter c i ≡ OddLength → ⊥
not_odd c i h = cc

same_index : (c i d j : ℕ) → InvalidHexCharacter c i ≡ InvalidHexCharacter d j → i ≡ j
same_index c i d j h = cc

pub within : (digits : List ℕ) (c i : ℕ) → (InvalidHexCharacter c i ≡ OutOfMemory) ⊎ (decode_of digits ≡ Err (InvalidHexCharacter c i)) → i < length digits
within digits c i (inl h) = absurd (no_memory c i h)
within digits c i (inr h) =
    elim (decode_of-err digits (InvalidHexCharacter c i) h) [
      | inl odd ↦ absurd (not_odd c i odd.1)
      | inr bad ↦ omega (arith, same_index c i _ (0 + bad.0) bad.1, bad.2)
    ]

memory_not_odd : OutOfMemory ≡ OddLength → ⊥
memory_not_odd h = cc

memory_no_digit : (c i : ℕ) → OutOfMemory ≡ InvalidHexCharacter c i → ⊥
memory_no_digit c i h = cc

pub never_memory : (digits : List ℕ) → decode_of digits ≡ Err OutOfMemory → ⊥
never_memory digits h =
    elim (decode_of-err digits OutOfMemory h) [
      | inl odd ↦ memory_not_odd odd.1
      | inr bad ↦ memory_no_digit _ _ bad.1
    ]

pub half_as_long : (digits octets : List ℕ) → decode_of digits ≡ Ok octets → length octets ≤ length digits
half_as_long digits octets h = let ok = decode_of-ok digits octets h in omega (arith, ok.2)
