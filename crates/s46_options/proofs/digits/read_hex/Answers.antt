use Rattle.std.proofs.Common.{◌≡◌, ◌∙◌, ap, subst, Err, inl, inr, List, ℕ}
use Rattle.hex.specs.declared.error.FromHexError.{FromHexError}
use Rattle.hex.specs.Hex.{decode_of}
use Rattle.s46_options.specs.Digits.{digits_in, told_by, hex_of}
use Rattle.s46_options.proofs.Hexadecimal.{never_memory}
use Rattle.s46_options.proofs.digits.read_hex.Goals as goal

pub returns-in-Err-clause-refused : goal.returns-in-Err-clause-refused
unfolding hex_of
returns-in-Err-clause-refused c =
    elim c.in-Err.ensures.err [
      | inl memory ↦ inr (c.fault_of.ensures.memory memory)
      | inr bad ↦ inl (
          let told = c.fault_of.ensures.told (λ memory. never_memory c.digits_in-digits.result.now (subst (λ (f : FromHexError). decode_of c.digits_in-digits.result.now ≡ Err f) memory bad)) in
          let same : decode_of (digits_in c.args.text.now) ≡ Err c.in-Err.fault = rw (← c.digits_in-digits.ensures.value) bad in
          ap (told_by (digits_in c.args.text.now)) same ∙ subst (λ (digits : List ℕ). told_by digits (Err c.in-Err.fault) ≡ Err c.fault_of.result) c.digits_in-digits.ensures.value told)
    ]
