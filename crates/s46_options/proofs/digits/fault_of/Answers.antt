use Rattle.std.proofs.Common.{◌≡◌, Err, arith, subst}
use Rattle.std.specs.Prelude.{◌⊎◌}
use Rattle.hex.specs.declared.error.FromHexError.{FromHexError}
use Rattle.hex.specs.declared.error.FromHexError.TheVariants.{OutOfMemory}
use Rattle.hex.specs.Hex.{decode_of}
use Rattle.s46_options.proofs.Hexadecimal.{within}
use Rattle.s46_options.proofs.digits.fault_of.Goals as goal

pub overflow_cast-result : goal.overflow_cast-result
overflow_cast-result c =
    let told = subst (λ (f : FromHexError). (f ≡ OutOfMemory) ⊎ (decode_of c.args.digits.now ≡ Err f)) c.in-InvalidHexCharacter.is c.requires.told in
    omega (arith, within c.args.digits.now c.in-InvalidHexCharacter.c c.in-InvalidHexCharacter.index told)
