use Rattle.std.proofs.Common.{subst, ◌≡◌, ℕ, Some, ◌+◌}
use Rattle.s46_options.specs.declared.fault.OptionFault.TheVariants.{Padding}
use Rattle.s46_options.specs.Faults.{first, padding}
use Rattle.std.proofs.lemmas.Bool.{false≢true}
use Rattle.s46_options.proofs.Contents.{prefix_refused}
use Rattle.s46_options.proofs.prefixes.read_prefix6.Goals as goal

pub returns-in-None-clause-refused : goal.returns-in-None-clause-refused
returns-in-None-clause-refused c =
    let told = prefix_refused c.args.at c.prefix_number.result c.args.len c.bits_of-past.result c.zero_octets.result c.requires.most (λ h. false≢true (c.in-None.ensures.valid.1 h)) c.bits_of-past.ensures c.zero_octets.ensures.value in
    subst (λ (n : ℕ). first (padding c.args.at 16 n c.args.len) ≡ Some (Padding (c.args.at + c.zero_octets.result))) c.prefix_number.ensures told
