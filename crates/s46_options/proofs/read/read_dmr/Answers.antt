use Rattle.std.proofs.Common.{arith, ap, List, ℕ, refl}
use Rattle.std.proofs.lemmas.List.{take_rest}
use Rattle.s46_options.specs.Options.{DhcpOption}
use Rattle.s46_options.proofs.Contents.{dmr_again}
use Rattle.s46_options.proofs.read.read_dmr.Goals as goal

pub returns-clause-option : goal.returns-clause-option
returns-clause-option c =
    let same = dmr_again c.in_ok-read_prefix6.field-0 c.args.octets.now (λ i. omega (arith, c.type_inv.octets i)) (omega (arith, c.if-octets-octets_for.false, c.octets_for.ensures)) c.in_ok-read_prefix6.ensures.length (omega (arith, c.in_ok-read_prefix6.ensures.length)) (rw (take_rest c.args.octets.now 1) at c.in_ok-read_prefix6.ensures.bits) in
    ap (λ (xs : List ℕ). let o : DhcpOption = record { code = 91; octets = xs } in o) same

pub returns-clause-reads : goal.returns-clause-reads
returns-clause-reads c = (refl, c.in_ok-read_prefix6.ensures.length, rw (take_rest c.args.octets.now 1) at c.in_ok-read_prefix6.ensures.bits)
