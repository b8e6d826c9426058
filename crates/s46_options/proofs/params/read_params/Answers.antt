use Rattle.std.proofs.Common.{◌<◌, ◌/◌, ◌-◌, ◌^◌, arith, ap, List, ℕ, refl, get_or, ◌∙◌}
use Rattle.std.proofs.lemmas.Bool.{le-leb, lt-ltb}
use Rattle.s46_options.specs.Options.{DhcpOption}
use Rattle.s46_options.proofs.Contents.{params_read, psid_read, params_word}
use Rattle.s46_options.proofs.params.read_params.Goals as goal

pub returns-clause-option : goal.returns-clause-option
returns-clause-option c =
    let same = params_read c.args.octets.now c.from-bits.result (λ i. omega (arith, c.type_inv.octets i)) (omega (arith, c.if-octets-ne-LEN.false)) (c.from-bits.ensures ∙ c.read_u16.ensures) c.if-past-gt0.false in
    ap (λ (xs : List ℕ). let o : DhcpOption = record { code = 93; octets = xs } in o) same

pub returns-clause-fits : goal.returns-clause-fits
returns-clause-fits c =
    let len = get_or c.args.octets.now 1 0 in
    let fits : c.from-bits.result / 2 ^ (16 - len) < 2 ^ len = psid_read c.from-bits.result len (omega (arith, c.from-bits.ensures, c.read_u16.type_inv)) (omega arith) in
    rw (le-leb (get_or c.args.octets.now 0 0) 15 (omega arith), le-leb len 16 (omega arith), lt-ltb _ _ fits) refl

pub returns-clause-reads : goal.returns-clause-reads
returns-clause-reads c =
    let same = c.from-bits.ensures ∙ c.read_u16.ensures ∙ params_word c.args.octets.now (omega (arith, c.if-octets-ne-LEN.false)) in
    (refl, refl, refl, ap (λ (n : ℕ). n / 2 ^ (16 - get_or c.args.octets.now 1 0)) same)
