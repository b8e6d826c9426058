use Rattle.std.proofs.Common.{◌≡◌, ◌<◌, ◌^◌, true, eqb, sym, ◌∙◌, arith}
use Rattle.std.proofs.lemmas.Bool.{eqb-true, eq-eqb, false≢true}
use Rattle.map_rules.proofs.Sources.{IsPrefix, extract_of-found, extract_of-none}
use Rattle.map_rules.proofs.dmr.Dmr.extract.Goals as goal

pub returns-then-eq-clause-value : goal.returns-then-eq-clause-value
returns-then-eq-clause-value c =
    let d = c.args.self.now in
    let prefix : IsPrefix d.prefix.bits d.prefix.len = record { valid = d.valid; clear = d.prefix.clear } in
    let small : c.cut-cut.result.0 < 2 ^ 32 = omega arith in
    let same : eqb c.embed.result.0 c.args.addr.0 ≡ true = sym c.eq.ensures ∙ c.if-eq.true in
    sym (extract_of-found d.prefix.bits d.prefix.len c.args.addr.0 c.cut-cut.result.0 prefix small (sym c.embed.ensures ∙ eqb-true c.embed.result.0 c.args.addr.0 same))

pub returns-else-eq-clause-value : goal.returns-else-eq-clause-value
returns-else-eq-clause-value c =
    let d = c.args.self.now in
    let prefix : IsPrefix d.prefix.bits d.prefix.len = record { valid = d.valid; clear = d.prefix.clear } in
    sym (extract_of-none d.prefix.bits d.prefix.len c.args.addr.0 prefix (λ a small e.
    let cut = c.cut-cut.ensures a small e in
    false≢true (sym c.if-eq.false ∙ c.eq.ensures ∙ eq-eqb c.embed.result.0 c.args.addr.0 (c.embed.ensures ∙ rw cut e))))
