use Rattle.std.proofs.Common.{◌∙◌}
use Rattle.map_rules.proofs.Embedded.{cut-short, cut-long, length-least, length-most}
use Rattle.map_rules.proofs.dmr.Dmr.cut.Goals as goal

pub returns-then-len-eq96 : goal.returns-then-len-eq96
returns-then-len-eq96 c a small e =
    let p = c.args.self.now.prefix in
    c.bits_of.ensures ∙ cut-long p.bits p.len c.args.addr.0 a c.if-len-eq96.true p.clear small e

pub returns : goal.returns
returns c a small e =
    let d = c.args.self.now in
    let p = d.prefix in
    rw (c.bits_of-first.ensures, c.bits_of-rest.ensures) (cut-short p.bits p.len c.args.addr.0 a p.clear (length-least p.bits p.len d.valid) (length-most p.bits p.len d.valid c.if-len-eq96.false) small e)
