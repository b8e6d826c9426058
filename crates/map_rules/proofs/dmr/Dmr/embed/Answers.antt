use Rattle.std.proofs.Common.{arith}
use Rattle.map_rules.proofs.Embedded.{embed-long, embed-short, length-least, length-most}
use Rattle.map_rules.proofs.dmr.Dmr.embed.Goals as goal

pub returns-then-len-eq96 : goal.returns-then-len-eq96
returns-then-len-eq96 c =
    let p = c.args.self.now.prefix in
    embed-long p.bits p.len c.args.addr.0 c.from.result c.if-len-eq96.true c.from.ensures

pub returns : goal.returns
returns c =
    let d = c.args.self.now in
    embed-short d.prefix.bits d.prefix.len c.args.addr.0 _ _ _ _ _ (length-least d.prefix.bits d.prefix.len d.valid) (length-most d.prefix.bits d.prefix.len d.valid c.if-len-eq96.false) (omega arith) c.from-addr.ensures c.from-2.ensures c.from-3.ensures c.place-first.ensures c.place-rest.ensures
