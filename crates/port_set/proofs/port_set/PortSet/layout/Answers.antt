use Rattle.std.proofs.Common.{◌*◌, inl}
use Rattle.port_set.proofs.Places.{IsLayout, given-lies, given-sizes, given-apart}
use Rattle.port_set.proofs.port_set.PortSet.layout.Goals as goal

sizes : (c : goal.After-from-2) → IsLayout c.from.result c.numbers_of.result c.numbers_of-2.result (c.from-2.result * c.numbers_of-run.result) c.numbers_of-run.result
sizes c =
    let s = c.args.self.now in
    given-sizes s.a s.k s.psid _ _ _ _ _ s.offset s.length s.fits c.from-2.ensures c.from.ensures c.numbers_of.ensures c.numbers_of-2.ensures c.numbers_of-run.ensures

pub invariant_of-result-2 : goal.invariant_of-result-2
invariant_of-result-2 c =
    let given = sizes c in
    record { whole = given.whole; used = given.used; some = given.some; fits = given.fits }

pub returns-clause-lies : goal.returns-clause-lies
returns-clause-lies c =
    let s = c.args.self.now in
    given-lies s.a s.k s.psid _ _ _ _ _ s.offset s.length c.if-k-eq0.false c.from-2.ensures c.from.ensures c.numbers_of.ensures c.numbers_of-2.ensures c.numbers_of-run.ensures

pub returns-clause-apart : goal.returns-clause-apart
returns-clause-apart c =
    let s = c.args.self.now in
    inl (given-apart s.a s.k _ _ s.offset s.length c.if-k-eq0.false c.numbers_of-2.ensures c.numbers_of-run.ensures)
