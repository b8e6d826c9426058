use Rattle.std.proofs.Common.{◌≡◌, ◌+◌, ◌*◌, ◌∙◌, refl, arith}
use Rattle.std.proofs.Math.Facts.{Fits-of_lt}
use Rattle.std.proofs.lemmas.Bool.{false≢true}
use Rattle.port_set.specs.PortSet.{in_set}
use Rattle.port_set.proofs.Places.{sizes_of}
use Rattle.port_set.proofs.Ranks.{nth-run, run-index, count-runs, run-start, run-last}
use Rattle.port_set.proofs.port_set.PortSet.range.Goals as goal

pub returns-then-i-runs-clause-known : goal.returns-then-i-runs-clause-known
returns-then-i-runs-clause-known c =
    let s = c.args.self.now in
    let l = c.layout-layout.result in
    let all = count-runs (in_set s.a s.k s.psid) l.first l.blocks l.block l.start l.run c.layout-layout.ensures.lies (sizes_of l) c.layout-layout.ensures.apart in
    (λ e. absurd (false≢true e), λ less. absurd (omega (arith, all, less, c.runs.ensures, c.if-i-runs.true)))

first_is : (c : goal.After-port-first) → c.port-first.result ≡ (c.args.i + c.layout-layout.result.first) * c.layout-layout.result.block + c.layout-layout.result.start
first_is c =
    let l = c.layout-layout.result in
    c.port-first.ensures ∙ run-start l.first l.block l.start l.run c.args.i l.some

pub overflow_add-result : goal.overflow_add-result
overflow_add-result c =
    let l = c.layout-layout.result in
    Fits-of_lt (rw (first_is c) (run-last l.first l.blocks l.block l.start l.run c.args.i (sizes_of l) (omega (arith, c.runs.ensures))))

pub returns-clause-run : goal.returns-clause-run
returns-clause-run c =
    let s = c.args.self.now in
    let l = c.layout-layout.result in
    rw (first_is c) (nth-run (in_set s.a s.k s.psid) l.first l.blocks l.block l.start l.run c.args.i c.layout-layout.ensures.lies (sizes_of l) c.layout-layout.ensures.apart (omega (arith, c.runs.ensures)))

pub returns-clause-index : goal.returns-clause-index
returns-clause-index c =
    let s = c.args.self.now in
    let l = c.layout-layout.result in
    rw (first_is c) (run-index (in_set s.a s.k s.psid) l.first l.blocks l.block l.start l.run c.args.i c.layout-layout.ensures.lies (sizes_of l) c.layout-layout.ensures.apart (omega (arith, c.runs.ensures)))

pub returns-clause-known : goal.returns-clause-known
returns-clause-known c =
    let s = c.args.self.now in
    let l = c.layout-layout.result in
    let all = count-runs (in_set s.a s.k s.psid) l.first l.blocks l.block l.start l.run c.layout-layout.ensures.lies (sizes_of l) c.layout-layout.ensures.apart in
    (λ _. omega (arith, all, c.runs.ensures), λ _. refl)
