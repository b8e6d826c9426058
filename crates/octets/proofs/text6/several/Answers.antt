use Rattle.std.proofs.Common.{sym, ◌∙◌, arith}
use Rattle.octets.proofs.Turns.{last_none, last_some, next_none, next_some, no_more}
use Rattle.octets.proofs.text6.several.Goals as goal

pub returns-in_err-group : goal.returns-in_err-group
returns-in_err-group c =
    rw c.from_residual.ensures (sym (last_none c.loop.counter c.loop.found.count c.loop.found.value c.loop.rest.now c.loop-test.true (sym c.in_default.ensures) (sym c.in_err-group.ensures)) ∙ c.loop.invariant.rest)

pub returns-in_default : goal.returns-in_default
returns-in_default c =
    rw (c.with.ensures.count, c.with.ensures.value) (sym (last_some c.loop.counter c.loop.found.count c.loop.found.value c.in_ok-group.field-0 c.loop.rest.now c.loop-test.true (sym c.in_default.ensures) (sym c.in_ok-group.ensures)) ∙ c.loop.invariant.rest)

pub returns-in_err-group-2 : goal.returns-in_err-group-2
returns-in_err-group-2 c =
    rw c.from_residual-in_err-group-2.ensures (sym (next_none c.loop.counter c.loop.found.count c.loop.found.value c.loop.rest.now c.in-Some.first.now c.in-Some.after.now c.loop-test.true (sym c.in-Some.ensures) (sym c.in_err-group-2.ensures)) ∙ c.loop.invariant.rest)

pub loop-preserved : goal.loop-preserved
loop-preserved c = record {
  counted = omega arith;
  rest = rw (c.with-found.ensures.count, c.with-found.ensures.value) (sym (next_some c.loop.counter c.loop.found.count c.loop.found.value c.in_ok-group-2.field-0 c.loop.rest.now c.in-Some.first.now c.in-Some.after.now c.loop-test.true (sym c.in-Some.ensures) (sym c.in_ok-group-2.ensures)) ∙ c.loop.invariant.rest);
}

pub returns : goal.returns
returns c = sym (no_more c.loop.counter c.loop.found.count c.loop.found.value c.loop.rest.now c.loop-test.false) ∙ c.loop.invariant.rest
