use Rattle.std.proofs.Common.{◌≡◌, ℕ, false, sym, ◌∙◌, subst, arith, rules, inl, inr}
use Rattle.std.proofs.lemmas.Bool.{cases_lt}
use Rattle.rule_book.specs.Holder.{holder_in}
use Rattle.nat_model.specs.Claim.{is_free}
use Rattle.nat_model.proofs.Ports.{free-least, free-none}
use Rattle.nat_model.proofs.claim.Wish.least_free.Goals as goal
use Rattle.nat_model.proofs.claim.Wish.least_free.Goals.{in-Some+else-is_free, in_default}

pub returns-then-is_free : goal.returns-then-is_free
returns-then-is_free c =
    sym (free-least (holder_in c.args.edge.now) c.args.self.now.proto c.args.bindings.now c.in-Some.port c.loop-i.i (search rules) c.in-Some.ensures.found (sym c.is_free.ensures ∙ c.if-is_free.true) c.loop-i.invariant)

-- a port of a lower rank was looked at before, and the one of this rank now
pub loop-i-preserved : goal.loop-i-preserved
loop-i-preserved c = λ y j below ranked early.
    let IsTaken : ℕ → Type 0 = λ x. is_free (holder_in c.args.edge.now) c.args.self.now.proto c.args.bindings.now x ≡ false in
    elim (cases_lt j c.loop-i.i) [
      | inl before ↦ c.loop-i.invariant y j below ranked before
      | inr here ↦
          let same : j ≡ c.loop-i.i = omega (arith, here, early) in
          let found = c.at.ensures.inverse y below (rw same at ranked) in
          elim c.match-at.branch [
            | in-Some+else-is_free w ↦
                let its : w.in-Some.port ≡ y = cc in
                subst IsTaken its (sym w.is_free.ensures ∙ w.if-is_free.false)
            | in_default w ↦ absurd (cc)
          ]
    ]

pub returns : goal.returns
returns c = sym (free-none (holder_in c.args.edge.now) c.args.self.now.proto c.args.bindings.now c.loop-i.i (omega arith) c.loop-i.invariant)
