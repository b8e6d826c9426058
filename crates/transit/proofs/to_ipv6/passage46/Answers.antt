use Rattle.std.proofs.Common.{◌≡◌, sym, ◌∙◌, ap, subst, Some, false}
use Rattle.std.specs.Prelude.{Bool, ◌||◌}
use Rattle.transit.proofs.to_ipv6.passage46.Goals as goal

neither : (a b : Bool) → (a || b) ≡ false → b ≡ false
neither a b e = grind (Rattle.std.proofs.Common.arith, Rattle.std.proofs.lemmas.Grind.common_steps)

pub cut-requires-clause-written : goal.cut-requires-clause-written
cut-requires-clause-written c = c.in_ok-written.ensures ∙ ap Some (sym c.as_slice-2.ensures)

pub cut-requires-clause-no_message : goal.cut-requires-clause-no_message
cut-requires-clause-no_message c = neither _ _ (sym c.is_rigid.ensures ∙ c.if-is_rigid.false)
