use Rattle.std.proofs.Common.{◌≡◌, ◌<◌, ◌≢◌, List, ℕ, length, sym, subst, ◌∙◌, arith}
use Rattle.std.specs.Prelude.{OnOk}
use Rattle.octets.proofs.Numerals.{eqb_false}
use Rattle.octets.proofs.Written6.{joined_at}
use Rattle.octets.proofs.text6.push_groups.Goals as goal

pub returns : goal.returns
returns c =
    let some : length c.args.groups.now ≢ 0 = eqb_false (length c.args.groups.now) 0 (sym c.is_empty.ensures ∙ c.if-is_empty.false) in
    let full : 0 < length c.args.groups.now = omega arith in
    let e = joined_at c.args.text.now c.args.groups.now full in
    subst (λ (xs : List ℕ). OnOk c.push_others.result (c.push_others.new.text ≡ xs)) (rw c.in_ok-push_group.ensures e) c.push_others.ensures
