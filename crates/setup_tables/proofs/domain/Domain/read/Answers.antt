use Rattle.std.proofs.Common.{refl, subst, sym, ◌∙◌}
use Rattle.std.proofs.lemmas.Option.{same_Some}
use Rattle.toml.specs.Data.{Members}
use Rattle.toml.specs.View.{table_view}
use Rattle.setup_tables.specs.Origin.{HasOrigin}
use Rattle.setup_tables.specs.Domain.{HasRequired}
use Rattle.setup_tables.proofs.domain.Domain.read.Goals as goal

pub returns-in_default-of-clause-exact : goal.returns-in_default-of-clause-exact
returns-in_default-of-clause-exact c =
    (refl, λ x h. c.in_default-of.ensures.none x.required (let P : Members → Type 0 = λ m. HasRequired m x.required in subst P (same_Some _ _ (sym h.there ∙ sym c.in-Some.ensures)) h.required))

pub returns-in_default-2-clause-exact : goal.returns-in_default-2-clause-exact
returns-in_default-2-clause-exact c =
    let none = rw c.in_default-2.is at c.in_ok-origin.ensures.none in
    (refl, λ x h. none x.origin (let P : Members → Type 0 = λ m. HasOrigin (table_view c.args.document.now) m x.origin in subst P (same_Some _ _ (sym h.there ∙ sym c.in-Some.ensures)) h.origin))
