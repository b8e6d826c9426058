use Rattle.std.proofs.Common.{◌≡◌, ℕ, sym, ◌∙◌, List, Some, Ok, Err, ap, subst}
use Rattle.std.specs.Prelude.{Option, IfOk, IsNone}
use Rattle.octets.specs.declared.cause.Fault.{Fault}
use Rattle.icmp_messages.specs.declared.icmp6.Icmp6.{Icmp6}
use Rattle.icmp_messages.specs.declared.table.Row.{Row}
use Rattle.icmp_messages.specs.Table.{row_of, table46}
use Rattle.icmp_xlat.specs.Icmp46.{query46, error46, with_message46}
use Rattle.icmp_messages.specs.Rows.{HasNoRow46, LacksPointer46, EmbedsOne46}
use Rattle.icmp_xlat.proofs.to_icmp6.answer46.Goals as goal

some_row : (row : Row) → IsNone (Some row) → ⊥
some_row row none = cc

-- the rows of one list are one
same_row : (found : Option Row) (one other : Row) → found ≡ Some one → found ≡ Some other → other ≡ one
same_row found one other a b = cc

pub returns : goal.returns
returns c =
    let row = c.in-Some.row in
    let is_row : row_of table46 c.args.message.now.kind c.args.message.now.code ≡ Some row = c.in-Some.ensures.found in
    let made = c.in_ok-translated.ensures in
    let head = c.args.head.now in
    let passing = c.args.passing.now in
    let ends = passing.ends in
    let written : c.in_ok-with_message46.field-0 ≡ with_message46 head c.in_ok-translated.translated ends = c.in_ok-with_message46.ensures in
    record {
      query = λ r is query.
          let same = same_row _ row r is_row is in
          written ∙ ap (λ (m : Icmp6). with_message46 head m ends) (made.query (rw same at query) ∙ ap (λ (x : Row). query46 c.args.message.now x ends) (sym same));
      error = λ r inner rest is embedded found.
          let same = same_row _ row r is_row is in
          written ∙ ap (λ (m : Icmp6). with_message46 head m ends) (made.error inner rest embedded (rw same at found) ∙ ap (λ (x : Row). error46 x rest inner ends) (sym same));
      refused = λ h. absurd (never _ _ h);
      lacking = λ lacks. absurd (some_row row (c.in-Some.ensures.none.1 lacks));
      no_other = tt;
    }
  where
    never : (o : List ℕ) (f : Fault) → ◌≡◌ {A = Rattle.std.specs.Prelude.Result (List ℕ) Fault} (Ok o) (Err f) → ⊥
    never o f h = cc

-- a message whose row was found has a translation, and so embeds a packet where it is no query
pub translated46-requires-clause-embeds : goal.translated46-requires-clause-embeds
translated46-requires-clause-embeds c =
    let row = c.in-Some.row in
    subst (λ (found : Option Row). EmbedsOne46 c.args.message.now found) c.in-Some.ensures.found
    (c.requires.embeds (λ lacks. some_row row (c.in-Some.ensures.none.1 lacks)))

pub translated46-requires-clause-pointer : goal.translated46-requires-clause-pointer
translated46-requires-clause-pointer c =
    let row = c.in-Some.row in
    subst (λ (found : Option Row). LacksPointer46 c.args.message.now found → ⊥) c.in-Some.ensures.found
    (λ (lacks : HasNoRow46 c.args.message.now). some_row row (c.in-Some.ensures.none.1 lacks))
