use Rattle.std.proofs.Common.{◌≡◌, ℕ, sym, ◌∙◌, List, Some, Ok, Err, ap, subst}
use Rattle.std.specs.Prelude.{Option, IfOk, IsNone}
use Rattle.octets.specs.declared.cause.Fault.{Fault}
use Rattle.icmp_messages.specs.declared.icmp4.Icmp4.{Icmp4}
use Rattle.icmp_messages.specs.declared.table.Row.{Row}
use Rattle.icmp_messages.specs.Table.{row_of, table64}
use Rattle.icmp_xlat.specs.Icmp64.{query64, error64, with_message64}
use Rattle.icmp_messages.specs.Rows.{HasNoRow64, LacksPointer64, EmbedsOne64}
use Rattle.icmp_xlat.proofs.to_icmp4.answer64.Goals as goal

some_row : (row : Row) → IsNone (Some row) → ⊥
some_row row none = cc

-- the rows of one list are one
same_row : (found : Option Row) (one other : Row) → found ≡ Some one → found ≡ Some other → other ≡ one
same_row found one other a b = cc

pub returns : goal.returns
returns c =
    let row = c.in-Some.row in
    let is_row : row_of table64 c.args.message.now.kind c.args.message.now.code ≡ Some row = c.in-Some.ensures.found in
    let made = c.in_ok-translated.ensures in
    let head = c.args.head.now in
    let passing = c.args.passing.now in
    let ends = passing.ends in
    let written : c.in_ok-with_message64.field-0 ≡ with_message64 head c.in_ok-translated.translated ends passing.id = c.in_ok-with_message64.ensures in
    record {
      query = λ r is query.
          let same = same_row _ row r is_row is in
          written ∙ ap (λ (m : Icmp4). with_message64 head m ends passing.id) (made.query (rw same at query) ∙ ap (λ (x : Row). query64 c.args.message.now x ends) (sym same));
      error = λ r inner rest is embedded found.
          let same = same_row _ row r is_row is in
          written ∙ ap (λ (m : Icmp4). with_message64 head m ends passing.id) (made.error inner rest embedded (rw same at found) ∙ ap (λ (x : Row). error64 x rest inner ends) (sym same));
      refused = λ h. absurd (never _ _ h);
      lacking = λ lacks. absurd (some_row row (c.in-Some.ensures.none.1 lacks));
      no_other = tt;
    }
  where
    never : (o : List ℕ) (f : Fault) → ◌≡◌ {A = Rattle.std.specs.Prelude.Result (List ℕ) Fault} (Ok o) (Err f) → ⊥
    never o f h = cc

-- a message whose row was found has a translation, and so embeds a packet where it is no query
pub translated64-requires : goal.translated64-requires
translated64-requires c =
    let row = c.in-Some.row in
    let lacks = λ (lacks : HasNoRow64 c.args.message.now). some_row row (c.in-Some.ensures.none.1 lacks) in
    record {
      embeds = subst (λ (found : Option Row). EmbedsOne64 c.args.message.now found) c.in-Some.ensures.found (c.requires.embeds lacks);
      pointer = subst (λ (found : Option Row). LacksPointer64 c.args.message.now found → ⊥) c.in-Some.ensures.found lacks;
    }
