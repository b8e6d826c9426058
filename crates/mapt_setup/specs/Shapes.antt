-- The rules that have the shape of one (RFC 7597, section 5), and the book that they make.
use Rattle.std.specs.Prelude.{◌≡◌, List, IsSome, option_map, Result}
use Rattle.map_rules.specs.declared.rule.Rule.{Rule}
use Rattle.map_rules.specs.declared.dmr.Dmr.{Dmr}
use Rattle.map_rules.specs.Shape.{first_broken}
use Rattle.rule_book.specs.declared.book.Book.{Book}
use Rattle.rule_book.specs.declared.fault.BookFault.{BookFault}
use Rattle.rule_book.specs.declared.fault.BookFault.TheVariants as book
use Rattle.rule_book.specs.Book.{rules_of, dmr_of, generation_of}
use Rattle.rule_book.specs.Refusal.{refusal_of}
use Rattle.setup_tables.specs.declared.rule.RuleLine.{RuleLine}
use Rattle.setup_tables.specs.declared.fault.SetupCause.TheVariants.{TooMany, Overlap4, Overlap6, OverlapDmr}
use Rattle.setup_tables.specs.declared.fault.SetupFault.{SetupFault}
use Rattle.setup_tables.specs.declared.fault.SetupFault.TheVariants.{Refused, NoMemory}
use Rattle.setup_tables.specs.Answer.{barring, such}

-- the line breaks a shape rule
abbrev pub BreaksShape : RuleLine → Type 0
BreaksShape line = IsSome (first_broken line.prefix6.len line.prefix4.len line.ea line.offset)

-- the rule has the parts that the line names
pub record HasParts (line : RuleLine) (rule : Rule) : Type 0 where
  pub prefix6 : rule.prefix6 ≡ line.prefix6
  pub prefix4 : rule.prefix4 ≡ line.prefix4
  pub ea : rule.ea ≡ line.ea
  pub offset : rule.offset ≡ line.offset
  pub forward : rule.forward ≡ line.forward

-- how a configuration is refused whose rules make no book: by the later of two rules
abbrev pub refused_by : BookFault → SetupFault
refused_by book.TooManyRules = Refused TooMany 0
refused_by (book.Overlap4 earlier later) = Refused Overlap4 later
refused_by (book.Overlap6 earlier later) = Refused Overlap6 later
refused_by (book.OverlapDmr rule) = Refused OverlapDmr rule
refused_by _ = NoMemory

-- the book of generation 0
pub record IsFirstBook (rules : List Rule) (dmr : Dmr) (made : Book) : Type 0 where
  pub rules_are : rules_of made ≡ rules
  pub dmr_is : dmr_of made ≡ dmr
  pub generation : generation_of made ≡ 0

-- the first reason for which the rules make no book, or their book
abbrev pub book_of : List Rule → Dmr → Result Book SetupFault → Type 0
book_of rules dmr = barring (option_map refused_by (refusal_of rules dmr)) (such (IsFirstBook rules dmr))
