-- How the faults of a configuration become statuses.
use Rattle.std.proofs.Common.{◌≡◌, ℕ, Bool, true, false, cond, List, length, Result, Ok, Err, refl, ap, ◌∙◌}
use Rattle.std.specs.Prelude.{nat_le}
use Rattle.map_rules.specs.declared.dmr.Dmr.{Dmr}
use Rattle.map_rules.specs.declared.rule.Rule.{Rule}
use Rattle.rule_book.specs.Book.{rules_of, dmr_of}
use Rattle.setup_tables.specs.declared.fault.SetupCause.TheVariants.{NoGeneration}
use Rattle.mapt_setup.specs.Generation.{IsGeneration, rules_in, rules_at, with_rules, book_at}
use Rattle.rule_book.specs.declared.book.Book.{Book}
use Rattle.mapt_setup.specs.declared.setup.Setup.{Setup}
use Rattle.setup_tables.specs.declared.fault.SetupFault.{SetupFault}
use Rattle.setup_tables.specs.declared.fault.SetupFault.TheVariants as setup
use Rattle.setup_tables.specs.Answer.{Gives, exactly}
use Rattle.mapt_setup.specs.Setup.{setup_of}
use Rattle.mapt_tool.specs.declared.status.Status.{Status}
use Rattle.mapt_tool.specs.Course.{IsSetup, said_of}
use Rattle.mapt_tool.specs.Ended.{Given}
use Rattle.mapt_tool.specs.Planned.{Planned, says}
use Rattle.mapt_tool.specs.Status.{status_of}

-- a configuration that is refused
pub setup_refused : (text : List ℕ) (fault : SetupFault) → Gives {X = Setup} (λ s. s) (Err fault) (setup_of text) → Given (IsSetup text) (Err (status_of fault))
setup_refused text (setup.Refused cause place) given = (setup.Refused cause place, given, refl)
setup_refused text setup.NoMemory given = tt

-- the rules of a generation, by whether it is one
abbrev found : Bool → Setup → ℕ → Result (List Rule) SetupFault
found b s generation = cond b (Ok (rules_in s generation)) (Err (setup.Refused NoGeneration generation))

same_fault : (e f : SetupFault) → exactly {A = Book} (Err f) (Err e) → e ≡ f
same_fault e f given = cc

abbrev refusal : SetupFault → Result Planned Status
refusal fault = Err (status_of fault)

refused_at : (text : List Rule → List ℕ) (s : Setup) (generation : ℕ) (b : Bool) (fault : SetupFault)
    → Gives {X = Book} (λ b. b) (Err fault) (with_rules s generation (found b s generation)) → Given (λ (answer : Result Planned Status). answer ≡ said_of text (found b s generation)) (Err (status_of fault))
refused_at text s generation true (setup.Refused cause place) given = absurd given
refused_at text s generation true setup.NoMemory given = tt
refused_at text s generation false (setup.Refused cause place) given = ap refusal (same_fault (setup.Refused cause place) (setup.Refused NoGeneration generation) given)
refused_at text s generation false setup.NoMemory given = tt

-- a generation that is refused
pub book_refused : (text : List Rule → List ℕ) (s : Setup) (generation : ℕ) (fault : SetupFault)
    → Gives {X = Book} (λ b. b) (Err fault) (book_at s generation) → Given (λ (answer : Result Planned Status). answer ≡ said_of text (rules_at s generation)) (Err (status_of fault))
book_refused text s generation fault given = refused_at text s generation (nat_le generation (length s.changes)) fault given

said_at : (text : Dmr → List Rule → List ℕ) (s : Setup) (generation : ℕ) (b : Bool) (made : Book) (plan : Planned)
    → with_rules s generation (found b s generation) (Ok made) → plan ≡ says (text (dmr_of made) (rules_of made)) → Ok plan ≡ said_of (text (dmr_of s.book)) (found b s generation)
said_at text s generation true made plan is is_plan =
    ap Ok (is_plan ∙ ap (λ (d : Dmr). says (text d (rules_of made))) is.dmr_is ∙ ap (λ (rules : List Rule). says (text (dmr_of s.book) rules)) is.rules_are)
said_at text s generation false made plan is is_plan = absurd (no_book is)
  where
    no_book : exactly (Err (setup.Refused NoGeneration generation)) (Ok made) → ⊥
    no_book e = cc

-- what is said of a generation that has a book
pub book_said : (text : Dmr → List Rule → List ℕ) (s : Setup) (generation : ℕ) (made : Book) (plan : Planned)
    → book_at s generation (Ok made) → plan ≡ says (text (dmr_of made) (rules_of made)) → Ok plan ≡ said_of (text (dmr_of s.book)) (rules_at s generation)
book_said text s generation made plan is is_plan = said_at text s generation (nat_le generation (length s.changes)) made plan is is_plan
