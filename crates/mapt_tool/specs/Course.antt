-- What each command comes to, step by step: the files that it reads, in their order, and then what it does to the
-- outside or why it refuses. The definitions of this file are relations, since what a text sets up is one.
use Rattle.std.specs.Prelude.{◌≡◌, ℕ, ◌-◌, List, length, map, Result, Ok, Err}
use Rattle.outside.specs.declared.file_id.FileId.TheVariants.{Config, Options}
use Rattle.map_rules.specs.declared.rule.Rule.{Rule}
use Rattle.rule_book.specs.Book.{dmr_of}
use Rattle.rule_book.specs.Text.{book_text, owner_text}
use Rattle.mapt_setup.specs.declared.setup.Setup.{Setup}
use Rattle.setup_tables.specs.declared.fault.SetupFault.{SetupFault}
use Rattle.mapt_setup.specs.Setup.{setup_of}
use Rattle.mapt_setup.specs.Generation.{rules_at}
use Rattle.mapt_tool.specs.declared.status.Status.{Status}
use Rattle.mapt_tool.specs.Limits.{limit_of, command_limit}
use Rattle.mapt_tool.specs.Planned.{Planned, says}
use Rattle.mapt_tool.specs.Printed.{IsOptions}
use Rattle.mapt_tool.specs.Reading.{Read, Next, Answers, Reads, Then}
use Rattle.mapt_tool.specs.Replay.{Target, ReplaysSetup}
use Rattle.mapt_tool.specs.Request.{Request, replay, rules, owner, options}
use Rattle.mapt_tool.specs.Status.{status_of}

-- the setup of a configuration, or its first fault as a status
abbrev pub IsSetup : List ℕ → Result Setup Status → Type 0
IsSetup text (Ok setup) = setup_of text (Ok setup)
IsSetup text (Err status) = (fault : SetupFault) × setup_of text (Err fault) × (status ≡ status_of fault)

-- the configuration of this name is read, and set up
abbrev pub Configures : List ℕ → List Read → Next Setup Status → Type 0
Configures config = Then (Reads Config config (limit_of command_limit)) (λ text. Answers (IsSetup text))

-- what is said of a generation's rules, if it has any
abbrev pub said_of : (List Rule → List ℕ) → Result (List Rule) SetupFault → Result Planned Status
said_of text (Ok standing) = Ok (says (text standing))
said_of text (Err fault) = Err (status_of fault)

-- the rules of a generation
abbrev pub rules_said : Setup → ℕ → Result Planned Status
rules_said setup generation = said_of (λ standing. book_text standing (dmr_of setup.book)) (rules_at setup generation)

-- which edge address holds an IPv4 address and port in a generation
abbrev pub owner_said : Setup → ℕ → ℕ → ℕ → Result Planned Status
owner_said setup generation addr port =
    said_of (λ standing. owner_text standing (map (λ e. e.prefix) setup.edges) (map (λ e. e.name) setup.edges) addr port)
    (rules_at setup generation)

-- what a replay is given beside the configuration of this text
abbrev pub beside : List ℕ → List ℕ → Target
beside prefix text = record { prefix = prefix; left = command_limit - length text }

-- the configuration of this name is read and set up, and then replayed with what is left of the command's octets
abbrev pub Replays : List ℕ → List ℕ → List Read → Next Planned Status → Type 0
Replays config prefix =
    Then (Reads Config config (limit_of command_limit))
    (λ text. Then (Answers (IsSetup text)) (λ setup. ReplaysSetup (beside prefix text) setup))

-- what a command comes to
abbrev pub Course : Request → List Read → Next Planned Status → Type 0
Course (replay config prefix) = Replays config prefix
Course (rules config generation) = Then (Configures config) (λ setup. Answers (λ answer. answer ≡ rules_said setup generation))
Course (owner config generation addr port) =
    Then (Configures config) (λ setup. Answers (λ answer. answer ≡ owner_said setup generation addr port))
Course (options file) = Then (Reads Options file (limit_of command_limit)) (λ text. Answers (IsOptions text))
