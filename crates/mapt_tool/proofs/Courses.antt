-- What is true of the course of every command: it comes to one thing at most, and what it reads is bounded.
use Rattle.std.proofs.Common.{◌≡◌, ℕ, ◌-◌, List, [], length, Option, Some, None, Result, Ok, Err, refl, sym, ap, ◌∙◌, inl, inr}
use Rattle.outside.specs.declared.file_id.FileId.TheVariants.{Config, InLan, Options}
use Rattle.mapt_setup.specs.declared.setup.Setup.{Setup}
use Rattle.setup_tables.specs.declared.fault.SetupFault.{SetupFault}
use Rattle.mapt_setup.proofs.OneReading.{one_setup}
use Rattle.setup_tables.specs.declared.fault.SetupCause.TheVariants.{BadHex, BadContainer}
use Rattle.s46_options.specs.declared.digits.HexFault.{HexFault}
use Rattle.s46_options.specs.declared.digits.HexFault.TheVariants.{At}
use Rattle.s46_options.specs.declared.fault.OptionFault.{OptionFault}
use Rattle.s46_options.specs.declared.item.Item.{Item}
use Rattle.s46_options.specs.Digits.{fault_place}
use Rattle.s46_options.specs.Text.{container_text}
use Rattle.s46_options.proofs.OneReading.{one_container}
use Rattle.std.proofs.lemmas.Option.{same_Some}
use Rattle.mapt_tool.specs.declared.status.Status.{Status}
use Rattle.mapt_tool.specs.declared.status.Status.TheVariants.{SetupRefused}
use Rattle.mapt_tool.specs.Course.{beside, IsSetup, Configures, rules_said, owner_said, Course}
use Rattle.mapt_tool.specs.Limits.{command_limit, limit_of}
use Rattle.mapt_setup.specs.Fit.{most_records}
use Rattle.mapt_tool.specs.Planned.{Planned, says}
use Rattle.mapt_tool.specs.Printed.{IsHex, IsContainer, IsOptions}
use Rattle.mapt_tool.specs.Reading.{Answers, Reads, Then}
use Rattle.pcap_files.specs.declared.records.Record.{Record}
use Rattle.pcap_files.specs.declared.fault.CaptureFault.{CaptureFault}
use Rattle.pcap_files.specs.Capture.{capture}
use Rattle.setup_tables.specs.declared.edge.EdgeLine.{EdgeLine}
use Rattle.one_edge.specs.declared.captures.Captures.{Captures}
use Rattle.one_edge.specs.Edge.{Edge}
use Rattle.one_edge.proofs.One.{same_edge, same_made, edge_or_none}
use Rattle.mapt_tool.specs.Replay.{Target, Replayed, only_edge, IsEdgeOf, HasNoEdge, IsReplayed, replay_plan, IsPlanned, IsPlannedBy, ReplaysLan, ReplaysSetup}
use Rattle.mapt_tool.specs.Request.{Request, replay, rules, owner, options}
use Rattle.mapt_tool.specs.Status.{status_of}
use Rattle.mapt_tool.proofs.Single.{IsSingle, then_single, answers_single, determined, reads_single}

-- ---- one thing at most

abbrev set : Setup → Result Setup SetupFault
set x = Ok x

abbrev unset : SetupFault → Result Setup SetupFault
unset e = Err e

same_setup : (x y : Setup) → set x ≡ set y → x ≡ y
same_setup x y e = cc

same_fault : (e f : SetupFault) → unset e ≡ unset f → e ≡ f
same_fault e f same = cc

not_both : (x : Setup) (e : SetupFault) → set x ≡ unset e → ⊥
not_both x e same = cc

setup_one : (text : List ℕ) (x y : Result Setup Status) → IsSetup text x → IsSetup text y → x ≡ y
setup_one text (Ok x) (Ok y) h g = ap Ok (same_setup x y (one_setup text (Ok x) (Ok y) h g))
setup_one text (Ok x) (Err f) h g = absurd (not_both x g.0 (one_setup text (Ok x) (Err g.0) h g.1))
setup_one text (Err e) (Ok y) h g = absurd (not_both y h.0 (one_setup text (Ok y) (Err h.0) g h.1))
setup_one text (Err e) (Err f) h g = ap Err (h.2 ∙ ap status_of (same_fault h.0 g.0 (one_setup text (Err h.0) (Err g.0) h.1 g.1)) ∙ sym g.2)

configures_single : (config : List ℕ) → IsSingle (Configures config)
configures_single config =
    then_single (Reads Config config (limit_of command_limit)) (λ text. Answers (IsSetup text)) (reads_single Config config (limit_of command_limit)) (λ text. answers_single (IsSetup text) (setup_one text))

planned_one : (prefix : List ℕ) (e : Edge) (records : List Record) (x y : Result Planned Status) → IsPlanned prefix e records x → IsPlanned prefix e records y → x ≡ y
planned_one prefix e records (Ok p) (Ok q) h g = ap Ok (h.3 ∙ ap (λ (made : Captures). replay_plan prefix made) (same_made e records h.1 g.1 h.2 g.2) ∙ sym g.3)
planned_one prefix e records (Ok p) (Err f) h g = absurd (g.1 h.0)
planned_one prefix e records (Err f) (Ok q) h g = absurd (h.1 g.0)
planned_one prefix e records (Err f) (Err g') h g = ap Err (h.0 ∙ sym g.0)

planned_by_one : (prefix : List ℕ) (e : Edge) (read : Result (List Record) CaptureFault) (x y : Result Planned Status) → IsPlannedBy prefix e read x → IsPlannedBy prefix e read y → x ≡ y
planned_by_one prefix e (Ok records) x y h g = planned_one prefix e records x y h g
planned_by_one prefix e (Err fault) x y h g = h ∙ sym g

lan_single : (to : Target) (e : Edge) (lan : Option (List ℕ)) → IsSingle (ReplaysLan to e lan)
lan_single to e None = answers_single (IsPlanned to.prefix e []) (planned_one to.prefix e [])
lan_single to e (Some name) =
    then_single (Reads (InLan 0) name (limit_of to.left)) (λ octets. Answers (IsPlannedBy to.prefix e (capture most_records octets))) (reads_single (InLan 0) name (limit_of to.left))
    (λ octets. answers_single (IsPlannedBy to.prefix e (capture most_records octets)) (planned_by_one to.prefix e (capture most_records octets)))

same_replayed : (setup : Setup) (line : Option EdgeLine) (x y : Replayed) → IsEdgeOf setup line x → IsEdgeOf setup line y → x ≡ y
same_replayed setup None x y h g = absurd h
same_replayed setup (Some line) x y h g =
    let edge : x.edge ≡ y.edge = same_edge setup.book line.prefix setup.mtus x.edge y.edge h.0 g.0 in
    let lan : x.lan ≡ y.lan = h.1 ∙ sym g.1 in
    let made : Replayed = record { edge = x.edge; lan = x.lan } in
    let first : x ≡ made = refl in
    first ∙ rw (edge, lan) refl

not_both_edges : (setup : Setup) (line : Option EdgeLine) (x : Replayed) → IsEdgeOf setup line x → HasNoEdge setup line → ⊥
not_both_edges setup None x h g = h
not_both_edges setup (Some line) x h g = edge_or_none setup.book line.prefix setup.mtus x.edge h.0 g

replayed_one : (setup : Setup) (x y : Result Replayed Status) → IsReplayed setup x → IsReplayed setup y → x ≡ y
replayed_one setup (Ok x) (Ok y) h g = ap Ok (same_replayed setup (only_edge setup) x y h g)
replayed_one setup (Ok x) (Err f) h g = absurd (not_both_edges setup (only_edge setup) x h g.1)
replayed_one setup (Err e) (Ok y) h g = absurd (not_both_edges setup (only_edge setup) y g h.1)
replayed_one setup (Err e) (Err f) h g = ap Err (h.0 ∙ sym g.0)

setup_single : (to : Target) (setup : Setup) → IsSingle (ReplaysSetup to setup)
setup_single to setup =
    then_single (Answers (IsReplayed setup)) (λ x. ReplaysLan to x.edge x.lan) (answers_single (IsReplayed setup) (replayed_one setup)) (λ x. lan_single to x.edge x.lan)

text_single : (prefix text : List ℕ) → IsSingle (Then (Answers (IsSetup text)) (λ setup. ReplaysSetup (beside prefix text) setup))
text_single prefix text =
    then_single (Answers (IsSetup text)) (λ setup. ReplaysSetup (beside prefix text) setup) (answers_single (IsSetup text) (setup_one text)) (λ setup. setup_single (beside prefix text) setup)

-- ---- options

abbrev hex_read : List ℕ → Result (List ℕ) HexFault
hex_read octets = Ok octets

abbrev hex_refused : ℕ → Result (List ℕ) HexFault
hex_refused place = Err (At place)

same_octets : (a b : List ℕ) → hex_read a ≡ hex_read b → a ≡ b
same_octets a b e = cc

same_place : (a b : ℕ) → hex_refused a ≡ hex_refused b → a ≡ b
same_place a b e = cc

octets_or_place : (a : List ℕ) (place : ℕ) → hex_read a ≡ hex_refused place → ⊥
octets_or_place a place e = cc

abbrev some_fault : OptionFault → Option OptionFault
some_fault fault = Some fault

no_fault : (fault : OptionFault) → None ≡ some_fault fault → ⊥
no_fault fault e = cc

abbrev octets_ok : List ℕ → Result (List ℕ) Status
octets_ok octets = Ok octets

abbrev octets_err : Status → Result (List ℕ) Status
octets_err status = Err status

read_or_not : (text octets : List ℕ) (status : Status) → octets_ok octets ≡ octets_err status → ⊥
read_or_not text octets status e = cc

one_refusal : (e f : Status) → octets_err e ≡ octets_err f → e ≡ f
one_refusal e f same = cc

abbrev items_ok : List Item → Result (List Item) Status
items_ok items = Ok items

abbrev items_err : Status → Result (List Item) Status
items_err status = Err status

items_or_not : (items : List Item) (status : Status) → items_ok items ≡ items_err status → ⊥
items_or_not items status e = cc

one_container_refusal : (e f : Status) → items_err e ≡ items_err f → e ≡ f
one_container_refusal e f same = cc

hex_one : (text : List ℕ) (x y : Result (List ℕ) Status) → IsHex text x → IsHex text y → x ≡ y
hex_one text (Ok a) (Ok b) h g = ap Ok (same_octets a b (sym h ∙ g))
hex_one text (Ok a) (Err f) h g = absurd (octets_or_place a g.0 (sym h ∙ g.1))
hex_one text (Err e) (Ok b) h g = absurd (octets_or_place b h.0 (sym g ∙ h.1))
hex_one text (Err e) (Err f) h g = ap Err (h.2 ∙ ap (λ (place : ℕ). SetupRefused BadHex place) (same_place h.0 g.0 (sym h.1 ∙ g.1)) ∙ sym g.2)

container_one : (octets : List ℕ) (x y : Result (List Item) Status) → IsContainer octets x → IsContainer octets y → x ≡ y
container_one octets (Ok a) (Ok b) h g = ap Ok (one_container octets a b h.0 g.0)
container_one octets (Ok a) (Err f) h g = absurd (no_fault g.0 (sym h.1 ∙ g.1))
container_one octets (Err e) (Ok b) h g = absurd (no_fault h.0 (sym g.1 ∙ h.1))
container_one octets (Err e) (Err f) h g =
    ap Err (h.2 ∙ ap (λ (fault : OptionFault). SetupRefused BadContainer (fault_place fault (length octets))) (same_Some h.0 g.0 (sym h.1 ∙ g.1)) ∙ sym g.2)

same_hex : (text a b : List ℕ) → IsHex text (Ok a) → IsHex text (Ok b) → a ≡ b
same_hex text a b h g = same_octets a b (sym h ∙ g)

options_one : (text : List ℕ) (x y : Result Planned Status) → IsOptions text x → IsOptions text y → x ≡ y
options_one text (Ok p) (Ok q) h g =
    let octets = same_hex text h.0 g.0 h.2 g.2 in
    let items = one_container g.0 h.1 g.1 (rw octets at h.3.0) g.3.0 in
    ap Ok (h.4 ∙ ap (λ (x : List Item). says (container_text x)) items ∙ sym g.4)
options_one text (Ok p) (Err f) h (inl g) = absurd (read_or_not text h.0 f (hex_one text (Ok h.0) (Err f) h.2 g))
options_one text (Ok p) (Err f) h (inr g) =
    let octets = same_hex text h.0 g.0 h.2 g.1 in
    absurd (items_or_not h.1 f (container_one g.0 (Ok h.1) (Err f) (rw octets at h.3) g.2))
options_one text (Err e) (Ok q) (inl h) g = absurd (read_or_not text g.0 e (hex_one text (Ok g.0) (Err e) g.2 h))
options_one text (Err e) (Ok q) (inr h) g =
    let octets = same_hex text g.0 h.0 g.2 h.1 in
    absurd (items_or_not g.1 e (container_one h.0 (Ok g.1) (Err e) (rw octets at g.3) h.2))
options_one text (Err e) (Err f) (inl h) (inl g) = ap Err (one_refusal e f (hex_one text (Err e) (Err f) h g))
options_one text (Err e) (Err f) (inl h) (inr g) = absurd (read_or_not text g.0 e (hex_one text (Ok g.0) (Err e) g.1 h))
options_one text (Err e) (Err f) (inr h) (inl g) = absurd (read_or_not text h.0 f (hex_one text (Ok h.0) (Err f) h.1 g))
options_one text (Err e) (Err f) (inr h) (inr g) =
    let octets = same_hex text h.0 g.0 h.1 g.1 in
    ap Err (one_container_refusal e f (container_one g.0 (Err e) (Err f) (rw octets at h.2) g.2))

pub course_single : (request : Request) → IsSingle (Course request)
course_single (replay config prefix) =
    then_single (Reads Config config (limit_of command_limit)) (λ text. Then (Answers (IsSetup text)) (λ setup. ReplaysSetup (beside prefix text) setup)) (reads_single Config config (limit_of command_limit)) (text_single prefix)
course_single (rules config generation) =
    then_single (Configures config) (λ setup. Answers (λ answer. answer ≡ rules_said setup generation)) (configures_single config) (λ setup. determined (rules_said setup generation))
course_single (owner config generation addr port) =
    then_single (Configures config) (λ setup. Answers (λ answer. answer ≡ owner_said setup generation addr port)) (configures_single config) (λ setup. determined (owner_said setup generation addr port))
course_single (options file) =
    then_single (Reads Options file (limit_of command_limit)) (λ text. Answers (IsOptions text)) (reads_single Options file (limit_of command_limit)) (λ text. answers_single (IsOptions text) (options_one text))
