-- A command reads no file that may have less than 64 MiB, unless it has read more than 64 MiB before.
use Rattle.std.proofs.Common.{◌≡◌, ℕ, ◌+◌, ◌-◌, ◌≤◌, List, [], ◌∷◌, length, Option, Some, None, Result, ap, subst, ◌∙◌, inl, inr, arith}
use Rattle.outside.specs.declared.file_id.FileId.{FileId}
use Rattle.outside.specs.declared.file_id.FileId.TheVariants.{Config, InLan, Options}
use Rattle.mapt_setup.specs.declared.setup.Setup.{Setup}
use Rattle.mapt_tool.specs.declared.status.Status.{Status}
use Rattle.mapt_tool.specs.Course.{beside, IsSetup, Configures, rules_said, owner_said, Replays, Course}
use Rattle.mapt_tool.specs.Limits.{file_limit, command_limit, limit_of}
use Rattle.mapt_setup.specs.Fit.{most_records}
use Rattle.mapt_tool.specs.Planned.{Planned}
use Rattle.mapt_tool.specs.Reading.{Read, Next, gives, wants, octets_of, Answers, Reads, Then}
use Rattle.pcap_files.specs.Capture.{capture}
use Rattle.one_edge.specs.Edge.{Edge}
use Rattle.mapt_tool.specs.Replay.{Target, IsReplayed, IsPlanned, IsPlannedBy, ReplaysLan, ReplaysSetup}
use Rattle.mapt_tool.specs.Request.{Request, replay, rules, owner, options}
use Rattle.mapt_tool.proofs.Steps.{octets_of-append}

-- where `left` octets of the command's are left at first, each file may have what is left of 64 MiB or of these
abbrev pub IsBounded : {A : Type 0} → ℕ → (List Read → Next A Status → Type 0) → Type 0
IsBounded left Step = (reads : List Read) (file : FileId) (name : List ℕ) (limit : ℕ) → Step reads (wants file name limit) → limit_of left ≤ octets_of reads + limit

-- a step that reads as many octets as it leaves fewer
abbrev pub IsCounted : {A : Type 0} → (A → ℕ) → (List Read → Next A Status → Type 0) → Type 0
IsCounted {A} size Step = (reads : List Read) (x : A) → Step reads (gives x) → octets_of reads ≡ size x

one_read : (octets : List ℕ) (file : FileId) (name : List ℕ) → octets_of (record { file = file; name = name; octets = octets } ∷ []) ≡ length octets
one_read octets file name = omega arith

reads_bounded : (file : FileId) (name : List ℕ) (left : ℕ) → IsBounded {A = List ℕ} left (Reads file name (limit_of left))
reads_bounded file name left reads f n limit wanted = omega (arith, wanted.3)

reads_counted : (file : FileId) (name : List ℕ) (limit : ℕ) → IsCounted {A = List ℕ} (λ octets. length octets) (Reads file name limit)
reads_counted file name limit reads octets read = ap octets_of read.0 ∙ one_read octets file name

answers_bounded : {A : Type 0} (left : ℕ) (IsAnswer : Result A Status → Type 0) → IsBounded left (Answers IsAnswer)
answers_bounded left IsAnswer reads file name limit wanted = absurd wanted

then_bounded : {A B : Type 0} (left : ℕ) (size : A → ℕ) (First : List Read → Next A Status → Type 0) (Second : A → List Read → Next B Status → Type 0) → IsBounded left First → IsCounted size First → ((x : A) → IsBounded (left - size x) (Second x)) → IsBounded left (Then First Second)
then_bounded left size First Second first sized second reads file name limit (inl wanted) = first reads file name limit wanted
then_bounded left size First Second first sized second reads file name limit (inr goes) =
    let front = sized goes.front goes.value goes.first in
    let back = second goes.value goes.back file name limit goes.second in
    let all : octets_of reads ≡ octets_of goes.front + octets_of goes.back = ap octets_of goes.parts ∙ octets_of-append goes.front goes.back in
    omega (arith, front, back, all)

nothing_counted : {A : Type 0} (IsAnswer : Result A Status → Type 0) → IsCounted {A = A} (λ _. 0) (Answers IsAnswer)
nothing_counted IsAnswer reads x answer = ap octets_of answer.0

configures_bounded : (config : List ℕ) → IsBounded command_limit (Configures config)
configures_bounded config =
    then_bounded command_limit (λ text. length text) (Reads Config config (limit_of command_limit)) (λ text. Answers (IsSetup text)) (reads_bounded Config config command_limit) (reads_counted Config config (limit_of command_limit))
    (λ text. answers_bounded (command_limit - length text) (IsSetup text))

lan_bounded : (to : Target) (e : Edge) (lan : Option (List ℕ)) → IsBounded to.left (ReplaysLan to e lan)
lan_bounded to e None = answers_bounded to.left (IsPlanned to.prefix e [])
lan_bounded to e (Some name) =
    then_bounded to.left (λ octets. length octets) (Reads (InLan 0) name (limit_of to.left)) (λ octets. Answers (IsPlannedBy to.prefix e (capture most_records octets))) (reads_bounded (InLan 0) name to.left) (reads_counted (InLan 0) name (limit_of to.left))
    (λ octets. answers_bounded (to.left - length octets) (IsPlannedBy to.prefix e (capture most_records octets)))

setup_bounded : (to : Target) (setup : Setup) → IsBounded to.left (ReplaysSetup to setup)
setup_bounded to setup =
    then_bounded to.left (λ _. 0) (Answers (IsReplayed setup)) (λ x. ReplaysLan to x.edge x.lan) (answers_bounded to.left (IsReplayed setup)) (nothing_counted (IsReplayed setup))
    (λ x. subst (λ (n : ℕ). IsBounded n (ReplaysLan to x.edge x.lan)) (omega arith) (lan_bounded to x.edge x.lan))

text_bounded : (text : List ℕ) (to : Target) → IsBounded to.left (Then (Answers (IsSetup text)) (λ setup. ReplaysSetup to setup))
text_bounded text to =
    then_bounded to.left (λ _. 0) (Answers (IsSetup text)) (λ setup. ReplaysSetup to setup) (answers_bounded to.left (IsSetup text)) (nothing_counted (IsSetup text))
    (λ setup. subst (λ (n : ℕ). IsBounded n (ReplaysSetup to setup)) (omega arith) (setup_bounded to setup))

-- what is printed of a configuration reads no further file
prints_bounded : (config : List ℕ) (IsAnswer : Setup → Result Planned Status → Type 0) (reads : List Read) (file : FileId) (name : List ℕ) (limit : ℕ) → Then (Configures config) (λ setup. Answers (IsAnswer setup)) reads (wants file name limit) → limit_of command_limit ≤ octets_of reads + limit
prints_bounded config IsAnswer reads file name limit (inl wanted) = configures_bounded config reads file name limit wanted
prints_bounded config IsAnswer reads file name limit (inr goes) = absurd goes.second

pub course_bounded : (request : Request) (reads : List Read) (file : FileId) (name : List ℕ) (limit : ℕ) → Course request reads (wants file name limit) → file_limit ≤ octets_of reads + limit
course_bounded (replay config prefix) reads file name limit wanted =
    let bounded : IsBounded command_limit (Replays config prefix) = then_bounded command_limit (λ text. length text) (Reads Config config (limit_of command_limit)) (λ text. Then (Answers (IsSetup text)) (λ setup. ReplaysSetup (beside prefix text) setup)) (reads_bounded Config config command_limit) (reads_counted Config config (limit_of command_limit))
    (λ text. text_bounded text (beside prefix text)) in
    let known = bounded reads file name limit wanted in
    omega arith
course_bounded (rules config generation) reads file name limit wanted =
    let known = prints_bounded config (λ setup answer. answer ≡ rules_said setup generation) reads file name limit wanted in
    omega arith
course_bounded (owner config generation addr port) reads file name limit wanted =
    let known = prints_bounded config (λ setup answer. answer ≡ owner_said setup generation addr port) reads file name limit wanted in
    omega arith
course_bounded (options file) reads name named limit (inl wanted) =
    let known = reads_bounded Options file command_limit reads name named limit wanted in
    omega arith
course_bounded (options file) reads name named limit (inr goes) = absurd goes.second
