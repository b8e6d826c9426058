-- The only edge of a setup, and how a replay ends where there is none.
use Rattle.std.proofs.Common.{◌≡◌, ◌≢◌, ℕ, Bool, true, false, List, [], ◌∷◌, length, get_or, Some, None, Result, Ok, Err, refl, sym, ap, arith}
use Rattle.outside.specs.Seen.{FolderSeen}
use Rattle.outside.specs.declared.file_id.FileId.TheVariants.{Config}
use Rattle.setup_tables.specs.declared.edge.EdgeLine.{EdgeLine}
use Rattle.mapt_setup.specs.declared.setup.Setup.{Setup}
use Rattle.mapt_tool.specs.declared.status.Status.{Status}
use Rattle.mapt_tool.specs.declared.status.Status.TheVariants.{NotBuilt, NoMemory}
use Rattle.mapt_tool.specs.Ended.{Ended}
use Rattle.mapt_tool.specs.Planned.{Planned}
use Rattle.mapt_tool.specs.Reading.{Answers}
use Rattle.mapt_tool.specs.Replay.{only_one, only_edge, HasNoEdge, IsEdgeOf, IsReplayed, Replayed, Target, ReplaysLan, ReplaysSetup}
use Rattle.mapt_tool.proofs.Steps.{ends_first, ends_then, ends_here}

pub none_beside : (b : Bool) (lines : List EdgeLine) → b ≡ true → only_one b lines ≡ None
none_beside true [] e = refl
none_beside true (line ∷ []) e = refl
none_beside true (line ∷ other ∷ lines) e = refl
none_beside false lines e = absurd (cc)

pub none_of_many : (b : Bool) (lines : List EdgeLine) → length lines ≢ 1 → only_one b lines ≡ None
none_of_many true [] many = refl
none_of_many true (line ∷ []) many = refl
none_of_many true (line ∷ other ∷ lines) many = refl
none_of_many false [] many = refl
none_of_many false (line ∷ []) many = absurd (many refl)
none_of_many false (line ∷ other ∷ lines) many = refl

pub one_of_one : (b : Bool) (lines : List EdgeLine) (line : EdgeLine) → b ≡ false → length lines ≡ 1 → line ≡ get_or lines 0 line → only_one b lines ≡ Some line
one_of_one true lines line e one is = absurd (cc)
one_of_one false [] line e one is = absurd (omega arith)
one_of_one false (first ∷ []) line e one is = ap (λ (l : EdgeLine). Some l) (sym is)
one_of_one false (first ∷ other ∷ lines) line e one is = absurd (omega arith)

-- a setup without an edge that is replayed
pub ends_without : (to : Target) (setup : Setup) (folder : FolderSeen) → HasNoEdge setup (only_edge setup) → Ended {A = Planned} (ReplaysSetup to setup) folder folder (Err (NotBuilt Config))
ends_without to setup folder none =
    ends_first (Answers (IsReplayed setup)) (λ x. ReplaysLan to x.edge x.lan) folder folder (NotBuilt Config) (ends_here (IsReplayed setup) folder (Err (NotBuilt Config)) (refl, none))

pub ends_with : (to : Target) (setup : Setup) (old new : FolderSeen) (x : Replayed) (result : Result Planned Status) → IsEdgeOf setup (only_edge setup) x → Ended (ReplaysLan to x.edge x.lan) old new result → Ended (ReplaysSetup to setup) old new result
ends_with to setup old new x result is then =
    ends_then (Answers (IsReplayed setup)) (λ x. ReplaysLan to x.edge x.lan) old old new x result (ends_here (IsReplayed setup) old (Ok x) is) then

-- memory ran out before it was known
pub ends_lacking_edge : (to : Target) (setup : Setup) (folder : FolderSeen) → Ended {A = Planned} (ReplaysSetup to setup) folder folder (Err NoMemory)
ends_lacking_edge to setup folder =
    ends_first (Answers (IsReplayed setup)) (λ x. ReplaysLan to x.edge x.lan) folder folder NoMemory (ends_here (IsReplayed setup) folder (Err NoMemory) tt)
