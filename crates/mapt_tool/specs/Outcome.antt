-- What a command does on given files, or for what it refuses them.
use Rattle.std.specs.Prelude.{ℕ, ◌<◌, List, length, Result, Ok, Err}
use Rattle.outside.specs.Files.{Files, content_of}
use Rattle.outside.specs.declared.file_id.FileId.{FileId}
use Rattle.mapt_tool.specs.declared.status.Status.{Status}
use Rattle.mapt_tool.specs.declared.status.Status.TheVariants.{Done, TooLong}
use Rattle.mapt_tool.specs.Course.{Course}
use Rattle.mapt_tool.specs.Planned.{Planned}
use Rattle.mapt_tool.specs.Reading.{Read, Next, gives, refuses, wants, AreOf}
use Rattle.mapt_tool.specs.Request.{Request}

-- handed these files, the step comes to this
pub record Comes {A : Type 0} (Step : List Read → Next A Status → Type 0) (files : Files) (next : Next A Status) : Type 0 where
  pub reads : List Read
  pub held : AreOf files reads
  pub reached : Step reads next

-- a file that is wanted has more octets than it may have
pub record ComesTooFar {A : Type 0} (Step : List Read → Next A Status → Type 0) (files : Files) (file : FileId) : Type 0 where
  pub name : List ℕ
  pub limit : ℕ
  pub wanted : Comes Step files (wants file name limit)
  pub longer : limit < length (content_of files name)

abbrev pub OutcomeOf : {A : Type 0} → (List Read → Next A Status → Type 0) → Files → Result A Status → Type 0
OutcomeOf Step files (Ok x) = Comes Step files (gives x)
OutcomeOf Step files (Err (TooLong file)) = ComesTooFar Step files file
OutcomeOf Step files (Err refusal) = Comes Step files (refuses refusal)

abbrev pub Outcome : Request → Files → Result Planned Status → Type 0
Outcome request files answer = OutcomeOf (Course request) files answer

-- the status that tells an outcome
abbrev pub telling : Result Planned Status → Status
telling (Ok plan) = Done
telling (Err refusal) = refusal
