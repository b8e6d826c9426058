-- What a call of the program promises: how the outside stands after it, by its status.
use Rattle.std.specs.Prelude.{◌≡◌, ◌⊎◌, ℕ, ◌+◌, List, Some, Result}
use Rattle.octets.specs.Count.{Rose, RoseBy}
use Rattle.outside.specs.Files.{Files}
use Rattle.outside.specs.declared.file_id.FileId.{FileId}
use Rattle.mapt_tool.specs.declared.status.Status.{Status}
use Rattle.mapt_tool.specs.declared.status.Status.TheVariants.{Done, Usage, ReadFault, WriteFault, TooLong, NoMemory}
use Rattle.mapt_tool.specs.Carried.{Outside, Finished, Unfinished, Began}
use Rattle.mapt_tool.specs.Course.{Course}
use Rattle.mapt_tool.specs.Ended.{ComesTo, ReadFailed, FoundTooLong, Lacked}
use Rattle.mapt_tool.specs.Limits.{file_limit}
use Rattle.mapt_tool.specs.Outcome.{Outcome, telling}
use Rattle.mapt_tool.specs.Planned.{Planned}
use Rattle.mapt_tool.specs.Reading.{gives, refuses}
use Rattle.mapt_tool.specs.Request.{Request, Asks, IsUsage}

-- the command's files were read, and this is what it does; nothing was written so far
pub record IsPlanned (request : Request) (old mid : Outside) (plan : Planned) : Type 0 where
  pub read : ComesTo (Course request) old.folder mid.folder (gives plan)
  pub silent : mid.sink ≡ old.sink

-- all that the command does is done
pub record IsDone (request : Request) (old new : Outside) : Type 0 where
  pub mid : Outside
  pub plan : Planned
  pub planned : IsPlanned request old mid plan
  pub finished : Finished mid new plan

-- a read of this file failed, which the command reads after others that it read whole and that refuse nothing
pub record IsUnreadable (request : Request) (old new : Outside) (file : FileId) : Type 0 where
  pub failed : ReadFailed (Course request) old.folder new.folder file
  pub silent : new.sink ≡ old.sink

-- a write of this file failed, and what comes after it isn't done
pub record IsUnwritten (request : Request) (old new : Outside) (file : FileId) : Type 0 where
  pub mid : Outside
  pub plan : Planned
  pub planned : IsPlanned request old mid plan
  pub unfinished : Unfinished mid new plan file

-- this file is too long, which the command reads after others that it read whole and that refuse nothing
pub record IsTooLong (request : Request) (old new : Outside) (file : FileId) : Type 0 where
  pub found : FoundTooLong (Course request) old.folder new.folder file
  pub handed_out : RoseBy (file_limit + 1) old.folder.handed new.folder.handed
  pub silent : new.sink ≡ old.sink

-- the command refuses what it read, and nothing was written
pub record IsRefused (request : Request) (old new : Outside) (refusal : Status) : Type 0 where
  pub read : ComesTo (Course request) old.folder new.folder (refuses refusal)
  pub silent : new.sink ≡ old.sink

-- memory ran out while files were read, or after some of the command's writes, the first ones
pub record IsBegun (request : Request) (old new : Outside) : Type 0 where
  pub mid : Outside
  pub plan : Planned
  pub planned : IsPlanned request old mid plan
  pub begun : Began mid.folder new.folder plan.writes
  pub silent : new.sink ≡ mid.sink

abbrev pub IsLacking : Request → Outside → Outside → Type 0
IsLacking request old new = (Lacked (Course request) old.folder new.folder × (new.sink ≡ old.sink)) ⊎ IsBegun request old new

-- how a command ends, by its status; the last row is that of every refusal
abbrev pub Ends : Request → Outside → Outside → Status → Type 0
Ends request old new Done = IsDone request old new
Ends request old new (Usage number) = ⊥
Ends request old new (ReadFault file) = IsUnreadable request old new file
Ends request old new (WriteFault file) = IsUnwritten request old new file
Ends request old new (TooLong file) = IsTooLong request old new file
Ends request old new NoMemory = IsLacking request old new
Ends request old new refusal = IsRefused request old new refusal

-- no call of the folder or of the sink failed
pub record NothingFailed (old new : Outside) : Type 0 where
  pub folder : Rose old.folder.faults new.folder.faults → ⊥
  pub sink : Rose old.sink.faults new.sink.faults → ⊥

-- the status tells the outcome on these files, or memory ran out
abbrev pub Tells : Status → Result Planned Status → Type 0
Tells status answer = (status ≡ telling answer) ⊎ (status ≡ NoMemory)

-- What the top call promises.
pub record Serves (words : List (List ℕ)) (old new : Outside) (status : Status) : Type 0 where
  -- Words that are no form are answered by Usage, with how many of them begin one. Nothing was read or written.
  pub no_form : ((request : Request) → Asks words request → ⊥)
      → (number : ℕ) × IsUsage words number × (status ≡ Usage number) × (new ≡ old)
  -- Words that ask for something are served, and then Usage doesn't come.
  pub form : (request : Request) → Asks words request → Ends request old new status
  -- Where the folder tells its files and nothing failed, the status tells an outcome on them, or memory ran out.
  pub complete : (request : Request) (files : Files) → Asks words request → old.folder.files ≡ Some files → NothingFailed old new
      → (status ≡ NoMemory) ⊎ ((answer : Result Planned Status) × Outcome request files answer × (status ≡ telling answer))
  -- And an outcome is told by its status: a refusal by that refusal and no other, unless memory ran out.
  pub exact : (request : Request) (files : Files) (answer : Result Planned Status)
      → Asks words request → old.folder.files ≡ Some files → Outcome request files answer → NothingFailed old new → Tells status answer
