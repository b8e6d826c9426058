-- What stands outside after a plan was carried out, by how that ended.
use Rattle.std.specs.Prelude.{◌≡◌, ◌⊎◌, ◌<◌, ℕ, List, ◌∷◌, ◌++◌, length}
use Rattle.octets.specs.Count.{Rose}
use Rattle.outside.specs.Files.{SameBut}
use Rattle.outside.specs.Seen.{FolderSeen, SinkSeen, CallFailed}
use Rattle.outside.specs.Text.{gained, GainedBeginning}
use Rattle.outside.specs.declared.file_id.FileId.{FileId}
use Rattle.outside.specs.declared.file_id.FileId.TheVariants.{Report}
use Rattle.outside.specs.declared.file_id.Operation.TheVariants.{Write}
use Rattle.mapt_tool.specs.declared.plan.FileWrite.{FileWrite}
use Rattle.mapt_tool.specs.declared.status.Status.{Status}
use Rattle.mapt_tool.specs.declared.status.Status.TheVariants.{Done, WriteFault, NoMemory}
use Rattle.mapt_tool.specs.Planned.{Planned, written_over}

-- what is seen of the outside
pub record Outside : Type 0 where
  pub folder : FolderSeen
  pub sink : SinkSeen

-- the folder after these writes
abbrev pub writing : FolderSeen → List FileWrite → FolderSeen
writing folder writes = record folder { files = written_over folder.files writes }

-- a write of this file failed: those before it are done, and all others but the named one are as before
pub record FailedAt (old new : FolderSeen) (writes : List FileWrite) (file : FileId) : Type 0 where
  pub front : List FileWrite
  pub unwritten : FileWrite
  pub back : List FileWrite
  pub parts : writes ≡ front ++ unwritten ∷ back
  pub named : unwritten.file ≡ file
  pub failed : CallFailed (writing old front) new file Write
  pub others : SameBut unwritten.name (written_over old.files front) new.files

-- the first ones of the writes are done, and nothing else
pub record Began (old new : FolderSeen) (writes : List FileWrite) : Type 0 where
  pub front : List FileWrite
  pub back : List FileWrite
  pub parts : writes ≡ front ++ back
  pub begun : new ≡ writing old front

-- how the writing of files ended
abbrev pub Wrote : FolderSeen → FolderSeen → List FileWrite → Status → Type 0
Wrote old new writes Done = new ≡ writing old writes
Wrote old new writes (WriteFault file) = FailedAt old new writes file
Wrote old new writes NoMemory = Began old new writes
Wrote old new writes other = ⊥

-- the putting of a text failed: its first octets may stand there. A text of no octets isn't put
pub record Unsaid (old new : SinkSeen) (text : List ℕ) (file : FileId) : Type 0 where
  pub some : 0 < length text
  pub named : file ≡ Report
  pub failed : Rose old.faults new.faults
  pub beginning : GainedBeginning old.written new.written text

-- how the text was put
abbrev pub Said : SinkSeen → SinkSeen → List ℕ → Status → Type 0
Said old new text Done = new ≡ record old { written = gained old.written text }
Said old new text (WriteFault file) = Unsaid old new text file
Said old new text NoMemory = new ≡ old
Said old new text other = ⊥

-- all is done
abbrev pub Finished : Outside → Outside → Planned → Type 0
Finished old new plan =
    (new.folder ≡ writing old.folder plan.writes) × (new.sink ≡ record old.sink { written = gained old.sink.written plan.text })

-- a write failed: of a file, and then nothing was put on the sink, or of the text, and then all files are done
abbrev pub Unfinished : Outside → Outside → Planned → FileId → Type 0
Unfinished old new plan file =
    (FailedAt old.folder new.folder plan.writes file × (new.sink ≡ old.sink))
    ⊎ ((new.folder ≡ writing old.folder plan.writes) × Said old.sink new.sink plan.text (WriteFault file))

-- how the carrying out ended
abbrev pub Carried : Outside → Outside → Planned → Status → Type 0
Carried old new plan Done = Finished old new plan
Carried old new plan (WriteFault file) = Unfinished old new plan file
Carried old new plan NoMemory = Began old.folder new.folder plan.writes × (new.sink ≡ old.sink)
Carried old new plan other = ⊥
