-- What a step that reads made of the folder, by how it ended.
use Rattle.std.specs.Prelude.{◌≡◌, ◌⊎◌, ℕ, ◌+◌, ◌<◌, ◌≤◌, List, length, Option, Some, None, Result, Ok, Err, ⊤}
use Rattle.octets.specs.Count.{counted}
use Rattle.outside.specs.Files.{Files, content_of}
use Rattle.outside.specs.Seen.{FolderSeen, CallFailed}
use Rattle.outside.specs.declared.file_id.FileId.{FileId}
use Rattle.outside.specs.declared.file_id.Operation.TheVariants.{Read as Reading}
use Rattle.mapt_tool.specs.declared.status.Status.{Status}
use Rattle.mapt_tool.specs.declared.status.Status.TheVariants.{Done, Usage, ReadFault, WriteFault, TooLong, NoMemory}
use Rattle.mapt_tool.specs.Reading.{Read, Next, gives, refuses, wants, lacks, octets_of, AreOf}

-- this was handed out, where the folder tells its files
abbrev pub AreToldOf : Option Files → List Read → Type 0
AreToldOf None reads = ⊤
AreToldOf (Some files) reads = AreOf files reads

-- the file has more octets than this, where the folder tells
abbrev pub IsToldLonger : Option Files → List ℕ → ℕ → Type 0
IsToldLonger None name limit = ⊤
IsToldLonger (Some files) name limit = limit < length (content_of files name)

-- the folder with so many more octets handed out
abbrev pub handing : FolderSeen → ℕ → FolderSeen
handing folder more = record folder { handed = counted folder.handed more }

-- these files were handed out whole, and nothing else was asked of the folder
pub record HandedOut (old new : FolderSeen) (reads : List Read) : Type 0 where
  pub seen : new ≡ handing old (octets_of reads)
  pub told : AreToldOf old.files reads

-- after these files the step comes to this
pub record ComesTo {A E : Type 0} (Step : List Read → Next A E → Type 0) (old new : FolderSeen) (next : Next A E) : Type 0 where
  pub reads : List Read
  pub handed : HandedOut old new reads
  pub reached : Step reads next

-- After some files the step wants this one, of which so many octets were handed out; so far the folder is as here.
pub record Within {A E : Type 0} (Step : List Read → Next A E → Type 0) (old mid : FolderSeen) (file : FileId) (name : List ℕ)
    (limit part : ℕ) : Type 0 where
  pub reads : List Read
  pub seen : mid ≡ handing old (octets_of reads + part)
  pub told : AreToldOf old.files reads
  pub reached : Step reads (wants file name limit)

-- a read of a file that is wanted failed, and that was the last call to fail
pub record ReadFailed {A E : Type 0} (Step : List Read → Next A E → Type 0) (old new : FolderSeen) (file : FileId) : Type 0 where
  pub mid : FolderSeen
  pub name : List ℕ
  pub limit : ℕ
  pub part : ℕ
  pub within : Within Step old mid file name limit part
  pub fits : part ≤ limit
  pub failed : CallFailed mid new file Reading
  pub files : new.files ≡ old.files

-- a file that is wanted is too long: one octet more than it may have was handed out, and no further one
pub record FoundTooLong {A E : Type 0} (Step : List Read → Next A E → Type 0) (old new : FolderSeen) (file : FileId) : Type 0 where
  pub name : List ℕ
  pub limit : ℕ
  pub within : Within Step old new file name limit (limit + 1)
  pub longer : IsToldLonger old.files name limit

-- memory ran out between two steps, or with a file of which so many octets were handed out
pub record LackedWithin {A E : Type 0} (Step : List Read → Next A E → Type 0) (old new : FolderSeen) : Type 0 where
  pub file : FileId
  pub name : List ℕ
  pub limit : ℕ
  pub part : ℕ
  pub within : Within Step old new file name limit part
  pub fits : part ≤ limit + 1

abbrev pub Lacked : {A E : Type 0} → (List Read → Next A E → Type 0) → FolderSeen → FolderSeen → Type 0
Lacked Step old new = ComesTo Step old new lacks ⊎ LackedWithin Step old new

-- all of it; the last row is that of every refusal
abbrev pub Ended : {A : Type 0} → (List Read → Next A Status → Type 0) → FolderSeen → FolderSeen → Result A Status → Type 0
Ended Step old new (Ok x) = ComesTo Step old new (gives x)
Ended Step old new (Err (ReadFault file)) = ReadFailed Step old new file
Ended Step old new (Err (TooLong file)) = FoundTooLong Step old new file
Ended Step old new (Err NoMemory) = Lacked Step old new
Ended Step old new (Err Done) = ⊥
Ended Step old new (Err (Usage number)) = ⊥
Ended Step old new (Err (WriteFault file)) = ⊥
Ended Step old new (Err refusal) = ComesTo Step old new (refuses refusal)

-- what a function that reads nothing answers, unless memory runs out; the last row is that of every refusal
abbrev pub Given : {A : Type 0} → (Result A Status → Type 0) → Result A Status → Type 0
Given IsAnswer (Ok x) = IsAnswer (Ok x)
Given IsAnswer (Err (ReadFault file)) = ⊥
Given IsAnswer (Err (TooLong file)) = ⊥
Given IsAnswer (Err NoMemory) = ⊤
Given IsAnswer (Err Done) = ⊥
Given IsAnswer (Err (Usage number)) = ⊥
Given IsAnswer (Err (WriteFault file)) = ⊥
Given IsAnswer (Err refusal) = IsAnswer (Err refusal)
