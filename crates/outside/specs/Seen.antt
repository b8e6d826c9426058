-- The outside as a value: what is seen of a folder and of a sink, and what one call of them makes of it.
use Rattle.std.specs.Prelude.{◌≡◌, ℕ, List, Option, Some, Result, Ok, Err}
use Rattle.octets.specs.Count.{Rose, counted}
use Rattle.outside.specs.Files.{Files, IsPiece, SameBut, put_if_told}
use Rattle.outside.specs.Text.{gained, GainedBeginning}
use Rattle.outside.specs.declared.file_id.FileId.{FileId}
use Rattle.outside.specs.declared.file_id.Failure.{Failure}
use Rattle.outside.specs.declared.file_id.Operation.{Operation}
use Rattle.outside.specs.declared.file_id.Operation.TheVariants.{Read, Write}
use Rattle.outside.specs.declared.file_id.OutFault.{OutFault}
use Rattle.outside.specs.declared.file_id.OutFault.TheVariants.{Failed, NoMemory}

-- what is seen of a folder: its files, where it tells them, the octets that it handed out, its calls that
-- failed, and the last one of these
pub record FolderSeen : Type 0 where
  pub files : Option Files
  pub handed : ℕ
  pub faults : ℕ
  pub last : Option Failure

-- what is seen of a sink: its text, where it tells it, and its calls that failed
pub record SinkSeen : Type 0 where
  pub written : Option (List ℕ)
  pub faults : ℕ

-- a call of this file failed, and nothing else is seen of it but what the file holds
pub record CallFailed (old new : FolderSeen) (file : FileId) (operation : Operation) : Type 0 where
  pub rose : Rose old.faults new.faults
  pub last : new.last ≡ Some (record { file = file; operation = operation })
  pub handed : new.handed ≡ old.handed

-- a place in a file: which file of the command is meant, its name, and an offset in it
pub record Place : Type 0 where
  pub file : FileId
  pub name : List ℕ
  pub offset : ℕ

-- a read of a piece of a file from a place on, by its answer
abbrev pub ReadEnds : FolderSeen → FolderSeen → Place → List ℕ → Result ℕ OutFault → Type 0
ReadEnds old new place buffer (Ok n) =
    (new ≡ record old { handed = counted old.handed n }) × IsPiece old.files place.name place.offset n buffer
ReadEnds old new place buffer (Err Failed) = CallFailed old new place.file Read × (new.files ≡ old.files)
ReadEnds old new place buffer (Err NoMemory) = new ≡ old

-- a file that is written: which one of the command is meant, its name, and all that it is to hold
pub record Content : Type 0 where
  pub file : FileId
  pub name : List ℕ
  pub octets : List ℕ

-- a write of a file, by its answer; after a failure the named file may hold anything
abbrev pub WriteEnds : FolderSeen → FolderSeen → Content → Result (Unit {0}) OutFault → Type 0
WriteEnds old new content (Ok _) = new ≡ record old { files = put_if_told old.files content.name content.octets }
WriteEnds old new content (Err Failed) = CallFailed old new content.file Write × SameBut content.name old.files new.files
WriteEnds old new content (Err NoMemory) = new ≡ old

-- a text that is put on a sink, by the answer; after a failure a beginning of it may stand there
abbrev pub PutEnds : SinkSeen → SinkSeen → List ℕ → Result (Unit {0}) OutFault → Type 0
PutEnds old new octets (Ok _) = new ≡ record old { written = gained old.written octets }
PutEnds old new octets (Err Failed) = Rose old.faults new.faults × GainedBeginning old.written new.written octets
PutEnds old new octets (Err NoMemory) = new ≡ old
