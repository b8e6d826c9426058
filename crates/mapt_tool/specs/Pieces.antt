-- A file that is read piece by piece.
use Rattle.std.specs.Prelude.{◌≡◌, ℕ, ◌≤◌, List, length, take, Option, Some, None, ⊤}
use Rattle.outside.specs.Files.{Files, content_of}
use Rattle.outside.specs.Seen.{FolderSeen, CallFailed}
use Rattle.outside.specs.declared.file_id.FileId.{FileId}
use Rattle.outside.specs.declared.file_id.Operation.TheVariants.{Read}
use Rattle.mapt_tool.specs.declared.status.Status.{Status}
use Rattle.mapt_tool.specs.declared.status.Status.TheVariants.{ReadFault, NoMemory}
use Rattle.mapt_tool.specs.Ended.{handing}

-- the octets are the file's first ones, where the folder tells
abbrev pub HoldsFrom : Option Files → List ℕ → List ℕ → Type 0
HoldsFrom None name octets = ⊤
HoldsFrom (Some files) name octets = octets ≡ take (length octets) (content_of files name)

-- the octets are the file's, where the folder tells
abbrev pub IsContent : Option Files → List ℕ → List ℕ → Type 0
IsContent None name octets = ⊤
IsContent (Some files) name octets = octets ≡ content_of files name

-- why a piece of this file wasn't read, of at most so many octets
abbrev pub PieceFails : FolderSeen → FolderSeen → FileId → ℕ → Status → Type 0
PieceFails old new file room (ReadFault named) = (named ≡ file) × CallFailed old new file Read × (new.files ≡ old.files)
PieceFails old new file room NoMemory = (n : ℕ) × (n ≤ room) × (new ≡ handing old n)
PieceFails old new file room other = ⊥
