-- What a command does to the outside, where it does all of it.
use Rattle.std.specs.Prelude.{ℕ, List, [], ◌∷◌, Option}
use Rattle.outside.specs.Files.{Files, put_if_told}
use Rattle.mapt_tool.specs.declared.plan.FileWrite.{FileWrite}

-- files in their order, and then text for the sink
pub record Planned : Type 0 where
  pub writes : List FileWrite
  pub text : List ℕ

abbrev pub nothing_planned : Planned
nothing_planned = record { writes = []; text = [] }

-- text for the sink, and no file
abbrev pub says : List ℕ → Planned
says text = record { writes = []; text = text }

-- the files after these writes, one after the other
abbrev pub written_over : Option Files → List FileWrite → Option Files
written_over files [] = files
written_over files (w ∷ ws) = written_over (put_if_told files w.name w.bytes) ws
