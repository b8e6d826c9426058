-- Steps that read files: what a step comes to, by the files that were handed to it, in their order. A step is a
-- relation between these files and what comes next, for any kind of fault.
use Rattle.std.specs.Prelude.{◌≡◌, ◌⊎◌, ℕ, ◌≤◌, List, [], ◌∷◌, ◌++◌, length, All, Result, Ok, Err}
use Rattle.std.specs.List.{sum_by}
use Rattle.outside.specs.Files.{Files, content_of}
use Rattle.outside.specs.declared.file_id.FileId.{FileId}

-- a file that was handed out whole
pub record Read : Type 0 where
  pub file : FileId
  pub name : List ℕ
  pub octets : List ℕ

-- their octets
abbrev pub octets_of : List Read → ℕ
octets_of reads = sum_by (λ r. length r.octets) reads

-- What comes next: a value, a refusal, the next file with the most octets that it may have, or want of memory.
pub data Next (A E : Type 0) : Type 0 where
  gives : A → Next A E
  refuses : E → Next A E
  wants : FileId → List ℕ → ℕ → Next A E
  lacks : Next A E

-- a step that reads nothing, and answers by this relation unless memory runs out
abbrev pub Answers : {A E : Type 0} → (Result A E → Type 0) → List Read → Next A E → Type 0
Answers IsAnswer reads (gives x) = (reads ≡ []) × IsAnswer (Ok x)
Answers IsAnswer reads (refuses fault) = (reads ≡ []) × IsAnswer (Err fault)
Answers IsAnswer reads (wants file name limit) = ⊥
Answers IsAnswer reads lacks = reads ≡ []

-- a step that reads this file, which may have so many octets, and gives them
abbrev pub Reads : {E : Type 0} → FileId → List ℕ → ℕ → List Read → Next (List ℕ) E → Type 0
Reads file name limit reads (gives octets) =
    (reads ≡ record { file = file; name = name; octets = octets } ∷ []) × (length octets ≤ limit)
Reads file name limit reads (refuses fault) = ⊥
Reads file name limit reads (wants next named most) = (reads ≡ []) × (next ≡ file) × (named ≡ name) × (most ≡ limit)
Reads file name limit reads lacks = reads ≡ []

-- a first step gives a value, and the second one, which takes that, comes to this
pub record Goes {A B E : Type 0} (First : List Read → Next A E → Type 0) (Second : A → List Read → Next B E → Type 0)
    (reads : List Read) (next : Next B E) : Type 0 where
  pub value : A
  pub front : List Read
  pub back : List Read
  pub parts : reads ≡ front ++ back
  pub first : First front (gives value)
  pub second : Second value back next

-- one step after another
abbrev pub Then : {A B E : Type 0} → (List Read → Next A E → Type 0) → (A → List Read → Next B E → Type 0)
    → List Read → Next B E → Type 0
Then First Second reads (gives y) = Goes First Second reads (gives y)
Then First Second reads (refuses fault) = First reads (refuses fault) ⊎ Goes First Second reads (refuses fault)
Then First Second reads (wants file name limit) = First reads (wants file name limit) ⊎ Goes First Second reads (wants file name limit)
Then First Second reads lacks = First reads lacks ⊎ Goes First Second reads lacks

-- the files hold what was handed out of them
abbrev pub AreOf : Files → List Read → Type 0
AreOf files reads = All (λ r. r.octets ≡ content_of files r.name) reads
