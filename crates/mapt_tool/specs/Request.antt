-- What a user may ask for, and the words of the command line that ask for it.
use Rattle.std.specs.Prelude.{◌≡◌, ◌≢◌, ℕ, suc, ◌^◌, ◌<◌, ◌≤◌, List, [], ◌∷◌, ◌++◌, length, take, codes}
use Rattle.std.specs.Fmt.{decimal}
use Rattle.octets.specs.Text4.{text4}

-- a request, with the names of files, numbers and an address that it gives
pub data Request : Type 0 where
  replay : List ℕ → List ℕ → Request
  rules : List ℕ → ℕ → Request
  owner : List ℕ → ℕ → ℕ → ℕ → Request
  options : List ℕ → Request

-- the words that spell it: a number by its decimal digits, an address by its text
abbrev pub words_of : Request → List (List ℕ)
words_of (replay config prefix) = codes "replay" ∷ config ∷ prefix ∷ []
words_of (rules config generation) = codes "rules" ∷ config ∷ decimal generation ∷ []
words_of (owner config generation addr port) =
    codes "owner" ∷ config ∷ decimal generation ∷ text4 addr ∷ decimal port ∷ []
words_of (options file) = codes "options" ∷ file ∷ []

-- a file has a name; a generation's number is at most 64; an address has 32 bits, and a port 16
abbrev pub IsAskable : Request → Type 0
IsAskable (replay config prefix) = config ≢ []
IsAskable (rules config generation) = (config ≢ []) × (generation ≤ 64)
IsAskable (owner config generation addr port) = (config ≢ []) × (generation ≤ 64) × (addr < 2 ^ 32) × (port ≤ 65535)
IsAskable (options file) = file ≢ []

-- the words ask for this
pub record Asks (words : List (List ℕ)) (request : Request) : Type 0 where
  pub spelled : words ≡ words_of request
  pub askable : IsAskable request

-- the words begin a form: with others behind them they ask for something
pub record Begins (words : List (List ℕ)) : Type 0 where
  pub request : Request
  pub others : List (List ℕ)
  pub whole : Asks (words ++ others) request

-- The words are no form, and this many of them, from the first on, begin one: so it is the place of the first
-- word that no form can go on with, or the number of words where all of them begin one.
pub record IsUsage (words : List (List ℕ)) (number : ℕ) : Type 0 where
  pub none : (request : Request) → Asks words request → ⊥
  pub within : number ≤ length words
  pub begun : Begins (take number words)
  pub most : number < length words → Begins (take (suc number) words) → ⊥
