-- What a sink holds, where it tells.
use Rattle.std.specs.Prelude.{◌≡◌, ℕ, List, ◌++◌, Option, Some, None, ⊤}

abbrev pub gained : Option (List ℕ) → List ℕ → Option (List ℕ)
gained None octets = None
gained (Some text) octets = Some (text ++ octets)

-- a beginning of these octets was added
abbrev pub GainedBeginning : Option (List ℕ) → Option (List ℕ) → List ℕ → Type 0
GainedBeginning None None octets = ⊤
GainedBeginning (Some old) (Some new) octets = (front back : List ℕ) × (octets ≡ front ++ back) × (new ≡ old ++ front)
GainedBeginning None (Some new) octets = ⊥
GainedBeginning (Some old) None octets = ⊥
