-- Reading a file piece by piece.
use Rattle.std.proofs.Common.{◌≡◌, ℕ, ◌+◌, ◌≤◌, List, [], ◌++◌, length, take, Option, None, Some, refl, sym, ap, ◌∙◌, arith, take-add}
use Rattle.std.proofs.lemmas.List.{length-append, length-take}
use Rattle.outside.specs.Files.{Files, content_of, IsPiece}
use Rattle.outside.specs.Seen.{FolderSeen}
use Rattle.mapt_tool.specs.Ended.{handing}
use Rattle.mapt_tool.specs.Pieces.{HoldsFrom}

-- the octets so far are the file's first ones, and all that was handed out
pub record HasRead (old now : FolderSeen) (name octets : List ℕ) (limit room : ℕ) : Type 0 where
  pub holds : HoldsFrom old.files name octets
  pub seen : now ≡ handing old (length octets)
  pub within : length octets ≤ limit + 1
  pub piece : room ≡ 65536

-- a piece goes on where the octets so far end
pub goes_on : (files : Option Files) (name octets buffer : List ℕ) (n : ℕ) → n ≤ length buffer → IsPiece files name (length octets) n buffer → HoldsFrom files name octets → HoldsFrom files name (octets ++ take n buffer)
goes_on None name octets buffer n fits piece holds = tt
goes_on (Some files) name octets buffer n fits piece holds =
    let content = content_of files name in
    let len : length (octets ++ take n buffer) ≡ length octets + n = omega (arith, length-append octets (take n buffer), length-take n buffer) in
    ap (λ (front : List ℕ). front ++ take n buffer) holds ∙ ap (λ (back : List ℕ). take (length octets) content ++ back) piece.octets ∙ sym (take-add (length octets) n content) ∙ ap (λ (k : ℕ). take k content) (sym len)

-- no octets are the first ones of any file
pub holds_none : (files : Option Files) (name : List ℕ) → HoldsFrom files name []
holds_none None name = tt
holds_none (Some files) name = refl
