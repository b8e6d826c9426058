-- Facts of one answer.
use Rattle.std.proofs.Common.{◌≡◌, ap}
use Rattle.std.specs.Prelude.{Result, Ok, Err, IfOk, Option, Some, None}
use Rattle.std.specs.Option.{option_map}

-- two are one
pub both : {A E : Type 0} (P Q : A → Type 0) (r : Result A E) → IfOk r P → IfOk r Q → IfOk r (λ x. P x × Q x)
both P Q (Ok x) p q = (p, q)
both P Q (Err e) p q = tt

-- what follows from a fact of the value is one too
pub follows : {A E : Type 0} (P Q : A → Type 0) (r : Result A E) → ((x : A) → P x → Q x) → IfOk r P → IfOk r Q
follows P Q (Ok x) step p = step x p
follows P Q (Err e) step p = tt

-- an option that is mapped twice
pub mapped : {A B C : Type 0} (f : A → B) (g : B → C) (o : Option A) (b : B) → option_map f o ≡ Some b → option_map (λ a. g (f a)) o ≡ Some (g b)
mapped f g None b e = cc
mapped f g (Some a) b e = let same : f a ≡ b = cc in ap (λ x. Some (g x)) same
