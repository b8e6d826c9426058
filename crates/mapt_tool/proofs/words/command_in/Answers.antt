use Rattle.std.proofs.Common.{◌≡◌, ℕ, ◌≤◌, ◌<◌, List, [], ◌∷◌, length, get_or, map, refl, arith}
use Rattle.std.specs.String.{string_bytes}
use Rattle.mapt_tool.proofs.words.command_in.Goals as goal

-- a list of five is its five items
five : {X : Type 0} (f : X → List ℕ) (xs : List X) (a b c d e : X) → 5 ≤ length xs → length xs < 6 → a ≡ get_or xs 0 a → b ≡ get_or xs 1 b → c ≡ get_or xs 2 c → d ≡ get_or xs 3 d → e ≡ get_or xs 4 e → map f xs ≡ f a ∷ f b ∷ f c ∷ f d ∷ f e ∷ []
five f [] a b c d e least most p q r s t = absurd (omega arith)
five f (v ∷ []) a b c d e least most p q r s t = absurd (omega arith)
five f (v ∷ w ∷ []) a b c d e least most p q r s t = absurd (omega arith)
five f (v ∷ w ∷ x ∷ []) a b c d e least most p q r s t = absurd (omega arith)
five f (v ∷ w ∷ x ∷ y ∷ []) a b c d e least most p q r s t = absurd (omega arith)
five f (v ∷ w ∷ x ∷ y ∷ z ∷ []) a b c d e least most p q r s t = rw (p, q, r, s, t) refl
five f (v ∷ w ∷ x ∷ y ∷ z ∷ u ∷ more) a b c d e least most p q r s t = absurd (omega arith)

pub returns-in-len5-clause-none : goal.returns-in-len5-clause-none
returns-in-len5-clause-none c =
    let words = five string_bytes c.args.words.now c.verb-item-then-words-lt6.result c.config-item-then-words-lt6.result c.generation-item.result c.addr-item.result c.port-item.result c.in-len5.len_at_least c.in-len5.len_below
    c.verb-item-then-words-lt6.is c.config-item-then-words-lt6.is c.generation-item.is c.addr-item.is c.port-item.is in
    rw words (rw (c.as_str-in-len5.ensures.value, c.as_str-in-len5-2.ensures.value, c.as_str-in-len5-3.ensures.value, c.as_str-in-len5-4.ensures.value, c.as_str-in-len5-5.ensures.value) at c.owner_of.ensures.none)
