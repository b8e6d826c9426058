-- Octets are read in one way.
use Rattle.std.proofs.Common.{◌≡◌, ℕ, Bool, true, false, List, [], ◌∷◌, drop, refl, sym, ap, ◌∙◌, arith}
use Rattle.std.proofs.lemmas.Bool.{eq-eqb}
use Rattle.std.specs.List.{AllZip}
use Rattle.octets.specs.Bits.{bit_of}
use Rattle.octets.specs.declared.prefix.Prefix4.{Prefix4}
use Rattle.octets.specs.declared.prefix.Prefix6.{Prefix6}
use Rattle.octets.proofs.Same.{same_prefix4, same_prefix6}
use Rattle.s46_options.specs.declared.subs.Sub.{Sub}
use Rattle.s46_options.specs.declared.subs.Sub.TheVariants as sub
use Rattle.s46_options.specs.declared.item.Item.{Item}
use Rattle.s46_options.specs.declared.item.Item.TheVariants as item
use Rattle.s46_options.specs.Options.{DhcpOption, cut}
use Rattle.s46_options.specs.Faults.{has_code, subs_of}
use Rattle.s46_options.specs.Reading.{ReadsSub, ReadsItem, ReadsContainer}

all_one : {A : Type 0} (R : DhcpOption → A → Type 0) → ((o : DhcpOption) (x y : A) → R o x → R o y → x ≡ y) → (os : List DhcpOption) (xs ys : List A) → AllZip R os xs → AllZip R os ys → xs ≡ ys
all_one {A} R one [] [] [] h g = refl
all_one {A} R one [] [] (y ∷ ys) h g = absurd g
all_one {A} R one [] (x ∷ xs) ys h g = absurd h
all_one {A} R one (o ∷ os) [] ys h g = absurd h
all_one {A} R one (o ∷ os) (x ∷ xs) [] h g = absurd g
all_one {A} R one (o ∷ os) (x ∷ xs) (y ∷ ys) h g = ap (λ (v : A). v ∷ xs) (one o x y h.0 g.0) ∙ ap (λ (vs : List A). y ∷ vs) (all_one R one os xs ys h.1 g.1)

true_false : true ≡ false → ⊥
true_false h = cc

-- an option of a known code isn't another one
known : (code : ℕ) (o : DhcpOption) → o.code ≡ code → has_code code o ≡ false → ⊥
known code o is other = true_false (sym (eq-eqb o.code code is) ∙ other)

rule_or_dmr : (o : DhcpOption) → o.code ≡ 89 → o.code ≡ 91 → ⊥
rule_or_dmr o a b = let e : 89 ≡ 91 = sym a ∙ b in omega (arith, e)

same_flag : (f g : Bool) → bit_of f ≡ bit_of g → f ≡ g
same_flag true true h = refl
same_flag true false h = absurd (omega (arith, h))
same_flag false true h = absurd (omega (arith, h))
same_flag false false h = refl

one_sub : (o : DhcpOption) (x y : Sub) → ReadsSub o x → ReadsSub o y → x ≡ y
one_sub o (sub.Params a b c) (sub.Params d e f) h g =
    ap (λ (n : ℕ). sub.Params n b c) (h.1 ∙ sym g.1) ∙ ap (λ (n : ℕ). sub.Params d n c) (h.2 ∙ sym g.2) ∙ ap (λ (n : ℕ). sub.Params d e n) (h.3 ∙ sym g.3)
one_sub o (sub.Params a b c) (sub.Other d e) h g = absurd (known 93 o h.0 g.0)
one_sub o (sub.Other a b) (sub.Params d e f) h g = absurd (known 93 o g.0 h.0)
one_sub o (sub.Other a b) (sub.Other d e) h g =
    ap (λ (n : ℕ). sub.Other n b) (h.1 ∙ sym g.1) ∙ ap (λ (xs : List ℕ). sub.Other d xs) (h.2 ∙ sym g.2)

one_item : (o : DhcpOption) (x y : Item) → ReadsItem o x → ReadsItem o y → x ≡ y
one_item o (item.Rule flag ea p4 p6 subs) (item.Rule flag' ea' p4' p6' subs') h g =
    ap (λ (z : Bool). item.Rule z ea p4 p6 subs) (same_flag flag flag' (h.1 ∙ sym g.1))
    ∙ ap (λ (z : ℕ). item.Rule flag' z p4 p6 subs) (h.2 ∙ sym g.2)
    ∙ ap (λ (z : Prefix4). item.Rule flag' ea' z p6 subs) (same_prefix4 p4 p4' (h.4 ∙ sym g.4) (h.3 ∙ sym g.3))
    ∙ ap (λ (z : Prefix6). item.Rule flag' ea' p4' z subs) (same_prefix6 p6 p6' (h.6 ∙ sym g.6) (h.5 ∙ sym g.5))
    ∙ ap (λ (z : List Sub). item.Rule flag' ea' p4' p6' z) (all_one ReadsSub one_sub (subs_of o.octets).options subs subs' h.7 g.7)
one_item o (item.Rule flag ea p4 p6 subs) (item.Dmr p) h g = absurd (rule_or_dmr o h.0 g.0)
one_item o (item.Rule flag ea p4 p6 subs) (item.Other c os) h g = absurd (known 89 o h.0 g.0)
one_item o (item.Dmr p) (item.Rule flag ea p4 p6 subs) h g = absurd (rule_or_dmr o g.0 h.0)
one_item o (item.Dmr p) (item.Dmr q) h g = ap (λ (z : Prefix6). item.Dmr z) (same_prefix6 p q (h.2 ∙ sym g.2) (h.1 ∙ sym g.1))
one_item o (item.Dmr p) (item.Other c os) h g = absurd (known 91 o h.0 g.1)
one_item o (item.Other c os) (item.Rule flag ea p4 p6 subs) h g = absurd (known 89 o g.0 h.0)
one_item o (item.Other c os) (item.Dmr p) h g = absurd (known 91 o g.0 h.1)
one_item o (item.Other c os) (item.Other d ps) h g =
    ap (λ (n : ℕ). item.Other n os) (h.2 ∙ sym g.2) ∙ ap (λ (xs : List ℕ). item.Other d xs) (h.3 ∙ sym g.3)

-- octets read as one list of items
pub one_container : (octets : List ℕ) (xs ys : List Item) → ReadsContainer octets xs → ReadsContainer octets ys → xs ≡ ys
one_container octets xs ys h g = all_one ReadsItem one_item (cut (drop 4 octets)).options xs ys h g
