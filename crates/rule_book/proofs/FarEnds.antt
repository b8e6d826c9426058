-- The source under a rule, beside the port set that was read with it.
use Rattle.std.proofs.Common.{◌≡◌, ℕ, Bool, true, false, refl, sym, ap, ◌∙◌, ◌↔◌}
use Rattle.std.specs.Prelude.{Some, if◌then◌else◌}
use Rattle.std.specs.Option.{option_map_or}
use Rattle.port_set.specs.PortSet.{in_set}
use Rattle.map_rules.specs.declared.rule.Rule.{Rule}
use Rattle.map_rules.specs.Rule.{psid_len, source_of}
use Rattle.rule_book.specs.declared.view.FarOf.TheVariants.{Addr, Spoofed}
use Rattle.rule_book.specs.Far.{far_with, far_under}

-- two tests that tell the same are one
same_test : (b d : Bool) → (b ≡ true ↔ d ≡ true) → b ≡ d
same_test true d tells = sym (tells.0 refl)
same_test false true tells = tells.1 refl
same_test false false tells = refl

pub far_under-by_set : (rule : Rule) (s port addr v a k : ℕ) (has : Bool) → Some (addr, v) ≡ source_of rule s → (a ≡ rule.offset) × (k ≡ psid_len rule) → (has ≡ true ↔ in_set a k v port ≡ true) → far_under rule s port ≡ (if has then Addr (record { 0 = addr }) else Spoofed)
far_under-by_set rule s port addr v a k has is shape tells =
    let inside : in_set rule.offset (psid_len rule) v port ≡ has = sym (same_test has (in_set a k v port) tells ∙ ap (λ x. in_set x k v port) shape.0 ∙ ap (λ x. in_set rule.offset x v port) shape.1) in
    ap (λ o. option_map_or (far_with rule port) o Spoofed) (sym is) ∙ ap (λ b. if b then Addr (record { 0 = addr }) else Spoofed) inside
