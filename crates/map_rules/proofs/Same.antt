-- Rules, default mapping rules and edges of the same parts are the same.
use Rattle.std.proofs.Common.{◌≡◌, ◌+◌, ◌-◌, ◌≤◌, ℕ, Bool, true, false, refl, rules, tests}
use Rattle.std.specs.Prelude.{◌&&◌, nat_eq}
use Rattle.std.specs.Bool.{beq}
use Rattle.std.proofs.Math.Bool.{Bool-set}
use native.Mathlib.Bridge.{le_prop}
use mathlib.Core.HLevel.{is_prop→PathP}
use Rattle.std.proofs.lemmas.Bool.{eqb-true}
use Rattle.octets.proofs.Same.{both_true, passes_same, eq_prefix4, eq_prefix6, prefix4_told, prefix6_told}
use Rattle.port_set.proofs.Same.{eq_set, set_told}
use Rattle.map_rules.specs.Embedding.{is_embedding_prefix}
use Rattle.map_rules.specs.declared.rule.Rule.{Rule}
use Rattle.map_rules.specs.declared.rule.EdgeId.{EdgeId}
use Rattle.map_rules.specs.declared.dmr.Dmr.{Dmr}

pub same_dmr : (d e : Dmr) → d.prefix ≡ e.prefix → d ≡ e
same_dmr d e prefix = λ i. record {
  prefix = prefix i;
  valid = is_prop→PathP (λ j. is_embedding_prefix (prefix j).bits (prefix j).len ≡ true) (λ j. Bool-set _ _) d.valid e.valid i;
}

pub same_rule : (r s : Rule) → r.prefix6 ≡ s.prefix6 → r.prefix4 ≡ s.prefix4 → r.ea ≡ s.ea → r.offset ≡ s.offset → r.forward ≡ s.forward → r ≡ s
same_rule r s prefix6 prefix4 ea offset forward = λ i. record {
  prefix6 = prefix6 i;
  prefix4 = prefix4 i;
  ea = ea i;
  offset = offset i;
  forward = forward i;
  ea_most = is_prop→PathP (λ j. ea j ≤ 32) (λ j. le_prop) r.ea_most s.ea_most i;
  ea_least = is_prop→PathP (λ j. 32 ≤ ea j + (prefix4 j).len) (λ j. le_prop) r.ea_least s.ea_least i;
  edge_length = is_prop→PathP (λ j. (prefix6 j).len + ea j ≤ 64) (λ j. le_prop) r.edge_length s.edge_length i;
  offset_most = is_prop→PathP (λ j. offset j ≤ 15) (λ j. le_prop) r.offset_most s.offset_most i;
  psid_most = is_prop→PathP (λ j. ea j + (prefix4 j).len - 32 ≤ 16 - offset j) (λ j. le_prop) r.psid_most s.psid_most i;
}

same_edge : (e f : EdgeId) → e.addr.0 ≡ f.addr.0 → e.ports ≡ f.ports → e.own6.0 ≡ f.own6.0 → e ≡ f
same_edge e f addr ports own = λ i. record { addr = record { 0 = addr i }; ports = ports i; own6 = record { 0 = own i } }

-- ---- what `==` of their parts tells

pub same_flag : (b d : Bool) → beq b d ≡ true → b ≡ d
same_flag true true e = refl
same_flag true false e = cc
same_flag false true e = cc
same_flag false false e = refl

pub flag_same : (b : Bool) → beq b b ≡ true
flag_same true = refl
flag_same false = refl

pub both_pass : (p q : Bool) → p ≡ true → q ≡ true → (p && q) ≡ true
both_pass p q is also = rw (is, also) refl

abbrev pub eq_rule : Rule → Rule → Bool
eq_rule r s = eq_prefix6 r.prefix6 s.prefix6 && (eq_prefix4 r.prefix4 s.prefix4 && (nat_eq r.ea s.ea && (nat_eq r.offset s.offset && beq r.forward s.forward)))

abbrev eq_dmr : Dmr → Dmr → Bool
eq_dmr d e = eq_prefix6 d.prefix e.prefix

abbrev eq_edge : EdgeId → EdgeId → Bool
eq_edge e f = nat_eq e.addr.0 f.addr.0 && (eq_set e.ports f.ports && nat_eq e.own6.0 f.own6.0)

pub number_same : (n : ℕ) → nat_eq n n ≡ true
number_same n = search (rules, tests)

rule_same : (r : Rule) → eq_rule r r ≡ true
rule_same r =
    both_pass (eq_prefix6 r.prefix6 r.prefix6) _ ((prefix6_told r.prefix6 r.prefix6).1 refl) (both_pass (eq_prefix4 r.prefix4 r.prefix4) _ ((prefix4_told r.prefix4 r.prefix4).1 refl) (both_pass (nat_eq r.ea r.ea) _ (number_same r.ea) (both_pass (nat_eq r.offset r.offset) _ (number_same r.offset) (flag_same r.forward))))

edge_same : (e : EdgeId) → eq_edge e e ≡ true
edge_same e =
    both_pass (nat_eq e.addr.0 e.addr.0) _ (number_same e.addr.0) (both_pass (eq_set e.ports e.ports) _ ((set_told e.ports e.ports).1 refl) (number_same e.own6.0))

pub rule_told : (r s : Rule) → (eq_rule r s ≡ true → r ≡ s) × (r ≡ s → eq_rule r s ≡ true)
rule_told r s = (
  λ e.
      let a = both_true (eq_prefix6 r.prefix6 s.prefix6) _ e in
      let b = both_true (eq_prefix4 r.prefix4 s.prefix4) _ a.1 in
      let c = both_true (nat_eq r.ea s.ea) _ b.1 in
      let d = both_true (nat_eq r.offset s.offset) _ c.1 in
      same_rule r s ((prefix6_told r.prefix6 s.prefix6).0 a.0) ((prefix4_told r.prefix4 s.prefix4).0 b.0) (eqb-true r.ea s.ea c.0) (eqb-true r.offset s.offset d.0) (same_flag r.forward s.forward d.1),
  passes_same eq_rule rule_same r s,
)

pub dmr_told : (d e : Dmr) → (eq_dmr d e ≡ true → d ≡ e) × (d ≡ e → eq_dmr d e ≡ true)
dmr_told d e =
    (λ t. same_dmr d e ((prefix6_told d.prefix e.prefix).0 t), passes_same eq_dmr (λ x. (prefix6_told x.prefix x.prefix).1 refl) d e)

pub edge_told : (e f : EdgeId) → (eq_edge e f ≡ true → e ≡ f) × (e ≡ f → eq_edge e f ≡ true)
edge_told e f = (
  λ t.
      let a = both_true (nat_eq e.addr.0 f.addr.0) _ t in
      let b = both_true (eq_set e.ports f.ports) _ a.1 in
      same_edge e f (eqb-true e.addr.0 f.addr.0 a.0) ((set_told e.ports f.ports).0 b.0) (eqb-true e.own6.0 f.own6.0 b.1),
  passes_same eq_edge edge_same e f,
)
