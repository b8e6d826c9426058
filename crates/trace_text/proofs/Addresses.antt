-- Which IPv4 address stands behind an IPv6 address that a node accepts, and behind those that nodes send to and from.
use Rattle.std.proofs.Common.{◌≡◌, ◌⊎◌, ℕ, suc, ◌+◌, ◌*◌, ◌-◌, ◌/◌, ◌^◌, ◌<◌, ◌≤◌, Bool, true, false, cond, List, [], ◌∷◌, Option, Some, None, inl, inr, refl, sym, ap, ◌∙◌, subst, arith}
use Rattle.std.specs.Prelude.{◌==◌, ◌&&◌, ◌||◌, nat_le, nat_lt, unwrap_or}
use Rattle.std.specs.Option.{option_map_or, option_or}
use Rattle.std.specs.List.{All, filter}
use Rattle.std.proofs.Math.Bool.{or-true}
use Rattle.std.proofs.Math.Nat.{div-lt_iff_lt-mul}
use Rattle.std.proofs.lemmas.Nat.{shr-shr, pow_pos}
use Rattle.std.proofs.lemmas.Bool.{false≢true}
use Rattle.std.proofs.lemmas.List.Elements.{All-filter}
use Rattle.std.proofs.lemmas.Bool.Decides.{nat_tests}
use Rattle.octets.specs.declared.address.Addr4.{Addr4}
use Rattle.octets.specs.declared.prefix.Prefix6.{Prefix6}
use Rattle.port_set.specs.PortSet.{in_set}
use Rattle.map_rules.specs.declared.rule.Rule.{Rule}
use Rattle.map_rules.specs.declared.dmr.Dmr.{Dmr}
use Rattle.map_rules.specs.Address.{carried_addr, carried_psid}
use Rattle.map_rules.specs.Embedding.{embedded, extract_of}
use Rattle.map_rules.specs.Rule.{psid_len, has_address, rule_address, source_of, IsSource, ce6_of, edge_address, edge_psid}
use Rattle.map_rules.proofs.Parts.{power}
use Rattle.map_rules.proofs.Embedded.{embedded-inside}
use Rattle.map_rules.proofs.Rules.{source-addr, edge-has, edge-psid-small, source-ce6, address-inside, address-small}
use Rattle.map_rules.proofs.Sources.{extract_of-found, extract_of-exactly}
use Rattle.rule_book.specs.declared.view.FarOf.TheVariants.{Addr, Spoofed, NotDefault}
use Rattle.rule_book.specs.Far.{has_addr6, far_of, far_by_rule, far_under, far_with, far_embedded}
use Rattle.rule_book.specs.Holder.{Holder, has_edge, holder_under, holder_of}
use Rattle.rule_book.specs.Overlap.{begins6, Overlaps6}
use Rattle.rule_book.specs.Owner.{owner_of, forward_of}
use Rattle.rule_book.proofs.OutsideDefault.{outside_default, first_rule, other_rules, owned_has, below_power}
use Rattle.nat_model.specs.Remote.{reached}
use Rattle.nat_model.specs.State.{Generation}
use Rattle.trace_text.specs.Answered.{AreRulesOf}
use Rattle.trace_text.specs.Behind.{ipv4_behind}
use Rattle.rule_book.specs.Valid.{FitsRule}

-- ---- what is accepted

source_carries : (rule : Rule) (s : ℕ) (source : ℕ × ℕ) → source_of rule s ≡ Some source → carried_addr s ≡ source.0
unfolding source_of
source_carries rule s source e = by (has_address rule (carried_addr s) && (nat_lt (carried_psid s) (2 ^ psid_len rule) && (rule_address rule (carried_addr s) (carried_psid s) == s))) e
  where
    by : (b : Bool) → cond b (Some (carried_addr s, carried_psid s)) None ≡ Some source → carried_addr s ≡ source.0
    by true is = ap (λ (x : ℕ × ℕ). x.0) (same (carried_addr s, carried_psid s) source is)
      where
        same : (x y : ℕ × ℕ) → ◌≡◌ {A = Option (ℕ × ℕ)} (Some x) (Some y) → x ≡ y
        same x y e = cc
    by false is = cc

under_carries : (rule : Rule) (s port : ℕ) (a : Addr4) (source : Option (ℕ × ℕ)) → source_of rule s ≡ source → option_map_or (far_with rule port) source Spoofed ≡ Addr a → carried_addr s ≡ a.0
under_carries rule s port a None is e = cc
under_carries rule s port a (Some source) is e = source_carries rule s source is ∙ by (in_set rule.offset (psid_len rule) source.1 port) e
  where
    by : (b : Bool) → cond b (Addr (record { 0 = source.0 })) Spoofed ≡ Addr a → source.0 ≡ a.0
    by true e = ap (λ (x : Addr4). x.0) (same_addr (record { 0 = source.0 }) a e)
      where
        same_addr : (x y : Addr4) → Addr x ≡ Addr y → x ≡ y
        same_addr x y e = cc
    by false e = cc

rule_carries : (rules : List Rule) (dmr : Dmr) (s port : ℕ) (a : Addr4) → far_by_rule rules s port ≡ Addr a → carried_addr s ≡ a.0
rule_carries [] dmr s port a e = cc
rule_carries (r ∷ rules) dmr s port a e = by (has_addr6 r.prefix6 s) (rule_carries rules dmr s port a) e
  where
    by : (b : Bool) → (far_by_rule rules s port ≡ Addr a → carried_addr s ≡ a.0) → cond b (far_under r s port) (far_by_rule rules s port) ≡ Addr a → carried_addr s ≡ a.0
    by true later is = under_carries r s port a (source_of r s) refl is
    by false later is = later is

embedded_tells : (found : Option ℕ) (a : Addr4) → option_map_or (λ x. Addr (record { 0 = x })) found NotDefault ≡ Addr a → found ≡ Some a.0
embedded_tells None a e = cc
embedded_tells (Some x) a e = ap (λ (y : Addr4). some_number y.0) (same (record { 0 = x }) a e)
  where
    same : (x y : Addr4) → Addr x ≡ Addr y → x ≡ y
    same x y e = cc

    some_number : ℕ → Option ℕ
    some_number n = Some n

-- An accepted address is one that holds its IPv4 address, whatever the rules.
pub accepted : (rules : List Rule) (dmr : Dmr) (s port : ℕ) (a : Addr4) → far_of rules dmr s port ≡ Addr a → ipv4_behind dmr s ≡ Some a.0
accepted rules dmr s port a e = by (has_addr6 dmr.prefix s) e
  where
    some_number : ℕ → Option ℕ
    some_number n = Some n

    by : (b : Bool) → cond b (far_embedded dmr s) (far_by_rule rules s port) ≡ Addr a → cond b (extract_of dmr.prefix.bits dmr.prefix.len s) (Some (carried_addr s)) ≡ Some a.0
    by true is = embedded_tells (extract_of dmr.prefix.bits dmr.prefix.len s) a is
    by false is = ap (λ (n : ℕ). some_number n) (rule_carries rules dmr s port a is)

-- ---- addresses of edges

own_holds : (rule : Rule) (dmr : Dmr) (s addr v : ℕ) → IsSource rule s addr v → ¬ Overlaps6 rule.prefix6 dmr.prefix → ipv4_behind dmr s ≡ Some addr
own_holds rule dmr s addr v is apart = by (has_addr6 dmr.prefix s) (outside_default rule dmr s addr v is apart)
  where
    some_number : ℕ → Option ℕ
    some_number n = Some n

    by : (b : Bool) → b ≡ false → cond b (extract_of dmr.prefix.bits dmr.prefix.len s) (Some (carried_addr s)) ≡ Some addr
    by true e = absurd (false≢true (sym e))
    by false _ = ap (λ (n : ℕ). some_number n) (source-addr rule s addr v is)

-- what a rule gives an edge holds the edge's address
under_source : (rule : Rule) (prefix : Prefix6) → rule.prefix4.bits < 2 ^ 32 → IsSource rule (holder_under rule prefix).own6 (edge_address rule prefix.bits) (edge_psid rule prefix.bits)
under_source rule prefix fits =
    let has = edge-has rule prefix.bits fits in
    record { four = has.0; has = has.1; psid = edge-psid-small rule prefix.bits; whole = refl }

pub holder_holds : (rules : List Rule) (dmr : Dmr) (prefix : Prefix6) (h : Holder) → All (λ (r : Rule). r.prefix4.bits < 2 ^ 32) rules → All (λ (r : Rule). ¬ Overlaps6 r.prefix6 dmr.prefix) rules
    → holder_of rules prefix ≡ Some h → (ipv4_behind dmr h.own6 ≡ Some h.addr) × (h.addr < 2 ^ 32)
holder_holds [] dmr prefix h fit apart e = cc
holder_holds (r ∷ rules) dmr prefix h fit apart e = by (has_edge prefix r) (holder_holds rules dmr prefix h (other_rules (λ (r : Rule). r.prefix4.bits < 2 ^ 32) r rules fit) (other_rules (λ (r : Rule). ¬ Overlaps6 r.prefix6 dmr.prefix) r rules apart)) e
  where
    same : (x y : Holder) → ◌≡◌ {A = Option Holder} (Some x) (Some y) → x ≡ y
    same x y is = cc

    by : (b : Bool) → (holder_of rules prefix ≡ Some h → (ipv4_behind dmr h.own6 ≡ Some h.addr) × (h.addr < 2 ^ 32)) → cond b (Some (holder_under r prefix)) (holder_of rules prefix) ≡ Some h → (ipv4_behind dmr h.own6 ≡ Some h.addr) × (h.addr < 2 ^ 32)
    by true later is =
        let source = under_source r prefix (first_rule (λ (r : Rule). r.prefix4.bits < 2 ^ 32) r rules fit) in
        subst (λ (g : Holder). (ipv4_behind dmr g.own6 ≡ Some g.addr) × (g.addr < 2 ^ 32)) (same (holder_under r prefix) h is)
        (own_holds r dmr (holder_under r prefix).own6 (edge_address r prefix.bits) (edge_psid r prefix.bits) source (first_rule (λ (r : Rule). ¬ Overlaps6 r.prefix6 dmr.prefix) r rules apart), source.four)
    by false later is = later is

-- ---- addresses of destinations

owned_holds : (rules : List Rule) (dmr : Dmr) (addr port s : ℕ) → addr < 2 ^ 32 → All (λ (r : Rule). ¬ Overlaps6 r.prefix6 dmr.prefix) rules → owner_of rules addr port ≡ Some s → ipv4_behind dmr s ≡ Some addr
owned_holds rules dmr addr port s fits apart e =
    owned_has (λ (r : Rule). ¬ Overlaps6 r.prefix6 dmr.prefix) (λ (n : ℕ). ipv4_behind dmr n ≡ Some addr) rules addr port s fits apart
    (λ rule x v is source. own_holds rule dmr x addr v source is) e

-- an embedded address is one too
passes : (x y : ℕ) → x ≡ y → (x == y) ≡ true
passes x y is = grind (arith, nat_tests)

inside_default : (dmr : Dmr) (addr : ℕ) → addr < 2 ^ 32 → has_addr6 dmr.prefix (embedded dmr.prefix.bits dmr.prefix.len addr) ≡ true
inside_default dmr addr fits = passes _ _ (embedded-inside dmr.prefix.bits dmr.prefix.len addr dmr.valid dmr.prefix.clear fits)

pub embedded_holds : (dmr : Dmr) (addr : ℕ) → addr < 2 ^ 32 → ipv4_behind dmr (embedded dmr.prefix.bits dmr.prefix.len addr) ≡ Some addr
embedded_holds dmr addr fits = by (has_addr6 dmr.prefix (embedded dmr.prefix.bits dmr.prefix.len addr)) (inside_default dmr addr fits)
  where
    by : (b : Bool) → b ≡ true → cond b (extract_of dmr.prefix.bits dmr.prefix.len (embedded dmr.prefix.bits dmr.prefix.len addr)) (Some (carried_addr (embedded dmr.prefix.bits dmr.prefix.len addr))) ≡ Some addr
    by true _ = extract_of-found dmr.prefix.bits dmr.prefix.len (embedded dmr.prefix.bits dmr.prefix.len addr) addr (record { valid = dmr.valid; clear = dmr.prefix.clear }) fits refl
    by false e = absurd (false≢true e)

-- ---- numbers of 128 bits

pub embedded_small : (dmr : Dmr) (addr : ℕ) → dmr.prefix.bits < 2 ^ 128 → addr < 2 ^ 32 → embedded dmr.prefix.bits dmr.prefix.len addr < 2 ^ 128
embedded_small dmr addr small fits =
    let inside = embedded-inside dmr.prefix.bits dmr.prefix.len addr dmr.valid dmr.prefix.clear fits in
    let all : dmr.prefix.len + (128 - dmr.prefix.len) ≡ 128 = omega (arith, dmr.prefix.within) in
    subst (λ (n : ℕ). embedded dmr.prefix.bits dmr.prefix.len addr < 2 ^ n) all
    (below_power (embedded dmr.prefix.bits dmr.prefix.len addr) dmr.prefix.bits (128 - dmr.prefix.len) dmr.prefix.len (sym inside) (subst (λ (n : ℕ). dmr.prefix.bits < 2 ^ n) (sym all) small))

pub owned_small : (rules : List Rule) (addr port s : ℕ) → addr < 2 ^ 32 → All FitsRule rules → owner_of rules addr port ≡ Some s → s < 2 ^ 128
owned_small rules addr port s fits fit e =
    owned_has FitsRule (λ (n : ℕ). n < 2 ^ 128) rules addr port s fits fit
    (λ rule x v is source. subst (λ (n : ℕ). n < 2 ^ 128) source.whole (address-small rule addr v is.prefix6 fits source.psid)) e

-- what is embedded in an address is what stands behind it
pub extracted_holds : (dmr : Dmr) (s addr : ℕ) → extract_of dmr.prefix.bits dmr.prefix.len s ≡ Some addr → ipv4_behind dmr s ≡ Some addr
extracted_holds dmr s addr e =
    let told = (extract_of-exactly dmr.prefix.bits dmr.prefix.len s addr (record { valid = dmr.valid; clear = dmr.prefix.clear })).0 e in
    subst (λ (n : ℕ). ipv4_behind dmr n ≡ Some addr) told.1 (embedded_holds dmr addr told.0)

-- where a destination is reached, it stands behind
pub reached_holds : (book : Generation) (dmr : Dmr) (addr port : ℕ) → AreRulesOf dmr book → addr < 2 ^ 32 → ipv4_behind dmr (reached book addr port) ≡ Some addr
reached_holds book dmr addr port rules fits = by (forward_of book.rules addr port) refl
  where
    by : (o : Option ℕ) → forward_of book.rules addr port ≡ o → ipv4_behind dmr (unwrap_or o (embedded book.dmr.prefix.bits book.dmr.prefix.len addr)) ≡ Some addr
    by None is = subst (λ (d : Dmr). ipv4_behind dmr (embedded d.prefix.bits d.prefix.len addr) ≡ Some addr) (sym rules.fixed) (embedded_holds dmr addr fits)
    by (Some s) is = owned_holds (filter (λ q. q.forward) book.rules) dmr addr port s fits (All-filter (λ (q : Rule). q.forward) (λ (r : Rule). ¬ Overlaps6 r.prefix6 dmr.prefix) book.rules rules.valid.apart_dmr) is

-- an address of which this stands behind has no other behind it
pub one_behind : (dmr : Dmr) (s : ℕ) (a b : Addr4) → ipv4_behind dmr s ≡ Some a.0 → ipv4_behind dmr s ≡ Some b.0 → a ≡ b
one_behind dmr s a b is other = ap (λ (n : ℕ). address n) (same a.0 b.0 (sym is ∙ other))
  where
    same : (x y : ℕ) → ◌≡◌ {A = Option ℕ} (Some x) (Some y) → x ≡ y
    same x y e = cc

    address : ℕ → Addr4
    address n = record { 0 = n }
