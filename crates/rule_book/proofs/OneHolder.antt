-- One holder of an IPv4 address and port.
use Rattle.std.proofs.Common.{◌≡◌, ℕ, zero, suc, ◌+◌, ◌-◌, ◌*◌, ◌/◌, ◌%◌, ◌^◌, ◌<◌, ◌≤◌, Bool, true, false, cond, List, [], ◌∷◌, length, get_or, refl, sym, ap, subst, ◌∙◌, arith, IsTrue, inl, inr, ◌⊎◌}
use Rattle.std.specs.Prelude.{Option, Some, None, ◌==◌, ◌&&◌, ◌||◌, nat_le, if◌then◌else◌, IsSomeAnd}
use Rattle.std.specs.Option.{option_or, option_map}
use Rattle.std.specs.List.{AllPairs}
use Rattle.std.proofs.Math.Bool.{or-true}
use Rattle.std.proofs.lemmas.Nat.{pow_pos, shr-shr, div-add-mod', div-mul-add}
use Rattle.std.proofs.lemmas.List.{get_or_default}
use Rattle.std.proofs.lemmas.Option.{none-some}
use Rattle.std.proofs.lemmas.Bool.Decides.{nat_tests}
use Rattle.octets.specs.declared.prefix.Prefix4.{Prefix4}
use Rattle.octets.specs.declared.prefix.Prefix6.{Prefix6}
use Rattle.port_set.specs.PortSet.{in_set}
use Rattle.map_rules.specs.declared.rule.Rule.{Rule}
use Rattle.map_rules.specs.declared.dmr.Dmr.{Dmr}
use Rattle.map_rules.specs.Address.{psid_of}
use Rattle.map_rules.specs.Rule.{psid_len, ea_bits, edge_address, edge_psid, rule_address, ce6_of, HasEdge}
use Rattle.map_rules.proofs.Parts.{clear-parts, high-small}
use Rattle.rule_book.specs.Overlap.{begins4, Overlaps4}
use Rattle.rule_book.specs.Valid.{IsValid}
use Rattle.rule_book.specs.Owner.{owner_of, has_addr4}
use Rattle.rule_book.specs.Holder.{Holder, has_edge, holder_under, holder_of, Holds}
use Rattle.rule_book.proofs.Edges.{has_edge-is}

-- two prefixes that have an address in common overlap: the shorter begins the longer
begins-common : (a b : Prefix4) (x : ℕ) → a.bits / 2 ^ (32 - a.len) ≡ x / 2 ^ (32 - a.len) → b.bits / 2 ^ (32 - b.len) ≡ x / 2 ^ (32 - b.len) → a.len ≤ b.len → begins4 a b ≡ true
begins-common a b x in_a in_b shorter =
    let whole : 32 - b.len + (b.len - a.len) ≡ 32 - a.len = omega (arith, b.within) in
    let of_b : b.bits / 2 ^ (32 - b.len) / 2 ^ (b.len - a.len) ≡ b.bits / 2 ^ (32 - a.len) = shr-shr b.bits (32 - b.len) (b.len - a.len) ∙ ap (λ n. b.bits / 2 ^ n) whole in
    let of_x : x / 2 ^ (32 - b.len) / 2 ^ (b.len - a.len) ≡ x / 2 ^ (32 - a.len) = shr-shr x (32 - b.len) (b.len - a.len) ∙ ap (λ n. x / 2 ^ n) whole in
    let same : a.bits / 2 ^ (32 - a.len) ≡ b.bits / 2 ^ (32 - a.len) = in_a ∙ sym of_x ∙ ap (λ y. y / 2 ^ (b.len - a.len)) (sym in_b) ∙ of_b in
    let len : nat_le a.len b.len ≡ true = grind (arith, nat_tests) in
    let bits : (a.bits / 2 ^ (32 - a.len) == b.bits / 2 ^ (32 - a.len)) ≡ true = grind (arith, nat_tests) in
    rw (len, bits) refl

equal_from_test : (x y : ℕ) → (x == y) ≡ true → x ≡ y
equal_from_test x y is = grind (arith, nat_tests)

either_way : (m n : ℕ) → (m ≤ n) ⊎ (n ≤ m)
either_way m n = elim (nat_le m n) as (λ b. nat_le m n ≡ b → (m ≤ n) ⊎ (n ≤ m)) [ true ↦ λ e. inl (grind (arith, nat_tests)) | false ↦ λ e. inr (grind (arith, nat_tests)) ] refl

overlaps-common : (r s : Rule) (x : ℕ) → has_addr4 x r ≡ true → has_addr4 x s ≡ true → Overlaps4 r.prefix4 s.prefix4
overlaps-common r s x in_r in_s =
    let of_r = equal_from_test _ _ in_r in
    let of_s = equal_from_test _ _ in_s in
    elim (either_way r.prefix4.len s.prefix4.len) [
      | inl shorter ↦ ap (λ b. b || begins4 s.prefix4 r.prefix4) (begins-common r.prefix4 s.prefix4 x of_r of_s shorter)
      | inr shorter ↦ ap (λ b. begins4 r.prefix4 s.prefix4 || b) (begins-common s.prefix4 r.prefix4 x of_s of_r shorter) ∙ or-true (begins4 r.prefix4 s.prefix4)
    ]

-- so one rule has the address
abbrev Apart4 : List Rule → Type 0
Apart4 rules = AllPairs (λ r s. ¬ Overlaps4 r.prefix4 s.prefix4) rules

not_before : (rules : List Rule) (i j : ℕ) (r s : Rule) (x : ℕ) → Apart4 rules → i < j → j < length rules → r ≡ get_or rules i r → s ≡ get_or rules j s → has_addr4 x r ≡ true → has_addr4 x s ≡ true → ⊥
not_before rules i j r s x apart before within at_i at_j in_r in_s =
    let first : get_or rules i r ≡ r = sym at_i in
    let second : get_or rules j r ≡ s = get_or_default rules j r s within ∙ sym at_j in
    let P : Rule → Type 0 = λ q. Overlaps4 q.prefix4 (get_or rules j r).prefix4 in
    let Q : Rule → Type 0 = λ q. Overlaps4 r.prefix4 q.prefix4 in
    apart i j r before within (subst P at_i (subst Q (sym second) (overlaps-common r s x in_r in_s)))

one_place : (rules : List Rule) (i j : ℕ) (r s : Rule) (x : ℕ) → Apart4 rules → i < length rules → j < length rules → r ≡ get_or rules i r → s ≡ get_or rules j s → has_addr4 x r ≡ true → has_addr4 x s ≡ true → i ≡ j
one_place rules i j r s x apart in_i in_j at_i at_j in_r in_s =
    let later : i < j → ⊥ = λ l. not_before rules i j r s x apart l in_j at_i at_j in_r in_s in
    let earlier : j < i → ⊥ = λ l. not_before rules j i s r x apart l in_i at_j at_i in_s in_r in
    omega (arith, later, earlier)

-- the first rule that passes, by what it gives
abbrev pub first_of : (Rule → Bool) → (Rule → Holder) → List Rule → Option Holder
first_of p f [] = None
first_of p f (t ∷ rules) = cond (p t) (Some (f t)) (first_of p f rules)

pub record GivesAt (p : Rule → Bool) (f : Rule → Holder) (rules : List Rule) (h : Holder) (j : ℕ) (r : Rule) : Type 0 where
  pub within : j < length rules
  pub at : r ≡ get_or rules j r
  pub passes : p r ≡ true
  pub gives : f r ≡ h

some-same : (h g : Holder) → Some h ≡ Some g → h ≡ g
some-same h g e = cc

gives-step : (p : Rule → Bool) (f : Rule → Holder) (t : Rule) (rules : List Rule) (h : Holder) (b : Bool) → p t ≡ b → cond b (Some (f t)) (first_of p f rules) ≡ Some h → (first_of p f rules ≡ Some h → (j : ℕ) × (r : Rule) × GivesAt p f rules h j r) → (j : ℕ) × (r : Rule) × GivesAt p f (t ∷ rules) h j r
gives-step p f t rules h true passes found later = (0, t, record { within = omega arith; at = refl; passes = passes; gives = some-same (f t) h found })
gives-step p f t rules h false passes found later =
    let there : (j : ℕ) × (r : Rule) × GivesAt p f rules h j r = later found in
    (suc there.0, there.1, record { within = omega (arith, there.2.within); at = there.2.at; passes = there.2.passes; gives = there.2.gives })

first_of-place : (p : Rule → Bool) (f : Rule → Holder) (rules : List Rule) (h : Holder) → first_of p f rules ≡ Some h → (j : ℕ) × (r : Rule) × GivesAt p f rules h j r
first_of-place p f [] h is = absurd (none-some h is)
first_of-place p f (t ∷ rules) h is = gives-step p f t rules h (p t) refl is (first_of-place p f rules h)

holder_of-first : (rules : List Rule) (prefix : Prefix6) → first_of (has_edge prefix) (λ r. holder_under r prefix) rules ≡ holder_of rules prefix
holder_of-first [] prefix = refl
holder_of-first (t ∷ rules) prefix = ap (λ o. cond (has_edge prefix t) (Some (holder_under t prefix)) o) (holder_of-first rules prefix)

-- the address that an edge's bits give is inside the rule's IPv4 prefix
address-inside : (r : Rule) (bits : ℕ) → has_addr4 (edge_address r bits) r ≡ true
address-inside r bits =
    let past : ℕ = 32 - r.prefix4.len in
    let some : 0 < 2 ^ r.ea = pow_pos r.ea in
    let ea : ea_bits r bits < 2 ^ r.ea = omega arith in
    let suffix : ea_bits r bits / 2 ^ psid_len r < 2 ^ past = high-small (ea_bits r bits) past (psid_len r) r.ea (omega (arith, r.ea_least, r.prefix4.within)) ea in
    let whole : r.prefix4.bits / 2 ^ past * 2 ^ past ≡ r.prefix4.bits = clear-parts r.prefix4.bits past r.prefix4.clear in
    let front : edge_address r bits / 2 ^ past ≡ r.prefix4.bits / 2 ^ past = ap (λ x. (x + ea_bits r bits / 2 ^ psid_len r) / 2 ^ past) (sym whole) ∙ div-mul-add (r.prefix4.bits / 2 ^ past) (2 ^ past) (ea_bits r bits / 2 ^ psid_len r) suffix in
    grind (arith, nat_tests)

psid-small : (r : Rule) (bits : ℕ) → edge_psid r bits < 2 ^ psid_len r
psid-small r bits = let some : 0 < 2 ^ psid_len r = pow_pos (psid_len r) in omega arith

-- the PSID of the set that has a port is told by the port
pub psid_of-member : (a k v x : ℕ) → v < 2 ^ k → in_set a k v x ≡ true → psid_of a k x ≡ v
psid_of-member a zero v x small member = omega arith
psid_of-member a (suc k) v x small member = grind (arith, nat_tests)

-- the rule gives its holder's own address for the holder's address and ports
ce6-holder : (r : Rule) (prefix : Prefix6) (port : ℕ) → in_set r.offset (psid_len r) (edge_psid r prefix.bits) port ≡ true → ce6_of r (edge_address r prefix.bits) port ≡ Some (rule_address r (edge_address r prefix.bits) (edge_psid r prefix.bits))
unfolding ce6_of
ce6-holder r prefix port member =
    let v : psid_of r.offset (psid_len r) port ≡ edge_psid r prefix.bits = psid_of-member r.offset (psid_len r) (edge_psid r prefix.bits) port (psid-small r prefix.bits) member in
    let inside : has_addr4 (edge_address r prefix.bits) r ≡ true = address-inside r prefix.bits in
    ap (λ w. if has_addr4 (edge_address r prefix.bits) r && in_set r.offset (psid_len r) w port then Some (rule_address r (edge_address r prefix.bits) w) else None) v ∙ ap (λ b. if b && in_set r.offset (psid_len r) (edge_psid r prefix.bits) port then Some (rule_address r (edge_address r prefix.bits) (edge_psid r prefix.bits)) else None) inside ∙ ap (λ b. if b then Some (rule_address r (edge_address r prefix.bits) (edge_psid r prefix.bits)) else None) member

-- a rule without the address gives none
test_false : (b : Bool) → ¬ (b ≡ true) → b ≡ false
test_false true never = absurd (never refl)
test_false false never = refl

ce6-outside : (s : Rule) (addr port : ℕ) → ¬ (has_addr4 addr s ≡ true) → ce6_of s addr port ≡ None
unfolding ce6_of
ce6-outside s addr port outside =
    ap (λ b. if b && in_set s.offset (psid_len s) (psid_of s.offset (psid_len s) port) port then Some (rule_address s addr (psid_of s.offset (psid_len s) port)) else None) (test_false (has_addr4 addr s) outside)

-- the owner by the first rule that gives one
owner-place : (rules : List Rule) (addr port own j : ℕ) (r : Rule) → j < length rules → r ≡ get_or rules j r → ce6_of r addr port ≡ Some own → ((k : ℕ) (s : Rule) → k < j → s ≡ get_or rules k s → ce6_of s addr port ≡ None) → owner_of rules addr port ≡ Some own
owner-place [] addr port own j r within at gives none = absurd (omega arith)
owner-place (t ∷ rules) addr port own zero r within at gives none =
    ap (λ o. option_or o (owner_of rules addr port)) (ap (λ q. ce6_of q addr port) (sym at) ∙ gives)
owner-place (t ∷ rules) addr port own (suc j) r within at gives none =
    ap (λ o. option_or o (owner_of rules addr port)) (none 0 t (omega arith) refl) ∙ owner-place rules addr port own j r (omega arith) at gives (λ k s before at_k. none (suc k) s (omega arith) at_k)

-- the first bits of an edge's prefix
edge-front : (r : Rule) (prefix : Prefix6) → HasEdge r prefix.bits prefix.len → prefix.bits / 2 ^ (128 - prefix.len) ≡ r.prefix6.bits / 2 ^ (128 - r.prefix6.len) * 2 ^ r.ea + ea_bits r prefix.bits
edge-front r prefix edge =
    let n : ℕ = r.prefix6.len in
    let q : ℕ = prefix.bits / 2 ^ (128 - (n + r.ea)) in
    let at : 128 - (n + r.ea) + r.ea ≡ 128 - n = omega (arith, r.edge_length) in
    let above : q / 2 ^ r.ea ≡ prefix.bits / 2 ^ (128 - n) = shr-shr prefix.bits (128 - (n + r.ea)) r.ea ∙ ap (λ x. prefix.bits / 2 ^ x) at in
    let split : q / 2 ^ r.ea * 2 ^ r.ea + q % 2 ^ r.ea ≡ q = div-add-mod' q (2 ^ r.ea) in
    let whole : r.prefix6.bits / 2 ^ (128 - n) * 2 ^ r.ea + q % 2 ^ r.ea ≡ q = rw (above ∙ sym edge.1) at split in
    ap (λ len. prefix.bits / 2 ^ (128 - len)) edge.0 ∙ sym whole

-- an edge of a rule is told by what its bits give
edges-one : (r : Rule) (p q : Prefix6) → HasEdge r p.bits p.len → HasEdge r q.bits q.len → edge_address r p.bits ≡ edge_address r q.bits → edge_psid r p.bits ≡ edge_psid r q.bits → (p.bits ≡ q.bits) × (p.len ≡ q.len)
edges-one r p q edge_p edge_q addr psid =
    let k : ℕ = 2 ^ psid_len r in
    let suffix : ea_bits r p.bits / k ≡ ea_bits r q.bits / k = omega arith in
    let ea : ea_bits r p.bits ≡ ea_bits r q.bits = sym (div-add-mod' (ea_bits r p.bits) k) ∙ ap (λ x. x * k + ea_bits r p.bits % k) suffix ∙ ap (λ x. ea_bits r q.bits / k * k + x) psid ∙ div-add-mod' (ea_bits r q.bits) k in
    let len : p.len ≡ q.len = edge_p.0 ∙ sym edge_q.0 in
    let front : p.bits / 2 ^ (128 - p.len) ≡ q.bits / 2 ^ (128 - q.len) = edge-front r p edge_p ∙ ap (λ x. r.prefix6.bits / 2 ^ (128 - r.prefix6.len) * 2 ^ r.ea + x) ea ∙ sym (edge-front r q edge_q) in
    let bits : p.bits ≡ q.bits = sym (clear-parts p.bits (128 - p.len) p.clear) ∙ ap (λ x. x * 2 ^ (128 - p.len)) front ∙ ap (λ n. q.bits / 2 ^ (128 - q.len) * 2 ^ (128 - n)) len ∙ clear-parts q.bits (128 - q.len) q.clear in
    (bits, len)

-- what holds of the holder that is there
held : (o : Option Holder) (P : Holder → Type 0) → IsSomeAnd o P → (h : Holder) × (o ≡ Some h) × P h
held None P h = absurd h
held (Some x) P h = (x, refl, h)

-- a holder of the address and port, with the rule that gives it
pub record HeldAt (rules : List Rule) (prefix : Prefix6) (addr port j : ℕ) (r : Rule) : Type 0 where
  pub within : j < length rules
  pub at : r ≡ get_or rules j r
  pub edge : HasEdge r prefix.bits prefix.len
  pub is : holder_of rules prefix ≡ Some (holder_under r prefix)
  pub address : edge_address r prefix.bits ≡ addr
  pub member : in_set r.offset (psid_len r) (edge_psid r prefix.bits) port ≡ true

held-at : (rules : List Rule) (prefix : Prefix6) (addr port : ℕ) → Holds rules prefix addr port → (j : ℕ) × (r : Rule) × HeldAt rules prefix addr port j r
held-at rules prefix addr port holds =
    let Fits : Holder → Type 0 = λ h. (h.addr ≡ addr) × IsTrue (in_set h.offset h.psid_length h.psid port) in
    let found : (h : Holder) × (holder_of rules prefix ≡ Some h) × Fits h = held (holder_of rules prefix) Fits holds in
    let place : (j : ℕ) × (r : Rule) × GivesAt (has_edge prefix) (λ r. holder_under r prefix) rules found.0 j r = first_of-place (has_edge prefix) (λ r. holder_under r prefix) rules found.0 (holder_of-first rules prefix ∙ found.1) in
    let fits : Fits (holder_under place.1 prefix) = subst Fits (sym place.2.gives) found.2 in (
      place.0,
      place.1,
      record {
        within = place.2.within;
        at = place.2.at;
        edge = has_edge-is place.1 prefix place.2.passes;
        is = found.1 ∙ ap (λ h. Some h) (sym place.2.gives);
        address = fits.0;
        member = fits.1;
      },
    )

has-address : (rules : List Rule) (prefix : Prefix6) (addr port j : ℕ) (r : Rule) → HeldAt rules prefix addr port j r → has_addr4 addr r ≡ true
has-address rules prefix addr port j r at = ap (λ a. has_addr4 a r) (sym at.address) ∙ address-inside r prefix.bits

-- two holders of one address and port have one prefix
one-of_rule : (rules : List Rule) (p q : Prefix6) (addr port j k : ℕ) (r s : Rule) → HeldAt rules p addr port j r → HeldAt rules q addr port k s → r ≡ s → (p.bits ≡ q.bits) × (p.len ≡ q.len)
one-of_rule rules p q addr port j k r s of_p of_q same =
    let Edge : Rule → Type 0 = λ t. HasEdge t q.bits q.len in
    let Addr : Rule → Type 0 = λ t. edge_address t q.bits ≡ addr in
    let Member : Rule → Type 0 = λ t. in_set t.offset (psid_len t) (edge_psid t q.bits) port ≡ true in
    let edge : HasEdge r q.bits q.len = subst Edge (sym same) of_q.edge in
    let address : edge_address r q.bits ≡ addr = subst Addr (sym same) of_q.address in
    let member : in_set r.offset (psid_len r) (edge_psid r q.bits) port ≡ true = subst Member (sym same) of_q.member in
    let psid : edge_psid r p.bits ≡ edge_psid r q.bits = sym (psid_of-member r.offset (psid_len r) (edge_psid r p.bits) port (psid-small r p.bits) of_p.member) ∙ psid_of-member r.offset (psid_len r) (edge_psid r q.bits) port (psid-small r q.bits) member in
    edges-one r p q of_p.edge edge (of_p.address ∙ sym address) psid

pub one_holder-prefix : (rules : List Rule) (dmr : Dmr) (p q : Prefix6) (addr port : ℕ) → IsValid rules dmr → Holds rules p addr port → Holds rules q addr port → (p.bits ≡ q.bits) × (p.len ≡ q.len)
one_holder-prefix rules dmr p q addr port valid by_p by_q =
    let of_p : (j : ℕ) × (r : Rule) × HeldAt rules p addr port j r = held-at rules p addr port by_p in
    let of_q : (j : ℕ) × (r : Rule) × HeldAt rules q addr port j r = held-at rules q addr port by_q in
    let place : of_p.0 ≡ of_q.0 = one_place rules of_p.0 of_q.0 of_p.1 of_q.1 addr valid.apart4 of_p.2.within of_q.2.within of_p.2.at of_q.2.at (has-address rules p addr port of_p.0 of_p.1 of_p.2) (has-address rules q addr port of_q.0 of_q.1 of_q.2) in
    let same : of_p.1 ≡ of_q.1 = of_p.2.at ∙ get_or_default rules of_p.0 of_p.1 of_q.1 of_p.2.within ∙ ap (λ n. get_or rules n of_q.1) place ∙ sym of_q.2.at in
    one-of_rule rules p q addr port of_p.0 of_q.0 of_p.1 of_q.1 of_p.2 of_q.2 same

-- and the owner is its own address
pub one_holder-owner : (rules : List Rule) (dmr : Dmr) (p : Prefix6) (addr port : ℕ) → IsValid rules dmr → Holds rules p addr port → owner_of rules addr port ≡ option_map (λ h. h.own6) (holder_of rules p)
one_holder-owner rules dmr p addr port valid by_p =
    let of_p : (j : ℕ) × (r : Rule) × HeldAt rules p addr port j r = held-at rules p addr port by_p in
    let r : Rule = of_p.1 in
    let own : ℕ = rule_address r (edge_address r p.bits) (edge_psid r p.bits) in
    let gives : ce6_of r addr port ≡ Some own = ap (λ a. ce6_of r a port) (sym of_p.2.address) ∙ ce6-holder r p port of_p.2.member in
    let others : (k : ℕ) (s : Rule) → k < of_p.0 → s ≡ get_or rules k s → ce6_of s addr port ≡ None = λ k s before at_k. ce6-outside s addr port (λ inside. not_before rules k of_p.0 s r addr valid.apart4 before of_p.2.within at_k of_p.2.at inside (has-address rules p addr port of_p.0 r of_p.2)) in
    owner-place rules addr port own of_p.0 r of_p.2.within of_p.2.at gives others ∙ ap (λ o. option_map (λ h. h.own6) o) (sym of_p.2.is)
