-- What a text at a key spells is what reading it gives.
use Rattle.std.proofs.Common.{◌≡◌, ◌↔◌, ℕ, IsTrue, IsSome, IfNone, List, Option, Some, None, IsSomeAnd, IsOkAnd, Result, Ok, Err, sym, subst, ◌∙◌}
use Rattle.std.specs.Result.{result_ok}
use Rattle.std.proofs.lemmas.Option.{same_Some}
use Rattle.std.proofs.lemmas.Bool.{false≢true}
use Rattle.map_rules.specs.Embedding.{is_embedding_prefix}
use Rattle.map_rules.specs.declared.dmr.Dmr.{Dmr}
use Rattle.octets.specs.declared.address.Addr4.{Addr4}
use Rattle.octets.specs.declared.prefix.Prefix4.{Prefix4}
use Rattle.octets.specs.declared.prefix.Prefix6.{Prefix6}
use Rattle.octets.specs.declared.text4.BadText.{BadText}
use Rattle.octets.specs.Text4.{IsText4}
use Rattle.octets.specs.PrefixText.{IsPrefixText4, IsPrefixText6}
use Rattle.toml.specs.Data.{Members}
use Rattle.setup_tables.specs.Keys.{text_at}
use Rattle.setup_tables.specs.Spelled.{HasAddr4, HasPrefix4, HasPrefix6, HasDmr}

-- what holds of the value that was read
read_then-some : {A E : Type 0} (r : Result A E) (P : A → Type 0) → IsOkAnd r P → IsSomeAnd (result_ok r) P
read_then-some (Ok x) P h = h
read_then-some (Err e) P h = h

-- no other address is spelled
pub only-addr4 : (r : Result Addr4 BadText) (text key : List ℕ) (ms : Members) → text_at key ms ≡ Some text → ((n : ℕ) → IsText4 text n → IsOkAnd r (λ a. a.0 ≡ n)) → (a : Addr4) → HasAddr4 key ms a → IsSomeAnd (result_ok r) (λ b. b.0 ≡ a.0)
only-addr4 r text key ms there only a h =
    let same : h.text ≡ text = same_Some _ _ (sym h.there ∙ there) in
    let Spells : List ℕ → Type 0 = λ t. IsText4 t a.0 in
    read_then-some r _ (only a.0 (subst Spells same h.spelled))

-- no other prefix is spelled
pub only-prefix4 : (r : Result Prefix4 BadText) (text key : List ℕ) (ms : Members) → text_at key ms ≡ Some text → ((bits len : ℕ) → IsPrefixText4 text bits len → IsOkAnd r (λ p. (p.bits ≡ bits) × (p.len ≡ len))) → (p : Prefix4) → HasPrefix4 key ms p → IsSomeAnd (result_ok r) (λ q. (q.bits ≡ p.bits) × (q.len ≡ p.len))
only-prefix4 r text key ms there only p h =
    let same : h.text ≡ text = same_Some _ _ (sym h.there ∙ there) in
    let Spells : List ℕ → Type 0 = λ t. IsPrefixText4 t p.bits p.len in
    read_then-some r _ (only p.bits p.len (subst Spells same h.spelled))

pub only-prefix6 : (r : Result Prefix6 BadText) (text key : List ℕ) (ms : Members) → text_at key ms ≡ Some text → ((bits len : ℕ) → IsPrefixText6 text bits len → IsOkAnd r (λ p. (p.bits ≡ bits) × (p.len ≡ len))) → (p : Prefix6) → HasPrefix6 key ms p → IsSomeAnd (result_ok r) (λ q. (q.bits ≡ p.bits) × (q.len ≡ p.len))
only-prefix6 r text key ms there only p h =
    let same : h.text ≡ text = same_Some _ _ (sym h.there ∙ there) in
    let Spells : List ℕ → Type 0 = λ t. IsPrefixText6 t p.bits p.len in
    read_then-some r _ (only p.bits p.len (subst Spells same h.spelled))

-- a prefix that no default mapping rule may have is that of none
pub no_dmr : (o : Option Dmr) (p : Prefix6) (key : List ℕ) (ms : Members)
    → IsSome o ↔ IsTrue (is_embedding_prefix p.bits p.len)
    → ((q : Prefix6) → HasPrefix6 key ms q → (p.bits ≡ q.bits) × (p.len ≡ q.len))
    → IfNone o ((d : Dmr) → HasDmr key ms d → ⊥)
no_dmr (Some d) p key ms valid only = tt
no_dmr None p key ms valid only = λ (d : Dmr) (h : HasDmr key ms d).
    let same = only d.prefix h in
    let bits : p.bits ≡ d.prefix.bits = same.0 in
    let len : p.len ≡ d.prefix.len = same.1 in
    let good : IsTrue (is_embedding_prefix p.bits p.len) = rw (bits, len) d.valid in
    false≢true (valid.1 good)
