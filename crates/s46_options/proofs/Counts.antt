-- Counting items by their codes.
use Rattle.std.proofs.Common.{◌≡◌, ℕ, ◌+◌, ◌≤◌, Bool, true, false, cond, eqb, leb, ◌<◌, length, ◌++◌, List, [], ◌∷◌, map, refl, sym, ap, ◌∙◌, arith, inl, inr, Some}
use Rattle.std.specs.List.{count_by, list_all, list_any}
use Rattle.std.proofs.lemmas.Bool.{and_parts, not-true, cases_Bool, cases_lt, le-leb, lt-leb, leb-false, eq-eqb, eqb-true}
use Rattle.std.proofs.lemmas.List.Sums.{sum_by-cons}
use Rattle.s46_options.specs.declared.subs.Sub.{Sub}
use Rattle.s46_options.specs.declared.subs.Sub.TheVariants as sub
use Rattle.s46_options.specs.declared.item.Item.{Item}
use Rattle.s46_options.specs.declared.item.Item.TheVariants as item
use Rattle.s46_options.specs.declared.fault.OptionFault.{OptionFault}
use Rattle.s46_options.specs.declared.fault.OptionFault.TheVariants.{SecondParams, SecondDmr, TooManyRules, NoRule, NoDmr}
use Rattle.s46_options.specs.Options.{DhcpOption, spelled_all, Cut}
use Rattle.s46_options.specs.Items.{sub_option, item_option, inside_octets}
use Rattle.s46_options.specs.Accepted.{is_params, is_rule, is_dmr, sub_fits, item_fits, is_accepted}
use Rattle.s46_options.specs.Faults.{has_code, when, params_faults, sub_faults_beside, rule_faults, dmr_faults, item_faults_beside, item_faults, item_judge, each_faults, all_faults, missing, first}

same_count : {A : Type 0} (test : A → Bool) (code : ℕ) (option : A → DhcpOption) (fits : A → Bool) → ((x : A) → fits x ≡ true → test x ≡ has_code code (option x)) → (xs : List A) → list_all fits xs ≡ true → count_by test xs ≡ count_by (has_code code) (map option xs)
same_count {A} test code option fits one [] h = refl
same_count {A} test code option fits one (x ∷ xs) h =
    let both = and_parts (fits x) (list_all fits xs) h in
    let same = same_count test code option fits one xs both.1 in
    sum_by-cons (λ (y : A). cond (test y) 1 0) x xs
    ∙ ap (λ (b : Bool). cond b 1 0 + count_by test xs) (one x both.0)
    ∙ ap (λ (n : ℕ). cond (has_code code (option x)) 1 0 + n) same
    ∙ sym (sum_by-cons (λ (y : DhcpOption). cond (has_code code y) 1 0) (option x) (map option xs))

pub params_code_is : (s : Sub) → sub_fits s ≡ true → is_params s ≡ has_code 93 (sub_option s)
params_code_is (sub.Params offset psid_len psid) h = refl
params_code_is (sub.Other code octets) h = sym (not-true _ h)

pub rule_code_is : (i : Item) → item_fits i ≡ true → is_rule i ≡ has_code 89 (item_option i)
rule_code_is (item.Rule flag ea prefix4 prefix6 subs) h = refl
rule_code_is (item.Dmr prefix) h = refl
rule_code_is (item.Other code octets) h = let both = and_parts _ _ h in sym (not-true _ both.0)

pub dmr_code_is : (i : Item) → item_fits i ≡ true → is_dmr i ≡ has_code 91 (item_option i)
dmr_code_is (item.Rule flag ea prefix4 prefix6 subs) h = refl
dmr_code_is (item.Dmr prefix) h = refl
dmr_code_is (item.Other code octets) h = let both = and_parts _ _ h in sym (not-true _ both.1)

pub params_count : (subs : List Sub) → list_all sub_fits subs ≡ true → count_by is_params subs ≡ count_by (has_code 93) (map sub_option subs)
params_count = same_count is_params 93 sub_option sub_fits params_code_is

pub rule_count : (items : List Item) → list_all item_fits items ≡ true → count_by is_rule items ≡ count_by (has_code 89) (map item_option items)
rule_count = same_count is_rule 89 item_option item_fits rule_code_is

pub dmr_count : (items : List Item) → list_all item_fits items ≡ true → count_by is_dmr items ≡ count_by (has_code 91) (map item_option items)
dmr_count = same_count is_dmr 91 item_option item_fits dmr_code_is

pub cond_true : (b : Bool) → b ≡ true → cond {A = ℕ} b 1 0 ≡ 1
cond_true b e = rw e refl

pub cond_false : (b : Bool) → b ≡ false → cond {A = ℕ} b 1 0 ≡ 0
cond_false b e = rw e refl

pub once_most : (b : Bool) → cond {A = ℕ} b 1 0 ≤ 1
once_most true = omega arith
once_most false = omega arith

pub none_counted : (code : ℕ) (options : List DhcpOption) → count_by (has_code code) options ≡ 0 → list_any (has_code code) options ≡ false
none_counted code [] h = refl
none_counted code (o ∷ os) h =
    let parts : count_by (has_code code) (o ∷ os) ≡ cond (has_code code o) 1 0 + count_by (has_code code) os = sum_by-cons (λ (y : DhcpOption). cond (has_code code y) 1 0) o os in
    elim (cases_Bool (has_code code o)) [
      | inl e ↦ absurd (omega (arith, parts, cond_true (has_code code o) e, h))
      | inr e ↦ rw (e, none_counted code os (omega (arith, parts, cond_false (has_code code o) e, h))) refl
    ]

pub some_counted : (code : ℕ) (options : List DhcpOption) → list_any (has_code code) options ≡ true → 1 ≤ count_by (has_code code) options
some_counted code options h =
    elim (cases_lt 0 (count_by (has_code code) options)) [
      | inl lt ↦ omega (arith, lt)
      | inr le ↦ absurd (let none : list_any (has_code code) options ≡ false = none_counted code options (omega (arith, le)) in let e : true ≡ false = sym h ∙ none in cc)
    ]

pub any_counted : (code : ℕ) (options : List DhcpOption) → 1 ≤ count_by (has_code code) options → list_any (has_code code) options ≡ true
any_counted code [] h = absurd (omega (arith, h))
any_counted code (o ∷ os) h =
    let parts : count_by (has_code code) (o ∷ os) ≡ cond (has_code code o) 1 0 + count_by (has_code code) os = sum_by-cons (λ (y : DhcpOption). cond (has_code code y) 1 0) o os in
    elim (cases_Bool (has_code code o)) [
      | inl e ↦ rw e refl
      | inr e ↦ rw (e, any_counted code os (omega (arith, parts, cond_false (has_code code o) e, h))) refl
    ]

-- items whose options are these are accepted
pub accepted_by : (items : List Item) (options : List DhcpOption) (rules : ℕ) (dmr : Bool) → list_all item_fits items ≡ true → map item_option items ≡ options → rules ≡ count_by (has_code 89) options → 1 ≤ rules → rules ≤ 256
    → count_by (has_code 91) options ≡ cond dmr 1 0 → dmr ≡ true → length (spelled_all options) ≤ 65535 → is_accepted items ≡ true
accepted_by items options rules dmr fits all rules_are some few one there short =
    let counted : count_by is_rule items ≡ rules = rule_count items fits ∙ ap (count_by (has_code 89)) all ∙ sym rules_are in
    let alone : count_by is_dmr items ≡ 1 = dmr_count items fits ∙ ap (count_by (has_code 91)) all ∙ one ∙ cond_true dmr there in
    let size : length (inside_octets items) ≤ 65535 = rw all short in
    let least : 1 ≤ count_by is_rule items = omega (arith, counted, some) in
    let most : count_by is_rule items ≤ 256 = omega (arith, counted, few) in
    rw (fits, le-leb 1 (count_by is_rule items) least, le-leb (count_by is_rule items) 256 most, eq-eqb (count_by is_dmr items) 1 alone, le-leb (length (inside_octets items)) 65535 size) refl

-- ---- what the place of an option says of those before it

nil_not_cons : (f : OptionFault) (fs : List OptionFault) → f ∷ fs ≡ [] → ⊥
nil_not_cons f fs h = cc

when_none : (b : Bool) (f : OptionFault) (fs : List OptionFault) → when b f ++ fs ≡ [] → b ≡ false
when_none true f fs h = absurd (nil_not_cons f fs h)
when_none false f fs h = refl

pub params_alone : (second : Bool) (at : ℕ) (option : DhcpOption) → sub_faults_beside second at option ≡ [] → has_code 93 option ≡ true → second ≡ false
unfolding sub_faults_beside
params_alone second at option h e = when_none second (SecondParams at) (params_faults at option.octets) (rw e at h)

pub dmr_alone : (rules : ℕ) (second : Bool) (at : ℕ) (option : DhcpOption) → item_faults_beside rules second at option ≡ [] → has_code 91 option ≡ true → second ≡ false
unfolding item_faults_beside
dmr_alone rules second at option h e =
    let code : option.code ≡ 91 = eqb-true option.code 91 e in
    let other : has_code 89 option ≡ false = ap (λ (n : ℕ). eqb n 89) code in
    when_none second (SecondDmr at) (dmr_faults at option.octets) (rw (other, e) at h)

pub rules_few : (rules : ℕ) (second : Bool) (at : ℕ) (option : DhcpOption) → item_faults_beside rules second at option ≡ [] → has_code 89 option ≡ true → rules < 256
unfolding item_faults_beside
rules_few rules second at option h e =
    leb-false 256 rules (when_none (leb 256 rules) (TooManyRules at) (rule_faults at option.octets) (rw e at h))

pub rules_next : (rules : ℕ) (second : Bool) (at : ℕ) (option : DhcpOption) → item_faults_beside rules second at option ≡ [] → rules ≤ 256 → rules + cond (has_code 89 option) 1 0 ≤ 256
rules_next rules second at option h few =
    elim (cases_Bool (has_code 89 option)) [
      | inl e ↦ omega (arith, cond_true (has_code 89 option) e, rules_few rules second at option h e)
      | inr e ↦ omega (arith, cond_false (has_code 89 option) e)
    ]

-- ---- behind the last option

pub none_missing : (options : List DhcpOption) → 1 ≤ count_by (has_code 89) options → list_any (has_code 91) options ≡ true → missing options ≡ []
none_missing options some there = rw (any_counted 89 options some, there) refl

all_none : (parts : Cut) → each_faults item_faults 4 [] parts.options ≡ [] → length parts.left < 4 → all_faults item_judge 4 parts ≡ []
all_none parts walk short = rw (walk, lt-leb 4 (length parts.left) short) refl

pub no_rule : (parts : Cut) → each_faults item_faults 4 [] parts.options ≡ [] → length parts.left < 4 → count_by (has_code 89) parts.options ≡ 0 → first (all_faults item_judge 4 parts ++ missing parts.options) ≡ Some NoRule
no_rule parts walk short none =
    rw (all_none parts walk short, none_counted 89 parts.options none) refl

pub no_dmr : (parts : Cut) → each_faults item_faults 4 [] parts.options ≡ [] → length parts.left < 4 → 1 ≤ count_by (has_code 89) parts.options → list_any (has_code 91) parts.options ≡ false → first (all_faults item_judge 4 parts ++ missing parts.options) ≡ Some NoDmr
no_dmr parts walk short some none =
    rw (all_none parts walk short, any_counted 89 parts.options some, none) refl
