-- What is written of items shows no fault and is read as these items.
use Rattle.std.proofs.Common.{◌≡◌, ℕ, ◌+◌, ◌-◌, ◌*◌, ◌/◌, ◌%◌, ◌^◌, ◌<◌, ◌≤◌, Bool, true, false, cond, leb, ltb, eqb, List, [], ◌∷◌, ◌++◌, length, take, drop, map, None, refl, sym, ap, ◌∙◌, subst, arith, length-append}
use Rattle.std.specs.List.{list_all, list_any, count_by, AllZip}
use Rattle.std.proofs.lemmas.Bool.{and_parts, not-true, le-ltb, lt-leb, leb-true, ltb-true, eq-eqb, eqb-true, ne_eqb}
use Rattle.std.proofs.lemmas.List.{drop-drop}
use Rattle.std.proofs.lemmas.List.Sums.{sum_by-cons, sum_by_push}
use Rattle.std.proofs.lemmas.Nat.{mod-mul-add}
use Rattle.std.proofs.Math.Nat.{one-le-pow}
use Rattle.std.proofs.Math.Seq.{take-append_seam, drop-append_seam}
use Rattle.byteorder.specs.Numbers.{big_number-reads_back}
use Rattle.octets.specs.Bits.{bit_of}
use Rattle.octets.specs.Field.{octet, word, quad, part, in_word, in_quad}
use Rattle.octets.specs.declared.prefix.Prefix4.{Prefix4}
use Rattle.octets.specs.declared.prefix.Prefix6.{Prefix6}
use Rattle.s46_options.specs.declared.subs.Sub.{Sub}
use Rattle.s46_options.specs.declared.subs.Sub.TheVariants as sub
use Rattle.s46_options.specs.declared.item.Item.{Item}
use Rattle.s46_options.specs.declared.item.Item.TheVariants as item
use Rattle.s46_options.specs.declared.fault.OptionFault.{OptionFault}
use Rattle.s46_options.specs.declared.fault.OptionFault.TheVariants.{SecondParams, SecondDmr, TooManyRules}
use Rattle.s46_options.specs.Options.{DhcpOption, spelled_all, Cut, cut}
use Rattle.s46_options.specs.Items.{octets_for, prefix_octets, params_octets, sub_option, rule_octets, dmr_octets, item_option, inside_octets, container_octets, sub_in_fields, item_in_fields}
use Rattle.s46_options.specs.Accepted.{is_params, sub_fits, is_rule, is_dmr, item_fits, is_accepted}
use Rattle.s46_options.specs.Faults.{when, first, over, padding, prefix_number, has_code, place_behind, leaves_over, left_over, each_faults, all_faults, params_faults, sub_faults, sub_judge, Judge, sub_faults_beside, field_faults, rule_end, subs_of, body_faults, rule_faults, dmr_faults, item_faults, item_judge, item_faults_beside, missing, inside_faults, faults, fault_of}
use Rattle.s46_options.specs.Reading.{ReadsSub, ReadsItem, ReadsContainer}
use Rattle.s46_options.proofs.Contents.{psid_fits}
use Rattle.s46_options.proofs.Counts.{params_count, rule_count, dmr_count, cond_true, none_counted, none_missing, any_counted}
use Rattle.s46_options.proofs.Spelled.{AllFit, cut_spelled, all_fit}
use Rattle.s46_options.proofs.Zeros.{div_whole, prefix_length, prefix_back}

-- ---- faults that aren't shown

none_over : (at most len : ℕ) → len ≤ most → over at most len ≡ []
none_over at most len h = rw (le-ltb most len h) refl

none_past : (at count number len : ℕ) → number % 2 ^ (8 * count - len) ≡ 0 → padding at count number len ≡ []
none_past at count number len h = rw h refl

two_none : (a b : List OptionFault) → a ≡ [] → b ≡ [] → a ++ b ≡ []
two_none a b ha hb = rw (ha, hb) refl

three_none : (a b d : List OptionFault) → a ≡ [] → b ≡ [] → d ≡ [] → a ++ (b ++ d) ≡ []
three_none a b d ha hb hd = rw (ha, hb, hd) refl

when_none : (b : Bool) (f : OptionFault) → b ≡ false → when b f ≡ []
when_none b f h = rw h refl

mod_whole : (a w : ℕ) → 0 < w → a * w % w ≡ 0
mod_whole a w some = ap (λ (n : ℕ). n % w) (let e : a * w ≡ a * w + 0 = omega arith in e) ∙ mod-mul-add a w 0 some

-- ---- port parameters

psid_word : (offset len psid : ℕ) → len ≤ 16 → psid < 2 ^ len → word (params_octets offset len psid) 2 ≡ psid * 2 ^ (16 - len)
psid_word offset len psid most fits =
    big_number-reads_back 2 (psid * 2 ^ (16 - len)) [] (psid_fits len psid psid most fits refl)

power_some : (k : ℕ) → 0 < 2 ^ k
power_some k = omega (arith, one-le-pow k 2 (omega arith))

params_clear : (at offset len psid : ℕ) → offset ≤ 15 → len ≤ 16 → psid < 2 ^ len → params_faults at (params_octets offset len psid) ≡ []
params_clear at offset len psid bound most fits =
    let past : word (params_octets offset len psid) 2 % 2 ^ (16 - len) ≡ 0 = ap (λ (n : ℕ). n % 2 ^ (16 - len)) (psid_word offset len psid most fits) ∙ mod_whole psid (2 ^ (16 - len)) (power_some (16 - len)) in
    three_none (over (at + 4) 15 offset) (over (at + 5) 16 len) (padding (at + 6) 2 (word (params_octets offset len psid) 2) len) (none_over (at + 4) 15 offset bound) (none_over (at + 5) 16 len most) (none_past (at + 6) 2 (word (params_octets offset len psid) 2) len past)

pub record FitsParams (offset len psid : ℕ) : Type 0 where
  pub offset_most : offset ≤ 15
  pub len_most : len ≤ 16
  pub psid_most : psid < 2 ^ len

params_fit : (offset len psid : ℕ) → sub_fits (sub.Params offset len psid) ≡ true → FitsParams offset len psid
params_fit offset len psid h =
    let one = and_parts _ _ h in
    let two = and_parts _ _ one.1 in
    record { offset_most = leb-true offset 15 one.0; len_most = leb-true len 16 two.0; psid_most = ltb-true psid (2 ^ len) two.1 }

sub_clear : (second : Bool) (at : ℕ) (s : Sub) → sub_fits s ≡ true → (has_code 93 (sub_option s) ≡ true → second ≡ false) → sub_faults_beside second at (sub_option s) ≡ []
unfolding sub_faults_beside
sub_clear second at (sub.Params offset len psid) h alone =
    let f = params_fit offset len psid h in
    two_none (when second (SecondParams at)) (params_faults at (params_octets offset len psid)) (when_none second (SecondParams at) (alone refl)) (params_clear at offset len psid f.offset_most f.len_most f.psid_most)
sub_clear second at (sub.Other code octets) h alone = rw (not-true _ h) refl

sub_reads : (s : Sub) → sub_fits s ≡ true → ReadsSub (sub_option s) s
sub_reads (sub.Params offset len psid) h =
    let f = params_fit offset len psid h in
    (refl, refl, refl, sym (ap (λ (n : ℕ). n / 2 ^ (16 - len)) (psid_word offset len psid f.len_most f.psid_most) ∙ div_whole psid (2 ^ (16 - len)) (power_some (16 - len))))
sub_reads (sub.Other code octets) h = (not-true _ h, refl, refl)

-- ---- options one after another

all_read : {A : Type 0} (R : DhcpOption → A → Type 0) (option : A → DhcpOption) (fits : A → Bool) → ((x : A) → fits x ≡ true → R (option x) x) → (xs : List A) → list_all fits xs ≡ true → AllZip R (map option xs) xs
all_read {A} R option fits one [] h = tt
all_read {A} R option fits one (x ∷ xs) h =
    let both = and_parts (fits x) (list_all fits xs) h in
    (one x both.0, all_read R option fits one xs both.1)

count_cons : (code : ℕ) (o : DhcpOption) (os : List DhcpOption) → count_by (has_code code) (o ∷ os) ≡ cond (has_code code o) 1 0 + count_by (has_code code) os
count_cons code o os = sum_by-cons (λ (y : DhcpOption). cond (has_code code y) 1 0) o os

count_push : (code : ℕ) (os : List DhcpOption) (o : DhcpOption) → count_by (has_code code) (os ++ o ∷ []) ≡ count_by (has_code code) os + cond (has_code code o) 1 0
count_push code os o = sum_by_push (λ (y : DhcpOption). cond (has_code code y) 1 0) os o

-- so many of a code before an option and from it on: few enough before it
few_before : (code bound : ℕ) (earlier : List DhcpOption) (o : DhcpOption) (os : List DhcpOption) → count_by (has_code code) earlier + count_by (has_code code) (o ∷ os) ≤ bound → has_code code o ≡ true → count_by (has_code code) earlier < bound
few_before code bound earlier o os h is = omega (arith, h, count_cons code o os, cond_true (has_code code o) is)

few_behind : (code bound : ℕ) (earlier : List DhcpOption) (o : DhcpOption) (os : List DhcpOption) → count_by (has_code code) earlier + count_by (has_code code) (o ∷ os) ≤ bound → count_by (has_code code) (earlier ++ o ∷ []) + count_by (has_code code) os ≤ bound
few_behind code bound earlier o os h = omega (arith, h, count_cons code o os, count_push code earlier o)

once_before : (code : ℕ) (earlier : List DhcpOption) (o : DhcpOption) (os : List DhcpOption) → count_by (has_code code) earlier + count_by (has_code code) (o ∷ os) ≤ 1 → has_code code o ≡ true → list_any (has_code code) earlier ≡ false
once_before code earlier o os h is = let few = few_before code 1 earlier o os h is in none_counted code earlier (omega (arith, few))

nothing_left : (judge : Judge) (at : ℕ) (options : List DhcpOption) → each_faults judge.whole at [] options ≡ [] → all_faults judge at (record { options = options; left = [] }) ≡ []
nothing_left judge at options h = rw h refl

subs_clear : (at : ℕ) (earlier : List DhcpOption) (subs : List Sub) → list_all sub_fits subs ≡ true → count_by (has_code 93) earlier + count_by (has_code 93) (map sub_option subs) ≤ 1 → each_faults sub_faults at earlier (map sub_option subs) ≡ []
subs_clear at earlier [] h once = refl
subs_clear at earlier (s ∷ ss) h once =
    let both = and_parts (sub_fits s) (list_all sub_fits ss) h in
    let o = sub_option s in
    two_none (sub_faults (place_behind at earlier) earlier o) (each_faults sub_faults at (earlier ++ o ∷ []) (map sub_option ss)) (sub_clear (list_any (has_code 93) earlier) (place_behind at earlier) s both.0 (once_before 93 earlier o (map sub_option ss) once)) (subs_clear at (earlier ++ o ∷ []) ss both.1 (few_behind 93 1 earlier o (map sub_option ss) once))

sub_code : (s : Sub) → sub_in_fields s ≡ true → (sub_option s).code < 65536
sub_code (sub.Params offset len psid) h = omega arith
sub_code (sub.Other code octets) h = ltb-true code (2 ^ 16) h

-- ---- the default mapping rule

eq_zero : (n : ℕ) → 1 ≤ n → eqb n 0 ≡ false
eq_zero n h = ne_eqb n 0 (λ e. omega (arith, e, h))

dmr_none : (at : ℕ) (octets : List ℕ) → 1 ≤ length octets → octet octets 0 ≤ 128 → length octets ≡ 1 + octets_for (octet octets 0) → padding (at + 5) 16 (prefix_number (drop 1 octets)) (octet octets 0) ≡ [] → dmr_faults at octets ≡ []
dmr_none at octets some most len clear =
    rw (eq_zero (length octets) some, le-ltb 128 (octet octets 0) most, eq-eqb (length octets) (1 + octets_for (octet octets 0)) len) clear

prefix_clear : (at : ℕ) (prefix : Prefix6) (octets : List ℕ) → octets ≡ prefix_octets prefix → prefix.bits < 2 ^ 128 → padding at 16 (prefix_number octets) prefix.len ≡ []
prefix_clear at prefix octets is small =
    none_past at 16 (prefix_number octets) prefix.len (ap (λ (n : ℕ). n % 2 ^ (128 - prefix.len)) (ap prefix_number is ∙ prefix_back prefix small) ∙ prefix.clear)

dmr_clear : (at : ℕ) (prefix : Prefix6) → prefix.bits < 2 ^ 128 → dmr_faults at (dmr_octets prefix) ≡ []
dmr_clear at prefix small =
    let len = prefix_length prefix in
    dmr_none at (dmr_octets prefix) (omega arith) prefix.within (omega (arith, len)) (prefix_clear (at + 5) prefix (prefix_octets prefix) refl small)

-- ---- a rule

rule_none : (at : ℕ) (octets : List ℕ) → 8 ≤ length octets → octet octets 7 ≤ 128 → rule_end octets ≤ length octets → leaves_over (subs_of octets) ≡ false → body_faults at octets ≡ [] → rule_faults at octets ≡ []
rule_none at octets long most whole used clear =
    rw (le-ltb (length octets) 8 long, le-ltb 128 (octet octets 7) most, le-ltb (length octets) (rule_end octets) whole, used) clear

body_none : (at : ℕ) (octets : List ℕ) → field_faults at octets ≡ [] → padding (at + 12) 16 (prefix_number (part octets 8 (octets_for (octet octets 7)))) (octet octets 7) ≡ [] → all_faults sub_judge (at + (4 + rule_end octets)) (subs_of octets) ≡ [] → body_faults at octets ≡ []
unfolding body_faults
body_none at octets fields clear subs =
    three_none (field_faults at octets) (padding (at + 12) 16 (prefix_number (part octets 8 (octets_for (octet octets 7)))) (octet octets 7)) (all_faults sub_judge (at + (4 + rule_end octets)) (subs_of octets)) fields clear subs

flag_most : (flag : Bool) → bit_of flag ≤ 1
flag_most true = omega arith
flag_most false = omega arith

quad_back : (flag : Bool) (ea : ℕ) (prefix4 : Prefix4) (rest : List ℕ) → prefix4.bits < 2 ^ 32 → quad (bit_of flag ∷ ea ∷ prefix4.len ∷ (in_quad prefix4.bits ++ rest)) 3 ≡ prefix4.bits
quad_back flag ea prefix4 rest small = big_number-reads_back 4 prefix4.bits rest small

fields_clear : (at : ℕ) (flag : Bool) (ea : ℕ) (prefix4 : Prefix4) (rest : List ℕ) → ea ≤ 48 → prefix4.bits < 2 ^ 32 → field_faults at (bit_of flag ∷ ea ∷ prefix4.len ∷ (in_quad prefix4.bits ++ rest)) ≡ []
unfolding field_faults
fields_clear at flag ea prefix4 rest most small =
    let octets : List ℕ = bit_of flag ∷ ea ∷ prefix4.len ∷ (in_quad prefix4.bits ++ rest) in
    let past : quad octets 3 % 2 ^ (32 - prefix4.len) ≡ 0 = ap (λ (n : ℕ). n % 2 ^ (32 - prefix4.len)) (quad_back flag ea prefix4 rest small) ∙ prefix4.clear in
    two_none (when (ltb 1 (bit_of flag)) (OptionFault.Reserved (at + 4))) (over (at + 5) 48 ea ++ (over (at + 6) 32 prefix4.len ++ padding (at + 7) 4 (quad octets 3) prefix4.len)) (when_none _ _ (le-ltb 1 (bit_of flag) (flag_most flag))) (three_none (over (at + 5) 48 ea) (over (at + 6) 32 prefix4.len) (padding (at + 7) 4 (quad octets 3) prefix4.len) (none_over (at + 5) 48 ea most) (none_over (at + 6) 32 prefix4.len prefix4.within) (none_past (at + 7) 4 (quad octets 3) prefix4.len past))

-- what stands where in a rule that was written
rule_part : (flag : Bool) (ea : ℕ) (prefix4 : Prefix4) (prefix6 : Prefix6) (subs : List Sub) → part (rule_octets flag ea prefix4 prefix6 subs) 8 (octets_for prefix6.len) ≡ prefix_octets prefix6
rule_part flag ea prefix4 prefix6 subs =
    let tail = prefix_octets prefix6 ++ spelled_all (map sub_option subs) in
    ap (λ (n : ℕ). take n tail) (sym (prefix_length prefix6)) ∙ take-append_seam (prefix_octets prefix6) (spelled_all (map sub_option subs))

rule_rest : (flag : Bool) (ea : ℕ) (prefix4 : Prefix4) (prefix6 : Prefix6) (subs : List Sub) → drop (8 + octets_for prefix6.len) (rule_octets flag ea prefix4 prefix6 subs) ≡ spelled_all (map sub_option subs)
rule_rest flag ea prefix4 prefix6 subs =
    let tail = prefix_octets prefix6 ++ spelled_all (map sub_option subs) in
    sym (drop-drop (octets_for prefix6.len) 8 (rule_octets flag ea prefix4 prefix6 subs))
    ∙ ap (λ (n : ℕ). drop n tail) (sym (prefix_length prefix6))
    ∙ drop-append_seam (prefix_octets prefix6) (spelled_all (map sub_option subs))

abbrev all_of : List Sub → Cut
all_of subs = record { options = map sub_option subs; left = [] }

rule_subs : (flag : Bool) (ea : ℕ) (prefix4 : Prefix4) (prefix6 : Prefix6) (subs : List Sub) → AllFit (map sub_option subs) → subs_of (rule_octets flag ea prefix4 prefix6 subs) ≡ all_of subs
rule_subs flag ea prefix4 prefix6 subs fit =
    ap cut (rule_rest flag ea prefix4 prefix6 subs) ∙ cut_spelled (map sub_option subs) fit

rule_length : (flag : Bool) (ea : ℕ) (prefix4 : Prefix4) (prefix6 : Prefix6) (subs : List Sub) → length (rule_octets flag ea prefix4 prefix6 subs) ≡ 8 + octets_for prefix6.len + length (spelled_all (map sub_option subs))
rule_length flag ea prefix4 prefix6 subs =
    omega (arith, length-append (prefix_octets prefix6) (spelled_all (map sub_option subs)), prefix_length prefix6)

rule_clear : (at : ℕ) (flag : Bool) (ea : ℕ) (prefix4 : Prefix4) (prefix6 : Prefix6) (subs : List Sub) → ea ≤ 48 → prefix4.bits < 2 ^ 32 → prefix6.bits < 2 ^ 128 → AllFit (map sub_option subs) → list_all sub_fits subs ≡ true → count_by is_params subs ≤ 1 → rule_faults at (rule_octets flag ea prefix4 prefix6 subs) ≡ []
rule_clear at flag ea prefix4 prefix6 subs most small4 small6 fit fits once =
    let octets = rule_octets flag ea prefix4 prefix6 subs in
    let len = rule_length flag ea prefix4 prefix6 subs in
    let own = rule_subs flag ea prefix4 prefix6 subs fit in
    let counted = params_count subs fits in
    let none : count_by (has_code 93) [] + count_by (has_code 93) (map sub_option subs) ≤ 1 = omega (arith, counted, once) in
    let walk = nothing_left sub_judge (at + (4 + rule_end octets)) (map sub_option subs) (subs_clear (at + (4 + rule_end octets)) [] subs fits none) in
    let rest : List ℕ = prefix6.len ∷ (prefix_octets prefix6 ++ spelled_all (map sub_option subs)) in
    let fields : field_faults at octets ≡ [] = fields_clear at flag ea prefix4 rest most small4 in
    let clear = prefix_clear (at + 12) prefix6 (part octets 8 (octets_for prefix6.len)) (rule_part flag ea prefix4 prefix6 subs) small6 in
    rule_none at octets (omega (arith, len)) prefix6.within (omega (arith, len)) (ap leaves_over own) (body_none at octets fields clear (ap (all_faults sub_judge (at + (4 + rule_end octets))) own ∙ walk))

rule_reads : (flag : Bool) (ea : ℕ) (prefix4 : Prefix4) (prefix6 : Prefix6) (subs : List Sub) → prefix4.bits < 2 ^ 32 → prefix6.bits < 2 ^ 128 → AllFit (map sub_option subs) → list_all sub_fits subs ≡ true → ReadsItem (record { code = 89; octets = rule_octets flag ea prefix4 prefix6 subs }) (item.Rule flag ea prefix4 prefix6 subs)
rule_reads flag ea prefix4 prefix6 subs small4 small6 fit fits =
    let octets = rule_octets flag ea prefix4 prefix6 subs in
    let rest : List ℕ = prefix6.len ∷ (prefix_octets prefix6 ++ spelled_all (map sub_option subs)) in
    let own = rule_subs flag ea prefix4 prefix6 subs fit in
    let bits4 : prefix4.bits ≡ quad octets 3 = sym (quad_back flag ea prefix4 rest small4) in
    let bits6 : prefix6.bits ≡ prefix_number (part octets 8 (octets_for prefix6.len)) = sym (ap prefix_number (rule_part flag ea prefix4 prefix6 subs) ∙ prefix_back prefix6 small6) in
    let read : AllZip ReadsSub (map sub_option subs) subs = all_read ReadsSub sub_option sub_fits sub_reads subs fits in
    let zip : AllZip ReadsSub (subs_of octets).options subs = subst (λ (p : Cut). AllZip ReadsSub p.options subs) (sym own) read in
    (refl, refl, refl, refl, bits4, refl, bits6, zip)

-- ---- an option of the container

pub record FitsRule (ea : ℕ) (prefix4 : Prefix4) (prefix6 : Prefix6) (subs : List Sub) : Type 0 where
  pub ea_most : ea ≤ 48
  pub bits4 : prefix4.bits < 2 ^ 32
  pub bits6 : prefix6.bits < 2 ^ 128
  pub all : list_all sub_fits subs ≡ true
  pub once : count_by is_params subs ≤ 1
  pub cut : AllFit (map sub_option subs)

rule_fit : (flag : Bool) (ea : ℕ) (prefix4 : Prefix4) (prefix6 : Prefix6) (subs : List Sub) → item_fits (item.Rule flag ea prefix4 prefix6 subs) ≡ true → item_in_fields (item.Rule flag ea prefix4 prefix6 subs) ≡ true → length (rule_octets flag ea prefix4 prefix6 subs) < 65536 → FitsRule ea prefix4 prefix6 subs
rule_fit flag ea prefix4 prefix6 subs h small short =
    let one = and_parts _ _ h in
    let two = and_parts _ _ one.1 in
    let three = and_parts _ _ small in
    let four = and_parts _ _ three.1 in
    record {
      ea_most = leb-true ea 48 one.0;
      bits4 = ltb-true prefix4.bits (2 ^ 32) three.0;
      bits6 = ltb-true prefix6.bits (2 ^ 128) four.0;
      all = two.0;
      once = leb-true (count_by is_params subs) 1 two.1;
      cut = all_fit sub_option sub_in_fields sub_code subs four.1 (omega (arith, rule_length flag ea prefix4 prefix6 subs, short));
    }

item_clear : (rules : ℕ) (second : Bool) (at : ℕ) (i : Item) → item_fits i ≡ true → item_in_fields i ≡ true → length (item_option i).octets < 65536 → (has_code 89 (item_option i) ≡ true → rules < 256) → (has_code 91 (item_option i) ≡ true → second ≡ false) → item_faults_beside rules second at (item_option i) ≡ []
unfolding item_faults_beside
item_clear rules second at (item.Rule flag ea prefix4 prefix6 subs) h small short few alone =
    let f = rule_fit flag ea prefix4 prefix6 subs h small short in
    two_none (when (leb 256 rules) (TooManyRules at)) (rule_faults at (rule_octets flag ea prefix4 prefix6 subs)) (when_none _ _ (lt-leb 256 rules (few refl))) (rule_clear at flag ea prefix4 prefix6 subs f.ea_most f.bits4 f.bits6 f.cut f.all f.once)
item_clear rules second at (item.Dmr prefix) h small short few alone =
    two_none (when second (SecondDmr at)) (dmr_faults at (dmr_octets prefix)) (when_none second (SecondDmr at) (alone refl)) (dmr_clear at prefix (ltb-true prefix.bits (2 ^ 128) small))
item_clear rules second at (item.Other code octets) h small short few alone =
    let both = and_parts _ _ h in
    let rule : eqb code 89 ≡ false = not-true _ both.0 in
    let dmr : eqb code 91 ≡ false = not-true _ both.1 in
    rw (rule, dmr) refl

item_reads : (i : Item) → item_fits i ≡ true → item_in_fields i ≡ true → length (item_option i).octets < 65536 → ReadsItem (item_option i) i
item_reads (item.Rule flag ea prefix4 prefix6 subs) h small short =
    let f = rule_fit flag ea prefix4 prefix6 subs h small short in
    rule_reads flag ea prefix4 prefix6 subs f.bits4 f.bits6 f.cut f.all
item_reads (item.Dmr prefix) h small short = (refl, refl, sym (prefix_back prefix (ltb-true prefix.bits (2 ^ 128) small)))
item_reads (item.Other code octets) h small short =
    let both = and_parts _ _ h in
    (not-true _ both.0, not-true _ both.1, refl, refl)

item_code : (i : Item) → item_in_fields i ≡ true → (item_option i).code < 65536
item_code (item.Rule flag ea prefix4 prefix6 subs) h = omega arith
item_code (item.Dmr prefix) h = omega arith
item_code (item.Other code octets) h = ltb-true code (2 ^ 16) h

items_clear : (at : ℕ) (earlier : List DhcpOption) (items : List Item) → list_all item_fits items ≡ true → list_all item_in_fields items ≡ true → AllFit (map item_option items) → count_by (has_code 89) earlier + count_by (has_code 89) (map item_option items) ≤ 256 → count_by (has_code 91) earlier + count_by (has_code 91) (map item_option items) ≤ 1
    → each_faults item_faults at earlier (map item_option items) ≡ []
items_clear at earlier [] h small fit few once = refl
items_clear at earlier (i ∷ is) h small fit few once =
    let both = and_parts (item_fits i) (list_all item_fits is) h in
    let both_small = and_parts (item_in_fields i) (list_all item_in_fields is) small in
    let o = item_option i in
    let os = map item_option is in
    two_none (item_faults (place_behind at earlier) earlier o) (each_faults item_faults at (earlier ++ o ∷ []) os)
    (item_clear (count_by (has_code 89) earlier) (list_any (has_code 91) earlier) (place_behind at earlier) i both.0 both_small.0 fit.0.octets (few_before 89 256 earlier o os few) (once_before 91 earlier o os once))
    (items_clear at (earlier ++ o ∷ []) is both.1 both_small.1 fit.1 (few_behind 89 256 earlier o os few) (few_behind 91 1 earlier o os once))

items_read : (items : List Item) → list_all item_fits items ≡ true → list_all item_in_fields items ≡ true → AllFit (map item_option items) → AllZip ReadsItem (map item_option items) items
items_read [] h small fit = tt
items_read (i ∷ is) h small fit =
    let both = and_parts (item_fits i) (list_all item_fits is) h in
    let both_small = and_parts (item_in_fields i) (list_all item_in_fields is) small in
    (item_reads i both.0 both_small.0 fit.0.octets, items_read is both.1 both_small.1 fit.1)

-- ---- the container

faults_none : (octets : List ℕ) (parts : Cut) → 4 ≤ length octets → word octets 0 ≡ 95 → length octets ≡ 4 + word octets 2 → cut (drop 4 octets) ≡ parts → inside_faults parts ≡ [] → faults octets ≡ []
unfolding faults
faults_none octets parts long code len is clear =
    rw (le-ltb (length octets) 4 long, eq-eqb (word octets 0) 95 code, le-ltb (length octets) (4 + word octets 2) (omega (arith, len)), le-ltb (4 + word octets 2) (length octets) (omega (arith, len)), is) clear

inside_none : (parts : Cut) → left_over 2 parts ≡ [] → all_faults item_judge 4 parts ≡ [] → missing parts.options ≡ [] → inside_faults parts ≡ []
unfolding inside_faults
inside_none parts used clear there = three_none (left_over 2 parts) (all_faults item_judge 4 parts) (missing parts.options) used clear there

pub record FitsContainer (items : List Item) : Type 0 where
  pub all : list_all item_fits items ≡ true
  pub some : 1 ≤ count_by is_rule items
  pub few : count_by is_rule items ≤ 256
  pub one : count_by is_dmr items ≡ 1
  pub short : length (inside_octets items) ≤ 65535

accepted_fits : (items : List Item) → is_accepted items ≡ true → FitsContainer items
accepted_fits items h =
    let one = and_parts _ _ h in
    let two = and_parts _ _ one.1 in
    let three = and_parts _ _ two.1 in
    let four = and_parts _ _ three.1 in
    record {
      all = one.0;
      some = leb-true 1 (count_by is_rule items) two.0;
      few = leb-true (count_by is_rule items) 256 three.0;
      one = eqb-true (count_by is_dmr items) 1 four.0;
      short = leb-true (length (inside_octets items)) 65535 four.1;
    }

container_code : (items : List Item) → word (container_octets items) 0 ≡ 95
container_code items = big_number-reads_back 2 95 (in_word (length (inside_octets items)) ++ inside_octets items) (omega arith)

container_size : (items : List Item) → length (inside_octets items) ≤ 65535 → word (container_octets items) 2 ≡ length (inside_octets items)
container_size items short = big_number-reads_back 2 (length (inside_octets items)) (inside_octets items) (omega (arith, short))

container_cut : (items : List Item) → list_all item_in_fields items ≡ true → length (inside_octets items) ≤ 65535 → cut (drop 4 (container_octets items)) ≡ record { options = map item_option items; left = [] }
container_cut items small short =
    cut_spelled (map item_option items) (all_fit item_option item_in_fields item_code items small (omega (arith, short)))

-- the octets of a container show no fault
pub written_sound : (items : List Item) → is_accepted items ≡ true → list_all item_in_fields items ≡ true → fault_of (container_octets items) ≡ None
written_sound items accepted small =
    let f = accepted_fits items accepted in
    let octets = container_octets items in
    let options = map item_option items in
    let parts : Cut = record { options = options; left = [] } in
    let size = container_size items f.short in
    let len : length octets ≡ 4 + length (inside_octets items) = omega arith in
    let fit = all_fit item_option item_in_fields item_code items small (omega (arith, f.short)) in
    let rules = rule_count items f.all in
    let dmrs = dmr_count items f.all in
    let few : count_by (has_code 89) [] + count_by (has_code 89) options ≤ 256 = omega (arith, rules, f.few) in
    let once : count_by (has_code 91) [] + count_by (has_code 91) options ≤ 1 = omega (arith, dmrs, f.one) in
    let walk = nothing_left item_judge 4 options (items_clear 4 [] items f.all small fit few once) in
    let there = none_missing options (omega (arith, rules, f.some)) (any_counted 91 options (omega (arith, dmrs, f.one))) in
    ap first (faults_none octets parts (omega (arith, len)) (container_code items) (omega (arith, len, size)) (container_cut items small f.short) (inside_none parts refl walk there))

-- they read as its items
pub written_read : (items : List Item) → is_accepted items ≡ true → list_all item_in_fields items ≡ true → ReadsContainer (container_octets items) items
written_read items accepted small =
    let f = accepted_fits items accepted in
    let fit = all_fit item_option item_in_fields item_code items small (omega (arith, f.short)) in
    subst (λ (p : Cut). AllZip ReadsItem p.options items) (sym (container_cut items small f.short)) (items_read items f.all small fit)
