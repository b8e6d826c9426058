-- The changes of a list, one after the other.
use Rattle.std.proofs.Common.{◌≡◌, ℕ, zero, suc, ◌+◌, ◌-◌, ◌<◌, ◌≤◌, true, false, List, [], ◌∷◌, ◌++◌, length, get_or, take, drop, refl, sym, ap, subst, ◌∙◌, arith, Option, Some, None, ◌⊎◌, inl, inr, append_assoc}
use Rattle.std.specs.Prelude.{Result, Ok, Err, slice_get, IsSome, nat_lt}
use Rattle.std.specs.Option.{option_map_or}
use Rattle.std.specs.List.{All, AllZip}
use Rattle.std.specs.List.Sorted.{IsNonDecreasingBy}
use Rattle.std.proofs.lemmas.List.Sorted.{IsNonDecreasingBy-from_all_adjacent}
use Rattle.std.proofs.lemmas.List.{append-nil, get_or-take, length-take-le, drop_all, drop_more}
use Rattle.std.proofs.lemmas.Option.{slice_get-get_or}
use Rattle.std.proofs.lemmas.Bool.{false≢true}
use Rattle.map_rules.specs.declared.rule.Rule.{Rule}
use Rattle.map_rules.specs.declared.dmr.Dmr.{Dmr}
use Rattle.map_rules.proofs.Same.{same_rule}
use Rattle.rule_book.specs.declared.book.Book.{Book}
use Rattle.rule_book.specs.Book.{rules_of, dmr_of, generation_of}
use Rattle.rule_book.specs.declared.change.Change.{Change}
use Rattle.rule_book.specs.declared.change.Change.TheVariants as change
use Rattle.rule_book.specs.Change.{rules_after, change_refusal}
use Rattle.rule_book.proofs.Sound.{map-None}
use Rattle.setup_tables.specs.declared.rule.RuleLine.{RuleLine}
use Rattle.setup_tables.specs.declared.change.Action.{Action}
use Rattle.setup_tables.specs.declared.change.Action.TheVariants as action
use Rattle.setup_tables.specs.declared.change.ChangeText.{ChangeText}
use Rattle.mapt_setup.specs.declared.moves.MoveLine.{MoveLine}
use Rattle.setup_tables.specs.declared.fault.SetupCause.TheVariants.{ChangeOrder, ChangeRefused}
use Rattle.setup_tables.specs.declared.fault.SetupFault.{SetupFault}
use Rattle.setup_tables.specs.declared.fault.SetupFault.TheVariants.{Refused, NoMemory}
use Rattle.setup_tables.specs.Answer.{HasNone, Gives, exactly}
use Rattle.mapt_setup.specs.Beside.{first_after}
use Rattle.setup_tables.specs.Change.{most_at}
use Rattle.mapt_setup.specs.Generation.{rules_after_all}
use Rattle.mapt_setup.specs.Moves.{is_early, order_fault, HasChange, IsMove, moves_from}
use Rattle.mapt_setup.specs.Shapes.{HasParts}
use Rattle.mapt_setup.specs.Valid.{AreAccepted, AreValidChanges}
use Rattle.mapt_setup.proofs.FirstBeside.{none-is, element-at}
use Rattle.setup_tables.proofs.ListReads.{length-AllZip}
use Rattle.setup_tables.proofs.Stages.{same_of}
use Rattle.setup_tables.proofs.ListReads.{all_given}

-- the answer with these changes before it
abbrev pub after : List MoveLine → Result (List MoveLine) SetupFault → Result (List MoveLine) SetupFault
after moves (Ok more) = Ok (moves ++ more)
after moves (Err e) = Err e

pub after-nil : (r : Result (List MoveLine) SetupFault) → after [] r ≡ r
after-nil (Ok more) = refl
after-nil (Err e) = refl

pub after-one : (moves : List MoveLine) (move : MoveLine) (r : Result (List MoveLine) SetupFault) → after (moves ++ move ∷ []) r ≡ after moves (after (move ∷ []) r)
after-one moves move (Ok more) = ap Ok (append_assoc moves (move ∷ []) more)
after-one moves move (Err e) = refl

-- any answer from here on, with the changes so far before it, is an answer from the start
pub record Leads (dmr : Dmr) (rules : List Rule) (texts : List ChangeText) (place : ℕ) (here : List Rule) (rest : List ChangeText) (moves : List MoveLine) : Type 0 where
  pub to : (r : Result (List MoveLine) SetupFault) → moves_from place dmr here rest r → moves_from 0 dmr rules texts (after moves r)

pub leads_first : (dmr : Dmr) (rules : List Rule) (texts : List ChangeText) → Leads dmr rules texts 0 rules texts []
leads_first dmr rules texts = record { to = λ r h. subst (λ (s : Result (List MoveLine) SetupFault). moves_from 0 dmr rules texts s) (sym (after-nil r)) h }

one_more : (dmr : Dmr) (place : ℕ) (here : List Rule) (text : ChangeText) (rest : List ChangeText) (move : MoveLine) (r : Result (List MoveLine) SetupFault)
    → IsMove here dmr text move → moves_from (suc place) dmr (rules_after move.change here) rest r → moves_from place dmr here (text ∷ rest) (after (move ∷ []) r)
one_more dmr place here text rest move (Ok more) is h = record { value = move; stage = is; rest = record { value = more; stage = h; rest = refl } }
one_more dmr place here text rest move (Err e) is h = inr record { value = move; stage = is; rest = inl h }

pub leads_on : (dmr : Dmr) (rules : List Rule) (texts : List ChangeText) (place : ℕ) (here : List Rule) (text : ChangeText) (rest : List ChangeText) (moves : List MoveLine) (move : MoveLine)
    → IsMove here dmr text move → Leads dmr rules texts place here (text ∷ rest) moves → Leads dmr rules texts (suc place) (rules_after move.change here) rest (moves ++ move ∷ [])
leads_on dmr rules texts place here text rest moves move is leads = record {
  to = λ r h. subst (λ (s : Result (List MoveLine) SetupFault). moves_from 0 dmr rules texts s) (sym (after-one moves move r)) (leads.to (after (move ∷ []) r) (one_more dmr place here text rest move r is h));
}

pub leads_end : (dmr : Dmr) (rules : List Rule) (texts : List ChangeText) (place : ℕ) (here : List Rule) (moves : List MoveLine) → Leads dmr rules texts place here [] moves → moves_from 0 dmr rules texts (Ok moves)
leads_end dmr rules texts place here moves leads = subst (λ (ms : List MoveLine). moves_from 0 dmr rules texts (Ok ms)) (append-nil moves) (leads.to (Ok []) refl)

pub leads_bad : (dmr : Dmr) (rules : List Rule) (texts : List ChangeText) (place : ℕ) (here : List Rule) (text : ChangeText) (rest : List ChangeText) (moves : List MoveLine)
    → HasNone (IsMove here dmr) text → Leads dmr rules texts place here (text ∷ rest) moves → moves_from 0 dmr rules texts (Err (Refused ChangeRefused place))
leads_bad dmr rules texts place here text rest moves none leads = leads.to (Err (Refused ChangeRefused place)) (inl (refl, none))

-- where the loop stands: the rules after the changes so far, and what is left
pub record Stands (dmr : Dmr) (rules : List Rule) (texts : List ChangeText) (place : ℕ) (last : Book) (moves : List MoveLine) : Type 0 where
  pub leads : Leads dmr rules texts place (rules_of last) (drop place texts) moves
  pub dmr_is : dmr_of last ≡ dmr
  pub number : generation_of last ≡ place

pub stands_first : (book last : Book) (texts : List ChangeText) → last ≡ book → generation_of book ≡ 0 → Stands (dmr_of book) (rules_of book) texts 0 last []
stands_first book last texts same first = record {
  leads = subst (λ (b : Book). Leads (dmr_of book) (rules_of book) texts 0 (rules_of b) texts []) (sym same) (leads_first (dmr_of book) (rules_of book) texts);
  dmr_is = ap dmr_of same;
  number = ap generation_of same ∙ first;
}

-- the next text, and those behind it
rest_is : (texts : List ChangeText) (place : ℕ) (text : ChangeText) → place < length texts → text ≡ get_or texts place text → drop place texts ≡ text ∷ drop (place + 1) texts
rest_is texts place text within is = drop_more texts place text within ∙ ap (λ x. x ∷ drop (place + 1) texts) (sym is)

here_leads : (dmr : Dmr) (rules : List Rule) (texts : List ChangeText) (place : ℕ) (last : Book) (moves : List MoveLine) (text : ChangeText) → place < length texts → text ≡ get_or texts place text → Stands dmr rules texts place last moves
    → Leads dmr rules texts place (rules_of last) (text ∷ drop (place + 1) texts) moves
here_leads dmr rules texts place last moves text within is s = subst (λ (rest : List ChangeText). Leads dmr rules texts place (rules_of last) rest moves) (rest_is texts place text within is) s.leads

pub stands_bad : (dmr : Dmr) (rules : List Rule) (texts : List ChangeText) (place : ℕ) (last : Book) (moves : List MoveLine) (text : ChangeText) → place < length texts → text ≡ get_or texts place text → Stands dmr rules texts place last moves
    → HasNone (IsMove (rules_of last) dmr) text → moves_from 0 dmr rules texts (Err (Refused ChangeRefused place))
stands_bad dmr rules texts place last moves text within is s none = leads_bad dmr rules texts place (rules_of last) text (drop (place + 1) texts) moves none (here_leads dmr rules texts place last moves text within is s)

one_up : (n : ℕ) → suc n ≡ n + 1
one_up n = omega arith

pub stands_next : (dmr : Dmr) (rules : List Rule) (texts : List ChangeText) (place : ℕ) (last next : Book) (moves : List MoveLine) (text : ChangeText) (move : MoveLine) → place < length texts → text ≡ get_or texts place text → Stands dmr rules texts place last moves
    → IsMove (rules_of last) dmr text move → rules_of next ≡ rules_after move.change (rules_of last) → dmr_of next ≡ dmr_of last → generation_of next ≡ generation_of last + 1
    → Stands dmr rules texts (place + 1) next (moves ++ move ∷ [])
stands_next dmr rules texts place last next moves text move within is s accepted rules_are dmr_is number = record {
  leads = subst (λ (n : ℕ). Leads dmr rules texts n (rules_of next) (drop (place + 1) texts) (moves ++ move ∷ [])) (one_up place) (subst (λ (rs : List Rule). Leads dmr rules texts (suc place) rs (drop (place + 1) texts) (moves ++ move ∷ [])) (sym rules_are) (leads_on dmr rules texts place (rules_of last) text (drop (place + 1) texts) moves move accepted (here_leads dmr rules texts place last moves text within is s)));
  dmr_is = dmr_is ∙ s.dmr_is;
  number = omega (arith, number, s.number);
}

pub stands_end : (dmr : Dmr) (rules : List Rule) (texts : List ChangeText) (place : ℕ) (last : Book) (moves : List MoveLine) → length texts ≤ place → Stands dmr rules texts place last moves → moves_from 0 dmr rules texts (Ok moves)
stands_end dmr rules texts place last moves past s =
    leads_end dmr rules texts place (rules_of last) moves (subst (λ (rest : List ChangeText). Leads dmr rules texts place (rules_of last) rest moves) (drop_all place texts past) s.leads)

-- ---- one change of an action

one_shape : (line : RuleLine) (r s : Rule) → HasParts line r → HasParts line s → r ≡ s
one_shape line r s h g = same_rule r s (h.prefix6 ∙ sym g.prefix6) (h.prefix4 ∙ sym g.prefix4) (h.ea ∙ sym g.ea) (h.offset ∙ sym g.offset) (h.forward ∙ sym g.forward)

pub one_change : (a : Action) (x y : Change) → HasChange a x → HasChange a y → x ≡ y
one_change (action.Add line) (change.Add r) (change.Add s) h g = ap (λ z. change.Add z) (one_shape line r s h g)
one_change (action.Add line) (change.Add r) (change.Remove p) h g = absurd g
one_change (action.Add line) (change.Add r) (change.Replace p s) h g = absurd g
one_change (action.Add line) (change.Remove p) y h g = absurd h
one_change (action.Add line) (change.Replace p s) y h g = absurd h
one_change (action.Remove prefix) (change.Remove p) (change.Remove q) h g = ap (λ z. change.Remove z) (h ∙ sym g)
one_change (action.Remove prefix) (change.Remove p) (change.Add r) h g = absurd g
one_change (action.Remove prefix) (change.Remove p) (change.Replace q r) h g = absurd g
one_change (action.Remove prefix) (change.Add r) y h g = absurd h
one_change (action.Remove prefix) (change.Replace p r) y h g = absurd h
one_change (action.Replace prefix line) (change.Replace p r) (change.Replace q s) h g =
    ap (λ z. change.Replace z r) (h.0 ∙ sym g.0) ∙ ap (λ z. change.Replace q z) (one_shape line r s h.1 g.1)
one_change (action.Replace prefix line) (change.Replace p r) (change.Add s) h g = absurd g
one_change (action.Replace prefix line) (change.Replace p r) (change.Remove q) h g = absurd g
one_change (action.Replace prefix line) (change.Add r) y h g = absurd h
one_change (action.Replace prefix line) (change.Remove p) y h g = absurd h

pub no_change : (rules : List Rule) (dmr : Dmr) (text : ChangeText) → HasNone HasChange text.action → HasNone (IsMove rules dmr) text
no_change rules dmr text none move is = none move.change is.change

refuses : {A : Type 0} (o : Option A) → o ≡ None → IsSome o → ⊥
refuses None e some = false≢true some
refuses (Some x) e some = cc

pub refused_move : (rules : List Rule) (dmr : Dmr) (text : ChangeText) (c : Change) → HasChange text.action c → IsSome (change_refusal c rules dmr) → HasNone (IsMove rules dmr) text
refused_move rules dmr text c has some move is =
    refuses (change_refusal c rules dmr) (ap (λ (x : Change). change_refusal x rules dmr) (one_change text.action c move.change has is.change) ∙ is.accepted) some

-- a change that is refused, and one that is accepted, where the loop stands
pub stands_refused : (dmr : Dmr) (rules : List Rule) (texts : List ChangeText) (place : ℕ) (last : Book) (moves : List MoveLine) (text : ChangeText) (c : Change) (e : SetupFault) → place < length texts → text ≡ get_or texts place text → Stands dmr rules texts place last moves
    → HasChange text.action c → (e ≡ NoMemory) ⊎ ((e ≡ Refused ChangeRefused place) × IsSome (change_refusal c (rules_of last) (dmr_of last))) → Gives (same_of (List MoveLine)) (Err e) (moves_from 0 dmr rules texts)
stands_refused dmr rules texts place last moves text c e within is s has (inl lack) = subst (λ (f : SetupFault). Gives (same_of (List MoveLine)) (Err f) (moves_from 0 dmr rules texts)) (sym lack) tt
stands_refused dmr rules texts place last moves text c e within is s has (inr told) =
    let some : IsSome (change_refusal c (rules_of last) dmr) = subst (λ (d : Dmr). IsSome (change_refusal c (rules_of last) d)) s.dmr_is told.1 in
    subst (λ (f : SetupFault). Gives (same_of (List MoveLine)) (Err f) (moves_from 0 dmr rules texts)) (sym told.0) (stands_bad dmr rules texts place last moves text within is s (refused_move (rules_of last) dmr text c has some))

pub accepted_move : (dmr : Dmr) (rules : List Rule) (texts : List ChangeText) (place : ℕ) (last : Book) (moves : List MoveLine) (text : ChangeText) (c : Change) → Stands dmr rules texts place last moves
    → HasChange text.action c → change_refusal c (rules_of last) (dmr_of last) ≡ None → IsMove (rules_of last) dmr text (record { at = text.at; live = text.live; change = c })
accepted_move dmr rules texts place last moves text c s has none = record {
  at = refl;
  live = refl;
  change = has;
  accepted = subst (λ (d : Dmr). change_refusal c (rules_of last) d ≡ None) s.dmr_is none;
}

pub one_move : (rules : List Rule) (dmr : Dmr) (text : ChangeText) (x y : MoveLine) → IsMove rules dmr text x → IsMove rules dmr text y → x ≡ y
one_move rules dmr text x y h g =
    let at = h.at ∙ sym g.at in
    let live = h.live ∙ sym g.live in
    let change = one_change text.action x.change y.change h.change g.change in
    λ i. record { at = at i; live = live i; change = change i }

-- ---- what is answered is accepted

abbrev pub HasTime : ChangeText → MoveLine → Type 0
HasTime text move = move.at ≡ text.at

no_moves : (m : MoveLine) (ms : List MoveLine) → exactly (Ok (m ∷ ms)) (Ok []) → ⊥
no_moves m ms e = cc

moves_at : (place : ℕ) (dmr : Dmr) (rules : List Rule) (texts : List ChangeText) (moves : List MoveLine) → moves_from place dmr rules texts (Ok moves) → AllZip HasTime texts moves × AreAccepted dmr rules moves
moves_at place dmr rules [] [] h = (tt, tt)
moves_at place dmr rules [] (move ∷ moves) h = absurd (cc)
moves_at place dmr rules (text ∷ texts) [] h = absurd (no_moves h.value h.rest.value h.rest.rest)
moves_at place dmr rules (text ∷ texts) (move ∷ moves) h =
    let more = moves_at (suc place) dmr (rules_after h.value.change rules) texts h.rest.value h.rest.stage in
    subst (λ (r : Result (List MoveLine) SetupFault). Accepts r) (sym h.rest.rest) ((h.stage.at, more.0), (h.stage.accepted, more.1))
  where
    Accepts : Result (List MoveLine) SetupFault → Type 0
    Accepts (Ok ms) = AllZip HasTime (text ∷ texts) ms × AreAccepted dmr rules ms
    Accepts (Err e) = ⊥

-- ---- the order of times

time_at : (texts : List ChangeText) (moves : List MoveLine) → AllZip HasTime texts moves → (k : ℕ) (t : ChangeText) (m : MoveLine) → k < length texts → (get_or moves k m).at ≡ (get_or texts k t).at
time_at [] moves zip k t m within = absurd (omega arith)
time_at (text ∷ texts) [] zip k t m within = absurd zip
time_at (text ∷ texts) (move ∷ moves) zip zero t m within = zip.0
time_at (text ∷ texts) (move ∷ moves) zip (suc k) t m within = time_at texts moves zip.1 k t m (omega arith)

-- the one before an element
before_is : (texts : List ChangeText) (k : ℕ) (d : ChangeText) → k + 1 < length texts → slice_get (take (k + 1) texts) (length (take (k + 1) texts) - 1) ≡ Some (get_or texts k d)
before_is texts k d within =
    let long : length (take (k + 1) texts) ≡ k + 1 = length-take-le (k + 1) texts (omega arith) in
    let place : length (take (k + 1) texts) - 1 ≡ k = omega arith in
    let there : slice_get (take (k + 1) texts) k ≡ Some (get_or (take (k + 1) texts) k d) = slice_get-get_or (take (k + 1) texts) k d (omega arith) in
    ap (λ (n : ℕ). slice_get (take (k + 1) texts) n) place ∙ there ∙ ap Some (get_or-take (k + 1) texts k d (omega arith))

not_early : (texts : List ChangeText) → first_after is_early texts ≡ None → (k : ℕ) (d : ChangeText) → k + 1 < length texts → (get_or texts k d).at ≤ (get_or texts (k + 1) d).at
not_early texts none k d within =
    let never = none-is is_early texts none (k + 1) d within in
    let told : is_early (take (k + 1) texts) (get_or texts (k + 1) d) ≡ nat_lt (get_or texts (k + 1) d).at (get_or texts k d).at =
    ap (λ (o : Option ChangeText). option_map_or (λ (b : ChangeText). nat_lt (get_or texts (k + 1) d).at b.at) o false) (before_is texts k d within) in
    least _ _ (λ e. never (told ∙ e))
  where
    least : (a b : ℕ) → ¬ (nat_lt b a ≡ true) → a ≤ b
    least a b fails = grind arith

pub in_order : (texts : List ChangeText) (moves : List MoveLine) → first_after is_early texts ≡ None → AllZip HasTime texts moves → IsNonDecreasingBy (λ m. m.at) moves
in_order texts moves none zip =
    let same = length-AllZip HasTime texts moves zip in
    IsNonDecreasingBy-from_all_adjacent (λ m. m.at) moves (λ k m within.
    let t = element-at texts k (omega arith) in
    let before = time_at texts moves zip k t m (omega arith) in
    let here = time_at texts moves zip (k + 1) t m (omega arith) in
    omega (arith, not_early texts none k t (omega arith)))

pub valid_changes : (dmr : Dmr) (rules : List Rule) (texts : List ChangeText) (moves : List MoveLine) → length texts ≤ 64 → All (λ t. t.at ≤ most_at) texts → order_fault texts ≡ None → moves_from 0 dmr rules texts (Ok moves) → AreValidChanges dmr rules moves
valid_changes dmr rules texts moves few times none h =
    let at = moves_at 0 dmr rules texts moves h in
    let few_moves : length moves ≤ 64 = omega (arith, length-AllZip HasTime texts moves at.0) in
    record {
      few = few_moves;
      times = all_given (λ t. t.at ≤ most_at) HasTime (λ m. m.at ≤ most_at) (λ t m most same. subst (λ (n : ℕ). n ≤ most_at) (sym same) most) texts moves times at.0;
      ordered = in_order texts moves (map-None (Refused ChangeOrder) _ none) at.0;
      accepted = at.1;
    }

-- ---- the books after changes

pub accepted_take : (dmr : Dmr) (rules : List Rule) (moves : List MoveLine) (n : ℕ) → AreAccepted dmr rules moves → AreAccepted dmr rules (take n moves)
accepted_take dmr rules moves zero h = tt
accepted_take dmr rules [] (suc n) h = tt
accepted_take dmr rules (move ∷ moves) (suc n) h = (h.0, accepted_take dmr (rules_after move.change rules) moves n h.1)

-- where the loop over accepted changes stands
pub record Follows (dmr : Dmr) (rules : List Rule) (moves : List MoveLine) (place : ℕ) (last : Book) : Type 0 where
  pub rules_are : rules_after_all (drop place moves) (rules_of last) ≡ rules_after_all moves rules
  pub accepted : AreAccepted dmr (rules_of last) (drop place moves)
  pub dmr_is : dmr_of last ≡ dmr
  pub number : generation_of last ≡ place
