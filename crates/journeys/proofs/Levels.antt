-- Hops of packets that wait, one after the other, and levels of them one behind the other.
use Rattle.std.proofs.Common.{◌≡◌, refl, sym, ap, ◌∙◌, ℕ, zero, suc, ◌+◌, ◌<◌, ◌≤◌, Bool, true, false, cond, List, [], ◌∷◌, ◌++◌, map, length, Option, Some, None, subst, arith, lit<, append_assoc, length-append}
use Rattle.std.specs.Prelude.{slice_get}
use Rattle.std.specs.Option.{option_to_list}
use Rattle.std.specs.List.{filter_map, flat_map}
use Rattle.std.proofs.lemmas.List.{append-nil, map-append, length-map}
use Rattle.hops.specs.declared.hop.Out.{Out}
use Rattle.edge_node.specs.declared.way.Way.TheVariants.{Lan, Access, Turned}
use Rattle.mapt_setup.specs.declared.setup.Setup.{Setup}
use Rattle.journeys.specs.declared.made.MadeHop.{MadeHop}
use Rattle.journeys.specs.declared.made.Taking.{Taking}
use Rattle.journeys.specs.declared.stand.Stand.{Stand}
use Rattle.journeys.specs.declared.stand.Stand.TheVariants.{Edge, Relay}
use Rattle.journeys.specs.Waiting.{Waiting, StandsIn, onward}
use Rattle.journeys.specs.Rank.{is_fault4, is_fault6, rank_at, rank}
use Rattle.journeys.specs.Walk.{Step, Making, kept_of, sent_by_step, Leads, IsJourney}
use Rattle.journeys.specs.Level.{IsMade, IsAnswered, AreMade, Gains, AreStanding, sent_by_level, AreWithin, IsWalked}

-- what these steps send on
abbrev pub sent_by_all : Setup → List Step → List Waiting
sent_by_all setup steps = flat_map (sent_by_step setup) steps

-- it is what they send that are kept of them
pub sent_by_kept_of : (setup : Setup) (steps : List Step) → sent_by_level setup (map kept_of steps) ≡ sent_by_all setup steps
sent_by_kept_of setup [] = refl
sent_by_kept_of setup (step ∷ steps) = ap (λ ws. sent_by_step setup step ++ ws) (sent_by_kept_of setup steps)

-- no rank is 0
rank_some : (w : Waiting) → 0 < rank w
rank_some w = at w.stand
  where
    either_some : (b : Bool) (m n : ℕ) → 0 < m → 0 < n → 0 < cond b m n
    either_some true m n first second = first
    either_some false m n first second = second

    at : (s : Stand) → 0 < rank_at s w.octets
    at (Edge number Lan) = lit< tt
    at (Edge number Access) = either_some (is_fault6 w.octets) 1 4 (lit< tt) (lit< tt)
    at (Edge number Turned) = lit< tt
    at (Relay true) = either_some (is_fault6 w.octets) 3 6 (lit< tt) (lit< tt)
    at (Relay false) = either_some (is_fault4 w.octets) 2 5 (lit< tt) (lit< tt)

-- so nothing waits that goes no further
pub none_within : (ws : List Waiting) → AreWithin 0 ws → ws ≡ []
none_within [] low = refl
none_within (w ∷ ws) low = absurd (omega (arith, rank_some w, low.0))

-- and none is more than 7
rank_most : (w : Waiting) → rank w ≤ 7
rank_most w = at w.stand
  where
    either_most : (b : Bool) (m n : ℕ) → m ≤ 7 → n ≤ 7 → cond b m n ≤ 7
    either_most true m n first second = first
    either_most false m n first second = second

    at : (s : Stand) → rank_at s w.octets ≤ 7
    at (Edge number Lan) = omega arith
    at (Edge number Access) = either_most (is_fault6 w.octets) 1 4 (omega arith) (omega arith)
    at (Edge number Turned) = omega arith
    at (Relay true) = either_most (is_fault6 w.octets) 3 6 (omega arith) (omega arith)
    at (Relay false) = either_most (is_fault4 w.octets) 2 5 (omega arith) (omega arith)

pub all_within : (ws : List Waiting) → AreWithin 7 ws
all_within [] = tt
all_within (w ∷ ws) = (rank_most w, all_within ws)

module _ {S : Type 0} (Makes : Making S) (setup : Setup) (taking : Taking) where
  -- ---- one after the other

  made_more : (ws xs : List Waiting) (hop : ℕ) (steps others : List Step) (before mid after : S) → AreMade Makes setup taking hop ws steps before mid
      → AreMade Makes setup taking (hop + length steps) xs others mid after → AreMade Makes setup taking hop (ws ++ xs) (steps ++ others) before after
  made_more [] xs hop steps others before mid after first second =
      subst (λ (ss : List Step). AreMade Makes setup taking hop xs (ss ++ others) before after) (sym first.0)
      (subst (λ (s : S). AreMade Makes setup taking hop xs others s after) first.1
      (subst (λ (n : ℕ). AreMade Makes setup taking n xs others mid after) (ap (λ (ss : List Step). hop + length ss) first.0 ∙ none hop) second))
    where
      none : (n : ℕ) → n + 0 ≡ n
      none n = omega arith
  made_more (w ∷ ws) xs hop steps others before mid after (step, rest, between, made, first, is) second = (
    step,
    rest ++ others,
    between,
    made,
    made_more ws xs (suc hop) rest others between mid after first
        (subst (λ (n : ℕ). AreMade Makes setup taking n xs others mid after) (ap (λ (ss : List Step). hop + length ss) is ∙ next hop (length rest)) second),
    ap (λ (ss : List Step). ss ++ others) is,
  )
    where
      next : (n m : ℕ) → n + suc m ≡ suc n + m
      next n m = omega arith

  -- none
  pub gains_none : (from : ℕ) (kept : List MadeHop) (s : S) → Gains Makes setup taking from [] kept kept s s
  gains_none from kept s = ([], (refl, refl), sym (append-nil kept))

  -- one
  pub gains_one : (from hop : ℕ) (w : Waiting) (made : MadeHop) (kept : List MadeHop) (before after : S) → hop ≡ from + length kept
      → IsAnswered Makes setup taking hop w made before after → Gains Makes setup taking from (w ∷ []) kept (kept ++ made ∷ []) before after
  gains_one from hop w made kept before after number (step, is, kept_is) = (
    step ∷ [],
    (step, [], after, subst (λ (n : ℕ). IsMade Makes setup taking n w step before after) number is, (refl, refl), refl),
    ap (λ (m : MadeHop). kept ++ m ∷ []) kept_is,
  )

  -- and more
  pub gains_more : (from : ℕ) (ws xs : List Waiting) (a b c : List MadeHop) (before mid after : S) → Gains Makes setup taking from ws a b before mid
      → Gains Makes setup taking from xs b c mid after → Gains Makes setup taking from (ws ++ xs) a c before after
  gains_more from ws xs a b c before mid after (steps, first, is) (others, second, so) = (
    steps ++ others,
    made_more ws xs (from + length a) steps others before mid after first
        (subst (λ (n : ℕ). AreMade Makes setup taking n xs others mid after) (ap (λ (m : List MadeHop). from + length m) is ∙ number) second),
    so ∙ ap (λ (m : List MadeHop). m ++ map kept_of others) is ∙ append_assoc a (map kept_of steps) (map kept_of others)
        ∙ ap (λ (m : List MadeHop). a ++ m) (sym (map-append kept_of steps others)),
  )
    where
      number : from + length (a ++ map kept_of steps) ≡ from + length a + length steps
      number = omega (arith, length-append a (map kept_of steps), length-map steps kept_of)

  -- ---- first in first out

  -- the hops of what waits in front, which send on behind all that waits
  pub level_leads : (ws more : List Waiting) (hop : ℕ) (steps : List Step) (before after : S) → AreMade Makes setup taking hop ws steps before after
      → Leads Makes setup taking hop (ws ++ more) steps (more ++ sent_by_all setup steps) before after
  level_leads [] more hop steps before after made =
      subst (λ (ss : List Step). Leads Makes setup taking hop more ss (more ++ sent_by_all setup ss) before after) (sym made.0) (append-nil more, made.1)
  level_leads (w ∷ ws) more hop steps before after (step, rest, between, made, others, is) =
      subst (λ (ss : List Step). Leads Makes setup taking hop (w ∷ ws ++ more) ss (more ++ sent_by_all setup ss) before after) (sym is) (
        w,
        ws ++ more,
        between,
        refl,
        made.of_it,
        made.makes,
        subst (λ (waiting : List Waiting). Leads Makes setup taking (suc hop) waiting rest (more ++ (sent_by_step setup step ++ sent_by_all setup rest)) between after)
            (sym (append_assoc ws more (sent_by_step setup step)))
            (subst (λ (left : List Waiting). Leads Makes setup taking (suc hop) (ws ++ (more ++ sent_by_step setup step)) rest left between after)
            (append_assoc more (sent_by_step setup step) (sent_by_all setup rest))
            (level_leads ws (more ++ sent_by_step setup step) (suc hop) rest between after others)),
      )

  -- further
  pub leads_more : (steps others : List Step) (ws xs left : List Waiting) (hop : ℕ) (before mid after : S) → Leads Makes setup taking hop ws steps xs before mid
      → Leads Makes setup taking (hop + length steps) xs others left mid after → Leads Makes setup taking hop ws (steps ++ others) left before after
  leads_more [] others ws xs left hop before mid after first second =
      subst (λ (waiting : List Waiting). Leads Makes setup taking hop waiting others left before after) first.0
      (subst (λ (s : S). Leads Makes setup taking hop xs others left s after) first.1
      (subst (λ (n : ℕ). Leads Makes setup taking n xs others left mid after) (none hop) second))
    where
      none : (n : ℕ) → n + 0 ≡ n
      none n = omega arith
  leads_more (step ∷ steps) others ws xs left hop before mid after (w, behind, between, waits, of_it, makes, first) second = (
    w,
    behind,
    between,
    waits,
    of_it,
    makes,
    leads_more steps others (behind ++ sent_by_step setup step) xs left (suc hop) between mid after first
        (subst (λ (n : ℕ). Leads Makes setup taking n xs others left mid after) (next hop (length steps)) second),
  )
    where
      next : (n m : ℕ) → n + suc m ≡ suc n + m
      next n m = omega arith

  -- ---- how far

  -- what one hop sends on goes less far
  sent_within : (here : Waiting) (outs : List Out) (most : ℕ) → rank here ≤ suc most
      → ((at : ℕ) (out : Out) (next : Waiting) → slice_get outs at ≡ Some out → onward setup here.stand out ≡ Some next → rank next < rank here)
      → AreWithin most (filter_map (onward setup here.stand) outs)
  sent_within here [] most low less = tt
  sent_within here (out ∷ outs) most low less =
      by (onward setup here.stand out) refl (sent_within here outs most low (λ at. less (suc at)))
    where
      by : (next : Option Waiting) → onward setup here.stand out ≡ next → AreWithin most (filter_map (onward setup here.stand) outs)
          → AreWithin most (filter_map (onward setup here.stand) (out ∷ outs))
      by None is rest = rw is rest
      by (Some w) is rest = rw is (omega (arith, less 0 out w refl is, low), rest)

  within_both : (most : ℕ) (ws xs : List Waiting) → AreWithin most ws → AreWithin most xs → AreWithin most (ws ++ xs)
  within_both most [] xs first second = second
  within_both most (w ∷ ws) xs first second = (first.0, within_both most ws xs first.1 second)

  -- and so does what a level sends on
  pub level_within : (most hop : ℕ) (ws : List Waiting) (steps : List Step) (before after : S) → AreWithin (suc most) ws
      → AreMade Makes setup taking hop ws steps before after → AreWithin most (sent_by_all setup steps)
  level_within most hop [] steps before after low made = subst (λ (ss : List Step). AreWithin most (sent_by_all setup ss)) (sym made.0) tt
  level_within most hop (w ∷ ws) steps before after low (step, rest, between, made, others, is) =
      subst (λ (ss : List Step). AreWithin most (sent_by_all setup ss)) (sym is)
      (within_both most (sent_by_step setup step) (sent_by_all setup rest)
      (sent_within step.taken step.came.outs most (rw made.of_it.taken low.0) made.less)
      (level_within most (suc hop) ws rest between after low.1 others))

  -- ---- where

  pub level_standing : (hop : ℕ) (ws : List Waiting) (steps : List Step) (before after : S) → AreMade Makes setup taking hop ws steps before after
      → AreStanding setup (map kept_of steps)
  level_standing hop [] steps before after made = subst (λ (ss : List Step). AreStanding setup (map kept_of ss)) (sym made.0) tt
  level_standing hop (w ∷ ws) steps before after (step, rest, between, made, others, is) =
      subst (λ (ss : List Step). AreStanding setup (map kept_of ss)) (sym is)
      (made.stands, level_standing (suc hop) ws rest between after others)

  -- ---- levels one behind the other

  -- the first
  pub first_level : (most : ℕ) (ws : List Waiting) (level : List MadeHop) (before after : S) → AreWithin (suc most) ws
      → Gains Makes setup taking 0 ws [] level before after → IsWalked Makes setup taking ws most [] level before after
  first_level most ws level before after low (steps, made, is) =
      subst (λ (kept : List MadeHop). IsWalked Makes setup taking ws most [] kept before after) (sym is)
      record {
        steps = steps;
        leads = subst (λ (left : List Waiting). Leads Makes setup taking 0 ws steps left before after) (sym (sent_by_kept_of setup steps))
            (subst (λ (waiting : List Waiting). Leads Makes setup taking 0 waiting steps (sent_by_all setup steps) before after) (append-nil ws)
            (level_leads ws [] 0 steps before after made));
        kept = refl;
        within = subst (AreWithin most) (sym (sent_by_kept_of setup steps)) (level_within most 0 ws steps before after low made);
        standing = level_standing 0 ws steps before after made;
      }

  -- the next
  pub next_level : (most from : ℕ) (first : List Waiting) (done level next : List MadeHop) (before mid after : S) → from ≡ length done + length level
      → IsWalked Makes setup taking first (suc most) done level before mid → Gains Makes setup taking from (sent_by_level setup level) [] next mid after
      → IsWalked Makes setup taking first most (done ++ level) next before after
  next_level most from first done level next before mid after number walked (steps, made, is) =
      subst (λ (kept : List MadeHop). IsWalked Makes setup taking first most (done ++ level) kept before after) (sym is)
      record {
        steps = walked.steps ++ steps;
        leads = subst (λ (left : List Waiting). Leads Makes setup taking 0 first (walked.steps ++ steps) left before after) (sym (sent_by_kept_of setup steps))
            (leads_more walked.steps steps first (sent_by_level setup level) (sent_by_all setup steps) 0 before mid after walked.leads
            (subst (λ (waiting : List Waiting). Leads Makes setup taking (0 + length walked.steps) waiting steps (sent_by_all setup steps) mid after) (append-nil (sent_by_level setup level))
            (level_leads (sent_by_level setup level) [] (0 + length walked.steps) steps mid after
            (subst (λ (n : ℕ). AreMade Makes setup taking n (sent_by_level setup level) steps mid after) behind made))));
        kept = ap (λ (m : List MadeHop). m ++ map kept_of steps) walked.kept ∙ sym (map-append kept_of walked.steps steps);
        within = subst (AreWithin most) (sym (sent_by_kept_of setup steps))
            (level_within most (from + 0) (sent_by_level setup level) steps mid after walked.within made);
        standing = level_standing (from + 0) (sent_by_level setup level) steps mid after made;
      }
    where
      count : length done + length level ≡ length walked.steps
      count = sym (length-append done level) ∙ ap (λ (m : List MadeHop). length m) walked.kept ∙ length-map walked.steps kept_of

      behind : from + 0 ≡ 0 + length walked.steps
      behind = omega (arith, number, count)

  -- the last
  pub all_levels : (first : List Waiting) (done level : List MadeHop) (before after : S) → IsWalked Makes setup taking first 0 done level before after
      → IsJourney Makes setup taking first before after (done ++ level)
  all_levels first done level before after walked = (
    walked.steps,
    subst (λ (left : List Waiting). Leads Makes setup taking 0 first walked.steps left before after) (none_within (sent_by_level setup level) walked.within) walked.leads,
    walked.kept,
  )

  -- ---- whoever makes hops can make others

  module _ (Ready : S → Type 0) (stays : (step : Step) (before after : S) → Makes step before after → Ready after) where
    made_ready : (ws : List Waiting) (hop : ℕ) (steps : List Step) (before after : S) → AreMade Makes setup taking hop ws steps before after
        → Ready before → Ready after
    made_ready [] hop steps before after made ready = subst Ready (sym made.1) ready
    made_ready (w ∷ ws) hop steps before after (step, rest, between, made, others, is) ready =
        made_ready ws (suc hop) rest between after others (stays step before between made.makes)

    pub gains_ready : (from : ℕ) (ws : List Waiting) (a b : List MadeHop) (before after : S) → Gains Makes setup taking from ws a b before after
        → Ready before → Ready after
    gains_ready from ws a b before after (steps, made, is) ready = made_ready ws (from + length a) steps before after made ready

pub standing_at : (setup : Setup) (level : List MadeHop) (at : ℕ) (made : MadeHop) → AreStanding setup level → slice_get level at ≡ Some made
    → StandsIn setup made.stand
standing_at setup [] at made standing e = absurd (cc)
standing_at setup (first ∷ level) zero made standing e = subst (λ (m : MadeHop). StandsIn setup m.stand) (same first made e) standing.0
  where
    same : (x y : MadeHop) → ◌≡◌ {A = Option MadeHop} (Some x) (Some y) → x ≡ y
    same x y e = cc
standing_at setup (first ∷ level) (suc at) made standing e = standing_at setup level at made standing.1 e

-- what one out sends on
pub sent_one : (setup : Setup) (here : Stand) (out : Out) → option_to_list (onward setup here out) ≡ filter_map (onward setup here) (out ∷ [])
sent_one setup here out = by (onward setup here out)
  where
    by : (o : Option Waiting) → option_to_list o ≡ filter_map (λ (x : Option Waiting). x) (o ∷ [])
    by None = refl
    by (Some w) = refl
