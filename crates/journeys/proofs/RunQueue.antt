-- The packets of a record's walk, first in first out: each hop takes the next of those that are known.
use Rattle.std.proofs.Common.{◌≡◌, refl, sym, ap, ◌∙◌, ℕ, suc, ◌+◌, List, [], ◌∷◌, ◌++◌, map, length, Option, Some, None, subst, arith, append_assoc}
use Rattle.std.specs.Prelude.{slice_get, flat_map}
use Rattle.std.proofs.lemmas.List.{append-nil}
use Rattle.mapt_setup.specs.declared.setup.Setup.{Setup}
use Rattle.journeys.specs.Waiting.{Waiting}
use Rattle.journeys.specs.Derived.{known_until}
use Rattle.journeys.specs.declared.made.Taking.{Taking}
use Rattle.journeys.specs.Run.{Histories, Step, sent_by_step, Walks, first_waiting}
use Rattle.journeys.proofs.RunSteps.{taken_by}

-- what these steps send on
abbrev pub sent_by_steps : Setup → List Step → List Waiting
sent_by_steps setup steps = flat_map (sent_by_step setup) steps

-- steps with the numbers from this one on
abbrev pub Hops : ℕ → List Step → Type 0
Hops hop [] = Unit {0}
Hops hop (s ∷ steps) = (s.made.hop ≡ hop) × Hops (suc hop) steps

pub hops_front : (hop : ℕ) (xs ys : List Step) → Hops hop (xs ++ ys) → Hops hop xs
hops_front hop [] ys hops = tt
hops_front hop (x ∷ xs) ys hops = (hops.0, hops_front (suc hop) xs ys hops.1)

pub hop_behind : (hop : ℕ) (xs : List Step) (s : Step) (ys : List Step) → Hops hop (xs ++ s ∷ ys) → s.made.hop ≡ hop + length xs
hop_behind hop [] s ys hops = omega (arith, hops.0)
hop_behind hop (x ∷ xs) s ys hops = omega (arith, hop_behind (suc hop) xs s ys hops.1)

-- what is known, where all is
known_all : {A : Type 0} (xs : List A) → known_until (map Some xs) ≡ xs
known_all [] = refl
known_all (x ∷ xs) = ap (λ ys. x ∷ ys) (known_all xs)

module _ (setup : Setup) (taking : Taking) where
  pub walk_hops : (hop : ℕ) (waiting : List Waiting) (steps : List Step) (before after : Histories)
      → Walks setup taking hop waiting steps before after → Hops hop steps
  walk_hops hop waiting [] before after walks = tt
  walk_hops hop waiting (s ∷ steps) before after (w, others, mid, waits, of_it, is, walks) =
      (of_it.hop_is, walk_hops (suc hop) (others ++ sent_by_step setup s) steps mid after walks)

  -- a hop takes the next of what waited and what those before it sent
  queue_at : (hop : ℕ) (waiting : List Waiting) (xs : List Step) (s : Step) (ys : List Step) (before after : Histories)
      → Walks setup taking hop waiting (xs ++ s ∷ ys) before after → slice_get (waiting ++ sent_by_steps setup xs) (length xs) ≡ Some s.made.taken
  queue_at hop waiting [] s ys before after (w, others, mid, waits, of_it, is, walks) =
      subst (λ (ws : List Waiting). slice_get (ws ++ []) 0 ≡ Some s.made.taken) (sym waits) (ap Some (sym of_it.taken))
  queue_at hop waiting (x ∷ xs) s ys before after (w, others, mid, waits, of_it, is, walks) =
      subst (λ (ws : List Waiting). slice_get (ws ++ sent_by_steps setup (x ∷ xs)) (suc (length xs)) ≡ Some s.made.taken) (sym waits)
      (subst (λ (ws : List Waiting). slice_get ws (length xs) ≡ Some s.made.taken) (append_assoc others (sent_by_step setup x) (sent_by_steps setup xs))
      (queue_at (suc hop) (others ++ sent_by_step setup x) xs s ys mid after walks))

  -- and in the end these are all
  queue_all : (hop : ℕ) (waiting : List Waiting) (steps : List Step) (before after : Histories)
      → Walks setup taking hop waiting steps before after → waiting ++ sent_by_steps setup steps ≡ taken_by steps
  queue_all hop waiting [] before after walks = append-nil waiting ∙ walks.0
  queue_all hop waiting (s ∷ steps) before after (w, others, mid, waits, of_it, is, walks) =
      ap (λ (ws : List Waiting). ws ++ sent_by_steps setup (s ∷ steps)) waits
      ∙ ap (λ (ws : List Waiting). w ∷ ws) (sym (append_assoc others (sent_by_step setup s) (sent_by_steps setup steps)))
      ∙ ap (λ (ws : List Waiting). w ∷ ws) (queue_all (suc hop) (others ++ sent_by_step setup s) steps mid after walks)
      ∙ ap (λ (v : Waiting). v ∷ taken_by steps) (sym of_it.taken)

  -- where nothing waits no hop is made
  no_walk : (hop : ℕ) (steps : List Step) (before after : Histories) → Walks setup taking hop [] steps before after → steps ≡ []
  no_walk hop [] before after walks = refl
  no_walk hop (s ∷ steps) before after (w, others, mid, waits, of_it, is, walks) = absurd (cc)

  no_step : (xs : List Step) (s : Step) (ys : List Step) → xs ++ s ∷ ys ≡ [] → ⊥
  no_step [] s ys is = absurd (cc)
  no_step (x ∷ xs) s ys is = absurd (cc)

  -- from where a record starts
  pub arrives_at : (first : Option Waiting) (xs : List Step) (s : Step) (ys : List Step) (before after : Histories)
      → Walks setup taking 0 (first_waiting first) (xs ++ s ∷ ys) before after
      → slice_get (known_until (first ∷ map Some (sent_by_steps setup xs))) (length xs) ≡ Some s.made.taken
  arrives_at None xs s ys before after walks = absurd (no_step xs s ys (no_walk 0 (xs ++ s ∷ ys) before after walks))
  arrives_at (Some w) xs s ys before after walks =
      subst (λ (ws : List Waiting). slice_get (w ∷ ws) (length xs) ≡ Some s.made.taken) (sym (known_all (sent_by_steps setup xs)))
      (queue_at 0 (w ∷ []) xs s ys before after walks)

  pub all_arrive : (first : Option Waiting) (steps : List Step) (before after : Histories) → Walks setup taking 0 (first_waiting first) steps before after
      → taken_by steps ≡ known_until (first ∷ map Some (sent_by_steps setup steps))
  all_arrive None steps before after walks = ap taken_by (no_walk 0 steps before after walks)
  all_arrive (Some w) steps before after walks =
      sym (queue_all 0 (w ∷ []) steps before after walks) ∙ ap (λ (ws : List Waiting). w ∷ ws) (sym (known_all (sent_by_steps setup steps)))
