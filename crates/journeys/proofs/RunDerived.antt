-- The packets of a run are derived one by one, where each of its steps makes the parts that send on what it sends.
use Rattle.std.proofs.Common.{◌≡◌, refl, sym, ap, ◌∙◌, ℕ, suc, Bool, true, false, List, [], ◌∷◌, ◌++◌, map, length, Option, Some, subst, append_assoc}
use Rattle.std.specs.Prelude.{slice_get, ◌==◌}
use Rattle.std.proofs.lemmas.Bool.{eqb-true}
use Rattle.std.proofs.lemmas.List.{append-nil, map-append, length-map}
use Rattle.std.proofs.lemmas.List.Elements.{filter-append}
use Rattle.journeys.specs.Waiting.{Waiting}
use Rattle.journeys.specs.Answers.{note_of}
use Rattle.journeys.specs.Derived.{Told, Packet, first_of, Part, AreOfHop, sent_by_all, AreSentFrom, known_until, AreArrivals, IsNext, FollowFrom, IsDerivation, HasAll}
use Rattle.journeys.specs.Run.{Step, sent_by_step, Walks, first_waiting}
use Rattle.journeys.proofs.RunLists.{Every}
use Rattle.journeys.proofs.RunSteps.{packet_of, packets_in, is_with, steps_with, taken_by, packets_with, with_itself, IsWalked}
use Rattle.journeys.proofs.RunQueue.{sent_by_steps, Hops, hops_front, walk_hops, arrives_at, all_arrive}

-- The parts of a step send on what it sends.
abbrev pub AreSentOf : Told → List Packet → ℕ → Step → Type 0
AreSentOf told known rec s =
    (parts : List Part) × AreOfHop told known rec s.made.taken (note_of told.trace rec s.made.hop) parts
    × (sent_by_all told.setup s.made.taken.stand parts ≡ map Some (sent_by_step told.setup s))

-- so these are the packets that a record's hops send on
sent_from : (told : Told) (known : List Packet) (rec hop : ℕ) (steps : List Step) → Hops hop steps → Every (AreSentOf told known rec) steps
    → AreSentFrom told known rec hop (taken_by steps) (map Some (sent_by_steps told.setup steps))
sent_from told known rec hop [] hops each = refl
sent_from told known rec hop (s ∷ steps) hops each = (
  each.0.0,
  map Some (sent_by_steps told.setup steps),
  subst (λ (n : ℕ). AreOfHop told known rec s.made.taken (note_of told.trace rec n) each.0.0) hops.0 each.0.1,
  sent_from told known rec (suc hop) steps hops.1 each.1,
  map-append Some (sent_by_step told.setup s) (sent_by_steps told.setup steps)
      ∙ ap (λ (ws : List (Option Waiting)). ws ++ map Some (sent_by_steps told.setup steps)) (sym each.0.2),
)

-- the steps of one record among all
each_with : (told : Told) (known : List Packet) (rec : ℕ) (steps : List Step) → Every (λ (s : Step). AreSentOf told known s.made.rec s) steps
    → Every (AreSentOf told known rec) (steps_with rec steps)
each_with told known rec [] each = tt
each_with told known rec (s ∷ steps) each = by (s.made.rec == rec) refl (each_with told known rec steps each.1)
  where
    by : (b : Bool) → (s.made.rec == rec) ≡ b → Every (AreSentOf told known rec) (steps_with rec steps) → Every (AreSentOf told known rec) (steps_with rec (s ∷ steps))
    by true is rest =
        rw is (subst (λ (n : ℕ). AreSentOf told known n s) (eqb-true s.made.rec rec is) each.0, rest)
    by false is rest = rw is rest

module _ (told : Told) (all : List Step)
    (walked : (rec : ℕ) → IsWalked told.setup (first_of told rec) (steps_with rec all))
    (sent : (known rest : List Step) → all ≡ known ++ rest → Every (λ (s : Step). AreSentOf told (packets_in known) s.made.rec s) known)
  where
    -- what is known of a record, by the steps so far
    abbrev so_far : ℕ → List Step → List Waiting
    so_far rec known = known_until (first_of told rec ∷ map Some (sent_by_steps told.setup (steps_with rec known)))

    hops_with : (rec : ℕ) (known rest : List Step) → all ≡ known ++ rest → Hops 0 (steps_with rec known)
    hops_with rec known rest is =
        let w = walked rec in
        hops_front 0 (steps_with rec known) (steps_with rec rest)
        (subst (λ (ss : List Step). Hops 0 ss) (ap (steps_with rec) is ∙ filter-append (is_with rec) known rest)
        (walk_hops told.setup w.taking 0 _ (steps_with rec all) w.before w.after w.walks))

    arrivals : (rec : ℕ) (known rest : List Step) → all ≡ known ++ rest → AreArrivals told (packets_in known) rec (so_far rec known)
    arrivals rec known rest is = (
      map Some (sent_by_steps told.setup (steps_with rec known)),
      subst (λ (ws : List Waiting). AreSentFrom told (packets_in known) rec 0 ws (map Some (sent_by_steps told.setup (steps_with rec known)))) (sym (packets_with rec known))
          (sent_from told (packets_in known) rec 0 (steps_with rec known) (hops_with rec known rest is)
          (each_with told (packets_in known) rec known (sent known rest is))),
      refl,
    )

    next : (known : List Step) (s : Step) (rest : List Step) → all ≡ known ++ s ∷ rest → IsNext told (packets_in known) (packet_of s)
    next known s rest is =
        let rec = s.made.rec in
        let w = walked rec in
        record {
          arrivals = so_far rec known;
          are = arrivals rec known (s ∷ rest) is;
          next = subst (λ (n : ℕ). slice_get (so_far rec known) n ≡ Some s.made.taken)
              (sym (ap length (packets_with rec known) ∙ length-map (steps_with rec known) (λ (x : Step). x.made.taken)))
              (arrives_at told.setup w.taking (first_of told rec) (steps_with rec known) s (steps_with rec rest) w.before w.after
              (subst (λ (ss : List Step). Walks told.setup w.taking 0 (first_waiting (first_of told rec)) ss w.before w.after) (ap (steps_with rec) is ∙ with_itself known s rest) w.walks));
        }

    follow : (known rest : List Step) → all ≡ known ++ rest → FollowFrom told (packets_in known) (packets_in rest)
    follow known [] is = tt
    follow known (s ∷ rest) is = (
      next known s rest is,
      subst (λ (ps : List Packet). FollowFrom told ps (packets_in rest)) (map-append packet_of known (s ∷ []))
          (follow (known ++ s ∷ []) rest (is ∙ sym (append_assoc known (s ∷ []) rest))),
    )

    pub are_derived : IsDerivation told (packets_in all)
    are_derived = follow [] all refl

    pub are_all : (rec : ℕ) → HasAll told (packets_in all) rec
    are_all rec =
        let w = walked rec in
        subst (λ (ws : List Waiting). AreArrivals told (packets_in all) rec ws)
        (sym (packets_with rec all ∙ all_arrive told.setup w.taking (first_of told rec) (steps_with rec all) w.before w.after w.walks))
        (arrivals rec all [] (sym (append-nil all)))
