-- The journeys of a trace are one: any two derivations that have all packets have the same of each record.
use Rattle.std.proofs.Common.{◌≡◌, refl, sym, ap, ◌∙◌, ℕ, zero, suc, ◌+◌, inl, inr, Bool, true, false, List, [], ◌∷◌, ◌++◌, map, length, Option, Some, None, subst, arith, append_assoc}
use Rattle.std.specs.Prelude.{slice_get, ◌==◌, filter}
use Rattle.std.specs.Option.{option_map}
use Rattle.std.proofs.lemmas.Bool.{eqb-true}
use Rattle.std.proofs.lemmas.List.{append-nil, map-append, length-append, length-map}
use Rattle.std.proofs.lemmas.List.Elements.{filter-append}
use Rattle.hops.specs.declared.hop.Hop.{Hop}
use Rattle.hops.specs.Hop.{then}
use Rattle.mapt_setup.specs.declared.setup.Setup.{Setup}
use Rattle.domain_core.specs.declared.journey.HopNote.{HopNote}
use Rattle.journeys.specs.declared.made.MadeHop.{MadeHop}
use Rattle.journeys.specs.declared.stand.Stand.{Stand}
use Rattle.journeys.specs.Waiting.{Waiting}
use Rattle.journeys.specs.Answers.{note_of}
use Rattle.journeys.specs.Derived.{Told, Packet, packets_of, first_of, Part, made, untold, AreAtStand, sent_by, sent_by_all, AreSentFrom, known_until, AreArrivals, IsNext, FollowFrom, IsDerivation, HasAll}
use Rattle.journeys.specs.Walk.{Step, kept_of}
use Rattle.journeys.specs.Came.{came_to, IsToldHop, IsToldJourney, AreJourneysBy, AreJourneys, AreKept}
use Rattle.journeys.proofs.RunLists.{get_front}
use Rattle.journeys.proofs.PartsOnce.{IsLess, AreLess, IsWithin, parts_less, hop_less}

some_same : {A : Type 0} (x y : A) → Some x ≡ Some y → x ≡ y
some_same x y e = cc

-- ---- what is sent, as far as it is known

abbrev IsBelow : {A : Type 0} → List (Option A) → List (Option A) → Type 0
IsBelow {A} [] ys = Unit {0}
IsBelow {A} (None ∷ xs) ys = Unit {0}
IsBelow {A} (Some x ∷ xs) [] = ⊥
IsBelow {A} (Some x ∷ xs) (None ∷ ys) = ⊥
IsBelow {A} (Some x ∷ xs) (Some y ∷ ys) = (x ≡ y) × IsBelow xs ys

below_known : {A : Type 0} (xs ys : List (Option A)) → IsBelow xs ys → (k : ℕ) (x : A) → slice_get (known_until xs) k ≡ Some x → slice_get (known_until ys) k ≡ Some x
below_known [] ys below k x at = absurd (cc)
below_known (None ∷ xs) ys below k x at = absurd (cc)
below_known (Some y ∷ xs) [] below k x at = absurd below
below_known (Some y ∷ xs) (None ∷ ys) below k x at = absurd below
below_known (Some y ∷ xs) (Some z ∷ ys) below zero x at = ap Some (sym below.0) ∙ at
below_known (Some y ∷ xs) (Some z ∷ ys) below (suc k) x at = below_known xs ys below.1 k x at

below_behind : {A : Type 0} (ws : List A) (xs ys : List (Option A)) → IsBelow xs ys → IsBelow (map Some ws ++ xs) (map Some ws ++ ys)
below_behind [] xs ys below = below
below_behind (w ∷ ws) xs ys below = (refl, below_behind ws xs ys below)

module _ (setup : Setup) (here : Stand) where
  -- of one part, before others
  below_part : (part other : Part) → IsLess part other → (xs ys : List (Option Waiting)) → IsBelow xs ys → IsBelow (sent_by setup here part ++ xs) (sent_by setup here other ++ ys)
  below_part part other (inl is) xs ys below = subst (λ (p : Part). IsBelow (sent_by setup here p ++ xs) (sent_by setup here other ++ ys)) (sym is) tt
  below_part part other (inr same) xs ys below =
      subst (λ (p : Part). IsBelow (sent_by setup here p ++ xs) (sent_by setup here other ++ ys)) (sym same) (by other)
    where
      by : (p : Part) → IsBelow (sent_by setup here p ++ xs) (sent_by setup here p ++ ys)
      by (made hop) = below_behind _ xs ys below
      by untold = tt

  below_parts : (parts these : List Part) → AreLess parts these → (xs ys : List (Option Waiting)) → IsBelow xs ys
      → IsBelow (sent_by_all setup here parts ++ xs) (sent_by_all setup here these ++ ys)
  below_parts [] [] less xs ys below = below
  below_parts [] (other ∷ these) less xs ys below = absurd less
  below_parts (part ∷ parts) [] less xs ys below = absurd less
  below_parts (part ∷ parts) (other ∷ these) less xs ys below =
      subst (λ (sent : List (Option Waiting)). IsBelow sent (sent_by_all setup here (other ∷ these) ++ ys)) (sym (append_assoc (sent_by setup here part) (sent_by_all setup here parts) xs))
      (subst (λ (sent : List (Option Waiting)). IsBelow (sent_by setup here part ++ (sent_by_all setup here parts ++ xs)) sent)
      (sym (append_assoc (sent_by setup here other) (sent_by_all setup here these) ys))
      (below_part part other less.0 (sent_by_all setup here parts ++ xs) (sent_by_all setup here these ++ ys) (below_parts parts these less.1 xs ys below)))

-- ---- packets of records

get_within : (known others : List Packet) → IsWithin known others → (rec hop : ℕ) (w : Waiting) → slice_get (packets_of rec known) hop ≡ Some w
    → slice_get (packets_of rec others) hop ≡ Some w
get_within known others within rec hop w at =
    subst (λ (ws : List Waiting). slice_get ws hop ≡ Some w) (sym (within rec).1) (get_front (packets_of rec known) (within rec).0 hop w at)

module _ (told : Told) (known others : List Packet) (within : IsWithin known others) where
  below_sent : (rec hop : ℕ) (ws more : List Waiting) (sent these : List (Option Waiting)) → AreSentFrom told known rec hop ws sent
      → AreSentFrom told others rec hop (ws ++ more) these → IsBelow sent these
  below_sent rec hop [] more sent these none has = subst (λ (xs : List (Option Waiting)). IsBelow xs these) (sym none) tt
  below_sent rec hop (w ∷ ws) more sent these (parts, rest, are, next, is) (those, rest_there, also, following, same) =
      subst (λ (xs : List (Option Waiting)). IsBelow xs these) (sym is)
      (subst (λ (xs : List (Option Waiting)). IsBelow (sent_by_all told.setup w.stand parts ++ rest) xs) (sym same)
      (below_parts told.setup w.stand parts those
      (hop_less told known others (get_within known others within) rec w (note_of told.trace rec hop) parts those are also)
      rest rest_there (below_sent rec (suc hop) ws more rest rest_there next following)))

  below_first : (first : Option Waiting) (xs ys : List (Option Waiting)) → IsBelow xs ys → IsBelow (first ∷ xs) (first ∷ ys)
  below_first None xs ys below = tt
  below_first (Some w) xs ys below = (refl, below)

  -- what the known packets of a record send on is what the others have
  arrives : (rec : ℕ) (arrivals : List Waiting) → AreArrivals told known rec arrivals → HasAll told others rec → (k : ℕ) (w : Waiting) → slice_get arrivals k ≡ Some w
      → slice_get (packets_of rec others) k ≡ Some w
  arrives rec arrivals (sent, are, is) (these, has, same) k w at =
      subst (λ (ws : List Waiting). slice_get ws k ≡ Some w) (sym same)
      (below_known (first_of told rec ∷ sent) (first_of told rec ∷ these)
      (below_first (first_of told rec) sent these
      (below_sent rec 0 (packets_of rec known) (within rec).0 sent these are
      (subst (λ (ws : List Waiting). AreSentFrom told others rec 0 ws these) (within rec).1 has)))
      k w (subst (λ (ws : List Waiting). slice_get ws k ≡ Some w) is at))

-- what stands behind the known ones begins with the next
begins : (ws more : List Waiting) (w : Waiting) → slice_get (ws ++ more) (length ws) ≡ Some w → (rest : List Waiting) × (more ≡ w ∷ rest)
begins [] [] w at = absurd (cc)
begins [] (x ∷ more) w at = (more, cc)
begins (x ∷ ws) more w at = begins ws more w at

-- one more of a record
one_more : (rec : ℕ) (known : List Packet) (p : Packet) → packets_of rec (known ++ p ∷ []) ≡ packets_of rec known ++ packets_of rec (p ∷ [])
one_more rec known p =
    ap (map (λ (x : Packet). x.taken)) (filter-append (λ (x : Packet). x.rec == rec) known (p ∷ []))
    ∙ map-append (λ (x : Packet). x.taken) (filter (λ (x : Packet). x.rec == rec) known) (filter (λ (x : Packet). x.rec == rec) (p ∷ []))

module _ (told : Told) (others : List Packet) (whole : (rec : ℕ) → HasAll told others rec) where
  within_next : (known : List Packet) (p : Packet) → IsWithin known others → IsNext told known p → IsWithin (known ++ p ∷ []) others
  within_next known p within next rec = by (p.rec == rec) refl
    where
      by : (b : Bool) → (p.rec == rec) ≡ b → (more : List Waiting) × (packets_of rec others ≡ packets_of rec (known ++ p ∷ []) ++ more)
      by true is =
          let same : p.rec ≡ rec = eqb-true p.rec rec is in
          let there : slice_get (packets_of p.rec others) (length (packets_of p.rec known)) ≡ Some p.taken =
          arrives told known others within p.rec next.arrivals next.are (whole p.rec) (length (packets_of p.rec known)) p.taken next.next in
          let at : slice_get (packets_of rec known ++ (within rec).0) (length (packets_of rec known)) ≡ Some p.taken =
          subst (λ (ws : List Waiting). slice_get ws (length (packets_of rec known)) ≡ Some p.taken) (within rec).1
          (subst (λ (n : ℕ). slice_get (packets_of n others) (length (packets_of n known)) ≡ Some p.taken) same there) in
          let rest = begins (packets_of rec known) (within rec).0 p.taken at in
          let alone : packets_of rec (p ∷ []) ≡ p.taken ∷ [] = rw is refl in (
            rest.0,
            (within rec).1 ∙ ap (λ (ws : List Waiting). packets_of rec known ++ ws) rest.1
                ∙ sym (append_assoc (packets_of rec known) (p.taken ∷ []) rest.0)
                ∙ ap (λ (ws : List Waiting). (packets_of rec known ++ ws) ++ rest.0) (sym alone)
                ∙ ap (λ (ws : List Waiting). ws ++ rest.0) (sym (one_more rec known p)),
          )
      by false is =
          let none : packets_of rec (p ∷ []) ≡ [] = rw is refl in (
            (within rec).0,
            (within rec).1
                ∙ ap (λ (ws : List Waiting). ws ++ (within rec).0)
                (sym (append-nil (packets_of rec known)) ∙ ap (λ (ws : List Waiting). packets_of rec known ++ ws) (sym none) ∙ sym (one_more rec known p)),
          )

  within_all : (known packets : List Packet) → IsWithin known others → FollowFrom told known packets → IsWithin (known ++ packets) others
  within_all known [] within follow = subst (λ (ps : List Packet). IsWithin ps others) (sym (append-nil known)) within
  within_all known (p ∷ packets) within follow =
      subst (λ (ps : List Packet). IsWithin ps others) (append_assoc known (p ∷ []) packets)
      (within_all (known ++ p ∷ []) packets (within_next known p within follow.0) follow.1)

  within_derived : (packets : List Packet) → IsDerivation told packets → IsWithin packets others
  within_derived packets derived = within_all [] packets (λ rec. (packets_of rec others, refl)) derived

-- two lists that begin with one another are the same
begin_both : (xs ys more others : List Waiting) → ys ≡ xs ++ more → xs ≡ ys ++ others → xs ≡ ys
begin_both xs ys [] others is has = sym (append-nil xs) ∙ sym is
begin_both xs ys (w ∷ more) others is has =
    absurd (longer (length xs) (length ys) (ap length is ∙ length-append xs (w ∷ more)) (ap length has ∙ length-append ys others))
  where
    longer : (n m : ℕ) → m ≡ n + suc (length more) → n ≡ m + length others → ⊥
    longer n m one other = omega (arith, one, other)

pub same_packets : (told : Told) (packets others : List Packet) → IsDerivation told packets → IsDerivation told others → ((rec : ℕ) → HasAll told packets rec)
    → ((rec : ℕ) → HasAll told others rec) → (rec : ℕ) → packets_of rec packets ≡ packets_of rec others
same_packets told packets others derived also whole all rec =
    let one = within_derived told others all packets derived rec in
    let other = within_derived told packets whole others also rec in
    begin_both (packets_of rec packets) (packets_of rec others) one.0 other.0 one.1 other.1

-- ---- journeys

-- parts that came to something are the same
came_less : (parts these : List Part) → AreLess parts these → (hop : Hop) → came_to parts ≡ Some hop → parts ≡ these
came_less [] [] less hop came = refl
came_less [] (other ∷ these) less hop came = absurd less
came_less (part ∷ parts) [] less hop came = absurd less
came_less (untold ∷ parts) (other ∷ these) less hop came = absurd (cc)
came_less (made own ∷ parts) (other ∷ these) less hop came =
    by (λ others rest. came_less parts these less.1 others rest) less.0 (came_to parts) refl came
  where
    no_untold : made own ≡ untold → ⊥
    no_untold e = cc

    by : ((others : Hop) → came_to parts ≡ Some others → parts ≡ these) → IsLess (made own) other → (others : Option Hop) → came_to parts ≡ others
        → option_map (then own) others ≡ Some hop → made own ∷ parts ≡ other ∷ these
    by so less None rest e = absurd (cc)
    by so (inl is) (Some others) rest e = absurd (no_untold is)
    by so (inr is) (Some others) rest e = λ i. is i ∷ so others rest i

-- lists of as many, each place with the same
same_lists : {A : Type 0} (xs ys : List A) → length xs ≡ length ys → ((k : ℕ) (x y : A) → slice_get xs k ≡ Some x → slice_get ys k ≡ Some y → x ≡ y) → xs ≡ ys
same_lists [] [] count each = refl
same_lists [] (y ∷ ys) count each = absurd (omega (arith, count))
same_lists (x ∷ xs) [] count each = absurd (omega (arith, count))
same_lists (x ∷ xs) (y ∷ ys) count each =
    let first : x ≡ y = each 0 x y refl refl in
    let rest : xs ≡ ys = same_lists xs ys (omega (arith, count)) (λ k. each (suc k)) in
    λ i. first i ∷ rest i

module _ (told : Told) (packets others : List Packet) (same : (rec : ℕ) → packets_of rec packets ≡ packets_of rec others) where
  within : IsWithin packets others
  within rec = ([], sym (same rec) ∙ sym (append-nil (packets_of rec packets)))

  same_hop : (rec hop : ℕ) (step other : Step) → step.hop ≡ hop → other.hop ≡ hop → IsToldHop told packets rec step → IsToldHop told others rec other → step ≡ other
  same_hop rec hop step other number also is has =
      let hops : step.hop ≡ other.hop = number ∙ sym also in
      let taken : step.taken ≡ other.taken =
      some_same step.taken other.taken
      (sym is.takes ∙ ap (λ (ws : List Waiting). slice_get ws step.hop) (same rec) ∙ ap (λ (n : ℕ). slice_get (packets_of rec others) n) hops ∙ has.takes) in
      let note : step.note ≡ other.note = some_same step.note other.note (sym is.noted ∙ ap (λ (n : ℕ). note_of told.trace rec n) hops ∙ has.noted) in
      let makes : AreAtStand told packets rec other.taken other.note is.parts =
      subst (λ (w : Waiting). AreAtStand told packets rec w other.note is.parts) taken
      (subst (λ (n : HopNote). AreAtStand told packets rec step.taken n is.parts) note is.makes) in
      let parts : is.parts ≡ has.parts =
      came_less is.parts has.parts
      (parts_less told packets others (get_within packets others within) rec other.taken.stand other.taken.octets other.note is.parts has.parts makes has.makes)
      step.came is.comes in
      let came : step.came ≡ other.came = some_same step.came other.came (sym is.comes ∙ ap came_to parts ∙ has.comes) in
      λ i. record { hop = hops i; taken = taken i; note = note i; came = came i }

  same_journey : (rec : ℕ) (steps these : List Step) → IsToldJourney told packets rec steps → IsToldJourney told others rec these → steps ≡ these
  same_journey rec steps these is has =
      same_lists steps these
      (sym (length-map steps (λ (s : Step). s.taken)) ∙ ap length (is.takes ∙ same rec ∙ sym has.takes) ∙ length-map these (λ (s : Step). s.taken))
      (λ hop step other at there. same_hop rec hop step other (is.numbers hop step at) (has.numbers hop other there) (is.each hop step at) (has.each hop other there))

  same_journeys : (journeys these : List (List Step)) → AreJourneysBy told packets journeys → AreJourneysBy told others these → journeys ≡ these
  same_journeys journeys these are also =
      same_lists journeys these (are.count ∙ sym also.count)
      (λ rec steps those at there. same_journey rec steps those (are.each rec steps at) (also.each rec those there))

pub journeys_once : (told : Told) (one other : List (List Step)) → AreJourneys told one → AreJourneys told other → one ≡ other
journeys_once told one other (packets, are) (others, also) =
    same_journeys told packets others (same_packets told packets others are.derived also.derived are.whole also.whole) one other are also

pub kept_once : (told : Told) (one other : List (List MadeHop)) → AreKept told one → AreKept told other → one ≡ other
kept_once told one other (journeys, are, is) (these, also, has) =
    is ∙ ap (map (map kept_of)) (journeys_once told journeys these are also) ∙ sym has
