-- A hop that machines made is one step of the run, and leaves them ready.
use Rattle.std.proofs.Common.{◌≡◌, refl, sym, ap, ◌∙◌, ℕ, zero, suc, ◌<◌, ◌≤◌, ◌⊎◌, inl, inr, Bool, true, false, cond, List, [], ◌∷◌, ◌++◌, map, length, Option, Some, None, subst}
use Rattle.std.specs.declared.alloc.Global.{Global}
use Rattle.std.specs.Prelude.{Vec, slice_get, slice_set, nat_lt}
use Rattle.std.specs.Option.{option_map}
use Rattle.std.proofs.lemmas.List.{map-set, length-set}
use Rattle.std.proofs.lemmas.Option.{slice_get-map}
use Rattle.std.proofs.lemmas.List.Elements.{All-append, All-nil, All-cons}
use Rattle.octets.specs.declared.cause.Cause.{Cause}
use Rattle.rule_book.specs.Book.{generation_of}
use Rattle.nat_model.specs.declared.answer.Answer.{Answer}
use Rattle.nat_model.specs.declared.answer.Answer.TheVariants.{Out, Turn, In, Kept, Held, Refused}
use Rattle.nat_model.specs.declared.ask.Ask.{Ask}
use Rattle.nat_model.specs.declared.entry.Entry.{Entry}
use Rattle.nat_model.specs.Fragment.{part_of}
use Rattle.nat_model.specs.Waiting.{freed_of}
use Rattle.nat_model.specs.Kind.{IsAnswerTo, IsOutwardAnswer, IsInwardAnswer, IsFirst}
use Rattle.nat_model.specs.State.{Generation, generation_in}
use Rattle.edge_core.specs.Shown.{EdgeShown, KeepsEdge, StripeShown}
use Rattle.hops.specs.declared.hop.Hop.{Hop}
use Rattle.edge_node.specs.declared.way.Node.{Node}
use Rattle.edge_node.specs.declared.way.Way.{Way}
use Rattle.edge_node.specs.declared.way.Way.TheVariants.{Lan, Access, Turned}
use Rattle.edge_node.specs.Asked.{IsAsk, IsDroppedAt}
use Rattle.edge_node.specs.Hop.{IsTaken, IsAnswerAt, IsEdgeHop}
use Rattle.setup_tables.specs.declared.edge.EdgeLine.{EdgeLine}
use Rattle.mapt_setup.specs.declared.setup.Setup.{Setup}
use Rattle.mapt_setup.specs.Generation.{IsGeneration}
use Rattle.journeys.specs.declared.made.Taking.{Taking}
use Rattle.journeys.specs.declared.stand.Stand.TheVariants.{Edge}
use Rattle.journeys.specs.Waiting.{at_stand}
use Rattle.journeys.specs.Derived.{edge_node}
use Rattle.journeys.specs.OneThread.{generation}
use Rattle.journeys.specs.Run.{AreGenerations}
use Rattle.journeys.specs.Rank.{is_fault6}
use Rattle.journeys.proofs.Ranks.{edge_sends, sends_less}
use Rattle.journeys.proofs.Whole.{edge_frees_none}
use Rattle.domain_run.specs.declared.machines.Machines.{Machines}
use Rattle.domain_run.specs.Machines.{histories_of, IsEdgeOf, AreMachines, AreReady, IsMadeOne}

-- ---- elements of lists

-- what stands in a list in which one element was replaced
pub set_at : {X : Type 0} (xs : List X) (i j : ℕ) (x y : X) → slice_get (slice_set xs i x) j ≡ Some y → ((j ≡ i) × (y ≡ x)) ⊎ (slice_get xs j ≡ Some y)
set_at [] i j x y e = absurd (cc)
set_at (z ∷ xs) zero zero x y e = inl (refl, sym (some x y e))
  where
    some : {X : Type 0} (a b : X) → ◌≡◌ {A = Option X} (Some a) (Some b) → a ≡ b
    some a b e = cc
set_at (z ∷ xs) zero (suc j) x y e = inr e
set_at (z ∷ xs) (suc i) zero x y e = inr e
set_at (z ∷ xs) (suc i) (suc j) x y e = next xs i j x y (set_at xs i j x y e)
  where
    next : {X : Type 0} (xs : List X) (i j : ℕ) (x y : X) → ((j ≡ i) × (y ≡ x)) ⊎ (slice_get xs j ≡ Some y) → ((suc j ≡ suc i) × (y ≡ x)) ⊎ (slice_get xs j ≡ Some y)
    next xs i j x y (inl is) = inl (ap suc is.0, is.1)
    next xs i j x y (inr other) = inr other

-- ---- answers

-- an answer of the ask's kind is one that a packet of its way may have
pub kind_by : (way : Way) (octets : List ℕ) (ask : Ask) (answer : Answer) → IsAsk way octets ask → IsAnswerTo ask answer → IsAnswerAt way answer
kind_by Lan octets ask answer (p, packet, is) kind = by answer (subst (λ (a : Ask). IsAnswerTo a answer) is kind)
  where
    by : (answer : Answer) → IsOutwardAnswer answer → IsAnswerAt Lan answer
    by (Out from port src6 dst6 freed) k = tt
    by (Turn from port freed) k = tt
    by (In to port from peer freed) k = absurd k
    by (Kept port until) k = absurd k
    by Held k = tt
    by (Refused cause freed) k = k
kind_by Access octets ask answer (p, packet, is) kind = by answer (subst (λ (a : Ask). IsAnswerTo a answer) is kind)
  where
    by : (answer : Answer) → IsInwardAnswer answer → IsAnswerAt Access answer
    by (Out from port src6 dst6 freed) k = absurd k
    by (Turn from port freed) k = absurd k
    by (In to port from peer freed) k = tt
    by (Kept port until) k = absurd k
    by Held k = tt
    by (Refused cause freed) k = k
kind_by Turned octets ask answer (p, packet, is) kind = by answer (subst (λ (a : Ask). IsAnswerTo a answer) is kind)
  where
    by : (answer : Answer) → IsInwardAnswer answer → IsAnswerAt Turned answer
    by (Out from port src6 dst6 freed) k = absurd k
    by (Turn from port freed) k = absurd k
    by (In to port from peer freed) k = tt
    by (Kept port until) k = absurd k
    by Held k = tt
    by (Refused cause freed) k = k

-- ---- at an edge

-- a packet that is dropped before anything is asked
pub unasked : (setup : Setup) (taking : Taking) (hop number : ℕ) (way : Way) (octets : List ℕ) (line : EdgeLine) (cause : Cause) (out : Hop) (machines : Machines)
    → AreReady setup taking machines → number < length setup.edges → slice_get setup.edges number ≡ Some line
    → IsDroppedAt way cause octets → IsEdgeHop (edge_node setup taking.rec line) way (Refused cause []) octets out
    → IsMadeOne setup taking hop (at_stand octets (Edge number way))
    (record { stand = Edge number way; note = record { node = number; seen = taking.seen; stripe = None; place = None }; hop = out }) machines machines
unasked setup taking hop number way octets line cause out machines ready within there dropped sends = (
  record { hop = hop; taken = at_stand octets (Edge number way); note = record { node = number; seen = taking.seen; stripe = None; place = None }; came = out },
  record {
    of_it = record { hop_is = refl; taken = refl; node = refl; seen = refl };
    stands = within;
    less = sends_less setup (at_stand octets (Edge number way)) out
        (edge_sends setup (edge_node setup taking.rec line) number way (Refused cause []) octets out (λ from fault. refl) sends);
    makes = ((line, there, inl (cause, dropped, (refl, refl, refl), sends)), ready);
  },
  refl,
)

-- a step of an edge's machine, and its entry
pub record IsEdgeStep (seen : Generation) (before after : EdgeShown) (entry : Entry) : Type 0 where
  pub history : after.history ≡ before.history ++ entry ∷ []
  pub start : after.start ≡ before.start
  pub books : after.books ≡ before.books ++ cond (nat_lt before.state.book.number seen.number) (seen ∷ []) []
  pub keeps : KeepsEdge after

-- the edges after a step of one
pub edges_after : (setup : Setup) (changes number : ℕ) (line : EdgeLine) (edge next : EdgeShown) (entry : Entry) (before after : Machines) → AreMachines setup changes before
    → slice_get setup.edges number ≡ Some line → slice_get before.edges.items number ≡ Some edge → IsEdgeStep (generation_in before.book) edge next entry
    → after.book ≡ before.book → after.stripes ≡ before.stripes → after.edges.items ≡ slice_set before.edges.items number next → AreMachines setup changes after
edges_after setup changes number line edge next entry before after are there here step book stripes edges = record {
  edge_count = ap (λ (es : List EdgeShown). length es) edges ∙ length-set before.edges.items number next ∙ are.edge_count;
  edges = λ n l e at found. by n l e at (set_at before.edges.items number n next e (subst (λ (es : List EdgeShown). slice_get es n ≡ Some e) edges found));
  stripe_count = ap (λ (s : _). length s.items) stripes ∙ are.stripe_count;
  stripes_are = λ n s found. are.stripes_are n s (subst (λ (v : _). slice_get v.items n ≡ Some s) stripes found);
  generation = subst (IsGeneration setup changes) (sym book) are.generation;
  few = are.few;
  fit = are.fit;
}
  where
    seen_is : generation_in before.book ≡ generation setup changes
    seen_is = same_generation (generation_in before.book) (generation setup changes) are.generation.rules_are are.generation.dmr_is are.generation.number
      where
        same_generation : (a b : Generation) → a.rules ≡ b.rules → a.dmr ≡ b.dmr → a.number ≡ b.number → a ≡ b
        same_generation a b e f g = λ i. record { rules = e i; dmr = f i; number = g i }

    stepped : IsEdgeOf setup number line edge → IsEdgeOf setup number line next
    stepped is = record {
      start = step.start ∙ is.start;
      books = subst (AreGenerations setup) (sym step.books)
          (All-append (λ (b : Generation). (b ≡ generation setup b.number) × (b.number ≤ length setup.changes)) edge.books _ is.books
          (newer (nat_lt edge.state.book.number (generation_of before.book))));
      keeps = step.keeps;
    }
      where
        of_it : (b : Generation) → b ≡ generation setup changes → (b ≡ generation setup b.number) × (b.number ≤ length setup.changes)
        of_it b is = (is ∙ ap (generation setup) (sym (ap (λ (g : Generation). g.number) is)), subst (λ (n : ℕ). n ≤ length setup.changes) (sym (ap (λ (g : Generation). g.number) is)) are.few)

        newer : (b : Bool) → AreGenerations setup (cond b (generation_in before.book ∷ []) [])
        newer true = All-cons (λ (b : Generation). (b ≡ generation setup b.number) × (b.number ≤ length setup.changes)) (generation_in before.book) [] (of_it (generation_in before.book) seen_is) (All-nil _)
        newer false = All-nil _

    by : (n : ℕ) (l : EdgeLine) (e : EdgeShown) → slice_get setup.edges n ≡ Some l → ((n ≡ number) × (e ≡ next)) ⊎ (slice_get before.edges.items n ≡ Some e) → IsEdgeOf setup n l e
    by n l e at (inl (same, is)) =
        subst (λ (m : ℕ). IsEdgeOf setup m l e) (sym same)
        (subst (λ (x : EdgeShown). IsEdgeOf setup number l x) (sym is)
        (subst (λ (k : EdgeLine). IsEdgeOf setup number k next) (some_line line l (sym there ∙ ap (slice_get setup.edges) (sym same) ∙ at)) (stepped (are.edges number line edge there here))))
      where
        some_line : (a b : EdgeLine) → ◌≡◌ {A = Option EdgeLine} (Some a) (Some b) → a ≡ b
        some_line a b e = cc
    by n l e at (inr other) = are.edges n l e at other

-- a packet that asks: the edge's entry comes last
pub record IsEntryMade (taking : Taking) (hop : ℕ) (ask : Ask) (entry : Entry) : Type 0 where
  pub worker : entry.mark.who.worker ≡ 0
  pub rec : entry.mark.who.rec ≡ taking.rec
  pub hop_is : entry.mark.who.hop ≡ hop
  pub seen : entry.mark.seen ≡ taking.seen
  pub now : entry.now ≡ taking.time
  pub asked : entry.ask ≡ ask

pub asked : (setup : Setup) (taking : Taking) (hop number place : ℕ) (way : Way) (octets : List ℕ) (line : EdgeLine) (ask : Ask) (entry : Entry) (out : Hop) (edge next : EdgeShown)
    (before after : Machines) → AreReady setup taking before → number < length setup.edges → slice_get setup.edges number ≡ Some line
    → slice_get before.edges.items number ≡ Some edge → IsAsk way octets ask → IsEntryMade taking hop ask entry → place ≡ length edge.history
    → IsAnswerTo ask entry.answer → ((freed_of entry.answer ≡ [] → ⊥) → IsFirst (part_of ask))
    → IsEdgeStep (generation_in before.book) edge next entry → after.book ≡ before.book → after.stripes ≡ before.stripes → after.edges.items ≡ slice_set before.edges.items number next
    → IsEdgeHop (edge_node setup taking.rec line) way entry.answer octets out
    → IsMadeOne setup taking hop (at_stand octets (Edge number way))
    (record { stand = Edge number way; note = record { node = number; seen = taking.seen; stripe = None; place = Some place }; hop = out }) before after
asked setup taking hop number place way octets line ask entry out edge next before after ready within there here asks is placed kind first step book stripes edges sends = (
  record { hop = hop; taken = at_stand octets (Edge number way); note = record { node = number; seen = taking.seen; stripe = None; place = Some place }; came = out },
  record {
    of_it = record { hop_is = refl; taken = refl; node = refl; seen = refl };
    stands = within;
    less = sends_less setup (at_stand octets (Edge number way)) out (edge_sends setup (edge_node setup taking.rec line) number way entry.answer octets out frees sends);
    makes = (
      (
        line,
        there,
        inr (record {
          ask = ask;
          entry = entry;
          entries = edge.history;
          asked = asks;
          is = record { worker = is.worker; rec = is.rec; hop = is.hop_is; seen = is.seen; now = is.now; asked = is.asked };
          kind = kind_by way octets ask entry.answer asks kind;
          stripe = refl;
          place = ap some_place placed;
          history = slice_get-map (λ (e : EdgeShown). e.history) before.edges.items number ∙ ap (option_map (λ (e : EdgeShown). e.history)) here;
          adds = λ i. record { edges = edges_are i; stripes = stripes_are i };
          sends = sends;
        }),
      ),
      record { machines_are = edges_after setup taking.seen number line edge next entry before after ready.machines_are there here step book stripes edges; time = ready.time },
    );
  },
  refl,
)
  where
    some_place : ℕ → Option ℕ
    some_place n = Some n

    frees : way ≡ Access → is_fault6 octets ≡ true → freed_of entry.answer ≡ []
    frees at fault = edge_frees_none octets ask entry.answer (subst (λ (w : Way). IsAsk w octets ask) at asks) first fault

    edges_are : (histories_of after).edges ≡ slice_set (histories_of before).edges number (edge.history ++ entry ∷ [])
    edges_are =
        ap (map (λ (e : EdgeShown). e.history)) edges ∙ map-set (λ (e : EdgeShown). e.history) before.edges.items number next
        ∙ ap (slice_set (map (λ (e : EdgeShown). e.history) before.edges.items) number) step.history

    stripes_are : (histories_of after).stripes ≡ (histories_of before).stripes
    stripes_are = ap (λ (v : Vec StripeShown Global). map (λ (s : StripeShown). s.history) v.items) stripes

-- what asks is taken
pub asks_taken : (way : Way) (octets : List ℕ) (ask : Ask) → IsAsk way octets ask → IsTaken way octets
asks_taken Lan octets ask is = (is.0, is.1)
asks_taken Access octets ask is = (is.0, is.1)
asks_taken Turned octets ask is = (is.0, is.1)

-- the node of an edge's line, with an identification
abbrev pub node_with : Setup → EdgeLine → ℕ → Node
node_with setup line id = record { params = record { lan = line.lan; mtus = setup.mtus }; id = id }

-- what is sent by the same node, way and answer
pub sent : (node node2 : Node) (way way2 : Way) (answer answer2 : Answer) (octets : List ℕ) (out : Hop) → node ≡ node2 → way ≡ way2 → answer ≡ answer2
    → IsEdgeHop node way answer octets out → IsEdgeHop node2 way2 answer2 octets out
sent node node2 way way2 answer answer2 octets out e f g is =
    subst (λ (n : Node). IsEdgeHop n way2 answer2 octets out) e
    (subst (λ (w : Way). IsEdgeHop node w answer2 octets out) f (subst (λ (a : Answer). IsEdgeHop node way a octets out) g is))
