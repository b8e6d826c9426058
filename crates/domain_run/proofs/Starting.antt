-- Machines before the first hop, and after a change.
use Rattle.std.proofs.Common.{◌≡◌, refl, sym, ap, ◌∙◌, ℕ, zero, suc, ◌+◌, ◌<◌, ◌≤◌, ◌⊎◌, inl, inr, Bool, true, false, List, [], ◌∷◌, ◌++◌, map, length, take, get_or, replicate, length-append, Option, Some, None, subst, arith}
use Rattle.std.specs.Prelude.{slice_get, ◌==◌, IsTrue, Result, Ok, Err, IfOk, option_and_then}
use Rattle.std.specs.List.{All, AllPairs, filter}
use Rattle.std.proofs.lemmas.Bool.{eqb-true}
use Rattle.std.proofs.lemmas.List.Elements.{All-nil, All-cons, All-head, All-tail}
use Rattle.std.proofs.lemmas.List.Kept.{AllPairs-cons}
use Rattle.std.proofs.lemmas.Option.{slice_get-get_or, slice_get_within, get_or_from_slice_get}
use Rattle.octets.specs.declared.memory.NoMemory.{NoMemory}
use Rattle.octets.specs.declared.prefix.Prefix6.{Prefix6}
use Rattle.map_rules.specs.declared.rule.Rule.{Rule}
use Rattle.map_rules.specs.declared.dmr.Dmr.{Dmr}
use Rattle.rule_book.specs.Book.{rules_of, dmr_of, generation_of}
use Rattle.rule_book.specs.declared.fault.BookFault.{BookFault}
use Rattle.rule_book.specs.declared.fault.BookFault.TheVariants.{NoMemory as NoMemoryFault}
use Rattle.rule_book.specs.Change.{rules_after, change_refusal}
use Rattle.rule_book.specs.Holder.{Holder, holder_of}
use Rattle.rule_book.specs.Valid.{FitsRule, FitBook}
use Rattle.nat_model.specs.declared.binding.Binding.{Binding}
use Rattle.nat_model.specs.History.{EdgeStart}
use Rattle.nat_model.specs.Sound.{AreApart, AreClaimable, AreSound}
use Rattle.nat_model.specs.State.{Generation, generation_in}
use Rattle.edge_core.specs.Shown.{EdgeShown, KeepsEdge, StripeShown}
use Rattle.relay_node.specs.Asked.{stripes}
use Rattle.setup_tables.specs.declared.edge.EdgeLine.{EdgeLine}
use Rattle.mapt_setup.specs.declared.forward.ForwardLine.{ForwardLine}
use Rattle.mapt_setup.specs.declared.moves.MoveLine.{MoveLine}
use Rattle.mapt_setup.specs.declared.setup.Setup.{Setup}
use Rattle.mapt_setup.specs.Claims.{holder_of_edge, may_claim}
use Rattle.mapt_setup.specs.Generation.{rules_after_all, rules_in}
use Rattle.mapt_setup.specs.Valid.{IsValidSetup, AreAccepted}
use Rattle.journeys.specs.OneThread.{generation, edge_start}
use Rattle.journeys.specs.Run.{no_histories, AreGenerations}
use Rattle.domain_run.specs.declared.machines.Machines.{Machines}
use Rattle.domain_run.specs.Machines.{histories_of, IsEdgeOf, AreMachines}
use Rattle.domain_run.specs.Start.{IsFirstEdge, IsFirstEdgeAt, AreFirstEdges, IsFirstStripe}

-- what is there is one thing
some : {X : Type 0} (a b : X) → ◌≡◌ {A = Option X} (Some a) (Some b) → a ≡ b
some a b e = cc

-- ---- rules that were read

-- each of them fits where each place that was read does
pub fit_each : (rules : List Rule) (end : ℕ) → length rules ≤ end → ((k : ℕ) (rule : Rule) → k < end → slice_get rules k ≡ Some rule → FitsRule rule) → All FitsRule rules
fit_each rules end all fits k d within = fits k (get_or rules k d) (omega arith) (slice_get-get_or rules k d within)

-- ---- after a change

-- the rules after one more change
one_more : (moves : List MoveLine) (n : ℕ) (move : MoveLine) (rules : List Rule) → slice_get moves n ≡ Some move
    → rules_after_all (take (suc n) moves) rules ≡ rules_after move.change (rules_after_all (take n moves) rules)
one_more [] n move rules e = absurd (cc)
one_more (m ∷ moves) zero move rules e = ap (λ (x : MoveLine). rules_after x.change rules) (some m move e)
one_more (m ∷ moves) (suc n) move rules e = one_more moves n move (rules_after m.change rules) e

-- the rules before it accept a change
accepted_at : (dmr : Dmr) (moves : List MoveLine) (n : ℕ) (move : MoveLine) (rules : List Rule) → AreAccepted dmr rules moves → slice_get moves n ≡ Some move
    → change_refusal move.change (rules_after_all (take n moves) rules) dmr ≡ None
accepted_at dmr [] n move rules accepted e = absurd (cc)
accepted_at dmr (m ∷ moves) zero move rules accepted e = subst (λ (x : MoveLine). change_refusal x.change rules dmr ≡ None) (some m move e) accepted.0
accepted_at dmr (m ∷ moves) (suc n) move rules accepted e = accepted_at dmr moves n move (rules_after m.change rules) accepted.1 e

-- so the machines' rules do, and want of memory is the one fault
pub one_fault : (setup : Setup) (changes : ℕ) (move : MoveLine) (before : Machines) (fault : BookFault) → IsValidSetup setup → AreMachines setup changes before
    → slice_get setup.changes changes ≡ Some move
    → (change_refusal move.change (rules_of before.book) (dmr_of before.book) ≡ Some fault) ⊎ (fault ≡ NoMemoryFault) → fault ≡ NoMemoryFault
one_fault setup changes move before fault valid are at (inr lack) = lack
one_fault setup changes move before fault valid are at (inl told) = absurd (none_told (sym accepted ∙ told))
  where
    none_told : ◌≡◌ {A = Option BookFault} None (Some fault) → ⊥
    none_told e = cc

    accepted : change_refusal move.change (rules_of before.book) (dmr_of before.book) ≡ None
    accepted =
        ap (λ (rules : List Rule). change_refusal move.change rules (dmr_of before.book)) are.generation.rules_are
        ∙ ap (change_refusal move.change (rules_in setup changes)) are.generation.dmr_is
        ∙ accepted_at (dmr_of setup.book) setup.changes changes move (rules_of setup.book) valid.changes.accepted at

-- the machines, with the rules after that change
pub machines_after : (setup : Setup) (changes : ℕ) (move : MoveLine) (before after : Machines) → AreMachines setup changes before
    → slice_get setup.changes changes ≡ Some move → rules_of after.book ≡ rules_after move.change (rules_of before.book) → dmr_of after.book ≡ dmr_of before.book
    → generation_of after.book ≡ generation_of before.book + 1 → FitBook (rules_of after.book) (dmr_of after.book) → after.edges ≡ before.edges → after.stripes ≡ before.stripes
    → AreMachines setup (changes + 1) after
machines_after setup changes move before after are at rules dmr number fit edges stripes =
    subst (λ (n : ℕ). AreMachines setup n after) (one_up changes) (record {
      edge_count = ap (λ (es : _). length es.items) edges ∙ are.edge_count;
      edges = λ n l e at found. are.edges n l e at (subst (λ (es : _). slice_get es.items n ≡ Some e) edges found);
      stripe_count = ap (λ (ss : _). length ss.items) stripes ∙ are.stripe_count;
      stripes_are = λ n s found. are.stripes_are n s (subst (λ (ss : _). slice_get ss.items n ≡ Some s) stripes found);
      generation = record { rules_are = rules_are; dmr_is = dmr_is; number = omega (arith, number, are.generation.number) };
      few = omega (arith, slice_get_within setup.changes changes move at);
      fit = subst (λ (rs : List Rule). FitBook rs (dmr_of setup.book)) rules_are (subst (λ (d : _). FitBook (rules_of after.book) d) dmr_is fit);
    })
  where
    one_up : (n : ℕ) → suc n ≡ n + 1
    one_up n = omega arith

    rules_are : rules_of after.book ≡ rules_in setup (suc changes)
    rules_are = rules ∙ ap (rules_after move.change) are.generation.rules_are ∙ sym (one_more setup.changes changes move (rules_of setup.book) at)

    dmr_is : dmr_of after.book ≡ dmr_of setup.book
    dmr_is = dmr ∙ are.generation.dmr_is

-- ---- edges before the first hop

-- the bindings of the forwards of one edge
abbrev pub kept_in : ℕ → List ForwardLine → List Binding
kept_in number forwards = map (λ (f : ForwardLine). f.binding) (filter (λ (f : ForwardLine). f.edge == number) forwards)

-- what holds of the binding of each such forward holds of these
each_kept : (P : Binding → Type 0) (number : ℕ) (forwards : List ForwardLine) → All (λ (f : ForwardLine). f.edge ≡ number → P f.binding) forwards → All P (kept_in number forwards)
each_kept P number [] all = All-nil P
each_kept P number (f ∷ forwards) all =
    by (f.edge == number) refl (each_kept P number forwards (All-tail (λ (f : ForwardLine). f.edge ≡ number → P f.binding) f forwards all))
  where
    by : (b : Bool) → (f.edge == number) ≡ b → All P (kept_in number forwards) → All P (kept_in number (f ∷ forwards))
    by true e others =
        rw e (All-cons P f.binding (kept_in number forwards)
        (All-head (λ (f : ForwardLine). f.edge ≡ number → P f.binding) f forwards all (eqb-true f.edge number e)) others)
    by false e others = rw e others

-- those of two forwards are apart
kept_apart : (number : ℕ) (forwards : List ForwardLine) → AllPairs (λ (f g : ForwardLine). f.edge ≡ g.edge → AreApart f.binding g.binding) forwards → AllPairs AreApart (kept_in number forwards)
kept_apart number [] apart = λ i j d before within. absurd (omega arith)
kept_apart number (f ∷ forwards) apart =
    by (f.edge == number) refl (kept_apart number forwards (λ i j d before within. apart (suc i) (suc j) d (omega arith) (omega arith)))
  where
    by : (b : Bool) → (f.edge == number) ≡ b → AllPairs AreApart (kept_in number forwards) → AllPairs AreApart (kept_in number (f ∷ forwards))
    by true e others = rw e (AllPairs-cons AreApart f.binding (kept_in number forwards)
        (each_kept (AreApart f.binding) number forwards (λ k d within same. apart 0 (suc k) d (omega arith) (omega arith) (eqb-true f.edge number e ∙ sym same))) others)
    by false e others = rw e others

-- the edge may claim their ports
kept_claimable : (holder : Option Holder) (bindings : List Binding) → All (λ (b : Binding). IsTrue (may_claim holder b.port)) bindings → AreClaimable holder bindings
kept_claimable (Some h) bindings all = all
kept_claimable None [] all = refl
kept_claimable None (b ∷ bindings) all = absurd (none (All-head (λ (b : Binding). IsTrue (may_claim None b.port)) b bindings all))
  where
    none : IsTrue false → ⊥
    none e = cc

-- so an edge may begin with them
pub kept_sound : (setup : Setup) (number : ℕ) (line : EdgeLine) → IsValidSetup setup → slice_get setup.edges number ≡ Some line
    → AreSound (holder_of (rules_of setup.book) line.prefix) (kept_in number setup.forwards)
kept_sound setup number line valid there = record {
  apart = kept_apart number setup.forwards valid.forwards.apart;
  claimable = kept_claimable holder (kept_in number setup.forwards)
      (each_kept (λ (b : Binding). IsTrue (may_claim holder b.port)) number setup.forwards (λ k d within same. at (get_or setup.forwards k d) same (valid.forwards.each k d within).port));
}
  where
    holder : Option Holder
    holder = holder_of (rules_of setup.book) line.prefix

    held : holder_of_edge (rules_of setup.book) setup.edges number ≡ holder
    held = ap (option_and_then (λ (edge : EdgeLine). holder_of (rules_of setup.book) edge.prefix)) there

    at : (f : ForwardLine) → f.edge ≡ number → IsTrue (may_claim (holder_of_edge (rules_of setup.book) setup.edges f.edge) f.binding.port) → IsTrue (may_claim holder f.binding.port)
    at f same may =
        subst (λ (h : Option Holder). IsTrue (may_claim h f.binding.port)) held
        (subst (λ (n : ℕ). IsTrue (may_claim (holder_of_edge (rules_of setup.book) setup.edges n) f.binding.port)) same may)

-- where an edge begins, by its parts
abbrev begun : Prefix6 → Generation → List Binding → EdgeStart
begun prefix book kept = record { prefix = prefix; book = book; kept = kept }

-- an edge as it starts
pub first_edge : (setup : Setup) (number : ℕ) (line : EdgeLine) (kept : List Binding) (made : Result EdgeShown NoMemory) → slice_get setup.edges number ≡ Some line
    → generation_of setup.book ≡ 0 → kept ≡ kept_in number setup.forwards
    → IfOk made (λ edge. edge.start ≡ begun line.prefix (generation_in setup.book) kept)
    → IfOk made (λ edge. edge.books ≡ generation_in setup.book ∷ []) → IfOk made (λ edge. edge.history ≡ []) → IfOk made KeepsEdge
    → IfOk made (IsFirstEdgeAt setup number)
first_edge setup number line kept (Ok edge) there number_is kept_is start books history keeps = λ other at. record {
  start = start ∙ starts other (some line other (sym there ∙ at));
  books = books ∙ ap (λ (g : Generation). g ∷ []) first;
  history = history;
  keeps = keeps;
}
  where
    first : generation_in setup.book ≡ generation setup 0
    first = λ i. record { rules = rules_of setup.book; dmr = dmr_of setup.book; number = number_is i }

    starts : (other : EdgeLine) → line ≡ other → begun line.prefix (generation_in setup.book) kept ≡ edge_start setup number other
    starts other same = λ i. record { prefix = (same i).prefix; book = first i; kept = kept_is i }
first_edge setup number line kept (Err e) there number_is kept_is start books history keeps = tt

-- an element of a list to which one was added
got_push : {X : Type 0} (xs : List X) (x y : X) (k : ℕ) → slice_get (xs ++ x ∷ []) k ≡ Some y → ((k ≡ length xs) × (y ≡ x)) ⊎ (slice_get xs k ≡ Some y)
got_push [] x y zero e = inl (refl, sym (some x y e))
got_push [] x y (suc k) e = absurd (cc)
got_push (z ∷ xs) x y zero e = inr e
got_push (z ∷ xs) x y (suc k) e = next xs x y k (got_push xs x y k e)
  where
    next : {X : Type 0} (xs : List X) (x y : X) (k : ℕ) → ((k ≡ length xs) × (y ≡ x)) ⊎ (slice_get xs k ≡ Some y) → ((suc k ≡ suc (length xs)) × (y ≡ x)) ⊎ (slice_get xs k ≡ Some y)
    next xs x y k (inl is) = inl (ap suc is.0, is.1)
    next xs x y k (inr other) = inr other

-- one edge more
pub edges_more : (setup : Setup) (edges after : List EdgeShown) (edge : EdgeShown) (number : ℕ) → after ≡ edges ++ edge ∷ [] → IsFirstEdgeAt setup number edge
    → (length edges ≡ number) × ((n : ℕ) (e : EdgeShown) → slice_get edges n ≡ Some e → IsFirstEdgeAt setup n e)
    → (length after ≡ number + 1) × ((n : ℕ) (e : EdgeShown) → slice_get after n ≡ Some e → IsFirstEdgeAt setup n e)
edges_more setup edges after edge number pushed first so_far = (
  ap length pushed ∙ omega (arith, length-append edges (edge ∷ []), so_far.0),
  λ n e found. by n e (got_push edges edge e n (subst (λ (es : List EdgeShown). slice_get es n ≡ Some e) pushed found)),
)
  where
    by : (n : ℕ) (e : EdgeShown) → ((n ≡ length edges) × (e ≡ edge)) ⊎ (slice_get edges n ≡ Some e) → IsFirstEdgeAt setup n e
    by n e (inl is) = subst (λ (m : ℕ). IsFirstEdgeAt setup m e) (sym (is.0 ∙ so_far.0)) (subst (IsFirstEdgeAt setup number) (sym is.1) first)
    by n e (inr other) = so_far.1 n e other

-- ---- the machines

-- the histories of edges that have none
edges_empty : (edges : List EdgeShown) (lines : List EdgeLine) → length edges ≡ length lines
    → ((n : ℕ) (e : EdgeShown) (line : EdgeLine) → slice_get edges n ≡ Some e → slice_get lines n ≡ Some line → e.history ≡ [])
    → map (λ (e : EdgeShown). e.history) edges ≡ map (λ (line : EdgeLine). []) lines
edges_empty [] [] same empty = refl
edges_empty [] (l ∷ lines) same empty = absurd (omega (arith, same))
edges_empty (e ∷ edges) [] same empty = absurd (omega (arith, same))
edges_empty (e ∷ edges) (l ∷ lines) same empty =
    λ i. empty 0 e l refl refl i ∷ edges_empty edges lines (omega (arith, same)) (λ n x line found there. empty (suc n) x line found there) i

-- the histories of stripes that have none
stripes_empty : (made : List StripeShown) (n : ℕ) → length made ≡ n → All IsFirstStripe made → map (λ (s : StripeShown). s.history) made ≡ replicate n []
stripes_empty [] zero count all = refl
stripes_empty [] (suc n) count all = absurd (omega (arith, count))
stripes_empty (s ∷ made) zero count all = absurd (omega (arith, count))
stripes_empty (s ∷ made) (suc n) count all =
    λ i. (All-head IsFirstStripe s made all).history i ∷ stripes_empty made n (omega (arith, count)) (All-tail IsFirstStripe s made all) i

-- no history has an entry
pub histories_empty : (setup : Setup) (machines : Machines) → AreFirstEdges setup machines.edges.items → length machines.stripes.items ≡ stripes → All IsFirstStripe machines.stripes.items
    → histories_of machines ≡ no_histories setup
histories_empty setup machines first count each = λ i. record { edges = of_edges i; stripes = of_stripes i }
  where
    of_edges : map (λ (e : EdgeShown). e.history) machines.edges.items ≡ map (λ (line : EdgeLine). []) setup.edges
    of_edges = edges_empty machines.edges.items setup.edges first.count (λ n e line found there. (first.each n e found line there).history)

    of_stripes : map (λ (s : StripeShown). s.history) machines.stripes.items ≡ replicate stripes []
    of_stripes = stripes_empty machines.stripes.items stripes count each

-- the machines are those of the setup, under the rules of generation 0
pub first_machines : (setup : Setup) (machines : Machines) → generation_of setup.book ≡ 0 → machines.book ≡ setup.book → FitBook (rules_of setup.book) (dmr_of setup.book)
    → AreFirstEdges setup machines.edges.items → length machines.stripes.items ≡ stripes → All IsFirstStripe machines.stripes.items → AreMachines setup 0 machines
first_machines setup machines number book fit first count each = record {
  edge_count = first.count;
  edges = λ n line edge there found. edge_of n line edge (first.each n edge found line there);
  stripe_count = count;
  stripes_are = λ n stripe found.
      (subst IsFirstStripe (get_or_from_slice_get machines.stripes.items n stripe stripe found) (each n stripe (slice_get_within machines.stripes.items n stripe found))).keeps;
  generation = record { rules_are = ap rules_of book; dmr_is = ap dmr_of book; number = ap generation_of book ∙ number };
  few = omega arith;
  fit = fit;
}
  where
    edge_of : (n : ℕ) (line : EdgeLine) (edge : EdgeShown) → IsFirstEdge setup n line edge → IsEdgeOf setup n line edge
    edge_of n line edge is = record {
      start = is.start;
      books = subst (AreGenerations setup) (sym is.books)
          (All-cons (λ (b : Generation). (b ≡ generation setup b.number) × (b.number ≤ length setup.changes)) (generation setup 0) [] (refl, omega arith) (All-nil _));
      keeps = is.keeps;
    }
