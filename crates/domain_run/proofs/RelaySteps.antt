-- A hop at the relay is one step of the run, and leaves the machines ready.
use Rattle.std.proofs.Common.{◌≡◌, refl, sym, ap, ◌∙◌, ℕ, ◌⊎◌, inl, inr, Bool, List, [], ◌∷◌, ◌++◌, map, length, Option, Some, None, subst}
use Rattle.std.specs.declared.alloc.Global.{Global}
use Rattle.std.specs.Prelude.{Vec, slice_get, slice_set}
use Rattle.std.specs.Option.{option_map}
use Rattle.std.proofs.lemmas.List.{map-set, length-set}
use Rattle.std.proofs.lemmas.Option.{slice_get-map}
use Rattle.map_rules.specs.declared.rule.Rule.{Rule}
use Rattle.map_rules.specs.declared.dmr.Dmr.{Dmr}
use Rattle.rule_book.specs.declared.book.Book.{Book}
use Rattle.rule_book.specs.Book.{rules_of, dmr_of}
use Rattle.rule_book.specs.Valid.{IsValid}
use Rattle.frag_table.specs.declared.ask.FragAsk.{FragAsk}
use Rattle.frag_table.specs.declared.ask.FragAsk.TheVariants.{First, Later}
use Rattle.frag_table.specs.declared.answer.FragAnswer.{FragAnswer}
use Rattle.frag_table.specs.declared.answer.FragAnswer.TheVariants.{Noted, Known, Held, Released, Full}
use Rattle.frag_table.specs.Kind.{IsFragAnswerTo}
use Rattle.nat_model.specs.declared.stripe.StripeEntry.{StripeEntry}
use Rattle.edge_core.specs.Shown.{EdgeShown, StripeShown, KeepsStripe}
use Rattle.hops.specs.declared.hop.Hop.{Hop}
use Rattle.relay_node.specs.Relay.{Relay as RelayOf, relay_at}
use Rattle.relay_node.specs.Asked.{AsksFrom, MayBeTold, stripe}
use Rattle.relay_node.specs.Hop.{IsRelayHop}
use Rattle.mapt_setup.specs.declared.setup.Setup.{Setup}
use Rattle.mapt_setup.specs.Generation.{rules_in, IsGeneration}
use Rattle.domain_core.specs.Form.{relay as relay_number}
use Rattle.journeys.specs.declared.made.Taking.{Taking}
use Rattle.journeys.specs.declared.stand.Stand.TheVariants.{Relay}
use Rattle.journeys.specs.Waiting.{at_stand}
use Rattle.journeys.specs.Rank.{IsBook}
use Rattle.journeys.specs.Derived.{relay_node, id_of}
use Rattle.journeys.specs.OneThread.{key_of, AsksNothing}
use Rattle.journeys.proofs.Ranks.{relay_sends, sends_less}
use Rattle.journeys.proofs.Whole.{relay_frees_none}
use Rattle.domain_run.specs.declared.machines.Machines.{Machines}
use Rattle.domain_run.specs.Machines.{histories_of, AreMachines, AreReady, IsMadeOne}
use Rattle.domain_run.proofs.Steps.{set_at}

-- the relay by the book of the machines
abbrev pub relay_by : Setup → Book → ℕ → RelayOf
relay_by setup book id = relay_at (rules_of book) (dmr_of book) (record { relay4 = setup.relay; mtus = setup.mtus }) id

pub is_relay : (setup : Setup) (taking : Taking) (machines : Machines) (id : ℕ) → AreReady setup taking machines → id ≡ id_of taking.rec
    → relay_by setup machines.book id ≡ relay_node setup taking.rec taking.seen
is_relay setup taking machines id ready e =
    λ i. relay_at (ready.machines_are.generation.rules_are i) (ready.machines_are.generation.dmr_is i) (record { relay4 = setup.relay; mtus = setup.mtus }) (e i)

-- its rules are those of a book
book_is : (setup : Setup) (taking : Taking) (machines : Machines) → AreReady setup taking machines → IsBook (relay_node setup taking.rec taking.seen)
book_is setup taking machines ready = (
  subst (λ (d : Dmr). IsValid (rules_in setup taking.seen) d) ready.machines_are.generation.dmr_is
      (subst (λ (rs : List Rule). IsValid rs machines.book.dmr) ready.machines_are.generation.rules_are machines.book.valid),
  ready.machines_are.fit,
)

-- a packet about which nothing is asked
pub untold : (setup : Setup) (taking : Taking) (hop : ℕ) (six : Bool) (octets : List ℕ) (out : Hop) (machines : Machines) → AreReady setup taking machines
    → AsksNothing six octets → IsRelayHop (relay_node setup taking.rec taking.seen) six octets None out
    → IsMadeOne setup taking hop (at_stand octets (Relay six))
    (record { stand = Relay six; note = record { node = relay_number; seen = taking.seen; stripe = None; place = None }; hop = out }) machines machines
untold setup taking hop six octets out machines ready nothing_asked sends = (
  record { hop = hop; taken = at_stand octets (Relay six); note = record { node = relay_number; seen = taking.seen; stripe = None; place = None }; came = out },
  record {
    of_it = record { hop_is = refl; taken = refl; node = refl; seen = refl };
    stands = tt;
    less = sends_less setup (at_stand octets (Relay six)) out
        (relay_sends setup (relay_node setup taking.rec taking.seen) six octets None out refl (book_is setup taking machines ready) (λ fault. refl) sends);
    makes = (inl (nothing_asked, (refl, refl, refl), sends), ready);
  },
  refl,
)

-- what a fragment may be told
may_be_told : (ask : FragAsk) (answer : FragAnswer) → IsFragAnswerTo ask answer → MayBeTold (Some ask) (Some answer)
may_be_told (First key ports) Noted k = tt
may_be_told (First key ports) (Known first) k = absurd k
may_be_told (First key ports) Held k = absurd k
may_be_told (First key ports) (Released parcels) k = tt
may_be_told (First key ports) Full k = tt
may_be_told (Later key octets) Noted k = absurd k
may_be_told (Later key octets) (Known first) k = tt
may_be_told (Later key octets) Held k = tt
may_be_told (Later key octets) (Released parcels) k = absurd k
may_be_told (Later key octets) Full k = tt

-- the entry of a fragment
pub record IsStripeEntryMade (taking : Taking) (hop : ℕ) (ask : FragAsk) (entry : StripeEntry) : Type 0 where
  pub worker : entry.who.worker ≡ 0
  pub rec : entry.who.rec ≡ taking.rec
  pub hop_is : entry.who.hop ≡ hop
  pub now : entry.now ≡ taking.time
  pub asked : entry.ask ≡ ask

-- the stripes after a step of one
stripes_after : (setup : Setup) (changes number : ℕ) (next : StripeShown) (before after : Machines) → AreMachines setup changes before → KeepsStripe next
    → after.book ≡ before.book → after.edges ≡ before.edges → after.stripes.items ≡ slice_set before.stripes.items number next → AreMachines setup changes after
stripes_after setup changes number next before after are keeps book edges stripes = record {
  edge_count = ap (λ (v : Vec EdgeShown Global). length v.items) edges ∙ are.edge_count;
  edges = λ n l e at found. are.edges n l e at (subst (λ (v : Vec EdgeShown Global). slice_get v.items n ≡ Some e) edges found);
  stripe_count = ap (λ (ss : List StripeShown). length ss) stripes ∙ length-set before.stripes.items number next ∙ are.stripe_count;
  stripes_are = λ n s found. by n s (set_at before.stripes.items number n next s (subst (λ (ss : List StripeShown). slice_get ss n ≡ Some s) stripes found));
  generation = subst (IsGeneration setup changes) (sym book) are.generation;
  few = are.few;
  fit = are.fit;
}
  where
    by : (n : ℕ) (s : StripeShown) → ((n ≡ number) × (s ≡ next)) ⊎ (slice_get before.stripes.items n ≡ Some s) → KeepsStripe s
    by n s (inl is) = subst KeepsStripe (sym is.1) keeps
    by n s (inr other) = are.stripes_are n s other

pub told : (setup : Setup) (taking : Taking) (hop place : ℕ) (six : Bool) (octets : List ℕ) (ask : FragAsk) (entry : StripeEntry) (out : Hop) (table next : StripeShown)
    (before after : Machines) → AreReady setup taking before → slice_get before.stripes.items (stripe (key_of ask)) ≡ Some table → AsksFrom six octets (Some ask)
    → IsStripeEntryMade taking hop ask entry → place ≡ length table.history → IsFragAnswerTo ask entry.answer → next.history ≡ table.history ++ entry ∷ [] → KeepsStripe next
    → after.book ≡ before.book → after.edges ≡ before.edges → after.stripes.items ≡ slice_set before.stripes.items (stripe (key_of ask)) next
    → IsRelayHop (relay_node setup taking.rec taking.seen) six octets (Some entry.answer) out
    → IsMadeOne setup taking hop (at_stand octets (Relay six))
    (record { stand = Relay six; note = record { node = relay_number; seen = taking.seen; stripe = Some (stripe (key_of ask)); place = Some place }; hop = out }) before after
told setup taking hop place six octets ask entry out table next before after ready here asks is placed kind history keeps book edges stripes sends = (
  record { hop = hop; taken = at_stand octets (Relay six); note = record { node = relay_number; seen = taking.seen; stripe = Some (stripe (key_of ask)); place = Some place }; came = out },
  record {
    of_it = record { hop_is = refl; taken = refl; node = refl; seen = refl };
    stands = tt;
    less = sends_less setup (at_stand octets (Relay six)) out
        (relay_sends setup (relay_node setup taking.rec taking.seen) six octets (Some entry.answer) out refl (book_is setup taking before ready)
        (relay_frees_none six octets ask entry.answer asks) sends);
    makes = (
      inr (record {
        ask = ask;
        entry = entry;
        entries = table.history;
        asked = asks;
        is = record { worker = is.worker; rec = is.rec; hop = is.hop_is; now = is.now; asked = is.asked };
        kind = may_be_told ask entry.answer kind;
        stripe_is = refl;
        place = ap some_place placed;
        history = slice_get-map (λ (s : StripeShown). s.history) before.stripes.items (stripe (key_of ask)) ∙ ap (option_map (λ (s : StripeShown). s.history)) here;
        adds = λ i. record { edges = edges_are i; stripes = stripes_are i };
        sends = sends;
      }),
      record { machines_are = stripes_after setup taking.seen (stripe (key_of ask)) next before after ready.machines_are keeps book edges stripes; time = ready.time },
    );
  },
  refl,
)
  where
    some_place : ℕ → Option ℕ
    some_place n = Some n

    edges_are : (histories_of after).edges ≡ (histories_of before).edges
    edges_are = ap (λ (v : Vec EdgeShown Global). map (λ (e : EdgeShown). e.history) v.items) edges

    stripes_are : (histories_of after).stripes ≡ slice_set (histories_of before).stripes (stripe (key_of ask)) (table.history ++ entry ∷ [])
    stripes_are =
        ap (map (λ (s : StripeShown). s.history)) stripes ∙ map-set (λ (s : StripeShown). s.history) before.stripes.items (stripe (key_of ask)) next
        ∙ ap (slice_set (map (λ (s : StripeShown). s.history) before.stripes.items) (stripe (key_of ask))) history

-- what is sent by the same relay, side and answer
pub sent_by : (relay relay2 : RelayOf) (six six2 : Bool) (answer answer2 : Option FragAnswer) (octets : List ℕ) (out : Hop) → relay ≡ relay2 → six ≡ six2
    → answer ≡ answer2 → IsRelayHop relay six octets answer out → IsRelayHop relay2 six2 octets answer2 out
sent_by relay relay2 six six2 answer answer2 octets out e f g is =
    subst (λ (r : RelayOf). IsRelayHop r six2 octets answer2 out) e
    (subst (λ (s : Bool). IsRelayHop relay s octets answer2 out) f (subst (λ (a : Option FragAnswer). IsRelayHop relay six octets a out) g is))
