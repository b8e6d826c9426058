-- A packet that a hop sends to a node has a smaller rank than the one that it took.
use Rattle.std.proofs.Common.{◌≡◌, refl, sym, ℕ, zero, suc, ◌<◌, ◌⊎◌, inl, inr, Bool, true, false, cond, List, [], ◌∷◌, Option, Some, None, subst, arith, lit<}
use Rattle.std.specs.Prelude.{slice_get}
use Rattle.std.specs.Option.{option_map}
use Rattle.ip6_packet.specs.Destination.{destination_in}
use Rattle.octets.specs.declared.parcel.Parcel.{Parcel}
use Rattle.l4_headers.specs.declared.ports.Ports.{Ports}
use Rattle.map_rules.specs.declared.dmr.Dmr.{Dmr}
use Rattle.rule_book.specs.Far.{has_addr6}
use Rattle.rule_book.specs.Book.{dmr_of}
use Rattle.frag_table.specs.declared.answer.FragAnswer.{FragAnswer}
use Rattle.nat_model.specs.declared.answer.Answer.{Answer}
use Rattle.nat_model.specs.Waiting.{freed_of}
use Rattle.hops.specs.declared.hop.Hop.{Hop}
use Rattle.hops.specs.Hop.{then, AreFreed}
use Rattle.hops.specs.declared.hop.Out.{Out}
use Rattle.hops.specs.declared.hop.Out.TheVariants.{Lan as OnLan, Access as OnAccess, Core as IntoCore, Turn as ToTurn}
use Rattle.edge_node.specs.declared.way.Node.{Node}
use Rattle.edge_node.specs.declared.way.Way.{Way}
use Rattle.edge_node.specs.declared.way.Way.TheVariants.{Lan, Access, Turned}
use Rattle.edge_node.specs.Hop.{Becomes, Own, IsLaterAt, IsEdgeHop}
use Rattle.relay_node.specs.Relay.{Relay as RelayOf}
use Rattle.relay_node.specs.Hop.{IsRelayHop}
use Rattle.mapt_setup.specs.declared.setup.Setup.{Setup}
use Rattle.journeys.specs.declared.stand.Stand.{Stand}
use Rattle.journeys.specs.declared.stand.Stand.TheVariants.{Edge, Relay}
use Rattle.journeys.specs.Waiting.{Waiting, at_stand, edge_with, node_by, node_of, over_access, next_stand, octets_of, onward}
use Rattle.journeys.specs.Derived.{FreesFrom}
use Rattle.journeys.specs.Rank.{is_fault4, is_fault6, rank_at, rank, SendsLess, IsBook, freed_by_told}
use Rattle.journeys.proofs.Outs.{Each, each_both, each_is, each_more}
use Rattle.journeys.proofs.AtEdge.{IsFromAccess, IsFromItself, own_from_access, freed_from_access, own_from_itself, freed_from_itself}
use Rattle.journeys.proofs.FromSix.{IsFromSix, freed6, from_six}
use Rattle.journeys.proofs.FromFour.{IsFromFour, freed4, from_four}

-- ---- where packets of the access network stand

some_stand : (x y : Stand) → ◌≡◌ {A = Option Stand} (Some x) (Some y) → x ≡ y
some_stand x y e = cc

-- at an edge, or at the relay with an address inside the default mapping rule
abbrev IsNode : Setup → ℕ → Stand → Type 0
IsNode setup dst stand =
    ((number : ℕ) × (stand ≡ Edge number Access)) ⊎ ((stand ≡ Relay true) × (has_addr6 (dmr_of setup.book).prefix dst ≡ true))

node_is : (setup : Setup) (dst : ℕ) (stand : Stand) → node_of setup dst ≡ Some stand → IsNode setup dst stand
node_is setup dst stand e = by (edge_with setup.edges dst) e
  where
    inside : (b : Bool) → has_addr6 (dmr_of setup.book).prefix dst ≡ b → cond b (Some (Relay true)) None ≡ Some stand → IsNode setup dst stand
    inside true has is = inr (sym (some_stand (Relay true) stand is), has)
    inside false has is = absurd (cc)

    by : (edge : Option ℕ) → node_by setup dst edge ≡ Some stand → IsNode setup dst stand
    by (Some number) is = inl (number, sym (some_stand (Edge number Access) stand is))
    by None is = inside (has_addr6 (dmr_of setup.book).prefix dst) refl is

over_is : (setup : Setup) (dst : Option ℕ) (stand : Stand) → over_access setup dst ≡ Some stand → (to : ℕ) × (dst ≡ Some to) × IsNode setup to stand
over_is setup None stand e = absurd (cc)
over_is setup (Some to) stand e = (to, refl, node_is setup to stand e)

-- ---- ranks

-- where it goes to a node, its rank is smaller
abbrev pub Falls : Setup → Stand → ℕ → Out → Type 0
Falls setup here above out = (stand : Stand) → next_stand setup here out ≡ Some stand → rank_at stand (octets_of out) < above

-- over the access network: what is so of both kinds of nodes
over_falls : (setup : Setup) (octets : List ℕ) (above : ℕ) → ((number : ℕ) → rank_at (Edge number Access) octets < above)
    → ((dst : ℕ) → destination_in octets ≡ Some dst → has_addr6 (dmr_of setup.book).prefix dst ≡ true → rank_at (Relay true) octets < above)
    → (stand : Stand) → over_access setup (destination_in octets) ≡ Some stand → rank_at stand octets < above
over_falls setup octets above at_edge at_relay stand e = by (over_is setup (destination_in octets) stand e)
  where
    by : (to : ℕ) × (destination_in octets ≡ Some to) × IsNode setup to stand → rank_at stand octets < above
    by (to, is, inl (number, at)) = subst (λ (s : Stand). rank_at s octets < above) (sym at) (at_edge number)
    by (to, is, inr (at, inside)) = subst (λ (s : Stand). rank_at s octets < above) (sym at) (at_relay to is inside)

edge_low : (b : Bool) → cond b 1 4 < 5
edge_low true = lit< tt
edge_low false = lit< tt

relay_low : (b : Bool) → cond b 3 6 < 7
relay_low true = lit< tt
relay_low false = lit< tt

back_low : (b : Bool) → cond b 2 5 < 6
back_low true = lit< tt
back_low false = lit< tt

turned_is : (stand here : Stand) (octets : List ℕ) (above : ℕ) → ◌≡◌ {A = Option Stand} (Some here) (Some stand) → rank_at here octets < above → rank_at stand octets < above
turned_is stand here octets above e low = subst (λ (s : Stand). rank_at s octets < above) (some_stand here stand e) low

pub lan_falls : (setup : Setup) (number : ℕ) (out : Out) → Falls setup (Edge number Lan) 7 out
lan_falls setup number (OnLan octets) stand e = absurd (cc)
lan_falls setup number (OnAccess octets) stand e =
    over_falls setup octets 7 (λ at. omega (arith, edge_low (is_fault6 octets))) (λ dst is inside. relay_low (is_fault6 octets)) stand e
lan_falls setup number (IntoCore octets) stand e = absurd (cc)
lan_falls setup number (ToTurn octets) stand e = turned_is stand (Edge number Turned) octets 7 e (lit< tt)

-- an ICMP error over the access network has a rank of at most 3
fault_low : (setup : Setup) (octets : List ℕ) (stand : Stand) → is_fault6 octets ≡ true → over_access setup (destination_in octets) ≡ Some stand → rank_at stand octets < 4
fault_low setup octets stand fault e =
    over_falls setup octets 4 (λ at. rw fault (lit< tt)) (λ dst is inside. rw fault (lit< tt)) stand e

pub access_falls : (setup : Setup) (number : ℕ) (fault : Bool) (out : Out) → IsFromAccess fault out → Falls setup (Edge number Access) (cond fault 1 4) out
access_falls setup number fault (OnLan octets) is stand e = absurd (cc)
access_falls setup number fault (OnAccess octets) is stand e = rw is.0 (fault_low setup octets stand is.1 e)
access_falls setup number fault (IntoCore octets) is stand e = absurd is
access_falls setup number fault (ToTurn octets) is stand e = absurd is

pub itself_falls : (setup : Setup) (number : ℕ) (out : Out) → IsFromItself out → Falls setup (Edge number Turned) 1 out
itself_falls setup number (OnLan octets) is stand e = absurd (cc)
itself_falls setup number (OnAccess octets) is stand e = absurd is
itself_falls setup number (IntoCore octets) is stand e = absurd is
itself_falls setup number (ToTurn octets) is stand e = absurd is

pub six_falls : (setup : Setup) (fault : Bool) (out : Out) → IsFromSix fault out → Falls setup (Relay true) (cond fault 3 6) out
six_falls setup fault (OnLan octets) is stand e = absurd is
six_falls setup fault (OnAccess octets) is stand e = rw is.0 (omega (arith, fault_low setup octets stand is.1 e))
six_falls setup fault (IntoCore octets) is stand e = absurd (cc)
six_falls setup fault (ToTurn octets) is stand e = turned_is stand (Relay false) octets (cond fault 3 6) e (by fault is)
  where
    by : (fault : Bool) → (fault ≡ true → is_fault4 octets ≡ true) → cond (is_fault4 octets) 2 5 < cond fault 3 6
    by true still = rw (still refl) (lit< tt)
    by false still = back_low (is_fault4 octets)

pub four_falls : (setup : Setup) (fault : Bool) (out : Out) → IsFromFour (dmr_of setup.book) fault out → Falls setup (Relay false) (cond fault 2 5) out
four_falls setup fault (OnLan octets) is stand e = absurd is
four_falls setup fault (OnAccess octets) is stand e =
    over_falls setup octets (cond fault 2 5) (λ at. by fault is.1) (λ dst found inside. absurd (true_false _ inside (is.0 dst found))) stand e
  where
    true_false : (b : Bool) → b ≡ true → b ≡ false → ⊥
    true_false b is isnt = absurd (cc)

    by : (fault : Bool) → (fault ≡ true → is_fault6 octets ≡ true) → cond (is_fault6 octets) 1 4 < cond fault 2 5
    by true still = rw (still refl) (lit< tt)
    by false still = edge_low (is_fault6 octets)
four_falls setup fault (IntoCore octets) is stand e = absurd (cc)
four_falls setup fault (ToTurn octets) is stand e = turned_is stand (Relay false) octets (cond fault 2 5) e (rw (is.0, is.1) (lit< tt))

-- ---- what a hop sends

every : (P : Out → Type 0) (outs : List Out) → ((out : Out) → P out) → Each P outs
every P [] all = tt
every P (out ∷ outs) all = (all out, every P outs all)

-- at an edge: the packet's own part, and what is freed, where that is none to an ICMP error
pub own_sends : (setup : Setup) (node : Node) (number : ℕ) (way : Way) (answer : Answer) (octets : List ℕ) (own : Hop) → Own node way answer octets own
    → Each (Falls setup (Edge number way) (rank_at (Edge number way) octets)) own.outs
own_sends setup node number Lan answer octets own is = every _ own.outs (lan_falls setup number)
own_sends setup node number Access answer octets own is =
    each_more (IsFromAccess (is_fault6 octets)) (Falls setup (Edge number Access) (cond (is_fault6 octets) 1 4)) own.outs (access_falls setup number (is_fault6 octets))
    (own_from_access node answer octets own is)
own_sends setup node number Turned answer octets own is =
    each_more IsFromItself (Falls setup (Edge number Turned) 1) own.outs (itself_falls setup number) (own_from_itself node answer octets own is)

pub freed_sends : (setup : Setup) (node : Node) (number : ℕ) (way : Way) (answer : Answer) (octets : List ℕ) (parcels : List Parcel) (others : Hop)
    → (way ≡ Access → is_fault6 octets ≡ true → parcels ≡ []) → AreFreed (IsLaterAt way) (Becomes node way answer) parcels others
    → Each (Falls setup (Edge number way) (rank_at (Edge number way) octets)) others.outs
freed_sends setup node number Lan answer octets parcels others frees are = every _ others.outs (lan_falls setup number)
freed_sends setup node number Access answer octets parcels others frees are =
    each_more (IsFromAccess (is_fault6 octets)) (Falls setup (Edge number Access) (cond (is_fault6 octets) 1 4)) others.outs (access_falls setup number (is_fault6 octets))
    (freed_from_access node answer octets parcels others (frees refl) are)
freed_sends setup node number Turned answer octets parcels others frees are =
    each_more IsFromItself (Falls setup (Edge number Turned) 1) others.outs (itself_falls setup number) (freed_from_itself node answer parcels others are)

pub edge_sends : (setup : Setup) (node : Node) (number : ℕ) (way : Way) (answer : Answer) (octets : List ℕ) (hop : Hop)
    → (way ≡ Access → is_fault6 octets ≡ true → freed_of answer ≡ []) → IsEdgeHop node way answer octets hop
    → Each (Falls setup (Edge number way) (rank_at (Edge number way) octets)) hop.outs
edge_sends setup node number way answer octets hop frees (own, others, own_is, others_are, is) =
    each_is (Falls setup (Edge number way) (rank_at (Edge number way) octets)) hop (then own others) is
    (each_both (Falls setup (Edge number way) (rank_at (Edge number way) octets)) own.outs others.outs
    (own_sends setup node number way answer octets own own_is)
    (freed_sends setup node number way answer octets (freed_of answer) others frees others_are))

-- at the relay of the setup's default mapping rule
pub relay_sends : (setup : Setup) (relay : RelayOf) (six : Bool) (octets : List ℕ) (told : Option FragAnswer) (hop : Hop) → relay.dmr ≡ dmr_of setup.book → IsBook relay
    → (cond six (is_fault6 octets) (is_fault4 octets) ≡ true → freed_by_told told ≡ []) → IsRelayHop relay six octets told hop
    → Each (Falls setup (Relay six) (rank_at (Relay six) octets)) hop.outs
relay_sends setup relay true octets told hop same book frees is =
    each_more (IsFromSix (is_fault6 octets)) (Falls setup (Relay true) (cond (is_fault6 octets) 3 6)) hop.outs (six_falls setup (is_fault6 octets)) (from_six relay octets told hop frees is)
relay_sends setup relay false octets told hop same book frees is =
    each_more (IsFromFour (dmr_of setup.book) (is_fault4 octets)) (Falls setup (Relay false) (cond (is_fault4 octets) 2 5)) hop.outs (four_falls setup (is_fault4 octets))
    (subst (λ (d : Dmr). Each (IsFromFour d (is_fault4 octets)) hop.outs) same (from_four relay octets told hop book frees is))

-- what is freed there, where that is none to an ICMP error
pub relay_freed_sends : (setup : Setup) (relay : RelayOf) (six : Bool) (octets : List ℕ) (ports : Ports) (parcels : List Parcel) (hop : Hop)
    → relay.dmr ≡ dmr_of setup.book → IsBook relay → (cond six (is_fault6 octets) (is_fault4 octets) ≡ true → parcels ≡ []) → FreesFrom relay six ports parcels hop
    → Each (Falls setup (Relay six) (rank_at (Relay six) octets)) hop.outs
relay_freed_sends setup relay true octets ports parcels hop same book frees is =
    each_more (IsFromSix (is_fault6 octets)) (Falls setup (Relay true) (cond (is_fault6 octets) 3 6)) hop.outs (six_falls setup (is_fault6 octets))
    (freed6 relay octets parcels frees ports hop is)
relay_freed_sends setup relay false octets ports parcels hop same book frees is =
    each_more (IsFromFour (dmr_of setup.book) (is_fault4 octets)) (Falls setup (Relay false) (cond (is_fault4 octets) 2 5)) hop.outs (four_falls setup (is_fault4 octets))
    (subst (λ (d : Dmr). Each (IsFromFour d (is_fault4 octets)) hop.outs) same (freed4 relay octets parcels book frees ports hop is))

-- ---- by the places of what it sends

some_waiting : (x y : Waiting) → ◌≡◌ {A = Option Waiting} (Some x) (Some y) → x ≡ y
some_waiting x y e = cc

pub sends_less : (setup : Setup) (taken : Waiting) (hop : Hop) → Each (Falls setup taken.stand (rank taken)) hop.outs → SendsLess setup taken hop
sends_less setup taken hop each = go hop.outs each
  where
    one : (out : Out) (next : Waiting) → Falls setup taken.stand (rank taken) out → onward setup taken.stand out ≡ Some next → rank next < rank taken
    one out next falls e = by (next_stand setup taken.stand out) refl e
      where
        by : (stand : Option Stand) → next_stand setup taken.stand out ≡ stand → option_map (at_stand (octets_of out)) stand ≡ Some next → rank next < rank taken
        by None is e = absurd (cc)
        by (Some stand) is e = subst (λ (w : Waiting). rank w < rank taken) (some_waiting (at_stand (octets_of out) stand) next e) (falls stand is)

    go : (outs : List Out) → Each (Falls setup taken.stand (rank taken)) outs
        → (at : ℕ) (out : Out) (next : Waiting) → slice_get outs at ≡ Some out → onward setup taken.stand out ≡ Some next → rank next < rank taken
    go [] each at out next found e = absurd (cc)
    go (o ∷ outs) each zero out next found e = one out next (subst (Falls setup taken.stand (rank taken)) (some_out o out found) each.0) e
      where
        some_out : (x y : Out) → ◌≡◌ {A = Option Out} (Some x) (Some y) → x ≡ y
        some_out x y e = cc
    go (o ∷ outs) each (suc at) out next found e = go outs each.1 at out next found e
