-- What the laws suppose, computed: a later fragment of 192.168.1.10 that comes before its first one, which frees it, at the home,
-- which holds 192.0.2.18 and PSID 52; the same at a stripe; and a packet that comes in to the port.
use Rattle.std.proofs.Common.{ℕ, ◌+◌, false, List, [], ◌∷◌, refl, arith, ◌≡◌, IsTrue, Some}
use Rattle.octets.specs.declared.address.Addr4.{Addr4}
use Rattle.octets.specs.declared.address.Addr6.{Addr6}
use Rattle.octets.specs.declared.prefix.Prefix6.{Prefix6}
use Rattle.octets.specs.declared.proto.Proto.TheVariants.{Udp}
use Rattle.octets.specs.declared.parcel.Parcel.{Parcel}
use Rattle.map_rules.specs.declared.rule.Rule.{Rule}
use Rattle.map_rules.specs.declared.dmr.Dmr.{Dmr}
use Rattle.map_rules.specs.Rule.{rule_address, ce6_of, source_of}
use Rattle.map_rules.specs.Embedding.{embedded, extract_of}
use Rattle.frag_table.specs.declared.key.FragKey.{FragKey}
use Rattle.frag_table.specs.declared.ask.FragAsk.TheVariants.{First as FirstAsk, Later as LaterAsk}
use Rattle.frag_table.specs.declared.answer.FragAnswer.TheVariants.{Held as HeldBack, Released}
use Rattle.frag_table.specs.Frag.{frag}
use Rattle.nat_model.specs.declared.answer.Answer.{Answer}
use Rattle.nat_model.specs.declared.answer.Answer.TheVariants.{Out, Held, In}
use Rattle.nat_model.specs.declared.ask.Ask.{Ask}
use Rattle.nat_model.specs.declared.ask.Ask.TheVariants.{Outward, Inward}
use Rattle.nat_model.specs.declared.ask.Part.{Part}
use Rattle.nat_model.specs.declared.ask.Part.TheVariants.{First, Later}
use Rattle.nat_model.specs.declared.entry.Entry.{Entry}
use Rattle.nat_model.specs.declared.entry.Who.{Who}
use Rattle.nat_model.specs.declared.stripe.StripeEntry.{StripeEntry}
use Rattle.nat_model.specs.Claim.{bound, claimed_port, least_below}
use Rattle.nat_model.specs.History.{EdgeStart, IsGood}
use Rattle.nat_model.specs.Machine.{nat, timed, renewed, at_time, staying, sent_flow, received}
use Rattle.nat_model.specs.Parcels.{edge_log, stripe_log, Frees, HasWaited}
use Rattle.nat_model.specs.Remote.{sent, remote, behind}
use Rattle.nat_model.specs.State.{Generation, NatState, Moment}
use Rattle.nat_model.specs.Stripe.{IsGoodStripe}
use Rattle.nat_model.proofs.ParcelHistory.{edge-waited, stripe-waited}
use Rattle.std.proofs.lemmas.List.Elements.{All-cons, All-nil}
use Rattle.port_set.specs.PortSet.{is_claimable}
use Rattle.nat_model.specs.declared.ask.Far.TheVariants.{Six}
use Rattle.nat_model.specs.declared.binding.Binding.{Binding}
use Rattle.nat_model.specs.Sound.{IsSound}
use Rattle.nat_model.specs.Refusal.{settled}
use Rattle.nat_model.specs.Delivered.{gone_by, IsDeliveredAlone}
use Rattle.nat_model.proofs.Delivery.{alone}

abbrev key : FragKey
key = record { way = 0; src = 0xc0a8_010a; dst = 0xc633_6407; proto = 17; id = 7 }

-- who asked first, and then
abbrev who : ℕ → Who
who n = record { worker = 0; rec = n; hop = 0 }

-- the parcel that the later fragment leaves
abbrev parcel : Parcel
parcel = record { place = 0; bytes = 1 ∷ 2 ∷ [] }

abbrev stripe_entries : List StripeEntry
stripe_entries =
    record { who = who 0; now = 5; ask = LaterAsk key (1 ∷ 2 ∷ []); answer = HeldBack }
    ∷ record { who = who 1; now = 6; ask = FirstAsk key (record { src = 1232; dst = 53 }); answer = Released (parcel ∷ []) }
    ∷ []

stripe-good : IsGoodStripe stripe_entries
unfolding frag
stripe-good = (refl, (refl, tt))

stripe-frees : Frees stripe_log stripe_entries 1 0 parcel
stripe-frees = record { entry = record { who = who 1; now = 6; ask = FirstAsk key (record { src = 1232; dst = 53 }); answer = Released (parcel ∷ []) }; at = refl; parcel = refl }

stripe-has-waited : HasWaited stripe_log stripe_entries 1 parcel
stripe-has-waited = stripe-waited stripe_entries 1 0 parcel stripe-good stripe-frees

-- the home: 2001:db8:12:3400::/56 under the rule of 2001:db8::/40 and 192.0.2.0/24
abbrev prefix : Prefix6
prefix = record { bits = 0x2001_0db8_0012_3400_0000_0000_0000_0000; len = 56; within = omega arith; clear = refl }

abbrev rule : Rule
rule = record {
  prefix6 = record { bits = 0x2001_0db8_0000_0000_0000_0000_0000_0000; len = 40; within = omega arith; clear = refl };
  prefix4 = record { bits = 0xc000_0200; len = 24; within = omega arith; clear = refl };
  ea = 16;
  offset = 6;
  forward = false;
  ea_most = omega arith;
  ea_least = omega arith;
  edge_length = omega arith;
  offset_most = omega arith;
  psid_most = omega arith;
}

abbrev dmr : Dmr
dmr = record { prefix = record { bits = 0x2001_0db8_ffff_0000_0000_0000_0000_0000; len = 64; within = omega arith; clear = refl }; valid = refl }

abbrev book : Generation
book = record { rules = rule ∷ []; dmr = dmr; number = 0 }

abbrev start : EdgeStart
start = record { prefix = prefix; book = book; kept = [] }

-- a fragment from the host to 198.51.100.7
abbrev asks : ℕ → ℕ → Part → Ask
asks near far part = Outward false Udp (record { addr = record { 0 = 0xc0a8_010a }; port = near }) (record { addr = record { 0 = 0xc633_6407 }; port = far }) 0 part

abbrev entry : ℕ → Ask → Answer → Entry
entry n ask answer = record { mark = record { who = who n; seen = 0; used = 0 }; now = 5 + n; ask = ask; answer = answer }

abbrev goes_out : Answer
goes_out = Out (record { 0 = 0xc000_0212 }) 1232 (record { 0 = 0x2001_0db8_0012_3400_0000_c000_0212_0034 }) (record { 0 = 0x2001_0db8_ffff_0000_00c6_3364_0700_0000 }) (parcel ∷ [])

abbrev entries : List Entry
entries = entry 0 (asks 0 0 (Later key (1 ∷ 2 ∷ []))) Held ∷ entry 1 (asks 1232 53 (First key)) goes_out ∷ []

home-good : IsGood nat start (book ∷ []) entries
unfolding nat timed renewed at_time staying sent_flow bound claimed_port least_below sent frag rule_address ce6_of embedded
home-good = (record { answer = refl; used = refl; book = refl }, (record { answer = refl; used = refl; book = refl }, tt))

home-has-waited : HasWaited edge_log entries 1 parcel
home-has-waited = edge-waited start (book ∷ []) entries 1 0 parcel home-good (record { entry = entry 1 (asks 1232 53 (First key)) goes_out; at = refl; parcel = refl })

-- later: a fragment from 198.51.100.7 whose first one came before, with the ports 53 and 1232
abbrev far6 : Addr6
far6 = record { 0 = 0x2001_0db8_ffff_0000_00c6_3364_0700_0000 }

abbrev own6 : Addr6
own6 = record { 0 = 0x2001_0db8_0012_3400_0000_c000_0212_0034 }

abbrev back : FragKey
back = record { way = 1; src = far6.0; dst = own6.0; proto = 17; id = 9 }

abbrev host : Addr4
host = record { 0 = 0xc0a8_010a }

abbrev far4 : Addr4
far4 = record { 0 = 0xc633_6407 }

abbrev binding : Binding
binding = record { proto = Udp; host = host; host_port = 5000; port = 1232; deadline = 300; live = false; kept = false }

abbrev state : NatState
state = record {
  book = book;
  clock = 10;
  bindings = binding ∷ [];
  notes = record { key = back; deadline = 200; ports = Some (record { src = 53; dst = 1232 }); held = [] } ∷ [];
}

abbrev moment : Moment
moment = record { seen = book; now = 20; place = 2 }

comes_in : (nat prefix state moment (Inward false Udp 0 (Six own6 far6 far6 0) 0 (Later back (3 ∷ [])))).answer ≡ In host 5000 far4 far4 []
unfolding nat timed renewed at_time received remote behind frag rule_address source_of embedded extract_of
comes_in = refl

sound : IsSound prefix state
sound = record {
  apart = λ i j d before within. absurd (omega arith);
  claimable = All-cons (λ b. IsTrue (is_claimable 6 8 52 b.port)) binding [] refl (All-nil (λ b. IsTrue (is_claimable 6 8 52 b.port)));
}

comes_in-alone : IsDeliveredAlone (settled prefix state moment) Udp (gone_by (settled prefix state moment) 2 (Inward false Udp 0 (Six own6 far6 far6 0) 0 (Later back (3 ∷ [])))) (record { addr = host; port = 5000 })
comes_in-alone = alone prefix state moment false Udp 0 0 (Six own6 far6 far6 0) (Later back (3 ∷ [])) host far4 far4 5000 [] sound comes_in
