-- The premises of the law of a packet from an edge to the relay, met by packets in octets, one of each kind. The octets were computed
-- apart from this program.
use Rattle.std.proofs.Common.{◌≡◌, ℕ, true, false, List, [], ◌∷◌, Some, None, refl, arith, ◌+◌, ◌*◌, ◌^◌, drop}
use Rattle.packets.proofs.Spared6.{whole6}
use Rattle.ip6_packet.specs.Chain.{chain_in}
use Rattle.octets.specs.declared.parcel.Parcel.{Parcel}
use Rattle.octets.specs.declared.proto.Proto.TheVariants.{Udp, Icmp}
use Rattle.l4_headers.specs.Transport.{l4_of}
use Rattle.map_rules.specs.Embedding.{embedded}
use Rattle.map_rules.specs.Rule.{rule_address, ce6_of}
use Rattle.frag_table.specs.declared.key.FragKey.{FragKey}
use Rattle.frag_table.specs.declared.note.Note.{Note}
use Rattle.frag_table.specs.Frag.{frag}
use Rattle.icmp_messages.specs.declared.icmp4.Icmp4.{Icmp4}
use Rattle.icmp_messages.specs.declared.icmp6.Icmp6.{Icmp6}
use Rattle.icmp_messages.specs.Table.{row}
use Rattle.icmp_messages.specs.declared.table.Rest.TheVariants.{Query, Zero, Pointer}
use Rattle.icmp_messages.specs.declared.inner4.Inner4.{Inner4}
use Rattle.icmp_messages.specs.declared.inner6.Inner6.{Inner6}
use Rattle.nat_model.specs.declared.answer.Answer.{Answer}
use Rattle.nat_model.specs.declared.answer.Answer.TheVariants.{Out}
use Rattle.nat_model.specs.declared.ask.Part.TheVariants.{Whole, First, Later as LaterPart}
use Rattle.nat_model.specs.Claim.{bound}
use Rattle.nat_model.specs.Machine.{nat, timed, renewed, at_time, sent_flow, sent_error}
use Rattle.nat_model.specs.Remote.{sent}
use Rattle.packets.specs.declared.packet4.Content4.TheVariants.{Segment as Segment4, Later as Later4, Query as Query4, Error as Error4}
use Rattle.packets.specs.declared.packet6.Content6.TheVariants.{Segment as Segment6, Later as Later6, Query as Query6, Error as Error6}
use Rattle.transit.specs.declared.passage.Passage.TheVariants.{Sent}
use Rattle.crossing.specs.Named.{uncut}
use Rattle.trace_text.specs.Answered.{AnsweredOut}
use Rattle.trace_text.specs.Crossings.{Passed, ToRelay}
use Rattle.trace_text.proofs.SmallDomain.{setting, relay_in, relay_is, shared, host, server, home6, server6, head4, head6, at_home, home, bindings, rules_are, home_is_a_source, server_is_a_destination}
use Rattle.trace_text.proofs.Readable.{taken4, packet6, udp4, udp6, later4, later6, inner4, inner6}

-- the answer to a flow of the host to the server, or to an error about one
abbrev pub goes_out : List Parcel → Answer
goes_out freed = Out shared 1232 home6 server6 freed

-- ---- a whole packet

abbrev whole_payload : List ℕ
whole_payload =
    19 ∷ 136 ∷ 0 ∷ 53 ∷ 0 ∷ 10 ∷ 151 ∷ 198 ∷ 104 ∷ 105 ∷ []

abbrev whole_payload_over_six : List ℕ
whole_payload_over_six =
    4 ∷ 208 ∷ 0 ∷ 53 ∷ 0 ∷ 10 ∷ 5 ∷ 119 ∷ 104 ∷ 105 ∷ []

abbrev pub whole : Passed
whole = record {
  taken = record { head = record (head4 64 host server 17 10) { id = 1 }; content = Segment4 Udp (l4_of Udp whole_payload) };
  octets =
      69 ∷ 0 ∷ 0 ∷ 30 ∷ 0 ∷ 1 ∷ 0 ∷ 0 ∷ 64 ∷ 17 ∷ 142 ∷ 225 ∷ 192 ∷ 168 ∷ 1 ∷ 10 ∷ 198 ∷ 51 ∷ 100 ∷ 7 ∷ 19 ∷ 136 ∷ 0 ∷ 53 ∷ 0
      ∷ 10 ∷ 151 ∷ 198 ∷ 104 ∷ 105 ∷ [];
  passage = Sent (
      96 ∷ 0 ∷ 0 ∷ 0 ∷ 0 ∷ 10 ∷ 17 ∷ 63 ∷ 32 ∷ 1 ∷ 13 ∷ 184 ∷ 0 ∷ 18 ∷ 52 ∷ 0 ∷ 0 ∷ 0 ∷ 192 ∷ 0 ∷ 2 ∷ 18 ∷ 0 ∷ 52 ∷ 32 ∷ 1 ∷ 13
      ∷ 184 ∷ 255 ∷ 255 ∷ 0 ∷ 0 ∷ 0 ∷ 198 ∷ 51 ∷ 100 ∷ 7 ∷ 0 ∷ 0 ∷ 0 ∷ 4 ∷ 208 ∷ 0 ∷ 53 ∷ 0 ∷ 10 ∷ 5 ∷ 119 ∷ 104 ∷ 105 ∷ []);
  portion = uncut;
  six =
      96 ∷ 0 ∷ 0 ∷ 0 ∷ 0 ∷ 10 ∷ 17 ∷ 63 ∷ 32 ∷ 1 ∷ 13 ∷ 184 ∷ 0 ∷ 18 ∷ 52 ∷ 0 ∷ 0 ∷ 0 ∷ 192 ∷ 0 ∷ 2 ∷ 18 ∷ 0 ∷ 52 ∷ 32 ∷ 1 ∷ 13
      ∷ 184 ∷ 255 ∷ 255 ∷ 0 ∷ 0 ∷ 0 ∷ 198 ∷ 51 ∷ 100 ∷ 7 ∷ 0 ∷ 0 ∷ 0 ∷ 4 ∷ 208 ∷ 0 ∷ 53 ∷ 0 ∷ 10 ∷ 5 ∷ 119 ∷ 104 ∷ 105 ∷ [];
  read = record { head = head6 63 home6 server6 17 10 None; content = Segment6 Udp (l4_of Udp whole_payload_over_six) };
  four =
      69 ∷ 0 ∷ 0 ∷ 30 ∷ 0 ∷ 7 ∷ 0 ∷ 0 ∷ 62 ∷ 17 ∷ 144 ∷ 123 ∷ 192 ∷ 0 ∷ 2 ∷ 18 ∷ 198 ∷ 51 ∷ 100 ∷ 7 ∷ 4 ∷ 208 ∷ 0 ∷ 53 ∷ 0 ∷ 10
      ∷ 166 ∷ 30 ∷ 104 ∷ 105 ∷ [];
}

whole_answered : AnsweredOut (at_home []) server (goes_out [])
unfolding nat timed renewed at_time sent_flow sent_error bound sent frag rule_address ce6_of embedded
whole_answered = record {
  fault = false;
  proto = Udp;
  near = record { addr = host; port = 5000 };
  port = 53;
  flags = 0;
  part = Whole;
  is = refl;
}

pub a_whole_packet : ToRelay setting (at_home []) (goes_out []) (relay_in 7) whole
a_whole_packet = record {
  taken = taken4 whole.taken.head whole_payload whole.taken.content refl refl (udp4 whole.taken.head whole_payload refl);
  answered = whole_answered;
  rules = rules_are home bindings [];
  fits = (omega arith, omega arith, omega arith);
  sent = (omega arith, refl, omega arith);
  emitted = refl;
  arrives = packet6 true whole.read.head whole_payload_over_six whole.read.content refl refl
      (udp6 whole.read.head whole_payload_over_six refl);
  relay_is = relay_is 7;
  numbered = λ none. refl;
  received = record {
    ports = record { src = 1232; dst = 53 };
    flow = λ first. refl;
    src = shared;
    dst = server;
    source = home_is_a_source;
    destination = server_is_a_destination;
    is = (omega arith, refl, omega arith);
  };
}

-- ---- a first fragment, and a later one that waited at the edge, which it frees, and then at the relay

abbrev first_payload : List ℕ
first_payload =
    19 ∷ 136 ∷ 0 ∷ 53 ∷ 0 ∷ 24 ∷ 188 ∷ 200 ∷ 97 ∷ 98 ∷ 99 ∷ 100 ∷ 101 ∷ 102 ∷ 103 ∷ 104 ∷ []

abbrev first_payload_over_six : List ℕ
first_payload_over_six =
    4 ∷ 208 ∷ 0 ∷ 53 ∷ 0 ∷ 24 ∷ 42 ∷ 121 ∷ 97 ∷ 98 ∷ 99 ∷ 100 ∷ 101 ∷ 102 ∷ 103 ∷ 104 ∷ []

abbrev pub first : Passed
first = record {
  taken = record { head = record (head4 64 host server 17 16) { id = 21; mf = true }; content = Segment4 Udp (l4_of Udp first_payload) };
  octets =
      69 ∷ 0 ∷ 0 ∷ 36 ∷ 0 ∷ 21 ∷ 32 ∷ 0 ∷ 64 ∷ 17 ∷ 110 ∷ 199 ∷ 192 ∷ 168 ∷ 1 ∷ 10 ∷ 198 ∷ 51 ∷ 100 ∷ 7 ∷ 19 ∷ 136 ∷ 0 ∷ 53 ∷ 0
      ∷ 24 ∷ 188 ∷ 200 ∷ 97 ∷ 98 ∷ 99 ∷ 100 ∷ 101 ∷ 102 ∷ 103 ∷ 104 ∷ [];
  passage = Sent (
      96 ∷ 0 ∷ 0 ∷ 0 ∷ 0 ∷ 24 ∷ 44 ∷ 63 ∷ 32 ∷ 1 ∷ 13 ∷ 184 ∷ 0 ∷ 18 ∷ 52 ∷ 0 ∷ 0 ∷ 0 ∷ 192 ∷ 0 ∷ 2 ∷ 18 ∷ 0 ∷ 52 ∷ 32 ∷ 1 ∷ 13
      ∷ 184 ∷ 255 ∷ 255 ∷ 0 ∷ 0 ∷ 0 ∷ 198 ∷ 51 ∷ 100 ∷ 7 ∷ 0 ∷ 0 ∷ 0 ∷ 17 ∷ 0 ∷ 0 ∷ 1 ∷ 0 ∷ 0 ∷ 0 ∷ 21 ∷ 4 ∷ 208 ∷ 0 ∷ 53 ∷ 0
      ∷ 24 ∷ 42 ∷ 121 ∷ 97 ∷ 98 ∷ 99 ∷ 100 ∷ 101 ∷ 102 ∷ 103 ∷ 104 ∷ []);
  portion = uncut;
  six =
      96 ∷ 0 ∷ 0 ∷ 0 ∷ 0 ∷ 24 ∷ 44 ∷ 63 ∷ 32 ∷ 1 ∷ 13 ∷ 184 ∷ 0 ∷ 18 ∷ 52 ∷ 0 ∷ 0 ∷ 0 ∷ 192 ∷ 0 ∷ 2 ∷ 18 ∷ 0 ∷ 52 ∷ 32 ∷ 1 ∷ 13
      ∷ 184 ∷ 255 ∷ 255 ∷ 0 ∷ 0 ∷ 0 ∷ 198 ∷ 51 ∷ 100 ∷ 7 ∷ 0 ∷ 0 ∷ 0 ∷ 17 ∷ 0 ∷ 0 ∷ 1 ∷ 0 ∷ 0 ∷ 0 ∷ 21 ∷ 4 ∷ 208 ∷ 0 ∷ 53 ∷ 0
      ∷ 24 ∷ 42 ∷ 121 ∷ 97 ∷ 98 ∷ 99 ∷ 100 ∷ 101 ∷ 102 ∷ 103 ∷ 104 ∷ [];
  read = record {
    head = head6 63 home6 server6 17 16 (Some (record { offset = 0; more = true; id = 21 }));
    content = Segment6 Udp (l4_of Udp first_payload_over_six);
  };
  four =
      69 ∷ 0 ∷ 0 ∷ 36 ∷ 0 ∷ 21 ∷ 32 ∷ 0 ∷ 62 ∷ 17 ∷ 112 ∷ 103 ∷ 192 ∷ 0 ∷ 2 ∷ 18 ∷ 198 ∷ 51 ∷ 100 ∷ 7 ∷ 4 ∷ 208 ∷ 0 ∷ 53 ∷ 0
      ∷ 24 ∷ 203 ∷ 32 ∷ 97 ∷ 98 ∷ 99 ∷ 100 ∷ 101 ∷ 102 ∷ 103 ∷ 104 ∷ [];
}

abbrev later_payload : List ℕ
later_payload =
    105 ∷ 106 ∷ 107 ∷ 108 ∷ 109 ∷ 110 ∷ 111 ∷ 112 ∷ []

abbrev pub later : Passed
later = record {
  taken = record { head = record (head4 64 host server 17 8) { id = 21; offset = 2 }; content = Later4 Udp };
  octets =
      69 ∷ 0 ∷ 0 ∷ 28 ∷ 0 ∷ 21 ∷ 0 ∷ 2 ∷ 64 ∷ 17 ∷ 142 ∷ 205 ∷ 192 ∷ 168 ∷ 1 ∷ 10 ∷ 198 ∷ 51 ∷ 100 ∷ 7 ∷ 105 ∷ 106 ∷ 107 ∷ 108
      ∷ 109 ∷ 110 ∷ 111 ∷ 112 ∷ [];
  passage = Sent (
      96 ∷ 0 ∷ 0 ∷ 0 ∷ 0 ∷ 16 ∷ 44 ∷ 63 ∷ 32 ∷ 1 ∷ 13 ∷ 184 ∷ 0 ∷ 18 ∷ 52 ∷ 0 ∷ 0 ∷ 0 ∷ 192 ∷ 0 ∷ 2 ∷ 18 ∷ 0 ∷ 52 ∷ 32 ∷ 1 ∷ 13
      ∷ 184 ∷ 255 ∷ 255 ∷ 0 ∷ 0 ∷ 0 ∷ 198 ∷ 51 ∷ 100 ∷ 7 ∷ 0 ∷ 0 ∷ 0 ∷ 17 ∷ 0 ∷ 0 ∷ 16 ∷ 0 ∷ 0 ∷ 0 ∷ 21 ∷ 105 ∷ 106 ∷ 107 ∷ 108
      ∷ 109 ∷ 110 ∷ 111 ∷ 112 ∷ []);
  portion = uncut;
  six =
      96 ∷ 0 ∷ 0 ∷ 0 ∷ 0 ∷ 16 ∷ 44 ∷ 63 ∷ 32 ∷ 1 ∷ 13 ∷ 184 ∷ 0 ∷ 18 ∷ 52 ∷ 0 ∷ 0 ∷ 0 ∷ 192 ∷ 0 ∷ 2 ∷ 18 ∷ 0 ∷ 52 ∷ 32 ∷ 1 ∷ 13
      ∷ 184 ∷ 255 ∷ 255 ∷ 0 ∷ 0 ∷ 0 ∷ 198 ∷ 51 ∷ 100 ∷ 7 ∷ 0 ∷ 0 ∷ 0 ∷ 17 ∷ 0 ∷ 0 ∷ 16 ∷ 0 ∷ 0 ∷ 0 ∷ 21 ∷ 105 ∷ 106 ∷ 107 ∷ 108
      ∷ 109 ∷ 110 ∷ 111 ∷ 112 ∷ [];
  read = record { head = head6 63 home6 server6 17 8 (Some (record { offset = 2; more = false; id = 21 })); content = Later6 Udp };
  four =
      69 ∷ 0 ∷ 0 ∷ 28 ∷ 0 ∷ 21 ∷ 0 ∷ 2 ∷ 62 ∷ 17 ∷ 144 ∷ 109 ∷ 192 ∷ 0 ∷ 2 ∷ 18 ∷ 198 ∷ 51 ∷ 100 ∷ 7 ∷ 105 ∷ 106 ∷ 107 ∷ 108
      ∷ 109 ∷ 110 ∷ 111 ∷ 112 ∷ [];
}

abbrev key : FragKey
key = record { way = 0; src = host.0; dst = server.0; proto = 17; id = 21 }

abbrev pub parcel : Parcel
parcel = record { place = 2; bytes = later.octets }

abbrev waiting : List Note
waiting = record { key = key; deadline = 200; ports = None; held = parcel ∷ [] } ∷ []

first_answered : AnsweredOut (at_home waiting) server (goes_out (parcel ∷ []))
unfolding nat timed renewed at_time sent_flow sent_error bound sent frag rule_address ce6_of embedded
first_answered = record {
  fault = false;
  proto = Udp;
  near = record { addr = host; port = 5000 };
  port = 53;
  flags = 0;
  part = First key;
  is = refl;
}

pub a_first_fragment : ToRelay setting (at_home waiting) (goes_out (parcel ∷ [])) (relay_in 7) first
a_first_fragment = record {
  taken = taken4 first.taken.head first_payload first.taken.content refl refl (udp4 first.taken.head first_payload refl);
  answered = first_answered;
  rules = rules_are home bindings waiting;
  fits = (omega arith, omega arith, omega arith);
  sent = (omega arith, refl, omega arith);
  emitted = refl;
  arrives = packet6 true first.read.head first_payload_over_six first.read.content refl refl
      (udp6 first.read.head first_payload_over_six refl);
  relay_is = relay_is 7;
  numbered = λ none. absurd cc;
  received = record {
    ports = record { src = 1232; dst = 53 };
    flow = λ first. refl;
    src = shared;
    dst = server;
    source = home_is_a_source;
    destination = server_is_a_destination;
    is = (omega arith, refl, omega arith);
  };
}

pub a_later_fragment_that_is_freed : ToRelay setting (at_home waiting) (goes_out (parcel ∷ [])) (relay_in 8) later
a_later_fragment_that_is_freed = record {
  taken = taken4 later.taken.head later_payload later.taken.content refl refl (later4 later.taken.head refl);
  answered = first_answered;
  rules = rules_are home bindings waiting;
  fits = (omega arith, omega arith, omega arith);
  sent = (omega arith, refl, omega arith);
  emitted = refl;
  arrives = packet6 true later.read.head later_payload later.read.content refl refl (later6 later.read.head refl);
  relay_is = relay_is 8;
  numbered = λ none. absurd cc;
  received = record {
    ports = record { src = 1232; dst = 53 };
    flow = λ only. absurd (only Udp refl);
    src = shared;
    dst = server;
    source = home_is_a_source;
    destination = server_is_a_destination;
    is = (omega arith, refl, omega arith);
  };
}

-- ---- a later fragment behind its first one

abbrev known : List Note
known = record { key = key; deadline = 200; ports = Some (record { src = 5000; dst = 53 }); held = [] } ∷ []

later_answered : AnsweredOut (at_home known) server (goes_out [])
unfolding nat timed renewed at_time sent_flow sent_error bound sent frag rule_address ce6_of embedded
later_answered = record {
  fault = false;
  proto = Udp;
  near = record { addr = host; port = 0 };
  port = 0;
  flags = 0;
  part = LaterPart key later.octets;
  is = refl;
}

pub a_later_fragment : ToRelay setting (at_home known) (goes_out []) (relay_in 7) later
a_later_fragment = record {
  taken = taken4 later.taken.head later_payload later.taken.content refl refl (later4 later.taken.head refl);
  answered = later_answered;
  rules = rules_are home bindings known;
  fits = (omega arith, omega arith, omega arith);
  sent = (omega arith, refl, omega arith);
  emitted = refl;
  arrives = packet6 true later.read.head later_payload later.read.content refl refl (later6 later.read.head refl);
  relay_is = relay_is 7;
  numbered = λ none. absurd cc;
  received = record {
    ports = record { src = 1232; dst = 53 };
    flow = λ only. absurd (only Udp refl);
    src = shared;
    dst = server;
    source = home_is_a_source;
    destination = server_is_a_destination;
    is = (omega arith, refl, omega arith);
  };
}

-- ---- an echo request

abbrev echo_payload : List ℕ
echo_payload =
    8 ∷ 0 ∷ 124 ∷ 13 ∷ 19 ∷ 136 ∷ 0 ∷ 1 ∷ 104 ∷ 105 ∷ []

abbrev echo_payload_over_six : List ℕ
echo_payload_over_six =
    128 ∷ 0 ∷ 133 ∷ 139 ∷ 4 ∷ 208 ∷ 0 ∷ 1 ∷ 104 ∷ 105 ∷ []

abbrev echo_message : Icmp4
echo_message = record { kind = 8; code = 0; rest = 5000 * 2 ^ 16 + 1; body = 104 ∷ 105 ∷ [] }

abbrev echo_message_over_six : Icmp6
echo_message_over_six = record { kind = 128; code = 0; rest = 1232 * 2 ^ 16 + 1; body = 104 ∷ 105 ∷ [] }

abbrev pub echo : Passed
echo = record {
  taken = record { head = record (head4 64 host server 1 10) { id = 1 }; content = Query4 echo_message (row 8 0 128 0 Query) };
  octets =
      69 ∷ 0 ∷ 0 ∷ 30 ∷ 0 ∷ 1 ∷ 0 ∷ 0 ∷ 64 ∷ 1 ∷ 142 ∷ 241 ∷ 192 ∷ 168 ∷ 1 ∷ 10 ∷ 198 ∷ 51 ∷ 100 ∷ 7 ∷ 8 ∷ 0 ∷ 124 ∷ 13 ∷ 19
      ∷ 136 ∷ 0 ∷ 1 ∷ 104 ∷ 105 ∷ [];
  passage = Sent (
      96 ∷ 0 ∷ 0 ∷ 0 ∷ 0 ∷ 10 ∷ 58 ∷ 63 ∷ 32 ∷ 1 ∷ 13 ∷ 184 ∷ 0 ∷ 18 ∷ 52 ∷ 0 ∷ 0 ∷ 0 ∷ 192 ∷ 0 ∷ 2 ∷ 18 ∷ 0 ∷ 52 ∷ 32 ∷ 1 ∷ 13
      ∷ 184 ∷ 255 ∷ 255 ∷ 0 ∷ 0 ∷ 0 ∷ 198 ∷ 51 ∷ 100 ∷ 7 ∷ 0 ∷ 0 ∷ 0 ∷ 128 ∷ 0 ∷ 133 ∷ 139 ∷ 4 ∷ 208 ∷ 0 ∷ 1 ∷ 104 ∷ 105 ∷ []);
  portion = uncut;
  six =
      96 ∷ 0 ∷ 0 ∷ 0 ∷ 0 ∷ 10 ∷ 58 ∷ 63 ∷ 32 ∷ 1 ∷ 13 ∷ 184 ∷ 0 ∷ 18 ∷ 52 ∷ 0 ∷ 0 ∷ 0 ∷ 192 ∷ 0 ∷ 2 ∷ 18 ∷ 0 ∷ 52 ∷ 32 ∷ 1 ∷ 13
      ∷ 184 ∷ 255 ∷ 255 ∷ 0 ∷ 0 ∷ 0 ∷ 198 ∷ 51 ∷ 100 ∷ 7 ∷ 0 ∷ 0 ∷ 0 ∷ 128 ∷ 0 ∷ 133 ∷ 139 ∷ 4 ∷ 208 ∷ 0 ∷ 1 ∷ 104 ∷ 105 ∷ [];
  read = record { head = head6 63 home6 server6 58 10 None; content = Query6 echo_message_over_six (row 128 0 8 0 Query) };
  four =
      69 ∷ 0 ∷ 0 ∷ 30 ∷ 0 ∷ 7 ∷ 0 ∷ 0 ∷ 62 ∷ 1 ∷ 144 ∷ 139 ∷ 192 ∷ 0 ∷ 2 ∷ 18 ∷ 198 ∷ 51 ∷ 100 ∷ 7 ∷ 8 ∷ 0 ∷ 138 ∷ 197 ∷ 4 ∷ 208
      ∷ 0 ∷ 1 ∷ 104 ∷ 105 ∷ [];
}

echo_answered : AnsweredOut (at_home []) server (goes_out [])
unfolding nat timed renewed at_time sent_flow sent_error bound sent frag rule_address ce6_of embedded
echo_answered = record {
  fault = false;
  proto = Icmp;
  near = record { addr = host; port = 5000 };
  port = 5000;
  flags = 0;
  part = Whole;
  is = refl;
}

pub an_echo_request : ToRelay setting (at_home []) (goes_out []) (relay_in 7) echo
an_echo_request = record {
  taken = taken4 echo.taken.head echo_payload echo.taken.content refl refl (
    record {
      protocol = refl;
      whole = refl;
      message = record { stands = omega arith; kind = refl; code = refl; rest = refl; body = refl; right = refl };
      found = refl;
    },
    refl,
  );
  answered = echo_answered;
  rules = rules_are home bindings [];
  fits = (omega arith, omega arith, omega arith);
  sent = (omega arith, refl, omega arith);
  emitted = refl;
  arrives = packet6 true echo.read.head echo_payload_over_six echo.read.content refl refl (
    record {
      protocol = refl;
      whole = whole6 echo.read.head refl refl;
      message = record {
        stands = omega arith;
        kind = refl;
        code = refl;
        rest = refl;
        body = refl;
        right = refl;
      };
      found = refl;
    },
    refl,
  );
  relay_is = relay_is 7;
  numbered = λ none. refl;
  received = record {
    ports = record { src = 1232; dst = 1232 };
    flow = λ first. refl;
    src = shared;
    dst = server;
    source = home_is_a_source;
    destination = server_is_a_destination;
    is = (omega arith, refl, omega arith);
  };
}

-- ---- an ICMP error about a packet of the server: no such port

abbrev error_payload : List ℕ
error_payload =
    3 ∷ 3 ∷ 233 ∷ 5 ∷ 0 ∷ 0 ∷ 0 ∷ 0 ∷ 69 ∷ 0 ∷ 0 ∷ 30 ∷ 0 ∷ 9 ∷ 0 ∷ 0 ∷ 60 ∷ 17 ∷ 146 ∷ 217 ∷ 198 ∷ 51 ∷ 100 ∷ 7 ∷ 192 ∷ 168 ∷ 1
    ∷ 10 ∷ 0 ∷ 53 ∷ 19 ∷ 136 ∷ 0 ∷ 10 ∷ 151 ∷ 198 ∷ 104 ∷ 105 ∷ []

abbrev error_payload_over_six : List ℕ
error_payload_over_six =
    1 ∷ 4 ∷ 0 ∷ 103 ∷ 0 ∷ 0 ∷ 0 ∷ 0 ∷ 96 ∷ 0 ∷ 0 ∷ 0 ∷ 0 ∷ 10 ∷ 17 ∷ 60 ∷ 32 ∷ 1 ∷ 13 ∷ 184 ∷ 255 ∷ 255 ∷ 0 ∷ 0 ∷ 0 ∷ 198 ∷ 51
    ∷ 100 ∷ 7 ∷ 0 ∷ 0 ∷ 0 ∷ 32 ∷ 1 ∷ 13 ∷ 184 ∷ 0 ∷ 18 ∷ 52 ∷ 0 ∷ 0 ∷ 0 ∷ 192 ∷ 0 ∷ 2 ∷ 18 ∷ 0 ∷ 52 ∷ 0 ∷ 53 ∷ 4 ∷ 208 ∷ 0 ∷ 10
    ∷ 5 ∷ 119 ∷ 104 ∷ 105 ∷ []

abbrev error_inner : List ℕ
error_inner =
    0 ∷ 53 ∷ 19 ∷ 136 ∷ 0 ∷ 10 ∷ 151 ∷ 198 ∷ 104 ∷ 105 ∷ []

abbrev error_inner_over_six : List ℕ
error_inner_over_six =
    0 ∷ 53 ∷ 4 ∷ 208 ∷ 0 ∷ 10 ∷ 5 ∷ 119 ∷ 104 ∷ 105 ∷ []

abbrev error_embedded : Inner4
error_embedded =
    record {
      head = record (head4 60 server host 17 10) { id = 9 };
      payload = error_inner;
      ports = (l4_of Udp error_inner).ports;
      proto = Udp;
    }

abbrev error_embedded_over_six : Inner6
error_embedded_over_six = record {
  head = head6 60 server6 home6 17 10 None;
  payload = error_inner_over_six;
  ports = (l4_of Udp error_inner_over_six).ports;
  proto = Udp;
}

abbrev error_message : Icmp4
error_message = record { kind = 3; code = 3; rest = 0; body = drop 8 error_payload }

abbrev error_message_over_six : Icmp6
error_message_over_six = record { kind = 1; code = 4; rest = 0; body = drop 8 error_payload_over_six }

abbrev pub error : Passed
error = record {
  taken = record { head = record (head4 64 host server 1 38) { id = 1 }; content = Error4 error_message (row 3 3 1 4 Zero) error_embedded };
  octets =
      69 ∷ 0 ∷ 0 ∷ 58 ∷ 0 ∷ 1 ∷ 0 ∷ 0 ∷ 64 ∷ 1 ∷ 142 ∷ 213 ∷ 192 ∷ 168 ∷ 1 ∷ 10 ∷ 198 ∷ 51 ∷ 100 ∷ 7 ∷ 3 ∷ 3 ∷ 233 ∷ 5 ∷ 0 ∷ 0
      ∷ 0 ∷ 0 ∷ 69 ∷ 0 ∷ 0 ∷ 30 ∷ 0 ∷ 9 ∷ 0 ∷ 0 ∷ 60 ∷ 17 ∷ 146 ∷ 217 ∷ 198 ∷ 51 ∷ 100 ∷ 7 ∷ 192 ∷ 168 ∷ 1 ∷ 10 ∷ 0 ∷ 53 ∷ 19
      ∷ 136 ∷ 0 ∷ 10 ∷ 151 ∷ 198 ∷ 104 ∷ 105 ∷ [];
  passage = Sent (
      96 ∷ 0 ∷ 0 ∷ 0 ∷ 0 ∷ 58 ∷ 58 ∷ 63 ∷ 32 ∷ 1 ∷ 13 ∷ 184 ∷ 0 ∷ 18 ∷ 52 ∷ 0 ∷ 0 ∷ 0 ∷ 192 ∷ 0 ∷ 2 ∷ 18 ∷ 0 ∷ 52 ∷ 32 ∷ 1 ∷ 13
      ∷ 184 ∷ 255 ∷ 255 ∷ 0 ∷ 0 ∷ 0 ∷ 198 ∷ 51 ∷ 100 ∷ 7 ∷ 0 ∷ 0 ∷ 0 ∷ 1 ∷ 4 ∷ 0 ∷ 103 ∷ 0 ∷ 0 ∷ 0 ∷ 0 ∷ 96 ∷ 0 ∷ 0 ∷ 0 ∷ 0 ∷ 10
      ∷ 17 ∷ 60 ∷ 32 ∷ 1 ∷ 13 ∷ 184 ∷ 255 ∷ 255 ∷ 0 ∷ 0 ∷ 0 ∷ 198 ∷ 51 ∷ 100 ∷ 7 ∷ 0 ∷ 0 ∷ 0 ∷ 32 ∷ 1 ∷ 13 ∷ 184 ∷ 0 ∷ 18 ∷ 52
      ∷ 0 ∷ 0 ∷ 0 ∷ 192 ∷ 0 ∷ 2 ∷ 18 ∷ 0 ∷ 52 ∷ 0 ∷ 53 ∷ 4 ∷ 208 ∷ 0 ∷ 10 ∷ 5 ∷ 119 ∷ 104 ∷ 105 ∷ []);
  portion = uncut;
  six =
      96 ∷ 0 ∷ 0 ∷ 0 ∷ 0 ∷ 58 ∷ 58 ∷ 63 ∷ 32 ∷ 1 ∷ 13 ∷ 184 ∷ 0 ∷ 18 ∷ 52 ∷ 0 ∷ 0 ∷ 0 ∷ 192 ∷ 0 ∷ 2 ∷ 18 ∷ 0 ∷ 52 ∷ 32 ∷ 1 ∷ 13
      ∷ 184 ∷ 255 ∷ 255 ∷ 0 ∷ 0 ∷ 0 ∷ 198 ∷ 51 ∷ 100 ∷ 7 ∷ 0 ∷ 0 ∷ 0 ∷ 1 ∷ 4 ∷ 0 ∷ 103 ∷ 0 ∷ 0 ∷ 0 ∷ 0 ∷ 96 ∷ 0 ∷ 0 ∷ 0 ∷ 0 ∷ 10
      ∷ 17 ∷ 60 ∷ 32 ∷ 1 ∷ 13 ∷ 184 ∷ 255 ∷ 255 ∷ 0 ∷ 0 ∷ 0 ∷ 198 ∷ 51 ∷ 100 ∷ 7 ∷ 0 ∷ 0 ∷ 0 ∷ 32 ∷ 1 ∷ 13 ∷ 184 ∷ 0 ∷ 18 ∷ 52
      ∷ 0 ∷ 0 ∷ 0 ∷ 192 ∷ 0 ∷ 2 ∷ 18 ∷ 0 ∷ 52 ∷ 0 ∷ 53 ∷ 4 ∷ 208 ∷ 0 ∷ 10 ∷ 5 ∷ 119 ∷ 104 ∷ 105 ∷ [];
  read = record {
    head = head6 63 home6 server6 58 58 None;
    content = Error6 error_message_over_six (row 1 4 3 3 Zero) error_embedded_over_six;
  };
  four =
      69 ∷ 0 ∷ 0 ∷ 58 ∷ 0 ∷ 7 ∷ 0 ∷ 0 ∷ 62 ∷ 1 ∷ 144 ∷ 111 ∷ 192 ∷ 0 ∷ 2 ∷ 18 ∷ 198 ∷ 51 ∷ 100 ∷ 7 ∷ 3 ∷ 3 ∷ 233 ∷ 101 ∷ 0 ∷ 0
      ∷ 0 ∷ 0 ∷ 69 ∷ 0 ∷ 0 ∷ 30 ∷ 0 ∷ 0 ∷ 0 ∷ 0 ∷ 60 ∷ 17 ∷ 146 ∷ 130 ∷ 198 ∷ 51 ∷ 100 ∷ 7 ∷ 192 ∷ 0 ∷ 2 ∷ 18 ∷ 0 ∷ 53 ∷ 4 ∷ 208
      ∷ 0 ∷ 10 ∷ 166 ∷ 30 ∷ 104 ∷ 105 ∷ [];
}

error_answered : AnsweredOut (at_home []) server (goes_out [])
unfolding nat timed renewed at_time sent_flow sent_error bound sent frag rule_address ce6_of embedded
error_answered = record {
  fault = true;
  proto = Udp;
  near = record { addr = host; port = 5000 };
  port = 53;
  flags = 0;
  part = Whole;
  is = refl;
}

pub an_error : ToRelay setting (at_home []) (goes_out []) (relay_in 7) error
unfolding chain_in
an_error = record {
  taken = taken4 error.taken.head error_payload error.taken.content refl refl (record {
    message = record {
      protocol = refl;
      whole = refl;
      message = record {
        stands = omega arith;
        kind = refl;
        code = refl;
        rest = refl;
        body = refl;
        right = refl;
      };
      found = refl;
    };
    error = record { found = refl; translated = λ none. let e : Zero ≡ Pointer = none.0 in cc; no_query = λ e. cc };
    embedded = inner4 error_embedded.head error_inner refl refl;
    answers = refl;
  });
  answered = error_answered;
  rules = rules_are home bindings [];
  fits = (omega arith, omega arith, omega arith);
  sent = (omega arith, refl, omega arith);
  emitted = refl;
  arrives = packet6 true error.read.head error_payload_over_six error.read.content refl refl (record {
    message = record {
      protocol = refl;
      whole = whole6 error.read.head refl refl;
      message = record {
        stands = omega arith;
        kind = refl;
        code = refl;
        rest = refl;
        body = refl;
        right = refl;
      };
      found = refl;
    };
    error = record { found = refl; translated = λ none. let e : Zero ≡ Pointer = none.0 in cc; no_query = λ e. cc };
    embedded = inner6 error_embedded_over_six.head error_inner_over_six refl refl refl;
    answers = record { back = refl; from_end = λ relay. refl };
  });
  relay_is = relay_is 7;
  numbered = λ none. refl;
  received = record {
    ports = record { src = 53; dst = 1232 };
    flow = λ first. refl;
    src = shared;
    dst = server;
    source = home_is_a_source;
    destination = server_is_a_destination;
    is = (omega arith, refl, omega arith);
  };
}
