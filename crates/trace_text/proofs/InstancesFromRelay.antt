-- The premises of the law of a packet from the relay to an edge, met by packets in octets, one of each kind. The octets were computed
-- apart from this program.
use Rattle.std.proofs.Common.{◌≡◌, ℕ, true, false, List, [], ◌∷◌, Some, None, refl, arith, ◌+◌, ◌*◌, ◌^◌, drop}
use Rattle.packets.proofs.Spared6.{whole6}
use Rattle.ip6_packet.specs.Chain.{chain_in}
use Rattle.octets.specs.declared.parcel.Parcel.{Parcel}
use Rattle.octets.specs.declared.proto.Proto.TheVariants.{Udp, Icmp}
use Rattle.l4_headers.specs.Transport.{l4_of}
use Rattle.map_rules.specs.Embedding.{embedded, extract_of}
use Rattle.map_rules.specs.Rule.{rule_address, source_of}
use Rattle.frag_table.specs.declared.key.FragKey.{FragKey}
use Rattle.frag_table.specs.declared.note.Note.{Note}
use Rattle.frag_table.specs.Frag.{frag}
use Rattle.icmp_messages.specs.declared.icmp4.Icmp4.{Icmp4}
use Rattle.icmp_messages.specs.declared.icmp6.Icmp6.{Icmp6}
use Rattle.icmp_messages.specs.Table.{row}
use Rattle.icmp_messages.specs.declared.table.Rest.TheVariants.{Query, Zero, Pointer}
use Rattle.std.proofs.lemmas.Bool.{false≢true}
use Rattle.icmp_messages.specs.declared.inner4.Inner4.{Inner4}
use Rattle.icmp_messages.specs.declared.inner6.Inner6.{Inner6}
use Rattle.nat_model.specs.declared.answer.Answer.{Answer}
use Rattle.nat_model.specs.declared.answer.Answer.TheVariants.{In}
use Rattle.nat_model.specs.declared.ask.Part.TheVariants.{Whole, First, Later as LaterPart}
use Rattle.nat_model.specs.Machine.{nat, timed, renewed, at_time, received}
use Rattle.nat_model.specs.Remote.{remote, behind}
use Rattle.packets.specs.declared.packet4.Content4.TheVariants.{Segment as Segment4, Later as Later4, Query as Query4, Error as Error4}
use Rattle.packets.specs.declared.packet6.Content6.TheVariants.{Segment as Segment6, Later as Later6, Query as Query6, Error as Error6}
use Rattle.transit.specs.declared.passage.Passage.TheVariants.{Sent}
use Rattle.crossing.specs.Named.{uncut}
use Rattle.trace_text.specs.Answered.{AnsweredIn}
use Rattle.trace_text.specs.Crossings.{Passed, FromRelay}
use Rattle.trace_text.proofs.SmallDomain.{setting, relay_in, relay_is, relay_fits, shared, host, server, router, home6, server6, router6, head4, head6, at_home, home, bindings, rules_are, home_is_the_owner}
use Rattle.trace_text.proofs.Readable.{taken4, packet6, udp4, udp6, later4, later6, inner4, inner6}

-- the answer to a flow of the server to the host
abbrev pub comes_in : List Parcel → Answer
comes_in freed = In host 5000 server server freed

-- ---- a whole packet

abbrev whole_payload : List ℕ
whole_payload =
    0 ∷ 53 ∷ 4 ∷ 208 ∷ 0 ∷ 10 ∷ 166 ∷ 30 ∷ 104 ∷ 105 ∷ []

abbrev whole_payload_over_six : List ℕ
whole_payload_over_six =
    0 ∷ 53 ∷ 4 ∷ 208 ∷ 0 ∷ 10 ∷ 5 ∷ 119 ∷ 104 ∷ 105 ∷ []

abbrev pub whole : Passed
whole = record {
  taken = record { head = record (head4 60 server shared 17 10) { id = 9 }; content = Segment4 Udp (l4_of Udp whole_payload) };
  octets =
      69 ∷ 0 ∷ 0 ∷ 30 ∷ 0 ∷ 9 ∷ 0 ∷ 0 ∷ 60 ∷ 17 ∷ 146 ∷ 121 ∷ 198 ∷ 51 ∷ 100 ∷ 7 ∷ 192 ∷ 0 ∷ 2 ∷ 18 ∷ 0 ∷ 53 ∷ 4 ∷ 208 ∷ 0 ∷ 10
      ∷ 166 ∷ 30 ∷ 104 ∷ 105 ∷ [];
  passage = Sent (
      96 ∷ 0 ∷ 0 ∷ 0 ∷ 0 ∷ 10 ∷ 17 ∷ 59 ∷ 32 ∷ 1 ∷ 13 ∷ 184 ∷ 255 ∷ 255 ∷ 0 ∷ 0 ∷ 0 ∷ 198 ∷ 51 ∷ 100 ∷ 7 ∷ 0 ∷ 0 ∷ 0 ∷ 32 ∷ 1
      ∷ 13 ∷ 184 ∷ 0 ∷ 18 ∷ 52 ∷ 0 ∷ 0 ∷ 0 ∷ 192 ∷ 0 ∷ 2 ∷ 18 ∷ 0 ∷ 52 ∷ 0 ∷ 53 ∷ 4 ∷ 208 ∷ 0 ∷ 10 ∷ 5 ∷ 119 ∷ 104 ∷ 105 ∷ []);
  portion = uncut;
  six =
      96 ∷ 0 ∷ 0 ∷ 0 ∷ 0 ∷ 10 ∷ 17 ∷ 59 ∷ 32 ∷ 1 ∷ 13 ∷ 184 ∷ 255 ∷ 255 ∷ 0 ∷ 0 ∷ 0 ∷ 198 ∷ 51 ∷ 100 ∷ 7 ∷ 0 ∷ 0 ∷ 0 ∷ 32 ∷ 1
      ∷ 13 ∷ 184 ∷ 0 ∷ 18 ∷ 52 ∷ 0 ∷ 0 ∷ 0 ∷ 192 ∷ 0 ∷ 2 ∷ 18 ∷ 0 ∷ 52 ∷ 0 ∷ 53 ∷ 4 ∷ 208 ∷ 0 ∷ 10 ∷ 5 ∷ 119 ∷ 104 ∷ 105 ∷ [];
  read = record { head = head6 59 server6 home6 17 10 None; content = Segment6 Udp (l4_of Udp whole_payload_over_six) };
  four =
      69 ∷ 0 ∷ 0 ∷ 30 ∷ 0 ∷ 7 ∷ 0 ∷ 0 ∷ 58 ∷ 17 ∷ 148 ∷ 219 ∷ 198 ∷ 51 ∷ 100 ∷ 7 ∷ 192 ∷ 168 ∷ 1 ∷ 10 ∷ 0 ∷ 53 ∷ 19 ∷ 136 ∷ 0
      ∷ 10 ∷ 151 ∷ 198 ∷ 104 ∷ 105 ∷ [];
}

whole_answered : AnsweredIn (at_home []) server6 server6 (comes_in [])
unfolding nat timed renewed at_time received remote behind frag rule_address source_of embedded extract_of
whole_answered = record {
  fault = false;
  proto = Udp;
  port = 1232;
  dst = home6;
  far_port = 53;
  flags = 0;
  part = Whole;
  is = refl;
}

pub a_whole_packet : FromRelay setting (relay_in 7) (at_home []) (comes_in []) whole
unfolding embedded
a_whole_packet = record {
  taken = taken4 whole.taken.head whole_payload whole.taken.content refl refl (udp4 whole.taken.head whole_payload refl);
  relay_is = relay_is 7;
  relay_fits = relay_fits;
  sent = record {
    ports = record { src = 53; dst = 1232 };
    flow = λ first. refl;
    own = home6;
    owned = home_is_the_owner;
    is = (omega arith, refl, omega arith);
  };
  emitted = refl;
  arrives = packet6 false whole.read.head whole_payload_over_six whole.read.content refl refl
      (udp6 whole.read.head whole_payload_over_six refl);
  answered = whole_answered;
  rules = rules_are home bindings [];
  fits = omega arith;
  id = 7;
  numbered = λ none. refl;
  received = (omega arith, refl, omega arith);
}

-- ---- a first fragment, and a later one that waited at the relay and then at the edge, where the first one frees it

abbrev first_payload : List ℕ
first_payload =
    0 ∷ 53 ∷ 4 ∷ 208 ∷ 0 ∷ 24 ∷ 203 ∷ 32 ∷ 97 ∷ 98 ∷ 99 ∷ 100 ∷ 101 ∷ 102 ∷ 103 ∷ 104 ∷ []

abbrev first_payload_over_six : List ℕ
first_payload_over_six =
    0 ∷ 53 ∷ 4 ∷ 208 ∷ 0 ∷ 24 ∷ 42 ∷ 121 ∷ 97 ∷ 98 ∷ 99 ∷ 100 ∷ 101 ∷ 102 ∷ 103 ∷ 104 ∷ []

abbrev pub first : Passed
first = record {
  taken = record { head = record (head4 60 server shared 17 16) { id = 33; mf = true }; content = Segment4 Udp (l4_of Udp first_payload) };
  octets =
      69 ∷ 0 ∷ 0 ∷ 36 ∷ 0 ∷ 33 ∷ 32 ∷ 0 ∷ 60 ∷ 17 ∷ 114 ∷ 91 ∷ 198 ∷ 51 ∷ 100 ∷ 7 ∷ 192 ∷ 0 ∷ 2 ∷ 18 ∷ 0 ∷ 53 ∷ 4 ∷ 208 ∷ 0 ∷ 24
      ∷ 203 ∷ 32 ∷ 97 ∷ 98 ∷ 99 ∷ 100 ∷ 101 ∷ 102 ∷ 103 ∷ 104 ∷ [];
  passage = Sent (
      96 ∷ 0 ∷ 0 ∷ 0 ∷ 0 ∷ 24 ∷ 44 ∷ 59 ∷ 32 ∷ 1 ∷ 13 ∷ 184 ∷ 255 ∷ 255 ∷ 0 ∷ 0 ∷ 0 ∷ 198 ∷ 51 ∷ 100 ∷ 7 ∷ 0 ∷ 0 ∷ 0 ∷ 32 ∷ 1
      ∷ 13 ∷ 184 ∷ 0 ∷ 18 ∷ 52 ∷ 0 ∷ 0 ∷ 0 ∷ 192 ∷ 0 ∷ 2 ∷ 18 ∷ 0 ∷ 52 ∷ 17 ∷ 0 ∷ 0 ∷ 1 ∷ 0 ∷ 0 ∷ 0 ∷ 33 ∷ 0 ∷ 53 ∷ 4 ∷ 208 ∷ 0
      ∷ 24 ∷ 42 ∷ 121 ∷ 97 ∷ 98 ∷ 99 ∷ 100 ∷ 101 ∷ 102 ∷ 103 ∷ 104 ∷ []);
  portion = uncut;
  six =
      96 ∷ 0 ∷ 0 ∷ 0 ∷ 0 ∷ 24 ∷ 44 ∷ 59 ∷ 32 ∷ 1 ∷ 13 ∷ 184 ∷ 255 ∷ 255 ∷ 0 ∷ 0 ∷ 0 ∷ 198 ∷ 51 ∷ 100 ∷ 7 ∷ 0 ∷ 0 ∷ 0 ∷ 32 ∷ 1
      ∷ 13 ∷ 184 ∷ 0 ∷ 18 ∷ 52 ∷ 0 ∷ 0 ∷ 0 ∷ 192 ∷ 0 ∷ 2 ∷ 18 ∷ 0 ∷ 52 ∷ 17 ∷ 0 ∷ 0 ∷ 1 ∷ 0 ∷ 0 ∷ 0 ∷ 33 ∷ 0 ∷ 53 ∷ 4 ∷ 208 ∷ 0
      ∷ 24 ∷ 42 ∷ 121 ∷ 97 ∷ 98 ∷ 99 ∷ 100 ∷ 101 ∷ 102 ∷ 103 ∷ 104 ∷ [];
  read = record {
    head = head6 59 server6 home6 17 16 (Some (record { offset = 0; more = true; id = 33 }));
    content = Segment6 Udp (l4_of Udp first_payload_over_six);
  };
  four =
      69 ∷ 0 ∷ 0 ∷ 36 ∷ 0 ∷ 33 ∷ 32 ∷ 0 ∷ 58 ∷ 17 ∷ 116 ∷ 187 ∷ 198 ∷ 51 ∷ 100 ∷ 7 ∷ 192 ∷ 168 ∷ 1 ∷ 10 ∷ 0 ∷ 53 ∷ 19 ∷ 136 ∷ 0
      ∷ 24 ∷ 188 ∷ 200 ∷ 97 ∷ 98 ∷ 99 ∷ 100 ∷ 101 ∷ 102 ∷ 103 ∷ 104 ∷ [];
}

abbrev later_payload : List ℕ
later_payload =
    105 ∷ 106 ∷ 107 ∷ 108 ∷ 109 ∷ 110 ∷ 111 ∷ 112 ∷ []

abbrev pub later : Passed
later = record {
  taken = record { head = record (head4 60 server shared 17 8) { id = 33; offset = 2 }; content = Later4 Udp };
  octets =
      69 ∷ 0 ∷ 0 ∷ 28 ∷ 0 ∷ 33 ∷ 0 ∷ 2 ∷ 60 ∷ 17 ∷ 146 ∷ 97 ∷ 198 ∷ 51 ∷ 100 ∷ 7 ∷ 192 ∷ 0 ∷ 2 ∷ 18 ∷ 105 ∷ 106 ∷ 107 ∷ 108
      ∷ 109 ∷ 110 ∷ 111 ∷ 112 ∷ [];
  passage = Sent (
      96 ∷ 0 ∷ 0 ∷ 0 ∷ 0 ∷ 16 ∷ 44 ∷ 59 ∷ 32 ∷ 1 ∷ 13 ∷ 184 ∷ 255 ∷ 255 ∷ 0 ∷ 0 ∷ 0 ∷ 198 ∷ 51 ∷ 100 ∷ 7 ∷ 0 ∷ 0 ∷ 0 ∷ 32 ∷ 1
      ∷ 13 ∷ 184 ∷ 0 ∷ 18 ∷ 52 ∷ 0 ∷ 0 ∷ 0 ∷ 192 ∷ 0 ∷ 2 ∷ 18 ∷ 0 ∷ 52 ∷ 17 ∷ 0 ∷ 0 ∷ 16 ∷ 0 ∷ 0 ∷ 0 ∷ 33 ∷ 105 ∷ 106 ∷ 107
      ∷ 108 ∷ 109 ∷ 110 ∷ 111 ∷ 112 ∷ []);
  portion = uncut;
  six =
      96 ∷ 0 ∷ 0 ∷ 0 ∷ 0 ∷ 16 ∷ 44 ∷ 59 ∷ 32 ∷ 1 ∷ 13 ∷ 184 ∷ 255 ∷ 255 ∷ 0 ∷ 0 ∷ 0 ∷ 198 ∷ 51 ∷ 100 ∷ 7 ∷ 0 ∷ 0 ∷ 0 ∷ 32 ∷ 1
      ∷ 13 ∷ 184 ∷ 0 ∷ 18 ∷ 52 ∷ 0 ∷ 0 ∷ 0 ∷ 192 ∷ 0 ∷ 2 ∷ 18 ∷ 0 ∷ 52 ∷ 17 ∷ 0 ∷ 0 ∷ 16 ∷ 0 ∷ 0 ∷ 0 ∷ 33 ∷ 105 ∷ 106 ∷ 107
      ∷ 108 ∷ 109 ∷ 110 ∷ 111 ∷ 112 ∷ [];
  read = record { head = head6 59 server6 home6 17 8 (Some (record { offset = 2; more = false; id = 33 })); content = Later6 Udp };
  four =
      69 ∷ 0 ∷ 0 ∷ 28 ∷ 0 ∷ 33 ∷ 0 ∷ 2 ∷ 58 ∷ 17 ∷ 148 ∷ 193 ∷ 198 ∷ 51 ∷ 100 ∷ 7 ∷ 192 ∷ 168 ∷ 1 ∷ 10 ∷ 105 ∷ 106 ∷ 107 ∷ 108
      ∷ 109 ∷ 110 ∷ 111 ∷ 112 ∷ [];
}

abbrev key : FragKey
key = record { way = 1; src = server6.0; dst = home6.0; proto = 17; id = 33 }

abbrev pub parcel : Parcel
parcel = record { place = 2; bytes = later.six }

abbrev waiting : List Note
waiting = record { key = key; deadline = 200; ports = None; held = parcel ∷ [] } ∷ []

first_answered : AnsweredIn (at_home waiting) server6 server6 (comes_in (parcel ∷ []))
unfolding nat timed renewed at_time received remote behind frag rule_address source_of embedded extract_of
first_answered = record {
  fault = false;
  proto = Udp;
  port = 1232;
  dst = home6;
  far_port = 53;
  flags = 0;
  part = First key;
  is = refl;
}

pub a_first_fragment : FromRelay setting (relay_in 7) (at_home waiting) (comes_in (parcel ∷ [])) first
unfolding embedded
a_first_fragment = record {
  taken = taken4 first.taken.head first_payload first.taken.content refl refl (udp4 first.taken.head first_payload refl);
  relay_is = relay_is 7;
  relay_fits = relay_fits;
  sent = record {
    ports = record { src = 53; dst = 1232 };
    flow = λ first. refl;
    own = home6;
    owned = home_is_the_owner;
    is = (omega arith, refl, omega arith);
  };
  emitted = refl;
  arrives = packet6 false first.read.head first_payload_over_six first.read.content refl refl
      (udp6 first.read.head first_payload_over_six refl);
  answered = first_answered;
  rules = rules_are home bindings waiting;
  fits = omega arith;
  id = 7;
  numbered = λ none. absurd cc;
  received = (omega arith, refl, omega arith);
}

pub a_later_fragment_that_is_freed : FromRelay setting (relay_in 6) (at_home waiting) (comes_in (parcel ∷ [])) later
unfolding embedded
a_later_fragment_that_is_freed = record {
  taken = taken4 later.taken.head later_payload later.taken.content refl refl (later4 later.taken.head refl);
  relay_is = relay_is 6;
  relay_fits = relay_fits;
  sent = record {
    ports = record { src = 53; dst = 1232 };
    flow = λ only. absurd (only Udp refl);
    own = home6;
    owned = home_is_the_owner;
    is = (omega arith, refl, omega arith);
  };
  emitted = refl;
  arrives = packet6 false later.read.head later_payload later.read.content refl refl (later6 later.read.head refl);
  answered = first_answered;
  rules = rules_are home bindings waiting;
  fits = omega arith;
  id = 8;
  numbered = λ none. absurd cc;
  received = (omega arith, refl, omega arith);
}

-- ---- a later fragment behind its first one

abbrev known : List Note
known = record { key = key; deadline = 200; ports = Some (record { src = 53; dst = 1232 }); held = [] } ∷ []

later_answered : AnsweredIn (at_home known) server6 server6 (comes_in [])
unfolding nat timed renewed at_time received remote behind frag rule_address source_of embedded extract_of
later_answered = record {
  fault = false;
  proto = Udp;
  port = 0;
  dst = home6;
  far_port = 0;
  flags = 0;
  part = LaterPart key later.six;
  is = refl;
}

pub a_later_fragment : FromRelay setting (relay_in 7) (at_home known) (comes_in []) later
unfolding embedded
a_later_fragment = record {
  taken = taken4 later.taken.head later_payload later.taken.content refl refl (later4 later.taken.head refl);
  relay_is = relay_is 7;
  relay_fits = relay_fits;
  sent = record {
    ports = record { src = 53; dst = 1232 };
    flow = λ only. absurd (only Udp refl);
    own = home6;
    owned = home_is_the_owner;
    is = (omega arith, refl, omega arith);
  };
  emitted = refl;
  arrives = packet6 false later.read.head later_payload later.read.content refl refl (later6 later.read.head refl);
  answered = later_answered;
  rules = rules_are home bindings known;
  fits = omega arith;
  id = 7;
  numbered = λ none. absurd cc;
  received = (omega arith, refl, omega arith);
}

-- ---- an echo reply

abbrev echo_payload : List ℕ
echo_payload =
    0 ∷ 0 ∷ 146 ∷ 197 ∷ 4 ∷ 208 ∷ 0 ∷ 1 ∷ 104 ∷ 105 ∷ []

abbrev echo_payload_over_six : List ℕ
echo_payload_over_six =
    129 ∷ 0 ∷ 132 ∷ 139 ∷ 4 ∷ 208 ∷ 0 ∷ 1 ∷ 104 ∷ 105 ∷ []

abbrev echo_message : Icmp4
echo_message = record { kind = 0; code = 0; rest = 1232 * 2 ^ 16 + 1; body = 104 ∷ 105 ∷ [] }

abbrev echo_message_over_six : Icmp6
echo_message_over_six = record { kind = 129; code = 0; rest = 1232 * 2 ^ 16 + 1; body = 104 ∷ 105 ∷ [] }

abbrev pub echo : Passed
echo = record {
  taken = record { head = record (head4 60 server shared 1 10) { id = 9 }; content = Query4 echo_message (row 0 0 129 0 Query) };
  octets =
      69 ∷ 0 ∷ 0 ∷ 30 ∷ 0 ∷ 9 ∷ 0 ∷ 0 ∷ 60 ∷ 1 ∷ 146 ∷ 137 ∷ 198 ∷ 51 ∷ 100 ∷ 7 ∷ 192 ∷ 0 ∷ 2 ∷ 18 ∷ 0 ∷ 0 ∷ 146 ∷ 197 ∷ 4 ∷ 208
      ∷ 0 ∷ 1 ∷ 104 ∷ 105 ∷ [];
  passage = Sent (
      96 ∷ 0 ∷ 0 ∷ 0 ∷ 0 ∷ 10 ∷ 58 ∷ 59 ∷ 32 ∷ 1 ∷ 13 ∷ 184 ∷ 255 ∷ 255 ∷ 0 ∷ 0 ∷ 0 ∷ 198 ∷ 51 ∷ 100 ∷ 7 ∷ 0 ∷ 0 ∷ 0 ∷ 32 ∷ 1
      ∷ 13 ∷ 184 ∷ 0 ∷ 18 ∷ 52 ∷ 0 ∷ 0 ∷ 0 ∷ 192 ∷ 0 ∷ 2 ∷ 18 ∷ 0 ∷ 52 ∷ 129 ∷ 0 ∷ 132 ∷ 139 ∷ 4 ∷ 208 ∷ 0 ∷ 1 ∷ 104 ∷ 105 ∷ []);
  portion = uncut;
  six =
      96 ∷ 0 ∷ 0 ∷ 0 ∷ 0 ∷ 10 ∷ 58 ∷ 59 ∷ 32 ∷ 1 ∷ 13 ∷ 184 ∷ 255 ∷ 255 ∷ 0 ∷ 0 ∷ 0 ∷ 198 ∷ 51 ∷ 100 ∷ 7 ∷ 0 ∷ 0 ∷ 0 ∷ 32 ∷ 1
      ∷ 13 ∷ 184 ∷ 0 ∷ 18 ∷ 52 ∷ 0 ∷ 0 ∷ 0 ∷ 192 ∷ 0 ∷ 2 ∷ 18 ∷ 0 ∷ 52 ∷ 129 ∷ 0 ∷ 132 ∷ 139 ∷ 4 ∷ 208 ∷ 0 ∷ 1 ∷ 104 ∷ 105 ∷ [];
  read = record { head = head6 59 server6 home6 58 10 None; content = Query6 echo_message_over_six (row 129 0 0 0 Query) };
  four =
      69 ∷ 0 ∷ 0 ∷ 30 ∷ 0 ∷ 7 ∷ 0 ∷ 0 ∷ 58 ∷ 1 ∷ 148 ∷ 235 ∷ 198 ∷ 51 ∷ 100 ∷ 7 ∷ 192 ∷ 168 ∷ 1 ∷ 10 ∷ 0 ∷ 0 ∷ 132 ∷ 13 ∷ 19
      ∷ 136 ∷ 0 ∷ 1 ∷ 104 ∷ 105 ∷ [];
}

echo_answered : AnsweredIn (at_home []) server6 server6 (comes_in [])
unfolding nat timed renewed at_time received remote behind frag rule_address source_of embedded extract_of
echo_answered = record {
  fault = false;
  proto = Icmp;
  port = 1232;
  dst = home6;
  far_port = 1232;
  flags = 0;
  part = Whole;
  is = refl;
}

pub an_echo_reply : FromRelay setting (relay_in 7) (at_home []) (comes_in []) echo
unfolding embedded
an_echo_reply = record {
  taken = taken4 echo.taken.head echo_payload echo.taken.content refl refl (
    record {
      protocol = refl;
      whole = refl;
      message = record { stands = omega arith; kind = refl; code = refl; rest = refl; body = refl; right = refl };
      found = refl;
    },
    refl,
  );
  relay_is = relay_is 7;
  relay_fits = relay_fits;
  sent = record {
    ports = record { src = 1232; dst = 1232 };
    flow = λ first. refl;
    own = home6;
    owned = home_is_the_owner;
    is = (omega arith, refl, omega arith);
  };
  emitted = refl;
  arrives = packet6 false echo.read.head echo_payload_over_six echo.read.content refl refl (
    record {
      protocol = refl;
      whole = whole6 echo.read.head refl refl;
      message = record {
        stands = omega arith;
        kind = refl;
        code = refl;
        rest = refl;
        body = refl;
        right = refl;
      };
      found = refl;
    },
    refl,
  );
  answered = echo_answered;
  rules = rules_are home bindings [];
  fits = omega arith;
  id = 7;
  numbered = λ none. refl;
  received = (omega arith, refl, omega arith);
}

-- ---- an ICMP error of a router about a packet of the host: its TTL is exceeded

abbrev error_payload : List ℕ
error_payload =
    11 ∷ 0 ∷ 225 ∷ 104 ∷ 0 ∷ 0 ∷ 0 ∷ 0 ∷ 69 ∷ 0 ∷ 0 ∷ 30 ∷ 0 ∷ 3 ∷ 0 ∷ 0 ∷ 62 ∷ 17 ∷ 144 ∷ 127 ∷ 192 ∷ 0 ∷ 2 ∷ 18 ∷ 198 ∷ 51
    ∷ 100 ∷ 7 ∷ 4 ∷ 208 ∷ 0 ∷ 53 ∷ 0 ∷ 10 ∷ 166 ∷ 30 ∷ 104 ∷ 105 ∷ []

abbrev error_payload_over_six : List ℕ
error_payload_over_six =
    3 ∷ 0 ∷ 252 ∷ 104 ∷ 0 ∷ 0 ∷ 0 ∷ 0 ∷ 96 ∷ 0 ∷ 0 ∷ 0 ∷ 0 ∷ 10 ∷ 17 ∷ 62 ∷ 32 ∷ 1 ∷ 13 ∷ 184 ∷ 0 ∷ 18 ∷ 52 ∷ 0 ∷ 0 ∷ 0 ∷ 192
    ∷ 0 ∷ 2 ∷ 18 ∷ 0 ∷ 52 ∷ 32 ∷ 1 ∷ 13 ∷ 184 ∷ 255 ∷ 255 ∷ 0 ∷ 0 ∷ 0 ∷ 198 ∷ 51 ∷ 100 ∷ 7 ∷ 0 ∷ 0 ∷ 0 ∷ 4 ∷ 208 ∷ 0 ∷ 53 ∷ 0
    ∷ 10 ∷ 5 ∷ 119 ∷ 104 ∷ 105 ∷ []

abbrev error_inner : List ℕ
error_inner =
    4 ∷ 208 ∷ 0 ∷ 53 ∷ 0 ∷ 10 ∷ 166 ∷ 30 ∷ 104 ∷ 105 ∷ []

abbrev error_inner_over_six : List ℕ
error_inner_over_six =
    4 ∷ 208 ∷ 0 ∷ 53 ∷ 0 ∷ 10 ∷ 5 ∷ 119 ∷ 104 ∷ 105 ∷ []

abbrev error_embedded : Inner4
error_embedded =
    record {
      head = record (head4 62 shared server 17 10) { id = 3 };
      payload = error_inner;
      ports = (l4_of Udp error_inner).ports;
      proto = Udp;
    }

abbrev error_embedded_over_six : Inner6
error_embedded_over_six = record {
  head = head6 62 home6 server6 17 10 None;
  payload = error_inner_over_six;
  ports = (l4_of Udp error_inner_over_six).ports;
  proto = Udp;
}

abbrev error_message : Icmp4
error_message = record { kind = 11; code = 0; rest = 0; body = drop 8 error_payload }

abbrev error_message_over_six : Icmp6
error_message_over_six = record { kind = 3; code = 0; rest = 0; body = drop 8 error_payload_over_six }

abbrev pub error : Passed
error = record {
  taken = record {
    head = record (head4 250 router shared 1 38) { id = 9 };
    content = Error4 error_message (row 11 0 3 0 Zero) error_embedded;
  };
  octets =
      69 ∷ 0 ∷ 0 ∷ 58 ∷ 0 ∷ 9 ∷ 0 ∷ 0 ∷ 250 ∷ 1 ∷ 212 ∷ 106 ∷ 198 ∷ 51 ∷ 100 ∷ 9 ∷ 192 ∷ 0 ∷ 2 ∷ 18 ∷ 11 ∷ 0 ∷ 225 ∷ 104 ∷ 0 ∷ 0
      ∷ 0 ∷ 0 ∷ 69 ∷ 0 ∷ 0 ∷ 30 ∷ 0 ∷ 3 ∷ 0 ∷ 0 ∷ 62 ∷ 17 ∷ 144 ∷ 127 ∷ 192 ∷ 0 ∷ 2 ∷ 18 ∷ 198 ∷ 51 ∷ 100 ∷ 7 ∷ 4 ∷ 208 ∷ 0 ∷ 53
      ∷ 0 ∷ 10 ∷ 166 ∷ 30 ∷ 104 ∷ 105 ∷ [];
  passage = Sent (
      96 ∷ 0 ∷ 0 ∷ 0 ∷ 0 ∷ 58 ∷ 58 ∷ 249 ∷ 32 ∷ 1 ∷ 13 ∷ 184 ∷ 255 ∷ 255 ∷ 0 ∷ 0 ∷ 0 ∷ 198 ∷ 51 ∷ 100 ∷ 9 ∷ 0 ∷ 0 ∷ 0 ∷ 32 ∷ 1
      ∷ 13 ∷ 184 ∷ 0 ∷ 18 ∷ 52 ∷ 0 ∷ 0 ∷ 0 ∷ 192 ∷ 0 ∷ 2 ∷ 18 ∷ 0 ∷ 52 ∷ 3 ∷ 0 ∷ 252 ∷ 104 ∷ 0 ∷ 0 ∷ 0 ∷ 0 ∷ 96 ∷ 0 ∷ 0 ∷ 0 ∷ 0
      ∷ 10 ∷ 17 ∷ 62 ∷ 32 ∷ 1 ∷ 13 ∷ 184 ∷ 0 ∷ 18 ∷ 52 ∷ 0 ∷ 0 ∷ 0 ∷ 192 ∷ 0 ∷ 2 ∷ 18 ∷ 0 ∷ 52 ∷ 32 ∷ 1 ∷ 13 ∷ 184 ∷ 255 ∷ 255
      ∷ 0 ∷ 0 ∷ 0 ∷ 198 ∷ 51 ∷ 100 ∷ 7 ∷ 0 ∷ 0 ∷ 0 ∷ 4 ∷ 208 ∷ 0 ∷ 53 ∷ 0 ∷ 10 ∷ 5 ∷ 119 ∷ 104 ∷ 105 ∷ []);
  portion = uncut;
  six =
      96 ∷ 0 ∷ 0 ∷ 0 ∷ 0 ∷ 58 ∷ 58 ∷ 249 ∷ 32 ∷ 1 ∷ 13 ∷ 184 ∷ 255 ∷ 255 ∷ 0 ∷ 0 ∷ 0 ∷ 198 ∷ 51 ∷ 100 ∷ 9 ∷ 0 ∷ 0 ∷ 0 ∷ 32 ∷ 1
      ∷ 13 ∷ 184 ∷ 0 ∷ 18 ∷ 52 ∷ 0 ∷ 0 ∷ 0 ∷ 192 ∷ 0 ∷ 2 ∷ 18 ∷ 0 ∷ 52 ∷ 3 ∷ 0 ∷ 252 ∷ 104 ∷ 0 ∷ 0 ∷ 0 ∷ 0 ∷ 96 ∷ 0 ∷ 0 ∷ 0 ∷ 0
      ∷ 10 ∷ 17 ∷ 62 ∷ 32 ∷ 1 ∷ 13 ∷ 184 ∷ 0 ∷ 18 ∷ 52 ∷ 0 ∷ 0 ∷ 0 ∷ 192 ∷ 0 ∷ 2 ∷ 18 ∷ 0 ∷ 52 ∷ 32 ∷ 1 ∷ 13 ∷ 184 ∷ 255 ∷ 255
      ∷ 0 ∷ 0 ∷ 0 ∷ 198 ∷ 51 ∷ 100 ∷ 7 ∷ 0 ∷ 0 ∷ 0 ∷ 4 ∷ 208 ∷ 0 ∷ 53 ∷ 0 ∷ 10 ∷ 5 ∷ 119 ∷ 104 ∷ 105 ∷ [];
  read = record {
    head = head6 249 router6 home6 58 58 None;
    content = Error6 error_message_over_six (row 3 0 11 0 Zero) error_embedded_over_six;
  };
  four =
      69 ∷ 0 ∷ 0 ∷ 58 ∷ 0 ∷ 7 ∷ 0 ∷ 0 ∷ 248 ∷ 1 ∷ 214 ∷ 204 ∷ 198 ∷ 51 ∷ 100 ∷ 9 ∷ 192 ∷ 168 ∷ 1 ∷ 10 ∷ 11 ∷ 0 ∷ 225 ∷ 8 ∷ 0 ∷ 0
      ∷ 0 ∷ 0 ∷ 69 ∷ 0 ∷ 0 ∷ 30 ∷ 0 ∷ 0 ∷ 0 ∷ 0 ∷ 62 ∷ 17 ∷ 144 ∷ 226 ∷ 192 ∷ 168 ∷ 1 ∷ 10 ∷ 198 ∷ 51 ∷ 100 ∷ 7 ∷ 19 ∷ 136 ∷ 0
      ∷ 53 ∷ 0 ∷ 10 ∷ 151 ∷ 198 ∷ 104 ∷ 105 ∷ [];
}

error_answered : AnsweredIn (at_home []) router6 server6 (In host 5000 router server [])
unfolding nat timed renewed at_time received remote behind frag rule_address source_of embedded extract_of
error_answered = record {
  fault = true;
  proto = Udp;
  port = 1232;
  dst = home6;
  far_port = 53;
  flags = 0;
  part = Whole;
  is = refl;
}

pub an_error : FromRelay setting (relay_in 7) (at_home []) (In host 5000 router server []) error
unfolding embedded chain_in
an_error = record {
  taken = taken4 error.taken.head error_payload error.taken.content refl refl (record {
    message = record {
      protocol = refl;
      whole = refl;
      message = record {
        stands = omega arith;
        kind = refl;
        code = refl;
        rest = refl;
        body = refl;
        right = refl;
      };
      found = refl;
    };
    error = record { found = refl; translated = λ none. let e : Zero ≡ Pointer = none.0 in cc; no_query = λ e. cc };
    embedded = inner4 error_embedded.head error_inner refl refl;
    answers = refl;
  });
  relay_is = relay_is 7;
  relay_fits = relay_fits;
  sent = record {
    ports = record { src = 1232; dst = 53 };
    flow = λ first. refl;
    own = home6;
    owned = home_is_the_owner;
    is = (omega arith, refl, omega arith);
  };
  emitted = refl;
  arrives = packet6 false error.read.head error_payload_over_six error.read.content refl refl (record {
    message = record {
      protocol = refl;
      whole = whole6 error.read.head refl refl;
      message = record {
        stands = omega arith;
        kind = refl;
        code = refl;
        rest = refl;
        body = refl;
        right = refl;
      };
      found = refl;
    };
    error = record { found = refl; translated = λ none. let e : Zero ≡ Pointer = none.0 in cc; no_query = λ e. cc };
    embedded = inner6 error_embedded_over_six.head error_inner_over_six refl refl refl;
    answers = record { back = refl; from_end = λ relay. absurd (false≢true relay) };
  });
  answered = error_answered;
  rules = rules_are home bindings [];
  fits = omega arith;
  id = 7;
  numbered = λ none. refl;
  received = (omega arith, refl, omega arith);
}
