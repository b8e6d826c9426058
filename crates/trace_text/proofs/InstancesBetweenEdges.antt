-- The premises of the law of a packet between edges, met by packets in octets. The octets were computed apart from this program.
use Rattle.std.proofs.Common.{◌≡◌, ℕ, true, false, List, [], ◌∷◌, Some, None, refl, arith, drop}
use Rattle.packets.proofs.Spared6.{whole6}
use Rattle.ip6_packet.specs.Chain.{chain_in}
use Rattle.octets.specs.declared.parcel.Parcel.{Parcel}
use Rattle.octets.specs.declared.proto.Proto.TheVariants.{Udp}
use Rattle.l4_headers.specs.Transport.{l4_of}
use Rattle.map_rules.specs.Embedding.{embedded, extract_of}
use Rattle.map_rules.specs.Rule.{rule_address, ce6_of, source_of}
use Rattle.frag_table.specs.declared.key.FragKey.{FragKey}
use Rattle.frag_table.specs.declared.note.Note.{Note}
use Rattle.frag_table.specs.Frag.{frag}
use Rattle.icmp_messages.specs.declared.icmp4.Icmp4.{Icmp4}
use Rattle.icmp_messages.specs.declared.icmp6.Icmp6.{Icmp6}
use Rattle.icmp_messages.specs.Table.{row}
use Rattle.icmp_messages.specs.declared.table.Rest.TheVariants.{Zero, Pointer}
use Rattle.std.proofs.lemmas.Bool.{false≢true}
use Rattle.icmp_messages.specs.declared.inner4.Inner4.{Inner4}
use Rattle.icmp_messages.specs.declared.inner6.Inner6.{Inner6}
use Rattle.nat_model.specs.declared.answer.Answer.{Answer}
use Rattle.nat_model.specs.declared.answer.Answer.TheVariants.{Out, In}
use Rattle.nat_model.specs.declared.ask.Part.TheVariants.{Whole, First}
use Rattle.nat_model.specs.Claim.{bound}
use Rattle.nat_model.specs.Machine.{nat, timed, renewed, at_time, sent_flow, sent_error, received}
use Rattle.nat_model.specs.Remote.{sent, remote, behind}
use Rattle.packets.specs.declared.packet4.Content4.TheVariants.{Segment as Segment4, Later as Later4, Error as Error4}
use Rattle.packets.specs.declared.packet6.Content6.TheVariants.{Segment as Segment6, Later as Later6, Error as Error6}
use Rattle.transit.specs.declared.passage.Passage.TheVariants.{Sent}
use Rattle.crossing.specs.Named.{uncut}
use Rattle.trace_text.specs.Answered.{AnsweredOut, AnsweredIn}
use Rattle.trace_text.specs.Crossings.{Passed, EdgeToEdge}
use Rattle.trace_text.proofs.SmallDomain.{setting, shared, host, other_host, home6, other6, head4, head6, at_home, at_other, home, other, bindings, other_bindings, rules_are}
use Rattle.trace_text.proofs.Readable.{taken4, packet6, udp4, udp6, later4, later6, inner4, inner6}

-- the answers of both edges to a flow of the home's host to port 1236
abbrev goes_out : List Parcel → Answer
goes_out freed = Out shared 1232 home6 other6 freed

abbrev comes_in : List Parcel → Answer
comes_in freed = In other_host 8080 shared shared freed

-- ---- a whole packet

abbrev whole_payload : List ℕ
whole_payload =
    19 ∷ 136 ∷ 4 ∷ 212 ∷ 0 ∷ 10 ∷ 251 ∷ 79 ∷ 104 ∷ 105 ∷ []

abbrev whole_payload_over_six : List ℕ
whole_payload_over_six =
    4 ∷ 208 ∷ 4 ∷ 212 ∷ 0 ∷ 10 ∷ 68 ∷ 168 ∷ 104 ∷ 105 ∷ []

abbrev whole : Passed
whole = record {
  taken = record { head = record (head4 64 host shared 17 10) { id = 1 }; content = Segment4 Udp (l4_of Udp whole_payload) };
  octets =
      69 ∷ 0 ∷ 0 ∷ 30 ∷ 0 ∷ 1 ∷ 0 ∷ 0 ∷ 64 ∷ 17 ∷ 247 ∷ 9 ∷ 192 ∷ 168 ∷ 1 ∷ 10 ∷ 192 ∷ 0 ∷ 2 ∷ 18 ∷ 19 ∷ 136 ∷ 4 ∷ 212 ∷ 0 ∷ 10
      ∷ 251 ∷ 79 ∷ 104 ∷ 105 ∷ [];
  passage = Sent (
      96 ∷ 0 ∷ 0 ∷ 0 ∷ 0 ∷ 10 ∷ 17 ∷ 63 ∷ 32 ∷ 1 ∷ 13 ∷ 184 ∷ 0 ∷ 18 ∷ 52 ∷ 0 ∷ 0 ∷ 0 ∷ 192 ∷ 0 ∷ 2 ∷ 18 ∷ 0 ∷ 52 ∷ 32 ∷ 1 ∷ 13
      ∷ 184 ∷ 0 ∷ 18 ∷ 53 ∷ 0 ∷ 0 ∷ 0 ∷ 192 ∷ 0 ∷ 2 ∷ 18 ∷ 0 ∷ 53 ∷ 4 ∷ 208 ∷ 4 ∷ 212 ∷ 0 ∷ 10 ∷ 68 ∷ 168 ∷ 104 ∷ 105 ∷ []);
  portion = uncut;
  six =
      96 ∷ 0 ∷ 0 ∷ 0 ∷ 0 ∷ 10 ∷ 17 ∷ 63 ∷ 32 ∷ 1 ∷ 13 ∷ 184 ∷ 0 ∷ 18 ∷ 52 ∷ 0 ∷ 0 ∷ 0 ∷ 192 ∷ 0 ∷ 2 ∷ 18 ∷ 0 ∷ 52 ∷ 32 ∷ 1 ∷ 13
      ∷ 184 ∷ 0 ∷ 18 ∷ 53 ∷ 0 ∷ 0 ∷ 0 ∷ 192 ∷ 0 ∷ 2 ∷ 18 ∷ 0 ∷ 53 ∷ 4 ∷ 208 ∷ 4 ∷ 212 ∷ 0 ∷ 10 ∷ 68 ∷ 168 ∷ 104 ∷ 105 ∷ [];
  read = record { head = head6 63 home6 other6 17 10 None; content = Segment6 Udp (l4_of Udp whole_payload_over_six) };
  four =
      69 ∷ 0 ∷ 0 ∷ 30 ∷ 0 ∷ 7 ∷ 0 ∷ 0 ∷ 62 ∷ 17 ∷ 248 ∷ 249 ∷ 192 ∷ 0 ∷ 2 ∷ 18 ∷ 192 ∷ 168 ∷ 1 ∷ 20 ∷ 4 ∷ 208 ∷ 31 ∷ 144 ∷ 0
      ∷ 10 ∷ 239 ∷ 65 ∷ 104 ∷ 105 ∷ [];
}

whole_goes : AnsweredOut (at_home []) shared (goes_out [])
unfolding nat timed renewed at_time sent_flow sent_error bound sent frag rule_address ce6_of embedded
whole_goes = record {
  fault = false;
  proto = Udp;
  near = record { addr = host; port = 5000 };
  port = 1236;
  flags = 0;
  part = Whole;
  is = refl;
}

whole_comes : AnsweredIn (at_other []) home6 home6 (comes_in [])
unfolding nat timed renewed at_time received remote behind frag rule_address source_of embedded extract_of
whole_comes = record {
  fault = false;
  proto = Udp;
  port = 1236;
  dst = other6;
  far_port = 1232;
  flags = 0;
  part = Whole;
  is = refl;
}

pub a_whole_packet : EdgeToEdge setting
    (record { step = at_home []; answer = goes_out [] })
    (record { step = at_other []; answer = comes_in [] }) whole
a_whole_packet = record {
  taken = taken4 whole.taken.head whole_payload whole.taken.content refl refl (udp4 whole.taken.head whole_payload refl);
  out = whole_goes;
  rules_out = rules_are home bindings [];
  fits_out = (omega arith, omega arith, omega arith);
  sent = (omega arith, refl, omega arith);
  emitted = refl;
  arrives = packet6 false whole.read.head whole_payload_over_six whole.read.content refl refl
      (udp6 whole.read.head whole_payload_over_six refl);
  inward = whole_comes;
  rules_in = rules_are other other_bindings [];
  fits_in = omega arith;
  id = 7;
  numbered = λ none. refl;
  received = (omega arith, refl, omega arith);
}

-- ---- a first fragment, and a later one that waited at both edges, where the first one frees it

abbrev first_payload : List ℕ
first_payload =
    19 ∷ 136 ∷ 4 ∷ 212 ∷ 0 ∷ 24 ∷ 32 ∷ 82 ∷ 97 ∷ 98 ∷ 99 ∷ 100 ∷ 101 ∷ 102 ∷ 103 ∷ 104 ∷ []

abbrev first_payload_over_six : List ℕ
first_payload_over_six =
    4 ∷ 208 ∷ 4 ∷ 212 ∷ 0 ∷ 24 ∷ 105 ∷ 170 ∷ 97 ∷ 98 ∷ 99 ∷ 100 ∷ 101 ∷ 102 ∷ 103 ∷ 104 ∷ []

abbrev first : Passed
first = record {
  taken = record { head = record (head4 64 host shared 17 16) { id = 21; mf = true }; content = Segment4 Udp (l4_of Udp first_payload) };
  octets =
      69 ∷ 0 ∷ 0 ∷ 36 ∷ 0 ∷ 21 ∷ 32 ∷ 0 ∷ 64 ∷ 17 ∷ 214 ∷ 239 ∷ 192 ∷ 168 ∷ 1 ∷ 10 ∷ 192 ∷ 0 ∷ 2 ∷ 18 ∷ 19 ∷ 136 ∷ 4 ∷ 212 ∷ 0
      ∷ 24 ∷ 32 ∷ 82 ∷ 97 ∷ 98 ∷ 99 ∷ 100 ∷ 101 ∷ 102 ∷ 103 ∷ 104 ∷ [];
  passage = Sent (
      96 ∷ 0 ∷ 0 ∷ 0 ∷ 0 ∷ 24 ∷ 44 ∷ 63 ∷ 32 ∷ 1 ∷ 13 ∷ 184 ∷ 0 ∷ 18 ∷ 52 ∷ 0 ∷ 0 ∷ 0 ∷ 192 ∷ 0 ∷ 2 ∷ 18 ∷ 0 ∷ 52 ∷ 32 ∷ 1 ∷ 13
      ∷ 184 ∷ 0 ∷ 18 ∷ 53 ∷ 0 ∷ 0 ∷ 0 ∷ 192 ∷ 0 ∷ 2 ∷ 18 ∷ 0 ∷ 53 ∷ 17 ∷ 0 ∷ 0 ∷ 1 ∷ 0 ∷ 0 ∷ 0 ∷ 21 ∷ 4 ∷ 208 ∷ 4 ∷ 212 ∷ 0 ∷ 24
      ∷ 105 ∷ 170 ∷ 97 ∷ 98 ∷ 99 ∷ 100 ∷ 101 ∷ 102 ∷ 103 ∷ 104 ∷ []);
  portion = uncut;
  six =
      96 ∷ 0 ∷ 0 ∷ 0 ∷ 0 ∷ 24 ∷ 44 ∷ 63 ∷ 32 ∷ 1 ∷ 13 ∷ 184 ∷ 0 ∷ 18 ∷ 52 ∷ 0 ∷ 0 ∷ 0 ∷ 192 ∷ 0 ∷ 2 ∷ 18 ∷ 0 ∷ 52 ∷ 32 ∷ 1 ∷ 13
      ∷ 184 ∷ 0 ∷ 18 ∷ 53 ∷ 0 ∷ 0 ∷ 0 ∷ 192 ∷ 0 ∷ 2 ∷ 18 ∷ 0 ∷ 53 ∷ 17 ∷ 0 ∷ 0 ∷ 1 ∷ 0 ∷ 0 ∷ 0 ∷ 21 ∷ 4 ∷ 208 ∷ 4 ∷ 212 ∷ 0 ∷ 24
      ∷ 105 ∷ 170 ∷ 97 ∷ 98 ∷ 99 ∷ 100 ∷ 101 ∷ 102 ∷ 103 ∷ 104 ∷ [];
  read = record {
    head = head6 63 home6 other6 17 16 (Some (record { offset = 0; more = true; id = 21 }));
    content = Segment6 Udp (l4_of Udp first_payload_over_six);
  };
  four =
      69 ∷ 0 ∷ 0 ∷ 36 ∷ 0 ∷ 21 ∷ 32 ∷ 0 ∷ 62 ∷ 17 ∷ 216 ∷ 229 ∷ 192 ∷ 0 ∷ 2 ∷ 18 ∷ 192 ∷ 168 ∷ 1 ∷ 20 ∷ 4 ∷ 208 ∷ 31 ∷ 144 ∷ 0
      ∷ 24 ∷ 20 ∷ 68 ∷ 97 ∷ 98 ∷ 99 ∷ 100 ∷ 101 ∷ 102 ∷ 103 ∷ 104 ∷ [];
}

abbrev later_payload : List ℕ
later_payload =
    105 ∷ 106 ∷ 107 ∷ 108 ∷ 109 ∷ 110 ∷ 111 ∷ 112 ∷ []

abbrev later : Passed
later = record {
  taken = record { head = record (head4 64 host shared 17 8) { id = 21; offset = 2 }; content = Later4 Udp };
  octets =
      69 ∷ 0 ∷ 0 ∷ 28 ∷ 0 ∷ 21 ∷ 0 ∷ 2 ∷ 64 ∷ 17 ∷ 246 ∷ 245 ∷ 192 ∷ 168 ∷ 1 ∷ 10 ∷ 192 ∷ 0 ∷ 2 ∷ 18 ∷ 105 ∷ 106 ∷ 107 ∷ 108
      ∷ 109 ∷ 110 ∷ 111 ∷ 112 ∷ [];
  passage = Sent (
      96 ∷ 0 ∷ 0 ∷ 0 ∷ 0 ∷ 16 ∷ 44 ∷ 63 ∷ 32 ∷ 1 ∷ 13 ∷ 184 ∷ 0 ∷ 18 ∷ 52 ∷ 0 ∷ 0 ∷ 0 ∷ 192 ∷ 0 ∷ 2 ∷ 18 ∷ 0 ∷ 52 ∷ 32 ∷ 1 ∷ 13
      ∷ 184 ∷ 0 ∷ 18 ∷ 53 ∷ 0 ∷ 0 ∷ 0 ∷ 192 ∷ 0 ∷ 2 ∷ 18 ∷ 0 ∷ 53 ∷ 17 ∷ 0 ∷ 0 ∷ 16 ∷ 0 ∷ 0 ∷ 0 ∷ 21 ∷ 105 ∷ 106 ∷ 107 ∷ 108
      ∷ 109 ∷ 110 ∷ 111 ∷ 112 ∷ []);
  portion = uncut;
  six =
      96 ∷ 0 ∷ 0 ∷ 0 ∷ 0 ∷ 16 ∷ 44 ∷ 63 ∷ 32 ∷ 1 ∷ 13 ∷ 184 ∷ 0 ∷ 18 ∷ 52 ∷ 0 ∷ 0 ∷ 0 ∷ 192 ∷ 0 ∷ 2 ∷ 18 ∷ 0 ∷ 52 ∷ 32 ∷ 1 ∷ 13
      ∷ 184 ∷ 0 ∷ 18 ∷ 53 ∷ 0 ∷ 0 ∷ 0 ∷ 192 ∷ 0 ∷ 2 ∷ 18 ∷ 0 ∷ 53 ∷ 17 ∷ 0 ∷ 0 ∷ 16 ∷ 0 ∷ 0 ∷ 0 ∷ 21 ∷ 105 ∷ 106 ∷ 107 ∷ 108
      ∷ 109 ∷ 110 ∷ 111 ∷ 112 ∷ [];
  read = record { head = head6 63 home6 other6 17 8 (Some (record { offset = 2; more = false; id = 21 })); content = Later6 Udp };
  four =
      69 ∷ 0 ∷ 0 ∷ 28 ∷ 0 ∷ 21 ∷ 0 ∷ 2 ∷ 62 ∷ 17 ∷ 248 ∷ 235 ∷ 192 ∷ 0 ∷ 2 ∷ 18 ∷ 192 ∷ 168 ∷ 1 ∷ 20 ∷ 105 ∷ 106 ∷ 107 ∷ 108
      ∷ 109 ∷ 110 ∷ 111 ∷ 112 ∷ [];
}

abbrev key : FragKey
key = record { way = 0; src = host.0; dst = shared.0; proto = 17; id = 21 }

abbrev key_over_six : FragKey
key_over_six = record { way = 1; src = home6.0; dst = other6.0; proto = 17; id = 21 }

abbrev parcel : Parcel
parcel = record { place = 2; bytes = later.octets }

abbrev parcel_over_six : Parcel
parcel_over_six = record { place = 2; bytes = later.six }

abbrev waiting : List Note
waiting = record { key = key; deadline = 200; ports = None; held = parcel ∷ [] } ∷ []

abbrev waiting_over_six : List Note
waiting_over_six = record { key = key_over_six; deadline = 200; ports = None; held = parcel_over_six ∷ [] } ∷ []

first_goes : AnsweredOut (at_home waiting) shared (goes_out (parcel ∷ []))
unfolding nat timed renewed at_time sent_flow sent_error bound sent frag rule_address ce6_of embedded
first_goes = record {
  fault = false;
  proto = Udp;
  near = record { addr = host; port = 5000 };
  port = 1236;
  flags = 0;
  part = First key;
  is = refl;
}

first_comes : AnsweredIn (at_other waiting_over_six) home6 home6 (comes_in (parcel_over_six ∷ []))
unfolding nat timed renewed at_time received remote behind frag rule_address source_of embedded extract_of
first_comes = record {
  fault = false;
  proto = Udp;
  port = 1236;
  dst = other6;
  far_port = 1232;
  flags = 0;
  part = First key_over_six;
  is = refl;
}

pub a_first_fragment : EdgeToEdge setting
    (record { step = at_home waiting; answer = goes_out (parcel ∷ []) })
    (record { step = at_other waiting_over_six; answer = comes_in (parcel_over_six ∷ []) }) first
a_first_fragment = record {
  taken = taken4 first.taken.head first_payload first.taken.content refl refl (udp4 first.taken.head first_payload refl);
  out = first_goes;
  rules_out = rules_are home bindings waiting;
  fits_out = (omega arith, omega arith, omega arith);
  sent = (omega arith, refl, omega arith);
  emitted = refl;
  arrives = packet6 false first.read.head first_payload_over_six first.read.content refl refl
      (udp6 first.read.head first_payload_over_six refl);
  inward = first_comes;
  rules_in = rules_are other other_bindings waiting_over_six;
  fits_in = omega arith;
  id = 7;
  numbered = λ none. absurd cc;
  received = (omega arith, refl, omega arith);
}

pub a_later_fragment_that_is_freed : EdgeToEdge setting
    (record { step = at_home waiting; answer = goes_out (parcel ∷ []) })
    (record { step = at_other waiting_over_six; answer = comes_in (parcel_over_six ∷ []) }) later
a_later_fragment_that_is_freed = record {
  taken = taken4 later.taken.head later_payload later.taken.content refl refl (later4 later.taken.head refl);
  out = first_goes;
  rules_out = rules_are home bindings waiting;
  fits_out = (omega arith, omega arith, omega arith);
  sent = (omega arith, refl, omega arith);
  emitted = refl;
  arrives = packet6 false later.read.head later_payload later.read.content refl refl (later6 later.read.head refl);
  inward = first_comes;
  rules_in = rules_are other other_bindings waiting_over_six;
  fits_in = omega arith;
  id = 8;
  numbered = λ none. absurd cc;
  received = (omega arith, refl, omega arith);
}

-- ---- an ICMP error of the other edge's host about a packet of the home's: no such port

abbrev error_payload : List ℕ
error_payload =
    3 ∷ 3 ∷ 128 ∷ 231 ∷ 0 ∷ 0 ∷ 0 ∷ 0 ∷ 69 ∷ 0 ∷ 0 ∷ 30 ∷ 0 ∷ 9 ∷ 0 ∷ 0 ∷ 62 ∷ 17 ∷ 248 ∷ 247 ∷ 192 ∷ 0 ∷ 2 ∷ 18 ∷ 192 ∷ 168 ∷ 1
    ∷ 20 ∷ 4 ∷ 208 ∷ 31 ∷ 144 ∷ 0 ∷ 10 ∷ 239 ∷ 65 ∷ 104 ∷ 105 ∷ []

abbrev error_payload_over_six : List ℕ
error_payload_over_six =
    1 ∷ 4 ∷ 68 ∷ 53 ∷ 0 ∷ 0 ∷ 0 ∷ 0 ∷ 96 ∷ 0 ∷ 0 ∷ 0 ∷ 0 ∷ 10 ∷ 17 ∷ 62 ∷ 32 ∷ 1 ∷ 13 ∷ 184 ∷ 0 ∷ 18 ∷ 52 ∷ 0 ∷ 0 ∷ 0 ∷ 192 ∷ 0
    ∷ 2 ∷ 18 ∷ 0 ∷ 52 ∷ 32 ∷ 1 ∷ 13 ∷ 184 ∷ 0 ∷ 18 ∷ 53 ∷ 0 ∷ 0 ∷ 0 ∷ 192 ∷ 0 ∷ 2 ∷ 18 ∷ 0 ∷ 53 ∷ 4 ∷ 208 ∷ 4 ∷ 212 ∷ 0 ∷ 10
    ∷ 68 ∷ 168 ∷ 104 ∷ 105 ∷ []

abbrev error_inner : List ℕ
error_inner =
    4 ∷ 208 ∷ 31 ∷ 144 ∷ 0 ∷ 10 ∷ 239 ∷ 65 ∷ 104 ∷ 105 ∷ []

abbrev error_inner_over_six : List ℕ
error_inner_over_six =
    4 ∷ 208 ∷ 4 ∷ 212 ∷ 0 ∷ 10 ∷ 68 ∷ 168 ∷ 104 ∷ 105 ∷ []

abbrev error_embedded : Inner4
error_embedded =
    record {
      head = record (head4 62 shared other_host 17 10) { id = 9 };
      payload = error_inner;
      ports = (l4_of Udp error_inner).ports;
      proto = Udp;
    }

abbrev error_embedded_over_six : Inner6
error_embedded_over_six = record {
  head = head6 62 home6 other6 17 10 None;
  payload = error_inner_over_six;
  ports = (l4_of Udp error_inner_over_six).ports;
  proto = Udp;
}

abbrev error_message : Icmp4
error_message = record { kind = 3; code = 3; rest = 0; body = drop 8 error_payload }

abbrev error_message_over_six : Icmp6
error_message_over_six = record { kind = 1; code = 4; rest = 0; body = drop 8 error_payload_over_six }

abbrev error : Passed
error = record {
  taken = record {
    head = record (head4 64 other_host shared 1 38) { id = 1 };
    content = Error4 error_message (row 3 3 1 4 Zero) error_embedded;
  };
  octets =
      69 ∷ 0 ∷ 0 ∷ 58 ∷ 0 ∷ 1 ∷ 0 ∷ 0 ∷ 64 ∷ 1 ∷ 246 ∷ 243 ∷ 192 ∷ 168 ∷ 1 ∷ 20 ∷ 192 ∷ 0 ∷ 2 ∷ 18 ∷ 3 ∷ 3 ∷ 128 ∷ 231 ∷ 0 ∷ 0
      ∷ 0 ∷ 0 ∷ 69 ∷ 0 ∷ 0 ∷ 30 ∷ 0 ∷ 9 ∷ 0 ∷ 0 ∷ 62 ∷ 17 ∷ 248 ∷ 247 ∷ 192 ∷ 0 ∷ 2 ∷ 18 ∷ 192 ∷ 168 ∷ 1 ∷ 20 ∷ 4 ∷ 208 ∷ 31
      ∷ 144 ∷ 0 ∷ 10 ∷ 239 ∷ 65 ∷ 104 ∷ 105 ∷ [];
  passage = Sent (
      96 ∷ 0 ∷ 0 ∷ 0 ∷ 0 ∷ 58 ∷ 58 ∷ 63 ∷ 32 ∷ 1 ∷ 13 ∷ 184 ∷ 0 ∷ 18 ∷ 53 ∷ 0 ∷ 0 ∷ 0 ∷ 192 ∷ 0 ∷ 2 ∷ 18 ∷ 0 ∷ 53 ∷ 32 ∷ 1 ∷ 13
      ∷ 184 ∷ 0 ∷ 18 ∷ 52 ∷ 0 ∷ 0 ∷ 0 ∷ 192 ∷ 0 ∷ 2 ∷ 18 ∷ 0 ∷ 52 ∷ 1 ∷ 4 ∷ 68 ∷ 53 ∷ 0 ∷ 0 ∷ 0 ∷ 0 ∷ 96 ∷ 0 ∷ 0 ∷ 0 ∷ 0 ∷ 10
      ∷ 17 ∷ 62 ∷ 32 ∷ 1 ∷ 13 ∷ 184 ∷ 0 ∷ 18 ∷ 52 ∷ 0 ∷ 0 ∷ 0 ∷ 192 ∷ 0 ∷ 2 ∷ 18 ∷ 0 ∷ 52 ∷ 32 ∷ 1 ∷ 13 ∷ 184 ∷ 0 ∷ 18 ∷ 53 ∷ 0
      ∷ 0 ∷ 0 ∷ 192 ∷ 0 ∷ 2 ∷ 18 ∷ 0 ∷ 53 ∷ 4 ∷ 208 ∷ 4 ∷ 212 ∷ 0 ∷ 10 ∷ 68 ∷ 168 ∷ 104 ∷ 105 ∷ []);
  portion = uncut;
  six =
      96 ∷ 0 ∷ 0 ∷ 0 ∷ 0 ∷ 58 ∷ 58 ∷ 63 ∷ 32 ∷ 1 ∷ 13 ∷ 184 ∷ 0 ∷ 18 ∷ 53 ∷ 0 ∷ 0 ∷ 0 ∷ 192 ∷ 0 ∷ 2 ∷ 18 ∷ 0 ∷ 53 ∷ 32 ∷ 1 ∷ 13
      ∷ 184 ∷ 0 ∷ 18 ∷ 52 ∷ 0 ∷ 0 ∷ 0 ∷ 192 ∷ 0 ∷ 2 ∷ 18 ∷ 0 ∷ 52 ∷ 1 ∷ 4 ∷ 68 ∷ 53 ∷ 0 ∷ 0 ∷ 0 ∷ 0 ∷ 96 ∷ 0 ∷ 0 ∷ 0 ∷ 0 ∷ 10
      ∷ 17 ∷ 62 ∷ 32 ∷ 1 ∷ 13 ∷ 184 ∷ 0 ∷ 18 ∷ 52 ∷ 0 ∷ 0 ∷ 0 ∷ 192 ∷ 0 ∷ 2 ∷ 18 ∷ 0 ∷ 52 ∷ 32 ∷ 1 ∷ 13 ∷ 184 ∷ 0 ∷ 18 ∷ 53 ∷ 0
      ∷ 0 ∷ 0 ∷ 192 ∷ 0 ∷ 2 ∷ 18 ∷ 0 ∷ 53 ∷ 4 ∷ 208 ∷ 4 ∷ 212 ∷ 0 ∷ 10 ∷ 68 ∷ 168 ∷ 104 ∷ 105 ∷ [];
  read = record {
    head = head6 63 other6 home6 58 58 None;
    content = Error6 error_message_over_six (row 1 4 3 3 Zero) error_embedded_over_six;
  };
  four =
      69 ∷ 0 ∷ 0 ∷ 58 ∷ 0 ∷ 7 ∷ 0 ∷ 0 ∷ 62 ∷ 1 ∷ 248 ∷ 247 ∷ 192 ∷ 0 ∷ 2 ∷ 18 ∷ 192 ∷ 168 ∷ 1 ∷ 10 ∷ 3 ∷ 3 ∷ 128 ∷ 221 ∷ 0 ∷ 0
      ∷ 0 ∷ 0 ∷ 69 ∷ 0 ∷ 0 ∷ 30 ∷ 0 ∷ 0 ∷ 0 ∷ 0 ∷ 62 ∷ 17 ∷ 249 ∷ 10 ∷ 192 ∷ 168 ∷ 1 ∷ 10 ∷ 192 ∷ 0 ∷ 2 ∷ 18 ∷ 19 ∷ 136 ∷ 4
      ∷ 212 ∷ 0 ∷ 10 ∷ 251 ∷ 79 ∷ 104 ∷ 105 ∷ [];
}

error_goes : AnsweredOut (at_other []) shared (Out shared 1236 other6 home6 [])
unfolding nat timed renewed at_time sent_flow sent_error bound sent frag rule_address ce6_of embedded
error_goes = record {
  fault = true;
  proto = Udp;
  near = record { addr = other_host; port = 8080 };
  port = 1232;
  flags = 0;
  part = Whole;
  is = refl;
}

error_comes : AnsweredIn (at_home []) other6 other6 (In host 5000 shared shared [])
unfolding nat timed renewed at_time received remote behind frag rule_address source_of embedded extract_of
error_comes = record {
  fault = true;
  proto = Udp;
  port = 1232;
  dst = home6;
  far_port = 1236;
  flags = 0;
  part = Whole;
  is = refl;
}

pub an_error : EdgeToEdge setting
    (record { step = at_other []; answer = Out shared 1236 other6 home6 [] })
    (record { step = at_home []; answer = In host 5000 shared shared [] }) error
unfolding chain_in
an_error = record {
  taken = taken4 error.taken.head error_payload error.taken.content refl refl (record {
    message = record {
      protocol = refl;
      whole = refl;
      message = record {
        stands = omega arith;
        kind = refl;
        code = refl;
        rest = refl;
        body = refl;
        right = refl;
      };
      found = refl;
    };
    error = record { found = refl; translated = λ none. let e : Zero ≡ Pointer = none.0 in cc; no_query = λ e. cc };
    embedded = inner4 error_embedded.head error_inner refl refl;
    answers = refl;
  });
  out = error_goes;
  rules_out = rules_are other other_bindings [];
  fits_out = (omega arith, omega arith, omega arith);
  sent = (omega arith, refl, omega arith);
  emitted = refl;
  arrives = packet6 false error.read.head error_payload_over_six error.read.content refl refl (record {
    message = record {
      protocol = refl;
      whole = whole6 error.read.head refl refl;
      message = record {
        stands = omega arith;
        kind = refl;
        code = refl;
        rest = refl;
        body = refl;
        right = refl;
      };
      found = refl;
    };
    error = record { found = refl; translated = λ none. let e : Zero ≡ Pointer = none.0 in cc; no_query = λ e. cc };
    embedded = inner6 error_embedded_over_six.head error_inner_over_six refl refl refl;
    answers = record { back = refl; from_end = λ relay. absurd (false≢true relay) };
  });
  inward = error_comes;
  rules_in = rules_are home bindings [];
  fits_in = omega arith;
  id = 7;
  numbered = λ none. refl;
  received = (omega arith, refl, omega arith);
}
