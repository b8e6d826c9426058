-- The premises of the laws of a packet in pieces, met by one of 1268 octets, which doesn't fit the access network and is cut in two.
use Rattle.std.proofs.Common.{◌≡◌, ℕ, true, false, List, [], ◌∷◌, Some, None, refl, arith, ◌*◌, ◌<◌, ◌≤◌, zero, suc, replicate, slice_get}
use Rattle.octets.specs.declared.parcel.Parcel.{Parcel}
use Rattle.octets.specs.declared.proto.Proto.TheVariants.{Udp}
use Rattle.l4_headers.specs.Transport.{l4_of}
use Rattle.map_rules.specs.Embedding.{embedded, extract_of}
use Rattle.map_rules.specs.Rule.{rule_address, ce6_of, source_of}
use Rattle.frag_table.specs.declared.key.FragKey.{FragKey}
use Rattle.frag_table.specs.declared.note.Note.{Note}
use Rattle.frag_table.specs.Frag.{frag}
use Rattle.nat_model.specs.declared.answer.Answer.{Answer}
use Rattle.nat_model.specs.declared.answer.Answer.TheVariants.{Out, In}
use Rattle.nat_model.specs.declared.ask.Part.TheVariants.{Whole, First, Later as LaterPart}
use Rattle.nat_model.specs.Claim.{bound}
use Rattle.nat_model.specs.Machine.{nat, timed, renewed, at_time, sent_flow, sent_error, received}
use Rattle.nat_model.specs.Remote.{sent, remote, behind}
use Rattle.packets.specs.declared.packet4.Content4.TheVariants.{Segment as Segment4}
use Rattle.packets.specs.declared.packet6.Content6.TheVariants.{Segment as Segment6, Later as Later6}
use Rattle.trace_text.specs.Answered.{AnsweredOut, AnsweredIn}
use Rattle.ip4_packet.specs.Written.{written4}
use Rattle.ip6_packet.specs.Written.{written6}
use Rattle.ip6_packet.specs.declared.head.Head6.{Head6}
use Rattle.packets.specs.declared.packet4.Packet4.{Packet4}
use Rattle.packets.specs.declared.packet6.Packet6.{Packet6}
use Rattle.packet_faults.specs.Cut.{AreCut, cut_for, piece}
use Rattle.crossing.specs.Nat44.{packet_from, packet_to}
use Rattle.crossing.specs.Pieces.{Arrived}
use Rattle.trace_text.specs.Pieces.{PassedInPieces, PiecesToRelay, PiecesFromRelay, PiecesBetweenEdges}
use Rattle.nat_model.specs.declared.binding.Binding.{Binding}
use Rattle.trace_text.proofs.SmallDomain.{binding, step_of, setting, relay, relay_in, relay_is, relay_fits, shared, host, other_host, server, home6, other6, server6, head4, head6, at_home, at_other, home, other, bindings, other_bindings, rules_are, home_is_a_source, server_is_a_destination, home_is_the_owner}
use Rattle.trace_text.proofs.Readable.{form6, taken4, packet6, udp4, udp6, later6}

-- the answer to a flow of the host to the server
abbrev pub goes_out : Answer
goes_out = Out shared 1232 home6 server6 []

-- ---- from an edge to the relay

abbrev out_payload : List ℕ
out_payload = 19 ∷ 136 ∷ 0 ∷ 53 ∷ 4 ∷ 224 ∷ 246 ∷ 131 ∷ replicate 1240 0

abbrev out_payload_over_six : List ℕ
out_payload_over_six = 4 ∷ 208 ∷ 0 ∷ 53 ∷ 4 ∷ 224 ∷ 100 ∷ 52 ∷ replicate 1240 0

abbrev out_first_payload : List ℕ
out_first_payload = 4 ∷ 208 ∷ 0 ∷ 53 ∷ 4 ∷ 224 ∷ 100 ∷ 52 ∷ replicate 1224 0

abbrev out_taken : Packet4
out_taken = record { head = record (head4 64 host server 17 1248) { id = 21 }; content = Segment4 Udp (l4_of Udp out_payload) }

abbrev out_head : Head6
out_head = head6 63 home6 server6 17 1248 None

abbrev out_first : Packet6
out_first = record {
  head = head6 63 home6 server6 17 1232 (Some (record { offset = 0; more = true; id = 21 }));
  content = Segment6 Udp (l4_of Udp out_first_payload);
}

abbrev out_second : Packet6
out_second = record { head = head6 63 home6 server6 17 16 (Some (record { offset = 154; more = false; id = 21 })); content = Later6 Udp }

abbrev pub out_pieces : List Parcel
out_pieces =
    record { place = 0; bytes = written6 out_first.head out_first_payload }
    ∷ record { place = 0; bytes = written6 out_second.head (replicate 16 0) }
    ∷ []

out_cut : AreCut (cut_for out_head out_payload_over_six 1280 21) out_pieces
out_cut = record { each = each; no_more = no_more }
  where
    each : (k : ℕ) → k * 1232 < 1248 → slice_get out_pieces k ≡ Some (piece (cut_for out_head out_payload_over_six 1280 21) (k * 1232))
    each zero inside = refl
    each (suc zero) inside = refl
    each (suc (suc k)) inside = absurd (omega arith)

    no_more : (k : ℕ) → 1248 ≤ k * 1232 → slice_get out_pieces k ≡ None
    no_more zero past = absurd (omega arith)
    no_more (suc zero) past = absurd (omega arith)
    no_more (suc (suc k)) past = refl

abbrev out_arrived_payload : List ℕ
out_arrived_payload = 4 ∷ 208 ∷ 0 ∷ 53 ∷ 4 ∷ 224 ∷ 4 ∷ 220 ∷ replicate 1224 0

abbrev out_sent_as : Packet4
out_sent_as = packet_from shared 1232 out_taken

abbrev out_arrived : List Arrived
out_arrived =
    record {
      replaced = out_sent_as;
      octets = written4 (record (head4 62 shared server 17 1232) {
        id = 21;
        mf = true;
      }) out_arrived_payload;
    }
    ∷ record {
      replaced = out_sent_as;
      octets = written4 (record (head4 62 shared server 17 16) {
        id = 21;
        offset = 154;
      }) (replicate 16 0);
    }
    ∷ []

abbrev pub out_passed : PassedInPieces
out_passed = record { taken = out_taken; octets = written4 out_taken.head out_payload; pieces = out_pieces; arrived = out_arrived }

out_answered : AnsweredOut (at_home []) server goes_out
unfolding nat timed renewed at_time sent_flow sent_error bound sent frag rule_address ce6_of embedded
out_answered = record {
  fault = false;
  proto = Udp;
  near = record { addr = host; port = 5000 };
  port = 53;
  flags = 0;
  part = Whole;
  is = refl;
}

pub pieces_to_the_relay : PiecesToRelay setting (record { step = at_home []; answer = goes_out }) out_sent_as out_passed
pieces_to_the_relay = record {
  taken = taken4 out_taken.head out_payload out_taken.content refl refl (udp4 out_taken.head out_payload refl);
  answered = out_answered;
  rules = rules_are home bindings [];
  fits = (omega arith, omega arith, omega arith);
  replaced = refl;
  sent = (
    omega arith,
    (
      written6 out_head out_payload_over_six,
      refl,
      omega arith,
      refl,
      (out_head, out_payload_over_six, form6 out_head out_payload_over_six refl refl, out_cut),
    ),
  );
  received = (
    record {
      relay = relay_in 7;
      relay_is = relay_is 7;
      read = out_first;
      arrives = packet6 true out_first.head out_first_payload out_first.content refl refl (udp6 out_first.head out_first_payload refl);
      received = record {
        ports = record { src = 1232; dst = 53 };
        flow = λ first. refl;
        src = shared;
        dst = server;
        source = home_is_a_source;
        destination = server_is_a_destination;
        is = (omega arith, refl, omega arith);
      };
      replaced = refl;
    },
    (
      record {
        relay = relay_in 8;
        relay_is = relay_is 8;
        read = out_second;
        arrives = packet6 true out_second.head (replicate 16 0) out_second.content refl refl (later6 out_second.head refl);
        received = record {
          ports = record { src = 1232; dst = 53 };
          flow = λ only. absurd (only Udp refl);
          src = shared;
          dst = server;
          source = home_is_a_source;
          destination = server_is_a_destination;
          is = (omega arith, refl, omega arith);
        };
        replaced = refl;
      },
      tt,
    ),
  );
}

-- ---- from the relay to an edge. Before the second piece comes, port 1232 is another host's.

abbrev new_bindings : List Binding
new_bindings = binding Udp other_host 5001 1232 ∷ []

abbrev in_payload : List ℕ
in_payload = 0 ∷ 53 ∷ 4 ∷ 208 ∷ 4 ∷ 224 ∷ 4 ∷ 220 ∷ replicate 1240 0

abbrev in_payload_over_six : List ℕ
in_payload_over_six = 0 ∷ 53 ∷ 4 ∷ 208 ∷ 4 ∷ 224 ∷ 100 ∷ 52 ∷ replicate 1240 0

abbrev in_first_payload : List ℕ
in_first_payload = 0 ∷ 53 ∷ 4 ∷ 208 ∷ 4 ∷ 224 ∷ 100 ∷ 52 ∷ replicate 1224 0

abbrev in_taken : Packet4
in_taken = record { head = record (head4 60 server shared 17 1248) { id = 33 }; content = Segment4 Udp (l4_of Udp in_payload) }

abbrev in_head : Head6
in_head = head6 59 server6 home6 17 1248 None

abbrev in_first : Packet6
in_first = record {
  head = head6 59 server6 home6 17 1232 (Some (record { offset = 0; more = true; id = 33 }));
  content = Segment6 Udp (l4_of Udp in_first_payload);
}

abbrev in_second : Packet6
in_second = record { head = head6 59 server6 home6 17 16 (Some (record { offset = 154; more = false; id = 33 })); content = Later6 Udp }

abbrev pub in_pieces : List Parcel
in_pieces =
    record { place = 0; bytes = written6 in_first.head in_first_payload }
    ∷ record { place = 0; bytes = written6 in_second.head (replicate 16 0) }
    ∷ []

in_cut : AreCut (cut_for in_head in_payload_over_six 1280 33) in_pieces
in_cut = record { each = each; no_more = no_more }
  where
    each : (k : ℕ) → k * 1232 < 1248 → slice_get in_pieces k ≡ Some (piece (cut_for in_head in_payload_over_six 1280 33) (k * 1232))
    each zero inside = refl
    each (suc zero) inside = refl
    each (suc (suc k)) inside = absurd (omega arith)

    no_more : (k : ℕ) → 1248 ≤ k * 1232 → slice_get in_pieces k ≡ None
    no_more zero past = absurd (omega arith)
    no_more (suc zero) past = absurd (omega arith)
    no_more (suc (suc k)) past = refl

abbrev in_arrived_payload : List ℕ
in_arrived_payload = 0 ∷ 53 ∷ 19 ∷ 136 ∷ 4 ∷ 224 ∷ 246 ∷ 131 ∷ replicate 1224 0

abbrev in_arrived : List Arrived
in_arrived =
    record {
      replaced = packet_to host 5000 in_taken;
      octets = written4 (record (head4 58 server host 17 1232) {
        id = 33;
        mf = true;
      }) in_arrived_payload;
    }
    ∷ record {
      replaced = packet_to other_host 5001 in_taken;
      octets = written4 (record (head4 58 server other_host 17 16) {
        id = 33;
        offset = 154;
      }) (replicate 16 0);
    }
    ∷ []

abbrev pub in_passed : PassedInPieces
in_passed = record { taken = in_taken; octets = written4 in_taken.head in_payload; pieces = in_pieces; arrived = in_arrived }

abbrev in_key : FragKey
in_key = record { way = 1; src = server6.0; dst = home6.0; proto = 17; id = 33 }

abbrev in_noted : List Note
in_noted = record { key = in_key; deadline = 200; ports = Some (record { src = 53; dst = 1232 }); held = [] } ∷ []

first_comes : AnsweredIn (at_home []) server6 server6 (In host 5000 server server [])
unfolding nat timed renewed at_time received remote behind frag rule_address source_of embedded extract_of
first_comes = record {
  fault = false;
  proto = Udp;
  port = 1232;
  dst = home6;
  far_port = 53;
  flags = 0;
  part = First in_key;
  is = refl;
}

second_comes : AnsweredIn (step_of home new_bindings in_noted) server6 server6 (In other_host 5001 server server [])
unfolding nat timed renewed at_time received remote behind frag rule_address source_of embedded extract_of
second_comes = record {
  fault = false;
  proto = Udp;
  port = 0;
  dst = home6;
  far_port = 0;
  flags = 0;
  part = LaterPart in_key (written6 in_second.head (replicate 16 0));
  is = refl;
}

pub pieces_from_the_relay : PiecesFromRelay setting relay in_passed
unfolding embedded
pieces_from_the_relay = record {
  taken = taken4 in_taken.head in_payload in_taken.content refl refl (udp4 in_taken.head in_payload refl);
  relay_is = relay_is 7;
  relay_fits = relay_fits;
  sent = record {
    ports = record { src = 53; dst = 1232 };
    flow = λ first. refl;
    own = home6;
    owned = home_is_the_owner;
    is = (
      omega arith,
      (
        written6 in_head in_payload_over_six,
        refl,
        omega arith,
        refl,
        (in_head, in_payload_over_six, form6 in_head in_payload_over_six refl refl, in_cut),
      ),
    );
  };
  received = (
    record {
      edge = record { step = at_home []; answer = In host 5000 server server [] };
      rules = rules_are home bindings [];
      fits = omega arith;
      read = in_first;
      arrives = packet6 false in_first.head in_first_payload in_first.content refl refl (udp6 in_first.head in_first_payload refl);
      answered = first_comes;
      id = 7;
      received = (omega arith, refl, omega arith);
      replaced = refl;
    },
    (
      record {
        edge = record { step = step_of home new_bindings in_noted; answer = In other_host 5001 server server [] };
        rules = rules_are home new_bindings in_noted;
        fits = omega arith;
        read = in_second;
        arrives = packet6 false in_second.head (replicate 16 0) in_second.content refl refl (later6 in_second.head refl);
        answered = second_comes;
        id = 8;
        received = (omega arith, refl, omega arith);
        replaced = refl;
      },
      tt,
    ),
  );
}

-- ---- from an edge to an edge

abbrev over_payload : List ℕ
over_payload = 19 ∷ 136 ∷ 4 ∷ 212 ∷ 4 ∷ 224 ∷ 90 ∷ 13 ∷ replicate 1240 0

abbrev over_payload_over_six : List ℕ
over_payload_over_six = 4 ∷ 208 ∷ 4 ∷ 212 ∷ 4 ∷ 224 ∷ 163 ∷ 101 ∷ replicate 1240 0

abbrev over_first_payload : List ℕ
over_first_payload = 4 ∷ 208 ∷ 4 ∷ 212 ∷ 4 ∷ 224 ∷ 163 ∷ 101 ∷ replicate 1224 0

abbrev over_taken : Packet4
over_taken = record { head = record (head4 64 host shared 17 1248) { id = 21 }; content = Segment4 Udp (l4_of Udp over_payload) }

abbrev over_head : Head6
over_head = head6 63 home6 other6 17 1248 None

abbrev over_first : Packet6
over_first = record {
  head = head6 63 home6 other6 17 1232 (Some (record { offset = 0; more = true; id = 21 }));
  content = Segment6 Udp (l4_of Udp over_first_payload);
}

abbrev over_second : Packet6
over_second = record { head = head6 63 home6 other6 17 16 (Some (record { offset = 154; more = false; id = 21 })); content = Later6 Udp }

abbrev over_pieces : List Parcel
over_pieces =
    record { place = 0; bytes = written6 over_first.head over_first_payload }
    ∷ record { place = 0; bytes = written6 over_second.head (replicate 16 0) }
    ∷ []

over_cut : AreCut (cut_for over_head over_payload_over_six 1280 21) over_pieces
over_cut = record { each = each; no_more = no_more }
  where
    each : (k : ℕ) → k * 1232 < 1248 → slice_get over_pieces k ≡ Some (piece (cut_for over_head over_payload_over_six 1280 21) (k * 1232))
    each zero inside = refl
    each (suc zero) inside = refl
    each (suc (suc k)) inside = absurd (omega arith)

    no_more : (k : ℕ) → 1248 ≤ k * 1232 → slice_get over_pieces k ≡ None
    no_more zero past = absurd (omega arith)
    no_more (suc zero) past = absurd (omega arith)
    no_more (suc (suc k)) past = refl

abbrev over_arrived_payload : List ℕ
over_arrived_payload = 4 ∷ 208 ∷ 31 ∷ 144 ∷ 4 ∷ 224 ∷ 77 ∷ 255 ∷ replicate 1224 0

abbrev over_sent_as : Packet4
over_sent_as = packet_from shared 1232 over_taken

abbrev over_arrived : List Arrived
over_arrived =
    record {
      replaced = packet_to other_host 8080 over_sent_as;
      octets = written4 (record (head4 62 shared other_host 17 1232) {
        id = 21;
        mf = true;
      }) over_arrived_payload;
    }
    ∷ record {
      replaced = packet_to other_host 8080 over_sent_as;
      octets = written4 (record (head4 62 shared other_host 17 16) {
        id = 21;
        offset = 154;
      }) (replicate 16 0);
    }
    ∷ []

abbrev over_passed : PassedInPieces
over_passed = record { taken = over_taken; octets = written4 over_taken.head over_payload; pieces = over_pieces; arrived = over_arrived }

abbrev over_key : FragKey
over_key = record { way = 1; src = home6.0; dst = other6.0; proto = 17; id = 21 }

abbrev over_noted : List Note
over_noted = record { key = over_key; deadline = 200; ports = Some (record { src = 1232; dst = 1236 }); held = [] } ∷ []

over_goes : AnsweredOut (at_home []) shared (Out shared 1232 home6 other6 [])
unfolding nat timed renewed at_time sent_flow sent_error bound sent frag rule_address ce6_of embedded
over_goes = record {
  fault = false;
  proto = Udp;
  near = record { addr = host; port = 5000 };
  port = 1236;
  flags = 0;
  part = Whole;
  is = refl;
}

first_comes_over : AnsweredIn (at_other []) home6 home6 (In other_host 8080 shared shared [])
unfolding nat timed renewed at_time received remote behind frag rule_address source_of embedded extract_of
first_comes_over = record {
  fault = false;
  proto = Udp;
  port = 1236;
  dst = other6;
  far_port = 1232;
  flags = 0;
  part = First over_key;
  is = refl;
}

second_comes_over : AnsweredIn (at_other over_noted) home6 home6 (In other_host 8080 shared shared [])
unfolding nat timed renewed at_time received remote behind frag rule_address source_of embedded extract_of
second_comes_over = record {
  fault = false;
  proto = Udp;
  port = 0;
  dst = other6;
  far_port = 0;
  flags = 0;
  part = LaterPart over_key (written6 over_second.head (replicate 16 0));
  is = refl;
}

pub pieces_between_edges : PiecesBetweenEdges setting (record {
  step = at_home [];
  answer = Out shared 1232 home6 other6 [];
}) over_sent_as over_passed
pieces_between_edges = record {
  taken = taken4 over_taken.head over_payload over_taken.content refl refl (udp4 over_taken.head over_payload refl);
  answered = over_goes;
  rules = rules_are home bindings [];
  fits = (omega arith, omega arith, omega arith);
  replaced = refl;
  sent = (
    omega arith,
    (
      written6 over_head over_payload_over_six,
      refl,
      omega arith,
      refl,
      (over_head, over_payload_over_six, form6 over_head over_payload_over_six refl refl, over_cut),
    ),
  );
  received = (
    record {
      edge = record { step = at_other []; answer = In other_host 8080 shared shared [] };
      rules = rules_are other other_bindings [];
      fits = omega arith;
      read = over_first;
      arrives = packet6 false over_first.head over_first_payload over_first.content refl refl
          (udp6 over_first.head over_first_payload refl);
      answered = first_comes_over;
      id = 7;
      received = (omega arith, refl, omega arith);
      replaced = refl;
    },
    (
      record {
        edge = record { step = at_other over_noted; answer = In other_host 8080 shared shared [] };
        rules = rules_are other other_bindings over_noted;
        fits = omega arith;
        read = over_second;
        arrives = packet6 false over_second.head (replicate 16 0) over_second.content refl refl (later6 over_second.head refl);
        answered = second_comes_over;
        id = 8;
        received = (omega arith, refl, omega arith);
        replaced = refl;
      },
      tt,
    ),
  );
}
