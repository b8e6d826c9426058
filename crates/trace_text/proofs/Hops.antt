-- What two hops send of one packet is a crossing.
use Rattle.std.proofs.Common.{ℕ, true, List, [], ◌∷◌, refl, subst}
use Rattle.octets.specs.declared.mtus.Mtus.{Mtus}
use Rattle.packets.specs.declared.packet6.Packet6.{Packet6}
use Rattle.packets.specs.Packet6.{IsPacket6}
use Rattle.relay_node.specs.Relay.{Relay}
use Rattle.rule_book.specs.Valid.{FitBook}
use Rattle.trace_text.specs.Hops.{AreOctets, IsEmitted}
use Rattle.trace_text.specs.Crossings.{Passed, Setting, IsNumbered, IsRelayOf, EdgeAnswer, HasCrossed, EdgeLetsOut, EdgeLetsIn}
use Rattle.trace_text.specs.Onward.{EdgeEmits, RelayEmits, EdgeDelivers, RelayDelivers}
use Rattle.trace_text.proofs.Directions.{to_relay, from_relay, edge_to_edge}

pub crossed_to_relay : (setting : Setting) (edge : EdgeAnswer) (relay : Relay) (octets six four : List ℕ) → AreOctets octets → EdgeLetsOut setting edge octets → EdgeEmits setting.mtus edge.answer octets six
    → IsRelayOf setting relay → ((q : Packet6) → IsPacket6 true q six → IsNumbered setting q relay.id) → RelayDelivers relay six four → HasCrossed setting (edge.answer ∷ []) octets four
crossed_to_relay setting edge relay octets six four are lets emits relay_is numbered delivers =
    let c : Passed = record { taken = emits.taken; octets = octets; passage = emits.passage; portion = emits.portion; six = six; read = delivers.read; four = four } in
    record {
      passed = c;
      taken = refl;
      sent = refl;
      is_step = to_relay setting edge.step edge.answer relay c (record {
        taken = record { is = emits.is; are = are };
        answered = lets.answered emits.taken emits.is;
        rules = lets.rules;
        fits = lets.fits;
        sent = emits.sent;
        emitted = emits.emitted;
        arrives = delivers.arrives;
        relay_is = relay_is;
        numbered = numbered delivers.read delivers.arrives;
        received = delivers.received;
      });
    }

pub crossed_from_relay : (setting : Setting) (relay : Relay) (edge : EdgeAnswer) (id : ℕ) (octets six four : List ℕ) → AreOctets octets → IsRelayOf setting relay → FitBook relay.rules relay.dmr → RelayEmits relay octets six
    → EdgeLetsIn setting edge id six → EdgeDelivers (record { mtus = setting.mtus; id = id }) edge.answer six four → HasCrossed setting (edge.answer ∷ []) octets four
crossed_from_relay setting relay edge id octets six four are relay_is fit emits lets delivers =
    let c : Passed = record { taken = emits.taken; octets = octets; passage = emits.passage; portion = emits.portion; six = six; read = delivers.read; four = four } in
    record {
      passed = c;
      taken = refl;
      sent = refl;
      is_step = from_relay setting relay edge.step edge.answer c (record {
        taken = record { is = emits.is; are = are };
        relay_is = relay_is;
        relay_fits = fit;
        sent = emits.sent;
        emitted = subst (λ (m : Mtus). IsEmitted m emits.passage emits.portion six) relay_is.mtus emits.emitted;
        arrives = delivers.arrives;
        answered = lets.answered delivers.read delivers.arrives;
        rules = lets.rules;
        fits = lets.fits;
        id = id;
        numbered = lets.numbered delivers.read delivers.arrives;
        received = delivers.received;
      });
    }

pub crossed_between_edges : (setting : Setting) (one other : EdgeAnswer) (id : ℕ) (octets six four : List ℕ) → AreOctets octets → EdgeLetsOut setting one octets → EdgeEmits setting.mtus one.answer octets six
    → EdgeLetsIn setting other id six → EdgeDelivers (record { mtus = setting.mtus; id = id }) other.answer six four → HasCrossed setting (one.answer ∷ other.answer ∷ []) octets four
crossed_between_edges setting one other id octets six four are lets emits takes delivers =
    let c : Passed = record { taken = emits.taken; octets = octets; passage = emits.passage; portion = emits.portion; six = six; read = delivers.read; four = four } in
    record {
      passed = c;
      taken = refl;
      sent = refl;
      is_step = edge_to_edge setting one other c (record {
        taken = record { is = emits.is; are = are };
        out = lets.answered emits.taken emits.is;
        rules_out = lets.rules;
        fits_out = lets.fits;
        sent = emits.sent;
        emitted = emits.emitted;
        arrives = delivers.arrives;
        inward = takes.answered delivers.read delivers.arrives;
        rules_in = takes.rules;
        fits_in = takes.fits;
        id = id;
        numbered = takes.numbered delivers.read delivers.arrives;
        received = delivers.received;
      });
    }
