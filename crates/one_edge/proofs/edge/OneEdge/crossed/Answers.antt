use Rattle.std.proofs.Common.{◌≡◌, ℕ, ◌%◌, ◌^◌, List, length, Some, ap, sym, subst, ◌∙◌, refl, arith, true}
use Rattle.std.specs.Prelude.{Bool, not}
use Rattle.ip6_packet.specs.declared.head.Head6.{Head6}
use Rattle.ip6_packet.specs.Fragment.{fragment_offset, more_fragments}
use Rattle.ip6_packet.specs.Grammar.{payload_of6}
use Rattle.l4_headers.specs.Transport.{IsBadTransport}
use Rattle.xlat46.specs.Whole.{packet46}
use Rattle.one_edge.specs.Edge.{edge_in}
use Rattle.one_edge.specs.Served.{parts_of}
use Rattle.one_edge.proofs.Ways.{Made, fits_of, out_of, carries_by, crossed_by, access_short, payload_short, shorter}
use Rattle.one_edge.proofs.edge.OneEdge.crossed.Goals as goal

pub whole_segment-translated-requires : goal.whole_segment-translated-requires
whole_segment-translated-requires c =
    let e = edge_in c.args.self.now in
    let t = c.args.taken.now in
    let octets = c.args.octets.now in
    let access = c.in_ok-access.access in
    let carried = c.payload-carried.result.now in
    let head = c.head46-head.result in
    let own6 = c.own6-own6.result in
    let far6 = c.far6-far6.result in
    let ports = c.ports-ports.result in
    let inside = c.whole_segment-segment.ensures in
    let between = c.between-out.ensures in
    let out : access ≡ packet46 (parts_of t octets) own6 far6 (Some ports) =
    rw (inside.proto, inside.payload, inside.header, between.source, between.destination, between.ports, c.payload-inside.ensures) at c.in_ok-access.ensures in
    let reads : carried ≡ payload_of6 head access = c.payload-carried.ensures ∙ ap (λ (xs : List ℕ). payload_of6 head xs) c.as_slice.ensures in
    let made : Made e t head own6 far6 ports = record {
      translates = c.head46-head.ensures;
      source_is = c.own6-own6.ensures;
      far_is = c.far6-far6.ensures;
      ports_are = c.ports-ports.ensures;
      class_fits = omega arith;
      total_fits = omega arith;
      source_fits = omega arith;
      far_fits = omega arith;
      port_fits = omega arith;
      far_port_fits = omega arith;
      most4 = omega (arith, c.args.self.now.mtus.most4);
      most_six = omega (arith, c.args.self.now.mtus.most6);
    } in
    let carries = carries_by e t octets access carried head own6 far6 ports c.requires made out reads in
    let whole = c.requires.carried.whole in
    let first : fragment_offset head.frag ≡ 0 = ap (λ (h : Head6). fragment_offset h.frag) c.head46-head.ensures ∙ rw whole refl in
    let alone : not (more_fragments head.frag) ≡ true = ap (λ (h : Head6). not (more_fragments h.frag)) c.head46-head.ensures ∙ rw whole refl in
    λ bad. carries.0.transport first (subst (λ (b : Bool). IsBadTransport t.proto carried b) (sym alone) bad)

pub packet64-requires-clause-length_is : goal.packet64-requires-clause-length_is
packet64-requires-clause-length_is c =
    let e = edge_in c.args.self.now in
    let t = c.args.taken.now in
    let octets = c.args.octets.now in
    let access = c.in_ok-access.access in
    let carried = c.payload-carried.result.now in
    let head = c.head46-head.result in
    let own6 = c.own6-own6.result in
    let far6 = c.far6-far6.result in
    let ports = c.ports-ports.result in
    let inside = c.whole_segment-segment.ensures in
    let between = c.between-out.ensures in
    let out : access ≡ packet46 (parts_of t octets) own6 far6 (Some ports) =
    rw (inside.proto, inside.payload, inside.header, between.source, between.destination, between.ports, c.payload-inside.ensures) at c.in_ok-access.ensures in
    let reads : carried ≡ payload_of6 head access = c.payload-carried.ensures ∙ ap (λ (xs : List ℕ). payload_of6 head xs) c.as_slice.ensures in
    let made : Made e t head own6 far6 ports = record {
      translates = c.head46-head.ensures;
      source_is = c.own6-own6.ensures;
      far_is = c.far6-far6.ensures;
      ports_are = c.ports-ports.ensures;
      class_fits = omega arith;
      total_fits = omega arith;
      source_fits = omega arith;
      far_fits = omega arith;
      port_fits = omega arith;
      far_port_fits = omega arith;
      most4 = omega (arith, c.args.self.now.mtus.most4);
      most_six = omega (arith, c.args.self.now.mtus.most6);
    } in
    let carries = carries_by e t octets access carried head own6 far6 ports c.requires made out reads in
    carries.1 ∙ ap (λ (xs : List ℕ). length xs) (sym c.whole_segment-translated.ensures.payload)

pub packet64-requires-clause-carried : goal.packet64-requires-clause-carried
packet64-requires-clause-carried c =
    let e = edge_in c.args.self.now in
    let t = c.args.taken.now in
    let octets = c.args.octets.now in
    let access = c.in_ok-access.access in
    let carried = c.payload-carried.result.now in
    let head = c.head46-head.result in
    let own6 = c.own6-own6.result in
    let far6 = c.far6-far6.result in
    let ports = c.ports-ports.result in
    let inside = c.whole_segment-segment.ensures in
    let between = c.between-out.ensures in
    let out : access ≡ packet46 (parts_of t octets) own6 far6 (Some ports) =
    rw (inside.proto, inside.payload, inside.header, between.source, between.destination, between.ports, c.payload-inside.ensures) at c.in_ok-access.ensures in
    let reads : carried ≡ payload_of6 head access = c.payload-carried.ensures ∙ ap (λ (xs : List ℕ). payload_of6 head xs) c.as_slice.ensures in
    let made : Made e t head own6 far6 ports = record {
      translates = c.head46-head.ensures;
      source_is = c.own6-own6.ensures;
      far_is = c.far6-far6.ensures;
      ports_are = c.ports-ports.ensures;
      class_fits = omega arith;
      total_fits = omega arith;
      source_fits = omega arith;
      far_fits = omega arith;
      port_fits = omega arith;
      far_port_fits = omega arith;
      most4 = omega (arith, c.args.self.now.mtus.most4);
      most_six = omega (arith, c.args.self.now.mtus.most6);
    } in
    let carries = carries_by e t octets access carried head own6 far6 ports c.requires made out reads in
    rw (c.whole_segment-translated.ensures.proto, c.whole_segment-translated.ensures.payload) carries.0

pub returns-clause-crossed : goal.returns-clause-crossed
returns-clause-crossed c =
    let e = edge_in c.args.self.now in
    let t = c.args.taken.now in
    let octets = c.args.octets.now in
    let access = c.in_ok-access.access in
    let carried = c.payload-carried.result.now in
    let head = c.head46-head.result in
    let own6 = c.own6-own6.result in
    let far6 = c.far6-far6.result in
    let ports = c.ports-ports.result in
    let inside = c.whole_segment-segment.ensures in
    let between = c.between-out.ensures in
    let out : access ≡ packet46 (parts_of t octets) own6 far6 (Some ports) =
    rw (inside.proto, inside.payload, inside.header, between.source, between.destination, between.ports, c.payload-inside.ensures) at c.in_ok-access.ensures in
    let reads : carried ≡ payload_of6 head access = c.payload-carried.ensures ∙ ap (λ (xs : List ℕ). payload_of6 head xs) c.as_slice.ensures in
    let made : Made e t head own6 far6 ports = record {
      translates = c.head46-head.ensures;
      source_is = c.own6-own6.ensures;
      far_is = c.far6-far6.ensures;
      ports_are = c.ports-ports.ensures;
      class_fits = omega arith;
      total_fits = omega arith;
      source_fits = omega arith;
      far_fits = omega arith;
      port_fits = omega arith;
      far_port_fits = omega arith;
      most4 = omega (arith, c.args.self.now.mtus.most4);
      most_six = omega (arith, c.args.self.now.mtus.most6);
    } in
    let carries = carries_by e t octets access carried head own6 far6 ports c.requires made out reads in
    let there = c.whole_segment-translated.ensures in
    let onward = c.between-onward.ensures in
    let core = rw (there.proto, there.payload, there.header, onward.source, onward.destination, onward.ports) at c.in_ok-core.ensures in
    crossed_by e t octets c.args.number (c.args.number % 2 ^ 16) access c.in_ok-core.core carried head own6 far6 c.own4.result ports c.requires made out reads c.own4.ensures refl core

pub returns-clause-short : goal.returns-clause-short
returns-clause-short c =
    let e = edge_in c.args.self.now in
    let t = c.args.taken.now in
    let octets = c.args.octets.now in
    let access = c.in_ok-access.access in
    let carried = c.payload-carried.result.now in
    let head = c.head46-head.result in
    let own6 = c.own6-own6.result in
    let far6 = c.far6-far6.result in
    let ports = c.ports-ports.result in
    let inside = c.whole_segment-segment.ensures in
    let between = c.between-out.ensures in
    let out : access ≡ packet46 (parts_of t octets) own6 far6 (Some ports) =
    rw (inside.proto, inside.payload, inside.header, between.source, between.destination, between.ports, c.payload-inside.ensures) at c.in_ok-access.ensures in
    let reads : carried ≡ payload_of6 head access = c.payload-carried.ensures ∙ ap (λ (xs : List ℕ). payload_of6 head xs) c.as_slice.ensures in
    let made : Made e t head own6 far6 ports = record {
      translates = c.head46-head.ensures;
      source_is = c.own6-own6.ensures;
      far_is = c.far6-far6.ensures;
      ports_are = c.ports-ports.ensures;
      class_fits = omega arith;
      total_fits = omega arith;
      source_fits = omega arith;
      far_fits = omega arith;
      port_fits = omega arith;
      far_port_fits = omega arith;
      most4 = omega (arith, c.args.self.now.mtus.most4);
      most_six = omega (arith, c.args.self.now.mtus.most6);
    } in
    let carries = carries_by e t octets access carried head own6 far6 ports c.requires made out reads in
    let there = c.whole_segment-translated.ensures in
    let onward = c.between-onward.ensures in
    let core = rw (there.proto, there.payload, there.header, onward.source, onward.destination, onward.ports) at c.in_ok-core.ensures in
    let short = access_short e t octets c.args.number access c.requires (fits_of e t head own6 far6 ports made) (out_of e t octets access head own6 far6 ports made out) in
    let whole = c.requires.carried.whole in
    let shorter_core = shorter e t octets carried c.in_ok-core.core head c.own4.result ports (c.args.number % 2 ^ 16) carries.0 (ap (λ (h : Head6). fragment_offset h.frag) c.head46-head.ensures ∙ rw whole refl) core in
    let within = payload_short e t octets c.args.number access carried head own6 far6 ports c.requires made out reads in
    (short, omega (arith, shorter_core, within))
