use Rattle.std.proofs.Common.{◌≡◌, ◌+◌, ◌-◌, ◌*◌, ◌/◌, ◌<◌, ◌≤◌, ℕ, List, [], ◌∷◌, ◌++◌, length, sym, ap, ◌∙◌, arith, length-append}
use Rattle.octets.specs.declared.parcel.Parcel.{Parcel}
use Rattle.ip6_packet.specs.declared.head.Head6.{Head6}
use Rattle.ip6_packet.specs.Fragment.{fragment_offset}
use Rattle.ip6_packet.proofs.WrittenLemmas.{written_is6}
use Rattle.ip6_packet.proofs.EmbeddedLemmas.{lacks_none6, headers_of6}
use Rattle.packet_faults.specs.Cut.{Cutting, piece}
use Rattle.packet_faults.proofs.CutLemmas.{found, room, none_yet, one_more, all_cut, MayCut, give_again, each_fits}
use Rattle.packet_faults.proofs.cut.cut6.Goals as goal

pub unreachable-requires : goal.unreachable-requires
unreachable-requires c =
    let packet = c.args.packet.now in
    let h = c.requires.written.0 in
    let payload = c.requires.written.1 in
    lacks_none6 h packet (headers_of6 h payload packet (written_is6 h payload packet c.requires.written.2.form)) c.in_default.ensures.lacking

pub piece-requires-clause-upper : goal.piece-requires-clause-upper
piece-requires-clause-upper c =
    let is = found c.requires.written.0 c.in-Some.head c.requires.written.1 c.args.packet.now c.requires.written.2 c.in-Some.ensures.headers in
    rw is.head at c.requires.written.2.form.upper

pub piece-requires-clause-room : goal.piece-requires-clause-room
piece-requires-clause-room c =
    let h = c.requires.written.0 in
    let may = c.requires.written.2 in
    let is = found h c.in-Some.head c.requires.written.1 c.args.packet.now may c.in-Some.ensures.headers in
    let fits : fragment_offset h.frag * 8 + h.length ≤ 65535 = room h.frag h.length may.agreed may.form.in_range.length_fits in
    let len : h.length ≡ length c.payload-payload.result.now = may.form.exact ∙ ap length (is.payload_is ∙ sym c.payload-payload.ensures) in
    let offset : fragment_offset h.frag ≡ fragment_offset c.in-Some.head.frag = ap (λ (x : Head6). fragment_offset x.frag) is.head in
    omega arith

pub loop-at-init : goal.loop-at-init
loop-at-init c =
    let none : length c.new-pieces.result ≡ 0 = ap length c.new-pieces.ensures in
    record { counted = rw none (omega arith); upto = rw c.new-pieces.ensures (none_yet _) }

pub loop-at-preserved : goal.loop-at-preserved
loop-at-preserved c =
    let pieces = c.loop-at.pieces in
    let step = (c.args.mtu6 - 48) / 8 * 8 in
    let cut : Cutting = record { head = c.in-Some.head; payload = c.payload-payload.result.now; step = step; id = c.args.id } in
    let new : Parcel = record { place = 0; bytes = c.in_ok-piece.field-0 } in
    let is : new ≡ piece cut (length pieces * step) =
    ap (λ (b : List ℕ). let p : Parcel = record { place = 0; bytes = b } in p) c.in_ok-piece.ensures ∙ ap (piece cut) c.loop-at.invariant.counted in
    let all : c.push.new.self ≡ pieces ++ new ∷ [] = c.in_ok-push.ensures.ok in
    let inside : length pieces * step < length c.payload-payload.result.now = rw c.loop-at.invariant.counted at c.loop-at-test.true in
    let more : length c.push.new.self ≡ length pieces + 1 = ap length all ∙ length-append pieces (new ∷ []) in
    record {
      counted = rw (more, c.loop-at.invariant.counted, c.from.ensures) (omega arith);
      upto = rw all (one_more cut pieces new c.loop-at.invariant.upto inside is);
    }

pub returns-clause-cut : goal.returns-clause-cut
returns-clause-cut c = λ h payload may.
    let is = found h c.in-Some.head payload c.args.packet.now may c.in-Some.ensures.headers in
    let read : payload ≡ c.payload-payload.result.now = is.payload_is ∙ sym c.payload-payload.ensures in
    let reached : length c.payload-payload.result.now ≤ length c.loop-at.pieces * ((c.args.mtu6 - 48) / 8 * 8) = rw c.loop-at.invariant.counted at c.loop-at-test.false in
    rw (is.head, read) (all_cut _ c.loop-at.pieces c.loop-at.invariant.upto reached)

pub returns-clause-again : goal.returns-clause-again
returns-clause-again c = λ h payload may.
    let is = found h c.in-Some.head payload c.args.packet.now may c.in-Some.ensures.headers in
    let read : payload ≡ c.payload-payload.result.now = is.payload_is ∙ sym c.payload-payload.ensures in
    let reached : length c.payload-payload.result.now ≤ length c.loop-at.pieces * ((c.args.mtu6 - 48) / 8 * 8) = rw c.loop-at.invariant.counted at c.loop-at-test.false in
    let fits : fragment_offset h.frag * 8 + h.length ≤ 65535 = room h.frag h.length may.agreed may.form.in_range.length_fits in
    let cut : Cutting = record { head = h; payload = payload; step = (c.args.mtu6 - 48) / 8 * 8; id = c.args.id } in
    let may_cut : MayCut cut = record {
      in_range = may.form.in_range;
      upper = may.form.upper;
      room = omega (arith, may.form.exact);
      units = (c.args.mtu6 - 48) / 8;
      step_is = omega arith;
      step_fits = omega arith;
      id = c.ranges.id.fits;
    } in
    give_again cut (length c.loop-at.pieces) may_cut (rw read reached)

pub returns-clause-fits : goal.returns-clause-fits
returns-clause-fits c = λ h payload may.
    each_fits _ c.loop-at.pieces c.args.mtu6 c.loop-at.invariant.upto (omega (arith, c.requires.least))
