use Rattle.std.proofs.Common.{◌≡◌, ℕ, ◌+◌, ◌≤◌, List, [], ◌∷◌, ◌++◌, length, take, get_or, refl, sym, ap, ◌∙◌, subst, arith}
use Rattle.std.proofs.lemmas.List.{take_more, append-nil, length-take-le}
use Rattle.std.proofs.lemmas.List.Elements.{All-get_or}
use Rattle.pcap_files.specs.declared.records.Record.{Record}
use Rattle.pcap_files.specs.Written.{written, entry, empty_capture, IsWritable, IsWritableTime}
use Rattle.one_edge.specs.Edge.{edge_in}
use Rattle.one_edge.specs.Served.{IsServed}
use Rattle.one_edge.specs.Crossed.{IsCrossed, AreCrossed}
use Rattle.one_edge.proofs.Lists.{served_length, served_at, some_packet, one_more_crossed, one_more_written}
use Rattle.one_edge.proofs.edge.OneEdge.captured.Goals as goal

pub loop-i-init : goal.loop-i-init
loop-i-init c = ([], [], tt, c.in_ok-access.ensures ∙ sym (append-nil empty_capture), c.in_ok-core.ensures ∙ sym (append-nil empty_capture))

pub bounds-packets-i : goal.bounds-packets-i
bounds-packets-i c = omega (arith, served_length (edge_in c.args.self.now) c.args.records.now c.args.packets.now c.requires.served, c.loop-i-test.true)

pub crossed-requires : goal.crossed-requires
crossed-requires c =
    let e = edge_in c.args.self.now in
    let r = c.index-records-i.result in
    let ts = c.args.packets.now in
    let at = served_at e c.args.records.now ts c.loop-i.i r some_packet c.requires.served c.loop-i-test.true in
    subst (λ (octets : List ℕ). IsServed e (get_or ts c.loop-i.i some_packet) octets) (ap (λ (x : Record). x.bytes) (sym c.index-records-i.is) ∙ sym c.as_slice.ensures) at

pub add-requires-clause-time : goal.add-requires-clause-time
add-requires-clause-time c =
    let r = c.index-records-i.result in
    subst (λ (x : Record). IsWritableTime x.time) (sym c.index-records-i.is) (All-get_or IsWritable c.args.records.now c.loop-i.i r c.loop-i-test.true c.requires.writable).0

pub add-requires-in-loop-i-clause-time : goal.add-requires-in-loop-i-clause-time
add-requires-in-loop-i-clause-time c =
    let r = c.index-records-i.result in
    subst (λ (x : Record). IsWritableTime x.time) (sym c.index-records-i.is) (All-get_or IsWritable c.args.records.now c.loop-i.i r c.loop-i-test.true c.requires.writable).0

pub loop-i-preserved : goal.loop-i-preserved
loop-i-preserved c =
    let e = edge_in c.args.self.now in
    let r = c.index-records-i.result in
    let rs = c.args.records.now in
    let i = c.loop-i.i in
    let so_far = c.loop-i.invariant in
    let a : Record = record { time = r.time; bytes = c.in_ok-crossed.crossed.access } in
    let b : Record = record { time = r.time; bytes = c.in_ok-crossed.crossed.core } in
    let here : take (i + 1) rs ≡ take i rs ++ r ∷ [] = take_more rs i r c.loop-i-test.true ∙ ap (λ (x : Record). take i rs ++ x ∷ []) (sym c.index-records-i.is) in
    let small : i ≤ length rs = omega (arith, c.loop-i-test.true) in
    let len : i ≡ 0 + length (take i rs) = omega (arith, length-take-le i rs small) in
    let is : IsCrossed e (0 + length (take i rs)) r.bytes a.bytes b.bytes = subst (λ (n : ℕ). IsCrossed e n r.bytes a.bytes b.bytes) len (subst (λ (octets : List ℕ). IsCrossed e i octets a.bytes b.bytes) c.as_slice.ensures c.in_ok-crossed.ensures.crossed) in
    let more = one_more_crossed e 0 (take i rs) so_far.0 so_far.1 r a b so_far.2 refl refl is in
    let first : c.add.new.self ≡ c.loop-i.access ++ entry r.time c.as_slice-in-loop-i.result.now = c.in_ok-add.ensures.ok in
    let second : c.add-in-loop-i.new.self ≡ c.loop-i.core ++ entry r.time c.as_slice-in-loop-i-2.result.now = c.in_ok-add-2.ensures.ok in (
      so_far.0 ++ a ∷ [],
      so_far.1 ++ b ∷ [],
      subst (λ (xs : List Record). AreCrossed e 0 xs (so_far.0 ++ a ∷ []) (so_far.1 ++ b ∷ [])) (sym here) more,
      first ∙ ap (λ (xs : List ℕ). xs ++ entry r.time c.as_slice-in-loop-i.result.now) so_far.3 ∙ ap (λ (octets : List ℕ). written so_far.0 ++ entry r.time octets) c.as_slice-in-loop-i.ensures ∙ sym (one_more_written so_far.0 a),
      second ∙ ap (λ (xs : List ℕ). xs ++ entry r.time c.as_slice-in-loop-i-2.result.now) so_far.4 ∙ ap (λ (octets : List ℕ). written so_far.1 ++ entry r.time octets) c.as_slice-in-loop-i-2.ensures ∙ sym (one_more_written so_far.1 b),
    )
