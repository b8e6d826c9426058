use Rattle.std.proofs.Common.{◌≡◌, ℕ, ◌+◌, List, ◌∷◌, [], ◌++◌, take, get_or, sym, ap, ◌∙◌, subst, rules}
use Rattle.std.proofs.lemmas.List.{take_more}
use Rattle.pcap_files.specs.declared.records.Record.{Record}
use Rattle.one_edge.specs.Edge.{edge_in}
use Rattle.one_edge.specs.Served.{IsServed}
use Rattle.one_edge.proofs.Lists.{one_more, served_at, some_packet}
use Rattle.one_edge.proofs.edge.OneEdge.all_taken.Goals as goal

pub returns-in-None-clause-lacking : goal.returns-in-None-clause-lacking
returns-in-None-clause-lacking c = λ ts are.
    let e = edge_in c.args.self.now in
    let r = c.record-item.result in
    let at = served_at e c.args.records.now ts c.loop-record.record-index r some_packet are c.loop-record-test.true in
    let same : get_or c.args.records.now c.loop-record.record-index r ≡ r = sym c.record-item.is in
    c.in-None.ensures.lacking (get_or ts c.loop-record.record-index some_packet)
    (subst (λ (octets : List ℕ). IsServed e (get_or ts c.loop-record.record-index some_packet) octets) (ap (λ (x : Record). x.bytes) same ∙ sym c.as_slice.ensures) at)

pub loop-record-preserved : goal.loop-record-preserved
loop-record-preserved c =
    let e = edge_in c.args.self.now in
    let r = c.record-item.result in
    let rs = c.args.records.now in
    let i = c.loop-record.record-index in
    let here : take (i + 1) rs ≡ take i rs ++ r ∷ [] = take_more rs i r c.loop-record-test.true ∙ ap (λ (x : Record). take i rs ++ x ∷ []) (sym c.record-item.is) in
    let is : IsServed e c.in-Some.packet r.bytes = subst (λ (octets : List ℕ). IsServed e c.in-Some.packet octets) c.as_slice.ensures c.in-Some.ensures.found in
    let more = one_more e (take i rs) c.loop-record.packets.items r c.in-Some.packet c.loop-record.invariant is in
    let items : c.push.new.self.items ≡ c.loop-record.packets.items ++ c.in-Some.packet ∷ [] = search rules in
    rw (here, items) more
