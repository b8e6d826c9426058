use Rattle.std.proofs.Common.{◌≡◌, ◌&&◌, true, List, sym, ap, ◌∙◌}
use Rattle.std.proofs.lemmas.Bool.{both_ways, and_from, and_parts}
use Rattle.octets.specs.declared.proto.Proto.TheVariants.{Tcp, Udp}
use Rattle.one_edge.specs.declared.taken.Taken.{Taken}
use Rattle.one_edge.specs.Edge.{edge_in}
use Rattle.one_edge.specs.Served.{AreServed, times_rise, have_one_source}
use Rattle.one_edge.proofs.One.{same_served}
use Rattle.one_edge.proofs.edge.OneEdge.replay.Goals as goal

pub returns-then-not-times_rise-clause-refused : goal.returns-then-not-times_rise-clause-refused
returns-then-not-times_rise-clause-refused c = λ are. both_ways (times_rise 0 c.args.records.now) (sym c.times_rise.ensures ∙ c.if-not-times_rise.true) are.times

pub returns-then-not-have_one_source_each-clause-refused : goal.returns-then-not-have_one_source_each-clause-refused
returns-then-not-have_one_source_each-clause-refused c = λ are.
    let e = edge_in c.args.self.now in
    let found : AreServed e c.args.records.now c.in-Some.packets.items = rw c.in-Some.is at c.in_ok-packets.ensures.found in
    let same : c.deref.result.now ≡ are.packets = c.deref.ensures.value ∙ same_served e c.args.records.now c.in-Some.packets.items are.packets found are.served in
    let both = λ (ts : List Taken). have_one_source Tcp ts && have_one_source Udp ts in
    both_ways (both c.deref.result.now) (sym c.have_one_source_each.ensures ∙ c.if-not-have_one_source_each.true) (ap both same ∙ and_from (have_one_source Tcp are.packets) (have_one_source Udp are.packets) are.tcp are.udp)

pub returns-clause-served : goal.returns-clause-served
returns-clause-served c =
    let found : AreServed (edge_in c.args.self.now) c.args.records.now c.in-Some.packets.items = rw c.in-Some.is at c.in_ok-packets.ensures.found in
    let both = λ (ts : List Taken). have_one_source Tcp ts && have_one_source Udp ts in
    let sources : both c.in-Some.packets.items ≡ true = sym (ap both c.deref.ensures.value) ∙ (sym c.have_one_source_each.ensures ∙ c.if-not-have_one_source_each.false) in
    let parts = and_parts (have_one_source Tcp c.in-Some.packets.items) (have_one_source Udp c.in-Some.packets.items) sources in
    record {
      packets = c.in-Some.packets.items;
      served = found;
      times = sym c.times_rise.ensures ∙ c.if-not-times_rise.false;
      tcp = parts.0;
      udp = parts.1;
    }

pub returns-clause-captured : goal.returns-clause-captured
returns-clause-captured c = c.in_ok-captured.ensures
