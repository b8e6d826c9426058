use Rattle.std.proofs.Common.{◌≡◌, refl, sym, ap, ◌∙◌, ℕ, ◌<◌, inl, List, [], length, Some, subst}
use Rattle.std.specs.Prelude.{slice_get, max, Err}
use Rattle.std.specs.Vec.{with_item}
use Rattle.rule_book.specs.Book.{generation_of}
use Rattle.std.proofs.lemmas.Option.{slice_get-get_or}
use Rattle.octets.specs.declared.parcel.Parcel.{Parcel}
use Rattle.nat_model.specs.declared.answer.Answer.{Answer}
use Rattle.nat_model.specs.declared.answer.Answer.TheVariants.{Refused}
use Rattle.nat_model.specs.declared.entry.Entry.{Entry}
use Rattle.nat_model.proofs.AnswerKinds.{nat-kind, nat-first}
use Rattle.edge_core.specs.Shown.{EdgeShown}
use Rattle.edge_node.specs.declared.way.Way.{Way}
use Rattle.edge_node.specs.Asked.{IsAsk, IsDroppedAt}
use Rattle.edge_node.specs.Hop.{IsEdgeHop}
use Rattle.setup_tables.specs.declared.edge.EdgeLine.{EdgeLine}
use Rattle.nat_model.specs.Kind.{IsAnswerTo}
use Rattle.nat_model.specs.Waiting.{freed_of}
use Rattle.journeys.specs.Derived.{edge_node}
use Rattle.domain_run.proofs.Steps.{node_with, sent, kind_by, asks_taken, unasked, asked}
use Rattle.domain_run.proofs.machines.Machines.make_at_edge.Goals as goal

pub returns-in-Err-Drop : goal.returns-in-Err-Drop
returns-in-Err-Drop c =
    let setup = c.args.packet.now.setup.now in
    let taking = c.args.packet.now.taking.now in
    let octets = c.args.packet.now.octets.now in
    let line = c.index-as_slice-number.result in
    let there : slice_get setup.edges c.args.number ≡ Some line =
    subst (λ (ls : List EdgeLine). slice_get ls c.args.number ≡ Some line) c.as_slice.ensures
    (slice_get-get_or c.as_slice.result.now c.args.number line (subst (λ (ls : List EdgeLine). c.args.number < length ls) (sym c.as_slice.ensures) c.requires.stands)
    ∙ sym (ap (λ (l : EdgeLine). Some l) c.index-as_slice-number.is)) in
    let dropped : IsDroppedAt c.args.way c.in-Err-Drop.cause octets =
    subst (λ (w : Way). IsDroppedAt w c.in-Err-Drop.cause octets) c.in_ok-taken.ensures.way
    (c.in-Err-Drop.ensures.refused c.in-Err-Drop.cause (ap (λ (f : _). Err f) c.in-Err-Drop.field-0-is)) in
    let sends : IsEdgeHop (edge_node setup taking.rec line) c.args.way (Refused c.in-Err-Drop.cause []) octets c.in_ok-hop-in-Err-Drop.hop =
    sent _ (edge_node setup taking.rec line) _ c.args.way _ (Refused c.in-Err-Drop.cause []) octets c.in_ok-hop-in-Err-Drop.hop
    (ap (λ (n : ℕ). node_with setup line n) c.id.ensures) c.in_ok-taken.ensures.way (ap (λ (ps : List Parcel). Refused c.in-Err-Drop.cause ps) c.new-freed.ensures)
    c.in_ok-hop-in-Err-Drop.ensures in
    unasked setup taking c.args.packet.now.hop c.args.number c.args.way octets line c.in-Err-Drop.cause c.in_ok-hop-in-Err-Drop.hop c.args.self.now
    c.requires.ready c.requires.stands there dropped sends

pub emit-requires-2-clause-emittable : goal.emit-requires-2-clause-emittable
emit-requires-2-clause-emittable c =
    let octets = c.args.packet.now.octets.now in
    inl (
      asks_taken _ octets c.in-Ok.ask c.in-Ok.ensures.found,
      kind_by _ octets c.in-Ok.ask c.in_ok-answer.answer c.in-Ok.ensures.found
          (subst (λ (a : Answer). IsAnswerTo c.in-Ok.ask a) (sym c.in_ok-answer.ensures.answer) (nat-kind _ _ _ c.in-Ok.ask)),
    )

pub returns : goal.returns
returns c =
    let setup = c.args.packet.now.setup.now in
    let taking = c.args.packet.now.taking.now in
    let octets = c.args.packet.now.octets.now in
    let line = c.index-as_slice-number.result in
    let edge = c.index_mut-edge.result.now in
    let answer = c.in_ok-answer.answer in
    let ask = c.in-Ok.ask in
    let there : slice_get setup.edges c.args.number ≡ Some line =
    subst (λ (ls : List EdgeLine). slice_get ls c.args.number ≡ Some line) c.as_slice.ensures
    (slice_get-get_or c.as_slice.result.now c.args.number line (subst (λ (ls : List EdgeLine). c.args.number < length ls) (sym c.as_slice.ensures) c.requires.stands)
    ∙ sym (ap (λ (l : EdgeLine). Some l) c.index-as_slice-number.is)) in
    let entry : Entry = record {
      mark = record { who = c.who.result; seen = generation_of c.args.self.now.book; used = max (generation_of c.args.self.now.book) edge.state.book.number };
      now = taking.time;
      ask = ask;
      answer = answer;
    } in
    let sends : IsEdgeHop (edge_node setup taking.rec line) c.args.way answer octets c.in_ok-hop.hop =
    sent _ (edge_node setup taking.rec line) _ c.args.way _ answer octets c.in_ok-hop.hop
    (ap (λ (n : ℕ). node_with setup line n) c.id.ensures) c.in_ok-taken.ensures.way refl c.in_ok-hop.ensures in
    asked setup taking c.args.packet.now.hop c.args.number (length c.history.result.now) c.args.way octets line ask entry c.in_ok-hop.hop edge c.step.new.self
    c.args.self.now (record { book = c.args.self.now.book; edges = with_item c.args.self.now.edges c.args.number c.step.new.self; stripes = c.args.self.now.stripes })
    c.requires.ready c.requires.stands there
    (slice_get-get_or c.args.self.now.edges.items c.args.number edge (subst (λ (n : ℕ). c.args.number < n) (sym c.requires.ready.machines_are.edge_count) c.requires.stands)
    ∙ sym (ap (λ (e : EdgeShown). Some e) c.index_mut-edge.ensures.value))
    (subst (λ (w : Way). IsAsk w octets ask) c.in_ok-taken.ensures.way c.in-Ok.ensures.found)
    (record {
      worker = c.who.ensures.worker;
      rec = c.who.ensures.rec;
      hop_is = c.who.ensures.hop;
      seen = c.requires.ready.machines_are.generation.number;
      now = refl;
      asked = refl;
    })
    (ap (λ (es : List Entry). length es) c.history.ensures.history)
    (subst (λ (a : Answer). IsAnswerTo ask a) (sym c.in_ok-answer.ensures.answer) (nat-kind _ _ _ ask))
    (λ some. nat-first _ _ _ ask (λ none. some (ap freed_of c.in_ok-answer.ensures.answer ∙ none)))
    (record {
      history = c.in_ok-answer.ensures.history;
      start = c.step.ensures.start;
      books = c.in_ok-answer.ensures.books;
      keeps = c.step.ensures.keeps;
    })
    refl refl refl sends
