use Rattle.std.proofs.Common.{◌≡◌, refl, sym, ap, ◌∙◌, ℕ, ◌<◌, List, length, get_or, Some, subst}
use Rattle.std.specs.Prelude.{slice_get}
use Rattle.std.proofs.lemmas.Option.{slice_get_read}
use Rattle.rule_book.specs.Book.{rules_of}
use Rattle.rule_book.specs.Holder.{holder_of}
use Rattle.nat_model.specs.declared.binding.Binding.{Binding}
use Rattle.nat_model.specs.Sound.{AreSound}
use Rattle.setup_tables.specs.declared.edge.EdgeLine.{EdgeLine}
use Rattle.mapt_setup.specs.declared.forward.ForwardLine.{ForwardLine}
use Rattle.mapt_setup.specs.declared.setup.Setup.{Setup}
use Rattle.domain_run.proofs.Starting.{kept_in, kept_sound, first_edge}
use Rattle.domain_run.proofs.start.first_edge.Goals as goal

-- the edge's line, by the place at which it was read
there : (setup : Setup) (edges : List EdgeLine) (number : ℕ) (line : EdgeLine) → edges ≡ setup.edges → number < length setup.edges → line ≡ get_or edges number line → slice_get setup.edges number ≡ Some line
there setup edges number line same within is = slice_get_read setup.edges _ number line refl within (is ∙ ap (λ (es : List EdgeLine). get_or es number line) same)

-- the bindings that are kept
are_kept : (setup : Setup) (forwards : List ForwardLine) (kept slice : List Binding) (number : ℕ) → slice ≡ kept → kept ≡ kept_in number forwards → forwards ≡ setup.forwards → slice ≡ kept_in number setup.forwards
are_kept setup forwards kept slice number same is from = same ∙ is ∙ ap (kept_in number) from

pub start-requires : goal.start-requires
start-requires c =
    let setup = c.args.setup.now in
    let number = c.args.number in
    let line = c.index-as_slice-number.result in
    subst (AreSound (holder_of (rules_of setup.book) line.prefix))
    (sym (are_kept setup _ c.in_ok-kept.kept _ number c.as_slice-3.ensures c.in_ok-kept.ensures c.as_slice.ensures))
    (kept_sound setup number line c.requires.valid (there setup _ number line c.as_slice-2.ensures c.requires.within c.index-as_slice-number.is))

pub returns : goal.returns
returns c =
    let setup = c.args.setup.now in
    let number = c.args.number in
    let line = c.index-as_slice-number.result in
    let told = c.start.ensures in
    first_edge setup number line c.as_slice-3.result.now c.start.result (there setup _ number line c.as_slice-2.ensures c.requires.within c.index-as_slice-number.is)
    c.requires.valid.generation (are_kept setup _ c.in_ok-kept.kept _ number c.as_slice-3.ensures c.in_ok-kept.ensures c.as_slice.ensures)
    told.start told.books told.history told.keeps
