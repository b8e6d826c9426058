use Rattle.std.proofs.Common.{sym, ap, ◌∙◌}
use Rattle.std.specs.Prelude.{Some}
use Rattle.std.proofs.lemmas.Option.{slice_get-get_or}
use Rattle.nat_model.specs.declared.stripe.StripeEntry.{StripeEntry}
use Rattle.nat_model.specs.Stripe.{no_notes}
use Rattle.domain_run.proofs.Released.{released-at}
use Rattle.domain_run.proofs.told.stripe_history_of.Goals as goal

pub stripe_note_of-requires : goal.stripe_note_of-requires
stripe_note_of-requires c =
    let entries = c.args.entries.now in
    let i = c.loop-entry.entry-index in
    record {
      some = released-at c.each_fragment_has_an_answer_of_its_kind.ensures.released 0 no_notes entries i c.entry-item.result c.requires.good
          (slice_get-get_or entries i c.entry-item.result c.loop-entry-test.true ∙ sym (ap (λ (e : StripeEntry). Some e) c.entry-item.is));
    }
