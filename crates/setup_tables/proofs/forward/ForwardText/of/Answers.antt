use Rattle.setup_tables.specs.Forward.{IsForwardTable}
use Rattle.setup_tables.proofs.ListReads.{says_nothing}
use Rattle.setup_tables.proofs.forward.ForwardText.of.Goals as goal

pub returns-in_default-binding_in-clause-none : goal.returns-in_default-binding_in-clause-none
returns-in_default-binding_in-clause-none c = says_nothing IsForwardTable _ _ c.in-Some.ensures (λ f h. c.in_default-binding_in.ensures.none f.binding h.binding)
