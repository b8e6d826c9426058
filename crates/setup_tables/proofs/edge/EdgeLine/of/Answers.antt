use Rattle.std.proofs.Common.{rules}
use Rattle.setup_tables.specs.Edge.{IsEdgeTable}
use Rattle.setup_tables.proofs.ListReads.{says, says_nothing}
use Rattle.setup_tables.proofs.edge.EdgeLine.of.Goals as goal

pub returns-in_default-prefix6_at-clause-none : goal.returns-in_default-prefix6_at-clause-none
returns-in_default-prefix6_at-clause-none c =
    says_nothing IsEdgeTable _ _ c.in-Some.ensures (λ e h. c.in_default-prefix6_at.ensures.only e.prefix h.prefix)

pub returns-in_default-addr4_at-clause-none : goal.returns-in_default-addr4_at-clause-none
returns-in_default-addr4_at-clause-none c =
    says_nothing IsEdgeTable _ _ c.in-Some.ensures (λ e h. c.in_default-addr4_at.ensures.only e.lan h.lan)

pub returns-clause-found : goal.returns-clause-found
returns-clause-found c =
    says IsEdgeTable _ _ _ c.in-Some.ensures record {
      keys = search rules;
      name = search rules;
      prefix = c.in-Some-prefix6_at.ensures.found;
      lan = c.in-Some-addr4_at.ensures.found;
      capture = search rules;
    }
