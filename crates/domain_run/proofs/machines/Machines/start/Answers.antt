use Rattle.domain_run.proofs.Starting.{first_machines, histories_empty}
use Rattle.domain_run.proofs.machines.Machines.start.Goals as goal

pub returns-clause-machines : goal.returns-clause-machines
returns-clause-machines c =
    first_machines c.args.setup.now (record { book = c.in_ok-copy.field-0; edges = c.in_ok-first_edges.field-0; stripes = c.in_ok-first_stripes.field-0 })
    c.requires.generation c.in_ok-copy.ensures c.read_rules.ensures c.in_ok-first_edges.ensures c.in_ok-first_stripes.ensures.count c.in_ok-first_stripes.ensures.each

pub returns-clause-histories : goal.returns-clause-histories
returns-clause-histories c =
    histories_empty c.args.setup.now (record { book = c.in_ok-copy.field-0; edges = c.in_ok-first_edges.field-0; stripes = c.in_ok-first_stripes.field-0 })
    c.in_ok-first_edges.ensures c.in_ok-first_stripes.ensures.count c.in_ok-first_stripes.ensures.each
