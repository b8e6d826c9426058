use Rattle.setup_tables.proofs.OneReading.{no_options}
use Rattle.setup_tables.proofs.origin.Origin.of_options.Goals as goal

pub returns-clause-none : goal.returns-clause-none
returns-clause-none c =
    no_options c.args.text.now c.in-Ok.octets c.in-Ok-read_container.container (rw c.as_bytes.ensures.value at c.in-Ok.ensures.octets) (rw c.as_slice.ensures at c.in-Ok-read_container.ensures.sound) (rw c.as_slice.ensures at c.in-Ok-read_container.ensures.read) (rw c.in-None.is at c.in_ok-given.ensures.none)
