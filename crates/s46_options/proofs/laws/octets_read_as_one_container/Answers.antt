use Rattle.s46_options.proofs.OneReading.{one_container}
use Rattle.s46_options.proofs.laws.octets_read_as_one_container.Goals as goal

pub returns : goal.returns
returns c = one_container
