use Rattle.nat_model.proofs.Delivery.{delivered, alone}
use Rattle.nat_model.proofs.laws.what_comes_in_goes_to_the_binding_with_its_port.Goals as goal

pub returns-clause-delivered : goal.returns-clause-delivered
returns-clause-delivered c = delivered

pub returns-clause-alone : goal.returns-clause-alone
returns-clause-alone c = alone
