use Rattle.nat_model.proofs.ParcelHistory.{edge-waited, stripe-waited}
use Rattle.nat_model.proofs.parcels.a_freed_parcel_is_a_fragment_that_waited.Goals as goal

pub returns-clause-edge : goal.returns-clause-edge
returns-clause-edge c = edge-waited

pub returns-clause-stripe : goal.returns-clause-stripe
returns-clause-stripe c = stripe-waited
