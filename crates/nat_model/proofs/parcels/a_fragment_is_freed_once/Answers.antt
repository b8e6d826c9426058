use Rattle.nat_model.proofs.ParcelHistory.{edge-once, stripe-once}
use Rattle.nat_model.proofs.parcels.a_fragment_is_freed_once.Goals as goal

pub returns-clause-edge : goal.returns-clause-edge
returns-clause-edge c = edge-once

pub returns-clause-stripe : goal.returns-clause-stripe
returns-clause-stripe c = stripe-once
