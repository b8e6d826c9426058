use Rattle.std.specs.Prelude.{◌≡◌, take, map, IsTrue}
use Rattle.domain_core.specs.Form.{are_parcels_written}
use Rattle.journeys.specs.OneThread.{place_alone}
use Rattle.domain_run.proofs.told.places_of.Given as goal

-- the places of the parcels so far
abbrev pub invariant-loop-parcel : goal.invariant-loop-parcel
invariant-loop-parcel l =
    (l.places ≡ map place_alone (take l.parcel-index l.parcels)) × IsTrue (are_parcels_written l.places)
