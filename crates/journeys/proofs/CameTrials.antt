-- What parts came to, and what is kept of a run, computed on small ones.
use Rattle.std.proofs.Common.{◌≡◌, refl, [], ◌∷◌, Some, None}
use Rattle.octets.specs.declared.cause.Cause.TheVariants.{NoPort}
use Rattle.hops.specs.declared.hop.Hop.{Hop}
use Rattle.hops.specs.declared.hop.Out.TheVariants.{Lan as OnLan, Access as OnAccess}
use Rattle.hops.specs.Hop.{nothing, lost}
use Rattle.journeys.specs.Derived.{made, untold}
use Rattle.journeys.specs.Came.{came_to}
use Rattle.journeys.specs.Run.{Step, ran, live, still, kept_of_step, made_in}

-- a packet on the LAN, and one to the access network
abbrev one : Hop
one = record { outs = OnLan (1 ∷ []) ∷ []; drops = [] }

abbrev other : Hop
other = record { outs = OnAccess (2 ∷ []) ∷ []; drops = [] }

none_came : came_to [] ≡ Some nothing
none_came = refl

-- in their order, with what is dropped
both_came : came_to (made one ∷ made (lost NoPort) ∷ made other ∷ [])
    ≡ Some (record { outs = OnLan (1 ∷ []) ∷ OnAccess (2 ∷ []) ∷ []; drops = NoPort ∷ [] })
both_came = refl

-- nothing is known where one is untold, first or last
untold_first : came_to (untold ∷ made one ∷ []) ≡ None
untold_first = refl

untold_last : came_to (made one ∷ untold ∷ []) ≡ None
untold_last = refl

-- changes keep nothing, and a record without hops keeps none
records_kept : (s : Step) → made_in (live 0 ∷ ran 0 (s ∷ []) ∷ still 1 ∷ ran 1 [] ∷ []) ≡ (kept_of_step s ∷ []) ∷ [] ∷ []
records_kept s = refl
