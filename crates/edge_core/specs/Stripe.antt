-- A stripe by its fields.
use Rattle.edge_core.specs.declared.stripe.StripeState.TheInside.{Inside}
use Rattle.edge_core.specs.Shown.{StripeShown, KeepsStripe}

-- what it shows
abbrev pub stripe_in : Inside → StripeShown
stripe_in s = record { table = s.table; history = s.entries.items }

-- this holds of it
abbrev pub IsStripe : Inside → Type 0
IsStripe s = KeepsStripe (stripe_in s)
