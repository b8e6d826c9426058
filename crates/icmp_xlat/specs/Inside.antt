-- The code's own value of what changes in an embedded packet, as definitions see it.
use Rattle.icmp_xlat.specs.declared.inner.Change.{Change as RawChange}
use Rattle.icmp_xlat.specs.Inner.{Change}

abbrev pub change_in : RawChange → Change
change_in change = record { before = change.before; after = change.after; ports = change.ports; kind = change.kind }
