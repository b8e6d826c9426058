-- The code's own ends as definitions see them.
use Rattle.turned_packets.specs.declared.ends.End.{End as RawEnd}
use Rattle.turned_packets.specs.declared.ends.End.TheVariants.{Source as RawSource, Destination as RawDestination}
use Rattle.turned_packets.specs.declared.ends.NewEnd.{NewEnd as RawNewEnd}
use Rattle.turned_packets.specs.Ends.{End, Source, Destination, NewEnd}

abbrev pub end_in : RawEnd → End
end_in RawSource = Source
end_in RawDestination = Destination

abbrev pub new_end_in : RawNewEnd → NewEnd
new_end_in new = record { end = end_in new.end; addr = new.addr; port = new.port }
