-- A fragment that is asked about, whose octets may lie elsewhere.
use Rattle.frag_table.specs.declared.fragment.Fragment.{Fragment}
use Rattle.frag_table.specs.declared.fragment.Fragment.TheVariants.{First, Later}
use Rattle.frag_table.specs.declared.ask.FragAsk.{FragAsk}

-- the ask about it
abbrev pub frag_ask : Fragment → FragAsk
frag_ask (First key ports) = FragAsk.First key ports
frag_ask (Later key octets) = FragAsk.Later key octets.now
