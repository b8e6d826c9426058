-- The options that the code cuts octets into, as definitions see them.
use Rattle.std.specs.Prelude.{List, map}
use Rattle.s46_options.specs.declared.options.RawOption.{RawOption}
use Rattle.s46_options.specs.declared.options.Cut.{Cut as RawCut}
use Rattle.s46_options.specs.Options.{DhcpOption, Cut}

abbrev pub option_of : RawOption → DhcpOption
option_of raw = record { code = raw.code; octets = raw.octets.now }

abbrev pub options_of : List RawOption → List DhcpOption
options_of raws = map option_of raws

abbrev pub cut_of : RawCut → Cut
cut_of parts = record { options = options_of parts.options.items; left = parts.left.now }
