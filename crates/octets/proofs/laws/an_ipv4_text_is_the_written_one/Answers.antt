use Rattle.std.proofs.Common.{◌++◌, ◌∷◌, List, ℕ, ap, ◌∙◌}
use Rattle.std.specs.Fmt.{decimal}
use Rattle.octets.specs.Numeral.{slash}
use Rattle.octets.proofs.Spelling4.{one_text4}
use Rattle.octets.proofs.laws.an_ipv4_text_is_the_written_one.Goals as goal

pub returns-clause-addr4 : goal.returns-clause-addr4
returns-clause-addr4 c = one_text4

pub returns-clause-prefix4 : goal.returns-clause-prefix4
returns-clause-prefix4 c = λ text bits len h. h.spelled ∙ ap (λ (address : List ℕ). address ++ slash ∷ decimal len) (one_text4 h.address bits h.bits_are)
