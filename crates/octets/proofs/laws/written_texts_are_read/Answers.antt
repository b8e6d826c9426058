use Rattle.std.proofs.Common.{refl}
use Rattle.octets.specs.Text4.{text4}
use Rattle.octets.specs.Text6.{text6}
use Rattle.octets.proofs.Spelling4.{text4_spells}
use Rattle.octets.proofs.Written6.{text6_spells}
use Rattle.octets.proofs.laws.written_texts_are_read.Goals as goal

pub returns-clause-addr4 : goal.returns-clause-addr4
returns-clause-addr4 c = text4_spells

pub returns-clause-addr6 : goal.returns-clause-addr6
returns-clause-addr6 c = text6_spells

pub returns-clause-prefix4 : goal.returns-clause-prefix4
returns-clause-prefix4 c =
    λ bits len below within clear. record { address = text4 bits; spelled = refl; bits_are = text4_spells bits below; within = within; clear = clear }

pub returns-clause-prefix6 : goal.returns-clause-prefix6
returns-clause-prefix6 c =
    λ bits len below within clear. record { address = text6 bits; spelled = refl; bits_are = text6_spells bits below; within = within; clear = clear }
