use Rattle.std.proofs.Common.{sym, ◌∙◌, arith}
use Rattle.octets.specs.Text4.{IsText4, addr4_at}
use Rattle.octets.proofs.Spelling4.{addr4_again, addr4_found, no_slash4}
use Rattle.octets.proofs.Prefixes.{both_are, no_pair, prefix_again, prefix_found}
use Rattle.octets.proofs.prefix_text.read_prefix4.Goals as goal

pub returns-in-Some-clause-found : goal.returns-in-Some-clause-found
returns-in-Some-clause-found c = prefix_found IsText4 addr4_at 32 c.args.text.now c.in-Some.prefix.bits c.in-Some.prefix.len addr4_found (sym c.in-Some.ensures)

pub returns-in-Some-clause-only : goal.returns-in-Some-clause-only
returns-in-Some-clause-only c =
    λ bits len h. both_are (c.in-Some.prefix.bits, c.in-Some.prefix.len) (bits, len) (c.in-Some.ensures ∙ prefix_again IsText4 addr4_at 32 c.args.text.now bits len (omega arith) no_slash4 addr4_again h)

pub returns-in-None-clause-only : goal.returns-in-None-clause-only
returns-in-None-clause-only c =
    λ bits len h. absurd (no_pair (bits, len) (c.in-None.ensures ∙ prefix_again IsText4 addr4_at 32 c.args.text.now bits len (omega arith) no_slash4 addr4_again h))
