use Rattle.std.proofs.Common.{sym, ◌∙◌, arith}
use Rattle.octets.specs.Text6.{IsText6, addr6_at}
use Rattle.octets.proofs.Spelling6.{addr6_again, addr6_found, no_slash6}
use Rattle.octets.proofs.Prefixes.{both_are, no_pair, prefix_again, prefix_found}
use Rattle.octets.proofs.prefix_text.read_prefix6.Goals as goal

pub returns-in-Some-clause-found : goal.returns-in-Some-clause-found
returns-in-Some-clause-found c = prefix_found IsText6 addr6_at 128 c.args.text.now c.in-Some.prefix.bits c.in-Some.prefix.len addr6_found (sym c.in-Some.ensures)

pub returns-in-Some-clause-only : goal.returns-in-Some-clause-only
returns-in-Some-clause-only c =
    λ bits len h. both_are (c.in-Some.prefix.bits, c.in-Some.prefix.len) (bits, len) (c.in-Some.ensures ∙ prefix_again IsText6 addr6_at 128 c.args.text.now bits len (omega arith) no_slash6 addr6_again h)

pub returns-in-None-clause-only : goal.returns-in-None-clause-only
returns-in-None-clause-only c =
    λ bits len h. absurd (no_pair (bits, len) (c.in-None.ensures ∙ prefix_again IsText6 addr6_at 128 c.args.text.now bits len (omega arith) no_slash6 addr6_again h))
