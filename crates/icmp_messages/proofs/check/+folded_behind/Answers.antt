use Rattle.std.proofs.Common.{◌≡◌, ℕ, ◌+◌, ◌≤◌, length, take, drop, refl, ap, ◌∙◌, arith}
use Rattle.inet_sum.specs.Sum.{words, folded}
use Rattle.icmp_messages.proofs.SumLemmas.{folded_on}
use Rattle.icmp_messages.proofs.check.+folded_behind.Goals as goal

pub returns : goal.returns
returns t c =
    let octets = c.args.octets.now in
    let fits : 4294967296 ≤ length octets = omega arith in
    let front : c.from.result ≡ folded (c.args.before + words (take 4294967296 octets)) =
    c.from.ensures ∙ (c.fold-so_far.ensures ∙ ap (λ (s : ℕ). folded (c.args.before + s)) (c.sum-2.ensures.value ∙ ap words c.split_at.ensures.front)) in
    let back : words c.split_at.result.1.now ≡ words (drop 4294967296 octets) = ap words c.split_at.ensures.back in
    c.folded_behind.ensures ∙ (rw (front, back) (folded_on c.args.before 4294967296 octets refl fits))
