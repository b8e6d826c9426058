use Rattle.std.proofs.Common.{◌≡◌, ◌+◌, ◌≤◌, length}
use Rattle.ip6_packet.specs.Chain.{behind, chain_in}
use Rattle.ip6_packet.proofs.chain.chain_of.Given as goal

-- what was found before what the rest gives is what all gives, and the place goes with the rest
abbrev pub invariant-loop-rest : goal.invariant-loop-rest
invariant-loop-rest l = record {
  walked : behind l.left (chain_in l.place l.number 0 l.rest) ≡ chain_in 40 l.first 0 l.payload;
  behind_header : 40 ≤ l.place;
  counted : l.place + length l.rest ≡ 40 + length l.payload;
}

abbrev pub decreases-loop-rest : goal.decreases-loop-rest
decreases-loop-rest l = length l.rest
