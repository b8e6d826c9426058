use Rattle.s46_options.proofs.padding.+zero_octets.Given as goal

abbrev pub decreases-zero_octets : goal.decreases-zero_octets
decreases-zero_octets l = l.count
