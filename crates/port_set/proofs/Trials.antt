-- The definitions, computed on one home's set: offset 6, PSID length 8, PSID 52.
use Rattle.std.proofs.Common.{◌≡◌, true, false, refl}
use Rattle.std.specs.Prelude.{Some}
use Rattle.port_set.specs.PortSet.{in_set, is_claimable, count_below, rank_of, begins_run, ends_run}

port-1231 : in_set 6 8 52 1231 ≡ false
port-1231 = refl

port-1232 : is_claimable 6 8 52 1232 ≡ true
port-1232 = refl

port-1235 : is_claimable 6 8 52 1235 ≡ true
port-1235 = refl

port-1236 : is_claimable 6 8 52 1236 ≡ false
port-1236 = refl

-- below 2 ^ (16 - a) no port is in the set, whatever its PSID bits are
port-208 : in_set 6 8 52 208 ≡ false
port-208 = refl

-- port 0 is in the set of all ports, and isn't claimable
port-0 : in_set 6 0 0 0 ≡ true
port-0 = refl

port-0-claim : is_claimable 6 0 0 0 ≡ false
port-0-claim = refl

rank-1234 : rank_of 6 8 52 1234 ≡ Some 2
unfolding count_below
rank-1234 = refl

run-1232 : begins_run (in_set 6 8 52) 1232 ≡ true
run-1232 = refl

run-1235 : ends_run (in_set 6 8 52) 1235 ≡ true
run-1235 = refl
