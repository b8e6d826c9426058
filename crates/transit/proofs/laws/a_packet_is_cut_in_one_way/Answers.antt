use Rattle.transit.proofs.OneWay.{one_cut_of}
use Rattle.transit.proofs.laws.a_packet_is_cut_in_one_way.Goals as goal

pub returns : goal.returns
returns c = one_cut_of
