use Rattle.turned_packets.proofs.ReadAgain.{read_again}
use Rattle.turned_packets.proofs.laws.a_turned_embedded_packet_is_read_again.Goals as goal

pub returns : goal.returns
returns c = read_again
