use Rattle.pcap_files.proofs.Written.{written_again}
use Rattle.pcap_files.proofs.laws.written_is_read.Goals as goal

pub returns : goal.returns
returns c = written_again
