use Rattle.pcap_files.proofs.Followed.{followed}
use Rattle.pcap_files.proofs.laws.followers_change_nothing.Goals as goal

pub returns : goal.returns
returns c = followed
