use Rattle.pcap_files.proofs.Answered.{octets_are}
use Rattle.pcap_files.proofs.Captures.{capture_found, capture_again, fault_found, fault_again}
use Rattle.pcap_files.proofs.laws.reading_is_by_the_grammar.Goals as goal

pub returns-clause-read : goal.returns-clause-read
returns-clause-read c =
    λ room octets records fits. (capture_found room octets records (octets_are octets fits), capture_again room octets records (octets_are octets fits))

pub returns-clause-refused : goal.returns-clause-refused
returns-clause-refused c =
    λ room octets fault fits. (fault_found room octets fault (octets_are octets fits), fault_again room octets fault (octets_are octets fits))
