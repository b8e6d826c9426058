use Rattle.icmp_xlat.proofs.ReadAgain.{again46, again64, in_message46, in_message64}
use Rattle.icmp_xlat.proofs.laws.a_translated_embedded_packet_is_read_again.Goals as goal

pub returns-clause-to_ipv6 : goal.returns-clause-to_ipv6
returns-clause-to_ipv6 c = again46

pub returns-clause-to_ipv4 : goal.returns-clause-to_ipv4
returns-clause-to_ipv4 c = again64

pub returns-clause-in_message_to_ipv6 : goal.returns-clause-in_message_to_ipv6
returns-clause-in_message_to_ipv6 c = in_message46

pub returns-clause-in_message_to_ipv4 : goal.returns-clause-in_message_to_ipv4
returns-clause-in_message_to_ipv4 c = in_message64
