use Rattle.std.proofs.Common.{◌≡◌, ◌-◌}
use Rattle.pcap_files.specs.Capture.{records_at}
use Rattle.pcap_files.proofs.Loop.{with_front}
use Rattle.pcap_files.proofs.reader.records_in.Given as goal

abbrev pub invariant-loop-number : goal.invariant-loop-number
invariant-loop-number l =
    with_front l.records.items (records_at l.form l.number (l.room - l.number) l.rest) ≡ records_at l.form 0 l.room l.octets
