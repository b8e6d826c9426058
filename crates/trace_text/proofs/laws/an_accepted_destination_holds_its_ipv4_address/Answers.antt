use Rattle.trace_text.proofs.Addresses.{extracted_holds}
use Rattle.trace_text.proofs.laws.an_accepted_destination_holds_its_ipv4_address.Goals as goal

pub returns : goal.returns
returns k = λ dmr s addr e. extracted_holds dmr s addr e
