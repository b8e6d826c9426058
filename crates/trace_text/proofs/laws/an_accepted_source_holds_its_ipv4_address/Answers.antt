use Rattle.trace_text.proofs.Addresses.{accepted}
use Rattle.trace_text.proofs.laws.an_accepted_source_holds_its_ipv4_address.Goals as goal

pub returns : goal.returns
returns k = λ rules dmr s port a e. accepted rules dmr s port a e
