use Rattle.std.proofs.Common.{sym, subst, true, Bor}
use Rattle.std.specs.Prelude.{IfOk}
use Rattle.std.specs.Option.{option_map}
use Rattle.frag_table.specs.declared.answer.FragAnswer.{FragAnswer}
use Rattle.packets.specs.Found.{IsFound4, IsFound6}
use Rattle.transit.proofs.Both.{follows}
use Rattle.relay_node.specs.declared.taken.Taken.{Taken}
use Rattle.relay_node.specs.Hop.{IsRelayHop}
use Rattle.relay_node.specs.Taken.{is_six, IsRead}
use Rattle.relay_node.proofs.taken.Taken.hop.Goals as goal

pub returns-in-Six : goal.returns-in-Six
returns-in-Six g c =
    let octets = c.args.octets.now in
    let told = option_map (λ (a : Bor FragAnswer). a.now) c.args.told in
    let found = c.in-Six.found in
    let read : IsFound6 true octets found = subst (IsRead octets) c.in-Six.is c.requires in
    subst (λ (t : Taken). IfOk c.hop_of.result (λ hop. IsRelayHop c.args.relay.now (is_six t) octets told hop)) (sym c.in-Six.is)
    (follows _ _ c.hop_of.result (λ hop made. (found, read, made)) c.hop_of.ensures)

pub returns-in-Four : goal.returns-in-Four
returns-in-Four g c =
    let octets = c.args.octets.now in
    let told = option_map (λ (a : Bor FragAnswer). a.now) c.args.told in
    let found = c.in-Four.found in
    let read : IsFound4 octets found = subst (IsRead octets) c.in-Four.is c.requires in
    subst (λ (t : Taken). IfOk c.hop_of-in-Four.result (λ hop. IsRelayHop c.args.relay.now (is_six t) octets told hop)) (sym c.in-Four.is)
    (follows _ _ c.hop_of-in-Four.result (λ hop made. (found, read, made)) c.hop_of-in-Four.ensures)
