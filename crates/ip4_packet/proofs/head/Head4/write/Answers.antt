use Rattle.std.proofs.Common.{◌≡◌, rules}
use Rattle.ip4_packet.specs.Written.{written4}
use Rattle.ip4_packet.proofs.WrittenLemmas.{written_again}
use Rattle.ip4_packet.proofs.head.Head4.write.Goals as goal

pub returns-clause-again : goal.returns-clause-again
returns-clause-again c = λ is_sound.
    let h = c.args.self.now in
    let payload = c.args.payload.now in
    let e : c.extend.new.self ≡ written4 h payload = search rules in
    rw e (written_again h payload c.in_ok-octets.ensures.in_range c.requires.bare c.requires.unrouted c.requires.offset is_sound)
