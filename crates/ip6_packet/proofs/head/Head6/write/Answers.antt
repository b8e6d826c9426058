use Rattle.std.proofs.Common.{rules}
use Rattle.ip6_packet.specs.Written.{IsPacket6}
use Rattle.ip6_packet.proofs.WrittenLemmas.{written_again}
use Rattle.ip6_packet.proofs.head.Head6.write.Goals as goal

pub returns-clause-form : goal.returns-clause-form
returns-clause-form c = λ exact. record {
  exact = exact;
  unrouted = c.requires.unrouted;
  upper = c.requires.upper;
  placed = c.requires.placed;
  in_range = c.in_ok-octets.ensures.in_range;
  frag_in_range = c.in_ok-octets.ensures.frag_in_range;
  written = search rules;
}

pub returns-clause-again : goal.returns-clause-again
returns-clause-again c = λ is_sound.
    let h = c.args.self.now in
    let payload = c.args.payload.now in
    let form : IsPacket6 h payload c.extend.new.self = record {
      exact = is_sound.0;
      unrouted = c.requires.unrouted;
      upper = c.requires.upper;
      placed = c.requires.placed;
      in_range = c.in_ok-octets.ensures.in_range;
      frag_in_range = c.in_ok-octets.ensures.frag_in_range;
      written = search rules;
    } in
    written_again h payload c.extend.new.self form is_sound
