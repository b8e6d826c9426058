use Rattle.std.proofs.Common.{◌-◌, ℕ, List, length, ap, ◌∙◌, arith}
use borrow.Rule.Slice.PartMut.{put_mid}
use Rattle.octets.specs.Field.{in_word}
use Rattle.turned_packets.proofs.PutBack.{put_back}
use Rattle.turned_packets.proofs.embedded.set_word.Goals as goal

pub returns-clause-word : goal.returns-clause-word
returns-clause-word c =
    let at : ℕ = c.args.at in
    let octets : List ℕ = c.args.octets.now in
    ap (λ (part : List ℕ). put_mid at (length octets - at) octets part) c.write_u16.ensures
    ∙ put_back at 2 (in_word c.args.number) octets (omega arith)
