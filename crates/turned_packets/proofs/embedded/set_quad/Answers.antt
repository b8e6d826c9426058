use Rattle.std.proofs.Common.{◌-◌, ℕ, List, length, ap, ◌∙◌, arith}
use borrow.Rule.Slice.PartMut.{put_mid}
use Rattle.octets.specs.Field.{in_quad}
use Rattle.turned_packets.proofs.PutBack.{put_back}
use Rattle.turned_packets.proofs.embedded.set_quad.Goals as goal

pub returns-clause-quad : goal.returns-clause-quad
returns-clause-quad c =
    let at : ℕ = c.args.at in
    let octets : List ℕ = c.args.octets.now in
    ap (λ (part : List ℕ). put_mid at (length octets - at) octets part) c.write_u32.ensures
    ∙ put_back at 4 (in_quad c.args.number) octets (omega arith)
