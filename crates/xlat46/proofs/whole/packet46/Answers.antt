use Rattle.std.proofs.Common.{◌≡◌, List, ℕ, ◌++◌, ap, subst, sym, ◌∙◌, arith}
use Rattle.std.specs.Prelude.{IfOk, Option}
use Rattle.std.specs.Option.{option_map}
use Rattle.l4_headers.specs.Transport.{with_l4}
use Rattle.l4_headers.specs.declared.ports.L4.{L4}
use Rattle.ip6_packet.specs.declared.head.Head6.{Head6}
use Rattle.ip6_packet.specs.Written.{written6}
use Rattle.xlat46.specs.Head.{translated}
use Rattle.xlat46.specs.Read.{parts_of}
use Rattle.xlat46.specs.Whole.{packet46}
use Rattle.xlat46.proofs.Placed.{placed}
use Rattle.xlat46.proofs.whole.packet46.Goals as goal

pub write_front-requires : goal.write_front-requires
write_front-requires c =
    rw c.head46.ensures (placed c.args.head.now c.args.ends.now.src c.args.ends.now.dst c.requires.offset (omega arith))

pub returns-in-Some : goal.returns-in-Some
returns-in-Some c =
    let s = c.args.segment.now in
    let ends = c.args.ends.now in
    let payload = λ (sum : ℕ). with_l4 s.proto s.payload.now ends.ports sum in
    subst (λ (all : List ℕ). IfOk c.followed_by.result (λ octets. octets ≡ all))
    (ap (λ (front : List ℕ). front ++ payload c.sum46-sum.result) c.in_ok-front.ensures.written
    ∙ ap (λ (h : Head6). written6 h (payload c.sum46-sum.result)) c.head46.ensures
    ∙ ap (λ (sum : ℕ). written6 (translated c.args.head.now ends.src ends.dst) (payload sum)) c.sum46-sum.ensures
    ∙ ap (λ (l4 : Option L4). packet46 (parts_of c.args.head.now s) ends.src ends.dst (option_map (λ (h : L4). ends.ports) l4)) (sym c.in-Some.is))
    c.followed_by.ensures
