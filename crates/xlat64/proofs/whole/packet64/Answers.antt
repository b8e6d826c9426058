use Rattle.std.proofs.Common.{◌≡◌, List, ℕ, ◌++◌, ap, subst, sym, ◌∙◌}
use Rattle.std.specs.Prelude.{IfOk, Option}
use Rattle.std.specs.Option.{option_map}
use Rattle.l4_headers.specs.declared.ports.L4.{L4}
use Rattle.l4_headers.specs.Transport.{with_l4}
use Rattle.ip4_packet.specs.declared.head.Head4.{Head4}
use Rattle.ip4_packet.specs.Written.{written4}
use Rattle.xlat64.specs.Head.{translated}
use Rattle.xlat64.specs.Read.{parts_of}
use Rattle.xlat64.specs.Whole.{packet64}
use Rattle.xlat64.proofs.whole.packet64.Goals as goal

pub returns-in-Some : goal.returns-in-Some
returns-in-Some c =
    let s = c.args.segment.now in
    let ends = c.args.ends.now in
    let payload = λ (sum : ℕ). with_l4 s.proto s.payload.now ends.ports sum in
    subst (λ (all : List ℕ). IfOk c.followed_by.result (λ octets. octets ≡ all))
    (ap (λ (front : List ℕ). front ++ payload c.sum64-sum.result) c.in_ok-front.ensures.written
    ∙ ap (λ (h : Head4). written4 h (payload c.sum64-sum.result)) c.head64.ensures
    ∙ ap (λ (sum : ℕ). written4 (translated c.args.head.now ends.src ends.dst c.args.id) (payload sum)) c.sum64-sum.ensures
    ∙ ap (λ (l4 : Option L4). packet64 (parts_of c.args.head.now s) ends.src ends.dst (option_map (λ (h : L4). ends.ports) l4) c.args.id) (sym c.in-Some.is))
    c.followed_by.ensures
