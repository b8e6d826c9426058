use Rattle.std.proofs.Common.{◌≡◌, sym, subst, ◌∙◌, ap, refl, arith, ⊎_elim, Err, Ok, inr}
use Rattle.std.specs.Prelude.{Result, List, ℕ, IsErrAnd}
use Rattle.octets.specs.declared.address.Addr4.{Addr4}
use Rattle.octets.specs.declared.cause.Cause.TheVariants.{IcmpKind}
use Rattle.octets.specs.declared.cause.Fault.{Fault}
use Rattle.octets.specs.declared.cause.Fault.TheVariants.{Drop, NoMemory}
use Rattle.ip6_packet.specs.declared.head.Head6.{Head6}
use Rattle.ip6_packet.specs.Grammar.{payload_of6}
use Rattle.icmp_messages.specs.declared.icmp6.Icmp6.{Icmp6}
use Rattle.icmp_messages.specs.Message.{IsIcmp6}
use Rattle.icmp_xlat.specs.declared.passing.Passing.{Passing}
use Rattle.icmp_xlat.specs.Icmp64.{IsAnswer64}
use Rattle.icmp_messages.specs.Rows.{MayEmbed64}
use Rattle.icmp_xlat.proofs.to_icmp4.icmp64.Goals as goal

pub answer64-requires-clause-embeds : goal.answer64-requires-clause-embeds
answer64-requires-clause-embeds c =
    let given = c.requires.is in
    let is_head : c.requires.head ≡ c.accepted-head.result = c.accepted-head.ensures.only c.requires.head (payload_of6 c.requires.head c.args.packet.now) given.is in
    let there : IsIcmp6 c.accepted-head.result.src c.accepted-head.result.dst c.requires.message c.payload.result.now = rw (c.payload.ensures, ← is_head) given.message in
    let is_message : c.in_ok-message.message ≡ c.requires.message = c.in_ok-message.ensures.only c.requires.message there in
    subst (λ (m : Icmp6). MayEmbed64 m) (sym is_message) c.requires.embeds

pub returns : goal.returns
returns c = λ head m given.
    let by : Passing Addr4 = record { mtus = c.args.mtus; ends = c.args.ends.now; id = c.args.id } in
    let is_head : head ≡ c.accepted-head.result = c.accepted-head.ensures.only head (payload_of6 head c.args.packet.now) given.is in
    let there : IsIcmp6 c.accepted-head.result.src c.accepted-head.result.dst m c.payload.result.now = rw (c.payload.ensures, ← is_head) given.message in
    let is_message : c.in_ok-message.message ≡ m = c.in_ok-message.ensures.only m there in
    subst (λ (h : Head6). IsAnswer64 by h m c.answer64.result) (sym is_head)
    (subst (λ (x : Icmp6). IsAnswer64 by c.accepted-head.result x c.answer64.result) is_message c.answer64.ensures)

-- want of memory is an answer to every message
wants_memory : (by : Passing Addr4) (head : Head6) (m : Icmp6) (r : Result (List ℕ) Fault) (e : Fault) → IsErrAnd r (λ f. f ≡ e) → e ≡ NoMemory → IsAnswer64 by head m r
wants_memory by head m (Ok octets) e is memory = absurd is
wants_memory by head m (Err f) e is memory =
    let same : f ≡ NoMemory = is ∙ memory in
    record {
      query = λ row found query. tt;
      error = λ row inner rest found embeds is. tt;
      refused = λ h. absurd (let dropped : f ≡ Drop IcmpKind = cc in cc);
      lacking = λ lacks. refl;
      no_other = inr same;
    }

pub returns-in_err-message : goal.returns-in_err-message
returns-in_err-message c = λ head m given.
    let by : Passing Addr4 = record { mtus = c.args.mtus; ends = c.args.ends.now; id = c.args.id } in
    let is_head : head ≡ c.accepted-head.result = c.accepted-head.ensures.only head (payload_of6 head c.args.packet.now) given.is in
    let there : IsIcmp6 c.accepted-head.result.src c.accepted-head.result.dst m c.payload.result.now = rw (c.payload.ensures, ← is_head) given.message in
    let e : Fault = c.in_err-message.field-0.0 in
    let told = c.in_err-message.ensures in
    let memory : e ≡ NoMemory =
    ⊎_elim
    (λ h. absurd (let short = told.short.0 (ap Err h) in omega (arith, short, there.stands)))
    (⊎_elim (λ h. absurd ((told.wrong.0 (ap Err h)).1 there.right)) (λ h. h))
    told.no_other
    in
    wants_memory by head m c.from_residual.result e c.from_residual.ensures.1 memory
