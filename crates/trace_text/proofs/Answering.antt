-- Which packets a machine's answer is for: the one that was asked about, and fragments of its key that it frees.
use Rattle.std.proofs.Common.{◌≡◌, ℕ, false, List, refl, sym, ap, ◌∙◌, subst}
use Rattle.octets.specs.declared.address.Addr4.{Addr4}
use Rattle.octets.specs.declared.address.Addr6.{Addr6}
use Rattle.ip6_packet.specs.declared.head.Head6.{Head6}
use Rattle.ip6_packet.specs.Grammar.{payload_of6}
use Rattle.frag_table.specs.declared.key.FragKey.{FragKey}
use Rattle.nat_model.specs.declared.answer.Answer.{Answer}
use Rattle.packets.specs.declared.packet4.Packet4.{Packet4}
use Rattle.packets.specs.declared.packet6.Content6.{Content6}
use Rattle.packets.specs.declared.packet6.Content6.TheVariants.{Segment as Segment6, Later as Later6, Query as Query6, Error as Error6}
use Rattle.packets.specs.declared.packet6.Packet6.{Packet6}
use Rattle.packets.specs.Asked.{flow_of4, flow_of6, extent_of4, extent_of6, key_of4, key_of6}
use Rattle.ip6_packet.specs.Fragment.{IsFragment6}
use Rattle.packets.specs.Packet6.{IsPacket6, IsContent6}
use Rattle.edge_node.specs.Asked.{near_addr4, near_addr6, near_port, other_port, asked_part, outward, inward}
use Rattle.trace_text.specs.Answered.{Step, AnsweredOut, AnsweredIn, answer_to}

abbrev addr4 : ℕ → Addr4
addr4 n = record { 0 = n }

abbrev addr6 : ℕ → Addr6
addr6 n = record { 0 = n }

pub own_out : (step : Step) (p : Packet4) (octets : List ℕ) (answer : Answer) → answer_to step (outward p (flow_of4 p.content) octets) ≡ answer → AnsweredOut step p.head.dst answer
own_out step p octets answer is =
    let flow = flow_of4 p.content in
    record {
      fault = flow.fault;
      proto = flow.proto;
      near = record { addr = near_addr4 p p.content; port = near_port flow };
      port = other_port flow;
      flags = flow.flags;
      part = asked_part (extent_of4 p.head) (key_of4 0 p.head) octets;
      is = is;
    }

pub freed_out_too : (step : Step) (first p : Packet4) (answer : Answer) → key_of4 0 p.head ≡ key_of4 0 first.head → AnsweredOut step first.head.dst answer → AnsweredOut step p.head.dst answer
freed_out_too step first p answer same is = subst (λ (a : Addr4). AnsweredOut step a answer) (sym (ap (λ (k : FragKey). addr4 k.dst) same)) is

pub own_in : (step : Step) (q : Packet6) (octets : List ℕ) (answer : Answer) → answer_to step (inward q (flow_of6 q.content) octets) ≡ answer → AnsweredIn step q.head.src (near_addr6 q q.content) answer
own_in step q octets answer is =
    let flow = flow_of6 q.content in
    record {
      fault = flow.fault;
      proto = flow.proto;
      port = other_port flow;
      dst = q.head.dst;
      far_port = near_port flow;
      flags = flow.flags;
      part = asked_part (extent_of6 q.head) (key_of6 1 q.head) octets;
      is = is;
    }

-- a fragment is no error
near_plain : (q : Packet6) (h : Head6) (payload : List ℕ) (content : Content6) → IsFragment6 h → IsContent6 false h payload content → near_addr6 q content ≡ q.head.src
near_plain q h payload (Segment6 proto l4) part has = refl
near_plain q h payload (Later6 proto) part has = refl
near_plain q h payload (Query6 m row) part has = refl
near_plain q h payload (Error6 m row inner) part has = absurd (has.message.whole part)

pub freed_in_too : (step : Step) (first q : Packet6) (one other : List ℕ) (answer : Answer) → IsPacket6 false first one → IsPacket6 false q other → IsFragment6 first.head → IsFragment6 q.head → key_of6 1 q.head ≡ key_of6 1 first.head
    → AnsweredIn step first.head.src (near_addr6 first first.content) answer → AnsweredIn step q.head.src (near_addr6 q q.content) answer
freed_in_too step first q one other answer is_first is_q part_first part_q same is =
    let src : q.head.src ≡ first.head.src = ap (λ (k : FragKey). addr6 k.src) same in
    let near : near_addr6 q q.content ≡ near_addr6 first first.content = near_plain q q.head (payload_of6 q.head other) q.content part_q is_q.content ∙ src ∙ sym (near_plain first first.head (payload_of6 first.head one) first.content part_first is_first.content) in
    subst (λ (a : Addr6). AnsweredIn step q.head.src a answer) (sym near) (subst (λ (a : Addr6). AnsweredIn step a (near_addr6 first first.content) answer) (sym src) is)
