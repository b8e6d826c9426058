-- What was read of a packet that is accepted.
use Rattle.std.proofs.Common.{◌≡◌, ℕ, List, Some, sym, ap, ◌∙◌, refl}
use Rattle.octets.specs.Protocol.{proto4}
use Rattle.octets.specs.declared.proto.Proto.{Proto}
use Rattle.ip4_packet.specs.declared.head.Head4.{Head4}
use Rattle.ip4_packet.specs.Grammar.{payload_of4}
use Rattle.xlat46.specs.Whole.{Parts4, HasNoTcpUdpCause4}

-- what was read are the parts
pub are_parts : (p : Parts4) (octets : List ℕ) (head : Head4) (proto : Proto) (payload : List ℕ) → HasNoTcpUdpCause4 p octets → p.head ≡ head
    → proto4 head.proto ≡ Some proto → payload ≡ payload_of4 head octets → p ≡ record { head = head; proto = proto; payload = payload }
are_parts p octets head proto payload sound is_head is_proto is_payload =
    let protocol : proto4 head.proto ≡ Some p.proto = rw is_head at sound.carried.protocol in
    let same : p.proto ≡ proto = cc in
    let rest : p.payload ≡ payload = sound.is.payload_is ∙ ap (λ (h : Head4). payload_of4 h octets) is_head ∙ sym is_payload in
    let made : Parts4 = record { head = p.head; proto = p.proto; payload = p.payload } in
    let first : p ≡ made = refl in
    first ∙ rw (is_head, same, rest) refl
