-- Later fragments of TCP and UDP, there and back.
use Rattle.std.proofs.Common.{◌≡◌, ℕ, ◌-◌, ◌%◌, ◌^◌, Bool, List, length, Some, refl, sym, ap, ◌∙◌, subst, arith}
use Rattle.octets.specs.declared.proto.Proto.{Proto}
use Rattle.ip4_packet.specs.Grammar.{payload_of4}
use Rattle.ip4_packet.specs.Written.{written4}
use Rattle.ip6_packet.specs.Written.{written6}
use Rattle.packets.specs.declared.packet4.Content4.{Content4}
use Rattle.packets.specs.declared.packet4.Content4.TheVariants.{Later as Later4}
use Rattle.packets.specs.declared.packet6.Content6.{Content6}
use Rattle.packets.specs.declared.packet6.Content6.TheVariants.{Later as Later6}
use Rattle.packets.specs.declared.packet6.Packet6.{Packet6}
use Rattle.packets.specs.Packet4.{IsContent4, IsLater4}
use Rattle.packets.specs.Packet6.{IsPacket6}
use Rattle.transit.specs.Passage46.{translation46}
use Rattle.transit.specs.Passage64.{translation64}
use Rattle.crossing.specs.Named.{IsPayload, uncut}
use Rattle.crossing.specs.Transfer.{Transfer, IsTakenAs, IsThere, IsBack, ComesOf, crossing_of, content_with}
use Rattle.crossing.proofs.Heads.{payload_len_is, some_same, offset_there, head_there, head_back, IsLaid, laid_inside, between, named_uncut}
use Rattle.crossing.proofs.Contents.{IsFlowNumber, flow_number, one_later}

pub record IsLaterLaid (t : Transfer) (proto : Proto) (six : List ℕ) : Type 0 where
  pub has : IsLater4 t.taken.head proto
  pub number : IsFlowNumber t.taken.head.proto proto
  pub laid : IsLaid t t.payload six

pub later_laid : (t : Transfer) (proto : Proto) (octets six : List ℕ) → t.taken.content ≡ Later4 proto → IsTakenAs t octets → IsThere t six → IsLaterLaid t proto six
later_laid t proto octets six e taken there =
    let h = t.taken.head in
    let over = t.payload in
    let has : IsLater4 h proto = subst (λ (c : Content4). IsContent4 h (payload_of4 h octets) c) e taken.is.content in
    let number = flow_number h.proto proto has.protocol has.no_icmp in
    let size : length over ≡ h.total - h.head_len = ap (λ (xs : List ℕ). length xs) taken.payload ∙ payload_len_is h (payload_of4 h octets) octets taken.is.is in
    record {
      has = has;
      number = number;
      laid = record {
        fits = omega (arith, size, taken.fits.total, taken.is.is.head_fits);
        upper = number.upper;
        written = sym (some_same (written6 (head_there t (h.total - h.head_len)) over) six (subst (λ (c : Content4). translation46 t.mtus h t.payload t.six c ≡ Some six) e there)) ∙ ap (λ (n : ℕ). written6 (head_there t n) over) (sym size);
      };
    }

pub later_content : (t : Transfer) (proto : Proto) (octets six : List ℕ) (at_relay : Bool) (q : Packet6) → t.taken.content ≡ Later4 proto
    → IsTakenAs t octets → IsThere t six → IsPacket6 at_relay q six → q.content ≡ Later6 proto
later_content t proto octets six at_relay q e taken there is =
    let laid = later_laid t proto octets six e taken there in
    one_later at_relay (head_there t (length t.payload)) t.payload proto q.content laid.number.six laid.has.no_icmp (λ first. laid.has.later (sym (offset_there t.taken.head) ∙ first)) (laid_inside t octets t.payload six at_relay q taken laid.laid is)

pub later_crosses : (t : Transfer) (proto : Proto) (octets six four : List ℕ) (at_relay : Bool) (q : Packet6) → t.taken.content ≡ Later4 proto
    → IsTakenAs t octets → IsThere t six → IsBack t at_relay q six four → ComesOf (crossing_of t) uncut four
later_crosses t proto octets six four at_relay q e taken there back =
    let over = t.payload in
    let laid = later_laid t proto octets six e taken there in
    let read = between t octets over six four at_relay q taken laid.laid back in
    let one = later_content t proto octets six at_relay q e taken there back.is in
    record {
      whole = over;
      sent = record { head = head_back t (length over); payload = over; octets = written4 (head_back t (length over)) over };
      named = named_uncut t over taken.fits read.lasts laid.laid.fits laid.number.back
          (subst (λ (c : Content4). IsPayload (crossing_of t) c (content_with t.four c) over) (sym e) refl);
      octets_are = sym (some_same (written4 (head_back t (length over)) over) four (subst (λ (c : Content6). translation64 (record { mtus = t.mtus; ends = t.four; id = (t.number % 2 ^ 16) }) (head_there t (length over)) over c ≡ Some four) one read.back));
    }
