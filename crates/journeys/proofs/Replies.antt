-- Answers to packets that are dropped: each is an ICMP error, and none answers an ICMP error.
use Rattle.std.proofs.Common.{◌≡◌, refl, ℕ, inl, true, List, Option, Some, None, arith}
use Rattle.std.specs.Prelude.{length}
use Rattle.std.proofs.lemmas.List.{length-take}
use Rattle.octets.specs.declared.address.Addr4.{Addr4}
use Rattle.octets.specs.declared.address.Addr6.{Addr6}
use Rattle.octets.specs.declared.cause.Cause.{Cause}
use Rattle.octets.specs.declared.cause.Cause.TheVariants.{SourceRoute, TtlSpent, TooBig}
use Rattle.octets.specs.declared.mtus.Mtus.{Mtus}
use Rattle.ip4_packet.specs.declared.head.Head4.{Head4}
use Rattle.ip4_packet.specs.Grammar.{payload_of4, Is4, trimmed4}
use Rattle.ip6_packet.specs.declared.head.Head6.{Head6}
use Rattle.ip6_packet.specs.Grammar.{payload_of6, Is6, trimmed6}
use Rattle.packet_faults.specs.Error.{error4, error6, error_head4, error_head6, error_message4, error_message6}
use Rattle.packet_faults.specs.declared.notice.Notice.{Notice}
use Rattle.hops.specs.declared.answering.Answering.{Answering}
use Rattle.hops.specs.Reply.{notice4, notice6, IsAnswer4, IsAnswer6, IsReply4, IsReply6}
use Rattle.journeys.specs.Rank.{is_fault4, is_fault6, is_error_type4, is_error_type6}
use Rattle.journeys.proofs.Faults.{written_fault4, written_fault6, is_error4, is_error6}

error_fault4 : (h : Head4) (packet : List ℕ) (what : Notice) (src : Addr4) (id : ℕ) → is_error_type4 what.kind ≡ true
    → is_fault4 (error4 h packet what src id) ≡ true
error_fault4 h packet what src id kind =
    written_fault4 (error_head4 h src id (length (error_message4 h packet what))) (error_message4 h packet what)
    refl (omega arith) (omega (arith, length-take 548 (trimmed4 h packet))) kind

error_fault6 : (h : Head6) (packet : List ℕ) (what : Notice) (src : Addr6) → is_error_type6 what.kind ≡ true
    → is_fault6 (error6 h packet what src) ≡ true
error_fault6 h packet what src kind =
    written_fault6 (error_head6 h src (length (error_message6 h packet what src))) (error_message6 h packet what src)
    refl refl (omega arith) (omega (arith, length-take 1232 (trimmed6 h packet))) kind

kind4 : (mtus : Mtus) (cause : Cause) (what : Notice) → notice4 mtus cause ≡ Some what → is_error_type4 what.kind ≡ true
kind4 mtus SourceRoute what e = cc
kind4 mtus TtlSpent what e = cc
kind4 mtus TooBig what e = cc
kind4 mtus _ what e = cc

kind6 : (mtus : Mtus) (left : Option ℕ) (cause : Cause) (what : Notice) → notice6 mtus left cause ≡ Some what → is_error_type6 what.kind ≡ true
kind6 mtus left SourceRoute what e = cc
kind6 mtus left TtlSpent what e = cc
kind6 mtus left TooBig what e = cc
kind6 mtus left _ what e = cc

answer_fault4 : (h : Head4) (packet : List ℕ) (from : Answering Addr4) (n : Option Notice) (octets : List ℕ)
    → ((what : Notice) → n ≡ Some what → is_error_type4 what.kind ≡ true) → IsAnswer4 h packet from n (Some octets) → is_fault4 octets ≡ true
answer_fault4 h packet from None octets kinds is = absurd (cc)
answer_fault4 h packet from (Some what) octets kinds is = rw is.1 (error_fault4 h packet what from.src from.id (kinds what refl))

answer_fault6 : (h : Head6) (packet : List ℕ) (from : Answering Addr6) (n : Option Notice) (octets : List ℕ)
    → ((what : Notice) → n ≡ Some what → is_error_type6 what.kind ≡ true) → IsAnswer6 h packet from n (Some octets) → is_fault6 octets ≡ true
answer_fault6 h packet from None octets kinds is = absurd (cc)
answer_fault6 h packet from (Some what) octets kinds is = rw is.1 (error_fault6 h packet what from.src (kinds what refl))

-- an answer is an ICMP error
pub reply_fault4 : (from : Answering Addr4) (h : Head4) (packet : List ℕ) (cause : Cause) (octets : List ℕ) → IsReply4 from h packet cause (Some octets)
    → is_fault4 octets ≡ true
reply_fault4 from h packet cause octets is =
    answer_fault4 h packet from (notice4 from.mtus cause) octets (kind4 from.mtus cause) is

pub reply_fault6 : (from : Answering Addr6) (h : Head6) (packet : List ℕ) (cause : Cause) (octets : List ℕ) → IsReply6 from h packet cause (Some octets)
    → is_fault6 octets ≡ true
reply_fault6 from h packet cause octets is =
    answer_fault6 h packet from (notice6 from.mtus h.left cause) octets (kind6 from.mtus h.left cause) is

no_answer4 : (h : Head4) (packet : List ℕ) (from : Answering Addr4) (n : Option Notice) (reply : Option (List ℕ)) → Is4 h (payload_of4 h packet) packet
    → is_fault4 packet ≡ true → IsAnswer4 h packet from n reply → reply ≡ None
no_answer4 h packet from None reply here fault is = is
no_answer4 h packet from (Some what) reply here fault is = is.0.1 (inl (is_error4 h packet here fault))

no_answer6 : (h : Head6) (packet : List ℕ) (from : Answering Addr6) (n : Option Notice) (reply : Option (List ℕ)) → Is6 h (payload_of6 h packet) packet
    → is_fault6 packet ≡ true → IsAnswer6 h packet from n reply → reply ≡ None
no_answer6 h packet from None reply here fault is = is
no_answer6 h packet from (Some what) reply here fault is = is.0.1 (inl (is_error6 h packet here fault))

-- and nothing answers one
pub no_reply4 : (from : Answering Addr4) (h : Head4) (packet : List ℕ) (cause : Cause) (reply : Option (List ℕ)) → Is4 h (payload_of4 h packet) packet
    → is_fault4 packet ≡ true → IsReply4 from h packet cause reply → reply ≡ None
no_reply4 from h packet cause reply here fault is = no_answer4 h packet from (notice4 from.mtus cause) reply here fault is

pub no_reply6 : (from : Answering Addr6) (h : Head6) (packet : List ℕ) (cause : Cause) (reply : Option (List ℕ)) → Is6 h (payload_of6 h packet) packet
    → is_fault6 packet ≡ true → IsReply6 from h packet cause reply → reply ≡ None
no_reply6 from h packet cause reply here fault is = no_answer6 h packet from (notice6 from.mtus h.left cause) reply here fault is
