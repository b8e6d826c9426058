-- An embedded packet stands whole in the body of the error that embeds it.
use Rattle.std.proofs.Common.{ℕ, ◌+◌, ◌-◌, ◌*◌, ◌/◌, ◌%◌, ◌^◌, ◌==◌, ◌≤◌, Bool, true, false, cond, List, length, take, drop, arith}
use Rattle.std.proofs.lemmas.List.{length-take, length-drop}
use Rattle.icmp_messages.specs.declared.icmp4.Icmp4.{Icmp4}
use Rattle.icmp_messages.specs.declared.inner4.Inner4.{Inner4}
use Rattle.icmp_messages.specs.Inner.{IsInner4}
use Rattle.icmp_messages.specs.Extension.{embedded46}

-- no more octets than the body has
cut : (whole : Bool) (n : ℕ) (body : List ℕ) → length (cond whole body (take n body)) ≤ length body
cut true n body = omega arith
cut false n body = rw (length-take n body) (omega arith)

within : (at count : ℕ) (octets : List ℕ) → at ≤ length octets → at + length (take count (drop at octets)) ≤ length octets
within at count octets fits = rw (length-take count (drop at octets), length-drop at octets) (omega arith)

pub stands : (m : Icmp4) (inner : Inner4) → IsInner4 inner (embedded46 m) → inner.head.head_len + length inner.payload ≤ length m.body
stands m inner is =
    let less : length (embedded46 m) ≤ length m.body = cut (m.rest / 2 ^ 16 % 256 == 0) (4 * (m.rest / 2 ^ 16 % 256)) m.body in
    let there = within inner.head.head_len (inner.head.total - inner.head.head_len) (embedded46 m) is.header.stands in
    rw is.payload (omega arith)
