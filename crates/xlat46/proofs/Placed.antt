-- Translated headers are in front of their payload as they are written.
use Rattle.std.proofs.Common.{◌≡◌, ℕ, ◌-◌, ◌<◌, ◌≤◌, Bool, true, false, cond, Some, None, refl, arith}
use Rattle.std.specs.Prelude.{is_some}
use Rattle.octets.specs.declared.address.Addr6.{Addr6}
use Rattle.ip4_packet.specs.declared.head.Head4.{Head4}
use Rattle.ip6_packet.specs.declared.head.Frag6.{Frag6}
use Rattle.ip6_packet.specs.Written.{IsPlaced}
use Rattle.xlat46.specs.Head.{translated}
use Rattle.ip4_packet.specs.Fragment.{is_fragment}

placed_by : (fragment : Bool) (frag : Frag6) (len : ℕ) → frag.offset < 8192 → len ≤ 65515
    → let header = cond fragment (Some frag) None in IsPlaced (cond (is_some header) 48 40) len header
placed_by true frag len low fits = (refl, omega arith, low)
placed_by false frag len low fits = refl

pub placed : (old : Head4) (src dst : Addr6) → old.offset < 8192 → old.total - old.head_len ≤ 65515
    → let new = translated old src dst in IsPlaced new.start new.length new.frag
placed old src dst low fits = placed_by (is_fragment old) (record { offset = old.offset; more = old.mf; id = old.id }) (old.total - old.head_len) low fits
