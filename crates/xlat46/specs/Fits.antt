-- Numbers of an IPv4 header that fit their fields, as far as its translation looks at them.
use Rattle.std.specs.Prelude.{◌≡◌, ◌<◌, true}
use Rattle.ip4_packet.specs.declared.head.Head4.{Head4}
use Rattle.ip4_packet.specs.Fragment.{is_fragment}

-- the identification is looked at in a fragment alone
pub record FitsHead (h : Head4) : Type 0 where
  pub tos : h.tos < 256
  pub total : h.total < 65536
  pub id : is_fragment h ≡ true → h.id < 65536
