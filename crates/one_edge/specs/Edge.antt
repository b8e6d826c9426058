-- One customer edge, by the rules of its configuration (RFC 7597, section 5.2).
use Rattle.std.specs.Prelude.{◌≡◌, ℕ, ◌<◌, if◌then◌else◌, List, Option, Some, None}
use Rattle.octets.specs.declared.address.Addr4.{Addr4}
use Rattle.octets.specs.declared.address.Addr6.{Addr6}
use Rattle.octets.specs.declared.mtus.Mtus.{Mtus}
use Rattle.octets.specs.declared.prefix.Prefix6.{Prefix6}
use Rattle.port_set.specs.PortSet.{is_claimable, claimable_count, rank_of}
use Rattle.map_rules.specs.declared.dmr.Dmr.{Dmr}
use Rattle.map_rules.specs.declared.rule.Rule.{Rule}
use Rattle.map_rules.specs.Embedding.{embedded}
use Rattle.rule_book.specs.declared.book.Book.{Book}
use Rattle.rule_book.specs.Book.{rules_of, dmr_of}
use Rattle.rule_book.specs.Holder.{Holder, holder_in, holder_of}
use Rattle.one_edge.specs.declared.edge.OneEdge.{OneEdge}

-- the rules and the default mapping rule, what the edge holds under them, the least port that it may claim, and the MTUs
pub record Edge : Type 0 where
  pub rules : List Rule
  pub dmr : Dmr
  pub holder : Holder
  pub least : ℕ
  pub mtus : Mtus

-- what stands in a `OneEdge`
abbrev pub edge_in : OneEdge → Edge
edge_in one = record {
  rules = rules_of one.book;
  dmr = dmr_of one.book;
  holder = holder_in one.holder;
  least = one.least;
  mtus = one.mtus;
}

-- this is a claimable port, and none is less
abbrev pub IsLeastPort : Holder → ℕ → Type 0
IsLeastPort h port = (port < 65536) × (rank_of h.offset h.psid_length h.psid port ≡ Some 0)

-- the edge with this prefix under this book's rules
pub record IsEdgeUnder (book : Book) (prefix : Prefix6) (mtus : Mtus) (e : Edge) : Type 0 where
  pub by_rules : e.rules ≡ rules_of book
  pub by_default : e.dmr ≡ dmr_of book
  pub holds : holder_of (rules_of book) prefix ≡ Some e.holder
  pub claims : IsLeastPort e.holder e.least
  pub between : e.mtus ≡ mtus

-- it holds nothing, or no port that it may claim
abbrev pub HoldsNothing : Option Holder → Type 0
HoldsNothing None = Unit {0}
HoldsNothing (Some h) = claimable_count h.offset h.psid_length h.psid ≡ 0

abbrev pub LacksEdge : Book → Prefix6 → Type 0
LacksEdge book prefix = HoldsNothing (holder_of (rules_of book) prefix)

-- The outside port of a host's port: the same where the edge may claim it, and else the least that it may. So the machine
-- answers the only host end of a protocol, before and after its binding expired.
abbrev pub outside_port : Edge → ℕ → ℕ
outside_port e inside =
    if is_claimable e.holder.offset e.holder.psid_length e.holder.psid inside then inside else e.least

-- the edge's addresses, and an IPv4 address embedded under the default mapping rule
abbrev pub own4 : Edge → Addr4
own4 e = record { 0 = e.holder.addr }

abbrev pub own6 : Edge → Addr6
own6 e = record { 0 = e.holder.own6 }

abbrev pub far6 : Edge → Addr4 → Addr6
far6 e addr = record { 0 = embedded e.dmr.prefix.bits e.dmr.prefix.len addr.0 }
