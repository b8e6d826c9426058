-- Where packets stand next, computed on the home 2001:db8:12:3400::/56 as the edge of number 0, another home
-- 2001:db8:12:3500::/56 as that of number 1, and the default mapping rule 2001:db8:ffff::/64.
use Rattle.std.proofs.Common.{◌≡◌, refl, ℕ, List, true, Some, None}
use Rattle.std.specs.Prelude.{[], ◌∷◌}
use Rattle.rule_book.specs.Book.{dmr_of}
use Rattle.hops.specs.declared.hop.Out.TheVariants.{Access as OnAccess, Turn}
use Rattle.edge_node.specs.declared.way.Way.TheVariants.{Access, Turned, Lan}
use Rattle.setup_tables.specs.declared.edge.EdgeLine.{EdgeLine}
use Rattle.mapt_setup.specs.declared.capture.Side.TheVariants.{Access as FromAccess}
use Rattle.mapt_setup.specs.declared.setup.Setup.{Setup}
use Rattle.journeys.specs.declared.stand.Stand.TheVariants.{Edge, Relay}
use Rattle.journeys.specs.Waiting.{next_stand, first_stand}

record AreHomes (setup : Setup) (home other : EdgeLine) : Type 0 where
  edges : setup.edges ≡ home ∷ other ∷ []
  bits : home.prefix.bits ≡ 0x2001_0db8_0012_3400_0000_0000_0000_0000
  len : home.prefix.len ≡ 56
  other_bits : other.prefix.bits ≡ 0x2001_0db8_0012_3500_0000_0000_0000_0000
  other_len : other.prefix.len ≡ 56
  dmr_bits : (dmr_of setup.book).prefix.bits ≡ 0x2001_0db8_ffff_0000_0000_0000_0000_0000
  dmr_len : (dmr_of setup.book).prefix.len ≡ 64

-- headers to the MAP address of the home, of the other home, to the embedded 198.51.100.7, and to 2001:db8:fffe::1
abbrev to_home : List ℕ
to_home =
    96 ∷ 0 ∷ 0 ∷ 0 ∷ 0 ∷ 10 ∷ 17 ∷ 63 ∷
    32 ∷ 1 ∷ 13 ∷ 184 ∷ 0 ∷ 18 ∷ 52 ∷ 0 ∷
    0 ∷ 0 ∷ 192 ∷ 0 ∷ 2 ∷ 18 ∷ 0 ∷ 52 ∷
    32 ∷ 1 ∷ 13 ∷ 184 ∷ 0 ∷ 18 ∷ 52 ∷ 0 ∷
    0 ∷ 0 ∷ 192 ∷ 0 ∷ 2 ∷ 18 ∷ 0 ∷ 52 ∷ []

abbrev to_other : List ℕ
to_other =
    96 ∷ 0 ∷ 0 ∷ 0 ∷ 0 ∷ 10 ∷ 17 ∷ 63 ∷
    32 ∷ 1 ∷ 13 ∷ 184 ∷ 0 ∷ 18 ∷ 52 ∷ 0 ∷
    0 ∷ 0 ∷ 192 ∷ 0 ∷ 2 ∷ 18 ∷ 0 ∷ 52 ∷
    32 ∷ 1 ∷ 13 ∷ 184 ∷ 0 ∷ 18 ∷ 53 ∷ 0 ∷
    0 ∷ 0 ∷ 192 ∷ 0 ∷ 2 ∷ 18 ∷ 0 ∷ 53 ∷ []

abbrev to_far : List ℕ
to_far =
    96 ∷ 0 ∷ 0 ∷ 0 ∷ 0 ∷ 10 ∷ 17 ∷ 63 ∷
    32 ∷ 1 ∷ 13 ∷ 184 ∷ 0 ∷ 18 ∷ 52 ∷ 0 ∷
    0 ∷ 0 ∷ 192 ∷ 0 ∷ 2 ∷ 18 ∷ 0 ∷ 52 ∷
    32 ∷ 1 ∷ 13 ∷ 184 ∷ 255 ∷ 255 ∷ 0 ∷ 0 ∷
    0 ∷ 198 ∷ 51 ∷ 100 ∷ 7 ∷ 0 ∷ 0 ∷ 0 ∷ []

abbrev to_nobody : List ℕ
to_nobody =
    96 ∷ 0 ∷ 0 ∷ 0 ∷ 0 ∷ 10 ∷ 17 ∷ 63 ∷
    32 ∷ 1 ∷ 13 ∷ 184 ∷ 0 ∷ 18 ∷ 52 ∷ 0 ∷
    0 ∷ 0 ∷ 192 ∷ 0 ∷ 2 ∷ 18 ∷ 0 ∷ 52 ∷
    32 ∷ 1 ∷ 13 ∷ 184 ∷ 255 ∷ 254 ∷ 0 ∷ 0 ∷
    0 ∷ 0 ∷ 0 ∷ 0 ∷ 0 ∷ 0 ∷ 0 ∷ 1 ∷ []

the_home_gets_its_own : (setup : Setup) (home other : EdgeLine) → AreHomes setup home other
    → next_stand setup (Relay true) (OnAccess to_home) ≡ Some (Edge 0 Access)
the_home_gets_its_own setup home other is = simp (is.edges, is.bits, is.len)

the_other_home_gets_its_own : (setup : Setup) (home other : EdgeLine) → AreHomes setup home other
    → next_stand setup (Edge 0 Lan) (OnAccess to_other) ≡ Some (Edge 1 Access)
the_other_home_gets_its_own setup home other is = simp (is.edges, is.bits, is.len, is.other_bits, is.other_len)

what_embeds_an_address_is_the_relays : (setup : Setup) (home other : EdgeLine) → AreHomes setup home other
    → next_stand setup (Edge 0 Lan) (OnAccess to_far) ≡ Some (Relay true)
what_embeds_an_address_is_the_relays setup home other is =
    simp (is.edges, is.bits, is.len, is.other_bits, is.other_len, is.dmr_bits, is.dmr_len)

what_is_in_no_prefix_goes_nowhere : (setup : Setup) (home other : EdgeLine) → AreHomes setup home other
    → next_stand setup (Edge 0 Lan) (OnAccess to_nobody) ≡ None
what_is_in_no_prefix_goes_nowhere setup home other is =
    simp (is.edges, is.bits, is.len, is.other_bits, is.other_len, is.dmr_bits, is.dmr_len)

-- a record of the access network starts where its destination says; one that is no header of IPv6 starts at the relay
an_unrouted_record_starts_nowhere : (setup : Setup) (home other : EdgeLine) → AreHomes setup home other
    → first_stand setup FromAccess to_nobody ≡ None
an_unrouted_record_starts_nowhere setup home other is =
    simp (is.edges, is.bits, is.len, is.other_bits, is.other_len, is.dmr_bits, is.dmr_len)

octets_of_another_version_start_at_the_relay : (setup : Setup) → first_stand setup FromAccess (69 ∷ []) ≡ Some (Relay true)
octets_of_another_version_start_at_the_relay setup = refl

-- a packet of IPv4 leaves the domain or turns, whatever its octets are
what_an_edge_turns_it_takes_again : (setup : Setup) (octets : List ℕ) → next_stand setup (Edge 1 Lan) (Turn octets) ≡ Some (Edge 1 Turned)
what_an_edge_turns_it_takes_again setup octets = refl
