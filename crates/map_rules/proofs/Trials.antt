-- The definitions, computed on published and worked numbers.
use Rattle.std.proofs.Common.{◌≡◌, refl}
use Rattle.map_rules.specs.Embedding.{embedded}
use Rattle.map_rules.specs.Address.{map_address}

-- 198.51.100.7 under 2001:db8:ffff::/64 and /48
embedded-64 : embedded 0x2001_0db8_ffff_0000_0000_0000_0000_0000 64 0xc633_6407 ≡ 0x2001_0db8_ffff_0000_00c6_3364_0700_0000
unfolding embedded
embedded-64 = refl

embedded-48 : embedded 0x2001_0db8_ffff_0000_0000_0000_0000_0000 48 0xc633_6407 ≡ 0x2001_0db8_ffff_c633_0064_0700_0000_0000
unfolding embedded
embedded-48 = refl

-- 192.0.2.33 under the prefixes of RFC 6052, section 2.4
embedded-32 : embedded 0x2001_0db8_0000_0000_0000_0000_0000_0000 32 0xc000_0221 ≡ 0x2001_0db8_c000_0221_0000_0000_0000_0000
unfolding embedded
embedded-32 = refl

embedded-40 : embedded 0x2001_0db8_0100_0000_0000_0000_0000_0000 40 0xc000_0221 ≡ 0x2001_0db8_01c0_0002_0021_0000_0000_0000
unfolding embedded
embedded-40 = refl

embedded-56 : embedded 0x2001_0db8_0122_0300_0000_0000_0000_0000 56 0xc000_0221 ≡ 0x2001_0db8_0122_03c0_0000_0221_0000_0000
unfolding embedded
embedded-56 = refl

embedded-96 : embedded 0x2001_0db8_0122_0344_0000_0000_0000_0000 96 0xc000_0221 ≡ 0x2001_0db8_0122_0344_0000_0000_c000_0221
unfolding embedded
embedded-96 = refl

-- rule 2001:db8::/40 with 192.0.2.0/24 and 16 EA bits: 192.0.2.18 with PSID 0x34
home : map_address 0x2001_0db8_0000_0000_0000_0000_0000_0000 40 16 8 0x12 0xc000_0212 0x34 ≡ 0x2001_0db8_0012_3400_0000_c000_0212_0034
home = refl
