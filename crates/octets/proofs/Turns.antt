-- One turn of reading groups.
use Rattle.std.proofs.Common.{◌≡◌, ℕ, suc, ◌+◌, ◌-◌, ◌*◌, ◌≤◌, ◌<◌, List, Some, None, refl, arith}
use Rattle.octets.specs.Numeral.{colon, cut_at, numeral_at}
use Rattle.octets.specs.Text6.{groups_from}

pub last_none : (i count n : ℕ) (text : List ℕ) → i < 8 → cut_at colon text ≡ None → numeral_at 16 text ≡ None → groups_from (8 - i) count n text ≡ None
unfolding groups_from
last_none i count n text lt c e = let k : 8 - i ≡ suc (8 - (i + 1)) = omega arith in rw (k, c, e) refl

pub last_some : (i count n g : ℕ) (text : List ℕ) → i < 8 → cut_at colon text ≡ None → numeral_at 16 text ≡ Some g → groups_from (8 - i) count n text ≡ Some (count + 1, n * 65536 + g)
unfolding groups_from
last_some i count n g text lt c e = let k : 8 - i ≡ suc (8 - (i + 1)) = omega arith in rw (k, c, e) refl

pub next_none : (i count n : ℕ) (text first after : List ℕ) → i < 8 → cut_at colon text ≡ Some (first, after) → numeral_at 16 first ≡ None → groups_from (8 - i) count n text ≡ None
unfolding groups_from
next_none i count n text first after lt c e = let k : 8 - i ≡ suc (8 - (i + 1)) = omega arith in rw (k, c, e) refl

pub next_some : (i count n g : ℕ) (text first after : List ℕ) → i < 8 → cut_at colon text ≡ Some (first, after) → numeral_at 16 first ≡ Some g → groups_from (8 - i) count n text ≡ groups_from (8 - (i + 1)) (count + 1) (n * 65536 + g) after
unfolding groups_from
next_some i count n g text first after lt c e = let k : 8 - i ≡ suc (8 - (i + 1)) = omega arith in rw (k, c, e) refl

pub no_more : (i count n : ℕ) (text : List ℕ) → 8 ≤ i → groups_from (8 - i) count n text ≡ None
unfolding groups_from
no_more i count n text le = let k : 8 - i ≡ 0 = omega arith in rw k refl
