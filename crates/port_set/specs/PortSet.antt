-- The port set of a customer edge (RFC 7597, section 5.1). Ports are the numbers below 65536. A port
-- has `a` offset bits, then `k` PSID bits, then the rest.
use Rattle.std.specs.Prelude.{ℕ, ◌+◌, ◌-◌, ◌/◌, ◌%◌, ◌^◌, ◌≤◌, ◌==◌, nat_le, Bool, not, ◌&&◌, ◌||◌, if◌then◌else◌, IsTrue, Option, Some, None, zero, suc}

-- port x is in the set of PSID v: with no PSID bits each port is; else its PSID bits are v, and its
-- offset bits aren't all zero unless there are none
abbrev pub in_set : ℕ → ℕ → ℕ → ℕ → Bool
in_set a k v x = (k == 0) || (((a == 0) || nat_le (2 ^ (16 - a)) x) && (x / 2 ^ (16 - a - k) % 2 ^ k == v))

-- an edge may claim the ports of its set, but never port 0
abbrev pub is_claimable : ℕ → ℕ → ℕ → ℕ → Bool
is_claimable a k v x = in_set a k v x && not (x == 0)

-- how many numbers below n pass the test
unfoldable pub count_below : (ℕ → Bool) → ℕ → ℕ
count_below p zero = 0
count_below p (suc n) = count_below p n + (if p n then 1 else 0)

-- how many claimable ports there are
abbrev pub claimable_count : ℕ → ℕ → ℕ → ℕ
claimable_count a k v = count_below (is_claimable a k v) 65536

-- how many claimable ports are below a claimable one
abbrev pub rank_of : ℕ → ℕ → ℕ → ℕ → Option ℕ
rank_of a k v x = if is_claimable a k v x then Some (count_below (is_claimable a k v) x) else None

-- a run of ports that pass the test begins here: the port before doesn't pass
abbrev pub begins_run : (ℕ → Bool) → ℕ → Bool
begins_run p x = p x && ((x == 0) || not (p (x - 1)))

-- a run of ports that pass the test ends here: the port after doesn't pass
abbrev pub ends_run : (ℕ → Bool) → ℕ → Bool
ends_run p x = p x && ((x == 65535) || not (p (x + 1)))

-- the ports from first to last pass the test, and no longer run of ports around them does
pub record IsRun (p : ℕ → Bool) (first last : ℕ) : Type 0 where
  pub ordered : first ≤ last
  pub begins : IsTrue (begins_run p first)
  pub passes : (x : ℕ) → first ≤ x → x ≤ last → IsTrue (p x)
  pub ends : IsTrue (ends_run p last)

-- how many runs the set has
abbrev pub run_count : ℕ → ℕ → ℕ → ℕ
run_count a k v = count_below (begins_run (in_set a k v)) 65536
