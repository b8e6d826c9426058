-- A text spells one value.
use Rattle.std.proofs.Common.{◌≡◌, ℕ, ◌<◌, List, Option, Some, sym, ◌∙◌, arith}
use Rattle.std.proofs.lemmas.Option.{same_Some}
use Rattle.octets.specs.Numeral.{slash}
use Rattle.octets.specs.PrefixText.{IsPrefixText, IsPrefixText4, IsPrefixText6}
use Rattle.octets.specs.Text4.{IsText4, addr4_at}
use Rattle.octets.specs.Text6.{IsText6, addr6_at}
use Rattle.octets.proofs.Cuts.{Lacks}
use Rattle.octets.proofs.Prefixes.{both_are, prefix_again}
use Rattle.octets.proofs.Spelling4.{addr4_again, no_slash4}
use Rattle.octets.proofs.Spelling6.{addr6_again, no_slash6}

one_number : (o : Option ℕ) (n m : ℕ) → o ≡ Some n → o ≡ Some m → n ≡ m
one_number o n m first second = same_Some n m (sym first ∙ second)

pub one_addr4 : (text : List ℕ) (n m : ℕ) → IsText4 text n → IsText4 text m → n ≡ m
one_addr4 text n m first second = one_number (addr4_at text) n m (addr4_again text n first) (addr4_again text m second)

pub one_addr6 : (text : List ℕ) (n m : ℕ) → IsText6 text n → IsText6 text m → n ≡ m
one_addr6 text n m first second = one_number (addr6_at text) n m (addr6_again text n first) (addr6_again text m second)

one_prefix : (IsAddress : List ℕ → ℕ → Type 0) (address_at : List ℕ → Option ℕ) (width : ℕ) (text : List ℕ) (bits len other long : ℕ) → width < 256 → ((t : List ℕ) (n : ℕ) → IsAddress t n → Lacks slash t) → ((t : List ℕ) (n : ℕ) → IsAddress t n → address_at t ≡ Some n)
    → IsPrefixText IsAddress width text bits len → IsPrefixText IsAddress width text other long → (bits ≡ other) × (len ≡ long)
one_prefix IsAddress address_at width text bits len other long small lacks again first second =
    both_are (bits, len) (other, long) (sym (prefix_again IsAddress address_at width text bits len small lacks again first) ∙ prefix_again IsAddress address_at width text other long small lacks again second)

pub one_prefix4 : (text : List ℕ) (bits len other long : ℕ) → IsPrefixText4 text bits len → IsPrefixText4 text other long → (bits ≡ other) × (len ≡ long)
one_prefix4 text bits len other long = one_prefix IsText4 addr4_at 32 text bits len other long (omega arith) no_slash4 addr4_again

pub one_prefix6 : (text : List ℕ) (bits len other long : ℕ) → IsPrefixText6 text bits len → IsPrefixText6 text other long → (bits ≡ other) × (len ≡ long)
one_prefix6 text bits len other long = one_prefix IsText6 addr6_at 128 text bits len other long (omega arith) no_slash6 addr6_again
