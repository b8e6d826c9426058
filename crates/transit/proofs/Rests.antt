-- The four octets behind the sum of an error that has a translation.
use Rattle.std.proofs.Common.{◌≡◌, ◌≢◌, ℕ, ◌/◌, ◌^◌, refl, Some, None}
use Rattle.std.specs.Prelude.{Option}
use Rattle.octets.specs.declared.mtus.Mtus.{Mtus}
use Rattle.icmp_messages.specs.declared.table.Rest.{Rest}
use Rattle.icmp_messages.specs.declared.table.Rest.TheVariants.{Query, Zero, Protocol, Mtu, Pointer}
use Rattle.icmp_messages.specs.Table.{pointer_of, pointers46, pointers64}
use Rattle.icmp_xlat.specs.Icmp46.{rest46}
use Rattle.icmp_xlat.specs.Icmp64.{rest64}

pub some_is : {A : Type 0} (o : Option A) → (o ≡ None → ⊥) → (x : A) × (o ≡ Some x)
some_is None h = absurd (h refl)
some_is (Some x) h = (x, refl)

pub rest_stands46 : (mtus : Mtus) (total rest : ℕ) (kind : Rest) → kind ≢ Query → (kind ≡ Pointer → pointer_of pointers46 (rest / 2 ^ 24) ≡ None → ⊥)
    → (x : ℕ) × (rest46 mtus total rest kind ≡ Some x)
rest_stands46 mtus total rest Query query pointer = absurd (query refl)
rest_stands46 mtus total rest Zero query pointer = (_, refl)
rest_stands46 mtus total rest Protocol query pointer = (_, refl)
rest_stands46 mtus total rest Mtu query pointer = (_, refl)
rest_stands46 mtus total rest Pointer query pointer = some_is (pointer_of pointers46 (rest / 2 ^ 24)) (pointer refl)

mapped : (o : Option ℕ) (f : ℕ → ℕ) → (o ≡ None → ⊥) → (x : ℕ) × (Rattle.std.specs.Option.option_map f o ≡ Some x)
mapped None f h = absurd (h refl)
mapped (Some x) f h = (f x, refl)

pub rest_stands64 : (mtus : Mtus) (rest : ℕ) (kind : Rest) → kind ≢ Query → (kind ≡ Pointer → pointer_of pointers64 rest ≡ None → ⊥)
    → (x : ℕ) × (rest64 mtus rest kind ≡ Some x)
rest_stands64 mtus rest Query query pointer = absurd (query refl)
rest_stands64 mtus rest Zero query pointer = (_, refl)
rest_stands64 mtus rest Protocol query pointer = (_, refl)
rest_stands64 mtus rest Mtu query pointer = (_, refl)
rest_stands64 mtus rest Pointer query pointer = mapped (pointer_of pointers64 rest) _ (pointer refl)
