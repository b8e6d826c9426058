-- Ports that are given exactly to a packet that has some are the ones that it gets.
use Rattle.std.proofs.Common.{◌≡◌, ℕ, zero, suc, true, false, List, Some, None, refl, ap, arith}
use Rattle.std.specs.Prelude.{◌↔◌, ◌==◌, Option, IsSome, IfSome}
use Rattle.std.proofs.lemmas.Grind.{common_steps}
use Rattle.std.specs.Option.{option_map}
use Rattle.octets.specs.declared.proto.Proto.{Proto}
use Rattle.l4_headers.specs.declared.ports.L4.{L4}
use Rattle.l4_headers.specs.declared.ports.Ports.{Ports}
use Rattle.l4_headers.specs.Transport.{header_at}

pub given_ports : (offset : ℕ) (proto : Proto) (payload : List ℕ) (ports : Option Ports) (used : Ports) → (IsSome ports ↔ (offset ≡ 0))
    → IfSome ports (λ given. used ≡ given) → option_map (λ (header : L4). used) (header_at offset proto payload) ≡ ports
given_ports zero proto payload None used has is = absurd (let e : false ≡ true = has.1 refl in cc)
given_ports (suc n) proto payload None used has is = let no : (suc n == 0) ≡ false = grind (arith, common_steps) in rw no refl
given_ports zero proto payload (Some given) used has is = ap Some is
given_ports (suc n) proto payload (Some given) used has is = absurd (let e : suc n ≡ 0 = has.0 refl in cc)
