-- What `[[forward]]` says.
use Rattle.std.specs.Prelude.{◌≡◌, ℕ, ◌-◌, ◌^◌, List, [], ◌∷◌, codes, nat_eq, true, false, if◌then◌else◌, Option, Some, None, option_and_then}
use Rattle.std.specs.Cmp.Lexicographic.{pointwise}
use Rattle.toml.specs.Data.{Data, Members}
use Rattle.octets.specs.declared.proto.Proto.{Proto}
use Rattle.octets.specs.declared.proto.Proto.TheVariants.{Tcp, Udp, Icmp}
use Rattle.nat_model.specs.declared.binding.Binding.{Binding}
use Rattle.setup_tables.specs.declared.forward.ForwardText.{ForwardText}
use Rattle.setup_tables.specs.Answer.{OfTable}
use Rattle.setup_tables.specs.Keys.{has_only, text_at, number_at, number_or}
use Rattle.setup_tables.specs.Spelled.{HasAddr4}

abbrev pub forward_keys : List (List ℕ)
forward_keys = codes "edge" ∷ codes "proto" ∷ codes "port" ∷ codes "host" ∷ codes "host_port" ∷ codes "until" ∷ []

-- the protocol of a word
abbrev pub proto_named : List ℕ → Option Proto
proto_named word =
    if pointwise nat_eq word (codes "udp") then Some Udp
    else (if pointwise nat_eq word (codes "tcp") then Some Tcp
    else (if pointwise nat_eq word (codes "icmp") then Some Icmp
    else None))

-- the protocol at a key
abbrev pub proto_at : List ℕ → Members → Option Proto
proto_at key ms = option_and_then proto_named (text_at key ms)

-- the greatest time at which a forward may end, and the one at which it ends where none is given, in microseconds
abbrev pub most_until : ℕ
most_until = 2 ^ 62 - 1

abbrev pub never : ℕ
never = 2 ^ 63 - 1

-- the table says this binding: from a host's end to an outside port, kept until some time
pub record HasBinding (ms : Members) (binding : Binding) : Type 0 where
  pub proto : proto_at (codes "proto") ms ≡ Some binding.proto
  pub host : HasAddr4 (codes "host") ms binding.host
  pub host_port : number_at (codes "host_port") 0 65535 ms ≡ Some binding.host_port
  pub port : number_at (codes "port") 0 65535 ms ≡ Some binding.port
  pub deadline : number_or never (codes "until") most_until ms ≡ Some binding.deadline
  pub live : binding.live ≡ false
  pub kept : binding.kept ≡ true

-- the table says this: the name of an edge, which may be any text, and a binding
pub record IsForwardTable (ms : Members) (forward : ForwardText) : Type 0 where
  pub keys : has_only forward_keys ms ≡ true
  pub edge : text_at (codes "edge") ms ≡ Some forward.edge
  pub binding : HasBinding ms forward.binding

abbrev pub IsForward : Data → ForwardText → Type 0
IsForward = OfTable IsForwardTable
