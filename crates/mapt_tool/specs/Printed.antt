-- What the command `options` says of a container of DHCPv6 options in hexadecimal text.
use Rattle.std.specs.Prelude.{◌≡◌, ◌⊎◌, ℕ, List, length, Some, None, Result, Ok, Err}
use Rattle.setup_tables.specs.declared.fault.SetupCause.TheVariants.{BadHex, BadContainer}
use Rattle.s46_options.specs.declared.fault.OptionFault.{OptionFault}
use Rattle.s46_options.specs.declared.digits.HexFault.TheVariants.{At}
use Rattle.s46_options.specs.declared.item.Item.{Item}
use Rattle.s46_options.specs.Digits.{hex_of, fault_place}
use Rattle.s46_options.specs.Faults.{fault_of}
use Rattle.s46_options.specs.Reading.{ReadsContainer}
use Rattle.s46_options.specs.Text.{container_text}
use Rattle.mapt_tool.specs.declared.status.Status.{Status}
use Rattle.mapt_tool.specs.declared.status.Status.TheVariants.{SetupRefused}
use Rattle.mapt_tool.specs.Planned.{Planned, says}

-- the octets of a text, or the place at which it is no hexadecimal text
abbrev pub IsHex : List ℕ → Result (List ℕ) Status → Type 0
IsHex text (Ok octets) = hex_of text ≡ Ok octets
IsHex text (Err status) = (place : ℕ) × (hex_of text ≡ Err (At place)) × (status ≡ SetupRefused BadHex place)

-- the container of these octets, or the place of their first fault
abbrev pub IsContainer : List ℕ → Result (List Item) Status → Type 0
IsContainer octets (Ok items) = ReadsContainer octets items × (fault_of octets ≡ None)
IsContainer octets (Err status) =
    (fault : OptionFault) × (fault_of octets ≡ Some fault) × (status ≡ SetupRefused BadContainer (fault_place fault (length octets)))

-- what is said of a text
abbrev pub IsOptions : List ℕ → Result Planned Status → Type 0
IsOptions text (Ok plan) =
    (octets : List ℕ) × (items : List Item) × IsHex text (Ok octets) × IsContainer octets (Ok items)
    × (plan ≡ says (container_text items))
IsOptions text (Err status) = IsHex text (Err status) ⊎ ((octets : List ℕ) × IsHex text (Ok octets) × IsContainer octets (Err status))
