-- Octets as hexadecimal text: digits of either case and at most one newline at the end.
use Rattle.std.specs.Prelude.{ℕ, ◌-◌, ◌&&◌, ◌==◌, nat_lt, List, length, take, slice_index, if◌then◌else◌, Result, Ok, Err}
use Rattle.hex.specs.declared.error.FromHexError.{FromHexError}
use Rattle.hex.specs.declared.error.FromHexError.TheVariants.{InvalidHexCharacter}
use Rattle.hex.specs.Hex.{decode_of}
use Rattle.s46_options.specs.declared.fault.OptionFault.{OptionFault}
use Rattle.s46_options.specs.declared.fault.OptionFault.TheVariants.{Short, NotMapt, BadLength, Reserved, BadPrefixLen, Padding, SecondParams, SecondDmr, TooManyRules, NoRule, NoDmr, NoMemory}
use Rattle.s46_options.specs.declared.digits.HexFault.{HexFault}
use Rattle.s46_options.specs.declared.digits.HexFault.TheVariants.{At}

-- the text without a newline at its end
abbrev pub digits_in : List ℕ → List ℕ
digits_in text = if nat_lt 0 (length text) && slice_index text (length text - 1) == 10 then take (length text - 1) text else text

-- digits that are no octets are told by the place of the first wrong one, but by their number where it is odd
abbrev pub told_by : List ℕ → Result (List ℕ) FromHexError → Result (List ℕ) HexFault
told_by digits (Ok octets) = Ok octets
told_by digits (Err (InvalidHexCharacter c i)) = Err (At i)
told_by digits (Err _) = Err (At (length digits))

-- the octets that a text spells
unfoldable pub hex_of : List ℕ → Result (List ℕ) HexFault
hex_of text = told_by (digits_in text) (decode_of (digits_in text))

-- the place of a fault in a text of so many octets: 0 for another code, and the end where something is missing
abbrev pub fault_place : OptionFault → ℕ → ℕ
fault_place (Short at) len = at
fault_place (NotMapt code) len = 0
fault_place (BadLength at) len = at
fault_place (Reserved at) len = at
fault_place (BadPrefixLen at) len = at
fault_place (Padding at) len = at
fault_place (SecondParams at) len = at
fault_place (SecondDmr at) len = at
fault_place (TooManyRules at) len = at
fault_place NoRule len = len
fault_place NoDmr len = len
fault_place NoMemory len = 0
