use Rattle.std.proofs.Common.{◌≡◌, take, drop}
use Rattle.std.specs.Str.Parse.{AllDigits, digits_value}
use Rattle.octets.specs.Numeral.{digits_from}
use Rattle.octets.proofs.numeral.numeral.Given as goal

abbrev pub invariant-loop-octet : goal.invariant-loop-octet
invariant-loop-octet l = record {
  digits : AllDigits l.radix (take l.octet-index l.text);
  value : l.value ≡ digits_value l.radix (take l.octet-index l.text);
  rest : digits_from l.radix l.value (drop l.octet-index l.text) ≡ digits_from l.radix 0 l.text;
}
