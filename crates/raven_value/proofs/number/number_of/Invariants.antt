use Rattle.std.proofs.Common.{◌≡◌, ◌<◌, ◌^◌, drop}
use Rattle.std.specs.List.{list_all}
use Rattle.spec_data.specs.Digits.{is_digit, number_from}
use Rattle.raven_value.proofs.number.number_of.Given as goal

abbrev pub invariant-loop-byte : goal.invariant-loop-byte
invariant-loop-byte l = record {
  digits : list_all is_digit l.text ≡ list_all is_digit (drop l.byte-index l.text);
  number : number_from 0 l.text ≡ number_from l.number (drop l.byte-index l.text);
  small : l.number < 10 ^ l.byte-index;
}
