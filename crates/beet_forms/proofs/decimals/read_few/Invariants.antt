use Rattle.std.proofs.Common.{◌≡◌, ◌<◌, ◌^◌, drop}
use Rattle.std.specs.List.{list_all}
use Rattle.std.specs.Char.{is_ascii_digit}
use Rattle.beet_forms.specs.Numbers.{read_on, decimal_value}
use Rattle.beet_forms.proofs.decimals.read_few.Given as goal

abbrev pub invariant-loop-digit : goal.invariant-loop-digit
invariant-loop-digit l = record {
  value : read_on l.value (drop l.digit-index l.digits) ≡ decimal_value l.digits;
  all : list_all is_ascii_digit (drop l.digit-index l.digits) ≡ list_all is_ascii_digit l.digits;
  small : l.value < 10 ^ l.digit-index;
}
