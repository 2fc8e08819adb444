use Rattle.std.proofs.Common.{◌≡◌, ◌<◌, take}
use Rattle.std.specs.Str.Parse.{AllDigits, digits_value}
use Rattle.idt_tables.proofs.types.width_of.Given as goal

-- the number of the digits so far
abbrev pub invariant-loop-digit : goal.invariant-loop-digit
invariant-loop-digit l = record {
  small : l.width < 65536;
  digits : AllDigits 10 (take l.digit-index l.digits);
  value : l.width ≡ digits_value 10 (take l.digit-index l.digits);
}
