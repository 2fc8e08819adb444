use Rattle.std.proofs.Common.{◌≡◌, ◌+◌, ◌≤◌, ◌++◌, length, map, take}
use Rattle.std.specs.Prelude.{Some}
use Rattle.std.specs.List.{AllByRecursion}
use Rattle.std.specs.Char.{IsScalar}
use Rattle.std.specs.Char.Utf16.{utf16_chars}
use Rattle.cfb_tree.proofs.comparing.decoded_units.Given as goal

abbrev pub invariant-units : goal.invariant-units
invariant-units l = record {
  long : length l.found ≡ 31;
  few : l.len + length l.rest ≤ length l.units;
  scalars : AllByRecursion IsScalar (take l.len l.found);
  so_far : utf16_chars l.units ≡ map Some (take l.len l.found) ++ utf16_chars l.rest;
}

abbrev pub decreases-units : goal.decreases-units
decreases-units l = length l.rest
