use Rattle.std.proofs.Common.{◌≡◌, ℕ, ◌+◌, ◌<◌, ◌≤◌, vec_len}
use Rattle.std.specs.Prelude.{vec_capacity}
use Rattle.cfb_directory.specs.Entries.{IsOneOf}
use Rattle.cfb_directory.proofs.free.append_numbers.Given as goal

abbrev pub invariant-loop-id : goal.invariant-loop-id
invariant-loop-id l = record {
  len : vec_len l.numbers + l.id ≡ vec_len l.fn.numbers + (l.first + l.count);
  capacity : vec_capacity l.numbers ≡ vec_capacity l.fn.numbers;
  kept : (k : ℕ) → IsOneOf l.fn.numbers.items k → IsOneOf l.numbers.items k;
  noted : (k : ℕ) → l.id ≤ k → k < l.first + l.count → IsOneOf l.numbers.items k;
}
