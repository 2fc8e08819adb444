use Rattle.std.proofs.Common.{◌≡◌, ◌≤◌, length, drop}
use Rattle.std.specs.Prelude.{◌==◌}
use Rattle.std.specs.List.{slice_split}
use Rattle.msi_texts.specs.Category.{are_groups, group_lens, is_hyphenated}
use Rattle.msi_texts.proofs.category.is_hyphenated.Given as goal

-- the groups so far were right
abbrev pub invariant-loop-group : goal.invariant-loop-group
invariant-loop-group l = record {
  right : are_groups (drop (length l.yielded) (slice_split (λ b. b == 45) l.bytes)) (drop l.count group_lens) ≡ is_hyphenated l.bytes;
  few : l.count ≤ 5;
}
