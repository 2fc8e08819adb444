use Rattle.std.proofs.Common.{◌≡◌, ℕ, ◌<◌, length, true, false}
use Rattle.std.specs.Prelude.{slice_index, slice_index_or}
use Rattle.cfb_fat.proofs.fat.are_once.Given as goal

-- the marks are those of the numbers so far, and none of these stands twice
abbrev pub invariant-loop-id : goal.invariant-loop-id
invariant-loop-id l = record {
  size : length l.marks.items ≡ l.limit;
  met : (n : ℕ) → slice_index_or l.marks.items n false ≡ true → (k : ℕ) × (k < l.id-index) × (slice_index l.ids k ≡ n);
  marked : (k : ℕ) → k < l.id-index → slice_index_or l.marks.items (slice_index l.ids k) false ≡ true;
  once : (k m : ℕ) → k < m → m < l.id-index → slice_index l.ids k ≡ slice_index l.ids m → ⊥;
}
