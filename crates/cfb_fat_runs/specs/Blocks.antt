-- Runs in blocks, which are filled from the front.
use Rattle.std.specs.Prelude.{◌≡◌, ℕ, ◌*◌, ◌+◌, ◌-◌, ◌<◌, List, length, min, slice_index_or}
use Rattle.std.specs.List.{flat_map}
use Rattle.cfb_fat_runs.specs.BlockLen.{most_runs}
use Rattle.cfb_fat_runs.specs.declared.blocks.Block.{Block}
use Rattle.cfb_fat_runs.specs.declared.runs.Run.{Run}

-- the runs of a block
abbrev pub runs_in : Block → List Run
runs_in it = it.runs.items

-- those of blocks, one behind the other
abbrev pub joined_runs : List Block → List Run
joined_runs blocks = flat_map runs_in blocks

-- so many runs a block at this place has
abbrev pub count_in : List Block → ℕ → Block → ℕ
count_in blocks k d = length (runs_in (slice_index_or blocks k d))

-- so many runs fill the blocks from the front
abbrev pub AreFilled : ℕ → List Block → Type 0
AreFilled len blocks = (k : ℕ) (d : Block) → k < length blocks → count_in blocks k d ≡ min (len - k * most_runs) most_runs

-- so many do, and the block at one place has one more
pub record HasOneMoreAt (len at : ℕ) (blocks : List Block) : Type 0 where
  pub here : (d : Block) → count_in blocks at d ≡ min (len - at * most_runs) most_runs + 1
  pub others : (k : ℕ) (d : Block) → k < length blocks → (k ≡ at → ⊥) → count_in blocks k d ≡ min (len - k * most_runs) most_runs

-- so many do, but for one that the block at one place lacks
pub record HasOneLessAt (len at : ℕ) (blocks : List Block) : Type 0 where
  pub here : (d : Block) → count_in blocks at d + 1 ≡ min (len - at * most_runs) most_runs
  pub others : (k : ℕ) (d : Block) → k < length blocks → (k ≡ at → ⊥) → count_in blocks k d ≡ min (len - k * most_runs) most_runs
