use Rattle.std.proofs.Common.{◌≡◌, ℕ, List, true}
use Rattle.std.specs.Prelude.{◌||◌, IsSome, bytes_eq, is_some, string_bytes}
use Rattle.std.specs.List.{list_any}
use Rattle.std.specs.BTreeMap.{get_by_text}
use Rattle.msi_pool_index.specs.PoolParts.{has_room}
use Rattle.msi_pool_index.proofs.drafts.hold_texts.Given as goal

-- each text is there or left to come
abbrev pub invariant-loop-text : goal.invariant-loop-text
invariant-loop-text l = record {
  there : (t : List ℕ) → IsSome (get_by_text l.touched t) → (is_some (get_by_text l.room t) || list_any (λ text. bytes_eq t (string_bytes text)) l.text-iterator) ≡ true;
  same : (t : List ℕ) (i : ℕ) → has_room l.room t i ≡ has_room l.fn.room t i;
}
