use Rattle.std.proofs.Common.{◌≡◌, ◌+◌, ◌++◌, drop, map, length}
use Rattle.std.specs.List.{flat_map, list_all}
use Rattle.msi_pool.specs.Pool.{head_of, stored_of, width_bit}
use Rattle.msi_texts.specs.Numbers.{le_bytes}
use Rattle.reread_texts.specs.Pools.{can_be_written, lacking_from, pool_by, text_seen}
use Rattle.reread_texts.proofs.pool.rewrite.Given as goal

-- the bytes so far and those to come are all, as are the places; and what was written could be
abbrev pub invariant-loop-text : goal.invariant-loop-text
invariant-loop-text l = record {
  place : l.place ≡ l.text-index;
  pool : l.found.pool.items ++ flat_map head_of (stored_of (pool_by l.page l.is_long (map text_seen (drop l.text-index l.stored))))
      ≡ le_bytes 4 (65001 + width_bit l.is_long) ++ flat_map head_of (stored_of (pool_by l.page l.is_long (map text_seen l.stored)));
  texts : l.found.data.items ++ flat_map (λ s. s.0) (stored_of (pool_by l.page l.is_long (map text_seen (drop l.text-index l.stored))))
      ≡ flat_map (λ s. s.0) (stored_of (pool_by l.page l.is_long (map text_seen l.stored)));
  lacking : l.found.lacking.items ++ lacking_from l.page (l.place + 1) (map text_seen (drop l.text-index l.stored))
      ≡ lacking_from l.page 1 (map text_seen l.stored);
  written : list_all (can_be_written l.page) (map text_seen (drop l.text-index l.stored)) ≡ list_all (can_be_written l.page) (map text_seen l.stored);
}
