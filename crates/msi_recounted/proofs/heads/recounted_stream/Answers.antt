use Rattle.std.proofs.Common.{◌≡◌, ◌∙◌, ◌+◌, ◌-◌, ◌++◌, ◌<◌, ◌≤◌, ⊎_elim, ℕ, List, inl, inr, length, get_or, ap, ap₂, sym, subst, arith}
use Rattle.msi_pool.specs.Pool.{PoolEntry, pool_entry_at, head_of, pool_stream, stored_place}
use Rattle.msi_pool.specs.PoolState.{length_limit}
use Rattle.msi_texts.specs.Page.{encoded}
use Rattle.msi_recounted.specs.Counts.{listed_uses, pool_with}
use Rattle.msi_recounted.proofs.Places.{at_next, counted_at, heads_more, too_long}
use Rattle.msi_recounted.proofs.heads.recounted_stream.Goals as goal

pub loop-index-preserved : goal.loop-index-preserved
loop-index-preserved c =
    let pool = c.args.pool.now.pool in
    let ps = pool.places in
    let i = c.loop-index.index in
    let list = c.args.uses.now in
    let old = c.loop-index.bytes.items in
    let below : i < length ps = omega (arith, c.loop-index-test.true, c.requires.size) in
    let one : i + 1 - 1 ≡ i = omega arith in
    let text = ap (λ k. (pool_entry_at ps k).text) c.new.ensures ∙ ap (λ (p : PoolEntry). p.text) (at_next ps i) in
    let count = ap (λ j. get_or list j 0) (sym one) in
    let wrote : c.write_place.new.bytes.items ≡ old ++ head_of (stored_place pool.page (counted_at (listed_uses list) ps i)) =
    c.in-Ok.ensures.ok ∙ ap₂ (λ (t : List ℕ) (n : ℕ). old ++ head_of (stored_place pool.page (record { text = t; count = n }))) text count in
    heads_more (listed_uses list) ps pool.page old c.write_place.new.bytes.items (pool_stream (pool_with (listed_uses list) pool)) i below c.loop-index.invariant wrote

pub returns-in-Err-clause-errors : goal.returns-in-Err-clause-errors
returns-in-Err-clause-errors c =
    let pool = c.args.pool.now.pool in
    let ps = pool.places in
    let i = c.loop-index.index in
    let below : i < length ps = omega (arith, c.loop-index-test.true, c.requires.size) in
    let text = ap (λ k. (pool_entry_at ps k).text) c.new.ensures ∙ ap (λ (p : PoolEntry). p.text) (at_next ps i) in
    ⊎_elim (λ memory. inl memory) (λ both. inr (both.0, too_long pool.page ps i (subst (λ t. length_limit ≤ length (encoded pool.page t)) text both.1) below)) c.in-Err.ensures.errors
