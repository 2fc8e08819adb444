use Rattle.std.proofs.Common.{◌≡◌, ◌∙◌, ◌+◌, ◌-◌, ◌<◌, ◌≤◌, [], length, get_or, ap, sym, subst, refl, arith}
use Rattle.std.specs.Prelude.{◌==◌, ◌||◌, not}
use Rattle.std.proofs.Math.ListN.{drop_of_length-le}
use Rattle.msi_pool.specs.Pool.{PoolEntry, pool_entry_at, empty_pool_entry}
use Rattle.msi_pool.specs.PoolKept.{AreFreeEmpty}
use Rattle.msi_recounted.specs.Counts.{listed_uses, with_uses}
use Rattle.msi_recounted.proofs.Places.{at_next, is_not_used, is_used, unused_text, used_more}
use Rattle.msi_recounted.proofs.heads.are_texts_used.Goals as goal

empty : AreFreeEmpty []
empty = λ k d l. absurd (omega (arith, l))

pub returns-then-not-is_used : goal.returns-then-not-is_used
returns-then-not-is_used c =
    let ps = c.args.pool.now.pool.places in
    let i = c.loop-index.index in
    let list = c.args.uses.now in
    let below : i < length ps = omega (arith, c.loop-index-test.true, c.requires.size) in
    let one : i + 1 - 1 ≡ i = omega arith in
    let text = ap (λ k. (pool_entry_at ps k).text) c.new.ensures ∙ ap (λ (p : PoolEntry). p.text) (at_next ps i) in
    let so = is_not_used (get_or list i 0) (get_or ps i empty_pool_entry).text
    (ap (λ t. not (get_or list i 0 == 0) || (length t == 0)) (sym text) ∙ sym c.is_used.ensures ∙ c.if-not-is_used.true) in
    (λ e. absurd (cc), λ all. absurd (unused_text (listed_uses list) ps i below (ap (λ j. get_or list j 0) one ∙ so.0) so.1 (c.loop-index.invariant.0 all)))

pub loop-index-preserved : goal.loop-index-preserved
loop-index-preserved c =
    let ps = c.args.pool.now.pool.places in
    let i = c.loop-index.index in
    let list = c.args.uses.now in
    let below : i < length ps = omega (arith, c.loop-index-test.true, c.requires.size) in
    let one : i + 1 - 1 ≡ i = omega arith in
    let text = ap (λ k. (pool_entry_at ps k).text) c.new.ensures ∙ ap (λ (p : PoolEntry). p.text) (at_next ps i) in
    let so = is_used (get_or list i 0) (get_or ps i empty_pool_entry).text
    (ap (λ t. not (get_or list i 0 == 0) || (length t == 0)) (sym text) ∙ sym c.is_used.ensures ∙ c.if-not-is_used.false) in
    let more = used_more (listed_uses list) ps i below (λ none. so (ap (λ j. get_or list j 0) (sym one) ∙ none)) in
    (λ all. more.0 (c.loop-index.invariant.0 all), λ later. c.loop-index.invariant.1 (more.1 later))

pub returns : goal.returns
returns c =
    let ps = c.args.pool.now.pool.places in
    let i = c.loop-index.index in
    let past : length ps ≤ i = omega (arith, c.loop-index-test.false, c.requires.size) in
    (λ e. c.loop-index.invariant.1 (subst (λ qs. AreFreeEmpty (with_uses (listed_uses c.args.uses.now) (i + 1) qs)) (sym (drop_of_length-le ps past)) empty), λ all. refl)
