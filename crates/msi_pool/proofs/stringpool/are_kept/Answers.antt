use Rattle.std.proofs.Common.{◌≡◌, ◌∙◌, arith, sym, subst, ap, ℕ, List}
use Rattle.msi_pool.specs.PoolKept.{AreKept, IsKeptPlace}
use Rattle.msi_pool.specs.Pool.{PoolEntry}
use Rattle.msi_pool.proofs.PoolFits.{KeptTo, kept_more, kept_one, kept_all}
use Rattle.msi_pool.proofs.stringpool.are_kept.Goals as goal

pub loop-entry-preserved : goal.loop-entry-preserved
loop-entry-preserved c =
    let kept = rw c.deref.ensures at (c.is_kept.ensures.0 c.if-not-is_kept.false) in
    kept_more c.args.codepage c.args.strings.now c.loop-entry.entry-index c.entry-item.result (omega arith) c.entry-item.is kept c.loop-entry.invariant

pub returns-then-not-is_kept : goal.returns-then-not-is_kept
returns-then-not-is_kept c = (
  λ no. absurd (cc),
  λ all.
      let kept = kept_one c.args.codepage c.args.strings.now c.loop-entry.entry-index c.entry-item.result (omega arith) c.entry-item.is all in
      sym c.if-not-is_kept.true ∙ c.is_kept.ensures.1 (rw (sym c.deref.ensures) at kept),
)

pub returns : goal.returns
returns c = (
  λ yes. kept_all c.args.codepage c.args.strings.now (subst (KeptTo c.args.codepage c.args.strings.now) (omega arith) c.loop-entry.invariant),
  λ all. grind arith,
)
