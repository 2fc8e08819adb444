use Rattle.std.proofs.Common.{◌∙◌, List, ap, sym, subst}
use Rattle.msi_pool.specs.Pool.{PoolEntry}
use Rattle.msi_pool.specs.PoolKept.{AreFreeEmpty}
use Rattle.msi_pool.specs.PoolState.{PoolState}
use Rattle.msi_pool.proofs.PoolFree.{free_told, free_tells}
use Rattle.msi_pool.proofs.stringpool.StringPool.are_free_empty.Goals as goal

pub returns : goal.returns
returns c =
    let list = c.list.ensures.list ∙ ap (λ (v : PoolState). v.pool.places) c.self.view_is in
    let P : List PoolEntry → Type 0 = AreFreeEmpty in (
      λ yes. subst P list (free_told c.list.result.now (sym c.are_free_empty.ensures ∙ yes)),
      λ empty. c.are_free_empty.ensures ∙ free_tells c.list.result.now (subst P (sym list) empty),
    )
