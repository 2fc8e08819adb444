-- Streams of pool and summary that stay hold what they held.
use Rattle.std.proofs.Common.{◌∙◌}
use Rattle.cfb_tree.specs.Names.{CaseTable}
use Rattle.cfb_tree.specs.Tree.{Tree}
use Rattle.msi_spec.specs.Split.{HasPool, HasSummary}
use Rattle.msi_pool.specs.Pool.{Pool}
use Rattle.msi_props.specs.Props.{Props}
use Rattle.msi_stored.specs.Changing.{KeepsParts}

module _ (letters : CaseTable) (old new : Tree) (keeps : KeepsParts letters old new) where
  pub pool_kept : (pool : Pool) → HasPool letters old pool → HasPool letters new pool
  pool_kept pool h = record {
    pool_bytes = h.pool_bytes;
    data_bytes = h.data_bytes;
    pool_at = keeps.pool ∙ h.pool_at;
    data_at = keeps.pool_data ∙ h.data_at;
    pooled = h.pooled;
  }

  pub summary_kept : (summary : Props) → HasSummary letters old summary → HasSummary letters new summary
  summary_kept summary h = record {
    summary_bytes = h.summary_bytes;
    summary_at = keeps.summary ∙ h.summary_at;
    read = h.read;
    of_kind = h.of_kind;
  }
