-- A tree packs a package where it holds the pool and the summary and stores all else.
use Rattle.cfb_tree.specs.Names.{CaseTable}
use Rattle.cfb_tree.specs.Tree.{Tree}
use Rattle.msi_spec.specs.Package.{PackageContent, TreePacksPackage}
use Rattle.msi_spec.specs.Split.{HasPool, HasSummary, TreeStoresRest}

module _ (letters : CaseTable) (tree : Tree) (P : PackageContent) where
  pub parted : TreePacksPackage letters tree P → TreeStoresRest letters tree P × HasPool letters tree P.pool × HasSummary letters tree P.summary
  parted p = (
    record { class = p.class; rising = p.rising; names = p.names; rows = p.rows; validation = p.validation; validation_is = p.validation_is; schema = p.schema; columns = p.columns; streams = p.streams; storages = p.storages },
    record { pool_bytes = p.pool_bytes; data_bytes = p.data_bytes; pool_at = p.pool_at; data_at = p.data_at; pooled = p.pool },
    record { summary_bytes = p.summary_bytes; summary_at = p.summary_at; read = p.summary; of_kind = p.summary_kind },
  )

  pub joined : TreeStoresRest letters tree P → HasPool letters tree P.pool → HasSummary letters tree P.summary → TreePacksPackage letters tree P
  joined s h t = record {
    class = s.class;
    pool_bytes = h.pool_bytes;
    data_bytes = h.data_bytes;
    pool_at = h.pool_at;
    data_at = h.data_at;
    pool = h.pooled;
    rising = s.rising;
    names = s.names;
    rows = s.rows;
    validation = s.validation;
    validation_is = s.validation_is;
    schema = s.schema;
    columns = s.columns;
    summary_bytes = t.summary_bytes;
    summary_at = t.summary_at;
    summary = t.read;
    summary_kind = t.of_kind;
    streams = s.streams;
    storages = s.storages;
  }
