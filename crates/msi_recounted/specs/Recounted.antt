-- A package whose pool counts just the uses that its cells make, and which packages become sound by it.
use Rattle.std.specs.Prelude.{◌≡◌, ℕ, ◌≤◌, List, true, length, Ok, Some}
use Rattle.cfb_tree.specs.Names.{CaseTable}
use Rattle.cfb_tree.specs.Tree.{Tree}
use Rattle.msi_spec.specs.Package.{PackageContent, data_name, objects, pool_name, stream_at, summary_name, table_stream}
use Rattle.msi_spec.specs.Sound.{refcounts_of}
use Rattle.msi_spec.specs.SoundParts.{HasSoundParts}
use Rattle.msi_spec.specs.Split.{TreeStoresRest}
use Rattle.msi_pool.specs.Pool.{last_place, pool_stream}
use Rattle.msi_pool.specs.PoolKept.{AreFreeEmpty}
use Rattle.msi_pool.specs.PoolReading.{Begun, begun, texts_give_back}
use Rattle.msi_recounted.specs.Counts.{pool_with}

-- THE PACKAGE WITH RIGHT COUNTS: a place has as many uses as cells of its tables name it. Texts by their places, tables, rows, summary,
-- streams and storages are as they were.
abbrev pub recounted : PackageContent → PackageContent
recounted P = record P { pool = pool_with (refcounts_of P.tables) P.pool }

-- WHICH PACKAGES CAN BE ADOPTED, beside their containers: once the counts are right each rule of a sound package is kept, no text is
-- used more often than a count can say, and a reference can name each place.
pub record CanBeAdopted (letters : CaseTable) (tree : Tree) (P : PackageContent) : Type 0 where
  pub sound : HasSoundParts letters tree (recounted P)
  pub few : (n : ℕ) → refcounts_of P.tables n ≤ 65535
  pub named : length P.pool.places ≤ last_place true

-- which pools can be written with right counts: each text gives back its bytes and has a use, and none is used more often than a count can say
pub record CanBeRecounted (letters : CaseTable) (tree : Tree) (P : PackageContent) : Type 0 where
  pub texts : (pool_bytes data_bytes : List ℕ) (builder : Begun) → table_stream letters (objects tree.content) pool_name ≡ Some pool_bytes
      → table_stream letters (objects tree.content) data_name ≡ Some data_bytes → begun pool_bytes ≡ Ok builder → texts_give_back builder data_bytes ≡ Ok true
  pub few : (n : ℕ) → refcounts_of P.tables n ≤ 65535
  pub used : AreFreeEmpty (recounted P).pool.places

-- the tree stores the package with right counts, whose pool was written; the pool's texts and the summary are those of another tree
pub record GotCounts (letters : CaseTable) (old : Tree) (P : PackageContent) (new : Tree) : Type 0 where
  pub stores : TreeStoresRest letters new (recounted P)
  pub pool_at : table_stream letters (objects new.content) pool_name ≡ Some (pool_stream (recounted P).pool)
  pub data_at : table_stream letters (objects new.content) data_name ≡ table_stream letters (objects old.content) data_name
  pub summary_at : stream_at letters (objects new.content) summary_name ≡ stream_at letters (objects old.content) summary_name
