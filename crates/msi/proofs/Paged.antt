-- A package whose page is another is stored as before: no cell and no count tells of the page.
use Rattle.std.proofs.Common.{◌≡◌, ◌∙◌, IsTrue, ap, false, map, subst, sym, true}
use Rattle.cfb.specs.Views.{file_case_table}
use Rattle.cfb_medium.specs.declared.medium.ReadMedium.{Ghosts}
use Rattle.cfb_tree.specs.Names.{CaseTable}
use Rattle.cfb_tree.specs.Tree.{Tree}
use Rattle.msi_spec.specs.Package.{PackageContent}
use Rattle.msi_spec.specs.Split.{TreeStoresRest}
use Rattle.msi_parts.specs.Parts.{heading}
use Rattle.msi_pool.specs.Pool.{Pool}
use Rattle.msi_pool.specs.PoolState.{PoolState}
use Rattle.msi_props.specs.Held.{SetState}
use Rattle.msi_stored.specs.Changing.{StoresSoundPackage}
use Rattle.msi_texts.specs.declared.codepage.CodePage.{CodePage}
use Rattle.msi.specs.Changing.{with_page}
use Rattle.msi.specs.Opened.{PackageHasContent, file_in, kind_in, pool_in, sound_in, summary_in, tables_in, written_in}
use Rattle.msi.specs.declared.package.Package.{Package}

module _ (letters : CaseTable) (tree : Tree) (page : CodePage) (P : PackageContent) where
  stores_paged : TreeStoresRest letters tree P → TreeStoresRest letters tree (with_page page P)
  stores_paged s = record {
    class = s.class;
    rising = s.rising;
    names = s.names;
    rows = s.rows;
    validation = s.validation;
    validation_is = s.validation_is;
    schema = s.schema;
    columns = s.columns;
    streams = s.streams;
    storages = s.storages;
  }

  sound_paged : StoresSoundPackage letters tree P → StoresSoundPackage letters tree (with_page page P)
  sound_paged s = record {
    usable = s.usable;
    stores = stores_paged s.stores;
    counted = record { references = s.counted.references; counts = s.counted.counts };
    free = s.free;
    named = record {
      one_section = s.named.one_section;
      no_strays = s.named.no_strays;
      table_names = s.named.table_names;
      no_storage = s.named.no_storage;
      not_listed = s.named.not_listed;
      validation_kinds = s.named.validation_kinds;
      validation_keys = s.named.validation_keys;
    };
  }

-- it is held where the pool in memory is changed so
pub holds_paged : {F : Type 0} {g : Ghosts F} (old new : Package F g) (page : CodePage) (P : PackageContent) → file_in new ≡ file_in old → tables_in new ≡ tables_in old → kind_in new ≡ kind_in old
    → summary_in new ≡ summary_in old → sound_in new ≡ sound_in old → written_in new ≡ written_in old
    → pool_in new ≡ record (pool_in old) { pool = record (pool_in old).pool { page = page }; modified = true } → PackageHasContent old P → PackageHasContent new (with_page page P)
holds_paged old new page P file tables kind summary sound written pool h = record {
  tree = h.tree;
  file = rw file h.file;
  usable = rw file h.usable;
  stores = rw file (stores_paged (file_case_table (file_in old)) h.tree page P h.stores);
  memory = record {
    kind = kind ∙ h.memory.kind;
    summary = ap (λ (s : SetState). s.props) summary ∙ h.memory.summary;
    pool = ap (λ (p : PoolState). p.pool) pool ∙ ap (λ (p : Pool). record p { page = page }) h.memory.pool;
    tables = tables ∙ h.memory.tables ∙ ap (λ l. map (heading l) P.tables) (sym (ap (λ (p : PoolState). p.pool.long) pool));
  };
  pool = λ unmodified writable. let no : true ≡ false = sym (ap (λ (p : PoolState). p.modified) pool) ∙ unmodified in absurd (cc);
  summary = λ is fit. rw file (h.summary (sym written ∙ is) fit);
  three = rw file h.three;
  sound = λ is. let both = h.sound (subst IsTrue sound is) in rw file (both.0, sound_paged (file_case_table (file_in old)) h.tree page P both.1);
  back = λ is unmodified written writable fit. let no : true ≡ false = sym (ap (λ (p : PoolState). p.modified) pool) ∙ unmodified in absurd (cc);
}
