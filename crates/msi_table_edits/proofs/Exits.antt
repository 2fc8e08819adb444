-- What the making of a table did, at each of its exits.
use Rattle.std.proofs.Common.{◌≡◌, ◌∙◌, ◌⊎◌, ℕ, false, List, map, length, Some, refl, sym, ap, subst, inl, inr, ⊎_elim, Ok, Err, Result}
use Rattle.std.specs.Prelude.{is_none}
use Rattle.cfb.specs.FollowedRules.{FileMeansTree}
use Rattle.cfb.specs.Views.{file_case_table, OnlyReadsFile}
use Rattle.cfb.specs.declared.compound_file.CompoundFile.{CompoundFile}
use Rattle.cfb_tree_edits.specs.LiveTreeRules.{IsFaultOrFull}
use Rattle.cfb_medium.specs.declared.error.Error.{Error}
use Rattle.cfb_medium.specs.declared.medium.ReadMedium.{Ghosts}
use Rattle.cfb_tree.specs.Names.{CaseTable}
use Rattle.cfb_tree.specs.Tree.{Tree}
use Rattle.msi_columns.specs.Column.{Column}
use Rattle.msi_new_package.proofs.Laid.{names_free}
use Rattle.msi_row_edits.specs.Edited.{MemoryIsTablesAndPool}
use Rattle.msi_row_edits.proofs.EditedSo.{headings_stay}
use Rattle.msi_row_edits.proofs.Exits.{IsFirst, IsOpen}
use Rattle.msi_spec.specs.Calls.{created, new_table, own_columns, rows_put, table_put, Creates, EndsRefusedOrBy, Rows3}
use Rattle.msi_spec.specs.Package.{at_name, stream_name, PackageContent}
use Rattle.msi_parts.specs.Parts.{heading}
use Rattle.msi_pool.specs.Pool.{Pool}
use Rattle.msi_pool.specs.PoolState.{PoolState}
use Rattle.msi_store.specs.Stores.{file_in, tables_in}
use Rattle.msi_store.specs.declared.store.Store.{Store}
use Rattle.msi_stored.specs.Changing.{PackageRule, StoresSoundPackage}
use Rattle.msi_stored.specs.Room.{IsFullForName, IsFullForRule}
use Rattle.msi_tables.specs.Rows.{kinds_of, rows_bytes, Row}
use Rattle.msi_tables.specs.Schema.{columns_columns, columns_name, tables_columns, tables_name, validation_name}
use Rattle.msi_tables.specs.Table.{Heading, IsStoredByKeys}
use Rattle.msi_table_edits.specs.Created.{with_table, AreReadThree, HasPutThree, IsNewTableAccepted}
use Rattle.msi_table_edits.specs.Making.{CanPutThree, ChangesTableSet, PutsThree}
use Rattle.msi_table_edits.proofs.Holding.{holding}
use Rattle.msi_table_edits.proofs.MadeBy.{can_put, Comes}
use Rattle.msi_table_edits.proofs.MadeBy as by
use Rattle.msi_table_edits.proofs.NewStored.{as_new, parts_kept, stored_after, validation_is_there}
use Rattle.msi_table_edits.proofs.NewTable.{columns_now, IsNewTable}

-- ---- the rule

module _ (letters : CaseTable) (P : PackageContent) (name : List ℕ) (columns : List Column) where
  abbrev answer : Result (Rows3 × Pool) Error
  answer = created (is_none (at_name letters P.storages (stream_name name))) P name columns

  abbrev Accepted : PackageContent → Rows3 × Pool → Type 0
  Accepted Q x = (c : List Row) × (t : List Row) × (v : List Row)
      × IsStoredByKeys x.1 columns_columns x.0.0 c × IsStoredByKeys x.1 tables_columns x.0.1 t × IsStoredByKeys x.1 (own_columns P) x.0.2 v
      × (Q ≡ with_table P name columns x.1 c t v)

  refused_rule : (e : Error) → answer ≡ Err e → Creates letters P name columns P (Err e)
  refused_rule e is = subst (λ (r : Result (Rows3 × Pool) Error). EndsRefusedOrBy r P P (Err e) (Accepted P)) (sym is) (refl, refl)

  done_rule : (pool : Pool) (c t v : List Row) → IsNewTableAccepted letters P name columns pool c t v → Creates letters P name columns (with_table P name columns pool c t v) (Ok tt)
  done_rule pool c t v is =
      let Q = with_table P name columns pool c t v in
      subst (λ (r : Result (Rows3 × Pool) Error). EndsRefusedOrBy r P Q (Ok tt) (Accepted Q)) (sym is.told) (refl, (c, t, v, is.columns_stored, is.tables_stored, is.validation_stored, refl))

-- what the new table comes to, in the package that is stored
module _ (name : List ℕ) (columns : List Column) (letters here : CaseTable) (same : here ≡ letters) (next : Pool) (headings : List Heading) (bc bt bv : List ℕ) where
  abbrev Ready : PackageContent → Type 0
  Ready P = (c : List Row) × (t : List Row) × (v : List Row) × IsNewTableAccepted letters P name columns next c t v × AreReadThree P bc bt bv c t v
      × (headings ≡ map (heading P.pool.long) (table_put (new_table name columns) P.tables)) × (rows_bytes P.pool.long (kinds_of columns_columns) c ≡ Some bc)

  abbrev Has : CaseTable → Tree → Tree → Type 0
  Has l = HasPutThree l bc bt bv

  ready : (tree : Tree) (P : PackageContent) → StoresSoundPackage letters tree P → Ready P → Comes (λ P Q answer. Creates letters P name columns Q answer) CanPutThree Has letters here tree P next headings bc
  ready tree P s r =
      let h : IsNewTable letters P name columns next r.0 r.1 r.2 = as_new letters tree tree P s name columns next r.0 r.1 r.2 r.3 in
      let there = validation_is_there letters tree tree P s name columns next r.0 r.1 r.2 r.3 in
      let ts = table_put (new_table name columns) P.tables in
      record {
        next = with_table P name columns next r.0 r.1 r.2;
        answered = done_rule letters P name columns next r.0 r.1 r.2 r.3;
        can = record {
          columns = can_put letters here same tree P s _ h.columns_there names_free.0;
          tables = can_put letters here same tree P s _ h.tables_there names_free.1;
          validation = can_put letters here same tree P s _ there names_free.2;
        };
        stores = λ after put. stored_after letters tree after P s name columns next r.0 r.1 r.2 r.3 bc bt bv put r.4;
        keeps = λ after put. parts_kept letters tree after P s name columns next r.0 r.1 r.2 r.3 bc bt bv put;
        pool_is = refl;
        tables_are = r.5 ∙ sym (headings_stay P.pool.long next.long h.kept.long columns_name r.0 (rows_put tables_name r.1 (rows_put validation_name r.2 ts))
            ∙ headings_stay P.pool.long P.pool.long refl tables_name r.1 (rows_put validation_name r.2 ts)
            ∙ headings_stay P.pool.long P.pool.long refl validation_name r.2 ts);
        table = holding columns_name columns_columns r.0;
        there = (columns_now letters tree P s.stores s.named name columns next r.0 r.1 r.2 h).found;
        written = ap (λ long. rows_bytes long (kinds_of columns_columns) r.0) h.kept.long ∙ r.6;
      }

module _ {F : Type 0} {g : Ghosts F} (name : List ℕ) (columns : List Column) (old : Store F g) (pool : PoolState) where
  abbrev letters : CaseTable
  letters = file_case_table (file_in old)

  abbrev rule : PackageRule
  rule P Q answer = Creates letters P name columns Q answer

  -- not changeable
  pub first_unmade : (e : Error) → IsFirst (file_in old) e → ChangesTableSet {T = Unit {0}} rule (Err e) old old pool pool
  first_unmade = by.first_unmade rule old pool

  module _ (open_file : IsOpen (file_in old)) (mid : CompoundFile F g) (rests : OnlyReadsFile (file_in old) mid) where
    -- refused, or a fault, where the file was only read
    pub unmade : (e : Error)
        → ((tree : Tree) (P : PackageContent) → FileMeansTree (file_in old) tree → StoresSoundPackage letters tree P → MemoryIsTablesAndPool old pool.pool P → IsFaultOrFull e ⊎ (answer letters P name columns ≡ Err e))
        → ChangesTableSet {T = Unit {0}} rule (Err e) old (record old { file = mid }) pool pool
    unmade e told = by.unmade rule old pool open_file mid rests e (λ tree P m s memory. ⊎_elim (λ fault. inl fault) (λ is. inr (refused_rule letters P name columns e is)) (told tree P m s memory))

    module _ (next : Pool) (headings : List Heading) (bc bt bv : List ℕ)
        (told : (tree : Tree) (P : PackageContent) → FileMeansTree (file_in old) tree → StoresSoundPackage letters tree P → MemoryIsTablesAndPool old pool.pool P → Ready name columns letters (file_case_table mid) rests.letters next headings bc bt bv P) (new : CompoundFile F g) where
      comes : (tree : Tree) (P : PackageContent) → FileMeansTree (file_in old) tree → StoresSoundPackage letters tree P → MemoryIsTablesAndPool old pool.pool P
          → Comes rule CanPutThree (Has name columns letters (file_case_table mid) rests.letters next headings bc bt bv) letters (file_case_table mid) tree P next headings bc
      comes tree P m s memory = ready name columns letters (file_case_table mid) rests.letters next headings bc bt bv tree P s (told tree P m s memory)

      -- a put that failed
      pub unput : (e : Error) → PutsThree {T = Unit {0}} bc bt bv (Err e) mid new → ChangesTableSet {T = Unit {0}} rule (Err e) old (record old { file = new }) pool pool
      unput e p = by.unput rule old pool open_file mid rests CanPutThree (λ l. HasPutThree l bc bt bv) next headings bc comes new e p.refused p.rests p.seen

      -- a put without room
      pub unroomed : IsFullForName mid (stream_name columns_name) (length bc) → (tree : Tree) (P : PackageContent) → FileMeansTree (file_in old) tree → StoresSoundPackage letters tree P → MemoryIsTablesAndPool old pool.pool P
          → IsFullForRule rule (file_in old) P
      unroomed = by.unroomed rule old pool open_file mid rests CanPutThree (λ l. HasPutThree l bc bt bv) next headings bc comes new

      -- all is done
      pub made : (store : Store F g) → file_in store ≡ new → tables_in store ≡ headings → (after : PoolState) → after.pool ≡ next → (after.modified ≡ false → after ≡ pool)
          → PutsThree {T = Unit {0}} bc bt bv (Ok tt) mid new → ChangesTableSet {T = Unit {0}} rule (Ok tt) old store pool after
      made store is_file in_memory after is_next marked p = by.made rule old pool open_file mid rests CanPutThree (λ l. HasPutThree l bc bt bv) next headings bc comes new store is_file in_memory after is_next marked p.done p.seen
