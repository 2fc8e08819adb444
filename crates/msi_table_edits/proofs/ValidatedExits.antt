-- What the call that adds an empty _Validation did, at each of its exits.
use Rattle.std.proofs.Common.{◌≡◌, ◌∙◌, ◌⊎◌, ℕ, false, List, [], map, length, Some, refl, sym, ap, subst, inl, inr, ⊎_elim, Ok, Err, Result}
use Rattle.cfb.specs.FollowedRules.{FileMeansTree}
use Rattle.cfb.specs.Views.{file_case_table, OnlyReadsFile}
use Rattle.cfb.specs.declared.compound_file.CompoundFile.{CompoundFile}
use Rattle.cfb_tree_edits.specs.LiveTreeRules.{IsFaultOrFull}
use Rattle.cfb_medium.specs.declared.error.Error.{Error}
use Rattle.cfb_medium.specs.declared.medium.ReadMedium.{Ghosts}
use Rattle.cfb_tree.specs.Names.{CaseTable}
use Rattle.cfb_tree.specs.Tree.{Tree}
use Rattle.msi_new_package.proofs.Laid.{names_free}
use Rattle.msi_row_edits.specs.Edited.{MemoryIsTablesAndPool}
use Rattle.msi_row_edits.proofs.EditedSo.{headings_stay}
use Rattle.msi_row_edits.proofs.Exits.{IsFirst, IsOpen}
use Rattle.msi_spec.specs.Calls.{new_table, rows_put, table_put, EndsRefusedOrBy}
use Rattle.msi_spec.specs.Package.{stream_name, PackageContent}
use Rattle.msi_parts.specs.Parts.{heading}
use Rattle.msi_pool.specs.Pool.{Pool}
use Rattle.msi_pool.specs.PoolState.{PoolState}
use Rattle.msi_store.specs.Stores.{file_in, tables_in}
use Rattle.msi_store.specs.declared.store.Store.{Store}
use Rattle.msi_stored.specs.Changing.{PackageRule, StoresSoundPackage}
use Rattle.msi_stored.specs.Room.{IsFullForName, IsFullForRule}
use Rattle.msi_tables.specs.Rows.{kinds_of, rows_bytes, Row}
use Rattle.msi_tables.specs.Schema.{columns_columns, columns_name, tables_columns, tables_name, validation_name}
use Rattle.msi_tables.specs.Table.{Heading, IsStoredByKeys}
use Rattle.msi_table_edits.specs.Listing.{answer}
use Rattle.msi_table_edits.specs.Making.{ChangesTableSet}
use Rattle.msi_table_edits.specs.Putting.{CanPutTwo, PutsTwo}
use Rattle.msi_table_edits.specs.Validating.{listed_columns, with_validation, AreReadTwo, HasPutTwo, IsValidated, Validates}
use Rattle.msi_table_edits.proofs.Holding.{holding, IsThere}
use Rattle.msi_table_edits.proofs.MadeBy.{can_put, Comes}
use Rattle.msi_table_edits.proofs.MadeBy as by
use Rattle.msi_table_edits.proofs.NewTable.{columns_now, IsNewTable}
use Rattle.msi_table_edits.proofs.ValidatedFrom.{same_package}
use Rattle.msi_table_edits.proofs.ValidatedStored.{as_new, parts_kept, stored_after}

-- ---- the rule

module _ (letters : CaseTable) (P : PackageContent) where
  abbrev Accepted : PackageContent → (List Row × List Row) × Pool → Type 0
  Accepted Q x = (c : List Row) × (t : List Row) × IsStoredByKeys x.1 columns_columns x.0.0 c × IsStoredByKeys x.1 tables_columns x.0.1 t × (Q ≡ with_validation P x.1 c t)

  refused_rule : (e : Error) → answer letters P ≡ Err e → Validates letters P P (Err e)
  refused_rule e is = subst (λ (r : Result ((List Row × List Row) × Pool) Error). EndsRefusedOrBy r P P (Err e) (Accepted P)) (sym is) (refl, refl)

  done_rule : (pool : Pool) (c t : List Row) → IsValidated letters P pool c t → Validates letters P (with_validation P pool c t) (Ok tt)
  done_rule pool c t is =
      let Q = with_validation P pool c t in
      subst (λ (r : Result ((List Row × List Row) × Pool) Error). EndsRefusedOrBy r P Q (Ok tt) (Accepted Q)) (sym is.told) (refl, (c, t, is.columns_stored, is.tables_stored, refl))

-- what the new table comes to, in the package that is stored
module _ (letters here : CaseTable) (same : here ≡ letters) (next : Pool) (headings : List Heading) (bc bt : List ℕ) where
  abbrev Ready : PackageContent → Type 0
  Ready P = (c : List Row) × (t : List Row) × IsValidated letters P next c t × AreReadTwo P bc bt c t
      × (headings ≡ map (heading P.pool.long) (table_put (new_table validation_name listed_columns) P.tables)) × (rows_bytes P.pool.long (kinds_of columns_columns) c ≡ Some bc)

  abbrev Has : CaseTable → Tree → Tree → Type 0
  Has l = HasPutTwo l bc bt

  ready : (tree : Tree) (P : PackageContent) → StoresSoundPackage letters tree P → Ready P → Comes (λ P Q answer. Validates letters P Q answer) CanPutTwo Has letters here tree P next headings bc
  ready tree P s r =
      let h : IsNewTable letters P validation_name listed_columns next r.0 r.1 [] = as_new letters tree tree P s next r.0 r.1 r.2 in
      let ts = table_put (new_table validation_name listed_columns) P.tables in
      let there : IsThere (with_validation P next r.0 r.1).tables (holding columns_name columns_columns r.0) =
      subst (λ (X : PackageContent). IsThere X.tables (holding columns_name columns_columns r.0)) (same_package P h.none next r.0 r.1) (columns_now letters tree P s.stores s.named validation_name listed_columns next r.0 r.1 [] h) in
      record {
        next = with_validation P next r.0 r.1;
        answered = done_rule letters P next r.0 r.1 r.2;
        can = record {
          columns = can_put letters here same tree P s _ h.columns_there names_free.0;
          tables = can_put letters here same tree P s _ h.tables_there names_free.1;
        };
        stores = λ after put. stored_after letters tree after P s next r.0 r.1 r.2 bc bt put r.3;
        keeps = λ after put. parts_kept letters tree after P s next r.0 r.1 r.2 bc bt put;
        pool_is = refl;
        tables_are = r.4 ∙ sym (headings_stay P.pool.long next.long h.kept.long columns_name r.0 (rows_put tables_name r.1 ts) ∙ headings_stay P.pool.long P.pool.long refl tables_name r.1 ts);
        table = holding columns_name columns_columns r.0;
        there = there.found;
        written = ap (λ long. rows_bytes long (kinds_of columns_columns) r.0) h.kept.long ∙ r.5;
      }

module _ {F : Type 0} {g : Ghosts F} (old : Store F g) (pool : PoolState) where
  abbrev letters : CaseTable
  letters = file_case_table (file_in old)

  abbrev rule : PackageRule
  rule P Q answer = Validates letters P Q answer

  -- not changeable
  pub first_unmade : (e : Error) → IsFirst (file_in old) e → ChangesTableSet {T = Unit {0}} rule (Err e) old old pool pool
  first_unmade = by.first_unmade rule old pool

  module _ (open_file : IsOpen (file_in old)) (mid : CompoundFile F g) (rests : OnlyReadsFile (file_in old) mid) where
    -- refused, or a fault, where the file was only read
    pub unmade : (e : Error)
        → ((tree : Tree) (P : PackageContent) → FileMeansTree (file_in old) tree → StoresSoundPackage letters tree P → MemoryIsTablesAndPool old pool.pool P → IsFaultOrFull e ⊎ (answer letters P ≡ Err e))
        → ChangesTableSet {T = Unit {0}} rule (Err e) old (record old { file = mid }) pool pool
    unmade e told = by.unmade rule old pool open_file mid rests e (λ tree P m s memory. ⊎_elim (λ fault. inl fault) (λ is. inr (refused_rule letters P e is)) (told tree P m s memory))

    module _ (next : Pool) (headings : List Heading) (bc bt : List ℕ)
        (told : (tree : Tree) (P : PackageContent) → FileMeansTree (file_in old) tree → StoresSoundPackage letters tree P → MemoryIsTablesAndPool old pool.pool P → Ready letters (file_case_table mid) rests.letters next headings bc bt P) (new : CompoundFile F g) where
      comes : (tree : Tree) (P : PackageContent) → FileMeansTree (file_in old) tree → StoresSoundPackage letters tree P → MemoryIsTablesAndPool old pool.pool P
          → Comes rule CanPutTwo (λ l. HasPutTwo l bc bt) letters (file_case_table mid) tree P next headings bc
      comes tree P m s memory = ready letters (file_case_table mid) rests.letters next headings bc bt tree P s (told tree P m s memory)

      -- a put that failed
      pub unput : (e : Error) → PutsTwo {T = Unit {0}} bc bt (Err e) mid new → ChangesTableSet {T = Unit {0}} rule (Err e) old (record old { file = new }) pool pool
      unput e p = by.unput rule old pool open_file mid rests CanPutTwo (λ l. HasPutTwo l bc bt) next headings bc comes new e p.refused p.rests p.seen

      -- a put without room
      pub unroomed : IsFullForName mid (stream_name columns_name) (length bc) → (tree : Tree) (P : PackageContent) → FileMeansTree (file_in old) tree → StoresSoundPackage letters tree P → MemoryIsTablesAndPool old pool.pool P
          → IsFullForRule rule (file_in old) P
      unroomed = by.unroomed rule old pool open_file mid rests CanPutTwo (λ l. HasPutTwo l bc bt) next headings bc comes new

      -- all is done
      pub made : (store : Store F g) → file_in store ≡ new → tables_in store ≡ headings → (after : PoolState) → after.pool ≡ next → (after.modified ≡ false → after ≡ pool)
          → PutsTwo {T = Unit {0}} bc bt (Ok tt) mid new → ChangesTableSet {T = Unit {0}} rule (Ok tt) old store pool after
      made store is_file in_memory after is_next marked p = by.made rule old pool open_file mid rests CanPutTwo (λ l. HasPutTwo l bc bt) next headings bc comes new store is_file in_memory after is_next marked p.done p.seen
