-- A call that changes which tables a package has is one of the package.
use Rattle.std.proofs.Common.{◌≡◌, ◌∙◌, ◌⊎◌, ℕ, List, ap, false, inl, inr, map, sym, true, Ok, Err, Result}
use Rattle.std.specs.Prelude.{is_none}
use Rattle.cfb.specs.Views.{file_case_table}
use Rattle.cfb_medium.specs.declared.error.Error.{Error}
use Rattle.cfb_medium.specs.declared.medium.ReadMedium.{Ghosts}
use Rattle.cfb_tree.specs.Names.{CaseTable}
use Rattle.msi_columns.specs.Column.{Column}
use Rattle.msi_row_edits.specs.Edited as edited
use Rattle.msi_table_edits.specs.Created.{with_table}
use Rattle.msi_table_edits.specs.Making.{ChangesTableSet}
use Rattle.msi_table_edits.specs.Validating.{validated, with_validation, Validates}
use Rattle.msi_spec.specs.Calls.{created, own_columns, Creates, EndsRefusedOrBy, Rows3}
use Rattle.msi_spec.specs.Package.{at_name, stream_name, PackageContent}
use Rattle.msi_parts.specs.Parts.{heading}
use Rattle.msi_pool.specs.Pool.{Pool}
use Rattle.msi_pool.specs.PoolState.{PoolState}
use Rattle.msi_stored.specs.Changing.{PackageRule, StoreIsChanged}
use Rattle.msi_tables.specs.Rows.{Row}
use Rattle.msi_tables.specs.Schema.{columns_columns, tables_columns, validation_name}
use Rattle.msi_tables.specs.Table.{IsStoredByKeys}
use Rattle.msi.specs.Changing.{failed_in, PackageChanges}
use Rattle.msi.specs.Opened.{PackageHasContent, file_in, pool_in, sound_in, store_in}
use Rattle.msi.specs.declared.package.Package.{Package}
use Rattle.msi.proofs.Changed.{failed_too, keeps_held, next_held, DifferByFile, DifferByStore}

-- a new table leaves kind and summary
pub made_keeps : (letters : CaseTable) (P : PackageContent) (name : List ℕ) (columns : List Column) (Q : PackageContent) → Creates letters P name columns Q (Ok tt) → (Q.kind ≡ P.kind) × (Q.summary ≡ P.summary)
made_keeps letters P name columns Q told = by (created (is_none (at_name letters P.storages (stream_name name))) P name columns) told
  where
    by : (r : Result (Rows3 × Pool) Error)
        → EndsRefusedOrBy r P Q (Ok tt) (λ x. (c : List Row) × (t : List Row) × (v : List Row)
        × IsStoredByKeys x.1 columns_columns x.0.0 c × IsStoredByKeys x.1 tables_columns x.0.1 t × IsStoredByKeys x.1 (own_columns P) x.0.2 v
        × (Q ≡ with_table P name columns x.1 c t v)) → (Q.kind ≡ P.kind) × (Q.summary ≡ P.summary)
    by (Err e) told = let never : Ok tt ≡ Err e = told.1 in absurd (cc)
    by (Ok x) told = let is = told.1.6 in (ap (λ (X : PackageContent). X.kind) is, ap (λ (X : PackageContent). X.summary) is)

-- so does an empty _Validation
pub validated_keeps : (letters : CaseTable) (P Q : PackageContent) → Validates letters P Q (Ok tt) → (Q.kind ≡ P.kind) × (Q.summary ≡ P.summary)
validated_keeps letters P Q told = by (validated (is_none (at_name letters P.storages (stream_name validation_name))) P) told
  where
    by : (r : Result ((List Row × List Row) × Pool) Error)
        → EndsRefusedOrBy r P Q (Ok tt) (λ x. (c : List Row) × (t : List Row) × IsStoredByKeys x.1 columns_columns x.0.0 c × IsStoredByKeys x.1 tables_columns x.0.1 t × (Q ≡ with_validation P x.1 c t))
        → (Q.kind ≡ P.kind) × (Q.summary ≡ P.summary)
    by (Err e) told = let never : Ok tt ≡ Err e = told.1 in absurd (cc)
    by (Ok x) told = let is = told.1.4 in (ap (λ (X : PackageContent). X.kind) is, ap (λ (X : PackageContent). X.summary) is)

module _ {F : Type 0} {g : Ghosts F} (rule : PackageRule) (keeps : (P Q : PackageContent) → rule P Q (Ok tt) → (Q.kind ≡ P.kind) × (Q.summary ≡ P.summary)) (old new : Package F g) (d : DifferByStore old new)
    (live : failed_in old ≡ false) (sound : sound_in old ≡ true) where
  memory : (P : PackageContent) → PackageHasContent old P → edited.MemoryIsTablesAndPool (store_in old) (pool_in old).pool P
  memory P h = record { pool = h.memory.pool; tables = h.memory.tables ∙ ap (λ (p : Pool). map (heading p.long) P.tables) h.memory.pool }

  pub made_changes : (r : Result (Unit {0}) Error) → ChangesTableSet rule r (store_in old) (store_in new) (pool_in old) (pool_in new) → PackageChanges rule r old new
  made_changes (Ok u) c = record {
    failed = λ yes. let never : true ≡ false = sym yes ∙ live in absurd (cc);
    unsound = λ no wrong. let never : true ≡ false = sym sound ∙ wrong in absurd (cc);
    done = λ P h.
        let both = h.sound sound in
        let e = c.done h.tree P both.0 both.1 (memory P h) in
        let k = keeps P e.changed.next e.changed.answered in (
          e.changed.next,
          e.changed.answered,
          next_held old new d rule P h e.changed k.0 k.1 e.memory.pool (e.memory.tables ∙ ap (λ (p : Pool). map (heading p.long) e.changed.next.tables) (sym e.memory.pool)) (was P h e.changed e.memory.pool),
        );
    refused = tt;
    rests = tt;
    seen = (c.seen.0, d.sound);
  }
    where
      was : (P : PackageContent) (h : PackageHasContent old P) (s : StoreIsChanged rule h.tree P (file_in old) (file_in new)) → (pool_in new).pool ≡ s.next.pool
          → (pool_in new).modified ≡ false → ((pool_in old).modified ≡ false) × (P.pool ≡ s.next.pool)
      was P h s pool unmodified =
          let same = c.marked unmodified in (sym (ap (λ (p : PoolState). p.modified) same) ∙ unmodified, sym h.memory.pool ∙ sym (ap (λ (p : PoolState). p.pool) same) ∙ pool)
  made_changes (Err e) c = record {
    failed = λ yes. let never : true ≡ false = sym yes ∙ live in absurd (cc);
    unsound = λ no wrong. let never : true ≡ false = sym sound ∙ wrong in absurd (cc);
    done = tt;
    refused = λ P h is. let both = h.sound is in elim (c.refused h.tree P both.0 both.1 (memory P h)) [ inl fault ↦ inl fault | inr rule ↦ inr (rule.0, keeps_held old new same is c.memory.0 rule.1) ];
    rests = elim c.rests [ inl failed ↦ inl (failed_too (file_in new) failed) | inr keeps ↦ inr (keeps_held old new same sound c.memory.0 keeps) ];
    seen = (c.seen.0, d.sound);
  }
    where
      same : DifferByFile old new
      same = record { letters = d.letters; tables = c.memory.1; kind = d.kind; summary = d.summary; sound = d.sound; written = d.written }
