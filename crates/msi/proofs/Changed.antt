-- A package whose file was changed by a rule is held as the rule makes it.
use Rattle.std.proofs.Common.{◌≡◌, ◌∙◌, ◌⊎◌, ℕ, List, IsTrue, ap, false, inl, inr, map, subst, sym, true}
use Rattle.std.specs.Prelude.{Err, IfErr, Ok, OnErr, OnOk, Result, ◌||◌}
use Rattle.cfb.proofs.LiveMeaning.{holds_meant}
use Rattle.cfb.specs.FollowedRules.{FileMeansTree}
use Rattle.cfb.specs.Putting.{KeepsMeant}
use Rattle.cfb.specs.Views.{file_case_table, mini_of}
use Rattle.cfb.specs.declared.compound_file.CompoundFile.{CompoundFile}
use Rattle.cfb_fat.specs.Tables.{has_failed, has_failed_here, medium_of}
use Rattle.cfb_tree_edits.specs.LiveTreeRules.{IsFaultOrFull}
use Rattle.cfb_medium.specs.declared.error.Error.{Error}
use Rattle.cfb_medium.specs.declared.medium.ReadMedium.{Ghosts}
use Rattle.cfb_mini.specs.Views.{allocator_of}
use Rattle.cfb_tree.specs.Names.{CaseTable}
use Rattle.cfb_tree.specs.Tree.{Tree}
use Rattle.msi_row_edits.specs.Edited.{EditsPackageRows, IsEdited}
use Rattle.msi_row_edits.specs.Edited as edited
use Rattle.msi_table_edits.specs.Drops.{DropsTable}
use Rattle.msi_table_edits.specs.Dropping.{without_table}
use Rattle.msi_spec.specs.Calls.{dropped, own_columns, rows_beside, Drops, EndsRefusedOrBy}
use Rattle.msi_tables.specs.Rows.{IsStored, Row}
use Rattle.msi_tables.specs.Schema.{columns_columns, columns_name, tables_columns, tables_name, validation_name}
use Rattle.msi_tables.specs.Table.{Table}
use Rattle.msi_spec.specs.Opening.{keeps_encoded_names}
use Rattle.msi_spec.specs.Package.{PackageContent}
use Rattle.msi_spec.specs.SoundParts.{GivesBack}
use Rattle.msi_spec.specs.Split.{HasPool, HasSummary, TreeStoresRest}
use Rattle.msi_parts.specs.Parts.{heading}
use Rattle.msi_pool.specs.Pool.{Pool}
use Rattle.msi_pool.specs.PoolKept.{IsWritable}
use Rattle.msi_pool.specs.PoolState.{PoolState}
use Rattle.msi_stored.proofs.Kept.{pool_kept, summary_kept}
use Rattle.msi_stored.specs.Changing.{ChangesStoredPackage, KeepsParts, StoreIsChanged, PackageRule, StoresSoundPackage}
use Rattle.msi_streams.specs.Parts.{HasThree}
use Rattle.msi.specs.Changing.{PackageChanges, KeepsHeld, failed_in}
use Rattle.msi.specs.Opened.{PackageHasContent, SummaryIsFit, file_in, kind_in, pool_in, sound_in, store_in, summary_in, tables_in, written_in}
use Rattle.msi.specs.declared.package.Package.{Package}

-- two packages in memory that differ by their files and pools alone
pub record DifferByFile {F : Type 0} {g : Ghosts F} (old new : Package F g) : Type 0 where
  pub letters : file_case_table (file_in new) ≡ file_case_table (file_in old)
  pub tables : tables_in new ≡ tables_in old
  pub kind : kind_in new ≡ kind_in old
  pub summary : summary_in new ≡ summary_in old
  pub sound : sound_in new ≡ sound_in old
  pub written : written_in new ≡ written_in old

-- the same, where tables may differ too
pub record DifferByStore {F : Type 0} {g : Ghosts F} (old new : Package F g) : Type 0 where
  pub letters : file_case_table (file_in new) ≡ file_case_table (file_in old)
  pub kind : kind_in new ≡ kind_in old
  pub summary : summary_in new ≡ summary_in old
  pub sound : sound_in new ≡ sound_in old
  pub written : written_in new ≡ written_in old

by_store : {F : Type 0} {g : Ghosts F} (old new : Package F g) → DifferByFile old new → DifferByStore old new
by_store old new d = record { letters = d.letters; kind = d.kind; summary = d.summary; sound = d.sound; written = d.written }

-- a fault in the file is one of the package
pub failed_too : {F : Type 0} {g : Ghosts F} (file : CompoundFile F g) → has_failed_here (allocator_of (mini_of file)) ≡ true → has_failed (allocator_of (mini_of file)) ≡ true
failed_too {F} {g} file is = ap (λ b. b || g.failed (medium_of (allocator_of (mini_of file)))) is

-- streams stand in the places of the three yet
three_kept : (letters : CaseTable) (old new : Tree) → KeepsParts letters old new → HasThree letters old → HasThree letters new
three_kept letters old new keeps h = record {
  summary = h.summary;
  summary_at = keeps.summary ∙ h.summary_at;
  pool = h.pool;
  pool_at = keeps.pool ∙ h.pool_at;
  pool_data = h.pool_data;
  data_at = keeps.pool_data ∙ h.data_at;
}

-- the texts of the three give back their bytes yet
gives_kept : (letters : CaseTable) (old new : Tree) → KeepsParts letters old new → GivesBack letters old → GivesBack letters new
gives_kept letters old new keeps h = record {
  pool = λ pool_bytes data_bytes builder pool_at data_at begins. h.pool pool_bytes data_bytes builder (sym keeps.pool ∙ pool_at) (sym keeps.pool_data ∙ data_at) begins;
  summary = λ bytes at. h.summary bytes (sym keeps.summary ∙ at);
}

module _ {F : Type 0} {g : Ghosts F} (old new : Package F g) (d : DifferByFile old new) where
  -- where the file means what it meant, and the pool is as it was, what was held is held
  pub keeps_held : IsTrue (sound_in old) → pool_in new ≡ pool_in old → KeepsMeant (file_in old) (file_in new) → KeepsHeld old new
  keeps_held is pool keeps = record {
    holds = λ P h.
        let both = h.sound is in
        let means = keeps.means h.tree both.0 in
        record {
          tree = h.tree;
          file = holds_meant (file_in new) h.tree means;
          usable = ap keeps_encoded_names d.letters ∙ h.usable;
          stores = subst (λ l. TreeStoresRest l h.tree P) (sym d.letters) h.stores;
          memory = record {
            kind = d.kind ∙ h.memory.kind;
            summary = ap (λ s. s.props) d.summary ∙ h.memory.summary;
            pool = ap (λ (p : PoolState). p.pool) pool ∙ h.memory.pool;
            tables = d.tables ∙ h.memory.tables ∙ ap (λ l. map (heading l) P.tables) (sym (ap (λ (p : PoolState). p.pool.long) pool));
          };
          pool = λ unmodified writable. subst (λ l. HasPool l h.tree P.pool) (sym d.letters) (h.pool (sym (ap (λ (p : PoolState). p.modified) pool) ∙ unmodified) writable);
          summary = λ written fit. subst (λ l. HasSummary l h.tree P.summary) (sym d.letters) (h.summary (sym d.written ∙ written) fit);
          three = subst (λ l. HasThree l h.tree) (sym d.letters) h.three;
          sound = λ yes. (means, subst (λ l. StoresSoundPackage l h.tree P) (sym d.letters) both.1);
          back = λ yes unmodified written writable fit.
              subst (λ l. GivesBack l h.tree) (sym d.letters) (h.back is (sym (ap (λ (p : PoolState). p.modified) pool) ∙ unmodified) (sym d.written ∙ written) writable fit);
        };
  }

module _ {F : Type 0} {g : Ghosts F} (old new : Package F g) (d : DifferByStore old new) where
  -- what the rule gives is held
  pub next_held : (rule : PackageRule) (P : PackageContent) (h : PackageHasContent old P) (c : StoreIsChanged rule h.tree P (file_in old) (file_in new)) → c.next.kind ≡ P.kind → c.next.summary ≡ P.summary
      → (pool_in new).pool ≡ c.next.pool → tables_in new ≡ map (heading (pool_in new).pool.long) c.next.tables → ((pool_in new).modified ≡ false → ((pool_in old).modified ≡ false) × (P.pool ≡ c.next.pool)) → PackageHasContent new c.next
  next_held rule P h c kind summary pool tables was = record {
    tree = c.after;
    file = holds_meant (file_in new) c.after c.means;
    usable = ap keeps_encoded_names d.letters ∙ h.usable;
    stores = subst (λ l. TreeStoresRest l c.after c.next) (sym d.letters) c.stores.stores;
    memory = record {
      kind = d.kind ∙ h.memory.kind ∙ sym kind;
      summary = ap (λ s. s.props) d.summary ∙ h.memory.summary ∙ sym summary;
      pool = pool;
      tables = tables;
    };
    pool = λ unmodified writable.
        let before = was unmodified in
        subst (λ l. HasPool l c.after c.next.pool) (sym d.letters)
        (subst (λ p. HasPool (file_case_table (file_in old)) c.after p) before.1 (pool_kept (file_case_table (file_in old)) h.tree c.after c.keeps P.pool (h.pool before.0 (subst IsWritable (sym before.1) writable))));
    summary = λ written fit. subst (λ l. HasSummary l c.after c.next.summary) (sym d.letters) (subst (λ s. HasSummary (file_case_table (file_in old)) c.after s) (sym summary) (summary_kept (file_case_table (file_in old)) h.tree c.after c.keeps P.summary (h.summary (sym d.written ∙ written) (subst SummaryIsFit summary fit))));
    three = subst (λ l. HasThree l c.after) (sym d.letters) (three_kept (file_case_table (file_in old)) h.tree c.after c.keeps h.three);
    sound = λ yes. (c.means, subst (λ l. StoresSoundPackage l c.after c.next) (sym d.letters) c.stores);
    back = λ yes unmodified written writable fit.
        let before = was unmodified in
        subst (λ l. GivesBack l c.after) (sym d.letters)
        (gives_kept (file_case_table (file_in old)) h.tree c.after c.keeps (h.back (subst IsTrue d.sound yes) before.0 (sym d.written ∙ written) (subst IsWritable (sym before.1) writable) (subst SummaryIsFit summary fit)));
  }

-- a rule by which a package keeps all but its streams
pub record LeavesTables (rule : PackageRule) : Type 0 where
  pub kind : (P Q : PackageContent) → rule P Q (Ok tt) → Q.kind ≡ P.kind
  pub summary : (P Q : PackageContent) → rule P Q (Ok tt) → Q.summary ≡ P.summary
  pub pool : (P Q : PackageContent) → rule P Q (Ok tt) → Q.pool ≡ P.pool
  pub tables : (P Q : PackageContent) → rule P Q (Ok tt) → Q.tables ≡ P.tables

module _ {F : Type 0} {g : Ghosts F} (rule : PackageRule) (leaves : LeavesTables rule) (old new : Package F g) (d : DifferByFile old new) (same : pool_in new ≡ pool_in old)
    (live : failed_in old ≡ false) (sound : sound_in old ≡ true) where
  -- a call on the file's streams is one of the package
  pub streams_changed : (r : Result (Unit {0}) Error) → ChangesStoredPackage rule r (file_in old) (file_in new) → PackageChanges rule r old new
  streams_changed r c = record {
    failed = λ yes. let never : true ≡ false = sym yes ∙ live in absurd (cc);
    unsound = λ no wrong. let never : true ≡ false = sym sound ∙ wrong in absurd (cc);
    done = done r c.done;
    refused = refused r c.refused;
    rests = rests r c.rests;
    seen = (c.seen.0, d.sound);
  }
    where
      yes : IsTrue (sound_in old)
      yes = sound

      done : (r : Result (Unit {0}) Error) → OnOk r ((tree : Tree) (P : PackageContent) → FileMeansTree (file_in old) tree → StoresSoundPackage (file_case_table (file_in old)) tree P → StoreIsChanged rule tree P (file_in old) (file_in new))
          → OnOk r ((P : PackageContent) → PackageHasContent old P → (Q : PackageContent) × rule P Q (Ok tt) × PackageHasContent new Q)
      done (Ok u) told = λ P h.
          let both = h.sound yes in
          let c = told h.tree P both.0 both.1 in
          let pool : c.next.pool ≡ P.pool = leaves.pool P c.next c.answered in (
            c.next,
            c.answered,
            next_held old new (by_store old new d) rule P h c (leaves.kind P c.next c.answered) (leaves.summary P c.next c.answered)
                (ap (λ (p : PoolState). p.pool) same ∙ h.memory.pool ∙ sym pool)
                (d.tables ∙ h.memory.tables ∙ ap (λ l. map (heading l) P.tables) (sym (ap (λ (p : PoolState). p.pool.long) same)) ∙ ap (λ ts. map (heading (pool_in new).pool.long) ts) (sym (leaves.tables P c.next c.answered)))
                (λ unmodified. (sym (ap (λ (p : PoolState). p.modified) same) ∙ unmodified, sym pool)),
          )
      done (Err e) told = tt

      refused : (r : Result (Unit {0}) Error)
          → IfErr r (λ e. (tree : Tree) (P : PackageContent) → FileMeansTree (file_in old) tree → StoresSoundPackage (file_case_table (file_in old)) tree P → IsFaultOrFull e ⊎ (rule P P (Err e) × KeepsMeant (file_in old) (file_in new)))
          → IfErr r (λ e. (P : PackageContent) → PackageHasContent old P → IsTrue (sound_in old) → IsFaultOrFull e ⊎ (rule P P (Err e) × KeepsHeld old new))
      refused (Ok u) told = tt
      refused (Err e) told = λ P h is. let both = h.sound is in elim (told h.tree P both.0 both.1) [ inl fault ↦ inl fault | inr rule ↦ inr (rule.0, keeps_held old new d is same rule.1) ]

      rests : (r : Result (Unit {0}) Error) → OnErr r ((has_failed_here (allocator_of (mini_of (file_in new))) ≡ true) ⊎ KeepsMeant (file_in old) (file_in new)) → OnErr r ((failed_in new ≡ true) ⊎ KeepsHeld old new)
      rests (Ok u) told = tt
      rests (Err e) told = elim told [ inl failed ↦ inl (failed_too (file_in new) failed) | inr keeps ↦ inr (keeps_held old new d yes same keeps) ]

-- a call on the rows of a table, and on the pool beside it, is one of the package
module _ {F : Type 0} {g : Ghosts F} (rule : PackageRule) (kind : (P Q : PackageContent) → rule P Q (Ok tt) → Q.kind ≡ P.kind) (summary : (P Q : PackageContent) → rule P Q (Ok tt) → Q.summary ≡ P.summary)
    (old new : Package F g) (d : DifferByFile old new) (live : failed_in old ≡ false) (sound : sound_in old ≡ true) where
  pub rows_changed : (r : Result (Unit {0}) Error) → EditsPackageRows rule r (store_in old) (store_in new) (pool_in old) (pool_in new) → PackageChanges rule r old new
  rows_changed r c = record {
    failed = λ yes. let never : true ≡ false = sym yes ∙ live in absurd (cc);
    unsound = λ no wrong. let never : true ≡ false = sym sound ∙ wrong in absurd (cc);
    done = done c.marked r c.done;
    refused = refused r c.refused c.pool;
    rests = rests r c.rests c.pool;
    seen = (c.seen.0, d.sound);
  }
    where
      yes : IsTrue (sound_in old)
      yes = sound

      memory : (P : PackageContent) → PackageHasContent old P → edited.MemoryIsTablesAndPool (store_in old) (pool_in old).pool P
      memory P h = record { pool = h.memory.pool; tables = h.memory.tables ∙ ap (λ (p : Pool). map (heading p.long) P.tables) h.memory.pool }

      was : ((pool_in new).modified ≡ false → pool_in new ≡ pool_in old) → (P : PackageContent) (h : PackageHasContent old P) (c : StoreIsChanged rule h.tree P (file_in old) (file_in new)) → (pool_in new).pool ≡ c.next.pool
          → (pool_in new).modified ≡ false → ((pool_in old).modified ≡ false) × (P.pool ≡ c.next.pool)
      was marked P h c pool unmodified =
          let same = marked unmodified in (sym (ap (λ (p : PoolState). p.modified) same) ∙ unmodified, sym h.memory.pool ∙ sym (ap (λ (p : PoolState). p.pool) same) ∙ pool)

      done : ((pool_in new).modified ≡ false → pool_in new ≡ pool_in old) → (r : Result (Unit {0}) Error)
          → OnOk r ((tree : Tree) (P : PackageContent) → FileMeansTree (file_in old) tree → StoresSoundPackage (file_case_table (file_in old)) tree P → edited.MemoryIsTablesAndPool (store_in old) (pool_in old).pool P → IsEdited rule tree P (file_in old) (file_in new) (pool_in new))
          → OnOk r ((P : PackageContent) → PackageHasContent old P → (Q : PackageContent) × rule P Q (Ok tt) × PackageHasContent new Q)
      done marked (Err e) told = tt
      done marked (Ok u) told = λ P h.
          let both = h.sound yes in
          let e = told h.tree P both.0 both.1 (memory P h) in
          let c = e.changed in (
            c.next,
            c.answered,
            next_held old new (by_store old new d) rule P h c (kind P c.next c.answered) (summary P c.next c.answered) e.pool
                (d.tables ∙ (memory P h).tables ∙ sym e.tables ∙ ap (λ (p : Pool). map (heading p.long) c.next.tables) (sym e.pool))
                (was marked P h c e.pool),
          )

      refused : (r : Result (Unit {0}) Error)
          → IfErr r (λ e. (tree : Tree) (P : PackageContent) → FileMeansTree (file_in old) tree → StoresSoundPackage (file_case_table (file_in old)) tree P → edited.MemoryIsTablesAndPool (store_in old) (pool_in old).pool P
          → IsFaultOrFull e ⊎ (rule P P (Err e) × KeepsMeant (file_in old) (file_in new)))
          → OnErr r (pool_in new ≡ pool_in old) → IfErr r (λ e. (P : PackageContent) → PackageHasContent old P → IsTrue (sound_in old) → IsFaultOrFull e ⊎ (rule P P (Err e) × KeepsHeld old new))
      refused (Ok u) told same = tt
      refused (Err e) told same = λ P h is. let both = h.sound is in elim (told h.tree P both.0 both.1 (memory P h)) [ inl fault ↦ inl fault | inr rule ↦ inr (rule.0, keeps_held old new d is same rule.1) ]

      rests : (r : Result (Unit {0}) Error) → OnErr r ((has_failed_here (allocator_of (mini_of (file_in new))) ≡ true) ⊎ KeepsMeant (file_in old) (file_in new)) → OnErr r (pool_in new ≡ pool_in old)
          → OnErr r ((failed_in new ≡ true) ⊎ KeepsHeld old new)
      rests (Ok u) told same = tt
      rests (Err e) told same = elim told [ inl failed ↦ inl (failed_too (file_in new) failed) | inr keeps ↦ inr (keeps_held old new d yes same keeps) ]

-- a drop keeps kind and summary
drop_keeps : (name : List ℕ) (P Q : PackageContent) → Drops P name Q (Ok tt) → (Q.kind ≡ P.kind) × (Q.summary ≡ P.summary)
drop_keeps name P Q told = by (dropped P name) told
  where
    by : (r : Result (Table × Pool) Error)
        → EndsRefusedOrBy r P Q (Ok tt) (λ x. (c : List Row) × (t : List Row) × (v : List Row)
        × IsStored columns_columns (rows_beside P columns_name name) c × IsStored tables_columns (rows_beside P tables_name name) t × IsStored (own_columns P) (rows_beside P validation_name name) v
        × (Q ≡ without_table P name x.1 c t v)) → (Q.kind ≡ P.kind) × (Q.summary ≡ P.summary)
    by (Err e) told = let never : Ok tt ≡ Err e = told.1 in absurd (cc)
    by (Ok x) told = let is = told.1.6 in (ap (λ (X : PackageContent). X.kind) is, ap (λ (X : PackageContent). X.summary) is)

-- a call that changes the tables too is one of the package, where they are as they were after an error
module _ {F : Type 0} {g : Ghosts F} (name : List ℕ) (old new : Package F g) (d : DifferByStore old new) (live : failed_in old ≡ false) (sound : sound_in old ≡ true) where
  abbrev rule : PackageRule
  rule P Q answer = Drops P name Q answer

  pub tables_changed : (r : Result (Unit {0}) Error) → DropsTable name r (store_in old) (store_in new) (pool_in old) (pool_in new) → PackageChanges rule r old new
  tables_changed (Ok u) c = record {
    failed = λ yes. let never : true ≡ false = sym yes ∙ live in absurd (cc);
    unsound = λ no wrong. let never : true ≡ false = sym sound ∙ wrong in absurd (cc);
    done = λ P h.
        let both = h.sound sound in
        let e = c.done h.tree P both.0 both.1 (memory P h) in
        let k = drop_keeps name P e.changed.next e.changed.answered in (
          e.changed.next,
          e.changed.answered,
          next_held old new d rule P h e.changed k.0 k.1 e.memory.pool (e.memory.tables ∙ ap (λ (p : Pool). map (heading p.long) e.changed.next.tables) (sym e.memory.pool)) (was P h e.changed e.memory.pool),
        );
    refused = tt;
    rests = tt;
    seen = (c.seen.0, d.sound);
  }
    where
      memory : (P : PackageContent) → PackageHasContent old P → edited.MemoryIsTablesAndPool (store_in old) (pool_in old).pool P
      memory P h = record { pool = h.memory.pool; tables = h.memory.tables ∙ ap (λ (p : Pool). map (heading p.long) P.tables) h.memory.pool }

      was : (P : PackageContent) (h : PackageHasContent old P) (s : StoreIsChanged rule h.tree P (file_in old) (file_in new)) → (pool_in new).pool ≡ s.next.pool
          → (pool_in new).modified ≡ false → ((pool_in old).modified ≡ false) × (P.pool ≡ s.next.pool)
      was P h s pool unmodified =
          let same = c.marked unmodified in (sym (ap (λ (p : PoolState). p.modified) same) ∙ unmodified, sym h.memory.pool ∙ sym (ap (λ (p : PoolState). p.pool) same) ∙ pool)
  tables_changed (Err e) c = record {
    failed = λ yes. let never : true ≡ false = sym yes ∙ live in absurd (cc);
    unsound = λ no wrong. let never : true ≡ false = sym sound ∙ wrong in absurd (cc);
    done = tt;
    refused = λ P h is. let both = h.sound is in elim (c.refused h.tree P both.0 both.1 (memory P h)) [ inl fault ↦ inl fault | inr rule ↦ inr (rule.0, keeps_held old new same is c.pool rule.1) ];
    rests = elim c.rests [ inl failed ↦ inl (failed_too (file_in new) failed) | inr keeps ↦ inr (keeps_held old new same sound c.pool keeps) ];
    seen = (c.seen.0, d.sound);
  }
    where
      memory : (P : PackageContent) → PackageHasContent old P → edited.MemoryIsTablesAndPool (store_in old) (pool_in old).pool P
      memory P h = record { pool = h.memory.pool; tables = h.memory.tables ∙ ap (λ (p : Pool). map (heading p.long) P.tables) h.memory.pool }

      same : DifferByFile old new
      same = record { letters = d.letters; tables = c.tables; kind = d.kind; summary = d.summary; sound = d.sound; written = d.written }
