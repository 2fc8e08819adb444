-- What a query on the rows of a table did, at each of its exits.
use Rattle.std.proofs.Common.{◌≡◌, ◌∙◌, ◌⊎◌, ℕ, Bool, true, false, List, [], ◌∷◌, map, length, Option, Some, None, refl, sym, ap, subst, arith, inl, inr, ⊎_elim, Vec, Result, Ok, Err}
use Rattle.std.specs.Prelude.{bytes_eq, option_map, IfErr}
use Rattle.std.specs.declared.alloc.Global.{Global}
use Rattle.cfb.specs.FollowedRules.{FileMeansTree}
use Rattle.cfb.specs.Putting.{KeepsMeant}
use Rattle.cfb.specs.Streams.{FileHoldsTree}
use Rattle.cfb.specs.Views.{file_case_table, mini_of, sound_of, OnlyReadsFile}
use Rattle.cfb.specs.declared.compound_file.CompoundFile.{CompoundFile}
use Rattle.cfb.proofs.LiveMeaning.{holds_meant, means_read}
use Rattle.cfb_fat.specs.Keeping.{own_cause}
use Rattle.cfb_fat.specs.Tables.{has_failed_here, IsJustifiedBySectors}
use Rattle.cfb_fat.specs.declared.allocator.Allocator.{Allocator}
use Rattle.cfb_mini.specs.Views.{allocator_of}
use Rattle.cfb_medium.specs.Calls.{IsFaultOrInvalidInputIf}
use Rattle.cfb_medium.specs.declared.error.Error.{Error}
use Rattle.cfb_medium.specs.declared.error.Error.TheVariants.{Device, Failed, InvalidData, Memory, NotFound}
use Rattle.cfb_medium.specs.declared.medium.ReadMedium.{Ghosts}
use Rattle.cfb_tree.specs.Names.{CaseTable}
use Rattle.cfb_tree.specs.Tree.{Tree}
use Rattle.msi_changes.specs.Applied.{with_rows}
use Rattle.msi_changes.specs.Prepared.{pool_after}
use Rattle.msi_pool.specs.Pool.{Pool}
use Rattle.msi_pool.specs.PoolState.{PoolState}
use Rattle.msi_pool.specs.declared.draft.PoolChanges.{PoolChanges}
use Rattle.msi_tables.specs.Rows.{Row}
use Rattle.msi_tables.specs.Table.{table_named, Heading, Table}
use Rattle.msi_spec.specs.Package.{stream_name, PackageContent}
use Rattle.msi_spec.proofs.SystemRows.{same_bytes}
use Rattle.msi_parts.specs.Judged.{heading_named}
use Rattle.msi_parts.specs.Parts.{heading}
use Rattle.msi_parts.proofs.Judging.{named_heading}
use Rattle.msi_store.specs.Stores.{file_in, tables_in}
use Rattle.msi_store.specs.declared.store.Store.{Store}
use Rattle.msi_stored.specs.Changing.{PackageRule, StoresSoundPackage}
use Rattle.msi_stored.specs.Room.{IsFullForName, IsFullForRule}
use Rattle.msi_stored.specs.StoredPackages.{rows_in}
use Rattle.msi_stored.proofs.Room.{room_before}
use Rattle.msi_rewritten.specs.Rewriting.{HasPut}
use Rattle.msi_row_edits.specs.Edited.{CanPut, EditsPackageRows, EditsTable, EditFullOnlyWithoutRoom, FillsTable, IsEditError, IsEditErrorButFull, IsEdited, MemoryIsTablesAndPool, IsTableOf, PutsTable}
use Rattle.msi_row_edits.specs.Asked.{rows_after, rule_of, IsPrepared, RowsAsked, ReturnsRows}
use Rattle.msi_row_edits.proofs.Refusals.{asked_own, own_kind, own_so, own_unput, IsOwn}
use Rattle.msi_row_edits.proofs.EditedSo.{can_put, edited_here, full_here, not_found, refused_here, rows_there, wide_so}

-- what was told of rows that were read is told of those of the tree
module _ (q : RowsAsked) (h : Heading) (state : PoolState) where
  pub told_so : (read rows : List Row) (r : Result (Vec ℕ Global × PoolChanges) Error) → read ≡ rows → ReturnsRows q h state read (λ e. e ≡ Memory) r → ReturnsRows q h state rows (IsFaultOrInvalidInputIf ⊥) r
  told_so read rows (Ok x) same told = subst (λ (rs : List Row). IsPrepared q h.name state.pool (with_rows h rs) x.0.items (pool_after state x.1)) same told
  told_so read rows (Err e) same told = ⊎_elim (λ memory. inl (subst (IsFaultOrInvalidInputIf ⊥) (sym memory) tt)) (λ is. inr (ap (λ (rs : List Row). rows_after q h.name state.pool (with_rows h rs)) (sym same) ∙ is)) told

  pub prepared_own : (rows : List Row) (r : Result (Vec ℕ Global × PoolChanges) Error) → ReturnsRows q h state rows (λ e. e ≡ Memory) r → IfErr r IsOwn
  prepared_own rows (Ok x) told = tt
  prepared_own rows (Err e) told = asked_own q h.name state.pool (with_rows h rows) e told

pub own_causes : {F T : Type 0} {g : Ghosts F} (a b : Allocator F g) (r : Result T Error) → IfErr r IsOwn → IfErr r (IsJustifiedBySectors a b)
own_causes a b (Ok x) own = tt
own_causes a b (Err e) own = own_so a b e own

pub own_kinds : {T : Type 0} (r : Result T Error) → IfErr r IsOwn → IfErr r IsEditError
own_kinds (Ok x) own = tt
own_kinds (Err e) own = own_kind e own

pub owns_unput : {T : Type 0} (r : Result T Error) → IfErr r IsOwn → IfErr r IsEditErrorButFull
owns_unput (Ok x) own = tt
owns_unput (Err e) own = own_unput e own

module _ {F : Type 0} {g : Ghosts F} (q : RowsAsked) (h : Heading) where
  read_keeps : (old new : CompoundFile F g) → OnlyReadsFile old new → KeepsMeant old new
  read_keeps old new rests = record { means = λ tree m. means_read old new tree rests m }

  -- refused, or a fault, where the file was only read
  pub edit_refused : (old new : CompoundFile F g) (pool : PoolState) (e : Error) → OnlyReadsFile old new
      → ((tree : Tree) → FileHoldsTree old tree → pool.pool.long ≡ h.long → (rows : List Row) → rows_in (file_case_table old) tree h ≡ Some rows
      → IsFaultOrInvalidInputIf ⊥ e ⊎ (rows_after q h.name pool.pool (with_rows h rows) ≡ Err e))
      → EditsTable {T = Unit {0}} (rule_of q h.name) h (Err e) old new pool pool
  edit_refused old new pool e rests told = record {
    done = tt;
    refused = λ tree P t m s of_it.
        let there = rows_there old new tree P s h t pool.pool of_it in
        ⊎_elim (λ fault. inl (inl fault)) (λ is. inr (refused_here old new tree P s h t pool.pool of_it q t.rows e there is, read_keeps old new rests))
        (told tree (holds_meant old tree m) (wide_so old new tree P s h t pool.pool of_it) t.rows there);
    rests = inr (read_keeps old new rests);
    pool = refl;
    marked = λ flag. refl;
    seen = (rests.letters, rests.sound, rests.validation);
  }

  -- the file was read, and then put
  module _ (old mid new : CompoundFile F g) (rests : OnlyReadsFile old mid) (bytes : List ℕ) (pool : PoolState) where
    keeps_then : KeepsMeant mid new → KeepsMeant old new
    keeps_then k = record { means = λ tree m. k.means tree (means_read old mid tree rests m) }

    pub edit_fault : (e : Error) → PutsTable {T = Unit {0}} h.name bytes (Err e) mid new → EditsTable {T = Unit {0}} (rule_of q h.name) h (Err e) old new pool pool
    edit_fault e p = record {
      done = tt;
      refused = λ tree P t m s of_it. inl (p.refused tree (means_read old mid tree rests m) (subst (λ (l : CaseTable). CanPut l h.name tree) (sym rests.letters) (can_put old new tree P s h t pool.pool of_it)));
      rests = ⊎_elim (λ failed. inl failed) (λ k. inr (keeps_then k)) p.rests;
      pool = refl;
      marked = λ flag. refl;
      seen = (p.seen.0 ∙ rests.letters, p.seen.1 ∙ rests.sound, p.seen.2 ∙ rests.validation);
    }

    pub edit_full : (next : Pool) → ((tree : Tree) → FileHoldsTree old tree → pool.pool.long ≡ h.long → (rows : List Row) → rows_in (file_case_table old) tree h ≡ Some rows
        → IsPrepared q h.name pool.pool (with_rows h rows) bytes next)
        → IsFullForName mid (stream_name h.name) (length bytes) → (tree : Tree) (P : PackageContent) (t : Table) → FileMeansTree old tree → StoresSoundPackage (file_case_table old) tree P → IsTableOf pool.pool h P t
        → IsFullForRule (rule_of q h.name) old P
    edit_full next told full tree P t m s of_it =
        let there = rows_there old new tree P s h t pool.pool of_it in
        full_here old new tree P s h t pool.pool of_it q t.rows bytes next there (told tree (holds_meant old tree m) (wide_so old new tree P s h t pool.pool of_it) t.rows there)
        (room_before old mid rests (stream_name h.name) (length bytes) full)

    pub edit_done : (after : PoolState) → (after.modified ≡ false → after ≡ pool)
        → ((tree : Tree) → FileHoldsTree old tree → pool.pool.long ≡ h.long → (rows : List Row) → rows_in (file_case_table old) tree h ≡ Some rows
        → IsPrepared q h.name pool.pool (with_rows h rows) bytes after.pool)
        → PutsTable {T = Unit {0}} h.name bytes (Ok tt) mid new → EditsTable {T = Unit {0}} (rule_of q h.name) h (Ok tt) old new pool after
    edit_done after marked told p = record {
      done = λ tree P t m s of_it.
          let there = rows_there old new tree P s h t pool.pool of_it in
          let put = p.done tree (means_read old mid tree rests m) (subst (λ (l : CaseTable). CanPut l h.name tree) (sym rests.letters) (can_put old new tree P s h t pool.pool of_it)) in
          edited_here old new tree P s h t pool.pool of_it q t.rows bytes after there (told tree (holds_meant old tree m) (wide_so old new tree P s h t pool.pool of_it) t.rows there)
          put.0 put.1 (subst (λ (l : CaseTable). HasPut l h.name bytes tree put.0) rests.letters put.2);
      refused = tt;
      rests = tt;
      pool = tt;
      marked = marked;
      seen = (p.seen.0 ∙ rests.letters, p.seen.1 ∙ rests.sound, p.seen.2 ∙ rests.validation);
    }

-- ---- in the package

heading_name : (hs : List Heading) (name : List ℕ) (h : Heading) → heading_named hs name ≡ Some h → h.name ≡ name
heading_name [] name h is = (let never : None ≡ Some h = is in absurd (cc))
heading_name (x ∷ xs) name h is = by (bytes_eq x.name name) refl (heading_name xs name h)
  where
    by : (b : Bool) → bytes_eq x.name name ≡ b → (heading_named xs name ≡ Some h → h.name ≡ name) → h.name ≡ name
    by true e rest =
        let here : Some x ≡ Some h = rw e at is in
        let same : x ≡ h = grind (arith, here) in
        sym (ap (λ (y : Heading). y.name) same) ∙ same_bytes x.name name e
    by false e rest = rest (rw e at is)

-- the table of a heading that was found
pub found_of : (long : Bool) (o : Option Table) (h : Heading) → option_map (heading long) o ≡ Some h → (t : Table) × (o ≡ Some t) × (h ≡ heading long t)
found_of long None h is = (let never : None ≡ Some h = is in absurd (cc))
found_of long (Some t) h is = (t, refl, (let same : heading long t ≡ h = grind (arith, is) in sym same))

pub none_of : (long : Bool) (o : Option Table) → option_map (heading long) o ≡ None → o ≡ None
none_of long None is = refl
none_of long (Some t) is = (let never : Some (heading long t) ≡ None = is in absurd (cc))

module _ {F : Type 0} {g : Ghosts F} where
  -- a refusal before all rules
  abbrev pub IsFirst : CompoundFile F g → Error → Type 0
  IsFirst it e = ((e ≡ Failed) × (has_failed_here (allocator_of (mini_of it)) ≡ true))
      ⊎ ((e ≡ InvalidData) × (has_failed_here (allocator_of (mini_of it)) ≡ false) × (sound_of it ≡ false))

  pub first_cause : (it : CompoundFile F g) (e : Error) → IsFirst it e → IsJustifiedBySectors (allocator_of (mini_of it)) (allocator_of (mini_of it)) e
  first_cause it e (inl failed) = own_cause (allocator_of (mini_of it)) (allocator_of (mini_of it)) e (λ is. let never : Failed ≡ Device = sym failed.0 ∙ is in absurd (cc)) (λ is. failed.1)
  first_cause it e (inr unsound) = own_so (allocator_of (mini_of it)) (allocator_of (mini_of it)) e (subst IsOwn (sym unsound.0) tt)

  pub first_kind : (it : CompoundFile F g) (e : Error) → IsFirst it e → IsEditError e
  first_kind it e (inl failed) = subst IsEditError (sym failed.0) (inl tt)
  first_kind it e (inr unsound) = own_kind e (subst IsOwn (sym unsound.0) tt)

  pub first_unput : (it : CompoundFile F g) (e : Error) → IsFirst it e → IsEditErrorButFull e
  first_unput it e (inl failed) = subst IsEditErrorButFull (sym failed.0) tt
  first_unput it e (inr unsound) = subst IsEditErrorButFull (sym unsound.0) tt

  -- the file may be changed
  abbrev pub IsOpen : CompoundFile F g → Type 0
  IsOpen it = (has_failed_here (allocator_of (mini_of it)) ≡ false) × (sound_of it ≡ true)

  module _ (own : PackageRule) (it : Store F g) (pool : PoolState) where
    pub first_refused : (e : Error) → IsFirst (file_in it) e → EditsPackageRows {T = Unit {0}} own (Err e) it it pool pool
    first_refused e (inl failed) = record {
      failed = λ before. ap (λ e. Err e) failed.0;
      unsound = λ live unsound. let never : true ≡ false = sym failed.1 ∙ live in absurd (cc);
      done = tt;
      refused = λ tree P m s memory. let never : true ≡ false = sym failed.1 ∙ m.live.live in absurd (cc);
      rests = inr (record { means = λ tree m. m });
      pool = refl;
      marked = λ flag. refl;
      tables = refl;
      seen = (refl, refl, refl);
    }
    first_refused e (inr unsound) = record {
      failed = λ before. let never : true ≡ false = sym before ∙ unsound.1 in absurd (cc);
      unsound = λ live is. ap (λ e. Err e) unsound.0;
      done = tt;
      refused = λ tree P m s memory. let never : true ≡ false = sym m.sound ∙ unsound.2 in absurd (cc);
      rests = inr (record { means = λ tree m. m });
      pool = refl;
      marked = λ flag. refl;
      tables = refl;
      seen = (refl, refl, refl);
    }

  module _ (q : RowsAsked) (name : List ℕ) (old : Store F g) (open_file : IsOpen (file_in old)) where
    was_live : {A : Type 0} → has_failed_here (allocator_of (mini_of (file_in old))) ≡ true → A
    was_live failed = let never : true ≡ false = sym failed ∙ open_file.0 in absurd (cc)

    was_sound : {A : Type 0} → sound_of (file_in old) ≡ false → A
    was_sound unsound = let never : true ≡ false = sym open_file.1 ∙ unsound in absurd (cc)

    pub none_edits : (pool : PoolState) → heading_named (tables_in old) name ≡ None → EditsPackageRows {T = Unit {0}} (rule_of q name) (Err NotFound) old old pool pool
    none_edits pool none = record {
      failed = λ failed. was_live failed;
      unsound = λ live unsound. was_sound unsound;
      done = tt;
      refused = λ tree P m s memory.
          let is : heading_named (map (heading P.pool.long) P.tables) name ≡ None = ap (λ hs. heading_named hs name) (sym memory.tables) ∙ none in
          inr (not_found P name (none_of P.pool.long (table_named P.tables name) (sym (named_heading P.pool.long P.tables name) ∙ is)) q, record { means = λ tree m. m });
      rests = inr (record { means = λ tree m. m });
      pool = refl;
      marked = λ flag. refl;
      tables = refl;
      seen = (refl, refl, refl);
    }

    module _ (new : Store F g) (h : Heading) (before after : PoolState) (there : heading_named (tables_in old) name ≡ Some h) (same : tables_in new ≡ tables_in old) where
      of_name : h.name ≡ name
      of_name = heading_name (tables_in old) name h there

      table_of : (P : PackageContent) → MemoryIsTablesAndPool old before.pool P → (t : Table) × IsTableOf before.pool h P t
      table_of P memory =
          let is : heading_named (map (heading P.pool.long) P.tables) name ≡ Some h = ap (λ hs. heading_named hs name) (sym memory.tables) ∙ there in
          let found = found_of P.pool.long (table_named P.tables name) h (sym (named_heading P.pool.long P.tables name) ∙ is) in
          (found.0, record { pool = memory.pool; named = ap (table_named P.tables) of_name ∙ found.1; told = found.2 })

      pub table_edits : (r : Result (Unit {0}) Error) → EditsTable {T = Unit {0}} (rule_of q h.name) h r (file_in old) (file_in new) before after → EditsPackageRows {T = Unit {0}} (rule_of q name) r old new before after
      table_edits (Ok x) e = record {
        failed = λ failed. was_live failed;
        unsound = λ live unsound. was_sound unsound;
        done = λ tree P m s memory. let t = table_of P memory in subst (λ n. IsEdited (rule_of q n) tree P (file_in old) (file_in new) after) of_name (e.done tree P t.0 m s t.1);
        refused = tt;
        rests = tt;
        pool = tt;
        marked = e.marked;
        tables = same;
        seen = e.seen;
      }
      table_edits (Err x) e = record {
        failed = λ failed. was_live failed;
        unsound = λ live unsound. was_sound unsound;
        done = tt;
        refused = λ tree P m s memory. let t = table_of P memory in
            ⊎_elim (λ fault. inl fault) (λ told. inr (subst (λ n. rule_of q n P P (Err x)) of_name told.0, told.1)) (e.refused tree P t.0 m s t.1);
        rests = e.rests;
        pool = e.pool;
        marked = e.marked;
        tables = same;
        seen = e.seen;
      }

      pub table_fills : (r : Result (Unit {0}) Error) → FillsTable (rule_of q h.name) h r (file_in old) (file_in new) before → EditFullOnlyWithoutRoom (rule_of q name) r old new before
      table_fills r full is live tree P m s memory = let t = table_of P memory in subst (λ n. IsFullForRule (rule_of q n) (file_in old) P) of_name (full is live tree P t.0 m s t.1)
