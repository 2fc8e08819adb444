-- What a call that drops a table did, at each of its exits.
use Rattle.std.proofs.Common.{◌≡◌, ◌∙◌, ℕ, Bool, true, false, cond, List, [], ◌∷◌, map, length, refl, sym, ap, ap₂, subst, inl, inr, ⊎_elim, Result, Ok, Err}
use Rattle.std.specs.Prelude.{◌⊎◌, bytes_eq, filter, not}
use Rattle.std.specs.declared.rc.Rc.{Rc}
use Rattle.std.specs.Rc.{rc_value}
use Rattle.std.specs.declared.alloc.Global.{Global}
use Rattle.cfb.specs.FollowedRules.{FileMeansTree}
use Rattle.cfb.specs.Putting.{KeepsMeant}
use Rattle.cfb.specs.Views.{file_case_table, mini_of, sound_of, OnlyReadsFile}
use Rattle.cfb.specs.declared.compound_file.CompoundFile.{CompoundFile}
use Rattle.cfb.proofs.LiveMeaning.{means_read}
use Rattle.cfb_fat.specs.Tables.{has_failed_here}
use Rattle.cfb_medium.specs.Calls.{IsFaultOrInvalidInputIf}
use Rattle.cfb_medium.specs.declared.error.Error.{Error}
use Rattle.cfb_medium.specs.declared.medium.ReadMedium.{Ghosts}
use Rattle.cfb_mini.specs.Views.{allocator_of}
use Rattle.cfb_tree.specs.Tree.{Tree}
use Rattle.msi_row_edits.specs.Edited.{MemoryIsTablesAndPool}
use Rattle.msi_row_edits.proofs.Exits.{IsFirst, IsOpen}
use Rattle.msi_spec.specs.Calls.{dropped, own_columns, rows_beside, rows_put, with_rows, Drops, EndsRefusedOrBy}
use Rattle.msi_spec.specs.Package.{stream_name, PackageContent}
use Rattle.msi_parts.specs.Parts.{heading}
use Rattle.msi_pool.specs.Pool.{Pool}
use Rattle.msi_pool.specs.PoolState.{PoolState}
use Rattle.msi_rewritten.proofs.Tables.{columns_kept, name_kept}
use Rattle.msi_schema.specs.Headings.{headings_in}
use Rattle.msi_store.specs.Stores.{file_in, tables_in}
use Rattle.msi_store.specs.declared.store.Store.{Store}
use Rattle.msi_stored.specs.Changing.{StoresSoundPackage}
use Rattle.msi_stored.specs.Room.{IsFullForName, IsFullForRule}
use Rattle.msi_stored.proofs.Room.{room_before}
use Rattle.msi_tables.specs.Held.{heading_of}
use Rattle.msi_tables.specs.Rows.{IsStored, Row}
use Rattle.msi_tables.specs.Schema.{columns_columns, columns_name, tables_columns, tables_name, validation_name}
use Rattle.msi_tables.specs.Table.{Heading, Table}
use Rattle.msi_tables.specs.declared.table.Table.{Table as HeldTable}
use Rattle.msi_table_edits.specs.Dropping.{without_table, HasDropped, IsDropping}
use Rattle.msi_table_edits.specs.Drops.{CanDrop, DropsTable, ReplacesStreams}
use Rattle.msi_table_edits.specs.Remains.{MemoryLacksDropped, AreRemains}
use Rattle.msi_table_edits.proofs.LeftPackage.{can_drop, columns_written, keeps, keeps_left, now_columns, of_columns, stores_left}
use Rattle.msi_table_edits.proofs.LeftTables.{other}

-- ---- the rule

module _ (P : PackageContent) (name : List ℕ) where
  abbrev Accepted : PackageContent → Table × Pool → Type 0
  Accepted Q x = (c : List Row) × (t : List Row) × (v : List Row)
      × IsStored columns_columns (rows_beside P columns_name name) c × IsStored tables_columns (rows_beside P tables_name name) t × IsStored (own_columns P) (rows_beside P validation_name name) v
      × (Q ≡ without_table P name x.1 c t v)

  drop_refused : (e : Error) → dropped P name ≡ Err e → Drops P name P (Err e)
  drop_refused e is = subst (λ (r : Result (Table × Pool) Error). EndsRefusedOrBy r P P (Err e) (Accepted P)) (sym is) (refl, refl)

  drop_done : (x : Table × Pool) (c t v : List Row) → IsDropping P name x c t v → Drops P name (without_table P name x.1 c t v) (Ok tt)
  drop_done x c t v d =
      subst (λ (r : Result (Table × Pool) Error). EndsRefusedOrBy r P (without_table P name x.1 c t v) (Ok tt) (Accepted (without_table P name x.1 c t v))) (sym d.accepted)
      (refl, (c, t, v, d.columns, d.tables, d.validation, refl))

-- ---- tables in memory

headings_put : (long : Bool) (m : List ℕ) (stored : List Row) (ts : List Table) → map (heading long) (rows_put m stored ts) ≡ map (heading long) ts
headings_put long m stored [] = refl
headings_put long m stored (t ∷ ts) = ap₂ (λ (h : Heading) (hs : List Heading). h ∷ hs) one (headings_put long m stored ts)
  where
    one : heading long (with_rows m stored t) ≡ heading long t
    one = λ i. record { name = name_kept m stored t i; columns = columns_kept m stored t i; long = long }

headings_left : (long : Bool) (name : List ℕ) (ts : List Table) → filter (λ h. not (bytes_eq h.name name)) (map (heading long) ts) ≡ map (heading long) (filter (other name) ts)
headings_left long name [] = refl
headings_left long name (t ∷ ts) = by (bytes_eq t.name name) (headings_left long name ts)
  where
    by : (b : Bool) → filter (λ h. not (bytes_eq h.name name)) (map (heading long) ts) ≡ map (heading long) (filter (other name) ts)
        → cond (not b) (heading long t ∷ filter (λ h. not (bytes_eq h.name name)) (map (heading long) ts)) (filter (λ h. not (bytes_eq h.name name)) (map (heading long) ts))
        ≡ map (heading long) (cond (not b) (t ∷ filter (other name) ts) (filter (other name) ts))
    by true rest = rest
    by false rest = ap (λ hs. heading long t ∷ hs) rest

pub taken_out : (name : List ℕ) (ts : List (Rc HeldTable Global)) → headings_in (filter (λ t. not (bytes_eq (heading_of (rc_value t)).name name)) ts) ≡ filter (λ h. not (bytes_eq h.name name)) (headings_in ts)
taken_out name [] = refl
taken_out name (t ∷ ts) = by (bytes_eq (heading_of (rc_value t)).name name) (taken_out name ts)
  where
    left : List (Rc HeldTable Global)
    left = filter (λ t. not (bytes_eq (heading_of (rc_value t)).name name)) ts

    by : (b : Bool) → headings_in left ≡ filter (λ h. not (bytes_eq h.name name)) (headings_in ts)
        → headings_in (cond (not b) (t ∷ left) left) ≡ cond (not b) (heading_of (rc_value t) ∷ filter (λ h. not (bytes_eq h.name name)) (headings_in ts)) (filter (λ h. not (bytes_eq h.name name)) (headings_in ts))
    by true rest = rest
    by false rest = ap (λ hs. heading_of (rc_value t) ∷ hs) rest

module _ {F : Type 0} {g : Ghosts F} where
  read_keeps : (old new : CompoundFile F g) → OnlyReadsFile old new → KeepsMeant old new
  read_keeps old new rests = record { means = λ tree m. means_read old new tree rests m }

  pub drop_first : (name : List ℕ) (it : Store F g) (pool : PoolState) (e : Error) → IsFirst (file_in it) e → DropsTable {T = Unit {0}} name (Err e) it it pool pool
  drop_first name it pool e (inl failed) = record {
    failed = λ before. ap (λ e. Err e) failed.0;
    unsound = λ live unsound. let never : true ≡ false = sym failed.1 ∙ live in absurd (cc);
    done = tt;
    refused = λ tree P m s memory. let never : true ≡ false = sym failed.1 ∙ m.live.live in absurd (cc);
    rests = inr (record { means = λ tree m. m });
    pool = refl;
    tables = refl;
    marked = λ flag. refl;
    seen = (refl, refl, refl);
  }
  drop_first name it pool e (inr unsound) = record {
    failed = λ before. let never : true ≡ false = sym before ∙ unsound.1 in absurd (cc);
    unsound = λ live is. ap (λ e. Err e) unsound.0;
    done = tt;
    refused = λ tree P m s memory. let never : true ≡ false = sym m.sound ∙ unsound.2 in absurd (cc);
    rests = inr (record { means = λ tree m. m });
    pool = refl;
    tables = refl;
    marked = λ flag. refl;
    seen = (refl, refl, refl);
  }

  module _ (name : List ℕ) (old : Store F g) (open_file : IsOpen (file_in old)) (before : PoolState) where
    was_live : {A : Type 0} → has_failed_here (allocator_of (mini_of (file_in old))) ≡ true → A
    was_live failed = let never : true ≡ false = sym failed ∙ open_file.0 in absurd (cc)

    was_sound : {A : Type 0} → sound_of (file_in old) ≡ false → A
    was_sound unsound = let never : true ≡ false = sym open_file.1 ∙ unsound in absurd (cc)

    held_so : (P : PackageContent) → MemoryIsTablesAndPool old before.pool P → MemoryLacksDropped (tables_in old) before.pool P
    held_so P memory = record { pool = memory.pool; tables = memory.tables }

    -- refused, or a fault, where the file was only read
    pub drop_unprepared : (new : Store F g) (e : Error) → OnlyReadsFile (file_in old) (file_in new) → tables_in new ≡ tables_in old
        → ((tree : Tree) (P : PackageContent) → FileMeansTree (file_in old) tree → StoresSoundPackage (file_case_table (file_in old)) tree P → MemoryLacksDropped (tables_in old) before.pool P → IsFaultOrInvalidInputIf ⊥ e ⊎ (dropped P name ≡ Err e))
        → DropsTable {T = Unit {0}} name (Err e) old new before before
    drop_unprepared new e rests same told = record {
      failed = λ failed. was_live failed;
      unsound = λ live unsound. was_sound unsound;
      done = tt;
      refused = λ tree P m s memory. ⊎_elim (λ fault. inl (inl fault)) (λ is. inr (drop_refused P name e is, read_keeps (file_in old) (file_in new) rests)) (told tree P m s (held_so P memory));
      rests = inr (read_keeps (file_in old) (file_in new) rests);
      pool = refl;
      tables = same;
      marked = λ flag. refl;
      seen = (rests.letters, rests.sound, rests.validation);
    }

    -- the file was read, and then its streams replaced
    module _ (mid : CompoundFile F g) (rests : OnlyReadsFile (file_in old) mid) (cb tb vb : List ℕ) (after : PoolState)
        (told : (tree : Tree) (P : PackageContent) → FileMeansTree (file_in old) tree → StoresSoundPackage (file_case_table (file_in old)) tree P → MemoryLacksDropped (tables_in old) before.pool P → AreRemains P name cb tb vb after.pool) where
      can_so : (tree : Tree) (P : PackageContent) (s : StoresSoundPackage (file_case_table (file_in old)) tree P) → AreRemains P name cb tb vb after.pool → CanDrop (file_case_table mid) name tree
      can_so tree P s r = subst (λ l. CanDrop l name tree) (sym rests.letters) (can_drop (file_case_table (file_in old)) tree P s name (r.table, after.pool) r.columns r.tables r.validation r.drops)

      pub drop_unwritten : (new : Store F g) (e : Error) → tables_in new ≡ tables_in old → ReplacesStreams {T = Unit {0}} name cb tb vb (Err e) mid (file_in new) → DropsTable {T = Unit {0}} name (Err e) old new before before
      drop_unwritten new e same w = record {
        failed = λ failed. was_live failed;
        unsound = λ live unsound. was_sound unsound;
        done = tt;
        refused = λ tree P m s memory. inl (w.refused tree (means_read (file_in old) mid tree rests m) (can_so tree P s (told tree P m s (held_so P memory))));
        rests = ⊎_elim (λ failed. inl failed) (λ k. inr (record { means = λ tree m. k.means tree (means_read (file_in old) mid tree rests m) })) w.rests;
        pool = refl;
        tables = same;
        marked = λ flag. refl;
        seen = (w.seen.0 ∙ rests.letters, w.seen.1 ∙ rests.sound, w.seen.2 ∙ rests.validation);
      }

      pub drop_full : IsFullForName mid (stream_name columns_name) (length cb) → (tree : Tree) (P : PackageContent) → FileMeansTree (file_in old) tree → StoresSoundPackage (file_case_table (file_in old)) tree P → MemoryIsTablesAndPool old before.pool P
          → IsFullForRule (λ P Q answer. Drops P name Q answer) (file_in old) P
      drop_full full tree P m s memory =
          let letters = file_case_table (file_in old) in
          let r = told tree P m s (held_so P memory) in
          let x : Table × Pool = (r.table, after.pool) in
          let u = (of_columns letters tree P s name x r.columns r.tables r.validation r.drops).0 in
          record {
            next = without_table P name after.pool r.columns r.tables r.validation;
            answered = drop_done P name x r.columns r.tables r.validation r.drops;
            lacks = inl (record {
              name = columns_name;
              table = record u { rows = r.columns };
              there = now_columns letters tree P s name x r.columns r.tables r.validation r.drops;
              bytes = cb;
              written = columns_written letters tree P s name x r.columns r.tables r.validation r.drops cb r.written;
              lacks = room_before (file_in old) mid rests (stream_name columns_name) (length cb) full;
            });
          }

      pub drop_written : (new : Store F g) → (after.modified ≡ false → after ≡ before) → tables_in new ≡ filter (λ h. not (bytes_eq h.name name)) (tables_in old)
          → ReplacesStreams {T = Unit {0}} name cb tb vb (Ok tt) mid (file_in new) → DropsTable {T = Unit {0}} name (Ok tt) old new before after
      drop_written new marked taken w = record {
        failed = λ failed. was_live failed;
        unsound = λ live unsound. was_sound unsound;
        done = λ tree P m s memory.
            let letters = file_case_table (file_in old) in
            let r = told tree P m s (held_so P memory) in
            let x : Table × Pool = (r.table, after.pool) in
            let now = w.done tree (means_read (file_in old) mid tree rests m) (can_so tree P s r) in
            let is : HasDropped letters name cb tb vb tree now.0 = subst (λ l. HasDropped l name cb tb vb tree now.0) rests.letters now.2 in
            let long : after.pool.long ≡ P.pool.long = (keeps letters tree P s name x r.columns r.tables r.validation r.drops).long in
            record {
              changed = record {
                next = without_table P name after.pool r.columns r.tables r.validation;
                after = now.0;
                answered = drop_done P name x r.columns r.tables r.validation r.drops;
                means = now.1;
                stores = stores_left letters tree P s name x r.columns r.tables r.validation r.drops now.0 cb tb vb is r.read;
                keeps = keeps_left letters tree P s name x r.columns r.tables r.validation r.drops now.0 cb tb vb is;
              };
              memory = record {
                pool = refl;
                tables = taken
                    ∙ ap (filter (λ h. not (bytes_eq h.name name))) memory.tables
                    ∙ headings_left P.pool.long name P.tables
                    ∙ sym (headings_put P.pool.long columns_name r.columns (rows_put tables_name r.tables (rows_put validation_name r.validation (filter (other name) P.tables)))
                    ∙ headings_put P.pool.long tables_name r.tables (rows_put validation_name r.validation (filter (other name) P.tables))
                    ∙ headings_put P.pool.long validation_name r.validation (filter (other name) P.tables))
                    ∙ ap (λ l. map (heading l) (without_table P name after.pool r.columns r.tables r.validation).tables) (sym long);
              };
            };
        refused = tt;
        rests = tt;
        pool = tt;
        tables = tt;
        marked = marked;
        seen = (w.seen.0 ∙ rests.letters, w.seen.1 ∙ rests.sound, w.seen.2 ∙ rests.validation);
      }
