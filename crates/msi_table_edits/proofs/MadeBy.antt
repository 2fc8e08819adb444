-- What a call that makes a table did, at each of its exits.
use Rattle.std.proofs.Common.{◌≡◌, ◌∙◌, ◌⊎◌, ℕ, true, false, List, map, length, Some, refl, sym, ap, inl, inr, subst, ⊎_elim, None, Ok, Err}
use Rattle.cfb.specs.FollowedRules.{FileMeansTree}
use Rattle.cfb.specs.Putting.{KeepsMeant}
use Rattle.cfb.specs.Views.{file_case_table, mini_of, sound_of, validation_of, OnlyReadsFile}
use Rattle.cfb.specs.declared.compound_file.CompoundFile.{CompoundFile}
use Rattle.cfb.proofs.LiveMeaning.{means_read}
use Rattle.cfb_fat.specs.Tables.{has_failed_here}
use Rattle.cfb_tree_edits.specs.LiveTreeRules.{IsFaultOrFull}
use Rattle.cfb_medium.specs.declared.error.Error.{Error}
use Rattle.cfb_medium.specs.declared.medium.ReadMedium.{Ghosts}
use Rattle.cfb_mini.specs.Views.{allocator_of}
use Rattle.cfb_tree.specs.Names.{CaseTable}
use Rattle.cfb_tree.specs.Tree.{Tree}
use Rattle.msi_row_edits.specs.Edited.{CanPut, MemoryIsTablesAndPool}
use Rattle.msi_row_edits.proofs.Exits.{IsFirst, IsOpen}
use Rattle.msi_spec.specs.Package.{at_name, stream_name, PackageContent}
use Rattle.msi_spec.specs.Sound.{is_free_table_name}
use Rattle.msi_parts.specs.Parts.{heading}
use Rattle.msi_pool.specs.Pool.{Pool}
use Rattle.msi_pool.specs.PoolState.{PoolState}
use Rattle.msi_store.specs.Stores.{file_in, tables_in}
use Rattle.msi_store.specs.declared.store.Store.{Store}
use Rattle.msi_stored.specs.Changing.{KeepsParts, PackageRule, StoresSoundPackage}
use Rattle.msi_stored.specs.Room.{IsFullForName, IsFullForRule}
use Rattle.msi_stored.proofs.Room.{room_before}
use Rattle.msi_tables.specs.Rows.{kinds_of, rows_bytes}
use Rattle.msi_tables.specs.Schema.{columns_name}
use Rattle.msi_tables.specs.Table.{table_named, Heading, Table}
use Rattle.msi_table_edits.specs.Making.{ChangesTableSet}
use Rattle.msi_table_edits.proofs.Holding.{there_has, IsThere}

-- what can be put where the package is stored
pub can_put : (letters here : CaseTable) → here ≡ letters → (tree : Tree) (P : PackageContent) → StoresSoundPackage letters tree P → (u : Table) → IsThere P.tables u → is_free_table_name u.name ≡ true → CanPut here u.name tree
can_put letters here same tree P s u there free = subst (λ l. CanPut l u.name tree) (sym same) (record {
  free = free;
  no_storage = ap (λ os. at_name letters os (stream_name u.name)) (sym s.stores.storages) ∙ there_has (λ u. at_name letters P.storages (stream_name u.name) ≡ None) P.tables u there s.named.no_storage;
})

-- What the rule makes of the package that the tree stores: a package with this pool and these tables in memory, which is stored where the
-- streams of some tables are put; those of _Columns are these bytes.
pub record Comes (rule : PackageRule) (Can : CaseTable → Tree → Type 0) (Has : CaseTable → Tree → Tree → Type 0) (letters here : CaseTable) (tree : Tree) (P : PackageContent) (pool : Pool) (headings : List Heading) (bytes : List ℕ) : Type 0 where
  pub next : PackageContent
  pub answered : rule P next (Ok tt)
  pub can : Can here tree
  pub stores : (after : Tree) → Has letters tree after → StoresSoundPackage letters after next
  pub keeps : (after : Tree) → Has letters tree after → KeepsParts letters tree after
  pub pool_is : pool ≡ next.pool
  pub tables_are : headings ≡ map (heading next.pool.long) next.tables
  pub table : Table
  pub there : table_named next.tables columns_name ≡ Some table
  pub written : rows_bytes next.pool.long (kinds_of table.columns) table.rows ≡ Some bytes

module _ {F : Type 0} {g : Ghosts F} (rule : PackageRule) (old : Store F g) (pool : PoolState) where
  abbrev letters : CaseTable
  letters = file_case_table (file_in old)

  -- not changeable
  pub first_unmade : (e : Error) → IsFirst (file_in old) e → ChangesTableSet {T = Unit {0}} rule (Err e) old old pool pool
  first_unmade e (inl failed) = record {
    failed = λ before. ap (λ e. Err e) failed.0;
    unsound = λ live unsound. let never : true ≡ false = sym failed.1 ∙ live in absurd (cc);
    done = tt;
    refused = λ tree P m s memory. let never : true ≡ false = sym failed.1 ∙ m.live.live in absurd (cc);
    rests = inr (record { means = λ tree m. m });
    memory = (refl, refl);
    marked = λ flag. refl;
    seen = (refl, refl, refl);
  }
  first_unmade e (inr unsound) = record {
    failed = λ before. let never : true ≡ false = sym before ∙ unsound.1 in absurd (cc);
    unsound = λ live is. ap (λ e. Err e) unsound.0;
    done = tt;
    refused = λ tree P m s memory. let never : true ≡ false = sym m.sound ∙ unsound.2 in absurd (cc);
    rests = inr (record { means = λ tree m. m });
    memory = (refl, refl);
    marked = λ flag. refl;
    seen = (refl, refl, refl);
  }

  module _ (open_file : IsOpen (file_in old)) (mid : CompoundFile F g) (rests : OnlyReadsFile (file_in old) mid) where
    was_live : {A : Type 0} → has_failed_here (allocator_of (mini_of (file_in old))) ≡ true → A
    was_live failed = let never : true ≡ false = sym failed ∙ open_file.0 in absurd (cc)

    was_sound : {A : Type 0} → sound_of (file_in old) ≡ false → A
    was_sound unsound = let never : true ≡ false = sym open_file.1 ∙ unsound in absurd (cc)

    -- refused, or a fault, where the file was only read
    pub unmade : (e : Error)
        → ((tree : Tree) (P : PackageContent) → FileMeansTree (file_in old) tree → StoresSoundPackage letters tree P → MemoryIsTablesAndPool old pool.pool P → IsFaultOrFull e ⊎ rule P P (Err e))
        → ChangesTableSet {T = Unit {0}} rule (Err e) old (record old { file = mid }) pool pool
    unmade e told = record {
      failed = λ failed. was_live failed;
      unsound = λ live unsound. was_sound unsound;
      done = tt;
      refused = λ tree P m s memory. ⊎_elim (λ fault. inl fault) (λ is. inr (is, record { means = λ tree m. means_read (file_in old) mid tree rests m })) (told tree P m s memory);
      rests = inr (record { means = λ tree m. means_read (file_in old) mid tree rests m });
      memory = (refl, refl);
      marked = λ flag. refl;
      seen = (rests.letters, rests.sound, rests.validation);
    }

    module _ (Can : CaseTable → Tree → Type 0) (Has : CaseTable → Tree → Tree → Type 0) (next : Pool) (headings : List Heading) (bytes : List ℕ)
        (told : (tree : Tree) (P : PackageContent) → FileMeansTree (file_in old) tree → StoresSoundPackage letters tree P → MemoryIsTablesAndPool old pool.pool P → Comes rule Can Has letters (file_case_table mid) tree P next headings bytes) (new : CompoundFile F g) where
      -- a put that failed
      pub unput : (e : Error) → ((tree : Tree) → FileMeansTree mid tree → Can (file_case_table mid) tree → IsFaultOrFull e) → (has_failed_here (allocator_of (mini_of new)) ≡ true) ⊎ KeepsMeant mid new
          → (file_case_table new ≡ file_case_table mid) × (sound_of new ≡ sound_of mid) × (validation_of new ≡ validation_of mid) → ChangesTableSet {T = Unit {0}} rule (Err e) old (record old { file = new }) pool pool
      unput e refused left seen = record {
        failed = λ failed. was_live failed;
        unsound = λ live unsound. was_sound unsound;
        done = tt;
        refused = λ tree P m s memory. inl (refused tree (means_read (file_in old) mid tree rests m) (told tree P m s memory).can);
        rests = ⊎_elim (λ failed. inl failed) (λ k. inr (record { means = λ tree m. k.means tree (means_read (file_in old) mid tree rests m) })) left;
        memory = (refl, refl);
        marked = λ flag. refl;
        seen = (seen.0 ∙ rests.letters, seen.1 ∙ rests.sound, seen.2 ∙ rests.validation);
      }

      -- a put without room
      pub unroomed : IsFullForName mid (stream_name columns_name) (length bytes) → (tree : Tree) (P : PackageContent) → FileMeansTree (file_in old) tree → StoresSoundPackage letters tree P → MemoryIsTablesAndPool old pool.pool P
          → IsFullForRule rule (file_in old) P
      unroomed full tree P m s memory =
          let r = told tree P m s memory in
          record {
            next = r.next;
            answered = r.answered;
            lacks = inl (record {
              name = columns_name;
              table = r.table;
              there = r.there;
              bytes = bytes;
              written = r.written;
              lacks = room_before (file_in old) mid rests (stream_name columns_name) (length bytes) full;
            });
          }

      -- all is done
      pub made : (store : Store F g) → file_in store ≡ new → tables_in store ≡ headings → (after : PoolState) → after.pool ≡ next → (after.modified ≡ false → after ≡ pool)
          → ((tree : Tree) → FileMeansTree mid tree → Can (file_case_table mid) tree → (after : Tree) × FileMeansTree new after × Has (file_case_table mid) tree after)
          → (file_case_table new ≡ file_case_table mid) × (sound_of new ≡ sound_of mid) × (validation_of new ≡ validation_of mid) → ChangesTableSet {T = Unit {0}} rule (Ok tt) old store pool after
      made store is_file in_memory after is_next marked done seen = record {
        failed = λ failed. was_live failed;
        unsound = λ live unsound. was_sound unsound;
        done = λ tree P m s memory.
            let r = told tree P m s memory in
            let d = done tree (means_read (file_in old) mid tree rests m) r.can in
            let put : Has letters tree d.0 = subst (λ l. Has l tree d.0) rests.letters d.2 in
            record {
              changed = record {
                next = r.next;
                after = d.0;
                answered = r.answered;
                means = subst (λ it. FileMeansTree it d.0) (sym is_file) d.1;
                stores = r.stores d.0 put;
                keeps = r.keeps d.0 put;
              };
              memory = record { pool = is_next ∙ r.pool_is; tables = in_memory ∙ r.tables_are };
            };
        refused = tt;
        rests = tt;
        memory = tt;
        marked = marked;
        seen = (
          ap file_case_table is_file ∙ seen.0 ∙ rests.letters,
          ap sound_of is_file ∙ seen.1 ∙ rests.sound,
          ap validation_of is_file ∙ seen.2 ∙ rests.validation,
        );
      }
