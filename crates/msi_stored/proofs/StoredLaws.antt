-- What reading keeps of a package's tables.
use Rattle.std.proofs.Common.{◌∙◌, List, refl, sym, subst, inl, inr}
use Rattle.std.specs.Prelude.{◌⊎◌}
use Rattle.cfb.proofs.Holding.{holds_yet}
use Rattle.cfb.specs.Views.{file_case_table, mini_of}
use Rattle.cfb.specs.Views as read
use Rattle.cfb.specs.declared.compound_file.CompoundFile.{CompoundFile}
use Rattle.cfb_fat.specs.Keeping as fat
use Rattle.cfb_fat.specs.OnlyReads.{all_rest_refl}
use Rattle.cfb_fat.specs.Tables.{IsJustifiedBySectors}
use Rattle.cfb_medium.specs.Calls.{IsFaultOrInvalidInputIf}
use Rattle.cfb_medium.specs.declared.error.Error.{Error}
use Rattle.cfb_medium.specs.declared.medium.ReadMedium.{Ghosts}
use Rattle.cfb_mini.proofs.Longer.{mini_rests_then}
use Rattle.cfb_mini.specs.Views.{allocator_of}
use Rattle.cfb_tree.specs.Names.{CaseTable}
use Rattle.msi_query.specs.Sources.{TablesByName}
use Rattle.msi_tables.specs.Table.{Heading}
use Rattle.msi_stored.specs.StoredPackages.{AreTablesOfTree, HasCause, HasTables, HasTooMany, IsUnread, OnlyReadsStore, StoredTables}

module _ {F : Type 0} {g : Ghosts F} where
  pub file_refl : (it : CompoundFile F g) → read.OnlyReadsFile it it
  file_refl it = record {
    mini = record {
      directory = record { allocator = all_rest_refl (allocator_of (mini_of it)); ids = refl; entries = refl; kept = λ is. is };
      mini_fat_ids = refl;
      mini_fat = refl;
      mini_stream_ids = refl;
      kept = λ is. is;
    };
    letters = refl;
    validation = refl;
    sound = refl;
    most = refl;
    held = λ are. are;
  }

  pub rests_refl : (it : StoredTables F g) → OnlyReadsStore it it
  rests_refl it = record { file = file_refl it.0; tables = refl }

  pub file_then : (a b c : CompoundFile F g) → read.OnlyReadsFile a b → read.OnlyReadsFile b c → read.OnlyReadsFile a c
  file_then a b c h k = record {
    mini = mini_rests_then (mini_of a) (mini_of b) (mini_of c) h.mini k.mini;
    letters = k.letters ∙ h.letters;
    validation = k.validation ∙ h.validation;
    sound = k.sound ∙ h.sound;
    most = k.most ∙ h.most;
    held = λ are. k.held (h.held are);
  }

  -- an error of a file that was only read before has its cause since then
  pub file_cause : (a b c : CompoundFile F g) (e : Error) → read.OnlyReadsFile a b → IsJustifiedBySectors (allocator_of (mini_of b)) (allocator_of (mini_of c)) e
      → IsJustifiedBySectors (allocator_of (mini_of a)) (allocator_of (mini_of c)) e
  file_cause a b c e rests cause = fat.rests_cause (allocator_of (mini_of a)) (allocator_of (mini_of b)) (allocator_of (mini_of c)) e rests.mini.directory.allocator cause

  pub rests_then : (a b c : StoredTables F g) → OnlyReadsStore a b → OnlyReadsStore b c → OnlyReadsStore a c
  rests_then a b c h k = record { file = file_then a.0 b.0 c.0 h.file k.file; tables = k.tables ∙ h.tables }

  pub rests_keeps : (a b : StoredTables F g) (tables : TablesByName) → OnlyReadsStore a b → HasTables a tables → HasTables b tables
  rests_keeps a b tables rests has =
      let tree = has.0 in (
        tree,
        holds_yet a.0 b.0 tree rests.file has.1,
        subst (λ (n : CaseTable). AreTablesOfTree n tree b.1 tables) (sym rests.file.letters)
            (subst (λ (hs : List Heading). AreTablesOfTree (file_case_table a.0) tree hs tables) (sym rests.tables) has.2),
      )

  unread_before : (a b : StoredTables F g) (e : Error) → OnlyReadsStore a b → IsUnread b e → IsUnread a e
  unread_before a b e rests unread = (
    unread.0,
    λ tree held. subst (λ (n : CaseTable). HasTooMany n tree a.1) rests.file.letters
        (subst (λ (hs : List Heading). HasTooMany (file_case_table b.0) tree hs) rests.tables (unread.1 tree (holds_yet a.0 b.0 tree rests.file held))),
  )

  pub rests_cause : (a b c : StoredTables F g) (e : Error) → OnlyReadsStore a b → HasCause b c e → HasCause a c e
  rests_cause a b c e rests cause = record {
    below = file_cause a.0 b.0 c.0 e rests.file cause.below;
    either = earlier cause.either;
  }
    where
      earlier : IsFaultOrInvalidInputIf ⊥ e ⊎ IsUnread b e → IsFaultOrInvalidInputIf ⊥ e ⊎ IsUnread a e
      earlier (inl fault) = inl fault
      earlier (inr unread) = inr (unread_before a b e rests unread)
