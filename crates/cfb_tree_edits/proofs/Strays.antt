-- What a change of one owner's chain leaves of a file's order: no more sectors are in use without an owner, and a strict reader
-- takes it still.
use Rattle.std.proofs.Common.{◌≡◌, ◌⊎◌, ℕ, ◌+◌, ◌≤◌, false, List, [], ◌∷◌, ◌++◌, append-nil, zero, suc, refl, ap, sym, subst, ◌∙◌, ⊎_elim, arith}
use Rattle.std.specs.Prelude.{slice_index}
use Rattle.std.proofs.lemmas.Bool.Decides.{eqb_tells}
use Rattle.cfb_medium.specs.declared.medium.ReadMedium.{Ghosts}
use Rattle.cfb_sectors.specs.Sectors.{free, sector}
use Rattle.cfb_chains.specs.Changes.{HaveEntry, IsNotIn}
use Rattle.cfb_chains.specs.Owned.{AreBesideWords}
use Rattle.cfb_directory.specs.Views.{directory_ids, entries_held}
use Rattle.cfb_fat.specs.Seeing.{seen_of}
use Rattle.cfb_fat.specs.Tables.{has_failed_here, version_of}
use Rattle.cfb_chain_io.specs.ChainEffects.{KeepsFileInvariants}
use Rattle.cfb_mini.specs.Changing.{mini_seen, ChangesDirectory, FreesMiniSectors, FreesChain, HasUniqueOwners, KeepsOwnership}
use Rattle.cfb_mini.specs.Files.{HasHeader}
use Rattle.cfb_mini.specs.Minis.{mini_sector}
use Rattle.cfb_mini.specs.Strays.{IsStrayIn}
use Rattle.cfb_mini.specs.Views.{allocator_of, directory_of}
use Rattle.cfb_mini.specs.declared.mini_allocator.MiniAllocator.{MiniAllocator}
use Rattle.cfb_mini.proofs.Counts.{counts_rest}
use Rattle.cfb_mini.proofs.Keeping.{pick, pick_mine, pick_other}
use Rattle.cfb_mini.proofs.Strays.{leaves_resting, none_left_out, strays_before}
use Rattle.cfb_ownership.specs.Owners.{stream_owner, Owners}
use Rattle.cfb_tree_edits.specs.Freeing.{HasFileInvariant}
use Rattle.cfb_tree_edits.specs.Orphans.{HaveStrictFacts, StaysTidy}
use Rattle.cfb_tree_edits.proofs.Directories.{owners_now}
use Rattle.cfb_tree_edits.proofs.StrictFacts.{header_here, strict_by, strict_over}

-- a number of the list has the entry that all of it have
pub has_entry : (table : List ℕ) (xs : List ℕ) (entry : ℕ) → HaveEntry entry table xs → (n : ℕ) → (IsNotIn xs n → ⊥) → slice_index table n ≡ entry
has_entry table [] entry have n one = absurd (one (λ k below. absurd (omega (arith, below))))
has_entry table (x ∷ xs) entry have n one =
    ⊎_elim
    (λ same. ap (slice_index table) (sym same.1) ∙ have 0 (omega arith))
    (λ other. has_entry table xs entry (λ k below. have (suc k) (omega (arith, below))) n (λ none. one (never other.1 none)))
    (eqb_tells x n)
  where
    never : (x ≡ n → ⊥) → IsNotIn xs n → IsNotIn (x ∷ xs) n
    never other none zero below = other
    never other none (suc k) below = none k (omega (arith, below))

none_more : (xs : List ℕ) (n : ℕ) → IsNotIn xs n → IsNotIn (xs ++ []) n
none_more xs n none = subst (λ l. IsNotIn l n) (sym (append-nil xs)) none

module _ {F : Type 0} {g : Ghosts F} where
  pub strays_same : (it : MiniAllocator F g) (who : Owners) → StaysTidy it it who who
  strays_same it who = record { sectors = λ n s. s; minis = λ n s. s; strict = λ was. was }

  -- nothing was changed
  pub strays_kept : (old new : MiniAllocator F g) (who : Owners) → HasUniqueOwners old who.sectors → KeepsOwnership old new → StaysTidy old new who who
  strays_kept old new who owners k =
      let now = k.owners who.sectors owners in
      record {
        sectors = leaves_resting (allocator_of old) (allocator_of new) who.sectors k.allocator;
        minis = λ n s. subst (λ t. IsStrayIn t [] who.minis n) k.mini_fat s;
        strict = λ was. record {
          counts = counts_rest old new k.allocator (sym now.directory ∙ owners.directory) (sym now.mini_fat ∙ owners.mini_fat) owners.honest was.counts;
          entries = subst HaveStrictFacts (sym k.entries) was.entries;
        };
      }

  pub strays_then : (a b c : MiniAllocator F g) (was who now : Owners) → StaysTidy a b was who → StaysTidy b c who now → StaysTidy a c was now
  strays_then a b c was who now first second = record {
    sectors = λ n s. first.sectors n (second.sectors n s);
    minis = λ n s. first.minis n (second.minis n s);
    strict = λ s. second.strict (first.strict s);
  }

module _ {F : Type 0} {g : Ghosts F} (words : List ℕ) (spare : (place count : ℕ) → (place + count ≤ 40) ⊎ (48 ≤ place) → AreBesideWords words place count)
    (old new : MiniAllocator F g) (who : Owners) (m : HasFileInvariant old who) (goes : KeepsFileInvariants (allocator_of old) (allocator_of new)) (live : has_failed_here (allocator_of new) ≡ false)
    (c : ChangesDirectory words old new who.sectors) (facts : HaveStrictFacts (entries_held (directory_of old)) → HaveStrictFacts (entries_held (directory_of new))) where
  -- the directory alone changed
  pub directory_strays : StaysTidy old new who (owners_now words spare old new who m goes live c)
  unfolding seen_of
  directory_strays =
      let ids = directory_ids (directory_of new) in
      record {
        sectors = strays_before (sector (version_of (allocator_of old))) words (who.sectors 0) c.more ids 0 (seen_of (allocator_of old)) (seen_of (allocator_of new)) who.sectors (pick who.sectors 0 ids) c.becomes refl
            (pick_mine who.sectors 0 ids) (pick_other who.sectors 0 ids)
            (none_left_out _ (who.sectors 0 ++ c.more) ids (ap (λ l. l ++ c.more) m.owners.directory ∙ sym c.ids));
        minis = λ n s. subst (λ t. IsStrayIn t [] who.minis n) c.mini_fat s;
        strict = strict_by old new (header_here old who m) c.counts facts;
      }

module _ {F : Type 0} {g : Ghosts F} (old new : MiniAllocator F g) (who : Owners) (id : ℕ) (header : HasHeader old) where
  -- a long stream gave up its sectors
  pub long_strays : FreesChain (stream_owner id) old new who.sectors → StaysTidy old new who (record { sectors = pick who.sectors (stream_owner id) []; minis = who.minis })
  unfolding seen_of
  long_strays did =
      let key = stream_owner id in
      record {
        sectors = strays_before (sector (version_of (allocator_of old))) [] (who.sectors key) [] [] key (seen_of (allocator_of old)) (seen_of (allocator_of new)) who.sectors (pick who.sectors key []) did.becomes refl
            (pick_mine who.sectors key []) (pick_other who.sectors key [])
            (λ n none one. has_entry _ (who.sectors key) free did.freed n (λ apart. one (none_more (who.sectors key) n apart)));
        minis = λ n s. subst (λ t. IsStrayIn t [] who.minis n) did.mini_fat s;
        strict = strict_over old new header did.counts did.entries;
      }

  -- a short one its mini sectors
  pub short_strays : FreesMiniSectors (who.minis (stream_owner id)) old new who.sectors → StaysTidy old new who (record { sectors = who.sectors; minis = pick who.minis (stream_owner id) [] })
  unfolding seen_of mini_seen
  short_strays did =
      let key = stream_owner id in
      record {
        sectors = strays_before (sector (version_of (allocator_of old))) [] (who.sectors 1) [] (who.sectors 1) 1 (seen_of (allocator_of old)) (seen_of (allocator_of new)) who.sectors who.sectors did.becomes refl refl (λ k other. refl)
            (none_left_out _ (who.sectors 1 ++ []) (who.sectors 1) (append-nil (who.sectors 1)));
        minis = strays_before mini_sector _ (who.minis key) [] [] key (mini_seen old) (mini_seen new) who.minis (pick who.minis key []) did.changes.becomes refl (pick_mine who.minis key []) (pick_other who.minis key [])
            (λ n none one. has_entry _ (who.minis key) free did.freed n (λ apart. one (none_more (who.minis key) n apart)));
        strict = strict_over old new header did.counts did.entries;
      }
