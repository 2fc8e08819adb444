-- The tree that a live file means after a fact of an object was set.
use Rattle.std.proofs.Common.{◌≡◌, ℕ, ◌+◌, ◌≤◌, ◌⊎◌, false, List, [], ◌∷◌, zero, suc, refl, ap, sym, subst, ◌∙◌, arith, IsTrue}
use Rattle.std.specs.Prelude.{slice_get, slice_set, Some}
use Rattle.cfb_medium.specs.declared.medium.ReadMedium.{Ghosts}
use Rattle.cfb_chains.specs.Owned.{AreBesideWords}
use Rattle.cfb_fat.specs.Tables.{has_failed_here, version_of}
use Rattle.cfb_medium.specs.declared.version.Version.{Version}
use Rattle.cfb_directory.specs.Entries.{SizesFit}
use Rattle.cfb_chain_io.specs.ChainEffects.{KeepsFileInvariants}
use Rattle.cfb_tree.specs.Directory.{Entry}
use Rattle.cfb_tree.specs.Names.{CaseTable}
use Rattle.cfb_tree.specs.Objects.{EntriesHoldTree, Object}
use Rattle.cfb_tree.specs.Changes.{changed}
use Rattle.cfb_tree.specs.Paths.{Path}
use Rattle.cfb_tree.specs.Tree.{Tree}
use Rattle.cfb_tree.proofs.OneContent.{Some_same}
use Rattle.cfb_siblings.specs.Changes.{ObjectBecomes, HasSameLinks}
use Rattle.cfb_siblings.specs.Places.{IsEntryAt}
use Rattle.cfb_siblings.specs.Reading.{ReadBy}
use Rattle.cfb_directory.specs.Views.{entries_held}
use Rattle.cfb_mini.specs.Changing.{ChangesDirectory}
use Rattle.cfb_mini.specs.Views.{allocator_of, directory_of}
use Rattle.cfb_mini.specs.declared.mini_allocator.MiniAllocator.{MiniAllocator}
use Rattle.cfb_ownership.specs.LiveFile.{LiveFile}
use Rattle.cfb_ownership.specs.Owners.{Owners}
use Rattle.cfb_tree_edits.specs.Live.{live_of, LiveFileMeansTree}
use Rattle.cfb_tree_edits.specs.Orphans.{FileBecomesTree, HaveStrictFacts}
use Rattle.cfb_tree_edits.proofs.Carried.{Carries}
use Rattle.cfb_tree_edits.proofs.Changed.{entry_changed, set_keeps, tree_held, tree_ids}
use Rattle.cfb_tree_edits.proofs.Directories.{carries, has_owners, kept_later, owners_now}
use Rattle.cfb_tree_edits.proofs.Standing.{stands_of}
use Rattle.cfb_tree_edits.proofs.Strays.{directory_strays, strays_same}
use Rattle.cfb_tree_edits.proofs.Streams.{reads}
use Rattle.cfb_tree_edits.proofs.StrictFacts.{facts_set}

pub set_same : (xs : List Entry) (id : ℕ) (e : Entry) → slice_get xs id ≡ Some e → xs ≡ slice_set xs id e
set_same [] id e found = refl
set_same (x ∷ xs) zero e found = ap (λ y. y ∷ xs) (Some_same found)
set_same (x ∷ xs) (suc id) e found = ap (λ l. x ∷ l) (set_same xs id e found)

set_sizes : (v : Version) (xs : List Entry) (id : ℕ) (e f : Entry) → slice_get xs id ≡ Some e → f.size ≡ e.size → SizesFit v xs → SizesFit v (slice_set xs id f)
set_sizes v [] id e f found size fits k x at = absurd (cc)
set_sizes v (y ∷ xs) zero e f found size fits zero x at =
    let old = fits 0 e found in
    let same : x.size ≡ e.size = ap (λ (z : Entry). z.size) (sym (Some_same at)) ∙ size in
    omega (arith, old, same)
set_sizes v (y ∷ xs) zero e f found size fits (suc k) x at = fits (suc k) x at
set_sizes v (y ∷ xs) (suc id) e f found size fits zero x at = fits 0 x at
set_sizes v (y ∷ xs) (suc id) e f found size fits (suc k) x at = set_sizes v xs id e f found size (λ j. fits (suc j)) k x at

carries_same : (s : LiveFile) (who : Owners) → Carries s s who who
carries_same s who = record { version = refl; longer = omega arith; sectors = λ k past. refl; minis = refl; joined = λ k past. refl }

module _ {F : Type 0} {g : Ghosts F} where
  -- the entries hold the tree that is meant
  pub means_held : (letters : CaseTable) (it : MiniAllocator F g) (tree : Tree) → (m : LiveFileMeansTree letters it tree) → EntriesHoldTree letters (ReadBy (reads (live_of it) m.who)) (entries_held (directory_of it)) tree
  unfolding live_of
  means_held letters it tree m = tree_held (live_of it) m.who letters tree m.held

  pub means_ids : (letters : CaseTable) (it : MiniAllocator F g) (tree : Tree) (m : LiveFileMeansTree letters it tree) → (means_held letters it tree m).ids ≡ m.held.ids
  unfolding live_of means_held
  means_ids letters it tree m = tree_ids (live_of it) m.who letters tree m.held

module _ {F : Type 0} {g : Ghosts F} (letters : CaseTable) (old : MiniAllocator F g) (tree : Tree) (m : LiveFileMeansTree letters old tree) (path : Path) (id : ℕ) (e f : Entry) (change : Object → Object)
    (at : IsEntryAt (ReadBy (reads (live_of old) m.who)) letters (entries_held (directory_of old)) tree path id) (found : slice_get (entries_held (directory_of old)) id ≡ Some e) where
  set_means : (new : MiniAllocator F g) → HasSameLinks e f → f.start ≡ e.start → f.size ≡ e.size → ObjectBecomes (ReadBy (reads (live_of old) m.who)) f at.object (change at.object)
      → KeepsFileInvariants (allocator_of old) (allocator_of new) → has_failed_here (allocator_of new) ≡ false → ChangesDirectory [] old new m.who.sectors
      → entries_held (directory_of new) ≡ slice_set (entries_held (directory_of old)) id f → LiveFileMeansTree letters new (changed letters change path tree)
  unfolding live_of
  set_means new links start size becomes goes live c set =
      let none : (p n : ℕ) → (p + n ≤ 40) ⊎ (48 ≤ p) → AreBesideWords [] p n = λ p n beside. tt in
      let place = set_keeps (entries_held (directory_of old)) id e f found links.kind start size 0 m.held.root m.held.kept.root_found in
      let root_found : slice_get (entries_held (directory_of new)) 0 ≡ Some place.0 = ap (λ l. slice_get l 0) set ∙ place.1 in
      record {
        live = live;
        orderly = subst IsTrue (sym (goes.orderly live)) m.orderly;
        who = owners_now [] none old new m.who (stands_of letters old tree m) goes live c;
        owners = has_owners [] none old new m.who (stands_of letters old tree m) goes live c;
        sizes = subst (λ v. SizesFit v (entries_held (directory_of new))) (sym goes.version) (subst (SizesFit (version_of (allocator_of old))) (sym set) (set_sizes (version_of (allocator_of old)) (entries_held (directory_of old)) id e f found size m.sizes));
        held = entry_changed (live_of old) (live_of new) m.who (owners_now [] none old new m.who (stands_of letters old tree m) goes live c) letters tree path id e f change at.object m.held at.leads at.at_path found links start size becomes set
            (carries [] none old new m.who (stands_of letters old tree m) goes live c) place.0 (kept_later [] none old new m.who (stands_of letters old tree m) goes live c place.0 root_found (place.2 ∙ m.held.kept.root_kind));
      }

  -- or where nothing is to be set
  same_means : HasSameLinks e e → ObjectBecomes (ReadBy (reads (live_of old) m.who)) e at.object (change at.object) → LiveFileMeansTree letters old (changed letters change path tree)
  unfolding live_of
  same_means links becomes = record {
    live = m.live;
    orderly = m.orderly;
    who = m.who;
    owners = m.owners;
    sizes = m.sizes;
    held = entry_changed (live_of old) (live_of old) m.who m.who letters tree path id e e change at.object m.held at.leads at.at_path found links refl refl becomes (set_same (entries_held (directory_of old)) id e found)
        (carries_same (live_of old) m.who) m.held.root m.held.kept;
  }

  -- and no more is in use without an owner
  pub set_comes : (new : MiniAllocator F g) → HasSameLinks e f → f.color ≡ e.color → f.start ≡ e.start → f.size ≡ e.size → ObjectBecomes (ReadBy (reads (live_of old) m.who)) f at.object (change at.object)
      → KeepsFileInvariants (allocator_of old) (allocator_of new) → has_failed_here (allocator_of new) ≡ false → ChangesDirectory [] old new m.who.sectors
      → entries_held (directory_of new) ≡ slice_set (entries_held (directory_of old)) id f → FileBecomesTree letters old new m.who (changed letters change path tree)
  unfolding set_means
  set_comes new links color start size becomes goes live c set = record {
    means = set_means new links start size becomes goes live c set;
    strays = directory_strays [] (λ p n beside. tt) old new m.who (stands_of letters old tree m) goes live c
        (λ h. subst HaveStrictFacts (sym set) (facts_set (entries_held (directory_of old)) id e f found links color h));
  }

  pub same_comes : HasSameLinks e e → ObjectBecomes (ReadBy (reads (live_of old) m.who)) e at.object (change at.object) → FileBecomesTree letters old old m.who (changed letters change path tree)
  unfolding same_means
  same_comes links becomes = record { means = same_means links becomes; strays = strays_same old m.who }
