-- The tree that a live file means after a child that holds nothing was taken out.
use Rattle.std.proofs.Common.{◌≡◌, ℕ, ◌<◌, Bool, false, List, [], ◌∷◌, length, length-append, ap, sym, subst, ◌∙◌, arith}
use Rattle.std.specs.Prelude.{slice_get, Some}
use Rattle.cfb_medium.specs.declared.medium.ReadMedium.{Ghosts}
use Rattle.cfb_fat.specs.Tables.{has_failed_here, version_of}
use Rattle.cfb_chain_io.specs.ChainEffects.{KeepsFileInvariants}
use Rattle.cfb_directory.specs.Children.{HoldsChild, RemovesAt, RemovesChild}
use Rattle.cfb_directory.specs.Growth.{count_words}
use Rattle.cfb_directory.specs.Views.{entries_held}
use Rattle.cfb_mini.specs.Changing.{ChangesDirectory}
use Rattle.cfb_mini.specs.Views.{allocator_of, directory_of}
use Rattle.cfb_mini.specs.declared.mini_allocator.MiniAllocator.{MiniAllocator}
use Rattle.cfb_ownership.proofs.KeysOfParts.{IsOneOf}
use Rattle.cfb_siblings.specs.Changes.{HoldsOneLess}
use Rattle.cfb_siblings.specs.Places.{path_to, LeadsBy, LeadsTo}
use Rattle.cfb_siblings.specs.Reading.{ReadBy}
use Rattle.cfb_siblings.specs.declared.links.Link.{Link}
use Rattle.cfb_siblings.proofs.Leading.{parent_of_path}
use Rattle.cfb_siblings.proofs.Searching.{no_siblings, nothing_held}
use Rattle.cfb_tree.specs.Changes.{last_of, parent_of, removed}
use Rattle.cfb_tree.specs.Directory.{kind_stream, no_entry, Entry, Holds}
use Rattle.cfb_tree.specs.Names.{CaseTable}
use Rattle.cfb_tree.specs.Objects.{a_storage, a_stream, EntriesHoldTree, IsObject, Object}
use Rattle.cfb_tree.specs.Paths.{Path}
use Rattle.cfb_tree.specs.Tree.{Tree}
use Rattle.cfb_tree.proofs.OneContent.{Some_same}
use Rattle.cfb_tree_edits.specs.WholeRemoval.{IsLeafAt, KeepsWay}
use Rattle.cfb_tree_edits.specs.Freeing.{FreesStream}
use Rattle.cfb_tree_edits.specs.Live.{live_of, LiveFileMeansTree}
use Rattle.cfb_tree_edits.specs.Orphans.{FileBecomesTree}
use Rattle.cfb_tree_edits.specs.Removing.{IsChildAt}
use Rattle.cfb_tree_edits.proofs.Removed.{among, below_root, removed_comes}
use Rattle.cfb_tree_edits.proofs.SetFacts.{means_held, means_ids}
use Rattle.cfb_tree_edits.proofs.Streams.{reads}
use Rattle.cfb_entries.proofs.Others.{path_is}

-- a stream, or a storage without a child, has no entries inside
leaf_inside : (directory : List Entry) (Reads : Entry → List ℕ → Type 0) (id : ℕ) (o : Object) (own : List ℕ) → ((e : Entry) → slice_get directory id ≡ Some e → (e.kind ≡ kind_stream → ⊥) → e.child ≡ no_entry)
    → IsObject directory Reads id o own → own ≡ []
leaf_inside directory Reads id (a_stream name bits bytes) own empty (f, is, reads, none) = none
leaf_inside directory Reads id (a_storage name facts inside) own empty (f, children, is, siblings, holds) =
    let kind = is.of_kind in
    let none : children ≡ [] = no_siblings directory Reads f.child children (empty f is.found (λ wrong. omega (arith, kind, wrong))) siblings in
    (nothing_held directory Reads inside own (subst (λ ids. Holds directory Reads ids inside own) none holds)).1

-- a child at a path that holds nothing
pub leaf_at : (letters : CaseTable) (Reads : ℕ → ℕ → List ℕ → Bool) (entries : List Entry) (tree : Tree) (path : Path) (link : Link) (id : ℕ) → 0 < length path → IsChildAt letters Reads entries tree path link id
    → (e : Entry) → slice_get entries id ≡ Some e → ((e.kind ≡ kind_stream → ⊥) → e.child ≡ no_entry) → IsLeafAt letters entries (parent_of path) (last_of path) link id
leaf_at letters Reads entries tree path link id some at e found empty = record {
  parent = at.parent;
  storage = at.storage;
  taken = at.taken;
  leads = subst (λ p. LeadsTo letters entries 0 p id) (sym (path_is path some)) at.leads;
  empty = λ f f_found never.
      let same : e ≡ f = Some_same (sym found ∙ f_found) in
      ap (λ (x : Entry). x.child) (sym same) ∙ empty (λ kind. never (ap (λ (x : Entry). x.kind) (sym same) ∙ kind));
}

pub some_there : (path : Path) (name : List ℕ) → 0 < length (path_to path name)
some_there path name = omega (arith, length-append path (name ∷ []))

module _ {F : Type 0} {g : Ghosts F} (letters : CaseTable) (it : MiniAllocator F g) (tree : Tree) (m : LiveFileMeansTree letters it tree) (path : Path) (name : List ℕ) (link : Link) (id : ℕ)
    (leaf : IsLeafAt letters (entries_held (directory_of it)) path name link id) where
  abbrev held : EntriesHoldTree letters (ReadBy (reads (live_of it) m.who)) (entries_held (directory_of it)) tree
  held = means_held letters it tree m

  -- the child, as the directory sees it
  pub leaf_child : HoldsChild letters (reads (live_of it) m.who) (entries_held (directory_of it)) tree path leaf.parent name link id
  leaf_child = record { within = record { holds = held; storage = leaf.storage }; taken = leaf.taken }

  leaf_held : IsOneOf held.ids id
  leaf_held = among letters (ReadBy (reads (live_of it) m.who)) (entries_held (directory_of it)) tree held (path_to path name) id (some_there path name) leaf.leads

  -- its entry is in the tree, and isn't the root's
  pub leaf_one : IsOneOf m.held.ids id
  leaf_one = subst (λ ids. IsOneOf ids id) (means_ids letters it tree m) leaf_held

  pub leaf_below : id ≡ 0 → ⊥
  leaf_below = below_root letters (ReadBy (reads (live_of it) m.who)) (entries_held (directory_of it)) tree held id leaf_held

  -- its sectors were freed, and then its entry was taken out
  pub taken_means : (mid new : MiniAllocator F g) (frees : FreesStream id it mid m.who) → RemovesChild (entries_held (directory_of mid)) (entries_held (directory_of new)) link id → RemovesAt (entries_held (directory_of mid)) (entries_held (directory_of new)) id
      → KeepsFileInvariants (allocator_of mid) (allocator_of new) → has_failed_here (allocator_of new) ≡ false → ChangesDirectory (count_words (version_of (allocator_of mid))) mid new frees.now.sectors
      → FileBecomesTree letters it new m.who (removed letters (path_to path name) tree)
  unfolding leaf_child
  taken_means mid new frees removed_child at goes live changes =
      let directory = entries_held (directory_of it) in
      let later = entries_held (directory_of new) in
      let Reads = reads (live_of it) m.who in
      let removes = subst (λ es. RemovesChild es later link id) frees.entries removed_child letters Reads tree path leaf.parent name leaf_child in
      let none = leaf_inside directory (ReadBy Reads) id removes.object removes.own leaf.empty removes.is_object in
      let less : HoldsOneLess letters (ReadBy Reads) directory later (removed letters (path_to path name) tree) m.held.ids (path_to path name) id [] =
      subst (λ own. HoldsOneLess letters (ReadBy Reads) directory later (removed letters (path_to path name) tree) m.held.ids (path_to path name) id own) none
      (subst (λ ids. HoldsOneLess letters (ReadBy Reads) directory later (removed letters (path_to path name) tree) ids (path_to path name) id removes.own) (means_ids letters it tree m) removes.holds) in
      removed_comes letters it mid new tree (removed letters (path_to path name) tree) m (path_to path name) id frees (subst (λ es. RemovesAt es later id) frees.entries at) less leaf_below goes live changes

  -- the way to its storage goes over the same entries still
  pub keeps_way : (mid new : List Entry) → mid ≡ entries_held (directory_of it) → RemovesChild mid new link id → RemovesAt mid new id → KeepsWay letters (entries_held (directory_of it)) new path id
  unfolding leaf_child
  keeps_way mid new same removed_child at =
      let directory = entries_held (directory_of it) in
      let removes = subst (λ es. RemovesChild es new link id) same removed_child letters (reads (live_of it) m.who) tree path leaf.parent name leaf_child in
      let others = (subst (λ es. RemovesAt es new id) same at).others in
      record {
        by = λ ids way. subst (λ p. LeadsBy letters new 0 p ids) (parent_of_path path name) (removes.holds.ways ids (subst (λ p. LeadsBy letters directory 0 p ids) (sym (parent_of_path path name)) way));
        owner = λ k other owner. let stays = others k owner.entry other owner.found in record { entry = stays.0; found = stays.1; holds = λ kind. owner.holds (sym stays.2.kind ∙ kind) };
      }
