-- A storage that loses what it holds, one object after the other.
use Rattle.std.proofs.Common.{◌≡◌, ℕ, ◌+◌, ◌<◌, Bool, List, [], ◌∷◌, ◌++◌, inl, inr, length, map, length-append, refl, ap, sym, subst, ◌∙◌, arith}
use Rattle.std.specs.Prelude.{codes, None, Some}
use Rattle.std.proofs.lemmas.List.{length-map}
use Rattle.cfb_spec.specs.TreeRules.{done, refused, remove_storage_all, tree_step}
use Rattle.cfb_medium.specs.declared.error.Error.{Error}
use Rattle.cfb_medium.specs.declared.error.Error.TheVariants.{InvalidInput, NotFound}
use Rattle.cfb_medium.specs.declared.medium.ReadMedium.{Ghosts}
use Rattle.cfb_directory.specs.Views.{entries_held}
use Rattle.cfb_mini.specs.Views.{directory_of}
use Rattle.cfb_mini.specs.declared.mini_allocator.MiniAllocator.{MiniAllocator}
use Rattle.cfb_siblings.specs.Places.{path_to, LeadsTo}
use Rattle.cfb_siblings.specs.Reading.{ReadBy}
use Rattle.cfb_siblings.specs.declared.links.Link.{Link}
use Rattle.cfb_siblings.proofs.Spots.{spot}
use Rattle.cfb_tree.specs.Changes.{last_of, parent_of, removed}
use Rattle.cfb_tree.specs.Directory.{no_entry, none, some, Entry, Holds, Siblings}
use Rattle.cfb_tree.specs.EntryViews.{entry_in}
use Rattle.cfb_tree.specs.Names.{CaseTable}
use Rattle.cfb_tree.specs.Objects.{a_storage, a_stream, object_at, EntriesHoldTree, IsObject, Object}
use Rattle.cfb_tree.specs.Paths.{Path}
use Rattle.cfb_tree.specs.Tree.{nothing, storage, stream, Content, Facts, Tree}
use Rattle.cfb_tree.specs.declared.entry.DirEntry.{DirEntry}
use Rattle.cfb_tree.proofs.OneContent.{Some_same}
use Rattle.cfb_tree_edits.specs.WholeRemoval.{Empties, HasEmptyStorage, HasStorage, IsLeafAt, IsLeafOnWay, TakesBelow}
use Rattle.cfb_ownership.specs.Owners.{Owners}
use Rattle.cfb_tree_edits.specs.Live.{live_of, LiveFileMeansTree}
use Rattle.cfb_tree_edits.specs.Orphans.{FileBecomesTree}
use Rattle.cfb_tree_edits.specs.Removing.{IsChildAt, LacksChild}
use Rattle.cfb_tree_edits.proofs.Below.{removed_below, removed_smaller, size, storage_stays}
use Rattle.cfb_tree_edits.proofs.Descent.{tree_fits}
use Rattle.cfb_tree_edits.proofs.SetFacts.{means_held}
use Rattle.cfb_tree_edits.proofs.Strays.{strays_same, strays_then}
use Rattle.cfb_tree_edits.proofs.Streams.{reads}
use Rattle.cfb_tree_edits.proofs.Taken.{leaf_at, some_there}

-- entries in memory are as many as they are seen to be
pub entries_length : (entries : List DirEntry) → length (map entry_in entries) ≡ length entries
entries_length entries = simp length-map

-- a content has as many entries as objects
entries_size : (directory : List Entry) (Reads : Entry → List ℕ → Type 0) (c : Content) (ids all : List ℕ) → Holds directory Reads ids c all → length all ≡ size c
entries_size directory Reads nothing ids all (is, empty) = ap length empty
entries_size directory Reads (stream n b x l) ids all (e, id, others, rest, is, all_is, at, reads, later) =
    let more = entries_size directory Reads l others rest later in
    let whole = ap length all_is in omega (arith, more, whole)
entries_size directory Reads (storage n f i l) ids all (e, id, others, children, within, rest, is, all_is, at, siblings, inside, later) =
    let more = entries_size directory Reads l others rest later in
    let deeper = entries_size directory Reads i children within inside in
    let whole = ap length all_is in omega (arith, more, deeper, whole, length-append within rest)

-- what the rules say of it
module _ (letters : CaseTable) (tree : Tree) (path : Path) where
  pub step_all_missing : object_at letters tree path ≡ None → (tree_step letters tree (remove_storage_all path)).1 ≡ refused NotFound
  step_all_missing at = rw at refl

  pub step_all_stream : (name : List ℕ) (bits : ℕ) (bytes : List ℕ) → object_at letters tree path ≡ Some (a_stream name bits bytes) → (tree_step letters tree (remove_storage_all path)).1 ≡ refused InvalidInput
  step_all_stream name bits bytes at = rw at refl

  pub step_all : (name : List ℕ) (facts : Facts) (inside : Content) → object_at letters tree path ≡ Some (a_storage name facts inside) → tree_step letters tree (remove_storage_all path) ≡ (removed letters path tree, done)
  step_all name facts inside at = rw at refl

-- what has no siblings is no entry
no_child : (directory : List Entry) (id : ℕ) → Siblings directory id [] → id ≡ no_entry
no_child directory id (none is empty) = is
no_child directory id (some e before after fits found left right whole) = let size = ap length whole in absurd (omega (arith, size, length-append before (id ∷ after)))

-- where a path leads, the tree has an object
object_there : (letters : CaseTable) (Reads : Entry → List ℕ → Type 0) (directory : List Entry) (tree : Tree) (h : EntriesHoldTree letters Reads directory tree) (path : Path) (id : ℕ) → 0 < length path → LeadsTo letters directory 0 path id
    → (o : Object) × (object_at letters tree path ≡ Some o)
object_there letters Reads directory tree h [] id long leads = absurd (omega (arith, long))
object_there letters Reads directory tree h (first ∷ names) id long leads =
    let s = spot directory Reads Reads letters names first 0 h.root h.children tree.content h.ids id h.root_found h.siblings h.holds h.ordered leads in
    (s.object, s.found (codes "Root Entry") tree.root)

-- a storage that holds nothing is a child that can be taken out
pub emptied_leaf : (letters : CaseTable) (Reads : ℕ → ℕ → List ℕ → Bool) (directory : List Entry) (tree : Tree) (path : Path) (link : Link) (id : ℕ) → 0 < length path → HasEmptyStorage letters tree path
    → IsChildAt letters Reads directory tree path link id → IsLeafAt letters directory (parent_of path) (last_of path) link id
emptied_leaf letters Reads directory tree path link id long empty at =
    let is : at.object ≡ a_storage empty.name empty.facts nothing = Some_same (sym at.at_path ∙ empty.at_path) in
    let storage : IsObject directory (ReadBy Reads) id (a_storage empty.name empty.facts nothing) at.own = subst (λ o. IsObject directory (ReadBy Reads) id o at.own) is at.is_object in
    by_entry storage
  where
    by_entry : IsObject directory (ReadBy Reads) id (a_storage empty.name empty.facts nothing) at.own → IsLeafAt letters directory (parent_of path) (last_of path) link id
    by_entry (e, children, there, siblings, (nil, all)) = leaf_at letters Reads directory tree path link id long at e there.found (λ never. no_child directory e.child (subst (Siblings directory e.child) nil siblings))

-- it is there
pub emptied_there : (letters : CaseTable) (tree : Tree) (path : Path) → 0 < length path → HasEmptyStorage letters tree path → (e : Error) → LacksChild letters tree path e → ⊥
emptied_there letters tree path long empty e (inl missing) = let never : Some (a_storage empty.name empty.facts nothing) ≡ None = sym empty.at_path ∙ missing.1 in absurd (cc)
emptied_there letters tree path long empty e (inr root) = let nil = ap length root.1 in omega (arith, long, nil)

module _ {F : Type 0} {g : Ghosts F} (letters : CaseTable) (path : Path) (tree : Tree) where
  -- an object below the storage was taken out
  pub takes_below : (it new : MiniAllocator F g) (above : List ℕ) (top id : ℕ) → (m : LiveFileMeansTree letters it tree) → (below : IsLeafOnWay letters (entries_held (directory_of it)) path above top id)
      → FileBecomesTree letters it new m.who (removed letters (path_to (path ++ below.way.more) below.name) tree) → TakesBelow letters path tree it new m.who
  takes_below it new above top id m below taken =
      let at = path ++ below.way.more in
      let o = object_there letters (ReadBy (reads (live_of it) m.who)) (entries_held (directory_of it)) tree (means_held letters it tree m) (path_to at below.name) id (some_there at below.name) below.leaf.leads in
      record {
        later = removed letters (path_to at below.name) tree;
        loses = record { more = below.way.more; name = below.name; object = o.0; there = o.1; is = refl };
        comes = taken;
      }

  -- where the storage is still
  pub takes_storage : (it new : MiniAllocator F g) (who : Owners) → HasStorage letters tree path → (t : TakesBelow letters path tree it new who) → HasStorage letters t.later path
  takes_storage it new who has t = subst (λ u. HasStorage letters u path) (sym t.loses.is) (storage_stays letters path t.loses.more t.loses.name tree has)

  -- and without which the tree is the same
  pub takes_others : (it new : MiniAllocator F g) (who : Owners) → (t : TakesBelow letters path tree it new who) → removed letters path t.later ≡ removed letters path tree
  takes_others it new who t = ap (removed letters path) t.loses.is ∙ removed_below letters path t.loses.more t.loses.name tree

  -- after so many objects were taken out: the file came to mean a tree that is the same without the storage, and of which fewer are
  -- left
  pub record Emptying (first it : MiniAllocator F g) (who : Owners) (steps count : ℕ) : Type 0 where
    pub later : Tree
    pub storage : HasStorage letters later path
    pub others : removed letters path later ≡ removed letters path tree
    pub comes : FileBecomesTree letters first it who later
    pub left : steps + size later.content < count

  pub emptying_begun : (it : MiniAllocator F g) (count : ℕ) → (m : LiveFileMeansTree letters it tree) → HasStorage letters tree path → count ≡ length (entries_held (directory_of it)) → Emptying it it m.who 0 count
  emptying_begun it count m has count_is =
      let held = means_held letters it tree m in
      let Reads = ReadBy (reads (live_of it) m.who) in
      let fits = tree_fits (entries_held (directory_of it)) Reads letters tree held in
      let all = entries_size (entries_held (directory_of it)) Reads tree.content held.children held.ids held.holds in
      record { later = tree; storage = has; others = refl; comes = record { means = m; strays = strays_same it m.who }; left = omega (arith, fits, all, count_is) }

  pub emptying_more : (first it new : MiniAllocator F g) (who : Owners) (steps count : ℕ) → (e : Emptying first it who steps count) → TakesBelow letters path e.later it new e.comes.means.who → Emptying first new who (steps + 1) count
  emptying_more first it new who steps count e takes =
      let lost = takes.loses in
      let left = e.left in
      let smaller = subst (λ t. size t.content < size e.later.content) (sym lost.is) (removed_smaller letters (path ++ lost.more) lost.name e.later lost.object lost.there) in
      record {
        later = takes.later;
        storage = subst (λ t. HasStorage letters t path) (sym lost.is) (storage_stays letters path lost.more lost.name e.later e.storage);
        others = ap (removed letters path) lost.is ∙ removed_below letters path lost.more lost.name e.later ∙ e.others;
        comes = record { means = takes.comes.means; strays = strays_then first it new who e.comes.means.who takes.comes.means.who e.comes.strays takes.comes.strays };
        left = omega (arith, left, smaller);
      }

  pub emptying_ended : (first it new : MiniAllocator F g) (who : Owners) (steps count : ℕ) → (e : Emptying first it who steps count) → FileBecomesTree letters it new e.comes.means.who e.later → HasEmptyStorage letters e.later path → Empties letters path tree first new who
  emptying_ended first it new who steps count e m empty = record {
    later = e.later;
    empty = empty;
    others = e.others;
    comes = record { means = m.means; strays = strays_then first it new who e.comes.means.who m.means.who e.comes.strays m.strays };
  }
