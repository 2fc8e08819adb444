-- The tree that a file holds, streams with their bytes.
use Rattle.std.proofs.Common.{◌≡◌, ◌∙◌, List, ℕ, sym, subst, IsTrue}
use Rattle.std.specs.Prelude.{slice_get, Some}
use Rattle.cfb_medium.specs.declared.medium.ReadMedium.{Ghosts}
use Rattle.cfb_sectors.specs.declared.validation.Validation.{Validation}
use Rattle.cfb_fat.specs.Tables.{bytes_of}
use Rattle.cfb_tree.specs.Names.{CaseTable}
use Rattle.cfb_tree.specs.Directory.{Entry, Holds as HoldsContent, Siblings}
use Rattle.cfb_tree.specs.Objects.{EntriesHoldTree}
use Rattle.cfb_tree.specs.Tree.{Tree}
use Rattle.cfb_tree.proofs.OneContent.{siblings_unique}
use Rattle.cfb_tree.specs.Entries.{HasSize}
use Rattle.cfb_directory.specs.Views.{entries_held}
use Rattle.cfb_mini.specs.Views as mini
use Rattle.cfb_mini.specs.Views.{allocator_of, directory_of}
use Rattle.cfb_mini.specs.declared.mini_allocator.MiniAllocator.{MiniAllocator}
use Rattle.cfb_spec.specs.Means.{directory, HasBytes, Layout, BytesMeanTree, BytesMeanTreeBy}
use Rattle.cfb_spec.proofs.OneTree.{directory_same, layout_same, root_same}
use Rattle.cfb_opening.specs.Opened as opening
use Rattle.cfb_opening.proofs.Readings.{bytes_have_size, means_less}
use Rattle.cfb_soundness.proofs.Refilling.{entries_same}
use Rattle.cfb.specs.Opened.{IsOpenedAs}
use Rattle.cfb.specs.Streams.{FileHoldsTree}
use Rattle.cfb.specs.Views.{file_case_table, mini_of, OnlyReadsFile, FileShowsTree}
use Rattle.cfb.specs.declared.compound_file.CompoundFile.{CompoundFile}

-- a meaning in whatever layout is one in the layout that is known
pub meant_so : (letters : CaseTable) (bytes : List ℕ) (l : Layout) (shown tree : Tree) (Reads : Entry → List ℕ → Type 0)
    → BytesMeanTreeBy l Reads letters bytes shown → BytesMeanTree letters bytes tree → BytesMeanTreeBy l (HasBytes bytes l) letters bytes tree
meant_so letters bytes l shown tree Reads m (k, s) =
    let dirs = directory_same bytes l k m.laid_out s.laid_out in
    let roots = root_same bytes l k m.laid_out s.laid_out in
    let siblings : Siblings (directory bytes l) l.root.child s.children =
    subst (λ r. Siblings (directory bytes l) r.child s.children) roots (subst (λ d. Siblings d k.root.child s.children) dirs s.siblings) in
    let children : s.children ≡ m.children = siblings_unique siblings m.siblings in
    let holds : HoldsContent (directory bytes l) (HasBytes bytes k) m.children tree.content k.entries =
    subst (λ ids. HoldsContent (directory bytes l) (HasBytes bytes k) ids tree.content k.entries) children
    (subst (λ d. HoldsContent d (HasBytes bytes k) s.children tree.content k.entries) dirs s.holds) in
    let entries = entries_same letters (directory bytes l) (HasBytes bytes k) Reads tree.content shown.content m.children k.entries l.entries holds m.holds in
    subst (λ (x : Layout). BytesMeanTreeBy x (HasBytes bytes x) letters bytes tree) (layout_same bytes l k m.laid_out s.laid_out entries) s

-- entries that mean a tree hold it
pub tree_held : (l : Layout) (Reads : Entry → List ℕ → Type 0) (letters : CaseTable) (bytes : List ℕ) (tree : Tree) → BytesMeanTreeBy l Reads letters bytes tree → EntriesHoldTree letters Reads (directory bytes l) tree
tree_held l Reads letters bytes tree means = record {
  root = l.root;
  root_found = means.laid_out.root_found;
  root_kind = means.laid_out.root_kind;
  facts = means.facts;
  children = means.children;
  ids = l.entries;
  siblings = means.siblings;
  holds = means.holds;
  once = means.once;
  ordered = means.ordered;
}

module _ {F : Type 0} {g : Ghosts F} where
  -- reads keep the layout that memory shows
  pub shows_yet : (old new : MiniAllocator F g) (bytes : List ℕ) (l : Layout) → mini.OnlyReadsMini old new → opening.MemoryShows old bytes l → opening.MemoryShows new bytes l
  shows_yet old new bytes l rests s =
      let r = rests.directory in
      record {
        version = r.allocator.sectors.version ∙ s.version;
        difat_sectors = r.allocator.difat_sectors ∙ s.difat_sectors;
        fat_sectors = r.allocator.fat_sectors ∙ s.fat_sectors;
        directory_sectors = r.ids ∙ s.directory_sectors;
        mini_fat_sectors = rests.mini_fat_ids ∙ s.mini_fat_sectors;
        mini_stream_sectors = rests.mini_stream_ids ∙ s.mini_stream_sectors;
        root = subst (λ es. slice_get es 0 ≡ Some l.root) (sym r.entries) s.root;
        fat = r.allocator.fat ∙ s.fat;
        mini_fat = rests.mini_fat ∙ s.mini_fat;
        entries = r.entries ∙ s.entries;
      }

  pub holds_opened : (validation : Validation) (letters : CaseTable) (medium : F) (it : CompoundFile F g) (tree : Tree) → IsTrue (g.honest medium)
      → opening.OpensAt medium (mini_of it) → file_case_table it ≡ letters → IsOpenedAs validation letters (g.bytes medium) it → BytesMeanTree letters (g.bytes medium) tree → FileHoldsTree it tree
  holds_opened validation letters medium it tree is opens named opened means =
      let same = sym (opens.bytes is) in
      let here = meant_so letters (g.bytes medium) opened.layout opened.tree tree HasSize opened.opened.means means in
      record {
        live = opens.live;
        honest = subst IsTrue (sym opens.honest) is;
        memory = opens.memory;
        layout = opened.layout;
        shows = subst (λ b. opening.MemoryShows (mini_of it) b opened.layout) same opened.opened.shows;
        means = subst (λ n. BytesMeanTreeBy opened.layout (HasBytes (bytes_of (allocator_of (mini_of it))) opened.layout) n (bytes_of (allocator_of (mini_of it))) tree) (sym named)
            (subst (λ b. BytesMeanTreeBy opened.layout (HasBytes b opened.layout) letters b tree) same here);
      }

  pub holds_yet : (old new : CompoundFile F g) (tree : Tree) → OnlyReadsFile old new → FileHoldsTree old tree → FileHoldsTree new tree
  holds_yet old new tree rests h =
      let below = rests.mini.directory.allocator.sectors in
      let same = sym (below.bytes h.honest) in
      record {
        live = below.failed ∙ h.live;
        honest = subst IsTrue (sym below.honest) h.honest;
        memory = rests.mini.kept h.memory;
        layout = h.layout;
        shows = subst (λ b. opening.MemoryShows (mini_of new) b h.layout) same (shows_yet (mini_of old) (mini_of new) _ h.layout rests.mini h.shows);
        means = subst (λ n. BytesMeanTreeBy h.layout (HasBytes (bytes_of (allocator_of (mini_of new))) h.layout) n (bytes_of (allocator_of (mini_of new))) tree) (sym rests.letters)
            (subst (λ b. BytesMeanTreeBy h.layout (HasBytes b h.layout) (file_case_table old) b tree) same h.means);
      }

  pub shown_yet : (old new : CompoundFile F g) (tree : Tree) → OnlyReadsFile old new → FileShowsTree old tree → FileShowsTree new tree
  shown_yet old new tree rests h =
      subst (λ n. EntriesHoldTree n HasSize (entries_held (directory_of (mini_of new))) tree) (sym rests.letters)
      (subst (λ es. EntriesHoldTree (file_case_table old) HasSize es tree) (sym rests.mini.directory.entries) h)

  -- with their bytes the entries in memory hold it
  pub entries_hold : (it : CompoundFile F g) (tree : Tree) (h : FileHoldsTree it tree)
      → EntriesHoldTree (file_case_table it) (HasBytes (bytes_of (allocator_of (mini_of it))) h.layout) (entries_held (directory_of (mini_of it))) tree
  entries_hold it tree h =
      subst (λ es. EntriesHoldTree (file_case_table it) (HasBytes (bytes_of (allocator_of (mini_of it))) h.layout) es tree) (sym h.shows.entries)
      (tree_held h.layout (HasBytes (bytes_of (allocator_of (mini_of it))) h.layout) (file_case_table it) (bytes_of (allocator_of (mini_of it))) tree h.means)

  -- and so it shows it
  pub holds_shown : (it : CompoundFile F g) (tree : Tree) → FileHoldsTree it tree → FileShowsTree it tree
  holds_shown it tree h =
      let bytes = bytes_of (allocator_of (mini_of it)) in
      subst (λ es. EntriesHoldTree (file_case_table it) HasSize es tree) (sym h.shows.entries)
      (tree_held h.layout HasSize (file_case_table it) bytes tree
      (means_less (HasBytes bytes h.layout) HasSize (λ e content has. bytes_have_size bytes h.layout e content has) h.layout (file_case_table it) bytes tree h.means))
