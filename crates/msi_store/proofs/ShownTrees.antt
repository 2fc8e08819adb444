-- The tree that a file shows, whichever streams' chains break: it is shown still while the file is only read, and a stream that is
-- read has its bytes there.
use Rattle.std.proofs.Common.{◌≡◌, ◌∙◌, ◌*◌, ◌≤◌, ℕ, List, [], ◌∷◌, ap, inl, inr, sym, subst, IsTrue}
use Rattle.std.specs.Prelude.{Some, length, slice_get}
use Rattle.cfb.proofs.Holding.{shows_yet, tree_held}
use Rattle.cfb.proofs.StreamBytes.{bytes_are, bytes_held, lies_where}
use Rattle.cfb.specs.Opened.{IsOpenedAs}
use Rattle.cfb.specs.Streams.{FindsStream, FileHoldsTree, IsStreamAt, bytes_found}
use Rattle.cfb.specs.Streams as file
use Rattle.cfb.specs.Views.{OnlyReadsFile, FileShowsTree, file_case_table, links_held, mini_of}
use Rattle.cfb.specs.declared.compound_file.CompoundFile.{CompoundFile}
use Rattle.cfb_directory.specs.Views.{entries_held}
use Rattle.cfb_entries.proofs.StreamsHeld.{StreamHeld, stream_held}
use Rattle.cfb_entries.specs.Rules.{answer_at, names_in}
use Rattle.cfb_fat.specs.Tables.{is_honest}
use Rattle.cfb_spec.proofs.OneTree.{directory_same, layout_same, root_same}
use Rattle.cfb_spec.specs.Means.{HasBytes, Layout, BytesMeanTree, BytesMeanTreeBy, directory}
use Rattle.cfb_spec.specs.TreeRules.{has_bytes, open_read_stream}
use Rattle.cfb_medium.specs.declared.medium.ReadMedium.{Ghosts}
use Rattle.cfb_medium.specs.Versions.{sector_len}
use Rattle.cfb_mini.specs.Minis.{AreInside}
use Rattle.cfb_mini.specs.Views.{MiniMatchesBytes, allocator_of, directory_of, mini_stream_ids, mini_stream_len}
use Rattle.cfb_opening.proofs.Readings.{bytes_have_size, means_less}
use Rattle.cfb_opening.specs.Opened as opening
use Rattle.cfb_chains.specs.LinkViews.{links_version}
use Rattle.cfb_sectors.specs.Sectors.{Chain}
use Rattle.cfb_sectors.specs.declared.validation.Validation.{Validation}
use Rattle.cfb_siblings.specs.Places.{LeadsTo}
use Rattle.cfb_soundness.proofs.Refilling.{entries_same}
use Rattle.cfb_stream_reads.specs.Streams.{IsOfLevel, StreamLiesIn, sectors_in}
use Rattle.cfb_stream_reads.specs.declared.opening.StreamLinks.{StreamLinks}
use Rattle.cfb_stream_reads.specs.declared.opening.StreamLinks.TheVariants.{Short, Long}
use Rattle.cfb_tree.proofs.OneContent.{siblings_unique}
use Rattle.cfb_tree.specs.Directory.{Entry, Holds as HoldsContent, Siblings}
use Rattle.cfb_tree.specs.Names.{CaseTable}
use Rattle.cfb_tree.specs.Objects.{EntriesHoldTree}
use Rattle.cfb_tree.specs.Paths.{Path}
use Rattle.cfb_tree.specs.Tree.{Tree}
use Rattle.cfb_tree.specs.Entries.{HasSize}
use Rattle.msi_spec.specs.Package.{objects, stream_at}
use Rattle.msi_stored.proofs.Children.{some_of}
use Rattle.msi_stored.specs.Shown.{Breaks, HasBytesOrBreaks, StoreShowsTree, ShowsTree, bytes_in}

-- a tree that is shown in whatever layout is shown in the layout that is known
shown_so : (letters : CaseTable) (bytes : List ℕ) (l : Layout) (known tree : Tree) (Reads : Entry → List ℕ → Type 0)
    → BytesMeanTreeBy l Reads letters bytes known → ShowsTree letters bytes tree → BytesMeanTreeBy l (HasBytesOrBreaks bytes l) letters bytes tree
shown_so letters bytes l known tree Reads m (k, s) =
    let dirs = directory_same bytes l k m.laid_out s.laid_out in
    let roots = root_same bytes l k m.laid_out s.laid_out in
    let siblings : Siblings (directory bytes l) l.root.child s.children =
    subst (λ r. Siblings (directory bytes l) r.child s.children) roots (subst (λ d. Siblings d k.root.child s.children) dirs s.siblings) in
    let children : s.children ≡ m.children = siblings_unique siblings m.siblings in
    let holds : HoldsContent (directory bytes l) (HasBytesOrBreaks bytes k) m.children tree.content k.entries =
    subst (λ ids. HoldsContent (directory bytes l) (HasBytesOrBreaks bytes k) ids tree.content k.entries) children
    (subst (λ d. HoldsContent d (HasBytesOrBreaks bytes k) s.children tree.content k.entries) dirs s.holds) in
    let entries = entries_same letters (directory bytes l) (HasBytesOrBreaks bytes k) Reads tree.content known.content m.children k.entries l.entries holds m.holds in
    subst (λ (x : Layout). BytesMeanTreeBy x (HasBytesOrBreaks bytes x) letters bytes tree) (layout_same bytes l k m.laid_out s.laid_out entries) s

size_of : (bytes : List ℕ) (l : Layout) (e : Entry) (content : List ℕ) → HasBytesOrBreaks bytes l e content → HasSize e content
size_of bytes l e content (inl has) = bytes_have_size bytes l e content has
size_of bytes l e content (inr broken) = broken.0

-- what bytes mean they show
pub means_shown : (letters : CaseTable) (bytes : List ℕ) (tree : Tree) → BytesMeanTree letters bytes tree → ShowsTree letters bytes tree
means_shown letters bytes tree (l, m) = (l, means_less (HasBytes bytes l) (HasBytesOrBreaks bytes l) (λ e content has. inl has) l letters bytes tree m)

module _ {F : Type 0} {g : Ghosts F} where
  -- what a file holds it shows
  pub shown_of_held : (it : CompoundFile F g) (tree : Tree) → FileHoldsTree it tree → StoreShowsTree it tree
  shown_of_held it tree h = record {
    live = h.live;
    honest = h.honest;
    memory = h.memory;
    layout = h.layout;
    shows = h.shows;
    means = means_less (HasBytes (bytes_in it) h.layout) (HasBytesOrBreaks (bytes_in it) h.layout) (λ e content has. inl has) h.layout (file_case_table it) (bytes_in it) tree h.means;
  }

  pub shown_opened : (validation : Validation) (letters : CaseTable) (medium : F) (it : CompoundFile F g) (tree : Tree) → IsTrue (g.honest medium)
      → opening.OpensAt medium (mini_of it) → file_case_table it ≡ letters → IsOpenedAs validation letters (g.bytes medium) it → ShowsTree letters (g.bytes medium) tree → StoreShowsTree it tree
  shown_opened validation letters medium it tree is opens named opened shown =
      let same = sym (opens.bytes is) in
      let here = shown_so letters (g.bytes medium) opened.layout opened.tree tree HasSize opened.opened.means shown in
      record {
        live = opens.live;
        honest = subst IsTrue (sym opens.honest) is;
        memory = opens.memory;
        layout = opened.layout;
        shows = subst (λ b. opening.MemoryShows (mini_of it) b opened.layout) same opened.opened.shows;
        means = subst (λ n. BytesMeanTreeBy opened.layout (HasBytesOrBreaks (bytes_in it) opened.layout) n (bytes_in it) tree) (sym named)
            (subst (λ b. BytesMeanTreeBy opened.layout (HasBytesOrBreaks b opened.layout) letters b tree) same here);
      }

  pub shown_yet : (old new : CompoundFile F g) (tree : Tree) → OnlyReadsFile old new → StoreShowsTree old tree → StoreShowsTree new tree
  shown_yet old new tree rests h =
      let below = rests.mini.directory.allocator.sectors in
      let same = sym (below.bytes h.honest) in
      record {
        live = below.failed ∙ h.live;
        honest = subst IsTrue (sym below.honest) h.honest;
        memory = rests.mini.kept h.memory;
        layout = h.layout;
        shows = subst (λ b. opening.MemoryShows (mini_of new) b h.layout) same (shows_yet (mini_of old) (mini_of new) _ h.layout rests.mini h.shows);
        means = subst (λ n. BytesMeanTreeBy h.layout (HasBytesOrBreaks (bytes_in new) h.layout) n (bytes_in new) tree) (sym rests.letters)
            (subst (λ b. BytesMeanTreeBy h.layout (HasBytesOrBreaks b h.layout) (file_case_table old) b tree) same h.means);
      }

  -- what is said of the letter table and the bytes after a read is so before it
  pub shown_before : (old new : CompoundFile F g) (P : CaseTable → List ℕ → Type 0) → IsTrue (is_honest (allocator_of (mini_of old))) → OnlyReadsFile old new
      → P (file_case_table new) (bytes_in new) → P (file_case_table old) (bytes_in old)
  shown_before old new P honest rests h =
      let same : bytes_in new ≡ bytes_in old = rests.mini.directory.allocator.sectors.bytes honest in
      subst (λ b. P (file_case_table old) b) same (subst (λ n. P n (bytes_in new)) rests.letters h)

  -- what is told of each tree that a file shows is so of the file before it was read
  pub shown_later : (a b : CompoundFile F g) (P : CaseTable → List ℕ → Tree → Type 0) → OnlyReadsFile a b → ((tree : Tree) → StoreShowsTree b tree → P (file_case_table b) (bytes_in b) tree)
      → (tree : Tree) → StoreShowsTree a tree → P (file_case_table a) (bytes_in a) tree
  shown_later a b P rests told tree shown = shown_before a b (λ l bytes. P l bytes tree) shown.honest rests (told tree (shown_yet a b tree rests shown))

  entries_shown : (it : CompoundFile F g) (tree : Tree) (h : StoreShowsTree it tree)
      → EntriesHoldTree (file_case_table it) (HasBytesOrBreaks (bytes_in it) h.layout) (entries_held (directory_of (mini_of it))) tree
  entries_shown it tree h =
      subst (λ es. EntriesHoldTree (file_case_table it) (HasBytesOrBreaks (bytes_in it) h.layout) es tree) (sym h.shows.entries)
      (tree_held h.layout (HasBytesOrBreaks (bytes_in it) h.layout) (file_case_table it) (bytes_in it) tree h.means)

  pub shown_sizes : (it : CompoundFile F g) (tree : Tree) → StoreShowsTree it tree → FileShowsTree it tree
  shown_sizes it tree h =
      subst (λ es. EntriesHoldTree (file_case_table it) HasSize es tree) (sym h.shows.entries)
      (tree_held h.layout HasSize (file_case_table it) (bytes_in it) tree
      (means_less (HasBytesOrBreaks (bytes_in it) h.layout) HasSize (size_of (bytes_in it) h.layout) h.layout (file_case_table it) (bytes_in it) tree h.means))

  -- where a stream lies it lies after a read
  mini_len_yet : (old new : CompoundFile F g) → OnlyReadsFile old new → MiniMatchesBytes (mini_of old) → mini_stream_len (mini_of new) ≡ mini_stream_len (mini_of old)
  mini_len_yet old new rests memory =
      let version = rests.mini.directory.allocator.sectors.version in
      ap (λ v. length (mini_stream_ids (mini_of new)) * sector_len v) ((rests.mini.kept memory).over.stream_version ∙ version ∙ sym memory.over.stream_version)
      ∙ ap (λ ids. length ids * sector_len (links_version (mini_of old).mini_fat.stream)) rests.mini.mini_stream_ids

  lies_yet : (old new : CompoundFile F g) (start size : ℕ) (sectors : List ℕ) → OnlyReadsFile old new → MiniMatchesBytes (mini_of old) → StreamLiesIn (mini_of old) start size sectors → StreamLiesIn (mini_of new) start size sectors
  lies_yet old new start size sectors rests memory lies =
      let r = rests.mini.directory.allocator in
      record {
        short = λ below. let at = lies.short below in (
          subst (λ t. Chain t start sectors) (sym rests.mini.mini_fat) at.0,
          subst (λ n. AreInside n sectors) (sym (mini_len_yet old new rests memory)) at.1,
          at.2,
        );
        long = λ up. let at = lies.long up in (
          subst (λ t. Chain t start sectors) (sym r.fat) at.0,
          subst (λ v. size ≤ length sectors * sector_len v) (sym r.sectors.version) at.1,
        );
      }

  level_yet : (old new : CompoundFile F g) (size : ℕ) (links : StreamLinks) → OnlyReadsFile old new → IsOfLevel (mini_of old) size links → IsOfLevel (mini_of new) size links
  level_yet old new size (Short minis) rests level = level
  level_yet old new size (Long links) rests level = (level.0, level.1 ∙ sym rests.mini.directory.allocator.sectors.version)

  module _ (old new : CompoundFile F g) (tree : Tree) (h : StoreShowsTree old tree) (text name : List ℕ) (one : names_in text ≡ Some (name ∷ [])) where
    held_at : (e : Entry) (at : IsStreamAt old text e) → StreamHeld (file_case_table old) (HasBytesOrBreaks (bytes_in old) h.layout) tree at.names e
    held_at e at =
        let (named, id, leads, found) = at.found in
        stream_held (file_case_table old) (HasBytesOrBreaks (bytes_in old) h.layout) (entries_held (directory_of (mini_of old))) tree e at.of_kind (entries_shown old tree h) at.names id leads found

    -- a stream that was read has its bytes in the tree
    pub bytes_shown : (bytes : List ℕ) → OnlyReadsFile old new → FindsStream old new text (length bytes) → bytes ≡ bytes_found new (length bytes)
        → stream_at (file_case_table old) (objects tree.content) name ≡ Some bytes
    unfolding shown_yet
    bytes_shown bytes rests finds is =
        let held = held_at finds.entry finds.at_path in
        some_of (file_case_table old) tree text name one bytes
        (ap (answer_at (file_case_table old) tree open_read_stream) finds.at_path.found.0 ∙ held.answer ∙ ap (λ b. has_bytes b) (same held.bytes held.reads))
      where
        now : StoreShowsTree new tree
        now = shown_yet old new tree rests h

        bytes_same : bytes_in new ≡ bytes_in old
        bytes_same = rests.mini.directory.allocator.sectors.bytes h.honest

        lies : StreamLiesIn (mini_of new) finds.entry.start finds.entry.size (sectors_in (links_held new))
        lies = lies_yet old new finds.entry.start finds.entry.size (sectors_in (links_held new)) rests h.memory finds.lies

        level : IsOfLevel (mini_of new) finds.entry.size (links_held new)
        level = level_yet old new finds.entry.size (links_held new) rests finds.level

        whole : bytes ≡ bytes_found new finds.entry.size
        whole = is ∙ ap (bytes_found new) finds.has_size

        same : (content : List ℕ) → HasBytesOrBreaks (bytes_in old) h.layout finds.entry content → content ≡ bytes
        same content (inl has) =
            (bytes_held (mini_of new) now.layout now.shows now.memory finds.entry (links_held new) lies level now.honest content (subst (λ b. HasBytes b h.layout finds.entry content) (sym bytes_same) has)).bytes ∙ sym whole
        same content (inr broken) =
            absurd (broken.1 (bytes_found new finds.entry.size) (subst (λ b. HasBytes b h.layout finds.entry (bytes_found new finds.entry.size)) bytes_same (bytes_are (mini_of new) now.layout now.shows now.memory finds.entry (links_held new) lies level)))

    -- one whose sectors are missing has none
    pub breaks_at : file.IsBroken old text → Breaks (file_case_table old) (bytes_in old) name
    breaks_at broken =
        let e = broken.entry in
        let (named, id, leads, found) = broken.at_path.found in
        record {
          layout = h.layout;
          tree = tree;
          shows = h.means;
          id = id;
          entry = e;
          leads = subst (λ es. LeadsTo (file_case_table old) es 0 (name ∷ []) id) h.shows.entries (subst (λ (p : Path). LeadsTo (file_case_table old) (entries_held (directory_of (mini_of old))) 0 p id) (names_are broken.at_path.names named) leads);
          found = subst (λ es. slice_get es id ≡ Some e) h.shows.entries found;
          of_kind = broken.at_path.of_kind;
          broken = λ content has. let (sectors, lies) = lies_where (mini_of old) h.layout h.shows h.memory e content has in broken.lost sectors lies;
        }
      where
        names_are : (p : Path) → names_in text ≡ Some p → p ≡ name ∷ []
        names_are p named = let same : Some p ≡ Some (name ∷ []) = sym named ∙ one in cc
