-- What opening tells of a file over a medium whose length was asked for first.
use Rattle.std.proofs.Common.{◌≡◌, ℕ, Bool, List, length, ap, IsTrue, sym, subst, ◌∙◌}
use Rattle.std.specs.Prelude.{◌↔◌}
use Rattle.cfb_medium.specs.declared.medium.ReadMedium.{Ghosts}
use Rattle.cfb_fat.specs.Tables.{bytes_of, medium_of}
use Rattle.cfb_spec.specs.Means.{Layout, BytesMeanTreeBy}
use Rattle.cfb_spec.specs.Sound.{IsSoundContainer}
use Rattle.cfb_directory.specs.Views.{entries_held}
use Rattle.cfb_mini.specs.Views.{allocator_of, directory_of}
use Rattle.cfb_mini.specs.declared.mini_allocator.MiniAllocator.{MiniAllocator}
use Rattle.cfb_opening.specs.Opened.{OpensAt, MemoryShows}
use Rattle.cfb_opening.specs.Tables.{OnlyReadsMedium}
use Rattle.cfb_soundness.specs.Views.{LiesSo}
use Rattle.cfb_tree.specs.Names.{CaseTable}
use Rattle.cfb_tree.specs.Objects.{EntriesHoldTree}
use Rattle.cfb_tree.specs.Tree.{Tree}
use Rattle.cfb_tree.specs.Entries.{HasSize}

module _ {F : Type 0} {g : Ghosts F} where
  -- the medium's length was read, and then the file was opened
  pub opens_since : (old mid : F) (it : MiniAllocator F g) → OnlyReadsMedium g.honest g.bytes g.continues old mid → OpensAt mid it → OpensAt old it
  opens_since old mid it read opens = record {
    honest = opens.honest ∙ read.as_honest;
    continues = λ start from. opens.continues start (read.extends start from);
    bytes = λ is. opens.bytes (subst IsTrue (sym read.as_honest) is) ∙ read.same is;
    live = opens.live;
    memory = opens.memory;
    sizes = opens.sizes;
  }

  -- the medium, given back
  pub crash_left_since : (old : F) (it : MiniAllocator F g) → OpensAt old it → OnlyReadsMedium g.honest g.bytes g.continues old (medium_of (allocator_of it))
  crash_left_since old it opens = record { as_honest = opens.honest; same = opens.bytes; extends = opens.continues }

  -- memory is that of the bytes, laid out as it shows
  pub lies_so : (old : F) (it : MiniAllocator F g) (l : Layout) → IsTrue (g.honest old) → OpensAt old it → MemoryShows it (g.bytes old) l → LiesSo it l
  lies_so old it l is opens shows = record {
    live = opens.live;
    honest = subst IsTrue (sym opens.honest) is;
    memory = opens.memory;
    version = sym shows.version;
    difat_sectors = sym shows.difat_sectors;
    fat_sectors = sym shows.fat_sectors;
    directory_sectors = sym shows.directory_sectors;
    mini_fat_sectors = sym shows.mini_fat_sectors;
    mini_stream_sectors = sym shows.mini_stream_sectors;
  }

  -- the entries in memory hold the tree that the bytes mean
  pub holds_so : (it : MiniAllocator F g) (bytes : List ℕ) (l : Layout) (letters : CaseTable) (tree : Tree)
      → MemoryShows it bytes l → BytesMeanTreeBy l HasSize letters bytes tree → EntriesHoldTree letters HasSize (entries_held (directory_of it)) tree
  holds_so it bytes l letters tree shows means = subst (λ es. EntriesHoldTree letters HasSize es tree) (sym shows.entries) (record {
    root = l.root;
    root_found = means.laid_out.root_found;
    root_kind = means.laid_out.root_kind;
    facts = means.facts;
    children = means.children;
    ids = l.entries;
    siblings = means.siblings;
    holds = means.holds;
    once = means.once;
    ordered = means.ordered;
  })

  -- it was judged, by so many bytes, whether the bytes are sound
  pub judged_so : (old : F) (it : MiniAllocator F g) (l : Layout) (letters : CaseTable) (tree : Tree) (len : ℕ) (sound : Bool) → IsTrue (g.honest old) → OpensAt old it
      → MemoryShows it (g.bytes old) l → BytesMeanTreeBy l HasSize letters (g.bytes old) tree → len ≡ length (g.bytes old)
      → ((letters : CaseTable) (l : Layout) (tree : Tree) → LiesSo it l → len ≡ length (bytes_of (allocator_of it))
      → BytesMeanTreeBy l HasSize letters (bytes_of (allocator_of it)) tree → IsTrue sound ↔ IsSoundContainer letters (bytes_of (allocator_of it)))
      → IsTrue sound ↔ IsSoundContainer letters (g.bytes old)
  judged_so old it l letters tree len sound is opens shows means size judged =
      let same = opens.bytes is in
      subst (λ b. IsTrue sound ↔ IsSoundContainer letters b) same (judged letters l tree (lies_so old it l is opens shows) (size ∙ ap length (sym same)) (subst (λ b. BytesMeanTreeBy l HasSize letters b tree) (sym same) means))
