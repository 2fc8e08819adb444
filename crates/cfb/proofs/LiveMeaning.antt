-- What a live file means, as those see it who read it.
use Rattle.std.proofs.Common.{take, refl, ap, sym, subst, ◌∙◌}
use Rattle.cfb_medium.specs.declared.medium.ReadMedium.{Ghosts}
use Rattle.cfb_sectors.specs.Sectors.{fat_in}
use Rattle.cfb_fat.specs.Tables.{bytes_of, fat_sectors_of, version_of}
use Rattle.cfb_mini.specs.Views.{allocator_of}
use Rattle.cfb_mini.specs.declared.mini_allocator.MiniAllocator.{MiniAllocator}
use Rattle.cfb_opening.specs.Opened as opening
use Rattle.cfb_ownership.specs.LiveInvariant.{layout_of}
use Rattle.cfb_ownership.proofs.MeansIs.{means_is}
use Rattle.cfb_tree.specs.Names.{CaseTable}
use Rattle.cfb_tree.specs.Tree.{Tree}
use Rattle.cfb_tree_edits.specs.Live.{live_of}
use Rattle.cfb_tree_edits.specs.Live as live
use Rattle.cfb_tree_edits.proofs.Resting.{keeps_rests, means_stays}
use Rattle.cfb.specs.FollowedRules.{FileKeeps, FileMeansTree}
use Rattle.cfb.specs.Streams.{FileHoldsTree}
use Rattle.cfb.specs.Views.{file_case_table, mini_of, OnlyReadsFile}
use Rattle.cfb.specs.declared.compound_file.CompoundFile.{CompoundFile}

module _ {F : Type 0} {g : Ghosts F} where
  -- memory shows the layout in which each owner has its sectors
  shows_so : (letters : CaseTable) (it : MiniAllocator F g) (tree : Tree) (m : live.LiveFileMeansTree letters it tree) → opening.MemoryShows it (bytes_of (allocator_of it)) (layout_of (live_of it) m.who m.held.root m.held.ids)
  unfolding live_of
  shows_so letters it tree m =
      let k = m.held.kept in record {
        version = refl;
        difat_sectors = refl;
        fat_sectors = refl;
        directory_sectors = sym m.owners.directory;
        mini_fat_sectors = sym m.owners.mini_fat;
        mini_stream_sectors = sym m.owners.mini_stream;
        root = k.root_found;
        fat = k.tables.same ∙ ap (λ n. take n (fat_in (version_of (allocator_of it)) (bytes_of (allocator_of it)) (fat_sectors_of (allocator_of it)))) k.tables.counted;
        mini_fat = k.mini_fat;
        entries = k.entries;
      }

  pub holds_meant : (it : CompoundFile F g) (tree : Tree) → FileMeansTree it tree → FileHoldsTree it tree
  unfolding live_of
  holds_meant it tree m = record {
    live = m.live.live;
    honest = m.live.owners.honest;
    memory = m.live.owners.memory;
    layout = layout_of (live_of (mini_of it)) m.live.who m.live.held.root m.live.held.ids;
    shows = shows_so (file_case_table it) (mini_of it) tree m.live;
    means = means_is (live_of (mini_of it)) m.live.who (file_case_table it) tree m.live.held;
  }

  pub means_kept : (old new : CompoundFile F g) (tree : Tree) → FileKeeps old new → FileMeansTree old tree → FileMeansTree new tree
  means_kept old new tree k m = record {
    sound = k.sound ∙ m.sound;
    live = subst (λ l. live.LiveFileMeansTree l (mini_of new) tree) (sym k.letters) (means_stays (mini_of old) (mini_of new) k.mini (file_case_table old) tree m.live);
    held = k.held m.held;
  }

  pub means_read : (old new : CompoundFile F g) (tree : Tree) → OnlyReadsFile old new → FileMeansTree old tree → FileMeansTree new tree
  means_read old new tree r m = means_kept old new tree (record { mini = keeps_rests (mini_of old) (mini_of new) r.mini; letters = r.letters; sound = r.sound; held = r.held }) m
