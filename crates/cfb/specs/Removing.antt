-- What a stream that was removed leaves ([MS-CFB] 2.3, 2.4).
use Rattle.std.specs.Prelude.{ℕ, ◌<◌, ◌≤◌, List}
use Rattle.cfb_chains.specs.Changes.{HaveEntry}
use Rattle.cfb_tree_edits.specs.Freeing.{AreGivenUp}
use Rattle.cfb_medium.specs.declared.medium.ReadMedium.{Ghosts}
use Rattle.cfb_mini.specs.Views.{mini_fat_of}
use Rattle.cfb_sectors.specs.Header.{mini_cutoff}
use Rattle.cfb_sectors.specs.Sectors.{free}
use Rattle.cfb_stream_reads.specs.Streams.{StreamLiesIn}
use Rattle.cfb_tree.specs.Directory.{Entry}
use Rattle.cfb.specs.Streams.{IsStreamAt}
use Rattle.cfb.specs.Views.{mini_of}
use Rattle.cfb.specs.declared.compound_file.CompoundFile.{CompoundFile}

module _ {F : Type 0} {g : Ghosts F} where
  -- the path led to a stream; the mini sectors in which it lay are free, or of its sectors none is in use, but where the directory has it
  pub record GivesUpStream (old new : CompoundFile F g) (text : List ℕ) : Type 0 where
    pub entry : Entry
    pub at_path : IsStreamAt old text entry
    pub short : (minis : List ℕ) → StreamLiesIn (mini_of old) entry.start entry.size minis → entry.size < mini_cutoff → HaveEntry free (mini_fat_of (mini_of new)) minis
    pub long : (sectors : List ℕ) → StreamLiesIn (mini_of old) entry.start entry.size sectors → mini_cutoff ≤ entry.size → AreGivenUp sectors (mini_of new)
