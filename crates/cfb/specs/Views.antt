-- What a `CompoundFile` shows.
use Rattle.std.specs.Prelude.{◌≡◌, ℕ, false, Bool, Option, Some, None}
use Rattle.cfb_directory.specs.Views.{entries_held}
use Rattle.cfb_entries.specs.Rules.{EntriesHoldSizes}
use Rattle.cfb_fat.specs.Tables.{has_failed_here}
use Rattle.cfb_spec.specs.TreeRules.{Answer, yes, Call, tree_step}
use Rattle.cfb_medium.specs.declared.medium.ReadMedium.{Ghosts}
use Rattle.cfb_mini.specs.Views as mini
use Rattle.cfb_mini.specs.declared.mini_allocator.MiniAllocator.{MiniAllocator}
use Rattle.cfb_sectors.specs.declared.validation.Validation.{Validation}
use Rattle.cfb_stream_reads.specs.Content.{most_of}
use Rattle.cfb_stream_reads.specs.declared.ahead.ReadAhead.{ReadAhead}
use Rattle.cfb_stream_reads.specs.declared.opening.StreamLinks.{StreamLinks}
use Rattle.cfb_stream_reads.specs.declared.opening.StreamLinks.TheVariants.{Long, Short}
use Rattle.cfb_stream_writes.specs.Streams.{AreLinksOf}
use Rattle.cfb_tree.specs.CaseTableViews as letter
use Rattle.cfb_tree.specs.Names.{CaseTable}
use Rattle.cfb_tree.specs.Paths.{Path}
use Rattle.cfb_tree.specs.Tree.{Tree}
use Rattle.cfb.specs.declared.compound_file.CompoundFile.{CompoundFile}

-- yes or no: a path above the root is a no
abbrev pub said_at : CaseTable → Tree → (Path → Call) → Option Path → Answer
said_at letters tree call None = yes false
said_at letters tree call (Some path) = (tree_step letters tree (call path)).1

module _ {F : Type 0} {g : Ghosts F} where
  -- the layer below
  abbrev pub mini_of : CompoundFile F g → MiniAllocator F g
  mini_of it = it.mini

  -- the case table under which names are compared ([MS-CFB] 2.6.4)
  abbrev pub file_case_table : CompoundFile F g → CaseTable
  file_case_table it = letter.case_table_of it.letters

  -- as which reader it was opened
  abbrev pub validation_of : CompoundFile F g → Validation
  validation_of it = it.validation

  -- whether it was judged to be sound
  abbrev pub sound_of : CompoundFile F g → Bool
  sound_of it = it.is_sound

  -- no fault has left it in a state in which every call is refused
  abbrev pub IsLive : CompoundFile F g → Type 0
  IsLive it = has_failed_here (mini.allocator_of (mini_of it)) ≡ false

  -- its entries hold the tree, of whose streams the sizes alone are known ([MS-CFB] 2.6)
  abbrev pub FileShowsTree : CompoundFile F g → Tree → Type 0
  FileShowsTree it tree = EntriesHoldSizes (file_case_table it) (entries_held (mini.directory_of (mini_of it))) tree

  -- the sectors of the stream that is read, and its bytes that were read ahead
  abbrev pub links_held : CompoundFile F g → StreamLinks
  links_held it = it.links

  abbrev pub ahead_held : CompoundFile F g → ReadAhead
  ahead_held it = it.ahead

  -- the entry whose stream they are known to be of
  abbrev pub stream_known : CompoundFile F g → Option ℕ
  stream_known it = it.stream_id

  -- links that are known to be of an entry's stream are so; of mini sectors nothing is said
  abbrev pub AreHeldFor : Option ℕ → StreamLinks → MiniAllocator F g → Type 0
  AreHeldFor None links it = Unit {0}
  AreHeldFor (Some id) (Short minis) it = Unit {0}
  AreHeldFor (Some id) (Long links) it = AreLinksOf id (Long links) it

  abbrev pub HoldsLinks : CompoundFile F g → Type 0
  HoldsLinks it = AreHeldFor (stream_known it) (links_held it) (mini_of it)

  -- so many bytes of a stream it reads ahead at most
  abbrev pub most_ahead_of : CompoundFile F g → ℕ
  most_ahead_of it = most_of (ahead_held it)

  -- it was only read: of its layers, case table, reader and soundness all is as it was, and how many bytes it reads ahead; links that are
  -- known to be a stream's are so still
  pub record OnlyReadsFile (old new : CompoundFile F g) : Type 0 where
    pub mini : mini.OnlyReadsMini (mini_of old) (mini_of new)
    pub letters : file_case_table new ≡ file_case_table old
    pub validation : validation_of new ≡ validation_of old
    pub sound : sound_of new ≡ sound_of old
    pub most : most_ahead_of new ≡ most_ahead_of old
    pub held : HoldsLinks old → HoldsLinks new
