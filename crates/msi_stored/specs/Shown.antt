-- The tree that a file shows where the chains of some streams break: those streams may have any bytes.
use Rattle.std.specs.Prelude.{◌≡◌, ◌⊎◌, ◌∷◌, [], false, ℕ, Contains, Err, IsTrue, List, MatchResult, Result, Some, length, map, slice_get}
use Rattle.cfb.specs.Views.{file_case_table, mini_of}
use Rattle.cfb.specs.declared.compound_file.CompoundFile.{CompoundFile}
use Rattle.cfb_fat.specs.Tables.{bytes_of, has_failed_here, is_honest}
use Rattle.cfb_spec.specs.Means.{HasBytes, Layout, BytesMeanTreeBy, directory}
use Rattle.cfb_medium.specs.Calls.{IsFaultOrInvalidInputIf}
use Rattle.cfb_medium.specs.declared.error.Error.{Error}
use Rattle.cfb_medium.specs.declared.error.Error.TheVariants.{InvalidData}
use Rattle.cfb_medium.specs.declared.medium.ReadMedium.{Ghosts}
use Rattle.cfb_mini.specs.Views.{MiniMatchesBytes, allocator_of}
use Rattle.cfb_opening.specs.Opened as opening
use Rattle.cfb_siblings.specs.Places.{LeadsTo}
use Rattle.cfb_tree.specs.Directory.{Entry, kind_stream}
use Rattle.cfb_tree.specs.Names.{CaseTable}
use Rattle.cfb_tree.specs.Tree.{Tree}
use Rattle.msi_spec.specs.Package.{data_name, pool_name, stream_name, summary_name}
use Rattle.msi_tables.specs.Schema.{columns_name, tables_name, validation_name}

-- the entry's stream has no bytes: its chain breaks ([MS-CFB] 2.6.3)
abbrev pub IsBroken : List ℕ → Layout → Entry → Type 0
IsBroken bytes l e = (content : List ℕ) → HasBytes bytes l e content → ⊥

-- the entry's stream has these bytes; or its chain breaks, and they are as many as it should have
abbrev pub HasBytesOrBreaks : List ℕ → Layout → Entry → List ℕ → Type 0
HasBytesOrBreaks bytes l e content = HasBytes bytes l e content ⊎ ((length content ≡ e.size) × IsBroken bytes l e)

-- THE BYTES SHOW THE TREE: they mean it, but that a stream whose chain breaks may have any bytes
abbrev pub ShowsTree : CaseTable → List ℕ → Tree → Type 0
ShowsTree letters bytes tree = (l : Layout) × BytesMeanTreeBy l (HasBytesOrBreaks bytes l) letters bytes tree

-- the chain of the stream under the root that has this name breaks
pub record Breaks (letters : CaseTable) (bytes name : List ℕ) : Type 0 where
  pub layout : Layout
  pub tree : Tree
  pub shows : BytesMeanTreeBy layout (HasBytesOrBreaks bytes layout) letters bytes tree
  pub id : ℕ
  pub entry : Entry
  pub leads : LeadsTo letters (directory bytes layout) 0 (name ∷ []) id
  pub found : slice_get (directory bytes layout) id ≡ Some entry
  pub of_kind : entry.kind ≡ kind_stream
  pub broken : IsBroken bytes layout entry

-- the names of the streams that opening reads: the summary's, the pool's two, and those of the three system tables
abbrev pub opening_names : List (List ℕ)
opening_names = summary_name ∷ map stream_name (pool_name ∷ data_name ∷ tables_name ∷ columns_name ∷ validation_name ∷ [])

-- the chain of one of them breaks, which is told as broken data
pub record IsBrokenPart (letters : CaseTable) (bytes : List ℕ) (e : Error) : Type 0 where
  pub error : e ≡ InvalidData
  pub name : List ℕ
  pub own : Contains opening_names name
  pub breaks : Breaks letters bytes name

-- a fault; or the chain of the stream of this name breaks
abbrev pub IsLostAt : CaseTable → List ℕ → List ℕ → Error → Type 0
IsLostAt letters bytes name e = IsFaultOrInvalidInputIf ⊥ e ⊎ ((e ≡ InvalidData) × Breaks letters bytes name)

-- a fault; or the chain of a stream breaks that opening reads
abbrev pub IsLostPart : CaseTable → List ℕ → Error → Type 0
IsLostPart letters bytes e = IsFaultOrInvalidInputIf ⊥ e ⊎ IsBrokenPart letters bytes e

-- a part that was found so; or the refusal that the definition gives, or it is lost
abbrev pub FindsPart : {A B : Type 0} → CaseTable → List ℕ → (A → Type 0) → Result B Error → Result A Error → Type 0
FindsPart letters bytes found defined result = MatchResult result found (λ e. IsLostPart letters bytes e ⊎ (defined ≡ Err e))

module _ {F : Type 0} {g : Ghosts F} where
  abbrev pub bytes_in : CompoundFile F g → List ℕ
  bytes_in it = bytes_of (allocator_of (mini_of it))

  -- a live file over an honest medium shows the tree: memory is that of the bytes, and in the layout that memory shows they show it
  pub record StoreShowsTree (it : CompoundFile F g) (tree : Tree) : Type 0 where
    pub live : has_failed_here (allocator_of (mini_of it)) ≡ false
    pub honest : IsTrue (is_honest (allocator_of (mini_of it)))
    pub memory : MiniMatchesBytes (mini_of it)
    pub layout : Layout
    pub shows : opening.MemoryShows (mini_of it) (bytes_in it) layout
    pub means : BytesMeanTreeBy layout (HasBytesOrBreaks (bytes_in it) layout) (file_case_table it) (bytes_in it) tree
