-- A package that is adopted, and why one isn't.
use Rattle.std.specs.Prelude.{◌≡◌, ◌⊎◌, ℕ, Bool, ◌<◌, ◌≤◌, true, false, length, nat_lt, List, All, IsTrue}
use Rattle.std.specs.List.{list_all}
use Rattle.cfb.specs.FollowedRules.{FileMeansTree}
use Rattle.cfb.specs.Views.{file_case_table}
use Rattle.cfb.specs.declared.compound_file.CompoundFile.{CompoundFile}
use Rattle.cfb_tree_edits.specs.LiveTreeRules.{IsFaultOrFull}
use Rattle.cfb_spec.specs.Means.{BytesMeanTree}
use Rattle.cfb_spec.specs.Sound.{IsSoundContainer}
use Rattle.cfb_medium.specs.Calls.{Reaches}
use Rattle.cfb_medium.specs.Versions.{stream_len_mask}
use Rattle.cfb_medium.specs.declared.error.Error.{Error}
use Rattle.cfb_medium.specs.declared.error.Error.TheVariants.{Full, InvalidData, InvalidInput}
use Rattle.cfb_medium.specs.declared.medium.ReadMedium.{Ghosts}
use Rattle.cfb_medium.specs.declared.version.Version.{Version}
use Rattle.cfb_tree.specs.Names.{CaseTable}
use Rattle.cfb_tree.specs.Tree.{Tree}
use Rattle.msi_spec.specs.Opening.{keeps_encoded_names}
use Rattle.msi_spec.specs.Package.{PackageContent, TreePacksPackage}
use Rattle.msi_spec.specs.Sound.{IsSoundPackage, is_free_table_name}
use Rattle.msi_pool.specs.Pool.{last_place, pool_stream, stored_of}
use Rattle.msi_pool.specs.PoolState.{length_limit}
use Rattle.msi_recounted.specs.Recounted.{CanBeAdopted, CanBeRecounted, recounted}
use Rattle.msi_stored.specs.Reading.{IsOpeningError}
use Rattle.msi_stored.specs.Shown.{IsLostPart}

-- THE BYTES HOLD THIS SOUND PACKAGE: their container is sound, and the tree that it means packs the package, which is sound
pub record BytesHoldSoundPackage (letters : CaseTable) (bytes : List ℕ) (P : PackageContent) : Type 0 where
  pub usable : keeps_encoded_names letters ≡ true
  pub container : IsSoundContainer letters bytes
  pub tree : Tree
  pub means : BytesMeanTree letters bytes tree
  pub packs : TreePacksPackage letters tree P
  pub sound : IsSoundPackage letters tree P packs

-- the medium is as honest as it was, and nothing was published
abbrev pub PublishesNothing : {M : Type 0} → (M → Bool) → (M → M → Type 0) → M → M → Type 0
PublishesNothing {M} honest continues old new = (honest new ≡ honest old) × Reaches continues old new

-- which errors there are over any medium: those of opening, or numbers of sectors are missing
abbrev pub IsAdoptError : Error → Type 0
IsAdoptError e = IsOpeningError e ⊎ (e ≡ Full)

-- what opening refuses so is refused so, or the chain of a stream breaks that opening reads, or there was a fault
abbrev pub IsRefusedAs : CaseTable → List ℕ → Error → Error → Type 0
IsRefusedAs letters bytes expected e = IsLostPart letters bytes e ⊎ (e ≡ expected)

-- a text of the pool has 2^32 - 1 bytes or more
abbrev pub HasLongText : PackageContent → Type 0
HasLongText P = list_all (λ s. nat_lt (length s.0) length_limit) (stored_of P.pool) ≡ false

-- with right counts the first stream of the pool is longer than a stream of this version can be
abbrev pub IsPoolTooLong : Version → PackageContent → Type 0
IsPoolTooLong version P = stream_len_mask version < length (pool_stream (recounted P).pool)

module _ (letters : CaseTable) (tree : Tree) (P : PackageContent) where
  -- THE PACKAGE IS ADOPTED: it can be, and the bytes hold it with right counts, sound
  pub record IsAdopted (bytes : List ℕ) : Type 0 where
    pub can : CanBeAdopted letters tree P
    pub holds : BytesHoldSoundPackage letters bytes (recounted P)

  -- WHY IT ISN'T: a fault; it can't be; or it would be too long
  abbrev pub IsUnadopted : Type 0 → Error → Type 0
  IsUnadopted long e = IsFaultOrFull e ⊎ ((e ≡ InvalidData) × (CanBeAdopted letters tree P → ⊥)) ⊎ ((e ≡ InvalidInput) × long)

  -- on the way: the package can be written with right counts, and these bytes are the first stream of its pool then
  pub record GetsPool (bytes : List ℕ) : Type 0 where
    pub usable : keeps_encoded_names letters ≡ true
    pub packs : TreePacksPackage letters tree P
    pub can : CanBeRecounted letters tree P
    pub names : All (λ t. IsTrue (is_free_table_name t.name)) P.tables
    pub named : length P.pool.places ≤ last_place true
    pub stream : bytes ≡ pool_stream (recounted P).pool

module _ {F : Type 0} {g : Ghosts F} where
  -- THE PACKAGE IN A SOUND FILE: the file means a tree that packs it, and names are compared under this case table, which leaves encoded
  -- ones alone
  pub record IsPackageIn (letters : CaseTable) (it : CompoundFile F g) (tree : Tree) (P : PackageContent) : Type 0 where
    pub compared : file_case_table it ≡ letters
    pub usable : keeps_encoded_names letters ≡ true
    pub means : FileMeansTree it tree
    pub packs : TreePacksPackage letters tree P
