-- A package that gets right counts where it lies.
use Rattle.std.proofs.Common.{◌≡◌, ◌∙◌, ◌⊎◌, ◌<◌, ℕ, Bool, true, false, List, ap, inl, inr, length, refl, subst, sym}
use Rattle.std.specs.Prelude.{Err, IfErr, IfOk, IsTrue, MatchResult, Ok, OnOk, Result}
use Rattle.cfb.proofs.LiveMeaning.{means_read}
use Rattle.cfb.specs.FollowedRules.{FileMeansTree}
use Rattle.cfb.specs.Opened.{IsOpenedAs}
use Rattle.cfb.specs.Views.{file_case_table, mini_of, sound_of, OnlyReadsFile}
use Rattle.cfb.specs.declared.compound_file.CompoundFile.{CompoundFile}
use Rattle.cfb_fat.specs.Tables.{version_of}
use Rattle.cfb_medium.specs.Versions.{stream_len_mask}
use Rattle.cfb_medium.specs.declared.error.Error.{Error}
use Rattle.cfb_medium.specs.declared.medium.ReadMedium.{Ghosts}
use Rattle.cfb_medium.specs.declared.version.Version.{Version}
use Rattle.cfb_mini.specs.Views.{allocator_of}
use Rattle.cfb_opening.specs.Opened.{OpensAt}
use Rattle.cfb_sectors.specs.declared.validation.Validation.TheVariants.{Permissive}
use Rattle.cfb_spec.proofs.OneTree.{tree_unique, version_unique}
use Rattle.cfb_spec.specs.Means.{BytesMeanTree}
use Rattle.cfb_spec.specs.Sound.{IsSoundContainer}
use Rattle.cfb_tree.specs.Names.{CaseTable}
use Rattle.cfb_tree.specs.Tree.{Tree}
use Rattle.msi_adopting.proofs.JudgedCopies.{meant_bytes}
use Rattle.msi_adopting.proofs.Whole.{longer}
use Rattle.msi_adopting.specs.Adopted.{GetsPool, HasLongText, IsAdopted, IsPoolTooLong, IsUnadopted}
use Rattle.msi_adopting.specs.InPlace.{BytesHoldUncounted, HoldSomePackage}
use Rattle.msi_spec.specs.Opening.{keeps_encoded_names}
use Rattle.msi_spec.specs.Package.{PackageContent, TreePacksPackage}
use Rattle.msi_stored.specs.Shown.{bytes_in}
use Rattle.msi_streams.specs.Writing.{most_bytes}

-- a Bool that isn't false
pub not_false : (b : Bool) → (b ≡ false → ⊥) → b ≡ true
not_false true isnt = refl
not_false false isnt = absurd (isnt refl)

-- the pool was counted: what is told of it is told of the package
pub told_of_pool : (letters : CaseTable) (tree : Tree) (P : PackageContent) (version : Version) (pool : List ℕ) → GetsPool letters tree P pool → (Left : Type 0) (r : Result (Unit {0}) Error)
    → MatchResult r (λ done. Left) (IsUnadopted letters tree P (stream_len_mask version < length pool))
    → MatchResult r (λ done. Left) (IsUnadopted letters tree P (HasLongText P ⊎ IsPoolTooLong version P))
told_of_pool letters tree P version pool gets Left (Ok u) told = told
told_of_pool letters tree P version pool gets Left (Err e) told =
    longer letters tree P (stream_len_mask version < length pool) (HasLongText P ⊎ IsPoolTooLong version P) e (λ long. inr (subst (λ (b : List ℕ). stream_len_mask version < length b) gets.stream long)) told

module _ {F : Type 0} {g : Ghosts F} (a mid : CompoundFile F g) (rests : OnlyReadsFile a mid) where
  -- the pool of a file that was only read is put
  pub put_told : (tree : Tree) (P : PackageContent) (items pool : List ℕ) → pool ≡ items → FileMeansTree a tree → GetsPool (file_case_table a) tree P items → (new : CompoundFile F g) (r : Result (Unit {0}) Error)
      → ((tree : Tree) (P : PackageContent) → FileMeansTree mid tree → GetsPool (file_case_table mid) tree P pool
      → MatchResult r (λ done. IsAdopted (file_case_table mid) tree P (bytes_in new)) (IsUnadopted (file_case_table mid) tree P (most_bytes mid < length pool)))
      → MatchResult r (λ done. IsAdopted (file_case_table a) tree P (bytes_in new)) (IsUnadopted (file_case_table a) tree P (HasLongText P ⊎ IsPoolTooLong (version_of (allocator_of (mini_of a))) P))
  put_told tree P items pool same m gets new r told =
      let own : GetsPool (file_case_table a) tree P pool = subst (λ b. GetsPool (file_case_table a) tree P b) (sym same) gets in
      told_of_pool (file_case_table a) tree P (version_of (allocator_of (mini_of a))) pool own (IsAdopted (file_case_table a) tree P (bytes_in new)) r
      (subst (λ v. MatchResult r (λ done. IsAdopted (file_case_table a) tree P (bytes_in new)) (IsUnadopted (file_case_table a) tree P (stream_len_mask v < length pool))) rests.mini.directory.allocator.sectors.version
      (subst (λ l. MatchResult r (λ done. IsAdopted l tree P (bytes_in new)) (IsUnadopted l tree P (most_bytes mid < length pool))) rests.letters
      (told tree P (means_read a mid tree rests m) (subst (λ l. GetsPool l tree P pool) (sym rests.letters) own))))

  pub sound_then : (new : CompoundFile F g) (r : Result (Unit {0}) Error)
      → OnOk r ((tree : Tree) → FileMeansTree mid tree → keeps_encoded_names (file_case_table mid) ≡ true → HoldSomePackage (file_case_table mid) (bytes_in new))
      → OnOk r ((tree : Tree) → FileMeansTree a tree → keeps_encoded_names (file_case_table a) ≡ true → HoldSomePackage (file_case_table a) (bytes_in new))
  sound_then new (Ok u) told = λ tree m may. subst (λ l. HoldSomePackage l (bytes_in new)) rests.letters (told tree (means_read a mid tree rests m) (ap keeps_encoded_names rests.letters ∙ may))
  sound_then new (Err e) told = tt

module _ {F : Type 0} {g : Ghosts F} (medium : F) (it : CompoundFile F g) (opens : OpensAt medium (mini_of it)) (letters : CaseTable) (named : file_case_table it ≡ letters) (honest : IsTrue (g.honest medium))
    (opened : IsOpenedAs Permissive letters (g.bytes medium) it) where
  -- the file means the tree of the bytes, and is of their version
  held_means : (tree : Tree) → IsSoundContainer letters (g.bytes medium) → (means : BytesMeanTree letters (g.bytes medium) tree) → FileMeansTree it tree × (version_of (allocator_of (mini_of it)) ≡ means.0.version)
  held_means tree container means =
      let meant = opened.means (opened.sound.1 container) in
      let there : BytesMeanTree letters (g.bytes medium) meant.0 =
      subst (λ b. BytesMeanTree letters b meant.0) (opens.bytes honest) (subst (λ l. BytesMeanTree l (bytes_in it) meant.0) named (meant_bytes it meant.0 meant.1)) in (
        subst (λ t. FileMeansTree it t) (tree_unique letters (g.bytes medium) meant.0 tree there means) meant.1,
        opened.opened.shows.version ∙ version_unique opened.layout.version means.0.version _ opened.opened.means.laid_out.header.for_version means.1.laid_out.header.for_version,
      )

  -- what was told of the file is told of the bytes
  pub held_told : (tree : Tree) (P : PackageContent) (held : BytesHoldUncounted letters (g.bytes medium) tree P) (new : CompoundFile F g) (r : Result (Unit {0}) Error)
      → ((tree : Tree) (P : PackageContent) → FileMeansTree it tree → keeps_encoded_names (file_case_table it) ≡ true → TreePacksPackage (file_case_table it) tree P
      → MatchResult r (λ done. IsAdopted (file_case_table it) tree P (bytes_in new)) (IsUnadopted (file_case_table it) tree P (HasLongText P ⊎ IsPoolTooLong (version_of (allocator_of (mini_of it))) P)))
      → MatchResult r (λ done. IsAdopted letters tree P (bytes_in new)) (IsUnadopted letters tree P (HasLongText P ⊎ IsPoolTooLong held.means.0.version P))
  held_told tree P held new r told =
      let means = held_means tree held.container held.means in
      subst (λ v. MatchResult r (λ done. IsAdopted letters tree P (bytes_in new)) (IsUnadopted letters tree P (HasLongText P ⊎ IsPoolTooLong v P))) means.1
      (subst (λ l. MatchResult r (λ done. IsAdopted l tree P (bytes_in new)) (IsUnadopted l tree P (HasLongText P ⊎ IsPoolTooLong (version_of (allocator_of (mini_of it))) P))) named
      (told tree P means.0 (ap keeps_encoded_names named ∙ held.usable) (subst (λ l. TreePacksPackage l tree P) (sym named) held.packs)))

  -- and what is sound then is so of whatever it held
  pub some_told : (sound_of it ≡ false → ⊥) → keeps_encoded_names letters ≡ true → (new : CompoundFile F g)
      → ((tree : Tree) → FileMeansTree it tree → keeps_encoded_names (file_case_table it) ≡ true → HoldSomePackage (file_case_table it) (bytes_in new)) → HoldSomePackage letters (bytes_in new)
  some_told isnt may new told =
      let meant = opened.means (not_false (sound_of it) isnt) in
      subst (λ l. HoldSomePackage l (bytes_in new)) named (told meant.0 meant.1 (ap keeps_encoded_names named ∙ may))
