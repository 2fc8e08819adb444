-- What a copy holds once its pool was put, and whether it is sound.
use Rattle.std.proofs.Common.{◌≡◌, ◌∙◌, ◌<◌, ℕ, Bool, true, false, List, length, subst, sym}
use Rattle.std.specs.Prelude.{◌↔◌, ◌||◌, IsTrue, MatchResult, Result}
use Rattle.cfb.proofs.LiveMeaning.{holds_meant, means_read}
use Rattle.cfb.specs.FollowedRules.{FileMeansTree}
use Rattle.cfb.specs.Opened.{IsOpenedAs}
use Rattle.cfb.specs.Views.{file_case_table, mini_of, sound_of, OnlyReadsFile}
use Rattle.cfb.specs.declared.compound_file.CompoundFile.{CompoundFile}
use Rattle.cfb_copying.specs.Copied.{HoldsCopy}
use Rattle.cfb_fat.specs.Tables.{medium_of, version_of, IsJustifiedBySectors}
use Rattle.cfb_tree_edits.specs.Live.{live_of}
use Rattle.cfb_spec.proofs.OneTree.{tree_unique, version_unique}
use Rattle.cfb_spec.specs.Means.{BytesMeanTree}
use Rattle.cfb_spec.specs.Sound.{IsSoundContainer}
use Rattle.cfb_medium.specs.Calls.{IsJustifiedError, IsJustifiedSince}
use Rattle.cfb_medium.specs.Versions.{stream_len_mask}
use Rattle.cfb_medium.specs.declared.error.Error.{Error}
use Rattle.cfb_medium.specs.declared.medium.ReadMedium.{Ghosts}
use Rattle.cfb_medium.specs.declared.version.Version.{Version}
use Rattle.cfb_mini.specs.Views.{allocator_of}
use Rattle.cfb_opening.specs.Opened.{OpensAt}
use Rattle.cfb_chain_io.specs.ChainEffects.{KeepsFileInvariants}
use Rattle.cfb_ownership.proofs.SoundIs.{sound_is}
use Rattle.cfb_ownership.specs.LiveInvariant.{layout_of}
use Rattle.cfb_sectors.specs.declared.validation.Validation.TheVariants.{Permissive}
use Rattle.cfb_tree.specs.Names.{CaseTable}
use Rattle.cfb_tree.specs.Tree.{Tree}
use Rattle.msi_spec.proofs.PacksOnce.{packs_once}
use Rattle.msi_spec.specs.Opening.{keeps_encoded_names}
use Rattle.msi_spec.specs.Package.{PackageContent, TreePacksPackage}
use Rattle.msi_spec.specs.Sound.{IsSoundPackage}
use Rattle.msi_parts.specs.Parts.{IsSoundIn}
use Rattle.msi_recounted.proofs.Adopted.{adopted, packed, sound_before}
use Rattle.msi_recounted.specs.Recounted.{CanBeAdopted, GotCounts, recounted}
use Rattle.msi_stored.specs.Shown.{bytes_in}
use Rattle.msi_streams.specs.Writing.{most_bytes}
use Rattle.msi_adopting.specs.InPlace.{HoldSomePackage}
use Rattle.msi_adopting.specs.Adopted.{GetsPool, PublishesNothing, IsAdopted, IsUnadopted}

module _ {F : Type 0} {g : Ghosts F} where
  pub sound_bytes : (it : CompoundFile F g) (tree : Tree) → FileMeansTree it tree → IsSoundContainer (file_case_table it) (bytes_in it)
  unfolding live_of
  sound_bytes it tree m = (layout_of (live_of (mini_of it)) m.live.who m.live.held.root m.live.held.ids, tree, sound_is (live_of (mini_of it)) m.live.who (file_case_table it) tree m.live.held)

  pub meant_bytes : (it : CompoundFile F g) (tree : Tree) → FileMeansTree it tree → BytesMeanTree (file_case_table it) (bytes_in it) tree
  meant_bytes it tree m = let h = holds_meant it tree m in (h.layout, h.means)

  -- what was judged to be sound holds a sound package
  pub some_sound : (letters : CaseTable) (mid new : CompoundFile F g) → file_case_table mid ≡ letters → keeps_encoded_names letters ≡ true → (after : Tree) → FileMeansTree mid after
      → IsSoundIn (file_case_table mid) after (sound_of mid) → OnlyReadsFile mid new → HoldSomePackage letters (bytes_in new)
  some_sound letters mid new same may after m judged rests =
      let so : IsSoundIn letters after (sound_of mid) = subst (λ l. IsSoundIn l after (sound_of mid)) same judged in
      let now = means_read mid new after rests m in
      let named : file_case_table new ≡ letters = rests.letters ∙ same in (
        so.1,
        record {
          usable = may;
          container = subst (λ l. IsSoundContainer l (bytes_in new)) named (sound_bytes new after now);
          tree = after;
          means = subst (λ l. BytesMeanTree l (bytes_in new) after) named (meant_bytes new after now);
          packs = so.2;
          sound = so.3;
        },
      )

-- a package of the tree, which is sound
abbrev PacksSound : CaseTable → Tree → PackageContent → Type 0
PacksSound letters tree P = (p : TreePacksPackage letters tree P) × IsSoundPackage letters tree P p

module _ {F : Type 0} {g : Ghosts F} (letters : CaseTable) (tree : Tree) (P : PackageContent) (bytes : List ℕ) (gets : GetsPool letters tree P bytes) (mid : CompoundFile F g) (same : file_case_table mid ≡ letters)
    (after : Tree) (m : FileMeansTree mid after) (got : GotCounts letters tree P after) where
  pub packs_then : TreePacksPackage letters after (recounted P)
  packs_then = packed letters tree after P gets.packs gets.can got

  pub packs_there : TreePacksPackage (file_case_table mid) after (recounted P)
  packs_there = subst (λ l. TreePacksPackage l after (recounted P)) (sym same) packs_then

  module _ (is : Bool) (judged : IsTrue is ↔ IsSoundIn (file_case_table mid) after (sound_of mid)) where
    pub judged_yes : is ≡ true → (new : CompoundFile F g) → OnlyReadsFile mid new → IsAdopted letters tree P (bytes_in new)
    judged_yes true_is new rests =
        let so : IsSoundIn letters after (sound_of mid) = subst (λ l. IsSoundIn l after (sound_of mid)) same (judged.0 true_is) in
        let one : so.1 ≡ recounted P = packs_once letters after so.1 (recounted P) so.2 packs_then in
        let both : PacksSound letters after (recounted P) = subst (PacksSound letters after) one (so.2, so.3) in
        let now = means_read mid new after rests m in
        let named : file_case_table new ≡ letters = rests.letters ∙ same in
        record {
          can = sound_before letters tree after P gets.packs gets.can got both.0 both.1 gets.named;
          holds = record {
            usable = gets.usable;
            container = subst (λ l. IsSoundContainer l (bytes_in new)) named (sound_bytes new after now);
            tree = after;
            means = subst (λ l. BytesMeanTree l (bytes_in new) after) named (meant_bytes new after now);
            packs = both.0;
            sound = both.1;
          };
        }

    pub judged_no : is ≡ false → CanBeAdopted letters tree P → ⊥
    judged_no false_is can =
        let both = adopted letters tree after P gets.packs can got in
        let there : PacksSound (file_case_table mid) after (recounted P) = subst (λ l. PacksSound l after (recounted P)) (sym same) both in
        let true_is : is ≡ true = judged.1 (m.sound, recounted P, there.0, there.1) in
        let never : true ≡ false = sym true_is ∙ false_is in cc

-- ---- a copy that was opened

module _ {F : Type 0} {g : Ghosts F} (medium : F) (it : CompoundFile F g) (opens : OpensAt medium (mini_of it)) where
  -- the file means the tree, and is of the copy's version
  copy_means : (letters : CaseTable) → file_case_table it ≡ letters → IsTrue (g.honest medium) → IsOpenedAs Permissive letters (g.bytes medium) it → (version : Version) (tree : Tree)
      → HoldsCopy version letters (g.bytes medium) tree → FileMeansTree it tree × (version_of (allocator_of (mini_of it)) ≡ version)
  copy_means letters named honest opened version tree copy =
      let s = copy.tight.sound in
      let meant = opened.means (opened.sound.1 (copy.tight.layout, tree, s)) in
      let there : BytesMeanTree letters (g.bytes medium) meant.0 =
      subst (λ b. BytesMeanTree letters b meant.0) (opens.bytes honest) (subst (λ l. BytesMeanTree l (bytes_in it) meant.0) named (meant_bytes it meant.0 meant.1)) in
      let means : BytesMeanTree letters (g.bytes medium) tree = (copy.tight.layout, s.means) in (
        subst (λ t. FileMeansTree it t) (tree_unique letters (g.bytes medium) meant.0 tree there means) meant.1,
        opened.opened.shows.version ∙ version_unique opened.layout.version version _ opened.opened.means.laid_out.header.for_version copy.header.for_version,
      )

  -- what was told of the file is told of the copy
  pub copy_told : {X : Type 0} (letters : CaseTable) → file_case_table it ≡ letters → IsTrue (g.honest medium) → IsOpenedAs Permissive letters (g.bytes medium) it → (version : Version) (tree : Tree)
      → HoldsCopy version letters (g.bytes medium) tree → (P : PackageContent) (pool : List ℕ) → GetsPool letters tree P pool → (new : CompoundFile F g) (r : Result X Error)
      → ((tree : Tree) (P : PackageContent) → FileMeansTree it tree → GetsPool (file_case_table it) tree P pool
      → MatchResult r (λ done. IsAdopted (file_case_table it) tree P (bytes_in new)) (IsUnadopted (file_case_table it) tree P (most_bytes it < length pool)))
      → MatchResult r (λ done. IsAdopted letters tree P (bytes_in new)) (IsUnadopted letters tree P (stream_len_mask version < length pool))
  copy_told letters named honest opened version tree copy P pool gets new r told =
      let means = copy_means letters named honest opened version tree copy in
      subst (λ v. MatchResult r (λ done. IsAdopted letters tree P (bytes_in new)) (IsUnadopted letters tree P (stream_len_mask v < length pool))) means.1
      (subst (λ l. MatchResult r (λ done. IsAdopted l tree P (bytes_in new)) (IsUnadopted l tree P (most_bytes it < length pool))) named
      (told tree P means.0 (subst (λ l. GetsPool l tree P pool) (sym named) gets)))

  pub goes_from : (b : CompoundFile F g) → KeepsFileInvariants (allocator_of (mini_of it)) (allocator_of (mini_of b)) → PublishesNothing g.honest g.continues medium (medium_of (allocator_of (mini_of b)))
  goes_from b goes = (goes.honest ∙ opens.honest, λ start from. goes.continues start (opens.continues start from))

  pub since_opened : (b : CompoundFile F g) (e : Error) → IsJustifiedBySectors (allocator_of (mini_of it)) (allocator_of (mini_of b)) e
      → IsJustifiedSince g.continues g.failures g.failed medium (medium_of (allocator_of (mini_of b))) e
  since_opened b e cause = λ start from.
      subst (λ f. IsJustifiedError g.failures (λ m. f || g.failed m) start (medium_of (allocator_of (mini_of b))) e) opens.live (cause start (opens.continues start from))
