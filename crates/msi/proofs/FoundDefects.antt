-- The defects of a file that was opened are those of its bytes.
use Rattle.std.proofs.Common.{◌≡◌, ◌∙◌, Bool, true, false, List, [], refl, sym, ap, subst, arith}
use Rattle.std.specs.Prelude.{◌↔◌, Contains, Err, IfOk, IsTrue, Ok, Result, Vec}
use Rattle.std.specs.declared.alloc.Global.{Global}
use Rattle.cfb.proofs.Holding.{holds_opened, holds_yet}
use Rattle.cfb.proofs.OpenedFiles.{crash_left_since}
use Rattle.cfb.specs.Opened.{IsOpenedAs}
use Rattle.cfb.specs.Streams.{FileHoldsTree}
use Rattle.cfb.specs.Views.{file_case_table, mini_of, sound_of, OnlyReadsFile}
use Rattle.cfb.specs.declared.compound_file.CompoundFile.{CompoundFile}
use Rattle.cfb_spec.specs.Means.{BytesMeanTree}
use Rattle.cfb_medium.specs.declared.error.Error.{Error}
use Rattle.cfb_medium.specs.declared.medium.ReadMedium.{Ghosts}
use Rattle.cfb_opening.specs.Opened.{OpensAt}
use Rattle.cfb_opening.specs.Tables.{OnlyReadsMedium}
use Rattle.cfb_sectors.specs.declared.validation.Validation.TheVariants.{Permissive}
use Rattle.cfb_tree.specs.Names.{CaseTable}
use Rattle.cfb_tree.specs.Tree.{Tree}
use Rattle.msi_soundness.specs.Defects.{AreDefects}
use Rattle.msi_soundness.specs.declared.defect.Defect.{Defect}
use Rattle.msi_soundness.specs.declared.defect.Defect.TheVariants.{Container}
use Rattle.msi_spec.specs.Opening.{keeps_encoded_names}
use Rattle.msi_parts.specs.Held.{ArePartsOfTree}
use Rattle.msi_parts.specs.Parts.{IsSoundIn}
use Rattle.msi_parts.specs.declared.parts.PackageParts.{PackageParts}
use Rattle.msi_store.proofs.ShownTrees.{shown_of_held, shown_opened}
use Rattle.msi_stored.specs.Shown.{StoreShowsTree}
use Rattle.msi.proofs.OpenedPackages.{can_open, opens_yet}
use Rattle.msi.specs.Checked.{HasDefects, IsChecked, IsMediumOf}
use Rattle.msi.specs.Opened.{IsSoundFile}

-- ---- in the file

-- what was found in the file after it was read is so of the file before
module _ {F : Type 0} {g : Ghosts F} (a b : CompoundFile F g) (rests : OnlyReadsFile a b) (parts : PackageParts)
    (shown : (tree : Tree) → StoreShowsTree a tree → keeps_encoded_names (file_case_table a) ≡ true → ArePartsOfTree (file_case_table a) tree parts) where
  listed_before : (tree : Tree) (found : List Defect) → AreDefects (file_case_table b) tree (sound_of b) parts found → AreDefects (file_case_table a) tree (sound_of a) parts found
  listed_before tree found are = subst (λ s. AreDefects (file_case_table a) tree s parts found) rests.sound (subst (λ l. AreDefects l tree (sound_of b) parts found) rests.letters are)

  none_before : (tree : Tree) (found : List Defect) → (found ≡ []) ↔ IsSoundIn (file_case_table b) tree (sound_of b) → (found ≡ []) ↔ IsSoundIn (file_case_table a) tree (sound_of a)
  none_before tree found is = subst (λ s. (found ≡ []) ↔ IsSoundIn (file_case_table a) tree s) rests.sound (subst (λ l. (found ≡ []) ↔ IsSoundIn l tree (sound_of b)) rests.letters is)

  pub checked_before : (r : Result (Vec Defect Global) Error)
      → ((tree : Tree) → FileHoldsTree b tree → IfOk r (λ found. AreDefects (file_case_table b) tree (sound_of b) parts found.items))
      → ((tree : Tree) → FileHoldsTree b tree → keeps_encoded_names (file_case_table b) ≡ true → ArePartsOfTree (file_case_table b) tree parts → IfOk r (λ found. (found.items ≡ []) ↔ IsSoundIn (file_case_table b) tree (sound_of b)))
      → (sound_of b ≡ false → IfOk r (λ found. Contains found.items Container)) → IfOk r (λ found. IsChecked a found.items)
  checked_before (Ok found) listed none unsound = record {
    parts = parts;
    shown = shown;
    listed = λ tree held. listed_before tree found.items (listed tree (holds_yet a b tree rests held));
    none = λ tree held may. none_before tree found.items (none tree (holds_yet a b tree rests held) (ap keeps_encoded_names rests.letters ∙ may)
        (subst (λ l. ArePartsOfTree l tree parts) (sym rests.letters) (shown tree (shown_of_held a tree held) may)));
    unsound = λ e. unsound (rests.sound ∙ e);
  }
  checked_before (Err e) listed none unsound = tt

-- ---- of the bytes

module _ {F : Type 0} {g : Ghosts F} (medium : F) (a : CompoundFile F g) (opens : OpensAt medium (mini_of a)) (r : Result (F × Vec Defect Global) (F × Error))
    (ok : IfOk r (λ found. IsMediumOf a found.0 × IsChecked a found.1.items)) where
  pub checked_left : IfOk r (λ found. OnlyReadsMedium g.honest g.bytes g.continues medium found.0)
  checked_left = by r ok
    where
      by : (r : Result (F × Vec Defect Global) (F × Error)) → IfOk r (λ found. IsMediumOf a found.0 × IsChecked a found.1.items) → IfOk r (λ found. OnlyReadsMedium g.honest g.bytes g.continues medium found.0)
      by (Ok found) both = let back = both.0 in
          subst (λ m. OnlyReadsMedium g.honest g.bytes g.continues medium m) (sym back.medium_is) (crash_left_since medium (mini_of back.new) (opens_yet medium a opens back.new back.rests))
      by (Err e) both = tt

  module _ (letters : CaseTable) (named : file_case_table a ≡ letters) (may : keeps_encoded_names letters ≡ true) (as_opened : IsTrue (g.honest medium) → IsOpenedAs Permissive letters (g.bytes medium) a) where
    module _ (honest : IsTrue (g.honest medium)) (found : List Defect) (is : IsChecked a found) where
      may_here : keeps_encoded_names (file_case_table a) ≡ true
      may_here = ap keeps_encoded_names named ∙ may

      held : (tree : Tree) → BytesMeanTree letters (g.bytes medium) tree → FileHoldsTree a tree
      held tree means = holds_opened Permissive letters medium a tree honest opens named (as_opened honest) means

      of_bytes : HasDefects letters (g.bytes medium) found
      of_bytes = record {
        usable = may;
        openable = can_open medium a opens letters named may honest Permissive (as_opened honest);
        parts = is.parts;
        shown = λ tree shows. subst (λ l. ArePartsOfTree l tree is.parts) named (is.shown tree (shown_opened Permissive letters medium a tree honest opens named (as_opened honest) shows) may_here);
        container = sound_of a;
        judged = (as_opened honest).sound;
        listed = λ tree means. subst (λ l. AreDefects l tree (sound_of a) is.parts found) named (is.listed tree (held tree means));
      }

      exact : (tree : Tree) → BytesMeanTree letters (g.bytes medium) tree → (found ≡ []) ↔ IsSoundIn letters tree (sound_of a)
      exact tree means = subst (λ l. (found ≡ []) ↔ IsSoundIn l tree (sound_of a)) named (is.none tree (held tree means) may_here)

      sound_to : (b : Bool) → sound_of a ≡ b → found ≡ [] → IsSoundFile letters (g.bytes medium)
      sound_to false e none = let listed = subst (λ (ds : List Defect). Contains ds Container) none (is.unsound e) in let below = listed.1 in absurd (omega (arith, below))
      sound_to true e none =
          let sound = (as_opened honest).sound.0 e in
          let tree = sound.1 in
          let means : BytesMeanTree letters (g.bytes medium) tree = (sound.0, sound.2.means) in
          let so = (exact tree means).0 none in
          (sound, tree, means, so.1, so.2, so.3)

      sound_exactly : (found ≡ []) ↔ IsSoundFile letters (g.bytes medium)
      sound_exactly = (sound_to (sound_of a) refl, λ s. (exact s.1 s.2).1 ((as_opened honest).sound.1 s.0, s.3, s.4, s.5))

    pub checked_told : IfOk r (λ found. IsTrue (g.honest medium) → HasDefects letters (g.bytes medium) found.1.items)
    checked_told = by r ok
      where
        by : (r : Result (F × Vec Defect Global) (F × Error)) → IfOk r (λ found. IsMediumOf a found.0 × IsChecked a found.1.items)
            → IfOk r (λ found. IsTrue (g.honest medium) → HasDefects letters (g.bytes medium) found.1.items)
        by (Ok found) both = λ honest. of_bytes honest found.1.items both.1
        by (Err e) both = tt

    pub checked_none : IfOk r (λ found. IsTrue (g.honest medium) → (found.1.items ≡ []) ↔ IsSoundFile letters (g.bytes medium))
    checked_none = by r ok
      where
        by : (r : Result (F × Vec Defect Global) (F × Error)) → IfOk r (λ found. IsMediumOf a found.0 × IsChecked a found.1.items)
            → IfOk r (λ found. IsTrue (g.honest medium) → (found.1.items ≡ []) ↔ IsSoundFile letters (g.bytes medium))
        by (Ok found) both = λ honest. sound_exactly honest found.1.items both.1
        by (Err e) both = tt
