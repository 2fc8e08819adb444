-- A package that was copied, at each exit.
use Rattle.std.proofs.Common.{◌≡◌, ◌∙◌, List, false, inl, inr, refl, subst, sym, true, ℕ}
use Rattle.std.specs.Prelude.{Err, IfErr, Ok, OnOk, Result}
use Rattle.cfb.specs.FollowedRules.{CopiesFile, FileMeansTree}
use Rattle.cfb.specs.Views.{OnlyReadsFile, file_case_table, mini_of}
use Rattle.cfb_copying.specs.Copied.{HoldsCopy}
use Rattle.cfb_fat.specs.Tables.{IsJustifiedBySectors, version_of}
use Rattle.cfb_tree_edits.specs.LiveTreeRules.{IsFaultOrFull}
use Rattle.cfb_medium.specs.declared.error.Error.{Error}
use Rattle.cfb_medium.specs.declared.error.Error.TheVariants.{Failed, InvalidData}
use Rattle.cfb_medium.specs.declared.medium.ReadMedium.{Ghosts}
use Rattle.cfb_medium.specs.declared.version.Version.{Version}
use Rattle.cfb_mini.specs.Views.{allocator_of}
use Rattle.cfb_tree.specs.Names.{CaseTable}
use Rattle.cfb_tree.specs.Tree.{Tree}
use Rattle.msi_spec.specs.Opening.{keeps_encoded_names}
use Rattle.msi_spec.specs.Package.{PackageContent}
use Rattle.msi_spec.specs.Split.{TreeStoresRest}
use Rattle.msi.proofs.Changed.{DifferByFile}
use Rattle.msi.proofs.Flushed.{keeps_flushed, written_yet}
use Rattle.msi.proofs.SavedSound.{PacksSound}
use Rattle.msi.specs.Changing.{PackageIsWritten, PackageWrites, failed_in}
use Rattle.msi.specs.Committing.{BytesHoldRest}
use Rattle.msi.specs.Copying.{HoldsPackageCopy, PackageCopies}
use Rattle.msi.specs.Opened.{file_in, pool_in, sound_in}
use Rattle.msi.specs.declared.package.Package.{Package}

-- a refusal of a package that isn't sound needs no fault
pub unsound_cause : {F : Type 0} {g : Ghosts F} (it : Package F g) → IsJustifiedBySectors (allocator_of (mini_of (file_in it))) (allocator_of (mini_of (file_in it))) InvalidData
unsound_cause it = λ start from. record { device = λ wrong. absurd (cc); earlier = λ wrong. absurd (cc) }

-- a copy of a file that packs a sound package holds it
copy_holds : (version : Version) (letters : CaseTable) (bytes : List ℕ) (P : PackageContent) (tree : Tree) → keeps_encoded_names letters ≡ true → HoldsCopy version letters bytes tree → (p : PacksSound letters tree P) → HoldsPackageCopy version letters bytes P
copy_holds version letters bytes P tree usable copy p = record {
  tree = tree;
  copy = copy;
  holds = record {
    usable = usable;
    container = (copy.tight.layout, tree, copy.tight.sound);
    tree = tree;
    means = (copy.tight.layout, copy.tight.sound.means);
    packs = p.packs;
    sound = p.sound;
  };
}

-- and one of a file that stores a package holds all of it but its texts
copy_rest : (version : Version) (letters : CaseTable) (bytes : List ℕ) (P : PackageContent) (tree : Tree) → keeps_encoded_names letters ≡ true → HoldsCopy version letters bytes tree → TreeStoresRest letters tree P → BytesHoldRest letters bytes P
copy_rest version letters bytes P tree usable copy stores =
    record { usable = usable; container = (copy.tight.layout, tree, copy.tight.sound); tree = tree; means = (copy.tight.layout, copy.tight.sound.means); stores = stores }

module _ {F : Type 0} {g : Ghosts F} (honest : Type 0) (bytes : List ℕ) where
  pub failed_copies : (it : Package F g) → failed_in it ≡ true → PackageCopies honest bytes (Err Failed) it it
  failed_copies it is = record {
    failed = λ yes. (refl, refl);
    unsound = λ no wrong. let never : true ≡ false = sym is ∙ no in absurd (cc);
    holds = tt;
    beside = tt;
    done = tt;
    refused = λ P h sound. inl (inl tt);
    rests = inr (record { holds = λ P h. h });
    seen = (refl, refl);
  }

  pub unsound_copies : (it : Package F g) → failed_in it ≡ false → sound_in it ≡ false → PackageCopies honest bytes (Err InvalidData) it it
  unsound_copies it live wrong = record {
    failed = λ yes. let never : true ≡ false = sym yes ∙ live in absurd (cc);
    unsound = λ no is. (refl, refl);
    holds = tt;
    beside = tt;
    done = tt;
    refused = λ P h sound. let never : true ≡ false = sym sound ∙ wrong in absurd (cc);
    rests = inr (record { holds = λ P h. h });
    seen = (refl, refl);
  }

  module _ (old mid : Package F g) (live : failed_in old ≡ false) (sound : sound_in old ≡ true) where
    pub unsaved_copies : (e : Error) → PackageWrites (Err e) old mid → PackageCopies honest bytes (Err e) old mid
    unsaved_copies e s = record {
      failed = λ yes. let never : true ≡ false = sym yes ∙ live in absurd (cc);
      unsound = λ no wrong. let never : true ≡ false = sym sound ∙ wrong in absurd (cc);
      holds = tt;
      beside = tt;
      done = tt;
      refused = s.refused;
      rests = s.rests;
      seen = s.seen;
    }

    module _ (u : Unit {0}) (s : PackageWrites (Ok u) old mid) (new : Package F g) (d : DifferByFile mid new) (same : pool_in new ≡ pool_in mid) (rests : OnlyReadsFile (file_in mid) (file_in new)) where
      copied : (version_of (allocator_of (mini_of (file_in mid))) ≡ version_of (allocator_of (mini_of (file_in old))))
          → (honest → (tree : Tree) → FileMeansTree (file_in mid) tree → CopiesFile (file_in mid) tree bytes)
          → (P : PackageContent) → PackageIsWritten mid P → honest → HoldsPackageCopy (version_of (allocator_of (mini_of (file_in old)))) (file_case_table (file_in old)) bytes P
      copied version copies P saved is =
          subst (λ v. HoldsPackageCopy v (file_case_table (file_in old)) bytes P) version
          (subst (λ l. HoldsPackageCopy (version_of (allocator_of (mini_of (file_in mid)))) l bytes P) s.seen.0
          (copy_holds (version_of (allocator_of (mini_of (file_in mid)))) (file_case_table (file_in mid)) bytes P saved.tree saved.holds.usable (copies is saved.tree saved.means).holds (record { packs = saved.packs; sound = saved.sound })))

      -- the file was copied, or that was refused
      pub saved_copies : (r : Result (Unit {0}) Error) → (version_of (allocator_of (mini_of (file_in mid))) ≡ version_of (allocator_of (mini_of (file_in old))))
          → OnOk r (honest → (tree : Tree) → FileMeansTree (file_in mid) tree → CopiesFile (file_in mid) tree bytes)
          → IfErr r (λ e. (tree : Tree) → FileMeansTree (file_in mid) tree → IsFaultOrFull e) → PackageCopies honest bytes r old new
      saved_copies (Ok v) version copies refused = record {
        failed = λ yes. let never : true ≡ false = sym yes ∙ live in absurd (cc);
        unsound = λ no wrong. let never : true ≡ false = sym sound ∙ wrong in absurd (cc);
        holds = λ P h is. (keeps_flushed mid new d same rests (s.seen.1 ∙ sound)).holds P (s.holds P h is);
        beside = λ P h is so.
            let after = s.holds P h is in
            subst (λ l. BytesHoldRest l bytes P) s.seen.0
            (copy_rest (version_of (allocator_of (mini_of (file_in mid)))) (file_case_table (file_in mid)) bytes P after.tree after.usable (copies so after.tree (after.sound (s.seen.1 ∙ is)).0).holds after.stores);
        done = λ P h is fit.
            let saved = s.done P h is fit in
            (written_yet mid new d same rests (s.seen.1 ∙ sound) P saved, copied version copies P saved);
        refused = tt;
        rests = tt;
        seen = (d.letters ∙ s.seen.0, d.sound ∙ s.seen.1);
      }
      saved_copies (Err e) version copies refused = record {
        failed = λ yes. let never : true ≡ false = sym yes ∙ live in absurd (cc);
        unsound = λ no wrong. let never : true ≡ false = sym sound ∙ wrong in absurd (cc);
        holds = tt;
        beside = tt;
        done = tt;
        refused = λ P h is. let after = s.holds P h is in inl (refused after.tree (after.sound (s.seen.1 ∙ is)).0);
        rests = inr (record { holds = λ P h. (keeps_flushed mid new d same rests (s.seen.1 ∙ sound)).holds P (s.holds P h sound) });
        seen = (d.letters ∙ s.seen.0, d.sound ∙ s.seen.1);
      }
