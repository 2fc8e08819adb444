-- What a call did to the package of a file, at each of its exits.
use Rattle.std.proofs.Common.{◌≡◌, ◌∙◌, true, false, Some, Option, inl, inr, refl, sym, ap, subst, ⊎_elim}
use Rattle.std.specs.Prelude.{◌⊎◌, Err, Ok, Result}
use Rattle.cfb.specs.FollowedRules.{FollowsTreeRules, FileKeeps, FileMeansTree}
use Rattle.cfb.specs.Putting.{answer_by, KeepsMeant, FilePuts, Rule}
use Rattle.cfb.specs.Views.{file_case_table, mini_of, sound_of}
use Rattle.cfb.specs.declared.compound_file.CompoundFile.{CompoundFile}
use Rattle.cfb.proofs.LiveMeaning.{means_kept}
use Rattle.cfb_entries.specs.Rules.{answer_at}
use Rattle.cfb_fat.specs.Tables.{has_failed_here}
use Rattle.cfb_spec.specs.TreeRules.{done, refused, tree_step, Call, Outcome}
use Rattle.cfb_medium.specs.declared.error.Error.{Error}
use Rattle.cfb_medium.specs.declared.error.Error.TheVariants.{Failed, InvalidData}
use Rattle.cfb_medium.specs.declared.medium.ReadMedium.{Ghosts}
use Rattle.cfb_mini.specs.Views.{allocator_of}
use Rattle.cfb_tree.specs.Names.{CaseTable}
use Rattle.cfb_tree.specs.Paths.{Path}
use Rattle.cfb_tree.specs.Tree.{Tree}
use Rattle.cfb_tree.proofs.OneContent.{Some_same}
use Rattle.msi_spec.specs.Package.{PackageContent}
use Rattle.msi_stored.specs.Changing.{ChangesStoredPackage, KeepsParts, PackageRule, StoresSoundPackage}

-- the rule on trees accepts, with a tree that stores what the rule on packages gives
pub record Accepts (rule : PackageRule) (letters : CaseTable) (tree : Tree) (P : PackageContent) (outcome : Outcome) : Type 0 where
  pub after : Tree
  pub is : outcome ≡ (after, done)
  pub next : PackageContent
  pub answered : rule P next (Ok tt)
  pub stores : StoresSoundPackage letters after next
  pub keeps : KeepsParts letters tree after

module _ {F : Type 0} {g : Ghosts F} where
  pub keeps_meant : (it : CompoundFile F g) → KeepsMeant it it
  keeps_meant it = record { means = λ tree m. m }

  -- a refusal before all rules
  abbrev pub IsFirst : CompoundFile F g → Error → Type 0
  IsFirst it e = ((e ≡ Failed) × (has_failed_here (allocator_of (mini_of it)) ≡ true))
      ⊎ ((e ≡ InvalidData) × (has_failed_here (allocator_of (mini_of it)) ≡ false) × (sound_of it ≡ false))

  -- the file may be changed
  abbrev pub IsOpen : CompoundFile F g → Type 0
  IsOpen it = (has_failed_here (allocator_of (mini_of it)) ≡ false) × (sound_of it ≡ true)

  -- a rule on the directory is one on trees, at the path of a text
  pub does_puts : (call : Path → Call) (path : Option Path) (names : Path) → path ≡ Some names → (old new : CompoundFile F g) (r : Result (Unit {0}) Error)
      → FollowsTreeRules path call r old new → FilePuts (λ letters tree path. tree_step letters tree (call path)) path r old new
  does_puts call path names at old new (Ok x) d = record {
    failed = d.failed;
    unsound = λ live unsound. (d.unsound live unsound).0;
    done = λ tree m. let is = d.done tree m in record { names = is.names; at_path = is.at_path; accepted = is.accepted; means = is.means; strays = is.strays };
    refused = tt;
    rests = tt;
    seen = d.seen;
  }
  does_puts call path names at old new (Err e) d = record {
    failed = d.failed;
    unsound = λ live unsound. (d.unsound live unsound).0;
    done = tt;
    refused = λ tree m. ⊎_elim (λ fault. inl fault) (λ rule. inr (turned tree rule.0, keeps rule.1)) (d.refused tree m);
    rests = ⊎_elim (λ failed. inl failed) (λ k. inr (keeps k)) d.rests;
    seen = d.seen;
  }
    where
      keeps : FileKeeps old new → KeepsMeant old new
      keeps k = record { means = λ tree m. means_kept old new tree k m }

      turned : (tree : Tree) → answer_at (file_case_table old) tree call path ≡ refused e → answer_by (λ letters tree path. tree_step letters tree (call path)) (file_case_table old) tree path ≡ refused e
      turned tree told =
          ap (answer_by (λ letters tree path. tree_step letters tree (call path)) (file_case_table old) tree) at
          ∙ sym (ap (answer_at (file_case_table old) tree call) at) ∙ told

  module _ (rule : PackageRule) (old : CompoundFile F g) where
    -- failed, or not sound
    pub first_refused : (e : Error) → IsFirst old e → ChangesStoredPackage {T = Unit {0}} rule (Err e) old old
    first_refused e (inl failed) = record {
      failed = λ before. ap (λ e. Err e) failed.0;
      unsound = λ live unsound. let never : true ≡ false = sym failed.1 ∙ live in absurd (cc);
      done = tt;
      refused = λ tree P m s. let never : true ≡ false = sym failed.1 ∙ m.live.live in absurd (cc);
      rests = inr (keeps_meant old);
      seen = (refl, refl, refl);
    }
    first_refused e (inr unsound) = record {
      failed = λ before. let never : true ≡ false = sym before ∙ unsound.1 in absurd (cc);
      unsound = λ live is. ap (λ e. Err e) unsound.0;
      done = tt;
      refused = λ tree P m s. let never : true ≡ false = sym m.sound ∙ unsound.2 in absurd (cc);
      rests = inr (keeps_meant old);
      seen = (refl, refl, refl);
    }

    module _ (open_file : IsOpen old) where
      was_live : {A : Type 0} → has_failed_here (allocator_of (mini_of old)) ≡ true → A
      was_live failed = let never : true ≡ false = sym failed ∙ open_file.0 in absurd (cc)

      was_sound : {A : Type 0} → sound_of old ≡ false → A
      was_sound unsound = let never : true ≡ false = sym open_file.1 ∙ unsound in absurd (cc)

      -- a refusal by rule, and nothing was changed
      pub rule_refused : (e : Error) → ((tree : Tree) (P : PackageContent) → FileMeansTree old tree → StoresSoundPackage (file_case_table old) tree P → rule P P (Err e)) → ChangesStoredPackage {T = Unit {0}} rule (Err e) old old
      rule_refused e refuses = record {
        failed = λ failed. was_live failed;
        unsound = λ live unsound. was_sound unsound;
        done = tt;
        refused = λ tree P m s. inr (refuses tree P m s, keeps_meant old);
        rests = inr (keeps_meant old);
        seen = (refl, refl, refl);
      }

      -- nothing had to be changed
      pub rule_rests : ((tree : Tree) (P : PackageContent) → FileMeansTree old tree → StoresSoundPackage (file_case_table old) tree P → rule P P (Ok tt)) → ChangesStoredPackage {T = Unit {0}} rule (Ok tt) old old
      rule_rests accepts = record {
        failed = λ failed. was_live failed;
        unsound = λ live unsound. was_sound unsound;
        done = λ tree P m s. record { next = P; after = tree; answered = accepts tree P m s; means = m; stores = s; keeps = record { pool = refl; pool_data = refl; summary = refl } };
        refused = tt;
        rests = tt;
        seen = (refl, refl, refl);
      }

    -- one call on the container, which the rule on trees accepts
    pub rule_done : (on_trees : Rule) (path : Option Path) (names : Path) → path ≡ Some names → (new : CompoundFile F g) (r : Result (Unit {0}) Error) → FilePuts on_trees path r old new
        → ((tree : Tree) (P : PackageContent) → FileMeansTree old tree → StoresSoundPackage (file_case_table old) tree P → Accepts rule (file_case_table old) tree P (on_trees (file_case_table old) tree names)) → ChangesStoredPackage rule r old new
    rule_done on_trees path names at new (Ok x) p accepts = record {
      failed = p.failed;
      unsound = p.unsound;
      done = λ tree P m s.
          let a = accepts tree P m s in
          let d = p.done tree m in
          let same : d.names ≡ names = Some_same (sym d.at_path ∙ at) in
          let is : (on_trees (file_case_table old) tree d.names).0 ≡ a.after = ap (λ (o : Outcome). o.0) (ap (on_trees (file_case_table old) tree) same ∙ a.is) in
          record { next = a.next; after = a.after; answered = a.answered; means = subst (FileMeansTree new) is d.means; stores = a.stores; keeps = a.keeps };
      refused = tt;
      rests = tt;
      seen = p.seen;
    }
    rule_done on_trees path names at new (Err e) p accepts = record {
      failed = p.failed;
      unsound = p.unsound;
      done = tt;
      refused = λ tree P m s. ⊎_elim (λ fault. inl fault)
          (λ told.
          let a = accepts tree P m s in
          let never : done ≡ refused e = sym (ap (λ (o : Outcome). o.1) a.is) ∙ sym (ap (answer_by on_trees (file_case_table old) tree) at) ∙ told.0 in absurd (cc))
          (p.refused tree m);
      rests = p.rests;
      seen = p.seen;
    }
