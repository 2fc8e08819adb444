-- A file that was rolled back.
use Rattle.std.proofs.Common.{◌≡◌, ap, refl, sym, subst, ◌∙◌, IsTrue}
use Rattle.cfb_medium.specs.declared.medium.ReadMedium.{Ghosts}
use Rattle.std.specs.Prelude.{ℕ, List, true}
use Rattle.cfb_fat.specs.Tables.{has_failed_here, medium_of}
use Rattle.cfb_mini.specs.Views.{allocator_of}
use Rattle.cfb_opening.specs.Opened.{CanOpen, OpensAt}
use Rattle.cfb_opening.specs.Tables.{OnlyReadsMedium}
use Rattle.cfb_sectors.specs.RollingBack as medium
use Rattle.cfb_sectors.specs.declared.validation.Validation.{Validation}
use Rattle.cfb.specs.Opened.{IsOpenedAs}
use Rattle.cfb.specs.RollingBack.{CannotOpen, HasLostAll, FileRollsBack}
use Rattle.cfb.specs.Views.{file_case_table, mini_of}
use Rattle.cfb.specs.declared.compound_file.CompoundFile.{CompoundFile}

module _ {F : Type 0} {g : Ghosts F} (has_published : F → List ℕ → Type 0) (validation : Validation) (old : CompoundFile F g) where
  -- all was read again
  pub rolls_back : (mid : F) (new : CompoundFile F g) → medium.MediumRollsBack g.honest g.bytes g.continues has_published (medium_of (allocator_of (mini_of old))) mid → OpensAt mid (mini_of new)
      → g.failed (medium_of (allocator_of (mini_of new))) ≡ g.failed (medium_of (allocator_of (mini_of old)))
      → (IsTrue (g.honest mid) → IsOpenedAs validation (file_case_table old) (g.bytes mid) new) → FileRollsBack has_published validation old new
  rolls_back mid new rolled opens failed opened = record {
    opens = record { honest = refl; continues = λ start since. since; bytes = λ _. refl; live = opens.live; memory = opens.memory; sizes = opens.sizes };
    failed = failed;
    bytes = λ honest published was. opens.bytes (subst IsTrue (sym rolled.as_honest) honest) ∙ rolled.rolled honest published was;
    opened = λ honest published was. subst (λ b. IsOpenedAs validation (file_case_table old) b new) (rolled.rolled honest published was) (opened (subst IsTrue (sym rolled.as_honest) honest));
  }

  -- it couldn't be read
  pub has_lost_all : (mid left : F) (new : CompoundFile F g) → medium.MediumRollsBack g.honest g.bytes g.continues has_published (medium_of (allocator_of (mini_of old))) mid → OnlyReadsMedium g.honest g.bytes g.continues mid left
      → medium_of (allocator_of (mini_of new)) ≡ left → has_failed_here (allocator_of (mini_of new)) ≡ true → HasLostAll has_published old new
  has_lost_all mid left new rolled read is failed = record {
    failed = failed;
    bytes = λ honest published was. ap g.bytes is ∙ read.same (subst IsTrue (sym rolled.as_honest) honest) ∙ rolled.rolled honest published was;
  }

  -- since the published bytes can't be opened
  pub cannot_open : (mid : F) → medium.MediumRollsBack g.honest g.bytes g.continues has_published (medium_of (allocator_of (mini_of old))) mid → (IsTrue (g.honest mid) → CanOpen validation (file_case_table old) (g.bytes mid) → ⊥)
      → CannotOpen has_published validation old
  cannot_open mid rolled refused = record {
    cannot = λ honest published was can. refused (subst IsTrue (sym rolled.as_honest) honest) (subst (CanOpen validation (file_case_table old)) (sym (rolled.rolled honest published was)) can);
  }
