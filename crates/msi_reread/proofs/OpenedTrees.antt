-- A package that is opened, or adopted, behind its texts were put in UTF-8.
use Rattle.std.proofs.Common.{◌≡◌, ◌∙◌, ℕ, Bool, List, true, ap, subst, sym}
use Rattle.std.specs.Prelude.{Err, IfOk, IsTrue, MatchResult, Ok, Option, Result}
use Rattle.cfb.specs.FollowedRules.{FileMeansTree}
use Rattle.cfb.specs.Views.{file_case_table, mini_of}
use Rattle.cfb.specs.declared.compound_file.CompoundFile.{CompoundFile}
use Rattle.cfb_chain_io.specs.ChainEffects.{KeepsFileInvariants}
use Rattle.cfb_fat.specs.Tables.{medium_of}
use Rattle.cfb_medium.specs.declared.error.Error.{Error}
use Rattle.cfb_medium.specs.declared.medium.ReadMedium.{Ghosts}
use Rattle.cfb_mini.specs.Views.{allocator_of}
use Rattle.cfb_opening.specs.Opened.{OpensAt}
use Rattle.cfb_spec.specs.Means.{BytesMeanTree}
use Rattle.cfb_tree.specs.Names.{CaseTable}
use Rattle.cfb_tree.specs.Tree.{Tree}
use Rattle.msi.specs.Opened.{file_in, IsOpenedPackage}
use Rattle.msi.specs.declared.package.Package.{Package}
use Rattle.msi_adopting.proofs.JudgedCopies.{meant_bytes}
use Rattle.msi_adopting.specs.Adopted.{IsAdopted, IsPackageIn, PublishesNothing}
use Rattle.msi_spec.specs.Opening.{keeps_encoded_names}
use Rattle.msi_spec.specs.Package.{PackageContent, TreePacksPackage}
use Rattle.msi_stored.specs.Shown.{bytes_in}
use Rattle.reread_texts.specs.declared.page.TextPage.{TextPage}
use Rattle.msi_reread.specs.Opened.{AdoptsReread, OpensReread, OpensTree}
use Rattle.msi_reread.specs.Reread.{IsReread}
use Rattle.msi_reread.specs.declared.rereading.Lacking.{Lacking}

module _ {F : Type 0} {g : Ghosts F} (letters : CaseTable) (file : CompoundFile F g) (medium : F) (is : medium ≡ medium_of (allocator_of (mini_of file))) (it : Package F g) where
  pub opens_tree : (IsTrue (g.honest medium) → IsOpenedPackage letters (g.bytes medium) it) → (tree : Tree) → FileMeansTree file tree → file_case_table file ≡ letters → OpensTree letters tree it
  opens_tree opened tree m same =
      let honest : IsTrue (g.honest medium) = subst (λ (x : F). IsTrue (g.honest x)) (sym is) m.live.owners.honest in
      record {
        bytes = bytes_in file;
        means = subst (λ l. BytesMeanTree l (bytes_in file) tree) same (meant_bytes file tree m);
        opened = subst (λ (x : F). IsOpenedPackage letters (g.bytes x) it) is (opened honest);
      }

  pub opens_left : OpensAt medium (mini_of (file_in it)) → PublishesNothing g.honest g.continues (medium_of (allocator_of (mini_of file))) (medium_of (allocator_of (mini_of (file_in it))))
  opens_left opens = subst (λ (x : F). PublishesNothing g.honest g.continues x (medium_of (allocator_of (mini_of (file_in it))))) is (opens.honest, opens.continues)

then_left : {F : Type 0} (honest : F → Bool) (continues : F → F → Type 0) (a b c : F) → PublishesNothing honest continues a b → PublishesNothing honest continues b c → PublishesNothing honest continues a c
then_left honest continues a b c h k = (k.0 ∙ h.0, λ start from. k.1 start (h.1 start from))

module _ {F : Type 0} {g : Ghosts F} where
  pub goes_left : (a b : CompoundFile F g) → KeepsFileInvariants (allocator_of (mini_of a)) (allocator_of (mini_of b)) → PublishesNothing g.honest g.continues (medium_of (allocator_of (mini_of a))) (medium_of (allocator_of (mini_of b)))
  goes_left a b goes = (goes.honest, goes.continues)

  pub left_then : (a b : CompoundFile F g) → KeepsFileInvariants (allocator_of (mini_of a)) (allocator_of (mini_of b)) → (r : Result (Package F g × Lacking) (F × Error))
      → MatchResult r (λ it. PublishesNothing g.honest g.continues (medium_of (allocator_of (mini_of b))) (medium_of (allocator_of (mini_of (file_in it.0)))))
      (λ e. PublishesNothing g.honest g.continues (medium_of (allocator_of (mini_of b))) e.0)
      → MatchResult r (λ it. PublishesNothing g.honest g.continues (medium_of (allocator_of (mini_of a))) (medium_of (allocator_of (mini_of (file_in it.0)))))
      (λ e. PublishesNothing g.honest g.continues (medium_of (allocator_of (mini_of a))) e.0)
  left_then a b goes (Ok it) told = then_left g.honest g.continues _ _ _ (goes_left a b goes) told
  left_then a b goes (Err e) told = then_left g.honest g.continues _ _ _ (goes_left a b goes) told

  module _ (letters : CaseTable) (texts summary : Option TextPage) (a b : CompoundFile F g) (named : file_case_table b ≡ file_case_table a) (same : file_case_table a ≡ letters) (tree : Tree) (lacking : Lacking)
      (did : (after : Tree) × FileMeansTree b after × IsReread (file_case_table a) texts summary tree after lacking.texts.items lacking.summary.items) where
    abbrev is_reread : IsReread letters texts summary tree did.0 lacking.texts.items lacking.summary.items
    is_reread = subst (λ l. IsReread l texts summary tree did.0 lacking.texts.items lacking.summary.items) same did.2

    pub opens_reread : (r : Result (Package F g × Lacking) (F × Error))
        → ((tree : Tree) → FileMeansTree b tree → file_case_table b ≡ letters → IfOk r (λ it. OpensTree letters tree it.0 × (it.1 ≡ lacking)))
        → IfOk r (λ it. OpensReread letters texts summary tree it.0 it.1.texts.items it.1.summary.items)
    opens_reread (Ok it) told =
        let opens = told did.0 did.1 (named ∙ same) in
        record {
          after = did.0;
          reread = subst (λ (l : Lacking). IsReread letters texts summary tree did.0 l.texts.items l.summary.items) (sym opens.1) is_reread;
          opens = opens.0;
        }
    opens_reread (Err e) told = tt

    pub adopts_reread : keeps_encoded_names letters ≡ true → (bytes : List ℕ) → ((tree : Tree) (P : PackageContent) → IsPackageIn letters b tree P → IsAdopted letters tree P bytes)
        → AdoptsReread letters texts summary tree bytes lacking.texts.items lacking.summary.items
    adopts_reread may bytes told = record {
      after = did.0;
      reread = is_reread;
      adopts = λ P packs. told did.0 P (record { compared = named ∙ same; usable = may; means = did.1; packs = packs });
    }
