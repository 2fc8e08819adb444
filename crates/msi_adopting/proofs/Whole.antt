-- The steps of adopting a package, one after the other.
use Rattle.std.proofs.Common.{◌≡◌, ◌∙◌, ◌⊎◌, ◌<◌, ℕ, Bool, true, false, List, ap, inl, inr, length, refl, subst, sym}
use Rattle.std.specs.Prelude.{Err, IfErr, IfOk, MatchResult, Ok, Result}
use Rattle.cfb.proofs.LiveMeaning.{holds_meant, means_read}
use Rattle.cfb.specs.FollowedRules.{CopiesFile, FileMeansTree}
use Rattle.cfb.specs.Streams.{FileHoldsTree}
use Rattle.cfb.specs.Views.{file_case_table, mini_of, OnlyReadsFile}
use Rattle.cfb.specs.declared.compound_file.CompoundFile.{CompoundFile}
use Rattle.cfb_copying.specs.Copied.{HoldsCopy}
use Rattle.cfb_fat.specs.Tables.{version_of}
use Rattle.cfb_medium.specs.Calls.{Reaches}
use Rattle.cfb_medium.specs.Versions.{stream_len_mask}
use Rattle.cfb_medium.specs.declared.error.Error.{Error}
use Rattle.cfb_medium.specs.declared.medium.ReadMedium.{Ghosts}
use Rattle.cfb_medium.specs.declared.version.Version.{Version}
use Rattle.cfb_mini.specs.Views.{allocator_of}
use Rattle.cfb_tree.specs.Names.{CaseTable}
use Rattle.cfb_tree.specs.Tree.{Tree}
use Rattle.msi_spec.specs.Opening.{keeps_encoded_names}
use Rattle.msi_spec.specs.Package.{PackageContent, TreePacksPackage}
use Rattle.msi_adopting.specs.Adopted.{GetsPool, PublishesNothing, HasLongText, IsPackageIn, IsPoolTooLong, IsUnadopted}

-- what is answered of both, by parts
pub match_ok : {X E : Type 0} (A : X → Type 0) (B : E → Type 0) (r : Result X E) → MatchResult r A B → IfOk r A
match_ok A B (Ok x) told = told
match_ok A B (Err e) told = tt

-- a file has failed, or hasn't
pub by_failed : {A : Type 0} (failed : Bool) → (failed ≡ true → A) → (failed ≡ false → A) → A
by_failed true one other = one refl
by_failed false one other = other refl

-- the medium went on from an earlier one
pub left_then : {M : Type 0} (honest : M → Bool) (continues : M → M → Type 0) (a b : M) → honest b ≡ honest a → Reaches continues a b → (r : Result M (M × Error))
    → MatchResult r (PublishesNothing honest continues b) (λ e. PublishesNothing honest continues b e.0) → MatchResult r (PublishesNothing honest continues a) (λ e. PublishesNothing honest continues a e.0)
left_then honest continues a b same extends (Ok m) left = (left.0 ∙ same, λ start from. left.1 start (extends start from))
left_then honest continues a b same extends (Err e) left = (left.0 ∙ same, λ start from. left.1 start (extends start from))

module _ (letters : CaseTable) (tree : Tree) (P : PackageContent) where
  pub longer : (A B : Type 0) (e : Error) → (A → B) → IsUnadopted letters tree P A e → IsUnadopted letters tree P B e
  longer A B e more (inl fault) = inl fault
  longer A B e more (inr (inl rule)) = inr (inl rule)
  longer A B e more (inr (inr (is, long))) = inr (inr (is, more long))

  pub refused_long : {M : Type 0} (version : Version) (pool : List ℕ) → GetsPool letters tree P pool → (A : M → Type 0) (r : Result M (M × Error))
      → MatchResult r A (λ e. IsUnadopted letters tree P (stream_len_mask version < length pool) e.1) → IfErr r (λ e. IsUnadopted letters tree P (HasLongText P ⊎ IsPoolTooLong version P) e.1)
  refused_long version pool gets A (Ok m) told = tt
  refused_long version pool gets A (Err e) told =
      longer (stream_len_mask version < length pool) (HasLongText P ⊎ IsPoolTooLong version P) e.1 (λ long. inr (subst (λ (b : List ℕ). stream_len_mask version < length b) gets.stream long)) told

module _ {S : Type 0} {s : Ghosts S} (a : CompoundFile S s) (letters : CaseTable) (tree : Tree) (P : PackageContent) (is : IsPackageIn letters a tree P) where
  pub holds : FileHoldsTree a tree
  holds = holds_meant a tree is.means

  pub may_here : keeps_encoded_names (file_case_table a) ≡ true
  may_here = ap keeps_encoded_names is.compared ∙ is.usable

  pub packs_here : TreePacksPackage (file_case_table a) tree P
  packs_here = subst (λ l. TreePacksPackage l tree P) (sym is.compared) is.packs

  -- a refusal before the copy is made
  pub first_refused : (B : Type 0) (e : Error) → IsUnadopted (file_case_table a) tree P (HasLongText P) e → IsUnadopted letters tree P (HasLongText P ⊎ B) e
  first_refused B e told =
      longer letters tree P (HasLongText P) (HasLongText P ⊎ B) e (λ long. inl long) (subst (λ l. IsUnadopted l tree P (HasLongText P) e) is.compared told)

  pub gets_here : (items pool : List ℕ) → pool ≡ items → GetsPool (file_case_table a) tree P items → GetsPool letters tree P pool
  gets_here items pool same gets = subst (λ b. GetsPool letters tree P b) (sym same) (subst (λ l. GetsPool l tree P items) is.compared gets)

  module _ (m : CompoundFile S s) (rests : OnlyReadsFile a m) where
    pub means_here : FileMeansTree m tree
    means_here = means_read a m tree rests is.means

    pub copy_here : (bytes : List ℕ) → CopiesFile m tree bytes → HoldsCopy (version_of (allocator_of (mini_of a))) letters bytes tree
    copy_here bytes copy =
        subst (λ v. HoldsCopy v letters bytes tree) rests.mini.directory.allocator.sectors.version
        (subst (λ l. HoldsCopy (version_of (allocator_of (mini_of m))) l bytes tree) (rests.letters ∙ is.compared) copy.holds)
