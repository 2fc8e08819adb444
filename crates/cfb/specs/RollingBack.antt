-- A file that goes back to the bytes that were published last.
use Rattle.std.specs.Prelude.{◌≡◌, ℕ, true, List, IsTrue}
use Rattle.cfb_fat.specs.Tables.{bytes_of, has_failed_here, is_honest, medium_of}
use Rattle.cfb_medium.specs.declared.medium.ReadMedium.{Ghosts}
use Rattle.cfb_mini.specs.Views.{allocator_of}
use Rattle.cfb_opening.specs.Opened.{CanOpen, OpensAt}
use Rattle.cfb_sectors.specs.declared.validation.Validation.{Validation}
use Rattle.cfb.specs.Opened.{IsOpenedAs}
use Rattle.cfb.specs.Views.{file_case_table, mini_of}
use Rattle.cfb.specs.declared.compound_file.CompoundFile.{CompoundFile}

module _ {F : Type 0} {g : Ghosts F} where
  -- so it is of the bytes that an honest medium had published last
  abbrev pub OfPublished : (F → List ℕ → Type 0) → CompoundFile F g → (List ℕ → Type 0) → Type 0
  OfPublished has_published old P = IsTrue (is_honest (allocator_of (mini_of old))) → (published : List ℕ) → has_published (medium_of (allocator_of (mini_of old))) published → P published

  -- The file was opened over its medium, which has failed only where it had. It has the published bytes, and is what a reader of this kind
  -- finds who opens these: where they are sound, it means the tree that they mean.
  pub record FileRollsBack (has_published : F → List ℕ → Type 0) (validation : Validation) (old new : CompoundFile F g) : Type 0 where
    pub opens : OpensAt (medium_of (allocator_of (mini_of new))) (mini_of new)
    pub failed : g.failed (medium_of (allocator_of (mini_of new))) ≡ g.failed (medium_of (allocator_of (mini_of old)))
    pub bytes : OfPublished has_published old (λ published. bytes_of (allocator_of (mini_of new)) ≡ published)
    pub opened : OfPublished has_published old (λ published. IsOpenedAs validation (file_case_table old) published new)

  -- a reader of this kind can't open the published bytes
  pub record CannotOpen (has_published : F → List ℕ → Type 0) (validation : Validation) (old : CompoundFile F g) : Type 0 where
    pub cannot : OfPublished has_published old (λ published. CanOpen validation (file_case_table old) published → ⊥)

  -- the medium has the published bytes, but the file has failed
  pub record HasLostAll (has_published : F → List ℕ → Type 0) (old new : CompoundFile F g) : Type 0 where
    pub failed : has_failed_here (allocator_of (mini_of new)) ≡ true
    pub bytes : OfPublished has_published old (λ published. bytes_of (allocator_of (mini_of new)) ≡ published)
