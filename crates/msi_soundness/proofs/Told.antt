-- What the parts of the judge tell, put together.
use Rattle.std.proofs.Common.{◌≡◌, ◌∙◌, Bool, true, false, List, [], refl, sym, ap, inl, inr, Some, None}
use Rattle.std.specs.Prelude.{◌↔◌, ◌⊎◌, not, All, Err, IfOk, IsTrue, Ok, Result, is_some, unwrap_or}
use Rattle.cfb_medium.specs.Calls.{IsFaultOrInvalidInputIf}
use Rattle.cfb_medium.specs.declared.error.Error.{Error}
use Rattle.cfb_medium.specs.declared.error.Error.TheVariants.{InvalidData}
use Rattle.cfb_tree.specs.Names.{CaseTable}
use Rattle.cfb_tree.specs.Tree.{Tree}
use Rattle.msi_spec.specs.Opening.{keeps_encoded_names}
use Rattle.msi_spec.specs.Package.{objects}
use Rattle.msi_parts.proofs.Judging.{judged_sound, sound_judged}
use Rattle.msi_parts.specs.Held.{ArePartsOfTree, AreWell, headings_in}
use Rattle.msi_parts.specs.Judged.{AreSoundRows, IsJudged, is_in_place, list_system}
use Rattle.msi_parts.specs.Parts.{IsSoundIn}
use Rattle.msi_parts.specs.declared.parts.PackageParts.{PackageParts}
use Rattle.msi_pool.specs.Pool.{Pool}
use Rattle.msi_stored.specs.StoredPackages.{rows_in}
use Rattle.msi_tables.specs.Rows.{Row}
use Rattle.msi_tables.specs.Table.{Heading}
use Rattle.msi_soundness.specs.Counting.{TableIsRead, IsUnlistedAt}

-- ---- answers

-- an answer that isn't a fault where what is asked is so
abbrev pub Answers : Type 0 → Result Bool Error → Type 0
Answers P r = IfOk r (λ is. IsTrue is ↔ P)

-- no is the answer
pub is_no : (P : Type 0) → (P → ⊥) → IsTrue false ↔ P
is_no P not = (λ e. absurd (cc), λ p. absurd (not p))

pub both_ways : (A B C : Type 0) → (A ↔ B) → (B ↔ C) → (A ↔ C)
both_ways A B C ab bc = (λ a. bc.0 (ab.0 a), λ c. ab.1 (bc.1 c))

pub turned : (A B : Type 0) → (A ↔ B) → (B ↔ A)
turned A B ab = (ab.1, ab.0)

-- what is asked by another word
pub answers_as : (P Q : Type 0) → (P ↔ Q) → (r : Result Bool Error) → Answers P r → Answers Q r
answers_as P Q same (Ok is) told = (λ yes. same.0 (told.0 yes), λ q. told.1 (same.1 q))
answers_as P Q same (Err e) told = tt

-- ---- the rows of _Tables

module _ (letters : CaseTable) (tree : Tree) (h : Heading) where
  pub unlisted_read : (pool : Pool) (rows : List Row) (b : Bool) → rows_in letters tree h ≡ Some rows → b ≡ list_system pool rows → IsTrue (not b) ↔ IsUnlistedAt letters tree pool (Some h)
  unlisted_read pool rows b read told = (
    λ yes. (ap is_some read, ap (λ o. list_system pool (unwrap_or o [])) read ∙ sym told ∙ not_true b yes),
    λ both. ap not (told ∙ ap (λ o. list_system pool (unwrap_or o [])) (sym read) ∙ both.1),
  )
    where
      not_true : (b : Bool) → not b ≡ true → b ≡ false
      not_true true e = absurd (cc)
      not_true false e = refl

  unread_no : rows_in letters tree h ≡ None → TableIsRead letters tree h → ⊥
  unread_no none some = let no : false ≡ true = sym (ap is_some none) ∙ some in absurd (cc)

  -- rows that can't be read
  pub no_rows : (error : Error) → IsFaultOrInvalidInputIf ⊥ error ⊎ ((error ≡ InvalidData) × (rows_in letters tree h ≡ None)) → (IsFaultOrInvalidInputIf ⊥ error → ⊥) → TableIsRead letters tree h → ⊥
  no_rows error (inl fault) other some = other fault
  no_rows error (inr both) other some = unread_no both.1 some

-- ---- the parts of the judge

module _ (letters : CaseTable) (tree : Tree) (it : PackageParts) (may : keeps_encoded_names letters ≡ true) (held : ArePartsOfTree letters tree it) where
  -- references are as wide as the pool says
  pub wide_held : All (λ h. h.long ≡ it.pool.pool.long) (headings_in it)
  wide_held = held.parts.described.wide

  -- objects stand where they may
  abbrev pub InPlace : Type 0
  InPlace = All (λ o. IsTrue (is_in_place letters (headings_in it) o)) (objects tree.content)

  abbrev pub SoundRows : Type 0
  SoundRows = AreSoundRows letters tree it.pool.pool (headings_in it)

  judged : AreWell it → InPlace → SoundRows → IsJudged letters tree it.summary it.pool.pool it.gives_back (headings_in it)
  judged well place rows = record {
    pool_whole = well.pool_whole;
    summary_whole = well.summary_whole;
    one_section = well.one_section;
    free = well.free;
    names = well.names;
    usual = well.usual;
    in_place = place;
    rows = rows;
  }

  pub judged_so : (sound : Bool) → IsSoundIn letters tree sound → IsJudged letters tree it.summary it.pool.pool it.gives_back (headings_in it)
  judged_so sound s = sound_judged letters tree it.kind it.summary it.pool.pool it.gives_back (headings_in it) held.parts may s.1 s.2 s.3

  -- where the parts before them are so, all hangs on the rows
  pub by_rows : (sound : Bool) → sound ≡ true → AreWell it → InPlace → SoundRows ↔ IsSoundIn letters tree sound
  by_rows sound is well place = (
    λ rows. let found = judged_sound letters tree it.kind it.summary it.pool.pool it.gives_back (headings_in it) held.parts may (judged well place rows) in
        (is, found.0, found.1, found.2),
    λ s. (judged_so sound s).rows,
  )

  pub by_place : (sound : Bool) → (InPlace → ⊥) → IsSoundIn letters tree sound → ⊥
  by_place sound none s = none (judged_so sound s).in_place

  pub by_memory : (sound : Bool) → (AreWell it → ⊥) → IsSoundIn letters tree sound → ⊥
  by_memory sound none s =
      let j = judged_so sound s in
      none (record {
        pool_whole = j.pool_whole;
        summary_whole = j.summary_whole;
        one_section = j.one_section;
        free = j.free;
        names = j.names;
        usual = j.usual;
      })
