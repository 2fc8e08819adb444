-- The rules that a sound package keeps, one by one, and which of them a file breaks.
use Rattle.std.specs.Prelude.{◌≡◌, ◌↔◌, ◌++◌, ◌⊎◌, Bool, true, if◌then◌else◌, List, [], ◌∷◌, All, Contains, IfSome, IsTrue}
use Rattle.cfb_tree.specs.Names.{CaseTable}
use Rattle.cfb_tree.specs.Tree.{Tree}
use Rattle.msi_spec.specs.Package.{objects}
use Rattle.msi_parts.specs.Held.{headings_in}
use Rattle.msi_parts.specs.Judged.{are_free_names, heading_named, is_in_place, IsUsual}
use Rattle.msi_parts.specs.declared.parts.PackageParts.{PackageParts}
use Rattle.msi_pool.specs.PoolKept.{AreFreeEmpty}
use Rattle.msi_tables.specs.Schema.{tables_name, validation_name}
use Rattle.msi_soundness.specs.Counting.{AreCountedAt, IsUnlistedAt}
use Rattle.msi_soundness.specs.declared.defect.Defect.{Defect}
use Rattle.msi_soundness.specs.declared.defect.Defect.TheVariants.{Container, Counts, FreePlaces, ListedSystemTables, Objects, PoolTexts, SummarySections, SummaryTexts, TableNames, Validation}

module _ (letters : CaseTable) (tree : Tree) (container_is_sound : Bool) (it : PackageParts) where
  -- THE RULES, in the order of the judgement: what a sound package has
  abbrev pub MeetsSoundnessRule : Defect → Type 0
  MeetsSoundnessRule Container = container_is_sound ≡ true
  MeetsSoundnessRule PoolTexts = it.gives_back ≡ true
  MeetsSoundnessRule SummaryTexts = it.summary.whole ≡ true
  MeetsSoundnessRule SummarySections = it.summary.props.sections ≡ 1
  MeetsSoundnessRule FreePlaces = AreFreeEmpty it.pool.pool.places
  MeetsSoundnessRule TableNames = are_free_names (headings_in it) ≡ true
  MeetsSoundnessRule Validation = IfSome (heading_named (headings_in it) validation_name) IsUsual
  MeetsSoundnessRule Objects = All (λ o. IsTrue (is_in_place letters (headings_in it) o)) (objects tree.content)
  MeetsSoundnessRule ListedSystemTables = IsUnlistedAt letters tree it.pool.pool (heading_named (headings_in it) tables_name)
  MeetsSoundnessRule Counts = AreCountedAt letters tree it.pool.pool (headings_in it)

  -- a rule that isn't kept
  abbrev pub IsDefect : Defect → Type 0
  IsDefect defect = MeetsSoundnessRule defect → ⊥

  -- THE DEFECTS: a rule is listed exactly where it isn't kept, and each that isn't listed is
  pub record AreDefects (found : List Defect) : Type 0 where
    pub listed : (defect : Defect) → Contains found defect ↔ IsDefect defect
    pub others : (defect : Defect) → (Contains found defect → ⊥) → MeetsSoundnessRule defect

-- ---- on the way to them

-- a defect is listed behind those that were found, unless its rule is kept
abbrev pub noted : List Defect → Bool → Defect → List Defect
noted found is_kept defect = found ++ (if is_kept then [] else (defect ∷ []))

-- those that are listed are broken, and of the rules that were asked for each other is kept
pub record ListsDefects (Keeps : Defect → Type 0) (asked found : List Defect) : Type 0 where
  pub listed : (defect : Defect) → Contains found defect → Keeps defect → ⊥
  pub others : (defect : Defect) → Contains asked defect → Contains found defect ⊎ Keeps defect

-- the rules of the container and of texts, and all that memory tells of: the last one first
abbrev pub rules_of_texts : List Defect
rules_of_texts = SummarySections ∷ SummaryTexts ∷ PoolTexts ∷ Container ∷ []

abbrev pub rules_of_memory : List Defect
rules_of_memory = Validation ∷ TableNames ∷ FreePlaces ∷ rules_of_texts
