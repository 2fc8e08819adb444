-- Rules that are asked for one after the other, and the defects that were noted.
use Rattle.std.proofs.Common.{◌≡◌, ◌∙◌, ℕ, zero, suc, Bool, true, false, List, [], ◌∷◌, refl, sym, subst, arith, inl, inr}
use Rattle.std.specs.Prelude.{◌==◌, ◌↔◌, ◌⊎◌, if◌then◌else◌, Contains, Err, IfOk, IsTrue, Ok, Result, Vec}
use Rattle.std.specs.declared.alloc.Global.{Global}
use Rattle.std.proofs.lemmas.Bool.Decides.{nat_tests}
use Rattle.std.proofs.lemmas.List.Elements.{Contains-append_cases, Contains-append_left, Contains-append_right}
use Rattle.cfb_medium.specs.declared.error.Error.{Error}
use Rattle.cfb_tree.specs.Names.{CaseTable}
use Rattle.cfb_tree.specs.Tree.{Tree}
use Rattle.msi_spec.specs.Opening.{keeps_encoded_names}
use Rattle.msi_parts.specs.Held.{ArePartsOfTree, headings_in}
use Rattle.msi_parts.specs.Parts.{IsSoundIn}
use Rattle.msi_parts.specs.declared.parts.PackageParts.{PackageParts}
use Rattle.msi_soundness.proofs.Counted.{sound_counted, sound_rows, sound_unlisted}
use Rattle.msi_soundness.proofs.Told.{by_rows, judged_so, wide_held}
use Rattle.msi_soundness.specs.Defects.{noted, rules_of_memory, AreDefects, ListsDefects, MeetsSoundnessRule}
use Rattle.msi_soundness.specs.declared.defect.Defect.{Defect}
use Rattle.msi_soundness.specs.declared.defect.Defect.TheVariants.{Container, Counts, FreePlaces, ListedSystemTables, Objects, PoolTexts, SummarySections, SummaryTexts, TableNames, Validation}

none_in : (x : Defect) → Contains [] x → ⊥
none_in x h = let below = h.1 in omega (arith, below)

in_cases : (x y : Defect) (xs : List Defect) → Contains (x ∷ xs) y → (x ≡ y) ⊎ Contains xs y
in_cases x y xs (zero, below, is) = inl is
in_cases x y xs (suc k, below, is) = inr (k, omega (arith, below), is)

-- what is noted is the one that was judged, and its rule isn't kept
noted_is : (is : Bool) (d x : Defect) → Contains (if is then [] else (d ∷ [])) x → (is ≡ false) × (d ≡ x)
noted_is true d x h = absurd (none_in x h)
noted_is false d x h = (refl, only (in_cases d x [] h))
  where
    only : (d ≡ x) ⊎ Contains [] x → d ≡ x
    only (inl e) = e
    only (inr none) = absurd (none_in x none)

-- defects stay listed
pub noted_longer : (found : List Defect) (is : Bool) (d x : Defect) → Contains found x → Contains (noted found is d) x
noted_longer found is d x h = Contains-append_left found (if is then [] else (d ∷ [])) x h

-- one whose rule isn't kept is listed
pub noted_last : (found : List Defect) (is : Bool) (d : Defect) → is ≡ false → Contains (noted found is d) d
noted_last found true d e = absurd (cc)
noted_last found false d e = Contains-append_right found (d ∷ []) d (0, omega arith, refl)

module _ (Keeps : Defect → Type 0) where
  pub none_noted : ListsDefects Keeps [] []
  none_noted = record { listed = λ x has. absurd (none_in x has); others = λ x has. absurd (none_in x has) }

  pub one_noted : (asked found : List Defect) (is : Bool) (d : Defect) → (IsTrue is ↔ Keeps d) → ListsDefects Keeps asked found → ListsDefects Keeps (d ∷ asked) (noted found is d)
  one_noted asked found is d same a = record {
    listed = λ x has keeps. listed x keeps (Contains-append_cases found (if is then [] else (d ∷ [])) x has);
    others = λ x has. others x (in_cases d x asked has);
  }
    where
      listed : (x : Defect) → Keeps x → Contains found x ⊎ Contains (if is then [] else (d ∷ [])) x → ⊥
      listed x keeps (inl h) = a.listed x h keeps
      listed x keeps (inr h) =
          let last = noted_is is d x h in
          let kept : is ≡ true = same.1 (subst Keeps (sym last.1) keeps) in
          let broken : is ≡ false = last.0 in
          absurd (cc)

      here : (x : Defect) → d ≡ x → (b : Bool) → is ≡ b → Contains (noted found is d) x ⊎ Keeps x
      here x e true kept = inr (subst Keeps e (same.0 kept))
      here x e false broken = inl (subst (λ y. Contains (noted found is d) y) e (noted_last found is d broken))

      before : (x : Defect) → Contains found x ⊎ Keeps x → Contains (noted found is d) x ⊎ Keeps x
      before x (inl h) = inl (noted_longer found is d x h)
      before x (inr keeps) = inr keeps

      others : (x : Defect) → (d ≡ x) ⊎ Contains asked x → Contains (noted found is d) x ⊎ Keeps x
      others x (inl e) = here x e is refl
      others x (inr h) = before x (a.others x h)

  -- the same of the lists in memory
  pub told_next : (asked old new : List Defect) (is : Bool) (d : Defect) → new ≡ noted old is d → (IsTrue is ↔ Keeps d) → ListsDefects Keeps asked old → ListsDefects Keeps (d ∷ asked) new
  told_next asked old new is d e same a = subst (ListsDefects Keeps (d ∷ asked)) (sym e) (one_noted asked old is d same a)

pub listed_next : (old new : List Defect) (is : Bool) (d x : Defect) → new ≡ noted old is d → Contains old x → Contains new x
listed_next old new is d x e h = subst (λ ds. Contains ds x) (sym e) (noted_longer old is d x h)

-- a test that is what the rule says
pub same_test : (b is : Bool) → b ≡ is → IsTrue b ↔ (is ≡ true)
same_test b is e = (λ yes. sym e ∙ yes, λ yes. e ∙ yes)

one_is : (n : ℕ) → (n == 1) ≡ true → n ≡ 1
one_is n e = grind (arith, nat_tests)

is_one : (n : ℕ) → n ≡ 1 → (n == 1) ≡ true
is_one n e = grind (arith, nat_tests)

pub one_test : (n m : ℕ) → n ≡ m → IsTrue (n == 1) ↔ (m ≡ 1)
one_test n m e = (λ yes. sym e ∙ one_is n yes, λ one. is_one n (e ∙ one))

-- what is so of the list that was noted is so of what was answered
pub if_noted : (Q : List Defect → Type 0) (r : Result (Vec Defect Global) Error) (old : List Defect) (is : Bool) (d : Defect) → IfOk r (λ all. all.items ≡ noted old is d)
    → ((new : List Defect) → new ≡ noted old is d → Q new) → IfOk r (λ all. Q all.items)
if_noted Q (Ok all) old is d e h = h all.items e
if_noted Q (Err error) old is d e h = tt

-- what is so of each list that was answered
pub if_ok_then : (P Q : List Defect → Type 0) (r : Result (Vec Defect Global) Error) → IfOk r (λ all. P all.items) → ((all : List Defect) → P all → Q all) → IfOk r (λ all. Q all.items)
if_ok_then P Q (Ok all) h k = k all.items h
if_ok_then P Q (Err error) h k = tt

-- all rules, the last one first
abbrev pub all_rules : List Defect
all_rules = Counts ∷ ListedSystemTables ∷ Objects ∷ rules_of_memory

each_asked : (d : Defect) → Contains all_rules d
each_asked Counts = (0, omega arith, refl)
each_asked ListedSystemTables = (1, omega arith, refl)
each_asked Objects = (2, omega arith, refl)
each_asked Validation = (3, omega arith, refl)
each_asked TableNames = (4, omega arith, refl)
each_asked FreePlaces = (5, omega arith, refl)
each_asked SummarySections = (6, omega arith, refl)
each_asked SummaryTexts = (7, omega arith, refl)
each_asked PoolTexts = (8, omega arith, refl)
each_asked Container = (9, omega arith, refl)

-- a list with no member is empty
empty : (found : List Defect) → ((d : Defect) → Contains found d → ⊥) → found ≡ []
empty [] none = refl
empty (d ∷ ds) none = absurd (none d (0, omega arith, refl))

module _ (letters : CaseTable) (tree : Tree) (sound : Bool) (it : PackageParts) where
  pub all_noted : (found : List Defect) → ListsDefects (MeetsSoundnessRule letters tree sound it) all_rules found → AreDefects letters tree sound it found
  all_noted found a = record {
    listed = λ d. (a.listed d, λ broken. has d broken (a.others d (each_asked d)));
    others = λ d none. keeps d none (a.others d (each_asked d));
  }
    where
      has : (d : Defect) → (MeetsSoundnessRule letters tree sound it d → ⊥) → Contains found d ⊎ MeetsSoundnessRule letters tree sound it d → Contains found d
      has d broken (inl h) = h
      has d broken (inr kept) = absurd (broken kept)

      keeps : (d : Defect) → (Contains found d → ⊥) → Contains found d ⊎ MeetsSoundnessRule letters tree sound it d → MeetsSoundnessRule letters tree sound it d
      keeps d none (inl h) = absurd (none h)
      keeps d none (inr kept) = kept

  module _ (may : keeps_encoded_names letters ≡ true) (held : ArePartsOfTree letters tree it) where
    -- where each rule is kept, the package is sound
    kept_sound : ((d : Defect) → MeetsSoundnessRule letters tree sound it d) → IsSoundIn letters tree sound
    kept_sound each =
        (by_rows letters tree it may held sound (each Container)
        (record {
          pool_whole = each PoolTexts;
          summary_whole = each SummaryTexts;
          one_section = each SummarySections;
          free = each FreePlaces;
          names = each TableNames;
          usual = each Validation;
        })
        (each Objects)).0
        (sound_rows letters tree it.pool.pool (headings_in it) (wide_held letters tree it may held) (each ListedSystemTables) (each Counts))

    -- and a sound package keeps each
    sound_kept : IsSoundIn letters tree sound → (d : Defect) → MeetsSoundnessRule letters tree sound it d
    sound_kept s Container = s.0
    sound_kept s PoolTexts = (judged_so letters tree it may held sound s).pool_whole
    sound_kept s SummaryTexts = (judged_so letters tree it may held sound s).summary_whole
    sound_kept s SummarySections = (judged_so letters tree it may held sound s).one_section
    sound_kept s FreePlaces = (judged_so letters tree it may held sound s).free
    sound_kept s TableNames = (judged_so letters tree it may held sound s).names
    sound_kept s Validation = (judged_so letters tree it may held sound s).usual
    sound_kept s Objects = (judged_so letters tree it may held sound s).in_place
    sound_kept s ListedSystemTables = sound_unlisted letters tree it.pool.pool (headings_in it) (judged_so letters tree it may held sound s).rows
    sound_kept s Counts = sound_counted letters tree it.pool.pool (headings_in it) (judged_so letters tree it may held sound s).rows

    pub none_sound : (found : List Defect) → AreDefects letters tree sound it found → (found ≡ []) ↔ IsSoundIn letters tree sound
    none_sound found a = (
      λ e. kept_sound (λ d. a.others d (λ h. none_in d (subst (λ (ds : List Defect). Contains ds d) e h))),
      λ s. empty found (λ d h. (a.listed d).0 h (sound_kept s d)),
    )
