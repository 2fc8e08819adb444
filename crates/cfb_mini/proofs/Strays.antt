-- No more sectors are in use without an owner after a change of one owner's chain.
use Rattle.std.proofs.Common.{◌≡◌, ◌⊎◌, inl, inr, ℕ, List, [], ◌∷◌, ◌++◌, append-nil, length, zero, suc, refl, ap, sym, subst, ◌∙◌, ⊎_elim, arith}
use Rattle.std.specs.Prelude.{slice_index}
use Rattle.std.proofs.lemmas.Bool.Decides.{eqb_tells, leb_tells}
use Rattle.cfb_medium.specs.declared.medium.ReadMedium.{Ghosts}
use Rattle.cfb_sectors.specs.Sectors.{free, sector}
use Rattle.cfb_chains.specs.Changes.{IsNotIn}
use Rattle.cfb_chains.specs.Owned.{ReplacesChain, SectorLayer}
use Rattle.cfb_chains.proofs.Beside.{none_first}
use Rattle.cfb_fat.specs.Seeing.{seen_of}
use Rattle.cfb_fat.specs.Tables.{difat_sectors_of, fat_of, fat_sectors_of, tables_of, version_of, OnlyReadsAllocator}
use Rattle.cfb_fat.specs.declared.allocator.Allocator.{Allocator}
use Rattle.cfb_mini.specs.Strays.{IsStrayIn, LeavesNoStrays}

-- a number stands in a list, or not
pub none_or : (xs : List ℕ) (n : ℕ) → IsNotIn xs n ⊎ (IsNotIn xs n → ⊥)
none_or [] n = inl (λ k below. absurd (omega (arith, below)))
none_or (x ∷ xs) n =
    ⊎_elim
    (λ same. inr (λ none. none zero (omega arith) same.1))
    (λ other. ⊎_elim (λ none. inl (never other.1 none)) (λ one. inr (λ none. one (λ k below. none (suc k) (omega (arith, below))))) (none_or xs n))
    (eqb_tells x n)
  where
    never : (x ≡ n → ⊥) → IsNotIn xs n → IsNotIn (x ∷ xs) n
    never other none zero below = other
    never other none (suc k) below = none k (omega (arith, below))

-- what is none of these is untouched, where what was touched and left out is free
untouched : (table touched later : List ℕ) (n : ℕ) → ((m : ℕ) → IsNotIn later m → (IsNotIn touched m → ⊥) → slice_index table m ≡ free) → IsNotIn later n → (slice_index table n ≡ free → ⊥) → IsNotIn touched n
untouched table touched later n spent none in_use = ⊎_elim (λ apart. apart) (λ one. absurd (in_use (spent n none one))) (none_or touched n)

module _ (S : List ℕ → ℕ → List ℕ) (words ids more later : List ℕ) (key : ℕ) (a b : SectorLayer) (own then : ℕ → List ℕ) (becomes : ReplacesChain S words ids more later a b) (was : own key ≡ ids) (mine : then key ≡ later)
    (others : (k : ℕ) → (k ≡ key → ⊥) → then k ≡ own k) (spent : (n : ℕ) → IsNotIn later n → (IsNotIn (ids ++ more) n → ⊥) → slice_index b.table n ≡ free) where
  -- each number that is stray then was so before
  pub strays_before : (n : ℕ) → IsStrayIn b.table b.tables then n → IsStrayIn a.table a.tables own n
  strays_before n s =
      let apart = untouched b.table (ids ++ more) later n spent (subst (λ l. IsNotIn l n) mine (s.unowned key)) s.in_use in
      ⊎_elim
      (λ past. absurd ((becomes.leaves.behind n past.1 s.below apart).0 s.beside))
      (λ before. record {
        below = before.1;
        in_use = λ is. s.in_use (becomes.leaves.entries n before.1 apart ∙ is);
        beside = becomes.leaves.still n s.beside;
        unowned = λ k.
            ⊎_elim
            (λ same. subst (λ l. IsNotIn l n) (sym (ap own same.1 ∙ was)) (none_first ids more n apart))
            (λ differ. subst (λ l. IsNotIn l n) (others k differ.1) (s.unowned k))
            (eqb_tells k key);
      })
      (leb_tells (length a.table) n)

-- a chain that keeps all that was touched leaves nothing out
pub none_left_out : (table touched later : List ℕ) → touched ≡ later → (n : ℕ) → IsNotIn later n → (IsNotIn touched n → ⊥) → slice_index table n ≡ free
none_left_out table touched later same n none one = absurd (one (subst (λ l. IsNotIn l n) (sym same) none))

-- the same owners
pub stray_same : (table tables : List ℕ) (own then : ℕ → List ℕ) → ((k : ℕ) → then k ≡ own k) → (n : ℕ) → IsStrayIn table tables then n → IsStrayIn table tables own n
stray_same table tables own then same n s = record {
  below = s.below;
  in_use = s.in_use;
  beside = s.beside;
  unowned = λ k. subst (λ l. IsNotIn l n) (same k) (s.unowned k);
}

module _ {F : Type 0} {g : Ghosts F} (a b : Allocator F g) where
  -- one owner keeps all that it had, and took in what was in no use
  pub leaves_none : (words : List ℕ) (own then : ℕ → List ℕ) (key : ℕ) (more later : List ℕ) → ReplacesChain (sector (version_of a)) words (own key) more later (seen_of a) (seen_of b) → later ≡ own key ++ more → then key ≡ later
      → ((k : ℕ) → (k ≡ key → ⊥) → then k ≡ own k) → LeavesNoStrays a b own then
  unfolding seen_of
  leaves_none words own then key more later becomes all mine others =
      strays_before (sector (version_of a)) words (own key) more later key (seen_of a) (seen_of b) own then becomes refl mine others (none_left_out _ (own key ++ more) later (sym all))

  -- its sectors are those that it had
  pub leaves_same : (own : ℕ → List ℕ) (key : ℕ) → ReplacesChain (sector (version_of a)) [] (own key) [] (own key) (seen_of a) (seen_of b) → LeavesNoStrays a b own own
  leaves_same own key becomes = leaves_none [] own own key [] (own key) becomes (sym (append-nil (own key))) refl (λ k other. refl)

  -- nothing but reads was done
  pub leaves_resting : (own : ℕ → List ℕ) → OnlyReadsAllocator a b → LeavesNoStrays a b own own
  leaves_resting own rests n s =
      let tables = ap (λ l. l ++ fat_sectors_of b) rests.difat_sectors ∙ ap (λ l. difat_sectors_of a ++ l) rests.fat_sectors in
      subst (λ l. IsStrayIn l (tables_of a) own n) rests.fat (subst (λ l. IsStrayIn (fat_of b) l own n) tables s)
