-- What a call does behind one that only asks for memory, and which entries are set without a run more.
use Rattle.std.proofs.Common.{◌≡◌, ℕ, ◌<◌, ◌≤◌, List, [], ◌∷◌, ◌++◌, length, get_or, ap, sym, subst, ◌∙◌, arith, ⊎_elim}
use Rattle.std.specs.Prelude.{slice_get, slice_index, Some}
use Rattle.std.proofs.lemmas.Option.{slice_get_within, get_or_from_slice_get}
use Rattle.cfb_medium.specs.declared.medium.ReadMedium.{Ghosts}
use Rattle.cfb_sectors.specs.Sectors.{end_of_chain, free, greatest_regular, Chain as IsChain}
use Rattle.cfb_sectors.specs.declared.initial.NewSector.{NewSector}
use Rattle.cfb_fat_runs.specs.Tables.{IsEasy}
use Rattle.cfb_chains.specs.Behind.{IsMarkedBehind}
use Rattle.cfb_chains.specs.Changes.{IsFreeIn, IsNotIn, SameExceptAt}
use Rattle.cfb_fat.specs.declared.allocator.Allocator.{Allocator}
use Rattle.cfb_fat.specs.Calls.{IsFull, AllocatesOneSector}
use Rattle.cfb_fat.specs.Keeping.{tables_same, takes_rest}
use Rattle.cfb_fat.specs.Tables.{difat_sectors_of, fat_of, fat_sectors_of, OnlyReadsAllocator}
use Rattle.cfb_fat.proofs.GrowthSteps.{occupies_after}

-- a chain's last sector has the end of a chain as its entry
pub ends_chain : (table ids : List ℕ) (start last : ℕ) → IsChain table start (ids ++ last ∷ []) → slice_get table last ≡ Some end_of_chain
ends_chain table [] start last (is, regular, next, found, rest) = ap (slice_get table) is ∙ found ∙ ap Some rest
ends_chain table (x ∷ ids) start last (is, regular, next, found, rest) = ends_chain table ids next last rest

-- it is linked to a sector that was taken into use
pub easy_link : (old mid ids : List ℕ) (start last n : ℕ) → IsChain old start (ids ++ last ∷ []) → IsFreeIn old n → SameExceptAt (n ∷ []) old mid → IsChain mid n (n ∷ []) → IsEasy mid last n
easy_link old mid ids start last n was loose stay one = (stay.others last within (λ k inside same. apart (sym (ap (λ j. get_or (n ∷ []) j 0) (first k inside)) ∙ same)) ∙ get_or_from_slice_get old last end_of_chain 0 found, one.1)
  where
    found : slice_get old last ≡ Some end_of_chain
    found = ends_chain old ids start last was

    within : last < length old
    within = slice_get_within old last end_of_chain found

    first : (k : ℕ) → k < 1 → k ≡ 0
    first k inside = omega (arith, inside)

    apart : n ≡ last → ⊥
    apart same = ⊎_elim
        (λ freed. let both : Some free ≡ Some end_of_chain = sym freed ∙ ap (slice_get old) same ∙ found in let wrong : free ≡ end_of_chain = cc in omega (arith, wrong))
        (λ behind. omega (arith, behind, same, within))
        loose

module _ {F : Type 0} {g : Ghosts F} where
  pub one_after : (init : NewSector) (a m b : Allocator F g) (n : ℕ) → OnlyReadsAllocator a m → AllocatesOneSector init m b n → AllocatesOneSector init a b n
  one_after init a m b n rests h = record {
    free = subst (λ l. IsFreeIn l n) rests.fat h.free;
    chain = h.chain;
    occupies = occupies_after init a m b n (takes_rest [] a m rests).grows h.occupies;
    appended = λ behind k found none. h.appended (subst (λ l. length l ≤ n) (sym rests.fat) behind) k (subst (λ l. slice_get l k ≡ Some free) (sym rests.fat) found)
        (subst (λ l. IsNotIn l k) (sym (tables_same a m rests.difat_sectors rests.fat_sectors)) none);
    behind = subst (λ l. IsMarkedBehind (difat_sectors_of b) (fat_sectors_of b) (n ∷ []) (n ∷ []) l (fat_of b)) rests.fat h.behind;
  }

  pub full_after : (a m : Allocator F g) → OnlyReadsAllocator a m → IsFull m → IsFull a
  full_after a m rests h = record {
    behind = subst (λ l. greatest_regular < length l) rests.fat h.behind;
    spare = λ k below freed no_ds no_fs. h.spare k (subst (λ l. k < length l) (sym rests.fat) below) (subst (λ l. slice_index l k ≡ free) (sym rests.fat) freed)
        (subst (λ l. IsNotIn l k) (sym rests.difat_sectors) no_ds) (subst (λ l. IsNotIn l k) (sym rests.fat_sectors) no_fs);
  }
