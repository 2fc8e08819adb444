-- What a change of the FAT leaves of chains and of their bytes.
use Rattle.std.proofs.Common.{◌≡◌, ℕ, inl, inr, List, [], ◌∷◌, ◌++◌, length, get_or, refl, ap, sym, subst, ◌∙◌, arith, ⊎_elim}
use Rattle.std.specs.Prelude.{slice_get, Some}
use Rattle.std.proofs.lemmas.Bool.Decides.{eqb_tells, leb_tells}
use Rattle.std.proofs.lemmas.Option.{slice_get_within, slice_get-get_or, get_or_from_slice_get}
use Rattle.cfb_medium.specs.Versions.{sector_len}
use Rattle.cfb_medium.specs.declared.version.Version.{Version}
use Rattle.cfb_medium.specs.declared.version.Version.TheVariants.{V3, V4}
use Rattle.cfb_sectors.specs.Sectors.{filled_part, free, joined, sector_start, Chain as IsChain}
use Rattle.cfb_chains.specs.Changes.{AreDisjoint, DifferOnlyAt, HaveEntry, IsBeside, IsNotIn}

-- an entry that is the same in both tables
same_entry : (old new : List ℕ) (n next : ℕ) → length new ≡ length old → get_or new n 0 ≡ get_or old n 0 → slice_get old n ≡ Some next → slice_get new n ≡ Some next
same_entry old new n next size same found =
    let below = slice_get_within old n next found in
    slice_get-get_or new n 0 (omega (arith, below, size)) ∙ ap Some (same ∙ get_or_from_slice_get old n next 0 found)

pub chain_stays : (entries old new : List ℕ) → DifferOnlyAt entries old new → (start : ℕ) (ids : List ℕ) → AreDisjoint entries ids → IsChain old start ids → IsChain new start ids
chain_stays entries old new differ start [] none chain = chain
chain_stays entries old new differ start (x ∷ ids) none (is, regular, next, found, rest) =
    (is, regular, next, same_entry old new start next differ.size (differ.others start (subst (IsNotIn entries) is none.0)) found, chain_stays entries old new differ next ids none.1 rest)

-- a sector is beside others
pub apart : (v : Version) (fat_sectors : List ℕ) (n : ℕ) → IsNotIn fat_sectors n → IsBeside v fat_sectors (sector_start v n) (sector_len v)
apart V3 fat_sectors n none k below = ⊎_elim (λ same. absurd (none k below same.1)) (λ differ. ⊎_elim (λ le. inl (omega (arith, le.1, differ.1))) (λ gt. inr (omega (arith, gt.1))) (leb_tells (get_or fat_sectors k 0) n)) (eqb_tells (get_or fat_sectors k 0) n)
apart V4 fat_sectors n none k below = ⊎_elim (λ same. absurd (none k below same.1)) (λ differ. ⊎_elim (λ le. inl (omega (arith, le.1, differ.1))) (λ gt. inr (omega (arith, gt.1))) (leb_tells (get_or fat_sectors k 0) n)) (eqb_tells (get_or fat_sectors k 0) n)

pub bytes_stay : (v : Version) (fat_sectors old new : List ℕ) → ((place count : ℕ) → IsBeside v fat_sectors place count → filled_part new place count ≡ filled_part old place count)
    → (ids : List ℕ) → AreDisjoint fat_sectors ids → joined v new ids ≡ joined v old ids
bytes_stay v fat_sectors old new same [] none = refl
bytes_stay v fat_sectors old new same (x ∷ ids) none =
    ap (λ l. l ++ joined v new ids) (same (sector_start v x) (sector_len v) (apart v fat_sectors x none.0))
    ∙ ap (λ l. filled_part old (sector_start v x) (sector_len v) ++ l) (bytes_stay v fat_sectors old new same ids none.1)

-- a chain goes through no free sector
pub goes_on : (table : List ℕ) (start : ℕ) (ids : List ℕ) → IsChain table start ids → start ≡ free → ⊥
goes_on table start [] is wrong = absurd (omega (arith, is, wrong))
goes_on table start (x ∷ ids) (is, regular, next, found, rest) wrong = absurd (omega (arith, regular, wrong))

pub old_chain : (entries old new : List ℕ) → DifferOnlyAt entries old new → HaveEntry free new entries → (start : ℕ) (ids : List ℕ) → IsChain new start ids
    → AreDisjoint entries ids × IsChain old start ids
old_chain entries old new differ freed start [] is = (tt, is)
old_chain entries old new differ freed start (x ∷ ids) (is, regular, next, found, rest) =
    let later = old_chain entries old new differ freed next ids rest in
    let none : IsNotIn entries start = λ k below same.
    goes_on new next ids rest (sym (get_or_from_slice_get new start next 0 found) ∙ ap (λ n. get_or new n 0) (sym same) ∙ freed k below) in (
      (subst (IsNotIn entries) (sym is) none, later.0),
      (is, regular, next, same_entry new old start next (sym differ.size) (sym (differ.others start none)) found, later.1),
    )
