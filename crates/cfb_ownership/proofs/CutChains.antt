-- A chain of the FAT cut to the file is a chain of the whole FAT, and its sectors are in the file and in use.
use Rattle.std.proofs.Common.{◌≡◌, ◌≢◌, ℕ, ◌<◌, List, [], ◌∷◌, length, take, sym, subst, arith, suc, length-take}
use Rattle.std.specs.Prelude.{slice_get, Some}
use Rattle.cfb_medium.specs.declared.version.Version.{Version}
use Rattle.cfb_sectors.specs.Sectors.{free, sectors_in, AreInFile, Chain, IsInFile}
use Rattle.cfb_fat.specs.Orderly.{AreBelow}
use Rattle.cfb_fat.proofs.DifatChains.{below_in_file, in_file_below}
use Rattle.std.proofs.lemmas.Option.{slice_get_within}

-- no chain starts at a sector that is marked "free"
pub start_used : (table : List ℕ) (start : ℕ) (ids : List ℕ) → Chain table start ids → start ≢ free
start_used table start [] is wrong = absurd (omega (arith, is, wrong))
start_used table start (x ∷ ids) (is, regular, next, found, rest) wrong = absurd (omega (arith, regular, wrong))

pub below_are_in_file : (v : Version) (b ids : List ℕ) → AreBelow (sectors_in v (length b)) ids → AreInFile v b ids
below_are_in_file v b [] below = tt
below_are_in_file v b (x ∷ ids) below = (below_in_file v b x (below 0 (omega arith)), below_are_in_file v b ids (λ k inside. below (suc k) (omega (arith, inside))))

pub chain_in_file : (v : Version) (b table : List ℕ) (start : ℕ) (ids : List ℕ) → length table ≡ sectors_in v (length b) → Chain table start ids → AreInFile v b ids
chain_in_file v b table start [] size is = tt
chain_in_file v b table start (x ∷ ids) size (is, regular, next, found, rest) =
    let within = slice_get_within table x next (subst (λ n. slice_get table n ≡ Some next) (sym is) found) in
    (below_in_file v b x (subst (λ n. x < n) size within), chain_in_file v b table next ids size rest)

-- a FAT of which memory has a whole front covers the sectors with regular numbers
pub cut_covers : (v : Version) (b table : List ℕ) → length (take (sectors_in v (length b)) table) ≡ sectors_in v (length b) → (n : ℕ) → IsInFile v b n → n < length table
cut_covers v b table whole n there =
    let below = in_file_below v b n there in
    let size = length-take (sectors_in v (length b)) table in
    omega (arith, below, whole, size)
