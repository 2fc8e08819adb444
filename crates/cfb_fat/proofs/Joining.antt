-- Sectors that are read one after the other.
use Rattle.std.proofs.Common.{◌≡◌, ℕ, ◌+◌, ◌<◌, ◌≤◌, List, [], ◌∷◌, ◌++◌, length, take, get_or, zero, suc, sym, ap, ◌∙◌, arith, add-one, add-zero, subst}
use Rattle.std.specs.List.{AllByRecursion, flat_map}
use Rattle.std.proofs.Math.Seq.{take-suc, take-append_seam}
use Rattle.std.proofs.lemmas.Grind.{flat_map-append}
use Rattle.std.proofs.lemmas.List.{append-nil}
use Rattle.cfb_medium.specs.declared.version.Version.{Version}
use Rattle.cfb_medium.specs.declared.version.Version.TheVariants.{V3, V4}
use Rattle.cfb_medium.specs.Versions.{sector_len}
use Rattle.cfb_sectors.specs.Sectors.{filled_part, joined, sector, sector_start}

pub all_append : (P : ℕ → Type 0) (xs : List ℕ) (x : ℕ) → AllByRecursion P xs → P x → AllByRecursion P (xs ++ x ∷ [])
all_append P [] x h p = (p, tt)
all_append P (y ∷ xs) x h p = (h.0, all_append P xs x h.1 p)

pub take_more : (xs : List ℕ) (i : ℕ) → i < length xs → take (i + 1) xs ≡ take i xs ++ get_or xs i 0 ∷ []
take_more xs i below = ap (λ n. take n xs) (add-one i) ∙ take-suc xs i 0 below

pub all_more : (P : ℕ → Type 0) (xs : List ℕ) (i : ℕ) → i < length xs → AllByRecursion P (take i xs) → P (get_or xs i 0) → AllByRecursion P (take (i + 1) xs)
all_more P xs i below h p = subst (AllByRecursion P) (sym (take_more xs i below)) (all_append P (take i xs) (get_or xs i 0) h p)

pub all_at : (P : ℕ → Type 0) (xs : List ℕ) (i : ℕ) → i < length xs → AllByRecursion P xs → P (get_or xs i 0)
all_at P [] i below h = absurd (omega arith)
all_at P (x ∷ xs) zero below h = h.0
all_at P (x ∷ xs) (suc i) below h = all_at P xs i (omega arith) h.1

pub joined_more : (v : Version) (bytes xs : List ℕ) (i : ℕ) → i < length xs → joined v bytes (take (i + 1) xs) ≡ joined v bytes (take i xs) ++ sector v bytes (get_or xs i 0)
joined_more v bytes xs i below =
    ap (flat_map (sector v bytes)) (take_more xs i below) ∙ flat_map-append (sector v bytes) (take i xs) (get_or xs i 0 ∷ [])
    ∙ ap (λ l. joined v bytes (take i xs) ++ l) (append-nil (sector v bytes (get_or xs i 0)))

-- a whole sector lies in the sectors
pub whole_lies : (v : Version) (n count len : ℕ) → len ≡ sector_len v → n < count → sector_start v n + 0 + len ≤ sector_start v count
whole_lies V3 n count len is below = omega arith
whole_lies V4 n count len is below = omega arith

pub take_front : (len : ℕ) (xs ys : List ℕ) → length xs ≡ len → take len (xs ++ ys) ≡ xs
take_front len xs ys e = ap (λ n. take n (xs ++ ys)) (sym e) ∙ take-append_seam xs ys

-- one sector more was read and appended
pub joined_step : (v w : Version) (bytes same all new buffer rest ids : List ℕ) (i len n : ℕ) → i < length ids → w ≡ v → same ≡ bytes → len ≡ sector_len v → n ≡ len → length buffer ≡ len
    → buffer ≡ filled_part same (sector_start w (get_or ids i 0) + 0) n → new ≡ all ++ take len (buffer ++ rest) → all ≡ joined v bytes (take i ids) → new ≡ joined v bytes (take (i + 1) ids)
joined_step v w bytes same all new buffer rest ids i len n below version unchanged long part whole served is before =
    let id = get_or ids i 0 in
    let here : buffer ≡ sector v bytes id =
    served ∙ ap (λ k. filled_part same k n) (add-zero (sector_start w id)) ∙ ap (λ u. filled_part same (sector_start u id) n) version
    ∙ ap (λ b. filled_part b (sector_start v id) n) unchanged ∙ ap (filled_part bytes (sector_start v id)) (part ∙ long) in
    is ∙ ap (λ l. all ++ l) (take_front len buffer rest whole) ∙ ap (λ l. l ++ buffer) before ∙ ap (λ l. joined v bytes (take i ids) ++ l) here
    ∙ sym (joined_more v bytes ids i below)
