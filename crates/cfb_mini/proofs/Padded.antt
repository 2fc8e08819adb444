-- What zeros behind a mini stream leave as it is.
use Rattle.std.proofs.Common.{◌≡◌, ℕ, ◌+◌, ◌-◌, ◌*◌, ◌<◌, List, [], ◌∷◌, ◌++◌, length, replicate, get_or, refl, ap, sym, ◌∙◌, arith, ⊎_elim}
use Rattle.std.proofs.lemmas.Bool.Decides.{leb_tells}
use Rattle.std.proofs.lemmas.List.{ext_get_or, get_or-append_right, get_or-replicate, get_or_append_left, get_or_past, length-replicate}
use Rattle.cfb_chains.proofs.Overwriting.{get_filled, length-filled}
use Rattle.cfb_mini.specs.Minis.{mini_joined, mini_sector}

-- so many zeros
abbrev pub zeros : ℕ → List ℕ
zeros count = replicate count 0

pub zero_at : (count i : ℕ) → get_or (zeros count) i 0 ≡ 0
zero_at count i = ⊎_elim (λ past. get_or_past (zeros count) i 0 (let size = length-replicate {A = ℕ} count 0 in let p = past.1 in omega (arith, size, p))) (λ below. get_or-replicate count i 0 0 below.1) (leb_tells count i)

-- so many zeros are read behind a list's end
pub get_padded : (xs : List ℕ) (count k : ℕ) → get_or (xs ++ zeros count) k 0 ≡ get_or xs k 0
get_padded xs count k =
    ⊎_elim
    (λ past. get_or-append_right xs (zeros count) (length xs) k 0 refl past.1 ∙ zero_at count (k - length xs) ∙ sym (get_or_past xs k 0 past.1))
    (λ below. get_or_append_left xs (zeros count) 0 k below.1)
    (leb_tells (length xs) k)

-- a mini sector is the same where zeros follow the mini stream
pub sector_padded : (xs : List ℕ) (count n : ℕ) → mini_sector (xs ++ zeros count) n ≡ mini_sector xs n
sector_padded xs count n =
    ext_get_or 0 _ _ (length-filled (xs ++ zeros count) (64 * n) 64 ∙ sym (length-filled xs (64 * n) 64)) (λ i below.
    let within : i < 64 = let size = length-filled (xs ++ zeros count) (64 * n) 64 in omega (arith, below, size) in
    get_filled (xs ++ zeros count) (64 * n) 64 i within ∙ get_padded xs count (64 * n + i) ∙ sym (get_filled xs (64 * n) 64 i within))

pub joined_padded : (xs : List ℕ) (count : ℕ) (minis : List ℕ) → mini_joined (xs ++ zeros count) minis ≡ mini_joined xs minis
joined_padded xs count [] = refl
joined_padded xs count (n ∷ minis) = ap (λ l. l ++ mini_joined (xs ++ zeros count) minis) (sector_padded xs count n) ∙ ap (λ l. mini_sector xs n ++ l) (joined_padded xs count minis)
