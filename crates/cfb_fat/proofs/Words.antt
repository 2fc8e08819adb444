-- Parts of parts of a file.
use Rattle.std.proofs.Common.{◌≡◌, ℕ, ◌+◌, ◌-◌, ◌<◌, ◌≤◌, List, ◌++◌, length, take, drop, replicate, get_or, ap, sym, ◌∙◌, arith, length-take, length-drop}
use Rattle.std.specs.Int.{w32, from_le_bytes}
use Rattle.std.proofs.lemmas.List.{ext_get_or, get_or-drop, get_or-take, take-append-le}
use Rattle.cfb_medium.specs.Numbers.{u32_at, numbers}
use Rattle.cfb_medium.specs.Versions.{sector_len}
use Rattle.cfb_medium.specs.declared.version.Version.{Version}
use Rattle.cfb_medium.specs.declared.version.Version.TheVariants.{V3, V4}
use Rattle.cfb_sectors.specs.Sectors.{filled_part, sector, sector_start}
use Rattle.cfb_fat.proofs.Joining.{take_front}
use Rattle.cfb_chains.proofs.Overwriting.{get_filled, length-filled}

-- a part of a part
pub filled_in : (b : List ℕ) (p len o n : ℕ) → o + n ≤ len → filled_part b (p + o) n ≡ take n (drop o (filled_part b p len))
filled_in b p len o n fits =
    let whole = filled_part b p len in
    let size : length (take n (drop o whole)) ≡ n = let long = length-filled b p len in let taken = length-take n (drop o whole) in let dropped = length-drop o whole in omega (arith, long, taken, dropped, fits) in
    ext_get_or 0 _ _ (length-filled b (p + o) n ∙ sym size) (λ i below.
    let within : i < n = let long = length-filled b (p + o) n in omega (arith, below, long) in
    get_filled b (p + o) n i within
    ∙ sym (get_or-take n (drop o whole) i 0 within ∙ get_or-drop o whole i 0 ∙ get_filled b p len (o + i) (omega (arith, within, fits)) ∙ ap (λ k. get_or b k 0) (omega arith)))

-- a part that lies in the bytes
pub filled_is : (b : List ℕ) (p n : ℕ) → p + n ≤ length b → filled_part b p n ≡ take n (drop p b)
filled_is b p n fits = take-append-le n (drop p b) (replicate n 0) (let long = length-drop p b in omega (arith, long, fits))

spare : (v : Version) → sector_len v - 4 + 4 ≤ sector_len v
spare V3 = omega arith
spare V4 = omega arith

-- the last number of a sector
pub last_is : (v w : Version) (b same word : List ℕ) (id last n k : ℕ) → w ≡ v → same ≡ b → last ≡ sector_len v - 4 → k ≡ 4 → word ≡ filled_part same (sector_start w id + last) k → n ≡ from_le_bytes w32 word
    → n ≡ u32_at (sector v b id) (sector_len v - 4)
last_is v w b same word id last n k version unchanged at four is read =
    let more : 4 ≡ sector_len v - 4 + 4 - (sector_len v - 4) = omega arith in
    read ∙ ap (from_le_bytes w32) (is ∙ ap (filled_part same (sector_start w id + last)) four ∙ ap (λ u. filled_part same (sector_start u id + last) 4) version ∙ ap (λ c. filled_part c (sector_start v id + last) 4) unchanged
    ∙ ap (λ o. filled_part b (sector_start v id + o) 4) at ∙ filled_in b (sector_start v id) (sector_len v) (sector_len v - 4) 4 (spare v)
    ∙ ap (λ m. take m (drop (sector_len v - 4) (sector v b id))) more)

-- the numbers of a sector of the DIFAT but the last
pub front_is : (v : Version) (b same all found buffer rest numbers_found : List ℕ) (id len n : ℕ) → len ≡ sector_len v - 4 → n ≡ len → length buffer ≡ n → buffer ≡ filled_part b (sector_start v id + 0) n
    → numbers_found ≡ numbers (take len (buffer ++ rest)) → found ≡ numbers_found → all ++ found ≡ all ++ numbers (take (sector_len v - 4) (sector v b id))
front_is v b same all found buffer rest numbers_found id len n is_len is_n long is read copied =
    let part = filled_in b (sector_start v id) (sector_len v) 0 (sector_len v - 4) (omega arith) in
    ap (λ l. all ++ l) (copied ∙ read ∙ ap numbers (take_front len buffer rest (long ∙ is_n) ∙ is ∙ ap (filled_part b (sector_start v id + 0)) (is_n ∙ is_len) ∙ part))
