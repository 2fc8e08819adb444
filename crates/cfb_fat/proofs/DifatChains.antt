-- The DIFAT's chain, followed from the left.
use Rattle.std.proofs.Common.{◌≡◌, ℕ, ◌+◌, ◌-◌, ◌<◌, ◌≤◌, List, [], ◌∷◌, ◌++◌, length, take, drop, refl, ap, sym, subst, arith, zero, suc, get_or, true, false, length-drop, length-append, ⊎_elim, ◌∙◌, append_assoc}
use Rattle.std.specs.Prelude.{nat_eq}
use Rattle.std.specs.List.{IsDistinct, flat_map, list_any}
use Rattle.std.proofs.lemmas.Map.Steps.{length-le_from_distinct_below}
use Rattle.std.proofs.lemmas.Map.Keys.{IsDistinct-from_apart}
use Rattle.std.proofs.lemmas.Grind.{common_steps, flat_map-append}
use Rattle.std.proofs.lemmas.List.{append-nil}
use Rattle.cfb_medium.specs.Numbers.{numbers, u32_at}
use Rattle.cfb_medium.specs.Versions.{sector_len}
use Rattle.cfb_medium.specs.declared.version.Version.{Version}
use Rattle.cfb_medium.specs.declared.version.Version.TheVariants.{V3, V4}
use Rattle.cfb_sectors.specs.Header.{header_difat}
use Rattle.cfb_sectors.specs.Sectors.{difat, greatest_regular, sector, sectors_in, DifatChain, IsInFile}
use Rattle.cfb_sectors.proofs.OneChain.{difat_unique}
use Rattle.cfb_fat.specs.Listed.{IsStop}
use Rattle.cfb_fat.proofs.Joining.{take_more}

pub in_file_below : (v : Version) (b : List ℕ) (n : ℕ) → IsInFile v b n → n < sectors_in v (length b)
in_file_below V3 b n there = omega (arith, there.0, there.1)
in_file_below V4 b n there = omega (arith, there.0, there.1)

pub below_in_file : (v : Version) (b : List ℕ) (n : ℕ) → n < sectors_in v (length b) → IsInFile v b n
below_in_file V3 b n below = (omega (arith, below), omega (arith, below))
below_in_file V4 b n below = (omega (arith, below), omega (arith, below))

pub stop_high : (stop : ℕ) → IsStop stop → greatest_regular < stop
stop_high stop is = ⊎_elim (λ e. omega (arith, e)) (λ e. omega (arith, e)) is

module _ (v : Version) (b : List ℕ) where
  pub difat_more : (start : ℕ) (xs : List ℕ) (at next : ℕ) → DifatChain v b start xs at → at < sectors_in v (length b) → next ≡ u32_at (sector v b at) (sector_len v - 4) → DifatChain v b start (xs ++ at ∷ []) next
  difat_more start [] at next is below is_next = (sym is, subst (IsInFile v b) (sym is) (below_in_file v b at below), subst (λ n. u32_at (sector v b n) (sector_len v - 4) ≡ next) (sym is) (sym is_next))
  difat_more start (x ∷ xs) at next (is, here, rest) below is_next = (is, here, difat_more (u32_at (sector v b start) (sector_len v - 4)) xs at next rest below is_next)

  pub difat_rest : (start : ℕ) (xs list : List ℕ) (at stop : ℕ) → DifatChain v b start xs at → greatest_regular < stop → DifatChain v b start list stop
      → (rest : List ℕ) × (list ≡ xs ++ rest) × DifatChain v b at rest stop
  difat_rest start [] list at stop is high chain = (list, refl, subst (λ s. DifatChain v b s list stop) is chain)
  difat_rest start (x ∷ xs) [] at stop (is, here, rest) high chain = absurd (omega (arith, here.0, chain, high))
  difat_rest start (x ∷ xs) (y ∷ list) at stop (is, here, rest) high (is', here', rest') =
      let later = difat_rest (u32_at (sector v b start) (sector_len v - 4)) xs list at stop rest high rest' in
      let split : list ≡ xs ++ later.0 = later.1 in
      (later.0, cc, later.2)

  difat_from : (start : ℕ) (list : List ℕ) (stop k d : ℕ) → k < length list → DifatChain v b start list stop → DifatChain v b (get_or list k d) (drop k list) stop
  difat_from start [] stop k d below chain = absurd (omega arith)
  difat_from start (x ∷ xs) stop zero d below (is, here, rest) = subst (λ s. DifatChain v b s (x ∷ xs) stop) (sym is) (is, here, rest)
  difat_from start (x ∷ xs) stop (suc k) d below (is, here, rest) = difat_from (u32_at (sector v b start) (sector_len v - 4)) xs stop k d (omega arith) rest

  nat_eq_false : (x y : ℕ) → (x ≡ y → ⊥) → nat_eq x y ≡ false
  nat_eq_false x y h = grind arith

  difat_apart : (start : ℕ) (list : List ℕ) (stop : ℕ) → greatest_regular < stop → DifatChain v b start list stop → IsDistinct nat_eq list
  difat_apart start list stop high c = IsDistinct-from_apart nat_eq list (λ i j d lt below.
      nat_eq_false (get_or list i d) (get_or list j d) (λ same.
      let first : DifatChain v b (get_or list i d) (drop i list) stop = difat_from start list stop i d (omega arith) c in
      let second : DifatChain v b (get_or list i d) (drop j list) stop =
      subst (λ s. DifatChain v b s (drop j list) stop) (sym same) (difat_from start list stop j d below c) in
      let both : drop i list ≡ drop j list = (difat_unique v b (get_or list i d) (drop i list) (drop j list) stop stop high high first second).0 in
      omega (arith, ap length both, length-drop i list, length-drop j list)))

  difat_below : (start : ℕ) (list : List ℕ) (stop : ℕ) → DifatChain v b start list stop → (q : ℕ) → list_any (nat_eq q) list ≡ true → q < sectors_in v (length b)
  difat_below start [] stop c q h = absurd (cc)
  difat_below start (x ∷ xs) stop (is, there, rest) q h =
      let here : start < sectors_in v (length b) = in_file_below v b start there in
      let later : list_any (nat_eq q) xs ≡ true → q < sectors_in v (length b) = difat_below (u32_at (sector v b start) (sector_len v - 4)) xs stop rest q in
      grind (arith, common_steps, here, later)

  -- it has no more sectors than the file
  pub difat_short : (start : ℕ) (list : List ℕ) (stop : ℕ) → greatest_regular < stop → DifatChain v b start list stop → length list ≤ sectors_in v (length b)
  difat_short start list stop high c = length-le_from_distinct_below list (sectors_in v (length b)) (difat_apart start list stop high c) (difat_below start list stop c)

  -- it doesn't go on past a sector that the file lacks, or for longer than there are sectors
  pub difat_nowhere : (start : ℕ) (xs : List ℕ) (at count : ℕ) → count ≡ sectors_in v (length b) → DifatChain v b start xs at → (IsStop at → ⊥) → (at < count → length xs < count → ⊥)
      → (list : List ℕ) (stop : ℕ) → IsStop stop → DifatChain v b start list stop → ⊥
  difat_nowhere start xs at count is leads go bad list stop stops c =
      let high = stop_high stop stops in
      let later = difat_rest start xs list at stop leads high c in
      let short = difat_short start list stop high c in
      ends later.0 later.2 (ap length later.1) short
    where
      ends : (rest : List ℕ) → DifatChain v b at rest stop → length list ≡ length (xs ++ rest) → length list ≤ sectors_in v (length b) → ⊥
      ends [] d e short = go (subst IsStop (sym d) stops)
      ends (y ∷ rest) (is_y, there, d) e short =
          bad (subst (λ n. at < n) (sym is) (in_file_below v b at there))
          (let total : length (xs ++ y ∷ rest) ≡ length xs + suc (length rest) = simp length-append in omega (arith, total, e, short, is))

-- one sector more was read
pub difat_step : (v w : Version) (b same : List ℕ) (start : ℕ) (xs new : List ℕ) (at next count : ℕ) → w ≡ v → same ≡ b → next ≡ u32_at (sector w same at) (sector_len w - 4) → new ≡ xs ++ at ∷ []
    → count ≡ sectors_in v (length b) → at < count → DifatChain v b start xs at → DifatChain v b start new next
difat_step v w b same start xs new at next count version unchanged read is counted below leads =
    subst (λ l. DifatChain v b start l next) (sym is)
    (difat_more v b start xs at next leads (subst (λ n. at < n) counted below)
    (read ∙ ap (λ u. u32_at (sector u same at) (sector_len u - 4)) version ∙ ap (λ c. u32_at (sector v c at) (sector_len v - 4)) unchanged))

-- the entries of one sector more
pub entries_step : (v w : Version) (b same all new ids : List ℕ) (i : ℕ) → i < length ids → w ≡ v → same ≡ b → new ≡ all ++ numbers (take (sector_len w - 4) (sector w same (get_or ids i 0)))
    → all ≡ difat v b (take i ids) → new ≡ difat v b (take (i + 1) ids)
entries_step v w b same all new ids i below version unchanged is before =
    let part : ℕ → List ℕ = λ n. numbers (take (sector_len v - 4) (sector v b n)) in
    is ∙ ap (λ u. all ++ numbers (take (sector_len u - 4) (sector u same (get_or ids i 0)))) version ∙ ap (λ c. all ++ numbers (take (sector_len v - 4) (sector v c (get_or ids i 0)))) unchanged
    ∙ ap (λ l. l ++ part (get_or ids i 0)) before ∙ append_assoc (header_difat b) (flat_map part (take i ids)) (part (get_or ids i 0))
    ∙ ap (λ l. header_difat b ++ (flat_map part (take i ids) ++ l)) (sym (append-nil (part (get_or ids i 0))))
    ∙ ap (λ l. header_difat b ++ l) (sym (flat_map-append part (take i ids) (get_or ids i 0 ∷ [])))
    ∙ ap (λ l. header_difat b ++ flat_map part l) (sym (take_more ids i below))
