-- Header and DIFAT list a sector more.
use Rattle.std.proofs.Common.{◌≡◌, ◌≢◌, ℕ, ◌+◌, ◌-◌, ◌*◌, ◌/◌, ◌%◌, ◌<◌, ◌≤◌, ◌^◌, ◌⊎◌, inl, inr, List, [], ◌∷◌, ◌++◌, length, replicate, get_or, zero, suc, refl, ap, sym, subst, ◌∙◌, arith, ⊎_elim, length-append, append_assoc}
use Rattle.std.specs.List.{flat_map}
use Rattle.std.specs.Int.{w32, to_le_bytes}
use Rattle.std.proofs.Math.ListN.{set}
use Rattle.std.proofs.lemmas.Bool.Decides.{leb_tells}
use Rattle.std.proofs.lemmas.Grind.{flat_map-append}
use Rattle.std.proofs.lemmas.List.{append-nil, length-replicate, replicate-append-replicate}
use Rattle.cfb_medium.specs.Bytes.{overwritten}
use Rattle.cfb_medium.specs.Numbers.{u32_at}
use Rattle.cfb_medium.specs.Versions.{sector_len}
use Rattle.cfb_medium.specs.declared.version.Version.{Version}
use Rattle.cfb_medium.specs.declared.version.Version.TheVariants.{V3, V4}
use Rattle.cfb_sectors.specs.Header.{header_difat}
use Rattle.cfb_sectors.specs.Sectors.{difat, end_of_chain, filled_part, free, sector, sector_start, sectors_in, DifatChain}
use Rattle.cfb_fat.specs.Listed.{Lists}
use Rattle.cfb_chains.specs.Changes.{AreDistinct, IsBeside}
use Rattle.cfb_fat.specs.Orderly.{AreBelow, IsBesideWords}
use Rattle.cfb_fat.proofs.DifatChains.{below_in_file, in_file_below}
use Rattle.cfb_fat.proofs.FatEntries.{per}
use Rattle.cfb_chains.proofs.Overwriting.{beside}
use Rattle.cfb_fat.proofs.TableWords.{behind_words, difat_set, difat_stays, entries_in, entry_before, entry_behind, entry_no_next, header_word, length-difat, length_is, next_before, next_word, split_fewer, start_is, word, word_other, word_same, word_written, StandsAt}

-- where a sector names the next
abbrev pub next_at : Version → ℕ → ℕ
next_at v n = (n + 1) * per v + (per v - 1)

chain_words : (v : Version) (old new : List ℕ) (start : ℕ) (ds : List ℕ) (stop : ℕ) → sectors_in v (length old) ≤ sectors_in v (length new) → ((k : ℕ) → k < length ds → word new (next_at v (get_or ds k 0)) ≡ word old (next_at v (get_or ds k 0)))
    → DifatChain v old start ds stop → DifatChain v new start ds stop
chain_words v old new start [] stop more same chain = chain
chain_words v old new start (x ∷ ds) stop more same (is, there, rest) =
    let here : word new (next_at v start) ≡ word old (next_at v start) = subst (λ n. word new (next_at v n) ≡ word old (next_at v n)) is (same 0 (omega arith)) in (
      is,
      below_in_file v new start (let below = in_file_below v old start there in omega (arith, below, more)),
      subst (λ n. DifatChain v new n ds stop) (sym (next_word v new start ∙ here ∙ sym (next_word v old start)))
          (chain_words v old new (u32_at (sector v old start) (sector_len v - 4)) ds stop more (λ k below. same (suc k) (omega arith)) rest),
    )

chain_longer : (v : Version) (old new : List ℕ) (start x : ℕ) (ds : List ℕ) (stop n : ℕ) → sectors_in v (length old) ≤ sectors_in v (length new)
    → ((k : ℕ) → k < length ds → word new (next_at v (get_or (x ∷ ds) k 0)) ≡ word old (next_at v (get_or (x ∷ ds) k 0))) → word new (next_at v (get_or (x ∷ ds) (length ds) 0)) ≡ n
    → n < sectors_in v (length new) → word new (next_at v n) ≡ end_of_chain → DifatChain v old start (x ∷ ds) stop → DifatChain v new start ((x ∷ ds) ++ n ∷ []) end_of_chain
chain_longer v old new start x [] stop n more same link below ends (is, there, rest) =
    let next : u32_at (sector v new start) (sector_len v - 4) ≡ n = next_word v new start ∙ subst (λ m. word new (next_at v m) ≡ n) is link in (
      is,
      below_in_file v new start (let less = in_file_below v old start there in omega (arith, less, more)),
      subst (λ m. DifatChain v new m (n ∷ []) end_of_chain) (sym next) (refl, below_in_file v new n below, next_word v new n ∙ ends),
    )
chain_longer v old new start x (y ∷ ds) stop n more same link below ends (is, there, rest) =
    let here : word new (next_at v start) ≡ word old (next_at v start) = subst (λ m. word new (next_at v m) ≡ word old (next_at v m)) is (same 0 (omega arith)) in (
      is,
      below_in_file v new start (let less = in_file_below v old start there in omega (arith, less, more)),
      subst (λ m. DifatChain v new m ((y ∷ ds) ++ n ∷ []) end_of_chain) (sym (next_word v new start ∙ here ∙ sym (next_word v old start)))
          (chain_longer v old new (u32_at (sector v old start) (sector_len v - 4)) y ds stop n more (λ k less. same (suc k) (omega arith)) link below ends rest),
    )

set_free : (xs : List ℕ) (u x : ℕ) → 0 < u → set (xs ++ replicate u free) (length xs) x ≡ (xs ++ x ∷ []) ++ replicate (u - 1) free
set_free [] zero x some = absurd (omega arith)
set_free [] (suc u) x some = let same : u ≡ suc u - 1 = omega arith in ap (λ n. x ∷ replicate n free) same
set_free (y ∷ xs) u x some = ap (λ l. y ∷ l) (set_free xs u x some)

-- the DIFAT names a sector more of the FAT
pub fat_listed : (v : Version) (old new ds fs : List ℕ) (n q count : ℕ) → 512 ≤ length old → 512 ≤ length new → sectors_in v (length old) ≤ sectors_in v (length new) → 0 < count → AreBelow count ds → AreDistinct ds
    → length fs < 109 + length ds * (per v - 1) → StandsAt v ds (length fs) q → word new q ≡ n
    → ((r : ℕ) → r < (count + 1) * per v → q ≢ r → 11 ≢ r → 18 ≢ r → word new r ≡ word old r) → (h : Lists v old ds fs) → (m : Lists v new ds (fs ++ n ∷ [])) × (m.stop ≡ h.stop)
fat_listed v old new ds fs n q count in_old in_new more some below once room at here others h =
    let behind = entry_behind v ds (length fs) q at in
    let far = behind_words v count 0 in
    let size : length (difat v old ds) ≡ length fs + h.unused = ap length h.entries ∙ length-append fs (replicate h.unused free) ∙ ap (λ m. length fs + m) (length-replicate h.unused free) in
    let spare : 0 < h.unused = let was = length-difat v old ds in_old in omega (arith, size, was, room) in
    let entry : (m r : ℕ) → StandsAt v ds m r → q ≢ r → word new r ≡ word old r =
    λ m r stands differ. let past = entry_behind v ds m r stands in others r (entry_before v ds m r count some below stands) differ (omega (arith, past)) (omega (arith, past)) in (
      record {
        stop = h.stop;
        stops = h.stops;
        chain = subst (λ s. DifatChain v new s ds h.stop)
            (sym (header_word new 68 17 refl (omega (arith, in_new)) ∙ others 17 (omega (arith, far)) (omega (arith, behind)) (omega arith) (omega arith) ∙ sym (header_word old 68 17 refl (omega (arith, in_old)))))
            (chain_words v old new (u32_at old 68) ds h.stop more
            (λ k inside. let past = behind_words v (get_or ds k 0) (per v - 1) in
            others (next_at v (get_or ds k 0)) (next_before v (get_or ds k 0) count (below k inside)) (entry_no_next v ds (length fs) q (get_or ds k 0) at) (omega (arith, past)) (omega (arith, past)))
            h.chain);
        unused = h.unused - 1;
        entries = difat_set v old new ds (length fs) q n in_old in_new once room at here entry ∙ ap (λ l. set l (length fs) n) h.entries ∙ set_free fs h.unused n spare;
      },
      refl,
    )

-- the DIFAT has a sector more
pub difat_listed : (v : Version) (old new ds fs : List ℕ) (n q count : ℕ) → 512 ≤ length old → 512 ≤ length new → sectors_in v (length old) ≤ sectors_in v (length new) → 0 < count → AreBelow count ds → AreDistinct ds
    → (length ds ≡ 0 → q ≡ 17) → (0 < length ds → q ≡ next_at v (get_or ds (length ds - 1) 0)) → word new q ≡ n
    → ((r : ℕ) → r < (count + 1) * per v → q ≢ r → word new r ≡ word old r) → n < sectors_in v (length new) → entries_in v new n ≡ replicate (per v - 1) free → word new (next_at v n) ≡ end_of_chain
    → Lists v old ds fs → (m : Lists v new (ds ++ n ∷ []) fs) × (m.stop ≡ end_of_chain)
difat_listed v old new ds fs n q count in_old in_new more some below once first last here others there content ends h =
    let entry : (m r : ℕ) → StandsAt v ds m r → word new r ≡ word old r =
    λ m r stands. others r (entry_before v ds m r count some below stands) (no_link ds first last m r stands) in (
      record {
        stop = end_of_chain;
        stops = inl refl;
        chain = linked ds first last below once h.stop h.chain;
        unused = h.unused + (per v - 1);
        entries = ap (λ l. header_difat new ++ l) (flat_map-append (entries_in v new) ds (n ∷ [])) ∙ ap (λ l. header_difat new ++ (flat_map (entries_in v new) ds ++ l)) (append-nil (entries_in v new n))
            ∙ sym (append_assoc (header_difat new) (flat_map (entries_in v new) ds) (entries_in v new n)) ∙ ap (λ l. l ++ entries_in v new n) (difat_stays v old new ds in_old in_new entry ∙ h.entries)
            ∙ ap (λ l. (fs ++ replicate h.unused free) ++ l) content ∙ append_assoc fs (replicate h.unused free) (replicate (per v - 1) free)
            ∙ ap (λ l. fs ++ l) (replicate-append-replicate h.unused (per v - 1) free);
      },
      refl,
    )
  where
    no_link : (ds : List ℕ) → (length ds ≡ 0 → q ≡ 17) → (0 < length ds → q ≡ next_at v (get_or ds (length ds - 1) 0)) → (m r : ℕ) → StandsAt v ds m r → q ≢ r
    no_link [] first last m r stands same = let past = entry_behind v [] m r stands in let is = first (omega arith) in omega (arith, past, is, same)
    no_link (x ∷ ds) first last m r stands same = entry_no_next v (x ∷ ds) m r (get_or (x ∷ ds) (length (x ∷ ds) - 1) 0) stands (sym same ∙ last (omega arith))

    start_same : (q ≢ 17) → u32_at new 68 ≡ u32_at old 68
    start_same other = header_word new 68 17 refl (omega (arith, in_new)) ∙ others 17 (let far = behind_words v count 0 in omega (arith, far)) other ∙ sym (header_word old 68 17 refl (omega (arith, in_old)))

    linked : (ds : List ℕ) → (length ds ≡ 0 → q ≡ 17) → (0 < length ds → q ≡ next_at v (get_or ds (length ds - 1) 0)) → AreBelow count ds → AreDistinct ds → (stop : ℕ) → DifatChain v old (u32_at old 68) ds stop → DifatChain v new (u32_at new 68) (ds ++ n ∷ []) end_of_chain
    linked [] first last below once stop chain =
        let start : u32_at new 68 ≡ n = header_word new 68 17 refl (omega (arith, in_new)) ∙ ap (word new) (sym (first (omega arith))) ∙ here in
        subst (λ m. DifatChain v new m (n ∷ []) end_of_chain) (sym start) (refl, below_in_file v new n there, next_word v new n ∙ ends)
    linked (x ∷ ds) first last below once stop chain =
        let far = behind_words v (get_or (x ∷ ds) (length ds) 0) (per v - 1) in
        let at_last : suc (length ds) - 1 ≡ length ds = omega arith in
        let is : q ≡ next_at v (get_or (x ∷ ds) (length ds) 0) = last (omega arith) ∙ ap (λ m. next_at v (get_or (x ∷ ds) m 0)) at_last in
        subst (λ s. DifatChain v new s ((x ∷ ds) ++ n ∷ []) end_of_chain) (sym (start_same (omega (arith, is, far))))
        (chain_longer v old new (u32_at old 68) x ds stop n more
        (λ k less. others (next_at v (get_or (x ∷ ds) k 0)) (next_before v (get_or (x ∷ ds) k 0) count (below k (omega arith)))
        (λ same. let one = once (length ds) k (omega arith) (omega arith) (same_next v (get_or (x ∷ ds) (length ds) 0) (get_or (x ∷ ds) k 0) (sym is ∙ same)) in omega (arith, one, less)))
        (ap (word new) (sym is) ∙ here) there ends chain)
      where
        same_next : (v : Version) (a b : ℕ) → next_at v a ≡ next_at v b → a ≡ b
        same_next V3 a b same = omega (arith, same)
        same_next V4 a b same = omega (arith, same)

-- a number is written
module _ (b after : List ℕ) (q x : ℕ) (is : after ≡ overwritten b (4 * q) (to_le_bytes w32 x)) where
  pub one_written : x < 2 ^ 32 → word after q ≡ x
  one_written small = ap (λ l. word l q) is ∙ word_written b q x small

  pub one_beside : (r : ℕ) → q ≢ r → word after r ≡ word b r
  one_beside r no_q = ap (λ l. word l r) is ∙ word_other b q r x no_q

  pub part_beside : (p n : ℕ) → (p + n ≤ 4 * q) ⊎ (4 * q + 4 ≤ p) → filled_part after p n ≡ filled_part b p n
  part_beside p n no_q = ap (λ l. filled_part l p n) is ∙ beside b (to_le_bytes w32 x) (4 * q) p n no_q

-- a number, and the header's two numbers of the tables' sectors
module _ (b after : List ℕ) (q x y z : ℕ) (is : after ≡ overwritten (overwritten (overwritten b (4 * q) (to_le_bytes w32 x)) 44 (to_le_bytes w32 y)) 72 (to_le_bytes w32 z)) (differ : 19 ≤ q) where
  abbrev mid : List ℕ
  mid = overwritten b (4 * q) (to_le_bytes w32 x)

  abbrev counted : List ℕ
  counted = overwritten mid (4 * 11) (to_le_bytes w32 y)

  pub first_written : x < 2 ^ 32 → word after q ≡ x
  first_written small = one_beside counted after 18 z is q (omega (arith, differ)) ∙ one_beside mid counted 11 y refl q (omega (arith, differ)) ∙ word_written b q x small

  pub fat_counted : y < 2 ^ 32 → word after 11 ≡ y
  fat_counted small = one_beside counted after 18 z is 11 (omega arith) ∙ word_written mid 11 y small

  pub difat_counted : z < 2 ^ 32 → word after 18 ≡ z
  difat_counted small = one_written counted after 18 z is small

  pub other_words : (r : ℕ) → q ≢ r → 11 ≢ r → 18 ≢ r → word after r ≡ word b r
  other_words r no_q no_fat no_difat = one_beside counted after 18 z is r no_difat ∙ one_beside mid counted 11 y refl r no_fat ∙ word_other b q r x no_q

  pub other_parts : (p n : ℕ) → (p + n ≤ 4 * q) ⊎ (4 * q + 4 ≤ p) → (p + n ≤ 4 * 11) ⊎ (4 * 11 + 4 ≤ p) → (p + n ≤ 4 * 18) ⊎ (4 * 18 + 4 ≤ p) → filled_part after p n ≡ filled_part b p n
  other_parts p n no_q no_fat no_difat = part_beside counted after 18 z is p n no_difat ∙ part_beside mid counted 11 y refl p n no_fat ∙ part_beside b mid q x refl p n no_q

-- the place of an entry, in bytes
pub entry_spot : (v : Version) (ds : List ℕ) (k place : ℕ) → k < 109 + length ds * (per v - 1) → (k < 109 → place ≡ 76 + 4 * k)
    → (109 ≤ k → place ≡ sector_start v (get_or ds ((k - 109) / (per v - 1)) 0) + 4 * ((k - 109) % (per v - 1))) → (q : ℕ) × StandsAt v ds k q × (place ≡ 4 * q)
entry_spot v ds k place below front rest = ⊎_elim
    (λ past. let i = (k - 109) / (per v - 1) in let j = (k - 109) % (per v - 1) in
    let parts = split_fewer v (length ds) k past.1 below in
    let start = start_is v (get_or ds i 0) in let at = rest past.1 in
    ((get_or ds i 0 + 1) * per v + j, inr (i, j, parts.0, parts.1, parts.2, refl), spread ((get_or ds i 0 + 1) * per v) j _ place start at))
    (λ before. let at = front before.1 in (19 + k, inl (before.1, refl), omega (arith, at)))
    (leb_tells 109 k)
  where
    spread : (first j start place : ℕ) → start ≡ 4 * first → place ≡ start + 4 * j → place ≡ 4 * (first + j)
    spread first j start place is at = omega arith

-- it is beside what is beside the DIFAT
pub entry_aside_part : (v : Version) (ds : List ℕ) (k q p n : ℕ) → StandsAt v ds k q → IsBeside v ds p n → IsBesideWords p n → (p + n ≤ 4 * q) ⊎ (4 * q + 4 ≤ p)
entry_aside_part v ds k q p n at apart words = ⊎_elim
    (λ a. ⊎_elim (λ front. inl (omega (arith, front, a.1))) (λ more. ⊎_elim (λ mid. inl (omega (arith, mid.1, a.1))) (λ behind. inr (omega (arith, behind, a.0, a.1))) more) words)
    (λ a. let start = start_is v (get_or ds a.0 0) in let long = length_is v in
    ⊎_elim (λ before. inr (after ((get_or ds a.0 0 + 1) * per v) a.1 (per v) q _ _ p a.5 start long a.3 before)) (λ behind. inl (ahead ((get_or ds a.0 0 + 1) * per v) a.1 q _ (p + n) a.5 start behind)) (apart a.0 a.2))
    at
  where
    after : (first j each q start len p : ℕ) → q ≡ first + j → start ≡ 4 * first → len ≡ 4 * each → j < each - 1 → start + len ≤ p → 4 * q + 4 ≤ p
    after first j each q start len p at is long less before = omega arith

    ahead : (first j q start end : ℕ) → q ≡ first + j → start ≡ 4 * first → end ≤ start → end ≤ 4 * q
    ahead first j q start end at is behind = omega arith

pub count_aside : (t p n : ℕ) → (t ≡ 11) ⊎ (t ≡ 17) ⊎ (t ≡ 18) → IsBesideWords p n → (p + n ≤ 4 * t) ⊎ (4 * t + 4 ≤ p)
count_aside t p n is words = ⊎_elim
    (λ front. inl (⊎_elim (λ e. omega (arith, front, e)) (λ e. ⊎_elim (λ f. omega (arith, front, f)) (λ f. omega (arith, front, f)) e) is))
    (λ more. ⊎_elim
    (λ mid. ⊎_elim (λ e. inr (omega (arith, mid.0, e))) (λ e. inl (⊎_elim (λ f. omega (arith, mid.1, f)) (λ f. omega (arith, mid.1, f)) e)) is)
    (λ behind. inr (⊎_elim (λ e. omega (arith, behind, e)) (λ e. ⊎_elim (λ f. omega (arith, behind, f)) (λ f. omega (arith, behind, f)) e) is))
    more)
    words

word_end : (r rows start : ℕ) → start ≡ 4 * rows → r < rows → 4 * r + 4 ≤ start
word_end r rows start is below = omega arith

-- a number of the sectors ends in them
pub ends_before : (v : Version) (count r : ℕ) → r < (count + 1) * per v → 4 * r + 4 ≤ sector_start v count
ends_before v count r below = word_end r ((count + 1) * per v) (sector_start v count) (start_is v count) below

-- the numbers before what was appended
pub words_before : (v : Version) (old mid : List ℕ) (count r : ℕ) → ((p n : ℕ) → p + n ≤ sector_start v count → filled_part mid p n ≡ filled_part old p n) → r < (count + 1) * per v → word mid r ≡ word old r
words_before v old mid count r kept below = word_same old mid r (kept (4 * r) 4 (ends_before v count r below))

-- where the DIFAT names a sector more of it: in the header, or in its last sector
abbrev pub IsLink : Version → List ℕ → ℕ → Type 0
IsLink v ds q = (length ds ≡ 0 → q ≡ 17) × (0 < length ds → q ≡ next_at v (get_or ds (length ds - 1) 0))

pub link_spot : (v : Version) (ds : List ℕ) (place : ℕ) → (length ds ≡ 0 → place ≡ 68) → (0 < length ds → place ≡ sector_start v (get_or ds (length ds - 1) 0) + (sector_len v - 4)) → (q : ℕ) × IsLink v ds q × (place ≡ 4 * q)
link_spot v [] place first last = let at = first (omega arith) in (17, ((λ none. refl), (λ some. absurd (omega arith))), omega (arith, at))
link_spot v (x ∷ ds) place first last = let at = last (omega arith) in (
  next_at v (get_or (x ∷ ds) (length (x ∷ ds) - 1) 0),
  ((λ none. absurd (omega arith)), (λ some. refl)),
  in_words v (get_or (x ∷ ds) (length (x ∷ ds) - 1) 0) place at,
)
  where
    in_words : (v : Version) (n place : ℕ) → place ≡ sector_start v n + (sector_len v - 4) → place ≡ 4 * next_at v n
    in_words V3 n place is = omega (arith, is)
    in_words V4 n place is = omega (arith, is)

pub link_before : (v : Version) (ds : List ℕ) (q count : ℕ) → AreBelow count ds → IsLink v ds q → q < (count + 1) * per v
link_before v [] q count below at = let is = at.0 (omega arith) in let far = behind_words v count 0 in omega (arith, is, far)
link_before v (x ∷ ds) q count below at = subst (λ n. n < (count + 1) * per v) (sym (at.1 (omega arith))) (next_before v (get_or (x ∷ ds) (length (x ∷ ds) - 1) 0) count (below (length (x ∷ ds) - 1) (omega arith)))

pub link_aside_part : (v : Version) (ds : List ℕ) (q p n : ℕ) → IsLink v ds q → IsBeside v ds p n → IsBesideWords p n → (p + n ≤ 4 * q) ⊎ (4 * q + 4 ≤ p)
link_aside_part v [] q p n at apart words = subst (λ m. (p + n ≤ 4 * m) ⊎ (4 * m + 4 ≤ p)) (sym (at.0 (omega arith))) (count_aside 17 p n (inr (inl refl)) words)
link_aside_part v (x ∷ ds) q p n at apart words =
    let id = get_or (x ∷ ds) (length (x ∷ ds) - 1) 0 in
    ⊎_elim (λ before. inr (after v id q p (at.1 (omega arith)) before)) (λ behind. inl (ahead v id q (p + n) (at.1 (omega arith)) behind)) (apart (length (x ∷ ds) - 1) (omega arith))
  where
    after : (v : Version) (id q p : ℕ) → q ≡ next_at v id → sector_start v id + sector_len v ≤ p → 4 * q + 4 ≤ p
    after V3 id q p is before = omega (arith, is, before)
    after V4 id q p is before = omega (arith, is, before)

    ahead : (v : Version) (id q end : ℕ) → q ≡ next_at v id → end ≤ sector_start v id → end ≤ 4 * q
    ahead V3 id q end is behind = omega (arith, is, behind)
    ahead V4 id q end is behind = omega (arith, is, behind)
