-- What header and DIFAT list stays where the header's words of the tables and the DIFAT's sectors do.
use Rattle.std.proofs.Common.{◌≡◌, ℕ, ◌+◌, ◌-◌, ◌/◌, ◌%◌, ◌*◌, ◌<◌, ◌≤◌, ◌⊎◌, inl, inr, List, [], ◌∷◌, ◌++◌, length, take, drop, get_or, suc, refl, ap, sym, subst, ◌∙◌, arith, ⊎_elim, length-append}
use Rattle.std.specs.List.{flat_map}
use Rattle.std.specs.Int.{w32, from_le_bytes}
use Rattle.std.proofs.lemmas.List.{get_or_append_left}
use Rattle.std.proofs.Math.Seq.{get_or-append_right}
use Rattle.cfb_medium.specs.Bytes.{overwritten}
use Rattle.cfb_medium.specs.Numbers.{numbers, u32_at}
use Rattle.cfb_medium.specs.Versions.{sector_len}
use Rattle.cfb_medium.specs.declared.version.Version.{Version}
use Rattle.cfb_medium.specs.declared.version.Version.TheVariants.{V3, V4}
use Rattle.cfb_sectors.specs.Header.{header_difat}
use Rattle.cfb_sectors.specs.Sectors.{filled_part, sector, sector_start, sectors_in, DifatChain}
use Rattle.cfb_fat.specs.Listed.{Counts, Lists}
use Rattle.cfb_chains.specs.Changes.{AreDistinct, IsBeside, IsNotIn}
use Rattle.cfb_fat.specs.Orderly.{IsBesideWords}
use Rattle.cfb_fat.proofs.DifatChains.{below_in_file, in_file_below}
use Rattle.cfb_fat.proofs.Entering.{rest_below}
use Rattle.cfb_fat.proofs.FatEntries.{entry_fits, per}
use Rattle.cfb_fat.proofs.Listing.{header_whole}
use Rattle.cfb_chains.proofs.Overwriting.{beside, over_longer}
use Rattle.cfb_chains.proofs.Staying.{apart}
use Rattle.cfb_fat.proofs.Words.{filled_is}

-- the sectors of the DIFAT hold the same
abbrev pub SameSectors : Version → List ℕ → List ℕ → List ℕ → Type 0
SameSectors v old new ds = (k : ℕ) → k < length ds → sector v new (get_or ds k 0) ≡ sector v old (get_or ds k 0)

pub later : (v : Version) (old new : List ℕ) (x : ℕ) (ds : List ℕ) → SameSectors v old new (x ∷ ds) → SameSectors v old new ds
later v old new x ds same k below = same (suc k) (omega arith)

chain_kept : (v : Version) (old new : List ℕ) (start : ℕ) (ds : List ℕ) (stop : ℕ) → sectors_in v (length old) ≤ sectors_in v (length new) → SameSectors v old new ds → DifatChain v old start ds stop → DifatChain v new start ds stop
chain_kept v old new start [] stop more same chain = chain
chain_kept v old new start (x ∷ ds) stop more same (is, there, rest) =
    let here : sector v new start ≡ sector v old start = subst (λ n. sector v new n ≡ sector v old n) is (same 0 (omega arith)) in (
      is,
      below_in_file v new start (let below = in_file_below v old start there in omega (arith, below, more)),
      subst (λ s. DifatChain v new (u32_at s (sector_len v - 4)) ds stop) (sym here) (chain_kept v old new (u32_at (sector v old start) (sector_len v - 4)) ds stop more (later v old new x ds same) rest),
    )

entries_kept : (v : Version) (old new : List ℕ) (ds : List ℕ) → SameSectors v old new ds
    → flat_map (λ n. numbers (take (sector_len v - 4) (sector v new n))) ds ≡ flat_map (λ n. numbers (take (sector_len v - 4) (sector v old n))) ds
entries_kept v old new [] same = refl
entries_kept v old new (x ∷ ds) same =
    let first : sector v new x ≡ sector v old x = same 0 (omega arith) in
    ap (λ s. numbers (take (sector_len v - 4) s) ++ flat_map (λ n. numbers (take (sector_len v - 4) (sector v new n))) ds) first
    ∙ ap (λ l. numbers (take (sector_len v - 4) (sector v old x)) ++ l) (entries_kept v old new ds (later v old new x ds same))

pub word_kept : (old new : List ℕ) (p : ℕ) → p + 4 ≤ length old → p + 4 ≤ length new → filled_part new p 4 ≡ filled_part old p 4 → u32_at new p ≡ u32_at old p
word_kept old new p in_old in_new same =
    let four : p + 4 - p ≡ 4 = omega arith in
    ap (λ k. from_le_bytes w32 (take k (drop p new))) four ∙ ap (from_le_bytes w32) (sym (filled_is new p 4 in_new) ∙ same ∙ filled_is old p 4 in_old)
    ∙ ap (λ k. from_le_bytes w32 (take k (drop p old))) (sym four)

header_kept : (old new : List ℕ) → 512 ≤ length old → 512 ≤ length new → filled_part new 76 436 ≡ filled_part old 76 436 → header_difat new ≡ header_difat old
header_kept old new in_old in_new same = ap numbers (sym (filled_is new 76 436 (omega (arith, in_new))) ∙ same ∙ filled_is old 76 436 (omega (arith, in_old)))

-- the words and the DIFAT's sectors are as they were
pub listed_kept : (v : Version) (old new ds fs : List ℕ) → 512 ≤ length old → 512 ≤ length new → sectors_in v (length old) ≤ sectors_in v (length new)
    → filled_part new 68 4 ≡ filled_part old 68 4 → filled_part new 76 436 ≡ filled_part old 76 436
    → SameSectors v old new ds → Lists v old ds fs → Lists v new ds fs
listed_kept v old new ds fs in_old in_new more first header same h = record {
  stop = h.stop;
  stops = h.stops;
  chain = subst (λ s. DifatChain v new s ds h.stop) (sym (word_kept old new 68 (omega (arith, in_old)) (omega (arith, in_new)) first)) (chain_kept v old new (u32_at old 68) ds h.stop more same h.chain);
  unused = h.unused;
  entries = ap (λ l. l ++ flat_map (λ n. numbers (take (sector_len v - 4) (sector v new n))) ds) (header_kept old new in_old in_new header) ∙ ap (λ l. header_difat old ++ l) (entries_kept v old new ds same) ∙ h.entries;
}

-- the header's numbers of the tables' sectors are as they were
pub told_kept : (old new ds fs : List ℕ) → 512 ≤ length old → 512 ≤ length new → filled_part new 44 4 ≡ filled_part old 44 4 → filled_part new 72 4 ≡ filled_part old 72 4 → Counts old ds fs → Counts new ds fs
told_kept old new ds fs in_old in_new fat difat h = record {
  difat_count = word_kept old new 72 (omega (arith, in_old)) (omega (arith, in_new)) difat ∙ h.difat_count;
  fat_count = word_kept old new 44 (omega (arith, in_old)) (omega (arith, in_new)) fat ∙ h.fat_count;
}

-- a write cuts nothing off
pub longer_over : (b after xs : List ℕ) (place : ℕ) → after ≡ overwritten b place xs → length b ≤ length after
longer_over b after xs place written = subst (λ l. length b ≤ length l) (sym written) (over_longer b xs place)

-- after a write behind the header
pub told_over : (b after xs ds fs : List ℕ) (place : ℕ) → after ≡ overwritten b place xs → 512 ≤ place → 512 ≤ length b → Counts b ds fs → Counts after ds fs
told_over b after xs ds fs place written far in_old h =
    let more = longer_over b after xs place written in
    told_kept b after ds fs in_old (omega (arith, in_old, more)) (ap (λ l. filled_part l 44 4) written ∙ beside b xs place 44 4 (inl (omega (arith, far)))) (ap (λ l. filled_part l 72 4) written ∙ beside b xs place 72 4 (inl (omega (arith, far)))) h

module _ (v : Version) (b after xs ds fs : List ℕ) (place : ℕ) (written : after ≡ overwritten b place xs) (words : IsBesideWords place (length xs)) (difat_apart : IsBeside v ds place (length xs)) where
  kept : (p n : ℕ) → (p + n ≤ place) ⊎ (place + length xs ≤ p) → filled_part after p n ≡ filled_part b p n
  kept p n aside = ap (λ l. filled_part l p n) written ∙ beside b xs place p n aside

  word_aside : (p n : ℕ) → ((44 ≤ p) × (p + n ≤ 48)) ⊎ ((68 ≤ p) × (p + n ≤ 512)) → (p + n ≤ place) ⊎ (place + length xs ≤ p)
  word_aside p n at = ⊎_elim
      (λ front. inr (⊎_elim (λ a. omega (arith, a.0, front)) (λ a. omega (arith, a.0, front)) at))
      (λ rest. ⊎_elim
      (λ mid. ⊎_elim (λ a. inl (omega (arith, a.1, mid.0))) (λ a. inr (omega (arith, a.0, mid.1))) at)
      (λ behind. inl (⊎_elim (λ a. omega (arith, a.1, behind)) (λ a. omega (arith, a.1, behind)) at))
      rest)
      words

  pub first_aside : filled_part after 68 4 ≡ filled_part b 68 4
  first_aside = kept 68 4 (word_aside 68 4 (inr (omega arith, omega arith)))

  pub sectors_kept : SameSectors v b after ds
  sectors_kept k below = kept (sector_start v (get_or ds k 0)) (sector_len v) (⊎_elim (λ before. inl before) (λ behind. inr behind) (difat_apart k below))

  pub listed_over : 512 ≤ length b → 512 ≤ length after → sectors_in v (length after) ≡ sectors_in v (length b) → (Lists v b ds fs → Lists v after ds fs) × (Lists v after ds fs → Lists v b ds fs)
  listed_over in_old in_new same =
      let at_76 = kept 76 436 (word_aside 76 436 (inr (omega arith, omega arith))) in (
        listed_kept v b after ds fs in_old in_new (omega (arith, same)) first_aside at_76 sectors_kept,
        listed_kept v after b ds fs in_new in_old (omega (arith, same)) (sym first_aside) (sym at_76) (λ k below. sym (sectors_kept k below)),
      )

-- as the sectors tell it
pub listed_still : (v w : Version) (b after xs ds fs : List ℕ) (place count n : ℕ) → w ≡ v → n ≡ count → after ≡ overwritten b place xs → count ≡ sectors_in v (length b) → n ≡ sectors_in w (length after) → 0 < count
    → IsBesideWords place (length xs) → IsBeside v ds place (length xs) → (Lists v b ds fs → Lists w after ds fs) × (Lists w after ds fs → Lists v b ds fs)
listed_still v w b after xs ds fs place count n version same written counted counted_now some words difat_apart =
    let now : n ≡ sectors_in v (length after) = counted_now ∙ ap (λ u. sectors_in u (length after)) version in
    subst (λ u. (Lists v b ds fs → Lists u after ds fs) × (Lists u after ds fs → Lists v b ds fs)) (sym version)
    (listed_over v b after xs ds fs place written words difat_apart (header_whole v b count counted some) (header_whole v after n now (omega (arith, same, some))) (sym now ∙ same ∙ counted))

pub behind_header : (v : Version) (n : ℕ) → 512 ≤ sector_start v n
behind_header V3 n = omega arith
behind_header V4 n = omega arith

-- after a write in a sector
pub told_in : (v : Version) (b after xs ds fs : List ℕ) (n o : ℕ) → after ≡ overwritten b (sector_start v n + o) xs → 512 ≤ length b → Counts b ds fs → Counts after ds fs
told_in v b after xs ds fs n o written = let far = behind_header v n in told_over b after xs ds fs (sector_start v n + o) written (omega (arith, far))

-- a part of a sector that is none of these
pub part_aside : (v : Version) (ds : List ℕ) (n o k : ℕ) → IsNotIn ds n → o + k ≤ sector_len v → IsBeside v ds (sector_start v n + o) k
part_aside v ds n o k none fits i below = ⊎_elim (λ before. inl (omega (arith, before))) (λ behind. inr (omega (arith, behind, fits))) (apart v ds n none i below)

-- a sector of the FAT is none of the DIFAT
pub none_of_difat : (ds fs : List ℕ) (i n : ℕ) → AreDistinct (ds ++ fs) → i < length fs → n ≡ get_or fs i 0 → IsNotIn ds n
none_of_difat ds fs i n once below is k inside same =
    let size = length-append ds fs in
    let here : get_or (ds ++ fs) (length ds + i) 0 ≡ get_or fs i 0 = get_or-append_right ds fs (length ds + i) 0 (omega arith) ∙ ap (λ m. get_or fs m 0) (omega arith) in
    let equal = once k (length ds + i) (omega (arith, size, inside)) (omega (arith, size, below)) (get_or_append_left ds fs 0 k inside ∙ same ∙ is ∙ sym here) in
    omega (arith, equal, inside)

-- an entry of the FAT is beside the words and the DIFAT
pub entry_aside : (v : Version) (ds fs xs : List ℕ) (index holder each : ℕ) → length xs ≡ 4 → each ≡ per v → index / each < length fs → holder ≡ get_or fs (index / each) 0 → AreDistinct (ds ++ fs)
    → IsBesideWords (sector_start v holder + 4 * (index % each)) (length xs) × IsBeside v ds (sector_start v holder + 4 * (index % each)) (length xs)
entry_aside v ds fs xs index holder each four is_each below is_holder once =
    let offset : index % each < per v = subst (λ e. index % e < per v) (sym is_each) (rest_below v index) in
    let fits = entry_fits v (index % each) offset in
    let start = behind_header v holder in
    (inr (inr (omega (arith, start))), part_aside v ds holder (4 * (index % each)) (length xs) (none_of_difat ds fs (index / each) holder once below is_holder) (omega (arith, four, fits)))
