-- File and DIFAT end as they did: the file with a whole sector, the DIFAT's chain at its mark.
use Rattle.std.proofs.Common.{◌≡◌, ℕ, ◌+◌, ◌-◌, ◌*◌, ◌/◌, ◌<◌, ◌≤◌, ◌%◌, inr, List, [], ◌∷◌, ◌++◌, length, get_or, refl, ap, sym, subst, ◌∙◌, arith, length-append, length-drop, length-take}
use Rattle.std.proofs.Math.Seq.{get_or-append_right}
use Rattle.std.proofs.lemmas.List.{get_or_append_left, length-replicate}
use Rattle.cfb_medium.specs.Bytes.{overwritten}
use Rattle.cfb_medium.specs.Numbers.{u32_at}
use Rattle.cfb_medium.specs.Versions.{sector_len}
use Rattle.cfb_medium.specs.declared.version.Version.{Version}
use Rattle.cfb_medium.specs.declared.version.Version.TheVariants.{V3, V4}
use Rattle.cfb_sectors.specs.Header.{first_difat_sector}
use Rattle.cfb_sectors.specs.Sectors.{end_of_chain, filled_part, greatest_regular, sector, sector_start, sectors_in, DifatChain}
use Rattle.cfb_chains.specs.Changes.{AreDistinct, IsBeside, IsNotIn}
use Rattle.cfb_chains.proofs.ChainWriting.{length_within}
use Rattle.cfb_chains.proofs.Overwriting.{over_longer}
use Rattle.cfb_chains.proofs.Staying.{apart}
use Rattle.cfb_fat.specs.Listed.{stop_behind, EndsAsStrict, EndsAtSector, Lists}
use Rattle.cfb_fat.specs.Orderly.{AreBelow, IsBesideWords}
use Rattle.cfb_fat.proofs.Entering.{rest_below}
use Rattle.cfb_fat.proofs.FatEntries.{entry_fits, per}
use Rattle.cfb_fat.proofs.ListedStays.{behind_header, first_aside, later, sectors_kept, word_kept, SameSectors}
use Rattle.cfb_fat.proofs.Listing.{header_whole}
use Rattle.cfb_fat.proofs.ListsNow.{lists_now, stop_is}

-- what lies in the sectors of a whole file lies in the file
reach : (v : Version) (b : List ℕ) (count place n : ℕ) → count ≡ sectors_in v (length b) → 0 < count → EndsAtSector v b → place + n ≤ sector_start v count → place + n ≤ length b
reach V3 b count place n counted some whole fits = omega (arith, counted, some, whole, fits)
reach V4 b count place n counted some whole fits = omega (arith, counted, some, whole, fits)

-- so a write there leaves its length
pub whole_over : (v : Version) (b after xs : List ℕ) (count place : ℕ) → count ≡ sectors_in v (length b) → 0 < count → after ≡ overwritten b place xs → place + length xs ≤ sector_start v count
    → EndsAtSector v b → EndsAtSector v after
whole_over v b after xs count place counted some written fits whole =
    subst (λ n. n % sector_len v ≡ 0) (sym (ap length written ∙ length_within b xs place (reach v b count place (length xs) counted some whole fits))) whole

pub in_sector : (v : Version) (n k count : ℕ) → n < count → k ≤ sector_len v → sector_start v n + k ≤ sector_start v count
in_sector V3 n k count below fits = omega (arith, below, fits)
in_sector V4 n k count below fits = omega (arith, below, fits)

-- a sector's number is none of the FAT's where it is one of the DIFAT's
none_of_fat : (ds fs : List ℕ) (k : ℕ) → AreDistinct (ds ++ fs) → k < length ds → IsNotIn fs (get_or ds k 0)
none_of_fat ds fs k once below i inside same =
    let size = length-append ds fs in
    let here : get_or (ds ++ fs) (length ds + i) 0 ≡ get_or fs i 0 = get_or-append_right ds fs (length ds + i) 0 (omega arith) ∙ ap (λ m. get_or fs m 0) (omega arith) in
    let equal = once k (length ds + i) (omega (arith, size, below)) (omega (arith, size, inside)) (get_or_append_left ds fs 0 k below ∙ sym same ∙ sym here) in
    omega (arith, equal, below)

stop_kept : (v : Version) (old new : List ℕ) (start : ℕ) (ds : List ℕ) (stop : ℕ) → SameSectors v old new ds → DifatChain v old start ds stop → stop_behind v new start ds ≡ stop_behind v old start ds
stop_kept v old new start [] stop same chain = refl
stop_kept v old new start (x ∷ ds) stop same (is, there, rest) =
    let here : sector v new start ≡ sector v old start = subst (λ n. sector v new n ≡ sector v old n) is (same 0 (omega arith)) in
    ap (λ s. stop_behind v new (u32_at s (sector_len v - 4)) ds) here ∙ stop_kept v old new (u32_at (sector v old start) (sector_len v - 4)) ds stop (later v old new x ds same) rest

-- the DIFAT's first number and its sectors are as they were
pub ends_kept : (v : Version) (old new ds fs : List ℕ) → 512 ≤ length old → 512 ≤ length new → filled_part new 68 4 ≡ filled_part old 68 4 → SameSectors v old new ds → ∥ Lists v old ds fs ∥₁
    → EndsAtSector v new → EndsAsStrict v old ds → EndsAsStrict v new ds
ends_kept v old new ds fs in_old in_new first same listed whole h = record {
  whole = whole;
  stop = ap (λ s. stop_behind v new s ds) (word_kept old new 68 (omega (arith, in_old)) (omega (arith, in_new)) first)
      ∙ (let had = lists_now v old ds fs listed in stop_kept v old new (first_difat_sector old) ds had.stop same had.chain) ∙ h.stop;
}

-- all beside the FAT's sectors is as it was
pub ends_beside : (v w : Version) (old new ds fs : List ℕ) → w ≡ v → 512 ≤ length old → length old ≤ length new → AreDistinct (ds ++ fs)
    → ((place count : ℕ) → IsBeside v fs place count → filled_part new place count ≡ filled_part old place count) → ∥ Lists v old ds fs ∥₁ → (EndsAtSector v old → EndsAtSector v new) → EndsAsStrict v old ds → EndsAsStrict w new ds
ends_beside v w old new ds fs version in_old longer once kept listed whole h = subst (λ u. EndsAsStrict u new ds) (sym version) (ends_kept v old new ds fs in_old (omega (arith, in_old, longer))
    (kept 68 4 (λ k below. inr (let far = behind_header v (get_or fs k 0) in omega (arith, far))))
    (λ k below. kept (sector_start v (get_or ds k 0)) (sector_len v) (apart v fs (get_or ds k 0) (none_of_fat ds fs k once below)))
    listed (whole h.whole) h)

-- all in the old sectors beside the FAT's is as it was
pub ends_in_front : (v w : Version) (old new ds fs : List ℕ) (count : ℕ) → w ≡ v → 512 ≤ length old → length old ≤ length new → AreDistinct (ds ++ fs) → AreBelow count ds
    → ((place n : ℕ) → place + n ≤ sector_start v count → IsBeside v fs place n → filled_part new place n ≡ filled_part old place n) → ∥ Lists v old ds fs ∥₁ → EndsAtSector v new → EndsAsStrict v old ds → EndsAsStrict w new ds
ends_in_front v w old new ds fs count version in_old longer once there kept listed whole h = subst (λ u. EndsAsStrict u new ds) (sym version) (ends_kept v old new ds fs in_old (omega (arith, in_old, longer))
    (kept 68 4 (let far = behind_header v count in omega (arith, far)) (λ k below. inr (let far = behind_header v (get_or fs k 0) in omega (arith, far))))
    (λ k below. kept (sector_start v (get_or ds k 0)) (sector_len v) (in_sector v (get_or ds k 0) (sector_len v) count (there k below) (omega arith)) (apart v fs (get_or ds k 0) (none_of_fat ds fs k once below)))
    listed whole h)

-- these bytes were written beside the words and the DIFAT
pub ends_over : (v w : Version) (b after xs ds fs : List ℕ) (place count : ℕ) → w ≡ v → after ≡ overwritten b place xs → count ≡ sectors_in v (length b) → 0 < count → place + length xs ≤ sector_start v count
    → IsBesideWords place (length xs) → IsBeside v ds place (length xs) → ∥ Lists v b ds fs ∥₁ → EndsAsStrict v b ds → EndsAsStrict w after ds
ends_over v w b after xs ds fs place count version written counted some fits words aside listed h =
    let in_old = header_whole v b count counted some in
    let more = subst (λ l. length b ≤ length l) (sym written) (over_longer b xs place) in
    subst (λ u. EndsAsStrict u after ds) (sym version) (ends_kept v b after ds fs in_old (omega (arith, in_old, more))
    (first_aside v b after xs ds fs place written words aside) (sectors_kept v b after xs ds fs place written words aside) listed
    (whole_over v b after xs count place counted some written fits h.whole) h)

-- the DIFAT is listed with this mark at its end
pub ends_at : (v w : Version) (b ds fs : List ℕ) → w ≡ v → (m : Lists v b ds fs) → m.stop ≡ end_of_chain → EndsAtSector v b → EndsAsStrict w b ds
ends_at v w b ds fs version m stop whole = subst (λ u. EndsAsStrict u b ds) (sym version) (record { whole = whole; stop = sym (stop_is v b (first_difat_sector b) ds m.stop m.chain) ∙ stop })

-- it is listed with that of an earlier state
pub ends_listed : (v w : Version) (old new ds fs gs : List ℕ) → w ≡ v → (h : Lists v old ds fs) → (m : Lists v new ds gs) → m.stop ≡ h.stop → EndsAtSector v new → EndsAsStrict v old ds → EndsAsStrict w new ds
ends_listed v w old new ds fs gs version h m same whole ends =
    ends_at v w new ds gs version m (same ∙ stop_is v old (first_difat_sector old) ds h.stop h.chain ∙ ends.stop) whole

-- the DIFAT of these sectors names one of the FAT more, as of any list that is this one
pub named_in : (v : Version) (old new l ds fs : List ℕ) (n size : ℕ) → l ≡ ds → (AreDistinct l → (xs : List ℕ) → length xs ≡ size → (h : Lists v old l xs) → (m : Lists v new l (xs ++ n ∷ [])) × (m.stop ≡ h.stop))
    → AreDistinct ds → length fs ≡ size → (h : Lists v old ds fs) → (m : Lists v new ds (fs ++ n ∷ [])) × (m.stop ≡ h.stop)
named_in v old new l ds fs n size same listed =
    subst (λ d. AreDistinct d → length fs ≡ size → (h : Lists v old d fs) → (m : Lists v new d (fs ++ n ∷ [])) × (m.stop ≡ h.stop)) same (λ once long. listed once fs long)

-- it got a sector more, and then names one of the FAT more
pub both_in : (v w : Version) (old mid new l k ds fs : List ℕ) (n next size : ℕ) → w ≡ v → l ≡ ds → k ≡ ds ++ n ∷ []
    → (AreDistinct l → (xs : List ℕ) → Lists v old l xs → (m : Lists v mid (l ++ n ∷ []) xs) × (m.stop ≡ end_of_chain))
    → (AreDistinct k → (xs : List ℕ) → length xs ≡ size → (h : Lists w mid k xs) → (m : Lists w new k (xs ++ next ∷ [])) × (m.stop ≡ h.stop))
    → AreDistinct ds → AreDistinct (ds ++ n ∷ []) → length fs ≡ size → Lists v old ds fs → (m : Lists w new (ds ++ n ∷ []) (fs ++ next ∷ [])) × (m.stop ≡ end_of_chain)
both_in v w old mid new l k ds fs n next size version same longer linked named once once_more long h =
    let first = subst (λ d. AreDistinct d → Lists v old d fs → (m : Lists v mid (d ++ n ∷ []) fs) × (m.stop ≡ end_of_chain)) same (λ single. linked single fs) once h in
    let one = subst (λ u. (m : Lists u mid (ds ++ n ∷ []) fs) × (m.stop ≡ end_of_chain)) (sym version) first in
    let two = named_in w mid new k (ds ++ n ∷ []) fs next size longer named once_more long one.0 in
    (two.0, two.1 ∙ one.1)

-- a sector behind all ends a file
pub length_past : (b xs : List ℕ) (at : ℕ) → 0 < length xs → length b ≤ at + length xs → length (overwritten b at xs) ≡ at + length xs
length_past b [] at some past = absurd (omega arith)
length_past b (x ∷ xs) at some past = simp (length-append, length-take, length-drop, length-replicate) (omega arith)

pub behind_all : (v : Version) (len count : ℕ) → count ≡ sectors_in v len → count ≤ greatest_regular → len ≤ sector_start v count
behind_all V3 len count counted few = omega (arith, counted, few)
behind_all V4 len count counted few = omega (arith, counted, few)

pub whole_sector : (v : Version) (n : ℕ) → (sector_start v n + sector_len v) % sector_len v ≡ 0
whole_sector V3 n = omega arith
whole_sector V4 n = omega arith

-- an entry of the FAT lies in the file's sectors
pub entry_inside : (v : Version) (fs : List ℕ) (index holder each count : ℕ) → each ≡ per v → holder ≡ get_or fs (index / each) 0 → index / each < length fs → AreBelow count fs
    → sector_start v holder + 4 * (index % each) + 4 ≤ sector_start v count
entry_inside v fs index holder each count is_each is_holder below there =
    let fits = entry_fits v (index % each) (subst (λ e. index % e < per v) (sym is_each) (rest_below v index)) in
    let inside = in_sector v holder (4 * (index % each) + 4) count (subst (λ n. n < count) (sym is_holder) (there (index / each) below)) fits in
    omega (arith, inside)
