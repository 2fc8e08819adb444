-- What sectors hold that are taken into use.
use Rattle.std.proofs.Common.{◌≡◌, ℕ, ◌+◌, ◌-◌, ◌*◌, ◌<◌, ◌^◌, [], ◌∷◌, ◌++◌, length, take, drop, replicate, zero, suc, refl, ap, sym, ◌∙◌, arith, length-append}
use Rattle.std.specs.List.{AllByRecursion}
use Rattle.std.specs.Int.{w32, from_le_bytes, to_le_bytes}
use Rattle.std.proofs.Math.Seq.{drop-append_seam}
use Rattle.std.proofs.lemmas.Grind.{flat_map-append}
use Rattle.std.proofs.lemmas.List.{append-nil, length-replicate}
use Rattle.cfb_medium.specs.Numbers.{number_bytes, numbers, u32_at}
use Rattle.cfb_medium.specs.Versions.{sector_len}
use Rattle.cfb_medium.specs.declared.version.Version.{Version}
use Rattle.cfb_medium.specs.declared.version.Version.TheVariants.{V3, V4}
use Rattle.cfb_medium.proofs.WrittenNumbers.{length-number_bytes, numbers_again}
use Rattle.cfb_sectors.specs.Initial.{first_bytes, initial}
use Rattle.cfb_sectors.proofs.Filling.{length-padded}
use Rattle.cfb_sectors.specs.Sectors.{end_of_chain, free}
use Rattle.cfb_sectors.specs.declared.initial.NewSector.{NewSector}
use Rattle.cfb_sectors.specs.declared.initial.NewSector.TheVariants.{Bytes, Init}
use Rattle.cfb_sectors.specs.declared.initial.SectorInit.{SectorInit}
use Rattle.cfb_sectors.specs.declared.initial.SectorInit.TheVariants.{Zero, Fat, Difat, Dir}
use Rattle.cfb_fat.proofs.FatEntries.{per}
use Rattle.cfb_fat.proofs.Joining.{take_front}

pub whole : (v : Version) → 4 * per v ≡ sector_len v
whole V3 = omega arith
whole V4 = omega arith

pub some_bytes : (v : Version) → 0 < sector_len v
some_bytes V3 = omega arith
some_bytes V4 = omega arith

all_but_one : (v : Version) → 4 * (per v - 1) ≡ sector_len v - 4
all_but_one V3 = omega arith
all_but_one V4 = omega arith

one_more : (v : Version) → 4 * (per v - 1 + 1) ≡ sector_len v
one_more V3 = omega arith
one_more V4 = omega arith

pub length-initial : (init : SectorInit) (v : Version) → length (initial init (sector_len v)) ≡ sector_len v
unfolding initial
length-initial Zero v = length-replicate (sector_len v) 0
length-initial Fat v = length-number_bytes (replicate (per v) free) ∙ ap (λ n. 4 * n) (length-replicate (per v) free) ∙ whole v
length-initial Difat v =
    length-number_bytes (replicate (per v - 1) free ++ end_of_chain ∷ []) ∙ ap (λ n. 4 * n) (length-append (replicate (per v - 1) free) (end_of_chain ∷ []) ∙ ap (λ n. n + 1) (length-replicate (per v - 1) free))
    ∙ one_more v
length-initial Dir V3 = refl
length-initial Dir V4 = refl

pub length-first : (n : NewSector) (v : Version) → length (first_bytes n (sector_len v)) ≡ sector_len v
length-first (Init init) v = length-initial init v
length-first (Bytes front) v = length-padded (sector_len v) front.now

small_replicate : (n : ℕ) → AllByRecursion (λ x. x < 2 ^ 32) (replicate n free)
small_replicate zero = tt
small_replicate (suc n) = (omega arith, small_replicate n)

pub fat_content : (v : Version) → numbers (initial Fat (sector_len v)) ≡ replicate (per v) free
unfolding initial
fat_content v = numbers_again (replicate (per v) free) (small_replicate (per v))

difat_bytes : (v : Version) → initial Difat (sector_len v) ≡ number_bytes (replicate (per v - 1) free) ++ to_le_bytes w32 end_of_chain
unfolding initial
difat_bytes v = flat_map-append (to_le_bytes w32) (replicate (per v - 1) free) (end_of_chain ∷ []) ∙ ap (λ l. number_bytes (replicate (per v - 1) free) ++ l) (append-nil (to_le_bytes w32 end_of_chain))

front_size : (v : Version) → length (number_bytes (replicate (per v - 1) free)) ≡ sector_len v - 4
front_size v = length-number_bytes (replicate (per v - 1) free) ∙ ap (λ n. 4 * n) (length-replicate (per v - 1) free) ∙ all_but_one v

pub difat_entries : (v : Version) → numbers (take (sector_len v - 4) (initial Difat (sector_len v))) ≡ replicate (per v - 1) free
difat_entries v =
    ap (λ l. numbers (take (sector_len v - 4) l)) (difat_bytes v) ∙ ap numbers (take_front (sector_len v - 4) (number_bytes (replicate (per v - 1) free)) (to_le_bytes w32 end_of_chain) (front_size v))
    ∙ numbers_again (replicate (per v - 1) free) (small_replicate (per v - 1))

pub difat_next : (v : Version) → u32_at (initial Difat (sector_len v)) (sector_len v - 4) ≡ end_of_chain
difat_next v =
    let four : sector_len v - 4 + 4 - (sector_len v - 4) ≡ 4 = omega arith in
    let rest : drop (sector_len v - 4) (initial Difat (sector_len v)) ≡ to_le_bytes w32 end_of_chain =
    ap (drop (sector_len v - 4)) (difat_bytes v) ∙ ap (λ n. drop n (number_bytes (replicate (per v - 1) free) ++ to_le_bytes w32 end_of_chain)) (sym (front_size v))
    ∙ drop-append_seam (number_bytes (replicate (per v - 1) free)) (to_le_bytes w32 end_of_chain) in
    ap (λ k. from_le_bytes w32 (take k (drop (sector_len v - 4) (initial Difat (sector_len v))))) four ∙ ap (λ l. from_le_bytes w32 (take 4 l)) rest
