-- What an allocator keeps, after a sector of the FAT was appended.
use Rattle.std.proofs.Common.{◌≡◌, ℕ, ◌+◌, ◌*◌, ◌<◌, ◌≤◌, false, List, [], ◌∷◌, ◌++◌, length, take, replicate, get_or, ap, sym, subst, ◌∙◌, arith, append_assoc, length-append}
use Rattle.std.proofs.lemmas.List.{length-replicate}
use Rattle.cfb_medium.specs.Versions.{sector_len}
use Rattle.cfb_medium.specs.declared.medium.ReadMedium.{Ghosts}
use Rattle.cfb_medium.specs.declared.version.Version.{Version}
use Rattle.cfb_medium.specs.declared.version.Version.TheVariants.{V3, V4}
use Rattle.cfb_sectors.specs.Held.{bytes_of, count_of, has_failed_here, version_of, IsHonest}
use Rattle.cfb_sectors.specs.Initial.{initial}
use Rattle.cfb_sectors.specs.Sectors.{fat_in, free, sector}
use Rattle.cfb_sectors.specs.declared.initial.SectorInit.TheVariants.{Fat}
use Rattle.cfb_sectors.specs.declared.sectors.Sectors.{Sectors}
use Rattle.cfb_fat.specs.Growing.{Appends, IsBesideDifat}
use Rattle.cfb_chains.specs.Changes.{AreDistinct}
use Rattle.cfb_fat.specs.Orderly.{named_at_most, AreBelow, AreTablesConsistent}
use Rattle.cfb_fat.proofs.FatEntries.{length-fat_in, per}
use Rattle.cfb_fat.proofs.Growth.{below_both, below_more, fat_covers, fat_longer, fat_sectors_stay, once_more}

some_entries : (v : Version) → 2 ≤ per v
some_entries V3 = omega arith
some_entries V4 = omega arith

module _ {F : Type 0} {g : Ghosts F} (a b : Sectors F g) (fat fs ds : List ℕ) (more : ℕ) where
  -- the tables before, and what was appended
  pub record Lengthens : Type 0 where
    pub appends : Appends (IsBesideDifat a ds) a b
    pub content : has_failed_here b ≡ false → IsHonest a → sector (version_of a) (bytes_of b) (count_of a) ≡ initial Fat (sector_len (version_of a))
    pub once : AreDistinct (ds ++ fs)
    pub below_ds : AreBelow (count_of a) ds
    pub below_fs : AreBelow (count_of a) fs
    pub full : length fat ≡ length fs * per (version_of a)
    pub before : IsHonest a → (count : ℕ) × (fat ≡ take count (fat_in (version_of a) (bytes_of a) fs)) × (length fat ≡ count)
    pub sum : count_of a + 1 ≡ length fat + more
    pub few : more ≤ 2
    pub room : length fs < named_at_most (version_of a) (length ds)
    pub some : 0 < more

  module _ (h : Lengthens) (live : has_failed_here b ≡ false) where
    pub order_grown : AreTablesConsistent (version_of b) (count_of b) (fat ++ replicate more free) (fs ++ count_of a ∷ []) ds
    order_grown =
        let count = h.appends.count live in
        let size = length-append fat (replicate more free) in
        let many = length-replicate more free in
        let size_fs = length-append fs (count_of a ∷ []) in
        record {
          once = subst AreDistinct (append_assoc ds fs (count_of a ∷ [])) (once_more (ds ++ fs) (count_of a) h.once (below_both (count_of a) ds fs h.below_ds h.below_fs));
          covered = omega (arith, size, many, h.sum, count);
          some = omega (arith, count);
          there = below_more (count_of a) (count_of b) ds (omega (arith, count)) h.below_ds;
          named = subst (λ v. length (fs ++ count_of a ∷ []) ≤ named_at_most v (length ds)) (sym h.appends.version) (omega (arith, size_fs, h.room));
        }

    pub same_grown : IsHonest a → fat ++ replicate more free ≡ take (count_of b) (fat_in (version_of b) (bytes_of b) (fs ++ count_of a ∷ []))
    same_grown honest =
        let v = version_of a in
        let count = h.appends.count live in
        let was = h.before honest in
        let kept = fat_sectors_stay v (bytes_of a) (bytes_of b) ds fs (count_of a) h.once h.below_fs (λ p n fits aside. h.appends.before live honest p n fits aside) in
        let each = some_entries v in
        let all : fat_in v (bytes_of b) (fs ++ count_of a ∷ []) ≡ fat_in v (bytes_of a) fs ++ replicate (per v) free = fat_longer v (bytes_of a) (bytes_of b) fs (count_of a) kept (h.content live honest) in
        let size : length (fat_in v (bytes_of a) fs) ≡ was.0 = length-fat_in v (bytes_of a) fs ∙ sym h.full ∙ was.2 in
        fat_covers fat (fat_in v (bytes_of a) fs) was.0 (per v) (count_of b) more 0 was.1 size (omega (arith, count, h.sum, was.2)) (omega (arith, each, h.few))
        ∙ ap (take (count_of b)) (sym all) ∙ ap (λ u. take (count_of b) (fat_in u (bytes_of b) (fs ++ count_of a ∷ []))) (sym h.appends.version)

    pub there_grown : AreBelow (count_of b) (fs ++ count_of a ∷ [])
    there_grown =
        let count = h.appends.count live in
        below_both (count_of b) fs (count_of a ∷ []) (below_more (count_of a) (count_of b) fs (omega (arith, count)) h.below_fs) (λ k inside. one k inside count)
      where
        one : (k : ℕ) → k < 1 → count_of b ≡ count_of a + 1 → get_or (count_of a ∷ []) k 0 < count_of b
        one k inside count = let first : k ≡ 0 = omega (arith, inside) in subst (λ i. get_or (count_of a ∷ []) i 0 < count_of b) (sym first) (omega (arith, count))

    pub whole_grown : length (fat ++ replicate more free) ≤ length (fs ++ count_of a ∷ []) * per (version_of b)
    whole_grown =
        let size = length-append fat (replicate more free) in
        let many = length-replicate more free in
        let size_fs = length-append fs (count_of a ∷ []) in
        subst (λ v. length (fat ++ replicate more free) ≤ length (fs ++ count_of a ∷ []) * per v) (sym h.appends.version)
        (fits (version_of a) (length fs) (length fat) more _ _ h.full h.few (size ∙ ap (λ n. length fat + n) many) size_fs)
      where
        fits : (v : Version) (n size more whole count : ℕ) → size ≡ n * per v → more ≤ 2 → whole ≡ size + more → count ≡ n + 1 → whole ≤ count * per v
        fits V3 n size more whole count full few is sum = omega (arith, full, few, is, sum)
        fits V4 n size more whole count full few is sum = omega (arith, full, few, is, sum)
