-- What is used is in the file, and not marked "free".
use Rattle.std.proofs.Common.{◌≡◌, ◌≢◌, ℕ, ◌<◌, List, [], ◌∷◌, map, length, get_or, ap, refl, sym, subst, ◌∙◌, arith, zero, suc}
use Rattle.std.specs.Prelude.{slice_get, Some}
use Rattle.std.specs.List.{AllByRecursion}
use Rattle.std.proofs.lemmas.List.{map-append}
use Rattle.std.proofs.lemmas.Option.{slice_get_within, slice_get-get_or}
use Rattle.cfb_sectors.specs.Sectors.{fat_in, free, Chain}
use Rattle.cfb_chains.specs.Changes.{AreSubsetOf}
use Rattle.cfb_chains.proofs.Beside.{none_first, none_second}
use Rattle.cfb_fat.specs.Orderly.{AreBelow}
use Rattle.cfb_fat.proofs.DifatChains.{below_in_file}
use Rattle.cfb_tree.specs.Directory.{Entry}
use Rattle.cfb_tree.proofs.NamesRead.{all_append}
use Rattle.cfb_spec.specs.Means.{IsInMiniStream}
use Rattle.cfb_spec.specs.Sound.{in_file, in_mini_stream, IsUsablePart}
use Rattle.cfb_ownership.specs.Owners.{first_of, Owners}
use Rattle.cfb_ownership.specs.LiveFile.{tables_of, LiveFile}
use Rattle.cfb_ownership.specs.LiveInvariant.{layout_of, LiveFileInvariant}
use Rattle.cfb_ownership.proofs.CutChains.{start_used}
use Rattle.cfb_ownership.proofs.MeansIs.{in_stream}
use Rattle.cfb_ownership.proofs.UsedParts.{used_by}
use Rattle.cfb_fat.proofs.CutChains.{get_of_cut}

module _ (s : LiveFile) (who : Owners) (root : Entry) (ids : List ℕ) (kept : LiveFileInvariant s who root) where
  sector_usable : (n x : ℕ) → slice_get s.fat n ≡ Some x → x ≢ free → IsUsablePart s.bytes (layout_of s who root ids) (in_file n)
  sector_usable n x found used = (
    below_in_file s.version s.bytes n (subst (λ m. n < m) (kept.tables.orderly.covered ∙ kept.tables.counted) (slice_get_within s.fat n x found)),
    x,
    get_of_cut s.count (fat_in s.version s.bytes s.fat_sectors) n x (subst (λ table. slice_get table n ≡ Some x) kept.tables.same found),
    used,
  )

  chain_usable : (start : ℕ) (xs : List ℕ) → Chain s.fat start xs → AllByRecursion (IsUsablePart s.bytes (layout_of s who root ids)) (map in_file xs)
  chain_usable start [] chain = tt
  chain_usable start (x ∷ xs) (is, regular, next, found, rest) =
      (sector_usable x next (subst (λ n. slice_get s.fat n ≡ Some next) (sym is) found) (start_used s.fat next xs rest), chain_usable next xs rest)

  minis_usable : (start : ℕ) (xs : List ℕ) → Chain s.mini_fat start xs → AllByRecursion (IsInMiniStream s.bytes (layout_of s who root ids)) xs
      → AllByRecursion (IsUsablePart s.bytes (layout_of s who root ids)) (map in_mini_stream xs)
  minis_usable start [] chain there = tt
  minis_usable start (x ∷ xs) (is, regular, next, found, rest) there = (
    (there.0, next, subst (λ table. slice_get table x ≡ Some next) kept.mini_fat (subst (λ n. slice_get s.mini_fat n ≡ Some next) (sym is) found), start_used s.mini_fat next xs rest),
    minis_usable next xs rest there.1,
  )

  tables_usable : (xs : List ℕ) → AreBelow s.count xs → AreSubsetOf (tables_of s) xs → AllByRecursion (IsUsablePart s.bytes (layout_of s who root ids)) (map in_file xs)
  tables_usable [] below among = tt
  tables_usable (x ∷ xs) below among =
      let within : x < length s.fat = subst (λ n. x < n) (sym kept.tables.orderly.covered) (below 0 (omega arith)) in
      let found = slice_get-get_or s.fat x 0 within in (
        sector_usable x (get_or s.fat x 0) found (λ loose. among x (kept.owned.marked x (found ∙ ap Some loose)) 0 (omega arith) refl),
        tables_usable xs (λ k inside. below (suc k) (omega (arith, inside))) (λ n none k inside. among n none (suc k) (omega (arith, inside))),
      )

  pub all_usable : (k : ℕ) → AllByRecursion (IsUsablePart s.bytes (layout_of s who root ids)) (used_by s who k)
  all_usable zero =
      subst (AllByRecursion (IsUsablePart s.bytes (layout_of s who root ids))) (sym (map-append in_file s.fat_sectors s.difat_sectors))
      (all_append (IsUsablePart s.bytes (layout_of s who root ids)) (map in_file s.fat_sectors) (map in_file s.difat_sectors)
      (tables_usable s.fat_sectors kept.tables.there (none_second s.difat_sectors s.fat_sectors))
      (tables_usable s.difat_sectors kept.tables.orderly.there (none_first s.difat_sectors s.fat_sectors)))
  all_usable (suc k) = all_append (IsUsablePart s.bytes (layout_of s who root ids)) (map in_file (who.sectors k)) (map in_mini_stream (who.minis k))
      (chain_usable (first_of (who.sectors k)) (who.sectors k) (kept.owned.linked k))
      (minis_usable (first_of (who.minis k)) (who.minis k) (kept.minis_owned.linked k) (in_stream s who root ids kept k))
