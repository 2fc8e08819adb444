-- No two owners use one part, and none uses a table's.
use Rattle.std.proofs.Common.{◌≢◌, ℕ, List, ◌++◌, map, ap, refl, sym, subst, zero, suc}
use Rattle.std.specs.List.{AllByRecursion}
use Rattle.std.proofs.lemmas.List.{map-append}
use Rattle.cfb_chains.proofs.ChainGrowing.{chain_once}
use Rattle.cfb_tree.specs.Directory.{Entry}
use Rattle.cfb_tree.proofs.NamesRead.{all_append}
use Rattle.cfb_spec.specs.Sound.{in_file, in_mini_stream, AreApart}
use Rattle.cfb_ownership.specs.Owners.{first_of, Owners}
use Rattle.cfb_ownership.specs.LiveFile.{tables_of, LiveFile}
use Rattle.cfb_ownership.specs.LiveInvariant.{LiveFileInvariant}
use Rattle.cfb_ownership.proofs.PartsApart.{apart_append, apart_swap, differ_both, differ_swap, differ_sym, kinds_differ, minis_differ, minis_once, sectors_differ, sectors_once, Differ}
use Rattle.cfb_ownership.proofs.UsedParts.{parts_of, used_by}

module _ (s : LiveFile) (who : Owners) (root : Entry) (ids : List ℕ) (kept : LiveFileInvariant s who root) where
  pub own_apart : (k : ℕ) → AreApart (used_by s who k)
  own_apart zero = subst AreApart (sym (map-append in_file s.fat_sectors s.difat_sectors))
      (apart_swap (map in_file s.difat_sectors) (map in_file s.fat_sectors)
      (subst AreApart (map-append in_file s.difat_sectors s.fat_sectors) (sectors_once (tables_of s) kept.tables.orderly.once)))
  own_apart (suc k) = apart_append (map in_file (who.sectors k)) (map in_mini_stream (who.minis k))
      (sectors_once (who.sectors k) (chain_once s.fat (first_of (who.sectors k)) (who.sectors k) (kept.owned.linked k)))
      (minis_once (who.minis k) (chain_once s.mini_fat (first_of (who.minis k)) (who.minis k) (kept.minis_owned.linked k)))
      (kinds_differ (who.sectors k) (who.minis k))

  beside_tables : (k : ℕ) → Differ (used_by s who zero) (parts_of who k)
  beside_tables k =
      differ_both (used_by s who zero) (map in_file (who.sectors k)) (map in_mini_stream (who.minis k))
      (differ_sym (map in_file (who.sectors k)) (used_by s who zero) (subst (Differ (map in_file (who.sectors k))) (sym (map-append in_file s.fat_sectors s.difat_sectors))
      (differ_swap (map in_file (who.sectors k)) (map in_file s.difat_sectors) (map in_file s.fat_sectors)
      (subst (Differ (map in_file (who.sectors k))) (map-append in_file s.difat_sectors s.fat_sectors) (sectors_differ (who.sectors k) (tables_of s) (kept.owned.beside k))))))
      (kinds_differ (s.fat_sectors ++ s.difat_sectors) (who.minis k))

  pub differ : (k l : ℕ) → k ≢ l → Differ (used_by s who k) (used_by s who l)
  differ zero zero other = absurd (other refl)
  differ zero (suc l) other = beside_tables l
  differ (suc k) zero other = differ_sym (used_by s who zero) (parts_of who k) (beside_tables k)
  differ (suc k) (suc l) other =
      let apart : k ≢ l = λ same. other (ap suc same) in
      all_append (λ x. AllByRecursion (λ y. x ≢ y) (parts_of who l)) (map in_file (who.sectors k)) (map in_mini_stream (who.minis k))
      (differ_both (map in_file (who.sectors k)) (map in_file (who.sectors l)) (map in_mini_stream (who.minis l))
      (sectors_differ (who.sectors k) (who.sectors l) (kept.owned.apart l k (λ same. apart (sym same))))
      (kinds_differ (who.sectors k) (who.minis l)))
      (differ_both (map in_mini_stream (who.minis k)) (map in_file (who.sectors l)) (map in_mini_stream (who.minis l))
      (differ_sym (map in_file (who.sectors l)) (map in_mini_stream (who.minis k)) (kinds_differ (who.sectors l) (who.minis k)))
      (minis_differ (who.minis k) (who.minis l) (kept.minis_owned.apart l k (λ same. apart (sym same)))))
