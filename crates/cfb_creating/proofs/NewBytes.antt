-- The bytes of a new file, part by part.
use Rattle.std.proofs.Common.{◌≡◌, ℕ, ◌+◌, ◌-◌, ◌*◌, ◌/◌, ◌%◌, ◌<◌, ◌≤◌, ◌^◌, List, [], ◌∷◌, ◌++◌, length, take, drop, replicate, suc, refl, ap, sym, subst, ◌∙◌, arith, append_assoc, length-append}
use Rattle.std.specs.List.{range_with_len, AllByRecursion}
use Rattle.std.proofs.Math.Seq.{take-append_seam, drop-append_seam}
use Rattle.std.proofs.lemmas.List.{length-replicate}
use Rattle.cfb_medium.specs.declared.version.Version.{Version}
use Rattle.cfb_medium.specs.declared.version.Version.TheVariants.{V3, V4}
use Rattle.cfb_medium.specs.Numbers.{numbers, number_bytes}
use Rattle.cfb_medium.specs.Versions.{dir_entries_per_sector, sector_len}
use Rattle.cfb_medium.proofs.WrittenNumbers.{length-number_bytes, numbers_again}
use Rattle.cfb_sectors.specs.Copies.{copies, unused_entry}
use Rattle.cfb_sectors.specs.Header.{header_bytes, FitsHeader, HasFields}
use Rattle.cfb_sectors.specs.Sectors.{free, joined, sector_start}
use Rattle.cfb_sectors.proofs.HeaderLemmas.{header_read, length-header_bytes}
use Rattle.cfb_sectors.proofs.Neighbours.{joined_range}
use Rattle.cfb_tree.specs.Directory.{entry_bytes}
use Rattle.cfb_tree.specs.Entries.{empty_root}
use Rattle.cfb_tree.proofs.EntryRead.{length-entry_bytes}
use Rattle.cfb_creating.specs.NewFile.{new_directory, new_fat, new_file, new_header}
use Rattle.cfb_creating.proofs.NewEntries.{all_replicate, length-copies, root_fits}

-- sectors' lengths in whole numbers and in whole entries
pub long_enough : (v : Version) → 512 ≤ sector_len v
long_enough V3 = omega arith
long_enough V4 = omega arith

pub by_numbers : (v : Version) → 4 * (2 + (sector_len v / 4 - 2)) ≡ sector_len v
by_numbers V3 = refl
by_numbers V4 = refl

pub by_entries : (v : Version) → 128 + (dir_entries_per_sector v - 1) * 128 ≡ sector_len v
by_entries V3 = refl
by_entries V4 = refl

pub three_whole : (v : Version) (n : ℕ) → n ≡ 3 * sector_len v → n % sector_len v ≡ 0
three_whole V3 n e = omega arith
three_whole V4 n e = omega arith

pub two_in_three : (v : Version) (n len : ℕ) → len ≡ 3 * sector_len v → sector_start v n < len → n < 2
two_in_three V3 n len e less = omega arith
two_in_three V4 n len e less = omega arith

pub counts_small : (v : Version) → (new_header v).directory_count < 2 ^ 32
unfolding new_header
counts_small V3 = omega arith
counts_small V4 = omega arith

module _ (v : Version) where
  pub fits_header : FitsHeader (new_header v)
  unfolding new_header
  fits_header = record {
    directory_count = counts_small v;
    fat_count = omega arith;
    first_directory = omega arith;
    first_mini_fat = omega arith;
    mini_fat_count = omega arith;
    first_difat = omega arith;
    difat_count = omega arith;
    difat = (omega arith, all_replicate (λ x. x < 2 ^ 32) 108 free (omega arith));
    difat_len = ap suc (length-replicate {A = ℕ} 108 free);
  }

  pub front : List ℕ
  front = header_bytes (new_header v) ++ replicate (sector_len v - 512) 0

  pub table : List ℕ
  table = number_bytes (new_fat v)

  pub length-front : length front ≡ sector_len v
  unfolding front
  length-front =
      length-append (header_bytes (new_header v)) (replicate (sector_len v - 512) 0)
      ∙ (let head = length-header_bytes (new_header v) [] fits_header in let zeros = length-replicate {A = ℕ} (sector_len v - 512) 0 in let enough = long_enough v in omega (arith, head, zeros, enough))

  pub length-new_fat : length (new_fat v) ≡ 2 + (sector_len v / 4 - 2)
  unfolding new_fat
  length-new_fat = ap (λ n. suc (suc n)) (length-replicate {A = ℕ} (sector_len v / 4 - 2) free) ∙ omega arith

  pub length-table : length table ≡ sector_len v
  unfolding table
  length-table = length-number_bytes (new_fat v) ∙ ap (λ n. 4 * n) length-new_fat ∙ by_numbers v

  pub fat_small : AllByRecursion (λ x. x < 2 ^ 32) (new_fat v)
  unfolding new_fat
  fat_small = (omega arith, (omega arith, all_replicate (λ x. x < 2 ^ 32) (sector_len v / 4 - 2) free (omega arith)))

  pub numbers_read : numbers table ≡ new_fat v
  unfolding table
  numbers_read = numbers_again (new_fat v) fat_small

  pub length-new_directory : length (new_directory v) ≡ sector_len v
  unfolding new_directory
  length-new_directory =
      length-append (entry_bytes empty_root) (copies (dir_entries_per_sector v - 1) unused_entry)
      ∙ (let root = length-entry_bytes v empty_root (root_fits v) in let others = length-copies (dir_entries_per_sector v - 1) in let whole = by_entries v in omega (arith, root, others, whole))

  pub split : (behind : List ℕ) → new_file v ++ behind ≡ front ++ (table ++ (new_directory v ++ behind))
  unfolding new_file front table
  split behind = append_assoc (front ++ table) (new_directory v) behind ∙ append_assoc front table (new_directory v ++ behind)

  pub length-new_file : length (new_file v) ≡ 3 * sector_len v
  unfolding new_file front table
  length-new_file =
      length-append (front ++ table) (new_directory v)
      ∙ (let two = length-append front table in let a = length-front in let b = length-table in let c = length-new_directory in omega (arith, two, a, b, c))

  take_exact : (xs ys : List ℕ) (n : ℕ) → length xs ≡ n → take n (xs ++ ys) ≡ xs
  take_exact xs ys n e = ap (λ k. take k (xs ++ ys)) (sym e) ∙ take-append_seam xs ys

  drop_exact : (xs ys : List ℕ) (n : ℕ) → length xs ≡ n → drop n (xs ++ ys) ≡ ys
  drop_exact xs ys n e = ap (λ k. drop k (xs ++ ys)) (sym e) ∙ drop-append_seam xs ys

  -- the sector behind so many others
  one_joined : (before part back : List ℕ) (n : ℕ) → length before ≡ n * sector_len v → length part ≡ sector_len v
      → joined v (front ++ (before ++ (part ++ back))) (range_with_len n 1) ≡ part
  one_joined before part back n long one =
      joined_range v front (before ++ (part ++ back)) length-front 1 n (rw (length-append before (part ++ back), length-append part back) (omega (arith, long, one)))
      ∙ ap (λ xs. take (1 * sector_len v) xs) (drop_exact before (part ++ back) (n * sector_len v) long)
      ∙ take_exact part back (1 * sector_len v) (omega (arith, one))

  pub table_joined : (behind : List ℕ) → joined v (new_file v ++ behind) (0 ∷ []) ≡ table
  table_joined behind =
      ap (λ bs. joined v bs (0 ∷ [])) (split behind)
      ∙ one_joined [] table (new_directory v ++ behind) 0 (omega arith) length-table

  pub directory_joined : (behind : List ℕ) → joined v (new_file v ++ behind) (1 ∷ []) ≡ new_directory v
  directory_joined behind =
      ap (λ bs. joined v bs (1 ∷ [])) (split behind)
      ∙ one_joined table (new_directory v) behind 1 (omega (arith, length-table)) length-new_directory

  pub fields : (behind : List ℕ) → HasFields (new_header v) (new_file v ++ behind)
  unfolding front
  fields behind =
      let body = table ++ (new_directory v ++ behind) in
      subst (HasFields (new_header v)) (sym (split behind ∙ append_assoc (header_bytes (new_header v)) (replicate (sector_len v - 512) 0) body))
      (header_read (new_header v) (replicate (sector_len v - 512) 0 ++ body) fits_header)
