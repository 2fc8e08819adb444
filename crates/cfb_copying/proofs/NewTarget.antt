-- A new file is one in the making, of which the directory owns a sector.
use Rattle.std.proofs.Common.{◌≡◌, ◌⊎◌, ℕ, zero, suc, ◌+◌, ◌*◌, ◌/◌, ◌<◌, ◌≤◌, false, true, IsTrue, inl, inr, List, [], ◌∷◌, ◌++◌, length, take, refl, ap, sym, subst, ◌∙◌, arith, append-nil, ⊎_elim}
use Rattle.std.specs.Prelude.{slice_get, Bool, Some, ◌||◌}
use Rattle.std.proofs.lemmas.Bool.Decides.{eqb_tells}
use Rattle.std.proofs.lemmas.Grind.{merely}
use Rattle.std.specs.List.{AllByRecursion}
use Rattle.cfb_medium.specs.Calls.{IsFaultOrInvalidInputIf}
use Rattle.cfb_medium.specs.Numbers.{numbers}
use Rattle.cfb_medium.specs.declared.error.Error.{Error}
use Rattle.cfb_medium.specs.declared.error.Error.TheVariants.{AlreadyExists, Device, Failed, Full, InvalidData, InvalidInput, Memory, NotFound, UnexpectedEof}
use Rattle.cfb_medium.specs.Versions.{sector_len}
use Rattle.cfb_medium.specs.declared.version.Version.{Version}
use Rattle.cfb_medium.specs.declared.version.Version.TheVariants.{V3, V4}
use Rattle.cfb_medium.specs.declared.medium.ReadMedium.{Ghosts}
use Rattle.cfb_sectors.specs.Held.{count_of}
use Rattle.cfb_sectors.specs.Sectors.{end_of_chain, fat_in, fat_sector, free, joined, sector_start, sectors_in}
use Rattle.cfb_sectors.specs.Header.{difat_sector_count, fat_sector_count, first_difat_sector, first_directory_sector, first_mini_fat_sector, IsHeader}
use Rattle.cfb_chains.specs.Behind.{AreWhole}
use Rattle.cfb_chains.specs.Changes.{AreDisjoint, AreDistinct, IsNotIn}
use Rattle.cfb_chains.specs.Grown.{IsChainInTable}
use Rattle.cfb_chains.specs.Owned.{OwnDisjointChains}
use Rattle.cfb_creating.specs.NewFile.{new_directory, new_fat, new_file, new_header}
use Rattle.cfb_creating.proofs.NewBytes.{directory_joined, fields, length-new_file, numbers_read, table_joined, three_whole}
use Rattle.cfb_fat.specs.Listed.{stop_behind, Lists}
use Rattle.cfb_fat.specs.Keeping.{lean_same}
use Rattle.cfb_fat.specs.Orderly.{AreLean, AreTablesConsistent}
use Rattle.cfb_fat.specs.Seeing.{seen_of}
use Rattle.cfb_fat.specs.Tables.{bytes_of, difat_sectors_of, fat_of, fat_sectors_of, has_failed_here, is_honest, sectors_of, tables_of, version_of}
use Rattle.cfb_fat.specs.declared.allocator.Allocator.{Allocator}
use Rattle.cfb_ownership.specs.Owners.{directory_owner}
use Rattle.cfb_copying.specs.Making.{with_list, IsOneOf}
use Rattle.cfb_copying.specs.Steps.{IsNewFileBegun}
use Rattle.cfb_copying.proofs.Made.{at_key, at_other}

two_sectors : (v : Version) → sectors_in v (3 * sector_len v) ≡ 2
two_sectors V3 = refl
two_sectors V4 = refl

second_whole : (v : Version) → sector_start v 1 + sector_len v ≤ 3 * sector_len v
second_whole V3 = omega arith
second_whole V4 = omega arith

abbrev own : ℕ → List ℕ
own = with_list directory_owner (1 ∷ []) (λ k. [])

mine : own directory_owner ≡ 1 ∷ []
mine = at_key directory_owner (1 ∷ []) (λ k. [])

none : (k : ℕ) → (k ≡ 0 → ⊥) → own k ≡ []
none k other = at_other directory_owner (1 ∷ []) (λ j. []) k other

-- of each owner what holds of the directory's sector and of nothing
each_owner : (P : List ℕ → Type 0) → P (1 ∷ []) → P [] → (k : ℕ) → P (own k)
each_owner P one nothing k = ⊎_elim (λ is. subst P (sym (ap own is.1 ∙ mine)) one) (λ other. subst P (sym (none k other.1)) nothing) (eqb_tells k 0)

-- the FAT of two sectors: the first holds it, and the second is a chain of one
abbrev table : List ℕ
table = fat_sector ∷ end_of_chain ∷ []

own_once : AreDistinct (0 ∷ [])
own_once k l first second same = omega (arith, first, second)

some_same : (a b : ℕ) → Some a ≡ Some b → a ≡ b
some_same a b same = cc

not_free : Some fat_sector ≡ Some free → ⊥
not_free same = let both : fat_sector ≡ free = some_same fat_sector free same in omega (arith, both)

new_owned : OwnDisjointChains table (0 ∷ []) own
new_owned = record {
  linked = each_owner (IsChainInTable table) (refl, omega arith, end_of_chain, refl, refl) refl;
  apart = λ k l other. ⊎_elim
      (λ is. subst (AreDisjoint (own k)) (sym (none l (λ zero_is. other (is.1 ∙ sym zero_is)))) tt)
      (λ past. subst (λ xs. AreDisjoint xs (own l)) (sym (none k past.1)) (each_owner (AreDisjoint []) ((λ j below same. omega (arith, below)), tt) tt l))
      (eqb_tells k 0);
  beside = each_owner (AreDisjoint (0 ∷ [])) (beside_one, tt) tt;
  marked = marks;
}
  where
    beside_one : IsNotIn (0 ∷ []) 1
    beside_one zero below same = omega (arith, same)
    beside_one (suc k) below same = omega (arith, below)

    marks : (n : ℕ) → slice_get table n ≡ Some free → IsNotIn (0 ∷ []) n
    marks zero found zero below same = absurd (let wrong : Some fat_sector ≡ Some free = found in not_free wrong)
    marks zero found (suc k) below same = omega (arith, below)
    marks (suc n) found zero below same = omega (arith, same)
    marks (suc n) found (suc k) below same = omega (arith, below)

front : (v : Version) → take 2 (new_fat v) ≡ table
unfolding new_fat
front v = refl

-- what has not failed tells of no earlier fault
pub never_earlier : (b : Bool) → b ≡ false → IsTrue (b || false) → ⊥
never_earlier false live wrong = not_so wrong
  where
    not_so : false ≡ true → ⊥
    not_so e = cc
never_earlier true live wrong = not_so live
  where
    not_so : true ≡ false → ⊥
    not_so e = cc

-- the sectors of a new file are there
pub first_counted : (v : Version) (bytes ids : List ℕ) (len count : ℕ) → bytes ≡ new_file v → len ≡ length bytes → count ≡ sectors_in v len → ids ≡ 0 ∷ [] → AllByRecursion (λ n. n < count) ids
first_counted v bytes ids len count is size many are =
    let two : count ≡ 2 = many ∙ ap (sectors_in v) (size ∙ ap length is ∙ length-new_file v) ∙ two_sectors v in
    subst (AllByRecursion (λ n. n < count)) (sym are) (omega (arith, two), tt)

-- an error that no device and no fault before gives is want of memory
pub only_memory : (e : Error) → IsFaultOrInvalidInputIf ⊥ e ⊎ (e ≡ InvalidData) → (e ≡ InvalidData → ⊥) → (e ≡ Device → ⊥) → (e ≡ Failed → ⊥) → e ≡ Memory
only_memory e fault there device failed = ⊎_elim (λ is. by_kind e is device failed) (λ invalid. absurd (there invalid)) fault
  where
    by_kind : (e : Error) → IsFaultOrInvalidInputIf ⊥ e → (e ≡ Device → ⊥) → (e ≡ Failed → ⊥) → e ≡ Memory
    by_kind Memory is device failed = refl
    by_kind Device is device failed = absurd (device refl)
    by_kind Failed is device failed = absurd (failed refl)
    by_kind InvalidInput is device failed = absurd is
    by_kind InvalidData is device failed = absurd is
    by_kind NotFound is device failed = absurd is
    by_kind AlreadyExists is device failed = absurd is
    by_kind UnexpectedEof is device failed = absurd is
    by_kind Full is device failed = absurd is

-- its tables are one sector, which its directory needs
new_lean : (v : Version) → AreLean v 2 1 0 1
new_lean v = record {
  most = omega arith;
  fat = λ f d below named. let none : f ≡ 0 = omega (arith, below) in subst (λ n. n * (sector_len v / 4) ≤ 1 + n + d) (sym none) (omega arith);
  difat = λ d below. absurd (omega (arith, below));
}

module _ {F : Type 0} {g : Ghosts F} where
  pub new_begun : (v : Version) (it : Allocator F g) → has_failed_here it ≡ false → IsTrue (is_honest it) → version_of it ≡ v → bytes_of it ≡ new_file v → difat_sectors_of it ≡ [] → fat_sectors_of it ≡ 0 ∷ []
      → fat_of it ≡ take (count_of (sectors_of it)) (fat_in v (new_file v) (0 ∷ [])) → IsNewFileBegun v it
  unfolding seen_of new_header
  new_begun v it live honest of_version are difat fats fat =
      let read = fields v [] in
      let whole : new_file v ++ [] ≡ bytes_of it = append-nil (new_file v) ∙ sym are in
      let long : length (bytes_of it) ≡ 3 * sector_len v = ap length are ∙ length-new_file v in
      let count : count_of (sectors_of it) ≡ 2 = it.sectors.counted live honest ∙ ap (λ u. sectors_in u (length (bytes_of it))) of_version ∙ ap (sectors_in v) long ∙ two_sectors v in
      let fat_is : fat_of it ≡ table =
      fat ∙ ap (λ n. take n (fat_in v (new_file v) (0 ∷ []))) count ∙ ap (λ bs. take 2 (fat_in v bs (0 ∷ []))) (sym (append-nil (new_file v))) ∙ ap (λ l. take 2 (numbers l)) (table_joined v []) ∙ ap (take 2) (numbers_read v) ∙ front v in
      let tables : tables_of it ≡ 0 ∷ [] = ap (λ l. l ++ fat_sectors_of it) difat ∙ fats in
      let orderly : AreTablesConsistent v 2 table (0 ∷ []) [] = record { once = own_once; covered = refl; some = omega arith; there = λ k below. absurd (omega (arith, below)); named = omega arith } in
      let lists : Lists v (new_file v ++ []) [] (0 ∷ []) = record { stop = end_of_chain; stops = inl refl; chain = read.difat_start; unused = 108; entries = append-nil _ ∙ read.difat } in
      let orderly_here : AreTablesConsistent (version_of it) (count_of (sectors_of it)) (fat_of it) (fat_sectors_of it) (difat_sectors_of it) =
      subst (λ u. AreTablesConsistent u (count_of (sectors_of it)) (fat_of it) (fat_sectors_of it) (difat_sectors_of it)) (sym of_version)
      (subst (λ n. AreTablesConsistent v n (fat_of it) (fat_sectors_of it) (difat_sectors_of it)) (sym count)
      (subst (λ l. AreTablesConsistent v 2 l (fat_sectors_of it) (difat_sectors_of it)) (sym fat_is)
      (subst (λ l. AreTablesConsistent v 2 table l (difat_sectors_of it)) (sym fats) (subst (AreTablesConsistent v 2 table (0 ∷ [])) (sym difat) orderly)))) in
      let lists_here : Lists (version_of it) (bytes_of it) (difat_sectors_of it) (fat_sectors_of it) =
      subst (λ u. Lists u (bytes_of it) (difat_sectors_of it) (fat_sectors_of it)) (sym of_version)
      (subst (λ bs. Lists v bs (difat_sectors_of it) (fat_sectors_of it)) whole
      (subst (Lists v (new_file v ++ []) (difat_sectors_of it)) (sym fats) (subst (λ l. Lists v (new_file v ++ []) l (0 ∷ [])) (sym difat) lists))) in
      record {
        made = record {
          live = live;
          honest = honest;
          orderly = (it.listed live honest).1 (orderly_here, merely lists_here);
          header = subst (λ u. IsHeader u (bytes_of it)) (sym of_version) (subst (IsHeader v) whole read.header);
          directory_at = ap first_directory_sector (sym whole) ∙ read.directory;
          mini_fat_at = ap first_mini_fat_sector (sym whole) ∙ read.mini_fat;
          owned = subst (λ l. OwnDisjointChains l (tables_of it) own) (sym fat_is) (subst (λ l. OwnDisjointChains table l own) (sym tables) new_owned);
          holds = λ k. ⊎_elim
              (λ is. ap (λ n. joined (version_of it) (bytes_of it) (own n)) is.1 ∙ ap (joined (version_of it) (bytes_of it)) mine ∙ ap (λ u. joined u (bytes_of it) (1 ∷ [])) of_version ∙ ap (λ bs. joined v bs (1 ∷ [])) (sym whole) ∙ directory_joined v []
              ∙ sym (ap (with_list directory_owner (new_directory v) (λ j. [])) is.1 ∙ at_key directory_owner (new_directory v) (λ j. [])))
              (λ other. ap (joined (version_of it) (bytes_of it)) (none k other.1) ∙ sym (at_other directory_owner (new_directory v) (λ j. []) k other.1))
              (eqb_tells k 0);
          whole = each_owner (AreWhole (version_of it) (bytes_of it)) (subst (λ u. sector_start u 1 + sector_len u ≤ length (bytes_of it)) (sym of_version) (let second = second_whole v in omega (arith, second, long)), tt) tt;
          tight = λ n below. let size = ap length fat_is in by_number n (omega (arith, below, size)) tables;
        };
        of_version = of_version;
        lean = lean_same v (version_of it) 2 1 0 1 _ _ _ 1 of_version (ap length fat_is) (ap length fats) (ap length difat) (omega arith) (new_lean v);
        told = record {
          difat_count = ap difat_sector_count (sym whole) ∙ read.difat_count ∙ ap length (sym difat);
          fat_count = ap fat_sector_count (sym whole) ∙ read.fat_count ∙ ap length (sym fats);
        };
        ends = record {
          whole = three_whole (version_of it) (length (bytes_of it)) (long ∙ ap (λ u. 3 * sector_len u) (sym of_version));
          stop = ap (stop_behind (version_of it) (bytes_of it) (first_difat_sector (bytes_of it))) difat ∙ ap first_difat_sector (sym whole) ∙ read.difat_start;
        };
      }
    where
      by_number : (n : ℕ) → n < 2 → tables_of it ≡ 0 ∷ [] → IsOneOf (tables_of it) n ⊎ ((key : ℕ) × IsOneOf (own key) n)
      by_number zero below is = inl (subst (λ l. IsOneOf l 0) (sym is) (0, omega arith, refl))
      by_number (suc zero) below is = inr (directory_owner, subst (λ l. IsOneOf l 1) (sym mine) (0, omega arith, refl))
      by_number (suc (suc n)) below is = absurd (omega (arith, below))
