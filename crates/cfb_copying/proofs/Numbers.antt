-- A copy has no more sectors than the file that is copied, so its numbers don't run out.
use Rattle.std.proofs.Common.{◌≡◌, ◌⊎◌, ℕ, zero, suc, true, false, ◌+◌, ◌*◌, ◌/◌, ◌-◌, ◌<◌, ◌≤◌, List, [], ◌∷◌, ◌++◌, length, take, map, refl, ap, sym, subst, ◌∙◌, arith, le_trans, length-append, length-take, ⊎_elim}
use Rattle.std.specs.Prelude.{min, nat_eq, slice_index}
use Rattle.std.specs.List.{flat_map, list_any, AllByRecursion, IsDistinct}
use Rattle.std.proofs.lemmas.Bool.Decides.{leb_tells}
use Rattle.std.proofs.lemmas.Grind.{common_steps}
use Rattle.std.proofs.lemmas.Map.Steps.{length-le_from_distinct_below}
use Rattle.std.proofs.lemmas.Option.{slice_get_within}
use Rattle.cfb_medium.specs.Versions.{sector_len}
use Rattle.cfb_medium.specs.declared.version.Version.{Version}
use Rattle.cfb_medium.specs.declared.medium.ReadMedium.{Ghosts}
use Rattle.cfb_sectors.specs.Sectors.{fat_in, greatest_regular, Chain}
use Rattle.cfb_chains.proofs.ChainGrowing.{chain_once}
use Rattle.cfb_chains.specs.Changes.{AreDisjoint, AreDistinct, IsNotIn}
use Rattle.cfb_fat.proofs.FatEntries.{length-fat_in}
use Rattle.cfb_fat.specs.Growing.{IsLean}
use Rattle.cfb_fat.specs.Orderly.{AreBelow, AreLean}
use Rattle.cfb_fat.specs.Tables.{difat_sectors_of, fat_of, fat_sectors_of, version_of}
use Rattle.cfb_fat.specs.declared.allocator.Allocator.{Allocator}
use Rattle.cfb_chain_io.specs.ChainEffects.{AllocatorRunsOut}
use Rattle.cfb_ownership.proofs.SoundIs.{all_once}
use Rattle.cfb_ownership.proofs.UsedParts.{all_keys, key_of}
use Rattle.cfb_ownership.specs.LiveFile.{tables_of, LiveFile}
use Rattle.cfb_ownership.specs.Owners.{directory_owner, first_of, mini_fat_owner, mini_stream_owner, stream_owner, Owners}
use Rattle.cfb_tree.proofs.NamesRead.{all_append}
use Rattle.cfb_copying.specs.Steps.{sectors_among, CanHold, IsOriginal}
use Rattle.cfb_copying.proofs.Counted.{sectors_size}
use Rattle.cfb_copying.proofs.Originals.{fills, holds_of_one}

-- tables that are lean have no more sectors than those of a file that holds more
few_tables : (v : Version) (count fat_count difat_count content total : ℕ) → (h : CanHold v total) → AreLean v count fat_count difat_count content → content < total → count ≤ content + h.fat_count + h.difat_count
few_tables v count fat_count difat_count content total h lean less =
    let fewer : fat_count ≤ h.fat_count = ⊎_elim (λ is. is.1) (λ off. let most = le_trans h.covered (lean.fat h.fat_count h.difat_count off.1 h.named) in absurd (omega (arith, most, less))) (leb_tells fat_count h.fat_count) in
    let named : difat_count ≤ h.difat_count = ⊎_elim (λ is. is.1) (λ off. let under = lean.difat h.difat_count off.1 in let over = h.named in absurd (omega (arith, under, over, fewer))) (leb_tells difat_count h.difat_count) in
    let most = lean.most in
    omega (arith, most, fewer, named)

module _ {F : Type 0} {g : Ghosts F} where
  pub never_out : (a : Allocator F g) (v : Version) (had count others total : ℕ) → version_of a ≡ v → CanHold v total → IsLean a (others + had) → others + count ≤ total → AllocatorRunsOut had count a → ⊥
  never_out a v had count others total version h lean fits out =
      let mid = out.mid in
      let taken = length out.more in
      let short = out.short in
      let few = h.numbered in
      let later : AreLean v (length (fat_of mid)) (length (fat_sectors_of mid)) (length (difat_sectors_of mid)) (others + had + taken) =
      subst (λ u. AreLean u (length (fat_of mid)) (length (fat_sectors_of mid)) (length (difat_sectors_of mid)) (others + had + taken)) (out.takes.grows.version ∙ version) (out.takes.grows.lean out.live (others + had) lean) in
      let most = few_tables v _ _ _ (others + had + taken) total h later (omega (arith, short, fits)) in
      ⊎_elim (λ many. omega (arith, many, most, few, short, fits)) (λ many. omega (arith, many, few, fits)) out.full

-- numbers of which none stands twice, one list behind the other
differs : (x : ℕ) (ys : List ℕ) → IsNotIn ys x → AllByRecursion (λ y. nat_eq x y ≡ false) ys
differs x [] none = tt
differs x (y ∷ ys) none = ((let apart : x ≡ y → ⊥ = λ same. none 0 (omega arith) (sym same) in grind (arith, apart)), differs x ys (λ k inside. none (suc k) (omega (arith, inside))))

distinct_once : (xs : List ℕ) → AreDistinct xs → IsDistinct nat_eq xs
unfolding IsDistinct
distinct_once [] once = tt
distinct_once (x ∷ xs) once = (
  differs x xs (λ k inside same. let twice = once (suc k) 0 (omega (arith, inside)) (omega arith) same in absurd (omega (arith, twice))),
  distinct_once xs (λ k l k_inside l_inside same. let both = once (suc k) (suc l) (omega (arith, k_inside)) (omega (arith, l_inside)) same in omega (arith, both)),
)

first_differs : (x : ℕ) (xs ys : List ℕ) → AreDisjoint (x ∷ xs) ys → AllByRecursion (λ y. nat_eq x y ≡ false) ys
first_differs x xs [] none = tt
first_differs x xs (y ∷ ys) none = ((let apart : x ≡ y → ⊥ = none.0 0 (omega arith) in grind (arith, apart)), first_differs x xs ys none.1)

rest_none : (x : ℕ) (xs ys : List ℕ) → AreDisjoint (x ∷ xs) ys → AreDisjoint xs ys
rest_none x xs [] none = tt
rest_none x xs (y ∷ ys) none = ((λ k inside. none.0 (suc k) (omega (arith, inside))), rest_none x xs ys none.1)

distinct_append : (xs ys : List ℕ) → IsDistinct nat_eq xs → IsDistinct nat_eq ys → AreDisjoint xs ys → IsDistinct nat_eq (xs ++ ys)
unfolding IsDistinct
distinct_append [] ys first second none = second
distinct_append (x ∷ xs) ys first second none = (all_append (λ y. nat_eq x y ≡ false) xs ys first.0 (first_differs x xs ys none), distinct_append xs ys first.1 second (rest_none x xs ys none))

none_swap : (xs ys : List ℕ) → AreDisjoint xs ys → AreDisjoint ys xs
none_swap [] ys none = tt
none_swap (x ∷ xs) ys none = ((λ k inside same. holds_of_one (IsNotIn (x ∷ xs)) ys (slice_index ys k) none (k, inside, refl) 0 (omega arith) (sym same)), none_swap xs ys (rest_none x xs ys none))

all_below : (count : ℕ) (xs : List ℕ) → AreBelow count xs → AllByRecursion (λ n. n < count) xs
all_below count [] below = tt
all_below count (x ∷ xs) below = (below 0 (omega arith), all_below count xs (λ k inside. below (suc k) (omega (arith, inside))))

chain_below : (table : List ℕ) (start : ℕ) (ids : List ℕ) → Chain table start ids → AllByRecursion (λ n. n < length table) ids
chain_below table start [] chain = tt
chain_below table start (x ∷ ids) (is, regular, next, found, rest) = (subst (λ n. n < length table) (sym is) (slice_get_within table start next found), chain_below table next ids rest)

any_below : (count : ℕ) (xs : List ℕ) → AllByRecursion (λ n. n < count) xs → (q : ℕ) → list_any (nat_eq q) xs ≡ true → q < count
any_below count [] below q found = absurd (cc)
any_below count (x ∷ xs) below q found =
    let here : x < count = below.0 in
    let later : list_any (nat_eq q) xs ≡ true → q < count = any_below count xs below.1 q in
    grind (arith, common_steps, here, later)

-- lists by keys, which have no number in common
module _ (own : ℕ → List ℕ) (count : ℕ) (once : (k : ℕ) → IsDistinct nat_eq (own k)) (apart : (k l : ℕ) → (k ≡ l → ⊥) → AreDisjoint (own k) (own l)) (below : (k : ℕ) → AllByRecursion (λ n. n < count) (own k)) where
  none_of_rest : (k : ℕ) (keys : List ℕ) → AllByRecursion (λ l. nat_eq k l ≡ false) keys → AreDisjoint (own k) (flat_map own keys)
  none_of_rest k [] differ = tt
  none_of_rest k (l ∷ keys) differ = all_append (IsNotIn (own k)) (own l) (flat_map own keys) (apart k l (let test = differ.0 in grind (arith, test))) (none_of_rest k keys differ.1)

  keys_distinct : (keys : List ℕ) → IsDistinct nat_eq keys → IsDistinct nat_eq (flat_map own keys)
  unfolding IsDistinct
  keys_distinct [] differ = tt
  keys_distinct (k ∷ keys) differ = distinct_append (own k) (flat_map own keys) (once k) (keys_distinct keys differ.1) (none_of_rest k keys differ.0)

  keys_below : (keys : List ℕ) → AllByRecursion (λ n. n < count) (flat_map own keys)
  keys_below [] = tt
  keys_below (k ∷ keys) = all_append (λ n. n < count) (own k) (flat_map own keys) (below k) (keys_below keys)

  keys_few : (keys : List ℕ) → IsDistinct nat_eq keys → length (flat_map own keys) ≤ count
  keys_few keys differ = length-le_from_distinct_below (flat_map own keys) count (keys_distinct keys differ) (any_below count (flat_map own keys) (keys_below keys))

-- the sectors of the tables, and of each owner
abbrev used_of : LiveFile → Owners → ℕ → List ℕ
used_of s who zero = tables_of s
used_of s who (suc k) = who.sectors k

flat_keys : (s : LiveFile) (who : Owners) (ids : List ℕ) → flat_map (used_of s who) (map key_of ids) ≡ flat_map (λ id. who.sectors (stream_owner id)) ids
flat_keys s who [] = refl
flat_keys s who (id ∷ ids) = ap (λ l. who.sectors (stream_owner id) ++ l) (flat_keys s who ids)

at_most : (n m k : ℕ) → n ≡ min m k → n ≤ k
at_most n m k is = omega (arith, is)

module _ {F : Type 0} {g : Ghosts F} (a : Allocator F g) (s : LiveFile) (who : Owners) (ids : List ℕ) (h : IsOriginal a s who ids) where
  used_once : (k : ℕ) → IsDistinct nat_eq (used_of s who k)
  used_once zero = distinct_once (tables_of s) h.held.kept.tables.orderly.once
  used_once (suc k) = distinct_once (who.sectors k) (chain_once s.fat (first_of (who.sectors k)) (who.sectors k) (h.held.kept.owned.linked k))

  used_apart : (k l : ℕ) → (k ≡ l → ⊥) → AreDisjoint (used_of s who k) (used_of s who l)
  used_apart zero zero other = absurd (other refl)
  used_apart zero (suc l) other = h.held.kept.owned.beside l
  used_apart (suc k) zero other = none_swap (tables_of s) (who.sectors k) (h.held.kept.owned.beside k)
  used_apart (suc k) (suc l) other = h.held.kept.owned.apart k l (λ same. other (ap suc same))

  used_below : (k : ℕ) → AllByRecursion (λ n. n < s.count) (used_of s who k)
  used_below zero = all_append (λ n. n < s.count) s.difat_sectors s.fat_sectors (all_below s.count s.difat_sectors h.held.kept.tables.orderly.there) (all_below s.count s.fat_sectors h.held.kept.tables.there)
  used_below (suc k) = subst (λ n. AllByRecursion (λ m. m < n) (who.sectors k)) h.held.kept.tables.orderly.covered (chain_below s.fat (first_of (who.sectors k)) (who.sectors k) (h.held.kept.owned.linked k))

  -- the file itself holds these
  pub can_hold : CanHold s.version (length (who.sectors directory_owner) + length (sectors_among who ids))
  can_hold =
      let tables = h.held.kept.tables in
      let order = tables.orderly in
      let streams = flat_map (used_of s who) (map key_of ids) in
      let stream = who.sectors mini_stream_owner ++ streams in
      let minis = who.sectors mini_fat_owner ++ stream in
      let all = who.sectors directory_owner ++ minis in
      let few : length (tables_of s ++ all) ≤ s.count = keys_few (used_of s who) s.count used_once used_apart used_below (all_keys ids) (subst (λ l. IsDistinct nat_eq (all_keys l)) (sym h.all) (all_once h.held.ids h.held.once)) in
      let named : length (tables_of s) ≡ length s.difat_sectors + length s.fat_sectors = length-append s.difat_sectors s.fat_sectors in
      let one : length (tables_of s ++ all) ≡ length (tables_of s) + length all = length-append (tables_of s) all in
      let two : length all ≡ length (who.sectors directory_owner) + length minis = length-append (who.sectors directory_owner) minis in
      let three : length minis ≡ length (who.sectors mini_fat_owner) + length stream = length-append (who.sectors mini_fat_owner) stream in
      let four : length stream ≡ length (who.sectors mini_stream_owner) + length streams = length-append (who.sectors mini_stream_owner) streams in
      let five : length streams ≡ length (flat_map (λ id. who.sectors (stream_owner id)) ids) = ap length (flat_keys s who ids) in
      let size : length (sectors_among who ids) ≡ length (who.sectors mini_fat_owner) + length (who.sectors mini_stream_owner) + length (flat_map (λ id. who.sectors (stream_owner id)) ids) = sectors_size who ids in
      let sum : length (who.sectors directory_owner) + length (sectors_among who ids) + length s.fat_sectors + length s.difat_sectors ≤ s.count = omega (arith, few, named, one, two, three, four, five, size) in
      let within = length-take s.count (fat_in s.version s.bytes s.fat_sectors) in
      let long : length s.fat ≤ length (fat_in s.version s.bytes s.fat_sectors) = let same = ap length tables.same in omega (arith, same, within) in
      let covered : s.count ≤ length s.fat_sectors * (sector_len s.version / 4) = subst (λ n. s.count ≤ n) (length-fat_in s.version s.bytes s.fat_sectors) (let size = order.covered in omega (arith, long, size)) in
      record {
        fat_count = length s.fat_sectors;
        difat_count = length s.difat_sectors;
        covered = le_trans sum covered;
        named = order.named;
        numbered = le_trans sum (at_most s.count _ (greatest_regular + 1) tables.counted);
      }

  -- the directory has a sector
  pub some_directory : 0 < length (who.sectors directory_owner)
  unfolding fills
  some_directory = (fills a s who ids h).some

  pub can_fill : CanHold s.version ((fills a s who ids h).count + length (sectors_among who ids))
  unfolding fills
  can_fill = can_hold
