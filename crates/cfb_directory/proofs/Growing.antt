-- A directory's chain that took in a sector, and a header that counts it.
use Rattle.std.proofs.Common.{◌≡◌, ℕ, ◌+◌, ◌-◌, ◌*◌, ◌/◌, ◌<◌, ◌≤◌, inl, inr, ⊎_elim, List, [], ◌∷◌, ◌++◌, length, take, drop, replicate, append_assoc, length-append, refl, ap, sym, subst, ◌∙◌, arith, length-take, append-nil, IsTrue, zero, suc}
use Rattle.std.specs.Prelude.{slice_get, slice_index_or, Some}
use Rattle.std.specs.Int.{w32, to_le_bytes}
use Rattle.std.proofs.lemmas.List.{length-replicate, take_all}
use Rattle.std.proofs.Math.Seq.{drop-append_seam, take-append_seam}
use Rattle.cfb_medium.specs.Bytes.{overwritten}
use Rattle.cfb_medium.specs.Versions.{dir_entries_per_sector, sector_len}
use Rattle.cfb_medium.specs.declared.medium.ReadMedium.{Ghosts}
use Rattle.cfb_medium.specs.declared.version.Version.{Version}
use Rattle.cfb_medium.specs.declared.version.Version.TheVariants.{V3, V4}
use Rattle.cfb_sectors.specs.Copies.{copies}
use Rattle.cfb_sectors.specs.Initial.{initial}
use Rattle.cfb_sectors.specs.Sectors.{end_of_chain, filled_part, greatest_regular, joined, sector}
use Rattle.cfb_sectors.specs.declared.initial.SectorInit.TheVariants.{Dir}
use Rattle.cfb_chains.specs.Changes.{AreDisjoint}
use Rattle.cfb_chains.specs.LinkViews.{ids_of}
use Rattle.cfb_chains.specs.Positions.{sectors_for}
use Rattle.cfb_chains.specs.Owned.{ReplacesChain, ChangesAtMost, SectorLayer}
use Rattle.cfb_fat.specs.Growing.{LacksSectorNumbers}
use Rattle.cfb_fat.specs.Seeing.{seen_of}
use Rattle.cfb_fat.specs.Tables.{bytes_of, tables_of, version_of}
use Rattle.cfb_fat.specs.declared.allocator.Allocator.{Allocator}
use Rattle.cfb_chain_io.specs.ChainEffects.{content_of, KeepsFileInvariants, HasDataChain, LacksSectors}
use Rattle.cfb_chain_io.proofs.WrittenParts.{becomes_same}
use Rattle.cfb_siblings.specs.Changes.{IsUnused}
use Rattle.cfb_tree.specs.Directory.{Entry, entries_of, greatest_entry}
use Rattle.cfb_tree.specs.Entries.{empty_entry}
use Rattle.cfb_directory.specs.Changes.{HasDirectory, LiesBeside}
use Rattle.cfb_directory.specs.Entries.{HasNoneUnused}
use Rattle.cfb_directory.specs.Growth.{count_words, longer, GrowsDirectory, HeaderCountsDirectory, LacksEntries}
use Rattle.cfb_directory.specs.Views.{allocator_of, directory_ids, entries_held, links_of, DirectoryMatchesBytes}
use Rattle.cfb_directory.specs.declared.directory.Directory.{Directory}
use Rattle.cfb_directory.proofs.EntryBytes.{entries_behind, unused_entries}
use Rattle.cfb_directory.proofs.Setting.{has_directory, is_directory, length-content}
use Rattle.cfb_chains.proofs.Owners.{chain_left, leaves_then, none_of_nothing}
use Rattle.cfb_chain_io.proofs.Owning.{none_behind_all}

-- what was written is there
back : (b : List ℕ) (p x : ℕ) (xs : List ℕ) → filled_part (overwritten b p (x ∷ xs)) p (length (x ∷ xs)) ≡ x ∷ xs
back b p x xs =
    let front = take p b ++ replicate (p - length b) 0 in
    let rest = drop (p + length (x ∷ xs)) b in
    let size : length front ≡ p = simp (length-append, length-take, length-replicate) (omega arith) in
    let behind : drop p (overwritten b p (x ∷ xs)) ≡ (x ∷ xs) ++ rest =
    ap (drop p) (append_assoc front (x ∷ xs) rest) ∙ ap (λ k. drop k (front ++ ((x ∷ xs) ++ rest))) (sym size) ∙ drop-append_seam front ((x ∷ xs) ++ rest) in
    ap (λ l. take (length (x ∷ xs)) (l ++ replicate (length (x ∷ xs)) 0)) behind
    ∙ ap (take (length (x ∷ xs))) (append_assoc (x ∷ xs) rest (replicate (length (x ∷ xs)) 0))
    ∙ take-append_seam (x ∷ xs) (rest ++ replicate (length (x ∷ xs)) 0)

-- a number that was written is there
pub word_there : (b : List ℕ) (p n : ℕ) → filled_part (overwritten b p (to_le_bytes w32 n)) p 4 ≡ to_le_bytes w32 n
word_there b p n = back b p _ _

module _ (S : List ℕ → ℕ → List ℕ) where
  -- a chain that became longer, and a change of the header behind that
  pub becomes_counted : (ws ids more : List ℕ) (a m b : SectorLayer) → ReplacesChain S [] ids more (ids ++ more) a m → AreDisjoint m.tables (ids ++ more) → ChangesAtMost S ws [] m b → ReplacesChain S ws ids more (ids ++ more) a b
  becomes_counted ws ids more a m b h beside leaves =
      let later = ids ++ more in
      let left = chain_left S ws [] m b leaves (slice_index_or later 0 end_of_chain) later h.linked (none_of_nothing later) beside in
      record {
        leaves = subst (λ l. ChangesAtMost S ws l a b) (append-nil (ids ++ more)) (leaves_then S [] ws (ids ++ more) [] a m b h.leaves leaves);
        were_free = h.were_free;
        spare = none_behind_all b.tables ids more left.1;
        linked = left.0;
        among = h.among;
      }

one_piece : (xs more : List ℕ) → length more ≡ 1 → copies (length more) xs ≡ xs
one_piece xs more one = ap (λ n. copies n xs) one ∙ append-nil xs

-- what a sector of entries in no use holds
pub per_sector : (v : Version) → sector_len v / 128 ≡ dir_entries_per_sector v
per_sector V3 = refl
per_sector V4 = refl

sector_read : (v : Version) → entries_of v (initial Dir (sector_len v)) ≡ replicate (dir_entries_per_sector v) empty_entry
unfolding initial
sector_read v = unused_entries v (sector_len v / 128) ∙ ap (λ n. replicate n empty_entry) (per_sector v)

sector_size : (v : Version) → length (initial Dir (sector_len v)) ≡ dir_entries_per_sector v * 128
unfolding initial
sector_size V3 = refl
sector_size V4 = refl

-- the entries of a chain that took in one such sector
pub entries_grown : (v : Version) (bytes ids more : List ℕ) (content : List ℕ) (es : List Entry) → length more ≡ 1 → content ≡ joined v bytes ids ++ copies (length more) (initial Dir (sector_len v)) → es ≡ entries_of v (joined v bytes ids) → entries_of v content ≡ longer v es
entries_grown v bytes ids more content es one is held =
    ap (entries_of v) (is ∙ ap (λ l. joined v bytes ids ++ l) (one_piece (initial Dir (sector_len v)) more one))
    ∙ entries_behind v (length ids * (sector_len v / 128)) (dir_entries_per_sector v) (joined v bytes ids) (initial Dir (sector_len v)) (length-content v bytes ids) (sector_size v)
    ∙ ap (λ l. entries_of v (joined v bytes ids) ++ l) (sector_read v)
    ∙ ap (λ l. l ++ replicate (dir_entries_per_sector v) empty_entry) (sym held)

module _ {F : Type 0} {g : Ghosts F} where
  -- a directory whose chain took in a sector, after which the header counts it
  pub directory_grown : (old new : Directory F g) (m : Allocator F g) (more : List ℕ) → HasDirectory old → directory_ids new ≡ directory_ids old ++ more → length more ≡ 1
      → KeepsFileInvariants (allocator_of old) m → KeepsFileInvariants m (allocator_of new) → HasDataChain m (links_of new)
      → ReplacesChain (sector (version_of (allocator_of old))) [] (directory_ids old) more (directory_ids new) (seen_of (allocator_of old)) (seen_of m)
      → content_of m (links_of new) ≡ content_of (allocator_of old) (links_of old) ++ copies (length more) (initial Dir (sector_len (version_of (allocator_of old))))
      → ChangesAtMost (sector (version_of m)) (count_words (version_of m)) [] (seen_of m) (seen_of (allocator_of new)) → HeaderCountsDirectory (version_of m) (bytes_of (allocator_of new)) (length (directory_ids new))
      → entries_held new ≡ longer (version_of (allocator_of old)) (entries_held old) → GrowsDirectory old new
  unfolding seen_of
  directory_grown old new m more has ids one first second chain becomes content leaves counted entries =
      let a = allocator_of old in
      let b = allocator_of new in
      let v = version_of a in
      let later = directory_ids new in
      let same : version_of m ≡ v = first.version in
      let left = chain_left (sector v) (count_words v) [] (seen_of m) (seen_of b) (subst (λ u. ChangesAtMost (sector u) (count_words u) [] (seen_of m) (seen_of b)) same leaves)
      (slice_index_or later 0 end_of_chain) later chain.has.linked (none_of_nothing later) chain.beside in
      let now : content_of b (links_of new) ≡ content_of m (links_of new) =
      ap (λ u. joined u (bytes_of b) later) (second.version ∙ same) ∙ left.2 ∙ ap (λ u. joined u (bytes_of m) later) (sym same) in
      record {
        more = more;
        ids = ids;
        becomes = subst (λ l. ReplacesChain (sector v) (count_words v) (directory_ids old) more l (seen_of a) (seen_of b)) (sym ids)
            (becomes_counted (sector v) (count_words v) (directory_ids old) more (seen_of a) (seen_of m) (seen_of b)
            (subst (λ l. ReplacesChain (sector v) [] (directory_ids old) more l (seen_of a) (seen_of m)) ids becomes) (subst (AreDisjoint (tables_of m)) ids chain.beside)
            (subst (λ u. ChangesAtMost (sector u) (count_words u) [] (seen_of m) (seen_of b)) same leaves));
        has = record {
          chain = record { has = record { honest = subst IsTrue (sym second.honest) chain.has.honest; version = chain.has.version ∙ sym second.version; linked = left.0 }; beside = left.1 };
          entries = entries
              ∙ sym (entries_grown v (bytes_of a) (directory_ids old) more (content_of m (links_of new)) (entries_held old) one content has.entries)
              ∙ ap (entries_of v) (sym now) ∙ ap (λ u. entries_of u (content_of b (links_of new))) (sym (second.version ∙ same));
        };
        counted = λ was. subst (λ u. HeaderCountsDirectory u (bytes_of b) (length later)) same counted;
      }

sectors_of_one_more : (v : Version) (n : ℕ) → sectors_for v ((n + 1) * sector_len v) ≡ n + 1
sectors_of_one_more V3 n = omega arith
sectors_of_one_more V4 n = omega arith

-- the number of sectors that was asked for
pub one_more : (v : Version) (ids found : List ℕ) (w : Version) (len : ℕ) → found ≡ ids → len ≡ sector_len w → w ≡ v → sectors_for v ((length found + 1) * len) ≡ length ids + 1
one_more v ids found w len same is at =
    ap (λ n. sectors_for v ((length found + 1) * n)) (is ∙ ap sector_len at) ∙ ap (λ l. sectors_for v ((length l + 1) * sector_len v)) same ∙ sectors_of_one_more v (length ids)

pub more_is_one : (ids more after : List ℕ) (count : ℕ) → count ≡ length ids + 1 → length after ≡ count → after ≡ take count ids ++ more → (after ≡ ids ++ more) × (length more ≡ 1)
more_is_one ids more after count is size sectors =
    let whole : take count ids ≡ ids = take_all count ids (omega (arith, is)) in
    let all : after ≡ ids ++ more = sectors ∙ ap (λ l. l ++ more) whole in
    let both = ap length all ∙ length-append ids more in
    (all, omega (arith, both, size, is))

some_per : (v : Version) → 0 < dir_entries_per_sector v
some_per V3 = omega arith
some_per V4 = omega arith

first_of : (es : List Entry) (n : ℕ) (e : Entry) → 0 < n → slice_get (es ++ replicate n e) (length es) ≡ Some e
first_of es zero e some = absurd (omega (arith, some))
first_of [] (suc n) e some = refl
first_of (x ∷ es) (suc n) e some = first_of es (suc n) e some

-- the first of the entries that came behind
pub first_unused : (v : Version) (es all : List Entry) (id : ℕ) → all ≡ longer v es → id ≡ length es → id + dir_entries_per_sector v ≤ greatest_entry + 1 → IsUnused all id
first_unused v es all id is at fits = record {
  fits = let some = some_per v in omega (arith, fits, some);
  entry = empty_entry;
  found = ap (λ l. slice_get l id) is ∙ ap (slice_get (longer v es)) at ∙ first_of es (dir_entries_per_sector v) empty_entry (some_per v);
  of_kind = refl;
}

pub length_longer : (v : Version) (es : List Entry) → length (longer v es) ≡ length es + dir_entries_per_sector v
length_longer v es = simp (length-append, length-replicate) refl

leaves_words : (S : List ℕ → ℕ → List ℕ) (ws xs : List ℕ) (a b : SectorLayer) → ChangesAtMost S [] xs a b → ChangesAtMost S ws xs a b
leaves_words S ws xs a b h = record {
  longer = h.longer;
  size = h.size;
  entries = h.entries;
  sectors = h.sectors;
  apart = h.apart;
  still = h.still;
  behind = h.behind;
  header = λ place count front beside. h.header place count front (beside.0, tt);
}

pub becomes_words : (S : List ℕ → ℕ → List ℕ) (ws ids more later : List ℕ) (a b : SectorLayer) → ReplacesChain S [] ids more later a b → ReplacesChain S ws ids more later a b
becomes_words S ws ids more later a b h = record {
  leaves = leaves_words S ws (ids ++ more) a b h.leaves;
  were_free = h.were_free;
  spare = h.spare;
  linked = h.linked;
  among = h.among;
}

module _ {F : Type 0} {g : Ghosts F} where
  -- nothing was taken in
  pub none_grown : (old new : Directory F g) → allocator_of new ≡ allocator_of old → links_of new ≡ links_of old → entries_held new ≡ entries_held old → HasDirectory old → GrowsDirectory old new
  unfolding seen_of
  none_grown old new same links entries has =
      let a = allocator_of old in
      let v = version_of a in
      let ids = directory_ids old in record {
        more = [];
        ids = ap ids_of links ∙ sym (append-nil ids);
        becomes = subst (λ l. ReplacesChain (sector v) (count_words v) ids [] l (seen_of a) (seen_of (allocator_of new))) (sym (ap ids_of links))
            (subst (λ x. ReplacesChain (sector v) (count_words v) ids [] ids (seen_of a) (seen_of x)) (sym same)
            (becomes_words (sector v) (count_words v) ids [] ids (seen_of a) (seen_of a) (becomes_same (sector v) ids (seen_of a) has.chain.has.linked)));
        has = record {
          chain = subst (λ x. HasDataChain x (links_of new)) (sym same) (subst (HasDataChain a) (sym links) has.chain);
          entries = entries ∙ has.entries ∙ ap (λ l. entries_of v (content_of a l)) (sym links) ∙ ap (λ x. entries_of (version_of x) (content_of x (links_of new))) (sym same);
        };
        counted = λ was. subst (λ x. HeaderCountsDirectory v (bytes_of x) (length (directory_ids new))) (sym same) (subst (λ l. HeaderCountsDirectory v (bytes_of a) (length (ids_of l))) (sym links) was);
      }

  -- memory is that of the bytes then
  pub grown_kept : (old new : Directory F g) → KeepsFileInvariants (allocator_of old) (allocator_of new) → (HasDirectory old → GrowsDirectory old new) → DirectoryMatchesBytes old → LiesBeside old → DirectoryMatchesBytes new
  grown_kept old new goes grown held beside =
      is_directory new (λ live honest. (grown (has_directory old (goes.live live) (subst IsTrue goes.honest honest) held beside)).has)

  -- no number for the sector of entries that was asked for
  pub lacks_sector : (it : Directory F g) (count : ℕ) → count ≡ length (directory_ids it) + 1 → LacksSectors (allocator_of it) (links_of it) count → HasNoneUnused (entries_held it) → LacksEntries it
  unfolding LacksEntries
  lacks_sector it count is lacks none =
      let one : count - length (directory_ids it) ≡ 1 = omega (arith, is) in
      (none, ⊎_elim (λ few. inr (inl (subst (LacksSectorNumbers (allocator_of it)) one few))) (λ long. inr (inr (omega (arith, long, is)))) lacks)

  -- no numbers for the entries of one
  pub lacks_places : (it : Directory F g) → greatest_entry + 1 < length (entries_held it) + dir_entries_per_sector (version_of (allocator_of it)) → HasNoneUnused (entries_held it) → LacksEntries it
  unfolding LacksEntries
  lacks_places it few none = (none, inl few)

  -- what is missing of a directory is missing of one with the same entries and sectors
  pub lacks_same : (old new : Directory F g) → allocator_of new ≡ allocator_of old → directory_ids new ≡ directory_ids old → entries_held new ≡ entries_held old → LacksEntries new → LacksEntries old
  unfolding LacksEntries
  lacks_same old new allocator ids entries lacks = (
    subst HasNoneUnused entries lacks.0,
    ⊎_elim
        (λ few. inl (subst (λ a. greatest_entry + 1 < length (entries_held old) + dir_entries_per_sector (version_of a)) allocator
        (subst (λ es. greatest_entry + 1 < length es + dir_entries_per_sector (version_of (allocator_of new))) entries few)))
        (⊎_elim (λ few. inr (inl (subst (λ a. LacksSectorNumbers a 1) allocator few))) (λ long. inr (inr (subst (λ l. greatest_regular < length l) ids long))))
        lacks.1,
  )
