-- What the streams of a file use, told by memory and by the bytes.
use Rattle.std.proofs.Common.{◌≡◌, ℕ, ◌+◌, ◌-◌, ◌*◌, ◌<◌, ◌≤◌, ◌⊎◌, List, [], ◌∷◌, ◌++◌, length, map, take, drop, zero, suc, refl, ap, sym, subst, ◌∙◌, arith, ⊎_elim, length-append, length-take, length-drop}
use Rattle.std.specs.Prelude.{slice_get, slice_index, Some}
use Rattle.std.specs.List.{flat_map, AllByRecursion}
use Rattle.std.proofs.lemmas.Bool.Decides.{eqb_tells, leb_tells}
use Rattle.std.proofs.lemmas.Option.{slice_get_within}
use Rattle.cfb_medium.specs.Versions.{sector_len}
use Rattle.cfb_sectors.specs.Header.{mini_cutoff}
use Rattle.cfb_sectors.specs.Sectors.{joined, sector_start, sectors_in, AreInFile, Chain, IsInFile}
use Rattle.cfb_sectors.proofs.OneChain.{chain_unique}
use Rattle.cfb_chains.proofs.ChainWriting.{length-joined}
use Rattle.cfb_fat.proofs.DifatChains.{below_in_file, in_file_below}
use Rattle.cfb_tree.specs.Directory.{kind_storage, kind_stream, Entry}
use Rattle.cfb_tree.proofs.OneContent.{Some_same}
use Rattle.cfb_spec.specs.Means.{directory, fat, mini_fat, mini_sector, mini_stream, HasBytes, IsInMiniStream, Layout}
use Rattle.cfb_spec.specs.Sound.{in_file, in_mini_stream, mini_places, EntryUses, IsUsablePart, LieInFile, Part}
use Rattle.cfb_soundness.specs.Places.{places_of}
use Rattle.cfb_soundness.specs.Uses.{mini_start, AreInUse, EntryHas, HasMiniSectors, HasSectors, SectorTables}
use Rattle.cfb_soundness.proofs.Taking.{all_mapped}
use Rattle.cfb_soundness.proofs.MiniPlaces.{mini_place, sector_places}
use Rattle.cfb_ownership.proofs.CutChains.{start_used}
use Rattle.cfb_ownership.proofs.KeysOfParts.{minis_among, minis_of_map, minis_of_sectors, sectors_among, sectors_of_map, sectors_of_minis}
use Rattle.cfb_fat.proofs.CutChains.{chain_of_cut, get_in_cut, get_of_cut}

-- the tables that memory has of a file of these bytes, laid out so: the FAT is cut to the file's sectors
abbrev pub told : List ℕ → Layout → SectorTables
told bytes l = record {
  version = l.version;
  fat = take (sectors_in l.version (length bytes)) (fat bytes l);
  mini_fat = mini_fat bytes l;
  mini_stream = l.mini_stream_sectors;
  mini_len = length l.mini_stream_sectors * sector_len l.version;
  entries = directory bytes l;
  file_len = length bytes;
}

pub chain_used : (table : List ℕ) (start : ℕ) (ids : List ℕ) → Chain table start ids → AreInUse table ids
chain_used table start [] is = tt
chain_used table start (x ∷ ids) (is, regular, next, found, rest) =
    ((next, subst (λ n. slice_get table n ≡ Some next) (sym is) found, start_used table next ids rest), chain_used table next ids rest)

module _ (bytes : List ℕ) (l : Layout) where
  abbrev count : ℕ
  count = sectors_in l.version (length bytes)

  abbrev cut : List ℕ
  cut = take count (fat bytes l)

  abbrev pub IsUsableSector : ℕ → Type 0
  IsUsableSector n = IsUsablePart bytes l (in_file n)

  chain_in_cut : (start : ℕ) (ids : List ℕ) → AllByRecursion IsUsableSector ids → Chain (fat bytes l) start ids → Chain cut start ids
  chain_in_cut start [] all is = is
  chain_in_cut start (x ∷ ids) all (is, regular, next, found, rest) =
      (is, regular, next, get_in_cut count (fat bytes l) start next (subst (λ n. n < count) is (in_file_below l.version bytes x all.0.0)) found, chain_in_cut next ids all.1 rest)

  pub usable_from_use : (ids : List ℕ) → AreInUse cut ids → AllByRecursion IsUsableSector ids
  usable_from_use [] used = tt
  usable_from_use (n ∷ ids) used =
      let within = slice_get_within cut n used.0.0 used.0.1 in
      let below : n < count = omega (arith, within, length-take count (fat bytes l)) in
      ((below_in_file l.version bytes n below, used.0.0, get_of_cut count (fat bytes l) n used.0.0 used.0.1, used.0.2), usable_from_use ids used.1)

  pub use_from_usable : (ids : List ℕ) → AllByRecursion IsUsableSector ids → AreInUse cut ids
  use_from_usable [] all = tt
  use_from_usable (n ∷ ids) all =
      ((all.0.1, get_in_cut count (fat bytes l) n all.0.1 (in_file_below l.version bytes n all.0.0) all.0.2, all.0.3), use_from_usable ids all.1)

  pub usable_chain : (start : ℕ) (ids : List ℕ) → Chain (fat bytes l) start ids → AreInFile l.version bytes ids → AllByRecursion IsUsableSector ids
  usable_chain start [] chain there = tt
  usable_chain start (x ∷ ids) (is, regular, next, found, rest) there =
      ((there.0, next, subst (λ n. slice_get (fat bytes l) n ≡ Some next) (sym is) found, start_used (fat bytes l) next ids rest), usable_chain next ids rest there.1)

  -- parts from numbers, and back
  pub usable_sectors : (ids : List ℕ) → AllByRecursion IsUsableSector ids → AllByRecursion (IsUsablePart bytes l) (map in_file ids)
  usable_sectors [] all = tt
  usable_sectors (n ∷ ids) all = (all.0, usable_sectors ids all.1)

  pub sectors_usable : (ids : List ℕ) → AllByRecursion (IsUsablePart bytes l) (map in_file ids) → AllByRecursion IsUsableSector ids
  sectors_usable [] all = tt
  sectors_usable (n ∷ ids) all = (all.0, sectors_usable ids all.1)

  abbrev AreInside : List ℕ → Type 0
  AreInside ids = (k : ℕ) → k < length ids → 64 * slice_index ids k + 64 ≤ length l.mini_stream_sectors * sector_len l.version

  long_stream : length (mini_stream bytes l) ≡ length l.mini_stream_sectors * sector_len l.version
  long_stream = length-joined l.version bytes l.mini_stream_sectors

  usable_minis : (start : ℕ) (ids : List ℕ) → Chain (mini_fat bytes l) start ids → AreInside ids → AllByRecursion (IsUsablePart bytes l) (map in_mini_stream ids)
  usable_minis start [] chain inside = tt
  usable_minis start (x ∷ ids) (is, regular, next, found, rest) inside = (
    (omega (arith, inside 0 (omega arith), long_stream), next, subst (λ n. slice_get (mini_fat bytes l) n ≡ Some next) (sym is) found, start_used (mini_fat bytes l) next ids rest),
    usable_minis next ids rest (λ k below. inside (suc k) (omega (arith, below))),
  )

  minis_inside : (ids : List ℕ) → AllByRecursion (IsUsablePart bytes l) (map in_mini_stream ids) → AreInside ids
  minis_inside [] all k below = absurd (omega (arith, below))
  minis_inside (x ∷ ids) all zero below = omega (arith, all.0.0, long_stream)
  minis_inside (x ∷ ids) all (suc k) below = minis_inside ids all.1 k (omega (arith, below))

  mini_starts_are : (ids : List ℕ) → AreInside ids → mini_places l ids ≡ places_of 64 (map (mini_start (told bytes l)) ids)
  mini_starts_are [] inside = refl
  mini_starts_are (x ∷ ids) inside =
      let here = mini_place l.version l.mini_stream_sectors x (inside 0 (omega arith)) in
      ap (λ xs. xs ++ mini_places l ids) here
      ∙ ap (λ xs. places_of 64 (mini_start (told bytes l) x ∷ []) ++ xs) (mini_starts_are ids (λ k below. inside (suc k) (omega (arith, below))))

  length-minis : (ids : List ℕ) → AreInside ids → length (flat_map (mini_sector bytes l) ids) ≡ length ids * 64
  length-minis [] inside = omega arith
  length-minis (x ∷ ids) inside =
      let few : 64 * x + 64 - 64 * x ≡ 64 = omega arith in
      let one : length (mini_sector bytes l x) ≡ 64 =
      omega (arith, length-take (64 * x + 64 - 64 * x) (drop (64 * x) (mini_stream bytes l)), length-drop (64 * x) (mini_stream bytes l), inside 0 (omega arith), long_stream) in
      omega (arith, one, length-append (mini_sector bytes l x) (flat_map (mini_sector bytes l) ids), length-minis ids (λ k below. inside (suc k) (omega (arith, below))))

  length-starts : (v : ℕ → ℕ) (ids : List ℕ) → length (map v ids) ≡ length ids
  length-starts v [] = refl
  length-starts v (x ∷ ids) = ap suc (length-starts v ids)

  -- what an entry uses, as parts, where memory tells it
  pub record EntryTold (id : ℕ) (own minis : List ℕ) : Type 0 where
    pub parts : List Part
    pub entry : Entry
    pub found : slice_get (directory bytes l) id ≡ Some entry
    pub uses : EntryUses bytes l entry parts
    pub sectors_are : sectors_among parts ≡ own
    pub minis_are : minis_among parts ≡ minis
    pub usable : AllByRecursion (IsUsablePart bytes l) parts
    pub has : entry.kind ≡ kind_stream → (content : List ℕ) × HasBytes bytes l entry content

  short_told : (id : ℕ) (e : Entry) (own minis : List ℕ) → slice_get (directory bytes l) id ≡ Some e → e.kind ≡ kind_stream → e.size < mini_cutoff
      → own ≡ [] → HasMiniSectors (told bytes l) e minis → EntryTold id own minis
  short_told id e own minis found is_stream below none h =
      let long = length-minis minis h.inside in
      let size = length-starts (mini_start (told bytes l)) minis in
      record {
        parts = map in_mini_stream minis;
        entry = e;
        found = found;
        uses = record {
          storage = λ is. absurd (omega (arith, is, is_stream));
          short = λ _ _. (minis, h.chain, refl, subst (λ xs. LieInFile bytes e xs) (sym (mini_starts_are minis h.inside)) h.held.there);
          long = λ _ up. absurd (omega (arith, below, up));
        };
        sectors_are = sectors_of_minis minis ∙ sym none;
        minis_are = minis_of_map minis;
        usable = usable_minis e.start minis h.chain h.inside;
        has = λ _. (
          take e.size (flat_map (mini_sector bytes l) minis),
          record {
            short = λ _. record {
              sectors = minis;
              chain = h.chain;
              in_stream = in_stream minis h.inside;
              content_is = refl;
              whole = omega (arith, length-take e.size (flat_map (mini_sector bytes l) minis), long, size, h.held.enough);
            };
            long = λ up. absurd (omega (arith, below, up));
          },
        );
      }
    where
      in_stream : (ids : List ℕ) → AreInside ids → AllByRecursion (IsInMiniStream bytes l) ids
      in_stream [] inside = tt
      in_stream (x ∷ ids) inside = (omega (arith, inside 0 (omega arith), long_stream), in_stream ids (λ k below. inside (suc k) (omega (arith, below))))

  long_told : (id : ℕ) (e : Entry) (own minis : List ℕ) → slice_get (directory bytes l) id ≡ Some e → e.kind ≡ kind_stream → mini_cutoff ≤ e.size
      → minis ≡ [] → HasSectors (told bytes l) e own → EntryTold id own minis
  long_told id e own minis found is_stream up none h =
      let used = usable_from_use own (chain_used cut e.start own h.chain) in
      let chain = chain_of_cut count (fat bytes l) e.start own h.chain in
      let enough : e.size ≤ length own * sector_len l.version = subst (λ n. e.size ≤ n * sector_len l.version) (length-starts (sector_start l.version) own) h.held.enough in
      record {
        parts = map in_file own;
        entry = e;
        found = found;
        uses = record {
          storage = λ is. absurd (omega (arith, is, is_stream));
          short = λ _ below. absurd (omega (arith, below, up));
          long = λ _ _. (own, chain, refl, subst (λ xs. LieInFile bytes e xs) (sym (sector_places l.version own)) h.held.there);
        };
        sectors_are = sectors_of_map own;
        minis_are = minis_of_sectors own ∙ sym none;
        usable = usable_sectors own used;
        has = λ _. (
          take e.size (joined l.version bytes own),
          record {
            short = λ below. absurd (omega (arith, below, up));
            long = λ _. record {
              sectors = own;
              chain = chain;
              in_file = all_mapped IsUsableSector (IsInFile l.version bytes) (λ n u. u.0) own used;
              content_is = refl;
              whole = omega (arith, length-take e.size (joined l.version bytes own), length-joined l.version bytes own, enough);
            };
          },
        );
      }

  pub entry_told : (id : ℕ) (own minis : List ℕ) → EntryHas (told bytes l) id own minis → EntryTold id own minis
  entry_told id own minis h = ⊎_elim
      (λ is. ⊎_elim
      (λ up. let long = h.long is.1 up.1 in long_told id h.entry own minis h.found is.1 up.1 long.0 long.1)
      (λ below. let short = h.short is.1 below.1 in short_told id h.entry own minis h.found is.1 below.1 short.0 short.1)
      (leb_tells mini_cutoff h.entry.size))
      (λ other. let none = h.other other.1 in record {
        parts = [];
        entry = h.entry;
        found = h.found;
        uses = record {
          storage = λ _. refl;
          short = λ is _. absurd (other.1 is);
          long = λ is _. absurd (other.1 is);
        };
        sectors_are = sym none.0;
        minis_are = sym none.1;
        usable = tt;
        has = λ is. absurd (other.1 is);
      })
      (eqb_tells h.entry.kind kind_stream)

  -- each of these entries is a storage, or a stream that has bytes
  abbrev pub HasKind : (Entry → List ℕ → Type 0) → ℕ → Type 0
  HasKind Reads id = (e : Entry) × (slice_get (directory bytes l) id ≡ Some e) × ((e.kind ≡ kind_storage) ⊎ ((e.kind ≡ kind_stream) × (content : List ℕ) × Reads e content))

  -- what memory tells of an entry, where its parts are usable
  pub entry_has : (id : ℕ) (e : Entry) (parts : List Part) → slice_get (directory bytes l) id ≡ Some e → EntryUses bytes l e parts → HasKind (HasBytes bytes l) id
      → AllByRecursion (IsUsablePart bytes l) parts → EntryHas (told bytes l) id (sectors_among parts) (minis_among parts)
  entry_has id e parts found uses (e', found', kind) usable =
      let same : e' ≡ e = Some_same (sym found' ∙ found) in
      let kind_is : (e.kind ≡ kind_storage) ⊎ ((e.kind ≡ kind_stream) × (content : List ℕ) × HasBytes bytes l e content) =
      subst (λ (x : Entry). (x.kind ≡ kind_storage) ⊎ ((x.kind ≡ kind_stream) × (content : List ℕ) × HasBytes bytes l x content)) same kind in
      ⊎_elim
      (λ is. record {
        entry = e;
        found = found;
        short = λ is_stream _. absurd (omega (arith, is, is_stream));
        long = λ is_stream _. absurd (omega (arith, is, is_stream));
        other = λ _. let none = uses.storage is in (ap sectors_among none, ap minis_among none);
      })
      (λ (is, content, has). record {
        entry = e;
        found = found;
        short = λ _ below.
            let mine = uses.short is below in
            let read = has.short below in
            let ids : read.sectors ≡ mine.0 = chain_unique (mini_fat bytes l) e.start read.sectors mine.0 read.chain mine.1 in
            let inside = minis_inside mine.0 (subst (AllByRecursion (IsUsablePart bytes l)) mine.2 usable) in
            let size : length content ≤ length mine.0 * 64 = omega (arith, ap length read.content_is, length-take e.size (flat_map (mini_sector bytes l) read.sectors), ap (λ xs. length (flat_map (mini_sector bytes l) xs)) ids, length-minis mine.0 inside) in (
              ap sectors_among mine.2 ∙ sectors_of_minis mine.0,
              subst (HasMiniSectors (told bytes l) e) (sym (ap minis_among mine.2 ∙ minis_of_map mine.0))
                  (record {
                    chain = mine.1;
                    inside = inside;
                    held = record {
                      enough = omega (arith, size, read.whole, length-starts (mini_start (told bytes l)) mine.0);
                      there = subst (λ xs. LieInFile bytes e xs) (mini_starts_are mine.0 inside) mine.3;
                    };
                  }),
            );
        long = λ _ up.
            let mine = uses.long is up in
            let read = has.long up in
            let ids : read.sectors ≡ mine.0 = chain_unique (fat bytes l) e.start read.sectors mine.0 read.chain mine.1 in
            let used = sectors_usable mine.0 (subst (AllByRecursion (IsUsablePart bytes l)) mine.2 usable) in
            let size : length content ≤ length mine.0 * sector_len l.version = omega (arith, ap length read.content_is, length-take e.size (joined l.version bytes read.sectors), ap (λ xs. length (joined l.version bytes xs)) ids, length-joined l.version bytes mine.0) in (
              ap minis_among mine.2 ∙ minis_of_sectors mine.0,
              subst (HasSectors (told bytes l) e) (sym (ap sectors_among mine.2 ∙ sectors_of_map mine.0))
                  (record {
                    chain = chain_in_cut e.start mine.0 used mine.1;
                    held = record {
                      enough = subst (λ n. e.size ≤ n * sector_len l.version) (sym (length-starts (sector_start l.version) mine.0)) (omega (arith, size, read.whole));
                      there = subst (λ xs. LieInFile bytes e xs) (sector_places l.version mine.0) mine.3;
                    };
                  }),
            );
        other = λ other. absurd (other is);
      })
      kind_is
