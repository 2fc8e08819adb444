-- What calls keep behind the FAT, and the causes of errors after them.
use Rattle.std.specs.Prelude.{◌≡◌, ℕ, ◌+◌, ◌≤◌, ◌||◌, false, true, List, [], ◌++◌, length, IsTrue}
use Rattle.std.specs.List.{AllByRecursion}
use Rattle.std.proofs.Common.{◌∙◌, ap, arith, inl, length-append, inr, le_of_eq, le_trans, sym, subst, ⊎_elim}
use Rattle.cfb_medium.specs.Bytes.{overwritten}
use Rattle.cfb_medium.specs.Calls.{IsJustifiedError}
use Rattle.cfb_medium.specs.declared.error.Error.{Error}
use Rattle.cfb_medium.specs.declared.error.Error.TheVariants.{Device, Failed}
use Rattle.cfb_medium.specs.declared.version.Version.{Version}
use Rattle.cfb_medium.specs.declared.medium.ReadMedium.{Ghosts}
use Rattle.cfb_sectors.specs.Header.{difat_sector_count, fat_sector_count}
use Rattle.cfb_sectors.specs.Held.{count_of}
use Rattle.cfb_sectors.specs.Keeping as sectors
use Rattle.cfb_sectors.specs.Sectors.{filled_part, sector_start}
use Rattle.cfb_fat.specs.declared.allocator.Allocator.{Allocator}
use Rattle.cfb_chains.proofs.Beside.{beside_both, beside_first, beside_second, free_then, start_later, stay_same, stay_then}
use Rattle.cfb_fat.specs.Changing.{ChangesFat, MayWrite, WritesBeside}
use Rattle.cfb_fat.specs.Growing.{GrowsFat, IsLean, AllocatesSectors}
use Rattle.cfb_chains.proofs.LongerTables.{holds_again, holds_then, marked_none, marked_then, never, whole_then}
use Rattle.cfb_chains.specs.Changes.{DifferOnlyAt, IsBeside, IsFreeIn, IsNotIn, SameExceptAt}
use Rattle.cfb_fat.specs.Listed.{EndsAsStrict}
use Rattle.cfb_fat.specs.Orderly.{AreLean, IsBesideWords}
use Rattle.cfb_fat.specs.Tables.{bytes_of, difat_sectors_of, fat_of, fat_sectors_of, has_failed_here, is_honest, medium_of, orderly_of, sectors_of, tables_of, version_of, AllFails, OnlyReadsAllocator, IsJustifiedBySectors, HasEnds, HeaderCountsTables}

-- a part of what is beside others is beside them
beside_part : (v : Version) (sectors : List ℕ) (place count part size : ℕ) → IsBeside v sectors place count → place ≤ part → part + size ≤ place + count → IsBeside v sectors part size
beside_part v sectors place count part size beside from within k below =
    ⊎_elim (λ before. inl (le_trans before from)) (λ behind. inr (le_trans within behind)) (beside k below)

words_part : (place count part size : ℕ) → IsBesideWords place count → place ≤ part → part + size ≤ place + count → IsBesideWords part size
words_part place count part size beside from within =
    ⊎_elim (λ before. inl (le_trans within before)) (λ rest. inr (⊎_elim (λ between. inl (le_trans between.0 from, le_trans within between.1)) (λ behind. inr (le_trans behind from)) rest)) beside

-- lean tables are so for more sectors
pub lean_more : (v : Version) (count fat_count difat_count content more : ℕ) → content ≤ more → AreLean v count fat_count difat_count content → AreLean v count fat_count difat_count more
lean_more v count fat_count difat_count content more few h = record {
  most = omega (arith, few, h.most);
  fat = λ f d below named. le_trans (h.fat f d below named) (omega (arith, few));
  difat = h.difat;
}

-- and so are others of the same lengths
pub lean_same : (v w : Version) (count fat_count difat_count content later fat_later difat_later more : ℕ) → w ≡ v → later ≡ count → fat_later ≡ fat_count → difat_later ≡ difat_count → content ≤ more
    → AreLean v count fat_count difat_count content → AreLean w later fat_later difat_later more
lean_same v w count fat_count difat_count content later fat_later difat_later more version size fat difat few lean =
    lean_more w later fat_later difat_later content more few
    (subst (λ u. AreLean u later fat_later difat_later content) (sym version)
    (subst (λ n. AreLean v n fat_later difat_later content) (sym size)
    (subst (λ n. AreLean v count n difat_later content) (sym fat)
    (subst (λ n. AreLean v count fat_count n content) (sym difat) lean))))

module _ {F : Type 0} {g : Ghosts F} where
  pub rests_keep : (a b : Allocator F g) → OnlyReadsAllocator a b → (is_honest b ≡ is_honest a) × (has_failed_here b ≡ has_failed_here a) × (IsTrue (is_honest a) → bytes_of b ≡ bytes_of a)
  rests_keep a b h = sectors.rests_keep a.sectors b.sectors h.sectors

  pub rests_cause : (a b c : Allocator F g) (e : Error) → OnlyReadsAllocator a b → IsJustifiedBySectors b c e → IsJustifiedBySectors a c e
  rests_cause a b c e h = sectors.rests_cause a.sectors b.sectors c.sectors e h.sectors

  -- an error that is no device's has no cause but an earlier fault
  pub own_cause : (a b : Allocator F g) (e : Error) → (e ≡ Device → ⊥) → (e ≡ Failed → has_failed_here a ≡ true) → IsJustifiedBySectors a b e
  own_cause a b = sectors.own_cause a.sectors b.sectors

  pub fails_keep : (a b : Allocator F g) → AllFails a b → (is_honest b ≡ is_honest a) × (has_failed_here b ≡ true)
  fails_keep a b h = sectors.fails_keep a.sectors b.sectors h.sectors

  pub fails_cause : (a b c : Allocator F g) (e : Error) → IsJustifiedBySectors a b e → AllFails b c → IsJustifiedBySectors a c e
  fails_cause a b c e cause h = sectors.fails_cause a.sectors b.sectors c.sectors e cause h.sectors

  pub writes_keep : (place : ℕ) (written : List ℕ) (a b : Allocator F g) → WritesBeside place written a b
      → (is_honest b ≡ is_honest a) × (has_failed_here b ≡ false → (has_failed_here a ≡ false) × (IsTrue (is_honest a) → bytes_of b ≡ overwritten (bytes_of a) place written))
  writes_keep place written a b h = sectors.writes_keep place written a.sectors b.sectors h.sectors

  pub writes_cause : (place : ℕ) (written : List ℕ) (a b c : Allocator F g) (e : Error) → WritesBeside place written a b → has_failed_here b ≡ false → IsJustifiedBySectors b c e → IsJustifiedBySectors a c e
  writes_cause place written a b c e h = sectors.writes_cause place written a.sectors b.sectors c.sectors e h.sectors

  -- what may be written whole may be written in part
  pub may_part : (it : Allocator F g) (place count part size : ℕ) → MayWrite it place count → place ≤ part → part + size ≤ place + count → MayWrite it part size
  may_part it place count part size h from within = record {
    ends = sectors.may_part it.sectors place count part size h.ends from within;
    fat = beside_part (version_of it) (fat_sectors_of it) place count part size h.fat from within;
    difat = beside_part (version_of it) (difat_sectors_of it) place count part size h.difat from within;
    words = words_part place count part size h.words from within;
  }

  pub may_still : (a b : Allocator F g) → version_of b ≡ version_of a → count_of (sectors_of b) ≡ count_of (sectors_of a) → fat_sectors_of b ≡ fat_sectors_of a → difat_sectors_of b ≡ difat_sectors_of a
      → (place count : ℕ) → MayWrite a place count → MayWrite b place count
  may_still a b version counted fat_sectors difat_sectors place count h = record {
    ends = subst (λ v. place + count ≤ sector_start v (count_of (sectors_of b))) (sym version) (subst (λ n. place + count ≤ sector_start (version_of a) n) (sym counted) h.ends);
    fat = subst (λ v. IsBeside v (fat_sectors_of b) place count) (sym version) (subst (λ s. IsBeside (version_of a) s place count) (sym fat_sectors) h.fat);
    difat = subst (λ v. IsBeside v (difat_sectors_of b) place count) (sym version) (subst (λ s. IsBeside (version_of a) s place count) (sym difat_sectors) h.difat);
    words = h.words;
  }

  pub changes_keep : (entries : List ℕ) (a b : Allocator F g) → ChangesFat entries a b → (is_honest b ≡ is_honest a)
      × (has_failed_here b ≡ false → (has_failed_here a ≡ false) × DifferOnlyAt entries (fat_of a) (fat_of b)
      × ((place count : ℕ) → MayWrite a place count → MayWrite b place count)
      × (IsTrue (is_honest a) → (place count : ℕ) → MayWrite a place count → filled_part (bytes_of b) place count ≡ filled_part (bytes_of a) place count))
  changes_keep entries a b h = (h.honest, λ live. (h.live live, h.fat live, may_still a b h.version h.count h.fat_sectors h.difat_sectors, λ honest place count may. h.beside live honest place count may.fat))

  pub rests_keep_tables : (a b : Allocator F g) → OnlyReadsAllocator a b → (fat_of b ≡ fat_of a) × (orderly_of b ≡ orderly_of a) × ((place count : ℕ) → MayWrite a place count → MayWrite b place count)
  rests_keep_tables a b h = (h.fat, h.orderly, may_still a b h.sectors.version h.sectors.count h.fat_sectors h.difat_sectors)

  pub writes_keep_tables : (place : ℕ) (written : List ℕ) (a b : Allocator F g) → WritesBeside place written a b → (fat_of b ≡ fat_of a) × (orderly_of b ≡ orderly_of a)
  writes_keep_tables place written a b h = (h.fat, h.orderly)

  -- tables that became longer leave what may be written
  may_then : (taken entries : List ℕ) (a b : Allocator F g) → GrowsFat taken entries a b → has_failed_here b ≡ false → (place count : ℕ) → MayWrite a place count → MayWrite b place count
  may_then taken entries a b h live place count may =
      let v = version_of a in
      let apart : IsBeside (version_of b) (tables_of b) place count = subst (λ u. IsBeside u (tables_of b) place count) (sym h.version) (h.tables live place count may.ends (beside_both v (difat_sectors_of a) (fat_sectors_of a) place count may.difat may.fat)) in
      record {
        ends = subst (λ u. place + count ≤ sector_start u (count_of (sectors_of b))) (sym h.version) (start_later v (count_of (sectors_of a)) (count_of (sectors_of b)) (place + count) (h.count live) may.ends);
        fat = beside_second (version_of b) (difat_sectors_of b) (fat_sectors_of b) place count apart;
        difat = beside_first (version_of b) (difat_sectors_of b) (fat_sectors_of b) place count apart;
        words = may.words;
      }

  pub takes_keep : (taken entries : List ℕ) (a b : Allocator F g) → AllocatesSectors taken entries a b → (is_honest b ≡ is_honest a) × (version_of b ≡ version_of a)
      × (has_failed_here b ≡ false → (has_failed_here a ≡ false) × AllByRecursion (IsFreeIn (fat_of a)) taken × SameExceptAt entries (fat_of a) (fat_of b)
      × ((place count : ℕ) → MayWrite a place count → MayWrite b place count)
      × (IsTrue (is_honest a) → (place count : ℕ) → MayWrite a place count → IsBeside (version_of a) taken place count → filled_part (bytes_of b) place count ≡ filled_part (bytes_of a) place count)
      × (orderly_of b ≡ orderly_of a))
  takes_keep taken entries a b h = (
    h.grows.honest,
    h.grows.version,
    λ live. (
      h.grows.live live,
      h.free live,
      h.grows.fat live,
      may_then taken entries a b h.grows live,
      λ honest place count may apart. h.grows.beside live honest place count may.ends (beside_both (version_of a) (difat_sectors_of a) (fat_sectors_of a) place count may.difat may.fat) may.words apart,
      h.grows.orderly live,
    ),
  )

  pub tables_same : (a b : Allocator F g) → difat_sectors_of b ≡ difat_sectors_of a → fat_sectors_of b ≡ fat_sectors_of a → tables_of b ≡ tables_of a
  tables_same a b difat fat = ap (λ l. l ++ fat_sectors_of b) difat ∙ ap (λ l. difat_sectors_of a ++ l) fat

  -- the header's numbers stay right
  pub told_same : (a b : Allocator F g) → bytes_of b ≡ bytes_of a → difat_sectors_of b ≡ difat_sectors_of a → fat_sectors_of b ≡ fat_sectors_of a → HeaderCountsTables a → HeaderCountsTables b
  told_same a b bytes difat fat h = record {
    difat_count = ap difat_sector_count bytes ∙ h.difat_count ∙ ap length (sym difat);
    fat_count = ap fat_sector_count bytes ∙ h.fat_count ∙ ap length (sym fat);
  }

  -- file and DIFAT end as they did
  pub ends_rest : (a b : Allocator F g) → OnlyReadsAllocator a b → IsTrue (is_honest a) → HasEnds a → HasEnds b
  ends_rest a b h honest ends =
      subst (λ v. EndsAsStrict v (bytes_of b) (difat_sectors_of b)) (sym h.sectors.version) (subst (λ l. EndsAsStrict (version_of a) l (difat_sectors_of b)) (sym (h.sectors.bytes honest))
      (subst (EndsAsStrict (version_of a) (bytes_of a)) (sym h.difat_sectors) ends))

  -- tables that are the same are as lean
  pub lean_kept : (taken : List ℕ) (a b : Allocator F g) → version_of b ≡ version_of a → length (fat_of b) ≡ length (fat_of a) → fat_sectors_of b ≡ fat_sectors_of a → difat_sectors_of b ≡ difat_sectors_of a
      → (content : ℕ) → IsLean a content → IsLean b (content + length taken)
  lean_kept taken a b version size fat difat content lean = lean_same (version_of a) (version_of b) _ _ _ content _ _ _ _ version size (ap length fat) (ap length difat) (omega arith) lean

  pub takes_rest : (entries : List ℕ) (a b : Allocator F g) → OnlyReadsAllocator a b → AllocatesSectors [] entries a b
  takes_rest entries a b h = record {
    grows = record {
      honest = h.sectors.honest;
      continues = h.sectors.continues;
      version = h.sectors.version;
      live = λ live. sym h.sectors.failed ∙ live;
      count = λ live. le_of_eq (sym h.sectors.count);
      orderly = λ live. h.orderly;
      fat = λ live. stay_same entries (fat_of a) (fat_of b) h.fat;
      tables = λ live place count fits apart. subst (λ l. IsBeside (version_of a) l place count) (sym (tables_same a b h.difat_sectors h.fat_sectors)) apart;
      still = λ live n. (subst (λ l. IsNotIn l n) h.difat_sectors, subst (λ l. IsNotIn l n) h.fat_sectors);
      longer = λ live honest. le_of_eq (ap length (sym (h.sectors.bytes honest)));
      lean = λ live. lean_kept [] a b h.sectors.version (ap length h.fat) h.fat_sectors h.difat_sectors;
      told = λ live honest. holds_then (tables_of a) (tables_of b) (tables_same a b h.difat_sectors h.fat_sectors) (λ told. told_same a b (h.sectors.bytes honest) h.difat_sectors h.fat_sectors told);
      ends = λ live honest orderly. ends_rest a b h honest;
      beside = λ live honest place count fits apart words aside. subst (λ l. filled_part l place count ≡ filled_part (bytes_of a) place count) (sym (h.sectors.bytes honest)) (λ i. filled_part (bytes_of a) place count);
    };
    free = λ live. tt;
    used = λ live n loose. subst (λ l. IsFreeIn l n) h.fat loose;
    behind = λ live. marked_none [] entries (difat_sectors_of b) (fat_sectors_of b) (fat_of a) (fat_of b) h.fat;
    whole = λ live honest. tt;
  }

  pub grows_then : (taken entries more others : List ℕ) (a b c : Allocator F g) → GrowsFat taken entries a b → GrowsFat more others b c → GrowsFat (taken ++ more) (entries ++ others) a c
  grows_then taken entries more others a b c h k =
      let v = version_of a in
      let later : has_failed_here c ≡ false → (place : ℕ) → place ≤ sector_start v (count_of (sectors_of a)) → place ≤ sector_start (version_of b) (count_of (sectors_of b)) =
      λ live place fits. subst (λ u. place ≤ sector_start u (count_of (sectors_of b))) (sym h.version) (start_later v (count_of (sectors_of a)) (count_of (sectors_of b)) place (h.count (k.live live)) fits) in
      let apart_then : has_failed_here c ≡ false → (place count : ℕ) → place + count ≤ sector_start v (count_of (sectors_of a)) → IsBeside v (tables_of a) place count → IsBeside (version_of b) (tables_of b) place count =
      λ live place count fits apart. subst (λ u. IsBeside u (tables_of b) place count) (sym h.version) (h.tables (k.live live) place count fits apart) in
      record {
        honest = k.honest ∙ h.honest;
        continues = λ start from. k.continues start (h.continues start from);
        version = k.version ∙ h.version;
        live = λ live. h.live (k.live live);
        count = λ live. le_trans (h.count (k.live live)) (k.count live);
        orderly = λ live. k.orderly live ∙ h.orderly (k.live live);
        fat = λ live. stay_then entries others (fat_of a) (fat_of b) (fat_of c) (h.fat (k.live live)) (k.fat live);
        still = λ live n. ((λ none. (h.still (k.live live) n).0 ((k.still live n).0 none)), (λ none. (h.still (k.live live) n).1 ((k.still live n).1 none)));
        longer = λ live honest. le_trans (h.longer (k.live live) honest) (k.longer live (subst IsTrue (sym h.honest) honest));
        lean = λ live content lean. lean_more (version_of c) (length (fat_of c)) (length (fat_sectors_of c)) (length (difat_sectors_of c)) _ _ (let both = length-append taken more in omega (arith, both))
            (k.lean live (content + length taken) (h.lean (k.live live) content lean));
        told = λ live honest. holds_again (tables_of a) (tables_of b) (tables_of c) (h.told (k.live live) honest) (k.told live (subst IsTrue (sym h.honest) honest));
        ends = λ live honest orderly ends.
            k.ends live (subst IsTrue (sym h.honest) honest) (subst IsTrue (sym (h.orderly (k.live live))) orderly) (h.ends (k.live live) honest orderly ends);
        tables = λ live place count fits apart. subst (λ u. IsBeside u (tables_of c) place count) h.version (k.tables live place count (later live (place + count) fits) (apart_then live place count fits apart));
        beside = λ live honest place count fits apart words aside.
            k.beside live (subst IsTrue (sym h.honest) honest) place count (later live (place + count) fits) (apart_then live place count fits apart) words
            (subst (λ u. IsBeside u more place count) (sym h.version) (beside_second v taken more place count aside))
            ∙ h.beside (k.live live) honest place count fits apart words (beside_first v taken more place count aside);
      }

  pub takes_then : (taken entries more others : List ℕ) (a b c : Allocator F g) → AllocatesSectors taken entries a b → AllocatesSectors more others b c → AllocatesSectors (taken ++ more) (entries ++ others) a c
  takes_then taken entries more others a b c h k = record {
    grows = grows_then taken entries more others a b c h.grows k.grows;
    free = λ live. free_then (fat_of a) (fat_of b) taken more (h.used (k.grows.live live)) (h.free (k.grows.live live)) (k.free live);
    used = λ live n loose. h.used (k.grows.live live) n (k.used live n loose);
    behind = λ live. marked_then taken more entries others (difat_sectors_of b) (fat_sectors_of b) (difat_sectors_of c) (fat_sectors_of c) (fat_of a) (fat_of b) (fat_of c)
        (k.grows.still live) (k.grows.fat live) (h.behind (k.grows.live live)) (k.behind live);
    whole = λ live honest. whole_then (version_of b) (version_of c) taken more (bytes_of b) (bytes_of c) k.grows.version (k.grows.longer live (subst IsTrue (sym h.grows.honest) honest)) (h.whole (k.grows.live live) honest) (k.whole live (subst IsTrue (sym h.grows.honest) honest));
  }

  -- of one that has failed nothing more is said
  pub takes_fails : (taken entries : List ℕ) (a b c : Allocator F g) → AllocatesSectors taken entries a b → AllFails b c → AllocatesSectors taken entries a c
  takes_fails taken entries a b c h k = let is_set = k.sectors.failed in record {
    grows = record {
      honest = ap g.honest k.sectors.medium ∙ h.grows.honest;
      continues = λ start from. subst (g.continues start) (sym k.sectors.medium) (h.grows.continues start from);
      version = k.sectors.version ∙ h.grows.version;
      live = never (has_failed_here c) is_set;
      count = never (has_failed_here c) is_set;
      orderly = never (has_failed_here c) is_set;
      fat = never (has_failed_here c) is_set;
      tables = never (has_failed_here c) is_set;
      still = never (has_failed_here c) is_set;
      longer = never (has_failed_here c) is_set;
      lean = never (has_failed_here c) is_set;
      told = never (has_failed_here c) is_set;
      ends = never (has_failed_here c) is_set;
      beside = never (has_failed_here c) is_set;
    };
    free = never (has_failed_here c) is_set;
    used = never (has_failed_here c) is_set;
    behind = never (has_failed_here c) is_set;
    whole = never (has_failed_here c) is_set;
  }

  pub takes_cause : (taken entries : List ℕ) (a b c : Allocator F g) (e : Error) → AllocatesSectors taken entries a b → has_failed_here b ≡ false → IsJustifiedBySectors b c e → IsJustifiedBySectors a c e
  takes_cause taken entries a b c e h live cause =
      λ start from. subst (λ f. IsJustifiedError g.failures (λ m. f || g.failed m) start (medium_of c) e) (live ∙ sym (h.grows.live live)) (cause start (h.grows.continues start from))
