-- Header and tables, as calls read them.
use Rattle.std.proofs.Common.{◌≡◌, ℕ, ◌<◌, ◌≤◌, List, [], ◌∷◌, ◌++◌, length, take, replicate, false, IsTrue, ap, sym, subst, ◌∙◌, arith, suc, zero}
use Rattle.std.specs.List.{AllByRecursion}
use Rattle.cfb_medium.specs.Numbers.{u16_at}
use Rattle.cfb_medium.specs.declared.medium.ReadMedium.{Ghosts}
use Rattle.cfb_medium.specs.declared.version.Version.{Version}
use Rattle.cfb_sectors.specs.Header.{first_difat_sector, HasFields, HeaderFields}
use Rattle.cfb_sectors.specs.Held.{bytes_of, count_of, has_failed_here, medium_of, version_of, AreSectorNumbers, IsHonest}
use Rattle.cfb_sectors.specs.Sectors.{difat, fat_in, free, sectors_in, AreInFile, DifatChain}
use Rattle.cfb_sectors.specs.declared.sectors.Sectors.{Sectors}
use Rattle.cfb_fat.specs.Listed.{IsStop, Lists}
use Rattle.cfb_fat.specs.Orderly.{AreBelow}
use Rattle.cfb_fat.proofs.DifatChains.{below_in_file, in_file_below}
use Rattle.cfb_fat.proofs.Listing.{lists_same}
use Rattle.cfb_spec.specs.Means.{IsLaidOut, Layout}
use Rattle.cfb_spec.proofs.OneTree.{version_unique}
use Rattle.cfb_opening.specs.Tables.{AreSectorTables, OnlyReadsMedium}

in_file_counted : (v : Version) (b ids : List ℕ) (count : ℕ) → count ≡ sectors_in v (length b) → AreInFile v b ids → AllByRecursion (λ n. n < count) ids
in_file_counted v b [] count is there = tt
in_file_counted v b (x ∷ ids) count is there = (subst (λ n. x < n) (sym is) (in_file_below v b x there.0), in_file_counted v b ids count is there.1)

counted_in_file : (v : Version) (b ids : List ℕ) (count : ℕ) → count ≡ sectors_in v (length b) → AllByRecursion (λ n. n < count) ids → AreInFile v b ids
counted_in_file v b [] count is there = tt
counted_in_file v b (x ∷ ids) count is there = (below_in_file v b x (subst (λ n. x < n) is there.0), counted_in_file v b ids count is there.1)

below_counted : (count : ℕ) (ids : List ℕ) → AllByRecursion (λ n. n < count) ids → AreBelow count ids
below_counted count [] all k inside = absurd (omega (arith, inside))
below_counted count (x ∷ ids) all zero inside = all.0
below_counted count (x ∷ ids) all (suc k) inside = below_counted count ids all.1 k (omega (arith, inside))

module _ (b : List ℕ) (h : HeaderFields) (header : HasFields h b) (l : Layout) (a : IsLaidOut b l) where
  -- a layout of the bytes is one of the header's version
  pub version_is : l.version ≡ h.version
  version_is = version_unique l.version h.version (u16_at b 26) a.header.for_version header.header.for_version

  pub difat_chain_of : DifatChain h.version b (first_difat_sector b) l.difat_sectors l.difat_stop
  difat_chain_of = subst (λ v. DifatChain v b (first_difat_sector b) l.difat_sectors l.difat_stop) version_is a.difat_chain

  pub lists_of : Lists h.version b l.difat_sectors l.fat_sectors
  lists_of = record {
    stop = l.difat_stop;
    stops = a.difat_end;
    chain = difat_chain_of;
    unused = a.fat_named.0;
    entries = subst (λ v. difat v b l.difat_sectors ≡ l.fat_sectors ++ replicate a.fat_named.0 free) version_is a.fat_named.1;
  }

-- sectors over a medium that begins with a header
module _ {F : Type 0} {g : Ghosts F} (m : F) (s : Sectors F g) (h : HeaderFields) (reads : OnlyReadsMedium g.honest g.bytes g.continues m (medium_of s))
    (version : version_of s ≡ h.version) (honest : IsTrue (g.honest m)) (header : HasFields h (g.bytes m)) where
  still : IsHonest s
  still = subst IsTrue (sym reads.as_honest) honest

  same : bytes_of s ≡ g.bytes m
  same = reads.same honest

  whole : 512 ≤ length (bytes_of s)
  whole = subst (λ b. 512 ≤ length b) (sym same) header.header.whole

  count_is : has_failed_here s ≡ false → count_of s ≡ sectors_in h.version (length (g.bytes m))
  count_is live = s.counted live still ∙ ap (λ v. sectors_in v (length (bytes_of s))) version ∙ ap (λ b. sectors_in h.version (length b)) same

  pub listed : (ds fs : List ℕ) → (IsHonest s → 512 ≤ length (bytes_of s) → Lists (version_of s) (bytes_of s) ds fs) → Lists h.version (g.bytes m) ds fs
  listed ds fs told = subst (λ b. Lists h.version b ds fs) same (subst (λ v. Lists v (bytes_of s) ds fs) version (told still whole))

  pub difat_refused : (IsHonest s → 512 ≤ length (bytes_of s) → (ds fs : List ℕ) → Lists (version_of s) (bytes_of s) ds fs → ⊥) → (l : Layout) → IsLaidOut (g.bytes m) l → ⊥
  difat_refused none l a =
      none still whole l.difat_sectors l.fat_sectors
      (subst (λ v. Lists v (bytes_of s) l.difat_sectors l.fat_sectors) (sym version) (subst (λ b. Lists h.version b l.difat_sectors l.fat_sectors) (sym same) (lists_of (g.bytes m) h header l a)))

  pub fat_refused : has_failed_here s ≡ false → (ds fs : List ℕ) → Lists h.version (g.bytes m) ds fs → ((front : List ℕ) → fs ≡ front ++ free ∷ [] → ⊥) → (AreSectorNumbers s fs → ⊥)
      → (l : Layout) → IsLaidOut (g.bytes m) l → ⊥
  fat_refused live ds fs lists never missing l a =
      let b = g.bytes m in
      let count = count_of s in
      let known : AllByRecursion (λ n. n < count) l.fat_sectors =
      in_file_counted h.version b l.fat_sectors count (count_is live) (subst (λ v. AreInFile v b l.fat_sectors) (version_is b h header l a) a.fat_in_file) in
      let found = lists_same h.version b l.difat_sectors l.fat_sectors ds fs count s.few (below_counted count l.fat_sectors known) never (lists_of b h header l a) lists in
      missing (subst (λ xs. AllByRecursion (λ n. n < count) xs) (sym found.1) known)

  pub tables_are : has_failed_here s ≡ false → (ds : List ℕ) (stop : ℕ) (fs fat : List ℕ) → Lists h.version (g.bytes m) ds fs
      → IsStop stop → DifatChain h.version (g.bytes m) (first_difat_sector (g.bytes m)) ds stop
      → AreSectorNumbers s fs → (IsHonest s → fat ≡ take (count_of s) (fat_in (version_of s) (bytes_of s) fs)) → AreSectorTables h.version (g.bytes m) ds stop fs fat
  tables_are live ds stop fs fat lists stops chain there is = record {
    stops = stops;
    chain = chain;
    lists = lists;
    in_file = counted_in_file h.version (g.bytes m) fs (count_of s) (count_is live) there;
    fat_is = is still ∙ ap (λ n. take n (fat_in (version_of s) (bytes_of s) fs)) (count_is live)
        ∙ ap (λ v. take (sectors_in h.version (length (g.bytes m))) (fat_in v (bytes_of s) fs)) version
        ∙ ap (λ b. take (sectors_in h.version (length (g.bytes m))) (fat_in h.version b fs)) same;
  }

  pub stopped : (ds : List ℕ) (stop : ℕ) → (IsHonest s → 512 ≤ length (bytes_of s) → IsStop stop × DifatChain (version_of s) (bytes_of s) (first_difat_sector (bytes_of s)) ds stop)
      → IsStop stop × DifatChain h.version (g.bytes m) (first_difat_sector (g.bytes m)) ds stop
  stopped ds stop told =
      let did = told still whole in
      (did.0, subst (λ b. DifatChain h.version b (first_difat_sector b) ds stop) same (subst (λ v. DifatChain v (bytes_of s) (first_difat_sector (bytes_of s)) ds stop) version did.1))
