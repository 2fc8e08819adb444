-- Whatever was done to the file, it goes on.
use Rattle.std.proofs.Common.{◌≡◌, ℕ, ◌+◌, ◌<◌, ◌≤◌, inr, ◌||◌, ◌⊎◌, ⊎_elim, false, length, List, inl, ap, sym, subst, ◌∙◌, arith, IsTrue}
use Rattle.cfb_medium.specs.Calls.{IsJustifiedError}
use Rattle.cfb_medium.specs.declared.error.Error.{Error}
use Rattle.cfb_medium.specs.declared.medium.ReadMedium.{Ghosts}
use Rattle.cfb_sectors.specs.Held.{count_of}
use Rattle.cfb_sectors.specs.Sectors.{filled_part, sector_start}
use Rattle.cfb_chains.specs.Changes.{IsBeside}
use Rattle.cfb_chains.proofs.Overwriting.{beside}
use Rattle.std.specs.Prelude.{slice_index}
use Rattle.cfb_chains.proofs.LongerTables.{never}
use Rattle.cfb_fat.specs.declared.allocator.Allocator.{Allocator}
use Rattle.cfb_fat.specs.Changing.{ChangesFat, MayWrite, WritesBeside}
use Rattle.cfb_fat.specs.Growing.{AllocatesSectors}
use Rattle.cfb_fat.specs.Keeping.{ends_rest, told_same}
use Rattle.cfb_fat.specs.Listed.{Counts, EndsAsStrict}
use Rattle.cfb_fat.specs.Orderly.{IsBesideWords}
use Rattle.cfb_fat.proofs.EndsKept.{ends_over}
use Rattle.cfb_fat.specs.Tables.{bytes_of, difat_sectors_of, fat_sectors_of, has_failed_here, is_honest, medium_of, orderly_of, sectors_of, version_of, AllFails, OnlyReadsAllocator, IsJustifiedBySectors, HasEnds}
use Rattle.cfb_fat.proofs.Listing.{header_whole}
use Rattle.cfb_fat.proofs.ListedStays.{behind_header, longer_over, told_in, told_kept}
use Rattle.cfb_chain_io.specs.ChainEffects.{KeepsFileInvariants}

module _ {F : Type 0} {g : Ghosts F} where
  pub rests_go_on : (a b : Allocator F g) → OnlyReadsAllocator a b → KeepsFileInvariants a b
  rests_go_on a b h = record {
    honest = h.sectors.honest;
    continues = h.sectors.continues;
    version = h.sectors.version;
    live = λ live. sym h.sectors.failed ∙ live;
    orderly = λ live. h.orderly;
    told = λ live honest orderly told. told_same a b (h.sectors.bytes honest) h.difat_sectors h.fat_sectors told;
    ends = λ live honest orderly. ends_rest a b h honest;
  }

  pub takes_go_on : (taken entries : List ℕ) (a b : Allocator F g) → AllocatesSectors taken entries a b → KeepsFileInvariants a b
  takes_go_on taken entries a b h = record {
    honest = h.grows.honest;
    continues = h.grows.continues;
    version = h.grows.version;
    live = h.grows.live;
    orderly = h.grows.orderly;
    told = λ live honest orderly told. h.grows.told live honest (inl told);
    ends = h.grows.ends;
  }

  pub changes_go_on : (entries : List ℕ) (a b : Allocator F g) → ChangesFat entries a b → KeepsFileInvariants a b
  changes_go_on entries a b h = record {
    honest = h.honest;
    continues = h.continues;
    version = h.version;
    live = h.live;
    orderly = λ live. h.orderly;
    told = λ live honest orderly told. h.told live honest told;
    ends = h.ends;
  }

  -- file and DIFAT end as they did after a write beside the tables, which lies in the file's sectors
  ends_written : (place : ℕ) (xs : List ℕ) (a b : Allocator F g) → place + length xs ≤ sector_start (version_of a) (count_of (sectors_of a)) → IsBesideWords place (length xs)
      → IsBeside (version_of a) (difat_sectors_of a) place (length xs) → WritesBeside place xs a b → has_failed_here b ≡ false → IsTrue (is_honest a) → IsTrue (orderly_of a) → HasEnds a → HasEnds b
  ends_written place xs a b fits words aside h live honest orderly ends =
      subst (EndsAsStrict (version_of b) (bytes_of b)) (sym h.difat_sectors)
      (ends_over (version_of a) (version_of b) (bytes_of a) (bytes_of b) xs (difat_sectors_of a) (fat_sectors_of a) place (count_of (sectors_of a)) h.sectors.0.version (h.sectors.0.bytes live honest)
      (a.sectors.counted (h.sectors.0.live live) honest) (a.orderly orderly).some fits words aside ((a.listed (h.sectors.0.live live) honest).0 orderly).1 ends)

  -- a write in a sector that is there
  pub writes_go_on : (n offset : ℕ) (xs : List ℕ) (a b : Allocator F g) → n < count_of (sectors_of a) → MayWrite a (sector_start (version_of a) n + offset) (length xs) → WritesBeside (sector_start (version_of a) n + offset) xs a b → KeepsFileInvariants a b
  writes_go_on n offset xs a b there may h = record {
    honest = h.sectors.0.honest;
    continues = h.sectors.0.continues;
    version = h.sectors.0.version;
    live = h.sectors.0.live;
    orderly = λ live. h.orderly;
    told = λ live honest orderly told.
        subst (λ l. Counts (bytes_of b) l (fat_sectors_of b)) (sym h.difat_sectors) (subst (Counts (bytes_of b) (difat_sectors_of a)) (sym h.fat_sectors)
        (told_in (version_of a) (bytes_of a) (bytes_of b) xs (difat_sectors_of a) (fat_sectors_of a) n offset (h.sectors.0.bytes live honest)
        (header_whole (version_of a) (bytes_of a) (count_of (sectors_of a)) (a.sectors.counted (h.sectors.0.live live) honest) (omega (arith, there))) told));
    ends = ends_written (sector_start (version_of a) n + offset) xs a b may.ends may.words may.difat h;
  }

  -- a number of the header that is none of the tables'
  pub word_goes_on : (place : ℕ) (xs : List ℕ) (a b : Allocator F g) → length xs ≡ 4 → (place + 4 ≤ 44) ⊎ ((48 ≤ place) × (place + 4 ≤ 68)) → WritesBeside place xs a b → KeepsFileInvariants a b
  word_goes_on place xs a b four at h = record {
    honest = h.sectors.0.honest;
    continues = h.sectors.0.continues;
    version = h.sectors.0.version;
    live = h.sectors.0.live;
    orderly = λ live. h.orderly;
    told = λ live honest orderly told.
        let is = h.sectors.0.bytes live honest in
        let old = bytes_of a in
        let whole = header_whole (version_of a) old (count_of (sectors_of a)) (a.sectors.counted (h.sectors.0.live live) honest) (a.orderly orderly).some in
        let longer = longer_over old (bytes_of b) xs place is in
        let first : filled_part (bytes_of b) 44 4 ≡ filled_part old 44 4 = ap (λ l. filled_part l 44 4) is ∙ beside old xs place 44 4 (⊎_elim (λ before. inr (omega (arith, before, four))) (λ after. inl (omega (arith, after))) at) in
        let second : filled_part (bytes_of b) 72 4 ≡ filled_part old 72 4 = ap (λ l. filled_part l 72 4) is ∙ beside old xs place 72 4 (inr (⊎_elim (λ before. omega (arith, before, four)) (λ after. omega (arith, after, four)) at)) in
        subst (λ l. Counts (bytes_of b) l (fat_sectors_of b)) (sym h.difat_sectors) (subst (Counts (bytes_of b) (difat_sectors_of a)) (sym h.fat_sectors)
        (told_kept old (bytes_of b) (difat_sectors_of a) (fat_sectors_of a) whole (omega (arith, whole, longer)) first second told));
    ends = λ live honest orderly.
        let before : place + length xs ≤ 512 = ⊎_elim (λ front. omega (arith, front, four)) (λ back. omega (arith, back.1, four)) at in
        let far : (n : ℕ) → place + length xs ≤ sector_start (version_of a) n = λ n. let start = behind_header (version_of a) n in omega (arith, before, start) in
        ends_written place xs a b (far (count_of (sectors_of a))) (⊎_elim (λ front. inl (omega (arith, front, four))) (λ back. inr (inl (back.0, omega (arith, back.1, four)))) at) (λ k below. inr (far (slice_index (difat_sectors_of a) k))) h live honest orderly;
  }

  -- a write somewhere, or reads, after which it was made to fail
  pub fails_go_on : (place : ℕ) (xs : List ℕ) (a m b c : Allocator F g) → KeepsFileInvariants a m → WritesBeside place xs m b ⊎ OnlyReadsAllocator m b → AllFails b c → KeepsFileInvariants a c
  fails_go_on place xs a m b c h either k = record {
    honest = ap g.honest k.sectors.medium ∙ ⊎_elim (λ wrote. wrote.sectors.0.honest) (λ rests. rests.sectors.honest) either ∙ h.honest;
    continues = λ start from. subst (g.continues start) (sym k.sectors.medium) (⊎_elim (λ wrote. wrote.sectors.0.continues start (h.continues start from)) (λ rests. rests.sectors.continues start (h.continues start from)) either);
    version = k.sectors.version ∙ ⊎_elim (λ wrote. wrote.sectors.0.version) (λ rests. rests.sectors.version) either ∙ h.version;
    live = never (has_failed_here c) k.sectors.failed;
    orderly = never (has_failed_here c) k.sectors.failed;
    told = never (has_failed_here c) k.sectors.failed;
    ends = never (has_failed_here c) k.sectors.failed;
  }

  pub goes_then : (a b c : Allocator F g) → KeepsFileInvariants a b → KeepsFileInvariants b c → KeepsFileInvariants a c
  goes_then a b c h k = record {
    honest = k.honest ∙ h.honest;
    continues = λ start from. k.continues start (h.continues start from);
    version = k.version ∙ h.version;
    live = λ live. h.live (k.live live);
    orderly = λ live. k.orderly live ∙ h.orderly (k.live live);
    told = λ live honest orderly told. k.told live (subst IsTrue (sym h.honest) honest) (subst IsTrue (sym (h.orderly (k.live live))) orderly) (h.told (k.live live) honest orderly told);
    ends = λ live honest orderly ends. k.ends live (subst IsTrue (sym h.honest) honest) (subst IsTrue (sym (h.orderly (k.live live))) orderly) (h.ends (k.live live) honest orderly ends);
  }

  -- a cause since a later state is one since the earlier
  pub goes_cause : (a b c : Allocator F g) (e : Error) → KeepsFileInvariants a b → has_failed_here b ≡ false → IsJustifiedBySectors b c e → IsJustifiedBySectors a c e
  goes_cause a b c e h live cause =
      λ start from. subst (λ f. IsJustifiedError g.failures (λ m. f || g.failed m) start (medium_of c) e) (live ∙ sym (h.live live)) (cause start (h.continues start from))
