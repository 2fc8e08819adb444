-- A file in the making that has all is a copy.
use Rattle.std.proofs.Common.{◌≡◌, ℕ, ◌*◌, ◌≤◌, List, get_or, length, refl, ap, sym, subst, ◌∙◌, arith, ⊎_elim}
use Rattle.std.specs.Prelude.{slice_get, Some}
use Rattle.std.proofs.lemmas.Bool.Decides.{eqb_tells}
use Rattle.std.proofs.lemmas.Option.{slice_get_within, slice_get-get_or}
use Rattle.cfb_medium.specs.Versions.{sector_len, stream_len_mask}
use Rattle.cfb_directory.specs.Entries.{SizesFit}
use Rattle.cfb_medium.specs.declared.version.Version.{Version}
use Rattle.cfb_medium.specs.declared.medium.ReadMedium.{Ghosts}
use Rattle.cfb_sectors.specs.Header.{directory_sector_count, mini_fat_sector_count}
use Rattle.cfb_sectors.specs.Held.{count_of}
use Rattle.cfb_sectors.specs.Sectors.{fat_in, joined}
use Rattle.cfb_fat.specs.Seeing.{seen_of}
use Rattle.cfb_fat.specs.Tables.{bytes_of, difat_sectors_of, fat_of, fat_sectors_of, sectors_of, version_of, HasEnds, HeaderCountsTables}
use Rattle.cfb_fat.specs.declared.allocator.Allocator.{Allocator}
use Rattle.cfb_spec.specs.Means.{directory_count}
use Rattle.cfb_ownership.specs.LiveFile.{LiveFile}
use Rattle.cfb_ownership.specs.Owners.{directory_owner, first_of, mini_fat_owner, mini_stream_owner, stream_owner, Owners}
use Rattle.cfb_tree.specs.Directory.{entries_of, Entry}
use Rattle.cfb_copying.specs.Copied.{in_black, Repairs, Restarts}
use Rattle.cfb_copying.specs.Making.{with_list, IsFileInProgress}
use Rattle.cfb_copying.specs.Steps.{FillSectors, HasCopied, HasCopy}
use Rattle.cfb_copying.proofs.Made.{at_key, at_other}
use Rattle.cfb_copying.proofs.Restarted.{again}

-- entries that begin elsewhere fill as many sectors, and fit
unfoldable pub fill_again : (v : Version) (es later : List Entry) (ids : List ℕ) (own : ℕ → List ℕ) → Restarts es ids own later → FillSectors v es → FillSectors v later
fill_again v es later ids own h fills = record {
  count = fills.count;
  some = fills.some;
  whole = let all = fills.whole in let size = h.size in ap (λ n. n * 128) size ∙ all;
  sizes = λ k e found.
      let there = slice_get_within later k e found in
      let size = h.size in
      let was : slice_get es k ≡ Some (get_or es k e) = slice_get-get_or es k e (omega (arith, there, size)) in
      let now = again es later ids own h k (get_or es k e) was in
      let both : Some e ≡ Some (record (get_or es k e) { start = now.0 }) = sym found ∙ now.1 in
      let same : e ≡ record (get_or es k e) { start = now.0 } = cc in
      subst (λ n. n ≤ stream_len_mask v) (ap (λ x. x.size) (sym same)) (fills.sizes k (get_or es k e) was);
}

-- entries that are repaired do
unfoldable pub fill_repaired : (v : Version) (size : ℕ) (old new : List Entry) → Repairs size old new → size ≤ stream_len_mask v → FillSectors v old → FillSectors v new
fill_repaired v size old new r small fills = record {
  count = fills.count;
  some = fills.some;
  whole = ap (λ n. n * 128) r.count ∙ fills.whole;
  sizes = λ k e found.
      let there = slice_get_within new k e found in
      let many = r.count in
      let x = get_or old k e in
      let was : slice_get old k ≡ Some x = slice_get-get_or old k e (omega (arith, there, many)) in
      ⊎_elim
      (λ zero_is.
      let both : Some e ≡ Some (record (in_black x) { size = size }) = sym found ∙ ap (slice_get new) zero_is.1 ∙ r.root x (ap (slice_get old) (sym zero_is.1) ∙ was) in
      let same : e ≡ record (in_black x) { size = size } = cc in
      subst (λ n. n ≤ stream_len_mask v) (ap (λ y. y.size) (sym same)) small)
      (λ past.
      let both : Some e ≡ Some (in_black x) = sym found ∙ r.other k x (λ same. omega (arith, past.1, same)) was in
      let same : e ≡ in_black x = cc in
      subst (λ n. n ≤ stream_len_mask v) (ap (λ y. y.size) (sym same)) (fills.sizes k x was))
      (eqb_tells k 0);
}

-- in a file of the same version
unfoldable pub fills_moved : (v w : Version) (es : List Entry) → w ≡ v → FillSectors v es → FillSectors w es
fills_moved v w es same h = record { count = h.count; some = h.some; whole = h.whole ∙ ap (λ u. h.count * sector_len u) (sym same); sizes = subst (λ u. SizesFit u es) (sym same) h.sizes }

-- the directory's sectors don't matter to what entries begin with
restarts_under : (es later : List Entry) (ids ours : List ℕ) (own : ℕ → List ℕ) → Restarts es ids own later → Restarts es ids (with_list directory_owner ours own) later
restarts_under es later ids ours own h = record {
  size = h.size;
  root = λ e found. h.root e found ∙ ap {A = List ℕ} (λ l. Some (record e { start = first_of l })) (sym (at_other directory_owner ours own mini_stream_owner (λ is. omega (arith, is))));
  long = λ id e past it found. h.long id e past it found ∙ ap {A = List ℕ} (λ l. Some (record e { start = first_of l })) (sym (at_other directory_owner ours own (stream_owner id) (λ is. omega (arith, is))));
  other = h.other;
}

module _ {F : Type 0} {g : Ghosts F} where
  pub copy_ended : (s : LiveFile) (who : Owners) (ids minis dir content : List ℕ) (later repaired : List Entry) (size : ℕ) (a b : Allocator F g) → (h : HasCopied s who ids minis later a) → version_of b ≡ version_of a
      → IsFileInProgress 1 (first_of minis) b (with_list directory_owner dir h.own) (with_list directory_owner content h.bytes) → first_of dir ≡ 1 → entries_of (version_of a) content ≡ repaired → Repairs size later repaired
      → HeaderCountsTables b → HasEnds b → directory_sector_count (bytes_of b) ≡ directory_count (version_of b) (length dir) → mini_fat_sector_count (bytes_of b) ≡ length minis → HasCopy s who ids size (bytes_of b)
  unfolding seen_of
  copy_ended s who ids minis dir content later repaired size a b h same made begins held repairs told ends directory_told mini_fat_told =
      let own = with_list directory_owner dir h.own in
      let other : (k : ℕ) → (k ≡ 0 → ⊥) → own k ≡ h.own k = at_other directory_owner dir h.own in
      let kept : (k : ℕ) → (k ≡ 0 → ⊥) → joined (version_of b) (bytes_of b) (own k) ≡ h.bytes k = λ k past. made.holds k ∙ at_other directory_owner content h.bytes k past in
      let mine : own directory_owner ≡ dir = at_key directory_owner dir h.own in
      let minis_are : own mini_fat_owner ≡ minis = other mini_fat_owner (λ is. omega (arith, is)) ∙ h.minis_are in
      let entries : entries_of (version_of b) (joined (version_of b) (bytes_of b) (own directory_owner)) ≡ repaired =
      ap (entries_of (version_of b)) (made.holds directory_owner ∙ at_key directory_owner content h.bytes) ∙ ap (λ v. entries_of v content) same ∙ held in
      record {
        file = record {
          version = version_of b;
          bytes = bytes_of b;
          count = count_of (sectors_of b);
          fat = fat_of b;
          fat_sectors = fat_sectors_of b;
          difat_sectors = difat_sectors_of b;
          mini_fat = fat_in (version_of b) (bytes_of b) (own mini_fat_owner);
          entries = entries_of (version_of b) (joined (version_of b) (bytes_of b) (own directory_owner));
        };
        own = own;
        copied = record {
          version = same ∙ h.version;
          header = made.header;
          tables = record {
            counted = b.sectors.counted made.live made.honest;
            same = b.same made.live made.honest;
            there = b.there made.live;
            orderly = b.orderly made.orderly;
            listed = ((b.listed made.live made.honest).0 made.orderly).1;
          };
          owned = made.owned;
          whole = made.whole;
          tight = made.tight;
          directory_at = made.directory_at ∙ sym begins ∙ ap first_of (sym mine);
          mini_fat_at = made.mini_fat_at ∙ ap first_of (sym minis_are);
          entries = refl;
          mini_fat = refl;
          same_mini_fat = kept mini_fat_owner (λ is. omega (arith, is)) ∙ h.mini_fat;
          same_mini_stream = kept mini_stream_owner (λ is. omega (arith, is)) ∙ h.mini_stream;
          same_stream = λ id it. kept (stream_owner id) (λ is. omega (arith, is)) ∙ h.streams id it;
          none = λ id apart. other (stream_owner id) (λ is. omega (arith, is)) ∙ h.none id apart;
          between = later;
          restarts = restarts_under s.entries later ids dir h.own h.restarts;
          root_size = size;
          repairs = subst (Repairs size later) (sym entries) repairs;
        };
        counted = record {
          told = told;
          ends = ends;
          directory = directory_told ∙ ap (λ l. directory_count (version_of b) (length l)) (sym mine);
          mini_fat = mini_fat_told ∙ ap length (sym minis_are);
        };
        sized = refl;
        bytes_are = refl;
      }
