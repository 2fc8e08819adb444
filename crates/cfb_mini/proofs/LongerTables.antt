-- The mini FAT takes in a sector of "free" numbers, and the header tells of it.
use Rattle.std.proofs.Common.{◌≡◌, ℕ, inl, inr, ⊎_elim, ◌-◌, ◌+◌, ◌*◌, ◌/◌, ◌<◌, ◌≤◌, ◌^◌, List, [], ◌++◌, length, take, replicate, refl, ap, sym, subst, ◌∙◌, arith, append-nil, length-append, IsTrue}
use Rattle.std.specs.Prelude.{slice_index_or}
use Rattle.std.specs.Int.{w32, to_le_bytes}
use Rattle.std.proofs.Math.Seq.{take-append_seam}
use Rattle.std.proofs.lemmas.List.{take_all}
use Rattle.cfb_medium.specs.Bytes.{overwritten}
use Rattle.cfb_medium.specs.Numbers.{numbers, u32_at}
use Rattle.cfb_medium.specs.Versions.{sector_len}
use Rattle.cfb_medium.specs.declared.medium.ReadMedium.{Ghosts}
use Rattle.cfb_medium.specs.declared.version.Version.{Version}
use Rattle.cfb_sectors.specs.Copies.{copies}
use Rattle.cfb_sectors.specs.Initial.{initial}
use Rattle.cfb_sectors.specs.Sectors.{end_of_chain, fat_in, free, joined, sector}
use Rattle.cfb_sectors.specs.declared.initial.SectorInit.TheVariants.{Fat}
use Rattle.cfb_chains.specs.Changes.{AreDisjoint}
use Rattle.cfb_chains.specs.LinkViews.{ids_of}
use Rattle.cfb_chains.specs.Owned.{ChangesAtMost}
use Rattle.cfb_chains.specs.Positions.{sectors_for}
use Rattle.cfb_chains.proofs.ChainWriting.{length-joined}
use Rattle.cfb_chains.proofs.Overwriting.{over_reaches}
use Rattle.cfb_chains.proofs.Owners.{chain_left, leaves_then, none_of_nothing}
use Rattle.cfb_fat.specs.Seeing.{seen_of}
use Rattle.cfb_fat.specs.Tables.{bytes_of, tables_of, version_of}
use Rattle.cfb_fat.specs.declared.allocator.Allocator.{Allocator}
use Rattle.cfb_fat.specs.Growing.{LacksSectorNumbers}
use Rattle.cfb_chains.specs.declared.links.Links.{Links}
use Rattle.cfb_fat.proofs.FatEntries.{per}
use Rattle.cfb_fat.proofs.Fresh.{fat_content, length-initial, whole}
use Rattle.cfb_fat.proofs.Growth.{numbers_append}
use Rattle.cfb_fat.proofs.TableWords.{header_word, word, word_other, word_written}
use Rattle.cfb_chain_io.specs.ChainEffects.{KeepsFileInvariants, LacksSectors, Resizes}
use Rattle.cfb_chain_io.proofs.Owning.{none_behind_all}
use Rattle.cfb_mini.specs.FatGrowth.{mini_fat_words, GrowsTable, LacksMore, TellsMiniFat}
use Rattle.cfb_mini.specs.NumberViews.{numbers_of}
use Rattle.cfb_mini.specs.declared.mini_fat.MiniFat.{MiniFat}
use Rattle.cfb_chains.proofs.Extending.{whole_sectors}

-- two numbers of the header were written
pub told_by : (old mid new : List ℕ) (x y : ℕ) → x < 2 ^ 32 → y < 2 ^ 32 → mid ≡ overwritten old 60 (to_le_bytes w32 x) → new ≡ overwritten mid 64 (to_le_bytes w32 y) → (u32_at new 60 ≡ x) × (u32_at new 64 ≡ y)
told_by old mid new x y small_x small_y is_mid is_new =
    let long : 68 ≤ length new = let reach = over_reaches mid (to_le_bytes w32 y) 64 (omega arith) in let size = ap length is_new in omega (arith, reach, size) in (
      header_word new 60 15 refl (omega (arith, long)) ∙ ap (λ l. word l 15) is_new ∙ word_other mid 16 15 y (λ same. omega (arith, same)) ∙ ap (λ l. word l 15) is_mid ∙ word_written old 15 x small_x,
      header_word new 64 16 refl (omega (arith, long)) ∙ ap (λ l. word l 16) is_new ∙ word_written mid 16 y small_y,
    )

-- the bytes of one sector more
pub bytes_of_sectors : (v : Version) (ids now : List ℕ) (len : ℕ) → now ≡ ids → len ≡ sector_len v → sectors_for v ((length now + 1) * len) ≡ length ids + 1
bytes_of_sectors v ids now len same is =
    ap (λ n. sectors_for v ((n + 1) * len)) (ap length same) ∙ ap (λ n. sectors_for v ((length ids + 1) * n)) is ∙ whole_sectors v (length ids + 1)

pub front_of : (xs ys : List ℕ) (n : ℕ) → n ≡ length xs → take n (xs ++ ys) ≡ xs
front_of xs ys n is = ap (λ k. take k (xs ++ ys)) is ∙ take-append_seam xs ys

-- the numbers of a longer table
numbers_longer : (v : Version) (b ids : List ℕ) (count : ℕ) → count ≡ 1 → numbers (joined v b ids ++ copies count (initial Fat (sector_len v))) ≡ fat_in v b ids ++ replicate (per v) free
numbers_longer v b ids count one =
    let long : length (joined v b ids) ≡ 4 * (length ids * per v) = let size = length-joined v b ids in let fours = whole v in size ∙ ap (λ n. length ids * n) (sym fours) ∙ omega arith in
    ap (λ n. numbers (joined v b ids ++ copies n (initial Fat (sector_len v)))) one ∙ ap (λ l. numbers (joined v b ids ++ l)) (append-nil (initial Fat (sector_len v)))
    ∙ numbers_append (length ids * per v) (per v) (joined v b ids) (initial Fat (sector_len v)) long (length-initial Fat v ∙ sym (whole v))
    ∙ ap (λ l. fat_in v b ids ++ l) (fat_content v)

module _ {F : Type 0} {g : Ghosts F} where
  pub grows_is : (a m b : Allocator F g) (x y : MiniFat) (count : ℕ) → count ≡ length (ids_of x.links) + 1 → Resizes Fat count a m x.links y.links → length (ids_of y.links) ≡ count → KeepsFileInvariants a m → KeepsFileInvariants m b
      → ChangesAtMost (sector (version_of m)) mini_fat_words [] (seen_of m) (seen_of b) → TellsMiniFat (bytes_of b) (ids_of y.links) → y.stream ≡ x.stream
      → numbers_of y.numbers ≡ numbers_of x.numbers ++ replicate (sector_len (version_of a) / 4) free → GrowsTable a b x y
  unfolding seen_of
  grows_is a m b x y count is resized size goes then leaves told stream longer =
      let ids = ids_of x.links in
      let later = ids_of y.links in
      let more = resized.more in
      let v = version_of a in
      let kept : take count ids ≡ ids = take_all count ids (omega (arith, is)) in
      let sectors : later ≡ ids ++ more = resized.sectors ∙ ap (λ l. l ++ more) kept in
      let one : length more ≡ 1 = let sum = length-append ids more in let all = ap length sectors in omega (arith, sum, all, size, is) in
      let wrote : ChangesAtMost (sector v) mini_fat_words [] (seen_of m) (seen_of b) = subst (λ u. ChangesAtMost (sector u) mini_fat_words [] (seen_of m) (seen_of b)) goes.version leaves in
      let chain = resized.chain in
      let left = chain_left (sector v) mini_fat_words [] (seen_of m) (seen_of b) wrote (slice_index_or later 0 end_of_chain) later chain.has.linked (none_of_nothing later) chain.beside in
      let both : ChangesAtMost (sector v) mini_fat_words ((ids ++ more) ++ []) (seen_of a) (seen_of b) = leaves_then (sector v) [] mini_fat_words (ids ++ more) [] (seen_of a) (seen_of m) (seen_of b) resized.becomes.leaves wrote in
      let content : joined v (bytes_of b) later ≡ joined v (bytes_of a) ids ++ copies (length more) (initial Fat (sector_len v)) =
      left.2 ∙ ap (λ u. joined u (bytes_of m) later) (sym goes.version) ∙ resized.content ∙ ap (λ l. joined v (bytes_of a) l ++ copies (length more) (initial Fat (sector_len v))) kept in
      record {
        more = more;
        sectors = sectors;
        chain = record {
          has = record { honest = subst IsTrue (sym then.honest) chain.has.honest; version = chain.has.version ∙ sym then.version; linked = left.0 };
          beside = left.1;
        };
        becomes = record {
          leaves = subst (λ l. ChangesAtMost (sector v) mini_fat_words l (seen_of a) (seen_of b)) (append-nil (ids ++ more)) both;
          were_free = resized.becomes.were_free;
          spare = none_behind_all (tables_of b) ids more (subst (AreDisjoint (tables_of b)) sectors left.1);
          linked = left.0;
          among = resized.becomes.among;
        };
        stream = stream;
        numbers = longer;
        same = λ was. longer ∙ ap (λ l. l ++ replicate (sector_len v / 4) free) was ∙ sym (numbers_longer v (bytes_of a) ids (length more) one) ∙ ap numbers (sym content)
            ∙ ap (λ u. fat_in u (bytes_of b) later) (sym goes.version ∙ sym then.version);
        told = told;
      }

  -- no number for one sector more
  pub lacks_one : (it : Allocator F g) (links : Links) → LacksSectors it links (length (ids_of links) + 1) → LacksMore it (length (ids_of links))
  lacks_one it links lacks =
      let one : length (ids_of links) + 1 - length (ids_of links) ≡ 1 = omega arith in
      ⊎_elim (λ few. inl (subst (LacksSectorNumbers it) one few)) (λ long. inr (omega (arith, long))) lacks
