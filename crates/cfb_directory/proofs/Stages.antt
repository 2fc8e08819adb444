-- Changes of a directory, one after the other.
use Rattle.std.proofs.Common.{◌≡◌, ℕ, ◌+◌, ◌-◌, ◌*◌, ◌^◌, ◌<◌, inl, List, [], ◌++◌, length, take, drop, get_or, ap, sym, subst, ◌∙◌, arith, append-nil}
use Rattle.std.specs.Int.{from_le_bytes, to_le_bytes, w32}
use Rattle.std.proofs.lemmas.List.{get_or-drop, get_or-take}
use Rattle.std.proofs.lemmas.Nat.{from_le_bytes-to_le_bytes_4}
use Rattle.cfb_medium.specs.Numbers.{u32_at}
use Rattle.cfb_medium.specs.declared.medium.ReadMedium.{Ghosts}
use Rattle.cfb_medium.specs.declared.version.Version.{Version}
use Rattle.cfb_medium.specs.declared.version.Version.TheVariants.{V3, V4}
use Rattle.cfb_sectors.specs.Sectors.{filled_part, sector}
use Rattle.cfb_chains.specs.Changes.{AreDisjoint}
use Rattle.cfb_chains.specs.Owned.{ReplacesChain, ChangesAtMost, SectorLayer}
use Rattle.cfb_chains.proofs.ChainGrowing.{among_both}
use Rattle.cfb_chains.proofs.Overwriting.{get_filled}
use Rattle.cfb_chains.proofs.Owners.{leaves_more, leaves_then}
use Rattle.cfb_fat.specs.Seeing.{seen_of}
use Rattle.cfb_fat.specs.Tables.{bytes_of, tables_of, version_of}
use Rattle.cfb_chain_io.specs.ChainEffects.{KeepsFileInvariants}
use Rattle.cfb_chain_io.proofs.Owning.{none_behind_all}
use Rattle.cfb_tree.specs.Directory.{Entry}
use Rattle.cfb_directory.specs.Changes.{SetsEntry}
use Rattle.cfb_directory.specs.Growth.{count_words, GrowsDirectory, HeaderCountsDirectory}
use Rattle.cfb_directory.specs.Turning.{WritesDirEntries}
use Rattle.cfb_directory.specs.Views.{allocator_of, directory_ids}
use Rattle.cfb_directory.specs.declared.directory.Directory.{Directory}

-- a chain that became longer, and then another of the same sectors
pub becomes_again : (S : List ℕ → ℕ → List ℕ) (ws ids more later : List ℕ) (a b c : SectorLayer) → ReplacesChain S ws ids more later a b → ReplacesChain S [] later [] later b c → AreDisjoint c.tables more → ReplacesChain S ws ids more later a c
becomes_again S ws ids more later a b c h k spare = record {
  leaves = leaves_more S ws ((ids ++ more) ++ (later ++ [])) (ids ++ more) a c
      (among_both (ids ++ more) (ids ++ more) (later ++ []) (λ n none. none) (among_both (ids ++ more) later [] h.among (λ n none k below same. absurd (omega (arith, below)))))
      (subst (λ l. ChangesAtMost S l ((ids ++ more) ++ (later ++ [])) a c) (append-nil ws) (leaves_then S ws [] (ids ++ more) (later ++ []) a b c h.leaves k.leaves));
  were_free = h.were_free;
  spare = spare;
  linked = k.linked;
  among = h.among;
}

-- a number of four bytes that stand
number_read : (b : List ℕ) (p : ℕ) → u32_at b p ≡ from_le_bytes w32 (filled_part b p 4)
number_read b p =
    let at : (i : ℕ) → i < p + 4 - p → get_or (take (p + 4 - p) (drop p b)) i 0 ≡ get_or (filled_part b p 4) i 0 =
    λ i below. get_or-take (p + 4 - p) (drop p b) i 0 below ∙ get_or-drop p b i 0 ∙ sym (get_filled b p 4 i (omega (arith, below))) in
    let first = at 0 (omega arith) in
    let second = at 1 (omega arith) in
    let third = at 2 (omega arith) in
    let last = at 3 (omega arith) in
    λ i. first i + second i * 256 + third i * 65536 + last i * 16777216

pub number_there : (b : List ℕ) (p n : ℕ) → filled_part b p 4 ≡ to_le_bytes w32 n → n < 2 ^ 32 → u32_at b p ≡ n
number_there b p n is small = number_read b p ∙ ap (from_le_bytes w32) is ∙ from_le_bytes-to_le_bytes_4 n small

pub number_kept : (old new : List ℕ) (p : ℕ) → filled_part new p 4 ≡ filled_part old p 4 → u32_at new p ≡ u32_at old p
number_kept old new p same = number_read new p ∙ ap (from_le_bytes w32) same ∙ sym (number_read old p)

-- the header's number of sectors stays where nothing of it is written
counted_still : (v : Version) (S : List ℕ → ℕ → List ℕ) (xs : List ℕ) (n : ℕ) (a b : SectorLayer) → ChangesAtMost S [] xs a b → HeaderCountsDirectory v a.bytes n → HeaderCountsDirectory v b.bytes n
counted_still V3 S xs n a b h was = tt
counted_still V4 S xs n a b h was = number_kept a.bytes b.bytes 40 (h.header 40 4 (omega arith) (inl (omega arith), tt)) ∙ was

module _ {F : Type 0} {g : Ghosts F} where
  -- a directory that grew, and then entries that were written
  pub grows_more : (old mid new : Directory F g) → KeepsFileInvariants (allocator_of old) (allocator_of mid) → GrowsDirectory old mid → WritesDirEntries mid new → GrowsDirectory old new
  unfolding seen_of
  grows_more old mid new goes grown sets =
      let v = version_of (allocator_of old) in
      let later = directory_ids mid in
      let has = sets.has grown.has in
      let becomes = subst (λ u. ReplacesChain (sector u) [] later [] later (seen_of (allocator_of mid)) (seen_of (allocator_of new))) goes.version (sets.becomes grown.has) in
      let ids = sets.ids ∙ grown.ids in
      record {
        more = grown.more;
        ids = ids;
        becomes = subst (λ l. ReplacesChain (sector v) (count_words v) (directory_ids old) grown.more l (seen_of (allocator_of old)) (seen_of (allocator_of new))) (sym sets.ids)
            (becomes_again (sector v) (count_words v) (directory_ids old) grown.more later (seen_of (allocator_of old)) (seen_of (allocator_of mid)) (seen_of (allocator_of new)) grown.becomes becomes
            (none_behind_all (tables_of (allocator_of new)) (directory_ids old) grown.more (subst (AreDisjoint (tables_of (allocator_of new))) ids has.chain.beside)));
        has = has;
        counted = λ was. subst (λ l. HeaderCountsDirectory v (bytes_of (allocator_of new)) (length l)) (sym sets.ids)
            (counted_still v (sector v) (later ++ []) (length later) (seen_of (allocator_of mid)) (seen_of (allocator_of new)) becomes.leaves (grown.counted was));
      }

  -- or one of them
  pub grows_then : (old mid new : Directory F g) (id : ℕ) (e : Entry) → KeepsFileInvariants (allocator_of old) (allocator_of mid) → GrowsDirectory old mid → SetsEntry id e mid new → GrowsDirectory old new
  grows_then old mid new id e goes grown sets = grows_more old mid new goes grown (record { ids = sets.ids; becomes = sets.becomes; has = sets.has })
