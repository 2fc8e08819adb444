-- Where a stream lies by the tables in memory it has the bytes that those of the file mean.
use native.Mathlib.Decide.{dec_lt}
use mathlib.Core.Logic.{dite}
use Rattle.std.proofs.Common.{◌≡◌, ◌∙◌, ℕ, ◌+◌, ◌*◌, ◌<◌, ◌≤◌, List, [], ◌∷◌, length, take, suc, IsTrue, ap, arith, subst, sym, inl, inr, ◌⊎◌, length-take}
use Rattle.std.specs.List.{flat_map, AllByRecursion}
use Rattle.cfb_medium.specs.Versions.{sector_len}
use Rattle.cfb_medium.specs.declared.medium.ReadMedium.{Ghosts}
use Rattle.cfb_sectors.specs.Header.{mini_cutoff}
use Rattle.cfb_sectors.specs.Sectors.{joined, sectors_in, Chain}
use Rattle.cfb_sectors.proofs.OneChain.{chain_unique}
use Rattle.cfb_chains.proofs.ChainWriting.{length-joined}
use Rattle.cfb_chains.specs.LinkViews.{ids_of}
use Rattle.cfb_fat.specs.Tables.{bytes_of, fat_of, is_honest, version_of}
use Rattle.cfb_directory.proofs.ReadTrees.{linked_of}
use Rattle.cfb_tree.specs.Directory.{Entry}
use Rattle.cfb_mini.specs.LinkViews.{minis_of}
use Rattle.cfb_mini.specs.Minis.{mini_joined, AreInside}
use Rattle.cfb_mini.specs.Views.{allocator_of, mini_stream_ids, mini_stream_len, mini_stream_of, MiniMatchesBytes}
use Rattle.cfb_mini.specs.declared.mini_allocator.MiniAllocator.{MiniAllocator}
use Rattle.cfb_mini.proofs.MiniParts.{length-mini_joined}
use Rattle.cfb_mini.proofs.Parts.{parts_are}
use Rattle.cfb_spec.specs.Means.{fat, mini_fat, mini_sector, mini_stream, HasBytes, Layout}
use Rattle.cfb_opening.specs.Opened.{MemoryShows}
use Rattle.cfb_opening.proofs.CutChains.{cut_in_file, cut_of_chain}
use Rattle.cfb_stream_reads.specs.Content.{SectorsHaveContent}
use Rattle.cfb_stream_reads.specs.Streams.{joined_in, len_in, sectors_in as sectors_of, HasSectorsOf, IsOfLevel, StreamLiesIn}
use Rattle.cfb_stream_reads.specs.declared.opening.StreamLinks.{StreamLinks}
use Rattle.cfb_stream_reads.specs.declared.opening.StreamLinks.TheVariants.{Short, Long}
use Rattle.cfb_tree_edits.proofs.Freed.{inside_all}
use Rattle.cfb_fat.proofs.CutChains.{chain_of_cut}

all_inside : (len : ℕ) (ids : List ℕ) → AreInside len ids → AllByRecursion (λ n. 64 * n + 64 ≤ len) ids
all_inside len [] inside = tt
all_inside len (x ∷ ids) inside = (inside 0 (omega arith), all_inside len ids (λ k below. inside (suc k) (omega (arith, below))))

-- a stream has as many bytes as it says
pub content_len : {F : Type 0} {g : Ghosts F} (it : MiniAllocator F g) (links : StreamLinks) (len : ℕ) (content : List ℕ) → SectorsHaveContent it links len content → length content ≡ len
content_len it (Short minis) len content has =
    let size = length-mini_joined (mini_stream_of it) (minis_of minis) in
    let room = has.room in
    ap length has.bytes ∙ omega (arith, length-take len (mini_joined (mini_stream_of it) (minis_of minis)), size, room)
content_len it (Long links) len content has =
    let size = length-joined (version_of (allocator_of it)) (bytes_of (allocator_of it)) (ids_of links) ∙ ap (λ v. length (ids_of links) * sector_len v) (sym has.sectors.version) in
    let room = has.room in
    ap length has.bytes ∙ omega (arith, length-take len (joined (version_of (allocator_of it)) (bytes_of (allocator_of it)) (ids_of links)), size, room)

-- the sectors in which a stream lies are there, and have room for it
pub sectors_found : {F : Type 0} {g : Ghosts F} (it : MiniAllocator F g) → MiniMatchesBytes it → (start size : ℕ) (links : StreamLinks) → StreamLiesIn it start size (sectors_of links)
    → IsOfLevel it size links → IsTrue (is_honest (allocator_of it)) → HasSectorsOf it links × (size ≤ len_in links)
sectors_found it memory start size (Short minis) lies level is = ((memory, (lies.short level).1), (lies.short level).2)
sectors_found it memory start size (Long links) lies level is =
    let at = lies.long level.0 in (
      record { honest = is; version = level.1; linked = linked_of (fat_of (allocator_of it)) start (ids_of links) at.0 },
      subst (λ v. size ≤ length (ids_of links) * sector_len v) (sym level.1) at.1,
    )

module _ {F : Type 0} {g : Ghosts F} (it : MiniAllocator F g) (l : Layout) (shows : MemoryShows it (bytes_of (allocator_of it)) l) (memory : MiniMatchesBytes it) (e : Entry) where
  abbrev bytes : List ℕ
  bytes = bytes_of (allocator_of it)

  abbrev count : ℕ
  count = sectors_in l.version (length bytes)

  stream_is : mini_stream_of it ≡ mini_stream bytes l
  stream_is = ap (λ v. joined v bytes (mini_stream_ids it)) shows.version ∙ ap (joined l.version bytes) shows.mini_stream_sectors

  len_is : length (mini_stream bytes l) ≡ mini_stream_len it
  len_is = ap length (sym stream_is) ∙ length-joined (version_of (allocator_of it)) bytes (mini_stream_ids it)
      ∙ ap (λ v. length (mini_stream_ids it) * sector_len v) (sym memory.over.stream_version)

  minis_are : (minis : List ℕ) → AreInside (mini_stream_len it) minis → mini_joined (mini_stream_of it) minis ≡ flat_map (mini_sector bytes l) minis
  minis_are minis inside = ap (λ s. mini_joined s minis) stream_is ∙ parts_are (mini_stream bytes l) minis (subst (λ n. AreInside n minis) (sym len_is) inside)

  sectors_are : (ids : List ℕ) → joined (version_of (allocator_of it)) bytes ids ≡ joined l.version bytes ids
  sectors_are ids = ap (λ v. joined v bytes ids) shows.version

  module _ (links : StreamLinks) (lies : StreamLiesIn it e.start e.size (sectors_of links)) (level : IsOfLevel it e.size links) where
    sectors_held : IsTrue (is_honest (allocator_of it)) → HasSectorsOf it links × (e.size ≤ len_in links)
    sectors_held = sectors_found it memory e.start e.size links lies level

    -- the first bytes of its sectors are the stream's
    pub bytes_are : HasBytes bytes l e (take e.size (joined_in it links))
    bytes_are = by_level links lies level
      where
        by_level : (links : StreamLinks) → StreamLiesIn it e.start e.size (sectors_of links) → IsOfLevel it e.size links → HasBytes bytes l e (take e.size (joined_in it links))
        by_level (Short minis) lies level =
            let at = lies.short level in
            let ids = minis_of minis in
            let size = length-mini_joined (mini_stream_of it) ids in
            record {
              short = λ _. record {
                sectors = ids;
                chain = subst (λ t. Chain t e.start ids) shows.mini_fat at.0;
                in_stream = all_inside (length (mini_stream bytes l)) ids (subst (λ n. AreInside n ids) (sym len_is) at.1);
                content_is = ap (take e.size) (minis_are ids at.1);
                whole = omega (arith, length-take e.size (mini_joined (mini_stream_of it) ids), size, at.2);
              };
              long = λ up. absurd (omega (arith, level, up));
            }
        by_level (Long links) lies level =
            let at = lies.long level.0 in
            let ids = ids_of links in
            let chain : Chain (take count (fat bytes l)) e.start ids = subst (λ t. Chain t e.start ids) shows.fat at.0 in
            let size = length-joined (version_of (allocator_of it)) bytes ids in
            record {
              short = λ below. absurd (omega (arith, below, level.0));
              long = λ _. record {
                sectors = ids;
                chain = chain_of_cut count (fat bytes l) e.start ids chain;
                in_file = cut_in_file l.version bytes (fat bytes l) e.start ids chain;
                content_is = ap (take e.size) (sectors_are ids);
                whole = omega (arith, length-take e.size (joined (version_of (allocator_of it)) bytes ids), size, at.1);
              };
            }

    -- and they are all that it may have
    pub bytes_held : IsTrue (is_honest (allocator_of it)) → (content : List ℕ) → HasBytes bytes l e content → SectorsHaveContent it links e.size content
    bytes_held is content has = record {
      honest = is;
      sectors = (sectors_held is).0;
      room = (sectors_held is).1;
      bytes = by_level links lies level;
    }
      where
        by_level : (links : StreamLinks) → StreamLiesIn it e.start e.size (sectors_of links) → IsOfLevel it e.size links → content ≡ take e.size (joined_in it links)
        by_level (Short minis) lies level =
            let at = lies.short level in
            let ids = minis_of minis in
            let h = has.short level in
            let chain : Chain (mini_fat bytes l) e.start ids = subst (λ t. Chain t e.start ids) shows.mini_fat at.0 in
            let same : h.sectors ≡ ids = chain_unique (mini_fat bytes l) e.start h.sectors ids h.chain chain in
            h.content_is ∙ ap (λ s. take e.size (flat_map (mini_sector bytes l) s)) same ∙ ap (take e.size) (sym (minis_are ids at.1))
        by_level (Long links) lies level =
            let at = lies.long level.0 in
            let ids = ids_of links in
            let h = has.long level.0 in
            let chain : Chain (fat bytes l) e.start ids = chain_of_cut count (fat bytes l) e.start ids (subst (λ t. Chain t e.start ids) shows.fat at.0) in
            let same : h.sectors ≡ ids = chain_unique (fat bytes l) e.start h.sectors ids h.chain chain in
            h.content_is ∙ ap (λ s. take e.size (joined l.version bytes s)) same ∙ ap (take e.size) (sym (sectors_are ids))

  -- a stream that has bytes lies in sectors
  pub lies_where : (content : List ℕ) → HasBytes bytes l e content → (sectors : List ℕ) × StreamLiesIn it e.start e.size sectors
  lies_where content has = by_size (dec e.size)
    where
      dec : (n : ℕ) → (n < mini_cutoff) ⊎ (mini_cutoff ≤ n)
      dec n = dite (dec_lt n mini_cutoff) (λ below. inl below) (λ up. inr (omega arith))

      by_size : (e.size < mini_cutoff) ⊎ (mini_cutoff ≤ e.size) → (sectors : List ℕ) × StreamLiesIn it e.start e.size sectors
      by_size (inl below) =
          let h = has.short below in
          let inside = subst (λ n. AreInside n h.sectors) len_is (inside_all (length (mini_stream bytes l)) h.sectors h.in_stream) in
          let size = length-mini_joined (mini_stream_of it) h.sectors in
          let same = ap length (minis_are h.sectors inside) in
          let whole = h.whole in
          let content_len = ap length h.content_is in (
            h.sectors,
            record {
              short = λ _. (
                subst (λ t. Chain t e.start h.sectors) (sym shows.mini_fat) h.chain,
                inside,
                omega (arith, length-take e.size (flat_map (mini_sector bytes l) h.sectors), size, same, whole, content_len),
              );
              long = λ up. absurd (omega (arith, below, up));
            },
          )
      by_size (inr up) =
          let h = has.long up in
          let size = length-joined (version_of (allocator_of it)) bytes h.sectors in
          let same = ap length (sectors_are h.sectors) in
          let whole = h.whole in
          let content_len = ap length h.content_is in (
            h.sectors,
            record {
              short = λ below. absurd (omega (arith, below, up));
              long = λ _. (
                subst (λ t. Chain t e.start h.sectors) (sym shows.fat) (cut_of_chain l.version bytes (fat bytes l) e.start h.sectors h.in_file h.chain),
                omega (arith, length-take e.size (joined l.version bytes h.sectors), size, same, whole, content_len),
              );
            },
          )
