-- Bytes of a chain are written piece by piece.
use Rattle.std.proofs.Common.{◌≡◌, ℕ, ◌+◌, ◌-◌, ◌*◌, ◌/◌, ◌%◌, ◌<◌, ◌≤◌, false, List, [], ◌∷◌, ◌++◌, length, take, drop, get_or, refl, ap, sym, subst, ◌∙◌, arith, ⊎_elim, length-append, append-nil, IsTrue}
use Rattle.std.specs.Prelude.{slice_index_or}
use Rattle.std.proofs.Math.Seq.{take-add, get_or-append_right}
use Rattle.std.proofs.lemmas.Bool.Decides.{leb_tells}
use Rattle.std.proofs.lemmas.List.{ext_get_or, get_or_append_left, length-take-le, take_all}
use Rattle.cfb_medium.specs.Bytes.{overwritten}
use Rattle.cfb_medium.specs.Versions.{sector_len}
use Rattle.cfb_medium.specs.declared.medium.ReadMedium.{Ghosts}
use Rattle.cfb_medium.specs.declared.version.Version.{Version}
use Rattle.cfb_medium.specs.declared.version.Version.TheVariants.{V3, V4}
use Rattle.cfb_sectors.specs.Copies.{copies}
use Rattle.cfb_sectors.specs.Initial.{initial}
use Rattle.cfb_sectors.specs.declared.initial.SectorInit.{SectorInit}
use Rattle.cfb_sectors.specs.Sectors.{end_of_chain, joined, sector, sector_start}
use Rattle.cfb_chains.specs.Changes.{AreSubsetOf, AreDisjoint}
use Rattle.cfb_chains.specs.Grown.{IsChainInTable}
use Rattle.cfb_chains.specs.LinkViews.{ids_of, links_version}
use Rattle.cfb_chains.specs.Owned.{ReplacesChain, ChangesAtMost, SectorLayer}
use Rattle.cfb_chains.specs.Positions.{left_in, sectors_for}
use Rattle.cfb_chains.specs.declared.links.Links.{Links}
use Rattle.cfb_chains.proofs.ChainGrowing.{among_more, chain_once}
use Rattle.cfb_chains.proofs.ChainWriting.{length_within, length-joined, split_below, written_at}
use Rattle.cfb_chains.proofs.Overwriting.{get_before, get_behind, get_written, over_longer, over_reaches}
use Rattle.cfb_chains.proofs.Owners.{leaves_more}
use Rattle.cfb_fat.specs.declared.allocator.Allocator.{Allocator}
use Rattle.cfb_fat.specs.Changing.{WritesBeside}
use Rattle.cfb_fat.specs.Keeping.{tables_same}
use Rattle.cfb_fat.specs.Seeing.{seen_of}
use Rattle.cfb_fat.specs.Tables.{bytes_of, fat_of, has_failed_here, is_honest, tables_of, version_of}
use Rattle.cfb_chain_io.specs.ChainEffects.{content_of, place_of, HasDataChain, Overwrites, Resizes, WritesIntoNewSectors}
use Rattle.cfb_chain_io.proofs.Owning.{becomes_then, fits_in, none_behind_all}

-- what was written in two parts was written
pub over_then : (c xs ys : List ℕ) (at next : ℕ) → next ≡ at + length xs → next + length ys ≤ length c → overwritten (overwritten c at xs) next ys ≡ overwritten c at (xs ++ ys)
over_then c xs ys at next is fits =
    let size = length-append xs ys in
    let first = length_within c xs at (omega (arith, is, fits)) in
    ext_get_or 0 _ _ (length_within (overwritten c at xs) ys next (omega (arith, first, fits)) ∙ first ∙ sym (length_within c (xs ++ ys) at (omega (arith, is, fits, size)))) (λ k below.
    ⊎_elim
    (λ later. ⊎_elim
    (λ past. get_behind (overwritten c at xs) next ys k past.1 ∙ get_behind c at xs k (omega (arith, past.1, is)) ∙ sym (get_behind c at (xs ++ ys) k (omega (arith, past.1, is, size))))
    (λ here.
    let there : next + (k - next) ≡ k = omega (arith, later.1) in
    let place : at + (k - at) ≡ k = omega (arith, later.1, is) in
    let index : k - at - length xs ≡ k - next = omega (arith, later.1, is) in
    ap (λ n. get_or (overwritten (overwritten c at xs) next ys) n 0) (sym there) ∙ get_written (overwritten c at xs) next ys (k - next) (omega (arith, here.1, later.1))
    ∙ sym (ap (λ n. get_or (overwritten c at (xs ++ ys)) n 0) (sym place) ∙ get_written c at (xs ++ ys) (k - at) (omega (arith, here.1, is, size))
    ∙ get_or-append_right xs ys (k - at) 0 (omega (arith, later.1, is)) ∙ ap (λ n. get_or ys n 0) index))
    (leb_tells (next + length ys) k))
    (λ sooner. get_before (overwritten c at xs) next ys k sooner.1 ∙ ⊎_elim
    (λ inside.
    let place : at + (k - at) ≡ k = omega (arith, inside.1) in
    ap (λ n. get_or (overwritten c at xs) n 0) (sym place) ∙ get_written c at xs (k - at) (omega (arith, sooner.1, inside.1, is))
    ∙ sym (ap (λ n. get_or (overwritten c at (xs ++ ys)) n 0) (sym place) ∙ get_written c at (xs ++ ys) (k - at) (omega (arith, sooner.1, inside.1, is, size)) ∙ get_or_append_left xs ys 0 (k - at) (omega (arith, sooner.1, inside.1, is))))
    (λ before. get_before c at xs k before.1 ∙ sym (get_before c at (xs ++ ys) k before.1))
    (leb_tells at k))
    (leb_tells next k))

module _ (S : List ℕ → ℕ → List ℕ) where
  leaves_same : (xs : List ℕ) (a : SectorLayer) → ChangesAtMost S [] xs a a
  leaves_same xs a = record {
    longer = omega arith;
    size = omega arith;
    entries = λ n below none. refl;
    sectors = λ n below loose none. refl;
    apart = λ n below loose. loose;
    still = λ n loose. loose;
    behind = λ n past below none. absurd (omega (arith, past, below));
    header = λ place count front words. refl;
  }

  pub becomes_same : (ids : List ℕ) (a : SectorLayer) → IsChainInTable a.table ids → ReplacesChain S [] ids [] ids a a
  becomes_same ids a linked = record { leaves = leaves_same (ids ++ []) a; were_free = tt; spare = tt; linked = linked; among = among_more ids [] ids (λ n none. none) }

  -- one of a chain's sectors was written
  pub becomes_touched : (ids : List ℕ) (i n : ℕ) (a b : SectorLayer) → i < length ids → n ≡ get_or ids i 0 → ChangesAtMost S [] (n ∷ []) a b → IsChainInTable b.table ids → ReplacesChain S [] ids [] ids a b
  becomes_touched ids i n a b below is leaves linked = record {
    leaves = leaves_more S [] (n ∷ []) (ids ++ []) a b (among_more ids [] (n ∷ []) only) leaves;
    were_free = tt;
    spare = tt;
    linked = linked;
    among = among_more ids [] ids (λ n none. none);
  }
    where
      first : (k : ℕ) → k < 1 → get_or (n ∷ []) k 0 ≡ n
      first k inside = let zero_k : k ≡ 0 = omega (arith, inside) in ap (λ j. get_or (n ∷ []) j 0) zero_k

      only : AreSubsetOf ids (n ∷ [])
      only m none k inside same = none i below (sym is ∙ sym (first k inside) ∙ same)

-- what follows a position in its sector
in_sector : (v : Version) (p k : ℕ) → p ≤ k → k - p < left_in v p → (k / sector_len v ≡ p / sector_len v) × (k % sector_len v ≡ p % sector_len v + (k - p))
in_sector V3 p k from few = (omega (arith, from, few), omega (arith, from, few))
in_sector V4 p k from few = (omega (arith, from, few), omega (arith, from, few))

-- the bytes of a piece in one sector stand where they were written
piece_there : (w : Version) (ids bytes_now : List ℕ) (start size p k : ℕ) → start ≡ sector_start w (get_or ids (p / sector_len w) 0) + p % sector_len w → start + size ≤ length bytes_now → size ≤ left_in w p → p ≤ k → k < p + size
    → place_of w ids k < length bytes_now
piece_there w ids bytes_now start size p k is reach few from to =
    let here = in_sector w p k from (omega (arith, from, to, few)) in
    let same : sector_start w (get_or ids (k / sector_len w) 0) ≡ sector_start w (get_or ids (p / sector_len w) 0) = ap (λ q. sector_start w (get_or ids q 0)) here.0 in
    omega (arith, is, reach, same, here.1, from, to)

module _ {F : Type 0} {g : Ghosts F} where
  pub nothing_over : (at : ℕ) (a : Allocator F g) (links : Links) → HasDataChain a links → Overwrites at [] a a links
  unfolding seen_of
  nothing_over at a links chain = record {
    chain = chain;
    becomes = becomes_same (sector (version_of a)) (ids_of links) (seen_of a) chain.has.linked;
    content = refl;
    there = λ k from to. absurd (omega (arith, from, to));
  }

  -- a piece more was written, in one sector
  pub more_over : (at done count n offset : ℕ) (bytes piece : List ℕ) (a m b : Allocator F g) (links : Links) → HasDataChain a links → Overwrites at (take done bytes) a m links → has_failed_here b ≡ false → version_of m ≡ version_of a
      → WritesBeside (sector_start (version_of m) n + offset) piece m b
      → (offset + length piece ≤ sector_len (version_of m) → IsTrue (is_honest m) → ChangesAtMost (sector (version_of m)) [] (n ∷ []) (seen_of m) (seen_of b))
      → n ≡ get_or (ids_of links) ((at + done) / sector_len (links_version links)) 0 → offset ≡ (at + done) % sector_len (links_version links) → count ≤ left_in (links_version links) (at + done)
      → at + length bytes ≤ length (ids_of links) * sector_len (links_version links) → done + count ≤ length bytes → 0 < count → length piece ≡ count → piece ≡ take count (drop done bytes)
      → Overwrites at (take (done + count) bytes) a b links
  unfolding seen_of
  more_over at done count n offset bytes piece a m b links chain did live same wrote leaves is_sector is_offset few inside within some size is =
      let ids = ids_of links in
      let w = links_version links in
      let has = did.chain.has in
      let i = (at + done) / sector_len w in
      let below : at + done < length ids * sector_len w = omega (arith, inside, within, some) in
      let there = split_below w (at + done) (length ids) below in
      let table : IsChainInTable (fat_of b) ids = subst (λ l. IsChainInTable l ids) (sym wrote.fat) has.linked in
      let tables = tables_same m b wrote.difat_sectors wrote.fat_sectors in
      let short : length piece ≤ left_in w (at + done) = omega (arith, size, few) in
      let room = fits_in w (version_of m) (at + done) offset (length piece) has.version is_offset short in
      let was : joined (version_of m) (bytes_of m) ids ≡ overwritten (joined (version_of a) (bytes_of a) ids) at (take done bytes) = did.content in
      let once = chain_once (fat_of m) (slice_index_or ids 0 end_of_chain) ids has.linked in
      let place : sector_start (version_of m) n + offset ≡ sector_start w (get_or ids i 0) + (at + done) % sector_len w =
      ap (λ u. sector_start u n + offset) (sym has.version) ∙ ap (λ k. sector_start w k + offset) is_sector ∙ ap (λ o. sector_start w (get_or ids i 0) + o) is_offset in
      let wrote_so : joined w (bytes_of b) ids ≡ overwritten (joined w (bytes_of m) ids) (at + done) piece = written_at w (bytes_of m) (bytes_of b) ids piece (at + done) (sector_start (version_of m) n + offset) below short once place (wrote.sectors.0.bytes live has.honest) in
      let first_size : length (take done bytes) ≡ done = length-take-le done bytes (omega (arith, within)) in
      let long : length (joined (version_of a) (bytes_of a) ids) ≡ length ids * sector_len w = length-joined (version_of a) (bytes_of a) ids ∙ ap (λ u. length ids * sector_len u) (sym chain.has.version) in
      record {
        chain = record {
          has = record { honest = subst IsTrue (sym wrote.sectors.0.honest) has.honest; version = has.version ∙ sym wrote.sectors.0.version; linked = table };
          beside = subst (λ l. AreDisjoint l ids) (sym tables) did.chain.beside;
        };
        becomes = becomes_then (sector (version_of a)) ids [] ids ids (seen_of a) (seen_of m) (seen_of b) did.becomes (among_more ids [] ids (λ n none. none))
            (becomes_touched (sector (version_of a)) ids i n (seen_of m) (seen_of b) there is_sector (subst (λ u. ChangesAtMost (sector u) [] (n ∷ []) (seen_of m) (seen_of b)) same (leaves room has.honest)) table) tt;
        content = ap (λ u. joined u (bytes_of b) ids) (wrote.sectors.0.version ∙ sym has.version) ∙ wrote_so
            ∙ ap (λ l. overwritten l (at + done) piece) (ap (λ u. joined u (bytes_of m) ids) has.version ∙ was)
            ∙ over_then (joined (version_of a) (bytes_of a) ids) (take done bytes) piece at (at + done) (omega (arith, first_size)) (omega (arith, long, size, inside, within))
            ∙ ap (λ l. overwritten (joined (version_of a) (bytes_of a) ids) at (take done bytes ++ l)) is
            ∙ ap (overwritten (joined (version_of a) (bytes_of a) ids) at) (sym (take-add done count bytes));
        there = λ k from to.
            let all_size : length (take (done + count) bytes) ≡ done + count = length-take-le (done + count) bytes (omega (arith, within)) in
            let now : bytes_of b ≡ overwritten (bytes_of m) (sector_start (version_of m) n + offset) piece = wrote.sectors.0.bytes live has.honest in
            ⊎_elim
            (λ later. subst (λ v. place_of v ids k < length (bytes_of b)) chain.has.version
            (piece_there w ids (bytes_of b) (sector_start (version_of m) n + offset) (length piece) (at + done) k place
            (subst (λ l. sector_start (version_of m) n + offset + length piece ≤ length l) (sym now) (over_reaches (bytes_of m) piece (sector_start (version_of m) n + offset) (omega (arith, size, some))))
            short later.1 (omega (arith, to, all_size, size))))
            (λ sooner.
            let longer : length (bytes_of m) ≤ length (bytes_of b) = subst (λ l. length (bytes_of m) ≤ length l) (sym now) (over_longer (bytes_of m) piece (sector_start (version_of m) n + offset)) in
            let was = did.there k from (omega (arith, sooner.1, first_size)) in
            omega (arith, was, longer))
            (leb_tells (at + done) k);
      }

fewer : (v : Version) (end n : ℕ) → end ≤ n * sector_len v → sectors_for v end ≤ n
fewer V3 end n within = omega (arith, within)
fewer V4 end n within = omega (arith, within)

pub more_for : (v : Version) (end n : ℕ) → n * sector_len v < end → n ≤ sectors_for v end
more_for V3 end n past = omega (arith, past)
more_for V4 end n past = omega (arith, past)

pub room_for : (v : Version) (end n : ℕ) → n ≡ sectors_for v end → end ≤ n * sector_len v
room_for V3 end n is = omega (arith, is)
room_for V4 end n is = omega (arith, is)

module _ {F : Type 0} {g : Ghosts F} where
  pub writes_within : (init : SectorInit) (at : ℕ) (bytes : List ℕ) (a b : Allocator F g) (links : Links) → Overwrites at bytes a b links → WritesIntoNewSectors init at bytes a b links links
  writes_within init at bytes a b links h = record {
    more = [];
    sectors = sym (append-nil (ids_of links));
    chain = h.chain;
    becomes = h.becomes;
    content = h.content ∙ ap (λ l. overwritten l at bytes) (sym (append-nil (content_of a links)));
    there = h.there;
  }

  pub writes_behind : (init : SectorInit) (at count : ℕ) (bytes : List ℕ) (a m b : Allocator F g) (before after : Links) → length (ids_of before) ≤ count → version_of m ≡ version_of a → Resizes init count a m before after → Overwrites at bytes m b after
      → WritesIntoNewSectors init at bytes a b before after
  unfolding seen_of
  writes_behind init at count bytes a m b before after few same grown over =
      let whole : take count (ids_of before) ≡ ids_of before = take_all count (ids_of before) few in
      let sectors = grown.sectors ∙ ap (λ l. l ++ grown.more) whole in
      record {
        more = grown.more;
        sectors = sectors;
        chain = over.chain;
        becomes = becomes_then (sector (version_of a)) (ids_of before) grown.more (ids_of after) (ids_of after) (seen_of a) (seen_of m) (seen_of b) grown.becomes grown.becomes.among
            (subst (λ u. ReplacesChain (sector u) [] (ids_of after) [] (ids_of after) (seen_of m) (seen_of b)) same over.becomes)
            (none_behind_all (tables_of b) (ids_of before) grown.more (subst (AreDisjoint (tables_of b)) sectors over.chain.beside));
        content = over.content ∙ ap (λ l. overwritten l at bytes) (grown.content ∙ ap (λ l. joined (version_of a) (bytes_of a) l ++ copies (length grown.more) (initial init (sector_len (version_of a)))) whole);
        there = subst (λ u. (k : ℕ) → at ≤ k → k < at + length bytes → place_of u (ids_of after) k < length (bytes_of b)) same over.there;
      }
