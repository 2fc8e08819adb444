-- Bytes of a chain that are copied piece by piece, to one that took in all its sectors.
use Rattle.std.proofs.Common.{◌≡◌, ℕ, ◌+◌, ◌*◌, ◌<◌, ◌≤◌, IsTrue, List, [], ◌∷◌, ◌++◌, length, take, drop, get_or, ap, sym, subst, ◌∙◌, arith, ⊎_elim, length-append}
use Rattle.std.proofs.lemmas.Bool.Decides.{leb_tells}
use Rattle.std.proofs.lemmas.List.{ext_get_or, take_all}
use Rattle.std.proofs.Math.Seq.{take-add}
use Rattle.cfb_medium.specs.Bytes.{overwritten}
use Rattle.cfb_medium.specs.Versions.{sector_len}
use Rattle.cfb_medium.specs.declared.version.Version.{Version}
use Rattle.cfb_medium.specs.declared.medium.ReadMedium.{Ghosts}
use Rattle.cfb_sectors.specs.Sectors.{joined, sector}
use Rattle.cfb_chains.specs.Behind.{AreWhole}
use Rattle.cfb_chains.specs.Changes.{AreDisjoint, IsNotIn}
use Rattle.cfb_chains.specs.Grown.{IsChainInTable}
use Rattle.cfb_chains.specs.LinkViews.{ids_of}
use Rattle.cfb_chains.specs.Owned.{ReplacesChain}
use Rattle.cfb_chains.specs.Positions.{sectors_for}
use Rattle.cfb_chains.specs.declared.links.Links.{Links}
use Rattle.cfb_chains.proofs.ChainGrowing.{among_more}
use Rattle.cfb_chains.proofs.ChainWriting.{length_within}
use Rattle.cfb_chains.proofs.Overwriting.{get_written}
use Rattle.cfb_fat.specs.declared.allocator.Allocator.{Allocator}
use Rattle.cfb_fat.specs.Seeing.{seen_of}
use Rattle.cfb_fat.specs.Tables.{bytes_of, tables_of, version_of, OnlyReadsAllocator}
use Rattle.cfb_chain_io.specs.ChainEffects.{content_of, place_of, HasDataChain, HasFatChain, Overwrites, Resizes}
use Rattle.cfb_sectors.specs.declared.initial.SectorInit.{SectorInit}
use Rattle.cfb_chain_io.proofs.Owning.{becomes_then, none_behind_all}
use Rattle.cfb_chain_io.proofs.WrittenParts.{over_then}
use Rattle.cfb_copying.specs.Chains.{CopiesChain}
use Rattle.cfb_chains.proofs.Extending.{whole_sectors}

-- bytes as many as there are, over all of them
pub over_whole : (old xs : List ℕ) → length xs ≡ length old → overwritten old 0 xs ≡ xs
over_whole old xs is =
    let size = length_within old xs 0 (omega (arith, is)) in
    ext_get_or 0 (overwritten old 0 xs) xs (size ∙ sym is) (λ k below.
    let here : 0 + k ≡ k = omega arith in
    ap (λ n. get_or (overwritten old 0 xs) n 0) (sym here) ∙ get_written old 0 xs k (omega (arith, below, size, is)))

-- sectors that lie in a file whole do so in a longer one
pub whole_still : (v : Version) (ids old new : List ℕ) → length old ≤ length new → AreWhole v old ids → AreWhole v new ids
whole_still v [] old new longer all = tt
whole_still v (n ∷ ids) old new longer all = ((let first = all.0 in omega (arith, first, longer)), whole_still v ids old new longer all.1)

-- a chain that got as many sectors as another has as many bytes
pub as_long : (v w : Version) (n m : ℕ) → m ≡ sectors_for w (n * sector_len v) → w ≡ v → m * sector_len w ≡ n * sector_len v
as_long v w n m is same = ap (λ u. m * sector_len u) same ∙ ap (λ k. k * sector_len v) (is ∙ ap (λ u. sectors_for u (n * sector_len v)) same ∙ whole_sectors v n)

module _ {F : Type 0} {g : Ghosts F} where
  -- a file that was only read has the chain, with its bytes
  pub links_rest : (a b : Allocator F g) (links : Links) → OnlyReadsAllocator a b → HasFatChain a links → HasFatChain b links
  links_rest a b links rests has = record {
    honest = subst IsTrue (sym rests.sectors.honest) has.honest;
    version = has.version ∙ sym rests.sectors.version;
    linked = subst (λ table. IsChainInTable table (ids_of links)) (sym rests.fat) has.linked;
  }

  pub content_rests : (a b : Allocator F g) (links : Links) → OnlyReadsAllocator a b → HasFatChain a links → content_of b links ≡ content_of a links
  content_rests a b links rests has =
      ap (λ v. joined v (bytes_of b) (ids_of links)) rests.sectors.version ∙ ap (λ l. joined (version_of a) l (ids_of links)) (rests.sectors.bytes has.honest)

  -- bytes and others behind them were written over
  pub overwrites_then : (at next : ℕ) (xs ys : List ℕ) (a m b : Allocator F g) (links : Links) → HasDataChain a links → Overwrites at xs a m links → Overwrites next ys m b links
      → next ≡ at + length xs → next + length ys ≤ length (content_of a links) → Overwrites at (xs ++ ys) a b links
  unfolding seen_of
  overwrites_then at next xs ys a m b links chain first then is within =
      let ids = ids_of links in
      let same : version_of m ≡ version_of a = sym first.chain.has.version ∙ chain.has.version in
      record {
        chain = then.chain;
        becomes = becomes_then (sector (version_of a)) ids [] ids ids (seen_of a) (seen_of m) (seen_of b) first.becomes (among_more ids [] ids (λ n none. none))
            (subst (λ v. ReplacesChain (sector v) [] ids [] ids (seen_of m) (seen_of b)) same then.becomes) tt;
        content = then.content ∙ ap (λ l. overwritten l next ys) first.content ∙ over_then (content_of a links) xs ys at next is within;
        there = λ k from to.
            let both = length-append xs ys in
            ⊎_elim
            (λ later. subst (λ v. place_of v ids k < length (bytes_of b)) same (then.there k later.1 (omega (arith, to, both, is))))
            (λ sooner. let was = first.there k from (omega (arith, sooner.1, is)) in let longer = then.becomes.leaves.longer in omega (arith, was, longer))
            (leb_tells next k);
      }

  -- a piece of some bytes behind those that were written before
  pub piece_then : (done count : ℕ) (bytes piece : List ℕ) (a m b : Allocator F g) (links : Links) → HasDataChain a links → Overwrites 0 (take done bytes) a m links → Overwrites done piece m b links
      → piece ≡ take count (drop done bytes) → done ≡ length (take done bytes) → done + length piece ≤ length (content_of a links) → Overwrites 0 (take (done + count) bytes) a b links
  piece_then done count bytes piece a m b links chain first then is size within =
      subst (λ l. Overwrites 0 l a b links) (ap (λ l. take done bytes ++ l) is ∙ sym (take-add done count bytes))
      (overwrites_then 0 done (take done bytes) piece a m b links chain first then (size ∙ sym (zero_first (length (take done bytes)))) within)
    where
      zero_first : (n : ℕ) → 0 + n ≡ n
      zero_first n = omega arith

  -- a chain took in sectors, and then all its bytes were written
  pub chain_copied : (init : SectorInit) (count : ℕ) (bytes : List ℕ) (a m b : Allocator F g) (before links : Links) → length (ids_of before) ≤ count → version_of m ≡ version_of a
      → Resizes init count a m before links → Overwrites 0 bytes m b links → length bytes ≡ length (content_of m links) → CopiesChain bytes a b before links
  unfolding seen_of
  chain_copied init count bytes a m b before links few same grown did size =
      let ids = ids_of links in
      let S = sector (version_of a) in
      let all : ids ≡ ids_of before ++ grown.more = grown.sectors ∙ ap (λ l. l ++ grown.more) (take_all count (ids_of before) few) in
      record {
        more = grown.more;
        sectors = all;
        chain = did.chain;
        becomes = becomes_then S (ids_of before) grown.more ids ids (seen_of a) (seen_of m) (seen_of b) grown.becomes (λ n loose. subst (λ l. IsNotIn l n) (sym all) loose)
            (subst (λ v. ReplacesChain (sector v) [] ids [] ids (seen_of m) (seen_of b)) same did.becomes) (none_behind_all (tables_of b) (ids_of before) grown.more (subst (AreDisjoint (tables_of b)) all did.chain.beside));
        content_is = did.content ∙ over_whole (content_of m links) bytes size;
        whole = whole_still (version_of a) grown.more (bytes_of m) (bytes_of b) did.becomes.leaves.longer grown.whole;
      }
