-- The mini stream is written piece by piece.
use Rattle.std.proofs.Common.{◌≡◌, ℕ, ◌+◌, ◌-◌, ◌*◌, ◌/◌, ◌%◌, ◌<◌, ◌≤◌, List, [], length, take, drop, get_or, refl, ap, sym, subst, arith, ⊎_elim}
use Rattle.std.proofs.lemmas.Bool.Decides.{leb_tells}
use Rattle.std.proofs.lemmas.List.{length-take-le}
use Rattle.cfb_medium.specs.declared.medium.ReadMedium.{Ghosts}
use Rattle.cfb_sectors.specs.Sectors.{sector}
use Rattle.cfb_chains.specs.Changes.{AreDistinct}
use Rattle.cfb_chains.specs.LinkViews.{ids_of}
use Rattle.cfb_chains.specs.Owned.{ReplacesChain}
use Rattle.cfb_chains.specs.declared.links.Links.{Links}
use Rattle.cfb_chains.proofs.ChainGrowing.{among_more}
use Rattle.cfb_fat.specs.Seeing.{seen_of}
use Rattle.cfb_fat.specs.Tables.{bytes_of, version_of}
use Rattle.cfb_fat.specs.declared.allocator.Allocator.{Allocator}
use Rattle.cfb_chain_io.specs.ChainEffects.{content_of, len_of, place_of, HasDataChain, Overwrites}
use Rattle.cfb_chain_io.proofs.Owning.{becomes_then}
use Rattle.cfb_chain_io.proofs.WrittenParts.{nothing_over}
use Rattle.cfb_mini.specs.Minis.{mini_place}
use Rattle.cfb_mini.specs.Overwriting.{WritesMinis}
use Rattle.cfb_mini.proofs.Entries.{content_len}
use Rattle.cfb_mini.proofs.MiniSteps.{more_over, others_over}

-- what follows a position in its mini sector
mini_there : (minis : List ℕ) (p k place : ℕ) → place ≡ 64 * get_or minis (p / 64) 0 + p % 64 → p ≤ k → k - p < 64 - p % 64 → mini_place minis k ≡ place + (k - p)
mini_there minis p k place is from few =
    let index : k / 64 ≡ p / 64 = omega (arith, from, few) in
    let offset : k % 64 ≡ p % 64 + (k - p) = omega (arith, from, few) in
    let same : 64 * get_or minis (k / 64) 0 ≡ 64 * get_or minis (p / 64) 0 = ap (λ q. 64 * get_or minis q 0) index in
    omega (arith, is, same, offset)

module _ {F : Type 0} {g : Ghosts F} where
  pub writes_none : (at : ℕ) (a : Allocator F g) (stream : Links) (minis : List ℕ) → HasDataChain a stream → WritesMinis at [] a a stream minis
  writes_none at a stream minis chain = record { chain = chain; becomes = (nothing_over at a stream chain).becomes; content = refl; others = λ n none. refl; there = λ k from to. absurd (omega (arith, from, to)) }

  pub writes_more : (at done count place left : ℕ) (bytes piece : List ℕ) (a m b : Allocator F g) (stream : Links) (minis : List ℕ) → AreDistinct minis → WritesMinis at (take done bytes) a m stream minis → Overwrites place piece m b stream → version_of m ≡ version_of a
      → place + left ≤ len_of stream → left ≡ 64 - (at + done) % 64 → place ≡ 64 * get_or minis ((at + done) / 64) 0 + (at + done) % 64 → count ≤ left → 0 < count → done + count ≤ length bytes → at + length bytes ≤ 64 * length minis
      → length piece ≡ count → piece ≡ take count (drop done bytes) → WritesMinis at (take (done + count) bytes) a b stream minis
  unfolding seen_of
  writes_more at done count place left bytes piece a m b stream minis once was over version there rest spot few some within inside size is =
      let ids = ids_of stream in
      let long = content_len m stream was.chain.has.version in
      let step : ReplacesChain (sector (version_of a)) [] ids [] ids (seen_of m) (seen_of b) = subst (λ v. ReplacesChain (sector v) [] ids [] ids (seen_of m) (seen_of b)) version over.becomes in
      let fits : place + count ≤ length (content_of m stream) = omega (arith, long, there, few) in
      let short : count ≤ 64 - (at + done) % 64 = omega (arith, few, rest) in
      record {
        chain = over.chain;
        becomes = becomes_then (sector (version_of a)) ids [] ids ids (seen_of a) (seen_of m) (seen_of b) was.becomes (among_more ids [] ids (λ n none. none)) step tt;
        content = more_over (content_of a stream) (content_of m stream) (content_of b stream) minis bytes piece at done count place once inside within some short size is spot fits over.content was.content;
        others = λ n none. others_over (content_of a stream) (content_of m stream) (content_of b stream) minis bytes piece at done count place once inside within some short size is spot fits over.content n none (was.others n none);
        there = λ k from to.
            let all_size : length (take (done + count) bytes) ≡ done + count = length-take-le (done + count) bytes (omega (arith, within)) in
            let first_size : length (take done bytes) ≡ done = length-take-le done bytes (omega (arith, within)) in
            ⊎_elim
            (λ later.
            let here : mini_place minis k ≡ place + (k - (at + done)) = mini_there minis (at + done) k place spot later.1 (omega (arith, to, all_size, short)) in
            subst (λ v. place_of v ids (mini_place minis k) < length (bytes_of b)) version
            (subst (λ p. place_of (version_of m) ids p < length (bytes_of b)) (sym here) (over.there (place + (k - (at + done))) (omega arith) (omega (arith, to, all_size, size, later.1)))))
            (λ sooner. let before = was.there k from (omega (arith, sooner.1, first_size)) in let longer = step.leaves.longer in omega (arith, before, longer))
            (leb_tells (at + done) k);
      }
