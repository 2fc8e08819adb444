-- A stream's bytes over reads.
use Rattle.std.proofs.Common.{◌≡◌, ℕ, ◌+◌, ◌-◌, ◌*◌, ◌<◌, ◌≤◌, ◌⊎◌, inl, inr, List, drop, length, take, IsTrue, Ok, Err, false, ap, sym, subst, ◌∙◌, arith}
use Rattle.std.specs.Prelude.{IfErr, IsErrOf, OnOk, Result, ◌↔◌}
use Rattle.std.proofs.lemmas.List.{drop-take, take-take}
use Rattle.cfb_medium.specs.Calls.{IsFaultOrInvalidInputIf}
use Rattle.cfb_medium.specs.Versions.{sector_len}
use Rattle.cfb_medium.specs.declared.error.Error.{Error}
use Rattle.cfb_medium.specs.declared.error.Error.TheVariants.{InvalidData, InvalidInput}
use Rattle.cfb_medium.specs.declared.medium.ReadMedium.{Ghosts}
use Rattle.cfb_sectors.specs.Sectors.{joined}
use Rattle.cfb_chains.specs.ChainCalls.{IsInvalidPlace}
use Rattle.cfb_chains.specs.LinkViews.{links_version}
use Rattle.cfb_fat.specs.Tables.{bytes_of, has_failed_here, is_honest, version_of}
use Rattle.cfb_mini.specs.LinkViews.{minis_of}
use Rattle.cfb_mini.specs.Minis.{mini_joined, AreInside}
use Rattle.cfb_mini.specs.Views.{allocator_of, mini_content_of, mini_stream_ids, mini_stream_len, mini_stream_of, MiniMatchesBytes, OnlyReadsMini}
use Rattle.cfb_mini.specs.declared.links.MiniLinks.{MiniLinks}
use Rattle.cfb_mini.specs.declared.mini_allocator.MiniAllocator.{MiniAllocator}
use Rattle.cfb_mini.proofs.Resting.{has_yet, same_content}
use Rattle.cfb_chain_io.specs.ChainEffects.{content_of, len_of, HasFatChain}
use Rattle.cfb_chains.specs.declared.links.Links.{Links}
use Rattle.cfb_stream_reads.specs.Content.{SectorsHaveContent, ReadsPart}
use Rattle.cfb_stream_reads.specs.Streams.{joined_in, len_in, HasSectorsOf}
use Rattle.cfb_stream_reads.specs.declared.opening.StreamLinks.{StreamLinks}
use Rattle.cfb_stream_reads.specs.declared.opening.StreamLinks.TheVariants.{Short, Long}

-- a part of the front is that part of the whole
pub part_of_front : (n at len : ℕ) (xs : List ℕ) → at + n ≤ len → take n (drop at (take len xs)) ≡ take n (drop at xs)
part_of_front n at len xs within =
    let size : at + (len - at) ≡ len = omega arith in
    let below : n ≤ len - at = omega arith in
    ap (λ k. take n (drop at (take k xs))) (sym size) ∙ ap (take n) (drop-take at (len - at) xs) ∙ take-take n (len - at) (drop at xs) below

on_ok : {T : Type 0} (P Q : Type 0) (r : Result T Error) → (P → Q) → OnOk r P → OnOk r Q
on_ok P Q (Ok done) so h = so h
on_ok P Q (Err e) so h = tt

module _ {F : Type 0} {g : Ghosts F} where
  same_minis : (a b : MiniAllocator F g) → OnlyReadsMini a b → IsTrue (is_honest (allocator_of a)) → mini_stream_of b ≡ mini_stream_of a
  same_minis a b rests is =
      ap (λ v. joined v (bytes_of (allocator_of b)) (mini_stream_ids b)) rests.directory.allocator.sectors.version
      ∙ ap (λ l. joined (version_of (allocator_of a)) l (mini_stream_ids b)) (rests.directory.allocator.sectors.bytes is)
      ∙ ap (joined (version_of (allocator_of a)) (bytes_of (allocator_of a))) rests.mini_stream_ids

  same_len : (a b : MiniAllocator F g) → OnlyReadsMini a b → MiniMatchesBytes a → mini_stream_len b ≡ mini_stream_len a
  same_len a b rests is =
      let version : links_version b.mini_fat.stream ≡ links_version a.mini_fat.stream =
      (rests.kept is).over.stream_version ∙ rests.directory.allocator.sectors.version ∙ sym is.over.stream_version in
      ap (λ v. length (mini_stream_ids b) * sector_len v) version ∙ ap (λ ids. length ids * sector_len (links_version a.mini_fat.stream)) rests.mini_stream_ids

  sectors_stay : (a b : MiniAllocator F g) (links : StreamLinks) → OnlyReadsMini a b → HasSectorsOf a links → HasSectorsOf b links
  sectors_stay a b (Short minis) rests (is, inside) = (rests.kept is, subst (λ n. AreInside n (minis_of minis)) (sym (same_len a b rests is)) inside)
  sectors_stay a b (Long links) rests has = has_yet (allocator_of a) (allocator_of b) links rests.directory.allocator has

  same_joined : (a b : MiniAllocator F g) (links : StreamLinks) → OnlyReadsMini a b → IsTrue (is_honest (allocator_of a)) → HasSectorsOf a links → joined_in b links ≡ joined_in a links
  same_joined a b (Short minis) rests is has = ap (λ s. mini_joined s (minis_of minis)) (same_minis a b rests is)
  same_joined a b (Long links) rests is has = same_content (allocator_of a) (allocator_of b) links rests.directory.allocator has

  -- a stream has its bytes yet
  pub content_stays : (a b : MiniAllocator F g) (links : StreamLinks) (len : ℕ) (content : List ℕ) → OnlyReadsMini a b → SectorsHaveContent a links len content → SectorsHaveContent b links len content
  content_stays a b links len content rests has = record {
    honest = subst IsTrue (sym rests.directory.allocator.sectors.honest) has.honest;
    sectors = sectors_stay a b links rests has.sectors;
    room = has.room;
    bytes = has.bytes ∙ ap (take len) (sym (same_joined a b links rests has.honest has.sectors));
  }

  -- a part of the sectors' bytes that lies in the stream is a part of its bytes
  part_read : {T : Type 0} (it : MiniAllocator F g) (links : StreamLinks) (len : ℕ) (content : List ℕ) (at : ℕ) (old new : List ℕ) (failed : Type 0) (r : Result T Error)
      → SectorsHaveContent it links len content → at + length old ≤ len
      → OnOk r (IsTrue (is_honest (allocator_of it)) → HasSectorsOf it links → new ≡ take (length old) (drop at (joined_in it links)))
      → (IsErrOf r InvalidInput ↔ (failed × (len_in links < at + length old)))
      → (IsErrOf r InvalidData → IsTrue (is_honest (allocator_of it)) → HasSectorsOf it links → ⊥)
      → IfErr r (λ e. IsFaultOrInvalidInputIf ⊥ e ⊎ IsInvalidPlace e) → ReadsPart content at old new r
  part_read it links len content at old new failed (Ok done) has within read past refused fault =
      (read has.honest has.sectors ∙ sym (part_of_front (length old) at len (joined_in it links) within) ∙ ap (λ c. take (length old) (drop at c)) (sym has.bytes), tt)
  part_read it links len content at old new failed (Err e) has within read past refused fault = (tt, by_fault fault)
    where
      by_fault : IsFaultOrInvalidInputIf ⊥ e ⊎ IsInvalidPlace e → IsFaultOrInvalidInputIf ⊥ e
      by_fault (inl is) = is
      by_fault (inr (inl wrong)) = absurd (refused (ap Err wrong) has.honest has.sectors)
      by_fault (inr (inr wrong)) = let beyond = (past.0 (ap Err wrong)).1 in let room = has.room in absurd (omega arith)

  -- the same of mini sectors
  pub minis_read : {T : Type 0} (it : MiniAllocator F g) (minis : MiniLinks) (len : ℕ) (content : List ℕ) (at : ℕ) (old new : List ℕ) (r : Result T Error)
      → SectorsHaveContent it (Short minis) len content → at + length old ≤ len
      → OnOk r (IsTrue (is_honest (allocator_of it)) → MiniMatchesBytes it → AreInside (mini_stream_len it) (minis_of minis) → new ≡ take (length old) (drop at (mini_content_of it minis)))
      → (IsErrOf r InvalidInput ↔ ((has_failed_here (allocator_of it) ≡ false) × (64 * length (minis_of minis) < at + length old)))
      → (IsErrOf r InvalidData → IsTrue (is_honest (allocator_of it)) → MiniMatchesBytes it → AreInside (mini_stream_len it) (minis_of minis) → ⊥)
      → IfErr r (λ e. IsFaultOrInvalidInputIf ⊥ e ⊎ IsInvalidPlace e) → ReadsPart content at old new r
  minis_read it minis len content at old new r has within read past refused fault =
      part_read it (Short minis) len content at old new (has_failed_here (allocator_of it) ≡ false) r has within
      (on_ok _ _ r (λ h is sectors. h is sectors.0 sectors.1) read) past (λ wrong is sectors. refused wrong is sectors.0 sectors.1) fault

  -- and of sectors
  pub sectors_read : {T : Type 0} (it : MiniAllocator F g) (links : Links) (len : ℕ) (content : List ℕ) (at : ℕ) (old new : List ℕ) (r : Result T Error)
      → SectorsHaveContent it (Long links) len content → at + length old ≤ len
      → OnOk r (HasFatChain (allocator_of it) links → new ≡ take (length old) (drop at (content_of (allocator_of it) links)))
      → (IsErrOf r InvalidInput ↔ ((has_failed_here (allocator_of it) ≡ false) × (len_of links < at + length old)))
      → (IsErrOf r InvalidData → HasFatChain (allocator_of it) links → ⊥)
      → IfErr r (λ e. IsFaultOrInvalidInputIf ⊥ e ⊎ IsInvalidPlace e) → ReadsPart content at old new r
  sectors_read it links len content at old new r has within read past refused fault =
      part_read it (Long links) len content at old new (has_failed_here (allocator_of it) ≡ false) r has within
      (on_ok _ _ r (λ h is sectors. h sectors) read) past (λ wrong is sectors. refused wrong sectors) fault
