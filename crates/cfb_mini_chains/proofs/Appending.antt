-- Mini chains that took mini sectors in, with the bytes that were written there.
use Rattle.std.proofs.Common.{◌≡◌, ℕ, ◌+◌, ◌-◌, ◌*◌, ◌<◌, ◌≤◌, inl, inr, List, [], ◌∷◌, ◌++◌, zero, suc, length, take, replicate, get_or, set, refl, ap, sym, subst, ◌∙◌, arith, ⊎_elim, append-nil, length-append, length-take}
use Rattle.std.specs.Prelude.{Err, IfOk, Ok, OnOk, Result, slice_index, slice_index_or}
use Rattle.std.specs.List.{AllByRecursion}
use Rattle.std.proofs.lemmas.Bool.Decides.{leb_tells}
use Rattle.std.proofs.lemmas.Grind.{flat_map-append}
use Rattle.std.proofs.lemmas.List.{ext_get_or, get_or-append_right, get_or-take, get_or_append_left, length-take-le}
use Rattle.cfb_medium.specs.Bytes.{overwritten}
use Rattle.cfb_medium.specs.Versions.{sector_len}
use Rattle.cfb_medium.specs.declared.medium.ReadMedium.{Ghosts}
use Rattle.cfb_sectors.specs.Sectors.{end_of_chain, sector}
use Rattle.cfb_chains.specs.Changes.{IsNotIn}
use Rattle.cfb_chains.specs.LinkViews.{links_version}
use Rattle.cfb_chains.specs.Owned.{KeepsOwnedSectors}
use Rattle.cfb_chains.proofs.ChainWriting.{length_within}
use Rattle.cfb_chains.proofs.Overwriting.{get_before, get_written}
use Rattle.cfb_fat.specs.Seeing.{seen_of}
use Rattle.cfb_fat.specs.Tables.{version_of}
use Rattle.cfb_fat.specs.declared.allocator.Allocator.{Allocator}
use Rattle.cfb_chain_io.specs.ChainEffects.{KeepsFileInvariants}
use Rattle.cfb_directory.specs.Views as directory
use Rattle.cfb_mini.specs.Changing.{mini_seen, HasUniqueOwners, AppendsMiniSectors, MiniOverwrites, Shortens, RootHasMiniStream}
use Rattle.cfb_mini.specs.LinkViews.{minis_of}
use Rattle.cfb_mini.specs.Minis.{mini_joined, mini_sector, AreInside, IsMiniChain}
use Rattle.cfb_mini.specs.Views.{allocator_of, directory_of, mini_content_of, mini_fat_ids, mini_fat_of, mini_stream_ids, mini_stream_len, mini_stream_of, MiniMatchesBytes}
use Rattle.cfb_mini.specs.declared.links.MiniLinks.{MiniLinks}
use Rattle.cfb_mini.specs.declared.mini_allocator.MiniAllocator.{MiniAllocator}
use Rattle.cfb_mini.proofs.KeptFile.{file_then}
use Rattle.cfb_mini.proofs.Longer.{lengthened_owners, now_other, own_now, stream_size}
use Rattle.cfb_mini.proofs.MiniParts.{length-mini_joined}
use Rattle.cfb_mini_chains.specs.MiniGrowing.{MiniAppends}
use Rattle.cfb_mini.proofs.Padded.{joined_padded, sector_padded}

-- what holds of bytes that a call took holds of so many as it tells
pub took : {E : Type 0} (r : Result ℕ E) (P : ℕ → List ℕ → Type 0) (bytes : List ℕ) (k : ℕ) → k ≤ length bytes → OnOk r (P (length (take k bytes)) (take k bytes)) → IfOk r (λ n. n ≡ length (take k bytes)) → IfOk r (λ n. P n (take n bytes))
took (Ok n) P bytes k few p is =
    let size = length-take-le k bytes few in
    subst (λ m. P m (take m bytes)) (sym (is ∙ size)) (subst (λ m. P m (take k bytes)) size p)
took (Err e) P bytes k few p is = tt

-- bytes that lie over all behind a front
over_rest : (xs ys bytes : List ℕ) (at : ℕ) → at ≡ length xs → length bytes ≡ length ys → overwritten (xs ++ ys) at bytes ≡ xs ++ bytes
over_rest xs ys bytes at is size =
    let whole = length-append xs ys in
    let long = length_within (xs ++ ys) bytes at (omega (arith, is, size, whole)) in
    let now = length-append xs bytes in
    ext_get_or 0 (overwritten (xs ++ ys) at bytes) (xs ++ bytes) (omega (arith, long, whole, now, size)) (λ k below.
    ⊎_elim
    (λ past.
    let p = past.1 in
    let split : at + (k - at) ≡ k = omega (arith, p, is) in
    ap (λ i. get_or (overwritten (xs ++ ys) at bytes) i 0) (sym split) ∙ get_written (xs ++ ys) at bytes (k - at) (omega (arith, below, long, whole, size, p, is))
    ∙ ap (λ n. get_or bytes (k - n) 0) is ∙ sym (get_or-append_right xs bytes (length xs) k 0 refl p))
    (λ early.
    let e = early.1 in
    get_before (xs ++ ys) at bytes k (omega (arith, e, is)) ∙ get_or_append_left xs ys 0 k e ∙ sym (get_or_append_left xs bytes 0 k e))
    (leb_tells (length xs) k))

-- a mini stream that has these mini sectors and those has all
inside_all : (n : ℕ) (ys : List ℕ) → AllByRecursion (λ y. 64 * y + 64 ≤ n) ys → (k : ℕ) → k < length ys → 64 * slice_index ys k + 64 ≤ n
inside_all n [] all k below = absurd (omega (arith, below))
inside_all n (y ∷ ys) all zero below = all.0
inside_all n (y ∷ ys) all (suc k) below = inside_all n ys all.1 k (omega (arith, below))

inside_both : (n : ℕ) (xs ys : List ℕ) → AreInside n xs → AllByRecursion (λ y. 64 * y + 64 ≤ n) ys → (k : ℕ) → k < length (xs ++ ys) → 64 * slice_index (xs ++ ys) k + 64 ≤ n
inside_both n [] ys inside all k below = inside_all n ys all k below
inside_both n (x ∷ xs) ys inside all zero below = inside 0 (omega arith)
inside_both n (x ∷ xs) ys inside all (suc k) below = inside_both n xs ys (λ j there. inside (suc j) (omega (arith, there))) all k (omega (arith, below))

inside_front : (n count : ℕ) (xs : List ℕ) → AreInside n xs → (k : ℕ) → k < length (take count xs) → 64 * slice_index (take count xs) k + 64 ≤ n
inside_front n count xs inside k below =
    let size = length-take count xs in
    let is : get_or (take count xs) k 0 ≡ get_or xs k 0 = get_or-take count xs k 0 (omega (arith, below, size)) in
    subst (λ m. 64 * m + 64 ≤ n) (sym is) (inside k (omega (arith, below, size)))

module _ {F : Type 0} {g : Ghosts F} where
  stays_then : (a b c : Allocator F g) (ids now : List ℕ) → version_of b ≡ version_of a → now ≡ ids → KeepsOwnedSectors (sector (version_of a)) (seen_of a) (seen_of b) ids → KeepsOwnedSectors (sector (version_of b)) (seen_of b) (seen_of c) now → KeepsOwnedSectors (sector (version_of a)) (seen_of a) (seen_of c) ids
  unfolding seen_of
  stays_then a b c ids now version same h k =
      let k' : KeepsOwnedSectors (sector (version_of a)) (seen_of b) (seen_of c) ids = subst (λ l. KeepsOwnedSectors (sector (version_of a)) (seen_of b) (seen_of c) l) same (subst (λ v. KeepsOwnedSectors (sector v) (seen_of b) (seen_of c) now) version k) in
      record { linked = k'.linked; beside = k'.beside; bytes = k'.bytes ∙ h.bytes }

  tells_kept : (a b c : MiniAllocator F g) → directory.entries_held (directory_of c) ≡ directory.entries_held (directory_of b) → mini_stream_ids c ≡ mini_stream_ids b → mini_stream_len c ≡ mini_stream_len b → RootHasMiniStream a b → RootHasMiniStream a c
  tells_kept a b c entries ids len h = ⊎_elim
      (λ same. inl (entries ∙ same.0, ids ∙ same.1))
      (λ told. inr (λ e found. entries ∙ told e found
      ∙ ap (λ l. set (directory.entries_held (directory_of a)) 0 (record e { start = slice_index_or l 0 end_of_chain; size = mini_stream_len b })) (sym ids)
      ∙ ap (λ n. set (directory.entries_held (directory_of a)) 0 (record e { start = slice_index_or (mini_stream_ids c) 0 end_of_chain; size = n })) (sym len)))
      h

  len_same : (b c : MiniAllocator F g) → version_of (allocator_of c) ≡ version_of (allocator_of b) → MiniMatchesBytes b → MiniMatchesBytes c → mini_stream_ids c ≡ mini_stream_ids b → mini_stream_len c ≡ mini_stream_len b
  len_same b c version is now ids =
      ap (λ v. length (mini_stream_ids c) * sector_len v) (now.over.stream_version ∙ version ∙ sym is.over.stream_version) ∙ ap (λ l. length l * sector_len (links_version b.mini_fat.stream)) ids

  len_kept : (a b : MiniAllocator F g) (own : ℕ → List ℕ) → KeepsFileInvariants (allocator_of a) (allocator_of b) → HasUniqueOwners a own → HasUniqueOwners b own → mini_stream_len b ≡ mini_stream_len a
  len_kept a b own goes h now = len_same a b goes.version h.memory now.memory (sym now.mini_stream ∙ h.mini_stream)

  -- the mini FAT has the chain that was written over, and the one that became shorter
  pub chain_over : (a b : MiniAllocator F g) (links : MiniLinks) (own : ℕ → List ℕ) (at : ℕ) (bytes : List ℕ) → KeepsFileInvariants (allocator_of a) (allocator_of b) → HasUniqueOwners a own → IsMiniChain (mini_fat_of a) (mini_stream_len a) (minis_of links) → MiniOverwrites at bytes a b links own
      → IsMiniChain (mini_fat_of b) (mini_stream_len b) (minis_of links)
  unfolding mini_seen
  chain_over a b links own at bytes goes h chain over =
      record { linked = over.changes.becomes.linked; inside = subst (λ n. AreInside n (minis_of links)) (sym (len_kept a b own goes h over.changes.owners)) chain.inside }

  pub chain_fewer : (a b : MiniAllocator F g) (count : ℕ) (minis later : List ℕ) (own : ℕ → List ℕ) → KeepsFileInvariants (allocator_of a) (allocator_of b) → HasUniqueOwners a own → IsMiniChain (mini_fat_of a) (mini_stream_len a) minis → Shortens count a b minis later own
      → IsMiniChain (mini_fat_of b) (mini_stream_len b) later
  unfolding mini_seen
  chain_fewer a b count minis later own goes h chain cut =
      record {
        linked = cut.changes.becomes.linked;
        inside = subst (λ n. AreInside n later) (sym (len_kept a b own goes h cut.changes.owners)) (subst (AreInside (mini_stream_len a)) (sym cut.minis_are) (inside_front (mini_stream_len a) count minis chain.inside));
      }

  -- the mini FAT has the chain that became longer, and the mini stream its mini sectors
  pub chain_then : (a m : MiniAllocator F g) (minis later : List ℕ) (own : ℕ → List ℕ) → HasUniqueOwners a own → IsMiniChain (mini_fat_of a) (mini_stream_len a) minis → AppendsMiniSectors a m minis later own → IsMiniChain (mini_fat_of m) (mini_stream_len m) later
  chain_then a m minis later own h chain grown =
      let one = stream_size a own h in
      let two = stream_size m (own_now m own) (lengthened_owners a m minis later own grown) in
      let sum = ap length grown.stream ∙ length-append (mini_stream_of a) (replicate grown.zeros 0) in
      let longer : mini_stream_len a ≤ mini_stream_len m = omega (arith, one, two, sum) in
      let before : AreInside (mini_stream_len m) minis = λ k below. let was = chain.inside k below in omega (arith, was, longer) in
      record {
        linked = grown.linked;
        inside = subst (AreInside (mini_stream_len m)) (sym grown.minis_are) (inside_both (mini_stream_len m) minis grown.taken before grown.inside);
      }

  -- LAW: a chain became longer, and then all that it took in was written
  module _ (a m b : MiniAllocator F g) (before after : MiniLinks) (own : ℕ → List ℕ) (bytes : List ℕ) (at : ℕ) (h : HasUniqueOwners a own) (chain : IsMiniChain (mini_fat_of a) (mini_stream_len a) (minis_of before))
      (first : KeepsFileInvariants (allocator_of a) (allocator_of m)) (grown : AppendsMiniSectors a m (minis_of before) (minis_of after) own)
      (written : (then : ℕ → List ℕ) → HasUniqueOwners m then → IsMiniChain (mini_fat_of m) (mini_stream_len m) (minis_of after) → MiniOverwrites at bytes m b after then)
      (second : KeepsFileInvariants (allocator_of m) (allocator_of b)) (end : at ≡ 64 * length (minis_of before)) (whole : at + length bytes ≡ 64 * length (minis_of after)) where
    abbrev now : ℕ → List ℕ
    now = own_now m own

    mid : HasUniqueOwners m now
    mid = lengthened_owners a m (minis_of before) (minis_of after) own grown

    has : IsMiniChain (mini_fat_of m) (mini_stream_len m) (minis_of after)
    has = chain_then a m (minis_of before) (minis_of after) own h chain grown

    over : MiniOverwrites at bytes m b after now
    over = written now mid has

    fat_ids : mini_fat_ids b ≡ mini_fat_ids m
    fat_ids = sym over.changes.owners.mini_fat ∙ mid.mini_fat

    stream_ids : mini_stream_ids b ≡ mini_stream_ids m
    stream_ids = sym over.changes.owners.mini_stream ∙ mid.mini_stream

    len_is : mini_stream_len b ≡ mini_stream_len m
    len_is = len_same m b second.version mid.memory over.changes.owners.memory stream_ids

    all_there : mini_content_of m after ≡ mini_content_of a before ++ mini_joined (mini_stream_of a) grown.taken
    all_there =
        ap (λ l. mini_joined l (minis_of after)) grown.stream ∙ joined_padded (mini_stream_of a) grown.zeros (minis_of after) ∙ ap (mini_joined (mini_stream_of a)) grown.minis_are
        ∙ flat_map-append (mini_sector (mini_stream_of a)) (minis_of before) grown.taken

    content_is : mini_content_of b after ≡ mini_content_of a before ++ bytes
    content_is =
        let long = length-mini_joined (mini_stream_of a) (minis_of before) in
        let more = length-mini_joined (mini_stream_of a) grown.taken in
        let count = ap length grown.minis_are ∙ length-append (minis_of before) grown.taken in
        over.content ∙ ap (λ l. overwritten l at bytes) all_there
        ∙ over_rest (mini_content_of a before) (mini_joined (mini_stream_of a) grown.taken) bytes at (end ∙ sym long) (omega (arith, end, whole, more, count))

    none_of : (n : ℕ) → IsNotIn (minis_of after) n → IsNotIn (minis_of after ++ []) n
    none_of n none = subst (λ l. IsNotIn l n) (sym (append-nil (minis_of after))) none

    pub appended : MiniAppends bytes a b before after own
    unfolding mini_seen
    appended =
        let leaves = over.changes.becomes.leaves in
        let size = grown.numbers.size in
        let more = leaves.size in
        record {
          taken = grown.taken;
          minis_are = grown.minis_are;
          were_free = grown.were_free;
          content = content_is;
          chain = record { linked = over.changes.becomes.linked; inside = subst (λ n. AreInside n (minis_of after)) (sym len_is) has.inside };
          numbers = record {
            size = omega (arith, size, more);
            others = λ n below none. leaves.entries n (omega (arith, below, size)) (none_of n none) ∙ grown.numbers.others n below none;
          };
          minis = λ n below none. leaves.sectors n (omega (arith, below, size)) (λ k there same. absurd (omega (arith, there))) (none_of n none)
              ∙ ap (λ l. mini_sector l n) grown.stream ∙ sector_padded (mini_stream_of a) grown.zeros n;
          owners = λ then fat stream others. (written then (grown.owners then (fat ∙ fat_ids) (stream ∙ stream_ids) others) has).changes.owners;
          others = λ k past. stays_then (allocator_of a) (allocator_of m) (allocator_of b) (own k) (now k) first.version (now_other m own k (λ same. omega (arith, same, past)) (λ same. omega (arith, same, past))) (grown.others k past) (over.changes.others k past);
          entries = tells_kept a m b over.entries stream_ids len_is grown.entries;
          file = file_then a m b grown.file over.file;
        }
