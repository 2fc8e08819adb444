-- Mini chains that become longer, step by step.
use Rattle.std.proofs.Common.{◌≡◌, ◌⊎◌, ℕ, ◌+◌, ◌-◌, ◌*◌, ◌<◌, ◌≤◌, inl, inr, List, [], ◌∷◌, ◌++◌, length, get_or, replicate, set, refl, ap, sym, subst, ◌∙◌, arith, ⊎_elim, append_assoc, append-nil, length-append, IsTrue}
use Rattle.std.specs.List.{count_by, AllByRecursion}
use Rattle.std.specs.Prelude.{nat_eq, Result, Ok, Err, slice_get, slice_index, slice_index_or, Some}
use Rattle.std.proofs.lemmas.Bool.Decides.{eqb_tells, leb_tells}
use Rattle.std.proofs.lemmas.List.{get_or-append-add, get_or-replicate, get_or_append_left, length-replicate, replicate-append-replicate}
use Rattle.std.proofs.lemmas.Option.{get_or_from_slice_get, slice_get-get_or, slice_get_within}
use Rattle.cfb_medium.specs.declared.error.Error.{Error}
use Rattle.cfb_medium.specs.declared.medium.ReadMedium.{Ghosts}
use Rattle.cfb_medium.specs.Versions.{sector_len, stream_len_mask}
use Rattle.cfb_sectors.specs.Sectors.{end_of_chain, free, greatest_regular, joined, sector, Chain as IsChain}
use Rattle.cfb_chains.specs.Changes.{AreDisjoint, IsFreeIn, IsNotIn, SameExceptAt}
use Rattle.cfb_chains.specs.Grown.{IsChainInTable}
use Rattle.cfb_chains.specs.LinkViews.{links_version}
use Rattle.cfb_chains.specs.Owned.{OwnDisjointChains, KeepsOwnedSectors}
use Rattle.cfb_chains.proofs.Beside.{free_then, none_first}
use Rattle.cfb_chains.proofs.ChainGrowing.{in_use}
use Rattle.cfb_fat.specs.Calls.{FatErrorContract}
use Rattle.cfb_fat.specs.Keeping.{rests_cause}
use Rattle.cfb_fat.specs.OnlyReads.{all_rest_then}
use Rattle.cfb_fat.specs.Seeing.{seen_of}
use Rattle.cfb_fat.specs.Tables.{bytes_of, difat_sectors_of, fat_of, fat_sectors_of, is_honest, tables_of, version_of, OnlyReadsAllocator}
use Rattle.cfb_fat.specs.declared.allocator.Allocator.{Allocator}
use Rattle.cfb_fat.proofs.Joining.{all_append}
use Rattle.cfb_tree.specs.Directory.{Entry}
use Rattle.cfb_directory.specs.Views as directory
use Rattle.cfb_mini.specs.Changing.{mini_seen, CoversStream, AppendsFreeMiniSector, GrowsMiniFat, GrowsMiniStream, HasUniqueOwners, LacksOne, AppendsMiniSectors, RootHasMiniStream}
use Rattle.cfb_mini.specs.FatGrowth.{LacksMore}
use Rattle.cfb_mini.specs.Strays.{LeavesNoStrays}
use Rattle.cfb_mini.specs.Views.{allocator_of, directory_of, mini_fat_ids, mini_fat_of, mini_stream_ids, mini_stream_len, mini_stream_of, MiniMatchesBytes, OnlyReadsMini}
use Rattle.cfb_mini.specs.declared.mini_allocator.MiniAllocator.{MiniAllocator}
use Rattle.cfb_mini.proofs.Entries.{content_len}
use Rattle.cfb_mini.proofs.Keeping.{pick, pick_mine, pick_other}
use Rattle.cfb_mini.proofs.KeptFile.{file_rests, file_same, file_then}
use Rattle.cfb_mini.proofs.Strays.{leaves_resting, stray_same}

-- a table that became longer has the chains that it had
entry_stays : (old new : List ℕ) (n x : ℕ) → length old ≤ length new → ((k : ℕ) → k < length old → get_or new k 0 ≡ get_or old k 0) → slice_get old n ≡ Some x → slice_get new n ≡ Some x
entry_stays old new n x longer same found =
    let below = slice_get_within old n x found in
    slice_get-get_or new n 0 (omega (arith, below, longer)) ∙ ap Some (same n below ∙ get_or_from_slice_get old n x 0 found)

chain_stays : (old new : List ℕ) → length old ≤ length new → ((k : ℕ) → k < length old → get_or new k 0 ≡ get_or old k 0) → (start : ℕ) (ids : List ℕ) → IsChain old start ids → IsChain new start ids
chain_stays old new longer same start [] is = is
chain_stays old new longer same start (x ∷ ids) (is, regular, next, found, rest) = (is, regular, next, entry_stays old new start next longer same found, chain_stays old new longer same next ids rest)

linked_appended : (old new more ids : List ℕ) → new ≡ old ++ more → IsChainInTable old ids → IsChainInTable new ids
linked_appended old new more ids is linked =
    let size = ap length is ∙ length-append old more in
    chain_stays old new (omega (arith, size)) (λ k below. ap (λ l. get_or l k 0) is ∙ get_or_append_left old more 0 k below) (slice_index_or ids 0 end_of_chain) ids linked

stay_appended : (entries a b c more : List ℕ) → c ≡ b ++ more → SameExceptAt entries a b → SameExceptAt entries a c
stay_appended entries a b c more is h =
    let size = ap length is ∙ length-append b more in
    let was = h.size in
    record {
      size = omega (arith, size, was);
      others = λ n below none. ap (λ l. get_or l n 0) is ∙ get_or_append_left b more 0 n (omega (arith, below, was)) ∙ h.others n below none;
    }

-- a table keeps its numbers where others are put behind it
kept_appended : (old new more : List ℕ) (n : ℕ) → new ≡ old ++ more → n < length old → slice_index new n ≡ slice_index old n
kept_appended old new more n is below = ap (λ l. get_or l n 0) is ∙ get_or_append_left old more 0 n below

-- what "free" numbers were put behind a table is free
free_appended : (old new : List ℕ) (count n : ℕ) → new ≡ old ++ replicate count free → length old ≤ n → n < length new → slice_index new n ≡ free
free_appended old new count n is past below =
    let size = ap length is ∙ length-append old (replicate count free) in
    let all = length-replicate {A = ℕ} count free in
    let spot : length old + (n - length old) ≡ n = omega (arith, past) in
    ap (λ l. get_or l n 0) is ∙ ap (λ i. get_or (old ++ replicate count free) i 0) (sym spot) ∙ get_or-append-add old (replicate count free) (n - length old) 0
    ∙ get_or-replicate count (n - length old) free 0 (omega (arith, size, all, past, below))

pub all_less : (m n : ℕ) (xs : List ℕ) → m ≤ n → AllByRecursion (λ k. 64 * k + 64 ≤ m) xs → AllByRecursion (λ k. 64 * k + 64 ≤ n) xs
all_less m n [] less h = tt
all_less m n (x ∷ xs) less h = (let p = h.0 in omega (arith, p, less), all_less m n xs less h.1)

-- what is free in a table that was changed at the chain's entries alone was free
was_free : (a b mid : List ℕ) (x : ℕ) → SameExceptAt mid a b → IsChainInTable b mid → slice_get b x ≡ Some free → IsFreeIn a x
was_free a b mid x stays linked found = ⊎_elim
    (λ past. inr past.1)
    (λ below. inl (slice_get-get_or a x 0 below.1 ∙ ap Some (sym (stays.others x below.1 (in_use b (slice_index_or mid 0 end_of_chain) mid x linked (inl found))) ∙ get_or_from_slice_get b x free 0 found)))
    (leb_tells (length a) x)

was_loose : (a b mid : List ℕ) (x : ℕ) → SameExceptAt mid a b → IsChainInTable b mid → IsFreeIn b x → IsFreeIn a x
was_loose a b mid x stays linked loose = ⊎_elim (λ found. was_free a b mid x stays linked found) (λ past. inr (let longer = stays.size in omega (arith, past, longer))) loose

were_free_both : (a b mid taken more : List ℕ) → SameExceptAt mid a b → IsChainInTable b mid → AllByRecursion (IsFreeIn a) taken → AllByRecursion (IsFreeIn b) more → AllByRecursion (IsFreeIn a) (taken ++ more)
were_free_both a b mid taken more stays linked = free_then a b taken more (λ n. was_loose a b mid n stays linked)

pub all_both : (P : ℕ → Type 0) (xs ys : List ℕ) → AllByRecursion P xs → AllByRecursion P ys → AllByRecursion P (xs ++ ys)
all_both P [] ys h k = k
all_both P (x ∷ xs) ys h k = (h.0, all_both P xs ys h.1 k)

-- the same owners
owned_same : (table tables : List ℕ) (own then : ℕ → List ℕ) → ((k : ℕ) → then k ≡ own k) → OwnDisjointChains table tables own → OwnDisjointChains table tables then
owned_same table tables own then same h = record {
  linked = λ k. subst (IsChainInTable table) (sym (same k)) (h.linked k);
  apart = λ k l differ. subst (λ x. AreDisjoint x (then l)) (sym (same k)) (subst (AreDisjoint (own k)) (sym (same l)) (h.apart k l differ));
  beside = λ k. subst (AreDisjoint tables) (sym (same k)) (h.beside k);
  marked = h.marked;
}

-- the first of a list is set again
set_again : {A : Type 0} (xs : List A) (x y : A) → set (set xs 0 x) 0 y ≡ set xs 0 y
set_again {A} [] x y = refl
set_again {A} (z ∷ xs) x y = refl

set_found : {A : Type 0} (xs : List A) (x y : A) → slice_get xs 0 ≡ Some x → slice_get (set xs 0 y) 0 ≡ Some y
set_found {A} [] x y found = cc
set_found {A} (z ∷ xs) x y found = refl

module _ {F : Type 0} {g : Ghosts F} where
  -- who owns what, with the sectors that mini FAT and mini stream have now
  abbrev pub own_now : MiniAllocator F g → (ℕ → List ℕ) → ℕ → List ℕ
  own_now it own = pick (pick own 1 (mini_fat_ids it)) 2 (mini_stream_ids it)

  now_fat : (it : MiniAllocator F g) (own : ℕ → List ℕ) → own_now it own 1 ≡ mini_fat_ids it
  now_fat it own = pick_other (pick own 1 (mini_fat_ids it)) 2 (mini_stream_ids it) 1 (λ same. omega (arith, same)) ∙ pick_mine own 1 (mini_fat_ids it)

  now_stream : (it : MiniAllocator F g) (own : ℕ → List ℕ) → own_now it own 2 ≡ mini_stream_ids it
  now_stream it own = pick_mine (pick own 1 (mini_fat_ids it)) 2 (mini_stream_ids it)

  pub now_other : (it : MiniAllocator F g) (own : ℕ → List ℕ) (k : ℕ) → (k ≡ 1 → ⊥) → (k ≡ 2 → ⊥) → own_now it own k ≡ own k
  now_other it own k fat stream = pick_other (pick own 1 (mini_fat_ids it)) 2 (mini_stream_ids it) k stream ∙ pick_other own 1 (mini_fat_ids it) k fat

  -- owners that agree with these are these
  now_same : (it : MiniAllocator F g) (own then : ℕ → List ℕ) → then 1 ≡ mini_fat_ids it → then 2 ≡ mini_stream_ids it → ((k : ℕ) → (k ≡ 1 → ⊥) → (k ≡ 2 → ⊥) → then k ≡ own k) → (k : ℕ) → then k ≡ own_now it own k
  now_same it own then fat stream others k = ⊎_elim
      (λ one. subst (λ n. then n ≡ own_now it own n) (sym one.1) (fat ∙ sym (now_fat it own)))
      (λ off. ⊎_elim
      (λ two. subst (λ n. then n ≡ own_now it own n) (sym two.1) (stream ∙ sym (now_stream it own)))
      (λ other. others k off.1 other.1 ∙ sym (now_other it own k off.1 other.1))
      (eqb_tells k 2))
      (eqb_tells k 1)

  owners_same : (it : MiniAllocator F g) (own then : ℕ → List ℕ) → ((k : ℕ) → then k ≡ own k) → HasUniqueOwners it own → HasUniqueOwners it then
  owners_same it own then same h = record {
    honest = h.honest;
    memory = h.memory;
    owned = owned_same (fat_of (allocator_of it)) (tables_of (allocator_of it)) own then same h.owned;
    directory = same 0 ∙ h.directory;
    mini_fat = same 1 ∙ h.mini_fat;
    mini_stream = same 2 ∙ h.mini_stream;
  }

  -- the mini stream's bytes are as many as its sectors have
  pub stream_size : (it : MiniAllocator F g) (own : ℕ → List ℕ) → HasUniqueOwners it own → length (mini_stream_of it) ≡ mini_stream_len it
  stream_size it own h = content_len (allocator_of it) it.mini_fat.stream h.memory.over.stream_version

  stays_same : (it : Allocator F g) (ids : List ℕ) → IsChainInTable (fat_of it) ids → AreDisjoint (tables_of it) ids → KeepsOwnedSectors (sector (version_of it)) (seen_of it) (seen_of it) ids
  unfolding seen_of
  stays_same it ids linked beside = record { linked = linked; beside = beside; bytes = refl }

  stays_then : (a b c : Allocator F g) (ids now : List ℕ) → version_of b ≡ version_of a → now ≡ ids → KeepsOwnedSectors (sector (version_of a)) (seen_of a) (seen_of b) ids → KeepsOwnedSectors (sector (version_of b)) (seen_of b) (seen_of c) now → KeepsOwnedSectors (sector (version_of a)) (seen_of a) (seen_of c) ids
  unfolding seen_of
  stays_then a b c ids now version same h k =
      let k' : KeepsOwnedSectors (sector (version_of a)) (seen_of b) (seen_of c) ids = subst (λ l. KeepsOwnedSectors (sector (version_of a)) (seen_of b) (seen_of c) l) same (subst (λ v. KeepsOwnedSectors (sector v) (seen_of b) (seen_of c) now) version k) in
      record { linked = k'.linked; beside = k'.beside; bytes = k'.bytes ∙ h.bytes }

  -- nothing was done yet
  pub lengthens_begun : (it : MiniAllocator F g) (minis : List ℕ) (own : ℕ → List ℕ) → HasUniqueOwners it own → IsChainInTable (mini_fat_of it) minis → AppendsMiniSectors it it minis minis own
  lengthens_begun it minis own h linked = record {
    taken = [];
    minis_are = sym (append-nil minis);
    were_free = tt;
    inside = tt;
    linked = linked;
    numbers = record { size = omega arith; others = λ n below none. refl };
    unused = λ n past below none. absurd (omega (arith, past, below));
    zeros = 0;
    stream = sym (append-nil (mini_stream_of it));
    owners = λ then fat stream others. owners_same it own then (λ k. now_same it own then fat stream others k ∙ sym (now_same it own own h.mini_fat h.mini_stream (λ n one two. refl) k)) h;
    others = λ k past. stays_same (allocator_of it) (own k) (h.owned.linked k) (h.owned.beside k);
    entries = inl (refl, refl);
    file = file_same it;
    strays = λ then fat stream others. stray_same (fat_of (allocator_of it)) (tables_of (allocator_of it)) own then (λ k. now_same it own then fat stream others k ∙ sym (now_same it own own h.mini_fat h.mini_stream (λ n one two. refl) k));
  }

  -- who owns what then
  pub lengthened_owners : (a b : MiniAllocator F g) (minis mid : List ℕ) (own : ℕ → List ℕ) → AppendsMiniSectors a b minis mid own → HasUniqueOwners b (own_now b own)
  lengthened_owners a b minis mid own h = h.owners (own_now b own) (now_fat b own) (now_stream b own) (now_other b own)

  -- and which sectors are stray
  pub lengthened_strays : (a b : MiniAllocator F g) (minis mid : List ℕ) (own : ℕ → List ℕ) → AppendsMiniSectors a b minis mid own → LeavesNoStrays (allocator_of a) (allocator_of b) own (own_now b own)
  lengthened_strays a b minis mid own h = h.strays (own_now b own) (now_fat b own) (now_stream b own) (now_other b own)

  tells_kept : (a b c : MiniAllocator F g) → directory.entries_held (directory_of c) ≡ directory.entries_held (directory_of b) → mini_stream_ids c ≡ mini_stream_ids b → mini_stream_len c ≡ mini_stream_len b → RootHasMiniStream a b → RootHasMiniStream a c
  tells_kept a b c entries ids len h = ⊎_elim
      (λ same. inl (entries ∙ same.0, ids ∙ same.1))
      (λ told. inr (λ e found. entries ∙ told e found
      ∙ ap (λ l. set (directory.entries_held (directory_of a)) 0 (record e { start = slice_index_or l 0 end_of_chain; size = mini_stream_len b })) (sym ids)
      ∙ ap (λ n. set (directory.entries_held (directory_of a)) 0 (record e { start = slice_index_or (mini_stream_ids c) 0 end_of_chain; size = n })) (sym len)))
      h

  -- a mini sector was taken in
  pub lengthens_by_one : (a b c : MiniAllocator F g) (minis mid later : List ℕ) (own : ℕ → List ℕ) → version_of (allocator_of b) ≡ version_of (allocator_of a) → AppendsMiniSectors a b minis mid own → AppendsFreeMiniSector b c mid later (own_now b own) → AppendsMiniSectors a c minis later own
  unfolding mini_seen
  lengthens_by_one a b c minis mid later own version h k =
      let x = k.taken in
      let new = k.changes.owners in
      let fat : mini_fat_ids c ≡ mini_fat_ids b = sym new.mini_fat ∙ now_fat b own in
      let ids : mini_stream_ids c ≡ mini_stream_ids b = sym new.mini_stream ∙ now_stream b own in
      let len : mini_stream_len c ≡ mini_stream_len b = sym (stream_size c (own_now b own) new) ∙ ap length k.bytes ∙ stream_size b (own_now b own) (lengthened_owners a b minis mid own h) in
      let leaves = k.changes.becomes.leaves in
      let mid_size = h.numbers.size in
      let new_size = leaves.size in
      record {
        taken = h.taken ++ x ∷ [];
        minis_are = k.minis_are ∙ ap (λ l. l ++ x ∷ []) h.minis_are ∙ append_assoc minis h.taken (x ∷ []);
        were_free = all_append (IsFreeIn (mini_fat_of a)) h.taken x h.were_free (was_free (mini_fat_of a) (mini_fat_of b) mid x h.numbers h.linked k.was_free.found);
        inside = all_append (λ n. 64 * n + 64 ≤ mini_stream_len c) h.taken x (subst (λ m. AllByRecursion (λ n. 64 * n + 64 ≤ m) h.taken) (sym len) h.inside) (subst (λ m. 64 * x + 64 ≤ m) (sym len) k.was_free.inside);
        linked = k.changes.becomes.linked;
        numbers = record {
          size = omega (arith, mid_size, new_size);
          others = λ n below none.
              let apart : IsNotIn (mid ++ x ∷ []) n = subst (λ l. IsNotIn l n) k.minis_are none in
              leaves.entries n (omega (arith, below, mid_size)) apart ∙ h.numbers.others n below (none_first mid (x ∷ []) n apart);
        };
        unused = λ n past below none.
            let apart : IsNotIn (mid ++ x ∷ []) n = subst (λ l. IsNotIn l n) k.minis_are none in
            ⊎_elim
            (λ behind. absurd ((leaves.behind n behind.1 below apart).0 (λ i inside. absurd (omega (arith, inside)))))
            (λ before. leaves.entries n before.1 apart ∙ h.unused n past before.1 (none_first mid (x ∷ []) n apart))
            (leb_tells (length (mini_fat_of b)) n);
        zeros = h.zeros;
        stream = k.bytes ∙ h.stream;
        owners = λ then is_fat is_stream others. owners_same c (own_now b own) then (now_same b own then (is_fat ∙ fat) (is_stream ∙ ids) others) new;
        others = λ k' past. stays_then (allocator_of a) (allocator_of b) (allocator_of c) (own k') (own_now b own k') version (now_other b own k' (λ same. omega (arith, same, past)) (λ same. omega (arith, same, past))) (h.others k' past) (k.changes.others k' past);
        entries = tells_kept a b c k.entries ids len h.entries;
        file = file_then a b c h.file k.file;
        strays = λ then is_fat is_stream others n s.
            lengthened_strays a b minis mid own h n
            (k.strays n (stray_same (fat_of (allocator_of c)) (tables_of (allocator_of c)) (own_now b own) then (now_same b own then (is_fat ∙ fat) (is_stream ∙ ids) others) n s));
      }

  -- the mini FAT took in a sector
  pub lengthens_by_fat : (a b c : MiniAllocator F g) (minis mid : List ℕ) (own : ℕ → List ℕ) → version_of (allocator_of b) ≡ version_of (allocator_of a) → AppendsMiniSectors a b minis mid own → GrowsMiniFat b c (own_now b own) → AppendsMiniSectors a c minis mid own
  lengthens_by_fat a b c minis mid own version h k =
      let mine = own_now b own in
      let then' = pick mine 1 (mini_fat_ids c) in
      let new = k.owners then' (pick_mine mine 1 (mini_fat_ids c)) (pick_other mine 1 (mini_fat_ids c)) in
      let ids : mini_stream_ids c ≡ mini_stream_ids b = sym new.mini_stream ∙ pick_other mine 1 (mini_fat_ids c) 2 (λ same. omega (arith, same)) ∙ now_stream b own in
      let len : mini_stream_len c ≡ mini_stream_len b = sym (stream_size c then' new) ∙ ap length k.stream ∙ stream_size b mine (lengthened_owners a b minis mid own h) in
      record {
        taken = h.taken;
        minis_are = h.minis_are;
        were_free = h.were_free;
        inside = subst (λ m. AllByRecursion (λ n. 64 * n + 64 ≤ m) h.taken) (sym len) h.inside;
        linked = linked_appended (mini_fat_of b) (mini_fat_of c) _ mid k.numbers h.linked;
        numbers = stay_appended mid (mini_fat_of a) (mini_fat_of b) (mini_fat_of c) _ k.numbers h.numbers;
        unused = λ n past below none. ⊎_elim
            (λ behind. free_appended (mini_fat_of b) (mini_fat_of c) _ n k.numbers behind.1 below)
            (λ before. kept_appended (mini_fat_of b) (mini_fat_of c) _ n k.numbers before.1 ∙ h.unused n past before.1 none)
            (leb_tells (length (mini_fat_of b)) n);
        zeros = h.zeros;
        stream = k.stream ∙ h.stream;
        owners = λ then is_fat is_stream others. k.owners then is_fat (λ n off. ⊎_elim
            (λ two. subst (λ m. then m ≡ mine m) (sym two.1) (is_stream ∙ ids ∙ sym (now_stream b own)))
            (λ other. others n off other.1 ∙ sym (now_other b own n off other.1))
            (eqb_tells n 2));
        others = λ n past. stays_then (allocator_of a) (allocator_of b) (allocator_of c) (own n) (mine n) version (now_other b own n (λ same. omega (arith, same, past)) (λ same. omega (arith, same, past))) (h.others n past) (k.others n (λ same. omega (arith, same, past)));
        entries = tells_kept a b c k.entries ids len h.entries;
        file = file_then a b c h.file k.file;
        strays = λ then is_fat is_stream others n s.
            lengthened_strays a b minis mid own h n
            (k.strays then is_fat (λ m off. ⊎_elim
            (λ two. subst (λ i. then i ≡ mine i) (sym two.1) (is_stream ∙ ids ∙ sym (now_stream b own)))
            (λ other. others m off other.1 ∙ sym (now_other b own m off other.1))
            (eqb_tells m 2)) n s);
      }

  -- the root's entry tells of the mini stream, whether or not it did before
  told_anew : (a b c : MiniAllocator F g)
      → ((e : Entry) → slice_get (directory.entries_held (directory_of b)) 0 ≡ Some e → directory.entries_held (directory_of c) ≡ set (directory.entries_held (directory_of b)) 0 (record e { start = slice_index_or (mini_stream_ids c) 0 end_of_chain; size = mini_stream_len c }))
      → RootHasMiniStream a b → RootHasMiniStream a c
  told_anew a b c root h = ⊎_elim
      (λ same. inr (λ e found. root e (ap (λ l. slice_get l 0) same.0 ∙ found) ∙ ap (λ l. set l 0 (record e { start = slice_index_or (mini_stream_ids c) 0 end_of_chain; size = mini_stream_len c })) same.0))
      (λ told. inr (λ e found.
      let mid_root = record e { start = slice_index_or (mini_stream_ids b) 0 end_of_chain; size = mini_stream_len b } in
      let held = directory.entries_held (directory_of a) in
      root mid_root (ap (λ l. slice_get l 0) (told e found) ∙ set_found held e mid_root found)
      ∙ ap (λ l. set l 0 (record mid_root { start = slice_index_or (mini_stream_ids c) 0 end_of_chain; size = mini_stream_len c })) (told e found)
      ∙ set_again held mid_root (record e { start = slice_index_or (mini_stream_ids c) 0 end_of_chain; size = mini_stream_len c })))
      h

  -- the mini stream did
  pub lengthens_by_stream : (a b c : MiniAllocator F g) (minis mid : List ℕ) (own : ℕ → List ℕ) → version_of (allocator_of b) ≡ version_of (allocator_of a) → AppendsMiniSectors a b minis mid own → GrowsMiniStream b c (own_now b own) → AppendsMiniSectors a c minis mid own
  lengthens_by_stream a b c minis mid own version h k =
      let mine = own_now b own in
      let then' = pick mine 2 (mini_stream_ids c) in
      let new = k.owners then' (pick_mine mine 2 (mini_stream_ids c)) (pick_other mine 2 (mini_stream_ids c)) in
      let fat : mini_fat_ids c ≡ mini_fat_ids b = sym new.mini_fat ∙ pick_other mine 2 (mini_stream_ids c) 1 (λ same. omega (arith, same)) ∙ now_fat b own in
      let more = sector_len (version_of (allocator_of b)) in
      let longer : mini_stream_len b ≤ mini_stream_len c =
      let one = stream_size c then' new in let two = stream_size b mine (lengthened_owners a b minis mid own h) in let sum = ap length k.stream ∙ length-append (mini_stream_of b) (replicate more 0) in omega (arith, one, two, sum) in
      record {
        taken = h.taken;
        minis_are = h.minis_are;
        were_free = h.were_free;
        inside = all_less (mini_stream_len b) (mini_stream_len c) h.taken longer h.inside;
        linked = subst (λ l. IsChainInTable l mid) (sym k.mini_fat) h.linked;
        numbers = subst (SameExceptAt mid (mini_fat_of a)) (sym k.mini_fat) h.numbers;
        unused = subst (λ l. (n : ℕ) → length (mini_fat_of a) ≤ n → n < length l → IsNotIn mid n → slice_index l n ≡ free) (sym k.mini_fat) h.unused;
        zeros = h.zeros + more;
        stream = k.stream ∙ ap (λ l. l ++ replicate more 0) h.stream ∙ append_assoc (mini_stream_of a) (replicate h.zeros 0) (replicate more 0) ∙ ap (λ l. mini_stream_of a ++ l) (replicate-append-replicate h.zeros more 0);
        owners = λ then is_fat is_stream others. k.owners then is_stream (λ n off. ⊎_elim
            (λ one. subst (λ m. then m ≡ mine m) (sym one.1) (is_fat ∙ fat ∙ sym (now_fat b own)))
            (λ other. others n other.1 off ∙ sym (now_other b own n other.1 off))
            (eqb_tells n 1));
        others = λ n past. stays_then (allocator_of a) (allocator_of b) (allocator_of c) (own n) (mine n) version (now_other b own n (λ same. omega (arith, same, past)) (λ same. omega (arith, same, past))) (h.others n past) (k.others n past);
        entries = told_anew a b c k.root h.entries;
        file = file_then a b c h.file k.file;
        strays = λ then is_fat is_stream others n s.
            lengthened_strays a b minis mid own h n
            (k.strays then is_stream (λ m off. ⊎_elim
            (λ one. subst (λ i. then i ≡ mine i) (sym one.1) (is_fat ∙ fat ∙ sym (now_fat b own)))
            (λ other. others m other.1 off ∙ sym (now_other b own m other.1 off))
            (eqb_tells m 1)) n s);
      }

  -- the root's entry was set
  pub lengthens_by_cover : (a b c : MiniAllocator F g) (minis mid : List ℕ) (own : ℕ → List ℕ) → version_of (allocator_of b) ≡ version_of (allocator_of a) → AppendsMiniSectors a b minis mid own → CoversStream b c (own_now b own) → AppendsMiniSectors a c minis mid own
  lengthens_by_cover a b c minis mid own version h k =
      let mine = own_now b own in
      let new = k.owners in
      let fat : mini_fat_ids c ≡ mini_fat_ids b = sym new.mini_fat ∙ now_fat b own in
      let ids : mini_stream_ids c ≡ mini_stream_ids b = sym new.mini_stream ∙ now_stream b own in
      let len : mini_stream_len c ≡ mini_stream_len b = sym (stream_size c mine new) ∙ ap length k.stream ∙ stream_size b mine (lengthened_owners a b minis mid own h) in
      record {
        taken = h.taken;
        minis_are = h.minis_are;
        were_free = h.were_free;
        inside = subst (λ m. AllByRecursion (λ n. 64 * n + 64 ≤ m) h.taken) (sym len) h.inside;
        linked = subst (λ l. IsChainInTable l mid) (sym k.mini_fat) h.linked;
        numbers = subst (SameExceptAt mid (mini_fat_of a)) (sym k.mini_fat) h.numbers;
        unused = subst (λ l. (n : ℕ) → length (mini_fat_of a) ≤ n → n < length l → IsNotIn mid n → slice_index l n ≡ free) (sym k.mini_fat) h.unused;
        zeros = h.zeros;
        stream = k.stream ∙ h.stream;
        owners = λ then is_fat is_stream others. owners_same c mine then (now_same b own then (is_fat ∙ fat) (is_stream ∙ ids) others) new;
        others = λ n past. stays_then (allocator_of a) (allocator_of b) (allocator_of c) (own n) (mine n) version (now_other b own n (λ same. omega (arith, same, past)) (λ same. omega (arith, same, past))) (h.others n past) (k.others n past);
        entries = told_anew a b c k.root h.entries;
        file = file_then a b c h.file k.file;
        strays = λ then is_fat is_stream others n s.
            lengthened_strays a b minis mid own h n (k.strays n (stray_same (fat_of (allocator_of c)) (tables_of (allocator_of c)) mine then (now_same b own then (is_fat ∙ fat) (is_stream ∙ ids) others) n s));
      }

  tables_rest : (b c : Allocator F g) → OnlyReadsAllocator b c → tables_of c ≡ tables_of b
  tables_rest b c rests = ap (λ l. l ++ fat_sectors_of c) rests.difat_sectors ∙ ap (λ l. difat_sectors_of b ++ l) rests.fat_sectors

  stays_rest : (a b c : Allocator F g) (ids : List ℕ) → version_of b ≡ version_of a → IsTrue (is_honest b) → OnlyReadsAllocator b c → KeepsOwnedSectors (sector (version_of a)) (seen_of a) (seen_of b) ids → KeepsOwnedSectors (sector (version_of a)) (seen_of a) (seen_of c) ids
  unfolding seen_of
  stays_rest a b c ids version honest rests h = record {
    linked = subst (λ l. IsChainInTable l ids) (sym rests.fat) h.linked;
    beside = subst (λ l. AreDisjoint l ids) (sym (tables_rest b c rests)) h.beside;
    bytes = ap (λ l. joined (version_of a) l ids) (rests.sectors.bytes honest) ∙ h.bytes;
  }

  -- owners over reads
  pub owners_rest : (b c : MiniAllocator F g) (own : ℕ → List ℕ) → OnlyReadsMini b c → HasUniqueOwners b own → HasUniqueOwners c own
  owners_rest b c own rests h =
      let layer = rests.directory.allocator in
      record {
        honest = subst IsTrue (sym layer.sectors.honest) h.honest;
        memory = rests.kept h.memory;
        owned = subst (λ l. OwnDisjointChains (fat_of (allocator_of c)) l own) (sym (tables_rest (allocator_of b) (allocator_of c) layer)) (subst (λ l. OwnDisjointChains l (tables_of (allocator_of b)) own) (sym layer.fat) h.owned);
        directory = h.directory ∙ sym rests.directory.ids;
        mini_fat = h.mini_fat ∙ sym rests.mini_fat_ids;
        mini_stream = h.mini_stream ∙ sym rests.mini_stream_ids;
      }

  -- only reads happened
  pub lengthens_rest : (a b c : MiniAllocator F g) (minis mid : List ℕ) (own : ℕ → List ℕ) → version_of (allocator_of b) ≡ version_of (allocator_of a) → AppendsMiniSectors a b minis mid own → OnlyReadsMini b c → AppendsMiniSectors a c minis mid own
  lengthens_rest a b c minis mid own version h rests =
      let was = lengthened_owners a b minis mid own h in
      let layer = rests.directory.allocator in
      let new = owners_rest b c (own_now b own) rests was in
      let same : mini_stream_of c ≡ mini_stream_of b =
      ap (λ v. joined v (bytes_of (allocator_of c)) (mini_stream_ids c)) layer.sectors.version ∙ ap (λ l. joined (version_of (allocator_of b)) l (mini_stream_ids c)) (layer.sectors.bytes was.honest)
      ∙ ap (joined (version_of (allocator_of b)) (bytes_of (allocator_of b))) rests.mini_stream_ids in
      let len : mini_stream_len c ≡ mini_stream_len b = sym (stream_size c (own_now b own) new) ∙ ap length same ∙ stream_size b (own_now b own) was in
      record {
        taken = h.taken;
        minis_are = h.minis_are;
        were_free = h.were_free;
        inside = subst (λ m. AllByRecursion (λ n. 64 * n + 64 ≤ m) h.taken) (sym len) h.inside;
        linked = subst (λ l. IsChainInTable l mid) (sym rests.mini_fat) h.linked;
        numbers = subst (SameExceptAt mid (mini_fat_of a)) (sym rests.mini_fat) h.numbers;
        unused = subst (λ l. (n : ℕ) → length (mini_fat_of a) ≤ n → n < length l → IsNotIn mid n → slice_index l n ≡ free) (sym rests.mini_fat) h.unused;
        zeros = h.zeros;
        stream = same ∙ h.stream;
        owners = λ then is_fat is_stream others. owners_same c (own_now b own) then (now_same b own then (is_fat ∙ rests.mini_fat_ids) (is_stream ∙ rests.mini_stream_ids) others) new;
        others = λ n past. stays_rest (allocator_of a) (allocator_of b) (allocator_of c) (own n) version was.honest layer (h.others n past);
        entries = tells_kept a b c rests.directory.entries rests.mini_stream_ids len h.entries;
        file = file_then a b c h.file (file_rests b c was.honest rests);
        strays = λ then is_fat is_stream others n s.
            lengthened_strays a b minis mid own h n
            (leaves_resting (allocator_of b) (allocator_of c) (own_now b own) layer n (stray_same (fat_of (allocator_of c)) (tables_of (allocator_of c)) (own_now b own) then (now_same b own then (is_fat ∙ rests.mini_fat_ids) (is_stream ∙ rests.mini_stream_ids) others) n s));
      }

  -- reads one after the other
  pub mini_rests_then : (a b c : MiniAllocator F g) → OnlyReadsMini a b → OnlyReadsMini b c → OnlyReadsMini a c
  mini_rests_then a b c h k = record {
    directory = record {
      allocator = all_rest_then (allocator_of a) (allocator_of b) (allocator_of c) h.directory.allocator k.directory.allocator;
      ids = k.directory.ids ∙ h.directory.ids;
      entries = k.directory.entries ∙ h.directory.entries;
      kept = λ is. k.directory.kept (h.directory.kept is);
    };
    mini_fat_ids = k.mini_fat_ids ∙ h.mini_fat_ids;
    mini_fat = k.mini_fat ∙ h.mini_fat;
    mini_stream_ids = k.mini_stream_ids ∙ h.mini_stream_ids;
    kept = λ is. k.kept (h.kept is);
  }

  -- what a call answers, told from before reads
  pub answers_after : {T : Type 0} (P : Error → Type 0) (r : Result T Error) (a b c : Allocator F g) → OnlyReadsAllocator a b → FatErrorContract P r b c → FatErrorContract P r a c
  answers_after P (Ok x) a b c rests k = record {
    live = (sym rests.sectors.failed ∙ k.live.0, k.live.1);
    failed = λ was. absurd (let wrong = (k.failed (rests.sectors.failed ∙ was)).0 in cc);
    after = tt;
    cause = tt;
    fault = tt;
  }
  answers_after P (Err e) a b c rests k = record {
    live = tt;
    failed = λ was. let no = k.failed (rests.sectors.failed ∙ was) in (no.0, all_rest_then a b c rests no.1);
    after = ⊎_elim (λ failed. inl failed) (λ more. inr (all_rest_then a b c rests more)) k.after;
    cause = rests_cause a b c e rests k.cause;
    fault = k.fault;
  }

  -- as many sectors have as many bytes
  pub len_same : (b c : MiniAllocator F g) → version_of (allocator_of c) ≡ version_of (allocator_of b) → MiniMatchesBytes b → MiniMatchesBytes c → mini_stream_ids c ≡ mini_stream_ids b → mini_stream_len c ≡ mini_stream_len b
  len_same b c version is now ids =
      ap (λ v. length (mini_stream_ids c) * sector_len v) (now.over.stream_version ∙ version ∙ sym is.over.stream_version) ∙ ap (λ l. length l * sector_len (links_version b.mini_fat.stream)) ids

  lacks_more_rest : (b c : Allocator F g) (n m : ℕ) → OnlyReadsAllocator b c → m ≡ n → LacksMore c m → LacksMore b n
  lacks_more_rest b c n m rests same = ⊎_elim (λ numbers. inl (subst (λ l. greatest_regular + 1 + count_by (λ entry. nat_eq entry free) l < length l + 1) rests.fat numbers)) (λ long. inr (omega (arith, long, same)))

  -- what is lacking after reads was lacking before
  pub lacks_rest : (b c : MiniAllocator F g) → MiniMatchesBytes b → OnlyReadsMini b c → LacksOne c → LacksOne b
  lacks_rest b c is rests lacks =
      let layer = rests.directory.allocator in
      let ids = ap length rests.mini_stream_ids in
      let version = layer.sectors.version in
      let now = rests.kept is in
      let len = len_same b c version is now rests.mini_stream_ids in
      ⊎_elim (λ fat. inl (lacks_more_rest (allocator_of b) (allocator_of c) _ _ layer (ap length rests.mini_fat_ids) fat))
      (λ rest. inr (⊎_elim (λ stream. inl (lacks_more_rest (allocator_of b) (allocator_of c) _ _ layer ids stream))
      (λ size. inr (subst (λ v. stream_len_mask v < mini_stream_len b + sector_len v) version (subst (λ n. stream_len_mask (version_of (allocator_of c)) < n + sector_len (version_of (allocator_of c))) len size))) rest)) lacks

  tells_then : (a b c : MiniAllocator F g) → (mini_stream_ids c ≡ mini_stream_ids b → mini_stream_len c ≡ mini_stream_len b) → RootHasMiniStream a b → RootHasMiniStream b c → RootHasMiniStream a c
  tells_then a b c len h k = ⊎_elim
      (λ same. tells_kept a b c same.0 same.1 (len same.1) h)
      (λ told. ⊎_elim
      (λ same. inr (λ e found. told e (ap (λ l. slice_get l 0) same.0 ∙ found) ∙ ap (λ l. set l 0 (record e { start = slice_index_or (mini_stream_ids c) 0 end_of_chain; size = mini_stream_len c })) same.0))
      (λ before. inr (λ e found.
      let mid_root = record e { start = slice_index_or (mini_stream_ids b) 0 end_of_chain; size = mini_stream_len b } in
      let held = directory.entries_held (directory_of a) in
      told mid_root (ap (λ l. slice_get l 0) (before e found) ∙ set_found held e mid_root found)
      ∙ ap (λ l. set l 0 (record mid_root { start = slice_index_or (mini_stream_ids c) 0 end_of_chain; size = mini_stream_len c })) (before e found)
      ∙ set_again held mid_root (record e { start = slice_index_or (mini_stream_ids c) 0 end_of_chain; size = mini_stream_len c })))
      h)
      k

  -- two steps
  pub lengthens_then : (a b c : MiniAllocator F g) (minis mid later : List ℕ) (own : ℕ → List ℕ) → version_of (allocator_of b) ≡ version_of (allocator_of a) → AppendsMiniSectors a b minis mid own → AppendsMiniSectors b c mid later (own_now b own) → version_of (allocator_of c) ≡ version_of (allocator_of b) → AppendsMiniSectors a c minis later own
  lengthens_then a b c minis mid later own version h k next =
      let mid_size = h.numbers.size in
      let new_size = k.numbers.size in
      let was = lengthened_owners a b minis mid own h in
      let new = lengthened_owners b c mid later (own_now b own) k in
      let longer : mini_stream_len b ≤ mini_stream_len c =
      let one = stream_size c (own_now c (own_now b own)) new in let two = stream_size b (own_now b own) was in let sum = ap length k.stream ∙ length-append (mini_stream_of b) (replicate k.zeros 0) in omega (arith, one, two, sum) in
      record {
        taken = h.taken ++ k.taken;
        minis_are = k.minis_are ∙ ap (λ l. l ++ k.taken) h.minis_are ∙ append_assoc minis h.taken k.taken;
        were_free = were_free_both (mini_fat_of a) (mini_fat_of b) mid h.taken k.taken h.numbers h.linked h.were_free k.were_free;
        inside = all_both (λ n. 64 * n + 64 ≤ mini_stream_len c) h.taken k.taken (all_less (mini_stream_len b) (mini_stream_len c) h.taken longer h.inside) k.inside;
        linked = k.linked;
        numbers = record {
          size = omega (arith, mid_size, new_size);
          others = λ n below none. k.numbers.others n (omega (arith, below, mid_size)) none ∙ h.numbers.others n below (none_first mid k.taken n (subst (λ l. IsNotIn l n) k.minis_are none));
        };
        unused = λ n past below none. ⊎_elim
            (λ behind. k.unused n behind.1 below none)
            (λ before. k.numbers.others n before.1 none ∙ h.unused n past before.1 (none_first mid k.taken n (subst (λ l. IsNotIn l n) k.minis_are none)))
            (leb_tells (length (mini_fat_of b)) n);
        zeros = h.zeros + k.zeros;
        stream = k.stream ∙ ap (λ l. l ++ replicate k.zeros 0) h.stream ∙ append_assoc (mini_stream_of a) (replicate h.zeros 0) (replicate k.zeros 0) ∙ ap (λ l. mini_stream_of a ++ l) (replicate-append-replicate h.zeros k.zeros 0);
        owners = λ then fat stream others. k.owners then fat stream (λ n one two. others n one two ∙ sym (now_other b own n one two));
        others = λ n past. stays_then (allocator_of a) (allocator_of b) (allocator_of c) (own n) (own_now b own n) version (now_other b own n (λ same. omega (arith, same, past)) (λ same. omega (arith, same, past))) (h.others n past) (k.others n past);
        entries = tells_then a b c (len_same b c next was.memory new.memory) h.entries k.entries;
        file = file_then a b c h.file k.file;
        strays = λ then fat stream others n s. lengthened_strays a b minis mid own h n (k.strays then fat stream (λ m one two. others m one two ∙ sym (now_other b own m one two)) n s);
      }

  -- the root's size was raised, or it was enough
  pub lengthens_covered : (a b c : MiniAllocator F g) (minis mid : List ℕ) (own : ℕ → List ℕ) → version_of (allocator_of b) ≡ version_of (allocator_of a) → AppendsMiniSectors a b minis mid own → OnlyReadsMini b c ⊎ CoversStream b c (own_now b own) → AppendsMiniSectors a c minis mid own
  lengthens_covered a b c minis mid own version h did = ⊎_elim (λ rests. lengthens_rest a b c minis mid own version h rests) (λ covers. lengthens_by_cover a b c minis mid own version h covers) did
