-- The directory changes over this layer.
use Rattle.std.proofs.Common.{◌≡◌, ◌⊎◌, inl, inr, ℕ, Bool, true, false, List, [], ◌∷◌, ◌++◌, refl, ap, sym, subst, ◌∙◌, arith, set, zero, suc, IsTrue}
use Rattle.std.specs.Prelude.{slice_get, slice_index_or, Some}
use Rattle.cfb_medium.specs.Numbers.{numbers}
use Rattle.cfb_medium.specs.declared.medium.ReadMedium.{Ghosts}
use Rattle.cfb_sectors.specs.Sectors.{end_of_chain, sector}
use Rattle.cfb_chains.specs.Changes.{AreDisjoint}
use Rattle.cfb_chains.specs.LinkViews.{ids_of}
use Rattle.cfb_chains.specs.Owned.{ReplacesChain, ReplacesOwnedChain, OwnDisjointChains, KeepsOwnedSectors}
use Rattle.cfb_chains.proofs.Owners.{other_left, owned_changed}
use Rattle.cfb_fat.specs.Seeing.{seen_of}
use Rattle.cfb_fat.specs.Tables.{difat_sectors_of, fat_of, fat_sectors_of, tables_of, version_of, OnlyReadsAllocator}
use Rattle.cfb_chain_io.specs.ChainEffects.{KeepsFileInvariants}
use Rattle.cfb_tree.specs.Directory.{Entry}
use Rattle.cfb_tree.proofs.OneContent.{Some_same}
use Rattle.cfb_directory.specs.Changes.{LiesBeside}
use Rattle.cfb_directory.specs.Children.{AddsAt, RemovesAt}
use Rattle.cfb_directory.specs.Views as directory
use Rattle.cfb_directory.specs.declared.directory.Directory.{Directory}
use Rattle.cfb_mini.specs.Changing.{ChangesDirectory, HasUniqueOwners, KeepsOwnership}
use Rattle.cfb_mini.specs.Children.{HasRoot}
use Rattle.cfb_mini.specs.Files.{HasCounts, HasHeader}
use Rattle.cfb_mini.specs.Views.{allocator_of, directory_of, mini_stream_ids}
use Rattle.cfb_mini.specs.declared.mini_allocator.MiniAllocator.{MiniAllocator}
use Rattle.cfb_mini.proofs.Keeping.{bytes_still, linked_still, over_rests, pick, pick_mine, pick_other}

pub not_failed : (b : Bool) → (b ≡ true → ⊥) → b ≡ false
not_failed true never = absurd (never refl)
not_failed false never = refl

pub either : (b : Bool) → (b ≡ true) ⊎ (b ≡ false)
either true = inl refl
either false = inr refl

-- a root keeps where its stream begins where another entry was added
pub added_start : (old new : List Entry) (e root : Entry) (id start : ℕ) → AddsAt old new e id → HasRoot old → ((r : Entry) → slice_get old 0 ≡ Some r → r.start ≡ start) → slice_get new 0 ≡ Some root → root.start ≡ start
added_start old new e root id start adds has at now =
    let apart : 0 ≡ id → ⊥ = λ same. let unused = adds.unused has.root (ap (slice_get old) (sym same) ∙ has.found) in let kind = has.of_kind in omega (arith, unused, kind) in
    let kept = adds.others 0 has.root apart has.found in
    ap (λ (x : Entry). x.start) (Some_same (sym now ∙ kept.1)) ∙ kept.2.start ∙ at has.root has.found

-- and where one that isn't the root was taken out
pub removed_start : (old new : List Entry) (root : Entry) (id start : ℕ) → RemovesAt old new id → HasRoot old → (id ≡ 0 → ⊥) → ((r : Entry) → slice_get old 0 ≡ Some r → r.start ≡ start) → slice_get new 0 ≡ Some root → root.start ≡ start
removed_start old new root id start removes has other at now =
    let kept = removes.others 0 has.root (λ same. other (sym same)) has.found in
    ap (λ (x : Entry). x.start) (Some_same (sym now ∙ kept.1)) ∙ kept.2.start ∙ at has.root has.found

-- the first entry keeps where its stream begins, where the one that was set does if it is the first
pub first_start : (xs : List Entry) (id : ℕ) (e f root : Entry) (start : ℕ) → slice_get xs id ≡ Some e → (id ≡ 0 → f.start ≡ e.start) → ((r : Entry) → slice_get xs 0 ≡ Some r → r.start ≡ start)
    → slice_get (set xs id f) 0 ≡ Some root → root.start ≡ start
first_start [] id e f root start found keeps at now = let wrong = found in cc
first_start (x ∷ xs) zero e f root start found keeps at now =
    let here : f ≡ root = cc in
    ap (λ (r : Entry). r.start) (sym here) ∙ keeps refl ∙ at e found
first_start (x ∷ xs) (suc id) e f root start found keeps at now = at root now

module _ {F : Type 0} {g : Ghosts F} where
  -- what has the directory's sectors lies beside the tables
  pub directory_beside : (it : MiniAllocator F g) (own : ℕ → List ℕ) → HasUniqueOwners it own → LiesBeside (directory_of it)
  directory_beside it own h = subst (AreDisjoint (tables_of (allocator_of it))) h.directory (h.owned.beside 0)

  pub directory_changes : (words more : List ℕ) (it : MiniAllocator F g) (d : Directory F g) (own : ℕ → List ℕ) → HasUniqueOwners it own → KeepsFileInvariants (allocator_of it) (directory.allocator_of d)
      → directory.directory_ids d ≡ directory.directory_ids (directory_of it) ++ more
      → ReplacesChain (sector (version_of (allocator_of it))) words (directory.directory_ids (directory_of it)) more (directory.directory_ids d) (seen_of (allocator_of it)) (seen_of (directory.allocator_of d))
      → (directory.DirectoryMatchesBytes (directory_of it) → LiesBeside (directory_of it) → directory.DirectoryMatchesBytes d)
      → ((root : Entry) → slice_get (directory.entries_held d) 0 ≡ Some root → root.start ≡ slice_index_or (mini_stream_ids it) 0 end_of_chain)
      → (HasHeader it → HasCounts it → HasCounts (record it { directory = d })) → ChangesDirectory words it (record it { directory = d }) own
  unfolding seen_of
  directory_changes words more it d own h goes longer becomes remembers root counts =
      let a = allocator_of it in
      let b = directory.allocator_of d in
      let v = version_of a in
      let ids = directory.directory_ids d in
      let mine : ReplacesChain (sector v) words (own 0) more ids (seen_of a) (seen_of b) = subst (λ l. ReplacesChain (sector v) words l more ids (seen_of a) (seen_of b)) (sym h.directory) becomes in
      let moves : ReplacesOwnedChain (sector v) words 0 ids more (seen_of a) (seen_of b) own (pick own 0 ids) = record { becomes = mine; mine = pick_mine own 0 ids; others = pick_other own 0 ids } in
      let stays : (k : ℕ) → (k ≡ 0 → ⊥) → KeepsOwnedSectors (sector v) (seen_of a) (seen_of b) (own k) = other_left (sector v) (seen_of a) (seen_of b) own (pick own 0 ids) 0 words ids more h.owned moves in
      let fat_ids = ids_of it.mini_fat.links in
      let stream_ids = ids_of it.mini_fat.stream in
      let fat_stays : KeepsOwnedSectors (sector v) (seen_of a) (seen_of b) fat_ids = subst (KeepsOwnedSectors (sector v) (seen_of a) (seen_of b)) h.mini_fat (stays 1 (λ same. omega (arith, same))) in
      let stream_stays : KeepsOwnedSectors (sector v) (seen_of a) (seen_of b) stream_ids = subst (KeepsOwnedSectors (sector v) (seen_of a) (seen_of b)) h.mini_stream (stays 2 (λ same. omega (arith, same))) in
      record {
        more = more;
        ids = longer;
        becomes = mine;
        owners = λ then first others. record {
          honest = subst IsTrue (sym goes.honest) h.honest;
          memory = record {
            directory = remembers h.memory.directory (directory_beside it own h);
            over = record {
              version = h.memory.over.version ∙ sym goes.version;
              stream_version = h.memory.over.stream_version ∙ sym goes.version;
              linked = λ live honest. linked_still a b fat_ids fat_stays;
              stream_linked = λ live honest. linked_still a b stream_ids stream_stays;
              numbers = λ live honest. h.memory.over.numbers (goes.live live) h.honest ∙ ap numbers (sym (bytes_still a b fat_ids goes fat_stays));
            };
            stream_at = root;
          };
          owned = owned_changed (sector v) (seen_of a) (seen_of b) own then 0 words ids more h.owned (record { becomes = mine; mine = first; others = others });
          directory = first;
          mini_fat = others 1 (λ same. omega (arith, same)) ∙ h.mini_fat;
          mini_stream = others 2 (λ same. omega (arith, same)) ∙ h.mini_stream;
        };
        mini_fat = refl;
        counts = counts;
      }

  -- nothing happened but reads
  pub keeps_owners : (it : MiniAllocator F g) (d : Directory F g) → OnlyReadsAllocator (allocator_of it) (directory.allocator_of d) → directory.directory_ids d ≡ directory.directory_ids (directory_of it) → directory.entries_held d ≡ directory.entries_held (directory_of it)
      → (directory.DirectoryMatchesBytes (directory_of it) → LiesBeside (directory_of it) → directory.DirectoryMatchesBytes d) → KeepsOwnership it (record it { directory = d })
  keeps_owners it d rests ids entries remembers =
      let a = allocator_of it in
      let b = directory.allocator_of d in record {
        allocator = rests;
        entries = entries;
        mini_fat = refl;
        owners = λ own h. record {
          honest = subst IsTrue (sym rests.sectors.honest) h.honest;
          memory = record {
            directory = remembers h.memory.directory (directory_beside it own h);
            over = over_rests a b it.mini_fat it.mini_fat rests (record { links = refl; stream = refl }) refl h.memory.over;
            stream_at = λ root found. h.memory.stream_at root (ap (λ l. slice_get l 0) (sym entries) ∙ found);
          };
          owned = subst (λ t. OwnDisjointChains t (tables_of b) own) (sym rests.fat) (subst (λ t. OwnDisjointChains (fat_of a) t own) (ap (λ l. l ++ fat_sectors_of a) (sym rests.difat_sectors) ∙ ap (λ l. difat_sectors_of b ++ l) (sym rests.fat_sectors)) h.owned);
          directory = h.directory ∙ sym ids;
          mini_fat = h.mini_fat;
          mini_stream = h.mini_stream;
        };
      }
