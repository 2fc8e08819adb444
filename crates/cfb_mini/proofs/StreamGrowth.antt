-- The mini stream takes in a sector, and the root's entry tells of it.
use Rattle.std.proofs.Common.{◌≡◌, ℕ, ◌+◌, ◌*◌, ◌<◌, ◌≤◌, false, List, [], ◌∷◌, ◌++◌, length, take, replicate, set, refl, ap, sym, subst, ◌∙◌, arith, append-nil, length-append, IsTrue, inl}
use Rattle.std.specs.Prelude.{slice_get, slice_index_or, Some}
use Rattle.std.proofs.lemmas.List.{take_all}
use Rattle.cfb_medium.specs.Numbers.{numbers}
use Rattle.cfb_medium.specs.Versions.{sector_len, stream_len_mask}
use Rattle.cfb_medium.specs.declared.medium.ReadMedium.{Ghosts}
use Rattle.cfb_medium.specs.declared.version.Version.{Version}
use Rattle.cfb_medium.specs.declared.version.Version.TheVariants.{V3, V4}
use Rattle.cfb_chains.specs.Positions.{sectors_for}
use Rattle.cfb_sectors.specs.Copies.{copies}
use Rattle.cfb_sectors.specs.Initial.{initial}
use Rattle.cfb_sectors.specs.Sectors.{end_of_chain, fat_in, joined, sector}
use Rattle.cfb_sectors.specs.declared.initial.SectorInit.TheVariants.{Zero}
use Rattle.cfb_chains.specs.Changes.{AreDisjoint}
use Rattle.cfb_chains.specs.Grown.{IsChainInTable}
use Rattle.cfb_chains.specs.LinkViews.{ids_of, links_version}
use Rattle.cfb_chains.specs.declared.links.Links.{Links}
use Rattle.cfb_chains.specs.Owned.{ReplacesChain, ReplacesOwnedChain, OwnDisjointChains, KeepsOwnedSectors}
use Rattle.cfb_chains.proofs.Owners.{other_left, owned_changed}
use Rattle.cfb_fat.specs.Seeing.{seen_of}
use Rattle.cfb_fat.specs.Tables.{bytes_of, fat_of, has_failed_here, tables_of, version_of}
use Rattle.cfb_fat.specs.declared.allocator.Allocator.{Allocator}
use Rattle.cfb_chain_io.specs.ChainEffects.{len_of, KeepsFileInvariants, Resizes}
use Rattle.cfb_chain_io.proofs.GoingOn.{goes_then}
use Rattle.cfb_tree.specs.Directory.{Entry}
use Rattle.cfb_tree.specs.EntryViews.{entry_in}
use Rattle.cfb_tree.specs.declared.entry.DirEntry.{DirEntry}
use Rattle.cfb_directory.specs.Entries.{entries_in, SizesFit}
use Rattle.cfb_directory.specs.Changes.{HasDirectory, LiesBeside, SetsEntry}
use Rattle.cfb_directory.specs.Lent as lent
use Rattle.cfb_directory.specs.Views as directory
use Rattle.cfb_directory.specs.declared.directory.Directory.{Directory}
use Rattle.cfb_directory.proofs.Setting.{has_directory}
use Rattle.cfb_mini.specs.Changing.{GrowsMiniStream, HasUniqueOwners}
use Rattle.cfb_mini.specs.Layers.{IsOver}
use Rattle.cfb_mini.specs.NumberViews.{numbers_of}
use Rattle.cfb_mini.specs.Views.{allocator_of, directory_of}
use Rattle.cfb_mini.specs.declared.mini_allocator.MiniAllocator.{MiniAllocator}
use Rattle.cfb_mini.specs.declared.mini_fat.MiniFat.{MiniFat}
use Rattle.cfb_mini.proofs.Headers.{front_then}
use Rattle.cfb_mini.proofs.Keeping.{bytes_still, linked_still, others_stay, pick, pick_mine, pick_other, still_owned}
use Rattle.cfb_mini.proofs.Counts.{part_spared}
use Rattle.cfb_mini.proofs.KeptFile.{file_spared, front_kept, longer_by, sizes_set}
use Rattle.cfb_mini.proofs.Strays.{leaves_none, leaves_same}

-- the first of a list that was set
set_first : {A : Type 0} (xs : List A) (x y z : A) → slice_get xs 0 ≡ Some x → slice_get (set xs 0 y) 0 ≡ Some z → z ≡ y
set_first {A} [] x y z found now = let wrong = found in cc
set_first {A} (w ∷ xs) x y z found now = cc

zeros_is : (len : ℕ) → initial Zero len ≡ replicate len 0
unfolding initial
zeros_is len = refl

-- a sector of zeros
one_copy : (len count : ℕ) → count ≡ 1 → copies count (initial Zero len) ≡ replicate len 0
one_copy len count one = ap (λ n. copies n (initial Zero len)) one ∙ append-nil (initial Zero len) ∙ zeros_is len

-- the entry of a mini stream
abbrev pub placed : Entry → ℕ → ℕ → Entry
placed e start size = record e { start = start; size = size }

module _ {F : Type 0} {g : Ghosts F} where
  -- what stays through two changes stays
  stays_then : (v : List ℕ → ℕ → List ℕ) (a m b : Allocator F g) (ids : List ℕ) → KeepsOwnedSectors v (seen_of a) (seen_of m) ids → KeepsOwnedSectors v (seen_of m) (seen_of b) ids → KeepsOwnedSectors v (seen_of a) (seen_of b) ids
  stays_then v a m b ids h k = record { linked = k.linked; beside = k.beside; bytes = k.bytes ∙ h.bytes }

  owned_by : (a m : Allocator F g) (own then : ℕ → List ℕ) (ids more : List ℕ) → OwnDisjointChains (fat_of a) (tables_of a) own → ReplacesOwnedChain (sector (version_of a)) [] 2 ids more (seen_of a) (seen_of m) own then → OwnDisjointChains (fat_of m) (tables_of m) then
  unfolding seen_of
  owned_by a m own then ids more owned moves = owned_changed (sector (version_of a)) (seen_of a) (seen_of m) own then 2 [] ids more owned moves

  stay_by : (a m : Allocator F g) (own then : ℕ → List ℕ) (ids more : List ℕ) → OwnDisjointChains (fat_of a) (tables_of a) own → ReplacesOwnedChain (sector (version_of a)) [] 2 ids more (seen_of a) (seen_of m) own then
      → (k : ℕ) → (k ≡ 2 → ⊥) → KeepsOwnedSectors (sector (version_of a)) (seen_of a) (seen_of m) (own k)
  unfolding seen_of
  stay_by a m own then ids more owned moves = other_left (sector (version_of a)) (seen_of a) (seen_of m) own then 2 [] ids more owned moves

  beside_of : (a m : Allocator F g) (ids : List ℕ) → KeepsOwnedSectors (sector (version_of a)) (seen_of a) (seen_of m) ids → AreDisjoint (tables_of m) ids
  unfolding seen_of
  beside_of a m ids h = h.beside

  pub grows_stream_is : (it : MiniAllocator F g) (m : Allocator F g) (d : Directory F g) (mini : MiniFat) (own : ℕ → List ℕ) (count start len : ℕ) (e : Entry) → HasUniqueOwners it own → KeepsFileInvariants (allocator_of it) m → has_failed_here m ≡ false
      → KeepsFileInvariants m (directory.allocator_of d) → lent.IsKeptOver (directory_of it) → mini.links ≡ it.mini_fat.links → numbers_of mini.numbers ≡ numbers_of it.mini_fat.numbers
      → Resizes Zero count (allocator_of it) m it.mini_fat.stream mini.stream → count ≡ length (ids_of it.mini_fat.stream) + 1 → length (ids_of mini.stream) ≡ count
      → start ≡ slice_index_or (ids_of mini.stream) 0 end_of_chain → len ≡ len_of mini.stream → len ≤ stream_len_mask (version_of (allocator_of it)) → slice_get (directory.entries_held (directory_of it)) 0 ≡ Some e
      → SetsEntry 0 (placed e start len) (directory.with_allocator (directory_of it) m) d
      → (directory.DirectoryMatchesBytes (directory.with_allocator (directory_of it) m) → LiesBeside (directory.with_allocator (directory_of it) m) → directory.DirectoryMatchesBytes d)
      → GrowsMiniStream it (record it { directory = d; mini_fat = mini }) own
  grows_stream_is it m d mini own count start len e h goes live then kept links numbers_same resized is size start_is len_is fits found sets remembers =
      let a = allocator_of it in
      let b = directory.allocator_of d in
      let v = version_of a in
      let ids = ids_of it.mini_fat.stream in
      let later = ids_of mini.stream in
      let mid = directory.with_allocator (directory_of it) m in
      let dir = directory.directory_ids (directory_of it) in
      let whole : take count ids ≡ ids = take_all count ids (omega (arith, is)) in
      let sectors : later ≡ ids ++ resized.more = resized.sectors ∙ ap (λ l. l ++ resized.more) whole in
      let one : length resized.more ≡ 1 = let sum = length-append ids resized.more in let all = ap length sectors in omega (arith, sum, all, size, is) in
      let becomes : ReplacesChain (sector v) [] (own 2) resized.more later (seen_of a) (seen_of m) = subst (λ l. ReplacesChain (sector v) [] l resized.more later (seen_of a) (seen_of m)) (sym h.mini_stream) resized.becomes in
      let own' = pick own 2 later in
      let moves : ReplacesOwnedChain (sector v) [] 2 later resized.more (seen_of a) (seen_of m) own own' = record { becomes = becomes; mine = pick_mine own 2 later; others = pick_other own 2 later } in
      let stays = stay_by a m own own' later resized.more h.owned moves in
      let dir_stays : KeepsOwnedSectors (sector v) (seen_of a) (seen_of m) dir = subst (KeepsOwnedSectors (sector v) (seen_of a) (seen_of m)) h.directory (stays 0 (λ same. omega (arith, same))) in
      let honest = subst IsTrue (sym goes.honest) h.honest in
      let held : directory.DirectoryMatchesBytes mid = kept m (record { goes_on = goes; stays = λ alive trusted. dir_stays }) h.memory.directory in
      let beside : LiesBeside mid = beside_of a m dir dir_stays in
      let has = has_directory mid live honest held beside in
      let touches = sets.becomes has in
      let owned_m = owned_by a m own own' later resized.more h.owned moves in
      let zero_is : own' 0 ≡ dir = pick_other own 2 later 0 (λ same. omega (arith, same)) ∙ h.directory in
      let touches_own : ReplacesChain (sector (version_of m)) [] (own' 0) [] (own' 0) (seen_of m) (seen_of b) = subst (λ l. ReplacesChain (sector (version_of m)) [] l [] l (seen_of m) (seen_of b)) (sym zero_is) touches in
      let next : (k : ℕ) → (k ≡ 0 → ⊥) → KeepsOwnedSectors (sector (version_of m)) (seen_of m) (seen_of b) (own' k) = others_stay m b own' 0 owned_m touches_own in
      let both : (k : ℕ) → (k ≡ 2 → ⊥) → (k ≡ 0 → ⊥) → KeepsOwnedSectors (sector v) (seen_of a) (seen_of b) (own k) = λ k other more.
      stays_then (sector v) a m b (own k) (stays k other) (subst (λ u. KeepsOwnedSectors (sector u) (seen_of m) (seen_of b) (own k)) goes.version (subst (KeepsOwnedSectors (sector (version_of m)) (seen_of m) (seen_of b)) (pick_other own 2 later k other) (next k more))) in
      let fat_ids = ids_of it.mini_fat.links in
      let fat_stays : KeepsOwnedSectors (sector v) (seen_of a) (seen_of b) fat_ids = subst (KeepsOwnedSectors (sector v) (seen_of a) (seen_of b)) h.mini_fat (both 1 (λ same. omega (arith, same)) (λ same. omega (arith, same))) in
      let stream_stays : KeepsOwnedSectors (sector (version_of m)) (seen_of m) (seen_of b) later = subst (KeepsOwnedSectors (sector (version_of m)) (seen_of m) (seen_of b)) (pick_mine own 2 later) (next 2 (λ same. omega (arith, same))) in
      let all : KeepsFileInvariants a b = goes_then a m b goes then in
      let longer : length (bytes_of a) ≤ length (bytes_of b) = let one = longer_by a m [] _ becomes.leaves in let two = longer_by m b [] _ touches.leaves in omega (arith, one, two) in
      let over : IsOver b mini = record {
        version = ap links_version links ∙ h.memory.over.version ∙ sym all.version;
        stream_version = resized.chain.has.version ∙ sym then.version;
        linked = λ alive trusted. subst (λ l. IsChainInTable (fat_of b) (ids_of l)) (sym links) (linked_still a b fat_ids fat_stays);
        stream_linked = λ alive trusted. linked_still m b later stream_stays;
        numbers = λ alive trusted. numbers_same ∙ h.memory.over.numbers (all.live alive) h.honest ∙ ap numbers (sym (bytes_still a b fat_ids all fat_stays)) ∙ ap (λ l. fat_in (version_of b) (bytes_of b) (ids_of l)) (sym links);
      } in
      record {
        more = resized.more;
        sectors = sectors;
        owners = λ then' mine others.
            let moved : ReplacesOwnedChain (sector v) [] 2 later resized.more (seen_of a) (seen_of m) own then' = record { becomes = becomes; mine = mine; others = others } in
            let first = others 0 (λ same. omega (arith, same)) ∙ h.directory in
            record {
              honest = subst IsTrue (sym all.honest) h.honest;
              memory = record {
                directory = remembers held beside;
                over = over;
                stream_at = λ root is_root. ap (λ x. x.start) (set_first (directory.entries_held (directory_of it)) e (placed e start len) root found (ap (λ l. slice_get l 0) (sym sets.entries) ∙ is_root)) ∙ start_is;
              };
              owned = still_owned m b then' 0 (owned_by a m own then' later resized.more h.owned moved) (subst (λ l. ReplacesChain (sector (version_of m)) [] l [] l (seen_of m) (seen_of b)) (sym first) touches);
              directory = first ∙ sym sets.ids;
              mini_fat = others 1 (λ same. omega (arith, same)) ∙ h.mini_fat ∙ ap ids_of (sym links);
              mini_stream = mine;
            };
        others = λ k past. both k (λ same. omega (arith, past, same)) (λ same. omega (arith, past, same));
        stream = bytes_still m b later then stream_stays ∙ resized.content ∙ ap (λ l. joined v (bytes_of a) l ++ copies (length resized.more) (initial Zero (sector_len v))) whole
            ∙ ap (λ l. joined v (bytes_of a) ids ++ l) (one_copy (sector_len v) (length resized.more) one);
        mini_fat = numbers_same;
        root = λ x is_x.
            let same : x ≡ e = cc in
            sets.entries ∙ ap (λ y. set (directory.entries_held (directory_of it)) 0 (placed y start len)) (sym same)
            ∙ ap (λ n. set (directory.entries_held (directory_of it)) 0 (placed x n len)) start_is
            ∙ ap (λ n. set (directory.entries_held (directory_of it)) 0 (placed x (slice_index_or later 0 end_of_chain) n)) len_is;
        file = file_spared it (record it { directory = d; mini_fat = mini }) resized.more all.version longer
            (front_then 68 (bytes_of a) (bytes_of m) (bytes_of b) (front_kept a m _ becomes.leaves) (front_kept m b _ touches.leaves))
            (part_spared m b [] _ touches.leaves 40 (omega arith) (inl (omega arith), tt) ∙ part_spared a m [] _ becomes.leaves 40 (omega arith) (inl (omega arith), tt)) sets.ids (ap ids_of links) sectors
            (λ fit. subst (SizesFit v) (sym sets.entries) (sizes_set v (directory.entries_held (directory_of it)) 0 (placed e start len) fits fit));
        strays = λ then' mine others n s.
            let first = others 0 (λ same. omega (arith, same)) ∙ h.directory in
            leaves_none a m [] own then' 2 resized.more later becomes (sectors ∙ ap (λ l. l ++ resized.more) (sym h.mini_stream)) mine others n
            (leaves_same m b then' 0 (subst (λ l. ReplacesChain (sector (version_of m)) [] l [] l (seen_of m) (seen_of b)) (sym first) touches) n s);
      }

  -- the directory over the sectors that the mini stream took in
  pub mid_has : (it : MiniAllocator F g) (m : Allocator F g) (stream : Links) (own : ℕ → List ℕ) (count : ℕ) → HasUniqueOwners it own → KeepsFileInvariants (allocator_of it) m → has_failed_here m ≡ false → lent.IsKeptOver (directory_of it)
      → Resizes Zero count (allocator_of it) m it.mini_fat.stream stream → HasDirectory (directory.with_allocator (directory_of it) m)
  mid_has it m stream own count h goes live kept resized =
      let a = allocator_of it in
      let v = version_of a in
      let later = ids_of stream in
      let dir = directory.directory_ids (directory_of it) in
      let becomes : ReplacesChain (sector v) [] (own 2) resized.more later (seen_of a) (seen_of m) = subst (λ l. ReplacesChain (sector v) [] l resized.more later (seen_of a) (seen_of m)) (sym h.mini_stream) resized.becomes in
      let moves : ReplacesOwnedChain (sector v) [] 2 later resized.more (seen_of a) (seen_of m) own (pick own 2 later) = record { becomes = becomes; mine = pick_mine own 2 later; others = pick_other own 2 later } in
      let dir_stays : KeepsOwnedSectors (sector v) (seen_of a) (seen_of m) dir = subst (KeepsOwnedSectors (sector v) (seen_of a) (seen_of m)) h.directory (stay_by a m own (pick own 2 later) later resized.more h.owned moves 0 (λ same. omega (arith, same))) in
      has_directory (directory.with_allocator (directory_of it) m) live (subst IsTrue (sym goes.honest) h.honest) (kept m (record { goes_on = goes; stays = λ alive trusted. dir_stays }) h.memory.directory) (beside_of a m dir dir_stays)

-- the bytes of one sector more
pub one_more : (v : Version) (n x y : ℕ) → x ≡ n * sector_len v → y ≡ sector_len v → sectors_for v (x + y) ≡ n + 1
one_more V3 n x y is each = omega (arith, is, each)
one_more V4 n x y is each = omega (arith, is, each)

pub len_more : (v : Version) (n k x y : ℕ) → x ≡ n * sector_len v → y ≡ sector_len v → k ≡ n + 1 → x + y ≡ k * sector_len v
len_more V3 n k x y is each more = omega (arith, is, each, more)
len_more V4 n k x y is each more = omega (arith, is, each, more)

-- a directory has a root
pub first_there : (xs : List DirEntry) → 0 < length xs → (e : Entry) × (slice_get (entries_in xs) 0 ≡ Some e)
first_there [] some = absurd (omega (arith, some))
first_there (x ∷ xs) some = (entry_in x, refl)
