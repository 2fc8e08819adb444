-- Who owns which sectors, over a change of the chain of one of them.
use Rattle.std.proofs.Common.{◌≡◌, ℕ, ◌<◌, ◌⊎◌, inl, inr, false, List, [], ◌∷◌, ◌++◌, length, refl, ap, sym, subst, ◌∙◌, arith, IsTrue}
use Rattle.std.proofs.lemmas.Bool.Decides.{eqb_tells}
use Rattle.std.specs.Global.{Global}
use Rattle.std.specs.Prelude.{slice_get, slice_index, slice_index_or, Some}
use Rattle.cfb_medium.specs.Numbers.{numbers}
use Rattle.cfb_medium.specs.declared.medium.ReadMedium.{Ghosts}
use Rattle.cfb_sectors.specs.Sectors.{end_of_chain, fat_in, free, joined, sector, Chain as IsChain}
use Rattle.cfb_chains.specs.Changes.{AreSubsetOf, AreDisjoint, HaveEntry}
use Rattle.cfb_chains.specs.Grown.{IsChainInTable}
use Rattle.cfb_chains.specs.LinkViews.{ids_of, links_version}
use Rattle.cfb_chains.specs.declared.links.Links.{Links}
use Rattle.cfb_sectors.specs.declared.initial.SectorInit.TheVariants.{Zero}
use Rattle.cfb_chains.specs.Owned.{ReplacesChain, ReplacesOwnedChain, OwnDisjointChains, SectorLayer, KeepsOwnedSectors}
use Rattle.cfb_chains.proofs.Owners.{other_left, owned_changed}
use Rattle.cfb_fat.specs.Seeing.{seen_of}
use Rattle.cfb_fat.specs.Tables.{bytes_of, fat_of, has_failed_here, is_honest, tables_of, version_of, OnlyReadsAllocator}
use Rattle.cfb_fat.specs.declared.allocator.Allocator.{Allocator}
use Rattle.cfb_chain_io.specs.ChainEffects.{content_of, KeepsFileInvariants, HasDataChain, HasFatChain, Resizes}
use Rattle.cfb_chain_io.proofs.GoingOn.{rests_go_on}
use Rattle.cfb_chain_io.proofs.Owning.{among_start}
use Rattle.cfb_directory.proofs.ReadTrees.{linked_of}
use Rattle.cfb_directory.specs.Lent as lent
use Rattle.cfb_tree.specs.Directory.{Entry, entries_of}
use Rattle.cfb_directory.specs.Views as directory
use Rattle.cfb_directory.specs.declared.directory.Directory.{Directory}
use Rattle.cfb_mini.specs.Changing.{mini_seen, with_allocator, AppendsFreeMiniSector, FreesMiniSectors, FreesChain, GrowsMiniFat, HasUniqueOwners, IsKeptOver, MiniOverwrites, Shortens}
use Rattle.cfb_mini.specs.NumberWrites.{CutsMinis, Enters, LiesSo}
use Rattle.cfb_mini.specs.FatGrowth.{mini_fat_words, GrowsTable}
use Rattle.cfb_mini.specs.Layers.{IsOver}
use Rattle.cfb_mini.specs.LinkViews.{minis_of}
use Rattle.cfb_mini.specs.Minis.{mini_joined, mini_sector, IsMiniChain}
use Rattle.cfb_mini.specs.NumberViews.{numbers_of}
use Rattle.cfb_mini.specs.Overwriting.{WritesMinis}
use Rattle.cfb_mini.specs.NextSector.{AllocatesMiniSector}
use Rattle.cfb_mini.specs.Views.{allocator_of, directory_of, mini_fat_ids, mini_stream_ids, mini_stream_of, MiniMatchesBytes, OnlyReadsMini}
use Rattle.cfb_mini.specs.declared.links.MiniLinks.{MiniLinks}
use Rattle.cfb_mini.specs.declared.mini_allocator.MiniAllocator.{MiniAllocator}
use Rattle.cfb_mini.specs.declared.mini_fat.MiniFat.{MiniFat}
use Rattle.cfb_mini.proofs.Entries.{content_len}
use Rattle.cfb_mini.proofs.Counts.{counts_beside}
use Rattle.cfb_mini.proofs.KeptFile.{file_beside, file_told}
use Rattle.cfb_mini.proofs.MiniOwners.{becomes_fewer, becomes_more, becomes_none, becomes_same}
use Rattle.cfb_mini.proofs.Strays.{leaves_none, leaves_same}

-- where a chain starts
starts_at : (table : List ℕ) (start : ℕ) (ids : List ℕ) → IsChain table start ids → start ≡ slice_index_or ids 0 end_of_chain
starts_at table start [] chain = chain
starts_at table start (id ∷ ids) chain = sym chain.0

-- what an owner has, where one of them got other sectors
abbrev choose : {A B : Type 0} → A ⊎ B → List ℕ → List ℕ → List ℕ
choose {A} {B} (inl a) xs ys = xs
choose {A} {B} (inr b) xs ys = ys

choose_first : {A B : Type 0} (s : A ⊎ B) (xs ys : List ℕ) → (B → ⊥) → choose s xs ys ≡ xs
choose_first {A} {B} (inl a) xs ys never = refl
choose_first {A} {B} (inr b) xs ys never = absurd (never b)

choose_second : {A B : Type 0} (s : A ⊎ B) (xs ys : List ℕ) → (A → ⊥) → choose s xs ys ≡ ys
choose_second {A} {B} (inl a) xs ys never = absurd (never a)
choose_second {A} {B} (inr b) xs ys never = refl

pub pick : (ℕ → List ℕ) → ℕ → List ℕ → ℕ → List ℕ
pick own key ids k = choose (eqb_tells k key) ids (own k)

pub pick_mine : (own : ℕ → List ℕ) (key : ℕ) (ids : List ℕ) → pick own key ids key ≡ ids
unfolding pick
pick_mine own key ids = choose_first (eqb_tells key key) ids (own key) (λ differ. differ.1 refl)

pub pick_other : (own : ℕ → List ℕ) (key : ℕ) (ids : List ℕ) → (k : ℕ) → (k ≡ key → ⊥) → pick own key ids k ≡ own k
unfolding pick
pick_other own key ids k other = choose_second (eqb_tells k key) ids (own k) (λ same. other same.1)

moves_same : (v : List ℕ → ℕ → List ℕ) (a b : SectorLayer) (own : ℕ → List ℕ) (key : ℕ) → ReplacesChain v [] (own key) [] (own key) a b → ReplacesOwnedChain v [] key (own key) [] a b own own
moves_same v a b own key h = record { becomes = h; mine = refl; others = λ k other. refl }

module _ {F : Type 0} {g : Ghosts F} where
  -- what another owner has stays
  pub others_stay : (a b : Allocator F g) (own : ℕ → List ℕ) (key : ℕ) → OwnDisjointChains (fat_of a) (tables_of a) own → ReplacesChain (sector (version_of a)) [] (own key) [] (own key) (seen_of a) (seen_of b)
      → (k : ℕ) → (k ≡ key → ⊥) → KeepsOwnedSectors (sector (version_of a)) (seen_of a) (seen_of b) (own k)
  unfolding seen_of
  others_stay a b own key owned h = other_left (sector (version_of a)) (seen_of a) (seen_of b) own own key [] (own key) [] owned (moves_same (sector (version_of a)) (seen_of a) (seen_of b) own key h)

  pub still_owned : (a b : Allocator F g) (own : ℕ → List ℕ) (key : ℕ) → OwnDisjointChains (fat_of a) (tables_of a) own → ReplacesChain (sector (version_of a)) [] (own key) [] (own key) (seen_of a) (seen_of b) → OwnDisjointChains (fat_of b) (tables_of b) own
  unfolding seen_of
  still_owned a b own key owned h = owned_changed (sector (version_of a)) (seen_of a) (seen_of b) own own key [] (own key) [] owned (moves_same (sector (version_of a)) (seen_of a) (seen_of b) own key h)

  -- a chain that stays is one of the new FAT, with its bytes
  pub linked_still : (a b : Allocator F g) (ids : List ℕ) → KeepsOwnedSectors (sector (version_of a)) (seen_of a) (seen_of b) ids → IsChainInTable (fat_of b) ids
  unfolding seen_of
  linked_still a b ids h = h.linked

  pub bytes_still : (a b : Allocator F g) (ids : List ℕ) → KeepsFileInvariants a b → KeepsOwnedSectors (sector (version_of a)) (seen_of a) (seen_of b) ids → joined (version_of b) (bytes_of b) ids ≡ joined (version_of a) (bytes_of a) ids
  unfolding seen_of
  bytes_still a b ids goes h = ap (λ v. joined v (bytes_of b) ids) goes.version ∙ h.bytes

  -- memory of the mini FAT where the mini stream was written
  written_over : (a b : Allocator F g) (x y : MiniFat) → IsTrue (is_honest a) → IsOver a x → KeepsFileInvariants a b → LiesSo x y → numbers_of y.numbers ≡ numbers_of x.numbers → KeepsOwnedSectors (sector (version_of a)) (seen_of a) (seen_of b) (ids_of x.links) → HasDataChain b x.stream → IsOver b y
  written_over a b x y honest over goes lies same stays chain = record {
    version = ap links_version lies.links ∙ over.version ∙ sym goes.version;
    stream_version = ap links_version lies.stream ∙ over.stream_version ∙ sym goes.version;
    linked = λ live h. subst (λ l. IsChainInTable (fat_of b) (ids_of l)) (sym lies.links) (linked_still a b (ids_of x.links) stays);
    stream_linked = λ live h. subst (λ l. IsChainInTable (fat_of b) (ids_of l)) (sym lies.stream) chain.has.linked;
    numbers = λ live h. same ∙ over.numbers (goes.live live) honest ∙ ap numbers (sym (bytes_still a b (ids_of x.links) goes stays)) ∙ ap (λ l. fat_in (version_of b) (bytes_of b) (ids_of l)) (sym lies.links);
  }

  -- and where its numbers were
  entered_over : (minis : List ℕ) (a b : Allocator F g) (x y : MiniFat) → IsTrue (is_honest a) → IsOver a x → KeepsFileInvariants a b → LiesSo x y → KeepsOwnedSectors (sector (version_of a)) (seen_of a) (seen_of b) (ids_of x.stream) → Enters minis a b x y → IsOver b y
  entered_over minis a b x y honest over goes lies stays enters = record {
    version = ap links_version lies.links ∙ over.version ∙ sym goes.version;
    stream_version = ap links_version lies.stream ∙ over.stream_version ∙ sym goes.version;
    linked = λ live h. subst (λ l. IsChainInTable (fat_of b) (ids_of l)) (sym lies.links) enters.chain.has.linked;
    stream_linked = λ live h. subst (λ l. IsChainInTable (fat_of b) (ids_of l)) (sym lies.stream) (linked_still a b (ids_of x.stream) stays);
    numbers = λ live h. enters.same (over.numbers (goes.live live) honest) ∙ ap (λ l. fat_in (version_of b) (bytes_of b) (ids_of l)) (sym lies.links);
  }

  -- the same over another layer below, with another mini FAT
  abbrev pub moved : MiniAllocator F g → Allocator F g → MiniFat → MiniAllocator F g
  moved it b mini = record it { directory = directory.with_allocator (directory_of it) b; mini_fat = mini }

  owners_kept : (it : MiniAllocator F g) (b : Allocator F g) (mini : MiniFat) (own : ℕ → List ℕ) (key : ℕ) → 0 < key → HasUniqueOwners it own → KeepsFileInvariants (allocator_of it) b → LiesSo it.mini_fat mini → lent.IsKeptOver (directory_of it)
      → ReplacesChain (sector (version_of (allocator_of it))) [] (own key) [] (own key) (seen_of (allocator_of it)) (seen_of b) → IsOver b mini → HasUniqueOwners (moved it b mini) own
  owners_kept it b mini own key behind h goes lies kept becomes over =
      let a = allocator_of it in record {
        honest = subst IsTrue (sym goes.honest) h.honest;
        memory = record {
          directory = kept b (record { goes_on = goes; stays = λ live honest. subst (KeepsOwnedSectors (sector (version_of a)) (seen_of a) (seen_of b)) h.directory (others_stay a b own key h.owned becomes 0 (λ same. omega (arith, same, behind))) }) h.memory.directory;
          over = over;
          stream_at = λ root found. h.memory.stream_at root found ∙ ap (λ l. slice_index_or (ids_of l) 0 end_of_chain) (sym lies.stream);
        };
        owned = still_owned a b own key h.owned becomes;
        directory = h.directory;
        mini_fat = h.mini_fat ∙ ap ids_of (sym lies.links);
        mini_stream = h.mini_stream ∙ ap ids_of (sym lies.stream);
      }

  -- a mini chain was written over
  pub overwrites_is : (at : ℕ) (bytes : List ℕ) (it : MiniAllocator F g) (b : Allocator F g) (mini : MiniFat) (links : MiniLinks) (own : ℕ → List ℕ) (len : ℕ) → HasUniqueOwners it own → IsMiniChain (numbers_of it.mini_fat.numbers) len (minis_of links)
      → KeepsFileInvariants (allocator_of it) b → lent.IsKeptOver (directory_of it) → LiesSo it.mini_fat mini → numbers_of mini.numbers ≡ numbers_of it.mini_fat.numbers
      → WritesMinis at bytes (allocator_of it) b it.mini_fat.stream (minis_of links) → MiniOverwrites at bytes it (moved it b mini) links own
  unfolding mini_seen
  overwrites_is at bytes it b mini links own len h mine goes kept lies numbers did =
      let a = allocator_of it in
      let becomes = subst (λ l. ReplacesChain (sector (version_of a)) [] l [] l (seen_of a) (seen_of b)) (sym h.mini_stream) did.becomes in
      let fat = subst (KeepsOwnedSectors (sector (version_of a)) (seen_of a) (seen_of b)) h.mini_fat (others_stay a b own 2 h.owned becomes 1 (λ same. omega (arith, same))) in
      let over = written_over a b it.mini_fat mini h.honest h.memory.over goes lies numbers fat did.chain in
      let same : mini_stream_of (moved it b mini) ≡ content_of b it.mini_fat.stream = ap (λ l. joined (version_of b) (bytes_of b) (ids_of l)) lies.stream in
      let size = ap length same in
      let old = content_len a it.mini_fat.stream h.memory.over.stream_version in
      let new = content_len b it.mini_fat.stream did.chain.has.version in
      record {
        changes = record {
          owners = owners_kept it b mini own 2 (omega arith) h goes lies kept becomes over;
          same = λ k past. refl;
          others = λ k past. others_stay a b own 2 h.owned becomes k (λ same. omega (arith, past, same));
          becomes = becomes_same (mini_seen it) (mini_seen (moved it b mini)) (minis_of links) refl refl (omega (arith, old, new, size)) (record { size = ap length numbers; others = λ n none. ap (λ l. slice_index l n) numbers })
              (λ n none. ap (λ l. mini_sector l n) same ∙ did.others n none) (subst (λ l. IsChainInTable l (minis_of links)) (sym numbers) mine.linked);
        };
        content = ap (λ l. mini_joined l (minis_of links)) same ∙ did.content;
        there = did.there;
        entries = refl;
        file = file_beside it (moved it b mini) _ goes becomes.leaves refl (ap ids_of lies.links) (ap ids_of lies.stream) refl;
        strays = leaves_same a b own 2 becomes;
      }

  -- mini sectors were freed
  pub frees_is : (minis : List ℕ) (it : MiniAllocator F g) (b : Allocator F g) (mini : MiniFat) (own : ℕ → List ℕ) → HasUniqueOwners it own → KeepsFileInvariants (allocator_of it) b → lent.IsKeptOver (directory_of it) → LiesSo it.mini_fat mini
      → Enters minis (allocator_of it) b it.mini_fat mini → HaveEntry free (numbers_of mini.numbers) minis → FreesMiniSectors minis it (moved it b mini) own
  unfolding mini_seen
  frees_is minis it b mini own h goes kept lies did freed =
      let a = allocator_of it in
      let becomes = subst (λ l. ReplacesChain (sector (version_of a)) [] l [] l (seen_of a) (seen_of b)) (sym h.mini_fat) did.becomes in
      let stream = subst (KeepsOwnedSectors (sector (version_of a)) (seen_of a) (seen_of b)) h.mini_stream (others_stay a b own 1 h.owned becomes 2 (λ same. omega (arith, same))) in
      let over = entered_over minis a b it.mini_fat mini h.honest h.memory.over goes lies stream did in
      let same : mini_stream_of (moved it b mini) ≡ mini_stream_of it = ap (λ l. joined (version_of b) (bytes_of b) (ids_of l)) lies.stream ∙ bytes_still a b (ids_of it.mini_fat.stream) goes stream in
      let size = ap length same in
      record {
        changes = record {
          owners = owners_kept it b mini own 1 (omega arith) h goes lies kept becomes over;
          same = λ k past. refl;
          others = λ k past. others_stay a b own 1 h.owned becomes k (λ same. omega (arith, past, same));
          becomes = becomes_none (mini_seen it) (mini_seen (moved it b mini)) minis refl refl (omega (arith, size)) did.differ (λ n none. ap (λ l. mini_sector l n) same);
        };
        freed = freed;
        becomes = becomes;
        entries = refl;
        counts = counts_beside it (moved it b mini) _ goes becomes.leaves refl (ap ids_of lies.links);
      }

  -- a mini chain ended sooner
  pub shortens_is : (count : ℕ) (minis later : List ℕ) (it : MiniAllocator F g) (b : Allocator F g) (mini : MiniFat) (own : ℕ → List ℕ) → HasUniqueOwners it own → IsChainInTable (numbers_of it.mini_fat.numbers) minis → KeepsFileInvariants (allocator_of it) b → lent.IsKeptOver (directory_of it)
      → LiesSo it.mini_fat mini → CutsMinis count (allocator_of it) b it.mini_fat mini minis later → Shortens count it (moved it b mini) minis later own
  unfolding mini_seen
  shortens_is count minis later it b mini own h linked goes kept lies did =
      let a = allocator_of it in
      let becomes = subst (λ l. ReplacesChain (sector (version_of a)) [] l [] l (seen_of a) (seen_of b)) (sym h.mini_fat) did.enters.becomes in
      let stream = subst (KeepsOwnedSectors (sector (version_of a)) (seen_of a) (seen_of b)) h.mini_stream (others_stay a b own 1 h.owned becomes 2 (λ same. omega (arith, same))) in
      let over = entered_over minis a b it.mini_fat mini h.honest h.memory.over goes lies stream did.enters in
      let same : mini_stream_of (moved it b mini) ≡ mini_stream_of it = ap (λ l. joined (version_of b) (bytes_of b) (ids_of l)) lies.stream ∙ bytes_still a b (ids_of it.mini_fat.stream) goes stream in
      let size = ap length same in
      record {
        minis_are = did.minis_are;
        changes = record {
          owners = owners_kept it b mini own 1 (omega arith) h goes lies kept becomes over;
          same = λ k past. refl;
          others = λ k past. others_stay a b own 1 h.owned becomes k (λ same. omega (arith, past, same));
          becomes = becomes_fewer (mini_seen it) (mini_seen (moved it b mini)) minis refl refl (omega (arith, size)) did.enters.differ (λ n none. ap (λ l. mini_sector l n) same) later
              (subst (AreSubsetOf minis) (sym did.minis_are) (among_start minis count)) (did.linked linked);
        };
        freed = did.freed;
        becomes = becomes;
        bytes = same;
        entries = refl;
        counts = counts_beside it (moved it b mini) _ goes becomes.leaves refl (ap ids_of lies.links);
      }

  -- memory of the mini FAT over reads
  pub over_rests : (a b : Allocator F g) (x y : MiniFat) → OnlyReadsAllocator a b → LiesSo x y → numbers_of y.numbers ≡ numbers_of x.numbers → IsOver a x → IsOver b y
  over_rests a b x y rests lies same over =
      let before : has_failed_here b ≡ false → has_failed_here a ≡ false = λ live. sym rests.sectors.failed ∙ live in
      let honest : IsTrue (is_honest b) → IsTrue (is_honest a) = subst IsTrue rests.sectors.honest in record {
        version = ap links_version lies.links ∙ over.version ∙ sym rests.sectors.version;
        stream_version = ap links_version lies.stream ∙ over.stream_version ∙ sym rests.sectors.version;
        linked = λ live h. subst (λ l. IsChainInTable (fat_of b) (ids_of l)) (sym lies.links) (subst (λ l. IsChainInTable l (ids_of x.links)) (sym rests.fat) (over.linked (before live) (honest h)));
        stream_linked = λ live h. subst (λ l. IsChainInTable (fat_of b) (ids_of l)) (sym lies.stream) (subst (λ l. IsChainInTable l (ids_of x.stream)) (sym rests.fat) (over.stream_linked (before live) (honest h)));
        numbers = λ live h. same ∙ over.numbers (before live) (honest h) ∙ ap (λ l. fat_in (version_of a) l (ids_of x.links)) (sym (rests.sectors.bytes (honest h)))
            ∙ ap (λ v. fat_in v (bytes_of b) (ids_of x.links)) (sym rests.sectors.version) ∙ ap (λ l. fat_in (version_of b) (bytes_of b) (ids_of l)) (sym lies.links);
      }

  -- a directory over a layer that only reads happened to
  directory_rests : (d : Directory F g) (b : Allocator F g) → OnlyReadsAllocator (directory.allocator_of d) b → directory.DirectoryMatchesBytes d → directory.DirectoryMatchesBytes (directory.with_allocator d b)
  directory_rests d b rests is =
      let a = directory.allocator_of d in
      let goes = rests_go_on a b rests in
      let ids = directory.directory_ids d in
      let before : IsTrue (is_honest b) → IsTrue (is_honest a) = subst IsTrue goes.honest in record {
        version = λ live honest. is.version (goes.live live) (before honest) ∙ sym goes.version;
        linked = λ live honest. subst (λ l. IsChainInTable l ids) (sym rests.fat) (is.linked (goes.live live) (before honest));
        entries = λ live honest.
            is.entries (goes.live live) (before honest) ∙ ap (λ l. entries_of (version_of a) (joined (version_of a) l ids)) (sym (rests.sectors.bytes (before honest)))
            ∙ ap (λ u. entries_of u (joined u (bytes_of b) ids)) (sym goes.version);
      }

  -- only reads happened
  pub rests_is : (it : MiniAllocator F g) (b : Allocator F g) (mini : MiniFat) → OnlyReadsAllocator (allocator_of it) b → LiesSo it.mini_fat mini → numbers_of mini.numbers ≡ numbers_of it.mini_fat.numbers → OnlyReadsMini it (moved it b mini)
  rests_is it b mini rests lies same =
      let a = allocator_of it in
      record {
        directory = record { allocator = rests; ids = refl; entries = refl; kept = directory_rests (directory_of it) b rests };
        mini_fat_ids = ap ids_of lies.links;
        mini_fat = same;
        mini_stream_ids = ap ids_of lies.stream;
        kept = λ is. record { directory = directory_rests (directory_of it) b rests is.directory; over = over_rests a b it.mini_fat mini rests lies same is.over; stream_at = λ root found. is.stream_at root found ∙ ap (λ l. slice_index_or (ids_of l) 0 end_of_chain) (sym lies.stream) };
      }

  -- memory is that of the bytes still, over what a change of others leaves
  pub kept_over : (it : MiniAllocator F g) → lent.IsKeptOver (directory_of it) → IsKeptOver it
  kept_over it kept later leaves is =
      let goes = leaves.goes_on in
      let a = allocator_of it in
      let before : IsTrue (is_honest later) → IsTrue (is_honest a) = subst IsTrue goes.honest in record {
        directory = kept later (record { goes_on = goes; stays = leaves.directory }) is.directory;
        over = record {
          version = is.over.version ∙ sym goes.version;
          stream_version = is.over.stream_version ∙ sym goes.version;
          linked = λ live h. linked_still a later (mini_fat_ids it) (leaves.mini_fat live (before h));
          stream_linked = λ live h. linked_still a later (mini_stream_ids it) (leaves.mini_stream live (before h));
          numbers = λ live h. is.over.numbers (goes.live live) (before h) ∙ ap numbers (sym (bytes_still a later (mini_fat_ids it) goes (leaves.mini_fat live (before h))));
        };
        stream_at = is.stream_at;
      }

  -- the chains of the mini FAT and of the mini stream
  pub fat_chain : (it : MiniAllocator F g) (own : ℕ → List ℕ) → HasUniqueOwners it own → HasDataChain (allocator_of it) it.mini_fat.links
  fat_chain it own h = record {
    has = record { honest = h.honest; version = h.memory.over.version; linked = subst (IsChainInTable (fat_of (allocator_of it))) h.mini_fat (h.owned.linked 1) };
    beside = subst (AreDisjoint (tables_of (allocator_of it))) h.mini_fat (h.owned.beside 1);
  }

  pub stream_chain : (it : MiniAllocator F g) (own : ℕ → List ℕ) → HasUniqueOwners it own → HasDataChain (allocator_of it) it.mini_fat.stream
  stream_chain it own h = record {
    has = record { honest = h.honest; version = h.memory.over.stream_version; linked = subst (IsChainInTable (fat_of (allocator_of it))) h.mini_stream (h.owned.linked 2) };
    beside = subst (AreDisjoint (tables_of (allocator_of it))) h.mini_stream (h.owned.beside 2);
  }

  pub stream_links : (it : MiniAllocator F g) → has_failed_here (allocator_of it) ≡ false → IsTrue (is_honest (allocator_of it)) → MiniMatchesBytes it → HasFatChain (allocator_of it) it.mini_fat.stream
  stream_links it live honest is = record { honest = honest; version = is.over.stream_version; linked = is.over.stream_linked live honest }

  -- the mini FAT as it was read
  pub opened_is : (d : Directory F g) (b : Allocator F g) (alloc : Global) (mini : MiniFat) (first start : ℕ) → OnlyReadsAllocator (directory.allocator_of d) b → IsChain (fat_of (directory.allocator_of d)) first (ids_of mini.links) → IsChain (fat_of (directory.allocator_of d)) start (ids_of mini.stream)
      → links_version mini.links ≡ version_of (directory.allocator_of d) → links_version mini.stream ≡ version_of (directory.allocator_of d)
      → (IsTrue (is_honest (directory.allocator_of d)) → numbers_of mini.numbers ≡ fat_in (version_of (directory.allocator_of d)) (bytes_of (directory.allocator_of d)) (ids_of mini.links))
      → ((root : Entry) → slice_get (directory.entries_held d) 0 ≡ Some root → root.start ≡ start) → directory.DirectoryMatchesBytes d
      → MiniMatchesBytes (record { alloc = alloc; directory = directory.with_allocator d b; mini_fat = mini })
  opened_is d b alloc mini first start rests chain stream version stream_version numbers root held =
      let a = directory.allocator_of d in record {
        directory = directory_rests d b rests held;
        over = over_rests a b mini mini rests (record { links = refl; stream = refl }) refl (record {
          version = version;
          stream_version = stream_version;
          linked = λ live h. linked_of (fat_of a) first (ids_of mini.links) chain;
          stream_linked = λ live h. linked_of (fat_of a) start (ids_of mini.stream) stream;
          numbers = λ live h. numbers h;
        });
        stream_at = λ e found. root e found ∙ starts_at (fat_of a) start (ids_of mini.stream) stream;
      }

  -- a mini sector was taken into use
  pub extends_is : (minis later : List ℕ) (it : MiniAllocator F g) (b : Allocator F g) (mini : MiniFat) (own : ℕ → List ℕ) → HasUniqueOwners it own → KeepsFileInvariants (allocator_of it) b → lent.IsKeptOver (directory_of it) → LiesSo it.mini_fat mini
      → AllocatesMiniSector (allocator_of it) b it.mini_fat mini minis later → AppendsFreeMiniSector it (moved it b mini) minis later own
  unfolding mini_seen
  extends_is minis later it b mini own h goes kept lies did =
      let a = allocator_of it in
      let becomes = subst (λ l. ReplacesChain (sector (version_of a)) [] l [] l (seen_of a) (seen_of b)) (sym h.mini_fat) did.enters.becomes in
      let stream = subst (KeepsOwnedSectors (sector (version_of a)) (seen_of a) (seen_of b)) h.mini_stream (others_stay a b own 1 h.owned becomes 2 (λ same. omega (arith, same))) in
      let over = entered_over (minis ++ did.taken ∷ []) a b it.mini_fat mini h.honest h.memory.over goes lies stream did.enters in
      let same : mini_stream_of (moved it b mini) ≡ mini_stream_of it = ap (λ l. joined (version_of b) (bytes_of b) (ids_of l)) lies.stream ∙ bytes_still a b (ids_of it.mini_fat.stream) goes stream in
      record {
        taken = did.taken;
        was_free = did.was_free;
        first = did.first;
        minis_are = did.minis_are;
        changes = record {
          owners = owners_kept it b mini own 1 (omega arith) h goes lies kept becomes over;
          same = λ k past. refl;
          others = λ k past. others_stay a b own 1 h.owned becomes k (λ same. omega (arith, past, same));
          becomes = becomes_more (mini_seen it) (mini_seen (moved it b mini)) minis later did.taken refl refl same did.enters.differ did.was_free.found did.minis_are did.linked;
        };
        bytes = same;
        entries = refl;
        file = file_beside it (moved it b mini) _ goes becomes.leaves refl (ap ids_of lies.links) (ap ids_of lies.stream) refl;
        strays = leaves_same a b own 1 becomes;
      }

  -- the mini FAT took in a sector
  pub grows_fat_is : (it : MiniAllocator F g) (b : Allocator F g) (mini : MiniFat) (own : ℕ → List ℕ) → HasUniqueOwners it own → KeepsFileInvariants (allocator_of it) b → lent.IsKeptOver (directory_of it) → GrowsTable (allocator_of it) b it.mini_fat mini → GrowsMiniFat it (moved it b mini) own
  unfolding seen_of
  grows_fat_is it b mini own h goes kept did =
      let a = allocator_of it in
      let v = version_of a in
      let ids = ids_of mini.links in
      let becomes : ReplacesChain (sector v) mini_fat_words (own 1) did.more ids (seen_of a) (seen_of b) = subst (λ l. ReplacesChain (sector v) mini_fat_words l did.more ids (seen_of a) (seen_of b)) (sym h.mini_fat) did.becomes in
      let moves : ReplacesOwnedChain (sector v) mini_fat_words 1 ids did.more (seen_of a) (seen_of b) own (pick own 1 ids) = record { becomes = becomes; mine = pick_mine own 1 ids; others = pick_other own 1 ids } in
      let stays : (k : ℕ) → (k ≡ 1 → ⊥) → KeepsOwnedSectors (sector v) (seen_of a) (seen_of b) (own k) = other_left (sector v) (seen_of a) (seen_of b) own (pick own 1 ids) 1 mini_fat_words ids did.more h.owned moves in
      let directory_stays : KeepsOwnedSectors (sector v) (seen_of a) (seen_of b) (directory.directory_ids (directory_of it)) = subst (KeepsOwnedSectors (sector v) (seen_of a) (seen_of b)) h.directory (stays 0 (λ same. omega (arith, same))) in
      let stream_stays : KeepsOwnedSectors (sector v) (seen_of a) (seen_of b) (ids_of it.mini_fat.stream) = subst (KeepsOwnedSectors (sector v) (seen_of a) (seen_of b)) h.mini_stream (stays 2 (λ same. omega (arith, same))) in
      let over : IsOver b mini = record {
        version = did.chain.has.version;
        stream_version = ap links_version did.stream ∙ h.memory.over.stream_version ∙ sym goes.version;
        linked = λ live honest. did.chain.has.linked;
        stream_linked = λ live honest. subst (λ l. IsChainInTable (fat_of b) (ids_of l)) (sym did.stream) (linked_still a b (ids_of it.mini_fat.stream) stream_stays);
        numbers = λ live honest. did.same (h.memory.over.numbers (goes.live live) h.honest);
      } in
      record {
        more = did.more;
        sectors = did.sectors;
        owners = λ then mine others. record {
          honest = did.chain.has.honest;
          memory = record {
            directory = kept b (record { goes_on = goes; stays = λ live honest. directory_stays }) h.memory.directory;
            over = over;
            stream_at = λ root found. h.memory.stream_at root found ∙ ap (λ l. slice_index_or (ids_of l) 0 end_of_chain) (sym did.stream);
          };
          owned = owned_changed (sector v) (seen_of a) (seen_of b) own then 1 mini_fat_words ids did.more h.owned (record { becomes = becomes; mine = mine; others = others });
          directory = others 0 (λ same. omega (arith, same)) ∙ h.directory;
          mini_fat = mine;
          mini_stream = others 2 (λ same. omega (arith, same)) ∙ h.mini_stream ∙ ap ids_of (sym did.stream);
        };
        others = stays;
        numbers = did.numbers;
        stream = ap (λ l. joined (version_of b) (bytes_of b) (ids_of l)) did.stream ∙ bytes_still a b (ids_of it.mini_fat.stream) goes stream_stays;
        told = did.told;
        entries = refl;
        file = file_told it (moved it b mini) _ goes becomes.leaves did.told refl (ap ids_of did.stream) refl;
        strays = λ then mine others. leaves_none a b mini_fat_words own then 1 did.more ids becomes (did.sectors ∙ ap (λ l. l ++ did.more) (sym h.mini_fat)) mine others;
      }

  -- only reads happened, and the mini FAT is the same
  pub rests_same : (it : MiniAllocator F g) (b : Allocator F g) (mini : MiniFat) → OnlyReadsAllocator (allocator_of it) b → ids_of mini.links ≡ ids_of it.mini_fat.links → links_version mini.links ≡ links_version it.mini_fat.links → mini.stream ≡ it.mini_fat.stream
      → numbers_of mini.numbers ≡ numbers_of it.mini_fat.numbers → OnlyReadsMini it (moved it b mini)
  rests_same it b mini rests ids version stream numbers =
      let base = rests_is it b it.mini_fat rests (record { links = refl; stream = refl }) refl in record {
        directory = base.directory;
        mini_fat_ids = ids;
        mini_fat = numbers;
        mini_stream_ids = ap ids_of stream;
        kept = λ is.
            let old = base.kept is in record {
              directory = old.directory;
              over = record {
                version = version ∙ old.over.version;
                stream_version = ap links_version stream ∙ old.over.stream_version;
                linked = λ live h. subst (IsChainInTable (fat_of b)) (sym ids) (old.over.linked live h);
                stream_linked = λ live h. subst (λ l. IsChainInTable (fat_of b) (ids_of l)) (sym stream) (old.over.stream_linked live h);
                numbers = λ live h. numbers ∙ old.over.numbers live h ∙ ap (fat_in (version_of b) (bytes_of b)) (sym ids);
              };
              stream_at = λ root found. old.stream_at root found ∙ ap (λ l. slice_index_or (ids_of l) 0 end_of_chain) (sym stream);
            };
      }

  -- only reads happened, and the mini stream's sectors are the same
  pub rests_stream : (it : MiniAllocator F g) (b : Allocator F g) (mini : MiniFat) → OnlyReadsAllocator (allocator_of it) b → mini.links ≡ it.mini_fat.links → ids_of mini.stream ≡ ids_of it.mini_fat.stream → links_version mini.stream ≡ links_version it.mini_fat.stream
      → numbers_of mini.numbers ≡ numbers_of it.mini_fat.numbers → OnlyReadsMini it (moved it b mini)
  rests_stream it b mini rests links ids version numbers =
      let base = rests_is it b it.mini_fat rests (record { links = refl; stream = refl }) refl in record {
        directory = base.directory;
        mini_fat_ids = ap ids_of links;
        mini_fat = numbers;
        mini_stream_ids = ids;
        kept = λ is.
            let old = base.kept is in record {
              directory = old.directory;
              over = record {
                version = ap links_version links ∙ old.over.version;
                stream_version = version ∙ old.over.stream_version;
                linked = λ live h. subst (λ l. IsChainInTable (fat_of b) (ids_of l)) (sym links) (old.over.linked live h);
                stream_linked = λ live h. subst (IsChainInTable (fat_of b)) (sym ids) (old.over.stream_linked live h);
                numbers = λ live h. numbers ∙ old.over.numbers live h ∙ ap (λ l. fat_in (version_of b) (bytes_of b) (ids_of l)) (sym links);
              };
              stream_at = λ root found. old.stream_at root found ∙ ap (λ l. slice_index_or l 0 end_of_chain) (sym ids);
            };
      }

  -- a chain of sectors was freed
  pub frees_chain_is : (key : ℕ) (it : MiniAllocator F g) (b : Allocator F g) (before after : Links) (own : ℕ → List ℕ) → HasUniqueOwners it own → 2 < key → own key ≡ ids_of before → KeepsFileInvariants (allocator_of it) b → lent.IsKeptOver (directory_of it)
      → ids_of after ≡ [] → Resizes Zero 0 (allocator_of it) b before after → FreesChain key it (with_allocator it b) own
  unfolding seen_of
  frees_chain_is key it b before after own h past is goes kept none did =
      let a = allocator_of it in
      let v = version_of a in
      let more : did.more ≡ [] = sym did.sectors ∙ none in
      let becomes : ReplacesChain (sector v) [] (own key) [] [] (seen_of a) (seen_of b) =
      subst (λ l. ReplacesChain (sector v) [] l [] [] (seen_of a) (seen_of b)) (sym is)
      (subst (λ l. ReplacesChain (sector v) [] (ids_of before) [] l (seen_of a) (seen_of b)) none (subst (λ l. ReplacesChain (sector v) [] (ids_of before) l (ids_of after) (seen_of a) (seen_of b)) more did.becomes)) in
      let stays : (k : ℕ) → (k ≡ key → ⊥) → KeepsOwnedSectors (sector v) (seen_of a) (seen_of b) (own k) =
      other_left (sector v) (seen_of a) (seen_of b) own (pick own key []) key [] [] [] h.owned (record { becomes = becomes; mine = pick_mine own key []; others = pick_other own key [] }) in
      record {
        becomes = becomes;
        freed = subst (HaveEntry free (fat_of b)) (sym is) did.freed;
        owners = λ then mine others. record {
          honest = subst IsTrue (sym goes.honest) h.honest;
          memory = kept_over it kept b (record {
            goes_on = goes;
            directory = λ live honest. subst (KeepsOwnedSectors (sector v) (seen_of a) (seen_of b)) h.directory (stays 0 (λ same. omega (arith, same, past)));
            mini_fat = λ live honest. subst (KeepsOwnedSectors (sector v) (seen_of a) (seen_of b)) h.mini_fat (stays 1 (λ same. omega (arith, same, past)));
            mini_stream = λ live honest. subst (KeepsOwnedSectors (sector v) (seen_of a) (seen_of b)) h.mini_stream (stays 2 (λ same. omega (arith, same, past)));
          }) h.memory;
          owned = owned_changed (sector v) (seen_of a) (seen_of b) own then key [] [] [] h.owned (record { becomes = becomes; mine = mine; others = others });
          directory = others 0 (λ same. omega (arith, same, past)) ∙ h.directory;
          mini_fat = others 1 (λ same. omega (arith, same, past)) ∙ h.mini_fat;
          mini_stream = others 2 (λ same. omega (arith, same, past)) ∙ h.mini_stream;
        };
        mini_fat = refl;
        entries = refl;
        counts = counts_beside it (with_allocator it b) _ goes becomes.leaves refl refl;
      }

  -- an owner's chain of sectors
  pub own_chain : (it : MiniAllocator F g) (own : ℕ → List ℕ) (key : ℕ) (links : Links) → HasUniqueOwners it own → own key ≡ ids_of links → links_version links ≡ version_of (allocator_of it) → HasDataChain (allocator_of it) links
  own_chain it own key links h is version = record {
    has = record { honest = h.honest; version = version; linked = subst (IsChainInTable (fat_of (allocator_of it))) is (h.owned.linked key) };
    beside = subst (AreDisjoint (tables_of (allocator_of it))) is (h.owned.beside key);
  }
