-- A file of which one stream gave up its sectors stands.
use Rattle.std.proofs.Common.{◌≡◌, ℕ, ◌+◌, ◌*◌, ◌<◌, ◌≤◌, inl, inr, false, List, [], ◌∷◌, length, zero, suc, refl, ap, sym, subst, ◌∙◌, arith, ⊎_elim, IsTrue}
use Rattle.std.specs.Prelude.{slice_get, slice_index, Some}
use Rattle.std.specs.List.{AllByRecursion}
use Rattle.std.proofs.lemmas.Bool.Decides.{eqb_tells}
use Rattle.std.proofs.lemmas.Option.{slice_get_within}
use Rattle.cfb_medium.specs.Versions.{sector_len}
use Rattle.cfb_medium.specs.declared.medium.ReadMedium.{Ghosts}
use Rattle.cfb_sectors.specs.Header.{mini_cutoff, IsHeader}
use Rattle.cfb_sectors.specs.Sectors.{free, sector, Chain}
use Rattle.cfb_chains.specs.Changes.{HaveEntry}
use Rattle.cfb_chains.specs.Owned.{ReplacesChain, ReplacesOwnedChain, OwnDisjointChains, KeepsOwnedSectors}
use Rattle.cfb_chains.proofs.Owners.{other_left, owned_changed}
use Rattle.cfb_fat.specs.Orderly.{AreBelow}
use Rattle.cfb_fat.specs.Seeing.{seen_of}
use Rattle.cfb_fat.specs.Tables.{bytes_of, fat_of, has_failed_here, version_of}
use Rattle.cfb_chain_io.specs.ChainEffects.{KeepsFileInvariants}
use Rattle.cfb_directory.specs.Entries.{SizesFit}
use Rattle.cfb_directory.specs.Views.{entries_held}
use Rattle.cfb_mini.specs.Changing.{mini_seen, FreesMiniSectors, FreesChain, HasUniqueOwners}
use Rattle.cfb_mini.specs.Minis.{all_words, mini_sector, AreInside, IsMiniChain}
use Rattle.cfb_mini.specs.Views.{allocator_of, directory_of, mini_fat_of, mini_stream_ids, mini_stream_len}
use Rattle.cfb_mini.specs.declared.mini_allocator.MiniAllocator.{MiniAllocator}
use Rattle.cfb_mini.proofs.Headers.{header_stays, u32_same, KeepsFront}
use Rattle.cfb_mini.proofs.Keeping.{pick, pick_mine, pick_other}
use Rattle.cfb_ownership.specs.Held.{OwnerHasStream}
use Rattle.cfb_ownership.specs.Owners.{first_of, mini_stream_owner, stream_owner, Owners}
use Rattle.cfb_tree.specs.Directory.{Entry}
use Rattle.cfb_tree_edits.specs.Freeing.{FreesStream, HasFileInvariant}
use Rattle.cfb_tree_edits.specs.Live.{live_of}
use Rattle.cfb_tree_edits.proofs.KeptNow.{kept_now}
use Rattle.cfb_tree_edits.proofs.Strays.{long_strays, short_strays}
use Rattle.cfb_tree_edits.proofs.StrictFacts.{header_here}

-- the sectors of a chain have entries
pub chain_below : (table : List ℕ) (start : ℕ) (xs : List ℕ) → Chain table start xs → AreBelow (length table) xs
chain_below table start [] chain = λ k below. absurd (omega (arith, below))
chain_below table start (x ∷ xs) (is, regular, next, found, rest) = by_place (chain_below table next xs rest)
  where
    by_place : AreBelow (length table) xs → (k : ℕ) → k < length (x ∷ xs) → slice_index (x ∷ xs) k < length table
    by_place later zero below = slice_get_within table x next (subst (λ s. slice_get table s ≡ Some next) (sym is) found)
    by_place later (suc k) below = later k (omega (arith, below))

pub inside_all : (len : ℕ) (ids : List ℕ) → AllByRecursion (λ n. 64 * n + 64 ≤ len) ids → AreInside len ids
inside_all len [] all = λ k below. absurd (omega (arith, below))
inside_all len (x ∷ ids) (here, rest) = by_place (inside_all len ids rest)
  where
    by_place : AreInside len ids → (k : ℕ) → k < length (x ∷ ids) → 64 * slice_index (x ∷ ids) k + 64 ≤ len
    by_place later zero below = here
    by_place later (suc k) below = later k (omega (arith, below))

-- no sectors have whatever entry
pub none_have : (entry : ℕ) (table xs : List ℕ) → xs ≡ [] → HaveEntry entry table xs
none_have entry table xs none k below = let size = ap length none in absurd (omega (arith, size, below))

-- what an owner has that gave up what it had
given_up : (P : List ℕ → Type 0) (own : ℕ → List ℕ) (key : ℕ) → P [] → ((k : ℕ) → P (own k)) → (k : ℕ) → P (pick own key [] k)
given_up P own key none all k =
    ⊎_elim (λ same. subst P (sym (ap (pick own key []) same.1 ∙ pick_mine own key [])) none) (λ differ. subst P (sym (pick_other own key [] k differ.1)) (all k)) (eqb_tells k key)

module _ {F : Type 0} {g : Ghosts F} (old new : MiniAllocator F g) (who now : Owners) (m : HasFileInvariant old who) (goes : KeepsFileInvariants (allocator_of old) (allocator_of new)) (live : has_failed_here (allocator_of new) ≡ false)
    (key : ℕ) (later : List ℕ) (becomes : ReplacesChain (sector (version_of (allocator_of old))) [] (who.sectors key) [] later (seen_of (allocator_of old)) (seen_of (allocator_of new)))
    (mine : now.sectors key ≡ later) (others : (k : ℕ) → (k ≡ key → ⊥) → now.sectors k ≡ who.sectors k) where
  stays : (k : ℕ) → (k ≡ key → ⊥) → KeepsOwnedSectors (sector (version_of (allocator_of old))) (seen_of (allocator_of old)) (seen_of (allocator_of new)) (who.sectors k)
  unfolding seen_of
  stays k other =
      let v = version_of (allocator_of old) in
      let moves : ReplacesOwnedChain (sector v) [] key later [] (seen_of (allocator_of old)) (seen_of (allocator_of new)) who.sectors now.sectors = record { becomes = becomes; mine = mine; others = others } in
      other_left (sector v) (seen_of (allocator_of old)) (seen_of (allocator_of new)) who.sectors now.sectors key [] later [] m.owners.owned moves k other

  longer : length (bytes_of (allocator_of old)) ≤ length (bytes_of (allocator_of new))
  unfolding seen_of
  longer = becomes.leaves.longer

  keeps_front : KeepsFront 68 (bytes_of (allocator_of old)) (bytes_of (allocator_of new))
  unfolding seen_of
  keeps_front place count front beside = becomes.leaves.header place count front (⊎_elim (λ before. inl (omega (arith, before))) (λ behind. inr (omega (arith, behind))) beside, tt)

  stands_now : HasUniqueOwners new now.sectors → now.sectors 0 ≡ who.sectors 0 → first_of (now.sectors 1) ≡ first_of (who.sectors 1) → now.sectors mini_stream_owner ≡ who.sectors mini_stream_owner
      → entries_held (directory_of new) ≡ entries_held (directory_of old) → OwnDisjointChains (mini_fat_of new) [] now.minis
      → ((n : ℕ) → ((k : ℕ) → AllByRecursion (λ x. 64 * x + 64 ≤ n) (who.minis k)) → (k : ℕ) → AllByRecursion (λ x. 64 * x + 64 ≤ n) (now.minis k))
      → (((k : ℕ) → k ≤ mini_stream_owner → who.minis k ≡ []) → (k : ℕ) → k ≤ mini_stream_owner → now.minis k ≡ []) → HasFileInvariant new now
  unfolding live_of
  stands_now has same_directory same_first same_stream entries minis there fixed =
      let a = allocator_of old in
      let b = allocator_of new in
      let was = m.kept in
      let v = version_of a in
      let whole = was.header.whole in
      let orderly = subst IsTrue (sym (goes.orderly live)) m.orderly in
      record {
        live = live;
        orderly = orderly;
        owners = has;
        sizes = subst (λ u. SizesFit u (entries_held (directory_of new))) (sym goes.version) (subst (SizesFit v) (sym entries) m.sizes);
        root = m.root;
        kept = kept_now new now live orderly has m.root
            (subst (λ u. IsHeader u (bytes_of b)) (sym goes.version) (header_stays 68 (omega arith) (bytes_of a) (bytes_of b) whole longer keeps_front (omega arith) v was.header))
            (u32_same 68 (omega arith) (bytes_of a) (bytes_of b) whole longer keeps_front 48 (omega arith) (inr (omega arith)) ∙ was.directory_at ∙ sym (ap first_of same_directory))
            (u32_same 68 (omega arith) (bytes_of a) (bytes_of b) whole longer keeps_front 60 (omega arith) (inr (omega arith)) ∙ was.mini_fat_at ∙ sym same_first)
            (ap (λ l. slice_get l 0) entries ∙ was.root_found) was.root_kind minis
            (there (length (now.sectors mini_stream_owner) * sector_len (version_of b))
            (λ k. subst (λ n. AllByRecursion (λ x. 64 * x + 64 ≤ n) (who.minis k)) (ap (λ u. length (who.sectors mini_stream_owner) * sector_len u) (sym goes.version) ∙ ap (λ l. length l * sector_len (version_of b)) (sym same_stream)) (was.minis_there k)))
            (fixed was.minis_of_streams);
      }

module _ {F : Type 0} {g : Ghosts F} (old new : MiniAllocator F g) (who : Owners) (id : ℕ) (m : HasFileInvariant old who) (goes : KeepsFileInvariants (allocator_of old) (allocator_of new)) (live : has_failed_here (allocator_of new) ≡ false) where
  -- a long stream gave up its sectors
  pub freed_long : who.minis (stream_owner id) ≡ [] → FreesChain (stream_owner id) old new who.sectors → FreesStream id old new who
  unfolding live_of seen_of
  freed_long none did =
      let key = stream_owner id in
      let now : Owners = record { sectors = pick who.sectors key []; minis = who.minis } in
      let mine = pick_mine who.sectors key [] in
      let others = pick_other who.sectors key [] in
      let has : HasUniqueOwners new now.sectors = did.owners now.sectors mine others in
      record {
        now = now;
        stands = stands_now old new who now m goes live key [] did.becomes mine others has (others 0 (λ same. omega (arith, same))) (ap first_of (others 1 (λ same. omega (arith, same)))) (others mini_stream_owner (λ same. omega (arith, same)))
            did.entries (subst (λ t. OwnDisjointChains t [] who.minis) (sym did.mini_fat) m.kept.minis_owned) (λ n all. all) (λ all. all);
        carries = record {
          version = goes.version;
          longer = longer old new who now m goes live key [] did.becomes mine others;
          sectors = λ k past other. others k other;
          minis = λ k other. refl;
          joined = λ k past other. (stays old new who now m goes live key [] did.becomes mine others k other).bytes;
        };
        nothing = (mine, none);
        freed = record { in_fat = did.freed; in_mini_fat = none_have free (mini_fat_of new) (who.minis key) none };
        strays = long_strays old new who id (header_here old who m) did;
        entries = did.entries;
      }

  -- a short one its mini sectors
  pub freed_short : who.sectors (stream_owner id) ≡ [] → FreesMiniSectors (who.minis (stream_owner id)) old new who.sectors → FreesStream id old new who
  unfolding live_of seen_of mini_seen
  freed_short none did =
      let key = stream_owner id in
      let now : Owners = record { sectors = who.sectors; minis = pick who.minis key [] } in
      let mine = pick_mine who.minis key [] in
      let others = pick_other who.minis key [] in
      let same : (k : ℕ) → (k ≡ 1 → ⊥) → who.sectors k ≡ who.sectors k = λ k other. refl in
      let owned : OwnDisjointChains (mini_fat_of new) [] now.minis =
      owned_changed mini_sector (mini_seen old) (mini_seen new) who.minis now.minis key all_words [] [] m.kept.minis_owned (record { becomes = did.changes.becomes; mine = mine; others = others }) in
      record {
        now = now;
        stands = stands_now old new who now m goes live 1 (who.sectors 1) did.becomes refl same did.changes.owners refl refl refl did.entries owned
            (λ n. given_up (AllByRecursion (λ x. 64 * x + 64 ≤ n)) who.minis key tt)
            (λ all k below. others k (λ is. omega (arith, is, below)) ∙ all k below);
        carries = record {
          version = goes.version;
          longer = longer old new who now m goes live 1 (who.sectors 1) did.becomes refl same;
          sectors = λ k past other. refl;
          minis = others;
          joined = λ k past other. (stays old new who now m goes live 1 (who.sectors 1) did.becomes refl same k (λ is. omega (arith, is, past))).bytes;
        };
        nothing = (none, mine);
        freed = record { in_fat = none_have free (fat_of (allocator_of new)) (who.sectors key) none; in_mini_fat = did.freed };
        strays = short_strays old new who id (header_here old who m) did;
        entries = did.entries;
      }

module _ {F : Type 0} {g : Ghosts F} (it : MiniAllocator F g) (who : Owners) (m : HasFileInvariant it who) where
  -- the mini FAT has the mini chain that an owner has, and the mini stream its mini sectors
  pub own_minis : (k : ℕ) → IsMiniChain (mini_fat_of it) (mini_stream_len it) (who.minis k)
  unfolding live_of
  own_minis k = record {
    linked = m.kept.minis_owned.linked k;
    inside = inside_all (mini_stream_len it) (who.minis k)
        (subst (λ n. AllByRecursion (λ x. 64 * x + 64 ≤ n) (who.minis k))
        (ap (λ l. length l * sector_len (version_of (allocator_of it))) m.owners.mini_stream ∙ ap (λ v. length (mini_stream_ids it) * sector_len v) (sym m.owners.memory.over.stream_version)) (m.kept.minis_there k));
  }

  -- where a stream begins, and what it hasn't
  pub is_short : (id : ℕ) (e : Entry) (content : List ℕ) → OwnerHasStream (live_of it) who id e content → e.size < mini_cutoff → (who.sectors (stream_owner id) ≡ []) × (e.start ≡ first_of (who.minis (stream_owner id)))
  is_short id e content h below = let at = h.short below in (at.0, at.1.start)

  pub is_long : (id : ℕ) (e : Entry) (content : List ℕ) → OwnerHasStream (live_of it) who id e content → mini_cutoff ≤ e.size → (who.minis (stream_owner id) ≡ []) × (e.start ≡ first_of (who.sectors (stream_owner id)))
  is_long id e content h up = let at = h.long up in (at.0, at.1.start)
