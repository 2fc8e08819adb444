-- The sectors of one stream were changed by the layer below, over which all else stays.
use Rattle.std.proofs.Common.{◌≡◌, ℕ, ◌+◌, ◌*◌, ◌≤◌, inl, inr, false, List, [], ◌∷◌, ◌++◌, drop, length, take, refl, ap, sym, subst, ◌∙◌, ⊎_elim, arith, IsTrue}
use Rattle.std.specs.Prelude.{slice_index}
use Rattle.std.specs.List.{AllByRecursion}
use Rattle.std.proofs.lemmas.List.{take-append-drop}
use Rattle.cfb_chains.specs.Changes.{HaveEntry, IsNotIn}
use Rattle.cfb_chains.specs.Owned.{ReplacesChain, ReplacesOwnedChain as MovesOne, OwnDisjointChains, KeepsOwnedSectors}
use Rattle.cfb_chains.specs.Positions.{sectors_for}
use Rattle.cfb_chains.proofs.Beside.{none_both, none_first, none_second}
use Rattle.cfb_chains.proofs.Owners.{other_left, owned_changed}
use Rattle.cfb_directory.specs.Entries.{SizesFit}
use Rattle.cfb_directory.specs.Views.{entries_held}
use Rattle.cfb_fat.specs.Seeing.{seen_of}
use Rattle.cfb_fat.specs.Tables.{bytes_of, fat_of, has_failed_here, tables_of, version_of}
use Rattle.cfb_fat.specs.declared.allocator.Allocator.{Allocator}
use Rattle.cfb_tree_edits.specs.Freeing.{CarriesBut, HasFileInvariant}
use Rattle.cfb_tree_edits.specs.Live.{live_of}
use Rattle.cfb_tree_edits.specs.Orphans.{StaysTidy}
use Rattle.cfb_tree_edits.proofs.KeptNow.{kept_now}
use Rattle.cfb_tree_edits.proofs.Strays.{has_entry}
use Rattle.cfb_tree_edits.proofs.StrictFacts.{header_here, strict_over}
use Rattle.cfb_medium.specs.Versions.{sector_len}
use Rattle.cfb_medium.specs.declared.medium.ReadMedium.{Ghosts}
use Rattle.cfb_medium.specs.declared.version.Version.{Version}
use Rattle.cfb_medium.specs.declared.version.Version.TheVariants.{V3, V4}
use Rattle.cfb_mini.specs.Changing.{with_allocator, HasUniqueOwners, IsKeptOver}
use Rattle.cfb_mini.specs.Views.{allocator_of, directory_of}
use Rattle.cfb_mini.specs.declared.mini_allocator.MiniAllocator.{MiniAllocator}
use Rattle.cfb_mini.proofs.Counts.{counts_beside}
use Rattle.cfb_mini.proofs.Headers.{header_stays, u32_same, KeepsFront}
use Rattle.cfb_mini.proofs.Keeping.{pick, pick_mine, pick_other}
use Rattle.cfb_mini.proofs.Strays.{strays_before}
use Rattle.cfb_chain_io.specs.ChainEffects.{KeepsFileInvariants}
use Rattle.cfb_ownership.specs.Owners.{first_of, mini_stream_owner, stream_owner, Owners}
use Rattle.cfb_sectors.specs.Header.{IsHeader}
use Rattle.cfb_sectors.specs.Sectors.{free, sector}
use Rattle.cfb_stream_writes.specs.Moving.{MovesLong}
use Rattle.cfb_stream_writes.proofs.Others.{carries_others, mini_places_carried, minis_carried}

-- a chain that no bytes need has no sectors
pub emptied : (v : Version) (ids : List ℕ) → length ids ≡ sectors_for v 0 → ids ≡ []
emptied v [] count = refl
emptied V3 (x ∷ ids) count = absurd (omega (arith, count))
emptied V4 (x ∷ ids) count = absurd (omega (arith, count))

-- what a chain lost of its sectors is free
pub lost_free : (table ids more later : List ℕ) (count : ℕ) → later ≡ take count ids ++ more → HaveEntry free table (drop count ids) → (n : ℕ) → IsNotIn later n → (IsNotIn (ids ++ more) n → ⊥) → slice_index table n ≡ free
lost_free table ids more later count is freed n none one =
    let apart : IsNotIn (take count ids ++ more) n = subst (λ l. IsNotIn l n) is none in
    has_entry table (drop count ids) free freed n
    (λ rest. one (none_both ids more n (subst (λ l. IsNotIn l n) (take-append-drop count ids) (none_both (take count ids) (drop count ids) n (none_first (take count ids) more n apart) rest)) (none_second (take count ids) more n apart)))

module _ {F : Type 0} {g : Ghosts F} (old : MiniAllocator F g) (b : Allocator F g) (who : Owners) (id : ℕ) (m : HasFileInvariant old who) (goes : KeepsFileInvariants (allocator_of old) b) (live : has_failed_here b ≡ false) (kept : IsKeptOver old)
    (more later : List ℕ) (becomes : ReplacesChain (sector (version_of (allocator_of old))) [] (who.sectors (stream_owner id)) more later (seen_of (allocator_of old)) (seen_of b))
    (spent : (n : ℕ) → IsNotIn later n → (IsNotIn (who.sectors (stream_owner id) ++ more) n → ⊥) → slice_index (fat_of b) n ≡ free) where
  abbrev key : ℕ
  key = stream_owner id

  abbrev now : Owners
  now = record { sectors = pick who.sectors key later; minis = who.minis }

  moved : MovesOne (sector (version_of (allocator_of old))) [] key later more (seen_of (allocator_of old)) (seen_of b) who.sectors now.sectors
  moved = record { becomes = becomes; mine = pick_mine who.sectors key later; others = pick_other who.sectors key later }

  apart : (k : ℕ) → k ≤ mini_stream_owner → k ≡ key → ⊥
  apart k low same = omega (arith, low, same)

  stays : (k : ℕ) → (k ≡ key → ⊥) → KeepsOwnedSectors (sector (version_of (allocator_of old))) (seen_of (allocator_of old)) (seen_of b) (who.sectors k)
  unfolding seen_of
  stays = other_left (sector (version_of (allocator_of old))) (seen_of (allocator_of old)) (seen_of b) who.sectors now.sectors key [] later more m.owners.owned moved

  owned_now : OwnDisjointChains (fat_of b) (tables_of b) now.sectors
  unfolding seen_of
  owned_now = owned_changed (sector (version_of (allocator_of old))) (seen_of (allocator_of old)) (seen_of b) who.sectors now.sectors key [] later more m.owners.owned moved

  longer : length (bytes_of (allocator_of old)) ≤ length (bytes_of b)
  unfolding seen_of
  longer = becomes.leaves.longer

  keeps_front : KeepsFront 68 (bytes_of (allocator_of old)) (bytes_of b)
  unfolding seen_of
  keeps_front place count front beside = becomes.leaves.header place count front (⊎_elim (λ before. inl (omega (arith, before))) (λ behind. inr (omega (arith, behind))) beside, tt)

  has_owners : HasUniqueOwners (with_allocator old b) now.sectors
  has_owners =
      let v = version_of (allocator_of old) in
      let a = allocator_of old in
      let h = m.owners in record {
        honest = subst IsTrue (sym goes.honest) h.honest;
        memory = kept b (record {
          goes_on = goes;
          directory = λ live honest. subst (KeepsOwnedSectors (sector v) (seen_of a) (seen_of b)) h.directory (stays 0 (apart 0 (omega arith)));
          mini_fat = λ live honest. subst (KeepsOwnedSectors (sector v) (seen_of a) (seen_of b)) h.mini_fat (stays 1 (apart 1 (omega arith)));
          mini_stream = λ live honest. subst (KeepsOwnedSectors (sector v) (seen_of a) (seen_of b)) h.mini_stream (stays 2 (apart 2 (omega arith)));
        }) h.memory;
        owned = owned_now;
        directory = pick_other who.sectors key later 0 (apart 0 (omega arith)) ∙ h.directory;
        mini_fat = pick_other who.sectors key later 1 (apart 1 (omega arith)) ∙ h.mini_fat;
        mini_stream = pick_other who.sectors key later 2 (apart 2 (omega arith)) ∙ h.mini_stream;
      }

  stands : HasFileInvariant (with_allocator old b) now
  unfolding live_of
  stands =
      let a = allocator_of old in
      let v = version_of a in
      let was = m.kept in
      let whole = was.header.whole in
      let orderly = subst IsTrue (sym (goes.orderly live)) m.orderly in
      let stream = pick_other who.sectors key later mini_stream_owner (apart mini_stream_owner (omega arith)) in
      record {
        live = live;
        orderly = orderly;
        owners = has_owners;
        sizes = subst (λ u. SizesFit u (entries_held (directory_of old))) (sym goes.version) m.sizes;
        root = m.root;
        kept = kept_now (with_allocator old b) now live orderly has_owners m.root
            (subst (λ u. IsHeader u (bytes_of b)) (sym goes.version) (header_stays 68 (omega arith) (bytes_of a) (bytes_of b) whole longer keeps_front (omega arith) v was.header))
            (u32_same 68 (omega arith) (bytes_of a) (bytes_of b) whole longer keeps_front 48 (omega arith) (inr (omega arith)) ∙ was.directory_at ∙ sym (ap first_of (pick_other who.sectors key later 0 (apart 0 (omega arith)))))
            (u32_same 68 (omega arith) (bytes_of a) (bytes_of b) whole longer keeps_front 60 (omega arith) (inr (omega arith)) ∙ was.mini_fat_at ∙ sym (ap first_of (pick_other who.sectors key later 1 (apart 1 (omega arith)))))
            was.root_found was.root_kind was.minis_owned
            (λ k. subst (λ n. AllByRecursion (λ x. 64 * x + 64 ≤ n) (who.minis k)) (ap (λ u. length (who.sectors mini_stream_owner) * sector_len u) (sym goes.version) ∙ ap (λ l. length l * sector_len (version_of b)) (sym stream)) (was.minis_there k))
            was.minis_of_streams;
      }

  carries : CarriesBut key (live_of old) (live_of (with_allocator old b)) who now
  unfolding live_of seen_of
  carries = record {
    version = goes.version;
    longer = longer;
    sectors = λ k past other. pick_other who.sectors key later k other;
    minis = λ k other. refl;
    joined = λ k past other. (stays k other).bytes;
  }

  strays : StaysTidy old (with_allocator old b) who now
  unfolding seen_of
  strays = record {
    sectors = strays_before (sector (version_of (allocator_of old))) [] (who.sectors key) more later key (seen_of (allocator_of old)) (seen_of b) who.sectors now.sectors becomes refl (pick_mine who.sectors key later) (pick_other who.sectors key later) spent;
    minis = λ n s. s;
    strict = strict_over old (with_allocator old b) (header_here old who m) (counts_beside old (with_allocator old b) (who.sectors key ++ more) goes becomes.leaves refl refl) refl;
  }

  -- the stream has these sectors then, and all else stays
  pub moves_long : MovesLong id later old (with_allocator old b) who
  moves_long = record {
    moves = record {
      now = now;
      stands = stands;
      carries = carries_others key (live_of old) (live_of (with_allocator old b)) who now (omega arith) carries;
      entries = inl refl;
      strays = strays;
    };
    mine = pick_mine who.sectors key later;
    minis = refl;
    mini_joined = minis_carried key (live_of old) (live_of (with_allocator old b)) who now (omega arith) carries;
    mini_places = mini_places_carried key (live_of old) (live_of (with_allocator old b)) who now (omega arith) carries;
    entries = refl;
  }

-- it kept its sectors, and took in others
module _ {F : Type 0} {g : Ghosts F} where
  pub moves_more : (old : MiniAllocator F g) (b : Allocator F g) (who : Owners) (id : ℕ) (m : HasFileInvariant old who) → KeepsFileInvariants (allocator_of old) b → has_failed_here b ≡ false → IsKeptOver old → (ids more later : List ℕ) → who.sectors (stream_owner id) ≡ ids
      → later ≡ ids ++ more → ReplacesChain (sector (version_of (allocator_of old))) [] ids more later (seen_of (allocator_of old)) (seen_of b) → MovesLong id later old (with_allocator old b) who
  moves_more old b who id m goes live kept ids more later is all becomes =
      moves_long old b who id m goes live kept more later (subst (λ l. ReplacesChain (sector (version_of (allocator_of old))) [] l more later (seen_of (allocator_of old)) (seen_of b)) (sym is) becomes)
      (λ n none one. absurd (one (subst (λ l. IsNotIn l n) (all ∙ ap (λ l. l ++ more) (sym is)) none)))
