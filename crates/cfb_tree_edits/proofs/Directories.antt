-- A live file whose directory changed alone.
use Rattle.std.proofs.Common.{◌≡◌, ℕ, ◌+◌, ◌*◌, ◌≤◌, ◌⊎◌, inl, inr, false, List, [], ◌∷◌, ◌++◌, length, refl, ap, sym, subst, ◌∙◌, arith, ⊎_elim, IsTrue}
use Rattle.std.specs.Prelude.{slice_get, Some}
use Rattle.std.specs.List.{AllByRecursion}
use Rattle.cfb_medium.specs.Numbers.{all_pieces, pieces}
use Rattle.cfb_medium.specs.Versions.{sector_len}
use Rattle.cfb_medium.specs.declared.medium.ReadMedium.{Ghosts}
use Rattle.cfb_medium.specs.declared.version.Version.{Version}
use Rattle.cfb_sectors.specs.Header.{IsHeader}
use Rattle.cfb_sectors.specs.Sectors.{joined, sector}
use Rattle.cfb_chains.specs.Owned.{AreBesideWords, ReplacesOwnedChain, OwnDisjointChains, KeepsOwnedSectors}
use Rattle.cfb_chains.proofs.Owners.{other_left}
use Rattle.cfb_fat.specs.Seeing.{seen_of}
use Rattle.cfb_fat.specs.Tables.{bytes_of, has_failed_here, version_of}
use Rattle.cfb_chain_io.specs.ChainEffects.{KeepsFileInvariants}
use Rattle.cfb_tree.specs.Directory.{entries_of, kind_root, Entry}
use Rattle.cfb_directory.specs.Views.{directory_ids, entries_held}
use Rattle.cfb_mini.specs.Changing.{ChangesDirectory, HasUniqueOwners}
use Rattle.cfb_mini.specs.Views.{allocator_of, directory_of}
use Rattle.cfb_mini.specs.declared.mini_allocator.MiniAllocator.{MiniAllocator}
use Rattle.cfb_mini.proofs.Headers.{header_stays, u32_same, KeepsFront}
use Rattle.cfb_mini.proofs.Keeping.{pick, pick_mine, pick_other}
use Rattle.cfb_ownership.specs.LiveInvariant.{LiveFileInvariant}
use Rattle.cfb_ownership.specs.Owners.{first_of, mini_stream_owner, Owners}
use Rattle.cfb_tree_edits.specs.Freeing.{HasFileInvariant}
use Rattle.cfb_tree_edits.specs.Live.{live_of}
use Rattle.cfb_tree_edits.proofs.Carried.{Carries}
use Rattle.cfb_tree_edits.proofs.KeptNow.{kept_now}

-- the chain begins where it began
first_same : (v : Version) (bytes ids more : List ℕ) (entries : List Entry) (root : Entry) → entries ≡ entries_of v (joined v bytes ids) → slice_get entries 0 ≡ Some root → first_of (ids ++ more) ≡ first_of ids
unfolding entries_of all_pieces pieces
first_same v bytes [] more entries root is found =
    let empty : List Entry = [] in
    let none : slice_get empty 0 ≡ Some root = ap (λ l. slice_get l 0) (sym is) ∙ found in absurd (cc)
first_same v bytes (x ∷ ids) more entries root is found = refl

module _ {F : Type 0} {g : Ghosts F} (words : List ℕ) (spare : (place count : ℕ) → (place + count ≤ 40) ⊎ (48 ≤ place) → AreBesideWords words place count)
    (old new : MiniAllocator F g) (who : Owners) (m : HasFileInvariant old who) (goes : KeepsFileInvariants (allocator_of old) (allocator_of new)) (live : has_failed_here (allocator_of new) ≡ false)
    (c : ChangesDirectory words old new who.sectors) where
  -- who owns which sectors then
  abbrev pub owners_now : Owners
  owners_now = record { sectors = pick who.sectors 0 (directory_ids (directory_of new)); minis = who.minis }

  pub has_owners : HasUniqueOwners new owners_now.sectors
  has_owners = c.owners owners_now.sectors (pick_mine who.sectors 0 (directory_ids (directory_of new))) (pick_other who.sectors 0 (directory_ids (directory_of new)))

  others : (k : ℕ) → mini_stream_owner ≤ k → owners_now.sectors k ≡ who.sectors k
  others k past = pick_other who.sectors 0 (directory_ids (directory_of new)) k (λ same. omega (arith, same, past))

  stays : (k : ℕ) → (k ≡ 0 → ⊥) → KeepsOwnedSectors (sector (version_of (allocator_of old))) (seen_of (allocator_of old)) (seen_of (allocator_of new)) (who.sectors k)
  unfolding seen_of
  stays k other =
      let ids = directory_ids (directory_of new) in
      let v = version_of (allocator_of old) in
      let moves : ReplacesOwnedChain (sector v) words 0 ids c.more (seen_of (allocator_of old)) (seen_of (allocator_of new)) who.sectors owners_now.sectors = record { becomes = c.becomes; mine = pick_mine who.sectors 0 ids; others = pick_other who.sectors 0 ids } in
      other_left (sector v) (seen_of (allocator_of old)) (seen_of (allocator_of new)) who.sectors owners_now.sectors 0 words ids c.more m.owners.owned moves k other

  longer : length (bytes_of (allocator_of old)) ≤ length (bytes_of (allocator_of new))
  unfolding seen_of
  longer = c.becomes.leaves.longer

  keeps_front : KeepsFront 68 (bytes_of (allocator_of old)) (bytes_of (allocator_of new))
  unfolding seen_of
  keeps_front place count front beside = c.becomes.leaves.header place count front ((⊎_elim (λ before. inl (omega (arith, before))) (λ behind. inr (omega (arith, behind))) beside), spare place count beside)

  pub carries : Carries (live_of old) (live_of new) who owners_now
  unfolding live_of seen_of
  carries = record {
    version = goes.version;
    longer = longer;
    sectors = others;
    minis = refl;
    joined = λ k past. (stays k (λ same. omega (arith, same, past))).bytes;
  }

  pub kept_later : (root : Entry) → slice_get (entries_held (directory_of new)) 0 ≡ Some root → root.kind ≡ kind_root → LiveFileInvariant (live_of new) owners_now root
  unfolding live_of
  kept_later root found kind =
      let a = allocator_of old in
      let b = allocator_of new in
      let was = m.kept in
      let v = version_of a in
      let whole = was.header.whole in
      let front = keeps_front in
      let ids : owners_now.sectors 0 ≡ who.sectors 0 ++ c.more = pick_mine who.sectors 0 (directory_ids (directory_of new)) ∙ c.ids ∙ ap (λ l. l ++ c.more) (sym m.owners.directory) in
      kept_now new owners_now live (subst IsTrue (sym (goes.orderly live)) m.orderly) has_owners root
      (subst (λ u. IsHeader u (bytes_of b)) (sym goes.version) (header_stays 68 (omega arith) (bytes_of a) (bytes_of b) whole longer front (omega arith) v was.header))
      (u32_same 68 (omega arith) (bytes_of a) (bytes_of b) whole longer front 48 (omega arith) (inr (omega arith)) ∙ was.directory_at ∙ sym (ap first_of ids ∙ first_same v (bytes_of a) (who.sectors 0) c.more (entries_held (directory_of old)) m.root was.entries was.root_found))
      (u32_same 68 (omega arith) (bytes_of a) (bytes_of b) whole longer front 60 (omega arith) (inr (omega arith)) ∙ was.mini_fat_at ∙ sym (ap first_of (pick_other who.sectors 0 (directory_ids (directory_of new)) 1 (λ same. omega (arith, same)))))
      found kind
      (subst (λ t. OwnDisjointChains t [] who.minis) (sym c.mini_fat) was.minis_owned)
      (λ k. subst (λ n. AllByRecursion (λ x. 64 * x + 64 ≤ n) (who.minis k)) (ap (λ u. length (who.sectors mini_stream_owner) * sector_len u) (sym goes.version) ∙ ap (λ l. length l * sector_len (version_of b)) (sym (others mini_stream_owner (omega arith)))) (was.minis_there k))
      was.minis_of_streams
