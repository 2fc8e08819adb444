-- The mini sectors of one stream were changed by the layer below, over which all else stays.
use Rattle.std.proofs.Common.{◌≡◌, ℕ, ◌+◌, ◌*◌, ◌<◌, ◌≤◌, inl, inr, false, List, [], ◌∷◌, ◌++◌, append-nil, length, take, zero, suc, refl, ap, sym, subst, ◌∙◌, ⊎_elim, arith, length-append, IsTrue}
use Rattle.std.specs.Prelude.{get_or, slice_get, slice_index, slice_index_or, Some}
use Rattle.std.specs.List.{flat_map, AllByRecursion}
use Rattle.std.proofs.lemmas.Bool.Decides.{eqb_tells, leb_tells}
use Rattle.cfb_chains.specs.Changes.{AreDisjoint, IsFreeIn, IsNotIn, SameExceptAt}
use Rattle.cfb_chains.specs.Grown.{IsChainInTable}
use Rattle.cfb_chains.specs.Owned.{ReplacesChain, ReplacesOwnedChain as MovesOne, OwnDisjointChains, KeepsOwnedSectors}
use Rattle.cfb_chains.proofs.Beside.{none_both, none_first}
use Rattle.cfb_chains.proofs.ChainGrowing.{in_use, kept_entry}
use Rattle.cfb_chains.proofs.Owners.{none_of_nothing, other_left, owned_changed}
use Rattle.cfb_directory.specs.Entries.{SizesFit}
use Rattle.cfb_directory.specs.Views.{entries_held}
use Rattle.cfb_fat.specs.Seeing.{seen_of}
use Rattle.cfb_fat.specs.Tables.{bytes_of, has_failed_here, version_of}
use Rattle.cfb_tree_edits.specs.Freeing.{HasFileInvariant}
use Rattle.cfb_tree_edits.specs.Live.{live_of}
use Rattle.cfb_tree_edits.specs.Orphans.{HaveStrictFacts, StaysTidy}
use Rattle.cfb_tree_edits.proofs.Freed.{own_minis}
use Rattle.cfb_tree_edits.proofs.KeptNow.{kept_now}
use Rattle.cfb_tree_edits.proofs.StrictFacts.{facts_placed, header_here, strict_by, strict_over}
use Rattle.cfb_medium.specs.Versions.{sector_len}
use Rattle.cfb_medium.specs.declared.medium.ReadMedium.{Ghosts}
use Rattle.cfb_medium.specs.declared.version.Version.{Version}
use Rattle.cfb_medium.specs.declared.version.Version.TheVariants.{V3, V4}
use Rattle.cfb_mini.specs.Changing.{mini_seen, HasUniqueOwners, AppendsMiniSectors, MiniOverwrites, Shortens, RootHasMiniStream}
use Rattle.cfb_mini.specs.Files.{HasCounts, HasHeader, LeavesFile}
use Rattle.cfb_mini.specs.LinkViews.{minis_of}
use Rattle.cfb_mini.specs.Minis.{all_words, mini_joined, mini_sector, AreInside}
use Rattle.cfb_mini.specs.Strays.{IsStrayIn}
use Rattle.cfb_mini.specs.Views.{allocator_of, directory_of, mini_fat_of, mini_stream_ids, mini_stream_len, mini_stream_of}
use Rattle.cfb_mini.specs.declared.links.MiniLinks.{MiniLinks}
use Rattle.cfb_mini.specs.declared.mini_allocator.MiniAllocator.{MiniAllocator}
use Rattle.cfb_mini.proofs.Headers.{header_stays, u32_same, KeepsFront}
use Rattle.cfb_mini.proofs.Keeping.{pick, pick_mine, pick_other}
use Rattle.cfb_mini.proofs.Longer.{all_both, all_less, lengthened_owners, lengthened_strays, now_other, own_now, stream_size}
use Rattle.cfb_mini.proofs.Parts.{parts_are}
use Rattle.cfb_mini.proofs.Strays.{leaves_same, none_left_out, strays_before}
use Rattle.cfb_mini.proofs.Padded.{joined_padded}
use Rattle.cfb_chain_io.specs.ChainEffects.{KeepsFileInvariants}
use Rattle.cfb_ownership.specs.Held.{mini_joined as held_joined, mini_places_of}
use Rattle.cfb_ownership.specs.Owners.{first_of, mini_stream_owner, stream_owner, Owners}
use Rattle.cfb_sectors.specs.Header.{IsHeader}
use Rattle.cfb_sectors.specs.Sectors.{end_of_chain, free, places, sector, Chain as IsChain}
use Rattle.cfb_siblings.proofs.Frames.{set_found}
use Rattle.cfb_tree.specs.Directory.{kind_root, Entry}
use Rattle.cfb_tree.proofs.OneContent.{Some_same}
use Rattle.cfb_stream_writes.specs.Moving.{CarriesOthers, ReplacesStreamChain, MovesRoot}
use Rattle.cfb_stream_writes.proofs.LongBytes.{all_by_index, length-places}
use Rattle.cfb_chain_io.proofs.FrontWritten.{all_at}
use Rattle.cfb_stream_writes.proofs.LongChains.{lost_free}
use Rattle.cfb_stream_writes.proofs.MiniBytes.{parts_front, parts_of, places_both}

more_bytes : (v : Version) (a b c : ℕ) → c ≡ a + b → a * sector_len v ≤ c * sector_len v
more_bytes V3 a b c is = omega (arith, is)
more_bytes V4 a b c is = omega (arith, is)

-- chains of which no number is touched stay
chain_stays : (entries old new : List ℕ) → SameExceptAt entries old new → (start : ℕ) (ids : List ℕ) → IsChain old start ids → AreDisjoint entries ids → IsChain new start ids
chain_stays entries old new stays start [] is none = is
chain_stays entries old new stays start (x ∷ ids) (is, regular, next, found, rest) none =
    (is, regular, next, kept_entry entries old new stays start next (subst (IsNotIn entries) is none.0) found, chain_stays entries old new stays next ids rest none.1)

-- what was free is in no chain
module _ (table : List ℕ) (start : ℕ) (ids taken : List ℕ) (chain : IsChain table start ids) (were : AllByRecursion (IsFreeIn table) taken) where
  taken_none : AreDisjoint taken ids
  taken_none = all_by_index (IsNotIn taken) ids (λ k below j there same. in_use table start ids (get_or taken j 0) chain (all_at (IsFreeIn table) taken j were there) k below (sym same))

  none_taken : AreDisjoint ids taken
  none_taken = all_by_index (IsNotIn ids) taken (λ j there. in_use table start ids (get_or taken j 0) chain (all_at (IsFreeIn table) taken j were there))

-- or in the front of one
all_front : (P : ℕ → Type 0) (xs : List ℕ) (n : ℕ) → AllByRecursion P xs → AllByRecursion P (take n xs)
all_front P xs zero all = tt
all_front P [] (suc n) all = tt
all_front P (x ∷ xs) (suc n) all = (all.0, all_front P xs n all.1)

-- an owner took in what was free behind what it had, in a table that may have become longer
module _ (old new : List ℕ) (own : ℕ → List ℕ) (key : ℕ) (before taken later : List ℕ) (owned : OwnDisjointChains old [] own) (mine : own key ≡ before) (is : later ≡ before ++ taken) (were : AllByRecursion (IsFreeIn old) taken) (stays : SameExceptAt later old new)
    (linked : IsChainInTable new later) where
  abbrev then : ℕ → List ℕ
  then = pick own key later

  later_none : (k : ℕ) → (k ≡ key → ⊥) → AreDisjoint later (own k)
  later_none k other =
      let first : AreDisjoint before (own k) = subst (λ x. AreDisjoint x (own k)) mine (owned.apart key k (λ same. other (sym same))) in
      let second = taken_none old (slice_index_or (own k) 0 end_of_chain) (own k) taken (owned.linked k) were in
      all_by_index (IsNotIn later) (own k) (λ j below. subst (λ l. IsNotIn l (get_or (own k) j 0)) (sym is) (none_both before taken (get_or (own k) j 0) (all_at (IsNotIn before) (own k) j first below) (all_at (IsNotIn taken) (own k) j second below)))

  none_later : (k : ℕ) → (k ≡ key → ⊥) → AreDisjoint (own k) later
  none_later k other =
      subst (AreDisjoint (own k)) (sym is)
      (all_both (IsNotIn (own k)) before taken (subst (AreDisjoint (own k)) mine (owned.apart k key other)) (none_taken old (slice_index_or (own k) 0 end_of_chain) (own k) taken (owned.linked k) were))

  pub owned_more : OwnDisjointChains new [] (pick own key later)
  owned_more = record {
    linked = λ k. ⊎_elim
        (λ same. subst (IsChainInTable new) (sym (ap then same.1 ∙ pick_mine own key later)) linked)
        (λ other. subst (IsChainInTable new) (sym (pick_other own key later k other.1)) (chain_stays later old new stays (slice_index_or (own k) 0 end_of_chain) (own k) (owned.linked k) (later_none k other.1)))
        (eqb_tells k key);
    apart = λ k l differ. ⊎_elim
        (λ first. ⊎_elim
        (λ second. absurd (differ (first.1 ∙ sym second.1)))
        (λ other. subst (λ x. AreDisjoint x (then l)) (sym (ap then first.1 ∙ pick_mine own key later)) (subst (AreDisjoint later) (sym (pick_other own key later l other.1)) (later_none l other.1)))
        (eqb_tells l key))
        (λ other. ⊎_elim
        (λ second. subst (λ x. AreDisjoint x (then l)) (sym (pick_other own key later k other.1)) (subst (AreDisjoint (own k)) (sym (ap then second.1 ∙ pick_mine own key later)) (none_later k other.1)))
        (λ both. subst (λ x. AreDisjoint x (then l)) (sym (pick_other own key later k other.1)) (subst (AreDisjoint (own k)) (sym (pick_other own key later l both.1)) (owned.apart k l differ)))
        (eqb_tells l key))
        (eqb_tells k key);
    beside = λ k. none_of_nothing (then k);
    marked = λ n freed k inside same. absurd (omega (arith, inside));
  }

-- and no more are in use without an owner than were
more_strays : (old new : List ℕ) (own : ℕ → List ℕ) (key : ℕ) (before taken later : List ℕ) → own key ≡ before → later ≡ before ++ taken → SameExceptAt later old new → ((n : ℕ) → length old ≤ n → n < length new → IsNotIn later n → slice_index new n ≡ free)
    → (n : ℕ) → IsStrayIn new [] (pick own key later) n → IsStrayIn old [] own n
more_strays old new own key before taken later mine is stays unused n s =
    let apart : IsNotIn later n = subst (λ l. IsNotIn l n) (pick_mine own key later) (s.unowned key) in
    let first : IsNotIn before n = none_first before taken n (subst (λ l. IsNotIn l n) is apart) in
    ⊎_elim
    (λ past. absurd (s.in_use (unused n past.1 s.below apart)))
    (λ inside. record {
      below = inside.1;
      in_use = λ freed. s.in_use (stays.others n inside.1 apart ∙ freed);
      beside = s.beside;
      unowned = λ k. ⊎_elim
          (λ same. subst (λ l. IsNotIn l n) (sym (ap own same.1 ∙ mine)) first)
          (λ other. subst (λ l. IsNotIn l n) (pick_other own key later k other.1) (s.unowned k))
          (eqb_tells k key);
    })
    (leb_tells (length old) n)

module _ {F : Type 0} {g : Ghosts F} where
  pub stream_len_by : (it : MiniAllocator F g) (own : ℕ → List ℕ) → HasUniqueOwners it own → mini_stream_len it ≡ length (own mini_stream_owner) * sector_len (version_of (allocator_of it))
  stream_len_by it own h =
      ap (λ v. length (mini_stream_ids it) * sector_len v) h.memory.over.stream_version ∙ ap (λ l. length l * sector_len (version_of (allocator_of it))) (sym h.mini_stream)

  module _ (it : MiniAllocator F g) (who : Owners) (m : HasFileInvariant it who) where
    -- the mini stream has what each owner has
    pub minis_there : (k : ℕ) → AllByRecursion (λ n. 64 * n + 64 ≤ mini_stream_len it) (who.minis k)
    unfolding live_of
    minis_there k = subst (λ c. AllByRecursion (λ n. 64 * n + 64 ≤ c) (who.minis k)) (sym (stream_len_by it who.sectors m.owners)) (m.kept.minis_there k)

    -- its bytes are its parts of the mini stream
    pub minis_joined : (minis : List ℕ) → AreInside (mini_stream_len it) minis → held_joined (live_of it) who minis ≡ mini_joined (mini_stream_of it) minis
    unfolding live_of
    minis_joined minis inside =
        ap (λ ids. parts_of (flat_map (sector (version_of (allocator_of it)) (bytes_of (allocator_of it))) ids) minis) m.owners.mini_stream
        ∙ sym (parts_are (mini_stream_of it) minis (subst (λ n. AreInside n minis) (sym (stream_size it who.sectors m.owners)) inside))

    pub minis_owned : OwnDisjointChains (mini_fat_of it) [] who.minis
    unfolding live_of
    minis_owned = m.kept.minis_owned

    pub root_there : slice_get (entries_held (directory_of it)) 0 ≡ Some m.root
    unfolding live_of
    root_there = m.kept.root_found

module _ {F : Type 0} {g : Ghosts F} (old new : MiniAllocator F g) (who : Owners) (m : HasFileInvariant old who) (goes : KeepsFileInvariants (allocator_of old) (allocator_of new)) (file : LeavesFile old new) (own' : ℕ → List ℕ) (has : HasUniqueOwners new own') where
  pub longer_stream : mini_stream_len old ≤ mini_stream_len new
  longer_stream =
      let v = version_of (allocator_of old) in
      let ids = ap length has.mini_stream ∙ ap length file.stream ∙ length-append (mini_stream_ids old) file.more in
      let more = more_bytes v (length (mini_stream_ids old)) (length file.more) (length (own' mini_stream_owner)) ids in
      let was = stream_len_by old who.sectors m.owners ∙ ap (λ l. length l * sector_len v) m.owners.mini_stream in
      let is = stream_len_by new own' has ∙ ap (λ u. length (own' mini_stream_owner) * sector_len u) goes.version in
      omega (arith, was, is, more)

module _ {F : Type 0} {g : Ghosts F} (old new : MiniAllocator F g) (who : Owners) (id : ℕ) (m : HasFileInvariant old who) (goes : KeepsFileInvariants (allocator_of old) (allocator_of new)) (live : has_failed_here (allocator_of new) ≡ false) (file : LeavesFile old new)
    (own' : ℕ → List ℕ) (has : HasUniqueOwners new own') (same : (k : ℕ) → 2 < k → own' k ≡ who.sectors k)
    (stay : (k : ℕ) → 2 < k → KeepsOwnedSectors (sector (version_of (allocator_of old))) (seen_of (allocator_of old)) (seen_of (allocator_of new)) (who.sectors k))
    (minis' : ℕ → List ℕ) (owned' : OwnDisjointChains (mini_fat_of new) [] minis') (others' : (k : ℕ) → (k ≡ stream_owner id → ⊥) → minis' k ≡ who.minis k) (inside' : AllByRecursion (λ n. 64 * n + 64 ≤ mini_stream_len new) (minis' (stream_owner id)))
    (bytes' : (k : ℕ) → (k ≡ stream_owner id → ⊥) → mini_joined (mini_stream_of new) (who.minis k) ≡ mini_joined (mini_stream_of old) (who.minis k)) (entries : MovesRoot (entries_held (directory_of old)) (entries_held (directory_of new)))
    (strays : StaysTidy old new who (record { sectors = own'; minis = minis' })) where
  abbrev key : ℕ
  key = stream_owner id

  abbrev now : Owners
  now = record { sectors = own'; minis = minis' }

  there_now : (k : ℕ) → AllByRecursion (λ n. 64 * n + 64 ≤ length (own' mini_stream_owner) * sector_len (version_of (allocator_of new))) (minis' k)
  there_now k =
      subst (λ c. AllByRecursion (λ n. 64 * n + 64 ≤ c) (minis' k)) (stream_len_by new own' has)
      (⊎_elim
      (λ is. subst (λ j. AllByRecursion (λ n. 64 * n + 64 ≤ mini_stream_len new) (minis' j)) (sym is.1) inside')
      (λ other. subst (AllByRecursion (λ n. 64 * n + 64 ≤ mini_stream_len new)) (sym (others' k other.1)) (all_less (mini_stream_len old) (mini_stream_len new) (who.minis k) (longer_stream old new who m goes file own' has) (minis_there old who m k)))
      (eqb_tells k key))

  -- the root then
  root_now : (r : Entry) × (slice_get (entries_held (directory_of new)) 0 ≡ Some r) × (r.kind ≡ kind_root)
  unfolding live_of
  root_now =
      ⊎_elim
      (λ is. (m.root, ap (λ l. slice_get l 0) is ∙ m.kept.root_found, m.kept.root_kind))
      (λ it.
      let r : Entry = record it.0 { start = it.1; size = it.2 } in
      (r, ap (λ l. slice_get l 0) it.4 ∙ set_found (entries_held (directory_of old)) 0 it.0 r it.3, ap (λ (x : Entry). x.kind) (Some_same (sym it.3 ∙ m.kept.root_found)) ∙ m.kept.root_kind))
      entries

  header_now : HasHeader new
  header_now = file.header (header_here old who m)

  stands_now : HasFileInvariant new now
  unfolding live_of
  stands_now =
      let orderly = subst IsTrue (sym (goes.orderly live)) m.orderly in
      let root = root_now in
      record {
        live = live;
        orderly = orderly;
        owners = has;
        sizes = file.sizes m.sizes;
        root = root.0;
        kept = kept_now new now live orderly has root.0 header_now.header (header_now.directory ∙ ap first_of (sym has.directory)) (header_now.mini_fat ∙ ap first_of (sym has.mini_fat)) root.1 root.2 owned' there_now
            (λ k low. others' k (λ is. omega (arith, is, low)) ∙ m.kept.minis_of_streams k low);
      }

  places_kept : (k : ℕ) → mini_places_of (live_of new) now (who.minis k) ≡ mini_places_of (live_of old) who (who.minis k)
  unfolding live_of
  places_kept k =
      let v = version_of (allocator_of old) in
      let ids = mini_stream_ids old in
      let inside : AreInside (length (places v ids)) (who.minis k) = subst (λ n. AreInside n (who.minis k)) (stream_len_by old who.sectors m.owners ∙ ap (λ l. length l * sector_len v) m.owners.mini_stream ∙ sym (length-places v ids)) (own_minis old who m k).inside in
      ap (λ u. parts_of (places u (own' mini_stream_owner)) (who.minis k)) goes.version
      ∙ ap (λ l. parts_of (places v l) (who.minis k)) (has.mini_stream ∙ file.stream)
      ∙ ap (λ l. parts_of l (who.minis k)) (places_both v ids file.more) ∙ parts_front (places v ids) (places v file.more) (who.minis k) inside
      ∙ ap (λ l. parts_of (places v l) (who.minis k)) (sym m.owners.mini_stream)

  inside_still : (k : ℕ) → AreInside (mini_stream_len new) (who.minis k)
  inside_still k = let was = (own_minis old who m k).inside in λ j below. let one = was j below in let more = longer_stream old new who m goes file own' has in omega (arith, one, more)

  carries : CarriesOthers key (live_of old) (live_of new) who now
  unfolding live_of seen_of places_kept
  carries = record {
    version = goes.version;
    longer = file.longer;
    sectors = λ k past other. same k past;
    minis = others';
    joined = λ k past other. (stay k past).bytes;
    mini_joined = λ k other. minis_joined new now stands_now (who.minis k) (inside_still k) ∙ bytes' k other ∙ sym (minis_joined old who m (who.minis k) (own_minis old who m k).inside);
    mini_places = λ k other. places_kept k;
  }

  -- all other streams have what they had
  pub mini_moves : (it : ReplacesStreamChain id old new who) × (it.now ≡ record { sectors = own'; minis = minis' })
  mini_moves = (record { now = now; stands = stands_now; carries = carries; entries = entries; strays = strays }, refl)

module _ {F : Type 0} {g : Ghosts F} (old new : MiniAllocator F g) (goes : KeepsFileInvariants (allocator_of old) (allocator_of new)) where
  -- where of the sectors at most the mini FAT's were written, the header tells what it told, and the mini stream is what it was
  pub leaves_file : (own : ℕ → List ℕ) → HasUniqueOwners old own → HasUniqueOwners new own → ReplacesChain (sector (version_of (allocator_of old))) [] (own 1) [] (own 1) (seen_of (allocator_of old)) (seen_of (allocator_of new))
      → entries_held (directory_of new) ≡ entries_held (directory_of old) → (HasHeader old → HasCounts old → HasCounts new) → LeavesFile old new
  unfolding seen_of
  leaves_file own h now becomes entries counts =
      let a = bytes_of (allocator_of old) in
      let b = bytes_of (allocator_of new) in
      let v = version_of (allocator_of old) in
      let longer : length a ≤ length b = becomes.leaves.longer in
      let front : KeepsFront 68 a b = λ place count front beside. becomes.leaves.header place count front (⊎_elim (λ before. inl (omega (arith, before))) (λ behind. inr (omega (arith, behind))) beside, tt) in
      record {
        longer = longer;
        header = λ was.
            let whole = was.header.whole in
            record {
              header = subst (λ u. IsHeader u b) (sym goes.version) (header_stays 68 (omega arith) a b whole longer front (omega arith) v was.header);
              directory = u32_same 68 (omega arith) a b whole longer front 48 (omega arith) (inr (omega arith)) ∙ was.directory ∙ ap (λ l. slice_index_or l 0 end_of_chain) (sym h.directory ∙ now.directory);
              mini_fat = u32_same 68 (omega arith) a b whole longer front 60 (omega arith) (inr (omega arith)) ∙ was.mini_fat ∙ ap (λ l. slice_index_or l 0 end_of_chain) (sym h.mini_fat ∙ now.mini_fat);
            };
        counts = counts;
        more = [];
        stream = sym now.mini_stream ∙ h.mini_stream ∙ sym (append-nil (mini_stream_ids old));
        sizes = λ fit. subst (λ u. SizesFit u (entries_held (directory_of new))) (sym goes.version) (subst (SizesFit v) (sym entries) fit);
      }

-- where the root's entry tells of another mini stream
root_moved : {F : Type 0} {g : Ghosts F} (old new : MiniAllocator F g) (root : Entry) → slice_get (entries_held (directory_of old)) 0 ≡ Some root → RootHasMiniStream old new → MovesRoot (entries_held (directory_of old)) (entries_held (directory_of new))
root_moved old new root found tells = ⊎_elim (λ same. inl same.0) (λ told. inr (root, _, _, found, told root found)) tells

-- a strict reader takes them still
facts_moved : (old new : List Entry) → MovesRoot old new → HaveStrictFacts old → HaveStrictFacts new
facts_moved old new moved facts = ⊎_elim (λ same. subst HaveStrictFacts (sym same) facts) (λ it. subst HaveStrictFacts (sym it.4) (facts_placed old 0 it.0 it.1 it.2 it.3 facts)) moved

module _ {F : Type 0} {g : Ghosts F} (old new : MiniAllocator F g) (who : Owners) (id : ℕ) (m : HasFileInvariant old who) (goes : KeepsFileInvariants (allocator_of old) (allocator_of new)) (live : has_failed_here (allocator_of new) ≡ false) where
  -- a stream's mini sectors were written over
  pub moves_over : (at : ℕ) (bytes : List ℕ) (links : MiniLinks) → who.minis (stream_owner id) ≡ minis_of links → MiniOverwrites at bytes old new links who.sectors → (it : ReplacesStreamChain id old new who) × (it.now ≡ who)
  unfolding mini_seen
  moves_over at bytes links mine over =
      let key = stream_owner id in
      let becomes : ReplacesChain mini_sector all_words (who.minis key) [] (who.minis key) (mini_seen old) (mini_seen new) = subst (λ l. ReplacesChain mini_sector all_words l [] l (mini_seen old) (mini_seen new)) (sym mine) over.changes.becomes in
      let moved : MovesOne mini_sector all_words key (who.minis key) [] (mini_seen old) (mini_seen new) who.minis who.minis = record { becomes = becomes; mine = refl; others = λ k other. refl } in
      let owned = minis_owned old who m in
      let left = other_left mini_sector (mini_seen old) (mini_seen new) who.minis who.minis key all_words (who.minis key) [] owned moved in
      mini_moves old new who id m goes live over.file who.sectors over.changes.owners (λ k past. refl) over.changes.others who.minis
      (owned_changed mini_sector (mini_seen old) (mini_seen new) who.minis who.minis key all_words (who.minis key) [] owned moved) (λ k other. refl)
      (all_less (mini_stream_len old) (mini_stream_len new) (who.minis key) (longer_stream old new who m goes over.file who.sectors over.changes.owners) (minis_there old who m key))
      (λ k other. (left k other).bytes) (inl over.entries)
      (record {
        sectors = over.strays;
        minis = strays_before mini_sector all_words (who.minis key) [] (who.minis key) key (mini_seen old) (mini_seen new) who.minis who.minis becomes refl refl (λ k other. refl)
            (none_left_out (mini_fat_of new) (who.minis key ++ []) (who.minis key) (append-nil (who.minis key)));
        strict = strict_over old new (header_here old who m) over.file.counts over.entries;
      })

  -- a stream took mini sectors in behind those that it had
  pub moves_more : (before later : List ℕ) → who.minis (stream_owner id) ≡ before → (l : AppendsMiniSectors old new before later who.sectors)
      → (it : ReplacesStreamChain id old new who) × (it.now ≡ record { sectors = own_now new who.sectors; minis = pick who.minis (stream_owner id) later })
  moves_more before later mine l =
      let key = stream_owner id in
      let taken = l.taken in
      let own' = own_now new who.sectors in
      let has = lengthened_owners old new before later who.sectors l in
      let root = root_moved old new m.root (root_there old who m) l.entries in
      let owned = owned_more (mini_fat_of old) (mini_fat_of new) who.minis key before taken later (minis_owned old who m) mine l.minis_are l.were_free l.numbers l.linked in
      let first : AllByRecursion (λ n. 64 * n + 64 ≤ mini_stream_len new) before =
      subst (AllByRecursion (λ n. 64 * n + 64 ≤ mini_stream_len new)) mine (all_less (mini_stream_len old) (mini_stream_len new) (who.minis key) (longer_stream old new who m goes l.file own' has) (minis_there old who m key)) in
      mini_moves old new who id m goes live l.file own' has
      (λ k past. now_other new who.sectors k (λ same. omega (arith, same, past)) (λ same. omega (arith, same, past))) l.others
      (pick who.minis key later) owned (pick_other who.minis key later)
      (subst (AllByRecursion (λ n. 64 * n + 64 ≤ mini_stream_len new)) (sym l.minis_are ∙ sym (pick_mine who.minis key later)) (all_both (λ n. 64 * n + 64 ≤ mini_stream_len new) before taken first l.inside))
      (λ k other. ap (λ s. mini_joined s (who.minis k)) l.stream ∙ joined_padded (mini_stream_of old) l.zeros (who.minis k))
      root
      (record {
        sectors = lengthened_strays old new before later who.sectors l;
        minis = more_strays (mini_fat_of old) (mini_fat_of new) who.minis key before taken later mine l.minis_are l.numbers l.unused;
        strict = strict_by old new (header_here old who m) l.file.counts (facts_moved (entries_held (directory_of old)) (entries_held (directory_of new)) root);
      })

  -- a stream kept those at the front
  pub moves_fewer : (count : ℕ) (before later : List ℕ) → who.minis (stream_owner id) ≡ before → Shortens count old new before later who.sectors
      → (it : ReplacesStreamChain id old new who) × (it.now ≡ record { sectors = who.sectors; minis = pick who.minis (stream_owner id) later })
  unfolding mini_seen
  moves_fewer count before later mine s =
      let key = stream_owner id in
      let becomes : ReplacesChain mini_sector all_words (who.minis key) [] later (mini_seen old) (mini_seen new) = subst (λ l. ReplacesChain mini_sector all_words l [] later (mini_seen old) (mini_seen new)) (sym mine) s.changes.becomes in
      let is = pick_mine who.minis key later in
      let others = pick_other who.minis key later in
      let moved : MovesOne mini_sector all_words key later [] (mini_seen old) (mini_seen new) who.minis (pick who.minis key later) = record { becomes = becomes; mine = is; others = others } in
      let owned = minis_owned old who m in
      let left = other_left mini_sector (mini_seen old) (mini_seen new) who.minis (pick who.minis key later) key all_words later [] owned moved in
      let file = leaves_file old new goes who.sectors m.owners s.changes.owners s.becomes s.entries s.counts in
      let there : AllByRecursion (λ n. 64 * n + 64 ≤ mini_stream_len new) before =
      subst (AllByRecursion (λ n. 64 * n + 64 ≤ mini_stream_len new)) mine (all_less (mini_stream_len old) (mini_stream_len new) (who.minis key) (longer_stream old new who m goes file who.sectors s.changes.owners) (minis_there old who m key)) in
      mini_moves old new who id m goes live file who.sectors s.changes.owners (λ k past. refl) s.changes.others (pick who.minis key later)
      (owned_changed mini_sector (mini_seen old) (mini_seen new) who.minis (pick who.minis key later) key all_words later [] owned moved) others
      (subst (AllByRecursion (λ n. 64 * n + 64 ≤ mini_stream_len new)) (sym s.minis_are ∙ sym is) (all_front (λ n. 64 * n + 64 ≤ mini_stream_len new) before count there))
      (λ k other. (left k other).bytes) (inl s.entries)
      (record {
        sectors = leaves_same (allocator_of old) (allocator_of new) who.sectors 1 s.becomes;
        minis = strays_before mini_sector all_words (who.minis key) [] later key (mini_seen old) (mini_seen new) who.minis (pick who.minis key later) becomes refl is others
            (subst (λ l. (n : ℕ) → IsNotIn later n → (IsNotIn (l ++ []) n → ⊥) → slice_index (mini_fat_of new) n ≡ free) (sym mine)
            (lost_free (mini_fat_of new) before [] later count (s.minis_are ∙ sym (append-nil (take count before))) s.freed));
        strict = strict_over old new (header_here old who m) s.counts s.entries;
      })
