-- The tree that a live file means after an object without children was removed.
use Rattle.std.proofs.Common.{◌≡◌, ℕ, ◌<◌, inl, inr, false, List, [], ◌∷◌, ◌++◌, length, refl, ap, sym, subst, ◌∙◌, ⊎_elim, arith, IsTrue}
use Rattle.std.specs.Prelude.{nat_eq, slice_get, IfSome, Option, Some}
use Rattle.std.proofs.lemmas.Bool.Decides.{eqb_tells}
use Rattle.cfb_medium.specs.declared.medium.ReadMedium.{Ghosts}
use Rattle.cfb_fat.specs.Tables.{has_failed_here, version_of}
use Rattle.cfb_chain_io.specs.ChainEffects.{KeepsFileInvariants}
use Rattle.cfb_tree.specs.Directory.{kind_storage, kind_stream, Entry, Siblings}
use Rattle.cfb_tree.specs.Names.{CaseTable}
use Rattle.cfb_tree.specs.Objects.{EntriesHoldTree}
use Rattle.cfb_tree.specs.Paths.{Path}
use Rattle.cfb_tree.specs.Tree.{Tree}
use Rattle.cfb_tree.proofs.OneContent.{Some_same}
use Rattle.cfb_siblings.specs.Changes.{HoldsOneLess}
use Rattle.cfb_siblings.specs.Places.{LeadsTo}
use Rattle.cfb_siblings.specs.Reading.{ReadBy}
use Rattle.cfb_siblings.proofs.Spots.{spot}
use Rattle.cfb_directory.specs.Children.{RemovesAt}
use Rattle.cfb_directory.specs.Entries.{SizesFit}
use Rattle.cfb_directory.specs.Growth.{count_words}
use Rattle.cfb_directory.specs.Views.{directory_ids, entries_held}
use Rattle.cfb_mini.specs.Changing.{ChangesDirectory}
use Rattle.cfb_mini.specs.Children.{HasRoot}
use Rattle.cfb_mini.specs.Views.{allocator_of, directory_of}
use Rattle.cfb_mini.specs.declared.mini_allocator.MiniAllocator.{MiniAllocator}
use Rattle.cfb_mini.proofs.Keeping.{pick_other}
use Rattle.cfb_ownership.specs.Held.{OwnerHasStream, IsStreamAmong, OwnersHoldTree}
use Rattle.cfb_ownership.specs.LiveInvariant.{LiveFileInvariant}
use Rattle.cfb_ownership.specs.LiveFile.{LiveFile}
use Rattle.cfb_ownership.specs.Owners.{stream_owner, Owners, OwnsNothing}
use Rattle.cfb_ownership.proofs.HoldsById.{each_part, holds_with, IsPart}
use Rattle.cfb_ownership.proofs.KeysOfParts.{IsOneOf}
use Rattle.cfb_ownership.proofs.UsesOfEntries.{all_from, all_one, one_not_none}
use Rattle.cfb_tree_edits.specs.Freeing.{CarriesBut, FreesStream, HasFileInvariant}
use Rattle.cfb_tree_edits.specs.Live.{live_of, LiveFileMeansTree}
use Rattle.cfb_tree_edits.specs.Orphans.{FileBecomesTree, HaveStrictFacts}
use Rattle.cfb_tree_edits.proofs.Carried.{carries_then}
use Rattle.cfb_tree_edits.proofs.Changed.{moved_stream_but}
use Rattle.cfb_tree_edits.proofs.ChildAdded.{apart_or, none_of, one_apart}
use Rattle.cfb_tree_edits.proofs.Directories.{carries, has_owners, kept_later, owners_now}
use Rattle.cfb_tree_edits.proofs.Made.{spare_words}
use Rattle.cfb_tree_edits.proofs.SetFacts.{means_held, means_ids}
use Rattle.cfb_tree_edits.proofs.Strays.{directory_strays, strays_then}
use Rattle.cfb_tree_edits.proofs.Streams.{bytes_from, reads, reads_means}
use Rattle.cfb_tree_edits.proofs.StrictFacts.{facts_less}
use Rattle.cfb_siblings.proofs.Coloring.{root_apart}

one_middle : (front : List ℕ) (n : ℕ) (back : List ℕ) → IsOneOf (front ++ n ∷ back) n
one_middle [] n back = inl refl
one_middle (x ∷ front) n back = inr (one_middle front n back)

-- an entry to which a path leads from the root is in the tree
pub among : (letters : CaseTable) (Reads : Entry → List ℕ → Type 0) (directory : List Entry) (tree : Tree) (h : EntriesHoldTree letters Reads directory tree) (path : Path) (id : ℕ) → 0 < length path → LeadsTo letters directory 0 path id → IsOneOf h.ids id
among letters Reads directory tree h [] id some leads = absurd (omega (arith, some))
among letters Reads directory tree h (first ∷ names) id some leads =
    let s = spot directory Reads Reads letters names first 0 h.root h.children tree.content h.ids id h.root_found h.siblings h.holds h.ordered leads in
    subst (λ l. IsOneOf l id) (sym s.all_is) (one_middle s.sooner id (s.own ++ s.further))

-- an entry that is in a tree is no root
pub below_root : (letters : CaseTable) (Reads : Entry → List ℕ → Type 0) (directory : List Entry) (tree : Tree) (h : EntriesHoldTree letters Reads directory tree) (id : ℕ) → IsOneOf h.ids id → id ≡ 0 → ⊥
below_root letters Reads directory tree h id one is = one_apart h.ids 0 (subst (IsOneOf h.ids) is one) (root_apart h.ids h.once)

-- a stream in the tree has its bytes in what its entry owns
pub stream_there : (s : LiveFile) (who : Owners) (letters : CaseTable) (tree : Tree) (h : OwnersHoldTree s who letters tree) (id : ℕ) (e : Entry) → IsOneOf h.ids id → slice_get s.entries id ≡ Some e → e.kind ≡ kind_stream → (content : List ℕ) × OwnerHasStream s who id e content
stream_there s who letters tree h id e one found kind =
    let part = all_one (IsPart s.entries (OwnerHasStream s who)) h.ids id (each_part s.entries (OwnerHasStream s who) tree.content h.children h.ids h.holds) one in
    let same : part.0 ≡ e = Some_same (sym part.1 ∙ found) in
    ⊎_elim
    (λ storage. let wrong : kind_storage ≡ kind_stream = sym storage ∙ ap (λ (x : Entry). x.kind) same ∙ kind in absurd (omega (arith, wrong)))
    (λ it. (it.1, subst (λ x. OwnerHasStream s who id x it.1) same it.2))
    part.2

module _ (s t : LiveFile) (who now : Owners) (letters : CaseTable) (tree later : Tree) (h : OwnersHoldTree s who letters tree) (path : Path) (id : ℕ) (c : CarriesBut (stream_owner id) s t who now) (nothing : OwnsNothing now (stream_owner id))
    (root : Entry) (kept : LiveFileInvariant t now root) (less : HoldsOneLess letters (ReadBy (reads s who)) s.entries t.entries later h.ids path id []) (at : RemovesAt s.entries t.entries id) where
  old_part : (k : ℕ) → IsOneOf h.ids k → IsPart s.entries (OwnerHasStream s who) k
  old_part k one = all_one (IsPart s.entries (OwnerHasStream s who)) h.ids k (each_part s.entries (OwnerHasStream s who) tree.content h.children h.ids h.holds) one

  old_zero : IsOneOf h.ids 0 → ⊥
  old_zero one = one_apart h.ids 0 one (root_apart h.ids h.once)

  new_zero : IsOneOf less.holds.ids 0 → ⊥
  new_zero one = one_apart less.holds.ids 0 one (root_apart less.holds.ids less.holds.once)

  -- an entry of the new tree was in the old one
  from : (k : ℕ) → IsOneOf less.holds.ids k → IsOneOf h.ids k
  from k one =
      ⊎_elim
      (λ apart. absurd (one_apart (0 ∷ less.holds.ids) k (inr one) ((less.all_are k).0 apart).2))
      (λ old. ⊎_elim (λ zero_is. absurd (new_zero (subst (IsOneOf less.holds.ids) (sym zero_is) one))) (λ was. was) old)
      (apart_or k (0 ∷ h.ids))

  -- and is another one
  other_one : (k : ℕ) → IsOneOf less.holds.ids k → k ≡ id → ⊥
  other_one k one same = one_apart (0 ∷ less.holds.ids) id (inr (subst (IsOneOf less.holds.ids) same one)) less.gone

  -- each other of the old one is in it
  into : (k : ℕ) → (k ≡ id → ⊥) → IsOneOf h.ids k → IsOneOf less.holds.ids k
  into k other one =
      ⊎_elim
      (λ apart.
      let differ : nat_eq k id ≡ false = ⊎_elim (λ same. absurd (other same.1)) (λ differ. differ.0) (eqb_tells k id) in
      absurd (one_apart (0 ∷ h.ids) k (inr one) ((less.all_are k).1 (differ, tt, apart))))
      (λ new. ⊎_elim (λ zero_is. absurd (old_zero (subst (IsOneOf h.ids) (sym zero_is) one))) (λ is. is) new)
      (apart_or k (0 ∷ less.holds.ids))

  owners_differ : (k : ℕ) → (k ≡ id → ⊥) → stream_owner k ≡ stream_owner id → ⊥
  owners_differ k other same = other (omega (arith, same))

  abbrev IsStreamStill : ℕ → Type 0
  IsStreamStill k = (f : Entry) → slice_get t.entries k ≡ Some f → f.kind ≡ kind_stream → (content : List ℕ) × OwnerHasStream t now k f content × (content ≡ bytes_from s who f.start f.size)

  each_still : (k : ℕ) → IsOneOf less.holds.ids k → IsStreamStill k
  each_still k one f found kind =
      let other = other_one k one in
      let part = old_part k (from k one) in
      let stays = at.others k part.0 other part.1 in
      let is : stays.0 ≡ f = Some_same (sym stays.1 ∙ found) in
      moved_stream_but (stream_owner id) s t who now letters tree h c (λ same. omega (arith, same)) k part.0 f (owners_differ k other) part.2
      (ap (λ (x : Entry). x.kind) (sym is) ∙ stays.2.kind) (ap (λ (x : Entry). x.start) (sym is) ∙ stays.2.start) (ap (λ (x : Entry). x.size) (sym is) ∙ stays.2.size) kind

  was_among : (k : ℕ) → (k ≡ id → ⊥) → IsStreamAmong s.entries h.ids k → IsStreamAmong t.entries less.holds.ids k
  was_among k other (among, kind) =
      ⊎_elim
      (λ apart. absurd (among (none_of h.ids k (λ one. one_apart h.ids k one apart))))
      (λ one.
      let part = old_part k one in
      let stays = at.others k part.0 other part.1 in (
        one_not_none less.holds.ids k (into k other one),
        subst (λ (o : Option Entry). IfSome o (λ x. x.kind ≡ kind_stream)) (sym stays.1) (stays.2.kind ∙ subst (λ (o : Option Entry). IfSome o (λ x. x.kind ≡ kind_stream)) part.1 kind),
      ))
      (apart_or k h.ids)

  object_removed : OwnersHoldTree t now letters later
  object_removed =
      let new = less.holds in
      let root_is : new.root ≡ root = Some_same (sym new.root_found ∙ kept.root_found) in record {
        root = root;
        kept = kept;
        facts = ap (λ (x : Entry). x.facts) (sym root_is) ∙ new.facts;
        children = new.children;
        ids = new.ids;
        siblings = subst (λ (x : Entry). Siblings t.entries x.child new.children) root_is new.siblings;
        holds = holds_with t.entries (ReadBy (reads s who)) (OwnerHasStream t now) IsStreamStill
            (λ k x bytes found kind is_still is_read.
            let it = is_still x found kind in subst (OwnerHasStream t now k x) (it.2 ∙ sym (reads_means s who x.start x.size bytes is_read)) it.1)
            later.content new.children new.ids (all_from IsStreamStill new.ids each_still) new.holds;
        once = new.once;
        ordered = new.ordered;
        unused = λ k never.
            ⊎_elim
            (λ same. subst (λ n. OwnsNothing now (stream_owner n)) (sym same.1) nothing)
            (λ differ.
            let was = h.unused k (λ among. never (was_among k differ.1 among)) in (
              c.sectors (stream_owner k) (omega arith) (owners_differ k differ.1) ∙ was.0,
              c.minis (stream_owner k) (owners_differ k differ.1) ∙ was.1,
            ))
            (eqb_tells k id);
      }

module _ {F : Type 0} {g : Ghosts F} (letters : CaseTable) (old mid new : MiniAllocator F g) (tree later : Tree) (m : LiveFileMeansTree letters old tree) (path : Path) (id : ℕ) (frees : FreesStream id old mid m.who) where
  -- a stream gave up its sectors, and then its entry was taken out
  removed_means : RemovesAt (entries_held (directory_of old)) (entries_held (directory_of new)) id → HoldsOneLess letters (ReadBy (reads (live_of old) m.who)) (entries_held (directory_of old)) (entries_held (directory_of new)) later m.held.ids path id []
      → (id ≡ 0 → ⊥) → KeepsFileInvariants (allocator_of mid) (allocator_of new) → has_failed_here (allocator_of new) ≡ false → ChangesDirectory (count_words (version_of (allocator_of mid))) mid new frees.now.sectors → LiveFileMeansTree letters new later
  unfolding live_of
  removed_means at less other goes live c =
      let words = count_words (version_of (allocator_of mid)) in
      let spare = spare_words (version_of (allocator_of mid)) in
      let stands = frees.stands in
      let now = owners_now words spare mid new frees.now stands goes live c in
      let place = at.others 0 m.held.root (λ same. other (sym same)) m.held.kept.root_found in
      let all = carries_then (stream_owner id) (live_of old) (live_of mid) (live_of new) m.who frees.now now frees.carries (carries words spare mid new frees.now stands goes live c) in
      record {
        live = live;
        orderly = subst IsTrue (sym (goes.orderly live)) stands.orderly;
        who = now;
        owners = has_owners words spare mid new frees.now stands goes live c;
        sizes = subst (λ v. SizesFit v (entries_held (directory_of new))) (sym (goes.version ∙ frees.carries.version)) (at.sizes (version_of (allocator_of old)) m.sizes);
        held = object_removed (live_of old) (live_of new) m.who now letters tree later m.held path id all
            (pick_other frees.now.sectors 0 (directory_ids (directory_of new)) (stream_owner id) (λ same. omega (arith, same)) ∙ frees.nothing.0, frees.nothing.1)
            place.0 (kept_later words spare mid new frees.now stands goes live c place.0 place.1 (place.2.kind ∙ m.held.kept.root_kind)) less at;
      }

  -- and no more is in use without an owner
  pub removed_comes : RemovesAt (entries_held (directory_of old)) (entries_held (directory_of new)) id → HoldsOneLess letters (ReadBy (reads (live_of old) m.who)) (entries_held (directory_of old)) (entries_held (directory_of new)) later m.held.ids path id []
      → (id ≡ 0 → ⊥) → KeepsFileInvariants (allocator_of mid) (allocator_of new) → has_failed_here (allocator_of new) ≡ false → ChangesDirectory (count_words (version_of (allocator_of mid))) mid new frees.now.sectors → FileBecomesTree letters old new m.who later
  unfolding removed_means
  removed_comes at less other goes live c =
      let words = count_words (version_of (allocator_of mid)) in
      let spare = spare_words (version_of (allocator_of mid)) in
      let was = entries_held (directory_of old) in
      let facts = λ (h : HaveStrictFacts (entries_held (directory_of mid))).
      facts_less letters (reads (live_of old) m.who) was (entries_held (directory_of new)) tree later (means_held letters old tree m) m.held.ids (means_ids letters old tree m) path id [] other at less (subst HaveStrictFacts frees.entries h) in
      record {
        means = removed_means at less other goes live c;
        strays = strays_then old mid new m.who frees.now (owners_now words spare mid new frees.now frees.stands goes live c) frees.strays (directory_strays words spare mid new frees.now frees.stands goes live c facts);
      }

module _ {F : Type 0} {g : Ghosts F} where
  pub stream_held : (letters : CaseTable) (it : MiniAllocator F g) (tree : Tree) (m : LiveFileMeansTree letters it tree) (id : ℕ) (e : Entry) → IsOneOf m.held.ids id → slice_get (entries_held (directory_of it)) id ≡ Some e → e.kind ≡ kind_stream
      → (content : List ℕ) × OwnerHasStream (live_of it) m.who id e content
  unfolding live_of
  stream_held letters it tree m id e one found kind = stream_there (live_of it) m.who letters tree m.held id e one found kind

  pub root_there : (it : MiniAllocator F g) (who : Owners) → HasFileInvariant it who → HasRoot (entries_held (directory_of it))
  unfolding live_of
  root_there it who m = record { root = m.root; found = m.kept.root_found; of_kind = m.kept.root_kind }
