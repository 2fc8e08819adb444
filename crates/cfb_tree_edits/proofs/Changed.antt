-- The tree that a live file means after an entry was changed in its place.
use Rattle.std.proofs.Common.{◌≡◌, ℕ, ◌≤◌, ◌⊎◌, List, [], ◌∷◌, length, length-set, zero, suc, refl, ap, sym, subst, ◌∙◌, ⊎_elim, arith}
use Rattle.std.proofs.lemmas.Option.{slice_get_past}
use Rattle.std.specs.Prelude.{slice_get, slice_set, Option, Some, None, IfSome}
use Rattle.std.specs.List.{AllByRecursion}
use Rattle.std.proofs.lemmas.Bool.Decides.{eqb_tells}
use Rattle.cfb_tree.specs.Changes.{changed}
use Rattle.cfb_tree.specs.Directory.{kind_storage, kind_stream, Entry, Siblings}
use Rattle.cfb_tree.specs.Names.{CaseTable}
use Rattle.cfb_tree.specs.Objects.{object_at, EntriesHoldTree, Object}
use Rattle.cfb_tree.specs.Paths.{Path}
use Rattle.cfb_tree.specs.Tree.{Tree}
use Rattle.cfb_tree.proofs.OneContent.{Some_same}
use Rattle.cfb_siblings.specs.Changes.{ObjectBecomes, HasSameLinks, HoldsOn, KeepBytes}
use Rattle.cfb_siblings.proofs.Frames.{set_changes_only, set_found}
use Rattle.cfb_siblings.specs.Places.{LeadsTo}
use Rattle.cfb_siblings.specs.Reading.{ReadBy}
use Rattle.cfb_siblings.proofs.Editing.{edited}
use Rattle.cfb_ownership.specs.Held.{OwnerHasStream, IsStreamAmong, OwnersHoldTree}
use Rattle.cfb_ownership.specs.LiveInvariant.{LiveFileInvariant}
use Rattle.cfb_ownership.specs.LiveFile.{LiveFile}
use Rattle.cfb_ownership.specs.Owners.{mini_stream_owner, stream_owner, Owners}
use Rattle.cfb_ownership.proofs.HoldsById.{each_part, holds_so, holds_with, IsPart}
use Rattle.cfb_tree_edits.specs.Freeing.{CarriesBut}
use Rattle.cfb_tree_edits.proofs.Carried.{carries_but, stream_stays_but, Carries}
use Rattle.cfb_tree_edits.proofs.Streams.{bytes_from, reads, reads_means, reads_so, stream_is}

-- the entries hold the tree, with what is read of its streams
pub tree_held : (s : LiveFile) (who : Owners) (letters : CaseTable) (tree : Tree) → OwnersHoldTree s who letters tree → EntriesHoldTree letters (ReadBy (reads s who)) s.entries tree
tree_held s who letters tree h = record {
  root = h.root;
  root_found = h.kept.root_found;
  root_kind = h.kept.root_kind;
  facts = h.facts;
  children = h.children;
  ids = h.ids;
  siblings = h.siblings;
  holds = holds_so s.entries (OwnerHasStream s who) (ReadBy (reads s who))
      (λ id e bytes has. reads_so s who e.start e.size bytes (stream_is s who h.root h.kept id e bytes has)) tree.content h.children h.ids h.holds;
  once = h.once;
  ordered = h.ordered;
}

pub tree_ids : (s : LiveFile) (who : Owners) (letters : CaseTable) (tree : Tree) (h : OwnersHoldTree s who letters tree) → (tree_held s who letters tree h).ids ≡ h.ids
unfolding tree_held
tree_ids s who letters tree h = refl

lost_past : (xs : List Entry) (i : ℕ) → slice_get xs i ≡ None → length xs ≤ i
lost_past [] i lost = omega arith
lost_past (x ∷ xs) zero lost = absurd (cc)
lost_past (x ∷ xs) (suc i) lost = let rest = lost_past xs i lost in omega (arith, rest)

-- the entry of this number keeps its kind, and where its stream lies
abbrev pub KeepsPlace : List Entry → List Entry → ℕ → Type 0
KeepsPlace old new id = (e : Entry) → slice_get old id ≡ Some e → (f : Entry) × (slice_get new id ≡ Some f) × (f.kind ≡ e.kind) × (f.start ≡ e.start) × (f.size ≡ e.size)

kind_over : (o p : Option Entry) → (o ≡ None → p ≡ None) → ((e : Entry) → o ≡ Some e → (f : Entry) × (p ≡ Some f) × (f.kind ≡ e.kind))
    → IfSome o (λ e. e.kind ≡ kind_stream) → IfSome p (λ e. e.kind ≡ kind_stream)
kind_over None p none some h = subst (λ q. IfSome q (λ e. e.kind ≡ kind_stream)) (sym (none refl)) tt
kind_over (Some e) p none some h = let now = some e refl in subst (λ q. IfSome q (λ e. e.kind ≡ kind_stream)) (sym now.1) (now.2 ∙ h)

-- a stream keeps its bytes where its entry keeps its place
pub moved_stream_but : (key : ℕ) (s t : LiveFile) (who now : Owners) (letters : CaseTable) (tree : Tree) (h : OwnersHoldTree s who letters tree) → CarriesBut key s t who now → (mini_stream_owner ≡ key → ⊥) → (id : ℕ) (e f : Entry)
    → (stream_owner id ≡ key → ⊥) → (e.kind ≡ kind_storage) ⊎ ((e.kind ≡ kind_stream) × (bytes : List ℕ) × OwnerHasStream s who id e bytes) → f.kind ≡ e.kind → f.start ≡ e.start → f.size ≡ e.size → f.kind ≡ kind_stream
    → (content : List ℕ) × OwnerHasStream t now id f content × (content ≡ bytes_from s who f.start f.size)
moved_stream_but key s t who now letters tree h c apart id e f other part kinds start size kind =
    ⊎_elim
    (λ is_storage. let wrong : kind_storage ≡ kind_stream = sym is_storage ∙ sym kinds ∙ kind in absurd (omega (arith, wrong)))
    (λ it. (
      it.1,
      stream_stays_but key s t who now c id e f it.1 other apart start size it.2,
      stream_is s who h.root h.kept id e it.1 it.2 ∙ ap (λ n. bytes_from s who n e.size) (sym start) ∙ ap (bytes_from s who f.start) (sym size),
    ))
    part

pub moved_stream : (s t : LiveFile) (who now : Owners) (letters : CaseTable) (tree : Tree) (h : OwnersHoldTree s who letters tree) → Carries s t who now → (id : ℕ) (e f : Entry)
    → (e.kind ≡ kind_storage) ⊎ ((e.kind ≡ kind_stream) × (bytes : List ℕ) × OwnerHasStream s who id e bytes) → f.kind ≡ e.kind → f.start ≡ e.start → f.size ≡ e.size → f.kind ≡ kind_stream
    → (content : List ℕ) × OwnerHasStream t now id f content × (content ≡ bytes_from s who f.start f.size)
moved_stream s t who now letters tree h c id e f part kinds start size kind =
    moved_stream_but 0 s t who now letters tree h (carries_but s t who now c) (λ same. omega (arith, same)) id e f (λ same. omega (arith, same)) part kinds start size kind

-- the streams stay, and the entries hold another tree with the same numbers
module _ (s t : LiveFile) (who now : Owners) (letters : CaseTable) (tree later : Tree) (h : OwnersHoldTree s who letters tree) (c : Carries s t who now) (root : Entry) (kept : LiveFileInvariant t now root)
    (new : EntriesHoldTree letters (ReadBy (reads s who)) t.entries later) (each : (id : ℕ) → KeepsPlace s.entries t.entries id) (count : length t.entries ≡ length s.entries) where
  -- a stream has what was read of it
  abbrev IsStreamStill : ℕ → Type 0
  IsStreamStill id = (f : Entry) → slice_get t.entries id ≡ Some f → f.kind ≡ kind_stream → (content : List ℕ) × OwnerHasStream t now id f content × (content ≡ bytes_from s who f.start f.size)

  still : (id : ℕ) → IsPart s.entries (OwnerHasStream s who) id → IsStreamStill id
  still id (e, found, part) f found' kind =
      let place = each id e found in
      let same : place.0 ≡ f = Some_same (sym place.1 ∙ found') in
      moved_stream s t who now letters tree h c id e f part (ap (λ (x : Entry). x.kind) (sym same) ∙ place.2) (ap (λ (x : Entry). x.start) (sym same) ∙ place.3) (ap (λ (x : Entry). x.size) (sym same) ∙ place.4) kind

  each_still : (xs : List ℕ) → AllByRecursion (IsPart s.entries (OwnerHasStream s who)) xs → AllByRecursion IsStreamStill xs
  each_still [] all = tt
  each_still (id ∷ xs) all = (still id all.0, each_still xs all.1)

  was_among : (id : ℕ) → IsStreamAmong s.entries h.ids id → IsStreamAmong t.entries h.ids id
  was_among id (among, kind) = (
    among,
    kind_over (slice_get s.entries id) (slice_get t.entries id)
        (λ none. slice_get_past t.entries id (let past = lost_past s.entries id none in omega (arith, past, count)))
        (λ e found. let place = each id e found in (place.0, place.1, place.2))
        kind,
  )

  pub means_later : new.ids ≡ h.ids → OwnersHoldTree t now letters later
  means_later same =
      let root_is : new.root ≡ root = Some_same (sym new.root_found ∙ kept.root_found) in record {
        root = root;
        kept = kept;
        facts = ap (λ (x : Entry). x.facts) (sym root_is) ∙ new.facts;
        children = new.children;
        ids = new.ids;
        siblings = subst (λ (x : Entry). Siblings t.entries x.child new.children) root_is new.siblings;
        holds = holds_with t.entries (ReadBy (reads s who)) (OwnerHasStream t now) IsStreamStill
            (λ id e bytes found kind is_still is_read.
            let it = is_still e found kind in subst (OwnerHasStream t now id e) (it.2 ∙ sym (reads_means s who e.start e.size bytes is_read)) it.1)
            later.content new.children new.ids (subst (AllByRecursion IsStreamStill) (sym same) (each_still h.ids (each_part s.entries (OwnerHasStream s who) tree.content h.children h.ids h.holds))) new.holds;
        once = new.once;
        ordered = new.ordered;
        unused = λ id never.
            let nothing = h.unused id (λ among. never (subst (λ l. IsStreamAmong t.entries l id) (sym same) (was_among id among))) in (
              c.sectors (stream_owner id) (omega arith) ∙ nothing.0,
              ap (λ m. m (stream_owner id)) c.minis ∙ nothing.1,
            );
      }

-- a set entry keeps its place, and all others do
pub set_keeps : (xs : List Entry) (id : ℕ) (e f : Entry) → slice_get xs id ≡ Some e → f.kind ≡ e.kind → f.start ≡ e.start → f.size ≡ e.size → (k : ℕ) → KeepsPlace xs (slice_set xs id f) k
set_keeps xs id e f found kind start size k x at =
    ⊎_elim
    (λ same.
    let here : slice_get xs id ≡ Some x = ap (slice_get xs) same.1 ∙ at in
    let is : e ≡ x = Some_same (sym found ∙ here) in (
      f,
      ap (slice_get (slice_set xs id f)) (sym same.1) ∙ set_found xs id e f found,
      kind ∙ ap (λ (y : Entry). y.kind) is,
      start ∙ ap (λ (y : Entry). y.start) is,
      size ∙ ap (λ (y : Entry). y.size) is,
    ))
    (λ differ. (x, set_changes_only xs id f k x (let other = differ.1 in grind (arith, other)) at, refl, refl, refl))
    (eqb_tells id k)

-- nothing is asked where the bytes that are read stay
pub keeps_all : (Reads : Entry → List ℕ → Type 0) (directory : List Entry) (id : ℕ) (ids : List ℕ) → KeepBytes Reads Reads directory id ids
keeps_all Reads directory id [] = tt
keeps_all Reads directory id (k ∷ ids) = ((λ other e bytes found reads. reads), keeps_all Reads directory id ids)

-- one entry became another with the same links and the same stream: the live file means the tree with the object changed so
pub entry_changed : (s t : LiveFile) (who now : Owners) (letters : CaseTable) (tree : Tree) (path : Path) (id : ℕ) (e f : Entry) (change : Object → Object) (object : Object)
    → (h : OwnersHoldTree s who letters tree) → LeadsTo letters s.entries 0 path id → object_at letters tree path ≡ Some object → slice_get s.entries id ≡ Some e
    → HasSameLinks e f → f.start ≡ e.start → f.size ≡ e.size → ObjectBecomes (ReadBy (reads s who)) f object (change object) → t.entries ≡ slice_set s.entries id f
    → Carries s t who now → (root : Entry) → LiveFileInvariant t now root → OwnersHoldTree t now letters (changed letters change path tree)
unfolding tree_held
entry_changed s t who now letters tree path id e f change object h leads at found links start size becomes set c root kept =
    let held = tree_held s who letters tree h in
    let did : HoldsOn letters (ReadBy (reads s who)) (slice_set s.entries id f) (changed letters change path tree) held.ids =
    edited letters (ReadBy (reads s who)) (ReadBy (reads s who)) s.entries tree f held path id change object e leads at found links becomes (keeps_all (ReadBy (reads s who)) s.entries id held.ids) in
    let now_held : HoldsOn letters (ReadBy (reads s who)) t.entries (changed letters change path tree) held.ids = subst (λ l. HoldsOn letters (ReadBy (reads s who)) l (changed letters change path tree) held.ids) (sym set) did in
    means_later s t who now letters tree (changed letters change path tree) h c root kept now_held.holds
    (λ k. subst (λ l. KeepsPlace s.entries l k) (sym set) (set_keeps s.entries id e f found links.kind start size k))
    (ap length set ∙ length-set s.entries id f) now_held.ids_are
