-- The tree that a live file means after the bytes of a stream were changed.
use Rattle.std.proofs.Common.{◌≡◌, ℕ, ◌<◌, List, [], ◌∷◌, length, refl, ap, sym, subst, ◌∙◌, ⊎_elim, arith}
use Rattle.std.specs.Prelude.{slice_get, slice_set, IfSome, Option, Some}
use Rattle.std.specs.List.{AllByRecursion}
use Rattle.std.proofs.lemmas.Bool.Decides.{eqb_tells}
use Rattle.cfb_tree.specs.Changes.{changed, with_bytes}
use Rattle.cfb_tree.specs.Directory.{kind_stream, Entry, Holds, Siblings}
use Rattle.cfb_tree.specs.Names.{CaseTable}
use Rattle.cfb_tree.specs.Objects.{a_stream, object_at, root_object, EntriesHoldTree, IsObject}
use Rattle.cfb_tree.specs.Paths.{Path}
use Rattle.cfb_tree.specs.Tree.{Tree}
use Rattle.cfb_tree.proofs.OneContent.{Some_same}
use Rattle.cfb_siblings.specs.Changes.{HasSameLinks, HoldsOn, KeepBytes}
use Rattle.cfb_siblings.specs.Places.{LeadsTo}
use Rattle.cfb_siblings.specs.Reading.{ReadBy}
use Rattle.cfb_siblings.proofs.Editing.{edited}
use Rattle.cfb_siblings.proofs.Following.{entry_at}
use Rattle.cfb_siblings.proofs.Frames.{set_changes_only, set_found}
use Rattle.cfb_ownership.specs.Held.{OwnerHasStream, IsStreamAmong, OwnersHoldTree}
use Rattle.cfb_ownership.specs.LiveInvariant.{LiveFileInvariant}
use Rattle.cfb_ownership.specs.LiveFile.{LiveFile}
use Rattle.cfb_ownership.specs.Owners.{stream_owner, Owners}
use Rattle.cfb_ownership.proofs.HoldsById.{each_part, holds_so, holds_with, IsPart}
use Rattle.cfb_ownership.proofs.KeysOfParts.{IsOneOf}
use Rattle.cfb_ownership.proofs.UsesOfEntries.{all_from, all_one, one_not_none}
use Rattle.cfb_tree_edits.proofs.Changed.{keeps_all, tree_held, tree_ids}
use Rattle.cfb_tree_edits.proofs.ChildAdded.{apart_or, none_of, one_apart}
use Rattle.cfb_tree_edits.proofs.NewPlaces.{stream_of}
use Rattle.cfb_tree_edits.proofs.Removals.{kind_of_object}
use Rattle.cfb_tree_edits.proofs.Removed.{among, stream_there}
use Rattle.cfb_tree_edits.proofs.Streams.{bytes_from, reads, reads_means, reads_so, stream_is}
use Rattle.cfb_stream_writes.specs.Moving.{CarriesOthers, MovesRoot}
use Rattle.cfb_stream_writes.proofs.Links.{differ, leads_still, links_refl, links_set, place_links, KeepLinks}
use Rattle.cfb_stream_writes.proofs.Others.{other_stays}
use Rattle.cfb_siblings.proofs.Coloring.{root_apart}

-- the root is no stream
pub below_root : (letters : CaseTable) (tree : Tree) (path : Path) (name : List ℕ) (bits : ℕ) (content : List ℕ) → object_at letters tree path ≡ Some (a_stream name bits content) → 0 < length path
below_root letters tree [] name bits content at = absurd (cc)
below_root letters tree (first ∷ path) name bits content at = omega arith

-- the entry of the stream to which a path leads
pub record StreamEntry (s : LiveFile) (who : Owners) (ids : List ℕ) (id bits : ℕ) (content : List ℕ) : Type 0 where
  pub entry : Entry
  pub found : slice_get s.entries id ≡ Some entry
  pub of_kind : entry.kind ≡ kind_stream
  pub bits_are : entry.facts.state_bits ≡ bits
  pub one : IsOneOf ids id
  pub has : OwnerHasStream s who id entry content

pub stream_entry : (s : LiveFile) (who : Owners) (letters : CaseTable) (tree : Tree) (h : OwnersHoldTree s who letters tree) (path : Path) (id : ℕ) (name : List ℕ) (bits : ℕ) (content : List ℕ)
    → LeadsTo letters s.entries 0 path id → object_at letters tree path ≡ Some (a_stream name bits content) → StreamEntry s who h.ids id bits content
stream_entry s who letters tree h path id name bits content leads at =
    let some = below_root letters tree path name bits content at in
    let held = tree_held s who letters tree h in
    let there = entry_at letters (ReadBy (reads s who)) s.entries tree held path id leads in
    let object : there.object ≡ a_stream name bits content = Some_same (sym there.at_path ∙ at) in
    let is : IsObject s.entries (ReadBy (reads s who)) id (a_stream name bits content) there.own =
    subst (λ o. IsObject s.entries (ReadBy (reads s who)) id o there.own) object (there.is_object (λ none. let len = ap length none in omega (arith, some, len))) in
    let one : IsOneOf h.ids id = subst (λ ids. IsOneOf ids id) (tree_ids s who letters tree h) (among letters (ReadBy (reads s who)) s.entries tree held path id some leads) in
    let has = stream_there s who letters tree h id is.0 one is.1.found is.1.of_kind in
    let same : has.0 ≡ content = stream_is s who h.root h.kept id is.0 has.0 has.1 ∙ sym (reads_means s who is.0.start is.0.size content is.2) in
    record { entry = is.0; found = is.1.found; of_kind = is.1.of_kind; bits_are = is.1.bits; one = one; has = subst (OwnerHasStream s who id is.0) same has.1 }

-- the entries lead the path to a stream
pub record StreamFound (letters : CaseTable) (entries : List Entry) (tree : Tree) (path : Path) (id : ℕ) (content : List ℕ) : Type 0 where
  pub leads : LeadsTo letters entries 0 path id
  pub name : List ℕ
  pub bits : ℕ
  pub at_path : object_at letters tree path ≡ Some (a_stream name bits content)

-- what is read of a stream alone
abbrev StreamReads : LiveFile → Owners → Entry → List ℕ → Type 0
StreamReads s who e bytes = (e.kind ≡ kind_stream) × ReadBy (reads s who) e bytes

-- the entries hold the tree with what is read of its streams
kinded : (s : LiveFile) (who : Owners) (letters : CaseTable) (tree : Tree) → OwnersHoldTree s who letters tree → EntriesHoldTree letters (StreamReads s who) s.entries tree
kinded s who letters tree h =
    let read : Holds s.entries (ReadBy (reads s who)) h.children tree.content h.ids =
    holds_so s.entries (OwnerHasStream s who) (ReadBy (reads s who)) (λ id e bytes has. reads_so s who e.start e.size bytes (stream_is s who h.root h.kept id e bytes has)) tree.content h.children h.ids h.holds in
    record {
      root = h.root;
      root_found = h.kept.root_found;
      root_kind = h.kept.root_kind;
      facts = h.facts;
      children = h.children;
      ids = h.ids;
      siblings = h.siblings;
      holds = holds_so s.entries (λ k. StreamReads s who) (StreamReads s who) (λ k e bytes it. it) tree.content h.children h.ids
          (holds_with s.entries (ReadBy (reads s who)) (λ k. StreamReads s who) (λ k. Unit {0}) (λ k e bytes found kind fact it. (kind, it)) tree.content h.children h.ids (all_from (λ k. Unit {0}) h.ids (λ k one. tt)) read);
      once = h.once;
      ordered = h.ordered;
    }

kinded_ids : (s : LiveFile) (who : Owners) (letters : CaseTable) (tree : Tree) (h : OwnersHoldTree s who letters tree) → (kinded s who letters tree h).ids ≡ h.ids
unfolding kinded
kinded_ids s who letters tree h = refl

module _ (s : LiveFile) (who : Owners) (letters : CaseTable) (tree : Tree) (h : OwnersHoldTree s who letters tree) (mid : List Entry) (moved : MovesRoot s.entries mid) where
  pub not_zero : (k : ℕ) → IsOneOf h.ids k → k ≡ 0 → ⊥
  not_zero k one is = one_apart h.ids 0 (subst (IsOneOf h.ids) is one) (root_apart h.ids h.once)

  pub mid_same : (k : ℕ) (x : Entry) → (k ≡ 0 → ⊥) → slice_get s.entries k ≡ Some x → slice_get mid k ≡ Some x
  mid_same k x other found =
      ⊎_elim
      (λ same. ap (λ l. slice_get l k) same ∙ found)
      (λ it. ap (λ l. slice_get l k) it.4 ∙ set_changes_only s.entries 0 (record it.0 { start = it.1; size = it.2 }) k x (differ 0 k other) found)
      moved

  mid_links : KeepLinks s.entries mid
  mid_links =
      ⊎_elim
      (λ same. subst (KeepLinks s.entries) (sym same) (links_refl s.entries))
      (λ it. subst (KeepLinks s.entries) (sym it.4) (links_set s.entries 0 it.0 (record it.0 { start = it.1; size = it.2 }) it.3 (place_links it.0 it.1 it.2)))
      moved

  -- they hold it still where the root tells of another place
  mid_held : HoldsOn letters (StreamReads s who) mid tree h.ids
  mid_held =
      let held = kinded s who letters tree h in
      let ids = kinded_ids s who letters tree h in
      ⊎_elim
      (λ same. subst (λ l. HoldsOn letters (StreamReads s who) l tree h.ids) (sym same) (record { holds = held; ids_are = ids }))
      (λ it.
      let r : Entry = record it.0 { start = it.1; size = it.2 } in
      let facts : r.facts ≡ tree.root = ap (λ (x : Entry). x.facts) (Some_same (sym it.3 ∙ h.kept.root_found)) ∙ h.facts in
      let did = edited letters (StreamReads s who) (StreamReads s who) s.entries tree r held [] 0 (λ o. o) (root_object tree) it.0 refl refl it.3 (place_links it.0 it.1 it.2) (refl, facts, refl) (keeps_all (StreamReads s who) s.entries 0 held.ids) in
      subst (λ l. HoldsOn letters (StreamReads s who) l tree h.ids) (sym it.4) (record { holds = did.holds; ids_are = did.ids_are ∙ ids }))
      moved

module _ (s t : LiveFile) (who now : Owners) (letters : CaseTable) (tree : Tree) (h : OwnersHoldTree s who letters tree) (mid : List Entry) (moved : MovesRoot s.entries mid)
    (path : Path) (id : ℕ) (name : List ℕ) (bits : ℕ) (content content' : List ℕ) (leads : LeadsTo letters s.entries 0 path id) (at : object_at letters tree path ≡ Some (a_stream name bits content))
    (was : StreamEntry s who h.ids id bits content) (f : Entry) (links : HasSameLinks was.entry f) (facts : f.facts ≡ was.entry.facts) (set : t.entries ≡ slice_set mid id f)
    (c : CarriesOthers (stream_owner id) s t who now) (root : Entry) (kept : LiveFileInvariant t now root) (has : OwnerHasStream t now id f content') where
  old_part : (k : ℕ) → IsOneOf h.ids k → IsPart s.entries (OwnerHasStream s who) k
  old_part k one = all_one (IsPart s.entries (OwnerHasStream s who)) h.ids k (each_part s.entries (OwnerHasStream s who) tree.content h.children h.ids h.holds) one

  below : (k : ℕ) → IsOneOf h.ids k → k ≡ 0 → ⊥
  below = not_zero s who letters tree h mid moved

  mid_found : slice_get mid id ≡ Some was.entry
  mid_found = mid_same s who letters tree h mid moved id was.entry (below id was.one) was.found

  new_found : slice_get t.entries id ≡ Some f
  new_found = ap (λ l. slice_get l id) set ∙ set_found mid id was.entry f mid_found

  new_same : (k : ℕ) (x : Entry) → IsOneOf h.ids k → (k ≡ id → ⊥) → slice_get s.entries k ≡ Some x → slice_get t.entries k ≡ Some x
  new_same k x one other found = ap (λ l. slice_get l k) set ∙ set_changes_only mid id f k x (differ id k other) (mid_same s who letters tree h mid moved k x (below k one) found)

  owners_differ : (k : ℕ) → (k ≡ id → ⊥) → stream_owner k ≡ stream_owner id → ⊥
  owners_differ k other same = other (omega (arith, same))

  -- each other stream has the bytes that it had
  other_has : (k : ℕ) (x : Entry) → IsOneOf h.ids k → (k ≡ id → ⊥) → slice_get s.entries k ≡ Some x → x.kind ≡ kind_stream → (bytes : List ℕ) × OwnerHasStream s who k x bytes × OwnerHasStream t now k x bytes
  other_has k x one other found kind =
      let it = stream_there s who letters tree h k x one found kind in
      (it.0, it.1, other_stays (stream_owner id) s t who now c k x x it.0 (owners_differ k other) refl refl it.1)

  keeps : KeepBytes (StreamReads s who) (StreamReads t now) mid id h.ids
  keeps = all_from _ h.ids (λ k one apart x bytes found it.
      let other : k ≡ id → ⊥ = λ same. grind (arith, apart, same) in
      let part = old_part k one in
      let same : part.0 ≡ x = Some_same (sym (mid_same s who letters tree h mid moved k part.0 (below k one) part.1) ∙ found) in
      let there = other_has k x one other (part.1 ∙ ap Some same) it.0 in
      let is : bytes ≡ there.0 = reads_means s who x.start x.size bytes it.1 ∙ sym (stream_is s who h.root h.kept k x there.0 there.1) in
      (it.0, reads_so t now x.start x.size bytes (is ∙ stream_is t now root kept k x there.0 there.2)))

  later : Tree
  later = changed letters (with_bytes content') path tree

  held_then : HoldsOn letters (StreamReads t now) t.entries (changed letters (with_bytes content') path tree) h.ids
  held_then =
      let held = mid_held s who letters tree h mid moved in
      let mid_leads = leads_still letters s.entries mid (mid_links s who letters tree h mid moved) path 0 id leads in
      let kind : f.kind ≡ kind_stream = links.kind ∙ was.of_kind in
      let reads_new : StreamReads t now f content' = (kind, reads_so t now f.start f.size content' (stream_is t now root kept id f content' has)) in
      let did = edited letters (StreamReads s who) (StreamReads t now) mid tree f held.holds path id (with_bytes content') (a_stream name bits content) was.entry mid_leads at mid_found links
      (refl, ap (λ x. x.state_bits) facts ∙ was.bits_are, reads_new) (subst (KeepBytes (StreamReads s who) (StreamReads t now) mid id) (sym held.ids_are) keeps) in
      subst (λ l. HoldsOn letters (StreamReads t now) l (changed letters (with_bytes content') path tree) h.ids) (sym set) (record { holds = did.holds; ids_are = did.ids_are ∙ held.ids_are })

  -- a stream of the tree, with what is read of it
  abbrev IsStreamNow : ℕ → Type 0
  IsStreamNow k = (x : Entry) → slice_get t.entries k ≡ Some x → x.kind ≡ kind_stream → (bytes : List ℕ) × OwnerHasStream t now k x bytes

  each_now : (k : ℕ) → IsOneOf h.ids k → IsStreamNow k
  each_now k one x found kind =
      ⊎_elim
      (λ same.
      let is : f ≡ x = Some_same (sym new_found ∙ ap (slice_get t.entries) (sym same.1) ∙ found) in
      (content', subst (λ n. OwnerHasStream t now n x content') (sym same.1) (subst (λ y. OwnerHasStream t now id y content') is has)))
      (λ other.
      let part = old_part k one in
      let is : part.0 ≡ x = Some_same (sym (new_same k part.0 one other.1 part.1) ∙ found) in
      let there = other_has k x one other.1 (part.1 ∙ ap Some is) kind in
      (there.0, there.2))
      (eqb_tells k id)

  was_among : (k : ℕ) → (k ≡ id → ⊥) → IsStreamAmong s.entries h.ids k → IsStreamAmong t.entries h.ids k
  was_among k other (among_ids, kind) =
      ⊎_elim
      (λ apart. absurd (among_ids (none_of h.ids k (λ one. one_apart h.ids k one apart))))
      (λ one.
      let part = old_part k one in (
        one_not_none h.ids k one,
        subst (λ (o : Option Entry). IfSome o (λ x. x.kind ≡ kind_stream)) (sym (new_same k part.0 one other part.1)) (subst (λ (o : Option Entry). IfSome o (λ x. x.kind ≡ kind_stream)) part.1 kind),
      ))
      (apart_or k h.ids)

  now_among : IsStreamAmong t.entries h.ids id
  now_among = (one_not_none h.ids id was.one, subst (λ (o : Option Entry). IfSome o (λ x. x.kind ≡ kind_stream)) (sym new_found) (links.kind ∙ was.of_kind))

  -- THE LIVE FILE HOLDS THE TREE with the stream's new bytes
  pub held_rewritten : OwnersHoldTree t now letters (changed letters (with_bytes content') path tree)
  held_rewritten =
      let new = held_then.holds in
      let ids = held_then.ids_are in
      let root_is : new.root ≡ root = Some_same (sym new.root_found ∙ kept.root_found) in record {
        root = root;
        kept = kept;
        facts = ap (λ (x : Entry). x.facts) (sym root_is) ∙ new.facts;
        children = new.children;
        ids = new.ids;
        siblings = subst (λ (x : Entry). Siblings t.entries x.child new.children) root_is new.siblings;
        holds = holds_with t.entries (StreamReads t now) (OwnerHasStream t now) IsStreamNow
            (λ k x bytes found kind is_now it.
            let there = is_now x found kind in
            subst (OwnerHasStream t now k x) (stream_is t now root kept k x there.0 there.1 ∙ sym (reads_means t now x.start x.size bytes it.1)) there.1)
            _ new.children new.ids (subst (AllByRecursion IsStreamNow) (sym ids) (all_from IsStreamNow h.ids each_now)) new.holds;
        once = new.once;
        ordered = new.ordered;
        unused = λ k never.
            ⊎_elim
            (λ same. absurd (never (subst (λ l. IsStreamAmong t.entries l k) (sym ids) (subst (IsStreamAmong t.entries h.ids) (sym same.1) now_among))))
            (λ other.
            let nothing = h.unused k (λ among_them. never (subst (λ l. IsStreamAmong t.entries l k) (sym ids) (was_among k other.1 among_them))) in (
              c.sectors (stream_owner k) (omega arith) (owners_differ k other.1) ∙ nothing.0,
              c.minis (stream_owner k) (owners_differ k other.1) ∙ nothing.1,
            ))
            (eqb_tells k id);
      }

  -- and the path leads to it still
  pub found_rewritten : StreamFound letters t.entries (changed letters (with_bytes content') path tree) path id content'
  found_rewritten =
      let links_now : KeepLinks mid t.entries = subst (KeepLinks mid) (sym set) (links_set mid id was.entry f mid_found links) in
      let leads_now = leads_still letters mid t.entries links_now path 0 id (leads_still letters s.entries mid (mid_links s who letters tree h mid moved) path 0 id leads) in
      let some = below_root letters tree path name bits content at in
      let there = entry_at letters (StreamReads t now) t.entries (changed letters (with_bytes content') path tree) held_then.holds path id leads_now in
      let is = there.is_object (λ none. let len = ap length none in omega (arith, some, len)) in
      let object = stream_of there.object (kind_of_object t.entries (StreamReads t now) id there.object there.own f is new_found) (links.kind ∙ was.of_kind) in
      let it : IsObject t.entries (StreamReads t now) id (a_stream object.0 object.1 object.2) there.own = subst (λ o. IsObject t.entries (StreamReads t now) id o there.own) object.3 is in
      let one : it.0 ≡ f = Some_same (sym it.1.found ∙ new_found) in
      let bytes : object.2 ≡ content' =
      reads_means t now it.0.start it.0.size object.2 it.2.1 ∙ ap (λ (x : Entry). bytes_from t now x.start x.size) one ∙ sym (stream_is t now root kept id f content' has) in
      record { leads = leads_now; name = object.0; bits = object.1; at_path = there.at_path ∙ ap Some object.3 ∙ ap (λ l. Some (a_stream object.0 object.1 l)) bytes }
