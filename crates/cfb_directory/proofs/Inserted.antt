-- The tree with a child more, over entries that may have become more.
use Rattle.std.proofs.Common.{◌≡◌, ℕ, ◌+◌, ◌<◌, ◌≤◌, Bool, false, List, [], ◌∷◌, ◌++◌, length, replicate, zero, suc, refl, sym, ap, subst, ◌∙◌, ⊎_elim, arith}
use Rattle.std.specs.Prelude.{nat_eq, slice_get, slice_set, Option, Some, None}
use Rattle.std.proofs.lemmas.Bool.Decides.{eqb_tells}
use Rattle.std.proofs.lemmas.Option.{slice_get_past}
use Rattle.std.proofs.Math.ListN.{length-set}
use Rattle.cfb_medium.specs.Versions.{dir_entries_per_sector}
use Rattle.cfb_medium.specs.declared.version.Version.{Version}
use Rattle.cfb_tree.specs.Changes.{added}
use Rattle.cfb_tree.specs.Directory.{greatest_entry, no_entry, Entry}
use Rattle.cfb_tree.specs.Entries.{empty_entry}
use Rattle.cfb_tree.specs.Names.{CaseTable}
use Rattle.cfb_tree.specs.declared.entry.DirEntry.{DirEntry}
use Rattle.cfb_tree.specs.Objects.{a_storage, a_stream, name_of, EntriesHoldTree, IsObject, Object}
use Rattle.cfb_tree.specs.Paths.{Path}
use Rattle.cfb_tree.specs.Tree.{Tree}
use Rattle.cfb_tree.proofs.OneContent.{Some_same}
use Rattle.cfb_siblings.specs.Changes.{HoldsOn, HoldsOneMore, IsAlone, IsUnused}
use Rattle.cfb_siblings.specs.Links.{holder, joined_by, linked_to, relinked, taken_out, with_entry}
use Rattle.cfb_siblings.specs.Places.{path_to, HasEntry, IsChild, IsFree, IsStorageAt}
use Rattle.cfb_siblings.specs.Reading.{ReadBy}
use Rattle.cfb_siblings.specs.declared.links.Link.{Link}
use Rattle.cfb_siblings.specs.declared.links.NewLink.{NewLink}
use Rattle.cfb_siblings.specs.declared.removal.Removal.{Removal}
use Rattle.cfb_siblings.specs.declared.links.Link.TheVariants.{Child, Left, Right}
use Rattle.cfb_siblings.proofs.Adding.{grows, new_child, storage_there}
use Rattle.cfb_siblings.proofs.Frames.{append_keeps, either_same, holds_stays, set_changes_only, set_found}
use Rattle.cfb_siblings.proofs.Unused.{read_by_place, same_stay}
use Rattle.cfb_directory.specs.Children.{AddsAt, HasAt, IsAs, LinksNew, RemovesAt, SameEntriesExcept}
use Rattle.cfb_directory.specs.Entries.{entries_in, SizesFit}
use Rattle.cfb_directory.proofs.Readiness.{sizes_behind, sizes_set}
use Rattle.cfb_directory.proofs.Longer.{free_more, siblings_more, storage_more}
use Rattle.cfb_directory.proofs.LongerColors.{tree_colored}

-- a tree stays where entries are appended, of the same entries
appended_on : (letters : CaseTable) (Reads : Entry → List ℕ → Type 0) (old more : List Entry) (tree : Tree) → (h : EntriesHoldTree letters Reads old tree) → HoldsOn letters Reads (old ++ more) tree h.ids
appended_on letters Reads old more tree h =
    let keep = λ (k : ℕ) (x : Entry) (found : slice_get old k ≡ Some x). append_keeps old more k x found in record {
      holds = record {
        root = h.root;
        root_found = keep 0 h.root h.root_found;
        root_kind = h.root_kind;
        facts = h.facts;
        children = h.children;
        ids = h.ids;
        siblings = siblings_more letters old (old ++ more) keep h.root.child h.children h.siblings;
        holds = holds_stays old (old ++ more) Reads Reads tree.content h.children h.ids (same_stay old (old ++ more) Reads h.ids keep) h.holds;
        once = h.once;
        ordered = h.ordered;
      };
      ids_are = refl;
    }

-- the tree with the child, in a storage that is there still
pub record Inserts (letters : CaseTable) (Reads : Entry → List ℕ → Type 0) (old new : List Entry) (tree : Tree) (ids : List ℕ) (path : Path) (parent : ℕ) (name : List ℕ) (id : ℕ) : Type 0 where
  pub more : HoldsOneMore letters Reads old new tree ids (path_to path name) id
  pub storage : IsStorageAt letters new path parent
  pub child : IsChild letters new parent name id

module _ (reads : ℕ → ℕ → List ℕ → Bool) (letters : CaseTable) (tree : Tree) (path : Path) (parent : ℕ) (link : Link) (e : Entry) (object : Object) (alone : IsAlone (ReadBy reads) e object) where
  abbrev HoldsWith : List Entry → List Entry → List ℕ → ℕ → Type 0
  HoldsWith old new ids id = Inserts letters (ReadBy reads) old new (added letters object (path_to path (name_of object)) tree) ids path parent (name_of object) id

  added_to : (old new : List Entry) (id : ℕ) → (h : EntriesHoldTree letters (ReadBy reads) old tree) → IsStorageAt letters old path parent → IsFree letters old parent (name_of object) link → IsUnused old id
      → new ≡ relinked link id (slice_set old id e) → HoldsWith old new h.ids id
  added_to old new id h s free unused is =
      subst (λ l. HoldsWith old l h.ids id) (sym is) (record {
        more = grows letters (ReadBy reads) (read_by_place reads) old tree path parent link id e object h s free unused alone;
        storage = storage_there letters (ReadBy reads) (read_by_place reads) old tree path parent link id e object h s free unused alone;
        child = new_child letters (ReadBy reads) (read_by_place reads) old tree path parent link id e object h s free unused alone;
      })

  -- where entries came behind those of the tree
  added_behind : (old more new : List Entry) (id : ℕ) → (h : EntriesHoldTree letters (ReadBy reads) old tree) → IsStorageAt letters old path parent → IsFree letters old parent (name_of object) link
      → length (old ++ more) ≤ greatest_entry + 1 → IsUnused (old ++ more) id → new ≡ relinked link id (slice_set (old ++ more) id e) → HoldsWith old new h.ids id
  added_behind old more new id h s free few unused is =
      let keep = λ (k : ℕ) (x : Entry) (found : slice_get old k ≡ Some x). append_keeps old more k x found in
      let on = appended_on letters (ReadBy reads) old more tree h in
      let with_it = subst (λ ids. HoldsWith (old ++ more) new ids id) on.ids_are
      (added_to (old ++ more) new id on.holds (storage_more letters old (old ++ more) keep path parent s) (free_more letters old (old ++ more) keep parent (name_of object) link free) unused is) in
      record {
        more = record {
          holds = with_it.more.holds;
          all_are = with_it.more.all_are;
          at_path = with_it.more.at_path;
          colors = λ right. with_it.more.colors (tree_colored old (old ++ more) keep (slice_get_past (old ++ more) no_entry (omega (arith, few))) letters (ReadBy reads) tree h right);
        };
        storage = with_it.storage;
        child = with_it.child;
      }

  pub inserted_holds_tree : (version : Version) (old new : List Entry) (id : ℕ) → LinksNew version link e old new id → (h : EntriesHoldTree letters (ReadBy reads) old tree) → IsStorageAt letters old path parent
      → IsFree letters old parent (name_of object) link → HoldsWith old new h.ids id
  inserted_holds_tree version old new id links h s free =
      let more = replicate (dir_entries_per_sector version) empty_entry in
      let P : List Entry → Type 0 = λ es. length es ≤ greatest_entry + 1 → IsUnused es id → new ≡ relinked link id (slice_set es id e) → HoldsWith old new h.ids id in
      ⊎_elim
      (λ same. subst (λ es. IsUnused es id → new ≡ relinked link id (slice_set es id e) → HoldsWith old new h.ids id) (sym same) (λ unused is. added_to old new id h s free unused is) links.unused links.entries)
      (λ longer. subst P (sym longer.0) (λ few unused is. added_behind old more new id h s free few unused is) longer.1 links.unused links.entries)
      links.behind

pub as_itself : (e : Entry) → IsAs e e
as_itself e = record { name_units = refl; name_len = refl; kind = refl; facts = refl; start = refl; size = refl }

as_linked : (link : Link) (target : ℕ) (e : Entry) → IsAs e (linked_to link target e)
as_linked (Child id) target e = record { name_units = refl; name_len = refl; kind = refl; facts = refl; start = refl; size = refl }
as_linked (Left id) target e = record { name_units = refl; name_len = refl; kind = refl; facts = refl; start = refl; size = refl }
as_linked (Right id) target e = record { name_units = refl; name_len = refl; kind = refl; facts = refl; start = refl; size = refl }

-- a link that is set leaves each entry, but for links and colour
relinked_as : (link : Link) (target id : ℕ) (es : List Entry) (e : Entry) (at : Option Entry) → at ≡ slice_get es (holder link) → slice_get es id ≡ Some e → HasAt (with_entry es (holder link) (linked_to link target) at) id e
relinked_as link target id es e None is found = (e, found, as_itself e)
relinked_as link target id es e (Some x) is found =
    ⊎_elim
    (λ same.
    let one : x ≡ e = Some_same (is ∙ ap (slice_get es) same ∙ found) in
    (linked_to link target x, ap (slice_get (slice_set es (holder link) (linked_to link target x))) (sym same) ∙ set_found es (holder link) x (linked_to link target x) (sym is), subst (λ y. IsAs y (linked_to link target x)) one (as_linked link target x)))
    (λ other. (e, set_changes_only es (holder link) (linked_to link target x) id e other found, as_itself e))
    (either_same (holder link) id)

pub inserted_at : (version : Version) (link : Link) (e : Entry) (old new : List Entry) (id : ℕ) → LinksNew version link e old new id → HasAt new id e
inserted_at version link e old new id links =
    subst (λ l. HasAt l id e) (sym links.entries)
    (relinked_as link id id (slice_set links.grown id e) e (slice_get (slice_set links.grown id e) (holder link)) refl (set_found links.grown id links.unused.entry e links.unused.found))

as_then : (e f h : Entry) → IsAs e f → IsAs f h → IsAs e h
as_then e f h first second = record {
  name_units = second.name_units ∙ first.name_units;
  name_len = second.name_len ∙ first.name_len;
  kind = second.kind ∙ first.kind;
  facts = second.facts ∙ first.facts;
  start = second.start ∙ first.start;
  size = second.size ∙ first.size;
}

-- so do two links
pub at_then : (es es' : List Entry) (k : ℕ) (e : Entry) → HasAt es k e → ((f : Entry) → slice_get es k ≡ Some f → HasAt es' k f) → HasAt es' k e
at_then es es' k e (f, found, same) later = let next = later f found in (next.0, next.1, as_then e f next.0 same next.2)

pub relinked_at : (link : Link) (target k : ℕ) (es : List Entry) (e : Entry) → slice_get es k ≡ Some e → HasAt (relinked link target es) k e
relinked_at link target k es e found = relinked_as link target k es e (slice_get es (holder link)) refl found

differs : (k id : ℕ) → (k ≡ id → ⊥) → nat_eq id k ≡ false
differs k id other = ⊎_elim (λ same. absurd (other (sym same.1))) (λ differ. differ.0) (eqb_tells id k)

pub relinked_sizes : (v : Version) (link : Link) (target : ℕ) (es : List Entry) → SizesFit v es → SizesFit v (relinked link target es)
relinked_sizes v link target es fits = by_entry (slice_get es (holder link)) refl
  where
    by_entry : (at : Option Entry) → slice_get es (holder link) ≡ at → SizesFit v (with_entry es (holder link) (linked_to link target) at)
    by_entry None is = fits
    by_entry (Some x) is = sizes_set v es (holder link) (linked_to link target x) (let few = fits (holder link) x is in let same = (as_linked link target x).size in omega (arith, few, same)) fits

pub length_relinked : (link : Link) (target : ℕ) (es : List Entry) → length (relinked link target es) ≡ length es
length_relinked link target es = by_entry (slice_get es (holder link))
  where
    by_entry : (at : Option Entry) → length (with_entry es (holder link) (linked_to link target) at) ≡ length es
    by_entry None = refl
    by_entry (Some x) = length-set es (holder link) (linked_to link target x)

pub inserted_others : (version : Version) (link : Link) (e : Entry) (old new : List Entry) (id : ℕ) → LinksNew version link e old new id → AddsAt old new e id
inserted_others version link e old new id links =
    let more = replicate (dir_entries_per_sector version) empty_entry in
    let keep : (k : ℕ) (x : Entry) → slice_get old k ≡ Some x → slice_get links.grown k ≡ Some x = λ k x found.
    ⊎_elim (λ same. ap (λ l. slice_get l k) same ∙ found) (λ longer. ap (λ l. slice_get l k) longer.0 ∙ append_keeps old more k x found) links.behind in
    record {
      entry = inserted_at version link e old new id links;
      unused = λ x found. ap (λ (y : Entry). y.kind) (Some_same (sym (keep id x found) ∙ links.unused.found)) ∙ links.unused.of_kind;
      longer = λ k unused. ap length links.entries ∙ length_relinked link id (slice_set links.grown id e) ∙ length-set links.grown id e
          ∙ ⊎_elim (λ same. ap length same) (λ more. absurd (more.2 k unused)) links.behind;
      others = λ k x other found. subst (λ l. HasAt l k x) (sym links.entries)
          (relinked_at link id k (slice_set links.grown id e) x (set_changes_only links.grown id e k x (differs k id other) (keep k x found)));
      sizes = λ v small fits. subst (SizesFit v) (sym links.entries)
          (relinked_sizes v link id (slice_set links.grown id e) (sizes_set v links.grown id e (omega (arith, small)) (sizes_behind v version old links.grown links.behind fits)));
    }

joined_at : (joined : Option NewLink) (es : List Entry) (k : ℕ) (e : Entry) → slice_get es k ≡ Some e → HasAt (joined_by joined es) k e
joined_at None es k e found = (e, found, as_itself e)
joined_at (Some it) es k e found = relinked_at it.link it.target k es e found

pub taken_others : (removal : Removal) (old new : List Entry) (id : ℕ) (x : Entry) → new ≡ slice_set (taken_out removal old) id x → SameEntriesExcept old new id
taken_others removal old new id x is k e other found =
    let joined = joined_by removal.joined old in
    let both = at_then joined (taken_out removal old) k e (joined_at removal.joined old k e found) (λ f at. relinked_at removal.replaced.link removal.replaced.target k joined f at) in
    subst (λ l. HasAt l k e) (sym is) (both.0, set_changes_only (taken_out removal old) id x k both.0 (differs k id other) both.1, both.2)

-- what a removal leaves of an entry, but for its links and its colour
taken_at : (removal : Removal) (old : List Entry) (k : ℕ) (e : Entry) → slice_get old k ≡ Some e → HasAt (taken_out removal old) k e
taken_at removal old k e found =
    let joined = joined_by removal.joined old in
    at_then joined (taken_out removal old) k e (joined_at removal.joined old k e found) (λ f at. relinked_at removal.replaced.link removal.replaced.target k joined f at)

-- entries are there still once a link was set
pub joined_there : (joined : Option NewLink) (es : List Entry) (k : ℕ) → HasEntry es k → HasEntry (joined_by joined es) k
joined_there joined es k (e, found) = let at = joined_at joined es k e found in (at.0, at.1)

pub joined_sizes : (v : Version) (joined : Option NewLink) (es : List Entry) → SizesFit v es → SizesFit v (joined_by joined es)
joined_sizes v None es fits = fits
joined_sizes v (Some it) es fits = relinked_sizes v it.link it.target es fits

entry_there : (xs : List Entry) (id : ℕ) → id < length xs → HasEntry xs id
entry_there [] id below = absurd (omega (arith, below))
entry_there (x ∷ xs) zero below = (x, refl)
entry_there (x ∷ xs) (suc id) below = entry_there xs id (omega (arith, below))

pub removes_at : (removal : Removal) (old new : List Entry) (id : ℕ) → id < length old → new ≡ slice_set (taken_out removal old) id empty_entry → RemovesAt old new id
removes_at removal old new id below is =
    let was = entry_there old id below in
    let at = taken_at removal old id was.0 was.1 in
    record {
      entry = ap (λ l. slice_get l id) is ∙ set_found (taken_out removal old) id at.0 empty_entry at.1;
      others = taken_others removal old new id empty_entry is;
      sizes = λ v fits. subst (SizesFit v) (sym is)
          (sizes_set v (taken_out removal old) id empty_entry (omega arith)
          (relinked_sizes v removal.replaced.link removal.replaced.target (joined_by removal.joined old) (joined_sizes v removal.joined old fits)));
    }

-- the entry of an object is there
pub object_lost : (directory : List Entry) (Reads : Entry → List ℕ → Type 0) (id : ℕ) (o : Object) (own : List ℕ) → IsObject directory Reads id o own → slice_get directory id ≡ None → ⊥
object_lost directory Reads id (a_stream name bits bytes) own (e, is, reads, none) lost = let never : Some e ≡ None = sym is.found ∙ lost in absurd (cc)
object_lost directory Reads id (a_storage name facts inside) own (e, children, is, siblings, holds) lost = let never : Some e ≡ None = sym is.found ∙ lost in absurd (cc)

pub there : (entries : List DirEntry) (id : ℕ) → id < length entries → id < length (entries_in entries)
there [] id below = absurd (omega (arith, below))
there (e ∷ entries) zero below = omega arith
there (e ∷ entries) (suc id) below = let rest = there entries id (omega (arith, below)) in omega (arith, rest)
