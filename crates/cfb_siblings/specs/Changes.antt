-- What entries hold after one was linked, or taken out.
use Rattle.std.specs.Prelude.{◌≡◌, ℕ, ◌≤◌, false, List, ◌∷◌, nat_eq, slice_get, slice_set, Some, IfSome, ◌↔◌}
use Rattle.std.specs.List.{AllByRecursion}
use Rattle.cfb_tree.specs.Names.{CaseTable}
use Rattle.cfb_tree.specs.Paths.{Path}
use Rattle.cfb_tree.specs.Tree.{Tree, nothing}
use Rattle.cfb_tree.specs.Directory.{Entry, HasName, no_entry, greatest_entry, kind_unallocated, kind_storage, kind_stream, black}
use Rattle.cfb_tree.specs.Entries.{IsBlackAt, IsColored}
use Rattle.cfb_tree.specs.Objects.{Object, a_stream, a_storage, IsObject, EntriesHoldTree}
use Rattle.cfb_tree.specs.Changes.{parent_of, removed}
use Rattle.cfb_siblings.specs.declared.removal.Removal.{Removal}
use Rattle.cfb_siblings.specs.Links.{holder, taken_out}
use Rattle.cfb_siblings.specs.Places.{HasEntry, LeadsTo, LeadsBy}

-- the number is none of these
abbrev pub IsApart : ℕ → List ℕ → Type 0
IsApart n ids = AllByRecursion (λ id. nat_eq n id ≡ false) ids

-- entry `id` is not in use ([MS-CFB] 2.6.1)
pub record IsUnused (directory : List Entry) (id : ℕ) : Type 0 where
  pub fits : id ≤ greatest_entry
  pub entry : Entry
  pub found : slice_get directory id ≡ Some entry
  pub of_kind : entry.kind ≡ kind_unallocated

-- the entry is this object: a stream, or a storage without children ([MS-CFB] 2.6.2, 2.6.3)
abbrev pub Is : (Entry → List ℕ → Type 0) → Entry → Object → Type 0
Is Reads e (a_stream name state_bits bytes) =
    (e.kind ≡ kind_stream) × HasName e name × (e.facts.state_bits ≡ state_bits) × Reads e bytes
Is Reads e (a_storage name facts inside) =
    (e.kind ≡ kind_storage) × HasName e name × (e.facts ≡ facts) × (e.child ≡ no_entry) × (inside ≡ nothing)

-- the entry is this object, has no siblings, and is black ([MS-CFB] 2.6.4)
pub record IsAlone (Reads : Entry → List ℕ → Type 0) (e : Entry) (object : Object) : Type 0 where
  pub is : Is Reads e object
  pub left : e.left ≡ no_entry
  pub right : e.right ≡ no_entry
  pub color : e.color ≡ black

-- the root is black, and the entries below it are coloured so ([MS-CFB] 2.6.4)
abbrev pub AreColored : List Entry → List ℕ → Type 0
AreColored directory ids = IsBlackAt directory 0 × AllByRecursion (IsColored directory) ids

-- the entries hold the tree, which is made of the root, of `ids` and of `id`, to which the path leads; colours stay right
pub record HoldsOneMore (letters : CaseTable) (Reads : Entry → List ℕ → Type 0) (old new : List Entry) (tree : Tree) (ids : List ℕ)
    (path : Path) (id : ℕ) : Type 0 where
  pub holds : EntriesHoldTree letters Reads new tree
  pub all_are : (k : ℕ) → IsApart k (0 ∷ holds.ids) ↔ (nat_eq k id ≡ false) × IsApart k (0 ∷ ids)
  pub at_path : LeadsTo letters new 0 path id
  pub colors : AreColored old ids → AreColored new holds.ids

-- the entries hold the tree, which is made of the root and of `ids` without `id`, to which the path led, and those inside of it,
-- `own`; the way to the storage above goes over the same entries; colours stay right
pub record HoldsOneLess (letters : CaseTable) (Reads : Entry → List ℕ → Type 0) (old new : List Entry) (tree : Tree) (ids : List ℕ)
    (path : Path) (id : ℕ) (own : List ℕ) : Type 0 where
  pub holds : EntriesHoldTree letters Reads new tree
  pub all_are : (k : ℕ) → IsApart k (0 ∷ ids) ↔ (nat_eq k id ≡ false) × IsApart k own × IsApart k (0 ∷ holds.ids)
  pub gone : IsApart id (0 ∷ holds.ids)
  pub ways : (way : List ℕ) → LeadsBy letters old 0 (parent_of path) way → LeadsBy letters new 0 (parent_of path) way
  pub colors : AreColored old ids → AreColored new holds.ids

-- the removal takes entry `id` out, of which the object is at the path: whatever stands in its place then, the entries hold the
-- tree without the object and what is in it ([MS-CFB] 2.6.4)
pub record TakesOut (letters : CaseTable) (Reads : Entry → List ℕ → Type 0) (directory : List Entry) (tree : Tree) (ids : List ℕ)
    (path : Path) (id : ℕ) (removal : Removal) : Type 0 where
  pub object : Object
  pub own : List ℕ
  pub is_object : IsObject directory Reads id object own
  pub replaced : HasEntry directory (holder removal.replaced.link)
  pub joined : IfSome removal.joined (λ it. HasEntry directory (holder it.link))
  pub leaves : (e : Entry)
      → HoldsOneLess letters Reads directory (slice_set (taken_out removal directory) id e) (removed letters path tree) ids path id own

-- entry f has the name, the kind and the links of entry e ([MS-CFB] 2.6.1)
pub record HasSameLinks (e f : Entry) : Type 0 where
  pub name_units : f.name_units ≡ e.name_units
  pub name_len : f.name_len ≡ e.name_len
  pub kind : f.kind ≡ e.kind
  pub left : f.left ≡ e.left
  pub right : f.right ≡ e.right
  pub child : f.child ≡ e.child

-- as entry f says it, one object becomes another of its name: a stream gets state bits and bytes, a storage facts ([MS-CFB] 2.6.1)
abbrev pub ObjectBecomes : (Entry → List ℕ → Type 0) → Entry → Object → Object → Type 0
ObjectBecomes Reads f (a_stream name state_bits bytes) (a_stream name' state_bits' bytes') =
    (name' ≡ name) × (f.facts.state_bits ≡ state_bits') × Reads f bytes'
ObjectBecomes Reads f (a_storage name facts inside) (a_storage name' facts' inside') = (name' ≡ name) × (f.facts ≡ facts') × (inside' ≡ inside)
ObjectBecomes Reads f (a_stream name state_bits bytes) (a_storage name' facts' inside') = ⊥
ObjectBecomes Reads f (a_storage name facts inside) (a_stream name' state_bits' bytes') = ⊥

-- the streams of these entries but `id` keep their bytes ([MS-CFB] 2.6.3)
abbrev pub KeepBytes : (Entry → List ℕ → Type 0) → (Entry → List ℕ → Type 0) → List Entry → ℕ → List ℕ → Type 0
KeepBytes Reads Reads' directory id ids = AllByRecursion (λ k. nat_eq id k ≡ false
    → (e : Entry) (bytes : List ℕ) → slice_get directory k ≡ Some e → Reads e bytes → Reads' e bytes) ids

-- the entries hold the tree, which is made of the root and of `ids`
pub record HoldsOn (letters : CaseTable) (Reads : Entry → List ℕ → Type 0) (directory : List Entry) (tree : Tree) (ids : List ℕ) : Type 0 where
  pub holds : EntriesHoldTree letters Reads directory tree
  pub ids_are : holds.ids ≡ ids
