-- A path from the root, name by name.
use Rattle.std.proofs.Common.{◌≡◌, ℕ, Bool, IsTrue, true, false, not, List, [], ◌∷◌, ◌++◌, refl, sym, ◌∙◌, ap, subst, append_assoc, append-nil, arith, inl, inr, get_or, drop, length, ◌+◌, ◌<◌}
use Rattle.std.specs.Prelude.{Some, None, Option, slice_get, codes, chars, nat_eq}
use Rattle.std.specs.Borrow.{Bor}
use Rattle.std.proofs.lemmas.List.{drop_more}
use Rattle.cfb_tree.specs.Names.{CaseTable}
use Rattle.cfb_tree.specs.Paths.{Path}
use Rattle.cfb_tree.specs.Tree.{Tree}
use Rattle.cfb_tree.specs.Directory.{Entry, kind_stream, kind_storage, kind_root}
use Rattle.cfb_tree.specs.Objects.{Object, a_stream, a_storage, inside_of, root_object, child, object_from, object_at, IsObject, EntriesHoldTree}
use Rattle.cfb_tree.proofs.OneContent.{Some_same}
use Rattle.cfb_siblings.specs.declared.links.Link.{Link}
use Rattle.cfb_siblings.specs.declared.places.Place.TheVariants.{Taken, Free}
use Rattle.cfb_siblings.specs.Places.{path_of, HasEntry, IsOwner, LeadsTo, IsStorageAt, IsPlace, IsEntryAt, path_to}
use Rattle.cfb_siblings.proofs.Frames.{either_same}
use Rattle.cfb_siblings.proofs.Spots.{spot}

pub object_from_none : (letters : CaseTable) (path : Path) → object_from letters None path ≡ None
object_from_none letters [] = refl
object_from_none letters (name ∷ names) = refl

object_from_joined : (letters : CaseTable) (o : Option Object) (xs ys : Path)
    → object_from letters o (xs ++ ys) ≡ object_from letters (object_from letters o xs) ys
object_from_joined letters None xs ys =
    object_from_none letters (xs ++ ys) ∙ sym (object_from_none letters ys) ∙ ap (λ x. object_from letters x ys) (sym (object_from_none letters xs))
object_from_joined letters (Some o) [] ys = refl
object_from_joined letters (Some o) (name ∷ names) ys = object_from_joined letters (child letters (inside_of o) name) names ys

apart_kinds : (k : ℕ) → k ≡ kind_stream → nat_eq k kind_stream ≡ false → ⊥
apart_kinds k is other = grind arith

stream_kind : (directory : List Entry) (Reads : Entry → List ℕ → Type 0) (id : ℕ) (e : Entry) (o : Object) (own : List ℕ)
    → IsObject directory Reads id o own → slice_get directory id ≡ Some e → e.kind ≡ kind_stream → (letters : CaseTable) (name : List ℕ) (rest : Path)
    → object_from letters (Some o) (name ∷ rest) ≡ None
stream_kind directory Reads id e (a_stream n b x) own is found kind letters name rest = object_from_none letters rest
stream_kind directory Reads id e (a_storage n f i) own (g, children, at, siblings, inside) found kind letters name rest =
    let never : kind_storage ≡ kind_stream = sym at.of_kind ∙ ap (λ y. y.kind) (Some_same (sym at.found ∙ found)) ∙ kind in absurd (omega (arith, never))

module _ (letters : CaseTable) (Reads : Entry → List ℕ → Type 0) (directory : List Entry) (tree : Tree) (h : EntriesHoldTree letters Reads directory tree) where
  -- where a path leads there is an object
  pub entry_at : (path : Path) (id : ℕ) → LeadsTo letters directory 0 path id → IsEntryAt Reads letters directory tree path id
  entry_at [] id leads =
      record { leads = leads; object = root_object tree; at_path = refl; own = []; is_object = λ some. absurd (some refl) }
  entry_at (wanted ∷ names) id leads =
      let s = spot directory Reads Reads letters names wanted 0 h.root h.children tree.content h.ids id h.root_found h.siblings h.holds h.ordered leads in
      record { leads = leads; object = s.object; at_path = s.found (codes "Root Entry") tree.root; own = s.own; is_object = λ some. s.is_object }

  -- how far a path was followed
  pub record Followed (path rest : Path) (id : ℕ) : Type 0 where
    pub front : Path
    pub path_is : path ≡ front ++ rest
    pub leads : LeadsTo letters directory 0 front id

  pub followed_none : (path : Path) → Followed path path 0
  followed_none path = record { front = []; path_is = refl; leads = refl }

  pub followed_all : (path : Path) (id : ℕ) → Followed path [] id → IsEntryAt Reads letters directory tree path id
  followed_all path id it =
      entry_at path id (subst (λ q. LeadsTo letters directory 0 q id) (sym (it.path_is ∙ append-nil it.front)) it.leads)

  module _ (path whole : Path) (name : List ℕ) (rest : Path) (id : ℕ) (whole_is : whole ≡ name ∷ rest) (it : Followed path whole id) where
    longer : path ≡ path_to it.front name ++ rest
    longer = it.path_is ∙ ap (λ ys. it.front ++ ys) whole_is ∙ sym (append_assoc it.front (name ∷ []) rest)

    pub followed_more : (link : Link) (next : ℕ) → IsPlace Reads letters directory tree it.front id name (Taken link next) → Followed path rest next
    followed_more link next place = record { front = path_to it.front name; path_is = longer; leads = place.1 }

    pub storage_there : IsOwner directory id → IsStorageAt letters directory it.front id
    storage_there owner = record { leads = it.leads; owner = owner }

    pub followed_nowhere : (link : Link) → IsPlace Reads letters directory tree it.front id name (Free link) → object_at letters tree path ≡ None
    followed_nowhere link (free, holder, lost) =
        ap (object_at letters tree) longer ∙ object_from_joined letters (Some (root_object tree)) (path_to it.front name) rest
        ∙ ap (λ o. object_from letters o rest) lost ∙ object_from_none letters rest

    -- at a stream
    pub followed_stream : (IsOwner directory id → ⊥) → object_at letters tree path ≡ None
    followed_stream none = by_front it.front (it.path_is ∙ ap (λ ys. it.front ++ ys) whole_is) it.leads
      where
        by_front : (front : Path) → path ≡ front ++ name ∷ rest → LeadsTo letters directory 0 front id → object_at letters tree path ≡ None
        by_front [] is leads = absurd (none record {
          entry = h.root;
          found = subst (λ k. slice_get directory k ≡ Some h.root) (sym leads) h.root_found;
          holds = λ kind. let never : kind_root ≡ kind_stream = sym h.root_kind ∙ kind in omega (arith, never);
        })
        by_front (first ∷ names) is leads =
            let s = spot directory Reads Reads letters names first 0 h.root h.children tree.content h.ids id h.root_found h.siblings h.holds h.ordered leads in
            let e = object_entry s.object s.own s.is_object in
            ap (object_at letters tree) is ∙ object_from_joined letters (Some (root_object tree)) (first ∷ names) (name ∷ rest)
            ∙ ap (λ o. object_from letters o (name ∷ rest)) (s.found (codes "Root Entry") tree.root)
            ∙ stream_kind directory Reads id e.0 s.object s.own s.is_object e.1 (kind_of_stream e.0 e.1) letters name rest
          where
            object_entry : (o : Object) (own : List ℕ) → IsObject directory Reads id o own → HasEntry directory id
            object_entry (a_stream n b x) own (g, at, reads, empty) = (g, at.found)
            object_entry (a_storage n f i) own (g, children, at, siblings, inside) = (g, at.found)

            kind_of_stream : (e : Entry) → slice_get directory id ≡ Some e → e.kind ≡ kind_stream
            kind_of_stream e found = elim (either_same e.kind kind_stream) [
              | inl same ↦ same
              | inr other ↦ absurd (none record { entry = e; found = found; holds = λ kind. apart_kinds e.kind kind other })
            ]

pub is_owner_found : (directory : List Entry) (id : ℕ) (e : Entry) (b : Bool) → slice_get directory id ≡ Some e → (IsTrue b → e.kind ≡ kind_stream → ⊥)
    → ((e.kind ≡ kind_stream → ⊥) → IsTrue b) → (IsTrue b → IsOwner directory id) × (IsOwner directory id → IsTrue b)
is_owner_found directory id e b found if_so only_so = (
  λ so. record { entry = e; found = found; holds = if_so so },
  λ it. only_so (λ kind. it.holds (ap (λ y. y.kind) (Some_same (sym it.found ∙ found)) ∙ kind)),
)

-- a kind's byte against that of streams
pub not_stream : (byte kind : ℕ) → byte ≡ kind → (IsTrue (not (nat_eq byte kind_stream)) → kind ≡ kind_stream → ⊥)
    × ((kind ≡ kind_stream → ⊥) → IsTrue (not (nat_eq byte kind_stream)))
not_stream byte kind same = by_test (nat_eq byte kind_stream) refl
  where
    by_test : (b : Bool) → nat_eq byte kind_stream ≡ b → (IsTrue (not b) → kind ≡ kind_stream → ⊥) × ((kind ≡ kind_stream → ⊥) → IsTrue (not b))
    by_test true is = (λ never kind. absurd (cc), λ no. absurd (no (let both : byte ≡ kind_stream = grind arith in sym same ∙ both)))
    by_test false isnt = (λ so is. apart_kinds byte (same ∙ is) isnt, λ no. refl)

-- the next of some names
pub next_name : (names : List (Bor (List ℕ))) (i : ℕ) (d : Bor (List ℕ)) → i < length names
    → path_of (drop i names) ≡ chars (get_or names i d).now ∷ path_of (drop (i + 1) names)
next_name names i d below = ap path_of (drop_more names i d below)
