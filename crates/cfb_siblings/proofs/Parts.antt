-- What stays of entries when one of them changes, and links that were set.
use Rattle.std.specs.Prelude.{◌≡◌, ℕ, false, List, ◌∷◌, ◌++◌, slice_get, Some, nat_eq, ⊤}
use Rattle.std.specs.List.{AllByRecursion}
use Rattle.cfb_tree.specs.Directory.{Entry}
use Rattle.cfb_siblings.specs.Changes.{IsApart}
use Rattle.cfb_siblings.specs.Links.{holder}
use Rattle.cfb_siblings.specs.declared.links.Link.{Link}
use Rattle.cfb_siblings.specs.declared.links.Link.TheVariants.{Child, Left, Right}

-- each entry but p stays; new ones may follow
abbrev pub ChangesOnly : ℕ → List Entry → List Entry → Type 0
ChangesOnly p old new = (id : ℕ) (e : Entry) → nat_eq p id ≡ false → slice_get old id ≡ Some e → slice_get new id ≡ Some e

-- the name, kind and facts of an entry
pub record HasSameFacts (e f : Entry) : Type 0 where
  pub name_units : f.name_units ≡ e.name_units
  pub name_len : f.name_len ≡ e.name_len
  pub kind : f.kind ≡ e.kind
  pub facts : f.facts ≡ e.facts

-- an entry's links to siblings stay
abbrev pub LinksStay : List Entry → List Entry → ℕ → Type 0
LinksStay old new id =
    (e : Entry) → slice_get old id ≡ Some e → (f : Entry) × (slice_get new id ≡ Some f) × (f.left ≡ e.left) × (f.right ≡ e.right)

-- entry `id` stays as it was, but for its colour, and start and size, which may move with the bytes that are read
pub record Stays (old new : List Entry) (Reads Reads' : Entry → List ℕ → Type 0) (id : ℕ) (e : Entry) : Type 0 where
  pub now : Entry
  pub found : slice_get new id ≡ Some now
  pub same : HasSameFacts e now
  pub left : now.left ≡ e.left
  pub right : now.right ≡ e.right
  pub child : now.child ≡ e.child
  pub reads : (bytes : List ℕ) → Reads e bytes → Reads' now bytes

-- all of these entries do
abbrev pub AllStay : List Entry → List Entry → (Entry → List ℕ → Type 0) → (Entry → List ℕ → Type 0) → List ℕ → Type 0
AllStay old new Reads Reads' ids =
    AllByRecursion (λ id. (e : Entry) → slice_get old id ≡ Some e → Stays old new Reads Reads' id e) ids

-- what is read of an entry depends only on where its stream begins and how long it is
abbrev pub ReadsByPlace : (Entry → List ℕ → Type 0) → Type 0
ReadsByPlace Reads = (e f : Entry) (bytes : List ℕ) → f.start ≡ e.start → f.size ≡ e.size → Reads e bytes → Reads f bytes

-- only this link of the entry leads elsewhere
abbrev pub LeadsElsewhere : Link → ℕ → Entry → Entry → Type 0
LeadsElsewhere (Child id) target e f = (f.child ≡ target) × (f.left ≡ e.left) × (f.right ≡ e.right)
LeadsElsewhere (Left id) target e f = (f.left ≡ target) × (f.right ≡ e.right) × (f.child ≡ e.child)
LeadsElsewhere (Right id) target e f = (f.right ≡ target) × (f.left ≡ e.left) × (f.child ≡ e.child)

-- the link was made to lead to `target`; the colour of its holder is free
pub record Relinks (old new : List Entry) (link : Link) (target : ℕ) : Type 0 where
  pub only : ChangesOnly (holder link) old new
  pub was : Entry
  pub was_found : slice_get old (holder link) ≡ Some was
  pub now : Entry
  pub now_found : slice_get new (holder link) ≡ Some now
  pub same : HasSameFacts was now
  pub start : now.start ≡ was.start
  pub size : now.size ≡ was.size
  pub leads : LeadsElsewhere link target was now

-- where the walk begins after that
abbrev pub root_after : Link → ℕ → ℕ → ℕ
root_after (Child id) root target = target
root_after (Left id) root target = root
root_after (Right id) root target = root

-- a storage whose link to its children changes is none of these
abbrev pub IsOutside : Link → List ℕ → Type 0
IsOutside (Child id) all = IsApart id all
IsOutside (Left id) all = ⊤
IsOutside (Right id) all = ⊤

-- the holder of the link is one of the siblings, or outside of all
abbrev pub IsPlaced : Link → List ℕ → List ℕ → Type 0
IsPlaced (Child id) ids all = IsApart id all
IsPlaced (Left id) ids all = (xs : List ℕ) × (ys : List ℕ) × (ids ≡ xs ++ id ∷ ys)
IsPlaced (Right id) ids all = (xs : List ℕ) × (ys : List ℕ) × (ids ≡ xs ++ id ∷ ys)
