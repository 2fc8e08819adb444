-- Ways from the root to a storage, over the entries between.
use Rattle.std.proofs.Common.{◌≡◌, ℕ, ◌<◌, List, [], ◌∷◌, ◌++◌, append_assoc, append-nil, length, length-append, suc, refl, ap, sym, subst, ◌∙◌, arith}
use Rattle.std.specs.Prelude.{slice_get, None, Some}
use Rattle.cfb_siblings.proofs.Searching.{no_siblings}
use Rattle.cfb_siblings.specs.Places.{path_to, IsChild, IsOwner, IsStorageAt, LeadsBy, LeadsTo}
use Rattle.cfb_tree.specs.Changes.{last_of, parent_of}
use Rattle.cfb_tree.specs.Directory.{no_entry, Entry}
use Rattle.cfb_tree.specs.Names.{CaseTable}
use Rattle.cfb_tree.specs.Paths.{Path}
use Rattle.cfb_tree.proofs.OneContent.{Some_same}
use Rattle.cfb_tree_edits.specs.WholeRemoval.{IsWayTo, KeepsWay}
use Rattle.cfb_entries.proofs.Others.{path_is}

no_names : (path : Path) → length path ≡ 0 → path ≡ []
no_names [] is = refl
no_names (name ∷ names) is = absurd (omega (arith, is))

-- a storage has an entry
pub owner_there : (directory : List Entry) (id : ℕ) → IsOwner directory id → slice_get directory id ≡ None → ⊥
owner_there directory id owner lost = let never : Some owner.entry ≡ None = sym owner.found ∙ lost in absurd (cc)

-- one with a child has a link to children
pub parent_full : (letters : CaseTable) (directory : List Entry) (parent : ℕ) (name : List ℕ) (id : ℕ) → IsChild letters directory parent name id → (e : Entry) → slice_get directory parent ≡ Some e → e.child ≡ no_entry → ⊥
parent_full letters directory parent name id is e found none =
    let same : is.owner.entry ≡ e = Some_same (sym is.owner.found ∙ found) in
    let nil : is.front ++ id ∷ is.back ≡ [] = no_siblings directory (λ e bytes. ⊥) is.owner.entry.child (is.front ++ id ∷ is.back) (ap (λ (x : Entry). x.child) same ∙ none) is.siblings in
    let size = ap length nil in
    omega (arith, size, length-append is.front (id ∷ is.back))

module _ (letters : CaseTable) (directory : List Entry) where
  by_length : (names : Path) (start : ℕ) (ids : List ℕ) → LeadsBy letters directory start names ids → length ids ≡ length names
  by_length [] start ids none = ap length none
  by_length (name ∷ names) start ids (next, later, ids_are, child, rest) = ap length ids_are ∙ ap suc (by_length names next later rest)

  -- a path that leads to an entry leads by some
  by_some : (names : Path) (start id : ℕ) → LeadsTo letters directory start names id
      → (ids : List ℕ) × LeadsBy letters directory start names ids × (front : List ℕ) × (start ∷ ids ≡ front ++ id ∷ []) × (length front ≡ length names)
  by_some [] start id is = ([], refl, [], ap (λ n. n ∷ []) (sym is), refl)
  by_some (name ∷ names) start id (next, child, rest) =
      let it = by_some names next id rest in
      (next ∷ it.0, (next, it.0, refl, child, it.1), start ∷ it.2, ap (λ l. start ∷ l) it.3, ap suc it.4)

  -- and to the last of these
  by_to : (names : Path) (start : ℕ) (ids front : List ℕ) (id : ℕ) → LeadsBy letters directory start names ids → start ∷ ids ≡ front ++ id ∷ [] → LeadsTo letters directory start names id
  by_to [] start ids [] id none whole = let is : id ≡ start = cc in is
  by_to [] start ids (f ∷ front) id none whole = let sizes = ap length whole in let nil = ap length none in absurd (omega (arith, sizes, nil, length-append front (id ∷ [])))
  by_to (name ∷ names) start ids [] id (next, later, ids_are, child, rest) whole = let sizes = ap length whole in let more = ap length ids_are in absurd (omega (arith, sizes, more))
  by_to (name ∷ names) start ids (f ∷ front) id (next, later, ids_are, child, rest) whole =
      let tails : ids ≡ front ++ id ∷ [] = cc in
      (next, child, by_to names next later front id rest (sym ids_are ∙ tails))

  -- one name more
  by_more : (names : Path) (start : ℕ) (ids front : List ℕ) (parent : ℕ) (name : List ℕ) (id : ℕ) → LeadsBy letters directory start names ids → start ∷ ids ≡ front ++ parent ∷ []
      → IsChild letters directory parent name id → LeadsBy letters directory start (path_to names name) (ids ++ id ∷ [])
  by_more [] start ids [] parent name id none whole child =
      let is : parent ≡ start = cc in
      (id, [], ap (λ l. l ++ id ∷ []) none, subst (λ p. IsChild letters directory p name id) is child, refl)
  by_more [] start ids (f ∷ front) parent name id none whole child = let sizes = ap length whole in let nil = ap length none in absurd (omega (arith, sizes, nil, length-append front (parent ∷ [])))
  by_more (first ∷ names) start ids [] parent name id (next, later, ids_are, here, rest) whole child = let sizes = ap length whole in let more = ap length ids_are in absurd (omega (arith, sizes, more))
  by_more (first ∷ names) start ids (f ∷ front) parent name id (next, later, ids_are, here, rest) whole child =
      let tails : ids ≡ front ++ parent ∷ [] = cc in
      (next, later ++ id ∷ [], ap (λ l. l ++ id ∷ []) ids_are, here, by_more names next later front parent name id rest (sym ids_are ∙ tails) child)

  -- one name less
  by_less : (names : Path) (start : ℕ) (ids front : List ℕ) (parent : ℕ) (name : List ℕ) (id : ℕ) → LeadsBy letters directory start (path_to names name) ids → start ∷ ids ≡ front ++ parent ∷ id ∷ []
      → (before : List ℕ) × LeadsBy letters directory start names before × (start ∷ before ≡ front ++ parent ∷ []) × IsChild letters directory parent name id
  by_less [] start ids [] parent name id (next, later, ids_are, child, none) whole =
      let is : start ≡ parent = cc in
      let tails : ids ≡ id ∷ [] = cc in
      let both : next ∷ later ≡ id ∷ [] = sym ids_are ∙ tails in
      let one : next ≡ id = cc in
      ([], refl, ap (λ n. n ∷ []) is, subst (λ p. IsChild letters directory p name id) is (subst (IsChild letters directory start name) one child))
  by_less [] start ids (f ∷ front) parent name id (next, later, ids_are, child, none) whole =
      let sizes = ap length whole in let one = ap length ids_are in let nil = ap length none in absurd (omega (arith, sizes, one, nil, length-append front (parent ∷ id ∷ [])))
  by_less (first ∷ names) start ids [] parent name id (next, later, ids_are, child, rest) whole =
      let sizes = ap length whole in let more = ap length ids_are in let all = by_length (path_to names name) next later rest in
      absurd (omega (arith, sizes, more, all, length-append names (name ∷ [])))
  by_less (first ∷ names) start ids (f ∷ front) parent name id (next, later, ids_are, child, rest) whole =
      let is : start ≡ f = cc in
      let tails : ids ≡ front ++ parent ∷ id ∷ [] = cc in
      let it = by_less names next later front parent name id rest (sym ids_are ∙ tails) in
      (next ∷ it.0, (next, it.0, refl, child, it.1), ap (λ n. n ∷ next ∷ it.0) is ∙ ap (λ l. f ∷ l) it.2, it.3)

module _ (letters : CaseTable) (directory : List Entry) (path : Path) where
  -- a way begins at its storage
  pub way_begun : (id : ℕ) → IsStorageAt letters directory path id → IsWayTo letters directory path [] id
  way_begun id s =
      let by = by_some letters directory path 0 id s.leads in
      record { more = []; front = by.2; ids = by.0; leads = subst (λ p. LeadsBy letters directory 0 p by.0) (sym (append-nil path)) by.1; whole = by.3; size = by.4; owner = s.owner }

  module _ (above : List ℕ) (top : ℕ) (w : IsWayTo letters directory path above top) where
    parted : 0 ∷ w.ids ≡ (w.front ++ above) ++ top ∷ []
    parted = w.whole ∙ sym (append_assoc w.front above (top ∷ []))

    -- the storage to which it leads
    pub way_storage : IsStorageAt letters directory (path ++ w.more) top
    way_storage = record { leads = by_to letters directory (path ++ w.more) 0 w.ids (w.front ++ above) top w.leads parted; owner = w.owner }

    -- it goes on to a child
    pub way_longer : (name : List ℕ) (id : ℕ) → IsChild letters directory top name id → IsOwner directory id → (longer : IsWayTo letters directory path (above ++ top ∷ []) id) × (path_to (path ++ w.more) name ≡ path ++ longer.more)
    way_longer name id child owner = (
      record {
        more = path_to w.more name;
        front = w.front;
        ids = w.ids ++ id ∷ [];
        leads = subst (λ p. LeadsBy letters directory 0 p (w.ids ++ id ∷ [])) (append_assoc path w.more (name ∷ [])) (by_more letters directory (path ++ w.more) 0 w.ids (w.front ++ above) top name id w.leads parted child);
        whole = ap (λ l. l ++ id ∷ []) w.whole ∙ append_assoc w.front (above ++ top ∷ []) (id ∷ []);
        size = w.size;
        owner = owner;
      },
      append_assoc path w.more (name ∷ []),
    )

    -- or back by one
    pub way_shorter : (lower : List ℕ) (parent : ℕ) → above ≡ lower ++ parent ∷ [] → (name : List ℕ) × IsWayTo letters directory path lower parent × IsChild letters directory parent name top
    way_shorter lower parent above_is =
        let sizes = by_length letters directory (path ++ w.more) 0 w.ids w.leads in
        let all = ap length w.whole in
        let size = w.size in
        let one = ap length above_is in
        let some : 0 < length w.more = omega (arith, sizes, all, size, one, length-append path w.more, length-append w.front (above ++ top ∷ []), length-append above (top ∷ []), length-append lower (parent ∷ [])) in
        let up = parent_of w.more in
        let name = last_of w.more in
        let path_parts : path ++ w.more ≡ path_to (path ++ up) name = ap (λ m. path ++ m) (sym (path_is w.more some)) ∙ sym (append_assoc path up (name ∷ [])) in
        let whole : 0 ∷ w.ids ≡ (w.front ++ lower) ++ parent ∷ top ∷ [] =
        w.whole ∙ ap (λ a. w.front ++ (a ++ top ∷ [])) above_is ∙ ap (λ l. w.front ++ l) (append_assoc lower (parent ∷ []) (top ∷ [])) ∙ sym (append_assoc w.front lower (parent ∷ top ∷ [])) in
        let less = by_less letters directory (path ++ up) 0 w.ids (w.front ++ lower) parent name top (subst (λ p. LeadsBy letters directory 0 p w.ids) path_parts w.leads) whole in
        (name, record { more = up; front = w.front; ids = less.0; leads = less.1; whole = less.2 ∙ append_assoc w.front lower (parent ∷ []); size = w.size; owner = less.3.owner }, less.3)

    -- where none is above, it leads to the first storage alone
    pub way_ends : above ≡ [] → IsStorageAt letters directory path top
    way_ends none =
        let sizes = by_length letters directory (path ++ w.more) 0 w.ids w.leads in
        let all = ap length w.whole in
        let size = w.size in
        let nil = ap length none in
        let no : w.more ≡ [] = no_names w.more (omega (arith, sizes, all, size, nil, length-append path w.more, length-append w.front (above ++ top ∷ []), length-append above (top ∷ []))) in
        subst (λ p. IsStorageAt letters directory p top) (ap (λ m. path ++ m) no ∙ append-nil path) way_storage

    -- an object was taken out of the storage to which it leads
    pub way_kept : (new : List Entry) (id : ℕ) → KeepsWay letters directory new (path ++ w.more) id → (top ≡ id → ⊥) → IsWayTo letters new path above top
    way_kept new id keeps apart = record { more = w.more; front = w.front; ids = w.ids; leads = keeps.by w.ids w.leads; whole = w.whole; size = w.size; owner = keeps.owner top apart w.owner }
