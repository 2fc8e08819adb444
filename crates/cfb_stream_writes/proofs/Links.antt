-- Paths lead where they led while entries keep their names and links.
use Rattle.std.proofs.Common.{◌≡◌, ℕ, ◌<◌, false, zero, suc, length, List, [], ◌∷◌, ◌++◌, refl, ap, sym, subst, ◌∙◌, ⊎_elim, arith}
use Rattle.std.specs.Prelude.{nat_eq, slice_get, slice_set, Some}
use Rattle.std.specs.List.{AllByRecursion}
use Rattle.std.specs.declared.cmp.Ordering.{Ordering}
use Rattle.std.proofs.lemmas.Bool.Decides.{eqb_tells}
use Rattle.std.proofs.lemmas.List.{length-map}
use Rattle.cfb_directory.specs.Entries.{entries_in}
use Rattle.cfb_tree.specs.Directory.{Entry, Siblings}
use Rattle.cfb_tree.specs.EntryViews.{entry_in}
use Rattle.cfb_tree.specs.Names.{CaseTable}
use Rattle.cfb_tree.specs.Paths.{Path}
use Rattle.cfb_tree.specs.declared.entry.DirEntry.{DirEntry}
use Rattle.cfb_tree.proofs.OneContent.{Some_same}
use Rattle.cfb_siblings.specs.Changes.{HasSameLinks}
use Rattle.cfb_siblings.specs.Places.{IsChild, IsEntryNamed, LeadsTo}
use Rattle.cfb_siblings.proofs.Frames.{name_kept, set_changes_only, set_found, siblings_links}
use Rattle.cfb_siblings.proofs.Parts.{LinksStay}

-- each entry keeps its name, kind and links
abbrev pub KeepLinks : List Entry → List Entry → Type 0
KeepLinks old new = (k : ℕ) (e : Entry) → slice_get old k ≡ Some e → (f : Entry) × (slice_get new k ≡ Some f) × HasSameLinks e f

pub own_links : (e : Entry) → HasSameLinks e e
own_links e = record { name_units = refl; name_len = refl; kind = refl; left = refl; right = refl; child = refl }

-- a stream that lies elsewhere
pub place_links : (e : Entry) (start size : ℕ) → HasSameLinks e (record e { start = start; size = size })
place_links e start size = record { name_units = refl; name_len = refl; kind = refl; left = refl; right = refl; child = refl }

pub links_refl : (xs : List Entry) → KeepLinks xs xs
links_refl xs k e found = (e, found, own_links e)

-- so many entries
pub entries_count : (es : List DirEntry) (held : List Entry) → entries_in es ≡ held → length es ≡ length held
entries_count es held same = sym (length-map es entry_in) ∙ ap length same

-- an entry of each number
pub entry_there : (xs : List Entry) (i : ℕ) → i < length xs → (e : Entry) × (slice_get xs i ≡ Some e)
entry_there [] i below = absurd (omega (arith, below))
entry_there (x ∷ xs) zero below = (x, refl)
entry_there (x ∷ xs) (suc i) below = entry_there xs i (omega (arith, below))

-- a number that is another one
pub differ : (p k : ℕ) → (k ≡ p → ⊥) → nat_eq p k ≡ false
differ p k other = grind (arith, other)

pub links_set : (xs : List Entry) (p : ℕ) (e f : Entry) → slice_get xs p ≡ Some e → HasSameLinks e f → KeepLinks xs (slice_set xs p f)
links_set xs p e f found same k x at =
    ⊎_elim
    (λ is.
    let here : slice_get xs p ≡ Some x = ap (slice_get xs) (sym is.1) ∙ at in
    let one : e ≡ x = Some_same (sym found ∙ here) in
    (f, ap (slice_get (slice_set xs p f)) is.1 ∙ set_found xs p e f found, subst (λ y. HasSameLinks y f) one same))
    (λ other. (x, set_changes_only xs p f k x (differ p k other.1) at, own_links x))
    (eqb_tells k p)

module _ (letters : CaseTable) (old new : List Entry) (keep : KeepLinks old new) where
  all_stay : (ids : List ℕ) → AllByRecursion (LinksStay old new) ids
  all_stay [] = tt
  all_stay (id ∷ ids) = ((λ e found. let it = keep id e found in (it.0, it.1, it.2.left, it.2.right)), all_stay ids)

  named_stays : (wanted : List ℕ) (order : Ordering) (id : ℕ) → IsEntryNamed letters old wanted order id → IsEntryNamed letters new wanted order id
  named_stays wanted order id h =
      let it = keep id h.entry h.found in
      record { entry = it.0; found = it.1; name = h.name; named = name_kept h.entry it.0 h.name it.2.name_len it.2.name_units h.named; compared = h.compared }

  child_stays : (parent : ℕ) (wanted : List ℕ) (id : ℕ) → IsChild letters old parent wanted id → IsChild letters new parent wanted id
  child_stays parent wanted id h =
      let it = keep parent h.owner.entry h.owner.found in
      let ids = h.front ++ id ∷ h.back in
      record {
        owner = record { entry = it.0; found = it.1; holds = λ kind. h.owner.holds (sym it.2.kind ∙ kind) };
        front = h.front;
        back = h.back;
        siblings = subst (λ k. Siblings new k ids) (sym it.2.child) (siblings_links old new h.owner.entry.child ids (all_stay ids) h.siblings);
        named = named_stays wanted _ id h.named;
      }

  pub leads_still : (path : Path) (start id : ℕ) → LeadsTo letters old start path id → LeadsTo letters new start path id
  leads_still [] start id is = is
  leads_still (name ∷ names) start id (next, first, rest) = (next, child_stays start name next first, leads_still names next id rest)
