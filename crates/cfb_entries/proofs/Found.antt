-- What a path that leads to an entry tells of a tree.
use Rattle.std.proofs.Common.{◌≡◌, ◌≢◌, ℕ, Bool, List, [], ◌∷◌, ◌++◌, length, map, refl, sym, ◌∙◌, ap, subst, arith, chars}
use Rattle.std.specs.Prelude.{slice_get, Some, None, nat_eq, codes}
use Rattle.std.specs.List.{IsDistinct}
use Rattle.std.specs.Borrow.{Bor}
use Rattle.std.specs.Option.{option_map}
use Rattle.cfb_siblings.specs.Places.{LeadsTo, path_of}
use Rattle.cfb_siblings.specs.Reading.{ReadBy}
use Rattle.cfb_siblings.proofs.Lists.{distinct_parts}
use Rattle.cfb_siblings.proofs.Spots.{spot}
use Rattle.cfb_siblings.proofs.Unused.{tree_reads}
use Rattle.cfb_tree.specs.Names.{CaseTable}
use Rattle.cfb_tree.specs.Paths.{Path, path_names}
use Rattle.cfb_tree.specs.Tree.{Tree}
use Rattle.cfb_tree.specs.Directory.{Entry, Siblings, kind_root}
use Rattle.cfb_tree.specs.Objects.{Object, inside_of, root_object, object_at, IsObject, EntriesHoldTree}
use Rattle.cfb_tree.proofs.OneContent.{Some_same}
use Rattle.cfb_tree.specs.Entries.{HasSize, children_of}
use Rattle.cfb_entries.specs.Holding.{IsHeldAt}
use Rattle.cfb_entries.specs.Rules.{EntriesHoldSizes, names_in}
use Rattle.cfb_entries.proofs.Preorder.{inside_held, object_there}

-- sizes as a test
abbrev pub has_size : ℕ → ℕ → List ℕ → Bool
has_size start size bytes = nat_eq (length bytes) size

by_size : (e : Entry) (bytes : List ℕ) → HasSize e bytes → ReadBy has_size e bytes
by_size e bytes is = rw is (grind arith)

pub sizes_read : (letters : CaseTable) (directory : List Entry) (tree : Tree) → EntriesHoldSizes letters directory tree → EntriesHoldTree letters (ReadBy has_size) directory tree
sizes_read letters directory tree h = tree_reads letters HasSize (ReadBy has_size) directory tree by_size h

past : (x : ℕ) (xs : List ℕ) → IsDistinct nat_eq (x ∷ xs) → IsDistinct nat_eq xs
unfolding IsDistinct
past x xs h = h.1

-- the object to which a path leads, with its entry
pub record Found (letters : CaseTable) (directory : List Entry) (tree : Tree) (path : Path) (id : ℕ) (e : Entry) : Type 0 where
  pub object : Object
  pub at_path : object_at letters tree path ≡ Some object
  pub held : IsHeldAt directory (children_of e) (inside_of object)
  pub root : path ≡ [] → (object ≡ root_object tree) × (e.facts ≡ tree.root) × (e.kind ≡ kind_root)
  pub own : List ℕ
  pub below : path ≢ [] → IsObject directory HasSize id object own

pub found : (letters : CaseTable) (directory : List Entry) (tree : Tree) → EntriesHoldSizes letters directory tree → (path : Path) (id : ℕ) (e : Entry)
    → LeadsTo letters directory 0 path id → slice_get directory id ≡ Some e → Found letters directory tree path id e
found letters directory tree h [] id e leads at =
    let is : h.root ≡ e = Some_same (sym h.root_found ∙ ap (slice_get directory) (sym leads) ∙ at) in
    let kind : e.kind ≡ kind_root = ap (λ y. y.kind) (sym is) ∙ h.root_kind in
    let here : h.root.child ≡ children_of e = ap (λ y. y.child) is ∙ rw kind refl in
    record {
      object = root_object tree;
      at_path = refl;
      held = record {
        children = h.children;
        ids = h.ids;
        siblings = subst (λ k. Siblings directory k h.children) here h.siblings;
        holds = h.holds;
        once = past 0 h.ids h.once;
      };
      root = λ e'. (refl, ap (λ y. y.facts) (sym is) ∙ h.facts, kind);
      own = [];
      below = λ some. absurd (some refl);
    }
found letters directory tree h (name ∷ names) id e leads at =
    let s = spot directory HasSize HasSize letters names name 0 h.root h.children tree.content h.ids id h.root_found h.siblings h.holds h.ordered leads in
    let all_once = distinct_parts s.sooner (id ∷ (s.own ++ s.further)) (subst (IsDistinct nat_eq) s.all_is (past 0 h.ids h.once)) in
    let own_once = distinct_parts s.own s.further (past id (s.own ++ s.further) all_once.1) in
    let inside = inside_held directory id s.object s.own e s.is_object at in
    record {
      object = s.object;
      at_path = s.found (codes "Root Entry") tree.root;
      held = record { children = inside.0; ids = s.own; siblings = inside.1; holds = inside.2; once = own_once.0 };
      root = λ none_there. absurd (cc);
      own = s.own;
      below = λ some. s.is_object;
    }

-- an entry of the tree is there
pub entry_there : (letters : CaseTable) (directory : List Entry) (tree : Tree) → EntriesHoldSizes letters directory tree → (path : Path) (id : ℕ)
    → LeadsTo letters directory 0 path id → slice_get directory id ≡ None → ⊥
entry_there letters directory tree h [] id leads lost =
    let never : Some h.root ≡ None = sym h.root_found ∙ ap (slice_get directory) (sym leads) ∙ lost in absurd (cc)
entry_there letters directory tree h (name ∷ names) id leads lost =
    let s = spot directory HasSize HasSize letters names name 0 h.root h.children tree.content h.ids id h.root_found h.siblings h.holds h.ordered leads in
    object_there directory id s.object s.own s.is_object lost

pub names_are : (text : List ℕ) (names : List (Bor (List ℕ))) → path_names text ≡ Some (map (λ name. name.now) names) → names_in text ≡ Some (path_of names)
names_are text names is = ap (option_map (map chars)) is ∙ ap Some (twice names)
  where
    twice : (names : List (Bor (List ℕ))) → map chars (map (λ name. name.now) names) ≡ path_of names
    twice [] = refl
    twice (name ∷ names) = ap (λ rest. chars name.now ∷ rest) (twice names)
