-- Storages that hold nothing, and what the rules say where one is to be removed.
use Rattle.std.proofs.Common.{◌≡◌, ℕ, ◌<◌, false, List, [], ◌∷◌, length, refl, ap, sym, subst, ◌∙◌, arith}
use Rattle.std.specs.Prelude.{slice_get, IfSome, None, Option, Some}
use Rattle.cfb_medium.specs.declared.medium.ReadMedium.{Ghosts}
use Rattle.cfb_spec.specs.TreeRules.{done, is_empty, refused, remove_storage, tree_step}
use Rattle.cfb_medium.specs.declared.error.Error.TheVariants.{InvalidInput, NotFound}
use Rattle.cfb_siblings.proofs.Bounds.{some_here}
use Rattle.cfb_siblings.proofs.Searching.{no_siblings, nothing_held}
use Rattle.cfb_tree.specs.Changes.{removed}
use Rattle.cfb_tree.specs.Directory.{kind_stream, no_entry, Entry, Holds}
use Rattle.cfb_tree.specs.Names.{CaseTable}
use Rattle.cfb_tree.specs.Objects.{a_storage, a_stream, object_at, IsObject, Object}
use Rattle.cfb_tree.specs.Paths.{Path}
use Rattle.cfb_tree.specs.Tree.{nothing, storage, stream, Content, Facts, Tree}
use Rattle.cfb_tree.proofs.OneContent.{Some_same}
use Rattle.cfb_directory.specs.Views.{entries_held}
use Rattle.cfb_mini.specs.Views.{allocator_of, directory_of, mini_fat_of}
use Rattle.cfb_fat.specs.Tables.{fat_of}
use Rattle.cfb_sectors.specs.Sectors.{free}
use Rattle.cfb_mini.specs.declared.mini_allocator.MiniAllocator.{MiniAllocator}
use Rattle.cfb_ownership.specs.LiveFile.{LiveFile}
use Rattle.cfb_ownership.specs.Owners.{stream_owner, Owners, OwnsNothing}
use Rattle.cfb_tree_edits.specs.Freeing.{CarriesBut, FreesStream}
use Rattle.cfb_tree_edits.specs.Live.{live_of, LiveFileMeansTree}
use Rattle.cfb_tree_edits.proofs.Freed.{none_have}
use Rattle.cfb_tree_edits.proofs.Standing.{stands_of}
use Rattle.cfb_tree_edits.proofs.Strays.{strays_same}

-- a storage without a child holds nothing
pub empty_inside : (directory : List Entry) (Reads : Entry → List ℕ → Type 0) (id : ℕ) (o : Object) (own : List ℕ) (e : Entry) → IsObject directory Reads id o own → slice_get directory id ≡ Some e → (e.kind ≡ kind_stream → ⊥) → e.child ≡ no_entry
    → (name : List ℕ) × (facts : Facts) × (o ≡ a_storage name facts nothing) × (own ≡ [])
empty_inside directory Reads id (a_stream name bits bytes) own e (f, is, reads, none) found never child =
    let same : f ≡ e = Some_same (sym is.found ∙ found) in absurd (never (ap (λ (x : Entry). x.kind) (sym same) ∙ is.of_kind))
empty_inside directory Reads id (a_storage name facts inside) own e (f, children, is, siblings, holds) found never child =
    let same : f ≡ e = Some_same (sym is.found ∙ found) in
    let none : children ≡ [] = no_siblings directory Reads f.child children (ap (λ (x : Entry). x.child) same ∙ child) siblings in
    let held = nothing_held directory Reads inside own (subst (λ ids. Holds directory Reads ids inside own) none holds) in
    (name, facts, ap (a_storage name facts) held.0, held.1)

some_held : (directory : List Entry) (Reads : Entry → List ℕ → Type 0) (c : Content) (ids all : List ℕ) → 0 < length ids → Holds directory Reads ids c all → is_empty c ≡ false
some_held directory Reads nothing ids all some (none, empty) = let size = ap length none in absurd (omega (arith, some, size))
some_held directory Reads (stream name bits bytes later) ids all some h = refl
some_held directory Reads (storage name facts inside later) ids all some h = refl

-- one with a child holds something
pub full_inside : (directory : List Entry) (Reads : Entry → List ℕ → Type 0) (id : ℕ) (o : Object) (own : List ℕ) (e : Entry) → IsObject directory Reads id o own → slice_get directory id ≡ Some e → (e.kind ≡ kind_stream → ⊥) → (e.child ≡ no_entry → ⊥)
    → (name : List ℕ) × (facts : Facts) × (inside : Content) × (o ≡ a_storage name facts inside) × (is_empty inside ≡ false)
full_inside directory Reads id (a_stream name bits bytes) own e (f, is, reads, none) found never child =
    let same : f ≡ e = Some_same (sym is.found ∙ found) in absurd (never (ap (λ (x : Entry). x.kind) (sym same) ∙ is.of_kind))
full_inside directory Reads id (a_storage name facts inside) own e (f, children, is, siblings, holds) found never child =
    let same : f ≡ e = Some_same (sym is.found ∙ found) in
    (name, facts, inside, refl, some_held directory Reads inside children own (some_here directory f.child children (λ none. child (ap (λ (x : Entry). x.child) (sym same) ∙ none)) siblings) holds)

module _ (letters : CaseTable) (tree : Tree) where
  pub step_no_storage : (path : Path) → object_at letters tree path ≡ None → (tree_step letters tree (remove_storage path)).1 ≡ refused NotFound
  step_no_storage path at = rw at refl

  pub step_root_stays : (path : Path) → path ≡ [] → (tree_step letters tree (remove_storage path)).1 ≡ refused InvalidInput
  step_root_stays path is = subst (λ p. (tree_step letters tree (remove_storage p)).1 ≡ refused InvalidInput) (sym is) refl

  pub step_is_stream : (path : Path) (name : List ℕ) (bits : ℕ) (bytes : List ℕ) → object_at letters tree path ≡ Some (a_stream name bits bytes) → (tree_step letters tree (remove_storage path)).1 ≡ refused InvalidInput
  step_is_stream path name bits bytes at = rw at refl

  pub step_full : (path : Path) (name : List ℕ) (facts : Facts) (inside : Content) → 0 < length path → object_at letters tree path ≡ Some (a_storage name facts inside) → is_empty inside ≡ false → (tree_step letters tree (remove_storage path)).1 ≡ refused InvalidInput
  step_full [] name facts inside some at full = absurd (omega (arith, some))
  step_full (first ∷ names) name facts inside some at full = rw at (rw full refl)

  pub step_emptied : (path : Path) (name : List ℕ) (facts : Facts) → 0 < length path → object_at letters tree path ≡ Some (a_storage name facts nothing) → tree_step letters tree (remove_storage path) ≡ (removed letters path tree, done)
  step_emptied [] name facts some at = absurd (omega (arith, some))
  step_emptied (first ∷ names) name facts some at = rw at refl

carries_all : (key : ℕ) (s : LiveFile) (who : Owners) → CarriesBut key s s who who
carries_all key s who = record { version = refl; longer = omega arith; sectors = λ k past other. refl; minis = λ k other. refl; joined = λ k past other. refl }

module _ {F : Type 0} {g : Ghosts F} where
  -- the entry of a storage owns nothing as it is
  pub owns_nothing : (letters : CaseTable) (it : MiniAllocator F g) (tree : Tree) (m : LiveFileMeansTree letters it tree) (id : ℕ) (e : Entry) → slice_get (entries_held (directory_of it)) id ≡ Some e → (e.kind ≡ kind_stream → ⊥) → FreesStream id it it m.who
  unfolding live_of
  owns_nothing letters it tree m id e found never =
      let none : OwnsNothing m.who (stream_owner id) = m.held.unused id (λ among. never (subst (λ (o : Option Entry). IfSome o (λ x. x.kind ≡ kind_stream)) found among.1)) in record {
        now = m.who;
        stands = stands_of letters it tree m;
        carries = carries_all (stream_owner id) (live_of it) m.who;
        nothing = none;
        freed = record { in_fat = none_have free (fat_of (allocator_of it)) _ none.0; in_mini_fat = none_have free (mini_fat_of it) _ none.1 };
        strays = strays_same it m.who;
        entries = refl;
      }
