-- What setting a fact comes to, in the entry and in the tree.
use Rattle.std.proofs.Common.{◌≡◌, ℕ, ◌⊎◌, Bool, List, [], ◌∷◌, refl, ap, sym, subst, ◌∙◌, arith, ⊎_elim}
use Rattle.std.specs.Prelude.{slice_get, None, Some}
use Rattle.cfb_medium.specs.Times.{units_of}
use Rattle.cfb_spec.specs.TreeRules.{done, refused, tree_step}
use Rattle.cfb_medium.specs.declared.error.Error.TheVariants.{InvalidInput, NotFound}
use Rattle.cfb_tree.specs.Changes.{below_root, changed, having, with_state_bits}
use Rattle.cfb_tree.specs.Directory.{kind_root, kind_storage, kind_stream, Entry}
use Rattle.cfb_tree.specs.Names.{CaseTable}
use Rattle.cfb_tree.specs.Objects.{a_storage, a_stream, object_at, root_object, EntriesHoldTree, IsObject, Object}
use Rattle.cfb_tree.specs.Paths.{Path}
use Rattle.cfb_tree.specs.Tree.{Content, Facts, Tree}
use Rattle.cfb_tree.proofs.OneContent.{Some_same}
use Rattle.cfb_siblings.specs.Changes.{ObjectBecomes, HasSameLinks}
use Rattle.cfb_siblings.specs.Places.{IsEntryAt}
use Rattle.cfb_siblings.specs.Reading.{ReadBy}
use Rattle.cfb_directory.specs.Changes.{changed_entry}
use Rattle.cfb_tree_edits.specs.Facts.{change_for, setting, LacksClassId, LacksTime, MayHave}
use Rattle.cfb_tree_edits.specs.declared.facts.Fact.{Fact}
use Rattle.cfb_tree_edits.specs.declared.facts.Fact.TheVariants.{ClassId, Created, Modified, StateBits}

-- one of two, by what the object is
abbrev pub MatchObject : Object → Type 0 → Type 0 → Type 0
MatchObject (a_stream name bits bytes) A B = A
MatchObject (a_storage name facts inside) A B = B

-- the change of an object
abbrev pub rule : Fact → Path → Object → Object
rule (StateBits bits) path = with_state_bits bits
rule (ClassId clsid) path = having (λ facts. record facts { clsid = clsid })
rule (Created moment) path = having (below_root path (λ facts. record facts { created = units_of moment }))
rule (Modified moment) path = having (below_root path (λ facts. record facts { modified = units_of moment }))

-- its links stay, and where its stream lies
pub links_stay : (fact : Fact) (e : Entry) → HasSameLinks e (changed_entry (change_for fact) e)
links_stay (StateBits bits) e = record { name_units = refl; name_len = refl; kind = refl; left = refl; right = refl; child = refl }
links_stay (ClassId clsid) e = record { name_units = refl; name_len = refl; kind = refl; left = refl; right = refl; child = refl }
links_stay (Created moment) e = record { name_units = refl; name_len = refl; kind = refl; left = refl; right = refl; child = refl }
links_stay (Modified moment) e = record { name_units = refl; name_len = refl; kind = refl; left = refl; right = refl; child = refl }

pub color_stays : (fact : Fact) (e : Entry) → (changed_entry (change_for fact) e).color ≡ e.color
color_stays (StateBits bits) e = refl
color_stays (ClassId clsid) e = refl
color_stays (Created moment) e = refl
color_stays (Modified moment) e = refl

pub place_stays : (fact : Fact) (e : Entry) → ((changed_entry (change_for fact) e).start ≡ e.start) × ((changed_entry (change_for fact) e).size ≡ e.size)
place_stays (StateBits bits) e = (refl, refl)
place_stays (ClassId clsid) e = (refl, refl)
place_stays (Created moment) e = (refl, refl)
place_stays (Modified moment) e = (refl, refl)

pub same_links : (e : Entry) → HasSameLinks e e
same_links e = record { name_units = refl; name_len = refl; kind = refl; left = refl; right = refl; child = refl }

-- where an entry has the fact, it becomes as the rule says
stream_becomes : (Reads : ℕ → ℕ → List ℕ → Bool) (fact : Fact) (path : Path) (id : ℕ) (e : Entry) (name : List ℕ) (bits : ℕ) (bytes : List ℕ) → e.kind ≡ kind_stream → ReadBy Reads e bytes
    → MayHave fact id e → ObjectBecomes (ReadBy Reads) (changed_entry (change_for fact) e) (a_stream name bits bytes) (rule fact path (a_stream name bits bytes))
stream_becomes Reads (StateBits b) path id e name bits bytes kind reads may = (refl, refl, reads)
stream_becomes Reads (ClassId clsid) path id e name bits bytes kind reads may = absurd (may kind)
stream_becomes Reads (Created moment) path id e name bits bytes kind reads may = absurd (may.0 kind)
stream_becomes Reads (Modified moment) path id e name bits bytes kind reads may = absurd (may.0 kind)

storage_becomes : (Reads : ℕ → ℕ → List ℕ → Bool) (fact : Fact) (first : List ℕ) (path : Path) (id : ℕ) (e : Entry) (name : List ℕ) (facts : Facts) (inside : Content) → e.facts ≡ facts
    → ObjectBecomes (ReadBy Reads) (changed_entry (change_for fact) e) (a_storage name facts inside) (rule fact (first ∷ path) (a_storage name facts inside))
storage_becomes Reads (StateBits b) first path id e name facts inside is = (refl, ap (λ (x : Facts). record x { state_bits = b }) is, refl)
storage_becomes Reads (ClassId clsid) first path id e name facts inside is = (refl, ap (λ (x : Facts). record x { clsid = clsid }) is, refl)
storage_becomes Reads (Created moment) first path id e name facts inside is = (refl, ap (λ (x : Facts). record x { created = units_of moment }) is, refl)
storage_becomes Reads (Modified moment) first path id e name facts inside is = (refl, ap (λ (x : Facts). record x { modified = units_of moment }) is, refl)

root_becomes : (Reads : ℕ → ℕ → List ℕ → Bool) (fact : Fact) (id : ℕ) (e : Entry) (tree : Tree) → id ≡ 0 → e.facts ≡ tree.root → MayHave fact id e
    → ObjectBecomes (ReadBy Reads) (changed_entry (change_for fact) e) (root_object tree) (rule fact [] (root_object tree))
root_becomes Reads (StateBits b) id e tree zero is may = (refl, ap (λ (x : Facts). record x { state_bits = b }) is, refl)
root_becomes Reads (ClassId clsid) id e tree zero is may = (refl, ap (λ (x : Facts). record x { clsid = clsid }) is, refl)
root_becomes Reads (Created moment) id e tree zero is may = absurd (may.1 zero)
root_becomes Reads (Modified moment) id e tree zero is may = absurd (may.1 zero)

-- where it has none, it stays
stream_as_was : (Reads : ℕ → ℕ → List ℕ → Bool) (fact : Fact) (path : Path) (id : ℕ) (e : Entry) (name : List ℕ) (bits : ℕ) (bytes : List ℕ) → e.facts.state_bits ≡ bits → ReadBy Reads e bytes
    → LacksTime fact id e → ObjectBecomes (ReadBy Reads) e (a_stream name bits bytes) (rule fact path (a_stream name bits bytes))
stream_as_was Reads (StateBits b) path id e name bits bytes is reads lacks = absurd lacks
stream_as_was Reads (ClassId clsid) path id e name bits bytes is reads lacks = absurd lacks
stream_as_was Reads (Created moment) path id e name bits bytes is reads lacks = (refl, is, reads)
stream_as_was Reads (Modified moment) path id e name bits bytes is reads lacks = (refl, is, reads)

root_as_was : (Reads : ℕ → ℕ → List ℕ → Bool) (fact : Fact) (id : ℕ) (e : Entry) (tree : Tree) → e.facts ≡ tree.root → LacksTime fact id e → ObjectBecomes (ReadBy Reads) e (root_object tree) (rule fact [] (root_object tree))
root_as_was Reads (StateBits b) id e tree is lacks = absurd lacks
root_as_was Reads (ClassId clsid) id e tree is lacks = absurd lacks
root_as_was Reads (Created moment) id e tree is lacks = (refl, is, refl)
root_as_was Reads (Modified moment) id e tree is lacks = (refl, is, refl)

lacks_never : (fact : Fact) (id : ℕ) (e : Entry) → e.kind ≡ kind_storage → (id ≡ 0 → ⊥) → LacksTime fact id e → ⊥
lacks_never (StateBits b) id e kind below lacks = lacks
lacks_never (ClassId clsid) id e kind below lacks = lacks
lacks_never (Created moment) id e kind below lacks = ⊎_elim (λ other. omega (arith, kind, other)) below lacks
lacks_never (Modified moment) id e kind below lacks = ⊎_elim (λ other. omega (arith, kind, other)) below lacks

module _ (Reads : ℕ → ℕ → List ℕ → Bool) (letters : CaseTable) (directory : List Entry) (tree : Tree) (h : EntriesHoldTree letters (ReadBy Reads) directory tree) (id : ℕ) (e : Entry) (found : slice_get directory id ≡ Some e) where
  below : e.kind ≡ kind_storage → id ≡ 0 → ⊥
  below kind zero =
      let is : h.root ≡ e = Some_same (sym h.root_found ∙ ap (slice_get directory) (sym zero) ∙ found) in
      let both : kind_root ≡ kind_storage = sym h.root_kind ∙ ap (λ (x : Entry). x.kind) is ∙ kind in
      omega (arith, both)

  pub becomes : (fact : Fact) (path : Path) (at : IsEntryAt (ReadBy Reads) letters directory tree path id) → MayHave fact id e → ObjectBecomes (ReadBy Reads) (changed_entry (change_for fact) e) at.object (rule fact path at.object)
  becomes fact [] at may =
      let root : h.root ≡ e = Some_same (sym h.root_found ∙ ap (slice_get directory) (sym at.leads) ∙ found) in
      subst (λ o. ObjectBecomes (ReadBy Reads) (changed_entry (change_for fact) e) o (rule fact [] o)) (Some_same at.at_path)
      (root_becomes Reads fact id e tree at.leads (ap (λ (x : Entry). x.facts) (sym root) ∙ h.facts) may)
  becomes fact (name ∷ names) at may = of_object at.object (at.is_object (λ no. absurd (cc)))
    where
      of_object : (o : Object) → IsObject directory (ReadBy Reads) id o at.own → ObjectBecomes (ReadBy Reads) (changed_entry (change_for fact) e) o (rule fact (name ∷ names) o)
      of_object (a_stream n bits bytes) (x, is, reads, own) =
          let same : x ≡ e = Some_same (sym is.found ∙ found) in
          stream_becomes Reads fact (name ∷ names) id e n bits bytes (ap (λ (y : Entry). y.kind) (sym same) ∙ is.of_kind) (subst (λ y. ReadBy Reads y bytes) same reads) may
      of_object (a_storage n facts inside) (x, children, is, siblings, holds) =
          let same : x ≡ e = Some_same (sym is.found ∙ found) in
          storage_becomes Reads fact name names id e n facts inside (ap (λ (y : Entry). y.facts) (sym same) ∙ is.has_facts)

  pub as_was : (fact : Fact) (path : Path) (at : IsEntryAt (ReadBy Reads) letters directory tree path id) → LacksTime fact id e → ObjectBecomes (ReadBy Reads) e at.object (rule fact path at.object)
  as_was fact [] at lacks =
      let root : h.root ≡ e = Some_same (sym h.root_found ∙ ap (slice_get directory) (sym at.leads) ∙ found) in
      subst (λ o. ObjectBecomes (ReadBy Reads) e o (rule fact [] o)) (Some_same at.at_path) (root_as_was Reads fact id e tree (ap (λ (x : Entry). x.facts) (sym root) ∙ h.facts) lacks)
  as_was fact (name ∷ names) at lacks = of_object at.object (at.is_object (λ no. absurd (cc)))
    where
      of_object : (o : Object) → IsObject directory (ReadBy Reads) id o at.own → ObjectBecomes (ReadBy Reads) e o (rule fact (name ∷ names) o)
      of_object (a_stream n bits bytes) (x, is, reads, own) =
          let same : x ≡ e = Some_same (sym is.found ∙ found) in
          stream_as_was Reads fact (name ∷ names) id e n bits bytes (ap (λ (y : Entry). y.facts.state_bits) (sym same) ∙ is.bits) (subst (λ y. ReadBy Reads y bytes) same reads) lacks
      of_object (a_storage n facts inside) (x, children, is, siblings, holds) =
          let same : x ≡ e = Some_same (sym is.found ∙ found) in
          let kind = ap (λ (y : Entry). y.kind) (sym same) ∙ is.of_kind in
          absurd (lacks_never fact id e kind (below kind) lacks)

  -- a stream's entry is one
  pub object_kind : (path : Path) (at : IsEntryAt (ReadBy Reads) letters directory tree path id) → MatchObject at.object (e.kind ≡ kind_stream) (e.kind ≡ kind_stream → ⊥)
  object_kind [] at =
      let root : h.root ≡ e = Some_same (sym h.root_found ∙ ap (slice_get directory) (sym at.leads) ∙ found) in
      let kind : e.kind ≡ kind_root = ap (λ (x : Entry). x.kind) (sym root) ∙ h.root_kind in
      subst (λ o. MatchObject o (e.kind ≡ kind_stream) (e.kind ≡ kind_stream → ⊥)) (Some_same at.at_path) (λ wrong. omega (arith, kind, wrong))
  object_kind (name ∷ names) at = of_object at.object (at.is_object (λ no. absurd (cc)))
    where
      of_object : (o : Object) → IsObject directory (ReadBy Reads) id o at.own → MatchObject o (e.kind ≡ kind_stream) (e.kind ≡ kind_stream → ⊥)
      of_object (a_stream n bits bytes) (x, is, reads, own) =
          let same : x ≡ e = Some_same (sym is.found ∙ found) in ap (λ (y : Entry). y.kind) (sym same) ∙ is.of_kind
      of_object (a_storage n facts inside) (x, children, is, siblings, holds) =
          let same : x ≡ e = Some_same (sym is.found ∙ found) in
          let kind = ap (λ (y : Entry). y.kind) (sym same) ∙ is.of_kind in (λ wrong. omega (arith, kind, wrong))

-- the call is done where the object is there, and is no stream that would get a class identifier
module _ (letters : CaseTable) (tree : Tree) (path : Path) (id : ℕ) (e : Entry) where
  pub step_done : (fact : Fact) (object : Object) → object_at letters tree path ≡ Some object → MatchObject object (e.kind ≡ kind_stream) (e.kind ≡ kind_stream → ⊥) → MayHave fact id e ⊎ LacksTime fact id e
      → tree_step letters tree (setting fact path) ≡ (changed letters (rule fact path) path tree, done)
  step_done (StateBits b) object at kind may = rw at refl
  step_done (ClassId clsid) (a_stream name bits bytes) at kind may = absurd (⊎_elim (λ has. has kind) (λ lacks. lacks) may)
  step_done (ClassId clsid) (a_storage name facts inside) at kind may = rw at refl
  step_done (Created moment) object at kind may = rw at refl
  step_done (Modified moment) object at kind may = rw at refl

  -- and refused where a stream would get one
  pub step_refused : (fact : Fact) (object : Object) → object_at letters tree path ≡ Some object → MatchObject object (e.kind ≡ kind_stream) (e.kind ≡ kind_stream → ⊥) → LacksClassId fact e
      → (tree_step letters tree (setting fact path)).1 ≡ refused InvalidInput
  step_refused (StateBits b) object at kind lacks = absurd lacks
  step_refused (ClassId clsid) (a_stream name bits bytes) at kind lacks = rw at refl
  step_refused (ClassId clsid) (a_storage name facts inside) at kind lacks = absurd (kind lacks)
  step_refused (Created moment) object at kind lacks = absurd lacks
  step_refused (Modified moment) object at kind lacks = absurd lacks

-- or where nothing is at the path
pub step_missing : (letters : CaseTable) (tree : Tree) (path : Path) (fact : Fact) → object_at letters tree path ≡ None → (tree_step letters tree (setting fact path)).1 ≡ refused NotFound
step_missing letters tree path (StateBits b) at = rw at refl
step_missing letters tree path (ClassId clsid) at = rw at refl
step_missing letters tree path (Created moment) at = rw at refl
step_missing letters tree path (Modified moment) at = rw at refl
