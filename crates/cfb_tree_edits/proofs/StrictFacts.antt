-- What a strict reader asks of directory and mini FAT, over a change of them.
use Rattle.std.proofs.Common.{◌≡◌, ℕ, Bool, true, List, [], ◌∷◌, refl, ap, sym, subst, ◌∙◌, ⊎_elim, arith}
use Rattle.std.specs.List.Sorted.{IsStrictlySortedBy}
use Rattle.std.specs.Prelude.{codes, slice_get, slice_set, IfSome, Some}
use Rattle.cfb_medium.specs.declared.medium.ReadMedium.{Ghosts}
use Rattle.cfb_directory.specs.Children.{AddsAt, HasAt, RemovesAt}
use Rattle.cfb_directory.specs.Views.{entries_held}
use Rattle.cfb_mini.specs.Files.{HasCounts, HasHeader}
use Rattle.cfb_mini.specs.Views.{directory_of}
use Rattle.cfb_mini.specs.declared.mini_allocator.MiniAllocator.{MiniAllocator}
use Rattle.cfb_ownership.specs.Owners.{first_of, Owners}
use Rattle.cfb_siblings.specs.Changes.{AreColored, HasSameLinks, HoldsOneLess, HoldsOneMore}
use Rattle.cfb_siblings.specs.Reading.{ReadBy}
use Rattle.cfb_siblings.proofs.Colors.{black_kept, colored_kept, set_other}
use Rattle.cfb_siblings.proofs.Frames.{either_same, name_kept, set_found}
use Rattle.cfb_siblings.proofs.Lists.{all_map}
use Rattle.cfb_tree.specs.Directory.{none, some, Entry, HasName, Holds, Siblings}
use Rattle.cfb_tree.specs.Entries.{IsColored}
use Rattle.cfb_tree.specs.Names.{name_cmp, CaseTable}
use Rattle.cfb_tree.specs.Objects.{EntriesHoldTree}
use Rattle.cfb_tree.specs.Paths.{Path}
use Rattle.cfb_tree.specs.Tree.{child_names, nothing, storage, stream, Content, IsOrderedInside, Tree}
use Rattle.cfb_tree.proofs.OneContent.{holds_unique, siblings_unique, Some_same}
use Rattle.cfb_tree_edits.specs.Freeing.{HasFileInvariant}
use Rattle.cfb_tree_edits.specs.Live.{live_of}
use Rattle.cfb_tree_edits.specs.Orphans.{HaveStrictFacts, IsStrictLive}

-- each entry of the one list is in the other, with its name, its kind and its links
abbrev AreLike : List Entry → List Entry → Type 0
AreLike from to = (k : ℕ) (e : Entry) → slice_get from k ≡ Some e → (f : Entry) × (slice_get to k ≡ Some f) × HasSameLinks e f

-- the entries hold a content of the same names, whatever facts and bytes it has
record Restated (directory : List Entry) (Reads : Entry → List ℕ → Type 0) (ids all : List ℕ) (c : Content) : Type 0 where
  content : Content
  holds : Holds directory Reads ids content all
  names : child_names content ≡ child_names c
  ordered : (letters : CaseTable) → IsOrderedInside letters c → IsOrderedInside letters content

module _ (from to : List Entry) (like : AreLike from to) (Reads Reads' : Entry → List ℕ → Type 0) (empty : (e : Entry) → Reads' e []) where
  siblings_like : (id : ℕ) (ids : List ℕ) → Siblings from id ids → Siblings to id ids
  siblings_like id ids (none is nowhere) = none is nowhere
  siblings_like id ids (some e before after fits found left right whole) =
      let it = like id e found in
      some it.0 before after fits it.1 (subst (λ n. Siblings to n before) (sym it.2.left) (siblings_like e.left before left)) (subst (λ n. Siblings to n after) (sym it.2.right) (siblings_like e.right after right)) whole

  restated : (c : Content) (ids all : List ℕ) → Holds from Reads ids c all → Restated to Reads' ids all c
  restated nothing ids all h = record { content = nothing; holds = h; names = refl; ordered = λ letters o. o }
  restated (stream n b x l) ids all (e, id, others, rest, is, all_is, at, reads, later) =
      let it = like id e at.found in
      let tail = restated l others rest later in
      record {
        content = stream n it.0.facts.state_bits [] tail.content;
        holds = (
          it.0,
          id,
          others,
          rest,
          is,
          all_is,
          record { found = it.1; of_kind = it.2.kind ∙ at.of_kind; named = name_kept e it.0 n it.2.name_len it.2.name_units at.named; bits = refl },
          empty it.0,
          tail.holds,
        );
        names = ap (λ ns. n ∷ ns) tail.names;
        ordered = tail.ordered;
      }
  restated (storage n f i l) ids all (e, id, others, children, within, rest, is, all_is, at, siblings, inside, later) =
      let it = like id e at.found in
      let deep = restated i children within inside in
      let tail = restated l others rest later in
      record {
        content = storage n it.0.facts deep.content tail.content;
        holds = (
          it.0,
          id,
          others,
          children,
          within,
          rest,
          is,
          all_is,
          record { found = it.1; of_kind = it.2.kind ∙ at.of_kind; named = name_kept e it.0 n it.2.name_len it.2.name_units at.named; has_facts = refl },
          subst (λ k. Siblings to k children) (sym it.2.child) (siblings_like e.child children siblings),
          deep.holds,
          tail.holds,
        );
        names = ap (λ ns. n ∷ ns) tail.names;
        ordered = λ letters o. (subst (IsStrictlySortedBy (name_cmp letters)) (sym deep.names) o.0, deep.ordered letters o.1, tail.ordered letters o.2);
      }

  -- so the one holds a tree of the entries of which the other does
  tree_like : (letters : CaseTable) (tree : Tree) (h : EntriesHoldTree letters Reads from tree) → (t : Tree) × (k : EntriesHoldTree letters Reads' to t) × (k.ids ≡ h.ids)
  tree_like letters tree h =
      let root = like 0 h.root h.root_found in
      let it = restated tree.content h.children h.ids h.holds in (
        record { root = root.0.facts; content = it.content },
        record {
          root = root.0;
          root_found = root.1;
          root_kind = root.2.kind ∙ h.root_kind;
          facts = refl;
          children = h.children;
          ids = h.ids;
          siblings = subst (λ k. Siblings to k h.children) (sym root.2.child) (siblings_like h.root.child h.children h.siblings);
          holds = it.holds;
          once = h.once;
          ordered = (subst (IsStrictlySortedBy (name_cmp letters)) (sym it.names) h.ordered.0, it.ordered letters h.ordered.1);
        },
        refl,
      )

abbrev NoBytes : Entry → List ℕ → Type 0
NoBytes e bytes = bytes ≡ []

own_links : (directory : List Entry) → AreLike directory directory
own_links directory k e found = (e, found, record { name_units = refl; name_len = refl; kind = refl; left = refl; right = refl; child = refl })

-- trees that the same entries hold are made of the same ones
pub ids_are_one : (directory : List Entry) (letters letters' : CaseTable) (Reads Reads' : Entry → List ℕ → Type 0) (s t : Tree) (h : EntriesHoldTree letters Reads directory s) (k : EntriesHoldTree letters' Reads' directory t) → h.ids ≡ k.ids
ids_are_one directory letters letters' Reads Reads' s t h k =
    let like = own_links directory in
    let root : k.root ≡ h.root = Some_same (sym k.root_found ∙ h.root_found) in
    let children : k.children ≡ h.children = siblings_unique (subst (λ (x : Entry). Siblings directory x.child k.children) root k.siblings) h.siblings in
    let one = restated directory directory like Reads NoBytes (λ e. refl) s.content h.children h.ids h.holds in
    let other = restated directory directory like Reads' NoBytes (λ e. refl) t.content k.children k.ids k.holds in
    (holds_unique directory NoBytes NoBytes (λ e a b is is'. is ∙ sym is') one.content other.content h.children h.ids k.ids one.holds (subst (λ ids. Holds directory NoBytes ids other.content k.ids) children other.holds)).1

abbrev IsNamed : Entry → Type 0
IsNamed root = HasName root (codes "Root Entry")

-- the facts are right where the root has its name still, and colours stay right of one tree
pub facts_by : (old new : List Entry) (letters letters' : CaseTable) (reads : ℕ → ℕ → List ℕ → Bool) (Reads' : Entry → List ℕ → Type 0) (s t : Tree) (h : EntriesHoldTree letters (ReadBy reads) old s) (k : EntriesHoldTree letters' Reads' new t)
    → (AreColored old h.ids → AreColored new k.ids) → HasAt new 0 h.root → HaveStrictFacts old → HaveStrictFacts new
facts_by old new letters letters' reads Reads' s t h k keep at was = record {
  named = subst (λ o. IfSome o IsNamed) (sym at.1) (name_kept h.root at.0 (codes "Root Entry") at.2.name_len at.2.name_units (subst (λ o. IfSome o IsNamed) h.root_found was.named));
  colors = λ l r tree other. subst (AreColored new) (ids_are_one new letters' l Reads' (ReadBy r) t tree k other) (keep (was.colors letters reads s h));
}

-- an entry was set that keeps its links, its name and its colour
module _ (entries : List Entry) (id : ℕ) (e f : Entry) (found : slice_get entries id ≡ Some e) (links : HasSameLinks e f) (color : f.color ≡ e.color) where
  was_like : AreLike (slice_set entries id f) entries
  was_like k x now = ⊎_elim
      (λ same.
      let is : f ≡ x = Some_same (sym (set_found entries id e f found) ∙ ap (slice_get (slice_set entries id f)) same ∙ now) in (
        e,
        ap (slice_get entries) (sym same) ∙ found,
        subst (λ y. HasSameLinks y e) is
            (record { name_units = sym links.name_units; name_len = sym links.name_len; kind = sym links.kind; left = sym links.left; right = sym links.right; child = sym links.child }),
      ))
      (λ other. (x, sym (set_other entries id k f other) ∙ now, record { name_units = refl; name_len = refl; kind = refl; left = refl; right = refl; child = refl }))
      (either_same id k)

  root_named : IfSome (slice_get entries 0) IsNamed → IfSome (slice_get (slice_set entries id f) 0) IsNamed
  root_named was = ⊎_elim
      (λ same. subst (λ o. IfSome o IsNamed) (sym (ap (slice_get (slice_set entries id f)) (sym same) ∙ set_found entries id e f found))
      (name_kept e f (codes "Root Entry") links.name_len links.name_units (subst (λ o. IfSome o IsNamed) (ap (slice_get entries) (sym same) ∙ found) was)))
      (λ other. subst (λ o. IfSome o IsNamed) (sym (set_other entries id 0 f other)) was)
      (either_same id 0)

  pub facts_set : HaveStrictFacts entries → HaveStrictFacts (slice_set entries id f)
  facts_set was = record {
    named = root_named was.named;
    colors = λ letters reads tree h.
        let any : ℕ → ℕ → List ℕ → Bool = λ start size bytes. true in
        let it = tree_like (slice_set entries id f) entries was_like (ReadBy reads) (ReadBy any) (λ x. refl) letters tree h in
        let colored = subst (AreColored entries) it.2 (was.colors letters any it.0 it.1) in (
          black_kept entries id e f found color 0 colored.0,
          all_map (IsColored entries) (IsColored (slice_set entries id f)) h.ids (λ k is. colored_kept entries id e f found color links.left links.right k is) colored.1,
        );
  }

-- so it is where another start and size were told
pub facts_placed : (entries : List Entry) (id : ℕ) (e : Entry) (start size : ℕ) → slice_get entries id ≡ Some e → HaveStrictFacts entries → HaveStrictFacts (slice_set entries id (record e { start = start; size = size }))
facts_placed entries id e start size found = facts_set entries id e (record e { start = start; size = size }) found (record { name_units = refl; name_len = refl; kind = refl; left = refl; right = refl; child = refl }) refl

module _ (letters : CaseTable) (reads : ℕ → ℕ → List ℕ → Bool) (old new : List Entry) (tree later : Tree) (h : EntriesHoldTree letters (ReadBy reads) old tree) (ids : List ℕ) (ids_are : h.ids ≡ ids)
    (path : Path) (id : ℕ) where
  -- an entry more
  pub facts_more : (e : Entry) → AddsAt old new e id → HoldsOneMore letters (ReadBy reads) old new later ids path id → HaveStrictFacts old → HaveStrictFacts new
  facts_more e adds more =
      let apart : 0 ≡ id → ⊥ = λ same. let unused = adds.unused h.root (ap (slice_get old) (sym same) ∙ h.root_found) in let kind = h.root_kind in omega (arith, unused, kind) in
      facts_by old new letters letters reads (ReadBy reads) tree later h more.holds (λ right. more.colors (subst (AreColored old) ids_are right)) (adds.others 0 h.root apart h.root_found)

  -- an entry less
  pub facts_less : (own : List ℕ) → (id ≡ 0 → ⊥) → RemovesAt old new id → HoldsOneLess letters (ReadBy reads) old new later ids path id own → HaveStrictFacts old → HaveStrictFacts new
  facts_less own below at less =
      facts_by old new letters letters reads (ReadBy reads) tree later h less.holds (λ right. less.colors (subst (AreColored old) ids_are right)) (at.others 0 h.root (λ same. below (sym same)) h.root_found)

module _ {F : Type 0} {g : Ghosts F} where
  -- the header of what stands
  pub header_here : (it : MiniAllocator F g) (who : Owners) → HasFileInvariant it who → HasHeader it
  unfolding live_of
  header_here it who m = record { header = m.kept.header; directory = m.kept.directory_at ∙ ap first_of m.owners.directory; mini_fat = m.kept.mini_fat_at ∙ ap first_of m.owners.mini_fat }

  -- the header counts on, and the entries keep their facts
  pub strict_by : (old new : MiniAllocator F g) → HasHeader old → (HasHeader old → HasCounts old → HasCounts new)
      → (HaveStrictFacts (entries_held (directory_of old)) → HaveStrictFacts (entries_held (directory_of new))) → IsStrictLive old → IsStrictLive new
  strict_by old new header counts facts was = record { counts = counts header was.counts; entries = facts was.entries }

  -- or the entries stay
  pub strict_over : (old new : MiniAllocator F g) → HasHeader old → (HasHeader old → HasCounts old → HasCounts new) → entries_held (directory_of new) ≡ entries_held (directory_of old) → IsStrictLive old → IsStrictLive new
  strict_over old new header counts entries = strict_by old new header counts (subst HaveStrictFacts (sym entries))
