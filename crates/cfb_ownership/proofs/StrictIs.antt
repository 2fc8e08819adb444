-- A strict reader takes the bytes of a live file that holds a tree exactly where memory and header say what it asks for.
use Rattle.std.proofs.Common.{◌≡◌, ℕ, List, [], length, refl, sym, subst, ◌∙◌}
use Rattle.std.specs.Prelude.{◌%◌, ◌↔◌, ⊤, codes, slice_get, IfSome}
use Rattle.std.specs.List.{AllByRecursion}
use Rattle.cfb_medium.specs.Versions.{sector_len}
use Rattle.cfb_sectors.specs.Header.{difat_sector_count, directory_sector_count, fat_sector_count, first_difat_sector, mini_fat_sector_count}
use Rattle.cfb_sectors.specs.Sectors.{end_of_chain}
use Rattle.cfb_fat.specs.Listed.{stop_behind}
use Rattle.cfb_tree.specs.Directory.{black, Entry, HasName, Holds, Siblings}
use Rattle.cfb_tree.specs.Entries.{IsBlackAt, IsColored}
use Rattle.cfb_tree.specs.Names.{CaseTable}
use Rattle.cfb_tree.specs.Tree.{nothing, storage, stream, Content, Tree}
use Rattle.cfb_tree.proofs.OneContent.{holds_unique, siblings_unique}
use Rattle.cfb_spec.specs.Means.{directory, directory_count, IsStrict, IsStrictlyOpenable, Layout, BytesMeanTreeBy}
use Rattle.cfb_spec.proofs.OneTree.{directory_same, layout_same, root_same}
use Rattle.cfb_ownership.specs.Owners.{directory_owner, mini_fat_owner, Owners}
use Rattle.cfb_ownership.specs.LiveFile.{LiveFile}
use Rattle.cfb_ownership.specs.LiveInvariant.{layout_of}
use Rattle.cfb_ownership.specs.Held.{OwnersHoldTree}
use Rattle.cfb_ownership.proofs.MeansIs.{means_by}

-- which entries a list of siblings has at all depths doesn't depend on the bytes of streams
abbrev no_bytes : Entry → List ℕ → Type 0
no_bytes e bytes = bytes ≡ []

emptied : (entries : List Entry) (Reads : Entry → List ℕ → Type 0) (content : Content) (ids all : List ℕ) → Holds entries Reads ids content all → (other : Content) × Holds entries no_bytes ids other all
emptied entries Reads nothing ids all h = (nothing, h)
emptied entries Reads (stream name bits bytes later) ids all (e, id, others, rest, is, whole, at, reads, then) =
    let tail = emptied entries Reads later others rest then in (stream name bits [] tail.0, (e, id, others, rest, is, whole, at, refl, tail.1))
emptied entries Reads (storage name facts inside later) ids all (e, id, others, children, within, rest, is, whole, at, siblings, in_it, then) =
    let deep = emptied entries Reads inside children within in_it in
    let tail = emptied entries Reads later others rest then in
    (storage name facts deep.0 tail.0, (e, id, others, children, within, rest, is, whole, at, siblings, deep.1, tail.1))

pub entries_are_one : (entries : List Entry) (Reads Other : Entry → List ℕ → Type 0) (t u : Content) (ids xs ys : List ℕ) → Holds entries Reads ids t xs → Holds entries Other ids u ys → xs ≡ ys
entries_are_one entries Reads Other t u ids xs ys h k =
    let one = emptied entries Reads t ids xs h in
    let other = emptied entries Other u ids ys k in
    (holds_unique entries no_bytes no_bytes (λ e a b is is'. is ∙ sym is') one.0 other.0 ids xs ys one.1 other.1).1

-- two layouts by which bytes mean some tree are one
pub layouts_are_one : (letters letters' : CaseTable) (bytes : List ℕ) (l k : Layout) (Reads Other : Entry → List ℕ → Type 0) (t u : Tree) → BytesMeanTreeBy l Reads letters bytes t → BytesMeanTreeBy k Other letters' bytes u → k ≡ l
layouts_are_one letters letters' bytes l k Reads Other t u m n =
    let dirs = directory_same bytes l k m.laid_out n.laid_out in
    let roots = root_same bytes l k m.laid_out n.laid_out in
    let siblings : Siblings (directory bytes l) l.root.child n.children =
    subst (λ r. Siblings (directory bytes l) r.child n.children) roots (subst (λ d. Siblings d k.root.child n.children) dirs n.siblings) in
    let children : n.children ≡ m.children = siblings_unique siblings m.siblings in
    let holds : Holds (directory bytes l) Other m.children u.content k.entries =
    subst (λ ids. Holds (directory bytes l) Other ids u.content k.entries) children (subst (λ d. Holds d Other n.children u.content k.entries) dirs n.holds) in
    layout_same bytes l k m.laid_out n.laid_out (entries_are_one (directory bytes l) Other Reads u.content t.content m.children k.entries l.entries holds m.holds)

-- what a strict reader asks for besides, told of memory and header ([MS-CFB] 2.2 to 2.6)
pub record IsStrictIn (s : LiveFile) (who : Owners) (ids : List ℕ) : Type 0 where
  pub directory_count : directory_sector_count s.bytes ≡ directory_count s.version (length (who.sectors directory_owner))
  pub fat_count : fat_sector_count s.bytes ≡ length s.fat_sectors
  pub mini_fat_count : mini_fat_sector_count s.bytes ≡ length (who.sectors mini_fat_owner)
  pub difat_count : difat_sector_count s.bytes ≡ length s.difat_sectors
  pub stop : stop_behind s.version s.bytes (first_difat_sector s.bytes) s.difat_sectors ≡ end_of_chain
  pub whole : length s.bytes % sector_len s.version ≡ 0
  pub named : IfSome (slice_get s.entries 0) (λ root. HasName root (codes "Root Entry"))
  pub root_color : IsBlackAt s.entries 0
  pub colors : AllByRecursion (IsColored s.entries) ids

module _ (s : LiveFile) (who : Owners) (letters : CaseTable) (tree : Tree) (h : OwnersHoldTree s who letters tree) where
  strict_in : IsStrict s.bytes (layout_of s who h.root h.ids) → IsStrictIn s who h.ids
  strict_in strict = record {
    directory_count = strict.directory_count;
    fat_count = strict.fat_count;
    mini_fat_count = strict.mini_fat_count;
    difat_count = strict.difat_count;
    stop = strict.difat_end;
    whole = strict.whole_sectors;
    named = subst (λ o. IfSome o (λ root. HasName root (codes "Root Entry"))) (sym h.kept.root_found) strict.root_name;
    root_color = subst (λ o. IfSome o (λ e. e.color ≡ black)) (sym h.kept.root_found) strict.root_color;
    colors = subst (λ all. AllByRecursion (IsColored all) h.ids) (sym h.kept.entries) strict.colors;
  }

  strict_by : IsStrictIn s who h.ids → IsStrict s.bytes (layout_of s who h.root h.ids)
  strict_by strict = record {
    directory_count = strict.directory_count;
    fat_count = strict.fat_count;
    mini_fat_count = strict.mini_fat_count;
    difat_count = strict.difat_count;
    difat_end = strict.stop;
    whole_sectors = strict.whole;
    root_name = subst (λ o. IfSome o (λ root. HasName root (codes "Root Entry"))) h.kept.root_found strict.named;
    root_color = subst (λ o. IfSome o (λ e. e.color ≡ black)) h.kept.root_found strict.root_color;
    colors = subst (λ all. AllByRecursion (IsColored all) h.ids) h.kept.entries strict.colors;
  }

  -- LAW: memory says it exactly where a strict reader takes the bytes
  pub strict_is : IsStrictIn s who h.ids ↔ IsStrictlyOpenable letters s.bytes
  strict_is =
      let any = λ (e : Entry) (content : List ℕ). ⊤ in
      let means = means_by s who letters tree h any (λ id e content has. tt) in (
        λ strict. (layout_of s who h.root h.ids, tree, means, strict_by strict),
        λ (l, other, m, strict). strict_in (subst (IsStrict s.bytes) (layouts_are_one letters letters s.bytes (layout_of s who h.root h.ids) l any any tree other means m) strict),
      )
