-- Bytes are laid out in one way, and so mean at most one tree.
use Rattle.std.proofs.Common.{◌≡◌, ℕ, ◌+◌, ◌*◌, ◌<◌, List, [], ◌∷◌, ◌++◌, take, refl, ap, sym, ◌∙◌, subst, arith, zero, suc, replicate, ◌⊎◌, inl, inr}
use Rattle.std.specs.Prelude.{slice_get, slice_range}
use Rattle.std.specs.List.{AllByRecursion, flat_map}
use native.Mathlib.Decide.{dec_lt}
use mathlib.Core.Logic.{dite}
use Rattle.cfb_medium.specs.declared.version.Version.{Version}
use Rattle.cfb_medium.specs.declared.version.Version.TheVariants.{V3, V4}
use Rattle.cfb_medium.specs.Numbers.{u16_at}
use Rattle.cfb_tree.specs.Names.{CaseTable}
use Rattle.cfb_medium.specs.Versions.{major}
use Rattle.cfb_sectors.specs.Header.{first_directory_sector, first_mini_fat_sector, mini_cutoff}
use Rattle.cfb_sectors.specs.Sectors.{Chain, end_of_chain, free, greatest_regular, IsInFile, joined}
use Rattle.cfb_tree.specs.Tree.{Facts, Content, Tree}
use Rattle.cfb_tree.specs.Directory.{Entry, Siblings, Holds}
use Rattle.cfb_spec.specs.Means.{Layout, IsLaidOut, fat, mini_fat, directory, mini_stream, mini_sector, IsInSectors, IsInMiniSectors, HasBytes, BytesMeanTree}
use Rattle.cfb_sectors.proofs.OneChain.{chain_unique, difat_unique}
use Rattle.cfb_tree.proofs.OneContent.{siblings_unique, holds_unique, Some_same}

pub version_unique : (v w : Version) (n : ℕ) → n ≡ major v → n ≡ major w → v ≡ w
version_unique V3 V3 n e f = refl
version_unique V3 V4 n e f = absurd (omega arith)
version_unique V4 V3 n e f = absurd (omega arith)
version_unique V4 V4 n e f = refl

module _ (version : Version) (bytes : List ℕ) where
  pub filled_unique : (xs ys : List ℕ) (m n : ℕ) → AllByRecursion (IsInFile version bytes) xs → AllByRecursion (IsInFile version bytes) ys
      → xs ++ replicate m free ≡ ys ++ replicate n free → xs ≡ ys
  filled_unique [] [] m n h k e = refl
  filled_unique [] (y ∷ ys) zero n h k e = absurd (cc)
  filled_unique [] (y ∷ ys) (suc m) n h k e = let same : free ≡ y = cc in absurd (omega (arith, k.0.0))
  filled_unique (x ∷ xs) [] m zero h k e = absurd (cc)
  filled_unique (x ∷ xs) [] m (suc n) h k e = let same : x ≡ free = cc in absurd (omega (arith, h.0.0))
  filled_unique (x ∷ xs) (y ∷ ys) m n h k e =
      let tails : xs ++ replicate m free ≡ ys ++ replicate n free = cc in
      let rest : xs ≡ ys = filled_unique xs ys m n h.1 k.1 tails in
      cc

past_regular : (n : ℕ) → (n ≡ end_of_chain) ⊎ (n ≡ free) → greatest_regular < n
past_regular n (inl e) = omega arith
past_regular n (inr e) = omega arith

-- the parts of two layouts of one file, from left to right
module _ (bytes : List ℕ) (l m : Layout) (a : IsLaidOut bytes l) (b : IsLaidOut bytes m) where
  version_same : m.version ≡ l.version
  version_same = version_unique m.version l.version (u16_at bytes 26) b.header.for_version a.header.for_version

  difat_same : (m.difat_sectors ≡ l.difat_sectors) × (m.difat_stop ≡ l.difat_stop)
  difat_same = difat_unique l.version bytes _ m.difat_sectors l.difat_sectors m.difat_stop l.difat_stop
      (past_regular m.difat_stop b.difat_end) (past_regular l.difat_stop a.difat_end)
      (rw version_same at b.difat_chain) a.difat_chain

  fat_sectors_same : m.fat_sectors ≡ l.fat_sectors
  fat_sectors_same = filled_unique l.version bytes m.fat_sectors l.fat_sectors b.fat_named.0 a.fat_named.0
      (rw version_same at b.fat_in_file) a.fat_in_file
      (sym (rw (version_same, difat_same.0) at b.fat_named.1) ∙ a.fat_named.1)

  fat_same : fat bytes m ≡ fat bytes l
  fat_same = rw (version_same, fat_sectors_same)

  directory_sectors_same : m.directory_sectors ≡ l.directory_sectors
  directory_sectors_same = chain_unique (fat bytes l) (first_directory_sector bytes) m.directory_sectors l.directory_sectors
      (subst (λ t. Chain t (first_directory_sector bytes) m.directory_sectors) fat_same b.directory_chain) a.directory_chain

  mini_fat_sectors_same : m.mini_fat_sectors ≡ l.mini_fat_sectors
  mini_fat_sectors_same = chain_unique (fat bytes l) (first_mini_fat_sector bytes) m.mini_fat_sectors l.mini_fat_sectors
      (subst (λ t. Chain t (first_mini_fat_sector bytes) m.mini_fat_sectors) fat_same b.mini_fat_chain) a.mini_fat_chain

  pub directory_same : directory bytes m ≡ directory bytes l
  directory_same = rw (version_same, directory_sectors_same)

  pub root_same : m.root ≡ l.root
  root_same = Some_same (sym b.root_found ∙ ap (λ d. slice_get d 0) directory_same ∙ a.root_found)

  mini_stream_sectors_same : m.mini_stream_sectors ≡ l.mini_stream_sectors
  mini_stream_sectors_same = chain_unique (fat bytes l) l.root.start m.mini_stream_sectors l.mini_stream_sectors
      (subst (λ s. Chain (fat bytes l) s m.mini_stream_sectors) (ap (λ r. r.start) root_same)
      (subst (λ t. Chain t m.root.start m.mini_stream_sectors) fat_same b.mini_stream_chain)) a.mini_stream_chain

  mini_fat_same : mini_fat bytes m ≡ mini_fat bytes l
  mini_fat_same = rw (version_same, mini_fat_sectors_same)

  mini_stream_same : mini_stream bytes m ≡ mini_stream bytes l
  mini_stream_same = rw (version_same, mini_stream_sectors_same)

  in_sectors_unique : (e : Entry) (x y : List ℕ) → IsInSectors bytes l e x → IsInSectors bytes m e y → x ≡ y
  in_sectors_unique e x y h k =
      let chain : Chain (fat bytes l) e.start k.sectors = subst (λ t. Chain t e.start k.sectors) fat_same k.chain in
      let same : h.sectors ≡ k.sectors = chain_unique (fat bytes l) e.start h.sectors k.sectors h.chain chain in
      h.content_is ∙ ap (λ s. take e.size (joined l.version bytes s)) same
      ∙ ap (λ v. take e.size (joined v bytes k.sectors)) (sym version_same) ∙ sym k.content_is

  in_mini_sectors_unique : (e : Entry) (x y : List ℕ) → IsInMiniSectors bytes l e x → IsInMiniSectors bytes m e y → x ≡ y
  in_mini_sectors_unique e x y h k =
      let chain : Chain (mini_fat bytes l) e.start k.sectors = subst (λ t. Chain t e.start k.sectors) mini_fat_same k.chain in
      let same : h.sectors ≡ k.sectors = chain_unique (mini_fat bytes l) e.start h.sectors k.sectors h.chain chain in
      h.content_is ∙ ap (λ s. take e.size (flat_map (mini_sector bytes l) s)) same
      ∙ ap (λ t. take e.size (flat_map (λ n. slice_range t (64 * n) (64 * n + 64)) k.sectors)) (sym mini_stream_same) ∙ sym k.content_is

  bytes_unique : (e : Entry) (x y : List ℕ) → HasBytes bytes l e x → HasBytes bytes m e y → x ≡ y
  bytes_unique e x y h k = dite (dec_lt e.size mini_cutoff)
      (λ short. in_mini_sectors_unique e x y (h.short short) (k.short short))
      (λ long. in_sectors_unique e x y (h.long (omega arith)) (k.long (omega arith)))

  -- so where the tree's entries are the same, the layouts are
  pub layout_same : m.entries ≡ l.entries → m ≡ l
  layout_same entries =
      let made = λ (v : Version) (ds : List ℕ) (stop : ℕ) (fs d mf : List ℕ) (r : Entry) (ms es : List ℕ).
      let one : Layout = record { version = v; difat_sectors = ds; difat_stop = stop; fat_sectors = fs; directory_sectors = d; mini_fat_sectors = mf; root = r; mini_stream_sectors = ms; entries = es } in one in
      ap (λ v. made v m.difat_sectors m.difat_stop m.fat_sectors m.directory_sectors m.mini_fat_sectors m.root m.mini_stream_sectors m.entries) version_same
      ∙ ap (λ ds. made l.version ds m.difat_stop m.fat_sectors m.directory_sectors m.mini_fat_sectors m.root m.mini_stream_sectors m.entries) difat_same.0
      ∙ ap (λ stop. made l.version l.difat_sectors stop m.fat_sectors m.directory_sectors m.mini_fat_sectors m.root m.mini_stream_sectors m.entries) difat_same.1
      ∙ ap (λ fs. made l.version l.difat_sectors l.difat_stop fs m.directory_sectors m.mini_fat_sectors m.root m.mini_stream_sectors m.entries) fat_sectors_same
      ∙ ap (λ d. made l.version l.difat_sectors l.difat_stop l.fat_sectors d m.mini_fat_sectors m.root m.mini_stream_sectors m.entries) directory_sectors_same
      ∙ ap (λ mf. made l.version l.difat_sectors l.difat_stop l.fat_sectors l.directory_sectors mf m.root m.mini_stream_sectors m.entries) mini_fat_sectors_same
      ∙ ap (λ r. made l.version l.difat_sectors l.difat_stop l.fat_sectors l.directory_sectors l.mini_fat_sectors r m.mini_stream_sectors m.entries) root_same
      ∙ ap (λ ms. made l.version l.difat_sectors l.difat_stop l.fat_sectors l.directory_sectors l.mini_fat_sectors l.root ms m.entries) mini_stream_sectors_same
      ∙ ap (λ es. made l.version l.difat_sectors l.difat_stop l.fat_sectors l.directory_sectors l.mini_fat_sectors l.root l.mini_stream_sectors es) entries

tree_same : (s t : Tree) → s.root ≡ t.root → s.content ≡ t.content → s ≡ t
tree_same s t e f =
    let tree = λ (facts : Facts) (content : Content). let made : Tree = record { root = facts; content = content } in made in
    ap (λ x. tree x s.content) e ∙ ap (λ x. tree t.root x) f

-- LAW: bytes mean at most one tree
pub tree_unique : (letters : CaseTable) (bytes : List ℕ) (s t : Tree) → BytesMeanTree letters bytes s → BytesMeanTree letters bytes t → s ≡ t
tree_unique letters bytes s t (l, a) (m, b) =
    let dirs = directory_same bytes l m a.laid_out b.laid_out in
    let roots = root_same bytes l m a.laid_out b.laid_out in
    let siblings : Siblings (directory bytes l) l.root.child b.children =
    subst (λ r. Siblings (directory bytes l) r.child b.children) roots
    (subst (λ d. Siblings d m.root.child b.children) dirs b.siblings) in
    let children : b.children ≡ a.children = siblings_unique siblings a.siblings in
    let holds : Holds (directory bytes l) (HasBytes bytes m) a.children t.content m.entries =
    subst (λ ids. Holds (directory bytes l) (HasBytes bytes m) ids t.content m.entries) children
    (subst (λ d. Holds d (HasBytes bytes m) b.children t.content m.entries) dirs b.holds) in
    let contents = holds_unique (directory bytes l) (HasBytes bytes l) (HasBytes bytes m)
    (bytes_unique bytes l m a.laid_out b.laid_out) s.content t.content a.children l.entries m.entries a.holds holds in
    let same : s.content ≡ t.content = contents.0 in
    tree_same s t (sym a.facts ∙ ap (λ r. r.facts) (sym roots) ∙ b.facts) same
