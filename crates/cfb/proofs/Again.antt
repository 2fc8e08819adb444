-- A stream whose bytes are changed twice.
use Rattle.std.proofs.Common.{◌≡◌, ℕ, ◌+◌, ◌-◌, ◌<◌, ◌≤◌, List, [], ◌∷◌, ◌++◌, length, take, drop, replicate, refl, ap, sym, ◌∙◌, arith}
use Rattle.std.proofs.lemmas.List.{drop_all, take_all, take-append-le}
use Rattle.cfb_medium.specs.Bytes.{overwritten}
use Rattle.cfb_tree_edits.proofs.Below.{changed_twice}
use Rattle.cfb_tree.specs.Changes.{changed, changed_below, with_bytes}
use Rattle.cfb_tree.specs.Names.{CaseTable}
use Rattle.cfb_tree.specs.Objects.{a_storage, a_stream, name_of, root_object, tree_of, Object}
use Rattle.cfb_tree.specs.Paths.{Path}
use Rattle.cfb_tree.specs.Tree.{Tree}
use Rattle.cfb_stream_writes.specs.Streams.{resized}
use Rattle.cfb_stream_writes.proofs.LongBytes.{length-resized}

module _ (letters : CaseTable) where
  below_named : (bytes : List ℕ) (names : Path) (o : Object) → name_of (changed_below letters (with_bytes bytes) names o) ≡ name_of o
  below_named bytes [] (a_stream n s x) = refl
  below_named bytes [] (a_storage n f i) = refl
  below_named bytes (name ∷ names) (a_stream n s x) = refl
  below_named bytes (name ∷ names) (a_storage n f i) = refl

  module _ (first second : List ℕ) where
    below_again : (names : Path) (o : Object) → changed_below letters (with_bytes second) names (changed_below letters (with_bytes first) names o) ≡ changed_below letters (with_bytes second) names o
    below_again [] (a_stream n s x) = refl
    below_again [] (a_storage n f i) = refl
    below_again (name ∷ names) (a_stream n s x) = refl
    below_again (name ∷ names) (a_storage n f i) =
        ap (a_storage n f) (changed_twice letters name (changed_below letters (with_bytes first) names) (below_named first names) (changed_below letters (with_bytes second) names) (below_again names) i)

  root_of : (bytes : List ℕ) (names : Path) (tree : Tree) → root_object (tree_of tree (changed_below letters (with_bytes bytes) names (root_object tree))) ≡ changed_below letters (with_bytes bytes) names (root_object tree)
  root_of bytes [] tree = refl
  root_of bytes (name ∷ names) tree = refl

  other_root : (bytes : List ℕ) (names : Path) (tree other : Tree) → tree_of other (changed_below letters (with_bytes bytes) names (root_object tree)) ≡ tree_of tree (changed_below letters (with_bytes bytes) names (root_object tree))
  other_root bytes [] tree other = refl
  other_root bytes (name ∷ names) tree other = refl

  -- LAW: a stream that gets other bytes, and then others, has the last ones
  pub changed_again : (first second : List ℕ) (path : Path) (tree : Tree) → changed letters (with_bytes second) path (changed letters (with_bytes first) path tree) ≡ changed letters (with_bytes second) path tree
  changed_again first second path tree =
      let t = changed letters (with_bytes first) path tree in
      ap (λ o. tree_of t (changed_below letters (with_bytes second) path o)) (root_of first path tree)
      ∙ ap (tree_of t) (below_again first second path (root_object tree))
      ∙ other_root second path tree t

-- bytes that reach behind the end, written where zeros were put first
pub written_behind : (content bytes : List ℕ) (at end : ℕ) → at ≤ length content → end ≡ at + length bytes → length content < end → overwritten (resized end content) at bytes ≡ overwritten content at bytes
written_behind content [] at end inside is behind = absurd (omega (arith, inside, is, behind))
written_behind content (x ∷ xs) at end inside is behind =
    let long = length-resized content end in
    let front : take at (resized end content) ≡ take at content =
    ap (λ c. take at (c ++ replicate (end - length content) 0)) (take_all end content (omega (arith, behind))) ∙ take-append-le at content (replicate (end - length content) 0) inside in
    let gap : at - length (resized end content) ≡ at - length content = omega (arith, long, inside, behind) in
    let rest : drop (at + length (x ∷ xs)) (resized end content) ≡ drop (at + length (x ∷ xs)) content =
    drop_all (at + length (x ∷ xs)) (resized end content) (omega (arith, long, is)) ∙ sym (drop_all (at + length (x ∷ xs)) content (omega (arith, is, behind))) in
    ap (λ l. l ++ replicate (at - length (resized end content)) 0 ++ (x ∷ xs) ++ drop (at + length (x ∷ xs)) (resized end content)) front
    ∙ ap (λ n. take at content ++ replicate n 0 ++ (x ∷ xs) ++ drop (at + length (x ∷ xs)) (resized end content)) gap
    ∙ ap (λ l. take at content ++ replicate (at - length content) 0 ++ (x ∷ xs) ++ l) rest
