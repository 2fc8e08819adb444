-- The order of names, at all depths, after a change of one object.
use Rattle.std.proofs.Common.{◌≡◌, ℕ, List, ◌∷◌, ◌++◌, sym, ◌∙◌, ap, subst}
use Rattle.std.specs.List.Sorted.{IsStrictlySortedBy}
use Rattle.cfb_tree.specs.Names.{CaseTable, name_cmp}
use Rattle.cfb_tree.specs.Tree.{Content, child_names, IsOrdered, IsOrderedInside}
use Rattle.cfb_tree.specs.Directory.{Entry}
use Rattle.cfb_tree.specs.Objects.{Object, before, name_of, joined_contents}
use Rattle.cfb_tree.specs.Changes.{without_child, with_changed}
use Rattle.cfb_siblings.proofs.Records.{Chosen}
use Rattle.cfb_siblings.proofs.Joining.{names_joined, names_before}
use Rattle.cfb_siblings.proofs.Naming.{changed_past, changed_here, without_past, without_here}
use Rattle.cfb_siblings.proofs.Lists.{sorted_without}
use Rattle.cfb_siblings.proofs.Ordering.{IsOrderedObject, inside_joined, inside_parts, inside_before, before_parts, inside_without}

module _ (directory : List Entry) (Reads : Entry → List ℕ → Type 0) (letters : CaseTable) (wanted : List ℕ) (ids : List ℕ) (c : Content) (all : List ℕ)
    (at : ℕ) (it : Chosen directory Reads letters wanted ids c all at) where
  names_around : (o : Object) → child_names (joined_contents it.earlier (before o it.later)) ≡ child_names it.earlier ++ name_of o ∷ child_names it.later
  names_around o = names_joined it.earlier (before o it.later) ∙ ap (λ ns. child_names it.earlier ++ ns) (names_before o it.later)

  -- what was chosen is in order inside
  pub chosen_ordered : IsOrdered letters c → IsOrderedObject letters it.object
  chosen_ordered (rising, ordered) =
      let parts = inside_parts letters it.earlier (before it.object it.later) (subst (IsOrderedInside letters) it.content_is ordered) in
      (before_parts letters it.object it.later parts.1).0

  -- a change that keeps its name, and is in order inside, keeps the order
  pub changed_ordered : (change : Object → Object) → name_of (change it.object) ≡ name_of it.object → IsOrderedObject letters (change it.object)
      → IsOrdered letters c → IsOrdered letters (with_changed letters wanted change c)
  changed_ordered change named inside (rising, ordered) =
      let content : with_changed letters wanted change c ≡ joined_contents it.earlier (before (change it.object) it.later) =
      ap (with_changed letters wanted change) it.content_is ∙ changed_past letters wanted change it.earlier (before it.object it.later) it.others
      ∙ ap (joined_contents it.earlier) (changed_here letters wanted change it.object it.later it.level) in
      let names : child_names c ≡ child_names (joined_contents it.earlier (before (change it.object) it.later)) =
      ap child_names it.content_is ∙ names_around it.object ∙ ap (λ n. child_names it.earlier ++ n ∷ child_names it.later) (sym named)
      ∙ sym (names_around (change it.object)) in
      let parts = inside_parts letters it.earlier (before it.object it.later) (subst (IsOrderedInside letters) it.content_is ordered) in
      let own = before_parts letters it.object it.later parts.1 in
      subst (IsOrdered letters) (sym content) (
        subst (IsStrictlySortedBy (name_cmp letters)) names rising,
        inside_joined letters it.earlier (before (change it.object) it.later) parts.0 (inside_before letters (change it.object) it.later inside own.1),
      )

  -- so does its removal
  pub removed_ordered : IsOrdered letters c → IsOrdered letters (without_child letters wanted c)
  removed_ordered (rising, ordered) =
      let content : without_child letters wanted c ≡ joined_contents it.earlier it.later =
      ap (without_child letters wanted) it.content_is ∙ without_past letters wanted it.earlier (before it.object it.later) it.others
      ∙ ap (joined_contents it.earlier) (without_here letters wanted it.object it.later it.level) in
      subst (IsOrdered letters) (sym content) (
        subst (IsStrictlySortedBy (name_cmp letters)) (sym (names_joined it.earlier it.later))
            (sorted_without (name_cmp letters) (child_names it.earlier) (name_of it.object) (child_names it.later)
            (subst (IsStrictlySortedBy (name_cmp letters)) (ap child_names it.content_is ∙ names_around it.object) rising)),
        inside_without letters it.earlier it.object it.later (subst (IsOrderedInside letters) it.content_is ordered),
      )
