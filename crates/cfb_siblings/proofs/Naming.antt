-- What the rules do to a content in parts.
use Rattle.std.proofs.Common.{◌≡◌, ℕ, true, false, List, refl, ◌∙◌, ap}
use Rattle.std.specs.Prelude.{Some, None}
use Rattle.std.specs.List.{AllByRecursion}
use Rattle.std.specs.Ordering.{is_eq, ordering_reverse}
use Rattle.std.specs.declared.cmp.Ordering.TheVariants.{Less, Greater}
use Rattle.cfb_tree.specs.Names.{CaseTable, name_cmp}
use Rattle.cfb_tree.specs.Tree.{Content, nothing, stream, storage, child_names}
use Rattle.cfb_tree.proofs.NameOrder.{name_cmp_total}
use Rattle.cfb_tree.specs.Objects.{Object, a_stream, a_storage, before, name_of, is_same_name, child, joined_contents}
use Rattle.cfb_tree.specs.Changes.{with_child, without_child, with_changed}
use Rattle.cfb_siblings.proofs.Lists.{all_map}

module _ (letters : CaseTable) (wanted : List ℕ) where
  -- turned comparisons
  pub less_turned : (name : List ℕ) → name_cmp letters name wanted ≡ Less → name_cmp letters wanted name ≡ Greater
  less_turned name e = (name_cmp_total letters).antisymm wanted name ∙ ap ordering_reverse e

  pub greater_turned : (name : List ℕ) → name_cmp letters wanted name ≡ Greater → name_cmp letters name wanted ≡ Less
  greater_turned name e = (name_cmp_total letters).antisymm name wanted ∙ ap ordering_reverse e

  -- no name of the content is the wanted one
  abbrev pub AreOthers : Content → Type 0
  AreOthers c = AllByRecursion (λ name. is_same_name letters wanted name ≡ false) (child_names c)

  pub others_below : (c : Content) → AllByRecursion (λ name. name_cmp letters wanted name ≡ Greater) (child_names c) → AreOthers c
  others_below c h = all_map (λ name. name_cmp letters wanted name ≡ Greater) (λ name. is_same_name letters wanted name ≡ false)
      (child_names c) (λ name e. ap is_eq e) h

  pub others_above : (c : Content) → AllByRecursion (λ name. name_cmp letters wanted name ≡ Less) (child_names c) → AreOthers c
  others_above c h = all_map (λ name. name_cmp letters wanted name ≡ Less) (λ name. is_same_name letters wanted name ≡ false)
      (child_names c) (λ name e. ap is_eq e) h

  pub child_past : (c d : Content) → AreOthers c → child letters (joined_contents c d) wanted ≡ child letters d wanted
  child_past nothing d h = refl
  child_past (stream n s x l) d h = rw h.0 (child_past l d h.1)
  child_past (storage n f i l) d h = rw h.0 (child_past l d h.1)

  pub child_none : (c : Content) → AreOthers c → child letters c wanted ≡ None
  child_none nothing h = refl
  child_none (stream n s x l) h = rw h.0 (child_none l h.1)
  child_none (storage n f i l) h = rw h.0 (child_none l h.1)

  pub child_here : (o : Object) (d : Content) → is_same_name letters wanted (name_of o) ≡ true → child letters (before o d) wanted ≡ Some o
  child_here (a_stream n s x) d h = rw h
  child_here (a_storage n f i) d h = rw h

  pub without_past : (c d : Content) → AreOthers c → without_child letters wanted (joined_contents c d) ≡ joined_contents c (without_child letters wanted d)
  without_past nothing d h = refl
  without_past (stream n s x l) d h = rw h.0 (ap (λ y. stream n s x y) (without_past l d h.1))
  without_past (storage n f i l) d h = rw h.0 (ap (λ y. storage n f i y) (without_past l d h.1))

  pub without_here : (o : Object) (d : Content) → is_same_name letters wanted (name_of o) ≡ true → without_child letters wanted (before o d) ≡ d
  without_here (a_stream n s x) d h = rw h
  without_here (a_storage n f i) d h = rw h

  pub changed_past : (change : Object → Object) (c d : Content) → AreOthers c
      → with_changed letters wanted change (joined_contents c d) ≡ joined_contents c (with_changed letters wanted change d)
  changed_past change nothing d h = refl
  changed_past change (stream n s x l) d h = rw h.0 (ap (λ y. stream n s x y) (changed_past change l d h.1))
  changed_past change (storage n f i l) d h = rw h.0 (ap (λ y. storage n f i y) (changed_past change l d h.1))

  pub changed_here : (change : Object → Object) (o : Object) (d : Content) → is_same_name letters wanted (name_of o) ≡ true
      → with_changed letters wanted change (before o d) ≡ before (change o) d
  changed_here change (a_stream n s x) d h = rw h
  changed_here change (a_storage n f i) d h = rw h

module _ (letters : CaseTable) (o : Object) where
  pub with_past : (c d : Content) → AllByRecursion (λ name. name_cmp letters (name_of o) name ≡ Greater) (child_names c)
      → with_child letters o (joined_contents c d) ≡ joined_contents c (with_child letters o d)
  with_past nothing d h = refl
  with_past (stream n s x l) d h = rw h.0 (ap (λ y. stream n s x y) (with_past l d h.1))
  with_past (storage n f i l) d h = rw h.0 (ap (λ y. storage n f i y) (with_past l d h.1))

  pub with_here : (d : Content) → AllByRecursion (λ name. name_cmp letters (name_of o) name ≡ Less) (child_names d)
      → with_child letters o d ≡ before o d
  with_here nothing h = refl
  with_here (stream n s x l) h = rw h.0
  with_here (storage n f i l) h = rw h.0
