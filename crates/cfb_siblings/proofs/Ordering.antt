-- Contents stay in order, at all depths.
use Rattle.cfb_tree.specs.Names.{CaseTable}
use Rattle.cfb_tree.specs.Tree.{Content, nothing, stream, storage, IsOrderedInside, IsOrdered}
use Rattle.cfb_tree.specs.Objects.{Object, a_stream, a_storage, before, joined_contents}

module _ (letters : CaseTable) where
  -- what an object holds is in order
  abbrev pub IsOrderedObject : Object → Type 0
  IsOrderedObject (a_stream name state_bits bytes) = Unit {0}
  IsOrderedObject (a_storage name facts inside) = IsOrdered letters inside

  pub inside_joined : (a b : Content) → IsOrderedInside letters a → IsOrderedInside letters b → IsOrderedInside letters (joined_contents a b)
  inside_joined nothing b h k = k
  inside_joined (stream n s x l) b h k = inside_joined l b h k
  inside_joined (storage n f i l) b h k = (h.0, h.1, inside_joined l b h.2 k)

  pub inside_parts : (a b : Content) → IsOrderedInside letters (joined_contents a b) → IsOrderedInside letters a × IsOrderedInside letters b
  inside_parts nothing b h = (tt, h)
  inside_parts (stream n s x l) b h = inside_parts l b h
  inside_parts (storage n f i l) b h = let rest = inside_parts l b h.2 in ((h.0, h.1, rest.0), rest.1)

  pub inside_before : (o : Object) (c : Content) → IsOrderedObject o → IsOrderedInside letters c → IsOrderedInside letters (before o c)
  inside_before (a_stream n s x) c h k = k
  inside_before (a_storage n f i) c h k = (h.0, h.1, k)

  pub before_parts : (o : Object) (c : Content) → IsOrderedInside letters (before o c) → IsOrderedObject o × IsOrderedInside letters c
  before_parts (a_stream n s x) c h = (tt, h)
  before_parts (a_storage n f i) c h = ((h.0, h.1), h.2)

  -- one more object, one less, and another in place of one
  pub inside_with : (a : Content) (o : Object) (b : Content) → IsOrderedObject o → IsOrderedInside letters (joined_contents a b)
      → IsOrderedInside letters (joined_contents a (before o b))
  inside_with a o b h k = let parts = inside_parts a b k in inside_joined a (before o b) parts.0 (inside_before o b h parts.1)

  pub inside_without : (a : Content) (o : Object) (b : Content) → IsOrderedInside letters (joined_contents a (before o b)) → IsOrderedInside letters (joined_contents a b)
  inside_without a o b k = let parts = inside_parts a (before o b) k in inside_joined a b parts.0 ((before_parts o b parts.1).1)
