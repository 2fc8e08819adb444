-- What the entries in memory hold.
use Rattle.std.specs.Prelude.{ℕ, List, nat_eq}
use Rattle.std.specs.List.{IsDistinct}
use Rattle.cfb_tree.specs.Directory.{Entry, Siblings, Holds}
use Rattle.cfb_tree.specs.Entries.{HasSize}
use Rattle.cfb_tree.specs.Tree.{Content}

-- what hangs at a link is this content, and no entry stands twice in it ([MS-CFB] 2.6.4)
pub record IsHeldAt (directory : List Entry) (link : ℕ) (content : Content) : Type 0 where
  pub children : List ℕ
  pub ids : List ℕ
  pub siblings : Siblings directory link children
  pub holds : Holds directory HasSize children content ids
  pub once : IsDistinct nat_eq ids
