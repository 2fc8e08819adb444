-- A file that means a tree stands.
use Rattle.cfb_medium.specs.declared.medium.ReadMedium.{Ghosts}
use Rattle.cfb_mini.specs.declared.mini_allocator.MiniAllocator.{MiniAllocator}
use Rattle.cfb_tree.specs.Names.{CaseTable}
use Rattle.cfb_tree.specs.Tree.{Tree}
use Rattle.cfb_tree_edits.specs.Freeing.{HasFileInvariant}
use Rattle.cfb_tree_edits.specs.Live.{LiveFileMeansTree}

module _ {F : Type 0} {g : Ghosts F} where
  pub stands_of : (letters : CaseTable) (it : MiniAllocator F g) (tree : Tree) → (m : LiveFileMeansTree letters it tree) → HasFileInvariant it m.who
  stands_of letters it tree m = record { live = m.live; orderly = m.orderly; owners = m.owners; sizes = m.sizes; root = m.held.root; kept = m.held.kept }
