-- What is told of each tree that a file holds, told of the file before it was read.
use Rattle.std.proofs.Common.{subst}
use Rattle.cfb.proofs.Holding.{holds_yet}
use Rattle.cfb.specs.Streams.{FileHoldsTree}
use Rattle.cfb.specs.Views.{file_case_table, OnlyReadsFile}
use Rattle.cfb.specs.declared.compound_file.CompoundFile.{CompoundFile}
use Rattle.cfb_medium.specs.declared.medium.ReadMedium.{Ghosts}
use Rattle.cfb_tree.specs.Names.{CaseTable}
use Rattle.cfb_tree.specs.Tree.{Tree}

module _ {F : Type 0} {g : Ghosts F} where
  pub later : (a b : CompoundFile F g) (P : CaseTable → Tree → Type 0) → OnlyReadsFile a b → ((tree : Tree) → FileHoldsTree b tree → P (file_case_table b) tree)
      → (tree : Tree) → FileHoldsTree a tree → P (file_case_table a) tree
  later a b P rests told tree held = subst (λ n. P n tree) rests.letters (told tree (holds_yet a b tree rests held))
