use Rattle.std.specs.Prelude.{take}
use Rattle.cfb_siblings.specs.Places.{path_of}
use Rattle.cfb_tree_edits.specs.Parents.{AreNames}
use Rattle.cfb_tree_edits.proofs.parents.are_names.Given as goal

abbrev pub invariant-names : goal.invariant-names
invariant-names l = AreNames (take l.name-index (path_of l.names))
