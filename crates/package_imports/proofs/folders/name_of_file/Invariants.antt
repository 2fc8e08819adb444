use Rattle.std.proofs.Common.{ℕ, length}
use Rattle.package_imports.proofs.folders.name_of_file.Given as goal

-- what is left gets shorter
abbrev pub decreases-loop-left : goal.decreases-loop-left
decreases-loop-left l = length l.left
