use Rattle.std.proofs.Common.{drop}
use Rattle.std.specs.Prelude.{◌↔◌}
use Rattle.cfb_soundness.specs.Places.{StandInFile}
use Rattle.cfb_soundness.proofs.places.stand_in_file.Given as goal

abbrev pub invariant-loop-start : goal.invariant-loop-start
invariant-loop-start l = StandInFile l.piece l.starts l.size l.file_len ↔ StandInFile l.piece (drop l.start-index l.starts) l.left l.file_len
