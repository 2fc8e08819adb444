use Rattle.std.proofs.Common.{take}
use Rattle.cfb_soundness.specs.Views.{tables_in}
use Rattle.cfb_soundness.proofs.Having.{Gone}
use Rattle.cfb_soundness.proofs.streams.Taken.take_entries.Given as goal

abbrev pub invariant-loop-id : goal.invariant-loop-id
invariant-loop-id g l = Gone (tables_in l.file l.file_len) (take l.id-index l.ids) l.initial.self l.self
