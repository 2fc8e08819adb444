use Rattle.std.proofs.Common.{take}
use Rattle.cfb_soundness.specs.Marks.{MarksEachOnce}
use Rattle.cfb_soundness.proofs.marks.Marks.take_all.Given as goal

abbrev pub invariant-loop-part : goal.invariant-loop-part
invariant-loop-part l = MarksEachOnce (take l.part-index l.parts) l.initial.self.items.items l.self.items.items
