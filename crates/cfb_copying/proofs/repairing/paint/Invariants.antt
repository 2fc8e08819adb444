use Rattle.cfb_directory.specs.Entries.{entries_in}
use Rattle.cfb_copying.proofs.Repaired.{PaintsFirst}
use Rattle.cfb_copying.proofs.repairing.paint.Given as goal

abbrev pub invariant-paint : goal.invariant-paint
invariant-paint l = PaintsFirst l.entry-index (entries_in l.fn.entries) (entries_in l.entries)
