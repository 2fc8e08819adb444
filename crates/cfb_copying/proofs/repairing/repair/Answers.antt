use Rattle.std.proofs.Common.{◌<◌, arith, length}
use Rattle.cfb_directory.specs.Entries.{entries_in}
use Rattle.cfb_copying.proofs.NextStreams.{entry_found}
use Rattle.cfb_copying.proofs.Repaired.{root_sized}
use Rattle.cfb_copying.proofs.repairing.repair.Goals as goal

pub returns : goal.returns
returns c =
    let es = c.paint.new.entries in
    let is = c.if-is_empty.ensures in
    let told = c.is_empty.ensures in
    let test = c.if-is_empty.false in
    let some : 0 < length es = grind (arith, is, told, test) in
    root_sized c.args.root_len (entries_in c.args.entries.now) es c.index-entries-0.result (entry_found es 0 c.index-entries-0.result some c.index-entries-0.is) c.paint.ensures
