use Rattle.std.proofs.Common.{drop, arith, length-drop}
use Rattle.std.proofs.lemmas.List.{take_all}
use Rattle.cfb_tree.proofs.entry.DirEntry.read_from.Goals as goal

pub returns-clause-rest : goal.returns-clause-rest
returns-clause-rest c = let bytes = c.args.reader.now.now in take_all _ (drop 128 bytes) (omega (arith, length-drop 128 bytes))
