use Rattle.std.proofs.Common.{ap, ◌∙◌, arith}
use Rattle.std.proofs.lemmas.List.{take_all}
use Rattle.cfb_tree.specs.Directory.{entry_of}
use Rattle.cfb_directory.proofs.reading.first_entry.Goals as goal

pub returns : goal.returns
returns c = c.in-Ok.ensures.read ∙ ap (entry_of c.args.version) (take_all 128 c.args.bytes.now (omega (arith, c.requires)))
