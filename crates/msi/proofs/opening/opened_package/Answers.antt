use Rattle.msi.proofs.OpenedPackages.{found_of}
use Rattle.msi.proofs.opening.opened_package.Goals as goal

pub returns-in-Ok-clause-ok : goal.returns-in-Ok-clause-ok
returns-in-Ok-clause-ok g c =
    let is = c.from_parts.ensures in
    found_of c.args.file c.judged_parts.new.file c.from_parts.result c.in-Ok.parts c.in-Ok.is_sound is.file c.judged_parts.ensures.only_reads is.parts is.sound c.in-Ok.ensures.shown c.in-Ok.ensures.judged c.in-Ok.ensures.unsound
