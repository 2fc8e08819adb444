use Rattle.std.proofs.Common.{◌∙◌, ap, refl}
use Rattle.cfb.specs.Views.{file_case_table}
use Rattle.msi.proofs.OpenedPackages.{found_of}
use Rattle.msi.specs.Opened.{file_in}
use Rattle.msi.proofs.package.Package.read_again.Goals as goal

pub returns-in-Ok-clause-ok : goal.returns-in-Ok-clause-ok
returns-in-Ok-clause-ok g c =
    let is = c.take_parts.ensures in
    found_of (file_in c.args.self.now) c.judged_parts.new.file c.take_parts.new.self c.in-Ok.parts c.in-Ok.is_sound is.file c.judged_parts.ensures.only_reads is.parts is.sound c.in-Ok.ensures.shown c.in-Ok.ensures.judged c.in-Ok.ensures.unsound

pub returns-in-Ok-clause-letters : goal.returns-in-Ok-clause-letters
returns-in-Ok-clause-letters g c = ap file_case_table c.take_parts.ensures.file ∙ c.judged_parts.ensures.only_reads.letters

pub returns-in-Err-clause-after_error : goal.returns-in-Err-clause-after_error
returns-in-Err-clause-after_error g c = record {
  new = c.judged_parts.new.file;
  rests = c.judged_parts.ensures.only_reads;
  medium_is = refl;
  cause = c.in-Err.ensures.cause;
  told = c.in-Err.ensures.shown;
}
