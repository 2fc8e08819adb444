use Rattle.std.proofs.Common.{◌∙◌, inl, sym}
use Rattle.msi.proofs.Changed.{failed_too}
use Rattle.msi.proofs.Flushed.{failed_cause}
use Rattle.msi.specs.Opened.{file_in}
use Rattle.msi.proofs.package.Package.read_stream.Goals as goal

pub returns-clause-answer : goal.returns-clause-answer
returns-clause-answer g c P h = c.read_stream.ensures.answer h.tree h.file P h.stores h.usable

pub returns-then-is_failed-clause-answer : goal.returns-then-is_failed-clause-answer
returns-then-is_failed-clause-answer g c P h = inl tt

pub returns-then-is_failed-clause-cause : goal.returns-then-is_failed-clause-cause
returns-then-is_failed-clause-cause g c = failed_cause g.met.F.ReadMedium.continues_keeps c.args.self.now (failed_too (file_in c.args.self.now) (sym c.is_failed.ensures ∙ c.if-is_failed.true))
