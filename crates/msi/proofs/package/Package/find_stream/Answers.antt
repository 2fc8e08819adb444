use Rattle.std.proofs.Common.{◌∙◌, inl, inr, refl, sym}
use Rattle.msi.proofs.package.Package.find_stream.Goals as goal

pub returns-then-is_failed-clause-answer : goal.returns-then-is_failed-clause-answer
returns-then-is_failed-clause-answer g c P h = inl tt

pub returns-then-is_failed-clause-cause : goal.returns-then-is_failed-clause-cause
returns-then-is_failed-clause-cause g c = inl (inr (refl, sym c.is_failed.ensures ∙ c.if-is_failed.true))

pub returns-clause-answer : goal.returns-clause-answer
returns-clause-answer g c P h = c.find_stream.ensures.answer h.tree h.file P h.stores h.usable
