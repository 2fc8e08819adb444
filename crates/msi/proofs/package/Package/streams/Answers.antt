use Rattle.msi.proofs.package.Package.streams.Goals as goal

pub returns-clause-answer : goal.returns-clause-answer
returns-clause-answer g c P h = c.new.ensures.answer h.tree h.file P h.stores h.usable
