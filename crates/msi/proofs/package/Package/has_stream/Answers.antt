use Rattle.msi.proofs.package.Package.has_stream.Goals as goal

pub returns : goal.returns
returns g c P h = c.has_stream.ensures h.tree h.file P h.stores h.usable
