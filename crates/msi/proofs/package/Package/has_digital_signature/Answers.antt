use Rattle.msi.proofs.package.Package.has_digital_signature.Goals as goal

pub returns : goal.returns
returns g c P h = c.has_digital_signature.ensures h.tree h.file P h.stores h.usable
