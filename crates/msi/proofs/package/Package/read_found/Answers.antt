use Rattle.std.proofs.Common.{refl}
use Rattle.msi.proofs.package.Package.read_found.Goals as goal

pub returns-clause-keeps : goal.returns-clause-keeps
returns-clause-keeps g c =
    let kept = c.read_bytes.ensures.keeps in
    record {
      package_read = record { file = kept.rests; tables = refl; kind = refl; pool = refl; summary = refl; sound = refl; written = refl };
      content = kept.content;
    }
