use Rattle.std.proofs.Common.{◌≡◌, ◌∙◌, [], List, Option, ap, subst}
use Rattle.std.specs.Prelude.{◌↔◌, IfOk, IfSome}
use Rattle.msi_columns.specs.Column.{Column}
use Rattle.msi_columns.specs.Held.{columns_of}
use Rattle.msi_parts.specs.Judged.{IsUsual}
use Rattle.msi_tables.specs.Held.{heading_of}
use Rattle.msi_tables.specs.Schema.{validation_columns}
use Rattle.msi_tables.specs.Table.{Heading}
use Rattle.msi_findings.proofs.Shapes.{usual_so}
use Rattle.msi_findings.specs.Misshapen.{unlike_from}
use Rattle.msi_findings.proofs.validation.misshapen_validation.Goals as goal

pub returns-in-Some-clause-none : goal.returns-in-Some-clause-none
returns-in-Some-clause-none c =
    let h = heading_of c.in-Some.table.now in
    let r = c.unlike_positions.result in
    let wanted = subst (λ (ds : List Column). IfOk r (λ found. found.items ≡ unlike_from 1 (columns_of c.columns.result.now) ds)) (ap columns_of c.deref.ensures.value ∙ c.in_ok-wanted.ensures.ok) c.unlike_positions.ensures.found in
    let found = subst (λ (cs : List Column). IfOk r (λ found. found.items ≡ unlike_from 1 cs validation_columns)) c.columns.ensures wanted in
    subst (λ (o : Option Heading). IfOk r (λ found. (found.items ≡ []) ↔ IfSome o IsUsual)) c.in-Some.ensures (usual_so h r found)
