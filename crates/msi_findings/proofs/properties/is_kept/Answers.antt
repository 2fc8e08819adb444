use Rattle.msi_findings.proofs.SetParts.{kept_other, kept_text}
use Rattle.msi_findings.proofs.properties.is_kept.Goals as goal

pub returns-in-Some-clause-ok : goal.returns-in-Some-clause-ok
returns-in-Some-clause-ok c = λ v reads. kept_text c.args.codepage v c.in-Some.text.now c.gives_back.result (c.in-Some.ensures v reads) c.gives_back.ensures.ok

pub returns-in-None-clause-ok : goal.returns-in-None-clause-ok
returns-in-None-clause-ok c = λ v reads. kept_other c.args.codepage v (c.in-None.ensures v reads)
