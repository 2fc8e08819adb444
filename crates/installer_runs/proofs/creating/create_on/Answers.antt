use Rattle.std.proofs.Common.{refl}
use Rattle.cfb_tree.specs.CaseTableViews.{case_table_of}
use Rattle.installer_runs.proofs.Made.{made_on, made_refused, made_survives}
use Rattle.installer_runs.proofs.creating.create_on.Goals as goal

pub returns-in-Ok-clause-made : goal.returns-in-Ok-clause-made
returns-in-Ok-clause-made g c = λ honest.
    let began = c.in-Ok.ensures.began honest in
    made_on (case_table_of c.args.letters) c.in-Ok.session c.args.device c.commit_last.result.0 c.commit_last.result.1 c.in-Ok.ensures.letters c.in-Ok.ensures.sound.1 began.1 began.2 began.3 began.4 c.commit_last.ensures began.0

pub returns-in-Ok-clause-survives : goal.returns-in-Ok-clause-survives
returns-in-Ok-clause-survives g c = λ honest.
    let began = c.in-Ok.ensures.began honest in
    made_survives (case_table_of c.args.letters) c.in-Ok.session c.args.device c.commit_last.result.0 c.commit_last.result.1 c.in-Ok.ensures.letters c.in-Ok.ensures.sound.1 began.1 began.2 began.3 began.4 c.commit_last.ensures c.in-Ok.ensures.survives

pub returns-in-Ok-clause-refused_only_if : goal.returns-in-Ok-clause-refused_only_if
returns-in-Ok-clause-refused_only_if g c = λ honest.
    let began = c.in-Ok.ensures.began honest in
    made_refused (case_table_of c.args.letters) c.in-Ok.session c.args.device c.commit_last.result.0 c.commit_last.result.1 c.in-Ok.ensures.letters c.in-Ok.ensures.sound.1 began.1 began.2 began.3 began.4 c.commit_last.ensures
    (λ m. refl) c.in-Ok.ensures.survives
