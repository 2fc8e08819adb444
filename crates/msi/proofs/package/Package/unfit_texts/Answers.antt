use Rattle.std.proofs.Common.{◌≡◌, ◌++◌, ◌-◌, ◌∙◌, length, map, take, ap, subst, sym}
use Rattle.std.proofs.lemmas.Result.{IfOk-weaker}
use Rattle.std.specs.Prelude.{string_bytes}
use Rattle.msi_pool.specs.PoolKept.{unfit_among}
use Rattle.msi.proofs.Unfit.{both_taken, short_of}
use Rattle.msi.specs.Fitting.{unfit_texts, unfit_values}
use Rattle.msi.specs.Opened.{pool_in, summary_in}
use Rattle.msi.proofs.package.Package.unfit_texts.Goals as goal

pub with_unfit_values-requires : goal.with_unfit_values-requires
with_unfit_values-requires g c =
    let pool = (pool_in c.args.self.now).pool in
    short_of c.args.most (unfit_among pool.page pool.places) c.in_ok-texts.texts.items c.in_ok-texts.ensures.texts

pub returns-clause-texts : goal.returns-clause-texts
returns-clause-texts g c =
    let pool = (pool_in c.args.self.now).pool in
    let summary = (summary_in c.args.self.now).props in
    let texts = c.in_ok-texts.texts.items in
    let given = rw (c.codepage-codepage.ensures, c.properties.ensures) at c.with_unfit_values.ensures.texts in
    IfOk-weaker c.with_unfit_values.result (λ all. map string_bytes all.items ≡ map string_bytes texts ++ take (c.args.most - length texts) (unfit_values summary.page summary.values))
    (λ all. map string_bytes all.items ≡ take c.args.most (unfit_texts pool summary))
    (λ all so. both_taken c.args.most (unfit_among pool.page pool.places) (unfit_values summary.page summary.values) texts (map string_bytes all.items) c.in_ok-texts.ensures.texts so) given
