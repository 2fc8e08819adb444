use Rattle.std.proofs.Common.{◌≡◌, ◌∙◌, ap, map, []}
use Rattle.msi_expr.specs.Formula.{formula_of, names_after}
use Rattle.msi_expr.proofs.Knowing.{names_known}
use Rattle.msi_tables.specs.Held.{heading_of}
use Rattle.msi_expr.proofs.matching.knows.Goals as goal

pub returns-clause-ok : goal.returns-clause-ok
returns-clause-ok c =
    let are : map (λ n. n.now) c.deref.result.now ≡ names_after [] (formula_of c.args.expr.now) = ap (map (λ n. n.now)) c.deref.ensures.value ∙ cc c.in_ok-names.ensures in
    c.has_columns.ensures ∙ names_known (heading_of c.args.table.now).columns c.deref.result.now (formula_of c.args.expr.now) are
