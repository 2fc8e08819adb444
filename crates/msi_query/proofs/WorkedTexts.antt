-- A worked text of a select, computed from the definitions.
use Rattle.std.proofs.Common.{◌≡◌, ℕ, [], refl, pos}
use Rattle.std.specs.Prelude.{Some, None, codes}
use Rattle.std.specs.Fmt.{digits}
use Rattle.msi_values.specs.Datum.{number}
use Rattle.msi_expr.specs.Formula.{Formula, literal, column, two}
use Rattle.msi_query.specs.Query.{query, inner_join}
use Rattle.msi_query.specs.Query as source
use Rattle.msi_query.specs.Printed.{select_of, select_text}
use Rattle.msi_expr.specs.declared.operators.BinOp.TheVariants as binary_op

abbrev int : ℕ → Formula
int n = literal (number (pos n))

join_printed : select_text (query (inner_join (query (source.table (codes "Foobar")) [] None)
    (query (source.table (codes "Quux")) [] (Some (two binary_op.Gt (column (codes "Quay")) (int 42))))
    (two binary_op.Eq (column (codes "Foobar.Key")) (column (codes "Quux.Quay")))) [] None)
    ≡ Some (codes "SELECT * FROM Foobar INNER JOIN (SELECT * FROM Quux WHERE Quay > 42) ON Foobar.Key = Quux.Quay")
unfolding digits select_of
join_printed = refl
