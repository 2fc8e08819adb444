-- A select of a whole table gives its rows.
use Rattle.std.proofs.Common.{◌≡◌, ◌∙◌, ℕ, List, [], ◌∷◌, ap, map, refl, subst, sym}
use Rattle.std.specs.Prelude.{Err, None, Ok, Option, Result, Some, filter, true}
use Rattle.cfb_medium.specs.declared.error.Error.{Error}
use Rattle.cfb_medium.specs.declared.error.Error.TheVariants.{NotFound}
use Rattle.msi_columns.specs.Column.{Column}
use Rattle.msi_expr.specs.Conditions.{matches}
use Rattle.msi_pool.specs.Pool.{Pool}
use Rattle.msi_query.specs.Query.{cut, query, table}
use Rattle.msi_spec.specs.Calls.{selected_in, ShownTable}
use Rattle.msi_spec.specs.Package.{PackageContent}
use Rattle.msi_tables.specs.Rows.{Row}
use Rattle.msi_tables.specs.Table.{Table, row_data, table_named}
use Rattle.msi_texts.specs.Results.{◌>>=◌, or_refused}

-- without a condition each row is taken
all_match : (pool : Pool) (columns : List Column) (rows : List Row) → filter (matches pool columns None) rows ≡ rows
all_match pool columns [] = refl
all_match pool columns (row ∷ rows) = ap (λ rs. row ∷ rs) (all_match pool columns rows)

inside : {X : Type 0} → Result X Error → X → X
inside (Ok x) d = x
inside (Err e) d = d

-- what two answers give that are the same
pub same_inside : {X : Type 0} (a b : X) → ◌≡◌ {A = Result X Error} (Ok a) (Ok b) → a ≡ b
unfolding inside
same_inside {X} a b same = ap (λ (r : Result X Error). inside r a) same

pub bare_rows : (P : PackageContent) (name : List ℕ) (t : Table) (shown : ShownTable) → table_named P.tables name ≡ Some t → selected_in P (query (table name) [] None) ≡ Ok shown
    → shown.1 ≡ map (row_data P.pool) t.rows
bare_rows P name t shown named asked =
    let found = subst (λ (o : Option Table). (or_refused o NotFound >>= cut P.pool [] None >>= λ s. Ok (map (λ c. c.name) s.columns, map (row_data P.pool) s.rows)) ≡ Ok shown) named asked in
    sym (ap (λ (s : ShownTable). s.1) (same_inside _ shown found)) ∙ ap (map (row_data P.pool)) (all_match P.pool t.columns t.rows)
