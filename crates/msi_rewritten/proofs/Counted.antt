-- The pool counts the cells of a package of which one table got other rows.
use Rattle.std.proofs.Common.{◌≡◌, ◌∙◌, ℕ, ◌<◌, Bool, true, false, List, length, get_or, map, refl, sym, subst, arith}
use Rattle.std.specs.Prelude.{bytes_eq}
use Rattle.std.specs.List.{All}
use Rattle.std.proofs.lemmas.List.Elements.{All-map}
use Rattle.cfb_tree.specs.Names.{CaseTable}
use Rattle.cfb_tree.specs.Tree.{Tree}
use Rattle.msi_changes.specs.Laws.{uses_in}
use Rattle.msi_pool.specs.Pool.{Pool}
use Rattle.msi_tables.specs.Rows.{kinds_of, Row}
use Rattle.msi_tables.specs.Table.{row_data, Table}
use Rattle.msi_spec.specs.Calls.{rows_put, with_rows}
use Rattle.msi_spec.specs.Package.{PackageContent}
use Rattle.msi_spec.specs.Sound.{IsPlaceUsed}
use Rattle.msi_spec.specs.Split.{TreeStoresRest}
use Rattle.msi_spec.specs.Uses.{RefcountsAreExact}
use Rattle.msi_spec.proofs.SoundUses.{rows_read}
use Rattle.msi_rewritten.specs.Rewriting.{ReplacesTableRows}
use Rattle.msi_rewritten.proofs.Tables.{one_changed, other_kept, others_have, uses_after}
use Rattle.msi_rewritten.proofs.Texts.{rows_stay, rows_used}

module _ (letters : CaseTable) (tree : Tree) (P : PackageContent) (stores : TreeStoresRest letters tree P) (k : ℕ) (t : Table) (stored : List Row) (pool : Pool) (r : ReplacesTableRows P k t stored pool) where
  -- no cell of a table names place 0
  pub none_at : (j : ℕ) (d : Table) → j < length P.tables → uses_in (get_or P.tables j d).rows 0 ≡ 0
  none_at j d within = (rows_read P.pool.long (kinds_of (get_or P.tables j d).columns) _ (get_or P.tables j d).rows (stores.rows j d within)).1

  -- what another table's rows are read as stays
  pub data_stays : (j : ℕ) (d : Table) → j < length P.tables → bytes_eq (get_or P.tables j d).name t.name ≡ false
      → map (row_data pool) (get_or P.tables j d).rows ≡ map (row_data P.pool) (get_or P.tables j d).rows
  data_stays j d within differs =
      rows_stay P.pool pool (get_or P.tables j d).rows (none_at j d within)
      (λ n at is. r.stays n at (let most = others_have P.tables k t r.at stores.rising j d within differs n in omega (arith, most, is)))

  pub references_after : All (λ u. All (All (IsPlaceUsed pool)) u.rows) (rows_put t.name stored P.tables)
  references_after = All-map (λ u. All (All (IsPlaceUsed pool)) u.rows) (with_rows t.name stored) P.tables (λ j d within. at j d within (bytes_eq (get_or P.tables j d).name t.name) refl)
    where
      Used : List Row → Type 0
      Used rows = All (All (IsPlaceUsed pool)) rows

      at : (j : ℕ) (d : Table) → j < length P.tables → (b : Bool) → bytes_eq (get_or P.tables j d).name t.name ≡ b → All (All (IsPlaceUsed pool)) (with_rows t.name stored (get_or P.tables j d)).rows
      at j d within true is =
          subst (λ (u : Table). All (All (IsPlaceUsed pool)) u.rows) (sym (one_changed t.name stored (get_or P.tables j d) is))
          (rows_used pool stored r.uses.none (λ n at used. (let h = r.uses.counts n at in omega (arith, h, used))))
      at j d within false is =
          subst (λ (u : Table). All (All (IsPlaceUsed pool)) u.rows) (sym (other_kept t.name stored (get_or P.tables j d) is))
          (rows_used pool (get_or P.tables j d).rows (none_at j d within) (λ n at used. (let h = r.uses.counts n at in let most = others_have P.tables k t r.at stores.rising j d within is n in omega (arith, h, most, used))))

  pub counted_after : RefcountsAreExact pool (rows_put t.name stored P.tables)
  counted_after = record {
    references = references_after;
    counts = λ n at within. r.uses.counts n at ∙ sym (uses_after t.name stored P.tables k t r.at refl stores.rising n);
  }
