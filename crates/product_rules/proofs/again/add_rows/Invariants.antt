use Rattle.std.proofs.Common.{◌≡◌, ◌++◌, ℕ, List, take, false}
use Rattle.std.specs.BTreeSet.{contains_text}
use Rattle.std.specs.List.{list_any}
use Rattle.std.specs.Option.{option_map_or}
use Rattle.package_rules.specs.Places.{place_if}
use Rattle.package_rules.proofs.Left.{left}
use Rattle.product_rules.specs.Components.{again_in_rows, code_at, has_code}
use Rattle.product_rules.proofs.again.add_rows.Given as goal

-- what was found so far, with what is left, is all, and the codes so far are in the set
abbrev pub invariant-loop-row_at : goal.invariant-loop-row_at
invariant-loop-row_at l = record {
  told : l.found.items ++ left (λ j row. place_if (option_map_or (λ q. list_any (has_code l.column_at q) (take j l.rows)) (code_at l.column_at row) false) l.table_at l.column_at j) l.row_at l.rows
      ≡ l.fn.found.items ++ again_in_rows l.table_at l.column_at l.rows;
  kept : (q : List ℕ) → contains_text l.seen q ≡ list_any (has_code l.column_at q) (take l.row_at l.rows);
}
