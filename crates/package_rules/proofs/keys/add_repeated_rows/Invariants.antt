use Rattle.std.proofs.Common.{◌≡◌, ◌++◌, map, take}
use Rattle.std.specs.Cmp.Lexicographic.{slice_cmp}
use Rattle.package_rules.specs.Keys.{has_key, key_cells, same_key}
use Rattle.package_rules.specs.Parts.{said}
use Rattle.package_rules.specs.Places.{numbered, place_if}
use Rattle.package_rules.specs.contracts.parts.PartOrd.TheImpl.{ghosts}
use Rattle.package_rules.proofs.Kept.{AreKept}
use Rattle.package_rules.proofs.Left.{left}
use Rattle.package_rules.proofs.keys.add_repeated_rows.Given as goal

-- what was found so far, with what is left, is all, and the keys so far are in the set
abbrev pub invariant-loop-row_at : goal.invariant-loop-row_at
invariant-loop-row_at l = record {
  told : l.found.items ++ left (λ j row. place_if (has_key (map (key_cells l.columns) (take j l.rows)) (key_cells l.columns row)) l.table_at l.column_at j) l.row_at l.rows
      ≡ l.fn.found.items ++ numbered (λ j row. place_if (has_key (map (key_cells l.columns) (take j l.rows)) (key_cells l.columns row)) l.table_at l.column_at j) l.rows;
  kept : AreKept (λ x y. slice_cmp ghosts.cmp x.items y.items) (λ q k. same_key k (map said q.items)) (map (key_cells l.columns) (take l.row_at l.rows)) l.seen;
}
