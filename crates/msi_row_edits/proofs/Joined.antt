-- Rows with cells of new ones behind them.
use Rattle.std.proofs.Common.{◌≡◌, ◌∙◌, ◌++◌, List, ap, Vec}
use Rattle.std.specs.declared.alloc.Global.{Global}
use Rattle.std.proofs.lemmas.List.{map-append}
use Rattle.msi_pool.specs.declared.stringref.ValueRef.{ValueRef}
use Rattle.msi_tables.specs.Held.{rows_held}

pub joined_held : (rows cells joined : List (Vec ValueRef Global)) → joined ≡ rows ++ cells → rows_held joined ≡ rows_held rows ++ rows_held cells
joined_held rows cells joined is = ap rows_held is ∙ map-append (λ row. row.items) rows cells
