use Rattle.std.proofs.Common.{◌∙◌, List, ℕ, Bor, true, cond, ap₂, sym}
use Rattle.msi_listing.specs.HeldCell.{cell_of}
use Rattle.package_rules.specs.Firsts.{is_in}
use Rattle.package_rules.proofs.StreamNames.{any_at, any_one_more}
use Rattle.package_rules.proofs.foreign.is_in_any.Goals as goal

pub returns-then-is_in : goal.returns-then-is_in
returns-then-is_in c =
    sym (any_at (λ (table : Bor (List ℕ)). is_in c.args.entries.now table.now c.args.column (cell_of c.args.cell.now)) c.args.tables.now c.loop-table.table-index _ c.loop-table-test.true
    (sym c.is_in.ensures ∙ c.if-is_in.true))

pub loop-table-preserved : goal.loop-table-preserved
loop-table-preserved c =
    any_one_more (λ (table : Bor (List ℕ)). is_in c.args.entries.now table.now c.args.column (cell_of c.args.cell.now)) c.args.tables.now c.loop-table.table-index _ c.loop-table-test.true
    ∙ ap₂ (λ b r. cond b true r) (sym c.is_in.ensures ∙ c.if-is_in.false) c.loop-table.invariant
