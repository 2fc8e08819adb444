use Rattle.std.proofs.Common.{◌∙◌, ap, sym}
use Rattle.msi_listing.specs.Content.{TableContent}
use Rattle.msi_listing.proofs.AlikeLists.{differs, not_so, is_so, same_tables, told_alike}
use Rattle.msi_listing.proofs.table.Table.is_same.Goals as goal

pub returns-then-not-are_alike : goal.returns-then-not-are_alike
returns-then-not-are_alike c =
    let told = told_alike _ _ _ _ c.are_alike.result c.are_alike.ensures c.columns.ensures c.columns-2.ensures in
    differs (λ e. not_so c.are_alike.result c.if-not-are_alike.true told (ap (λ (t : TableContent). t.columns) e))

pub returns : goal.returns
returns c =
    let columns = told_alike _ _ _ _ c.are_alike.result c.are_alike.ensures c.columns.ensures c.columns-2.ensures in
    let rows = told_alike _ _ _ _ c.are_alike-2.result c.are_alike-2.ensures c.rows.ensures c.rows-2.ensures in
    same_tables c.args.self.now c.args.other.now (sym c.name.ensures ∙ is_so c.is_same_text.result c.if-not-is_same_text.false c.is_same_text.ensures ∙ c.name-2.ensures) (is_so c.are_alike.result c.if-not-are_alike.false columns) c.are_alike-2.result rows
