use Rattle.std.proofs.Common.{◌≡◌, ◌∙◌, ◌++◌, ◌∷◌, [], false, rules, subst, sym}
use Rattle.msi_listing.specs.Content.{CellContent}
use Rattle.msi_listing.specs.HeldCell.{cell_of}
use Rattle.package_rules.specs.Firsts.{AreEntries}
use Rattle.package_rules.specs.declared.entries.CellKey.{CellKey}
use Rattle.package_rules.proofs.EntriesPut.{pass_entry, put_entry}
use Rattle.package_rules.proofs.entries.add_cell.Goals as goal

pub returns-then-not-is_asked : goal.returns-then-not-is_asked
returns-then-not-is_asked c = λ es are.
    let no : c.is_asked.result ≡ false = search rules in
    pass_entry c.args.asked.now es c.args.set.now (record { table = c.args.table.now; column = c.args.column; cell = cell_of c.args.cell.now }) are (sym c.is_asked.ensures ∙ no)

pub returns : goal.returns
returns c = λ es are.
    let key : CellKey = record { cell = c.part_of-cell.result; column = c.args.column; table = c.args.table } in
    subst (λ (d : CellContent). AreEntries c.args.asked.now (es ++ record { table = c.args.table.now; column = c.args.column; cell = d } ∷ []) c.insert.new.self) c.part_of-cell.ensures
    (put_entry c.args.asked.now es c.args.set.now c.insert.new.self key are c.in_ok-insert.ensures.updates.0)
