use Rattle.std.proofs.Common.{◌∙◌, Option, List, ℕ, true, ap}
use Rattle.std.specs.Prelude.{◌==◌}
use Rattle.std.specs.List.{list_any, slice_split}
use Rattle.std.specs.Option.{option_map_or}
use Rattle.std.proofs.lemmas.Result.{IfOk-weaker}
use Rattle.msi_listing.specs.HeldCell.{cell_of}
use Rattle.package_rules.specs.Firsts.{is_in}
use Rattle.package_rules.specs.Said.{column_in}
use Rattle.package_rules.proofs.foreign.leads.Goals as goal

pub returns-in-Some : goal.returns-in-Some
returns-in-Some c =
    let d = cell_of c.args.cell.now in
    IfOk-weaker c.is_in_one.result _ _
    (λ r h. h ∙ ap (λ n. list_any (λ table. is_in c.args.entries.now table n d) (slice_split (λ b. b == 59) c.in-Some.tables.now)) c.column_of.ensures
    ∙ ap (λ (o : Option (List ℕ)). option_map_or (λ ts. list_any (λ table. is_in c.args.entries.now table (column_in c.args.row.now) d) (slice_split (λ b. b == 59) ts)) o true) c.in-Some.ensures)
    c.is_in_one.ensures
