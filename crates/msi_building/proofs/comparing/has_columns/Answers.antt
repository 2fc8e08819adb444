use Rattle.std.proofs.Common.{◌∙◌, ap, map, sym}
use Rattle.std.specs.Prelude.{option_map, string_bytes}
use Rattle.msi.specs.Opened.{pool_in, tables_in}
use Rattle.msi_building.specs.Saying.{facts_of}
use Rattle.msi_columns.specs.Held.{columns_of}
use Rattle.msi_copies.proofs.Columns.{found_so}
use Rattle.msi_parts.specs.Judged.{heading_named}
use Rattle.msi_tables.specs.Held.{heading_of}
use Rattle.msi_building.proofs.comparing.has_columns.Goals as goal

pub returns-in-Some : goal.returns-in-Some
returns-in-Some g c P h same =
    let name = string_bytes c.args.said.now.name in
    let is = ap (heading_named (tables_in c.args.built.now)) (sym c.deref.ensures) ∙ sym c.get_table.ensures ∙ ap (option_map (λ t. heading_of t.now)) c.in-Some.is in
    let found = found_so (pool_in c.args.built.now).pool.long P.tables name (heading_of c.in-Some.table.now) (ap (λ hs. heading_named hs name) (sym h.memory.tables) ∙ is) in
    (found.0, found.1, ap (map facts_of) (found.2 ∙ sym c.columns.ensures) ∙ c.are_same_columns.ensures same ∙ ap (λ cs. map facts_of (columns_of cs)) c.deref-in-Some.ensures.value)
