use Rattle.std.proofs.Common.{◌∙◌, ap, map, sym}
use Rattle.std.specs.Prelude.{option_map}
use Rattle.msi.specs.Opened.{pool_in, tables_in}
use Rattle.msi_building.specs.Saying.{facts_of}
use Rattle.msi_copies.proofs.Columns.{found_so}
use Rattle.msi_parts.specs.Judged.{heading_named}
use Rattle.msi_tables.specs.Held.{heading_of}
use Rattle.msi_building.proofs.agreeing.have_same_columns.Goals as goal

pub returns : goal.returns
returns c P Q h k same =
    let name = c.args.name.now in
    let is = sym c.get_table.ensures ∙ ap (option_map (λ t. heading_of t.now)) c.in-Some.is in
    let there = sym c.get_table-2.ensures ∙ ap (option_map (λ t. heading_of t.now)) c.in-Some-get_table.is in
    let one = found_so (pool_in c.args.one.now).pool.long P.tables name (heading_of c.in-Some.table.now) (ap (λ hs. heading_named hs name) (sym h.memory.tables) ∙ is) in
    let other = found_so (pool_in c.args.other.now).pool.long Q.tables name (heading_of c.in-Some-get_table.found.now) (ap (λ hs. heading_named hs name) (sym k.memory.tables) ∙ there) in
    (one.0, other.0, one.1, other.1, ap (map facts_of) (other.2 ∙ sym c.columns.ensures) ∙ c.are_same_columns.ensures same ∙ sym (ap (map facts_of) (one.2 ∙ sym c.columns-2.ensures)))
