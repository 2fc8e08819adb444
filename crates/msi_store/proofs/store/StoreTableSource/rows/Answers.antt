use Rattle.std.proofs.Common.{◌∙◌, ap, sym, option_map}
use Rattle.std.specs.Prelude.{map}
use Rattle.std.specs.Rc.{rc_value}
use Rattle.msi_parts.specs.Judged.{heading_named}
use Rattle.msi_tables.specs.Held.{heading_of, rows_held}
use Rattle.msi_store.specs.Stores.{stored_in}
use Rattle.msi_store.proofs.Found.{no_rows, own_cause, rows_all}
use Rattle.msi_store.proofs.store.StoreTableSource.rows.Goals as goal

pub returns-in-Some-clause-rows : goal.returns-in-Some-clause-rows
returns-in-Some-clause-rows g c =
    rows_all (stored_in c.args.self.now) c.args.name.now (heading_of c.in-Some.table.now) c.rows_of_table.result
    (sym (c.table_named.ensures ∙ ap (λ ts. heading_named (map (λ t. heading_of (rc_value t)) ts) c.args.name.now) c.deref.ensures.value) ∙ ap (option_map (λ t. heading_of t.now)) c.in-Some.is)
    c.rows_of_table.ensures.answer

pub returns-in-Some-clause-cause : goal.returns-in-Some-clause-cause
returns-in-Some-clause-cause g c =
    own_cause (stored_in c.args.self.now) (c.rows_of_table.new.file, (stored_in c.args.self.now).1) c.args.name.now (heading_of c.in-Some.table.now) c.rows_of_table.result
    (sym (c.table_named.ensures ∙ ap (λ ts. heading_named (map (λ t. heading_of (rc_value t)) ts) c.args.name.now) c.deref.ensures.value) ∙ ap (option_map (λ t. heading_of t.now)) c.in-Some.is)
    c.rows_of_table.ensures.answer c.rows_of_table.ensures.cause c.rows_of_table.ensures.errors

pub returns-in-None-clause-rows : goal.returns-in-None-clause-rows
returns-in-None-clause-rows g c tables has =
    no_rows (stored_in c.args.self.now) tables has c.args.name.now (rows_held c.new.result.items)
    (sym (c.table_named.ensures ∙ ap (λ ts. heading_named (map (λ t. heading_of (rc_value t)) ts) c.args.name.now) c.deref.ensures.value) ∙ ap (option_map (λ t. heading_of t.now)) c.in-None.is)
