use Rattle.std.proofs.Common.{◌∙◌, ap, refl, rc_value}
use Rattle.std.specs.List.{position_or_len}
use Rattle.std.specs.declared.alloc.Global.{Global}
use Rattle.std.specs.declared.rc.Rc.{Rc}
use Rattle.msi_tables.specs.declared.table.Table.{Table as HeldTable}
use Rattle.std.specs.Ordering.{is_lt}
use Rattle.msi_spec.specs.Package.{table_name_cmp}
use Rattle.msi_tables.specs.Held.{heading_of}
use Rattle.msi_table_edits.proofs.Headings.{with_one}
use Rattle.msi_table_edits.proofs.placing.with_table.Goals as goal

pub returns-clause-ok : goal.returns-clause-ok
returns-clause-ok c =
    with_one (λ (t : Rc HeldTable Global). heading_of (rc_value t)) (heading_of (rc_value c.args.table)) c.args.table c.args.tables.now c.place_of-place.result
    (c.place_of-place.ensures ∙ ap (λ n. position_or_len (λ t. is_lt (table_name_cmp n (heading_of (rc_value t)).name)) c.args.tables.now) (c.name.ensures ∙ ap (λ t. (heading_of t).name) c.deref.ensures)) refl
    c.new-all.result.items c.add_tables.new.all.items c.push.new.self.items c.add_tables-2.new.all.items c.new-all.ensures.items c.in_ok-add_tables.ensures.ok c.in_ok-push.ensures.items c.in_ok-add_tables-2.ensures.ok
