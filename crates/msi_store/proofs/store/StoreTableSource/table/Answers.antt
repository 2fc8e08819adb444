use Rattle.std.proofs.Common.{◌∙◌, ap}
use Rattle.msi_parts.specs.Judged.{heading_named}
use Rattle.msi_tables.specs.Held.{heading_of}
use Rattle.msi_store.specs.Stores.{stored_in}
use Rattle.std.specs.Rc.{rc_value}
use Rattle.std.specs.Prelude.{map}
use Rattle.msi_store.proofs.Found.{columned, named}
use Rattle.msi_store.proofs.store.StoreTableSource.table.Goals as goal

pub returns-clause-names : goal.returns-clause-names
returns-clause-names g c tables has =
    named (stored_in c.args.self.now) tables has c.args.name.now (λ t. heading_of t.now) c.table_named.result
    (c.table_named.ensures ∙ ap (λ ts. heading_named (map (λ t. heading_of (rc_value t)) ts) c.args.name.now) c.deref.ensures.value)

pub returns-clause-columns : goal.returns-clause-columns
returns-clause-columns g c tables has =
    columned (stored_in c.args.self.now) tables has c.args.name.now (λ t. heading_of t.now) c.table_named.result
    (c.table_named.ensures ∙ ap (λ ts. heading_named (map (λ t. heading_of (rc_value t)) ts) c.args.name.now) c.deref.ensures.value)
