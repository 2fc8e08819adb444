use Rattle.std.proofs.Common.{Some}
use Rattle.std.proofs.lemmas.Map.Text.{btree_map_updates_str}
use Rattle.msi_tables.specs.Schema.{columns_name, tables_name}
use Rattle.msi_schema.proofs.FoundMore.{with_both}
use Rattle.msi_schema.proofs.found.with_fixed.Goals as goal

pub returns-clause-ok : goal.returns-clause-ok
returns-clause-ok c = λ tables rows others are.
    let more = c.insert.new.self in
    let all = c.insert-2.new.self in
    let first = c.in_ok-columns_columns.field-0 in
    let second = c.in_ok-tables_columns.field-0 in
    with_both tables rows others c.args.found all more first second are
    (btree_map_updates_str columns_name c.args.found more (Some first) c.in_ok-insert.ensures.updates) c.in_ok-columns_columns.ensures.ok
    (btree_map_updates_str tables_name more all (Some second) c.in_ok-insert-2.ensures.updates) c.in_ok-tables_columns.ensures.ok
