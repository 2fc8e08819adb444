use Rattle.std.proofs.Common.{◌∙◌, Some, cond, ap, sym, string_bytes}
use Rattle.std.specs.Prelude.{bytes_eq}
use Rattle.std.specs.BTreeMap.{get_by_text}
use Rattle.std.proofs.lemmas.Map.Text.{btree_map_updates_text}
use Rattle.package_rules.specs.Cells.{cell_at}
use Rattle.package_rules.specs.Said.{words_in}
use Rattle.package_rules.proofs.FirstsPut.{none_of}
use Rattle.product_rules.proofs.Climbed.{put_name}
use Rattle.product_rules.proofs.trees.add_name.Goals as goal

pub returns : goal.returns
returns c = λ q.
    let name = c.in-Some.name.now in
    let key = c.in_ok-from_str.field-0 in
    btree_map_updates_text (string_bytes key) c.args.names.now c.insert.new.self (Some c.args.row_at) c.in_ok-insert.ensures.updates q
    ∙ ap (λ t. cond (bytes_eq t q) (Some c.args.row_at) (get_by_text c.args.names.now q)) c.in_ok-from_str.ensures.ok
    ∙ put_name (get_by_text c.args.names.now) q c.args.row_at (words_in (cell_at 0 c.args.row.now)) name (sym c.in-Some.ensures)
    (none_of (get_by_text c.args.names.now name) (sym c.contains_key.ensures ∙ c.if-contains_key.false))
