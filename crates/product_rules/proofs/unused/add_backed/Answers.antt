use Rattle.std.proofs.Common.{◌≡◌, ◌∙◌, true, cond, ap, sym, rules, string_bytes}
use Rattle.std.specs.Prelude.{◌&&◌, ◌||◌, bytes_eq}
use Rattle.std.specs.BTreeSet.{contains_text}
use Rattle.std.specs.List.{list_any}
use Rattle.std.proofs.lemmas.Map.Text.{btree_set_updates_text}
use Rattle.package_rules.specs.Cells.{is_bytes}
use Rattle.package_rules.specs.Streams.{stream_name}
use Rattle.product_rules.proofs.Noted.{cond_or}
use Rattle.product_rules.proofs.unused.add_backed.Goals as goal

pub returns : goal.returns
returns c = λ q.
    let key = c.in_ok-name.name in
    let name = stream_name c.args.table.now c.args.row.now in
    let there = contains_text c.args.names.now q in
    let yes : c.has_bytes.result ≡ true = search rules in
    btree_set_updates_text (string_bytes key) c.args.names.now c.insert.new.self true c.in_ok-insert.ensures.updates q
    ∙ ap (λ t. cond (bytes_eq t q) true there) c.in_ok-name.ensures
    ∙ cond_or there (bytes_eq name q)
    ∙ ap (λ b. there || (b && bytes_eq name q)) (sym (sym c.has_bytes.ensures ∙ yes))
