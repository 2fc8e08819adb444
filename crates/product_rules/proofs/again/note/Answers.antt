use Rattle.std.proofs.Common.{◌∙◌, true, cond, ap, sym, string_bytes, List, ℕ, Option, false}
use Rattle.std.specs.Prelude.{◌||◌, bytes_eq}
use Rattle.std.specs.BTreeSet.{contains_text}
use Rattle.std.specs.Option.{option_map_or}
use Rattle.std.proofs.lemmas.Map.Text.{btree_set_updates_text}
use Rattle.product_rules.proofs.Noted.{cond_or}
use Rattle.product_rules.proofs.again.note.Goals as goal

pub returns-clause-noted : goal.returns-clause-noted
returns-clause-noted c = λ q.
    let key = c.in_ok-from_str.field-0 in
    let there = contains_text c.args.seen.now q in
    btree_set_updates_text (string_bytes key) c.args.seen.now c.insert.new.self true c.in_ok-insert.ensures.updates q
    ∙ ap (λ t. cond (bytes_eq t q) true there) c.in_ok-from_str.ensures.ok
    ∙ cond_or there (bytes_eq c.in-Some.code.now q)
    ∙ ap (λ (o : Option (List ℕ)). there || option_map_or (λ t. bytes_eq t q) o false) c.in-Some.ensures
