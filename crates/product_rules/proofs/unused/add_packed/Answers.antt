use Rattle.std.proofs.Common.{◌≡◌, ◌∙◌, Bool, true, false, cond, ap, ap₂, sym, rules, string_bytes, List, ℕ, Option}
use Rattle.std.specs.Prelude.{◌&&◌, ◌||◌, bytes_eq}
use Rattle.std.specs.BTreeSet.{contains_text}
use Rattle.std.specs.Option.{option_map_or}
use Rattle.std.proofs.lemmas.Map.Text.{btree_set_updates_text}
use Rattle.product_rules.proofs.Noted.{cond_or}
use Rattle.product_rules.proofs.unused.add_packed.Goals as goal

pub returns : goal.returns
returns c = λ q.
    let key = c.in_ok-from_str.field-0 in
    let there = contains_text c.args.names.now q in
    let yes : c.is_media.result ≡ true = search rules in
    btree_set_updates_text (string_bytes key) c.args.names.now c.insert.new.self true c.in_ok-insert.ensures.updates q
    ∙ ap (λ t. cond (bytes_eq t q) true there) c.in_ok-from_str.ensures.ok
    ∙ cond_or there (bytes_eq c.in-Some.name.now q)
    ∙ ap₂ (λ (m : Bool) (o : Option (List ℕ)). there || (m && option_map_or (λ name. bytes_eq name q) o false)) (sym (sym c.is_media.ensures ∙ yes)) c.in-Some.ensures
