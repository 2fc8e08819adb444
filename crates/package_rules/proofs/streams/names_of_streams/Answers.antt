use Rattle.std.proofs.Common.{◌≡◌, ◌∙◌, true, cond, ap, ap₂, sym, string_bytes}
use Rattle.std.specs.Prelude.{bytes_eq}
use Rattle.std.specs.List.{list_any}
use Rattle.std.proofs.lemmas.Map.Text.{btree_set_updates_text}
use Rattle.package_rules.proofs.StreamNames.{any_mapped, any_more, take_whole}
use Rattle.package_rules.proofs.streams.names_of_streams.Goals as goal

pub loop-stream-preserved : goal.loop-stream-preserved
loop-stream-preserved c = λ q.
    let key = c.in_ok-from_str.field-0 in
    let said : string_bytes key ≡ string_bytes c.stream-item.result = c.in_ok-from_str.ensures.ok ∙ c.deref.ensures in
    btree_set_updates_text (string_bytes key) c.loop-stream.names c.insert.new.self true c.in_ok-insert.ensures.updates q
    ∙ ap₂ (λ t b. cond (bytes_eq t q) true b) said (c.loop-stream.invariant q)
    ∙ sym (any_more (λ s. bytes_eq (string_bytes s) q) c.streams-streams.result.now c.loop-stream.stream-index c.stream-item.result c.loop-stream-test.true c.stream-item.is)

pub returns : goal.returns
returns c = λ q.
    c.loop-stream.invariant q
    ∙ ap (list_any (λ s. bytes_eq (string_bytes s) q)) (take_whole c.streams-streams.result.now c.loop-stream.stream-index c.loop-stream-test.false)
    ∙ sym (any_mapped string_bytes (λ s. bytes_eq s q) c.streams-streams.result.now)
    ∙ ap (list_any (λ s. bytes_eq s q)) c.streams-streams.ensures
