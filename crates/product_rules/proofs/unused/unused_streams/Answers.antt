use Rattle.std.proofs.Common.{◌∙◌, ◌++◌, ℕ, Bool, not, [], List, ap, string_bytes}
use Rattle.std.specs.Prelude.{◌&&◌}
use Rattle.std.specs.BTreeSet.{contains_text}
use Rattle.std.specs.List.{list_any}
use Rattle.package_rules.specs.Places.{numbered}
use Rattle.package_rules.proofs.Left.{given_all, given_more}
use Rattle.product_rules.specs.Unused.{is_property_set, number_if, uses}
use Rattle.product_rules.proofs.Loose.{loose_at, numbered_mapped}
use Rattle.product_rules.proofs.unused.unused_streams.Goals as goal

pub loop-at-preserved : goal.loop-at-preserved
loop-at-preserved c =
    given_more (λ k s. loose_at (contains_text c.in_ok-used.used) k (string_bytes s)) c.streams-streams.result.now c.loop-at.at c.index-streams-at.result [] c.loop-at.found.items
    c.push_if.new.found.items (numbered (λ k s. loose_at (contains_text c.in_ok-used.used) k (string_bytes s)) c.streams-streams.result.now) c.loop-at-test.true c.index-streams-at.is c.loop-at.invariant
    (c.in_ok-push_if.ensures
    ∙ ap (λ b. c.loop-at.found.items ++ number_if b c.loop-at.at)
    (c.is_unused-is_loose.ensures ∙ ap (λ t. not (contains_text c.in_ok-used.used t) && not (is_property_set t)) c.deref.ensures))

pub returns : goal.returns
returns c =
    given_all (λ k s. loose_at (contains_text c.in_ok-used.used) k (string_bytes s)) c.streams-streams.result.now c.loop-at.at c.loop-at.found.items
    (numbered (λ k s. loose_at (contains_text c.in_ok-used.used) k (string_bytes s)) c.streams-streams.result.now) c.loop-at-test.false c.loop-at.invariant
    ∙ ap (λ (used : List ℕ → Bool). numbered (λ k s. loose_at used k (string_bytes s)) c.streams-streams.result.now) (λ i q. (c.in_ok-used.ensures q ∙ ap (list_any (uses q)) c.tables.ensures) i)
    ∙ numbered_mapped string_bytes (loose_at (λ s. list_any (uses s) c.args.listing.now.tables)) c.streams-streams.result.now
    ∙ ap (numbered (loose_at (λ s. list_any (uses s) c.args.listing.now.tables))) c.streams-streams.ensures
