use Rattle.std.proofs.Common.{◌∙◌, ◌++◌, ℕ, Bool, List, ap, false, sym, take}
use Rattle.std.specs.Prelude.{◌||◌}
use Rattle.std.specs.List.{list_any}
use Rattle.std.specs.Option.{option_map_or}
use Rattle.package_rules.specs.Places.{place_if}
use Rattle.package_rules.proofs.Left.{given_more}
use Rattle.package_rules.proofs.StreamNames.{any_more}
use Rattle.product_rules.specs.Components.{again_in_rows, code_at, has_code}
use Rattle.product_rules.proofs.Noted.{or_cond}
use Rattle.product_rules.proofs.again.add_rows.Goals as goal

pub loop-row_at-preserved : goal.loop-row_at-preserved
loop-row_at-preserved c =
    let rows = c.args.rows.now in
    let k = c.args.column_at in
    let i = c.loop-row_at.row_at in
    let row = c.index-rows-row_at.result in
    record {
      told = given_more (λ j r. place_if (option_map_or (λ q. list_any (has_code k q) (take j rows)) (code_at k r) false) c.args.table_at k j) rows i row c.args.found.now.items c.loop-row_at.found.items
          c.push_if.new.found.items (again_in_rows c.args.table_at k rows) c.loop-row_at-test.true c.index-rows-row_at.is c.loop-row_at.invariant.told
          (c.in_ok-push_if.ensures
          ∙ ap (λ b. c.loop-row_at.found.items ++ place_if b c.args.table_at k i)
          (c.in_ok-is_seen.ensures.told ∙ ap (λ (has : List ℕ → Bool). option_map_or has (code_at k row) false) (λ e q. c.loop-row_at.invariant.kept q e)));
      kept = λ q.
          c.in_ok-is_seen.ensures.noted q
          ∙ ap (λ b. b || has_code k q row) (c.loop-row_at.invariant.kept q)
          ∙ or_cond (list_any (has_code k q) (take i rows)) (has_code k q row)
          ∙ sym (any_more (has_code k q) rows i row c.loop-row_at-test.true c.index-rows-row_at.is);
    }
