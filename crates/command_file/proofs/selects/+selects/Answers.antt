use Rattle.std.proofs.Common.{◌≡◌, ◌<◌, ◌∙◌, ap, sym, arith, refl, codes, inr, option_map}
use Rattle.serde_json.proofs.Views.{view-Object}
use Rattle.serde_json.specs.Data.{depth}
use Rattle.serde_json.specs.View.{view, members_view}
use Rattle.command_file.specs.Expressions.{side_of, source_in}
use Rattle.command_file.specs.Nested.{all_of, join_in, select_at}
use Rattle.command_file.proofs.Named.{get_depth}
use Rattle.command_file.proofs.Nested.{join_is, join_refused, side_is}
use Rattle.command_file.proofs.selects.+selects.Goals as goal

pub side_at-side_of-requires : goal.side_at-side_of-requires
side_at-side_of-requires t c =
    let deep : depth (view c.in_ok-found.found.now) < depth (view c.args.json.now) = get_depth c.args.key.now (view c.args.json.now) (view c.in_ok-found.found.now) c.in_ok-found.ensures in
    (omega (arith, deep), tt)

pub source_at-source_of-requires : goal.source_at-source_of-requires
source_at-source_of-requires t c =
    let deep : depth (view c.in_ok-found.found.now) < depth (view c.args.json.now) = get_depth (codes "from") (view c.args.json.now) (view c.in_ok-found.found.now) c.in_ok-found.ensures in
    (omega (arith, deep), tt)

pub side_of-returns-then-has_only : goal.side_of-returns-then-has_only
side_of-returns-then-has_only t c =
    let same : side_of (view c.args.json.now) ≡ select_at (view c.args.json.now) = side_is (view c.args.json.now) ∙ rw (sym c.has_only.ensures ∙ c.if-has_only.true) refl in
    rw same c.select_at.ensures

pub source_of-returns-then-are_among : goal.source_of-returns-then-are_among
source_of-returns-then-are_among t c =
    let same : source_in (view c.args.json.now) ≡ join_in (view c.args.json.now) =
    rw (ap view c.in-Object.is ∙ view-Object c.in-Object.members) (join_is (members_view c.in-Object.members.entries) (sym c.are_among.ensures ∙ c.if-are_among.true)) in
    rw same c.join_of.ensures

pub join_of-returns-in_default : goal.join_of-returns-in_default
join_of-returns-in_default t c =
    let refused = rw c.in_default.is at c.is_left_join.ensures in
    inr (refl, ap (option_map all_of) (join_refused (view c.args.json.now) refused))
