use Rattle.std.proofs.Common.{rules, subst}
use Rattle.std.specs.Prelude.{Some, string_bytes}
use Rattle.std.specs.Ordering.{nat_cmp}
use Rattle.std.specs.String.{string_cmp}
use Rattle.std.specs.Cmp.Lexicographic.{slice_cmp}
use Rattle.std.specs.BTreeMap.{UpdatesBy}
use Rattle.msi_pool_index.proofs.Rooms.{over_held, texts_kept}
use Rattle.msi_pool_index.proofs.draftparts.hold_text.Goals as goal

pub returns-clause-same : goal.returns-clause-same
returns-clause-same c =
    let put = subst (λ x. UpdatesBy string_cmp (λ key. slice_cmp nat_cmp x (string_bytes key)) c.args.room.now c.insert.new.self (Some c.in_ok-places.places)) c.in_ok-from_str.ensures.ok c.in_ok-insert.ensures.updates in
    over_held c.args.base.now.places c.args.room.now c.insert.new.self c.args.text.now c.in_ok-places.places put (search rules) c.in_ok-places.ensures.ok

pub returns-clause-kept : goal.returns-clause-kept
returns-clause-kept c =
    let put = subst (λ x. UpdatesBy string_cmp (λ key. slice_cmp nat_cmp x (string_bytes key)) c.args.room.now c.insert.new.self (Some c.in_ok-places.places)) c.in_ok-from_str.ensures.ok c.in_ok-insert.ensures.updates in
    texts_kept c.args.room.now c.insert.new.self c.args.text.now c.in_ok-places.places put
