use Rattle.std.proofs.Common.{subst, rules}
use Rattle.std.specs.Prelude.{Some, string_bytes}
use Rattle.std.specs.Ordering.{nat_cmp}
use Rattle.std.specs.String.{string_cmp}
use Rattle.std.specs.Cmp.Lexicographic.{slice_cmp}
use Rattle.std.specs.BTreeMap.{UpdatesBy}
use Rattle.msi_pool_index.proofs.Rooms.{texts_kept, text_made}
use Rattle.msi_pool_index.proofs.drafts.hold_one.Goals as goal

pub returns-clause-kept : goal.returns-clause-kept
returns-clause-kept c =
    texts_kept c.args.room.now c.insert.new.self c.args.text.now c.new.result (subst (λ x. UpdatesBy string_cmp (λ key. slice_cmp nat_cmp x (string_bytes key)) c.args.room.now c.insert.new.self (Some c.new.result)) c.in_ok-from_str.ensures.ok c.in_ok-insert.ensures.updates)

pub returns-clause-same : goal.returns-clause-same
returns-clause-same c =
    text_made c.args.room.now c.insert.new.self c.args.text.now c.new.result (search rules) c.new.ensures.empty (subst (λ x. UpdatesBy string_cmp (λ key. slice_cmp nat_cmp x (string_bytes key)) c.args.room.now c.insert.new.self (Some c.new.result)) c.in_ok-from_str.ensures.ok c.in_ok-insert.ensures.updates)
