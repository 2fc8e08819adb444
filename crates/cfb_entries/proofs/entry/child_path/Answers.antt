use Rattle.std.proofs.Common.{arith}
use Rattle.cfb_entries.proofs.Texts.{child_chars}
use Rattle.cfb_entries.proofs.entry.child_path.Goals as goal

pub returns-clause-path : goal.returns-clause-path
returns-clause-path c =
    child_chars c.args.prefix.now c.args.name.now _ _ _ _ c.utf8.prefix c.in_ok-path.ensures.ok c.in_ok-push.ensures.bytes (c.push.ensures.ascii (omega arith)) c.in_ok-push_str.ensures.bytes
