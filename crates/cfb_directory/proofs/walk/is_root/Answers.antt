use Rattle.std.specs.Str.{chars}
use Rattle.cfb_directory.proofs.walk.is_root.Goals as goal

pub returns-in_ok-is_named-in-Strict-clause-taken : goal.returns-in_ok-is_named-in-Strict-clause-taken
unfolding chars
returns-in_ok-is_named-in-Strict-clause-taken c =
    let strict = c.in-Strict.is in
    let taken = rw strict at (c.is_taken_as_root.ensures.0 c.if-not-is_taken_as_root.false) in
    let named = c.in_ok-is_named-in-Strict.ensures.named in
    rw strict (λ is. (taken, named.0 is), λ h. named.1 h.1)
