use Rattle.std.proofs.Common.{◌∙◌, refl}
use Rattle.std.specs.Str.{chars}
use Rattle.cfb_entries.proofs.entry.Entry.root.Goals as goal

pub returns-clause-listed : goal.returns-clause-listed
unfolding chars
returns-clause-listed c = c.storage.ensures ∙ rw (c.in_ok-name.ensures.ok, c.in_ok-path.ensures.ok) refl
