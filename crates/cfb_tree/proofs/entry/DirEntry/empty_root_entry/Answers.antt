use Rattle.std.proofs.Common.{refl, ap, ◌∙◌}
use Rattle.std.specs.Prelude.{codes}
use Rattle.std.specs.Str.{chars}
use Rattle.cfb_tree.specs.Directory.{kind_root}
use Rattle.cfb_tree.specs.Entries.{new_entry}
use Rattle.cfb_tree.proofs.entry.DirEntry.empty_root_entry.Goals as goal

pub new-requires : goal.new-requires
unfolding chars
new-requires c = refl

pub returns : goal.returns
unfolding chars
returns c = c.new.ensures ∙ ap (new_entry (codes "Root Entry") kind_root) c.zero.ensures
