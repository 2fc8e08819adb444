use Rattle.std.proofs.Common.{subst, sym}
use Rattle.std.proofs.lemmas.List.{map-set}
use Rattle.cfb_tree.specs.EntryViews.{entry_in}
use Rattle.cfb_directory.specs.Entries.{entries_in, ListsUnusedEntries}
use Rattle.cfb_directory.proofs.Inserted.{there}
use Rattle.cfb_directory.proofs.Noted.{noted_set}
use Rattle.cfb_directory.proofs.directory.Entries.set.Goals as goal

pub invariant_of-self-clause-noted : goal.invariant_of-self-clause-noted
invariant_of-self-clause-noted c =
    let it = c.args.self.now in
    subst (ListsUnusedEntries it.unused.items) (sym (map-set entry_in it.items.items c.args.id c.args.entry))
    (noted_set it.unused.items (entries_in it.items.items) c.args.id (entry_in c.args.entry) (there it.items.items c.args.id c.requires.there) c.requires.noted it.noted)

pub returns-clause-after : goal.returns-clause-after
returns-clause-after c = map-set entry_in c.args.self.now.items.items c.args.id c.args.entry
