use Rattle.cfb_tree.proofs.laws.written_entries_are_read.Goals as goal
use Rattle.cfb_tree.proofs.EntryRead.{length-entry_bytes, entry_again}

pub returns : goal.returns
returns c version e fits = (length-entry_bytes version e fits, entry_again version e fits)
