use Rattle.cfb_siblings.specs.Reading.{ReadBy}
use Rattle.cfb_siblings.proofs.Unused.{tree_appended}
use Rattle.cfb_siblings.proofs.laws.appended_entries_are_free.Goals as goal

pub returns : goal.returns
returns c reads letters directory more tree h = tree_appended letters (ReadBy reads) directory more tree h
