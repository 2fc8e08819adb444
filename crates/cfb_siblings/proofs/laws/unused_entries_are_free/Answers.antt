use Rattle.std.specs.Prelude.{slice_set}
use Rattle.cfb_siblings.specs.Reading.{ReadBy}
use Rattle.cfb_siblings.proofs.Frames.{set_changes_only}
use Rattle.cfb_siblings.proofs.Unused.{unused_apart, tree_apart}
use Rattle.cfb_siblings.proofs.laws.unused_entries_are_free.Goals as goal

pub returns-clause-apart : goal.returns-clause-apart
returns-clause-apart c reads letters directory tree id h unused = unused_apart letters (ReadBy reads) directory tree h id unused

pub returns-clause-stays : goal.returns-clause-stays
returns-clause-stays c reads letters directory tree id e h apart =
    tree_apart letters (ReadBy reads) directory tree h (slice_set directory id e) id (set_changes_only directory id e) apart
