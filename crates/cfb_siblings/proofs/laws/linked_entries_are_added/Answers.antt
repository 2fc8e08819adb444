use Rattle.cfb_siblings.specs.Reading.{ReadBy}
use Rattle.cfb_siblings.proofs.Adding.{grows}
use Rattle.cfb_siblings.proofs.Unused.{read_by_place}
use Rattle.cfb_siblings.proofs.laws.linked_entries_are_added.Goals as goal

pub returns : goal.returns
returns c reads letters directory tree path parent link id e object h s free unused alone =
    grows letters (ReadBy reads) (read_by_place reads) directory tree path parent link id e object h s free unused alone
