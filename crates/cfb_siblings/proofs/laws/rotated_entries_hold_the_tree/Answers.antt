use Rattle.cfb_siblings.specs.Reading.{ReadBy}
use Rattle.cfb_siblings.proofs.Raising.{turns}
use Rattle.cfb_siblings.proofs.Unused.{read_by_place}
use Rattle.cfb_siblings.proofs.laws.rotated_entries_hold_the_tree.Goals as goal

pub returns : goal.returns
returns c reads letters directory tree path parent link upper it h s reached rotation =
    turns letters (ReadBy reads) (read_by_place reads) directory tree path parent h s link upper reached it rotation
