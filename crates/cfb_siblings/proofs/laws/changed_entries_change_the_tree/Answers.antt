use Rattle.cfb_siblings.specs.Reading.{ReadBy}
use Rattle.cfb_siblings.proofs.Lists.{all_map}
use Rattle.cfb_siblings.proofs.Colors.{black_kept, colored_kept}
use Rattle.cfb_siblings.proofs.Editing.{edited}
use Rattle.std.specs.Prelude.{slice_set}
use Rattle.cfb_siblings.proofs.laws.changed_entries_change_the_tree.Goals as goal
use Rattle.cfb_tree.specs.Entries.{IsColored}

pub returns-clause-tree : goal.returns-clause-tree
returns-clause-tree c reads reads' letters directory tree path id e f change object h leads at found same is keep =
    edited letters (ReadBy reads) (ReadBy reads') directory tree f h path id change object e leads at found same is keep

pub returns-clause-colors : goal.returns-clause-colors
returns-clause-colors c directory ids id e f found links same right = (
  black_kept directory id e f found same 0 right.0,
  all_map (IsColored directory) (IsColored (slice_set directory id f)) ids (λ k is. colored_kept directory id e f found same links.left links.right k is) right.1,
)
