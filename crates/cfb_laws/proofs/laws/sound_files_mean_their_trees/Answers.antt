use Rattle.cfb_ownership.specs.LiveInvariant.{layout_of}
use Rattle.cfb_ownership.proofs.MeansIs.{means_is}
use Rattle.cfb_ownership.proofs.SoundIs.{sound_is}
use Rattle.cfb_tree_edits.specs.Live.{live_of}
use Rattle.cfb.specs.Views.{file_case_table, mini_of}
use Rattle.cfb.proofs.LiveMeaning.{holds_meant, means_kept, means_read}
use Rattle.cfb_laws.proofs.laws.sound_files_mean_their_trees.Goals as goal

pub returns-clause-bytes : goal.returns-clause-bytes
unfolding live_of
returns-clause-bytes g c it tree m = (layout_of (live_of (mini_of it)) m.live.who m.live.held.root m.live.held.ids, means_is (live_of (mini_of it)) m.live.who (file_case_table it) tree m.live.held)

pub returns-clause-sound : goal.returns-clause-sound
unfolding live_of
returns-clause-sound g c it tree m = (layout_of (live_of (mini_of it)) m.live.who m.live.held.root m.live.held.ids, tree, sound_is (live_of (mini_of it)) m.live.who (file_case_table it) tree m.live.held)

pub returns-clause-held : goal.returns-clause-held
returns-clause-held g c it tree m = holds_meant it tree m

pub returns-clause-read : goal.returns-clause-read
returns-clause-read g c old new tree rests m = means_read old new tree rests m

pub returns-clause-kept : goal.returns-clause-kept
returns-clause-kept g c old new tree keeps m = means_kept old new tree keeps m
