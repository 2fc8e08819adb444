use Rattle.cfb_ownership.specs.LiveInvariant.{layout_of}
use Rattle.cfb_ownership.proofs.MeansIs.{means_is}
use Rattle.cfb_ownership.proofs.SoundIs.{sound_is}
use Rattle.cfb_tree_edits.specs.Live.{live_of}
use Rattle.cfb_tree_edits.proofs.Resting.{means_stays}
use Rattle.cfb_tree_edits.proofs.laws.live_files_mean_their_trees.Goals as goal

pub returns-clause-means : goal.returns-clause-means
unfolding live_of
returns-clause-means g c letters it tree m = (layout_of (live_of it) m.who m.held.root m.held.ids, means_is (live_of it) m.who letters tree m.held)

pub returns-clause-sound : goal.returns-clause-sound
unfolding live_of
returns-clause-sound g c letters it tree m = (layout_of (live_of it) m.who m.held.root m.held.ids, tree, sound_is (live_of it) m.who letters tree m.held)

pub returns-clause-stays : goal.returns-clause-stays
returns-clause-stays g c letters old new tree keeps m = means_stays old new keeps letters tree m
