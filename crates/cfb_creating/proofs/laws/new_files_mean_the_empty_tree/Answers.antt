use Rattle.cfb_creating.proofs.NewBytes.{length-new_file}
use Rattle.cfb_creating.proofs.NewMeaning.{new_means, new_sound, new_strict}
use Rattle.cfb_creating.proofs.laws.new_files_mean_the_empty_tree.Goals as goal

pub returns-clause-means : goal.returns-clause-means
returns-clause-means c = λ version letters behind. new_means version behind letters

pub returns-clause-sound : goal.returns-clause-sound
returns-clause-sound c = new_sound

pub returns-clause-strict : goal.returns-clause-strict
returns-clause-strict c = new_strict

pub returns-clause-length : goal.returns-clause-length
returns-clause-length c = length-new_file
