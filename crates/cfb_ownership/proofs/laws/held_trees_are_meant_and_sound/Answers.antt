use Rattle.cfb_ownership.proofs.laws.held_trees_are_meant_and_sound.Goals as goal
use Rattle.cfb_ownership.specs.LiveInvariant.{layout_of}
use Rattle.cfb_ownership.proofs.MeansIs.{means_is}
use Rattle.cfb_ownership.proofs.SoundIs.{sound_is}

pub returns : goal.returns
returns c = record {
  means = λ s who letters tree h. (layout_of s who h.root h.ids, means_is s who letters tree h);
  sound = λ s who letters tree h. (layout_of s who h.root h.ids, tree, sound_is s who letters tree h);
}
