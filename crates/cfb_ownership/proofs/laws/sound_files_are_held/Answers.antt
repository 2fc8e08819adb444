use Rattle.cfb_ownership.proofs.laws.sound_files_are_held.Goals as goal
use Rattle.cfb_ownership.proofs.HeldIs.{held_is}
use Rattle.cfb_ownership.proofs.UsesOwned.{owners_of, used}

pub returns : goal.returns
returns c = λ letters bytes l tree h orderly. (owners_of l (used bytes l letters tree h), held_is bytes l letters tree h orderly)
