use Rattle.msi_texts.proofs.SpelledNames.{room_joined, room_apart}
use Rattle.msi_texts.proofs.encodedname.put_next.Goals as goal

pub put-requires : goal.put-requires
put-requires c = room_joined _ _ _ _ _ _ _ c.requires.0 c.in-Some.is c.pair_char.ensures c.in-Some-pair_char.is c.requires.1

pub put-requires-in-None : goal.put-requires-in-None
put-requires-in-None c = room_apart _ _ _ _ _ _ _ c.requires.0 c.in-Some.is c.pair_char.ensures c.in-None.is c.lone_char.ensures c.requires.1
