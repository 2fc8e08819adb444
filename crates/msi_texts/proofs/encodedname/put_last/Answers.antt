use Rattle.msi_texts.proofs.SpelledNames.{room_last}
use Rattle.msi_texts.proofs.encodedname.put_last.Goals as goal

pub put-requires : goal.put-requires
put-requires c = room_last _ _ _ _ _ c.in-Some.is c.lone_char.ensures c.requires
