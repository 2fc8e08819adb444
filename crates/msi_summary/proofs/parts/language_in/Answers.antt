use Rattle.msi_texts.proofs.Parsed.{number_parsed}
use Rattle.msi_summary.proofs.parts.language_in.Goals as goal

pub returns-in-Ok : goal.returns-in-Ok
returns-in-Ok c = let read = number_parsed 16 c.args.text.now c.parse.result c.parse.ensures.value.0 in cc

pub returns-in-Err : goal.returns-in-Err
returns-in-Err c = let read = number_parsed 16 c.args.text.now c.parse.result c.parse.ensures.value.0 in cc
