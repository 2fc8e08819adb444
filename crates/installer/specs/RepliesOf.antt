-- Answers as what they tell.
use Rattle.std.specs.Prelude.{map, string_bytes}
use Rattle.msi_values.specs.Datum.{data_of}
use Rattle.msi_columns.specs.Held.{columns_of}
use Rattle.msi_props.specs.Held.{pair_in}
use Rattle.installer.specs.Reply.{Reply}
use Rattle.installer.specs.Reply as told
use Rattle.installer.specs.declared.answer.Answer.{Answer}
use Rattle.installer.specs.declared.answer.Answer.TheVariants as answer

-- what an answer tells
abbrev pub reply_of : Answer → Reply
reply_of answer.Done = told.done
reply_of (answer.Names ns) = told.names (map string_bytes ns.items)
reply_of (answer.Rows ns rs) = told.rows (map string_bytes ns.items) (map (λ row. data_of row.items) rs.items)
reply_of (answer.Columns cs) = told.columns (columns_of cs.items)
reply_of (answer.Bytes bs) = told.bytes bs.items
reply_of (answer.Yes b) = told.answers b
reply_of (answer.Summary ps) = told.summary (map pair_in ps.items)
reply_of (answer.Codepage p) = told.codepage p
reply_of (answer.Refused e) = told.refused e
