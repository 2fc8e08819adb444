-- Commands in memory, as what they ask for.
use Rattle.std.specs.Prelude.{ℕ, List, map, Option, option_map, String, string_bytes}
use Rattle.std.specs.declared.alloc.Global.{Global}
use Rattle.uuid.specs.Text.{braced_text, upper}
use Rattle.cfb_medium.specs.Times.{units_of}
use Rattle.msi_columns.specs.Held.{columns_of}
use Rattle.msi_changes.specs.Said.{delete_condition, delete_name, insert_name, insert_rows, update_condition, update_name, update_sets}
use Rattle.msi_query.specs.Said.{query_of}
use Rattle.msi_summary.specs.Summary.{Edit, set_text, set_number, set_time, set_arch, set_languages, set_keywords, set_page}
use Rattle.command_file.specs.Request.{Request}
use Rattle.command_file.specs.Request as asked
use Rattle.command_file.specs.declared.command.Command.{Command}
use Rattle.command_file.specs.declared.command.Command.TheVariants as command
use Rattle.command_file.specs.declared.command.SummaryEdit.{SummaryEdit}
use Rattle.command_file.specs.declared.command.SummaryEdit.TheVariants as field

-- a text that may be absent
abbrev pub text_said : Option (String Global) → Option (List ℕ)
text_said t = option_map string_bytes t

-- what a change of the summary asks for
abbrev pub edit_said : SummaryEdit → Edit
edit_said (field.Title t) = set_text 2 (text_said t)
edit_said (field.Subject t) = set_text 3 (text_said t)
edit_said (field.Author t) = set_text 4 (text_said t)
edit_said (field.Keywords ts) = set_keywords (option_map (λ texts. map string_bytes texts.items) ts)
edit_said (field.Comments t) = set_text 6 (text_said t)
edit_said (field.Arch t) = set_arch (text_said t)
edit_said (field.Languages ids) = set_languages (option_map (λ languages. languages.items) ids)
edit_said (field.LastSavedBy t) = set_text 8 (text_said t)
edit_said (field.Uuid u) = set_text 9 (option_map (braced_text upper) u)
edit_said (field.LastPrinted t) = set_time 11 (option_map units_of t)
edit_said (field.CreationTime t) = set_time 12 (option_map units_of t)
edit_said (field.LastSavedTime t) = set_time 13 (option_map units_of t)
edit_said (field.PageCount n) = set_number 14 n
edit_said (field.WordCount n) = set_number 15 n
edit_said (field.CharacterCount n) = set_number 16 n
edit_said (field.CreatingApplication t) = set_text 18 (text_said t)
edit_said (field.DocSecurity n) = set_number 19 n
edit_said (field.Codepage p) = set_page p

-- what a command asks for
abbrev pub request_of : Command → Request
request_of (command.CreateTable name columns) = asked.create_table (string_bytes name) (columns_of columns.items)
request_of (command.DropTable name) = asked.drop_table (string_bytes name)
request_of (command.Insert insert) = asked.insert (insert_name insert) (insert_rows insert)
request_of (command.Update update) = asked.update (update_name update) (update_sets update) (update_condition update)
request_of (command.Delete delete) = asked.delete (delete_name delete) (delete_condition delete)
request_of (command.Select select) = asked.select (query_of select)
request_of command.Tables = asked.tables
request_of (command.Columns name) = asked.columns (string_bytes name)
request_of command.Streams = asked.streams
request_of (command.ReadStream name) = asked.read_stream (string_bytes name)
request_of (command.WriteStream name bytes) = asked.write_stream (string_bytes name) bytes.items
request_of (command.RemoveStream name) = asked.remove_stream (string_bytes name)
request_of command.HasSignature = asked.has_signature
request_of command.RemoveSignature = asked.remove_signature
request_of command.Summary = asked.summary
request_of (command.SetSummary change) = asked.set_summary (edit_said change)
request_of command.Codepage = asked.codepage
request_of (command.SetCodepage page) = asked.set_codepage page
request_of command.Flush = asked.flush
request_of command.Commit = asked.commit
request_of command.RollBack = asked.roll_back
