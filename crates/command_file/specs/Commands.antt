-- What a command file says.
use Rattle.std.specs.Prelude.{ℕ, ◌^◌, List, [], ◌∷◌, Bool, true, false, Option, Some, None, option_and_then, option_map, codes, bytes_eq, if◌then◌else◌}
use Rattle.std.specs.Option.{option_map_or}
use Rattle.uuid.specs.Text.{parsed, braced_text, upper}
use Rattle.serde_json.specs.Data.{Data}
use Rattle.serde_json.specs.Find.{get, as_str, as_array, as_object}
use Rattle.msi_texts.specs.Page.{page_with_id}
use Rattle.msi_texts.specs.Category.{category_named}
use Rattle.msi_texts.specs.declared.codepage.CodePage.{CodePage}
use Rattle.msi_columns.specs.Column.{Column}
use Rattle.msi_columns.specs.declared.column.ColumnType.{ColumnType}
use Rattle.msi_columns.specs.declared.column.ColumnType.TheVariants as kind
use Rattle.msi_summary.specs.Summary.{Edit, set_text, set_number, set_time, set_arch, set_languages, set_keywords, set_page}
use Rattle.command_file.specs.Request.{Request}
use Rattle.command_file.specs.Request as command
use Rattle.json_parts.specs.Values.{only_keys, named, at_key, at_key_or, unless_null, all_in, list_in, pair_in, int_in, whole_in, truth_in, hex_bytes, value_in, rows_in, text_at}
use Rattle.command_file.specs.Expressions.{condition_in, select_in}

-- ---- columns

-- a type by its name; a text has a length
abbrev pub kind_in : Data → Option ColumnType
kind_in d = option_and_then (λ kind_of. kind_of) (option_and_then (λ name. named name
    ((codes "int16", Some kind.Int16) ∷ (codes "int32", Some kind.Int32) ∷ (codes "binary", Some kind.Binary) ∷ (codes "string", option_map kind.Str (at_key (codes "len") (whole_in (2 ^ 64)) d)) ∷ []))
    (text_at (codes "type") d))

-- the keys that a column may have
abbrev pub column_keys : List (List ℕ)
column_keys = codes "name" ∷ codes "type" ∷ codes "key" ∷ codes "nullable" ∷ codes "localizable" ∷ codes "range" ∷ codes "category" ∷ codes "enum" ∷ codes "foreign" ∷ []

-- its type is that of a text
abbrev pub is_text_column : Data → Bool
is_text_column d = option_map_or (λ name. bytes_eq name (codes "string")) (text_at (codes "type") d) false

-- and where it is a text
abbrev pub keys_of_column : Bool → List (List ℕ)
keys_of_column true = codes "len" ∷ column_keys
keys_of_column false = column_keys

-- the word true, or nothing
abbrev pub flag_in : List ℕ → Data → Option Bool
flag_in k d = at_key_or false (get k d) truth_in

-- what a key says, if it is there
abbrev pub perhaps_in : {X : Type 0} → List ℕ → (Data → Option X) → Data → Option (Option X)
perhaps_in k read d = at_key_or None (get k d) (λ e. option_map Some (read e))

-- a column, without a look at other keys
abbrev pub column_from : Data → Option Column
column_from d =
    option_and_then (λ name. option_and_then (λ kind. option_and_then (λ key. option_and_then (λ null. option_and_then (λ local.
    option_and_then (λ range. option_and_then (λ foreign. option_and_then (λ category. option_map (λ choices.
    record { name = name; kind = kind; localizable = local; nullable = null; key = key; range = range; foreign = foreign; category = category; choices = choices })
    (at_key_or [] (get (codes "enum") d) (list_in as_str)))
    (perhaps_in (codes "category") (λ e. option_and_then category_named (as_str e)) d))
    (perhaps_in (codes "foreign") (pair_in as_str int_in) d))
    (perhaps_in (codes "range") (pair_in int_in int_in) d))
    (flag_in (codes "localizable") d)) (flag_in (codes "nullable") d)) (flag_in (codes "key") d)) (kind_in d)) (text_at (codes "name") d)

-- a column
abbrev pub column_in : Data → Option Column
column_in d = if only_keys (keys_of_column (is_text_column d)) d then column_from d else None

-- ---- the summary

-- a page by its number
abbrev pub page_in : Data → Option CodePage
page_in d = option_and_then page_with_id (int_in d)

-- an identifier, as it is kept: in braces, hyphenated, in upper case
abbrev pub uuid_in : Data → Option (List ℕ)
uuid_in d = option_map (braced_text upper) (option_and_then parsed (as_str d))

-- a change of the field of a number, or null that clears it
abbrev pub edit_by : {X : Type 0} → (Option X → Edit) → (Data → Option X) → Data → Option Edit
edit_by edit read d = option_map edit (unless_null read d)

-- each field and how its value is read
abbrev pub fields : List (List ℕ × (Data → Option Edit))
fields = (codes "title", edit_by (set_text 2) as_str) ∷ (codes "subject", edit_by (set_text 3) as_str) ∷ (codes "author", edit_by (set_text 4) as_str)
    ∷ (codes "keywords", edit_by set_keywords (list_in as_str)) ∷ (codes "comments", edit_by (set_text 6) as_str) ∷ (codes "arch", edit_by set_arch as_str)
    ∷ (codes "languages", edit_by set_languages (list_in (whole_in (2 ^ 16)))) ∷ (codes "last_saved_by", edit_by (set_text 8) as_str) ∷ (codes "uuid", edit_by (set_text 9) uuid_in)
    ∷ (codes "last_printed", edit_by (set_time 11) (whole_in (2 ^ 64))) ∷ (codes "creation_time", edit_by (set_time 12) (whole_in (2 ^ 64)))
    ∷ (codes "last_saved_time", edit_by (set_time 13) (whole_in (2 ^ 64))) ∷ (codes "page_count", edit_by (set_number 14) int_in) ∷ (codes "word_count", edit_by (set_number 15) int_in)
    ∷ (codes "character_count", edit_by (set_number 16) int_in) ∷ (codes "creating_application", edit_by (set_text 18) as_str)
    ∷ (codes "doc_security", edit_by (set_number 19) int_in) ∷ (codes "codepage", λ d. option_map set_page (page_in d)) ∷ []

-- a change of the summary
unfoldable pub edit_in : Data → Option Edit
edit_in d =
    option_and_then (λ name. option_and_then (λ value. option_and_then (λ read. read value) (named name fields)) (get (codes "value") d)) (text_at (codes "field") d)

-- ---- commands

-- where the object has no other keys than these and op
abbrev pub with_keys : List (List ℕ) → (Data → Option Request) → Data → Option Request
with_keys ks read d = if only_keys (codes "op" ∷ ks) d then read d else None

-- a command with the text of one key
abbrev pub of_text : List ℕ → (List ℕ → Request) → Data → Option Request
of_text k ask = with_keys (k ∷ []) (λ d. option_map ask (text_at k d))

-- a command without keys
abbrev pub alone : Request → Data → Option Request
alone request = with_keys [] (λ d. Some request)

-- a table and rows for it
abbrev pub insert_in : Data → Option Request
insert_in d = option_and_then (λ name. option_map (command.insert name) (option_and_then rows_in (get (codes "rows") d))) (text_at (codes "table") d)

-- a table, what is set, and a condition
abbrev pub update_in : Data → Option Request
update_in d = option_and_then (λ name. option_and_then (λ sets. option_map (command.update name sets) (condition_in d)) (at_key (codes "set") (list_in (pair_in as_str value_in)) d)) (text_at (codes "table") d)

-- a table and a condition
abbrev pub delete_in : Data → Option Request
delete_in d = option_and_then (λ name. option_map (command.delete name) (condition_in d)) (text_at (codes "table") d)

-- a name and bytes
abbrev pub write_in : Data → Option Request
write_in d = option_and_then (λ name. option_map (command.write_stream name) (option_and_then hex_bytes (text_at (codes "hex") d))) (text_at (codes "name") d)

-- a table and its columns
abbrev pub create_in : Data → Option Request
create_in d = option_and_then (λ name. option_map (command.create_table name) (at_key (codes "columns") (list_in column_in) d)) (text_at (codes "table") d)

-- each op and how its object is read
abbrev pub ops : List (List ℕ × (Data → Option Request))
ops = (codes "create_table", with_keys (codes "table" ∷ codes "columns" ∷ []) create_in) ∷ (codes "drop_table", of_text (codes "table") command.drop_table)
    ∷ (codes "columns", of_text (codes "table") command.columns) ∷ (codes "insert", with_keys (codes "table" ∷ codes "rows" ∷ []) insert_in)
    ∷ (codes "update", with_keys (codes "table" ∷ codes "set" ∷ codes "where" ∷ []) update_in) ∷ (codes "delete", with_keys (codes "table" ∷ codes "where" ∷ []) delete_in)
    ∷ (codes "select", with_keys (codes "from" ∷ codes "columns" ∷ codes "where" ∷ []) (λ d. option_map command.select (option_and_then select_in (as_object d))))
    ∷ (codes "read_stream", of_text (codes "name") command.read_stream) ∷ (codes "remove_stream", of_text (codes "name") command.remove_stream)
    ∷ (codes "write_stream", with_keys (codes "name" ∷ codes "hex" ∷ []) write_in)
    ∷ (codes "set_summary", with_keys (codes "field" ∷ codes "value" ∷ []) (λ d. option_map command.set_summary (edit_in d)))
    ∷ (codes "set_codepage", with_keys (codes "id" ∷ []) (λ d. option_map command.set_codepage (at_key (codes "id") page_in d)))
    ∷ (codes "tables", alone command.tables) ∷ (codes "streams", alone command.streams) ∷ (codes "has_signature", alone command.has_signature)
    ∷ (codes "remove_signature", alone command.remove_signature) ∷ (codes "summary", alone command.summary) ∷ (codes "codepage", alone command.codepage)
    ∷ (codes "flush", alone command.flush) ∷ (codes "commit", alone command.commit)
    ∷ (codes "roll_back", alone command.roll_back) ∷ []

-- one command
unfoldable pub command_in : Data → Option Request
command_in d = option_and_then (λ op. option_and_then (λ read. read d) (named op ops)) (text_at (codes "op") d)

-- all commands of a file, in order
abbrev pub commands_in : Data → Option (List Request)
commands_in d = option_and_then (all_in command_in) (as_array d)
