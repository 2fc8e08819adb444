-- What the commands of a session ask for.
use Rattle.std.specs.Prelude.{ℕ, Bool, true, false, not, ◌&&◌, List, Option}
use Rattle.msi_values.specs.Datum.{Datum}
use Rattle.msi_texts.specs.declared.codepage.CodePage.{CodePage}
use Rattle.msi_columns.specs.Column.{Column}
use Rattle.msi_expr.specs.Formula.{Formula}
use Rattle.msi_query.specs.Query.{Query}
use Rattle.msi_summary.specs.Summary.{Edit}

-- names and texts as their bytes, streams as bytes
pub data Request : Type 0 where
  create_table : List ℕ → List Column → Request
  drop_table : List ℕ → Request
  insert : List ℕ → List (List Datum) → Request
  update : List ℕ → List (List ℕ × Datum) → Option Formula → Request
  delete : List ℕ → Option Formula → Request
  select : Query → Request
  tables : Request
  columns : List ℕ → Request
  streams : Request
  read_stream : List ℕ → Request
  write_stream : List ℕ → List ℕ → Request
  remove_stream : List ℕ → Request
  has_signature : Request
  remove_signature : Request
  summary : Request
  set_summary : Edit → Request
  codepage : Request
  set_codepage : CodePage → Request
  flush : Request
  commit : Request
  roll_back : Request

-- ---- kinds of requests, which every request is one of

-- those that read
abbrev pub is_reading : Request → Bool
is_reading (select asked) = true
is_reading tables = true
is_reading (columns name) = true
is_reading streams = true
is_reading (read_stream name) = true
is_reading has_signature = true
is_reading summary = true
is_reading codepage = true
is_reading _ = false

-- those that write or publish what was changed before
abbrev pub is_writing : Request → Bool
is_writing flush = true
is_writing commit = true
is_writing _ = false

-- the one that publishes
abbrev pub is_commit : Request → Bool
is_commit commit = true
is_commit _ = false

-- the one that takes back what was changed
abbrev pub is_roll_back : Request → Bool
is_roll_back roll_back = true
is_roll_back _ = false

-- those that change
abbrev pub is_changing : Request → Bool
is_changing request = not (is_reading request) && (not (is_writing request) && not (is_roll_back request))

-- the one that takes no memory and no device
abbrev pub is_codepage : Request → Bool
is_codepage codepage = true
is_codepage _ = false
