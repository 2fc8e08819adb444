-- What is read of files of exported tables.
use Rattle.std.specs.Prelude.{◌≡◌, ℕ, List, map, Some, string_bytes}
use Rattle.idt_rows.specs.Rows.{datum_of}
use Rattle.idt_tables.specs.Headings.{Heading}
use Rattle.idt_summaries.specs.Reading.{properties_of}
use Rattle.idt_tables.specs.Tables.{Table, table_by, table_of_lines}
use Rattle.idt_imports.specs.Columns.{HasColumns}
use Rattle.idt_imports.specs.declared.summaries.SummaryRows.{SummaryRows}
use Rattle.idt_imports.specs.declared.tables.IdtTable.{IdtTable}
use Rattle.idt_imports.specs.declared.tables.Imported.{Imported}
use Rattle.idt_imports.specs.declared.tables.Imported.TheVariants as said
use Rattle.msi_props.specs.Held.{pair_in}

-- a table in memory is a table: its name, its columns and its rows
pub record IsTable (held : IdtTable) (t : Table) : Type 0 where
  pub name : string_bytes held.name ≡ t.heading.table
  pub columns : HasColumns held.columns.items t.heading
  pub rows : map (λ row. map datum_of row.items) held.rows.items ≡ t.rows

-- properties in memory are those that a summary's table says
abbrev pub IsSummary : SummaryRows → Table → Type 0
IsSummary held t = properties_of t ≡ Some (map pair_in held.properties.items)

-- what was read is the table of a heading and of lines behind it
abbrev pub SaysRows : Imported → Heading → List (List ℕ) → Type 0
SaysRows (said.Table held) h lines = (t : Table) × (table_by (Some h) lines ≡ Some t) × IsTable held t
SaysRows (said.Summary held) h lines = (t : Table) × (table_by (Some h) lines ≡ Some t) × IsSummary held t
SaysRows (said.Page page) h lines = Unit {0}

-- WHAT WAS READ OF LINES IS THE TABLE THAT THEY SAY, OR THE SUMMARY'S PROPERTIES
abbrev pub SaysLines : Imported → List (List ℕ) → Type 0
SaysLines (said.Table held) lines = (t : Table) × (table_of_lines lines ≡ Some t) × IsTable held t
SaysLines (said.Summary held) lines = (t : Table) × (table_of_lines lines ≡ Some t) × IsSummary held t
SaysLines (said.Page page) lines = Unit {0}

-- it is a code page
abbrev pub IsPage : Imported → Type 0
IsPage (said.Page page) = Unit {0}
IsPage _ = ⊥
