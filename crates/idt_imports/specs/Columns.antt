-- Columns of files of exported tables.
use Rattle.std.specs.Prelude.{◌≡◌, ℕ, Bool, List, map, string_bytes}
use Rattle.std.specs.List.{list_any}
use Rattle.std.specs.Str.{bytes_eq}
use Rattle.idt_tables.specs.Headings.{Heading}
use Rattle.idt_imports.specs.declared.columns.IdtColumn.{IdtColumn}

-- the name is one of these
abbrev pub is_among : List (List ℕ) → List ℕ → Bool
is_among names name = list_any (λ n. bytes_eq n name) names

-- columns have the names and types of a heading, and its keys are marked among them
pub record HasColumns (columns : List IdtColumn) (h : Heading) : Type 0 where
  pub names : map (λ c. string_bytes c.name) columns ≡ h.names
  pub types : map (λ c. c.coltype) columns ≡ h.types
  pub keys : map (λ c. c.is_key) columns ≡ map (is_among h.keys) h.names
