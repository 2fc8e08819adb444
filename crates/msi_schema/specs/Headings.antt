-- The tables that the system tables tell of, and what is found on the way to them.
use Rattle.std.specs.Prelude.{◌≡◌, ◌||◌, ◌↔◌, ℕ, Bool, true, false, List, map, length, filter, Option, Some, None, Vec, is_some, ◌∷◌, bytes_eq, if◌then◌else◌, All, Contains, IfSome, IsTrue}
use Rattle.std.specs.List.{list_any}
use Rattle.std.specs.List.Sorted.{IsStrictlySortedBy}
use Rattle.std.specs.Ordering.{nat_cmp}
use Rattle.std.specs.Cmp.Lexicographic.{slice_cmp}
use Rattle.std.specs.BTreeMap.{get_by}
use Rattle.std.specs.Borrow.{Bor}
use Rattle.std.specs.Rc.{rc_value}
use Rattle.std.specs.declared.alloc.Global.{Global}
use Rattle.std.specs.declared.collections.BTreeMap.{BTreeMap}
use Rattle.std.specs.declared.rc.Rc.{Rc}
use Rattle.msi_values.specs.Datum.{Datum, text}
use Rattle.msi_columns.specs.Column.{Column}
use Rattle.msi_columns.specs.Held.{columns_of}
use Rattle.msi_columns.specs.declared.column.Column.{Column as HeldColumn}
use Rattle.msi_tables.specs.Table.{Heading}
use Rattle.msi_tables.specs.Held.{heading_of}
use Rattle.msi_tables.specs.declared.table.Table.{Table as HeldTable}
use Rattle.msi_tables.specs.Schema.{begins_with, columns_in, columns_name, tables_name}

-- a name of a table: one of the two with fixed columns, or one that a row of _Tables begins with
abbrev pub is_named : List (List Datum) → List ℕ → Bool
is_named tables name = bytes_eq name tables_name || bytes_eq name columns_name || list_any (begins_with name) tables

-- Tables without their rows, as the rows of _Tables, _Columns and _Validation tell them: each name once, by rising bytes, and its columns.
pub record AreTold (tables columns validation : List (List Datum)) (long : Bool) (headings : List Heading) : Type 0 where
  pub rising : IsStrictlySortedBy (slice_cmp nat_cmp) (map (λ h. h.name) headings)
  pub names : (name : List ℕ) → IsTrue (is_named tables name) ↔ Contains (map (λ h. h.name) headings) name
  pub known : All (λ h. columns_in columns validation h.name ≡ Some h.columns) headings
  pub wide : All (λ h. h.long ≡ long) headings

-- tables in memory
abbrev pub headings_in : List (Rc HeldTable Global) → List Heading
headings_in ts = map (λ t. heading_of (rc_value t)) ts

-- ---- on the way to them

-- the row begins with a text
abbrev pub has_name : List Datum → Bool
has_name (text name ∷ ds) = true
has_name _ = false

-- what is kept under a text
abbrev pub at_text : {X : Type 0} → BTreeMap (Bor (List ℕ)) X Global → List ℕ → Option X
at_text kept name = get_by (λ key. slice_cmp nat_cmp name key.now) kept

-- for each name of _Tables, how many rows of _Columns begin with it
abbrev pub ColumnsAreCounted : List (List Datum) → List (List Datum) → BTreeMap (Bor (List ℕ)) ℕ Global → Type 0
ColumnsAreCounted tables columns counts =
    (name : List ℕ) → at_text counts name ≡ (if list_any (begins_with name) tables then Some (length (filter (begins_with name) columns)) else None)

-- columns under the names of tables
abbrev pub Described : Type 0
Described = BTreeMap (Bor (List ℕ)) (Vec HeldColumn Global) Global

-- for each name that is asked for, the columns of its table
pub record AreColumnsOfTables (asked : List ℕ → Bool) (columns : List ℕ → Option (List Column)) (found : Described) : Type 0 where
  pub there : (name : List ℕ) → is_some (at_text found name) ≡ asked name
  pub told : (name : List ℕ) → IfSome (at_text found name) (λ cs. columns name ≡ Some (columns_of cs.items))
