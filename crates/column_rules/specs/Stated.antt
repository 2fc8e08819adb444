-- What a row of `_Validation` states of the values of its column. Its columns: Table, Column, Nullable, MinValue, MaxValue, KeyTable, KeyColumn, Category, Set, Description.
use Rattle.std.specs.Prelude.{ℕ, ℤ, Bool, false, ◌||◌, List, Option, Some, None, is_some, codes, bytes_eq, option_and_then, if◌then◌else◌}
use Rattle.msi_listing.specs.Content.{CellContent}
use Rattle.msi_texts.specs.declared.category.Category.{Category}
use Rattle.msi_texts.specs.declared.category.Category.TheVariants as category
use Rattle.package_rules.specs.Cells.{cell_at}
use Rattle.package_rules.specs.Said.{is_free, number_in, words_in}

-- tables, whose keys the values are
abbrev pub names_tables : List CellContent → Bool
names_tables v = is_some (words_in (cell_at 5 v))

-- a list of values, with `;` between them
abbrev pub set_in : List CellContent → Option (List ℕ)
set_in v = words_in (cell_at 8 v)

abbrev pub names_set : List CellContent → Bool
names_set v = is_some (set_in v)

-- the least and the greatest value
abbrev pub low_in : List CellContent → Option ℤ
low_in v = number_in (cell_at 3 v)

abbrev pub high_in : List CellContent → Option ℤ
high_in v = number_in (cell_at 4 v)

abbrev pub sets_bounds : List CellContent → Bool
sets_bounds v = is_some (low_in v) || is_some (high_in v)

-- a category that lets other values stand for themselves
abbrev pub leaves_free : List CellContent → Bool
leaves_free v = is_free (words_in (cell_at 7 v))

-- Categories by which texts are judged. Others have grammars of their own, or are broken by packages that work, as Cabinet is.
abbrev pub category_named : List ℕ → Option Category
category_named name =
    if bytes_eq name (codes "Identifier") then Some category.Identifier
    else if bytes_eq name (codes "UpperCase") then Some category.UpperCase
    else if bytes_eq name (codes "LowerCase") then Some category.LowerCase
    else if bytes_eq name (codes "Property") then Some category.Property
    else if bytes_eq name (codes "Version") then Some category.Version
    else if bytes_eq name (codes "Language") then Some category.Language
    else if bytes_eq name (codes "Guid") || bytes_eq name (codes "GUID") then Some category.Guid
    else None

abbrev pub judged_in : List CellContent → Option Category
judged_in v = option_and_then category_named (words_in (cell_at 7 v))
