-- Worked cells and columns, computed from the definitions.
use Rattle.std.proofs.Common.{◌≡◌, true, false, [], ◌∷◌, refl, option_map, pos, negsuc}
use Rattle.std.specs.Prelude.{Some, None, codes}
use Rattle.msi_texts.specs.Numbers.{le_bytes}
use Rattle.msi_values.specs.Datum.{null, number}
use Rattle.msi_columns.specs.Cell.{cell_number}
use Rattle.msi_columns.specs.Column.{Column, plain, type_bits, is_valid, as_key, but_null}
use Rattle.msi_columns.specs.declared.column.ColumnType.TheVariants as kind
use Rattle.msi_pool.specs.declared.stringref.ValueRef.TheVariants as cell

-- cells
int32_written : option_map (le_bytes 4) (cell_number false kind.Int32 (cell.Int (negsuc 0))) ≡ Some (0xFF ∷ 0xFF ∷ 0xFF ∷ 0x7F ∷ [])
int32_written = refl

int16_written : option_map (le_bytes 2) (cell_number false kind.Int16 (cell.Int (pos 0x123))) ≡ Some (0x23 ∷ 0x81 ∷ [])
int16_written = refl

lowest_refused : cell_number false kind.Int16 (cell.Int (negsuc 32767)) ≡ None
lowest_refused = refl

-- columns
abbrev id_column : Column
id_column = as_key (plain (codes "Id") kind.Int16)

id_bits : type_bits id_column ≡ 0x2502
id_bits = refl

abbrev no_number : Column
no_number = but_null (plain (codes "Size") kind.Int16)

highest_taken : is_valid no_number (number (pos 32767)) ≡ true
highest_taken = refl

past_highest : is_valid no_number (number (pos 32768)) ≡ false
past_highest = refl

lowest_kept_for_null : is_valid no_number (number (negsuc 32767)) ≡ false
lowest_kept_for_null = refl

null_taken : is_valid no_number null ≡ true
null_taken = refl

abbrev long_number : Column
long_number = plain (codes "Length") kind.Int32

highest_of_32_bits_taken : is_valid long_number (number (pos 2147483647)) ≡ true
highest_of_32_bits_taken = refl

past_highest_of_32_bits : is_valid long_number (number (pos 2147483648)) ≡ false
past_highest_of_32_bits = refl

past_all_bits : is_valid long_number (number (pos 1099511627776)) ≡ false
past_all_bits = refl

lowest_of_32_bits_kept_for_null : is_valid long_number (number (negsuc 2147483647)) ≡ false
lowest_of_32_bits_kept_for_null = refl
