use Rattle.std.proofs.Common.{◌≡◌, ◌∙◌, List, Option, SFits, Some, None, ap, sym, subst, rules}
use Rattle.std.specs.Prelude.{option_map}
use Rattle.std.specs.Borrow.{Bor}
use Rattle.std.specs.Int.{w32, cast_unsigned, cast_signed}
use Rattle.std.proofs.lemmas.Int.{to_z-of_z}
use Rattle.cfb_medium.specs.declared.error.Error.TheVariants.{InvalidData}
use Rattle.msi_texts.specs.Results.{ReturnsOrOutOfMemory, or_refused}
use Rattle.msi_values.specs.Borrowed.{borrowed_data}
use Rattle.msi_values.specs.declared.borrowed.BorrowedValue.{BorrowedValue}
use Rattle.msi_columns.specs.Column.{Column, with_bits}
use Rattle.msi_columns.specs.Held.{built, column_of}
use Rattle.msi_columns.specs.declared.column.ColumnType.TheVariants as kind
use Rattle.msi_schema.specs.Columns.{column_by}
use Rattle.msi_schema.proofs.Rows.{bits_answer, headed, undescribed}
use Rattle.msi_schema.proofs.column.column_from_rows.Goals as goal

abbrev Lent : Type 0
Lent = Bor (List BorrowedValue)

pub returns-in_ok-builder-in-Some-validation : goal.returns-in_ok-builder-in-Some-validation
returns-in_ok-builder-in-Some-validation c =
    let row = borrowed_data c.args.row.now in
    let n = cast_unsigned w32 c.in-Some.bits in
    let fits : SFits w32 c.in-Some.bits = search rules in
    let again : cast_unsigned w32 (cast_signed w32 n) ≡ n = ap (cast_unsigned w32) (to_z-of_z w32 c.in-Some.bits fits) in
    let there : Option Lent = c.args.validation in
    let said : column_by (option_map (λ (r : Lent). borrowed_data r.now) there) row ≡ with_bits n (built c.in_ok-builder-in-Some-validation.builder kind.Int16) =
    ap (λ (v : Option Lent). column_by (option_map (λ r. borrowed_data r.now) v) row) c.in-Some-validation.is
    ∙ headed row (Some (borrowed_data c.in-Some-validation.validation.now)) c.in-Some.name.now c.in-Some.bits c.in-Some.ensures
    ∙ c.in_ok-builder-in-Some-validation.ensures.ok kind.Int16 n in
    subst (λ (o : Option Column). ReturnsOrOutOfMemory column_of c.with_bitfield.result (or_refused o InvalidData)) (sym (said ∙ ap (λ m. with_bits m (built c.in_ok-builder-in-Some-validation.builder kind.Int16)) (sym again)))
    (bits_answer c.with_bitfield.result (with_bits (cast_unsigned w32 (cast_signed w32 n)) (built c.in_ok-builder-in-Some-validation.builder kind.Int16)) (c.with_bitfield.ensures kind.Int16))

pub returns-in_ok-builder-in-None : goal.returns-in_ok-builder-in-None
returns-in_ok-builder-in-None c =
    let row = borrowed_data c.args.row.now in
    let n = cast_unsigned w32 c.in-Some.bits in
    let fits : SFits w32 c.in-Some.bits = search rules in
    let again : cast_unsigned w32 (cast_signed w32 n) ≡ n = ap (cast_unsigned w32) (to_z-of_z w32 c.in-Some.bits fits) in
    let there : Option Lent = c.args.validation in
    let said : column_by (option_map (λ (r : Lent). borrowed_data r.now) there) row ≡ with_bits n (built c.in_ok-builder-in-None.builder kind.Int16) =
    ap (λ (v : Option Lent). column_by (option_map (λ r. borrowed_data r.now) v) row) c.in-None.is
    ∙ headed row None c.in-Some.name.now c.in-Some.bits c.in-Some.ensures
    ∙ undescribed c.in-Some.name.now n kind.Int16 (built c.in_ok-builder-in-None.builder kind.Int16) (c.in_ok-builder-in-None.ensures.ok kind.Int16) in
    subst (λ (o : Option Column). ReturnsOrOutOfMemory column_of c.with_bitfield-in-None.result (or_refused o InvalidData)) (sym (said ∙ ap (λ m. with_bits m (built c.in_ok-builder-in-None.builder kind.Int16)) (sym again)))
    (bits_answer c.with_bitfield-in-None.result (with_bits (cast_unsigned w32 (cast_signed w32 n)) (built c.in_ok-builder-in-None.builder kind.Int16)) (c.with_bitfield-in-None.ensures kind.Int16))
