use Rattle.std.proofs.Common.{◌<◌, not, sym, ap, ◌∙◌, length, arith}
use Rattle.std.specs.Prelude.{◌&&◌, nat_le}
use Rattle.std.specs.Str.{chars}
use Rattle.std.proofs.lemmas.Bool.Decides.{nat_tests}
use Rattle.msi_texts.specs.StreamName.{is_valid_name, unit_count, spelled}
use Rattle.msi_texts.proofs.ValidNames.{empty_invalid, table_valid, stream_valid}
use Rattle.msi_texts.proofs.streamname.is_valid.Goals as goal

pub returns-then-is_empty : goal.returns-then-is_empty
returns-then-is_empty c = sym (empty_invalid c.args.is_table c.args.name.now (grind (arith, nat_tests, c.if-is_empty.ensures)))

pub returns-then-is_table : goal.returns-then-is_table
returns-then-is_table c =
    let some : 0 < length c.args.name.now = grind (arith, nat_tests, c.if-is_empty.ensures) in
    c.is_spelled_within.ensures ∙ sym (table_valid c.args.name.now c.utf8.name some) ∙ ap (λ b. is_valid_name b (chars c.args.name.now)) (sym c.if-is_table.true)

pub returns-then-not-is_marked : goal.returns-then-not-is_marked
returns-then-not-is_marked c =
    let some : 0 < length c.args.name.now = grind (arith, nat_tests, c.if-is_empty.ensures) in
    c.is_spelled_within-then-not-is_marked.ensures
    ∙ ap (λ b. not b && nat_le (unit_count (spelled (chars c.args.name.now))) 31) c.if-not-is_marked.ensures
    ∙ sym (stream_valid c.args.name.now c.utf8.name some) ∙ ap (λ b. is_valid_name b (chars c.args.name.now)) (sym c.if-is_table.false)
