use Rattle.std.proofs.Common.{◌∙◌, sym, ap, length, nat_eq}
use Rattle.std.specs.Prelude.{string_bytes}
use Rattle.msi_columns.specs.Held.{column_of}
use Rattle.msi_columns.proofs.Choices.{listed_among}
use Rattle.msi_columns.proofs.column.Column.is_listed.Goals as goal

pub returns-else-is_empty : goal.returns-else-is_empty
unfolding column_of
returns-else-is_empty c =
    let count = sym (ap length c.deref.ensures.value) ∙ c.deref.ensures.len in
    c.is_among.ensures ∙ rw c.deref.ensures.value (sym (listed_among string_bytes c.args.self.now.enum_values.items c.args.text.now (ap (λ n. nat_eq n 0) count ∙ sym c.is_empty.ensures ∙ c.if-is_empty.false)))
