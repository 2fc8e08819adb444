use Rattle.std.proofs.Common.{◌≡◌, ◌∙◌, sym, ap, map, Some}
use Rattle.msi_columns.specs.Column.{one_of}
use Rattle.msi_columns.specs.Held.{built}
use Rattle.command_file.proofs.BuiltColumns.{made}
use Rattle.command_file.proofs.columns.column_from.Goals as goal

pub returns : goal.returns
returns c =
    let kind = c.in_ok-kind.kind in
    let choices = map (λ t. t.now) c.in_ok-choices.choices.items in
    let last : built c.in_ok-builder-2.builder kind ≡ one_of choices (built c.with_category.result kind) = (rw c.deref.ensures.value at c.in_ok-builder-2.ensures.ok kind) in
    let whole =
    made c.in_ok-name.name.now kind c.in_ok-is_key.is_key c.in_ok-is_nullable.is_nullable c.in_ok-is_localizable.is_localizable c.in_ok-range.range c.in_ok-foreign.foreign
    c.in_ok-category.category choices _ _ _ _ _ _ _ _ (c.in_ok-build.ensures.ok kind) (c.with_key-builder.ensures kind) (c.with_null.ensures kind) (c.with_localizable-builder.ensures kind)
    (c.with_range.ensures kind) (c.in_ok-builder.ensures.ok kind) (c.with_category.ensures kind) last in
    rw (
      c.in_ok-name.ensures,
      c.in_ok-kind.ensures,
      c.in_ok-is_key.ensures,
      c.in_ok-is_nullable.ensures,
      c.in_ok-is_localizable.ensures,
      c.in_ok-range.ensures,
      c.in_ok-foreign.ensures,
      c.in_ok-category.ensures,
      c.in_ok-choices.ensures,
    ) (ap Some (sym (c.with_type.ensures ∙ whole)))
