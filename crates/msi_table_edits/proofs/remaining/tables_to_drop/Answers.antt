use Rattle.std.proofs.Common.{◌∙◌, ap, ap₂, inl, inr, refl, sym}
use Rattle.std.specs.Prelude.{◌&&◌, not, option_map}
use Rattle.msi_tables.specs.Held.{heading_of}
use Rattle.msi_tables.specs.Table.{is_valid_table_name}
use Rattle.msi_table_edits.proofs.remaining.tables_to_drop.Goals as goal

pub returns-then-is_system : goal.returns-then-is_system
returns-then-is_system c = inl (refl, ap (λ b. not b && is_valid_table_name c.args.name.now) (sym c.is_system.ensures ∙ c.if-is_system.true))

pub returns-then-not-is_valid_name : goal.returns-then-not-is_valid_name
returns-then-not-is_valid_name c = inl (refl, ap₂ (λ a b. not a && b) (sym c.is_system.ensures ∙ c.if-is_system.false) (sym c.is_valid_name.ensures ∙ c.if-not-is_valid_name.true))

pub returns-in-None : goal.returns-in-None
returns-in-None c =
    inr (
      refl,
      ap₂ (λ a b. not a && b) (sym c.is_system.ensures ∙ c.if-is_system.false) (sym c.is_valid_name.ensures ∙ c.if-not-is_valid_name.false),
      inl (sym c.table_named.ensures ∙ ap (option_map (λ t. heading_of t.now)) c.in-None.is),
    )

pub returns-in-None-table_named : goal.returns-in-None-table_named
returns-in-None-table_named c =
    inr (
      refl,
      ap₂ (λ a b. not a && b) (sym c.is_system.ensures ∙ c.if-is_system.false) (sym c.is_valid_name.ensures ∙ c.if-not-is_valid_name.false),
      inr (sym c.table_named-2.ensures ∙ ap (option_map (λ t. heading_of t.now)) c.in-None-table_named.is),
    )

pub returns-in-Some-table_named : goal.returns-in-Some-table_named
returns-in-Some-table_named c = record {
  allowed = ap₂ (λ a b. not a && b) (sym c.is_system.ensures ∙ c.if-is_system.false) (sym c.is_valid_name.ensures ∙ c.if-not-is_valid_name.false);
  own_is = sym c.table_named.ensures ∙ ap (option_map (λ t. heading_of t.now)) c.in-Some.is;
  validation_is = sym c.table_named-2.ensures ∙ ap (option_map (λ t. heading_of t.now)) c.in-Some-table_named.is;
}
