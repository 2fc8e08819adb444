-- The lemma that `note` names.
pub use Rattle.msi_columns.proofs.Choices.{list_any_map}
