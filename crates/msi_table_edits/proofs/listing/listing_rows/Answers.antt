use Rattle.std.proofs.Common.{◌∙◌, ap, sym}
use Rattle.std.specs.List.{list_all}
use Rattle.std.proofs.lemmas.List.Folds.{list_all-map}
use Rattle.msi_columns.specs.Column.{length_kept}
use Rattle.msi_columns.specs.Held.{column_of}
use Rattle.msi_table_edits.proofs.listing.listing_rows.Goals as goal

pub columns_rows-requires-clause-kept : goal.columns_rows-requires-clause-kept
columns_rows-requires-clause-kept c = sym (list_all-map (λ c. length_kept c.kind) column_of c.args.columns.now) ∙ ap (list_all (λ c. length_kept c.kind)) c.requires
