-- Packages that got an empty _Validation, from what is accepted to what is stored.
use Rattle.std.proofs.Common.{◌≡◌, ◌∙◌, ℕ, List, [], Some, ap, refl, subst}
use Rattle.std.specs.Prelude.{is_none, unwrap_or}
use Rattle.cfb_tree.specs.Names.{CaseTable}
use Rattle.cfb_tree.specs.Tree.{Tree}
use Rattle.msi_spec.specs.Package.{at_name, objects, stream_name, table_stream, PackageContent}
use Rattle.msi_pool.specs.Pool.{Pool}
use Rattle.msi_stored.specs.Changing.{KeepsParts, StoresSoundPackage}
use Rattle.msi_tables.specs.Rows.{kinds_of, rows_of, Row}
use Rattle.msi_tables.specs.Schema.{validation_name}
use Rattle.msi_table_edits.specs.Validating.{listed_columns, with_validation, AreReadTwo, CanBeStoredTwo, ComeBackTwo, HasPutTwo, IsValidated}
use Rattle.msi_table_edits.proofs.NewTable.{counted_after, named_after, IsNewTable}
use Rattle.msi_table_edits.proofs.NoStream.{no_rows, no_table_stream}
use Rattle.msi_table_edits.proofs.ThreePuts.{leaves_all, past_two, stores_new, two_stay}
use Rattle.msi_table_edits.proofs.ValidatedFrom.{are_back, is_allowed, is_new, same_package, IsAllowed}

module _ (letters : CaseTable) (old after : Tree) (P : PackageContent) (sound : StoresSoundPackage letters old P) (pool : Pool) (c t : List Row) (is : IsValidated letters P pool c t) where
  pub met : IsAllowed (is_none (at_name letters P.storages (stream_name validation_name))) P (is.rows, pool)
  met = is_allowed (is_none (at_name letters P.storages (stream_name validation_name))) P (is.rows, pool) is.told

  pub as_new : IsNewTable letters P validation_name listed_columns pool c t []
  as_new = is_new letters old P sound (is.rows, pool) met c t (is.columns_stored, is.tables_stored)

  pub come_back_two : CanBeStoredTwo P is.rows → ComeBackTwo P c t
  come_back_two can = are_back letters old P sound (is.rows, pool) met c t (is.columns_stored, is.tables_stored) can

  module _ (bc bt : List ℕ) (put : HasPutTwo letters bc bt old after) where
    stands : rows_of P.pool.long (kinds_of as_new.own) (unwrap_or (table_stream letters (objects after.content) validation_name) []) ≡ Some []
    stands =
        ap (λ o. rows_of P.pool.long (kinds_of as_new.own) (unwrap_or o []))
        (past_two letters old after P sound.usable sound.stores sound.named validation_name listed_columns pool c t [] as_new bc bt after put validation_name refl refl refl
        ∙ no_table_stream letters old P sound.usable sound.stores sound.named validation_name as_new.free as_new.none)
        ∙ no_rows P.pool.long (kinds_of as_new.own)

    pub stored_after : AreReadTwo P bc bt c t → StoresSoundPackage letters after (with_validation P pool c t)
    stored_after read = subst (StoresSoundPackage letters after) (same_package P as_new.none pool c t) (record {
      usable = sound.usable;
      stores = stores_new letters old after P sound.usable sound.stores sound.named validation_name listed_columns pool c t [] as_new bc bt after put (leaves_all letters after) stands read;
      counted = counted_after letters old P sound.stores sound.named validation_name listed_columns pool c t [] as_new;
      free = as_new.kept.empty sound.free;
      named = named_after letters old P sound.stores sound.named validation_name listed_columns pool c t [] as_new;
    })

    pub parts_kept : KeepsParts letters old after
    parts_kept = two_stay letters old after P sound.usable sound.stores sound.named validation_name listed_columns pool c t [] as_new bc bt after put
