-- Packages with a new table, from what is accepted to what is stored.
use Rattle.std.proofs.Common.{◌≡◌, ◌∙◌, ℕ, false, List, [], Some, None, ap, not, refl, subst}
use Rattle.std.specs.Prelude.{bytes_eq, filter, is_none, option_map, unwrap_or, Option}
use Rattle.cfb_tree.specs.Names.{CaseTable}
use Rattle.cfb_tree.specs.Tree.{Tree}
use Rattle.msi_columns.specs.Column.{Column}
use Rattle.msi_spec.specs.Calls.{own_columns}
use Rattle.msi_spec.specs.Package.{at_name, is_stream, objects, stream_name, table_stream, PackageContent}
use Rattle.msi_pool.specs.Pool.{Pool}
use Rattle.msi_stored.specs.Changing.{KeepsParts, StoresSoundPackage}
use Rattle.msi_tables.specs.Rows.{kinds_of, rows_of, Row}
use Rattle.msi_tables.specs.Schema.{validation_name}
use Rattle.msi_tables.specs.Table.{Table}
use Rattle.msi_table_edits.specs.Created.{with_table, AreReadThree, CanBeStoredThree, ComeBackThree, HasPutThree, IsNewTableAccepted}
use Rattle.msi_table_edits.specs.Validating.{HasPutTwo}
use Rattle.msi_table_edits.proofs.Accepted.{are_met, AreMet}
use Rattle.msi_table_edits.proofs.CreatedFrom.{are_back, is_new, validation_there}
use Rattle.msi_table_edits.proofs.Holding.{holding, IsThere}
use Rattle.msi_table_edits.proofs.NewTable.{counted_after, is_apart, named_after, IsNewTable}
use Rattle.msi_table_edits.proofs.ThreePuts.{put_leaves, put_stands, stores_new, two_free, two_stay, LeavesOthers}

module _ (letters : CaseTable) (old after : Tree) (P : PackageContent) (sound : StoresSoundPackage letters old P) (name : List ℕ) (columns : List Column) (pool : Pool) (c t v : List Row)
    (is : IsNewTableAccepted letters P name columns pool c t v) where
  met : AreMet (is_none (at_name letters P.storages (stream_name name))) P name columns (is.rows, pool)
  met = are_met (is_none (at_name letters P.storages (stream_name name))) P name columns (is.rows, pool) is.told

  pub as_new : IsNewTable letters P name columns pool c t v
  as_new = is_new letters old P sound name columns (is.rows, pool) met c t v (is.columns_stored, is.tables_stored, is.validation_stored)

  differs : bytes_eq name validation_name ≡ false
  differs = is_apart P.tables name as_new.none (holding validation_name met.validation.columns met.validation.rows) (validation_there letters old P sound name columns (is.rows, pool) met)

  abbrev V : Table
  V = holding validation_name as_new.own as_new.old_v

  pub validation_is_there : IsThere P.tables V
  validation_is_there = as_new.limited.there differs

  pub come_back_three : CanBeStoredThree P is.rows → ComeBackThree P c t v
  come_back_three can = are_back letters old P sound name columns (is.rows, pool) met c t v (is.columns_stored, is.tables_stored, is.validation_stored) can

  module _ (bc bt bv : List ℕ) (put : HasPutThree letters bc bt bv old after) where
    two : HasPutTwo letters bc bt old put.second
    two = record { first = put.first; columns = put.columns; tables = put.tables }

    own_is : own_columns P ≡ as_new.own
    own_is = ap (λ (o : Option Table). unwrap_or (option_map (λ t. t.columns) o) []) validation_is_there.found

    none_there : at_name letters (filter (λ o. not (is_stream o)) (objects put.second.content)) (stream_name validation_name) ≡ None
    none_there = two_free letters old after P sound.usable sound.stores sound.named name columns pool c t v as_new bc bt put.second two

    last : LeavesOthers letters put.second after
    last = put_leaves letters P sound.usable sound.named V validation_is_there refl bv put.second after put.validation none_there

    stands : AreReadThree P bc bt bv c t v → rows_of P.pool.long (kinds_of as_new.own) (unwrap_or (table_stream letters (objects after.content) validation_name) []) ≡ Some v
    stands read =
        ap (λ o. rows_of P.pool.long (kinds_of as_new.own) (unwrap_or o [])) (put_stands letters P sound.usable sound.named V validation_is_there refl bv put.second after put.validation none_there)
        ∙ subst (λ cs. rows_of P.pool.long (kinds_of cs) bv ≡ Some v) own_is read.validation

    pub stored_after : AreReadThree P bc bt bv c t v → StoresSoundPackage letters after (with_table P name columns pool c t v)
    stored_after read = record {
      usable = sound.usable;
      stores = stores_new letters old after P sound.usable sound.stores sound.named name columns pool c t v as_new bc bt put.second two last (stands read) (record { columns = read.columns; tables = read.tables });
      counted = counted_after letters old P sound.stores sound.named name columns pool c t v as_new;
      free = as_new.kept.empty sound.free;
      named = named_after letters old P sound.stores sound.named name columns pool c t v as_new;
    }

    pub parts_kept : KeepsParts letters old after
    parts_kept =
        let first = two_stay letters old after P sound.usable sound.stores sound.named name columns pool c t v as_new bc bt put.second two in
        record { pool = last.parts.pool ∙ first.pool; pool_data = last.parts.pool_data ∙ first.pool_data; summary = last.parts.summary ∙ first.summary }
