-- A new package out of its parts and its file.
use Rattle.std.proofs.Common.{◌≡◌, ◌∙◌, ℕ, List, ap, false, map, refl, subst, sym, true}
use Rattle.cfb.specs.FollowedRules.{FileMeansTree}
use Rattle.cfb.specs.Views.{file_case_table}
use Rattle.cfb.specs.declared.compound_file.CompoundFile.{CompoundFile}
use Rattle.cfb_medium.specs.declared.medium.ReadMedium.{Ghosts}
use Rattle.msi_spec.specs.Opening.{keeps_encoded_names}
use Rattle.msi_spec.specs.Calls.{bare_package, Rows3}
use Rattle.msi_spec.specs.declared.kind.PackageType.{PackageType}
use Rattle.msi_spec.specs.declared.kind.PackageType.TheVariants.{Installer}
use Rattle.msi_parts.specs.Parts.{heading}
use Rattle.msi_pool.specs.Pool.{Pool}
use Rattle.msi_pool.specs.PoolState.{PoolState}
use Rattle.msi_props.specs.Props.{Props}
use Rattle.msi_stored.specs.Changing.{StoresSoundPackage}
use Rattle.msi_store.specs.Stores.{file_in, tables_in}
use Rattle.msi_store.specs.declared.store.Store.{Store}
use Rattle.msi_new_package.specs.New.{new_package, system_headings, AreNewBytes, IsNewPackage, LaysDown}
use Rattle.msi_new_package.proofs.Laid.{new_stored}
use Rattle.msi_new_package.proofs.Made.{made_is}

module _ {F : Type 0} {g : Ghosts F} (kind : PackageType) (old new : CompoundFile F g) (it : Store F g) (pool : PoolState) (summary : Props) where
  pub new_made : file_in it ≡ new → file_case_table new ≡ file_case_table old → keeps_encoded_names (file_case_table old) ≡ true → tables_in it ≡ system_headings → summary ≡ (bare_package kind).summary → pool.modified ≡ true
      → {bc bt bv : List ℕ} → AreNewBytes pool.pool bc bt bv → LaysDown kind bc bt bv old new → IsNewPackage kind it pool summary
  new_made is same usable tables tells unwritten {bc} {bt} {bv} n laid = record {
    next = new_package kind pool.pool n.columns n.tables n.validation;
    new = ((n.rows, pool.pool), n.told kind, (n.columns, n.tables, n.validation, n.columns_stored, n.tables_stored, n.validation_stored, refl));
    of_kind = refl;
    tree = laid.after;
    means = subst (λ f. FileMeansTree f laid.after) (sym is) laid.means;
    stores = subst (λ l. StoresSoundPackage l laid.after (new_package kind pool.pool n.columns n.tables n.validation)) (sym (ap file_case_table is ∙ same))
        (new_stored (file_case_table old) usable kind (n.rows, pool.pool) (n.told kind) n.columns n.tables n.validation n.columns_stored n.tables_stored n.validation_stored bc bt bv n.columns_written n.tables_written n.validation_written laid.after laid.laid);
    counts = refl;
    unwritten = unwritten;
    tells = tells;
    tables = tables ∙ wide;
  }
    where
      long : pool.pool.long ≡ false
      long = sym (ap (λ (x : Rows3 × Pool). x.1.long) (made_is Installer (n.rows, pool.pool) (n.told Installer)))

      wide : system_headings ≡ map (heading pool.pool.long) (new_package kind pool.pool n.columns n.tables n.validation).tables
      wide = ap (λ l. map (heading l) (new_package kind pool.pool n.columns n.tables n.validation).tables) (sym long)
