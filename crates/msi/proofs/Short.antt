-- Pool and summary of a new package are short, and nothing stands in the way of their streams.
use Rattle.std.proofs.Common.{◌≡◌, ◌∙◌, ◌<◌, ◌≤◌, ℕ, Bool, true, false, List, [], length, ap, arith, refl, sym, subst, Some, None, ⊎_elim}
use Rattle.std.specs.Prelude.{nat_le, not, filter}
use Rattle.std.specs.Str.{chars, is_utf8}
use Rattle.std.specs.Str.Lossy.{utf8_valid_len}
use lib.Utf8.{encode}
use Rattle.std.proofs.lemmas.Bool.Decides.{nat_tests}
use Rattle.cfb_medium.specs.Versions.{stream_len_mask}
use Rattle.cfb_medium.specs.declared.version.Version.{Version}
use Rattle.cfb_medium.specs.declared.version.Version.TheVariants.{V3, V4}
use Rattle.cfb_tree.specs.Names.{CaseTable}
use Rattle.cfb_tree.specs.Objects.{Object}
use Rattle.cfb_tree.specs.Tree.{Tree}
use Rattle.msi_new_package.proofs.Made.{made, made_is}
use Rattle.msi_new_package.proofs.Writable.{new_back}
use Rattle.msi_spec.specs.Calls.{bare_package, IsNew, Rows3}
use Rattle.msi_spec.specs.Package.{at_name, is_stream, objects, PackageContent}
use Rattle.msi_spec.specs.declared.kind.PackageType.{PackageType}
use Rattle.msi_spec.specs.declared.kind.PackageType.TheVariants.{Installer, Patch, Transform}
use Rattle.msi_pool.specs.Pool.{data_stream, pool_stream, Pool}
use Rattle.msi_pool.specs.PoolState.{is_in_size}
use Rattle.msi_props.specs.Props.{props_bytes}
use Rattle.msi_rewritten.proofs.Names.{storage_listed}
use Rattle.msi_stored.specs.Changing.{StoresSoundPackage}
use Rattle.msi_streams.specs.Parts.{CanHaveThree, HasNoStorageAt, IsTooLong}

-- ---- the lengths, computed from the definitions

pool_in_size : is_in_size made.1 ≡ true
unfolding is_utf8 utf8_valid_len chars encode
pool_in_size = refl

pool_short : nat_le (length (pool_stream made.1)) 4294967295 ≡ true
unfolding is_utf8 utf8_valid_len chars encode
pool_short = refl

data_short : nat_le (length (data_stream made.1)) 4294967295 ≡ true
unfolding is_utf8 utf8_valid_len chars encode
data_short = refl

summary_short : (kind : PackageType) → nat_le (length (props_bytes (bare_package kind).summary)) 4294967295 ≡ true
unfolding is_utf8 utf8_valid_len chars encode
summary_short Installer = refl
summary_short Patch = refl
summary_short Transform = refl

within : (n most : ℕ) → nat_le n 4294967295 ≡ true → 4294967295 ≤ most → most < n → ⊥
within n most short wide long = let le : n ≤ 4294967295 = grind (arith, nat_tests, short) in omega (arith, le, wide, long)

pub mask_wide : (v : Version) → 4294967295 ≤ stream_len_mask v
mask_wide V3 = omega (arith)
mask_wide V4 = omega (arith)

module _ (kind : PackageType) (P : PackageContent) (new : IsNew kind P) where
  pool_is : made.1 ≡ P.pool
  pool_is = ap (λ (x : Rows3 × Pool). x.1) (made_is kind new.0 new.1) ∙ sym (ap (λ (Q : PackageContent). Q.pool) new.2.6)

  summary_is : (bare_package kind).summary ≡ P.summary
  summary_is = sym (ap (λ (Q : PackageContent). Q.summary) new.2.6)

  -- each stream of its parts fits in any file
  pub new_is_short : (most : ℕ) → 4294967295 ≤ most → IsTooLong most P.pool P.summary → ⊥
  new_is_short most wide long = ⊎_elim (λ size. not_both size (new_back kind P new).summary.size)
      (λ rest. ⊎_elim (λ size. not_both size (subst (λ (p : Pool). is_in_size p ≡ true) pool_is pool_in_size))
      (λ more. ⊎_elim (within (length (props_bytes P.summary)) most (subst (λ s. nat_le (length (props_bytes s)) 4294967295 ≡ true) summary_is (summary_short kind)) wide)
      (λ streams. ⊎_elim (within (length (pool_stream P.pool)) most (subst (λ (p : Pool). nat_le (length (pool_stream p)) 4294967295 ≡ true) pool_is pool_short) wide)
      (within (length (data_stream P.pool)) most (subst (λ (p : Pool). nat_le (length (data_stream p)) 4294967295 ≡ true) pool_is data_short) wide) streams) more) rest) long
    where
      not_both : {b : Bool} → b ≡ false → b ≡ true → ⊥
      not_both one other = let never : false ≡ true = sym one ∙ other in cc

  -- its tree has no storage
  no_storages : (letters : CaseTable) (tree : Tree) → StoresSoundPackage letters tree P → filter (λ o. not (is_stream o)) (objects tree.content) ≡ []
  no_storages letters tree s = sym s.stores.storages ∙ ap (λ (Q : PackageContent). Q.storages) new.2.6

  pub new_can : (letters : CaseTable) (tree : Tree) → StoresSoundPackage letters tree P → CanHaveThree letters tree
  new_can letters tree s = record { summary = none _; pool = none _; pool_data = none _ }
    where
      by : (name : List ℕ) (o : Object) → at_name letters (objects tree.content) name ≡ Some o → (b : Bool) → is_stream o ≡ b → is_stream o ≡ true
      by name o there true is = is
      by name o there false is =
          let never : None ≡ Some o = sym (ap (λ os. at_name letters os name) (no_storages letters tree s)) ∙ storage_listed letters name (objects tree.content) o there is in absurd (cc)

      none : (name : List ℕ) → HasNoStorageAt letters tree name
      none name o there = by name o there (is_stream o) refl
