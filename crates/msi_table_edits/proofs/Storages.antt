-- Whether a storage stands where the stream of a table that isn't there would.
use Rattle.std.proofs.Common.{◌≡◌, ◌∙◌, ℕ, Bool, true, false, List, [], ◌∷◌, Some, None, Option, ap, is_some, not, refl, sym}
use Rattle.std.specs.Prelude.{filter, option_and_then}
use Rattle.cfb_tree.specs.Names.{CaseTable}
use Rattle.cfb_tree.specs.Objects.{a_storage, a_stream, is_same_name, Object}
use Rattle.cfb_tree.specs.Tree.{Tree}
use Rattle.cfb_spec.specs.TreeRules.{is_storage, is_storage_found, object_at, tree_step, yes}
use Rattle.msi_spec.specs.Package.{at_name, is_stream, object_bytes, objects, stream_name, PackageContent}
use Rattle.msi_spec.specs.Sound.{is_free_table_name}
use Rattle.msi_spec.proofs.UnderRoot.{at_path}
use Rattle.msi_rewritten.proofs.Names.{storage_listed}
use Rattle.msi_stored.specs.Changing.{StoresSoundPackage}
use Rattle.msi_tables.specs.Table.{table_named}
use Rattle.msi_table_edits.proofs.NoStream.{no_stream}

abbrev storages_in : List Object → List Object
storages_in os = filter (λ o. not (is_stream o)) os

-- where nothing stands no storage stands
none_listed : (letters : CaseTable) (n : List ℕ) (os : List Object) → at_name letters os n ≡ None → at_name letters (storages_in os) n ≡ None
none_listed letters n [] none = refl
none_listed letters n (a_stream m s b ∷ os) none = by (is_same_name letters n m) refl (none_listed letters n os)
  where
    by : (same : Bool) → is_same_name letters n m ≡ same → (at_name letters os n ≡ None → at_name letters (storages_in os) n ≡ None) → at_name letters (storages_in os) n ≡ None
    by true is rest = (let never : Some (a_stream m s b) ≡ None = rw is at none in absurd (cc))
    by false is rest = rest (rw is at none)
none_listed letters n (a_storage m f i ∷ os) none = by (is_same_name letters n m) refl (none_listed letters n os)
  where
    by : (same : Bool) → is_same_name letters n m ≡ same → (at_name letters os n ≡ None → at_name letters (storages_in os) n ≡ None) → at_name letters (storages_in (a_storage m f i ∷ os)) n ≡ None
    by true is rest = (let never : Some (a_storage m f i) ≡ None = rw is at none in absurd (cc))
    by false is rest = rw is (rest (rw is at none))

module _ (letters : CaseTable) (tree : Tree) (P : PackageContent) (sound : StoresSoundPackage letters tree P) (name : List ℕ) (free : is_free_table_name name ≡ true) (none : table_named P.tables name ≡ None) where
  pub storage_told : (b : Bool) → yes b ≡ (tree_step letters tree (is_storage (stream_name name ∷ []))).1 → b ≡ is_some (at_name letters P.storages (stream_name name))
  storage_told b e = told (object_at letters tree (stream_name name ∷ [])) (at_path letters tree (stream_name name)) e
    where
      among : at_name letters P.storages (stream_name name) ≡ at_name letters (storages_in (objects tree.content)) (stream_name name)
      among = ap (λ os. at_name letters os (stream_name name)) sound.stores.storages

      told : (o : Option Object) → o ≡ at_name letters (objects tree.content) (stream_name name) → yes b ≡ yes (is_storage_found o) → b ≡ is_some (at_name letters P.storages (stream_name name))
      told None same e =
          let said : b ≡ false = cc in
          said ∙ sym (ap is_some (among ∙ none_listed letters (stream_name name) (objects tree.content) (sym same)))
      told (Some (a_stream m s bytes)) same e =
          let never : Some bytes ≡ None = ap (option_and_then object_bytes) same ∙ no_stream letters tree P sound.usable sound.stores sound.named name free none in
          absurd (cc)
      told (Some (a_storage m f i)) same e =
          let said : b ≡ true = cc in
          said ∙ sym (ap is_some (among ∙ storage_listed letters (stream_name name) (objects tree.content) (a_storage m f i) (sym same) refl))
