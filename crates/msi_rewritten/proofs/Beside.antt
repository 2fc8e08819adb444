-- What a stream that is put among objects leaves of the others.
use Rattle.std.proofs.Common.{◌≡◌, ℕ, Bool, true, false, cond, List, [], ◌∷◌, Some, None, refl, sym, ap, ◌∙◌}
use Rattle.std.specs.Prelude.{filter, not}
use Rattle.std.specs.Ordering.{is_eq, is_lt}
use Rattle.cfb_tree.specs.Names.{CaseTable, key_cmp, name_cmp, name_key}
use Rattle.cfb_tree.specs.Objects.{a_storage, a_stream, is_same_name, name_of, Object}
use Rattle.msi_spec.specs.Package.{at_name, is_stream}
use Rattle.msi_spec.specs.Streams.{stream_put}
use Rattle.msi_spec.proofs.Roots.{named}
use Rattle.msi_spec.proofs.StreamKeys.{key_by_same}

module _ (letters : CaseTable) (name bytes : List ℕ) where
  module _ (other : List ℕ) (differs : is_same_name letters other name ≡ false) where
    -- an object of the name hasn't the other
    apart : (o : Object) → is_same_name letters name (name_of o) ≡ true → is_same_name letters other (name_of o) ≡ false
    apart o is = ap (λ k. is_eq (key_cmp (name_key letters other) k)) (sym (key_by_same letters name (name_of o) is)) ∙ differs

    pub put_beside : (os : List Object) → at_name letters (stream_put letters name bytes os) other ≡ at_name letters os other
    put_beside [] = rw differs refl
    put_beside (o ∷ os) = by (is_same_name letters name (name_of o)) (is_lt (name_cmp letters name (name_of o))) refl refl (put_beside os)
      where
        by : (same first : Bool) → is_same_name letters name (name_of o) ≡ same → is_lt (name_cmp letters name (name_of o)) ≡ first
            → at_name letters (stream_put letters name bytes os) other ≡ at_name letters os other
            → at_name letters (stream_put letters name bytes (o ∷ os)) other ≡ at_name letters (o ∷ os) other
        by true first is order rest =
            let old = apart o is in
            let now = ap (is_same_name letters other) (named letters bytes o) ∙ old in
            rw is (rw (old, now) refl)
        by false true is order rest = rw is (rw order (rw differs refl))
        by false false is order rest = rw is (rw order (ap (λ found. cond (is_same_name letters other (name_of o)) (Some o) found) rest))

  abbrev storages_in : List Object → List Object
  storages_in os = filter (λ o. not (is_stream o)) os

  pub put_keeps_storages : (os : List Object) → at_name letters (storages_in os) name ≡ None → storages_in (stream_put letters name bytes os) ≡ storages_in os
  put_keeps_storages [] free = refl
  put_keeps_storages (a_stream n s b ∷ os) free = by (is_same_name letters name n) (is_lt (name_cmp letters name n)) refl refl (put_keeps_storages os free)
    where
      by : (same first : Bool) → is_same_name letters name n ≡ same → is_lt (name_cmp letters name n) ≡ first
          → storages_in (stream_put letters name bytes os) ≡ storages_in os
          → storages_in (stream_put letters name bytes (a_stream n s b ∷ os)) ≡ storages_in (a_stream n s b ∷ os)
      by true first is order rest = rw is refl
      by false true is order rest = rw is (rw order refl)
      by false false is order rest = rw is (rw order rest)
  put_keeps_storages (a_storage n f i ∷ os) free = by (is_same_name letters name n) (is_lt (name_cmp letters name n)) refl refl (put_keeps_storages os)
    where
      by : (same first : Bool) → is_same_name letters name n ≡ same → is_lt (name_cmp letters name n) ≡ first
          → (at_name letters (storages_in os) name ≡ None → storages_in (stream_put letters name bytes os) ≡ storages_in os)
          → storages_in (stream_put letters name bytes (a_storage n f i ∷ os)) ≡ storages_in (a_storage n f i ∷ os)
      by true first is order rest = let taken : Some (a_storage n f i) ≡ None = rw is at free in absurd (cc)
      by false true is order rest = rw is (rw order refl)
      by false false is order rest = rw is (rw order (ap (λ l. a_storage n f i ∷ l) (rest (rw is at free))))
