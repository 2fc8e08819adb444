-- Rows in memory are in the stored order where what they say is.
use Rattle.std.proofs.Common.{◌≡◌, ◌<◌, ◌+◌, List, [], ◌∷◌, length, map, refl, sym, ap, ◌∙◌, Bool, true, false, cond, arith, Vec}
use Rattle.std.specs.Prelude.{filter, not, ◌&&◌}
use Rattle.std.specs.Cmp.{IsStrictWeakOrder}
use Rattle.std.specs.declared.alloc.Global.{Global}
use Rattle.std.specs.Ordering.{is_lt}
use Rattle.std.specs.List.Sorted.{IsSortedBy, IsStableBy, ties}
use Rattle.std.proofs.lemmas.List.{get_or-map, length-map}
use Rattle.msi_pool.specs.Pool.{Pool}
use Rattle.msi_pool.specs.declared.stringref.ValueRef.{ValueRef}
use Rattle.msi_columns.specs.Column.{Column}
use Rattle.msi_tables.specs.Rows.{IsArranged, IsStored, row_cmp, row_less, skips_of}
use Rattle.msi_tables.specs.Held.{rows_held}
use Rattle.msi_tables.specs.Table.{key_less, row_key_cmp}
use Rattle.msi_tables.proofs.Keys.{key_order}
use Rattle.msi_tables.proofs.Stored.{stored_order}

module _ {X Y : Type 0} (f : X → Y) (lt : Y → Y → Bool) where
  pub sorted_map : (xs : List X) → IsSortedBy (λ x y. lt (f x) (f y)) xs → IsSortedBy lt (map f xs)
  sorted_map [] s = λ k d low high. absurd (omega (arith, high))
  sorted_map (x ∷ xs) s = λ k d low high.
      let n : length (map f (x ∷ xs)) ≡ length (x ∷ xs) = length-map (x ∷ xs) f in
      let up : k + 1 < length (x ∷ xs) = omega (arith, high, n) in
      let here : k < length (x ∷ xs) = omega (arith, up) in
      rw (get_or-map f (x ∷ xs) (k + 1) x d up, get_or-map f (x ∷ xs) k x d here) (s k x low up)

  filter_map_same : (p : Y → Bool) (xs : List X) → filter p (map f xs) ≡ map f (filter (λ x. p (f x)) xs)
  filter_map_same p [] = refl
  filter_map_same p (x ∷ xs) = go (p (f x)) (filter_map_same p xs)
    where
      go : (b : Bool) → filter p (map f xs) ≡ map f (filter (λ x. p (f x)) xs) →
          cond b (f x ∷ filter p (map f xs)) (filter p (map f xs)) ≡ map f (cond b (x ∷ filter (λ x. p (f x)) xs) (filter (λ x. p (f x)) xs))
      go true ih = ap (λ ys. f x ∷ ys) ih
      go false ih = ih

  unequal : (b d : Bool) → (b ≡ false → d ≡ false) → (d ≡ false → b ≡ false) → b ≡ d
  unequal true true to from = refl
  unequal false false to from = refl
  unequal true false to from = absurd (cc (from refl))
  unequal false true to from = absurd (cc (to refl))

  first_passes : (p : X → Bool) (xs : List X) (a : X) (more : List X) → filter p xs ≡ a ∷ more → p a ≡ true
  first_passes p [] a more h = absurd (cc h)
  first_passes p (x ∷ xs) a more h = go (p x) refl (first_passes p xs a more) h
    where
      go : (b : Bool) → p x ≡ b → (filter p xs ≡ a ∷ more → p a ≡ true) → cond b (x ∷ filter p xs) (filter p xs) ≡ a ∷ more → p a ≡ true
      go true is ih h = let same : x ≡ a = cc h in rw same at is
      go false is ih h = ih h

  module _ (o : IsStrictWeakOrder lt) (xs ys : List X) (stable : IsStableBy (λ x y. lt (f x) (f y)) xs ys) where
    not_less : (y : Y) (a : Y) → ties lt y a ≡ true → (lt y a ≡ false) × (lt a y ≡ false)
    not_less y a tied = go (lt y a) (lt a y) tied
      where
        go : (b d : Bool) → (not b && not d) ≡ true → (b ≡ false) × (d ≡ false)
        go false false h = (refl, refl)
        go false true h = absurd (cc h)
        go true d h = absurd (cc h)

    -- what ties with y is what ties with a, where y and a tie
    one_class : (y a : Y) → ties lt y a ≡ true → (z : Y) → ties lt y z ≡ ties lt a z
    one_class y a tied z =
        let n = not_less y a tied in
        let front : lt y z ≡ lt a z = unequal _ _ (o.chain a y z n.1) (o.chain y a z n.0) in
        let back : lt z y ≡ lt z a = unequal _ _ (λ h. o.chain z y a h n.0) (λ h. o.chain z a y h n.1) in
        rw (front, back) refl

    in_class : (y : Y) (a : X) → ties lt y (f a) ≡ true → filter (λ x. ties lt y (f x)) ys ≡ filter (λ x. ties lt y (f x)) xs
    in_class y a tied =
        let mine : X → Bool = λ x. ties lt y (f x) in
        let its : X → Bool = λ x. ties lt (f a) (f x) in
        let same : mine ≡ its = λ i x. one_class y (f a) tied (f x) i in
        ap (λ p. filter p ys) same ∙ stable a ∙ ap (λ p. filter p xs) (sym same)

    by_filters : (y : Y) (some : List X) (others : List X) → filter (λ x. ties lt y (f x)) ys ≡ some → filter (λ x. ties lt y (f x)) xs ≡ others →
        filter (λ x. ties lt y (f x)) ys ≡ filter (λ x. ties lt y (f x)) xs
    by_filters y (a ∷ more) others is other = in_class y a (first_passes (λ x. ties lt y (f x)) ys a more is)
    by_filters y [] (a ∷ more) is other = in_class y a (first_passes (λ x. ties lt y (f x)) xs a more other)
    by_filters y [] [] is other = is ∙ sym other

    pub stable_map : IsStableBy lt (map f xs) (map f ys)
    stable_map y =
        filter_map_same (ties lt y) ys ∙ ap (map f) (by_filters y (filter (λ x. ties lt y (f x)) ys) (filter (λ x. ties lt y (f x)) xs) refl refl) ∙ sym (filter_map_same (ties lt y) xs)

-- what the sort leaves is the stored order
pub stored_held : (columns : List Column) (old new : List (Vec ValueRef Global)) →
    IsSortedBy (row_less (skips_of columns)) new → IsStableBy (row_less (skips_of columns)) old new → IsStored columns (rows_held old) (rows_held new)
stored_held columns old new sorted stable = record {
  sorted = sorted_map (λ row. row.items) (λ a b. is_lt (row_cmp columns a b)) new sorted;
  stable = stable_map (λ row. row.items) (λ a b. is_lt (row_cmp columns a b)) (stored_order columns) old new stable;
}

-- and what the sort by keys leaves is the list by keys
pub listed_held : (pool : Pool) (columns : List Column) (old new : List (Vec ValueRef Global)) →
    IsSortedBy (key_less pool columns) new → IsStableBy (key_less pool columns) old new → IsArranged (row_key_cmp pool columns) (rows_held old) (rows_held new)
listed_held pool columns old new sorted stable = record {
  sorted = sorted_map (λ row. row.items) (λ a b. is_lt (row_key_cmp pool columns a b)) new sorted;
  stable = stable_map (λ row. row.items) (λ a b. is_lt (row_key_cmp pool columns a b)) (key_order pool columns) old new stable;
}
