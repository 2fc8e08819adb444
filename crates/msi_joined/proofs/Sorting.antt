-- Each list has an arrangement.
use Rattle.std.proofs.Common.{◌≡◌, ◌∙◌, zero, suc, Bool, true, false, not, cond, List, [], ◌∷◌, refl, sym, ap, add-one, arith}
use Rattle.std.specs.Prelude.{filter, ◌&&◌}
use Rattle.std.specs.declared.cmp.Ordering.{Ordering}
use Rattle.std.specs.Ordering.{is_lt}
use Rattle.std.specs.Cmp.{IsStrictWeakOrder}
use Rattle.std.specs.List.Sorted.{IsSortedBy, IsStableBy, ties}
use Rattle.msi_tables.specs.Rows.{IsArranged}

module _ {X : Type 0} (lt : X → X → Bool) (o : IsStrictWeakOrder lt) where
  -- an element behind those at the front that are below it
  abbrev put : X → List X → List X
  put x [] = x ∷ []
  put x (y ∷ ys) = cond (lt y x) (y ∷ put x ys) (x ∷ y ∷ ys)

  abbrev sorted_of : List X → List X
  sorted_of [] = []
  sorted_of (x ∷ xs) = put x (sorted_of xs)

  -- ---- it keeps the order of what ties

  apart : (x y z : X) → lt y x ≡ true → (a b c d : Bool) → lt z y ≡ a → lt y z ≡ b → lt z x ≡ c → lt x z ≡ d → (not a && not b) ≡ true → (not c && not d) ≡ true → ⊥
  apart x y z below false false false false zy yz zx xz p q = (let never : true ≡ false = sym below ∙ o.chain y z x yz zx in cc never)
  apart x y z below true b c d zy yz zx xz p q = cc p
  apart x y z below false true c d zy yz zx xz p q = cc p
  apart x y z below false false true d zy yz zx xz p q = cc q
  apart x y z below false false false true zy yz zx xz p q = cc q

  put_class : (z x : X) (ys : List X) → filter (ties lt z) (put x ys) ≡ filter (ties lt z) (x ∷ ys)
  put_class z x [] = refl
  put_class z x (y ∷ ys) = on (lt y x) refl (put_class z x ys)
    where
      over : (p q : Bool) → ties lt z y ≡ p → ties lt z x ≡ q → lt y x ≡ true → filter (ties lt z) (put x ys) ≡ filter (ties lt z) (x ∷ ys)
          → filter (ties lt z) (y ∷ put x ys) ≡ filter (ties lt z) (x ∷ y ∷ ys)
      over true true is_y is_x below deeper = absurd (apart x y z below (lt z y) (lt y z) (lt z x) (lt x z) refl refl refl refl is_y is_x)
      over true false is_y is_x below deeper = rw (is_y, is_x, deeper, is_x) refl
      over false true is_y is_x below deeper = rw (is_y, is_x, deeper, is_x) refl
      over false false is_y is_x below deeper = rw (is_y, is_x, deeper, is_x) refl

      on : (b : Bool) → lt y x ≡ b → filter (ties lt z) (put x ys) ≡ filter (ties lt z) (x ∷ ys) → filter (ties lt z) (cond b (y ∷ put x ys) (x ∷ y ∷ ys)) ≡ filter (ties lt z) (x ∷ y ∷ ys)
      on false is deeper = refl
      on true is deeper = over (ties lt z y) (ties lt z x) refl refl is deeper

  is_stable : (xs : List X) → IsStableBy lt xs (sorted_of xs)
  is_stable [] z = refl
  is_stable (x ∷ xs) z = put_class z x (sorted_of xs) ∙ ap (λ l. cond (ties lt z x) (x ∷ l) l) (is_stable xs z)

  -- ---- it rises

  abbrev Rises : List X → Type 0
  Rises [] = Unit {0}
  Rises (x ∷ []) = Unit {0}
  Rises (x ∷ y ∷ ys) = (lt y x ≡ false) × Rises (y ∷ ys)

  put_rises : (x : X) (ys : List X) → Rises ys → Rises (put x ys)
  put_rises x [] r = tt
  put_rises x (y ∷ []) r = on (lt y x) refl
    where
      on : (b : Bool) → lt y x ≡ b → Rises (cond b (y ∷ x ∷ []) (x ∷ y ∷ []))
      on true is = (o.one_way y x is, tt)
      on false is = (is, tt)
  put_rises x (y ∷ w ∷ ws) r = on (lt y x) refl (put_rises x (w ∷ ws) r.1)
    where
      over : (c : Bool) → lt y x ≡ true → Rises (cond c (w ∷ put x ws) (x ∷ w ∷ ws)) → Rises (y ∷ cond c (w ∷ put x ws) (x ∷ w ∷ ws))
      over true is deeper = (r.0, deeper)
      over false is deeper = (o.one_way y x is, deeper)

      on : (b : Bool) → lt y x ≡ b → Rises (put x (w ∷ ws)) → Rises (cond b (y ∷ put x (w ∷ ws)) (x ∷ y ∷ w ∷ ws))
      on false is deeper = (is, r)
      on true is deeper = over (lt w x) is deeper

  sorted_rises : (xs : List X) → Rises (sorted_of xs)
  sorted_rises [] = tt
  sorted_rises (x ∷ xs) = put_rises x (sorted_of xs) (sorted_rises xs)

  by_index : (xs : List X) → Rises xs → IsSortedBy lt xs
  by_index [] r = λ k d l h. absurd (omega (arith, h))
  by_index (x ∷ []) r = λ k d l h. absurd (omega (arith, h))
  by_index (x ∷ y ∷ ys) r = at (by_index (y ∷ ys) r.1)
    where
      at : IsSortedBy lt (y ∷ ys) → IsSortedBy lt (x ∷ y ∷ ys)
      at deeper zero d l h = r.0
      at deeper (suc k) d l h = let e = deeper k d (omega arith) (omega (arith, h)) in let f = (rw add-one at e) in rw add-one f

-- a list in order, with ties as they stood
pub arranged : {X : Type 0} (cmp : X → X → Ordering) → IsStrictWeakOrder (λ x y. is_lt (cmp x y)) → (rows : List X) → (some : List X) × IsArranged cmp rows some
arranged cmp o rows =
    (sorted_of (λ x y. is_lt (cmp x y)) o rows, record { sorted = by_index (λ x y. is_lt (cmp x y)) o (sorted_of (λ x y. is_lt (cmp x y)) o rows) (sorted_rises (λ x y. is_lt (cmp x y)) o rows); stable = is_stable (λ x y. is_lt (cmp x y)) o rows })
