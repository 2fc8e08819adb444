-- A table that is put among others.
use Rattle.std.proofs.Common.{◌≡◌, ◌∙◌, ℕ, ◌+◌, Bool, true, false, cond, List, [], ◌∷◌, map, refl, sym, ap, arith, Some, None}
use Rattle.std.specs.Prelude.{bytes_eq}
use Rattle.std.specs.List.{AllByRecursion}
use Rattle.std.specs.List.Sorted.{IsStrictlySortedBy}
use Rattle.std.specs.Ordering.{is_lt, ordering_reverse}
use Rattle.std.specs.declared.cmp.Ordering.{Ordering}
use Rattle.std.specs.declared.cmp.Ordering.TheVariants.{Equal, Greater, Less}
use Rattle.std.proofs.lemmas.Cmp.{nat_list_cmp_total}
use Rattle.std.proofs.lemmas.List.Sums.{sum_by-cons}
use Rattle.cfb_tree.proofs.NameOrder.{slice_cmp_equal}
use Rattle.msi_changes.specs.Laws.{uses_in}
use Rattle.msi_spec.specs.Calls.{table_put}
use Rattle.msi_spec.specs.Package.{table_name_cmp}
use Rattle.msi_spec.specs.Sound.{refcounts_of}
use Rattle.msi_spec.proofs.SystemRows.{bytes_same}
use Rattle.msi_tables.specs.Table.{table_named, Table}

is_less : (r : Ordering) → is_lt r ≡ true → r ≡ Less
is_less Less e = refl
is_less Equal e = absurd (cc)
is_less Greater e = absurd (cc)

turned : (r s : Ordering) → r ≡ ordering_reverse s → is_lt r ≡ false → (r ≡ Equal → ⊥) → s ≡ Less
turned Less s e not_less different = absurd (cc)
turned Equal s e not_less different = absurd (different refl)
turned Greater Less e not_less different = refl
turned Greater Equal e not_less different = absurd (cc)
turned Greater Greater e not_less different = absurd (cc)

below_all : (k l : List ℕ) (ks : List (List ℕ)) → table_name_cmp k l ≡ Less → AllByRecursion (λ m. table_name_cmp l m ≡ Less) ks → AllByRecursion (λ m. table_name_cmp k m ≡ Less) ks
below_all k l [] less h = tt
below_all k l (m ∷ ks) less h = (nat_list_cmp_total.trans k l m less h.0, below_all k l ks less h.1)

module _ (t : Table) where
  -- what all have and the table too
  all_put : (Has : List ℕ → Type 0) (ts : List Table) → Has t.name → AllByRecursion Has (map (λ u. u.name) ts) → AllByRecursion Has (map (λ u. u.name) (table_put t ts))
  all_put Has [] has h = (has, tt)
  all_put Has (u ∷ us) has h = by (is_lt (table_name_cmp t.name u.name)) (all_put Has us has h.1)
    where
      by : (b : Bool) → AllByRecursion Has (map (λ u. u.name) (table_put t us)) → AllByRecursion Has (map (λ u. u.name) (cond b (t ∷ u ∷ us) (u ∷ table_put t us)))
      by true later = (has, h)
      by false later = (h.0, later)

  differ : (x y : List ℕ) → bytes_eq y x ≡ false → table_name_cmp x y ≡ Equal → ⊥
  differ x y e equal =
      let same : x ≡ y = slice_cmp_equal x y equal in
      let never : true ≡ false = sym (bytes_same y) ∙ ap (bytes_eq y) (sym same) ∙ e in
      cc

  pub rises_put : (ts : List Table) → table_named ts t.name ≡ None → IsStrictlySortedBy table_name_cmp (map (λ u. u.name) ts) → IsStrictlySortedBy table_name_cmp (map (λ u. u.name) (table_put t ts))
  unfolding IsStrictlySortedBy
  rises_put [] none rises = (tt, tt)
  rises_put (u ∷ us) none rises = at (bytes_eq u.name t.name) refl (rises_put us)
    where
      at : (same : Bool) → bytes_eq u.name t.name ≡ same
          → (table_named us t.name ≡ None → IsStrictlySortedBy table_name_cmp (map (λ u. u.name) us) → IsStrictlySortedBy table_name_cmp (map (λ u. u.name) (table_put t us)))
          → IsStrictlySortedBy table_name_cmp (map (λ u. u.name) (table_put t (u ∷ us)))
      at true is rest = (let never : Some u ≡ None = rw is at none in absurd (cc))
      at false is rest = by (is_lt (table_name_cmp t.name u.name)) refl (rest (rw is at none) rises.1)
        where
          by : (b : Bool) → is_lt (table_name_cmp t.name u.name) ≡ b → IsStrictlySortedBy table_name_cmp (map (λ u. u.name) (table_put t us))
              → IsStrictlySortedBy table_name_cmp (map (λ u. u.name) (cond b (t ∷ u ∷ us) (u ∷ table_put t us)))
          by true e later =
              let less = is_less (table_name_cmp t.name u.name) e in
              ((less, below_all t.name u.name (map (λ u. u.name) us) less rises.0), rises)
          by false e later =
              let less = turned (table_name_cmp t.name u.name) (table_name_cmp u.name t.name) (nat_list_cmp_total.antisymm t.name u.name) e (differ t.name u.name is) in
              (all_put (λ k. table_name_cmp u.name k ≡ Less) us less rises.0, later)

  pub put_found : (ts : List Table) → table_named ts t.name ≡ None → table_named (table_put t ts) t.name ≡ Some t
  put_found [] none = rw (bytes_same t.name) refl
  put_found (u ∷ us) none = at (bytes_eq u.name t.name) refl (put_found us)
    where
      at : (same : Bool) → bytes_eq u.name t.name ≡ same → (table_named us t.name ≡ None → table_named (table_put t us) t.name ≡ Some t) → table_named (table_put t (u ∷ us)) t.name ≡ Some t
      at true is rest = (let never : Some u ≡ None = rw is at none in absurd (cc))
      at false is rest = by (is_lt (table_name_cmp t.name u.name)) (rest (rw is at none))
        where
          by : (b : Bool) → table_named (table_put t us) t.name ≡ Some t → table_named (cond b (t ∷ u ∷ us) (u ∷ table_put t us)) t.name ≡ Some t
          by true later = rw (bytes_same t.name) refl
          by false later = rw is later

  pub put_beside : (name : List ℕ) → bytes_eq t.name name ≡ false → (ts : List Table) → table_named (table_put t ts) name ≡ table_named ts name
  put_beside name apart [] = rw apart refl
  put_beside name apart (u ∷ us) = by (is_lt (table_name_cmp t.name u.name)) (put_beside name apart us)
    where
      by : (b : Bool) → table_named (table_put t us) name ≡ table_named us name → table_named (cond b (t ∷ u ∷ us) (u ∷ table_put t us)) name ≡ table_named (u ∷ us) name
      by true later = rw apart refl
      by false later = ap (λ o. cond (bytes_eq u.name name) (Some u) o) later

  pub put_uses : (ts : List Table) (n : ℕ) → refcounts_of (table_put t ts) n ≡ uses_in t.rows n + refcounts_of ts n
  put_uses [] n = sum_by-cons (λ u. uses_in u.rows n) t []
  put_uses (u ∷ us) n = by (is_lt (table_name_cmp t.name u.name)) (put_uses us n)
    where
      by : (b : Bool) → refcounts_of (table_put t us) n ≡ uses_in t.rows n + refcounts_of us n → refcounts_of (cond b (t ∷ u ∷ us) (u ∷ table_put t us)) n ≡ uses_in t.rows n + refcounts_of (u ∷ us) n
      by true later = sum_by-cons (λ u. uses_in u.rows n) t (u ∷ us)
      by false later =
          let all : refcounts_of (u ∷ table_put t us) n ≡ uses_in u.rows n + refcounts_of (table_put t us) n = sum_by-cons (λ u. uses_in u.rows n) u (table_put t us) in
          let old : refcounts_of (u ∷ us) n ≡ uses_in u.rows n + refcounts_of us n = sum_by-cons (λ u. uses_in u.rows n) u us in
          omega (arith, all, old, later)
