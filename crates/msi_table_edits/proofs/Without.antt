-- Tables without those of a name.
use Rattle.std.proofs.Common.{◌≡◌, ◌∙◌, ℕ, Bool, true, false, cond, List, [], ◌∷◌, map, refl, sym, ap, subst, Some, None}
use Rattle.std.specs.Prelude.{bytes_eq, filter, not}
use Rattle.std.specs.List.Sorted.{IsStrictlySortedBy}
use Rattle.std.proofs.lemmas.List.Kept.{IsStrictlySortedBy-filter}
use Rattle.msi_spec.specs.Package.{table_name_cmp}
use Rattle.msi_spec.proofs.SystemRows.{same_bytes}
use Rattle.msi_tables.specs.Table.{table_named, Table}

module _ (name : List ℕ) where
  abbrev other : Table → Bool
  other u = not (bytes_eq u.name name)

  pub names_left : (ts : List Table) → map (λ u. u.name) (filter other ts) ≡ filter (λ n. not (bytes_eq n name)) (map (λ u. u.name) ts)
  names_left [] = refl
  names_left (u ∷ us) = by (other u) (names_left us)
    where
      by : (b : Bool) → map (λ u. u.name) (filter other us) ≡ filter (λ n. not (bytes_eq n name)) (map (λ u. u.name) us)
          → map (λ u. u.name) (cond b (u ∷ filter other us) (filter other us)) ≡ cond b (u.name ∷ filter (λ n. not (bytes_eq n name)) (map (λ u. u.name) us)) (filter (λ n. not (bytes_eq n name)) (map (λ u. u.name) us))
      by true later = ap (λ ns. u.name ∷ ns) later
      by false later = later

  pub rises_left : (ts : List Table) → IsStrictlySortedBy table_name_cmp (map (λ u. u.name) ts) → IsStrictlySortedBy table_name_cmp (map (λ u. u.name) (filter other ts))
  rises_left ts rises = subst (IsStrictlySortedBy table_name_cmp) (sym (names_left ts)) (IsStrictlySortedBy-filter table_name_cmp (λ n. not (bytes_eq n name)) (map (λ u. u.name) ts) rises)

  pub none_left : (ts : List Table) → table_named (filter other ts) name ≡ None
  none_left [] = refl
  none_left (u ∷ us) = by (bytes_eq u.name name) refl (none_left us)
    where
      by : (b : Bool) → bytes_eq u.name name ≡ b → table_named (filter other us) name ≡ None → table_named (cond (not b) (u ∷ filter other us) (filter other us)) name ≡ None
      by true is later = later
      by false is later = rw is later

  pub found_left : (m : List ℕ) → bytes_eq name m ≡ false → (ts : List Table) → table_named (filter other ts) m ≡ table_named ts m
  found_left m apart [] = refl
  found_left m apart (u ∷ us) = by (bytes_eq u.name name) refl (found_left m apart us)
    where
      by : (b : Bool) → bytes_eq u.name name ≡ b → table_named (filter other us) m ≡ table_named us m → table_named (cond (not b) (u ∷ filter other us) (filter other us)) m ≡ table_named (u ∷ us) m
      by true is later =
          let gone : bytes_eq u.name m ≡ false = ap (λ n. bytes_eq n m) (same_bytes u.name name is) ∙ apart in
          later ∙ sym (ap (λ b. cond b (Some u) (table_named us m)) gone)
      by false is later = ap (λ o. cond (bytes_eq u.name m) (Some u) o) later
