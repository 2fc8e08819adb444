-- A table in memory among the others: where its name belongs.
use Rattle.std.proofs.Common.{◌≡◌, ◌∙◌, ◌+◌, ◌-◌, ◌++◌, length, length-drop, take_all, append_assoc, arith, ap₂, sym, ℕ, Bool, true, false, cond, drop, map, refl, take, ap, List, [], ◌∷◌, suc, not}
use Rattle.std.specs.List.{position_or_len}
use Rattle.std.proofs.lemmas.List.{map-append}
use Rattle.std.specs.Ordering.{is_lt}
use Rattle.msi_spec.specs.Calls.{table_put}
use Rattle.msi_spec.specs.Package.{table_name_cmp}
use Rattle.msi_parts.specs.Parts.{heading}
use Rattle.msi_tables.specs.Table.{Heading, Table}
use Rattle.msi_table_edits.specs.Making.{heading_put}

pub headings_put : (long : Bool) (t : Table) (ts : List Table) → map (heading long) (table_put t ts) ≡ heading_put (heading long t) (map (heading long) ts)
headings_put long t [] = refl
headings_put long t (u ∷ us) = by (is_lt (table_name_cmp t.name u.name)) (headings_put long t us)
  where
    by : (b : Bool) → map (heading long) (table_put t us) ≡ heading_put (heading long t) (map (heading long) us)
        → map (heading long) (cond b (t ∷ u ∷ us) (u ∷ table_put t us)) ≡ cond b (heading long t ∷ heading long u ∷ map (heading long) us) (heading long u ∷ heading_put (heading long t) (map (heading long) us))
    by true later = refl
    by false later = ap (λ hs. heading long u ∷ hs) later

module _ {X : Type 0} (f : X → Heading) (h : Heading) where
  abbrev pub is_behind : X → Bool
  is_behind x = is_lt (table_name_cmp h.name (f x).name)

  pub placed : (xs : List X) → map f (take (position_or_len is_behind xs) xs) ++ h ∷ map f (drop (position_or_len is_behind xs) xs) ≡ heading_put h (map f xs)
  placed [] = refl
  placed (x ∷ xs) = by (is_behind x) (placed xs)
    where
      by : (b : Bool) → map f (take (position_or_len is_behind xs) xs) ++ h ∷ map f (drop (position_or_len is_behind xs) xs) ≡ heading_put h (map f xs)
          → map f (take (cond (not b) (1 + position_or_len is_behind xs) 0) (x ∷ xs)) ++ h ∷ map f (drop (cond (not b) (1 + position_or_len is_behind xs) 0) (x ∷ xs)) ≡ cond b (h ∷ f x ∷ map f xs) (f x ∷ heading_put h (map f xs))
      by true later = refl
      by false later =
          let k = position_or_len is_behind xs in
          let one : 1 + k ≡ suc k = omega arith in
          ap (λ n. map f (take n (x ∷ xs)) ++ h ∷ map f (drop n (x ∷ xs))) one ∙ ap (λ hs. f x ∷ hs) later

  -- those before its place, it, and those behind
  pub with_one : (t : X) (xs : List X) (k : ℕ) → k ≡ position_or_len is_behind xs → h ≡ f t → (none one two all : List X) → none ≡ [] → map f one ≡ map f none ++ map f (take k xs) → two ≡ one ++ t ∷ []
      → map f all ≡ map f two ++ map f (take (length xs - k) (drop k xs)) → map f all ≡ heading_put h (map f xs)
  with_one t xs k is_place is_h none one two all a b d e =
      e
      ∙ ap (λ l. map f two ++ map f l) (take_all (length xs - k) (drop k xs) (let left = length-drop k xs in omega (arith, left)))
      ∙ ap (λ l. l ++ map f (drop k xs)) (ap (map f) d ∙ map-append f one (t ∷ []) ∙ ap₂ (λ l g. l ++ g ∷ []) (b ∙ ap (λ l. map f l ++ map f (take k xs)) a) (sym is_h))
      ∙ append_assoc (map f (take k xs)) (h ∷ []) (map f (drop k xs))
      ∙ ap (λ n. map f (take n xs) ++ h ∷ map f (drop n xs)) is_place
      ∙ placed xs
