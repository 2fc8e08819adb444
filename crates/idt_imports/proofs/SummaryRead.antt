-- Properties that were read of rows.
use Rattle.std.proofs.Common.{◌≡◌, ◌∙◌, ℕ, suc, ◌+◌, ◌<◌, ◌≤◌, arith, List, [], ◌∷◌, ◌++◌, append-nil, length, get_or, map, drop, drop-cons, refl, sym, ap}
use Rattle.std.specs.Prelude.{Option, Some, None}
use Rattle.std.proofs.Math.ListN.{drop_of_length-le}
use Rattle.std.proofs.lemmas.List.{append_assoc}
use Rattle.idt_rows.specs.Rows.{Datum}
use Rattle.idt_summaries.specs.Reading.{joined, properties_in, row_says}
use Rattle.idt_tables.proofs.EachRead.{behind}
use Rattle.msi_props.specs.Props.{Property}

joined_behind : {A : Type 0} (done said : List A) (rest : Option (List A)) → behind done (joined (Some said) rest) ≡ behind (done ++ said) rest
joined_behind done said None = refl
joined_behind done said (Some xs) = ap Some (sym (append_assoc done said xs))

module _ {A : Type 0} (see : A → List Datum) (rows : List A) where
  -- what the rows that are left say
  abbrev pub left_at : ℕ → Option (List (ℕ × Property))
  left_at i = properties_in (map see (drop i rows))

  pub one_row : (i : ℕ) (row : A) (done new said : List (ℕ × Property)) (all : Option (List (ℕ × Property))) → i < length rows → row ≡ get_or rows i row
      → row_says (see row) ≡ Some said → new ≡ done ++ said → behind done (left_at i) ≡ all → behind new (left_at (i + 1)) ≡ all
  one_row i row done new said all below is says made so_far =
      let after : suc i ≡ i + 1 = omega arith in
      let front : left_at i ≡ joined (row_says (see row)) (left_at (i + 1)) = ap (λ xs. properties_in (map see xs)) (drop-cons rows i row below ∙ ap (λ y. y ∷ drop (suc i) rows) (sym is) ∙ ap (λ n. row ∷ drop n rows) after) in
      ap (λ xs. behind xs (left_at (i + 1))) made
      ∙ sym (joined_behind done said (left_at (i + 1)))
      ∙ ap (λ o. behind done (joined o (left_at (i + 1)))) (sym says)
      ∙ ap (behind done) (sym front)
      ∙ so_far

  pub no_row : (i : ℕ) (done : List (ℕ × Property)) (all : Option (List (ℕ × Property))) → length rows ≤ i → behind done (left_at i) ≡ all → all ≡ Some done
  no_row i done all past so_far =
      sym so_far ∙ ap (λ xs. behind done (properties_in (map see xs))) (drop_of_length-le rows past) ∙ ap Some (append-nil done)

pub two_of : {A : Type 0} (cells : List A) (a b d : A) → length cells ≡ 2 → a ≡ get_or cells 0 d → b ≡ get_or cells 1 d → cells ≡ a ∷ b ∷ []
two_of [] a b d l e f = absurd (omega (arith, l))
two_of (x ∷ []) a b d l e f = absurd (omega (arith, l))
two_of (x ∷ y ∷ []) a b d l e f = cc
two_of (x ∷ y ∷ z ∷ rest) a b d l e f = absurd (omega (arith, l))
