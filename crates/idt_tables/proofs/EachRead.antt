-- What was read, and what is left.
use Rattle.std.proofs.Common.{◌≡◌, ◌∙◌, ◌<◌, ◌≤◌, ◌+◌, ℕ, suc, arith, length, get_or, drop, drop-cons, map, List, [], ◌∷◌, ◌++◌, append-nil, refl, sym, ap}
use Rattle.std.specs.Prelude.{Option, Some, None}
use Rattle.std.proofs.Math.ListN.{drop_of_length-le}
use Rattle.std.proofs.lemmas.List.{append_assoc}
use Rattle.idt_tables.specs.Headings.{all_in, in_front}

module _ {A : Type 0} where
  -- those that were read in front of the others
  abbrev pub behind : List A → Option (List A) → Option (List A)
  behind done None = None
  behind done (Some xs) = Some (done ++ xs)

  next : (done : List A) (x : A) (rest : Option (List A)) → behind done (in_front (Some x) rest) ≡ behind (done ++ x ∷ []) rest
  next done x None = refl
  next done x (Some xs) = ap Some (sym (append_assoc done (x ∷ []) xs))

  pub none_yet : (rest : Option (List A)) → behind [] rest ≡ rest
  none_yet None = refl
  none_yet (Some xs) = refl

  module _ {B : Type 0} (read : List ℕ → Option A) (text_of : B → List ℕ) (ps : List B) where
    abbrev pub left_at : ℕ → Option (List A)
    left_at i = all_in read (map text_of (drop i ps))

    front : (i : ℕ) (d : B) → i < length ps → left_at i ≡ in_front (read (text_of (get_or ps i d))) (left_at (i + 1))
    front i d l =
        let after : suc i ≡ i + 1 = omega arith in
        ap (λ y. all_in read (map text_of y)) (drop-cons ps i d l ∙ ap (λ n. get_or ps i d ∷ drop n ps) after)

    pub one_read : (i : ℕ) (d : B) (done new : List A) (x : A) (all : Option (List A)) → i < length ps → read (text_of (get_or ps i d)) ≡ Some x
        → new ≡ done ++ x ∷ [] → behind done (left_at i) ≡ all → behind new (left_at (i + 1)) ≡ all
    one_read i d done new x all l is made so_far =
        ap (λ xs. behind xs (left_at (i + 1))) made
        ∙ sym (next done x (left_at (i + 1))) ∙ ap (λ y. behind done (in_front y (left_at (i + 1)))) (sym is) ∙ ap (behind done) (sym (front i d l)) ∙ so_far

    pub none_read : (i : ℕ) (d : B) (done : List A) (all : Option (List A)) → i < length ps → read (text_of (get_or ps i d)) ≡ None → behind done (left_at i) ≡ all
        → None ≡ all
    none_read i d done all l is so_far =
        ap (λ y. behind done (in_front y (left_at (i + 1)))) (sym is) ∙ ap (behind done) (sym (front i d l)) ∙ so_far

    pub all_read : (i : ℕ) (done : List A) (all : Option (List A)) → length ps ≤ i → behind done (left_at i) ≡ all → Some done ≡ all
    all_read i done all l so_far =
        ap Some (sym (append-nil done)) ∙ ap (λ x. behind done (all_in read (map text_of x))) (sym (drop_of_length-le ps l)) ∙ so_far

  pub begun : (new : List A) (all : Option (List A)) → new ≡ [] → behind new all ≡ all
  begun new all e = ap (λ xs. behind xs all) e ∙ none_yet all
