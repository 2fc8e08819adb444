-- Pages that are added with a list of their numbers.
use Rattle.std.proofs.Common.{inl, inr, ⊎_elim, ◌≡◌, ◌≢◌, ℕ, ◌+◌, ◌<◌, Bool, true, false, ◌||◌, cond, List, [], length, get_or, take, Option, None, refl, sym, ◌∙◌, ap, arith}
use Rattle.std.specs.Prelude.{nat_eq}
use Rattle.std.specs.List.{list_any}
use Rattle.std.specs.Map.{lookup}
use Rattle.std.specs.Ordering.{nat_cmp}
use Rattle.std.specs.BTreeMap.{is_at}
use Rattle.std.proofs.lemmas.Bool.{cases_eq, cases_Bool}
use Rattle.std.proofs.lemmas.Bool.Decides.{Decides-eqb, nat_tests}
use Rattle.std.proofs.lemmas.List.Folds.{list_any_more}
use Rattle.staged.specs.Adding.{AreAddedSince}
use Rattle.staged.specs.Pages.{page_at}
use Rattle.staged.specs.declared.pages.Page.{Page}
use Rattle.staged.proofs.Mapped.{Entry, as_pages, at_entry, opened, opened_unless, is_same, is_other}

eq_same : (n m : ℕ) → n ≡ m → nat_eq n m ≡ true
eq_same n m is = (Decides-eqb n m).1 is

eq_other : (n m : ℕ) → n ≢ m → nat_eq n m ≡ false
eq_other n m other = grind (arith, nat_tests)

or_true : (b c : Bool) → c ≡ true → (b || c) ≡ true
or_true true c is = refl
or_true false c is = is

or_last : (b c : Bool) → c ≡ false → (b || c) ≡ b
or_last true c is = refl
or_last false c is = is

differ : true ≡ false → ⊥
differ is = cc

pub none_noted : (pages : List Page) → AreAddedSince pages pages []
none_noted pages = record { fresh = λ n is. absurd (differ (sym is)); others = λ n is. refl }

-- what was added is taken out again
pub taken_back : (first pages : List Page) (noted : List ℕ) (n : ℕ) → AreAddedSince first pages noted → cond (list_any (nat_eq n) noted) None (page_at pages n) ≡ page_at first n
taken_back first pages noted n was = ⊎_elim
    (λ (is : list_any (nat_eq n) noted ≡ true). ap (λ (b : Bool). cond b None (page_at pages n)) is ∙ sym (was.fresh n is))
    (λ (is : list_any (nat_eq n) noted ≡ false). ap (λ (b : Bool). cond b None (page_at pages n)) is ∙ was.others n is)
    (cases_Bool (list_any (nat_eq n) noted))

-- one more page of these numbers was taken out
pub taken_out : (start : Option (List ℕ)) (numbers : List ℕ) (old new : List Entry) (k n d : ℕ) → k < length numbers
    → page_at (as_pages old) n ≡ cond (list_any (nat_eq n) (take k numbers)) None start
    → ((q : ℕ) → lookup (is_at (nat_cmp q)) new ≡ cond (is_at (nat_cmp (get_or numbers k d)) q) None (lookup (is_at (nat_cmp q)) old))
    → page_at (as_pages new) n ≡ cond (list_any (nat_eq n) (take (k + 1) numbers)) None start
taken_out start numbers old new k n d within so_far updates =
    let number = get_or numbers k d in
    let before : Bool = list_any (nat_eq n) (take k numbers) in
    let more : list_any (nat_eq n) (take (k + 1) numbers) ≡ (before || nat_eq n number) = list_any_more (nat_eq n) numbers k d within in
    let goes : page_at (as_pages new) n ≡ cond (is_at (nat_cmp number) n) None (cond before None start) =
    at_entry new n ∙ ap opened (updates n) ∙ opened_unless (is_at (nat_cmp number) n) (lookup (is_at (nat_cmp n)) old) ∙ ap (λ (p : Option (List ℕ)). cond (is_at (nat_cmp number) n) None p) (sym (at_entry old n) ∙ so_far) in
    elim (cases_eq number n) [
      | inl same ↦
          goes ∙ ap (λ (b : Bool). cond b None (cond before None start)) (is_same number n (sym same))
          ∙ sym (ap (λ (b : Bool). cond b None start) (more ∙ or_true before (nat_eq n number) (eq_same n number (sym same))))
      | inr other ↦
          goes ∙ ap (λ (b : Bool). cond b None (cond before None start)) (is_other number n (λ same. other (sym same)))
          ∙ sym (ap (λ (b : Bool). cond b None start) (more ∙ or_last before (nat_eq n number) (eq_other n number (λ same. other (sym same)))))
    ]
