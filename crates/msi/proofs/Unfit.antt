-- The first texts that don't fit: those that were taken, and those to come.
use Rattle.std.proofs.Common.{◌≡◌, ◌≤◌, ◌<◌, ◌+◌, ◌-◌, ◌∙◌, ◌++◌, ℕ, zero, suc, List, [], ◌∷◌, Option, Some, None, length, get_or, map, take, refl, sym, ap, arith, append_assoc, append-nil, length-append}
use Rattle.std.proofs.lemmas.List.{length-map, length-take}
use Rattle.std.specs.List.{cons_option}
use Rattle.std.specs.Option.{option_to_list}
use Rattle.std.specs.Prelude.{String, string_bytes}
use Rattle.std.specs.declared.alloc.Global.{Global}
use Rattle.msi_props.proofs.SetFits.{from_place, next_place, no_place}
use Rattle.msi_props.specs.Held.{property_in}
use Rattle.msi_props.specs.declared.value.PropertyValue.{PropertyValue}
use Rattle.msi_texts.specs.declared.codepage.CodePage.{CodePage}
use Rattle.msi.specs.Fitting.{unfit_text, unfit_values}

abbrev pub Texts : Type 0
Texts = List (List ℕ)

-- as many of those that are left as may follow make up all
pub record Taken (most : ℕ) (taken left all : Texts) : Type 0 where
  pub few : length taken ≤ most
  pub so : taken ++ take (most - length taken) left ≡ all

-- one text more, or none
pub taken_next : (most : ℕ) (taken : Texts) (text : Option (List ℕ)) (rest all : Texts) → length taken < most → Taken most taken (cons_option text rest) all → Taken most (taken ++ option_to_list text) rest all
taken_next most taken None rest all room t = record { few = let same = ap length (append-nil taken) in omega (arith, same, t.few); so = ap (λ ts. ts ++ take (most - length ts) rest) (append-nil taken) ∙ t.so }
taken_next most taken (Some x) rest all room t =
    let len : length (taken ++ (x ∷ [])) ≡ length taken + 1 = length-append taken (x ∷ []) in
    record {
      few = omega (arith, len, room);
      so = sym (one (most - length taken) (most - length (taken ++ (x ∷ []))) (omega (arith, len, room))) ∙ t.so;
    }
  where
    one : (n m : ℕ) → n ≡ suc m → taken ++ take n (x ∷ rest) ≡ (taken ++ (x ∷ [])) ++ take m rest
    one n m is = rw is (sym (append_assoc taken (x ∷ []) (take m rest)))

-- no more may follow
pub taken_full : (most : ℕ) (taken left all : Texts) → length taken ≡ most → Taken most taken left all → taken ≡ all
taken_full most taken left all full t =
    let none : most - length taken ≡ 0 = omega (arith, full) in
    sym (append-nil taken) ∙ ap (λ n. taken ++ take n left) (sym none) ∙ t.so

-- none follows
pub taken_all : (most : ℕ) (taken left all : Texts) → left ≡ [] → Taken most taken left all → taken ≡ all
taken_all most taken left all empty t = sym (append-nil taken) ∙ ap (λ ts. taken ++ ts) (sym (none (most - length taken) left empty)) ∙ t.so
  where
    none : (n : ℕ) (ts : Texts) → ts ≡ [] → take n ts ≡ []
    none zero ts is = refl
    none (suc n) ts is = ap (take (suc n)) is

-- ---- of the values of a summary

abbrev Entry : Type 0
Entry = ℕ × PropertyValue

pub next_unfit : (page : CodePage) (xs : List Entry) (i : ℕ) (e : Entry) → i < length xs → e ≡ get_or xs i e → unfit_values page (from_place i xs) ≡ cons_option (unfit_text page (property_in e.1)) (unfit_values page (from_place (i + 1) xs))
next_unfit page xs i e within is = ap (unfit_values page) (next_place xs i e within is)

pub no_unfit : (page : CodePage) (xs : List Entry) (i : ℕ) → length xs ≤ i → unfit_values page (from_place i xs) ≡ []
no_unfit page xs i past = ap (unfit_values page) (no_place xs i past)

-- the first of two lists, and then of the second
pub first_of_both : (most : ℕ) (one other : Texts) → take most one ++ take (most - length (take most one)) other ≡ take most (one ++ other)
first_of_both zero one other = refl
first_of_both (suc n) [] other = let whole : suc n - 0 ≡ suc n = omega arith in ap (λ k. take k other) whole
first_of_both (suc n) (x ∷ one) other =
    let fewer : suc n - suc (length (take n one)) ≡ n - length (take n one) = omega arith in
    ap (λ k. x ∷ (take n one ++ take k other)) fewer ∙ ap (λ ts. x ∷ ts) (first_of_both n one other)

-- so many were taken of the first
pub short_of : (most : ℕ) (one : Texts) (texts : List (String Global)) → map string_bytes texts ≡ take most one → length texts ≤ most
short_of most one texts is = omega (arith, length-map texts (string_bytes {Z = Global}), ap length is, length-take most one)

-- and then of the second
pub both_taken : (most : ℕ) (one other : Texts) (texts : List (String Global)) (all : Texts) → map string_bytes texts ≡ take most one → all ≡ map string_bytes texts ++ take (most - length texts) other → all ≡ take most (one ++ other)
both_taken most one other texts all is so =
    so ∙ ap (λ n. map string_bytes texts ++ take (most - n) other) (sym (length-map texts (string_bytes {Z = Global}))) ∙ ap (λ ts. ts ++ take (most - length ts) other) is ∙ first_of_both most one other
