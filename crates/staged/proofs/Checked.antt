-- What is known after the numbers of the first pages of a log were read.
use Rattle.std.proofs.Common.{inl, inr, ⊎_elim, ◌⊎◌, ◌≡◌, ◌≢◌, ℕ, ◌+◌, ◌-◌, ◌*◌, ◌/◌, ◌<◌, ◌≤◌, List, [], ◌∷◌, ◌++◌, length, get_or, take, Option, is_some, refl, sym, ◌∙◌, ap, arith, subst, length-append, length-take}
use Rattle.std.specs.Prelude.{IsTrue}
use Rattle.std.specs.Option.{option_or}
use Rattle.std.proofs.lemmas.Bool.{cases_lt, cases_eq}
use Rattle.std.proofs.lemmas.List.{get_or_append_left, get_or-append_right, get_or-take, get_or_default}
use Rattle.staged.specs.Log.{pages_for}
use Rattle.staged.specs.Pages.{page_at, HoldsPage, Rises, Covers}
use Rattle.staged.specs.declared.pages.Page.{Page}
use Rattle.staged.proofs.Found.{at_head, at_append}
use Rattle.staged.proofs.Added.{holds_more, holds_one}

-- `least` is one past the last number, and `next` the first past the home file that none of them has
pub record Checked (pages : List Page) (home len next least : ℕ) : Type 0 where
  pub rising : Rises pages
  pub below : (k : ℕ) (d : Page) → k < length pages → (get_or pages k d).number < least
  pub tight : (m : ℕ) → ((k : ℕ) (d : Page) → k < length pages → (get_or pages k d).number < m) → least ≤ m
  pub held : (n : ℕ) → HoldsPage pages n → (n < least) × (512 * n < len)
  pub from : home / 512 ≤ next
  pub reached : (n : ℕ) → home / 512 ≤ n → n < next → HoldsPage pages n
  pub missing : HoldsPage pages next → ⊥

-- none was read
pub checked_none : (home len : ℕ) → Checked [] home len (home / 512) 0
checked_none home len = record {
  rising = record { rising = λ i j d less within. absurd (omega arith) };
  below = λ k d within. absurd (omega arith);
  tight = λ m each. omega arith;
  held = λ n there. absurd (cc there);
  from = omega arith;
  reached = λ n from less. absurd (omega arith);
  missing = λ there. cc;
}

pub checked_more : (pages : List Page) (page : Page) (home len next least new : ℕ) → Checked pages home len next least → least ≤ page.number → 512 * page.number < len
    → ((page.number ≡ next) × (new ≡ next + 1)) ⊎ ((page.number ≢ next) × (new ≡ next)) → Checked (pages ++ page ∷ []) home len new (page.number + 1)
checked_more pages page home len next least new checked above inside step = record {
  rising = record { rising = rising };
  below = λ k d within. below k d (omega (arith, length-append pages (page ∷ [])));
  tight = λ m each.
      let last : (get_or (pages ++ page ∷ []) (length pages) page).number < m = each (length pages) page (omega (arith, length-append pages (page ∷ []))) in
      let same : (get_or (pages ++ page ∷ []) (length pages) page).number ≡ page.number = late (length pages) page refl in
      omega arith;
  held = λ n there. ⊎_elim (λ (early : HoldsPage pages n). let e = checked.held n early in (omega arith, e.1)) (λ (one : HoldsPage (page ∷ []) n). let e = holds_one page n one in (omega arith, omega arith)) (holds_more pages (page ∷ []) n there);
  from = let e = checked.from in elim step [ inl now ↦ omega arith | inr not_now ↦ omega arith ];
  reached = λ n from less. elim step [
    | inl now ↦ elim (cases_eq page.number n) [
      | inl same ↦ here n same
      | inr other ↦ early n (checked.reached n from (omega arith))
    ]
    | inr not_now ↦ early n (checked.reached n from (omega arith))
  ];
  missing = λ there. ⊎_elim
      (λ (was : HoldsPage pages new). elim step [
        | inl now ↦ let e = (checked.held new was).0 in omega arith
        | inr not_now ↦ checked.missing (subst (λ (n : ℕ). HoldsPage pages n) not_now.1 was)
      ])
      (λ (one : HoldsPage (page ∷ []) new). let e = holds_one page new one in elim step [ inl now ↦ omega arith | inr not_now ↦ not_now.0 (e ∙ not_now.1) ])
      (holds_more pages (page ∷ []) new there);
}
  where
    before : (k : ℕ) (d : Page) → k < length pages → (get_or (pages ++ page ∷ []) k d).number ≡ (get_or pages k d).number
    before k d within = ap (λ (p : Page). p.number) (get_or_append_left pages (page ∷ []) d k within)

    late : (k : ℕ) (d : Page) → k ≡ length pages → (get_or (pages ++ page ∷ []) k d).number ≡ page.number
    late k d is =
        ap (λ (p : Page). p.number) (get_or-append_right pages (page ∷ []) k k d (sym is) (omega arith))
        ∙ ap (λ (i : ℕ). (get_or (page ∷ []) i d).number) (let e : k - k ≡ 0 = omega arith in e)

    below : (k : ℕ) (d : Page) → k < length pages + 1 → (get_or (pages ++ page ∷ []) k d).number < page.number + 1
    below k d within = elim (cases_lt k (length pages)) [
      | inl early ↦ let e = checked.below k d early in let f = before k d early in omega arith
      | inr last ↦ let f = late k d (omega arith) in omega arith
    ]

    rising : (i j : ℕ) (d : Page) → i < j → j < length (pages ++ page ∷ []) → (get_or (pages ++ page ∷ []) i d).number < (get_or (pages ++ page ∷ []) j d).number
    rising i j d less within = elim (cases_lt j (length pages)) [
      | inl early ↦ let e = checked.rising.rising i j d less early in let f = before i d (omega arith) in let h = before j d early in omega arith
      | inr last ↦
          let first : i < length pages = omega (arith, length-append pages (page ∷ [])) in
          let e = checked.below i d first in
          let f = before i d first in
          let h = late j d (omega (arith, length-append pages (page ∷ []))) in
          omega arith
    ]

    joined : (n : ℕ) → page_at (pages ++ page ∷ []) n ≡ option_or (page_at pages n) (page_at (page ∷ []) n)
    joined n = at_append pages (page ∷ []) n

    or_left : (p q : Option (List ℕ)) → IsTrue (is_some p) → IsTrue (is_some (option_or p q))
    or_left p q some = grind arith

    or_right : (p q : Option (List ℕ)) → IsTrue (is_some q) → IsTrue (is_some (option_or p q))
    or_right p q some = grind arith

    early : (n : ℕ) → HoldsPage pages n → HoldsPage (pages ++ page ∷ []) n
    early n was = subst (λ (p : Option (List ℕ)). IsTrue (is_some p)) (sym (joined n)) (or_left (page_at pages n) (page_at (page ∷ []) n) was)

    here : (n : ℕ) → page.number ≡ n → HoldsPage (pages ++ page ∷ []) n
    here n is = subst (λ (p : Option (List ℕ)). IsTrue (is_some p)) (sym (joined n)) (or_right (page_at pages n) (page_at (page ∷ []) n) (ap (λ (p : Option (List ℕ)). is_some p) (at_head page [] n is)))

-- a number that is too low
pub too_low : (pages : List Page) (k : ℕ) (d : Page) (home len next least : ℕ) → k < length pages → Checked (take k pages) home len next least → (get_or pages k d).number < least → Rises pages → ⊥
too_low pages k d home len next least within checked low rises =
    let e : least ≤ (get_or pages k d).number = checked.tight (get_or pages k d).number (λ j e less.
    let early : j < k = omega (arith, length-take k pages) in
    let same : (get_or (take k pages) j e).number ≡ (get_or pages j d).number = ap (λ (p : Page). p.number) (get_or-take k pages j e early ∙ get_or_default pages j e d (omega arith)) in
    let rest : (get_or pages j d).number < (get_or pages k d).number = rises.rising j k d early within in
    omega arith) in
    omega arith

-- a page that is missing
pub one_missing : (pages : List Page) (home len next least : ℕ) → Checked pages home len next least → home < len → next < pages_for len → Covers pages home len → ⊥
one_missing pages home len next least checked grows early covers =
    let e = checked.from in
    checked.missing (covers.there next grows (omega arith) (omega arith))

-- all are there
pub covers_all : (pages : List Page) (home len next least : ℕ) → Checked pages home len next least → home ≤ len → (home < len → pages_for len ≤ next) → Covers pages home len
covers_all pages home len next least checked longer whole = record {
  no_shorter = longer;
  inside = λ n held. (checked.held n held).1;
  there = λ n grows past begins. let e = whole grows in checked.reached n (omega arith) (omega arith);
}
