-- A set whose texts are given anew, one property after the other.
use Rattle.std.proofs.Common.{◌≡◌, ◌∙◌, Bool, true, false, ℕ, ◌+◌, ◌<◌, ◌≤◌, List, [], ◌∷◌, ◌++◌, cond, drop, map, Ok, Err, Result, refl, sym, ap, subst, append_assoc, append-nil, arith, Option, Some, None}
use Rattle.std.specs.Prelude.{◌==◌, ◌||◌, not, nat_lt, filter}
use Rattle.std.proofs.lemmas.Cmp.{ranked}
use Rattle.std.specs.declared.cmp.Ordering.TheVariants.{Less}
use Rattle.std.specs.List.{AllByRecursion}
use Rattle.std.specs.List.Sorted.{IsStrictlySortedBy}
use Rattle.std.specs.Map.{keys_of}
use Rattle.std.specs.Ordering.{nat_cmp}
use Rattle.std.proofs.lemmas.Bool.Decides.{nat_tests}
use Rattle.cfb_medium.specs.declared.error.Error.{Error}
use Rattle.cfb_medium.specs.declared.error.Error.TheVariants.{InvalidData}
use Rattle.msi_pool.proofs.PoolHeads.{bind_cases}
use Rattle.msi_props.specs.Props.{is_i1, properties_at, property_at, property_put, property_removed, under, Property, Props}
use Rattle.msi_props.specs.Props as property
use Rattle.msi_texts.specs.Results.{◌>>=◌, unless_not}
use Rattle.msi_texts.specs.declared.codepage.CodePage.{CodePage}
use Rattle.reread_texts.specs.Sets.{given, lacking_at, lacking_among, lacking_value, lacking_values, text_in, value_by, values_by, values_under, RiseFrom, IsOnTheWay}
use Rattle.reread_texts.specs.Texts.{all_have_characters, text_of}
use Rattle.reread_texts.specs.declared.page.TextPage.{TextPage}

-- put in the place of a value of its number, behind values of smaller ones
put_there : (n low : ℕ) (v w : Property) (done rest : List (ℕ × Property)) → AllByRecursion (λ x. x.0 < low) done → low ≤ n → property_put n v (done ++ (n, w) ∷ rest) ≡ done ++ (n, v) ∷ rest
put_there n low v w [] rest below least = grind (arith, nat_tests)
put_there n low v w (x ∷ xs) rest below least =
    let less : x.0 < n = omega (arith, below.0) in
    let later = put_there n low v w xs rest below.1 least in
    let passed : property_put n v (x ∷ (xs ++ (n, w) ∷ rest)) ≡ x ∷ property_put n v (xs ++ (n, w) ∷ rest) = grind (arith, nat_tests, less) in
    passed ∙ ap (λ ps. x ∷ ps) later

-- one more, below the next
one_below : (low n : ℕ) (v : Property) (done : List (ℕ × Property)) → AllByRecursion (λ x. x.0 < low) done → low ≤ n → AllByRecursion (λ x. x.0 < n + 1) (done ++ (n, v) ∷ [])
one_below low n v [] below least = (omega arith, tt)
one_below low n v (x ∷ xs) below least = (omega (arith, below.0, least), one_below low n v xs below.1 least)

still_below : (low n : ℕ) (done : List (ℕ × Property)) → AllByRecursion (λ x. x.0 < low) done → low ≤ n → AllByRecursion (λ x. x.0 < n + 1) done
still_below low n [] below least = tt
still_below low n (x ∷ xs) below least = (omega (arith, below.0, least), still_below low n xs below.1 least)

-- what is no text is read alike by each page
record IsAlike (p : TextPage) (q : CodePage) (n : ℕ) (v : Property) : Type 0 where
  same : value_by p v ≡ under q v
  lacks_none : lacking_value p n v ≡ []

alike : (p : TextPage) (q : CodePage) (n : ℕ) (v : Property) → None ≡ text_in v → IsAlike p q n v
alike p q n (property.text t) other = cc
alike p q n property.empty other = record { same = refl; lacks_none = refl }
alike p q n property.null other = record { same = refl; lacks_none = refl }
alike p q n (property.i1 z) other = record { same = refl; lacks_none = refl }
alike p q n (property.i2 z) other = record { same = refl; lacks_none = refl }
alike p q n (property.i4 z) other = record { same = refl; lacks_none = refl }
alike p q n (property.time t) other = record { same = refl; lacks_none = refl }

-- property 1 is passed over, and another is the first
removed_one : (n : ℕ) (v : Property) (vs : List (ℕ × Property)) → (n == 1) ≡ true → property_removed 1 ((n, v) ∷ vs) ≡ property_removed 1 vs
removed_one n v vs is = rw is refl

kept_one : (n : ℕ) (v : Property) (vs : List (ℕ × Property)) → (n == 1) ≡ false → property_removed 1 ((n, v) ∷ vs) ≡ (n, v) ∷ property_removed 1 vs
kept_one n v vs is = rw is refl

abbrev values_of : Result (List (ℕ × Property)) Error → List (ℕ × Property)
values_of (Ok values) = values
values_of (Err e) = []

-- the numbers of a map rise
pub rise_so : (low : ℕ) (es : List (ℕ × ℕ)) → AllByRecursion (λ k. low ≤ k) (keys_of es) → IsStrictlySortedBy nat_cmp (keys_of es) → RiseFrom low es
unfolding IsStrictlySortedBy
rise_so low [] least sorted = tt
rise_so low (e ∷ es) least sorted = (least.0, rise_so (e.0 + 1) es (above e.0 (keys_of es) sorted.0) sorted.1)
  where
    above : (k : ℕ) (ks : List ℕ) → AllByRecursion (λ y. nat_cmp k y ≡ Less) ks → AllByRecursion (λ y. k + 1 ≤ y) ks
    above k [] all = tt
    above k (y ∷ ys) all = let less : k < y = ranked k y Less (sym all.0) in (omega (arith, less), above k ys all.1)

pub from_none : (ks : List ℕ) → AllByRecursion (λ k. 0 ≤ k) ks
from_none [] = tt
from_none (k ∷ ks) = (omega arith, from_none ks)

-- no property is given
given_no_one : (p : TextPage) (n : ℕ) (o : Option (List ℕ)) (s : Props) → (n == 1) ≡ true → given p n o s ≡ s
given_no_one p n None s is = refl
given_no_one p n (Some t) s is = rw is refl

lacks_no_one : (p : TextPage) (n : ℕ) (o : Option (List ℕ)) → (n == 1) ≡ true → lacking_at p n o ≡ []
lacks_no_one p n None is = refl
lacks_no_one p n (Some t) is = rw is refl

abbrev text_or : List ℕ → Option (List ℕ) → List ℕ
text_or t None = t
text_or t (Some own) = own

-- one property more
module _ (p : TextPage) (q : CodePage) (version : ℕ) (section : List ℕ) (all : List (ℕ × Property)) (first : Props) (lacked : List ℕ) where
  abbrev pub Stands : List (ℕ × ℕ) → Props → List ℕ → Type 0
  Stands left now lacking = IsOnTheWay p q version section all first lacked left now lacking

  module _ (qs : List (ℕ × ℕ)) (n : ℕ) (rest done : List (ℕ × Property)) (low : ℕ) (now : Props) (lacking : List ℕ) (reads : properties_at version section qs ≡ Ok rest)
      (below : AllByRecursion (λ x. x.0 < low) done) (least : low ≤ n) (rising : RiseFrom (n + 1) qs) where
    abbrev Before : Property → Type 0
    Before v = (now ≡ record first { values = done ++ values_under q ((n, v) ∷ rest) }) × (done ++ values_by p ((n, v) ∷ rest) ≡ values_by p all)
        × (lacking ++ lacking_values p ((n, v) ∷ rest) ≡ lacked ++ lacking_values p all)

    over_one : (v : Property) (o : Option (List ℕ)) → Before v → (n == 1) ≡ true → Stands qs (given p n o now) (lacking ++ lacking_at p n o)
    over_one v o was is =
        let passed = removed_one n v rest is in
        record {
          more = rest;
          reads = reads;
          done = done;
          low = n + 1;
          below = still_below low n done below least;
          rising = rising;
          holds = given_no_one p n o now is ∙ was.0 ∙ ap (λ vs. record first { values = done ++ map (λ (v : ℕ × Property). (v.0, under q v.1)) vs }) passed;
          gives = ap (λ vs. done ++ map (λ (v : ℕ × Property). (v.0, value_by p v.1)) vs) (sym passed) ∙ was.1;
          lacks = ap (λ l. (lacking ++ l) ++ lacking_values p rest) (lacks_no_one p n o is) ∙ ap (λ l. l ++ lacking_values p rest) (append-nil lacking)
              ∙ ap (λ vs. lacking ++ lacking_among p vs) (sym passed) ∙ was.2;
        }

    over_other : (v : Property) → None ≡ text_in v → Before v → (n == 1) ≡ false → Stands qs now (lacking ++ [])
    over_other v other was is =
        let kept = kept_one n v rest is in
        let so = alike p q n v other in
        record {
          more = rest;
          reads = reads;
          done = done ++ (n, under q v) ∷ [];
          low = n + 1;
          below = one_below low n (under q v) done below least;
          rising = rising;
          holds = was.0 ∙ ap (λ vs. record first { values = done ++ map (λ (v : ℕ × Property). (v.0, under q v.1)) vs }) kept
              ∙ ap (λ vs. record first { values = vs }) (sym (append_assoc done ((n, under q v) ∷ []) (values_under q rest)));
          gives = append_assoc done ((n, under q v) ∷ []) (values_by p rest) ∙ ap (λ w. done ++ (n, w) ∷ values_by p rest) (sym so.same)
              ∙ ap (λ vs. done ++ map (λ (v : ℕ × Property). (v.0, value_by p v.1)) vs) (sym kept) ∙ was.1;
          lacks = ap (λ l. l ++ lacking_values p rest) (append-nil lacking) ∙ ap (λ l. lacking ++ (l ++ lacking_values p rest)) (sym so.lacks_none)
              ∙ ap (λ vs. lacking ++ lacking_among p vs) (sym kept) ∙ was.2;
        }

    over_text : (t : List ℕ) → Before (property.text t) → (n == 1) ≡ false → Stands qs (given p n (Some t) now) (lacking ++ lacking_at p n (Some t))
    over_text t was is =
        let kept = kept_one n (property.text t) rest is in
        let w = property.text (text_of p t) in
        let held : now ≡ record first { values = done ++ (n, under q (property.text t)) ∷ values_under q rest } = was.0 ∙ ap (λ vs. record first { values = done ++ map (λ (v : ℕ × Property). (v.0, under q v.1)) vs }) kept in
        let put = put_there n low w (under q (property.text t)) done (values_under q rest) below least in
        let gave : given p n (Some t) now ≡ record now { values = property_put n w now.values } = rw is refl in
        let lack : lacking_at p n (Some t) ≡ lacking_value p n (property.text t) = rw is refl in
        record {
          more = rest;
          reads = reads;
          done = done ++ (n, w) ∷ [];
          low = n + 1;
          below = one_below low n w done below least;
          rising = rising;
          holds = gave ∙ ap (λ (s : Props). record s { values = property_put n w s.values }) held ∙ ap (λ vs. record first { values = vs }) put
              ∙ ap (λ vs. record first { values = vs }) (sym (append_assoc done ((n, w) ∷ []) (values_under q rest)));
          gives = append_assoc done ((n, w) ∷ []) (values_by p rest) ∙ ap (λ vs. done ++ map (λ (v : ℕ × Property). (v.0, value_by p v.1)) vs) (sym kept) ∙ was.1;
          lacks = ap (λ l. (lacking ++ l) ++ lacking_values p rest) lack ∙ append_assoc lacking (lacking_value p n (property.text t)) (lacking_values p rest)
              ∙ ap (λ vs. lacking ++ lacking_among p vs) (sym kept) ∙ was.2;
        }

    by_text : (v : Property) (o : Option (List ℕ)) → o ≡ text_in v → Before v → (n == 1) ≡ false → Stands qs (given p n o now) (lacking ++ lacking_at p n o)
    by_text v None same was is = over_other v same was is
    by_text (property.text t) (Some own) same was is =
        let eq : t ≡ own = ap (text_or []) (sym same) in
        subst (λ x. Stands qs (given p n (Some x) now) (lacking ++ lacking_at p n (Some x))) eq (over_text t was is)
    by_text property.empty (Some own) same was is = cc
    by_text property.null (Some own) same was is = cc
    by_text (property.i1 z) (Some own) same was is = cc
    by_text (property.i2 z) (Some own) same was is = cc
    by_text (property.i4 z) (Some own) same was is = cc
    by_text (property.time z) (Some own) same was is = cc

    by_number : (b : Bool) (v : Property) (o : Option (List ℕ)) → (n == 1) ≡ b → o ≡ text_in v → Before v → Stands qs (given p n o now) (lacking ++ lacking_at p n o)
    by_number true v o is same was = over_one v o was is
    by_number false v o is same was = by_text v o same was is

  pub step : (r : ℕ × ℕ) (here qs : List (ℕ × ℕ)) (o : Option (List ℕ)) (now now2 : Props) (lacking lacking2 : List ℕ) → here ≡ r ∷ qs
      → ((v : Property) → property_at (drop r.1 section) ≡ Ok v → o ≡ text_in v) → now2 ≡ given p r.0 o now → lacking2 ≡ lacking ++ lacking_at p r.0 o
      → Stands here now lacking → Stands qs now2 lacking2
  step r here qs o now now2 lacking lacking2 cut is new lacks it =
      let read : properties_at version section (r ∷ qs) ≡ Ok it.more = ap (properties_at version section) (sym cut) ∙ it.reads in
      let rising : RiseFrom it.low (r ∷ qs) = subst (RiseFrom it.low) cut it.rising in
      let v = bind_cases (property_at (drop r.1 section)) _ it.more read in
      let may = bind_cases (unless_not (nat_lt 0 version || not (is_i1 v.0)) InvalidData) _ it.more v.2 in
      let rest = bind_cases (properties_at version section qs) _ it.more may.2 in
      let joined : it.more ≡ (r.0, v.0) ∷ rest.0 = sym (ap values_of rest.2) in
      let was : (now ≡ record first { values = it.done ++ values_under q ((r.0, v.0) ∷ rest.0) }) × (it.done ++ values_by p ((r.0, v.0) ∷ rest.0) ≡ values_by p all)
      × (lacking ++ lacking_values p ((r.0, v.0) ∷ rest.0) ≡ lacked ++ lacking_values p all)
      = (it.holds ∙ ap (λ m. record first { values = it.done ++ values_under q m }) joined, ap (λ m. it.done ++ values_by p m) (sym joined) ∙ it.gives, ap (λ m. lacking ++ lacking_values p m) (sym joined) ∙ it.lacks) in
      let there = by_number qs r.0 rest.0 it.done it.low now lacking rest.1 it.below rising.0 rising.1 (r.0 == 1) v.0 o refl (is v.0 v.1) was in
      subst (λ l. Stands qs now2 l) (sym lacks) (subst (λ s. Stands qs s (lacking ++ lacking_at p r.0 o)) (sym new) there)

  -- before the first, and behind the last
  pub begins : (pairs : List (ℕ × ℕ)) → properties_at version section pairs ≡ Ok all → RiseFrom 0 pairs → first.values ≡ values_under q all → Stands pairs first lacked
  begins pairs reads rising values = record {
    more = all;
    reads = reads;
    done = [];
    low = 0;
    below = tt;
    rising = rising;
    holds = ap (λ vs. record first { values = vs }) values;
    gives = refl;
    lacks = refl;
  }

  pub ends : (left : List (ℕ × ℕ)) (now : Props) (lacking : List ℕ) → left ≡ [] → Stands left now lacking → (now ≡ record first { values = values_by p all }) × (lacking ≡ lacked ++ lacking_values p all)
  ends left now lacking over it =
      let read : Ok [] ≡ Ok it.more = ap (properties_at version section) (sym over) ∙ it.reads in
      let empty : it.more ≡ [] = sym (ap values_of read) in
      let given_all : it.done ≡ values_by p all = sym (append-nil it.done) ∙ ap (λ m. it.done ++ values_by p m) (sym empty) ∙ it.gives in (
        it.holds ∙ ap (λ m. record first { values = it.done ++ values_under q m }) empty ∙ ap (λ vs. record first { values = vs }) (append-nil it.done ∙ given_all),
        sym (append-nil lacking) ∙ ap (λ m. lacking ++ lacking_values p m) (sym empty) ∙ it.lacks,
      )

pub rises : (es : List (ℕ × ℕ)) → IsStrictlySortedBy nat_cmp (keys_of es) → RiseFrom 0 es
rises es sorted = rise_so 0 es (from_none (keys_of es)) sorted
