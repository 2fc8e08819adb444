-- Which sets are read as they are written, told value by value.
use Rattle.std.proofs.Common.{◌≡◌, ◌≤◌, ◌<◌, ◌+◌, ◌-◌, ◌*◌, ◌/◌, ◌^◌, ◌∙◌, ℕ, true, false, zero, suc, List, [], ◌∷◌, length, get_or, drop, map, refl, sym, subst, ap, arith, add-one, drop-cons, length-append}
use Rattle.std.specs.List.{AllByRecursion}
use Rattle.std.proofs.lemmas.Bool.Decides.{nat_tests}
use Rattle.std.proofs.Common.{is_le, nat_cmp}
use Rattle.cfb_medium.specs.Times.{units_of}
use Rattle.cfb_medium.specs.declared.timestamp.Timestamp.{Timestamp}
use Rattle.msi_texts.proofs.NumberBytes.{length-le_bytes}
use Rattle.msi_texts.specs.declared.codepage.CodePage.{CodePage}
use Rattle.msi_props.specs.Held.{pair_in, property_in}
use Rattle.msi_props.specs.Kept.{IsKeptValue, Rise}
use Rattle.msi_props.specs.Props.{Props, Property, is_in_size, property_bytes, props_bytes}
use Rattle.msi_props.specs.declared.value.PropertyValue.{PropertyValue}
use Rattle.msi_props.proofs.SetRoundTrip.{bodies}
use Rattle.msi_props.proofs.SetWriting.{length-offsets}

abbrev Value : Type 0
Value = ℕ × Property

abbrev Entry : Type 0
Entry = ℕ × PropertyValue

-- ---- a walk over the values

-- the values from a place on
abbrev pub from_place : ℕ → List Entry → List Value
from_place i xs = map pair_in (drop i xs)

pub next_place : (xs : List Entry) (i : ℕ) (e : Entry) → i < length xs → e ≡ get_or xs i e → from_place i xs ≡ pair_in e ∷ from_place (i + 1) xs
next_place xs i e within is =
    ap (map pair_in) (drop-cons xs i e within) ∙ subst (λ f. map pair_in (f ∷ drop (suc i) xs) ≡ pair_in e ∷ from_place (suc i) xs) is refl ∙ ap (λ k. pair_in e ∷ from_place k xs) (sym (add-one i))

pub no_place : (xs : List Entry) (i : ℕ) → length xs ≤ i → from_place i xs ≡ []
no_place [] zero past = refl
no_place [] (suc i) past = refl
no_place (x ∷ xs) zero past = absurd (omega (arith, past))
no_place (x ∷ xs) (suc i) past = no_place xs i (omega (arith, past))

-- what holds of all is decided by what is left
pub record Decides (P : Type 0) (Q : Type 0) : Type 0 where
  pub all : Q → P
  pub rest : P → Q

-- ---- numbers that rise

each : {P Q : Value → Type 0} → ((v : Value) → P v → Q v) → (vs : List Value) → AllByRecursion P vs → AllByRecursion Q vs
each so [] all = tt
each so (v ∷ vs) all = (so v all.0, each so vs all.1)

-- numbers of four bytes that rise from this one on
abbrev pub RiseFrom : ℕ → List Value → Type 0
RiseFrom least vs = AllByRecursion (λ v. least ≤ v.0) vs × Rise vs × AllByRecursion (λ v. v.0 < 2 ^ 32) vs

any_number : (vs : List Value) → AllByRecursion (λ (v : Value). 0 ≤ v.0) vs
any_number [] = tt
any_number (v ∷ vs) = (omega arith, any_number vs)

pub rises_from_none : (vs : List Value) → Decides (Rise vs × AllByRecursion (λ (v : Value). v.0 < 2 ^ 32) vs) (RiseFrom 0 vs)
rises_from_none vs = record { all = λ q. (q.1, q.2); rest = λ p. (any_number vs, p.0, p.1) }

pub rises_on : (least : ℕ) (v : Value) (vs : List Value) → least ≤ v.0 → v.0 < 2 ^ 32 → RiseFrom (v.0 + 1) vs → RiseFrom least (v ∷ vs)
rises_on least v vs low small q = (
  (low, each {P = λ w. v.0 + 1 ≤ w.0} {Q = λ w. least ≤ w.0} (λ w more. omega (arith, more, low)) vs q.0),
  (each {P = λ w. v.0 + 1 ≤ w.0} {Q = λ w. v.0 < w.0} (λ w more. omega (arith, more)) vs q.0, q.1),
  (small, q.2),
)

pub rises_behind : (least : ℕ) (v : Value) (vs : List Value) → RiseFrom least (v ∷ vs) → RiseFrom (v.0 + 1) vs
rises_behind least v vs q = (each {P = λ w. v.0 < w.0} {Q = λ w. v.0 + 1 ≤ w.0} (λ w more. omega (arith, more)) vs q.1.0, q.1.1, q.2.1)

-- ---- moments

pub not_above : (moment last : Timestamp) → units_of last ≡ 18446744073709551615 → is_le (nat_cmp moment.units last.units) ≡ true → units_of moment < 2 ^ 64
not_above moment last is le = grind (arith, nat_tests, is, le)

pub is_not_above : (moment last : Timestamp) → units_of last ≡ 18446744073709551615 → units_of moment < 2 ^ 64 → is_le (nat_cmp moment.units last.units) ≡ true
is_not_above moment last is small = grind (arith, nat_tests, is, small)

-- ---- how many bytes a set takes

-- the bytes of values with their numbers and offsets
abbrev pub need : CodePage → List Value → ℕ
need page [] = 0
need page (v ∷ vs) = 8 + length (property_bytes page v.1) + need page vs

need_is : (page : CodePage) (vs : List Value) → need page vs ≡ 8 * length vs + length (bodies page vs)
need_is page [] = refl
need_is page (v ∷ vs) = omega (arith, need_is page vs, length-append (property_bytes page v.1) (bodies page vs))

pub set_len : (s : Props) → length s.class ≡ 16 → length s.format ≡ 16 → length (props_bytes s) ≡ 56 + need s.page s.values
set_len s class format =
    let offsets = length-offsets s.page (8 + 8 * length s.values) s.values in
    simp (length-append, length-le_bytes) (omega (arith, offsets, need_is s.page s.values, class, format))

pub starts : (a b all : ℕ) → a ≡ 16 → b ≡ 16 → 4 * ((4294967292 - (a + b + 24)) / 4) + all ≡ 4294967236 + all
starts a b all p q = rw (p, q) refl

module _ (xs : List Entry) (i : ℕ) (e : Entry) (within : i < length xs) (is : e ≡ get_or xs i e) where
  -- one number more
  pub rises_next : (least : ℕ) (P : Type 0) → least ≤ e.0 → e.0 < 2 ^ 32 → Decides P (RiseFrom least (from_place i xs)) → Decides P (RiseFrom (e.0 + 1) (from_place (i + 1) xs))
  rises_next least P low small d = record {
    all = λ q. d.all (subst (RiseFrom least) (sym (next_place xs i e within is)) (rises_on least (pair_in e) (from_place (i + 1) xs) low small q));
    rest = λ p. rises_behind least (pair_in e) (from_place (i + 1) xs) (subst (RiseFrom least) (next_place xs i e within is) (d.rest p));
  }

  pub rises_not : (least : ℕ) (P : Type 0) → e.0 < least → Decides P (RiseFrom least (from_place i xs)) → P → ⊥
  rises_not least P low d p = let q = subst (RiseFrom least) (next_place xs i e within is) (d.rest p) in omega (arith, q.0.0, low)

  -- one value more
  pub keeps_next : (page : CodePage) (P : Type 0) → IsKeptValue page (property_in e.1) → Decides P (AllByRecursion (λ v. IsKeptValue page v.1) (from_place i xs)) → Decides P (AllByRecursion (λ v. IsKeptValue page v.1) (from_place (i + 1) xs))
  keeps_next page P kept d = record {
    all = λ q. d.all (subst (AllByRecursion (λ v. IsKeptValue page v.1)) (sym (next_place xs i e within is)) (kept, q));
    rest = λ p. (subst (AllByRecursion (λ v. IsKeptValue page v.1)) (next_place xs i e within is) (d.rest p)).1;
  }

  pub keeps_one : (page : CodePage) (P : Type 0) → Decides P (AllByRecursion (λ v. IsKeptValue page v.1) (from_place i xs)) → P → IsKeptValue page (property_in e.1)
  keeps_one page P d p = (subst (AllByRecursion (λ v. IsKeptValue page v.1)) (next_place xs i e within is) (d.rest p)).0

  -- the words of a value are taken off
  pub need_next : (page : CodePage) (words left all most : ℕ) → 4 * words ≡ 8 + length (property_bytes page (property_in e.1)) → words ≤ left → 4 * left + all ≡ most + need page (from_place i xs) → 4 * (left - words) + all ≡ most + need page (from_place (i + 1) xs)
  need_next page words left all most size room so =
      let next : need page (from_place i xs) ≡ 8 + length (property_bytes page (property_in e.1)) + need page (from_place (i + 1) xs) = ap (need page) (next_place xs i e within is) in
      omega (arith, next, size, room, so)

  pub need_more : (page : CodePage) (words left all most : ℕ) → 4 * words ≡ 8 + length (property_bytes page (property_in e.1)) → left < words → 4 * left + all ≡ most + need page (from_place i xs) → most + 4 ≤ all
  need_more page words left all most size room so =
      let next : need page (from_place i xs) ≡ 8 + length (property_bytes page (property_in e.1)) + need page (from_place (i + 1) xs) = ap (need page) (next_place xs i e within is) in
      omega (arith, next, size, room, so)

pub rises_all : (xs : List Entry) (i least : ℕ) (P : Type 0) → length xs ≤ i → Decides P (RiseFrom least (from_place i xs)) → P
rises_all xs i least P past d = d.all (subst (RiseFrom least) (sym (no_place xs i past)) (tt, tt, tt))

pub keeps_all : (page : CodePage) (xs : List Entry) (i : ℕ) (P : Type 0) → length xs ≤ i → Decides P (AllByRecursion (λ v. IsKeptValue page v.1) (from_place i xs)) → P
keeps_all page xs i P past d = d.all (subst (AllByRecursion (λ v. IsKeptValue page v.1)) (sym (no_place xs i past)) tt)

need_none : (page : CodePage) (xs : List Entry) (i : ℕ) → length xs ≤ i → need page (from_place i xs) ≡ 0
need_none page xs i past = ap (need page) (no_place xs i past)

module _ (s : Props) (class : length s.class ≡ 16) (format : length s.format ≡ 16) (xs : List Entry) (values : map pair_in xs ≡ s.values) where
  pub size_fits : (i left : ℕ) → length xs ≤ i → 4 * left + need s.page (map pair_in xs) ≡ 4294967236 + need s.page (from_place i xs) → true ≡ is_in_size s
  size_fits i left past so =
      let few : need s.page s.values ≤ 4294967236 = omega (arith, so, need_none s.page xs i past, ap (need s.page) values) in
      let len = set_len s class format in
      sym (grind (arith, nat_tests, few, len))

  pub size_grows : 4294967236 + 4 ≤ need s.page (map pair_in xs) → false ≡ is_in_size s
  size_grows more =
      let many : 4294967240 ≤ need s.page s.values = omega (arith, more, ap (need s.page) values) in
      let len = set_len s class format in
      sym (grind (arith, nat_tests, many, len))
