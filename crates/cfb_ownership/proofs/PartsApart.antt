-- Parts that stand apart.
use Rattle.std.proofs.Common.{◌≡◌, ◌≢◌, ℕ, List, [], ◌∷◌, ◌++◌, map, arith, suc}
use Rattle.std.specs.Prelude.{nat_eq, false}
use Rattle.std.specs.List.{flat_map, AllByRecursion, IsDistinct}
use Rattle.cfb_chains.specs.Changes.{AreDisjoint, AreDistinct, IsNotIn}
use Rattle.cfb_tree.proofs.NamesRead.{all_append}
use Rattle.cfb_spec.specs.Sound.{in_file, in_mini_stream, AreApart, Part}

-- none of the one is one of the others
abbrev pub Differ : List Part → List Part → Type 0
Differ xs ys = AllByRecursion (λ x. AllByRecursion (λ y. x ≢ y) ys) xs

pub nothing_differs : (xs : List Part) → Differ xs []
nothing_differs [] = tt
nothing_differs (x ∷ xs) = (tt, nothing_differs xs)

differ_cons : (x : Part) (xs ys : List Part) → AllByRecursion (λ y. x ≢ y) ys → Differ ys xs → Differ ys (x ∷ xs)
differ_cons x xs [] here rest = tt
differ_cons x xs (y ∷ ys) here rest = (((λ e. here.0 (cc)), rest.0), differ_cons x xs ys here.1 rest.1)

pub differ_sym : (xs ys : List Part) → Differ xs ys → Differ ys xs
differ_sym [] ys d = nothing_differs ys
differ_sym (x ∷ xs) ys d = differ_cons x xs ys d.0 (differ_sym xs ys d.1)

pub differ_both : (xs ys zs : List Part) → Differ xs ys → Differ xs zs → Differ xs (ys ++ zs)
differ_both [] ys zs first second = tt
differ_both (x ∷ xs) ys zs first second = (all_append (λ y. x ≢ y) ys zs first.0 second.0, differ_both xs ys zs first.1 second.1)

pub apart_append : (xs ys : List Part) → AreApart xs → AreApart ys → Differ xs ys → AreApart (xs ++ ys)
apart_append [] ys first second d = second
apart_append (x ∷ xs) ys first second d = (all_append (λ y. x ≢ y) xs ys first.0 d.0, apart_append xs ys first.1 second d.1)

pub all_split : (P : Part → Type 0) (xs ys : List Part) → AllByRecursion P (xs ++ ys) → AllByRecursion P xs × AllByRecursion P ys
all_split P [] ys all = (tt, all)
all_split P (x ∷ xs) ys all = let rest = all_split P xs ys all.1 in ((all.0, rest.0), rest.1)

pub differ_swap : (xs ys zs : List Part) → Differ xs (ys ++ zs) → Differ xs (zs ++ ys)
differ_swap [] ys zs d = tt
differ_swap (x ∷ xs) ys zs d = (let both = all_split (λ y. x ≢ y) ys zs d.0 in all_append (λ y. x ≢ y) zs ys both.1 both.0, differ_swap xs ys zs d.1)

pub apart_split : (xs ys : List Part) → AreApart (xs ++ ys) → AreApart xs × AreApart ys × Differ xs ys
apart_split [] ys apart = (tt, apart, tt)
apart_split (x ∷ xs) ys apart =
    let here = all_split (λ y. x ≢ y) xs ys apart.0 in
    let rest = apart_split xs ys apart.1 in
    ((here.0, rest.0), rest.1, (here.1, rest.2))

pub apart_swap : (xs ys : List Part) → AreApart (xs ++ ys) → AreApart (ys ++ xs)
apart_swap xs ys apart = let parts = apart_split xs ys apart in apart_append ys xs parts.1 parts.0 (differ_sym xs ys parts.2)

-- the parts of different keys differ, so those of all keys are apart
module _ (of_key : ℕ → List Part) (own_apart : (k : ℕ) → AreApart (of_key k)) (differ : (k l : ℕ) → k ≢ l → Differ (of_key k) (of_key l)) where
  differ_all : (k : ℕ) (ks : List ℕ) → AllByRecursion (λ l. nat_eq k l ≡ false) ks → Differ (of_key k) (flat_map of_key ks)
  differ_all k [] d = nothing_differs (of_key k)
  differ_all k (l ∷ ks) d = differ_both (of_key k) (of_key l) (flat_map of_key ks) (differ k l (let test = d.0 in grind (arith, test))) (differ_all k ks d.1)

  pub keys_apart : (ks : List ℕ) → IsDistinct nat_eq ks → AreApart (flat_map of_key ks)
  unfolding IsDistinct
  keys_apart [] d = tt
  keys_apart (k ∷ ks) d = apart_append (of_key k) (flat_map of_key ks) (own_apart k) (keys_apart ks d.1) (differ_all k ks d.0)

-- numbers as parts
module _ (part : ℕ → Part) (one : (a b : ℕ) → part a ≡ part b → a ≡ b) where
  part_differs : (n : ℕ) (xs : List ℕ) → IsNotIn xs n → AllByRecursion (λ y. part n ≢ y) (map part xs)
  part_differs n [] none = tt
  part_differs n (x ∷ xs) none = ((λ e. let same : n ≡ x = one n x e in none 0 (omega arith) (cc)), part_differs n xs (λ k inside. none (suc k) (omega (arith, inside))))

  pub parts_differ : (xs ys : List ℕ) → AreDisjoint ys xs → Differ (map part xs) (map part ys)
  parts_differ [] ys none = tt
  parts_differ (x ∷ xs) ys none = (part_differs x ys none.0, parts_differ xs ys none.1)

  pub once_apart : (xs : List ℕ) → AreDistinct xs → AreApart (map part xs)
  once_apart [] once = tt
  once_apart (x ∷ xs) once = (
    part_differs x xs (λ k inside same. let twice = once (suc k) 0 (omega (arith, inside)) (omega arith) same in absurd (omega (arith, twice))),
    once_apart xs (λ k l k_inside l_inside same. let twice = once (suc k) (suc l) (omega (arith, k_inside)) (omega (arith, l_inside)) same in omega (arith, twice)),
  )

pub sectors_differ : (xs ys : List ℕ) → AreDisjoint ys xs → Differ (map in_file xs) (map in_file ys)
sectors_differ xs ys none = parts_differ in_file (λ a b e. cc) xs ys none

pub minis_differ : (xs ys : List ℕ) → AreDisjoint ys xs → Differ (map in_mini_stream xs) (map in_mini_stream ys)
minis_differ xs ys none = parts_differ in_mini_stream (λ a b e. cc) xs ys none

pub sectors_once : (xs : List ℕ) → AreDistinct xs → AreApart (map in_file xs)
sectors_once xs once = once_apart in_file (λ a b e. cc) xs once

pub minis_once : (xs : List ℕ) → AreDistinct xs → AreApart (map in_mini_stream xs)
minis_once xs once = once_apart in_mini_stream (λ a b e. cc) xs once

-- a sector is no mini sector
sector_no_mini : (n : ℕ) (ys : List ℕ) → AllByRecursion (λ y. in_file n ≢ y) (map in_mini_stream ys)
sector_no_mini n [] = tt
sector_no_mini n (y ∷ ys) = ((λ e. cc), sector_no_mini n ys)

pub kinds_differ : (xs ys : List ℕ) → Differ (map in_file xs) (map in_mini_stream ys)
kinds_differ [] ys = tt
kinds_differ (x ∷ xs) ys = (sector_no_mini x ys, kinds_differ xs ys)
