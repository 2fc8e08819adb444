-- Parts that are apart, by their keys.
use Rattle.std.proofs.Common.{◌≡◌, ◌≢◌, ℕ, List, [], ◌∷◌, ◌++◌, map, arith, zero, suc, refl, ap, sym, ◌∙◌}
use Rattle.std.specs.Prelude.{◌⊎◌}
use mathlib.Core.Logic.{inl, inr}
use Rattle.std.specs.List.{flat_map, AllByRecursion}
use Rattle.cfb_chains.specs.Changes.{AreDisjoint, IsNotIn}
use Rattle.cfb_spec.specs.Sound.{in_file, in_mini_stream, AreApart, Part}
use Rattle.cfb_ownership.proofs.PartsApart.{all_split, apart_split, differ_sym, Differ}

-- the sectors among some parts
abbrev pub sectors_among : List Part → List ℕ
sectors_among [] = []
sectors_among (in_file n ∷ parts) = n ∷ sectors_among parts
sectors_among (in_mini_stream n ∷ parts) = sectors_among parts

-- the mini sectors among some parts
abbrev pub minis_among : List Part → List ℕ
minis_among [] = []
minis_among (in_file n ∷ parts) = minis_among parts
minis_among (in_mini_stream n ∷ parts) = n ∷ minis_among parts

pub sectors_of_map : (xs : List ℕ) → sectors_among (map in_file xs) ≡ xs
sectors_of_map [] = refl
sectors_of_map (x ∷ xs) = ap (λ l. x ∷ l) (sectors_of_map xs)

pub sectors_of_minis : (xs : List ℕ) → sectors_among (map in_mini_stream xs) ≡ []
sectors_of_minis [] = refl
sectors_of_minis (x ∷ xs) = sectors_of_minis xs

pub minis_of_map : (xs : List ℕ) → minis_among (map in_mini_stream xs) ≡ xs
minis_of_map [] = refl
minis_of_map (x ∷ xs) = ap (λ l. x ∷ l) (minis_of_map xs)

pub minis_of_sectors : (xs : List ℕ) → minis_among (map in_file xs) ≡ []
minis_of_sectors [] = refl
minis_of_sectors (x ∷ xs) = minis_of_sectors xs

none_cons : (x n : ℕ) (xs : List ℕ) → (x ≡ n → ⊥) → IsNotIn xs n → IsNotIn (x ∷ xs) n
none_cons x n xs differ none zero below same = differ same
none_cons x n xs differ none (suc k) below same = none k (omega (arith, below)) same

sector_none : (n : ℕ) (ys : List Part) → AllByRecursion (λ y. in_file n ≢ y) ys → IsNotIn (sectors_among ys) n
sector_none n [] all = λ k below same. absurd (omega (arith, below))
sector_none n (in_file m ∷ ys) all = none_cons m n (sectors_among ys) (λ e. all.0 (ap in_file (sym e))) (sector_none n ys all.1)
sector_none n (in_mini_stream m ∷ ys) all = sector_none n ys all.1

mini_none : (n : ℕ) (ys : List Part) → AllByRecursion (λ y. in_mini_stream n ≢ y) ys → IsNotIn (minis_among ys) n
mini_none n [] all = λ k below same. absurd (omega (arith, below))
mini_none n (in_file m ∷ ys) all = mini_none n ys all.1
mini_none n (in_mini_stream m ∷ ys) all = none_cons m n (minis_among ys) (λ e. all.0 (ap in_mini_stream (sym e))) (mini_none n ys all.1)

pub none_of_sectors : (xs ys : List Part) → Differ xs ys → AreDisjoint (sectors_among ys) (sectors_among xs)
none_of_sectors [] ys d = tt
none_of_sectors (in_file n ∷ xs) ys d = (sector_none n ys d.0, none_of_sectors xs ys d.1)
none_of_sectors (in_mini_stream n ∷ xs) ys d = none_of_sectors xs ys d.1

pub none_of_minis : (xs ys : List Part) → Differ xs ys → AreDisjoint (minis_among ys) (minis_among xs)
none_of_minis [] ys d = tt
none_of_minis (in_file n ∷ xs) ys d = none_of_minis xs ys d.1
none_of_minis (in_mini_stream n ∷ xs) ys d = (mini_none n ys d.0, none_of_minis xs ys d.1)

differ_front : (xs ys zs : List Part) → Differ xs (ys ++ zs) → Differ xs ys × Differ xs zs
differ_front [] ys zs d = (tt, tt)
differ_front (x ∷ xs) ys zs d =
    let here = all_split (λ y. x ≢ y) ys zs d.0 in
    let rest = differ_front xs ys zs d.1 in
    ((here.0, rest.0), (here.1, rest.1))

-- the key is one of these
abbrev pub IsOneOf : List ℕ → ℕ → Type 0
IsOneOf [] k = ⊥
IsOneOf (x ∷ xs) k = (x ≡ k) ⊎ IsOneOf xs k

module _ (of_key : ℕ → List Part) where
  differs_each : (xs : List Part) (ks : List ℕ) (l : ℕ) → Differ xs (flat_map of_key ks) → IsOneOf ks l → Differ xs (of_key l)
  differs_each xs [] l d one = absurd one
  differs_each xs (k ∷ ks) l d (inl same) = let both = differ_front xs (of_key k) (flat_map of_key ks) d in rw (sym same) both.0
  differs_each xs (k ∷ ks) l d (inr later) = differs_each xs ks l (differ_front xs (of_key k) (flat_map of_key ks) d).1 later

  pub keys_differ : (ks : List ℕ) → AreApart (flat_map of_key ks) → (k l : ℕ) → IsOneOf ks k → IsOneOf ks l → k ≢ l → Differ (of_key k) (of_key l)
  keys_differ [] apart k l k_in l_in other = absurd k_in
  keys_differ (x ∷ ks) apart k l (inl same) (inl alike) other = absurd (other (sym same ∙ alike))
  keys_differ (x ∷ ks) apart k l (inl same) (inr l_in) other =
      let split = apart_split (of_key x) (flat_map of_key ks) apart in rw (sym same) (differs_each (of_key x) ks l split.2 l_in)
  keys_differ (x ∷ ks) apart k l (inr k_in) (inl same) other =
      let split = apart_split (of_key x) (flat_map of_key ks) apart in rw (sym same) (differ_sym (of_key x) (of_key k) (differs_each (of_key x) ks k split.2 k_in))
  keys_differ (x ∷ ks) apart k l (inr k_in) (inr l_in) other =
      let split = apart_split (of_key x) (flat_map of_key ks) apart in keys_differ ks split.1 k l k_in l_in other
