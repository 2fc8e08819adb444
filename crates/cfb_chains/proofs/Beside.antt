-- Parts of a file beside sectors, and tables that grow.
use Rattle.std.proofs.Common.{◌≡◌, ℕ, ◌+◌, ◌-◌, ◌≤◌, ◌⊎◌, inl, inr, List, [], ◌∷◌, ◌++◌, length, get_or, zero, suc, ap, sym, subst, ◌∙◌, arith, ⊎_elim, length-append}
use Rattle.std.specs.List.{AllByRecursion}
use Rattle.std.specs.Prelude.{Some}
use Rattle.std.proofs.Math.Seq.{get_or-append_right}
use Rattle.std.proofs.lemmas.Bool.Decides.{leb_tells}
use Rattle.std.proofs.lemmas.List.{get_or_append_left}
use Rattle.std.proofs.lemmas.Option.{slice_get-get_or, get_or_from_slice_get}
use Rattle.cfb_medium.specs.Versions.{sector_len}
use Rattle.cfb_medium.specs.declared.version.Version.{Version}
use Rattle.cfb_medium.specs.declared.version.Version.TheVariants.{V3, V4}
use Rattle.cfb_sectors.specs.Sectors.{free, sector_start}
use Rattle.cfb_chains.specs.Changes.{IsBeside, IsFreeIn, IsNotIn, SameExceptAt}

-- parts beside two lists of sectors
pub beside_first : (v : Version) (xs ys : List ℕ) (p n : ℕ) → IsBeside v (xs ++ ys) p n → IsBeside v xs p n
beside_first v xs ys p n apart k inside =
    let size = length-append xs ys in
    subst (λ id. (sector_start v id + sector_len v ≤ p) ⊎ (p + n ≤ sector_start v id)) (get_or_append_left xs ys 0 k inside) (apart k (omega (arith, size, inside)))

pub beside_second : (v : Version) (xs ys : List ℕ) (p n : ℕ) → IsBeside v (xs ++ ys) p n → IsBeside v ys p n
beside_second v xs ys p n apart k inside =
    let size = length-append xs ys in
    let at : get_or (xs ++ ys) (length xs + k) 0 ≡ get_or ys k 0 = get_or-append_right xs ys (length xs + k) 0 (omega arith) ∙ ap (λ m. get_or ys m 0) (omega arith) in
    subst (λ id. (sector_start v id + sector_len v ≤ p) ⊎ (p + n ≤ sector_start v id)) at (apart (length xs + k) (omega (arith, size, inside)))

pub beside_both : (v : Version) (xs ys : List ℕ) (p n : ℕ) → IsBeside v xs p n → IsBeside v ys p n → IsBeside v (xs ++ ys) p n
beside_both v xs ys p n first second k inside =
    let size = length-append xs ys in
    ⊎_elim
    (λ past. subst (λ m. (sector_start v m + sector_len v ≤ p) ⊎ (p + n ≤ sector_start v m)) (sym (get_or-append_right xs ys k 0 past.1)) (second (k - length xs) (omega (arith, size, inside, past.1))))
    (λ front. subst (λ m. (sector_start v m + sector_len v ≤ p) ⊎ (p + n ≤ sector_start v m)) (sym (get_or_append_left xs ys 0 k front.1)) (first k front.1))
    (leb_tells (length xs) k)

pub start_later : (v : Version) (count more p : ℕ) → count ≤ more → p ≤ sector_start v count → p ≤ sector_start v more
start_later V3 count more p most fits = omega (arith, most, fits)
start_later V4 count more p most fits = omega (arith, most, fits)

-- none of both lists
pub none_first : (xs ys : List ℕ) (n : ℕ) → IsNotIn (xs ++ ys) n → IsNotIn xs n
none_first xs ys n none k inside same =
    let size = length-append xs ys in
    none k (omega (arith, size, inside)) (get_or_append_left xs ys 0 k inside ∙ same)

pub none_second : (xs ys : List ℕ) (n : ℕ) → IsNotIn (xs ++ ys) n → IsNotIn ys n
none_second xs ys n none k inside same =
    let size = length-append xs ys in
    let at : get_or (xs ++ ys) (length xs + k) 0 ≡ get_or ys k 0 = get_or-append_right xs ys (length xs + k) 0 (omega arith) ∙ ap (λ m. get_or ys m 0) (omega arith) in
    none (length xs + k) (omega (arith, size, inside)) (at ∙ same)

pub none_both : (xs ys : List ℕ) (n : ℕ) → IsNotIn xs n → IsNotIn ys n → IsNotIn (xs ++ ys) n
none_both xs ys n first second k inside same =
    ⊎_elim
    (λ past. let size = length-append xs ys in second (k - length xs) (omega (arith, size, inside, past.1)) (sym (get_or-append_right xs ys k 0 past.1) ∙ same))
    (λ front. first k front.1 (sym (get_or_append_left xs ys 0 k front.1) ∙ same))
    (leb_tells (length xs) k)

pub none_of_two : (a b n : ℕ) → (a ≡ n → ⊥) → (b ≡ n → ⊥) → IsNotIn (a ∷ b ∷ []) n
none_of_two a b n first second zero inside same = first same
none_of_two a b n first second (suc zero) inside same = second same
none_of_two a b n first second (suc (suc k)) inside same = absurd (omega (arith, inside))

-- tables that grow
pub stay_same : (entries old new : List ℕ) → new ≡ old → SameExceptAt entries old new
stay_same entries old new same = record { size = let size = ap length same in omega (arith, size); others = λ n below none. ap (λ l. get_or l n 0) same }

pub stay_then : (entries more old mid new : List ℕ) → SameExceptAt entries old mid → SameExceptAt more mid new → SameExceptAt (entries ++ more) old new
stay_then entries more old mid new first then = record {
  size = let a = first.size in let b = then.size in omega (arith, a, b);
  others = λ n below none. then.others n (let a = first.size in omega (arith, a, below)) (none_second entries more n none) ∙ first.others n below (none_first entries more n none);
}

-- what is in no use in the new table was in none in the old one, where entries that stay are apart from those that were in none
pub used_but : (entries old new : List ℕ) → SameExceptAt entries old new → ((n : ℕ) → IsFreeIn new n → IsNotIn entries n ⊎ IsFreeIn old n) → (n : ℕ) → IsFreeIn new n → IsFreeIn old n
used_but entries old new stay changed n loose =
    ⊎_elim
    (λ none. ⊎_elim
    (λ past. inr past.1)
    (λ below. ⊎_elim
    (λ freed. inl (slice_get-get_or old n 0 below.1 ∙ ap Some (sym (stay.others n below.1 none) ∙ get_or_from_slice_get new n free 0 freed)))
    (λ behind. inr (let size = stay.size in omega (arith, size, behind)))
    loose)
    (leb_tells (length old) n))
    (λ was. was)
    (changed n loose)

-- sectors that were in no use, one after the other
pub free_then : (old mid taken more : List ℕ) → ((n : ℕ) → IsFreeIn mid n → IsFreeIn old n) → AllByRecursion (IsFreeIn old) taken → AllByRecursion (IsFreeIn mid) more → AllByRecursion (IsFreeIn old) (taken ++ more)
free_then old mid [] [] used first then = tt
free_then old mid [] (n ∷ more) used first then = (used n then.0, free_then old mid [] more used tt then.1)
free_then old mid (n ∷ taken) more used first then = (first.0, free_then old mid taken more used first.1 then)
