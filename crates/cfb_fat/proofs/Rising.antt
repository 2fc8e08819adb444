-- The tables' sectors as they were read, in rising order, and those appended since.
use Rattle.std.proofs.Common.{◌≡◌, ℕ, ◌+◌, ◌-◌, ◌<◌, ◌≤◌, ◌⊎◌, inl, inr, List, [], ◌∷◌, ◌++◌, length, get_or, refl, ap, sym, subst, ◌∙◌, arith, ⊎_elim, length-append}
use Rattle.std.specs.Ordering.{nat_cmp}
use Rattle.std.specs.List.Sorted.{IsPermutation, IsSorted}
use Rattle.std.proofs.Math.Seq.{get_or-append_right}
use Rattle.std.proofs.lemmas.Bool.Decides.{leb_tells}
use Rattle.std.proofs.lemmas.List.{get_or_append_left, get_or_default}
use Rattle.std.proofs.lemmas.List.Sorted.{All-permutation, IsNonDecreasingBy-from_sort}
use Rattle.cfb_medium.specs.Versions.{sector_len}
use Rattle.cfb_medium.specs.declared.version.Version.{Version}
use Rattle.cfb_medium.specs.declared.version.Version.TheVariants.{V3, V4}
use Rattle.cfb_sectors.specs.Sectors.{sector_start}
use Rattle.cfb_chains.specs.Changes.{IsBeside, IsNotIn}
use Rattle.cfb_fat.specs.Orderly.{AreBelow}
use Rattle.cfb_fat.specs.Rising.{AreRead, IsBesideFrom, RiseFrom}

-- what a sort leaves
pub rise_sorted : (xs : List ℕ) → IsSorted nat_cmp xs → RiseFrom 0 xs
rise_sorted xs up k l from most inside = IsNonDecreasingBy-from_sort (λ n. n) xs up k l 0 most inside

pub none_shuffled : (xs ys : List ℕ) → IsPermutation xs ys → (n : ℕ) → IsNotIn xs n → IsNotIn ys n
none_shuffled xs ys moved n none k inside same =
    All-permutation (λ x. x ≡ n → ⊥) xs ys moved (λ j d within is. none j within (sym (get_or_default xs j d 0 within) ∙ is)) k 0 inside same

pub all_read : (read xs : List ℕ) → ((n : ℕ) → IsNotIn read n → IsNotIn xs n) → AreRead read (length xs) xs
all_read read xs among = record {
  inside = omega arith;
  front = λ k below none. among (get_or xs k 0) none k below refl;
  rest = λ k l from most inside. absurd (omega (arith, from, most, inside));
}

pub none_read : (read : List ℕ) (none : read ≡ []) → RiseFrom 0 read
none_read read none = subst (RiseFrom 0) (sym none) (λ k l from most inside. absurd (omega (arith, inside)))

-- a sector behind all others was appended
pub read_more : (read xs : List ℕ) (from m : ℕ) → AreRead read from xs → AreBelow m xs → AreRead read from (xs ++ m ∷ [])
read_more read xs from m h below = record {
  inside = let size = length-append xs (m ∷ []) in let had = h.inside in omega (arith, size, had);
  front = λ k front none. h.front k front (subst (IsNotIn read) (get_or_append_left xs (m ∷ []) 0 k (let had = h.inside in omega (arith, front, had))) none);
  rest = λ k l later most inside.
      let size = length-append xs (m ∷ []) in
      ⊎_elim
      (λ past. ⊎_elim
      (λ last. let same : k ≡ l = omega (arith, size, past.1, last.1, most, inside) in let at = ap (λ j. get_or (xs ++ m ∷ []) j 0) same in omega (arith, at))
      (λ front. let is = get_or_append_left xs (m ∷ []) 0 k front.1 in let less = below k front.1 in let end = last_of l past.1 (omega (arith, size, inside)) in omega (arith, is, less, end))
      (leb_tells (length xs) k))
      (λ front. let one = get_or_append_left xs (m ∷ []) 0 k (omega (arith, front.1, most)) in let two = get_or_append_left xs (m ∷ []) 0 l front.1 in let had = h.rest k l later most front.1 in omega (arith, one, two, had))
      (leb_tells (length xs) l);
}
  where
    last_of : (l : ℕ) → length xs ≤ l → l ≤ length xs → get_or (xs ++ m ∷ []) l 0 ≡ m
    last_of l past most =
        let here : l - length xs ≡ 0 = omega (arith, past, most) in
        get_or-append_right xs (m ∷ []) l 0 past ∙ ap (λ j. get_or (m ∷ []) j 0) here

-- whether the part has a byte of a sector
touches : (v : Version) (s p n : ℕ) → (((sector_start v s + sector_len v ≤ p) ⊎ (p + n ≤ sector_start v s) → ⊥) → ⊥) → (sector_start v s + sector_len v ≤ p) ⊎ (p + n ≤ sector_start v s)
touches v s p n not = ⊎_elim (λ before. inl before.1)
    (λ here. ⊎_elim (λ behind. inr behind.1) (λ there. absurd (not (⊎_elim (λ before. omega (arith, before, here.1)) (λ behind. omega (arith, behind, there.1))))) (leb_tells (p + n) (sector_start v s)))
    (leb_tells (sector_start v s + sector_len v) p)

pub beside_read : (v : Version) (read xs : List ℕ) (from p n : ℕ) → AreRead read from xs → IsBesideFrom 0 v read p n → IsBesideFrom from v xs p n → IsBeside v xs p n
beside_read v read xs from p n h first rest k inside = ⊎_elim
    (λ past. rest k past.1 inside)
    (λ front. touches v (get_or xs k 0) p n (λ no. h.front k front.1
    (λ j within same. no (subst (λ s. (sector_start v s + sector_len v ≤ p) ⊎ (p + n ≤ sector_start v s)) same (first j (omega arith) within)))))
    (leb_tells from k)

pub beside_alone : (v : Version) (read ds fs : List ℕ) (p n : ℕ) → ((s : ℕ) → IsNotIn ds s → IsNotIn fs s → IsNotIn read s) → IsBeside v ds p n → IsBeside v fs p n → IsBesideFrom 0 v read p n
beside_alone v read ds fs p n alone no_ds no_fs k from inside =
    let s = get_or read k 0 in
    touches v s p n (λ no. alone s
    (λ j within same. no (subst (λ m. (sector_start v m + sector_len v ≤ p) ⊎ (p + n ≤ sector_start v m)) same (no_ds j within)))
    (λ j within same. no (subst (λ m. (sector_start v m + sector_len v ≤ p) ⊎ (p + n ≤ sector_start v m)) same (no_fs j within)))
    k inside refl)

-- the same of a version and lists as they were told
pub beside_as_read : (v w : Version) (read told xs some : List ℕ) (from p n : ℕ) → v ≡ w → told ≡ read → some ≡ xs → AreRead read from xs → IsBesideFrom 0 v told p n → IsBesideFrom from v some p n → IsBeside w xs p n
beside_as_read v w read told xs some from p n version is_read is h first rest =
    beside_read w read xs from p n h (subst (λ u. IsBesideFrom 0 u read p n) version (subst (λ l. IsBesideFrom 0 v l p n) is_read first))
    (subst (λ u. IsBesideFrom from u xs p n) version (subst (λ l. IsBesideFrom from v l p n) is rest))

pub alone_as : (v w : Version) (read told ds fs : List ℕ) (p n : ℕ) → v ≡ w → read ≡ told → ((s : ℕ) → IsNotIn ds s → IsNotIn fs s → IsNotIn read s) → IsBeside v ds p n → IsBeside v fs p n → IsBesideFrom 0 w told p n
alone_as v w read told ds fs p n version is alone no_ds no_fs =
    subst (λ u. IsBesideFrom 0 u told p n) version (subst (λ l. IsBesideFrom 0 v l p n) is (beside_alone v read ds fs p n alone no_ds no_fs))

pub rest_as : (v w : Version) (xs some : List ℕ) (from p n : ℕ) → v ≡ w → xs ≡ some → IsBeside v xs p n → IsBesideFrom from w some p n
rest_as v w xs some from p n version is beside =
    subst (λ u. IsBesideFrom from u some p n) version (subst (λ l. IsBesideFrom from v l p n) is (λ k later inside. beside k inside))

-- a sector beside these is none of them
pub none_aside : (v : Version) (xs : List ℕ) (n : ℕ) → IsBeside v xs (sector_start v n) (sector_len v) → IsNotIn xs n
none_aside v xs n beside k inside same = ⊎_elim
    (λ before. apart_never v n (get_or xs k 0) same (inl before))
    (λ behind. apart_never v n (get_or xs k 0) same (inr behind))
    (beside k inside)
  where
    apart_never : (v : Version) (n s : ℕ) → s ≡ n → (sector_start v s + sector_len v ≤ sector_start v n) ⊎ (sector_start v n + sector_len v ≤ sector_start v s) → ⊥
    apart_never V3 n s same (inl before) = omega (arith, same, before)
    apart_never V3 n s same (inr behind) = omega (arith, same, behind)
    apart_never V4 n s same (inl before) = omega (arith, same, before)
    apart_never V4 n s same (inr behind) = omega (arith, same, behind)
