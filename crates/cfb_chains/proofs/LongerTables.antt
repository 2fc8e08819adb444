-- What is said of longer tables, said of two steps.
use Rattle.std.proofs.Common.{◌≡◌, ℕ, Bool, ◌+◌, ◌<◌, ◌≤◌, ◌⊎◌, inl, inr, true, false, List, [], ◌∷◌, ◌++◌, length, get_or, ap, sym, subst, ◌∙◌, arith, ⊎_elim}
use Rattle.std.specs.Prelude.{slice_get, Some}
use Rattle.std.proofs.lemmas.Bool.Decides.{leb_tells}
use Rattle.std.proofs.lemmas.Option.{slice_get-get_or, slice_get_within, get_or_from_slice_get}
use Rattle.cfb_medium.specs.Versions.{sector_len}
use Rattle.cfb_medium.specs.declared.version.Version.{Version}
use Rattle.cfb_sectors.specs.Sectors.{difat_sector, end_of_chain, fat_sector, greatest_regular, sector_start, Chain as IsChain}
use Rattle.cfb_chains.specs.Behind.{AreWhole, HasMark, IsMarkedBehind}
use Rattle.cfb_chains.specs.Changes.{AreDisjoint, IsNotIn, SameExceptAt}
use Rattle.cfb_chains.proofs.Beside.{none_first, none_second}

pub never : {A : Type 0} (failed : Bool) → failed ≡ true → failed ≡ false → A
never failed is_set is_clear = let wrong : true ≡ false = sym is_set ∙ is_clear in cc

-- what stays, and holds where a list became longer
pub holds_then : {P Q : Type 0} (xs ys : List ℕ) → ys ≡ xs → (P → Q) → P ⊎ (length xs < length ys) → Q
holds_then xs ys same stays = ⊎_elim stays (λ more. let size = ap length same in absurd (omega (arith, size, more)))

pub holds_again : {P Q R : Type 0} (xs ys zs : List ℕ) → (P ⊎ (length xs < length ys) → Q) → (Q ⊎ (length ys < length zs) → R) → P ⊎ (length xs < length zs) → R
holds_again xs ys zs first second = ⊎_elim
    (λ held. second (inl (first (inl held))))
    (λ more. ⊎_elim (λ most. second (inr (let most = most.1 in omega (arith, most, more)))) (λ less. second (inl (first (inr less.1)))) (leb_tells (length ys) (length xs)))

still_marked : (sectors later b c : List ℕ) (mark n : ℕ) → (IsNotIn later n → IsNotIn sectors n) → get_or c n 0 ≡ get_or b n 0 → HasMark sectors mark b n → HasMark later mark c n
still_marked sectors later b c mark n still same h = ((λ none. h.0 (still none)), same ∙ h.1)

-- a table was marked behind its end, and then a longer one
pub marked_then : (taken more entries others ds fs later_ds later_fs a b c : List ℕ) → ((n : ℕ) → (IsNotIn later_ds n → IsNotIn ds n) × (IsNotIn later_fs n → IsNotIn fs n)) → SameExceptAt others b c
    → IsMarkedBehind ds fs taken entries a b → IsMarkedBehind later_ds later_fs more others b c → IsMarkedBehind later_ds later_fs (taken ++ more) (entries ++ others) a c
marked_then taken more entries others ds fs later_ds later_fs a b c still stay h k n past below none unset = ⊎_elim
    (λ behind. k n behind.1 below (none_second taken more n none) (none_second entries others n unset))
    (λ sooner. let same = stay.others n sooner.1 (none_second entries others n unset) in
    ⊎_elim (λ is. inl (still_marked ds later_ds b c difat_sector n (still n).0 same is)) (λ is. inr (still_marked fs later_fs b c fat_sector n (still n).1 same is))
    (h n past sooner.1 (none_first taken more n none) (none_first entries others n unset)))
    (leb_tells (length b) n)

-- nothing is behind a table's end
pub marked_none : (taken entries ds fs a b : List ℕ) → b ≡ a → IsMarkedBehind ds fs taken entries a b
marked_none taken entries ds fs a b same n past below none unset = let size = ap length same in absurd (omega (arith, size, past, below))

-- a mark is no link, and no chain's end
pub mark_ends : (table sectors others : List ℕ) (n next : ℕ) (rest : List ℕ) → HasMark sectors difat_sector table n ⊎ HasMark others fat_sector table n → slice_get table n ≡ Some next → IsChain table next rest → ⊥
mark_ends table sectors others n next rest marked found chain =
    let is = get_or_from_slice_get table n next 0 found in
    ⊎_elim (λ h. no_chain rest chain (omega (arith, is, h.1)) (λ e. omega (arith, is, h.1, e))) (λ h. no_chain rest chain (omega (arith, is, h.1)) (λ e. omega (arith, is, h.1, e))) marked
  where
    no_chain : (rest : List ℕ) → IsChain table next rest → greatest_regular < next → (next ≡ end_of_chain → ⊥) → ⊥
    no_chain [] ends high other = other ends
    no_chain (x ∷ xs) (same, regular, later, found, more) high other = omega (arith, regular, high)

-- a chain of which nothing was taken or set is one of the old table
pub old_chain : (ds fs taken entries old new : List ℕ) → SameExceptAt entries old new → IsMarkedBehind ds fs taken entries old new → (start : ℕ) (ids : List ℕ) → AreDisjoint taken ids → AreDisjoint entries ids → IsChain new start ids → IsChain old start ids
old_chain ds fs taken entries old new stay marked start [] none unset chain = chain
old_chain ds fs taken entries old new stay marked start (x ∷ ids) none unset (is, regular, next, found, rest) = ⊎_elim
    (λ past. absurd (mark_ends new ds fs start next ids (marked start past.1 (slice_get_within new start next found) (subst (IsNotIn taken) is none.0) (subst (IsNotIn entries) is unset.0)) found rest))
    (λ front. (
      is,
      regular,
      next,
      slice_get-get_or old start 0 front.1 ∙ ap Some (sym (stay.others start front.1 (subst (IsNotIn entries) is unset.0)) ∙ get_or_from_slice_get new start next 0 found),
      old_chain ds fs taken entries old new stay marked next ids none.1 unset.1 rest,
    ))
    (leb_tells (length old) start)

whole_later : (v w : Version) (xs old new : List ℕ) → w ≡ v → length old ≤ length new → AreWhole v old xs → AreWhole w new xs
whole_later v w [] old new same longer all = tt
whole_later v w (x ∷ xs) old new same longer all =
    (subst (λ u. sector_start u x + sector_len u ≤ length new) (sym same) (let here = all.0 in omega (arith, here, longer)), whole_later v w xs old new same longer all.1)

whole_both : (v : Version) (b xs ys : List ℕ) → AreWhole v b xs → AreWhole v b ys → AreWhole v b (xs ++ ys)
whole_both v b [] ys first second = second
whole_both v b (x ∷ xs) ys first second = (first.0, whole_both v b xs ys first.1 second)

pub whole_then : (v w : Version) (taken more old new : List ℕ) → w ≡ v → length old ≤ length new → AreWhole v old taken → AreWhole w new more → AreWhole w new (taken ++ more)
whole_then v w taken more old new same longer was is = whole_both w new taken more (whole_later v w taken old new same longer was) is
