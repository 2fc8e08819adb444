-- What uses leave of a pool's places: free ones stay empty, and kept ones kept.
use Rattle.std.proofs.Common.{◌≡◌, ℕ, zero, suc, ◌+◌, ◌-◌, ◌<◌, ◌^◌, Bool, true, false, cond, List, [], ◌∷◌, length, refl, arith}
use Rattle.std.specs.Prelude.{IsTrue, nat_lt}
use Rattle.std.specs.Str.{chars, is_utf8}
use Rattle.std.proofs.lemmas.Bool.Decides.{nat_tests}
use Rattle.std.proofs.lemmas.List.Elements.{All-cons, All-head, All-tail}
use Rattle.msi_texts.specs.declared.codepage.CodePage.{CodePage}
use Rattle.msi_texts.specs.Page.{is_utf8_page, encoded, fits}
use Rattle.msi_pool.specs.Pool.{PoolEntry, takes, with_refcount_up, released_entry, with_refcount_down}
use Rattle.msi_pool.specs.PoolKept.{AreFreeEmpty, AreKept, CanBeKept, IsKeptPlace}

abbrev pub IsEmptyIfFree : PoolEntry → Type 0
IsEmptyIfFree p = p.count ≡ 0 → p.text ≡ []

counted_once_more : (n : ℕ) (t : List ℕ) → n + 1 ≡ 0 → t ≡ []
counted_once_more n t h = absurd (omega (arith, h))

fewer_is_empty : (p : PoolEntry) → IsEmptyIfFree (released_entry p)
fewer_is_empty p = on (nat_lt p.count 2) refl
  where
    on : (b : Bool) → nat_lt p.count 2 ≡ b → IsEmptyIfFree (cond b (record { text = []; count = 0 }) (record p { count = p.count - 1 }))
    on true e = λ h. refl
    on false e = λ h. absurd (grind (arith, nat_tests, e, h))

pub used_stay_empty : (t : List ℕ) (ps : List PoolEntry) → AreFreeEmpty ps → AreFreeEmpty (with_refcount_up t ps)
used_stay_empty t [] h = All-cons IsEmptyIfFree (record { text = t; count = 1 }) [] (counted_once_more 0 t) h
used_stay_empty t (p ∷ ps) h = on (takes t p) (used_stay_empty t ps (All-tail IsEmptyIfFree p ps h))
  where
    on : (b : Bool) → AreFreeEmpty (with_refcount_up t ps) → AreFreeEmpty (cond b (record { text = t; count = p.count + 1 } ∷ ps) (p ∷ with_refcount_up t ps))
    on true rest = All-cons IsEmptyIfFree (record { text = t; count = p.count + 1 }) ps (counted_once_more p.count t) (All-tail IsEmptyIfFree p ps h)
    on false rest = All-cons IsEmptyIfFree p (with_refcount_up t ps) (All-head IsEmptyIfFree p ps h) rest

pub taken_stay_empty : (n : ℕ) (ps : List PoolEntry) → AreFreeEmpty ps → AreFreeEmpty (with_refcount_down n ps)
taken_stay_empty n [] h = h
taken_stay_empty zero (p ∷ ps) h = h
taken_stay_empty (suc zero) (p ∷ ps) h = All-cons IsEmptyIfFree (released_entry p) ps (fewer_is_empty p) (All-tail IsEmptyIfFree p ps h)
taken_stay_empty (suc (suc n)) (p ∷ ps) h = All-cons IsEmptyIfFree p (with_refcount_down (suc n) ps) (All-head IsEmptyIfFree p ps h) (taken_stay_empty (suc n) ps (All-tail IsEmptyIfFree p ps h))

module _ (page : CodePage) where
  kept_with : (t : List ℕ) (n : ℕ) → CanBeKept page t → n < 65535 → IsKeptPlace page (record { text = t; count = n + 1 })
  kept_with t n h low = record { utf8 = h.utf8; fit = h.fit; count = omega (arith, low); size = h.size; free = counted_once_more n t }

  no_text_fits : IsTrue (fits page [])
  unfolding chars
  no_text_fits = on (is_utf8_page page)
    where
      on : (b : Bool) → IsTrue (cond b true true)
      on true = refl
      on false = refl

  no_text_is_small : length (encoded page []) < 2 ^ 32
  unfolding chars
  no_text_is_small = on (is_utf8_page page)
    where
      on : (b : Bool) → length {A = ℕ} (cond b [] []) < 2 ^ 32
      on true = omega arith
      on false = omega arith

  fewer_kept : (p : PoolEntry) → IsKeptPlace page p → IsKeptPlace page (released_entry p)
  unfolding is_utf8 chars
  fewer_kept p h = on (nat_lt p.count 2) refl
    where
      on : (b : Bool) → nat_lt p.count 2 ≡ b → IsKeptPlace page (cond b (record { text = []; count = 0 }) (record p { count = p.count - 1 }))
      on true e = record { utf8 = refl; fit = no_text_fits; count = omega arith; size = no_text_is_small; free = λ z. refl }
      on false e = record { utf8 = h.utf8; fit = h.fit; count = omega (arith, h.count); size = h.size; free = λ z. absurd (grind (arith, nat_tests, e, z)) }

  room : (t : List ℕ) (p : PoolEntry) → takes t p ≡ true → p.count < 65535
  room t p e = grind (arith, nat_tests, e)

  pub used_stay_kept : (t : List ℕ) (ps : List PoolEntry) → CanBeKept page t → AreKept page ps → AreKept page (with_refcount_up t ps)
  used_stay_kept t [] can h = (kept_with t 0 can (omega arith), tt)
  used_stay_kept t (p ∷ ps) can h = on (takes t p) refl (used_stay_kept t ps can h.1)
    where
      on : (b : Bool) → takes t p ≡ b → AreKept page (with_refcount_up t ps) → AreKept page (cond b (record { text = t; count = p.count + 1 } ∷ ps) (p ∷ with_refcount_up t ps))
      on true e rest = (kept_with t p.count can (room t p e), h.1)
      on false e rest = (h.0, rest)

  pub taken_stay_kept : (n : ℕ) (ps : List PoolEntry) → AreKept page ps → AreKept page (with_refcount_down n ps)
  taken_stay_kept n [] h = h
  taken_stay_kept zero (p ∷ ps) h = h
  taken_stay_kept (suc zero) (p ∷ ps) h = (fewer_kept p h.0, h.1)
  taken_stay_kept (suc (suc n)) (p ∷ ps) h = (h.0, taken_stay_kept (suc n) ps h.1)
