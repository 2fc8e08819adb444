-- A test of each entry tells whether free places are empty.
use Rattle.std.proofs.Common.{◌≡◌, ℕ, Bool, true, false, List, [], ◌∷◌, length, refl, arith}
use Rattle.std.specs.Prelude.{◌==◌, ◌&&◌, ◌||◌, not, String, string_bytes}
use Rattle.std.specs.List.{list_all}
use Rattle.std.specs.declared.alloc.Global.{Global}
use Rattle.std.proofs.lemmas.Bool.Decides.{nat_tests}
use Rattle.std.proofs.lemmas.List.Elements.{All-cons, All-head, All-tail}
use Rattle.msi_pool.specs.Pool.{place_of, places_of}
use Rattle.msi_pool.specs.PoolKept.{AreFreeEmpty}
use Rattle.msi_pool.proofs.PoolStays.{IsEmptyIfFree}

abbrev Entry : Type 0
Entry = String Global × ℕ

abbrev test : Entry → Bool
test s = not (s.1 == 0) || (length (string_bytes s.0) == 0)

none : (xs : List ℕ) → (length xs == 0) ≡ true → xs ≡ []
none [] e = refl
none (x ∷ xs) e = absurd (grind (arith, nat_tests, e))

told_one : (s : Entry) → test s ≡ true → IsEmptyIfFree (place_of s)
told_one s e z = on (s.1 == 0) refl
  where
    on : (b : Bool) → (s.1 == 0) ≡ b → string_bytes s.0 ≡ []
    on true t = none (string_bytes s.0) (rw t at e)
    on false t = absurd (grind (arith, nat_tests, t, z))

tells_one : (s : Entry) → IsEmptyIfFree (place_of s) → test s ≡ true
tells_one s h = on (s.1 == 0) refl
  where
    on : (b : Bool) → (s.1 == 0) ≡ b → (not b || (length (string_bytes s.0) == 0)) ≡ true
    on true t = let z : s.1 ≡ 0 = grind (arith, nat_tests, t) in rw (h z) refl
    on false t = refl

both : (a b : Bool) → (a && b) ≡ true → (a ≡ true) × (b ≡ true)
both true b e = (refl, e)
both false b e = absurd (cc)

pub free_told : (xs : List Entry) → list_all test xs ≡ true → AreFreeEmpty (places_of xs)
free_told [] e = λ k d l. absurd (omega (arith, l))
free_told (x ∷ xs) e = let parts = both (test x) (list_all test xs) e in All-cons IsEmptyIfFree (place_of x) (places_of xs) (told_one x parts.0) (free_told xs parts.1)

pub free_tells : (xs : List Entry) → AreFreeEmpty (places_of xs) → list_all test xs ≡ true
free_tells [] h = refl
free_tells (x ∷ xs) h = rw (tells_one x (All-head IsEmptyIfFree (place_of x) (places_of xs) h)) (free_tells xs (All-tail IsEmptyIfFree (place_of x) (places_of xs) h))
