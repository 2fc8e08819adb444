-- Mini sectors that a mini stream has are parts of it.
use Rattle.std.proofs.Common.{◌≡◌, ℕ, ◌+◌, ◌-◌, ◌*◌, List, [], ◌∷◌, ◌++◌, length, take, drop, suc, refl, ap, ◌∙◌, arith}
use Rattle.std.specs.List.{flat_map}
use Rattle.std.specs.Prelude.{slice_range}
use Rattle.cfb_fat.proofs.Words.{filled_is}
use Rattle.cfb_mini.specs.Minis.{mini_joined, mini_sector, AreInside}

pub parts_are : (stream minis : List ℕ) → AreInside (length stream) minis → mini_joined stream minis ≡ flat_map (λ n. slice_range stream (64 * n) (64 * n + 64)) minis
parts_are stream [] inside = refl
parts_are stream (n ∷ minis) inside =
    let size : 64 ≡ 64 * n + 64 - 64 * n = omega arith in
    let one : mini_sector stream n ≡ slice_range stream (64 * n) (64 * n + 64) = filled_is stream (64 * n) 64 (inside 0 (omega arith)) ∙ ap (λ k. take k (drop (64 * n) stream)) size in
    ap (λ l. l ++ mini_joined stream minis) one
    ∙ ap (λ l. slice_range stream (64 * n) (64 * n + 64) ++ l) (parts_are stream minis (λ k below. inside (suc k) (omega (arith, below))))
