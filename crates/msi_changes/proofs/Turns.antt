-- One after the other: what was given so far, and what is left.
use Rattle.std.proofs.Common.{◌≡◌, List, [], ◌∷◌, ◌++◌, refl, ap, append_assoc, append-nil, sym, Result, Ok, Err}
use Rattle.msi_texts.specs.Results.{◌>>=◌}
use Rattle.msi_changes.specs.Changes.{in_turn}
use Rattle.cfb_medium.specs.declared.error.Error.{Error}

-- with what was given so far in front
abbrev pub behind : {S Y : Type 0} → List Y → List Y × S → Result (List Y × S) Error
behind front r = Ok (front ++ r.0, r.1)

module _ {S X Y : Type 0} (f : S → X → Result (Y × S) Error) where
  moved : (front : List Y) (y : Y) (r : Result (List Y × S) Error) → ((r >>= λ ys. Ok (y ∷ ys.0, ys.1)) >>= behind front) ≡ (r >>= behind (front ++ y ∷ []))
  moved front y (Ok r) = ap (λ ys. Ok (ys, r.1)) (sym (append_assoc front (y ∷ []) r.0))
  moved front y (Err e) = refl

  pub turned : (s t : S) (x : X) (y : Y) (xs : List X) (front : List Y) → f s x ≡ Ok (y, t)
      → (in_turn f s (x ∷ xs) >>= behind front) ≡ (in_turn f t xs >>= behind (front ++ y ∷ []))
  turned s t x y xs front e = rw e (moved front y (in_turn f t xs))

  pub refused : (s : S) (x : X) (xs : List X) (front : List Y) (e : Error) → f s x ≡ Err e → (in_turn f s (x ∷ xs) >>= behind front) ≡ Err e
  refused s x xs front e is = rw is refl

  pub ended : (s : S) (front : List Y) → (in_turn f s [] >>= behind front) ≡ Ok (front, s)
  ended s front = ap (λ ys. Ok (ys, s)) (append-nil front)

  pub begun : (s : S) (xs : List X) → (in_turn f s xs >>= behind []) ≡ in_turn f s xs
  begun s xs = same (in_turn f s xs)
    where
      same : (r : Result (List Y × S) Error) → (r >>= behind []) ≡ r
      same (Ok r) = refl
      same (Err e) = refl
