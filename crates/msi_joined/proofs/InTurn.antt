-- What is done in turn with two lists, one behind the other.
use Rattle.std.proofs.Common.{◌≡◌, List, [], ◌∷◌, ◌++◌, refl, ap, subst, Result, Ok, Err}
use Rattle.msi_texts.specs.Results.{◌>>=◌}
use Rattle.msi_changes.specs.Changes.{in_turn}
use Rattle.cfb_medium.specs.declared.error.Error.{Error}

module _ {S X Y : Type 0} (f : S → X → Result (Y × S) Error) where
  -- what comes of the first list, and of the second over what it left
  pub record Parts (s : S) (xs ys : List X) (all : List Y × S) : Type 0 where
    pub first : List Y
    pub mid : S
    pub second : List Y
    pub in_first : in_turn f s xs ≡ Ok (first, mid)
    pub in_second : in_turn f mid ys ≡ Ok (second, all.1)
    pub both : all.0 ≡ first ++ second

  pub parted : (s : S) (xs ys : List X) (all : List Y × S) → in_turn f s (xs ++ ys) ≡ Ok all → Parts s xs ys all
  parted s [] ys all is = record { first = []; mid = s; second = all.0; in_first = refl; in_second = is; both = refl }
  parted s (x ∷ xs) ys all is = on (f s x) refl (λ t. parted t xs ys) is
    where
      Goal : List Y × S → Type 0
      Goal found = Parts s (x ∷ xs) ys found

      within : (y : Y × S) → f s x ≡ Ok y → (r : Result (List Y × S) Error) → ((found : List Y × S) → r ≡ Ok found → Parts y.1 xs ys found) → (r >>= λ zs. Ok (y.0 ∷ zs.0, zs.1)) ≡ Ok all → Goal all
      within y at (Err e) deeper is = absurd (cc is)
      within y at (Ok zs) deeper is =
          let rest = deeper zs refl in
          let same : (y.0 ∷ zs.0, zs.1) ≡ all = cc is in
          subst Goal same (record { first = y.0 ∷ rest.first; mid = rest.mid; second = rest.second; in_first = rw (at, rest.in_first) refl; in_second = rest.in_second; both = ap (λ l. y.0 ∷ l) rest.both })

      on : (r : Result (Y × S) Error) → f s x ≡ r → ((t : S) (found : List Y × S) → in_turn f t (xs ++ ys) ≡ Ok found → Parts t xs ys found)
          → (r >>= λ y. in_turn f y.1 (xs ++ ys) >>= λ zs. Ok (y.0 ∷ zs.0, zs.1)) ≡ Ok all → Goal all
      on (Err e) at deeper is = absurd (cc is)
      on (Ok y) at deeper is = within y at (in_turn f y.1 (xs ++ ys)) (deeper y.1) is
