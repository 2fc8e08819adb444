-- Uses of texts in lists: what each step gives stands beside the uses of all others.
use Rattle.std.proofs.Common.{◌≡◌, ◌∙◌, ℕ, ◌+◌, List, [], ◌∷◌, map, refl, arith, Result, Ok}
use Rattle.std.specs.Prelude.{IfOk}
use Rattle.std.specs.List.{All, sum_by}
use Rattle.std.proofs.lemmas.List.Elements.{All-cons, All-tail}
use Rattle.std.proofs.lemmas.List.Sums.{sum_by-cons}
use Rattle.cfb_medium.specs.declared.error.Error.{Error}
use Rattle.msi_texts.specs.Results.{◌>>=◌}
use Rattle.msi_pool.specs.Pool.{Pool}
use Rattle.msi_changes.specs.Changes.{in_turn}
use Rattle.msi_changes.proofs.CellUses.{HasUses, Stays, Gives, after_ok, all_stay, fewer_stay, same_uses, stays_then}

-- the uses of a list
abbrev pub uses_all : {X : Type 0} → (X → ℕ → ℕ) → List X → ℕ → ℕ
uses_all uses xs n = sum_by (λ x. uses x n) xs

pub All-head : {X : Type 0} (P : X → Type 0) (x : X) (xs : List X) → All P (x ∷ xs) → P x
All-head P x xs h = h 0 x (omega arith)

-- what is seen of a list stays, where it stays of each
module _ {X D : Type 0} (see : Pool → X → D) (ok : X → Type 0) (uses : X → ℕ → ℕ)
    (one : (p q : Pool) (x : X) (others : ℕ → ℕ) → ok x → Stays (λ n. uses x n + others n) p q → see q x ≡ see p x) where
  pub list_stays : (p q : Pool) (xs : List X) (others : ℕ → ℕ) → All ok xs → Stays (λ n. uses_all uses xs n + others n) p q → map (see q) xs ≡ map (see p) xs
  list_stays p q [] others fine s = refl
  list_stays p q (x ∷ xs) others fine s =
      let here : see q x ≡ see p x = one p q x (λ n. uses_all uses xs n + others n) (All-head ok x xs fine) (fewer_stay (λ n at some. omega (arith, sum_by-cons (λ y. uses y n) x xs, some)) s) in
      let rest : map (see q) xs ≡ map (see p) xs =
      list_stays p q xs (λ n. uses x n + others n) (All-tail ok x xs fine) (fewer_stay (λ n at some. omega (arith, sum_by-cons (λ y. uses y n) x xs, some)) s) in
      rw (here, rest) refl

module _ {X Y D : Type 0} (f : Pool → X → Result (Y × Pool) Error) (before : X → ℕ → ℕ) (given : X → Type 0) (wanted : Pool → X → D)
    (after : Y → ℕ → ℕ) (ok : Y → Type 0) (see : Pool → Y → D)
    (each : (p : Pool) (x : X) (others : ℕ → ℕ) → given x → HasUses p (λ n. before x n + others n) → IfOk (f p x) (Gives see ok after others p (wanted p x)))
    (wanted_stays : (p q : Pool) (x : X) (others : ℕ → ℕ) → given x → Stays (λ n. before x n + others n) p q → wanted q x ≡ wanted p x)
    (see_stays : (p q : Pool) (y : Y) (others : ℕ → ℕ) → ok y → Stays (λ n. after y n + others n) p q → see q y ≡ see p y) where
  -- the same of a list
  abbrev pub GivesAll : (ℕ → ℕ) → Pool → List X → List Y × Pool → Type 0
  GivesAll others p xs r = Gives (λ q ys. map (see q) ys) (All ok) (uses_all after) others p (map (wanted p) xs) r

  one_more : (p q : Pool) (x : X) (xs : List X) (y : Y) (others : ℕ → ℕ) → All given (x ∷ xs) → Gives see ok after (λ n. uses_all before xs n + others n) p (wanted p x) (y, q)
      → (r : List Y × Pool) → GivesAll (λ n. after y n + others n) q xs r → GivesAll others p (x ∷ xs) (y ∷ r.0, r.1)
  one_more p q x xs y others are first r rest =
      let here : see r.1 y ≡ wanted p x = see_stays q r.1 y others first.fine rest.stays ∙ first.reads in
      let others_read : map (wanted q) xs ≡ map (wanted p) xs = list_stays wanted given before wanted_stays p q xs others (All-tail given x xs are) first.stays in
      record {
        counts = same_uses (λ n at. omega (arith, sum_by-cons (λ z. after z n) y r.0)) rest.counts;
        reads = rw (here, rest.reads, others_read) refl;
        fine = All-cons ok y r.0 first.fine rest.fine;
        stays = stays_then (fewer_stay (λ n at some. omega (arith, some)) first.stays) (fewer_stay (λ n at some. omega (arith, some)) rest.stays);
      }

  pub turns_give : (p : Pool) (xs : List X) (others : ℕ → ℕ) → All given xs → HasUses p (λ n. uses_all before xs n + others n) → IfOk (in_turn f p xs) (GivesAll others p xs)
  turns_give p [] others are h = record { counts = h; reads = refl; fine = λ k d in_it. absurd (omega (arith, in_it)); stays = all_stay others p }
  turns_give p (x ∷ xs) others are h =
      after_ok _ _ (f p x) (λ y. in_turn f y.1 xs >>= λ ys. Ok (y.0 ∷ ys.0, ys.1))
      (each p x (λ n. uses_all before xs n + others n) (All-head given x xs are) (same_uses (λ n at. omega (arith, sum_by-cons (λ z. before z n) x xs)) h))
      (λ y first. after_ok _ _ (in_turn f y.1 xs) (λ ys. Ok (y.0 ∷ ys.0, ys.1))
      (turns_give y.1 xs (λ n. after y.0 n + others n) (All-tail given x xs are) (same_uses (λ n at. omega arith) first.counts))
      (λ ys rest. one_more p y.1 x xs y.0 others are first ys rest))
