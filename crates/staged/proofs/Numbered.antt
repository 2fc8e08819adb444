-- Pages that stand in bytes one behind the other.
use Rattle.std.proofs.Common.{inl, inr, ◌≡◌, ℕ, zero, suc, ◌+◌, ◌-◌, ◌*◌, ◌<◌, ◌≤◌, List, [], ◌∷◌, ◌++◌, length, get_or, take, drop, Option, is_some, refl, sym, ◌∙◌, ap, arith, subst, length-take, length-drop}
use Rattle.std.specs.Prelude.{IsTrue}
use Rattle.std.proofs.lemmas.Bool.{cases_eq}
use Rattle.std.proofs.lemmas.List.{take-take, drop-take, drop-drop}
use Rattle.staged.specs.Log.{numbered}
use Rattle.staged.specs.Pages.{HoldsPage}
use Rattle.staged.specs.declared.pages.Page.{Page}
use Rattle.staged.proofs.Found.{at_head, at_tail}

abbrev pub page : ℕ → List ℕ → Page
page number bytes = record { number = number; bytes = bytes }

pub length-numbered : (n first : ℕ) (bytes : List ℕ) → length (numbered first n bytes) ≡ n
length-numbered zero first bytes = refl
length-numbered (suc n) first bytes = let e : length (numbered (first + 1) n (drop 512 bytes)) ≡ n = length-numbered n (first + 1) (drop 512 bytes) in omega arith

-- bytes behind them don't count
pub numbered_taken : (n first : ℕ) (bytes : List ℕ) → numbered first n (take (512 * n) bytes) ≡ numbered first n bytes
numbered_taken zero first bytes = refl
numbered_taken (suc n) first bytes =
    let split : 512 * suc n ≡ 512 + 512 * n = omega arith in
    let one : take 512 (take (512 * suc n) bytes) ≡ take 512 bytes = take-take 512 (512 * suc n) bytes (omega arith) in
    let others : drop 512 (take (512 * suc n) bytes) ≡ take (512 * n) (drop 512 bytes) = ap (λ (k : ℕ). drop 512 (take k bytes)) split ∙ drop-take 512 (512 * n) bytes in
    ap (λ (b : List ℕ). page first b ∷ numbered (first + 1) n (drop 512 (take (512 * suc n) bytes))) one
    ∙ ap (λ (r : List ℕ). page first (take 512 bytes) ∷ numbered (first + 1) n r) others
    ∙ ap (λ (ps : List Page). page first (take 512 bytes) ∷ ps) (numbered_taken n (first + 1) (drop 512 bytes))

pub numbered_same : (n first : ℕ) (xs ys : List ℕ) → take (512 * n) xs ≡ take (512 * n) ys → numbered first n xs ≡ numbered first n ys
numbered_same n first xs ys same = sym (numbered_taken n first xs) ∙ ap (λ (l : List ℕ). numbered first n l) same ∙ numbered_taken n first ys

-- one more page
pub numbered_more : (n first number at : ℕ) (bytes : List ℕ) → number ≡ first + n → at ≡ 512 * n → numbered first (suc n) bytes ≡ numbered first n bytes ++ page number (take 512 (drop at bytes)) ∷ []
numbered_more zero first number at bytes is place =
    let same : first ≡ number = omega arith in
    let none : 0 ≡ at = omega arith in
    ap (λ (k : ℕ). page k (take 512 bytes) ∷ []) same ∙ ap (λ (k : ℕ). page number (take 512 (drop k bytes)) ∷ []) none
numbered_more (suc n) first number at bytes is place =
    let next : numbered (first + 1) (suc n) (drop 512 bytes) ≡ numbered (first + 1) n (drop 512 bytes) ++ page number (take 512 (drop (at - 512) (drop 512 bytes))) ∷ [] = numbered_more n (first + 1) number (at - 512) (drop 512 bytes) (omega arith) (omega arith) in
    let there : 512 + (at - 512) ≡ at = omega arith in
    let spot : drop (at - 512) (drop 512 bytes) ≡ drop at bytes = drop-drop (at - 512) 512 bytes ∙ ap (λ (k : ℕ). drop k bytes) there in
    ap (λ (ps : List Page). page first (take 512 bytes) ∷ ps) (next ∙ ap (λ (l : List ℕ). numbered (first + 1) n (drop 512 bytes) ++ page number (take 512 l) ∷ []) spot)

-- one of them, and those on both sides
pub numbered_split : (k n first : ℕ) (bytes : List ℕ) → k < n → (block : List ℕ) × (more : List Page) × (numbered first n bytes ≡ numbered first k bytes ++ page (first + k) block ∷ more)
numbered_split k zero first bytes within = absurd (omega arith)
numbered_split zero (suc n) first bytes within =
    let same : first ≡ first + 0 = omega arith in
    (take 512 bytes, numbered (first + 1) n (drop 512 bytes), ap (λ (m : ℕ). page m (take 512 bytes) ∷ numbered (first + 1) n (drop 512 bytes)) same)
numbered_split (suc k) (suc n) first bytes within =
    let rest = numbered_split k n (first + 1) (drop 512 bytes) (omega arith) in
    let same : first + 1 + k ≡ first + suc k = omega arith in (
      rest.0,
      rest.1,
      ap (λ (ps : List Page). page first (take 512 bytes) ∷ ps) (rest.2 ∙ ap (λ (m : ℕ). numbered (first + 1) k (drop 512 bytes) ++ page m rest.0 ∷ rest.1) same),
    )

pub numbered_holds : (n first m : ℕ) (bytes : List ℕ) → first ≤ m → m < first + n → HoldsPage (numbered first n bytes) m
numbered_holds zero first m bytes from below = absurd (omega arith)
numbered_holds (suc n) first m bytes from below = elim (cases_eq first m) [
  | inl same ↦ subst (λ (p : Option (List ℕ)). IsTrue (is_some p)) (sym (at_head (page first (take 512 bytes)) (numbered (first + 1) n (drop 512 bytes)) m same)) refl
  | inr other ↦ subst (λ (p : Option (List ℕ)). IsTrue (is_some p)) (sym (at_tail (page first (take 512 bytes)) (numbered (first + 1) n (drop 512 bytes)) m other)) (numbered_holds n (first + 1) m (drop 512 bytes) (omega arith) (omega arith))
]

-- pages of 512 bytes
abbrev pub Sized : List Page → Type 0
Sized pages = (k : ℕ) (d : Page) → k < length pages → length (get_or pages k d).bytes ≡ 512

pub numbered_sized : (n first : ℕ) (bytes : List ℕ) → 512 * n ≤ length bytes → Sized (numbered first n bytes)
numbered_sized zero first bytes fits k d within = absurd (omega arith)
numbered_sized (suc n) first bytes fits zero d within = let e : length (take 512 bytes) ≡ 512 = omega (arith, length-take 512 bytes) in e
numbered_sized (suc n) first bytes fits (suc k) d within = numbered_sized n (first + 1) (drop 512 bytes) (omega (arith, length-drop 512 bytes)) k d (omega arith)

pub sized_both : (a b : List Page) → Sized a → Sized b → Sized (a ++ b)
sized_both [] b first second k d within = second k d within
sized_both (p ∷ a) b first second zero d within = first zero d (omega arith)
sized_both (p ∷ a) b first second (suc k) d within = sized_both a b (λ j e below. first (suc j) e (omega arith)) second k d (omega arith)
