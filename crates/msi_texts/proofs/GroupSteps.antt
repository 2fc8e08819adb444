-- Testing the groups of a hyphenated identifier one by one.
use Rattle.std.proofs.Common.{◌≡◌, ℕ, zero, suc, ◌+◌, ◌<◌, ◌≤◌, true, false, List, [], ◌∷◌, drop, refl, ap, sym, ◌∙◌, arith}
use Rattle.std.specs.Prelude.{◌&&◌, ◌==◌}
use Rattle.std.proofs.lemmas.List.{at_drop_all, drop-drop}
use Rattle.msi_texts.specs.Category.{are_groups, group_lens}
use Rattle.msi_texts.specs.Groups.{is_first_group, is_group_at}

groups_first : (g : List ℕ) (gs : List (List ℕ)) (ns : List ℕ) → are_groups (g ∷ gs) ns ≡ (is_first_group g ns && are_groups gs (drop 1 ns))
groups_first g gs [] = refl
groups_first g gs (n ∷ ns) = refl

-- behind the right group come the right ones
pub group_passed : (gs : List (List ℕ)) (g : List ℕ) (rest : List (List ℕ)) (n : ℕ) → gs ≡ g ∷ rest → is_group_at g n ≡ true → are_groups gs (drop n group_lens) ≡ are_groups rest (drop (n + 1) group_lens)
group_passed gs g rest n cut h =
    ap (λ z. are_groups z (drop n group_lens)) cut
    ∙ groups_first g rest (drop n group_lens)
    ∙ ap (λ b. b && are_groups rest (drop 1 (drop n group_lens))) h
    ∙ ap (are_groups rest) (drop-drop 1 n group_lens)

-- behind a wrong one all is lost
pub group_failed : (gs : List (List ℕ)) (g : List ℕ) (rest : List (List ℕ)) (n : ℕ) → gs ≡ g ∷ rest → is_group_at g n ≡ false → are_groups gs (drop n group_lens) ≡ false
group_failed gs g rest n cut h = ap (λ z. are_groups z (drop n group_lens)) cut ∙ groups_first g rest (drop n group_lens) ∙ ap (λ b. b && are_groups rest (drop 1 (drop n group_lens))) h

-- past the last no group is right
pub few_groups : (g : List ℕ) (n : ℕ) → is_group_at g n ≡ true → n < 5
few_groups g zero h = omega arith
few_groups g (suc zero) h = omega arith
few_groups g (suc (suc zero)) h = omega arith
few_groups g (suc (suc (suc zero))) h = omega arith
few_groups g (suc (suc (suc (suc zero)))) h = omega arith
few_groups g (suc (suc (suc (suc (suc n))))) h = let none : drop (suc (suc (suc (suc (suc n))))) group_lens ≡ [] = at_drop_all (λ z. z) group_lens (suc (suc (suc (suc (suc n))))) (omega arith) in let e : false ≡ true = ap (is_first_group g) (sym none) ∙ h in cc

-- at the end the groups are right where there were five
pub groups_end : (n : ℕ) → n ≤ 5 → are_groups [] (drop n group_lens) ≡ (n == 5)
groups_end zero l = refl
groups_end (suc zero) l = refl
groups_end (suc (suc zero)) l = refl
groups_end (suc (suc (suc zero))) l = refl
groups_end (suc (suc (suc (suc zero)))) l = refl
groups_end (suc (suc (suc (suc (suc zero))))) l = refl
groups_end (suc (suc (suc (suc (suc (suc n)))))) l = absurd (omega arith)
