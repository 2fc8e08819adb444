-- Where texts are cut.
use Rattle.std.proofs.Common.{◌≡◌, ◌≢◌, ◌∙◌, ℕ, ◌<◌, Bool, true, false, cond, List, [], ◌∷◌, Option, Some, None, length, refl, sym, ap, ap₂, arith}
use Rattle.std.specs.Prelude.{◌==◌, MatchOption, nat_lt}
use Rattle.std.specs.Borrow.{Bor}
use Rattle.std.specs.List.{after_first, before_first, position_or_len}
use Rattle.std.specs.Option.{option_copied}
use Rattle.std.proofs.lemmas.Bool.Decides.{nat_tests}
use Rattle.product_rules.specs.Texts.{languages_in, packed_name}

is_this : (a b : ℕ) → (a == b) ≡ true → a ≡ b
is_this a b h = grind (arith, nat_tests)

is_itself : (a b : ℕ) → a ≡ b → (a == b) ≡ true
is_itself a b h = grind (arith, nat_tests)

pub packed_is : (t : List ℕ) (r : Option (Bor (List ℕ))) → MatchOption r ((rest : List ℕ) → t ≢ 35 ∷ rest) (λ x. t ≡ 35 ∷ x.now) → option_copied r ≡ packed_name t
packed_is [] None h = refl
packed_is [] (Some x) h = absurd (cc h)
packed_is (b ∷ bs) None h = on (b == 35) refl
  where
    on : (v : Bool) → (b == 35) ≡ v → None ≡ cond v (Some bs) None
    on true e = absurd (h bs (ap (λ n. n ∷ bs) (is_this b 35 e)))
    on false e = refl
packed_is (b ∷ bs) (Some x) h =
    let first : b ≡ 35 = cc h in
    let rest : x.now ≡ bs = cc h in
    ap Some rest ∙ ap (λ v. cond v (Some bs) None) (sym (is_itself b 35 first))

below : (a b : ℕ) → a < b → nat_lt a b ≡ true
below a b h = grind (arith, nat_tests)

not_below : (a b : ℕ) → a ≡ b → nat_lt a b ≡ false
not_below a b h = grind (arith, nat_tests)

pub none_behind : (t : List ℕ) → position_or_len (λ b. b == 59) t ≡ length t → None ≡ languages_in t
none_behind t h = ap (λ v. cond v (Some (after_first (λ b. b == 59) t)) None) (sym (not_below (position_or_len (λ b. b == 59) t) (length t) h))

pub some_behind : (t rest : List ℕ) → position_or_len (λ b. b == 59) t < length t → rest ≡ after_first (λ b. b == 59) t → Some rest ≡ languages_in t
some_behind t rest h is = ap Some is ∙ ap (λ v. cond v (Some (after_first (λ b. b == 59) t)) None) (sym (below (position_or_len (λ b. b == 59) t) (length t) h))
