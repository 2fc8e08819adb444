-- A name without characters that stand for letters is read back as it was written.
use Rattle.std.proofs.Common.{◌≡◌, ℕ, ◌+◌, ◌-◌, ◌*◌, ◌/◌, ◌%◌, ◌<◌, Bool, true, false, cond, List, [], ◌∷◌, ◌++◌, Option, Some, None, refl, ap, ap₂, sym, ◌∙◌, arith}
use Rattle.std.specs.Prelude.{◌==◌, ◌&&◌}
use Rattle.std.proofs.lemmas.Bool.Decides.{nat_tests}
use Rattle.msi_texts.specs.StreamName.{table_prefix, is_between, letter_value, letter_of, lone, lone_of, pair, pair_of, joined_or, spelled, spelled_name, chars_spelled_by, read_back, is_marked, unmarked, name_of, is_plain, is_plain_name}

-- a letter's value is below 64, and stands for that letter
pub letter_value-back : (c v : ℕ) → letter_value c ≡ Some v → (v < 64) × (letter_of v ≡ c)
letter_value-back c v h = go (is_between 48 57 c) (is_between 65 90 c) (is_between 97 122 c) (c == 46) (c == 95) refl refl refl refl refl h
  where
    go : (a b d e f : Bool) → is_between 48 57 c ≡ a → is_between 65 90 c ≡ b → is_between 97 122 c ≡ d → (c == 46) ≡ e → (c == 95) ≡ f →
        cond a (Some (c - 48)) (cond b (Some (c - 65 + 10)) (cond d (Some (c - 97 + 36)) (cond e (Some 62) (cond f (Some 63) None)))) ≡ Some v →
        (v < 64) × (letter_of v ≡ c)
    go true b d e f is_a is_b is_d is_e is_f h = let is : c - 48 ≡ v = cc in (grind (arith, nat_tests, is, is_a), grind (arith, nat_tests, is, is_a))
    go false true d e f is_a is_b is_d is_e is_f h = let is : c - 65 + 10 ≡ v = cc in (grind (arith, nat_tests, is, is_b), grind (arith, nat_tests, is, is_b))
    go false false true e f is_a is_b is_d is_e is_f h = let is : c - 97 + 36 ≡ v = cc in (grind (arith, nat_tests, is, is_d), grind (arith, nat_tests, is, is_d))
    go false false false true f is_a is_b is_d is_e is_f h = let is : 62 ≡ v = cc in (omega arith, rw (← is) (grind (arith, nat_tests, is_e)))
    go false false false false true is_a is_b is_d is_e is_f h = let is : 63 ≡ v = cc in (omega arith, rw (← is) (grind (arith, nat_tests, is_f)))
    go false false false false false is_a is_b is_d is_e is_f h = cc

-- the characters that are written stand for the letters
lone_back : (c : ℕ) → is_plain c ≡ true → chars_spelled_by (lone c) ≡ c ∷ []
lone_back c h = go (letter_value c) refl
  where
    go : (o : Option ℕ) → letter_value c ≡ o → chars_spelled_by (lone_of o c) ≡ c ∷ []
    go None e = grind (arith, nat_tests, h)
    go (Some v) e = let back = letter_value-back c v e in grind (arith, nat_tests, back.0, back.1)

letters_of-pair : (v w p : ℕ) → v < 64 → w < 64 → 0x3800 + 64 * w + v ≡ p → chars_spelled_by p ≡ letter_of v ∷ letter_of w ∷ []
letters_of-pair v w p l m is =
    let low : (p - 0x3800) % 64 ≡ v = omega arith in
    let high : (p - 0x3800) / 64 ≡ w = omega arith in
    let inside : is_between 0x3800 0x47FF p ≡ true = grind (arith, nat_tests) in
    rw inside (ap₂ (λ x y. letter_of x ∷ letter_of y ∷ []) low high)

pair_back : (c d p : ℕ) → pair c d ≡ Some p → chars_spelled_by p ≡ c ∷ d ∷ []
pair_back c d p h = go (letter_value c) (letter_value d) refl refl h
  where
    go : (o q : Option ℕ) → letter_value c ≡ o → letter_value d ≡ q → pair_of o q ≡ Some p → chars_spelled_by p ≡ c ∷ d ∷ []
    go None q e f h = cc
    go (Some v) None e f h = cc
    go (Some v) (Some w) e f h =
        let first = letter_value-back c v e in
        let second = letter_value-back d w f in
        letters_of-pair v w p first.0 second.0 (cc) ∙ ap₂ (λ x y. x ∷ y ∷ []) first.1 second.1

plain_first : (c : ℕ) (cs : List ℕ) → is_plain_name (c ∷ cs) ≡ true → is_plain c ≡ true
plain_first c cs h = go (is_plain c) h
  where
    go : (b : Bool) → b && is_plain_name cs ≡ true → b ≡ true
    go true h = refl
    go false h = h

plain_rest : (c : ℕ) (cs : List ℕ) → is_plain_name (c ∷ cs) ≡ true → is_plain_name cs ≡ true
plain_rest c cs h = go (is_plain c) h
  where
    go : (b : Bool) → b && is_plain_name cs ≡ true → is_plain_name cs ≡ true
    go true h = h
    go false h = cc

-- the name comes back
pub spelled_name_reads_back : (cs : List ℕ) → is_plain_name cs ≡ true → read_back (spelled cs) ≡ cs
spelled_name_reads_back [] h = refl
spelled_name_reads_back (c ∷ []) h = ap (λ x. x ++ []) (lone_back c (plain_first c [] h))
spelled_name_reads_back (c ∷ d ∷ rest) h =
    go (pair c d) refl (λ z. spelled_name_reads_back rest (plain_rest d rest z)) (spelled_name_reads_back (d ∷ rest)) (plain_rest c (d ∷ rest) h)
  where
    go : (o : Option ℕ) → pair c d ≡ o → (is_plain_name (d ∷ rest) ≡ true → read_back (spelled rest) ≡ rest) → (is_plain_name (d ∷ rest) ≡ true → read_back (spelled (d ∷ rest)) ≡ d ∷ rest) →
        is_plain_name (d ∷ rest) ≡ true → read_back (joined_or o c (spelled rest) (spelled (d ∷ rest))) ≡ c ∷ d ∷ rest
    go None e joined apart z = ap₂ (λ x y. x ++ y) (lone_back c (plain_first c (d ∷ rest) h)) (apart z)
    go (Some p) e joined apart z = ap₂ (λ x y. x ++ y) (pair_back c d p e) (joined z)

-- two such names that are spelled alike are one
pub spelled_names_differ : (cs ds : List ℕ) → is_plain_name cs ≡ true → is_plain_name ds ≡ true → spelled cs ≡ spelled ds → cs ≡ ds
spelled_names_differ cs ds h k e = sym (spelled_name_reads_back cs h) ∙ ap read_back e ∙ spelled_name_reads_back ds k

pub lone_unmarked : (c : ℕ) → (c == table_prefix) ≡ false → (lone c == table_prefix) ≡ false
lone_unmarked c h = go (letter_value c) refl
  where
    go : (o : Option ℕ) → letter_value c ≡ o → (lone_of o c == table_prefix) ≡ false
    go None e = h
    go (Some v) e = let back = letter_value-back c v e in grind (arith, nat_tests, back.0)

pair_unmarked : (c d p : ℕ) → pair c d ≡ Some p → (p == table_prefix) ≡ false
pair_unmarked c d p h = go (letter_value c) (letter_value d) refl refl h
  where
    go : (o q : Option ℕ) → letter_value c ≡ o → letter_value d ≡ q → pair_of o q ≡ Some p → (p == table_prefix) ≡ false
    go None q e f h = cc
    go (Some v) None e f h = cc
    go (Some v) (Some w) e f h =
        let first = letter_value-back c v e in
        let second = letter_value-back d w f in
        let is : 0x3800 + 64 * w + v ≡ p = cc in
        grind (arith, nat_tests, is, first.0, second.0)

-- the table's mark is none of the characters that a name is spelled with, where the name does not begin with it
pub first_unmarked : (cs : List ℕ) → is_marked cs ≡ false → is_marked (spelled cs) ≡ false
first_unmarked [] h = refl
first_unmarked (c ∷ []) h = lone_unmarked c h
first_unmarked (c ∷ d ∷ rest) h = go (pair c d) refl
  where
    go : (o : Option ℕ) → pair c d ≡ o → is_marked (joined_or o c (spelled rest) (spelled (d ∷ rest))) ≡ false
    go None e = lone_unmarked c h
    go (Some p) e = pair_unmarked c d p e

unmarked_whole : (cs : List ℕ) → is_marked cs ≡ false → unmarked cs ≡ cs
unmarked_whole [] h = refl
unmarked_whole (c ∷ cs) h = rw h refl

-- a table's name is read back as a table's, another as another
pub marked_name_reads_back : (table : Bool) (cs : List ℕ) → is_plain_name cs ≡ true → (table ≡ false → is_marked cs ≡ false) →
    (name_of (spelled_name table cs) ≡ cs) × (is_marked (spelled_name table cs) ≡ table)
marked_name_reads_back true cs h k = (spelled_name_reads_back cs h, refl)
marked_name_reads_back false cs h k =
    let first = first_unmarked cs (k refl) in
    (ap read_back (unmarked_whole (spelled cs) first) ∙ spelled_name_reads_back cs h, first)
