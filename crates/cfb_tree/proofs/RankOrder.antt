-- The order of UTF-16 units is that of the characters' ranks.
use Rattle.std.proofs.Common.{◌≡◌, ℕ, ◌+◌, ◌-◌, ◌/◌, ◌%◌, ◌<◌, ◌≤◌, inl, inr, true, List, [], ◌∷◌, ◌++◌, map, flat_map, refl, ap, sym, ◌∙◌, arith}
use Rattle.std.specs.Ordering.{nat_cmp, ordering_then, ordering_reverse}
use Rattle.std.specs.Cmp.Lexicographic.{slice_cmp, nat_list_cmp_total}
use Rattle.std.specs.Char.{IsScalar}
use Rattle.std.specs.Char.Escape.{encode_utf16}
use Rattle.std.specs.List.{AllByRecursion}
use Rattle.std.specs.declared.cmp.Ordering.TheVariants.{Less, Equal, Greater}
use Rattle.std.specs.Cmp.{first_so, second_so}
use Rattle.std.proofs.Math.Utf8.{scalar, scalars, scalar_cases}
use Rattle.std.proofs.lemmas.Bool.Decides.{nat_tests}
use Rattle.cfb_tree.specs.Names.{rank}
use Rattle.cfb_tree.proofs.NamesRead.{one_unit, two_units, two_sides}

below : (a b : ℕ) → a < b → nat_cmp a b ≡ Less
below a b h = grind (arith, nat_tests)

level : (a b : ℕ) → a ≡ b → nat_cmp a b ≡ Equal
level a b h = grind (arith, nat_tests)

above : (a b : ℕ) → b < a → nat_cmp a b ≡ Greater
above a b h = grind (arith, nat_tests)

-- a character's rank, by how many units it has and where they stand
data Ranked (c : ℕ) : Type 0 where
  low : c < 0xD800 → rank c ≡ c → Ranked c
  high : 0xE000 ≤ c → c < 0x1_0000 → rank c ≡ c + 0x10_0000 → Ranked c
  pair : 0x1_0000 ≤ c → c < 0x11_0000 → rank c ≡ c - 0x2800 → Ranked c

ranked : (c : ℕ) → IsScalar c → Ranked c
ranked c h = elim (scalar_cases c h) [
  | inl under ↦ low under (grind (arith, nat_tests))
  | inr over ↦ elim (two_sides c 0x1_0000) [
    | inl small ↦ high over.0 small (grind (arith, nat_tests))
    | inr large ↦ pair large over.1 (grind (arith, nat_tests))
  ]
]

first_less : (a b : ℕ) (us vs : List ℕ) → a < b → slice_cmp nat_cmp (a ∷ us) (b ∷ vs) ≡ Less
first_less a b us vs h = ap (λ o. ordering_then o (slice_cmp nat_cmp us vs)) (below a b h)

second_less : (a b x y : ℕ) (us vs : List ℕ) → a ≡ b → x < y → slice_cmp nat_cmp (a ∷ x ∷ us) (b ∷ y ∷ vs) ≡ Less
second_less a b x y us vs e h = ap (λ o. ordering_then o (slice_cmp nat_cmp (x ∷ us) (y ∷ vs))) (level a b e) ∙ first_less x y us vs h

-- the two units of a character
abbrev lead : ℕ → ℕ
lead c = 0xD800 + (c - 0x1_0000) / 0x400

abbrev trail : ℕ → ℕ
trail c = 0xDC00 + (c - 0x1_0000) % 0x400

module _ (c d : ℕ) (us vs : List ℕ) where
  ones : c < 0x1_0000 → d < 0x1_0000 → c < d → slice_cmp nat_cmp (encode_utf16 c ++ us) (encode_utf16 d ++ vs) ≡ Less
  ones h k l = rw (one_unit c h, one_unit d k) (first_less c d us vs l)

  one_two : c < 0xD800 → 0x1_0000 ≤ d → slice_cmp nat_cmp (encode_utf16 c ++ us) (encode_utf16 d ++ vs) ≡ Less
  one_two h k = rw (one_unit c (omega arith), two_units d k) (first_less c (lead d) us (trail d ∷ vs) (omega arith))

  two_one : 0x1_0000 ≤ c → c < 0x11_0000 → 0xE000 ≤ d → d < 0x1_0000 → slice_cmp nat_cmp (encode_utf16 c ++ us) (encode_utf16 d ++ vs) ≡ Less
  two_one h j k l = rw (two_units c h, one_unit d l) (first_less (lead c) d (trail c ∷ us) vs (omega arith))

  twos : 0x1_0000 ≤ c → 0x1_0000 ≤ d → c < d → slice_cmp nat_cmp (encode_utf16 c ++ us) (encode_utf16 d ++ vs) ≡ Less
  twos h k l = rw (two_units c h, two_units d k) (elim (two_sides ((c - 0x1_0000) / 0x400) ((d - 0x1_0000) / 0x400)) [
    | inl rises ↦ first_less (lead c) (lead d) (trail c ∷ us) (trail d ∷ vs) (omega arith)
    | inr stays ↦ second_less (lead c) (lead d) (trail c) (trail d) us vs (omega arith) (omega arith)
  ])

  -- the smaller rank comes first
  ranked_less : Ranked c → Ranked d → rank c < rank d → slice_cmp nat_cmp (encode_utf16 c ++ us) (encode_utf16 d ++ vs) ≡ Less
  ranked_less (low a i) (low b j) h = ones (omega arith) (omega arith) (omega (arith, h, i, j))
  ranked_less (low a i) (high b k j) h = ones (omega arith) (omega arith) (omega arith)
  ranked_less (low a i) (pair b k j) h = one_two a b
  ranked_less (high a l i) (low b j) h = absurd (omega (arith, h, i, j))
  ranked_less (high a l i) (high b k j) h = ones (omega arith) (omega arith) (omega (arith, h, i, j))
  ranked_less (high a l i) (pair b k j) h = absurd (omega (arith, h, i, j))
  ranked_less (pair a l i) (low b j) h = absurd (omega (arith, h, i, j))
  ranked_less (pair a l i) (high b k j) h = two_one a l b k
  ranked_less (pair a l i) (pair b k j) h = twos a b (omega (arith, h, i, j))

-- characters of one rank are one
one_rank : (c d : ℕ) → Ranked c → Ranked d → rank c ≡ rank d → c ≡ d
one_rank c d (low a i) (low b j) h = omega (arith, h, i, j)
one_rank c d (low a i) (high b k j) h = absurd (omega (arith, h, i, j))
one_rank c d (low a i) (pair b k j) h = absurd (omega (arith, h, i, j))
one_rank c d (high a l i) (low b j) h = absurd (omega (arith, h, i, j))
one_rank c d (high a l i) (high b k j) h = omega (arith, h, i, j)
one_rank c d (high a l i) (pair b k j) h = absurd (omega (arith, h, i, j))
one_rank c d (pair a l i) (low b j) h = absurd (omega (arith, h, i, j))
one_rank c d (pair a l i) (high b k j) h = absurd (omega (arith, h, i, j))
one_rank c d (pair a l i) (pair b k j) h = omega (arith, h, i, j)

same_front : (xs us vs : List ℕ) → slice_cmp nat_cmp (xs ++ us) (xs ++ vs) ≡ slice_cmp nat_cmp us vs
same_front [] us vs = refl
same_front (x ∷ xs) us vs = ap (λ o. ordering_then o (slice_cmp nat_cmp (xs ++ us) (xs ++ vs))) (level x x refl) ∙ same_front xs us vs

one_character : (c d : ℕ) (us vs : List ℕ) → Ranked c → Ranked d →
    slice_cmp nat_cmp (encode_utf16 c ++ us) (encode_utf16 d ++ vs) ≡ ordering_then (nat_cmp (rank c) (rank d)) (slice_cmp nat_cmp us vs)
one_character c d us vs h k = let after = slice_cmp nat_cmp us vs in elim (two_sides (rank c) (rank d)) [
  | inl less ↦ ranked_less c d us vs h k less ∙ ap (λ o. ordering_then o after) (sym (below (rank c) (rank d) less))
  | inr most ↦ elim (two_sides (rank d) (rank c)) [
    | inl more ↦ nat_list_cmp_total.antisymm (encode_utf16 c ++ us) (encode_utf16 d ++ vs) ∙ ap ordering_reverse (ranked_less d c vs us k h more)
        ∙ ap (λ o. ordering_then o after) (sym (above (rank c) (rank d) more))
    | inr least ↦ ap (λ x. slice_cmp nat_cmp (encode_utf16 c ++ us) (encode_utf16 x ++ vs)) (one_rank d c k h (omega (arith, most, least)))
        ∙ same_front (encode_utf16 c) us vs ∙ ap (λ o. ordering_then o after) (sym (level (rank c) (rank d) (omega (arith, most, least))))
  ]
]

some_units : (c : ℕ) (us : List ℕ) → (slice_cmp nat_cmp [] (encode_utf16 c ++ us) ≡ Less) × (slice_cmp nat_cmp (encode_utf16 c ++ us) [] ≡ Greater)
some_units c us = elim (two_sides c 0x1_0000) [
  | inl small ↦ (rw (one_unit c small) refl, rw (one_unit c small) refl)
  | inr large ↦ (rw (two_units c large) refl, rw (two_units c large) refl)
]

module _ (f : ℕ → ℕ) where
  abbrev units_in : List ℕ → List ℕ
  units_in cs = flat_map (λ c. encode_utf16 (f c)) cs

  abbrev ranks : List ℕ → List ℕ
  ranks cs = map (λ c. rank (f c)) cs

  -- two lists of units are in the order of the ranks
  pub by_rank : (cs ds : List ℕ) → AllByRecursion (λ c. IsScalar (f c)) cs → AllByRecursion (λ c. IsScalar (f c)) ds →
      slice_cmp nat_cmp (units_in cs) (units_in ds) ≡ slice_cmp nat_cmp (ranks cs) (ranks ds)
  by_rank [] [] h k = refl
  by_rank [] (d ∷ ds) h k = (some_units (f d) (units_in ds)).0
  by_rank (c ∷ cs) [] h k = (some_units (f c) (units_in cs)).1
  by_rank (c ∷ cs) (d ∷ ds) h k =
      one_character (f c) (f d) (units_in cs) (units_in ds) (ranked (f c) h.0) (ranked (f d) k.0)
      ∙ ap (ordering_then (nat_cmp (rank (f c)) (rank (f d)))) (by_rank cs ds h.1 k.1)

  pub all_scalar : ((c : ℕ) → IsScalar c → IsScalar (f c)) → (cs : List ℕ) → scalars cs ≡ true → AllByRecursion (λ c. IsScalar (f c)) cs
  all_scalar keeps [] h = tt
  all_scalar keeps (c ∷ cs) h = (keeps c (first_so (scalar c) (scalars cs) h), all_scalar keeps cs (second_so (scalar c) (scalars cs) h))
