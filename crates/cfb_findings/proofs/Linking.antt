-- Links that are followed, twice as many at each turn.
use Rattle.std.proofs.Common.{⊎_elim, ◌≡◌, ◌∙◌, ◌⊎◌, ℕ, zero, suc, ◌+◌, ◌*◌, ◌<◌, ◌≤◌, true, false, List, [], ◌∷◌, map, length, inl, inr, refl, sym, ap, subst, arith}
use Rattle.std.specs.Prelude.{Some, nat_le, slice_get, slice_index_or, if◌then◌else◌}
use Rattle.std.proofs.lemmas.Bool.Decides.{leb_tells}
use Rattle.cfb_sectors.specs.Sectors.{end_of_chain, greatest_regular, Chain}
use Rattle.cfb_sectors.proofs.Chains.{chain_short}
use Rattle.cfb_findings.specs.Links.{behind, linked, AreEnds, HasChainFrom}

-- what a table has at a number, or that it has nothing there
record Found (xs : List ℕ) (n d : ℕ) : Type 0 where
  pub entry : ℕ
  pub found : slice_get xs n ≡ Some entry
  pub same : slice_index_or xs n d ≡ entry

look : (xs : List ℕ) (n d : ℕ) → Found xs n d ⊎ (slice_index_or xs n d ≡ d)
look [] n d = inr refl
look (x ∷ xs) zero d = inl (record { entry = x; found = refl; same = refl })
look (x ∷ xs) (suc n) d = ⊎_elim (λ f. inl (record { entry = f.entry; found = f.found; same = f.same })) (λ none. inr none) (look xs n d)

pub entry_at : (xs : List ℕ) (n d m : ℕ) → slice_get xs n ≡ Some m → slice_index_or xs n d ≡ m
entry_at [] n d m found = absurd (cc)
entry_at (x ∷ xs) zero d m found = cc
entry_at (x ∷ xs) (suc n) d m found = entry_at xs n d m found

-- behind a number that isn't regular there is itself
behind_end : (links : List ℕ) (n : ℕ) → greatest_regular < n → behind links n ≡ n
behind_end links n above =
    let test : nat_le n greatest_regular ≡ false = grind arith in
    ap (λ b. if b then slice_index_or links n n else n) test

pub behind_regular : (links : List ℕ) (n : ℕ) → n ≤ greatest_regular → behind links n ≡ slice_index_or links n n
behind_regular links n low =
    let test : nat_le n greatest_regular ≡ true = grind arith in
    ap (λ b. if b then slice_index_or links n n else n) test

mapped : (f : ℕ → ℕ) (xs : List ℕ) (n d : ℕ) → n < length xs → slice_index_or (map f xs) n d ≡ f (slice_index_or xs n d)
mapped f [] n d below = absurd (omega (arith, below))
mapped f (x ∷ xs) zero d below = refl
mapped f (x ∷ xs) (suc n) d below = mapped f xs n d (omega (arith, below))

past : (xs : List ℕ) (n d : ℕ) → length xs ≤ n → slice_index_or xs n d ≡ d
past [] n d over = refl
past (x ∷ xs) zero d over = absurd (omega (arith, over))
past (x ∷ xs) (suc n) d over = past xs n d (omega (arith, over))

past_mapped : (f : ℕ → ℕ) (xs : List ℕ) (n d : ℕ) → length xs ≤ n → slice_index_or (map f xs) n d ≡ d
past_mapped f [] n d over = refl
past_mapped f (x ∷ xs) zero d over = absurd (omega (arith, over))
past_mapped f (x ∷ xs) (suc n) d over = past_mapped f xs n d (omega (arith, over))

-- the table of two links has what is behind two
twice : (js : List ℕ) (n : ℕ) → behind (map (behind js) js) n ≡ behind js (behind js n)
twice js n = ⊎_elim
    (λ low. ⊎_elim
    (λ over. let there : behind js n ≡ n = behind_regular js n low.1 ∙ past js n n (omega (arith, over.1)) in
    behind_regular (map (behind js) js) n low.1 ∙ past_mapped (behind js) js n n (omega (arith, over.1)) ∙ sym (ap (behind js) there ∙ there))
    (λ below. behind_regular (map (behind js) js) n low.1 ∙ mapped (behind js) js n n (omega (arith, below.1)) ∙ ap (behind js) (sym (behind_regular js n low.1)))
    (leb_tells (length js) n))
    (λ high. let there : behind js n ≡ n = behind_end js n high.1 in
    behind_end (map (behind js) js) n high.1 ∙ sym (ap (behind js) there ∙ there))
    (leb_tells n greatest_regular)

pub linked_then : (a b : ℕ) (links : List ℕ) (n : ℕ) → linked (a + b) links n ≡ linked b links (linked a links n)
linked_then zero b links n = let none : 0 + b ≡ b = omega arith in ap (λ k. linked k links n) none
linked_then (suc a) b links n = let more : suc a + b ≡ suc (a + b) = omega arith in ap (λ k. linked k links n) more ∙ linked_then a b links (behind links n)

pub linked_twice : (links js : List ℕ) (a : ℕ) → ((n : ℕ) → behind js n ≡ linked a links n) → (n : ℕ) → behind (map (behind js) js) n ≡ linked (a * 2) links n
linked_twice links js a so n =
    let both : a + a ≡ a * 2 = omega arith in
    twice js n ∙ ap (behind js) (so n) ∙ so (linked a links n) ∙ sym (linked_then a a links n) ∙ ap (λ k. linked k links n) both

stays : (k : ℕ) (links : List ℕ) → linked k links end_of_chain ≡ end_of_chain
stays zero links = refl
stays (suc k) links = ap (linked k links) (behind_end links end_of_chain (omega arith)) ∙ stays k links

-- a chain ends behind as many links as it has parts
chain_ends : (links : List ℕ) (k start : ℕ) (ids : List ℕ) → Chain links start ids → length ids ≤ k → linked k links start ≡ end_of_chain
chain_ends links k start [] is few = ap (linked k links) is ∙ stays k links
chain_ends links zero start (x ∷ ids) chain few = absurd (omega (arith, few))
chain_ends links (suc k) start (x ∷ ids) (is, regular, next, found, rest) few =
    let here : behind links start ≡ next = behind_regular links start regular ∙ entry_at links start start next found in
    ap (linked k links) here ∙ chain_ends links k next ids rest (omega (arith, few))

end_chains : (links : List ℕ) (k start : ℕ) → linked k links start ≡ end_of_chain → HasChainFrom links start
end_chains links zero start is = ([], is)
end_chains links (suc k) start is =
    let later : HasChainFrom links (behind links start) = end_chains links k (behind links start) is in
    ⊎_elim
    (λ low. ⊎_elim
    (λ f. (start ∷ later.0, (refl, low.1, f.entry, f.found, subst (λ n. Chain links n later.0) (behind_regular links start low.1 ∙ f.same) later.1)))
    (λ none. (later.0, subst (λ n. Chain links n later.0) (behind_regular links start low.1 ∙ none) later.1))
    (look links start start))
    (λ high. (later.0, subst (λ n. Chain links n later.0) (behind_end links start high.1) later.1))
    (leb_tells start greatest_regular)

-- behind as many links as the table is long each chain has ended
pub are_ends : (links ends : List ℕ) (k : ℕ) → length links ≤ k → ((n : ℕ) → behind ends n ≡ linked k links n) → AreEnds links ends
are_ends links ends k long so n = (
  (λ is. end_chains links k n (sym (so n) ∙ is)),
  (λ has. so n ∙ chain_ends links k n has.0 has.1 (let short = chain_short links n has.0 has.1 in omega (arith, short, long))),
)
