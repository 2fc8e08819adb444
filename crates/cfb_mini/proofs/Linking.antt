-- A mini sector is linked behind a chain's last one.
use Rattle.std.proofs.Common.{◌≡◌, ℕ, ◌-◌, ◌<◌, ◌≤◌, inl, List, [], ◌∷◌, ◌++◌, length, get_or, zero, suc, refl, ap, sym, subst, ◌∙◌, arith, length-append}
use Rattle.std.specs.Prelude.{slice_get, slice_index, slice_index_or, MatchOption, None, Option, Some}
use Rattle.std.proofs.Math.ListN.{set}
use Rattle.std.proofs.Math.Seq.{get_or-append_right}
use Rattle.std.proofs.lemmas.List.{get_or_append_left, length-set, get_or-set_other, get_or-set_same}
use Rattle.std.proofs.lemmas.Option.{get_or_from_slice_get, slice_get-get_or, slice_get_within}
use Rattle.cfb_sectors.specs.Sectors.{end_of_chain, free, greatest_regular, Chain as IsChain}
use Rattle.cfb_chains.specs.Changes.{AreSubsetOf, SameExceptAt}
use Rattle.cfb_chains.specs.Grown.{IsChainInTable}
use Rattle.cfb_chains.proofs.ChainGrowing.{extended}
use Rattle.cfb_mini.specs.NextSector.{linked_behind, linked_pair, HasNumber}

-- the last number of a chain is a chain of its own
pub last_ends : (table : List ℕ) (start : ℕ) (ids : List ℕ) (m : ℕ) → suc m ≡ length ids → IsChain table start ids → IsChain table (get_or ids m 0) (get_or ids m 0 ∷ [])
last_ends table start [] m size chain = absurd (omega (arith, size))
last_ends table start (x ∷ []) zero size (is, regular, next, found, rest) = (refl, omega (arith, is, regular), next, subst (λ n. slice_get table n ≡ Some next) (sym is) found, rest)
last_ends table start (x ∷ []) (suc m) size chain = absurd (omega (arith, size))
last_ends table start (x ∷ y ∷ ids) zero size chain = absurd (omega (arith, size))
last_ends table start (x ∷ y ∷ ids) (suc m) size (is, regular, next, found, rest) = last_ends table next (y ∷ ids) m (omega (arith, size)) rest

-- so the table has a number for it
pub last_there : (table ids : List ℕ) (m : ℕ) → suc m ≡ length ids → IsChainInTable table ids → get_or ids m 0 < length table
last_there table ids m size linked =
    let end = last_ends table (slice_index_or ids 0 end_of_chain) ids m size linked in
    slice_get_within table (get_or ids m 0) end.2 end.3

set_there : (table : List ℕ) (n x : ℕ) → n < length table → slice_get (set table n x) n ≡ Some x
set_there table n x below =
    let size = length-set table n x in
    slice_get-get_or (set table n x) n 0 (omega (arith, size, below)) ∙ ap Some (get_or-set_same table n x 0 below)

set_beside : (table : List ℕ) (n m x y : ℕ) → (m ≡ n → ⊥) → m < length table → slice_get (set table m y) m ≡ Some y → slice_get (set (set table m y) n x) m ≡ Some y
set_beside table n m x y differ below is =
    let size = length-set (set table m y) n x in
    let inner = length-set table m y in
    slice_get-get_or (set (set table m y) n x) m 0 (omega (arith, size, inner, below)) ∙ ap Some (get_or-set_other (set table m y) n m x 0 differ ∙ get_or-set_same table m y 0 below)

pub linked_first : (table ids : List ℕ) (taken : ℕ) → length ids ≡ 0 → taken ≤ greatest_regular → taken < length table → IsChainInTable (set table taken end_of_chain) (ids ++ taken ∷ [])
linked_first table [] taken none regular below = (refl, regular, end_of_chain, set_there table taken end_of_chain below, refl)
linked_first table (x ∷ ids) taken none regular below = absurd (omega (arith, none))

pub linked_more : (table ids : List ℕ) (m last taken : ℕ) → suc m ≡ length ids → last ≡ get_or ids m 0 → taken ≤ greatest_regular → slice_get table taken ≡ Some free → IsChainInTable table ids
    → IsChainInTable (set (set table taken end_of_chain) last taken) (ids ++ taken ∷ [])
linked_more table ids m last taken size is regular found linked =
    let ends = last_ends table (slice_index_or ids 0 end_of_chain) ids m size linked in
    let was : IsChain table last (last ∷ []) = subst (λ n. IsChain table n (n ∷ [])) (sym is) ends in
    let next = was.2 in
    let below = slice_get_within table taken free found in
    let there = slice_get_within table last next was.3 in
    let differ : taken ≡ last → ⊥ = λ same.
    let both : free ≡ next = sym (get_or_from_slice_get table taken free 0 found) ∙ ap (λ n. get_or table n 0) same ∙ get_or_from_slice_get table last next 0 was.3 in
    let end = was.4 in omega (arith, both, end) in
    let mid = set table taken end_of_chain in
    let size_mid = length-set table taken end_of_chain in
    let size_new = length-set mid last taken in
    let stay : SameExceptAt (last ∷ taken ∷ []) table (set mid last taken) = record {
      size = omega (arith, size_mid, size_new);
      others = λ n inside none. get_or-set_other mid last n taken 0 (λ same. none 0 (omega arith) (sym same)) ∙ get_or-set_other table taken n end_of_chain 0 (λ same. none 1 (omega arith) (sym same));
    } in
    let goes : IsChain (set mid last taken) last (last ∷ taken ∷ []) =
    (refl, was.1, taken, set_there mid last taken (omega (arith, size_mid, there)), (refl, regular, end_of_chain, set_beside table last taken taken end_of_chain differ below (set_there table taken end_of_chain below), refl)) in
    (extended table (set mid last taken) ids [] m taken last last size is was goes stay (inl found) linked).0

-- the last of some numbers, where there is one
abbrev pub IsLast : List ℕ → Option ℕ → Type 0
IsLast ids None = length ids ≡ 0
IsLast ids (Some last) = (0 < length ids) × (last ≡ get_or ids (length ids - 1) 0)

behind : (ids : List ℕ) (taken : ℕ) → get_or (ids ++ taken ∷ []) (length ids) 0 ≡ taken
behind ids taken = get_or-append_right ids (taken ∷ []) (length ids) 0 (omega arith) ∙ ap (λ k. get_or (taken ∷ []) k 0) (let none : length ids - length ids ≡ 0 = omega arith in none)

-- what is none of the chain's numbers is none of those that were set
beside_pair : (ids : List ℕ) (last : Option ℕ) (taken : ℕ) → IsLast ids last → AreSubsetOf (ids ++ taken ∷ []) (linked_pair last taken)
beside_pair ids None taken none n apart zero below same = let size = length-append ids (taken ∷ []) in apart (length ids) (omega (arith, size)) (behind ids taken ∙ same)
beside_pair ids None taken none n apart (suc k) below same = absurd (omega (arith, below))
beside_pair ids (Some last) taken (some, is) n apart zero below same =
    let size = length-append ids (taken ∷ []) in
    apart (length ids - 1) (omega (arith, size)) (get_or_append_left ids (taken ∷ []) 0 (length ids - 1) (omega (arith, some)) ∙ sym is ∙ same)
beside_pair ids (Some last) taken (some, is) n apart (suc zero) below same = let size = length-append ids (taken ∷ []) in apart (length ids) (omega (arith, size)) (behind ids taken ∙ same)
beside_pair ids (Some last) taken (some, is) n apart (suc (suc k)) below same = absurd (omega (arith, below))

-- the chain with it
pub linked_with : (table ids : List ℕ) (last : Option ℕ) (taken : ℕ) → IsLast ids last → taken ≤ greatest_regular → slice_get table taken ≡ Some free → IsChainInTable table ids
    → IsChainInTable (linked_behind table last taken) (ids ++ taken ∷ []) × AreSubsetOf (ids ++ taken ∷ []) (linked_pair last taken)
linked_with table ids None taken none regular found linked = (linked_first table ids taken none regular (slice_get_within table taken free found), beside_pair ids None taken none)
linked_with table ids (Some last) taken (some, is) regular found linked =
    (linked_more table ids (length ids - 1) last taken (omega (arith, some)) is regular found linked, beside_pair ids (Some last) taken (some, is))

pub to_last : (ids now : List ℕ) (last : Option ℕ) → now ≡ ids → MatchOption last (length now ≡ 0) (λ l. (0 < length now) × (l ≡ slice_index now (length now - 1))) → IsLast ids last
to_last ids now None same h = ap length (sym same) ∙ h
to_last ids now (Some l) same h = (subst (λ x. 0 < length x) same h.0, h.1 ∙ ap (λ x. get_or x (length x - 1) 0) same)

-- so the table has a number for it
pub has_last : (table ids : List ℕ) (last : Option ℕ) → IsLast ids last → IsChainInTable table ids → HasNumber table last
has_last table ids None none linked = tt
has_last table ids (Some l) (some, is) linked = subst (λ n. n < length table) (sym is) (last_there table ids (length ids - 1) (omega (arith, some)) linked)
