-- A chain whose last entry leads on to a sector that was taken into use.
use Rattle.std.proofs.Common.{◌≡◌, ℕ, ◌+◌, ◌-◌, ◌*◌, ◌<◌, inl, inr, List, [], ◌∷◌, ◌++◌, length, take, get_or, refl, ap, sym, subst, ◌∙◌, arith, ⊎_elim, length-append}
use Rattle.std.specs.Prelude.{slice_get, Some}
use Rattle.std.proofs.Math.ListN.{set}
use Rattle.std.proofs.Math.Seq.{get_or-append_right}
use Rattle.std.proofs.lemmas.Bool.Decides.{eqb_tells}
use Rattle.std.proofs.lemmas.List.{get_or_append_left, length-set, get_or-set_same, get_or-set_other}
use Rattle.std.proofs.lemmas.Option.{slice_get_within, slice_get-get_or, get_or_from_slice_get}
use Rattle.cfb_medium.specs.Versions.{sector_len}
use Rattle.cfb_medium.specs.declared.version.Version.{Version}
use Rattle.cfb_medium.specs.declared.version.Version.TheVariants.{V3, V4}
use Rattle.cfb_sectors.specs.Sectors.{Chain as IsChain}
use Rattle.cfb_chains.specs.Changes.{IsFreeIn, IsNotIn, SameExceptAt}
use Rattle.cfb_chains.specs.Grown.{IsChainInTable}
use Rattle.cfb_chains.specs.Positions.{sectors_for}
use Rattle.cfb_chains.proofs.Beside.{none_of_two, used_but}
use Rattle.cfb_chains.proofs.ChainGrowing.{but_last, chain_goes_on, chain_once, in_use}

module _ (old mid new ids : List ℕ) (start last n : ℕ) (was : IsChain old start (ids ++ last ∷ [])) (loose : IsFreeIn old n)
    (stay : SameExceptAt (n ∷ []) old mid) (one : IsChain mid n (n ∷ [])) (is : new ≡ set mid last n) where
  place : get_or (ids ++ last ∷ []) (length ids) 0 ≡ last
  place = let none : length ids - length ids ≡ 0 = omega arith in get_or-append_right ids (last ∷ []) (length ids) 0 (omega arith) ∙ ap (λ i. get_or (last ∷ []) i 0) none

  size : length (ids ++ last ∷ []) ≡ length ids + 1
  size = length-append ids (last ∷ [])

  not_last : n ≡ last → ⊥
  not_last same = in_use old start (ids ++ last ∷ []) n was loose (length ids) (omega (arith, size)) (place ∙ sym same)

  last_chain : IsChain old last (last ∷ [])
  last_chain = subst (λ s. IsChain old s (last ∷ [])) place (rest ids start was)
    where
      rest : (ids : List ℕ) (start : ℕ) → IsChain old start (ids ++ last ∷ []) → IsChain old (get_or (ids ++ last ∷ []) (length ids) 0) (last ∷ [])
      rest [] start chain = subst (λ s. IsChain old s (last ∷ [])) (sym chain.0) chain
      rest (x ∷ ids) start (is, regular, next, found, more) = rest ids next more

  pub last_below : last < length mid
  last_below =
      let within = slice_get_within old last last_chain.2 last_chain.3 in
      let more = stay.size in
      omega (arith, within, more)

  stay_both : SameExceptAt (last ∷ n ∷ []) old new
  stay_both = record {
    size = let more = stay.size in let same = ap length is ∙ length-set mid last n in omega (arith, more, same);
    others = λ m below none.
        ap (λ l. get_or l m 0) is ∙ get_or-set_other mid last m n 0 (λ e. none 0 (omega arith) (sym e))
        ∙ stay.others m below (λ k inside same. let first : k ≡ 0 = omega (arith, inside) in none 1 (omega arith) (sym (ap (λ j. get_or (n ∷ []) j 0) first) ∙ same));
  }

  goes : IsChain new last (last ∷ n ∷ [])
  goes =
      let long = length-set mid last n in
      let value : get_or new last 0 ≡ n = ap (λ l. get_or l last 0) is ∙ get_or-set_same mid last n 0 last_below in
      let within = slice_get_within mid n one.2 one.3 in
      let other : get_or new n 0 ≡ get_or mid n 0 = ap (λ l. get_or l n 0) is ∙ get_or-set_other mid last n n 0 not_last in
      let found : slice_get new n ≡ Some one.2 = slice_get-get_or new n 0 (omega (arith, within, long, ap length is)) ∙ ap Some (other ∙ get_or_from_slice_get mid n one.2 0 one.3) in
      (refl, last_chain.1, n, slice_get-get_or new last 0 (omega (arith, last_below, long, ap length is)) ∙ ap Some value, (refl, one.1, one.2, found, one.4))

  apart : (k : ℕ) → k < length ids → IsNotIn (last ∷ n ∷ []) (get_or ids k 0)
  apart k below =
      let here : get_or (ids ++ last ∷ []) k 0 ≡ get_or ids k 0 = get_or_append_left ids (last ∷ []) 0 k below in
      none_of_two last n (get_or ids k 0)
      (λ same. let twice = chain_once old start (ids ++ last ∷ []) was (length ids) k (omega (arith, size)) (omega (arith, size, below)) (place ∙ same ∙ sym here) in omega (arith, twice, below))
      (λ same. in_use old start (ids ++ last ∷ []) n was loose k (omega (arith, size, below)) (here ∙ sym same))

  pub chain_extended : IsChain new start (ids ++ last ∷ n ∷ [])
  chain_extended = chain_goes_on (last ∷ n ∷ []) old new stay_both start ids [] (n ∷ []) last apart was goes

  pub used_extended : (m : ℕ) → IsFreeIn new m → IsFreeIn old m
  used_extended = used_but (last ∷ n ∷ []) old new stay_both (λ m free_now.
      ⊎_elim
      (λ same. inr (subst (IsFreeIn old) (sym same.1) loose))
      (λ other. ⊎_elim
      (λ same. absurd (in_use new last (last ∷ n ∷ []) m goes free_now 0 (omega arith) (sym same.1)))
      (λ off. inl (none_of_two last n m (λ e. off.1 (sym e)) (λ e. other.1 (sym e))))
      (eqb_tells m last))
      (eqb_tells m n))

-- a sector that was taken as a chain of its own
pub used_begun : (old new : List ℕ) (n : ℕ) → IsFreeIn old n → SameExceptAt (n ∷ []) old new → (m : ℕ) → IsFreeIn new m → IsFreeIn old m
used_begun old new n loose stay = used_but (n ∷ []) old new stay (λ m free_now.
    ⊎_elim
    (λ same. inr (subst (IsFreeIn old) (sym same.1) loose))
    (λ other. inl (λ k inside e. let first : k ≡ 0 = omega (arith, inside) in other.1 (sym e ∙ ap (λ j. get_or (n ∷ []) j 0) first)))
    (eqb_tells m n))

-- a chain that isn't empty, with its last sector apart
pub opened : (fat ids xs ys : List ℕ) (start : ℕ) → xs ≡ ids → ys ≡ ids → 0 < length ids → IsChain fat start ids → IsChain fat start (take (length ids - 1) ids ++ get_or ys (length xs - 1) 0 ∷ [])
opened fat ids xs ys start first second some chain =
    subst (λ l. IsChain fat start (take (length ids - 1) ids ++ get_or l (length xs - 1) 0 ∷ [])) (sym second)
    (subst (λ l. IsChain fat start (take (length ids - 1) ids ++ get_or ids (length l - 1) 0 ∷ [])) (sym first)
    (subst (IsChain fat start) (but_last ids (length ids - 1) (omega (arith, some))) chain))

-- a chain that isn't empty begins with its first sector
pub linked_from : (fat : List ℕ) (start : ℕ) (ids : List ℕ) → 0 < length ids → IsChain fat start ids → IsChainInTable fat ids
linked_from fat start [] some chain = absurd (omega (arith, some))
linked_from fat start (x ∷ ids) some chain = subst (λ s. IsChain fat s (x ∷ ids)) (sym chain.0) chain

pub longer_from : (old new : List ℕ) (start : ℕ) (ids more all : List ℕ) → 0 < length ids → IsChain old start ids → all ≡ ids ++ more → IsChainInTable new all → IsChain new start (ids ++ more)
longer_from old new start [] more all some chain is linked = absurd (omega (arith, some))
longer_from old new start (x ∷ ids) more all some chain is linked = subst (λ s. IsChain new s (x ∷ ids ++ more)) chain.0 (subst (IsChainInTable new) is linked)

-- so many whole sectors are those that their bytes need
pub whole_sectors : (v : Version) (n : ℕ) → sectors_for v (n * sector_len v) ≡ n
whole_sectors V3 n = omega arith
whole_sectors V4 n = omega arith
