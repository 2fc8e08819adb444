-- A chain that was cut behind a sector.
use Rattle.std.proofs.Common.{◌≡◌, ℕ, ◌+◌, ◌*◌, ◌<◌, ◌≤◌, min, List, [], ◌∷◌, ◌++◌, length, take, drop, get_or, zero, suc, refl, sym, ap, subst, ◌∙◌, arith, drop-cons, length-drop, length-take}
use Rattle.std.specs.Prelude.{slice_index, slice_index_or, Some}
use Rattle.std.proofs.Math.Seq.{take-suc}
use Rattle.std.proofs.lemmas.List.{get_or-drop, get_or-take, take-append-drop}
use Rattle.std.proofs.lemmas.Option.{slice_get_within, slice_get-get_or}
use Rattle.cfb_medium.specs.declared.version.Version.{Version}
use Rattle.cfb_medium.specs.declared.version.Version.TheVariants.{V3, V4}
use Rattle.cfb_medium.specs.Versions.{sector_len}
use Rattle.cfb_sectors.specs.Sectors.{end_of_chain, filled_part, joined, sector_start, Chain as IsChain}
use Rattle.cfb_sectors.proofs.Chains.{chain_from}
use Rattle.cfb_sectors.proofs.OneChain.{chain_unique}
use Rattle.cfb_chains.specs.Changes.{AreSubsetOf, SameExceptAt}
use Rattle.cfb_chains.specs.Grown.{AreSectorsWritable, IsChainInTable}
use Rattle.cfb_chains.specs.Changes.{DifferOnlyAt, IsNotIn}
use Rattle.cfb_chains.proofs.ChainGrowing.{chain_goes_on, chain_once}

-- sectors at the end of a list are among it
among_end : (s : List ℕ) (m : ℕ) → AreSubsetOf s (drop m s)
among_end s m n none k below same =
    let size = length-drop m s in
    none (m + k) (omega (arith, below, size)) (sym (get_or-drop m s k 0) ∙ same)

module _ (old new s ids : List ℕ) (m last : ℕ) (inside : suc m ≤ length s) (is_last : last ≡ get_or s m 0) (was : IsChain old last (last ∷ ids))
    (ends : slice_index new last ≡ end_of_chain) (differ : DifferOnlyAt (last ∷ ids) old new) (linked : IsChainInTable old s) where
  abbrev start : ℕ
  start = slice_index_or s 0 end_of_chain

  behind : last ∷ ids ≡ drop m s
  behind =
      let here = chain_from old start s m 0 (omega (arith, inside)) linked in
      chain_unique old last (last ∷ ids) (drop m s) was (subst (λ x. IsChain old x (drop m s)) (sym is_last) here)

  pub freed_are : ids ≡ drop (suc m) s
  freed_are =
      let parts : last ∷ ids ≡ get_or s m 0 ∷ drop (suc m) s = behind ∙ drop-cons s m 0 (omega (arith, inside)) in
      cc

  pub changed_are_mine : AreSubsetOf s (last ∷ ids)
  changed_are_mine = subst (AreSubsetOf s) (sym behind) (among_end s m)

  others : (k : ℕ) → k < length (take m s) → IsNotIn (last ∷ ids) (get_or (take m s) k 0)
  others k below = subst (λ xs. IsNotIn xs (get_or (take m s) k 0)) (sym behind) (λ j j_below same.
      let cut = length-take m s in
      let few : k < m = omega (arith, below, cut) in
      let size = length-drop m s in
      let twice = chain_once old start s linked (m + j) k (omega (arith, j_below, size)) (omega (arith, few, inside)) (sym (get_or-drop m s j 0) ∙ same ∙ get_or-take m s k 0 few) in
      omega (arith, twice, few))

  stay : SameExceptAt (last ∷ ids) old new
  stay = record { size = let same = differ.size in omega (arith, same); others = λ n below none. differ.others n none }

  ended : IsChain new last (last ∷ [])
  ended =
      let below = slice_get_within old last was.2 was.3 in
      (refl, was.1, end_of_chain, slice_get-get_or new last 0 (let same = differ.size in omega (arith, below, same)) ∙ ap Some ends, refl)

  front_linked : IsChain new start (take (suc m) s)
  front_linked =
      let whole : s ≡ take m s ++ last ∷ ids = sym (take-append-drop m s) ∙ ap (λ l. take m s ++ l) (sym behind) in
      let chain : IsChain old start (take m s ++ last ∷ ids) = subst (IsChain old start) whole linked in
      let cut = chain_goes_on (last ∷ ids) old new stay start (take m s) ids [] last others chain ended in
      subst (IsChain new start) (sym (take-suc s m 0 (omega (arith, inside)) ∙ ap (λ x. take m s ++ x ∷ []) (sym is_last))) cut

same_start : (s : List ℕ) (m : ℕ) → slice_index_or (take (suc m) s) 0 end_of_chain ≡ slice_index_or s 0 end_of_chain
same_start [] m = refl
same_start (x ∷ s) m = refl

pub front_stays : (old new s ids : List ℕ) (m last : ℕ) → suc m ≤ length s → last ≡ get_or s m 0 → IsChain old last (last ∷ ids) → slice_index new last ≡ end_of_chain
    → DifferOnlyAt (last ∷ ids) old new → IsChainInTable old s → IsChainInTable new (take (suc m) s)
front_stays old new s ids m last inside is_last was ends differ linked =
    subst (λ x. IsChain new x (take (suc m) s)) (sym (same_start s m)) (front_linked old new s ids m last inside is_last was ends differ linked)

-- the last sector that is kept has a chain in the table, of those behind it
pub is_cut : (old s : List ℕ) (m last : ℕ) → suc m ≤ length s → last ≡ get_or s m 0 → IsChainInTable old s → IsChain old last (last ∷ drop (suc m) s)
is_cut old s m last inside is_last linked =
    let here = chain_from old (slice_index_or s 0 end_of_chain) s m 0 (omega (arith, inside)) linked in
    subst (λ x. IsChain old x (x ∷ drop (suc m) s)) (sym is_last) (subst (IsChain old (get_or s m 0)) (drop-cons s m 0 (omega (arith, inside))) here)

pub writable_front : (may then : ℕ → ℕ → Type 0) (v : Version) (count : ℕ) (ids : List ℕ) → ((place n : ℕ) → may place n → then place n) → AreSectorsWritable may v ids → AreSectorsWritable then v (take count ids)
writable_front may then v zero ids still all = tt
writable_front may then v (suc count) [] still all = tt
writable_front may then v (suc count) (x ∷ ids) still all = (still _ _ all.0, writable_front may then v count ids still all.1)

pub front_bytes : (may : ℕ → ℕ → Type 0) (v : Version) (old new : List ℕ) (count : ℕ) (ids : List ℕ) → ((place n : ℕ) → may place n → filled_part new place n ≡ filled_part old place n)
    → AreSectorsWritable may v ids → joined v new (take count ids) ≡ joined v old (take count ids)
front_bytes may v old new zero ids same all = refl
front_bytes may v old new (suc count) [] same all = refl
front_bytes may v old new (suc count) (x ∷ ids) same all =
    ap (λ l. l ++ joined v new (take count ids)) (same (sector_start v x) (sector_len v) all.0)
    ∙ ap (λ l. filled_part old (sector_start v x) (sector_len v) ++ l) (front_bytes may v old new count ids same all.1)

pub stays_inside : (v : Version) (position n m : ℕ) → position ≤ n * sector_len v → n ≤ m → position ≡ min position (m * sector_len v)
stays_inside V3 position n m inside more = omega arith
stays_inside V4 position n m inside more = omega arith
