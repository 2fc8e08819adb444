-- A chain that took in a sector behind its last.
use Rattle.std.proofs.Common.{◌≡◌, ℕ, Bool, true, false, inl, inr, min, ◌+◌, ◌-◌, ◌*◌, ◌/◌, ◌%◌, ◌<◌, ◌≤◌, ◌⊎◌, List, [], ◌∷◌, ◌++◌, length, take, drop, get_or, zero, suc, refl, sym, ap, subst, ◌∙◌, arith, ⊎_elim, append_assoc, drop-cons, length-append, length-drop, length-take}
use Rattle.std.specs.Prelude.{slice_get, slice_index, slice_index_or, Some}
use Rattle.std.proofs.Math.Seq.{take-suc, get_or-append_right}
use Rattle.std.proofs.lemmas.List.{append-nil, drop_all, get_or_append_left, get_or-take, take_all}
use Rattle.std.proofs.lemmas.Bool.Decides.{leb_tells}
use Rattle.std.proofs.lemmas.Option.{slice_get_within, slice_get-get_or, get_or_from_slice_get}
use Rattle.std.proofs.lemmas.Grind.{flat_map-append}
use Rattle.cfb_medium.specs.declared.version.Version.{Version}
use Rattle.cfb_medium.specs.declared.version.Version.TheVariants.{V3, V4}
use Rattle.cfb_medium.specs.Bytes.{overwritten}
use Rattle.cfb_medium.specs.Versions.{sector_len}
use Rattle.cfb_sectors.specs.Initial.{filling, first_bytes}
use Rattle.cfb_sectors.specs.declared.initial.NewSector.{NewSector}
use Rattle.cfb_sectors.specs.Sectors.{end_of_chain, filled_part, free, joined, sector, sector_start, Chain as IsChain}
use Rattle.cfb_sectors.proofs.Chains.{chain_from}
use Rattle.cfb_sectors.proofs.OneChain.{chain_unique}
use Rattle.cfb_chains.specs.Changes.{AreSubsetOf, IsFreeIn, SameExceptAt}
use Rattle.cfb_chains.specs.Grown.{AreSectorsWritable, IsChainInTable}
use Rattle.cfb_chains.specs.Changes.{AreDistinct, IsBeside, IsNotIn}
use Rattle.cfb_chains.specs.Positions.{left_in, place_in}
use Rattle.cfb_chains.proofs.Staying.{apart, goes_on}

-- a chain goes through no free sector, and through none behind the table
pub in_use : (table : List ℕ) (start : ℕ) (ids : List ℕ) (n : ℕ) → IsChain table start ids → IsFreeIn table n → IsNotIn ids n
in_use table start [] n chain is k below same = absurd (omega arith)
in_use table start (x ∷ ids) n (is, regular, next, found, rest) loose zero below same =
    let here : slice_get table n ≡ Some next = subst (λ s. slice_get table s ≡ Some next) (sym is ∙ same) found in
    ⊎_elim
    (λ freed. goes_on table next ids rest (some_once next free (sym here ∙ freed)))
    (λ behind. let within = slice_get_within table n next here in absurd (omega (arith, within, behind)))
    loose
  where
    some_once : (a b : ℕ) → Some a ≡ Some b → a ≡ b
    some_once a b e = cc
in_use table start (x ∷ ids) n (is, regular, next, found, rest) loose (suc k) below same = in_use table next ids n rest loose k (omega arith) same

-- an entry that stays
pub kept_entry : (entries old new : List ℕ) → SameExceptAt entries old new → (n next : ℕ) → IsNotIn entries n → slice_get old n ≡ Some next → slice_get new n ≡ Some next
kept_entry entries old new stay n next none found =
    let below = slice_get_within old n next found in
    slice_get-get_or new n 0 (omega (arith, below, stay.size)) ∙ ap Some (stay.others n below none ∙ get_or_from_slice_get old n next 0 found)

-- the chain of all but the last sector leads to the last one's new chain
pub chain_goes_on : (entries old new : List ℕ) → SameExceptAt entries old new → (start : ℕ) (front tail rest : List ℕ) (last : ℕ) → ((k : ℕ) → k < length front → IsNotIn entries (get_or front k 0))
    → IsChain old start (front ++ last ∷ tail) → IsChain new last (last ∷ rest) → IsChain new start (front ++ last ∷ rest)
chain_goes_on entries old new stay start [] tail rest last none chain goes = subst (λ s. IsChain new s (last ∷ rest)) chain.0 goes
chain_goes_on entries old new stay start (x ∷ front) tail rest last none (is, regular, next, found, more) goes = (
  is,
  regular,
  next,
  kept_entry entries old new stay start next (subst (IsNotIn entries) is (none 0 (omega arith))) found,
  chain_goes_on entries old new stay next front tail rest last (λ k below. none (suc k) (omega arith)) more goes,
)

-- no sector stands twice in a chain
pub chain_once : (table : List ℕ) (start : ℕ) (ids : List ℕ) → IsChain table start ids → AreDistinct ids
chain_once table start ids chain k l k_below l_below same =
    let first = chain_from table start ids k 0 k_below chain in
    let second = chain_from table start ids l 0 l_below chain in
    let both = chain_unique table (get_or ids k 0) (drop k ids) (drop l ids) first (subst (λ s. IsChain table s (drop l ids)) (sym same) second) in
    omega (arith, ap length both, length-drop k ids, length-drop l ids)

-- all but the last sector, and the last
pub but_last : (ids : List ℕ) (m : ℕ) → suc m ≡ length ids → ids ≡ take m ids ++ get_or ids m 0 ∷ []
but_last ids m size = sym (take_all (suc m) ids (omega (arith, size))) ∙ take-suc ids m 0 (omega (arith, size))

lone : (xs : List ℕ) (x y : ℕ) → xs ++ x ∷ [] ≡ y ∷ [] → (xs ≡ []) × (x ≡ y)
lone [] x y e = (refl, cc)
lone (z ∷ xs) x y e = let size : suc (length (xs ++ x ∷ [])) ≡ 1 = ap length e in absurd (omega (arith, simp length-append at size))

-- the last number of a list and one behind it are among that list with it
among_last : (ids : List ℕ) (m n at : ℕ) → suc m ≡ length ids → at ≡ get_or ids m 0 → AreSubsetOf (ids ++ n ∷ []) (at ∷ n ∷ [])
among_last ids m n at size is x none zero below same =
    none m (simp length-append (omega (arith, size))) (get_or_append_left ids (n ∷ []) 0 m (omega (arith, size)) ∙ sym is ∙ same)
among_last ids m n at size is x none (suc zero) below same =
    let here : length ids - length ids ≡ 0 = omega arith in
    none (length ids) (simp length-append (omega arith)) (get_or-append_right ids (n ∷ []) (length ids) 0 (omega arith) ∙ ap (λ k. get_or (n ∷ []) k 0) here ∙ same)
among_last ids m n at size is x none (suc (suc k)) below same = absurd (omega arith)

-- the last sector of a chain is one alone
pub last_alone : (table ids : List ℕ) (m last start : ℕ) → suc m ≡ length ids → last ≡ get_or ids m 0 → IsChain table start ids → (drop m ids ≡ last ∷ []) × IsChain table last (last ∷ [])
last_alone table ids m last start size is_last chain =
    let here = chain_from table start ids m 0 (omega (arith, size)) chain in
    let rest : drop m ids ≡ get_or ids m 0 ∷ drop (suc m) ids = drop-cons ids m 0 (omega (arith, size)) in
    let none : drop (suc m) ids ≡ [] = drop_all (suc m) ids (omega (arith, size)) in
    let whole : drop m ids ≡ last ∷ [] = rest ∙ ap (λ l. get_or ids m 0 ∷ l) none ∙ ap (λ x. x ∷ []) (sym is_last) in
    (whole, subst (IsChain table last) whole (subst (λ s. IsChain table s (drop m ids)) (sym is_last) here))

-- the chain of a list is that of the list with its last sector apart
module _ (old new ids found : List ℕ) (m n last at : ℕ) (size : suc m ≡ length ids) (is_last : last ≡ get_or ids m 0)
    (was : IsChain old last (found ++ at ∷ [])) (goes : IsChain new last (found ++ at ∷ n ∷ [])) (stay : SameExceptAt (at ∷ n ∷ []) old new) (loose : IsFreeIn old n) where
  module _ (start : ℕ) (chain : IsChain old start ids) where
    only : found ++ at ∷ [] ≡ last ∷ []
    only =
        let alone = last_alone old ids m last start size is_last chain in
        chain_unique old last (found ++ at ∷ []) (last ∷ []) was alone.1

    pub is_the_last : at ≡ get_or ids m 0
    is_the_last = (lone found at last only).1 ∙ is_last

    goes_from_last : IsChain new (get_or ids m 0) (get_or ids m 0 ∷ n ∷ [])
    goes_from_last =
        let apart = lone found at last only in
        let short : IsChain new last (at ∷ n ∷ []) = subst (λ f. IsChain new last (f ++ at ∷ n ∷ [])) apart.0 goes in
        subst (λ s. IsChain new s (s ∷ n ∷ [])) is_last (subst (λ x. IsChain new last (x ∷ n ∷ [])) apart.1 short)

    others : (k : ℕ) → k < length (take m ids) → IsNotIn (at ∷ n ∷ []) (get_or (take m ids) k 0)
    others k below j j_below same =
        let few : k < m = let cut = length-take m ids in omega (arith, below, cut) in
        let here : get_or (take m ids) k 0 ≡ get_or ids k 0 = get_or-take m ids k 0 few in
        other j j_below few (same ∙ here)
      where
        other : (j : ℕ) → j < 2 → k < m → slice_index (at ∷ n ∷ []) j ≡ get_or ids k 0 → ⊥
        other zero j_below few same = let twice = chain_once old start ids chain m k (omega (arith, size)) (omega (arith, size, few)) (sym is_the_last ∙ same) in omega (arith, twice, few)
        other (suc zero) j_below few same = in_use old start ids n chain loose k (omega (arith, size, few)) (sym same)
        other (suc (suc j)) j_below few same = absurd (omega (arith, j_below))

    pub chain_longer : IsChain new start (ids ++ n ∷ [])
    chain_longer =
        let parts = but_last ids m size in
        let whole : IsChain old start (take m ids ++ get_or ids m 0 ∷ []) = subst (IsChain old start) parts chain in
        let longer = chain_goes_on (at ∷ n ∷ []) old new stay start (take m ids) [] (n ∷ []) (get_or ids m 0) others whole goes_from_last in
        subst (IsChain new start) (sym (ap (λ l. l ++ n ∷ []) parts ∙ append_assoc (take m ids) (get_or ids m 0 ∷ []) (n ∷ []))) longer

first_stays : (ids : List ℕ) (m n : ℕ) → suc m ≡ length ids → slice_index_or (ids ++ n ∷ []) 0 end_of_chain ≡ slice_index_or ids 0 end_of_chain
first_stays [] m n size = absurd (omega (arith, size))
first_stays (x ∷ ids) m n size = refl

pub extended : (old new ids found : List ℕ) (m n last at : ℕ) → suc m ≡ length ids → last ≡ get_or ids m 0
    → IsChain old last (found ++ at ∷ []) → IsChain new last (found ++ at ∷ n ∷ []) → SameExceptAt (at ∷ n ∷ []) old new → IsFreeIn old n
    → IsChainInTable old ids → IsChainInTable new (ids ++ n ∷ []) × AreSubsetOf (ids ++ n ∷ []) (at ∷ n ∷ [])
extended old new ids found m n last at size is_last was goes stay loose linked =
    let start = slice_index_or ids 0 end_of_chain in (
      subst (λ s. IsChain new s (ids ++ n ∷ [])) (sym (first_stays ids m n size)) (chain_longer old new ids found m n last at size is_last was goes stay loose start linked),
      among_last ids m n at size (is_the_last old new ids found m n last at size is_last was goes stay loose start linked),
    )

-- sectors that may be written, and one more
pub writable_more : (may then : ℕ → ℕ → Type 0) (v : Version) (ids : List ℕ) (n : ℕ) → ((place count : ℕ) → may place count → then place count)
    → then (sector_start v n) (sector_len v) → AreSectorsWritable may v ids → AreSectorsWritable then v (ids ++ n ∷ [])
writable_more may then v [] n still one all = (one, tt)
writable_more may then v (x ∷ ids) n still one all = (still _ _ all.0, writable_more may then v ids n still one all.1)

-- their bytes stay, where those beside the one taken do
bytes_before : (may : ℕ → ℕ → Type 0) (v : Version) (old new ids : List ℕ) (n : ℕ)
    → ((place count : ℕ) → may place count → IsBeside v (n ∷ []) place count → filled_part new place count ≡ filled_part old place count)
    → AreSectorsWritable may v ids → IsNotIn ids n → joined v new ids ≡ joined v old ids
bytes_before may v old new [] n same all none = refl
bytes_before may v old new (x ∷ ids) n same all none =
    ap (λ l. l ++ joined v new ids) (same (sector_start v x) (sector_len v) all.0 (apart v (n ∷ []) x (other x ids none)))
    ∙ ap (λ l. filled_part old (sector_start v x) (sector_len v) ++ l) (bytes_before may v old new ids n same all.1 (λ k below. none (suc k) (omega arith)))
  where
    other : (x : ℕ) (ids : List ℕ) → IsNotIn (x ∷ ids) n → IsNotIn (n ∷ []) x
    other x ids none zero below is = none 0 (omega arith) (sym is)
    other x ids none (suc k) below is = absurd (omega arith)

pub bytes_more : (may : ℕ → ℕ → Type 0) (v : Version) (old new ids fill : List ℕ) (n : ℕ)
    → ((place count : ℕ) → may place count → IsBeside v (n ∷ []) place count → filled_part new place count ≡ filled_part old place count)
    → AreSectorsWritable may v ids → IsNotIn ids n → sector v new n ≡ fill → joined v new (ids ++ n ∷ []) ≡ joined v old ids ++ fill
bytes_more may v old new ids fill n same all none filled =
    flat_map-append (sector v new) ids (n ∷ []) ∙ ap (λ l. joined v new ids ++ l) (append-nil (sector v new n) ∙ filled)
    ∙ ap (λ l. l ++ fill) (bytes_before may v old new ids n same all none)

pub writable_still : (may then : ℕ → ℕ → Type 0) (v : Version) (ids : List ℕ) → ((place count : ℕ) → may place count → then place count) → AreSectorsWritable may v ids → AreSectorsWritable then v ids
writable_still may then v [] still all = tt
writable_still may then v (x ∷ ids) still all = (still _ _ all.0, writable_still may then v ids still all.1)

-- a write in the chain as it is, told of the chain as it was
pub either_there : (W : ℕ → List ℕ → Type 0) (R : Type 0) (v w : Version) (s t bytes : List ℕ) (p q : ℕ) → w ≡ v → t ≡ s → q ≡ p
    → W (place_in w t q) (take (left_in w q) bytes) ⊎ R → W (place_in v s p) (take (left_in v p) bytes) ⊎ R
either_there W R v w s t bytes p q same_version same_sectors same_position h =
    subst (λ u. W (place_in u s p) (take (left_in u p) bytes) ⊎ R) same_version
    (subst (λ l. W (place_in w l p) (take (left_in w p) bytes) ⊎ R) same_sectors (subst (λ k. W (place_in w t k) (take (left_in w k) bytes) ⊎ R) same_position h))

pub written_there : (v w : Version) (new mid s t all xs : List ℕ) (p q : ℕ) → w ≡ v → t ≡ s → q ≡ p → joined v mid t ≡ all
    → joined w new t ≡ overwritten (joined w mid t) q xs → joined v new s ≡ overwritten all p xs
written_there v w new mid s t all xs p q same_version same_sectors same_position before h =
    ap (joined v new) (sym same_sectors) ∙ subst (λ u. joined u new t ≡ overwritten (joined u mid t) q xs) same_version h
    ∙ ap (λ k. overwritten (joined v mid t) k xs) same_position ∙ ap (λ l. overwritten l p xs) before

-- what several sectors hold, and one more
pub filled_step : (v w : Version) (i n : NewSector) (old mid new a b c : List ℕ) (done : ℕ) → w ≡ v → length c ≡ length b + 1 → length a ≤ length b
    → done ≡ (length b - length a) * sector_len v → ((count len : ℕ) → done ≡ count * len → filling i count len ++ first_bytes n len ≡ filling i (count + 1) len)
    → joined v mid b ≡ joined v old a ++ filling i (length b - length a) (sector_len v) → joined w new c ≡ joined w mid b ++ first_bytes n (sector_len w)
    → joined v new c ≡ joined v old a ++ filling i (length c - length a) (sector_len v)
filled_step v w i n old mid new a b c done same_version longer before is next was step =
    let count : (length b - length a) + 1 ≡ length c - length a = omega (arith, longer, before) in
    subst (λ u. joined u new c ≡ joined u mid b ++ first_bytes n (sector_len u)) same_version step
    ∙ ap (λ l. l ++ first_bytes n (sector_len v)) was ∙ append_assoc (joined v old a) (filling i (length b - length a) (sector_len v)) (first_bytes n (sector_len v))
    ∙ ap (λ l. joined v old a ++ l) (next (length b - length a) (sector_len v) is ∙ ap (λ k. filling i k (sector_len v)) count)

-- the sector behind others
pub sector_behind : (ids : List ℕ) (n : ℕ) → slice_index (ids ++ n ∷ []) (length ids) ≡ n
sector_behind [] n = refl
sector_behind (x ∷ ids) n = sector_behind ids n

behind_all : (v : Version) (count position : ℕ) → position ≡ count * sector_len v → (position / sector_len v ≡ count) × (position % sector_len v ≡ 0)
behind_all V3 count position is = (omega (arith, is), omega (arith, is))
behind_all V4 count position is = (omega (arith, is), omega (arith, is))

-- where a new sector may be written whole, a part at its beginning may be written
pub room_behind : (may : ℕ → ℕ → Type 0) (v w : Version) (ids : List ℕ) (count position at size : ℕ)
    → ((place whole part few : ℕ) → may place whole → place ≤ part → part + few ≤ place + whole → may part few)
    → w ≡ v → at ≡ position → position ≡ count * sector_len v → may (sector_start v (slice_index ids count)) (sector_len v) → may (place_in w ids at) (min size (left_in w at))
room_behind may v w ids count position at size in_part same_version same_position is room =
    let parts = behind_all v count position is in
    let same : sector_start v (slice_index ids (position / sector_len v)) ≡ sector_start v (slice_index ids count) = ap (λ k. sector_start v (slice_index ids k)) parts.0 in
    let here : may (place_in v ids position) (min size (left_in v position)) = in_part _ _ _ _ room (omega (arith, same, parts.1)) (omega (arith, same, parts.1)) in
    subst (λ u. may (place_in u ids at) (min size (left_in u at))) (sym same_version) (subst (λ k. may (place_in v ids k) (min size (left_in v k))) (sym same_position) here)

-- none of both is none of either
pub among_both : (all xs ys : List ℕ) → AreSubsetOf all xs → AreSubsetOf all ys → AreSubsetOf all (xs ++ ys)
among_both all xs ys first second n none k below same =
    ⊎_elim (λ behind. second n none (k - length xs) (let size : length (xs ++ ys) ≡ length xs + length ys = simp length-append in omega (arith, below, size, behind.1)) (sym (get_or-append_right xs ys k 0 behind.1) ∙ same))
    (λ within. first n none k within.1 (sym (get_or_append_left xs ys 0 k within.1) ∙ same)) (leb_tells (length xs) k)

pub among_more : (all more xs : List ℕ) → AreSubsetOf all xs → AreSubsetOf (all ++ more) xs
among_more all more xs h n none = h n (λ k below same. none k (simp length-append (omega (arith, below))) (get_or_append_left all more 0 k below ∙ same))

pub ends_here : {W R X : Type 0} → W ⊎ R → W ⊎ R ⊎ X
ends_here (inl w) = inl w
ends_here (inr r) = inr (inl r)

-- where it hasn't failed nothing was changed
pub rests_yet : {R : Type 0} (failed : Bool) → (failed ≡ true) ⊎ R → failed ≡ false → R
rests_yet failed (inl wrong) live = absurd (let clash : true ≡ false = sym wrong ∙ live in cc)
rests_yet failed (inr rests) live = rests
