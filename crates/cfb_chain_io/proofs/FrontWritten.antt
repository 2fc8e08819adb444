-- Bytes that end behind a chain: it takes in those behind its end, and the others are written over its last ones.
use Rattle.std.proofs.Common.{rules, ◌≡◌, ℕ, zero, suc, ◌+◌, ◌-◌, ◌*◌, ◌<◌, ◌≤◌, List, [], ◌∷◌, ◌++◌, length, take, drop, get_or, replicate, refl, ap, subst, sym, ◌∙◌, ◌/◌, ◌%◌, ⊎_elim, arith, length-append}
use Rattle.std.specs.List.{AllByRecursion}
use Rattle.std.proofs.lemmas.Bool.Decides.{leb_tells}
use Rattle.std.proofs.lemmas.List.{append-nil, get_or-append_right, length-replicate, length-take-le, places, same_lists, take-append-drop}
use Rattle.cfb_medium.specs.Bytes.{overwritten}
use Rattle.cfb_medium.specs.Versions.{sector_len}
use Rattle.cfb_medium.specs.declared.medium.ReadMedium.{Ghosts}
use Rattle.cfb_medium.specs.declared.version.Version.{Version}
use Rattle.cfb_medium.specs.declared.version.Version.TheVariants.{V3, V4}
use Rattle.cfb_medium.proofs.Grown.{inside_written}
use Rattle.cfb_sectors.specs.Copies.{copies}
use Rattle.cfb_sectors.specs.Initial.{initial, padded}
use Rattle.cfb_sectors.specs.Sectors.{sector, sector_start}
use Rattle.cfb_sectors.specs.declared.initial.SectorInit.TheVariants.{Zero}
use Rattle.cfb_chains.specs.Behind.{AreWhole}
use Rattle.cfb_chains.specs.Changes.{AreDisjoint}
use Rattle.cfb_chains.specs.LinkViews.{ids_of, links_version}
use Rattle.cfb_chains.specs.Owned.{ReplacesChain}
use Rattle.cfb_chains.specs.Positions.{sectors_for}
use Rattle.cfb_chains.specs.declared.links.Links.{Links}
use Rattle.cfb_chains.proofs.ChainWriting.{length-joined, split, split_below}
use Rattle.cfb_fat.specs.Seeing.{seen_of}
use Rattle.cfb_fat.specs.Tables.{bytes_of, tables_of, version_of}
use Rattle.cfb_fat.specs.declared.allocator.Allocator.{Allocator}
use Rattle.cfb_chain_io.specs.ChainEffects.{content_of, len_of, place_of, Overwrites, TakesBytes, WritesIntoNewSectors}
use Rattle.cfb_chain_io.proofs.Owning.{becomes_then, none_behind_all}
use Rattle.cfb_chain_io.proofs.WrittenParts.{room_for}

over_list : (old xs : List ℕ) (at : ℕ) → at + length xs ≤ length old → overwritten old at xs ≡ take at old ++ xs ++ drop (at + length xs) old
over_list old [] at within = let none : at + length {A = ℕ} [] ≡ at = omega arith in sym (ap (λ n. take at old ++ [] ++ drop n old) none ∙ ap (λ l. l ++ drop at old) (append-nil (take at old)) ∙ take-append-drop at old)
over_list old (x ∷ xs) at within = let some : 0 < length (x ∷ xs) = omega arith in sym (inside_written old at (x ∷ xs) some within)

front_lists : (c bytes : List ℕ) (at front room : ℕ) → at + front ≡ length c → front ≤ length bytes → length bytes ≤ front + room
    → take at (c ++ padded room (drop front bytes)) ++ take front bytes ++ drop (at + front) (c ++ padded room (drop front bytes)) ≡ take at (c ++ replicate room 0) ++ bytes ++ drop (at + length bytes) (c ++ replicate room 0)
front_lists c bytes at front room ends has fits = same_lists _ _ (search (rules, places)) (λ k d h. grind (arith, places))

written_once : (c bytes : List ℕ) (at front room : ℕ) → at + front ≡ length c → front ≤ length bytes → length bytes ≤ front + room
    → overwritten (c ++ padded room (drop front bytes)) at (take front bytes) ≡ overwritten (c ++ replicate room 0) at bytes
written_once c bytes at front room ends has fits =
    let here : length (take front bytes) ≡ front = length-take-le front bytes has in
    let first : length (c ++ padded room (drop front bytes)) ≡ length c + length (padded room (drop front bytes)) = length-append c (padded room (drop front bytes)) in
    let second : length (c ++ replicate room 0) ≡ length c + room = length-append c (replicate room 0) ∙ ap (λ n. length c + n) (length-replicate room 0) in
    over_list (c ++ padded room (drop front bytes)) (take front bytes) at (omega (arith, here, ends, first))
    ∙ ap (λ n. take at (c ++ padded room (drop front bytes)) ++ take front bytes ++ drop (at + n) (c ++ padded room (drop front bytes))) here
    ∙ front_lists c bytes at front room ends has fits
    ∙ sym (over_list (c ++ replicate room 0) bytes at (omega (arith, ends, fits, second)))

-- sectors of zeros
pub zeros_joined : (count len : ℕ) → copies count (initial Zero len) ≡ replicate (count * len) 0
unfolding initial
zeros_joined zero len = let none : 0 * len ≡ 0 = omega arith in ap (λ n. replicate n 0) (sym none)
zeros_joined (suc n) len =
    let more : suc n * len ≡ len + n * len = omega arith in
    ap (λ l. replicate len 0 ++ l) (zeros_joined n len) ∙ same_lists _ _ (search (rules, places)) (λ k d h. grind (arith, places)) ∙ ap (λ n. replicate n 0) (sym more)

pub all_at : (P : ℕ → Type 0) (xs : List ℕ) (k : ℕ) → AllByRecursion P xs → k < length xs → P (get_or xs k 0)
all_at P [] k all below = absurd (omega (arith, below))
all_at P (x ∷ xs) zero all below = all.0
all_at P (x ∷ xs) (suc k) all below = all_at P xs k all.1 (omega (arith, below))

pub place_new : (v : Version) (bytes front new more : List ℕ) (k : ℕ) → new ≡ front ++ more → AreWhole v bytes more → length front ≤ k / sector_len v → k / sector_len v < length new → place_of v new k < length bytes
place_new v bytes front new more k is whole past below =
    let i = k / sector_len v in
    let size = ap length is ∙ length-append front more in
    let inside : i - length front < length more = lower i (length front) (length more) (length new) size past below in
    let at : get_or new i 0 ≡ get_or more (i - length front) 0 = ap (λ l. get_or l i 0) is ∙ get_or-append_right front more (length front) i 0 refl past in
    let there = all_at (λ n. sector_start v n + sector_len v ≤ length bytes) more (i - length front) whole inside in
    let rest = (split v k).1 in
    subst (λ x. sector_start v x + k % sector_len v < length bytes) (sym at) (upper (sector_start v (get_or more (i - length front) 0)) (sector_len v) (k % sector_len v) (length bytes) there rest)
  where
    lower : (i f m n : ℕ) → n ≡ f + m → f ≤ i → i < n → i - f < m
    lower i f m n size past below = omega (arith, size, past, below)

    upper : (s l r b : ℕ) → s + l ≤ b → r < l → s + r < b
    upper s l r b there rest = omega (arith, there, rest)

fits : (v : Version) (count more at front size : ℕ) → count + more ≡ sectors_for v (at + size) → at + front ≡ count * sector_len v → size ≤ front + more * sector_len v
fits V3 count more at front size is ends = omega (arith, is, ends)
fits V4 count more at front size is ends = omega (arith, is, ends)

behind : (v : Version) (count k : ℕ) → count * sector_len v ≤ k → count ≤ k / sector_len v
behind V3 count k past = omega (arith, past)
behind V4 count k past = omega (arith, past)

whole_later : (v : Version) (xs few many : List ℕ) → length few ≤ length many → AreWhole v few xs → AreWhole v many xs
whole_later v [] few many longer whole = tt
whole_later v (x ∷ xs) few many longer whole = let here = whole.0 in (omega (arith, here, longer), whole_later v xs few many longer whole.1)

module _ {F : Type 0} {g : Ghosts F} where
  pub writes_once : (at front : ℕ) (bytes : List ℕ) (a m b : Allocator F g) (before after : Links) → links_version before ≡ version_of a → at + front ≡ len_of before → front ≤ length bytes
      → length (ids_of after) ≡ sectors_for (links_version before) (at + length bytes) → version_of m ≡ version_of a → TakesBytes (drop front bytes) a m before after → Overwrites at (take front bytes) m b after
      → WritesIntoNewSectors Zero at bytes a b before after
  unfolding seen_of
  writes_once at front bytes a m b before after version ends has size same grown over =
      let v = version_of a in
      let held = content_of a before in
      let ends_here : at + front ≡ length (ids_of before) * sector_len v = ends ∙ ap (λ u. length (ids_of before) * sector_len u) version in
      let all : length (ids_of before) + length grown.more ≡ sectors_for v (at + length bytes) = sym (ap length grown.sectors ∙ length-append (ids_of before) grown.more) ∙ size ∙ ap (λ u. sectors_for u (at + length bytes)) version in
      record {
        more = grown.more;
        sectors = grown.sectors;
        chain = over.chain;
        becomes = becomes_then (sector v) (ids_of before) grown.more (ids_of after) (ids_of after) (seen_of a) (seen_of m) (seen_of b) grown.becomes grown.becomes.among
            (subst (λ u. ReplacesChain (sector u) [] (ids_of after) [] (ids_of after) (seen_of m) (seen_of b)) same over.becomes)
            (none_behind_all (tables_of b) (ids_of before) grown.more (subst (AreDisjoint (tables_of b)) grown.sectors over.chain.beside));
        content = over.content ∙ ap (λ l. overwritten l at (take front bytes)) grown.content
            ∙ written_once held bytes at front (length grown.more * sector_len v) (ends_here ∙ sym (length-joined v (bytes_of a) (ids_of before))) has (fits v (length (ids_of before)) (length grown.more) at front (length bytes) all ends_here)
            ∙ ap (λ l. overwritten (held ++ l) at bytes) (sym (zeros_joined (length grown.more) (sector_len v)));
        there = λ k from to.
            let past = room_for v (at + length bytes) (length (ids_of after)) (size ∙ ap (λ u. sectors_for u (at + length bytes)) version) in
            ⊎_elim
            (λ late. place_new v (bytes_of b) (ids_of before) (ids_of after) grown.more k grown.sectors (whole_later v grown.more (bytes_of m) (bytes_of b) over.becomes.leaves.longer grown.whole)
            (behind v (length (ids_of before)) k (subst (λ n. n ≤ k) ends_here late.1)) (split_below v k (length (ids_of after)) (omega (arith, past, to))))
            (λ early. let here = length-take-le front bytes has in subst (λ u. place_of u (ids_of after) k < length (bytes_of b)) same (over.there k from (omega (arith, early.1, here))))
            (leb_tells (at + front) k);
      }
