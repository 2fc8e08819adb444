-- What the places of a list are once they took a draft over.
use Rattle.std.proofs.Common.{◌≡◌, ℕ, ◌<◌, ◌≤◌, ◌^◌, Bool, true, false, cond, List, ◌++◌, length, get_or, Option, Some, None, refl, ap, ap₂, sym, ◌∙◌, subst, arith}
use Rattle.std.specs.Prelude.{◌&&◌, ◌||◌, not, nat_le, nat_lt, unwrap_or}
use Rattle.std.specs.Option.{option_map_or}
use Rattle.std.specs.BTreeMap.{get_by_text}
use Rattle.std.proofs.lemmas.Bool.Decides.{nat_tests}
use Rattle.msi_pool_index.specs.declared.draftparts.Changes.{Changes}
use Rattle.msi_pool_index.specs.Places.{PoolEntry, empty_pool_entry, places_of}
use Rattle.msi_pool_index.specs.PoolDraft.{below, over, laid, place_in, takes_place}
use Rattle.msi_pool_index.specs.PoolIndex.{PoolIndexParts, PoolIndexMatches, is_free, is_roomy, passes_at}
use Rattle.msi_pool_index.specs.PoolParts.{has_place}
use Rattle.msi_pool_index.proofs.Laid.{at_list, draft_length, laid-append}
use Rattle.msi_pool_index.proofs.PoolIndexed.{passes-get, passes-outside}

-- the tests of a place, by what stood there and what stands there now
stood : (a g c z : Bool) → z ≡ (g || (a && c)) → z ≡ a → ((a || g) && true) ≡ z
stood true g c z e same = sym same
stood false true c z e same = sym e
stood false false c z e same = sym e

stands : (a g c z : Bool) → z ≡ (g || (a && c)) → ((a || g) && not (not z)) ≡ z
stands true g c true e = refl
stands false true c true e = refl
stands false false c true e = sym e
stands true g c false e = refl
stands false true c false e = refl
stands false false c false e = refl

behind : (g c z : Bool) → z ≡ (g || (false && c)) → ((false || g) && true) ≡ z
behind true c z e = sym e
behind false c z e = sym e

module _ (base : PoolIndexParts) (b : PoolIndexMatches base) (c : Changes) (x : PoolIndexMatches (over base.places c)) (n : PoolIndexParts) where
  abbrev ps : List PoolEntry
  ps = base.places

  abbrev f : ℕ → Option PoolEntry
  f = place_in c.changed

  abbrev all : List PoolEntry
  all = (over ps c).places

  module _ (end : ℕ) (ends : end ≡ length ps) where
    within : (i : ℕ) → i < length ps → below end f i ≡ f i
    within i l = let e : nat_lt i end ≡ true = grind (arith, nat_tests, ends) in ap (λ t. cond t (f i) None) e

    beyond : (i : ℕ) → length ps ≤ i → below end f i ≡ None
    beyond i l = let e : nat_lt i end ≡ false = grind (arith, nat_tests, ends) in ap (λ t. cond t (f i) None) e

    -- the list
    pub adopted_places : laid (below end f) (ps ++ places_of c.added.items) ≡ all
    adopted_places = laid-append f (below end f) ps (places_of c.added.items) within beyond

    module _ (old : ℕ → Bool) (held : (i : ℕ) → old i ≡ (base.free i || has_place c.given i)) where
      told : (i : ℕ) → passes_at is_free all i ≡ (has_place c.given i || (passes_at is_free ps i && nat_le c.passed i))
      told i = sym (x.frees i)

      free_so : (i : ℕ) (t : Bool) → nat_lt i (length ps) ≡ t → (old i && not (takes_place (below end f i))) ≡ passes_at is_free all i
      free_so i false e =
          let past : length ps ≤ i = grind (arith, nat_tests, e) in
          let none : passes_at is_free ps i ≡ false = passes-outside is_free ps i past in
          ap₂ (λ a o. a && not (takes_place o)) (held i ∙ ap (λ a. a || has_place c.given i) (b.frees i ∙ none)) (beyond i past)
          ∙ behind (has_place c.given i) (nat_le c.passed i) (passes_at is_free all i) (told i ∙ ap (λ a. has_place c.given i || (a && nat_le c.passed i)) none)
      free_so i true e = go (f i) refl
        where
          inside : i < length ps
          inside = grind (arith, nat_tests, e)

          whole : i < length all
          whole = omega (arith, inside, draft_length f ps c.added.items)

          at : (o : Option PoolEntry) → f i ≡ o → passes_at is_free all i ≡ is_free (unwrap_or o (get_or ps i empty_pool_entry))
          at o is = passes-get is_free all i empty_pool_entry whole ∙ ap is_free (at_list f ps c.added.items i inside ∙ ap (λ o. unwrap_or o (get_or ps i empty_pool_entry)) is)

          go : (o : Option PoolEntry) → f i ≡ o → (old i && not (takes_place (below end f i))) ≡ passes_at is_free all i
          go None is =
              ap₂ (λ a o. a && not (takes_place o)) (held i ∙ ap (λ a. a || has_place c.given i) (b.frees i)) (within i inside ∙ is)
              ∙ stood (passes_at is_free ps i) (has_place c.given i) (nat_le c.passed i) (passes_at is_free all i) (told i) (at None is ∙ sym (passes-get is_free ps i empty_pool_entry inside))
          go (Some p) is =
              ap₂ (λ a o. a && not (takes_place o)) (held i ∙ ap (λ a. a || has_place c.given i) (b.frees i)) (within i inside ∙ is)
              ∙ ap (λ z. (passes_at is_free ps i || has_place c.given i) && not (not z)) (sym (at (Some p) is))
              ∙ stands (passes_at is_free ps i) (has_place c.given i) (nat_le c.passed i) (passes_at is_free all i) (told i)

      -- with its index
      pub adopted : n.places ≡ all → ((i : ℕ) → n.free i ≡ (old i && not (takes_place (below end f i)))) → ((t : List ℕ) (i : ℕ) → n.room t i ≡ option_map_or (λ s. has_place s i) (get_by_text c.room t) (base.room t i)) → PoolIndexMatches n
      adopted is free room = record {
        few = subst (λ (z : List PoolEntry). length z < 2 ^ 32) (sym is) x.few;
        frees = λ i. free i ∙ free_so i (nat_lt i (length ps)) refl ∙ ap (λ z. passes_at is_free z i) (sym is);
        rooms = λ t i. room t i ∙ ap (λ a. option_map_or (λ s. has_place s i) (get_by_text c.room t) a) (b.rooms t i) ∙ x.rooms t i ∙ ap (λ z. passes_at (is_roomy t) z i) (sym is);
      }
