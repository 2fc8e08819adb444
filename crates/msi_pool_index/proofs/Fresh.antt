-- A draft at its beginning.
use Rattle.std.proofs.Common.{◌≡◌, ℕ, ◌<◌, ◌^◌, Bool, true, false, List, [], ◌++◌, length, refl, ap, ap₂, sym, ◌∙◌, subst, arith, append-nil}
use Rattle.std.specs.Prelude.{◌&&◌, ◌||◌, nat_le, option_map}
use Rattle.std.specs.List.{list_any}
use Rattle.std.specs.Option.{option_map_or}
use Rattle.std.specs.Map.{lookup}
use Rattle.std.specs.BTreeMap.{is_at}
use Rattle.std.specs.Ordering.{nat_cmp}
use Rattle.std.specs.Cmp.Lexicographic.{slice_cmp}
use Rattle.std.specs.Prelude.{string_bytes}
use Rattle.std.proofs.lemmas.Bool.Decides.{nat_tests}
use Rattle.msi_pool_index.specs.declared.draftparts.Changes.{Changes}
use Rattle.msi_pool_index.specs.Places.{PoolEntry, place_of, places_of}
use Rattle.msi_pool_index.specs.PoolDraft.{over, place_in}
use Rattle.msi_pool_index.specs.PoolIndex.{PoolIndexMatches, is_free, is_roomy, passes_at}
use Rattle.msi_pool_index.specs.PoolParts.{has_place}
use Rattle.msi_pool_index.proofs.Laid.{laid-none}

module _ (ps : List PoolEntry) (c : Changes) (changed : c.changed.entries ≡ []) (added : c.added.items ≡ []) (given : c.given.keys ≡ []) (passed : c.passed ≡ 0) (room : c.room.entries ≡ []) where
  pub fresh_places : (over ps c).places ≡ ps
  fresh_places =
      ap₂ (λ xs ys. xs ++ ys) (laid-none (place_in c.changed) ps (λ i. ap (λ es. option_map place_of (lookup (is_at (nat_cmp i)) es)) changed)) (ap places_of added)
      ∙ append-nil ps

  none_free : (i : ℕ) → (over ps c).free i ≡ passes_at is_free ps i
  none_free i =
      ap (λ ks. list_any (is_at (nat_cmp i)) ks || (passes_at is_free ps i && nat_le c.passed i)) given
      ∙ (let all : nat_le c.passed i ≡ true = grind (arith, nat_tests) in go (passes_at is_free ps i) (nat_le c.passed i) all)
    where
      go : (a b : Bool) → b ≡ true → (false || (a && b)) ≡ a
      go true true e = refl
      go false b e = refl
      go true false e = e

  pub fresh_indexed : length ps < 2 ^ 32 → PoolIndexMatches (over ps c)
  fresh_indexed few = record {
    few = subst (λ (z : List PoolEntry). length z < 2 ^ 32) (sym fresh_places) few;
    frees = λ i. none_free i ∙ ap (λ z. passes_at is_free z i) (sym fresh_places);
    rooms = λ t i. ap (λ es. option_map_or (λ s. has_place s i) (lookup (is_at (λ k. slice_cmp nat_cmp t (string_bytes k))) es) (passes_at (is_roomy t) ps i)) room ∙ ap (λ z. passes_at (is_roomy t) z i) (sym fresh_places);
  }
