-- The places of a text in an ordered map of ordered sets, after one of them was added or taken.
use Rattle.std.proofs.Common.{◌≡◌, ℕ, List, [], Bool, true, false, cond, Option, Some, None, refl, ap, sym, ◌∙◌, arith}
use Rattle.std.specs.Prelude.{String, string_bytes, ◌==◌, ◌&&◌, bytes_eq}
use Rattle.std.specs.Option.{option_map_or}
use Rattle.std.specs.List.{list_any}
use Rattle.std.specs.Ordering.{nat_cmp}
use Rattle.std.specs.String.{string_cmp}
use Rattle.std.specs.Cmp.Lexicographic.{slice_cmp}
use Rattle.std.specs.BTreeMap.{get_by_text, is_at, UpdatesBy}
use Rattle.std.specs.BTreeSet as set
use Rattle.std.specs.declared.alloc.Global.{Global}
use Rattle.std.specs.declared.collections.BTreeMap.{BTreeMap}
use Rattle.std.specs.declared.collections.BTreeSet.{BTreeSet}
use Rattle.std.proofs.lemmas.Bool.Decides.{nat_tests}
use Rattle.std.proofs.lemmas.Slice.Eq.{bytes_eq-Decides}
use Rattle.std.proofs.lemmas.Map.Text.{btree_map_updates_text}
use Rattle.msi_pool_index.specs.PoolParts.{has_place, has_room}

abbrev Places : Type 0
Places = BTreeSet ℕ Global

abbrev Rooms : Type 0
Rooms = BTreeMap (String Global) Places Global

-- the key's test is that of equal numbers
pub at_same : (k i : ℕ) → is_at (nat_cmp k) i ≡ (i == k)
at_same k i = grind (arith, nat_tests)

pub set_after : (s n : Places) (k : ℕ) (b : Bool) → set.UpdatesBy nat_cmp (nat_cmp k) s n b → (i : ℕ) → has_place n i ≡ cond (i == k) b (has_place s i)
set_after s n k b u i = u.0 i ∙ ap (λ x. cond x b (has_place s i)) (at_same k i)

abbrev pub places_of_text : Option Places → ℕ → Bool
places_of_text o i = option_map_or (λ s. set.contains nat_cmp s i) o false

pub eq_turned : (x t : List ℕ) → bytes_eq x t ≡ bytes_eq t x
eq_turned x t = go (bytes_eq x t) (bytes_eq t x) refl refl
  where
    go : (a b : Bool) → bytes_eq x t ≡ a → bytes_eq t x ≡ b → a ≡ b
    go true true e f = refl
    go false false e f = refl
    go true false e f = sym (sym f ∙ (bytes_eq-Decides t x).1 (sym ((bytes_eq-Decides x t).0 e)))
    go false true e f = sym e ∙ (bytes_eq-Decides x t).1 (sym ((bytes_eq-Decides t x).0 f))

-- one place of one text
pub room_put : (m n : Rooms) (x : List ℕ) (s : Places) (k : ℕ) (b : Bool) → UpdatesBy string_cmp (λ key. slice_cmp nat_cmp x (string_bytes key)) m n (Some s)
    → ((i : ℕ) → has_place s i ≡ cond (i == k) b (has_room m x i)) → (t : List ℕ) (i : ℕ) → has_room n t i ≡ cond (bytes_eq t x && (i == k)) b (has_room m t i)
room_put m n x s k b u h t i =
    ap (λ o. places_of_text o i) (btree_map_updates_text x m n (Some s) u t ∙ ap (λ e. cond e (Some s) (get_by_text m t)) (eq_turned x t))
    ∙ go (bytes_eq t x) refl
  where
    go : (e : Bool) → bytes_eq t x ≡ e → places_of_text (cond e (Some s) (get_by_text m t)) i ≡ cond (e && (i == k)) b (has_room m t i)
    go true e = h i ∙ ap (λ y. cond (i == k) b (has_room m y i)) (sym ((bytes_eq-Decides t x).0 e))
    go false e = refl

-- a text without places may go
pub room_dropped : (m n : Rooms) (x : List ℕ) → UpdatesBy string_cmp (λ key. slice_cmp nat_cmp x (string_bytes key)) m n None
    → ((i : ℕ) → has_room m x i ≡ false) → (t : List ℕ) (i : ℕ) → has_room n t i ≡ has_room m t i
room_dropped m n x u h t i =
    ap (λ o. places_of_text o i) (btree_map_updates_text x m n None u t ∙ ap (λ e. cond e None (get_by_text m t)) (eq_turned x t))
    ∙ go (bytes_eq t x) refl
  where
    go : (e : Bool) → bytes_eq t x ≡ e → places_of_text (cond e None (get_by_text m t)) i ≡ has_room m t i
    go true e = sym (ap (λ y. has_room m y i) ((bytes_eq-Decides t x).0 e) ∙ h i)
    go false e = refl

-- a set that was changed at one place, where it stands
pub room_changed : (m n : Rooms) (x : List ℕ) (s0 s : Places) (k : ℕ) (b : Bool) → UpdatesBy string_cmp (λ key. slice_cmp nat_cmp x (string_bytes key)) m n (Some s)
    → Some s0 ≡ get_by_text m x → set.UpdatesBy nat_cmp (nat_cmp k) s0 s b → (t : List ℕ) (i : ℕ) → has_room n t i ≡ cond (bytes_eq t x && (i == k)) b (has_room m t i)
room_changed m n x s0 s k b u found v = room_put m n x s k b u (λ i. set_after s0 s k b v i ∙ ap (λ z. cond (i == k) b z) (ap (λ o. places_of_text o i) found))

-- a new set of one place
pub room_made : (m n : Rooms) (x : List ℕ) (s0 s : Places) (k : ℕ) → UpdatesBy string_cmp (λ key. slice_cmp nat_cmp x (string_bytes key)) m n (Some s)
    → None ≡ get_by_text m x → s0.keys ≡ [] → set.UpdatesBy nat_cmp (nat_cmp k) s0 s true → (t : List ℕ) (i : ℕ) → has_room n t i ≡ cond (bytes_eq t x && (i == k)) true (has_room m t i)
room_made m n x s0 s k u found none v =
    room_put m n x s k true u (λ i. set_after s0 s k true v i ∙ ap (λ z. cond (i == k) true z) (ap (λ ks. list_any (is_at (nat_cmp i)) ks) none ∙ ap (λ o. places_of_text o i) found))

-- a set that was not changed
pub room_kept : (m n : Rooms) (x : List ℕ) (s0 s : Places) → UpdatesBy string_cmp (λ key. slice_cmp nat_cmp x (string_bytes key)) m n (Some s)
    → Some s0 ≡ get_by_text m x → s.keys ≡ s0.keys → (t : List ℕ) (i : ℕ) → has_room n t i ≡ has_room m t i
room_kept m n x s0 s u found same t i =
    ap (λ o. places_of_text o i) (btree_map_updates_text x m n (Some s) u t ∙ ap (λ e. cond e (Some s) (get_by_text m t)) (eq_turned x t))
    ∙ go (bytes_eq t x) refl
  where
    go : (e : Bool) → bytes_eq t x ≡ e → places_of_text (cond e (Some s) (get_by_text m t)) i ≡ has_room m t i
    go true e = ap (λ ks. list_any (is_at (nat_cmp i)) ks) same ∙ ap (λ o. places_of_text o i) found ∙ ap (λ y. has_room m y i) (sym ((bytes_eq-Decides t x).0 e))
    go false e = refl
