-- The places of a text in a draft, after its map changed.
use Rattle.std.proofs.Common.{◌≡◌, ℕ, List, [], Bool, true, false, cond, Option, Some, None, refl, ap, sym, subst, ap₂, ◌∷◌, length, arith, ◌∙◌, rules}
use Rattle.std.specs.Prelude.{String, string_bytes, ◌==◌, ◌&&◌, ◌||◌, bytes_eq, IsSome}
use Rattle.std.specs.Option.{option_map_or}
use Rattle.std.specs.List.{list_any}
use Rattle.std.specs.Ordering.{nat_cmp}
use Rattle.std.specs.String.{string_cmp}
use Rattle.std.specs.Cmp.Lexicographic.{slice_cmp}
use Rattle.std.specs.Map.{keys_of, lookup}
use Rattle.std.specs.BTreeMap.{get_by_text, is_at, UpdatesBy}
use Rattle.std.specs.BTreeSet as set
use Rattle.std.specs.declared.alloc.Global.{Global}
use Rattle.std.specs.declared.collections.BTreeMap.{BTreeMap}
use Rattle.std.specs.declared.collections.BTreeSet.{BTreeSet}
use Rattle.std.proofs.lemmas.Slice.Eq.{bytes_eq-Decides}
use Rattle.std.proofs.lemmas.Map.Text.{btree_map_updates_text, is_eq-slice_cmp}
use Rattle.msi_pool_index.specs.Places.{PoolEntry}
use Rattle.msi_pool_index.specs.PoolDraft.{room_over}
use Rattle.msi_pool_index.specs.PoolIndex.{is_roomy, passes_at}
use Rattle.msi_pool_index.specs.PoolParts.{has_place, has_room}
use Rattle.msi_pool_index.proofs.PoolRooms.{eq_turned, set_after}

abbrev Places : Type 0
Places = BTreeSet ℕ Global

abbrev Rooms : Type 0
Rooms = BTreeMap (String Global) Places Global

abbrev there : Option Places → Bool → ℕ → Bool
there o b i = option_map_or (λ s. has_place s i) o b

-- what the map has at a text once it has this at one
pub text_after : (m n : Rooms) (x : List ℕ) (w : Option Places) → UpdatesBy string_cmp (λ key. slice_cmp nat_cmp x (string_bytes key)) m n w → (t : List ℕ) → get_by_text n t ≡ cond (bytes_eq t x) w (get_by_text m t)
text_after m n x w u t = btree_map_updates_text x m n w u t ∙ ap (λ e. cond e w (get_by_text m t)) (eq_turned x t)

-- no text goes
pub texts_kept : (m n : Rooms) (x : List ℕ) (s : Places) → UpdatesBy string_cmp (λ key. slice_cmp nat_cmp x (string_bytes key)) m n (Some s) → (t : List ℕ) → IsSome (get_by_text m t) → IsSome (get_by_text n t)
texts_kept m n x s u t had = rw (text_after m n x (Some s) u t) (go (bytes_eq t x))
  where
    go : (b : Bool) → IsSome (cond b (Some s) (get_by_text m t))
    go true = search rules
    go false = had

module _ (ps : List PoolEntry) (m n : Rooms) (x : List ℕ) (s : Places) (u : UpdatesBy string_cmp (λ key. slice_cmp nat_cmp x (string_bytes key)) m n (Some s)) where
  -- one place of one text
  pub over_put : (k : ℕ) (b : Bool) → ((i : ℕ) → has_place s i ≡ cond (i == k) b (room_over m ps x i)) → (t : List ℕ) (i : ℕ) → room_over n ps t i ≡ cond (bytes_eq t x && (i == k)) b (room_over m ps t i)
  over_put k b h t i = ap (λ o. there o (passes_at (is_roomy t) ps i) i) (text_after m n x (Some s) u t) ∙ go (bytes_eq t x) refl
    where
      go : (e : Bool) → bytes_eq t x ≡ e → there (cond e (Some s) (get_by_text m t)) (passes_at (is_roomy t) ps i) i ≡ cond (e && (i == k)) b (room_over m ps t i)
      go true e = h i ∙ ap (λ y. cond (i == k) b (room_over m ps y i)) (sym ((bytes_eq-Decides t x).0 e))
      go false e = refl

  -- the same places of one text
  pub over_same : ((i : ℕ) → has_place s i ≡ room_over m ps x i) → (t : List ℕ) (i : ℕ) → room_over n ps t i ≡ room_over m ps t i
  over_same h t i = ap (λ o. there o (passes_at (is_roomy t) ps i) i) (text_after m n x (Some s) u t) ∙ go (bytes_eq t x) refl
    where
      go : (e : Bool) → bytes_eq t x ≡ e → there (cond e (Some s) (get_by_text m t)) (passes_at (is_roomy t) ps i) i ≡ room_over m ps t i
      go true e = h i ∙ ap (λ y. room_over m ps y i) (sym ((bytes_eq-Decides t x).0 e))
      go false e = refl

  -- a set that was changed at one place, where it stands
  pub over_changed : (s0 : Places) (k : ℕ) (b : Bool) → Some s0 ≡ get_by_text m x → set.UpdatesBy nat_cmp (nat_cmp k) s0 s b → (t : List ℕ) (i : ℕ) → room_over n ps t i ≡ cond (bytes_eq t x && (i == k)) b (room_over m ps t i)
  over_changed s0 k b found v = over_put k b (λ i. set_after s0 s k b v i ∙ ap (cond (i == k) b) (ap (λ o. there o (passes_at (is_roomy x) ps i) i) found))

  -- a set that was not changed
  pub over_kept : (s0 : Places) → Some s0 ≡ get_by_text m x → s.keys ≡ s0.keys → (t : List ℕ) (i : ℕ) → room_over n ps t i ≡ room_over m ps t i
  over_kept s0 found same = over_same (λ i. ap (λ ks. list_any (is_at (nat_cmp i)) ks) same ∙ ap (λ o. there o (passes_at (is_roomy x) ps i) i) found)

  -- a copy of the set of the list
  pub over_held : get_by_text m x ≡ None → ((i : ℕ) → has_place s i ≡ passes_at (is_roomy x) ps i) → (t : List ℕ) (i : ℕ) → room_over n ps t i ≡ room_over m ps t i
  over_held none h = over_same (λ i. h i ∙ ap (λ o. there o (passes_at (is_roomy x) ps i) i) (sym none))

-- what the map has once it has these places at one text
pub text_put : (m n : Rooms) (x : List ℕ) (s : Places) → UpdatesBy string_cmp (λ key. slice_cmp nat_cmp x (string_bytes key)) m n (Some s) → (t : List ℕ) (i : ℕ) → has_room n t i ≡ cond (bytes_eq t x) (has_place s i) (has_room m t i)
text_put m n x s u t i = ap (λ o. there o false i) (text_after m n x (Some s) u t) ∙ go (bytes_eq t x)
  where
    go : (b : Bool) → there (cond b (Some s) (get_by_text m t)) false i ≡ cond b (has_place s i) (has_room m t i)
    go true = refl
    go false = refl

-- and once the text is gone, which had no places
pub text_dropped : (m n : Rooms) (x : List ℕ) (s : Places) → s.keys ≡ [] → UpdatesBy string_cmp (λ key. slice_cmp nat_cmp x (string_bytes key)) m n None → (t : List ℕ) (i : ℕ) → has_room n t i ≡ cond (bytes_eq t x) (has_place s i) (has_room m t i)
text_dropped m n x s none u t i = ap (λ o. there o false i) (text_after m n x None u t) ∙ go (bytes_eq t x)
  where
    go : (b : Bool) → there (cond b None (get_by_text m t)) false i ≡ cond b (has_place s i) (has_room m t i)
    go true = sym (ap (λ ks. list_any (is_at (nat_cmp i)) ks) none)
    go false = refl

-- the other texts stay
pub others_kept : (m n : Rooms) (x : List ℕ) (w : Option Places) → UpdatesBy string_cmp (λ key. slice_cmp nat_cmp x (string_bytes key)) m n w → (t : List ℕ) → bytes_eq t x ≡ false → IsSome (get_by_text m t) → IsSome (get_by_text n t)
others_kept m n x w u t other had = rw (text_after m n x w u t, other) had

-- a text that was not there, without places
pub text_made : (m n : Rooms) (x : List ℕ) (s : Places) → get_by_text m x ≡ None → s.keys ≡ [] → UpdatesBy string_cmp (λ key. slice_cmp nat_cmp x (string_bytes key)) m n (Some s) → (t : List ℕ) (i : ℕ) → has_room n t i ≡ has_room m t i
text_made m n x s lacks none u t i = text_put m n x s u t i ∙ go (bytes_eq t x) refl
  where
    go : (b : Bool) → bytes_eq t x ≡ b → cond b (has_place s i) (has_room m t i) ≡ has_room m t i
    go true e = ap (λ ks. list_any (is_at (nat_cmp i)) ks) none ∙ sym (ap (λ y. has_room m y i) ((bytes_eq-Decides t x).0 e) ∙ ap (λ o. there o false i) lacks)
    go false e = refl

-- one text that was put leaves the others to be put
pub rest_put : (m n room after : Rooms) (x : List ℕ) (s : Places) → Some s ≡ get_by_text m x → UpdatesBy string_cmp (λ key. slice_cmp nat_cmp x (string_bytes key)) m n None
    → ((t : List ℕ) (i : ℕ) → has_room after t i ≡ cond (bytes_eq t x) (has_place s i) (has_room room t i)) → (t : List ℕ) (i : ℕ) → there (get_by_text n t) (has_room after t i) i ≡ there (get_by_text m t) (has_room room t i) i
rest_put m n room after x s is u put t i = ap₂ (λ o b. there o b i) (text_after m n x None u t) (put t i) ∙ go (bytes_eq t x) refl
  where
    go : (b : Bool) → bytes_eq t x ≡ b → there (cond b None (get_by_text m t)) (cond b (has_place s i) (has_room room t i)) i ≡ there (get_by_text m t) (has_room room t i) i
    go true e = sym (ap (λ y. there (get_by_text m y) (has_room room t i) i) ((bytes_eq-Decides t x).0 e) ∙ ap (λ o. there o (has_room room t i) i) (sym is))
    go false e = refl

pub rest_there : (m n room after : Rooms) (x : List ℕ) → UpdatesBy string_cmp (λ key. slice_cmp nat_cmp x (string_bytes key)) m n None → ((t : List ℕ) → IsSome (get_by_text m t) → IsSome (get_by_text room t))
    → ((t : List ℕ) → bytes_eq t x ≡ false → IsSome (get_by_text room t) → IsSome (get_by_text after t)) → (t : List ℕ) → IsSome (get_by_text n t) → IsSome (get_by_text after t)
rest_there m n room after x u had kept t some = go (bytes_eq t x) refl (subst IsSome (text_after m n x None u t) some)
  where
    go : (b : Bool) → bytes_eq t x ≡ b → IsSome (cond b None (get_by_text m t)) → IsSome (get_by_text after t)
    go true e h = absurd (search rules)
    go false e h = kept t e (had t h)

pub nothing_in : {X : Type 0} (xs : List X) → length xs ≡ 0 → xs ≡ []
nothing_in [] e = refl
nothing_in (x ∷ xs) e = absurd (omega (arith, e))

-- a map has a text just where it is among its keys
pub text_among : (es : List (String Global × Places)) (t : List ℕ) → IsSome (lookup (is_at (λ key. slice_cmp nat_cmp t (string_bytes key))) es) → list_any (λ text. bytes_eq t (string_bytes text)) (keys_of es) ≡ true
text_among [] t some = absurd (search rules)
text_among (e ∷ es) t some = go (is_at (λ key. slice_cmp nat_cmp t (string_bytes key)) e.0) refl some (text_among es t)
  where
    go : (b : Bool) → is_at (λ key. slice_cmp nat_cmp t (string_bytes key)) e.0 ≡ b → IsSome (cond b (Some e.1) (lookup (is_at (λ key. slice_cmp nat_cmp t (string_bytes key))) es)) → (IsSome (lookup (is_at (λ key. slice_cmp nat_cmp t (string_bytes key))) es) → list_any (λ text. bytes_eq t (string_bytes text)) (keys_of es) ≡ true)
        → (bytes_eq t (string_bytes e.0) || list_any (λ text. bytes_eq t (string_bytes text)) (keys_of es)) ≡ true
    go true h some ih = ap (λ b. b || list_any (λ text. bytes_eq t (string_bytes text)) (keys_of es)) (sym (is_eq-slice_cmp t (string_bytes e.0)) ∙ h)
    go false h some ih = either (bytes_eq t (string_bytes e.0)) (ih some)
      where
        either : (b : Bool) → list_any (λ text. bytes_eq t (string_bytes text)) (keys_of es) ≡ true → (b || list_any (λ text. bytes_eq t (string_bytes text)) (keys_of es)) ≡ true
        either true e = refl
        either false e = e
