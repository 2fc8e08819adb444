-- Keys in an ordered set: which stand twice, and which new ones are there already.
use Rattle.std.proofs.Common.{◌≡◌, ◌∙◌, Bool, true, false, not, List, [], ◌∷◌, refl, sym, ap, ap₂, Err, Vec}
use Rattle.std.specs.Prelude.{◌||◌, ◌&&◌, if◌then◌else◌}
use Rattle.std.specs.BTreeMap.{is_at}
use Rattle.std.specs.BTreeSet.{insert_key}
use Rattle.std.specs.Cmp.Lexicographic.{lists_total, slice_cmp}
use Rattle.std.specs.List.{list_any}
use Rattle.std.specs.Ordering.{is_eq, match_ordering}
use Rattle.std.specs.declared.alloc.Global.{Global}
use Rattle.std.specs.declared.cmp.Ordering.{Ordering}
use Rattle.std.specs.declared.cmp.Ordering.TheVariants.{Less, Equal, Greater}
use Rattle.cfb_medium.specs.declared.error.Error.TheVariants.{AlreadyExists, InvalidInput}
use Rattle.msi_values.specs.Datum.{Datum}
use Rattle.msi_values.specs.Borrowed.{borrowed_data}
use Rattle.msi_values.specs.declared.borrowed.BorrowedValue.{BorrowedValue}
use Rattle.msi_values.specs.contracts.borrowed.BorrowedValueOrd.TheImpl.{ghosts}
use Rattle.msi_values.proofs.BorrowedOrder.{derived_list_order}
use Rattle.msi_tables.specs.Table.{are_distinct, has_key, key_cmp}
use Rattle.msi_tables.proofs.Keys.{datum_cmp_total}
use Rattle.msi_changes.specs.Changes.{new_keys}
use Rattle.msi_changes.specs.Keys.{HaveSameKeys, keys_said}
use Rattle.msi_changes.proofs.DistinctKeys.{are_new, one_key}

-- a key where its values stand
abbrev Key : Type 0
Key = Vec BorrowedValue Global

-- the order by which a set keeps such keys
abbrev set_cmp : Key → Key → Ordering
set_cmp x y = slice_cmp ghosts.cmp x.items y.items

or_again : (a b : Bool) → (a || b) ≡ (a || (a || b))
or_again true b = refl
or_again false b = refl

pub or_swap : (a b c : Bool) → (a || (b || c)) ≡ (b || (a || c))
or_swap true true c = refl
or_swap true false c = refl
or_swap false true c = refl
or_swap false false c = refl

-- the set has the key
is_there : (keys : List Key) (k : Key) → list_any (is_at (set_cmp k)) keys ≡ has_key (keys_said keys) (borrowed_data k.items)
is_there [] k = refl
is_there (x ∷ xs) k =
    ap₂ (λ a b. a || b) (ap is_eq (derived_list_order k.items x.items) ∙ one_key (borrowed_data k.items) (borrowed_data x.items)) (is_there xs k)

-- what the set has with one key more
put : (keys : List Key) (k : Key) (q : List Datum) → has_key (keys_said (insert_key set_cmp keys k)) q ≡ has_key (borrowed_data k.items ∷ keys_said keys) q
put [] k q = refl
put (x ∷ xs) k q = on (set_cmp k x) refl (put xs k q)
  where
    mine : Bool
    mine = is_eq (key_cmp (borrowed_data k.items) q)

    on : (o : Ordering) → set_cmp k x ≡ o → has_key (keys_said (insert_key set_cmp xs k)) q ≡ has_key (borrowed_data k.items ∷ keys_said xs) q
        → has_key (keys_said (match_ordering o (k ∷ x ∷ xs) (x ∷ xs) (x ∷ insert_key set_cmp xs k))) q ≡ has_key (borrowed_data k.items ∷ keys_said (x ∷ xs)) q
    on Less is rest = refl
    on Equal is rest =
        let same : key_cmp (borrowed_data k.items) (borrowed_data x.items) ≡ Equal = sym (derived_list_order k.items x.items) ∙ is in
        let alike : is_eq (key_cmp (borrowed_data k.items) q) ≡ is_eq (key_cmp (borrowed_data x.items) q) = ap is_eq ((lists_total datum_cmp_total).congr (borrowed_data k.items) (borrowed_data x.items) q same) in
        or_again (is_eq (key_cmp (borrowed_data x.items) q)) (has_key (keys_said xs) q) ∙ ap (λ b. b || has_key (keys_said (x ∷ xs)) q) (sym alike)
    on Greater is rest =
        ap (λ b. is_eq (key_cmp (borrowed_data x.items) q) || b) rest
        ∙ or_swap (is_eq (key_cmp (borrowed_data x.items) q)) (is_eq (key_cmp (borrowed_data k.items) q)) (has_key (keys_said xs) q)

-- ---- new keys in turn

-- which keys were there before counts as a set
pub earlier_same : (stored one other keys : List (List Datum)) → ((k : List Datum) → has_key one k ≡ has_key other k) → new_keys stored one keys ≡ new_keys stored other keys
earlier_same stored one other [] h = refl
earlier_same stored one other (k ∷ ks) h =
    let deeper = earlier_same stored (k ∷ one) (k ∷ other) ks (λ q. ap (λ b. is_eq (key_cmp k q) || b) (h q)) in
    rw (h k, deeper) refl

-- and so does which are stored
pub stored_same : (one other earlier keys : List (List Datum)) → HaveSameKeys one other → new_keys other earlier keys ≡ new_keys one earlier keys
stored_same one other earlier [] h = refl
stored_same one other earlier (k ∷ ks) h = let deeper = stored_same one other (k ∷ earlier) ks h in rw (h k, deeper) refl

module _ (stored earlier left : List Key) (k : Key) (rest : List Key) (first : left ≡ k ∷ rest) where
  abbrev judged_now : Bool → Bool → Type 0
  judged_now a b = new_keys (keys_said stored) (keys_said earlier) (keys_said left)
      ≡ (if a then Err AlreadyExists else (if b then Err InvalidInput else new_keys (keys_said stored) (borrowed_data k.items ∷ keys_said earlier) (keys_said rest)))

  turn : (a b : Bool) → a ≡ list_any (is_at (set_cmp k)) stored → b ≡ list_any (is_at (set_cmp k)) earlier → judged_now a b
  turn a b one two = rw (first, one ∙ is_there stored k, two ∙ is_there earlier k) refl

  pub stands_already : true ≡ list_any (is_at (set_cmp k)) stored → new_keys (keys_said stored) (keys_said earlier) (keys_said left) ≡ Err AlreadyExists
  stands_already one = turn true (list_any (is_at (set_cmp k)) earlier) one refl

  pub came_already : false ≡ list_any (is_at (set_cmp k)) stored → true ≡ list_any (is_at (set_cmp k)) earlier → new_keys (keys_said stored) (keys_said earlier) (keys_said left) ≡ Err InvalidInput
  came_already one two = turn false true one two

  pub judge_on : (after : List Key) → false ≡ list_any (is_at (set_cmp k)) stored → false ≡ list_any (is_at (set_cmp k)) earlier → after ≡ insert_key set_cmp earlier k
      → new_keys (keys_said stored) (keys_said earlier) (keys_said left) ≡ new_keys (keys_said stored) (keys_said after) (keys_said rest)
  judge_on after one two is =
      turn false false one two ∙ earlier_same (keys_said stored) (borrowed_data k.items ∷ keys_said earlier) (keys_said after) (keys_said rest) (λ q. sym (ap (λ ks. has_key (keys_said ks) q) is ∙ put earlier k q))

-- ---- keys that stand once

-- each key in turn is not among those before it
abbrev pub are_fresh : List (List Datum) → List (List Datum) → Bool
are_fresh seen [] = true
are_fresh seen (k ∷ ks) = not (has_key seen k) && are_fresh (k ∷ seen) ks

-- the keys of two lists are those of a third
abbrev pub AddUp : List (List Datum) → List (List Datum) → List (List Datum) → Type 0
AddUp one other all = (k : List Datum) → (has_key one k || has_key other k) ≡ has_key all k

seen_same : (one other keys : List (List Datum)) → ((k : List Datum) → has_key one k ≡ has_key other k) → are_fresh one keys ≡ are_fresh other keys
seen_same one other [] h = refl
seen_same one other (k ∷ ks) h = ap₂ (λ a b. not a && b) (h k) (seen_same (k ∷ one) (k ∷ other) ks (λ q. ap (λ b. is_eq (key_cmp k q) || b) (h q)))

not_first : (k : List Datum) (keys new : List (List Datum)) → are_new (k ∷ keys) new ≡ (not (has_key new k) && are_new keys new)
not_first k keys [] = refl
not_first k keys (q ∷ qs) =
    ap₂ (λ a b. not (a || has_key keys q) && b) (one_key k q) (not_first k keys qs)
    ∙ split (is_eq (key_cmp q k)) (has_key keys q) (has_key qs k) (are_new keys qs)
  where
    split : (a b c d : Bool) → (not (a || b) && (not c && d)) ≡ (not (a || c) && (not b && d))
    split true b c d = refl
    split false true true d = refl
    split false true false d = refl
    split false false true d = refl
    split false false false d = refl

fresh_are : (seen keys : List (List Datum)) → are_fresh seen keys ≡ (are_new seen keys && are_distinct keys)
fresh_are seen [] = refl
fresh_are seen (k ∷ ks) =
    ap (λ b. not (has_key seen k) && b) (fresh_are (k ∷ seen) ks ∙ ap (λ b. b && are_distinct ks) (not_first k seen ks))
    ∙ turned (not (has_key seen k)) (not (has_key ks k)) (are_new seen ks) (are_distinct ks)
  where
    turned : (a b c d : Bool) → (a && ((b && c) && d)) ≡ ((a && c) && (b && d))
    turned true true c d = refl
    turned true false true d = refl
    turned true false false d = refl
    turned false b c d = refl

-- all are, where none stands twice
pub all_fresh : (keys : List (List Datum)) → are_fresh [] keys ≡ are_distinct keys
all_fresh keys = fresh_are [] keys ∙ ap (λ b. b && are_distinct keys) (all_new keys)
  where
    all_new : (keys : List (List Datum)) → are_new [] keys ≡ true
    all_new [] = refl
    all_new (k ∷ ks) = all_new ks

module _ (set left : List Key) (k : Key) (rest : List Key) (first : left ≡ k ∷ rest) where
  pub is_not_fresh : true ≡ list_any (is_at (set_cmp k)) set → are_fresh (keys_said set) (keys_said left) ≡ false
  is_not_fresh one = let has : has_key (keys_said set) (borrowed_data k.items) ≡ true = sym (one ∙ is_there set k) in rw (first, has) refl

  pub fresh_on : (after : List Key) → false ≡ list_any (is_at (set_cmp k)) set → after ≡ insert_key set_cmp set k → are_fresh (keys_said set) (keys_said left) ≡ are_fresh (keys_said after) (keys_said rest)
  fresh_on after one is =
      let has : has_key (keys_said set) (borrowed_data k.items) ≡ false = sym (one ∙ is_there set k) in
      rw (first, has) (seen_same (borrowed_data k.items ∷ keys_said set) (keys_said after) (keys_said rest) (λ q. sym (ap (λ ks. has_key (keys_said ks) q) is ∙ put set k q)))

  pub adds_up : (all : List (List Datum)) (after : List Key) → after ≡ insert_key set_cmp set k → AddUp (keys_said set) (keys_said left) all → AddUp (keys_said after) (keys_said rest) all
  adds_up all after is sums q =
      ap (λ b. b || has_key (keys_said rest) q) (ap (λ ks. has_key (keys_said ks) q) is ∙ put set k q)
      ∙ regrouped (is_eq (key_cmp (borrowed_data k.items) q)) (has_key (keys_said set) q) (has_key (keys_said rest) q)
      ∙ ap (λ ks. has_key (keys_said set) q || has_key (keys_said ks) q) (sym first) ∙ sums q
    where
      regrouped : (a b c : Bool) → ((a || b) || c) ≡ (b || (a || c))
      regrouped true true c = refl
      regrouped true false c = refl
      regrouped false true c = refl
      regrouped false false c = refl

-- what an insert into a set tells
pub add_told : (added there b : Bool) → added ≡ not there → added ≡ not b → b ≡ there
add_told true false false is told = refl
add_told true true b is told = absurd (cc is)
add_told true false true is told = absurd (cc told)
add_told false true true is told = refl
add_told false false b is told = absurd (cc is)
add_told false true false is told = absurd (cc told)

-- at first all keys are left
pub starts_fresh : (set left keys : List Key) → set ≡ [] → left ≡ keys → are_fresh (keys_said set) (keys_said left) ≡ are_distinct (keys_said keys)
starts_fresh set left keys none all = rw (none, all) (all_fresh (keys_said keys))

pub starts_up : (set left keys : List Key) → set ≡ [] → left ≡ keys → AddUp (keys_said set) (keys_said left) (keys_said keys)
starts_up set left keys none all = rw (none, all) (λ k. refl)
