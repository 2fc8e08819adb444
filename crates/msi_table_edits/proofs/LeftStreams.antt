-- What stands in a tree of which three tables' streams were put and one removed.
use Rattle.std.proofs.Common.{◌≡◌, ◌∙◌, ℕ, Bool, true, false, cond, List, [], ◌∷◌, map, Some, None, refl, sym, ap, ap₂}
use Rattle.std.specs.Prelude.{◌||◌, bytes_eq, filter, not}
use Rattle.std.specs.List.{list_any}
use Rattle.std.specs.Ordering.{is_eq}
use Rattle.cfb_tree.specs.Names.{CaseTable, key_cmp, name_key}
use Rattle.cfb_tree.specs.Objects.{a_storage, a_stream, is_same_name, name_of, Object}
use Rattle.cfb_tree.specs.Tree.{Tree}
use Rattle.msi_tables.specs.Table.{table_named, Table}
use Rattle.msi_spec.specs.Package.{at_name, is_stream, objects, stream_at, stream_name}
use Rattle.msi_spec.specs.Streams.{without_stream}
use Rattle.msi_spec.proofs.Roots.{put_found}
use Rattle.msi_spec.proofs.StreamKeys.{key_by_same, same_by_key}
use Rattle.msi_spec.proofs.SystemRows.{same_bytes}
use Rattle.msi_rewritten.specs.Rewriting.{HasPut}
use Rattle.msi_rewritten.proofs.Beside.{put_beside, put_keeps_storages}
use Rattle.msi_rewritten.proofs.Names.{storage_listed}
use Rattle.msi_table_edits.proofs.LeftTables.{other}

-- ---- objects without those of a name

module _ (letters : CaseTable) (gone : List ℕ) where
  -- what stands at another name stays
  pub left_beside : (n : List ℕ) → is_same_name letters n gone ≡ false → (os : List Object) → at_name letters (without_stream letters gone os) n ≡ at_name letters os n
  left_beside n differs [] = refl
  left_beside n differs (o ∷ os) = by (is_same_name letters gone (name_of o)) refl (left_beside n differs os)
    where
      by : (b : Bool) → is_same_name letters gone (name_of o) ≡ b → at_name letters (without_stream letters gone os) n ≡ at_name letters os n
          → at_name letters (cond (not b) (o ∷ without_stream letters gone os) (without_stream letters gone os)) n ≡ cond (is_same_name letters n (name_of o)) (Some o) (at_name letters os n)
      by true is rest =
          let apart : is_same_name letters n (name_of o) ≡ false = ap (λ k. is_eq (key_cmp (name_key letters n) k)) (sym (key_by_same letters gone (name_of o) is)) ∙ differs in
          rest ∙ ap (λ b. cond b (Some o) (at_name letters os n)) (sym apart)
      by false is rest = ap (cond (is_same_name letters n (name_of o)) (Some o)) rest

  -- a test of what is left, where another fails of what is gone and tells the same of all else
  pub kept_left : (p q : Object → Bool) → ((o : Object) → is_same_name letters gone (name_of o) ≡ true → p o ≡ false) → ((o : Object) → is_same_name letters gone (name_of o) ≡ false → q o ≡ p o)
      → (os : List Object) → filter q (without_stream letters gone os) ≡ filter p os
  kept_left p q drops alike [] = refl
  kept_left p q drops alike (o ∷ os) = by (is_same_name letters gone (name_of o)) refl (kept_left p q drops alike os)
    where
      by : (b : Bool) → is_same_name letters gone (name_of o) ≡ b → filter q (without_stream letters gone os) ≡ filter p os
          → filter q (cond (not b) (o ∷ without_stream letters gone os) (without_stream letters gone os)) ≡ cond (p o) (o ∷ filter p os) (filter p os)
      by true is rest = rest ∙ ap (λ b. cond b (o ∷ filter p os) (filter p os)) (sym (drops o is))
      by false is rest = ap₂ (λ b l. cond b (o ∷ l) l) (alike o is) rest

  abbrev storages_in : List Object → List Object
  storages_in os = filter (λ o. not (is_stream o)) os

  -- the storages stay, where none has the name
  pub storages_left : (os : List Object) → at_name letters (storages_in os) gone ≡ None → storages_in (without_stream letters gone os) ≡ storages_in os
  storages_left [] free = refl
  storages_left (a_stream n s b ∷ os) free = by (is_same_name letters gone n) (storages_left os free)
    where
      by : (same : Bool) → storages_in (without_stream letters gone os) ≡ storages_in os
          → storages_in (cond (not same) (a_stream n s b ∷ without_stream letters gone os) (without_stream letters gone os)) ≡ storages_in os
      by true rest = rest
      by false rest = rest
  storages_left (a_storage n f i ∷ os) free = by (is_same_name letters gone n) refl (storages_left os)
    where
      by : (same : Bool) → is_same_name letters gone n ≡ same → (at_name letters (storages_in os) gone ≡ None → storages_in (without_stream letters gone os) ≡ storages_in os)
          → storages_in (cond (not same) (a_storage n f i ∷ without_stream letters gone os) (without_stream letters gone os)) ≡ a_storage n f i ∷ storages_in os
      by true is rest = let taken : Some (a_storage n f i) ≡ None = rw is at free in absurd (cc)
      by false is rest = ap (λ l. a_storage n f i ∷ l) (rest (rw is at free))

-- ---- names of the tables that are left

module _ (p : List ℕ → Bool) (name : List ℕ) where
  -- that a table's name passes is told of all
  pub any_listed : (ts : List Table) (u : Table) → table_named ts name ≡ Some u → p (stream_name name) ≡ true → list_any p (map (λ t. stream_name t.name) ts) ≡ true
  any_listed [] u is passes = absurd (cc)
  any_listed (t ∷ ts) u is passes = by (bytes_eq t.name name) refl (λ later. any_listed ts u later passes)
    where
      or_right : (a b : Bool) → b ≡ true → (a || b) ≡ true
      or_right true b e = refl
      or_right false b e = e

      by : (b : Bool) → bytes_eq t.name name ≡ b → (table_named ts name ≡ Some u → list_any p (map (λ t. stream_name t.name) ts) ≡ true)
          → (p (stream_name t.name) || list_any p (map (λ t. stream_name t.name) ts)) ≡ true
      by true e rest = ap (λ b. b || list_any p (map (λ t. stream_name t.name) ts)) (ap (λ n. p (stream_name n)) (same_bytes t.name name e) ∙ passes)
      by false e rest = or_right (p (stream_name t.name)) (list_any p (map (λ t. stream_name t.name) ts)) (rest (rw e at is))

  -- where the dropped one's fails, those that are left tell the same
  pub any_left : p (stream_name name) ≡ false → (ts : List Table) → list_any p (map (λ t. stream_name t.name) (filter (other name) ts)) ≡ list_any p (map (λ t. stream_name t.name) ts)
  any_left fails [] = refl
  any_left fails (t ∷ ts) = by (bytes_eq t.name name) refl (any_left fails ts)
    where
      by : (b : Bool) → bytes_eq t.name name ≡ b → list_any p (map (λ t. stream_name t.name) (filter (other name) ts)) ≡ list_any p (map (λ t. stream_name t.name) ts)
          → list_any p (map (λ t. stream_name t.name) (cond (not b) (t ∷ filter (other name) ts) (filter (other name) ts))) ≡ (p (stream_name t.name) || list_any p (map (λ t. stream_name t.name) ts))
      by true e rest = rest ∙ ap (λ b. b || list_any p (map (λ t. stream_name t.name) ts)) (sym (ap (λ n. p (stream_name n)) (same_bytes t.name name e) ∙ fails))
      by false e rest = ap (λ b. p (stream_name t.name) || b) rest

-- ---- a stream that is put

module _ (letters : CaseTable) (table bytes : List ℕ) (old new : Tree) (put : HasPut letters table bytes old new) where
  pub put_at_other : (n : List ℕ) → is_same_name letters n (stream_name table) ≡ false → at_name letters (objects new.content) n ≡ at_name letters (objects old.content) n
  put_at_other n differs = ap (λ os. at_name letters os n) put.objects ∙ put_beside letters (stream_name table) bytes n differs (objects old.content)

  module _ (free : at_name letters (filter (λ o. not (is_stream o)) (objects old.content)) (stream_name table) ≡ None) where
    pub put_at_own : stream_at letters (objects new.content) (stream_name table) ≡ Some bytes
    put_at_own =
        ap (λ os. stream_at letters os (stream_name table)) put.objects
        ∙ put_found letters (stream_name table) bytes (objects old.content) (λ o there. by o there (is_stream o) refl) (same_by_key letters (stream_name table) (stream_name table) refl)
      where
        by : (o : Object) → at_name letters (objects old.content) (stream_name table) ≡ Some o → (b : Bool) → is_stream o ≡ b → b ≡ true
        by o there true is = refl
        by o there false is =
            let listed = storage_listed letters (stream_name table) (objects old.content) o there is in
            let never : None ≡ Some o = sym free ∙ listed in
            absurd (cc)

    pub put_storages : filter (λ o. not (is_stream o)) (objects new.content) ≡ filter (λ o. not (is_stream o)) (objects old.content)
    put_storages = ap (filter (λ o. not (is_stream o))) put.objects ∙ put_keeps_storages letters (stream_name table) bytes (objects old.content) free
