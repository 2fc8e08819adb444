-- What a query finds of tables whose rows lie in the file.
use Rattle.std.proofs.Common.{◌≡◌, ◌∙◌, ◌⊎◌, ℕ, suc, Bool, true, false, cond, List, [], ◌∷◌, refl, sym, ap, subst, arith, inl, inr, Some, None}
use Rattle.std.specs.Prelude.{Contains, IfErr, IfOk, IfSome, Option, Err, Ok, bytes_eq, option_map}
use Rattle.cfb.specs.Streams as file
use Rattle.cfb.specs.Views.{file_case_table, mini_of}
use Rattle.cfb_fat.specs.Tables.{IsJustifiedBySectors}
use Rattle.cfb_medium.specs.Calls.{IsFaultOrInvalidInputIf}
use Rattle.cfb_medium.specs.declared.error.Error.TheVariants.{InvalidData}
use Rattle.cfb_medium.specs.declared.medium.ReadMedium.{Ghosts}
use Rattle.cfb_mini.specs.Views.{allocator_of}
use Rattle.cfb_tree.specs.Tree.{Tree}
use Rattle.msi_parts.specs.Judged.{heading_named}
use Rattle.msi_query.specs.Sources.{TablesByName}
use Rattle.msi_store.proofs.Told.{Read, ToldRows}
use Rattle.msi_stored.specs.StoredPackages.{HasCause, HasTables, HasTooMany, IsUnread, StoredTables, rows_in}
use Rattle.msi_tables.specs.Held.{rows_held}
use Rattle.msi_tables.specs.Rows.{Row}
use Rattle.msi_tables.specs.Table.{Heading, Table}

pub option_then : {A B C : Type 0} (f : A → B) (h : B → C) (o : Option A) → option_map (λ a. h (f a)) o ≡ option_map h (option_map f o)
option_then f h None = refl
option_then f h (Some a) = refl

-- a table that is found is one of them
found_is_one : (hs : List Heading) (name : List ℕ) (h : Heading) → heading_named hs name ≡ Some h → Contains hs h
found_is_one [] name h e = absurd (cc)
found_is_one (k ∷ ks) name h e = by (bytes_eq k.name name) e (found_is_one ks name h)
  where
    by : (b : Bool) → cond b (Some k) (heading_named ks name) ≡ Some h → (heading_named ks name ≡ Some h → Contains ks h) → Contains (k ∷ ks) h
    by true e later = (0, omega arith, cc)
    by false e later = let there = later e in (suc there.0, omega (arith, there.1), there.2)

module _ {F : Type 0} {g : Ghosts F} (it : StoredTables F g) (tables : TablesByName) (has : HasTables it tables) (name : List ℕ) where
  -- names and columns are those in memory
  pub named : {X : Type 0} (see : X → Heading) (o : Option X) → option_map see o ≡ heading_named it.1 name → option_map (λ x. (see x).name) o ≡ option_map (λ t. t.name) (tables name)
  named see o e = option_then see (λ h. h.name) o ∙ ap (option_map (λ h. h.name)) e ∙ sym (has.2.names name)

  pub columned : {X : Type 0} (see : X → Heading) (o : Option X) → option_map see o ≡ heading_named it.1 name → option_map (λ x. (see x).columns) o ≡ option_map (λ t. t.columns) (tables name)
  columned see o e = option_then see (λ h. h.columns) o ∙ ap (option_map (λ h. h.columns)) e ∙ sym (has.2.columns name)

  -- a table that isn't there has no rows to tell
  pub no_rows : (rows : List Row) → heading_named it.1 name ≡ None → IfSome (tables name) (λ t. t.rows ≡ rows)
  no_rows rows none = by (tables name) (has.2.names name ∙ ap (option_map (λ h. h.name)) none)
    where
      by : (o : Option Table) → option_map (λ t. t.name) o ≡ None → IfSome o (λ t. t.rows ≡ rows)
      by None e = tt
      by (Some t) e = absurd (cc)

  -- its rows are those that the file has for it
  pub own_rows : (h : Heading) (r : Read) → heading_named it.1 name ≡ Some h → ((tree : Tree) → file.FileHoldsTree it.0 tree → ToldRows (file_case_table it.0) tree h r)
      → IfOk r (λ rows. IfSome (tables name) (λ t. t.rows ≡ rows_held rows.items))
  own_rows h (Err e) found told = tt
  own_rows h (Ok rows) found told = by (tables name) refl
    where
      by : (o : Option Table) → tables name ≡ o → IfSome o (λ t. t.rows ≡ rows_held rows.items)
      by None e = tt
      by (Some t) e = has.2.rows name t h (rows_held rows.items) e found (told has.0 has.1)

-- they are so of all tables that it has
pub rows_all : {F : Type 0} {g : Ghosts F} (it : StoredTables F g) (name : List ℕ) (h : Heading) (r : Read) → heading_named it.1 name ≡ Some h → ((tree : Tree) → file.FileHoldsTree it.0 tree → ToldRows (file_case_table it.0) tree h r)
    → IfOk r (λ rows. (tables : TablesByName) → HasTables it tables → IfSome (tables name) (λ t. t.rows ≡ rows_held rows.items))
rows_all it name h (Ok rows) found told = λ tables has. own_rows it tables has name h (Ok rows) found told
rows_all it name h (Err e) found told = tt

-- rows that can't be read are told by their cause
pub own_cause : {F : Type 0} {g : Ghosts F} (old new : StoredTables F g) (name : List ℕ) (h : Heading) (r : Read) → heading_named old.1 name ≡ Some h
    → ((tree : Tree) → file.FileHoldsTree old.0 tree → ToldRows (file_case_table old.0) tree h r) → IfErr r (IsJustifiedBySectors (allocator_of (mini_of old.0)) (allocator_of (mini_of new.0)))
    → IfErr r (λ e. IsFaultOrInvalidInputIf ⊥ e ⊎ (e ≡ InvalidData)) → IfErr r (HasCause old new)
own_cause old new name h (Ok rows) found told cause error = tt
own_cause old new name h (Err e) found told cause error = record { below = cause; either = by error }
  where
    too_many : (tree : Tree) → e ≡ InvalidData → IsFaultOrInvalidInputIf ⊥ e ⊎ ((e ≡ InvalidData) × (rows_in (file_case_table old.0) tree h ≡ None)) → HasTooMany (file_case_table old.0) tree old.1
    too_many tree broken (inl fault) = absurd (subst (IsFaultOrInvalidInputIf ⊥) broken fault)
    too_many tree broken (inr both) = (h, found_is_one old.1 name h found, both.1)

    by : IsFaultOrInvalidInputIf ⊥ e ⊎ (e ≡ InvalidData) → IsFaultOrInvalidInputIf ⊥ e ⊎ IsUnread old e
    by (inl fault) = inl fault
    by (inr broken) = inr (broken, λ tree held. too_many tree broken (told tree held))
