-- What a query comes to, over plain variables.
use Rattle.std.proofs.Common.{◌≡◌, ◌∙◌, ◌⊎◌, ℕ, Bool, true, false, List, [], ◌∷◌, ◌++◌, map, sym, ap, subst, inl, inr, Vec, Some, None, Ok, Err, refl}
use Rattle.std.specs.Prelude.{◌&&◌, ◌||◌, filter, not, All, IsTrue, MatchResult, Option, Result}
use Rattle.std.specs.List.{flat_map, list_all}
use Rattle.std.specs.declared.alloc.Global.{Global}
use Rattle.std.proofs.lemmas.Bool.{and_parts}
use Rattle.std.proofs.lemmas.List.Elements.{All-cons, All-nil}
use Rattle.cfb_medium.specs.declared.error.Error.{Error}
use Rattle.cfb_medium.specs.declared.error.Error.TheVariants.{AlreadyExists, InvalidInput, Memory}
use Rattle.msi_changes.specs.Changes.{all_taken_back, deleted, inserted, keys_after, rows_set, sets_key, updated}
use Rattle.msi_changes.specs.Applied.{with_rows as rows_given}
use Rattle.msi_changes.specs.Laws.{AddsRows}
use Rattle.msi_changes.proofs.InsertLaw.{adds_rows}
use Rattle.msi_changes.proofs.Refused.{refused_likewise}
use Rattle.msi_columns.specs.Column.{Column}
use Rattle.msi_expr.specs.Conditions.{knows_condition, matches}
use Rattle.msi_expr.specs.Formula.{Formula}
use Rattle.msi_pool.specs.Pool.{Pool}
use Rattle.msi_pool.specs.declared.stringref.ValueRef.{ValueRef}
use Rattle.msi_tables.specs.Held.{rows_held}
use Rattle.msi_tables.specs.Rows.{has_place, AreRowsWritable, IsArranged, IsStored, Row}
use Rattle.msi_tables.specs.Table.{are_distinct, row_data, row_key_cmp, Heading, Table}
use Rattle.msi_tables.proofs.Writable.{moved_rows_are_writable, stored_rows_move, writable_rows_have_bytes}
use Rattle.msi_values.specs.Datum.{Datum}
use Rattle.msi_spec.specs.Calls.{is_system, may_insert, may_update}
use Rattle.msi_rewritten.proofs.Inserted.{of_ok}
use Rattle.msi_texts.specs.Results.{◌>>=◌, unless_not}
use Rattle.msi_row_edits.specs.Allowed.{IsAllowed}
use Rattle.msi_row_edits.specs.Asked.{inserting, rows_after, IsPrepared, IsStoredFor, IsUnwritten, IsWrittenAs, RowsAsked}

pub places_held : (rows : List (Vec ValueRef Global)) → list_all (λ row. list_all has_place row.items) rows ≡ true → All (λ row. IsTrue (list_all has_place row)) (rows_held rows)
places_held [] all = All-nil (λ row. IsTrue (list_all has_place row))
places_held (r ∷ rs) all =
    let both = and_parts (list_all has_place r.items) (list_all (λ row. list_all has_place row.items) rs) all in
    All-cons (λ row. IsTrue (list_all has_place row)) r.items (rows_held rs) both.0 (places_held rs both.1)

-- ---- refusals

module _ (name : List ℕ) (pool : Pool) (t : Table) (new_rows : List (List Datum)) where
  pub refused_so : (e : Error) → (e ≡ Memory) ⊎ (inserted true pool t new_rows ≡ Err e) → (e ≡ Memory) ⊎ (inserted (may_insert name) pool t new_rows ≡ Err e)
  refused_so e (inl memory) = inl memory
  refused_so e (inr is) = inr (by (is_system name))
    where
      by : (b : Bool) → inserted (not b) pool t new_rows ≡ Err e
      by false = is
      by true = subst (λ r. MatchResult r (λ after. inserted false pool t new_rows ≡ Err InvalidInput) (λ e. inserted false pool t new_rows ≡ Err e)) is (refused_likewise pool t new_rows)

  pub system_refused : (after : List Row × Pool) → inserted true pool t new_rows ≡ Ok after → is_system name ≡ true → inserted (may_insert name) pool t new_rows ≡ Err InvalidInput
  system_refused after is system =
      ap (λ b. inserted (not b) pool t new_rows) system
      ∙ subst (λ r. MatchResult r (λ after. inserted false pool t new_rows ≡ Err InvalidInput) (λ e. inserted false pool t new_rows ≡ Err e)) is (refused_likewise pool t new_rows)

-- what describes others takes no delete
pub delete_refused : (pool : Pool) (t : Table) (condition : Option Formula) → deleted false pool t condition ≡ Err InvalidInput
delete_refused pool t condition = by (knows_condition t.columns condition)
  where
    by : (b : Bool) → (◌≡◌ {A = Result (List Row × Pool) Error} (unless_not (b && false) InvalidInput >>= λ _.
        all_taken_back pool (flat_map (λ row. row) (filter (matches pool t.columns condition) t.rows)) >>= λ p. Ok (filter (λ row. not (matches pool t.columns condition row)) t.rows, p)) (Err InvalidInput))
    by true = refl
    by false = refl

pub system_not_deleted : (name : List ℕ) (pool : Pool) (t : Table) (condition : Option Formula) → is_system name ≡ true → deleted (may_insert name) pool t condition ≡ Err InvalidInput
system_not_deleted name pool t condition system = ap (λ b. deleted (not b) pool t condition) system ∙ delete_refused pool t condition

-- another table takes the delete that is tried
pub deleted_as : (name : List ℕ) (pool : Pool) (t : Table) (condition : Option Formula) → is_system name ≡ false → deleted (may_insert name) pool t condition ≡ deleted true pool t condition
deleted_as name pool t condition ordinary = ap (λ b. deleted (not b) pool t condition) ordinary

-- an update is refused before all else where it may not change the table
module _ (h : Heading) (pool : Pool) (rows : List Row) (sets : List (List ℕ × Datum)) (condition : Option Formula) (may : Bool) (allowed : IsAllowed h sets condition may) where
  pub not_updated : may ≡ false → updated (may_update h.name h.columns sets) pool (rows_given h rows) sets condition ≡ Err InvalidInput
  not_updated is = ap (λ b. unless_not b InvalidInput >>= λ _. unless_not (not (sets_key h.columns sets) || are_distinct (keys_after pool (rows_given h rows) sets condition)) AlreadyExists >>= λ _.
      rows_set h.columns pool sets (map (λ row. (row, matches pool h.columns condition row)) rows)) (allowed.no is)

  pub updated_as : may ≡ true → updated (may_update h.name h.columns sets) pool (rows_given h rows) sets condition ≡ updated true pool (rows_given h rows) sets condition
  updated_as is = ap (λ b. updated b pool (rows_given h rows) sets condition) (allowed.yes is)

-- rows that can be written are
pub unwritten : (long : Bool) (columns : List Column) (rows : List Row) (e : Error) → AreRowsWritable long columns rows → IsUnwritten long columns rows e → e ≡ Memory
unwritten long columns rows e writable (inl memory) = memory
unwritten long columns rows e writable (inr w) =
    let bytes = writable_rows_have_bytes long columns w.0 (moved_rows_are_writable long columns rows w.0 (stored_rows_move columns rows w.0 w.1) writable) in
    let never : None ≡ Some bytes.0 = sym w.2 ∙ bytes.1 in
    absurd (cc)

-- ---- accepted

module _ (name : List ℕ) (pool : Pool) (t : Table) (new_rows : List (List Datum)) (rows : List Row) (next : Pool) (accepted : inserted true pool t new_rows ≡ Ok (rows, next)) (ordinary : is_system name ≡ false) where
  pub insert_is : (listed : List Row) (bytes : List ℕ) (old_values values : List (List Datum)) → All (λ row. IsTrue (list_all has_place row)) rows → AreRowsWritable pool.long t.columns rows
      → old_values ≡ map (row_data pool) t.rows → values ≡ old_values ++ new_rows
      → ((p : Pool) → values ≡ map (row_data p) rows → IsArranged (row_key_cmp p t.columns) rows listed) → IsWrittenAs pool.long t.columns listed bytes
      → IsPrepared (inserting new_rows) name pool t bytes next
  insert_is listed bytes old_values values places writable old new arranged w = record {
    rows = rows;
    accepted = ap (λ b. inserted (not b) pool t new_rows) ordinary ∙ accepted;
    places = places;
    writable = writable;
    stored = w.stored;
    order = λ counted.
        let adds : AddsRows pool t new_rows (rows, next) = of_ok (inserted true pool t new_rows) (AddsRows pool t new_rows) (rows, next) accepted (adds_rows true pool t new_rows counted) in
        let said : values ≡ map (row_data next) rows = new ∙ ap (λ vs. vs ++ new_rows) old ∙ sym adds.rows in
        (listed, arranged next said, w.is_stored);
    written = w.written;
  }

-- an update or a delete, whose rows are stored in the order of their cells
pub edit_is : (q : RowsAsked) (name : List ℕ) (pool : Pool) (t : Table) (rows : List Row) (next : Pool) → rows_after q name pool t ≡ Ok (rows, next)
    → ((stored : List Row) → IsStored t.columns rows stored → IsStoredFor q next t.columns rows stored)
    → All (λ row. IsTrue (list_all has_place row)) rows → AreRowsWritable pool.long t.columns rows → (bytes : List ℕ) → IsWrittenAs pool.long t.columns rows bytes → IsPrepared q name pool t bytes next
edit_is q name pool t rows next accepted order places writable bytes w = record {
  rows = rows;
  accepted = accepted;
  places = places;
  writable = writable;
  stored = w.stored;
  order = λ counted. order w.stored w.is_stored;
  written = w.written;
}
