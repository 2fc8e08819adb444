-- Of which kinds the refusals of a query on rows are.
use Rattle.std.proofs.Common.{◌≡◌, ◌⊎◌, ◌+◌, ℕ, Bool, true, false, List, [], ◌∷◌, map, length, inl, inr, refl, sym, subst, Option, Some, None, Result, Ok, Err}
use Rattle.std.specs.Prelude.{◌&&◌, ◌||◌, ◌==◌, filter, nat_le, not, if◌then◌else◌, slice_get, slice_set, unwrap_or, IfErr, option_map}
use Rattle.std.specs.List.{flat_map, list_all}
use Rattle.cfb_fat.specs.Keeping.{own_cause}
use Rattle.cfb_fat.specs.Tables.{IsJustifiedBySectors}
use Rattle.cfb_fat.specs.declared.allocator.Allocator.{Allocator}
use Rattle.cfb_medium.specs.Calls.{IsFaultOrInvalidInputIf}
use Rattle.cfb_medium.specs.declared.error.Error.{Error}
use Rattle.cfb_medium.specs.declared.error.Error.TheVariants.{AlreadyExists, Device, Failed, Full, InvalidData, InvalidInput, Memory, NotFound, UnexpectedEof}
use Rattle.cfb_medium.specs.declared.medium.ReadMedium.{Ghosts}
use Rattle.msi_changes.specs.Changes.{all_taken_back, cell_set, cells_set, counted, deleted, in_turn, inserted, is_valid_set, keys_after, new_keys, row_counted, row_set, rows_counted, sets_key, taken_back, updated}
use Rattle.msi_columns.specs.Column.{are_valid, column_place, Column}
use Rattle.msi_row_edits.specs.Asked.{deleting, inserting, rows_after, updating, RowsAsked}
use Rattle.msi_row_edits.specs.Edited.{IsEditError, IsEditErrorButFull}
use Rattle.msi_expr.specs.Conditions.{knows_condition, matches}
use Rattle.msi_expr.specs.Formula.{Formula}
use Rattle.msi_spec.specs.Calls.{may_insert, may_update}
use Rattle.msi_pool.specs.Pool.{pool_entry_at, place, used, with_refcount_down, Pool}
use Rattle.msi_pool.specs.declared.stringref.ValueRef.{ValueRef}
use Rattle.msi_pool.specs.declared.stringref.ValueRef.TheVariants as cell
use Rattle.msi_tables.specs.Rows.{max_rows, Row}
use Rattle.msi_tables.specs.Table.{are_distinct, has_key, key_values, keys_of, Table}
use Rattle.msi_texts.specs.Results.{◌>>=◌, or_refused, unless_not}
use Rattle.msi_values.specs.Datum.{binary, null, number, text, Datum}

-- neither a fault of the device nor an earlier one, no end of bytes, and no want of room
abbrev pub IsOwn : Error → Type 0
IsOwn Device = ⊥
IsOwn Failed = ⊥
IsOwn UnexpectedEof = ⊥
IsOwn Memory = Unit {0}
IsOwn InvalidInput = Unit {0}
IsOwn InvalidData = Unit {0}
IsOwn AlreadyExists = Unit {0}
IsOwn NotFound = Unit {0}
IsOwn Full = ⊥

-- it is of a kind that edits have
pub own_kind : (e : Error) → IsOwn e → IsEditError e
own_kind Device own = absurd own
own_kind Failed own = absurd own
own_kind UnexpectedEof own = absurd own
own_kind Memory own = inl tt
own_kind InvalidData own = inr (inl (inl (inl refl)))
own_kind InvalidInput own = inr (inl (inl (inr (inl refl))))
own_kind NotFound own = inr (inl (inl (inr (inr refl))))
own_kind Full own = absurd own
own_kind AlreadyExists own = inr (inr refl)

pub Err_same : {T : Type 0} {a b : Error} → (◌≡◌ {A = Result T Error} (Err a) (Err b)) → a ≡ b
Err_same is = (cc (is))

-- ---- before anything is put

pub own_unput : (e : Error) → IsOwn e → IsEditErrorButFull e
own_unput Device own = absurd own
own_unput Failed own = absurd own
own_unput UnexpectedEof own = absurd own
own_unput Memory own = tt
own_unput InvalidData own = tt
own_unput InvalidInput own = tt
own_unput NotFound own = tt
own_unput Full own = absurd own
own_unput AlreadyExists own = tt

fault_unput : (e : Error) → IsFaultOrInvalidInputIf ⊥ e → IsEditErrorButFull e
fault_unput Device fault = tt
fault_unput Failed fault = tt
fault_unput UnexpectedEof fault = absurd fault
fault_unput Memory fault = tt
fault_unput InvalidData fault = tt
fault_unput InvalidInput fault = tt
fault_unput NotFound fault = tt
fault_unput Full fault = absurd fault
fault_unput AlreadyExists fault = tt

-- the rows of a table that were read
pub read_unput : (e : Error) → IsFaultOrInvalidInputIf ⊥ e ⊎ (e ≡ InvalidData) → IsEditErrorButFull e
read_unput e why = elim why [ inl fault ↦ fault_unput e fault | inr broken ↦ subst IsEditErrorButFull (sym broken) tt ]

pub unput_kind : (e : Error) → IsEditErrorButFull e → IsEditError e
unput_kind Device kind = inl tt
unput_kind Failed kind = inl tt
unput_kind UnexpectedEof kind = absurd kind
unput_kind Memory kind = inl tt
unput_kind InvalidData kind = inr (inl (inl (inl refl)))
unput_kind InvalidInput kind = inr (inl (inl (inr (inl refl))))
unput_kind NotFound kind = inr (inl (inl (inr (inr refl))))
unput_kind Full kind = absurd kind
unput_kind AlreadyExists kind = inr (inr refl)

pub unput_not_full : {A : Type 0} (e : Error) → IsEditErrorButFull e → (◌≡◌ {A = Result (Unit {0}) Error} (Err e) (Err Full)) → A
unput_not_full e kind is = absurd (subst IsEditErrorButFull (Err_same is) kind)

-- ---- kinds

then_own : {A B : Type 0} (r : Result A Error) (f : A → Result B Error) → IfErr r IsOwn → ((x : A) → IfErr (f x) IsOwn) → IfErr (r >>= f) IsOwn
then_own (Ok x) f own rest = rest x
then_own (Err e) f own rest = own

unless_own : (b : Bool) (e : Error) → IsOwn e → IfErr (unless_not b e) IsOwn
unless_own true e own = tt
unless_own false e own = own

in_turn_own : {S X Y : Type 0} (f : S → X → Result (Y × S) Error) → ((s : S) (x : X) → IfErr (f s x) IsOwn) → (s : S) (xs : List X) → IfErr (in_turn f s xs) IsOwn
in_turn_own f each s [] = tt
in_turn_own f each s (x ∷ xs) = then_own (f s x) (λ y. in_turn f y.1 xs >>= λ ys. Ok (y.0 ∷ ys.0, ys.1)) (each s x) (λ y. then_own (in_turn f y.1 xs) (λ ys. Ok (y.0 ∷ ys.0, ys.1)) (in_turn_own f each y.1 xs) (λ ys. tt))

counted_own : (pool : Pool) (d : Datum) → IfErr (counted pool d) IsOwn
counted_own pool null = tt
counted_own pool (number z) = tt
counted_own pool (text t) = by (option_map (λ n. (cell.Str n, used pool t)) (place pool t))
  where
    by : (o : Option (ValueRef × Pool)) → IfErr (or_refused o InvalidInput) IsOwn
    by None = tt
    by (Some x) = tt
counted_own pool binary = tt

keys_own : (stored earlier new : List (List Datum)) → IfErr (new_keys stored earlier new) IsOwn
keys_own stored earlier [] = tt
keys_own stored earlier (k ∷ ks) = by (has_key stored k) (has_key earlier k) (keys_own stored (k ∷ earlier) ks)
  where
    by : (a b : Bool) → IfErr (new_keys stored (k ∷ earlier) ks) IsOwn → IfErr (if a then Err AlreadyExists else (if b then Err InvalidInput else new_keys stored (k ∷ earlier) ks)) IsOwn
    by true b rest = tt
    by false true rest = tt
    by false false rest = rest

inserted_own : (may : Bool) (pool : Pool) (t : Table) (news : List (List Datum)) → IfErr (inserted may pool t news) IsOwn
inserted_own may pool t news =
    then_own (unless_not (list_all (are_valid t.columns) news) InvalidInput) _ (unless_own (list_all (are_valid t.columns) news) InvalidInput tt) (λ _.
    then_own (unless_not (are_distinct (keys_of pool t)) InvalidData) _ (unless_own (are_distinct (keys_of pool t)) InvalidData tt) (λ _.
    then_own (new_keys (keys_of pool t) [] (map (key_values t.columns) news)) _ (keys_own (keys_of pool t) [] (map (key_values t.columns) news)) (λ _.
    then_own (unless_not may InvalidInput) _ (unless_own may InvalidInput tt) (λ _.
    then_own (unless_not (nat_le (length t.rows + length news) max_rows) InvalidInput) _ (unless_own (nat_le (length t.rows + length news) max_rows) InvalidInput tt) (λ _.
    then_own (rows_counted pool news) _ (in_turn_own row_counted (λ p ds. in_turn_own counted counted_own p ds) pool news) (λ r. tt))))))

-- ---- uses that are taken back

taken_own : (pool : Pool) (v : ValueRef) → IfErr (taken_back pool v) IsOwn
taken_own pool (cell.Str n) = by ((pool_entry_at pool.places n).count == 0)
  where
    by : (b : Bool) → IfErr {T = Pool} (if b then Err InvalidData else Ok (record pool { places = with_refcount_down n pool.places })) IsOwn
    by true = tt
    by false = tt
taken_own pool cell.Null = tt
taken_own pool (cell.Int z) = tt
taken_own pool cell.Binary = tt

all_taken_own : (pool : Pool) (vs : Row) → IfErr (all_taken_back pool vs) IsOwn
all_taken_own pool [] = tt
all_taken_own pool (v ∷ vs) = then_own (taken_back pool v) (λ p. all_taken_back p vs) (taken_own pool v) (λ p. all_taken_own p vs)

deleted_own : (may : Bool) (pool : Pool) (t : Table) (condition : Option Formula) → IfErr (deleted may pool t condition) IsOwn
deleted_own may pool t condition =
    then_own (unless_not (knows_condition t.columns condition && may) InvalidInput) _ (unless_own (knows_condition t.columns condition && may) InvalidInput tt) (λ _.
    then_own (all_taken_back pool (flat_map (λ row. row) (filter (matches pool t.columns condition) t.rows))) _ (all_taken_own pool (flat_map (λ row. row) (filter (matches pool t.columns condition) t.rows))) (λ p. tt))

cells_own : (columns : List Column) (pool : Pool) (row : Row) (sets : List (List ℕ × Datum)) → IfErr (cells_set columns pool row sets) IsOwn
cells_own columns pool row [] = tt
cells_own columns pool row (s ∷ ss) =
    let place = unwrap_or (column_place columns s.0) 0 in
    then_own (cell_set columns pool row s) (λ r. cells_set columns r.1 r.0 ss)
    (then_own (taken_back pool (unwrap_or (slice_get row place) cell.Null)) _ (taken_own pool (unwrap_or (slice_get row place) cell.Null)) (λ p.
    then_own (counted p s.1) (λ v. Ok (slice_set row place v.0, v.1)) (counted_own p s.1) (λ v. tt)))
    (λ r. cells_own columns r.1 r.0 ss)

row_own : (columns : List Column) (sets : List (List ℕ × Datum)) (pool : Pool) (r : Row × Bool) → IfErr (row_set columns sets pool r) IsOwn
row_own columns sets pool r = by r.1
  where
    by : (b : Bool) → IfErr (if b then cells_set columns pool r.0 sets else Ok (r.0, pool)) IsOwn
    by true = cells_own columns pool r.0 sets
    by false = tt

updated_own : (may : Bool) (pool : Pool) (t : Table) (sets : List (List ℕ × Datum)) (condition : Option Formula) → IfErr (updated may pool t sets condition) IsOwn
updated_own may pool t sets condition =
    let valid = list_all (is_valid_set t.columns) sets && knows_condition t.columns condition && may in
    let distinct = not (sets_key t.columns sets) || are_distinct (keys_after pool t sets condition) in
    then_own (unless_not valid InvalidInput) _ (unless_own valid InvalidInput tt) (λ _.
    then_own (unless_not distinct AlreadyExists) _ (unless_own distinct AlreadyExists tt) (λ _.
    in_turn_own (row_set t.columns sets) (row_own t.columns sets) pool (map (λ row. (row, matches pool t.columns condition row)) t.rows)))

-- ---- of a query

after_own : (q : RowsAsked) (name : List ℕ) (pool : Pool) (t : Table) → IfErr (rows_after q name pool t) IsOwn
after_own (inserting news) name pool t = inserted_own (may_insert name) pool t news
after_own (updating sets condition) name pool t = updated_own (may_update name t.columns sets) pool t sets condition
after_own (deleting condition) name pool t = deleted_own (may_insert name) pool t condition

-- want of memory, or its refusal
pub asked_own : (q : RowsAsked) (name : List ℕ) (pool : Pool) (t : Table) (e : Error) → (e ≡ Memory) ⊎ (rows_after q name pool t ≡ Err e) → IsOwn e
asked_own q name pool t e (inl memory) = subst IsOwn (sym memory) tt
asked_own q name pool t e (inr is) = subst (λ (r : Result (List Row × Pool) Error). IfErr r IsOwn) is (after_own q name pool t)

module _ {F : Type 0} {g : Ghosts F} (a b : Allocator F g) where
  pub own_so : (e : Error) → IsOwn e → IsJustifiedBySectors a b e
  own_so e own = own_cause a b e (λ is. subst IsOwn is own) (λ is. absurd (subst IsOwn is own))
