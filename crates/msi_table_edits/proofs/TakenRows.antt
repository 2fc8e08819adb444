-- Rows whose uses are taken back, one part after the other, and rows that come back from their bytes.
use Rattle.std.proofs.Common.{◌≡◌, ◌∙◌, ◌⊎◌, ℕ, ◌+◌, ◌<◌, Bool, true, false, List, [], ◌∷◌, ◌++◌, drop, get_or, length, refl, sym, ap, subst, arith, inl, inr, ⊎_elim, Some, Vec, Result, Ok, Err}
use Rattle.std.specs.Prelude.{◌==◌, filter, if◌then◌else◌, not, unwrap_or, IfErr, IsTrue, MatchResult}
use Rattle.std.proofs.lemmas.Grind.{flat_map-append}
use Rattle.std.proofs.lemmas.List.{drop_more}
use Rattle.std.proofs.lemmas.List.Elements.{All-filter}
use Rattle.std.proofs.lemmas.List.Filters.{length-filter_both}
use Rattle.std.specs.declared.alloc.Global.{Global}
use Rattle.cfb_medium.specs.Calls.{IsFaultOrInvalidInputIf}
use Rattle.cfb_medium.specs.declared.error.Error.{Error}
use Rattle.cfb_medium.specs.declared.error.Error.TheVariants.{InvalidData, Memory}
use Rattle.msi_changes.specs.Applied.{left_of}
use Rattle.msi_changes.specs.Changes.{all_taken_back, taken_back}
use Rattle.msi_changes.proofs.Deleting.{all_taken_back-append}
pub use Rattle.msi_changes.proofs.Deleting.{at_first, done, kept}
use Rattle.msi_columns.specs.Column.{Column}
use Rattle.msi_row_edits.proofs.Refusals.{IsOwn}
use Rattle.msi_spec.specs.Calls.{speaks_of}
use Rattle.msi_spec.proofs.StoredBack.{come_back}
use Rattle.msi_changes.specs.Prepared.{AreChangesFor}
use Rattle.msi_pool.specs.Pool.{pool_entry_at, with_refcount_down, PoolEntry, Pool}
use Rattle.msi_pool.specs.PoolDraft.{adopted, AreChangesOver}
use Rattle.msi_pool.specs.PoolState.{PoolState}
use Rattle.msi_pool.specs.declared.draft.PoolChanges.{PoolChanges}
use Rattle.msi_pool.specs.declared.stringref.ValueRef.{ValueRef}
use Rattle.msi_pool.specs.declared.stringref.ValueRef.TheVariants as cell
use Rattle.msi_tables.specs.Held.{rows_held}
use Rattle.msi_tables.specs.Rows.{can_write, kinds_of, rows_of, Row}
use Rattle.msi_tables.specs.Table.{Heading}
use Rattle.msi_tables.proofs.Writable.{stored_rows_move}
use Rattle.msi_texts.specs.Results.{◌>>=◌, ReturnsOrOutOfMemory}
use Rattle.msi_table_edits.specs.Remains.{CanLay, IsLaid, LeavesBytes, RefcountsReleased}
use Rattle.msi_table_edits.proofs.TakenUses.{cells_in}

-- ---- in parts

both_taken : (p : Pool) (xs ys : List Row) → all_taken_back p (cells_in (xs ++ ys)) ≡ (all_taken_back p (cells_in xs) >>= λ q. all_taken_back q (cells_in ys))
both_taken p xs ys = ap (all_taken_back p) (flat_map-append (λ row. row) xs ys) ∙ all_taken_back-append p (cells_in xs) (cells_in ys)

then_taken : (p q : Pool) (xs ys : List Row) → all_taken_back p (cells_in xs) ≡ Ok q → all_taken_back p (cells_in (xs ++ ys)) ≡ all_taken_back q (cells_in ys)
then_taken p q xs ys is = both_taken p xs ys ∙ ap (λ r. r >>= λ q. all_taken_back q (cells_in ys)) is

none_taken : (p : Pool) (xs ys : List Row) (e : Error) → all_taken_back p (cells_in xs) ≡ Err e → all_taken_back p (cells_in (xs ++ ys)) ≡ Err e
none_taken p xs ys e is = both_taken p xs ys ∙ ap (λ r. r >>= λ q. all_taken_back q (cells_in ys)) is

-- a refusal of one of four parts is one of all, and all are taken back where each is
module _ (p : Pool) (r v c t : List Row) (e : Error) where
  abbrev Refused : Type 0
  Refused = IsFaultOrInvalidInputIf ⊥ e ⊎ (all_taken_back p (cells_in (r ++ v ++ c ++ t)) ≡ Err e)

  pub refused_first : IsFaultOrInvalidInputIf ⊥ e ⊎ (all_taken_back p (cells_in r) ≡ Err e) → Refused
  refused_first (inl fault) = inl fault
  refused_first (inr is) = inr (none_taken p (r ++ v ++ c) t e (none_taken p (r ++ v) c e (none_taken p r v e is)))

  module _ (a : Pool) (one : all_taken_back p (cells_in r) ≡ Ok a) where
    pub refused_second : IsFaultOrInvalidInputIf ⊥ e ⊎ (all_taken_back a (cells_in v) ≡ Err e) → Refused
    refused_second (inl fault) = inl fault
    refused_second (inr is) = inr (none_taken p (r ++ v ++ c) t e (none_taken p (r ++ v) c e (then_taken p a r v one ∙ is)))

    module _ (b : Pool) (two : all_taken_back a (cells_in v) ≡ Ok b) where
      pub refused_third : IsFaultOrInvalidInputIf ⊥ e ⊎ (all_taken_back b (cells_in c) ≡ Err e) → Refused
      refused_third (inl fault) = inl fault
      refused_third (inr is) = inr (none_taken p (r ++ v ++ c) t e (then_taken p b (r ++ v) c (then_taken p a r v one ∙ two) ∙ is))

      pub refused_last : (d : Pool) → all_taken_back b (cells_in c) ≡ Ok d → IsFaultOrInvalidInputIf ⊥ e ⊎ (all_taken_back d (cells_in t) ≡ Err e) → Refused
      refused_last d three (inl fault) = inl fault
      refused_last d three (inr is) = inr (then_taken p d (r ++ v ++ c) t (then_taken p b (r ++ v) c (then_taken p a r v one ∙ two) ∙ three) ∙ is)

pub all_taken : (p a b d q : Pool) (r v c t : List Row) → all_taken_back p (cells_in r) ≡ Ok a → all_taken_back a (cells_in v) ≡ Ok b → all_taken_back b (cells_in c) ≡ Ok d → all_taken_back d (cells_in t) ≡ Ok q
    → all_taken_back p (cells_in (r ++ v ++ c ++ t)) ≡ Ok q
all_taken p a b d q r v c t one two three four = then_taken p d (r ++ v ++ c) t (then_taken p b (r ++ v) c (then_taken p a r v one ∙ two) ∙ three) ∙ four

-- a row of a list as it is kept
module _ (p q : Pool) (rows : List (Vec ValueRef Global)) (i : ℕ) (row : Vec ValueRef Global) (within : i < length rows) (is : row ≡ get_or rows i row) (cells : Row) (same : cells ≡ row.items) where
  here : rows_held (drop i rows) ≡ row.items ∷ rows_held (drop (i + 1) rows)
  here = ap rows_held (drop_more rows i row within ∙ ap (λ r. r ∷ drop (i + 1) rows) (sym is))

  split : all_taken_back p (cells_in (rows_held (drop i rows))) ≡ (all_taken_back p cells >>= λ q. all_taken_back q (cells_in (rows_held (drop (i + 1) rows))))
  split =
      ap (λ rs. all_taken_back p (cells_in rs)) here ∙ all_taken_back-append p row.items (cells_in (rows_held (drop (i + 1) rows)))
      ∙ ap (λ cs. all_taken_back p cs >>= λ q. all_taken_back q (cells_in (rows_held (drop (i + 1) rows)))) (sym same)

  pub row_taken : all_taken_back p cells ≡ Ok q → all_taken_back p (cells_in (rows_held (drop i rows))) ≡ all_taken_back q (cells_in (rows_held (drop (i + 1) rows)))
  row_taken taken = split ∙ ap (λ r. r >>= λ q. all_taken_back q (cells_in (rows_held (drop (i + 1) rows)))) taken

  pub row_refused : (e : Error) → all_taken_back p cells ≡ Err e → all_taken_back p (cells_in (rows_held (drop i rows))) ≡ Err e
  row_refused e taken = split ∙ ap (λ r. r >>= λ q. all_taken_back q (cells_in (rows_held (drop (i + 1) rows)))) taken

-- ---- what was left, and its refusals

module _ (matching : Row → Bool) (p : Pool) (rows : List Row) where
  pub left_is : (left : List Row) (q : Pool) → left_of matching p rows ≡ Ok (left, q)
      → (left ≡ filter (λ row. not (matching row)) rows) × (all_taken_back p (cells_in (filter matching rows)) ≡ Ok q)
  left_is left q is = by (all_taken_back p (cells_in (filter matching rows))) refl is
    where
      first : Result (List Row × Pool) Error → List Row
      first (Ok r) = r.0
      first (Err e) = left

      second : Result (List Row × Pool) Error → Pool
      second (Ok r) = r.1
      second (Err e) = q

      by : (r : Result Pool Error) → all_taken_back p (cells_in (filter matching rows)) ≡ r → ◌>>=◌ {B = List Row × Pool} r (λ p. Ok (filter (λ row. not (matching row)) rows, p)) ≡ Ok (left, q)
          → (left ≡ filter (λ row. not (matching row)) rows) × (all_taken_back p (cells_in (filter matching rows)) ≡ Ok q)
      by (Ok x) back told = (sym (ap first told), back ∙ ap (λ y. Ok y) (ap second told))
      by (Err e) back told = absurd (cc)

  pub left_refused : (e : Error) → left_of matching p rows ≡ Err e → all_taken_back p (cells_in (filter matching rows)) ≡ Err e
  left_refused e is = by (all_taken_back p (cells_in (filter matching rows))) refl is
    where
      by : (r : Result Pool Error) → all_taken_back p (cells_in (filter matching rows)) ≡ r → ◌>>=◌ {B = List Row × Pool} r (λ p. Ok (filter (λ row. not (matching row)) rows, p)) ≡ Err e
          → all_taken_back p (cells_in (filter matching rows)) ≡ Err e
      by (Ok x) back told = absurd (cc)
      by (Err f) back told = let same : f ≡ e = cc in back ∙ ap (λ k. Err k) same

cell_own : (p : Pool) (v : ValueRef) → IfErr (taken_back p v) IsOwn
cell_own p (cell.Str n) = on ((pool_entry_at p.places n).count == 0)
  where
    on : (b : Bool) → IfErr {T = Pool} (if b then Err InvalidData else Ok (record p { places = with_refcount_down n p.places })) IsOwn
    on true = tt
    on false = tt
cell_own p cell.Null = tt
cell_own p (cell.Int z) = tt
cell_own p cell.Binary = tt

cells_own : (p : Pool) (cells : Row) → IfErr (all_taken_back p cells) IsOwn
cells_own p [] = tt
cells_own p (v ∷ vs) = on (taken_back p v) (cell_own p v) (λ q. cells_own q vs)
  where
    on : (r : Result Pool Error) → IfErr r IsOwn → ((q : Pool) → IfErr (all_taken_back q vs) IsOwn) → IfErr (r >>= λ q. all_taken_back q vs) IsOwn
    on (Ok q) own rest = rest q
    on (Err e) own rest = own

-- want of memory, or a use that isn't there
pub taken_own : (p : Pool) (cells : Row) (e : Error) → (e ≡ Memory) ⊎ (all_taken_back p cells ≡ Err e) → IsOwn e
taken_own p cells e (inl memory) = subst IsOwn (sym memory) tt
taken_own p cells e (inr is) = subst (λ (r : Result Pool Error). IfErr r IsOwn) is (cells_own p cells)

-- ---- fewer rows can be stored where all can, and are read again

pub fewer_laid : (keep : Row → Bool) (long : Bool) (columns : List Column) (rows : List Row) → CanLay long columns rows → CanLay long columns (filter keep rows)
fewer_laid keep long columns rows can = record {
  few = (let parts = length-filter_both keep (λ row. not (keep row)) (λ row. refl) rows in let most = can.few in omega (arith, parts, most));
  writable = record {
    cells = All-filter keep (λ row. length row ≡ length columns) rows can.writable.cells;
    numbers = All-filter keep (λ row. IsTrue (can_write long (kinds_of columns) row)) rows can.writable.numbers;
  };
}

pub laid_back : (long : Bool) (columns : List Column) (rows : List Row) (bytes : List ℕ) → 0 < length columns → (l : IsLaid long columns rows bytes) → rows_of long (kinds_of columns) bytes ≡ Some l.stored
laid_back long columns rows bytes some l =
    let back = come_back long columns rows l.stored (stored_rows_move columns rows l.stored l.is_stored) (record { columns_there = some; few = l.can.few; writable = l.can.writable; places = l.places }) in
    let same : back.bytes ≡ bytes = ap (λ o. unwrap_or o []) (sym back.written ∙ l.written) in
    subst (λ (b : List ℕ). rows_of long (kinds_of columns) b ≡ Some l.stored) same back.read

-- ---- what calls told, by the rows that were read

answers_own : {T : Type 0} (before after : Pool) (cells : Row) (r : Result T Error) → ReturnsOrOutOfMemory (λ _. after) r (all_taken_back before cells) → IfErr r IsOwn
answers_own before after cells (Ok x) told = tt
answers_own before after cells (Err e) told = taken_own before cells e told

pub takes_own : {T : Type 0} (before after : Pool) (rows : List Row) (r : Result T Error) → ReturnsOrOutOfMemory (λ _. after) r (all_taken_back before (cells_in rows)) → IfErr r IsOwn
takes_own before after rows r told = answers_own before after (cells_in rows) r told

pub takes_so : {T : Type 0} (before after : Pool) (read rows : List Row) (r : Result T Error) → read ≡ rows → ReturnsOrOutOfMemory (λ _. after) r (all_taken_back before (cells_in read)) → RefcountsReleased rows before after r
takes_so before after read rows (Ok x) same told = ap (λ rs. all_taken_back before (cells_in rs)) (sym same) ∙ told
takes_so before after read rows (Err e) same told = ⊎_elim (λ memory. inl (subst (IsFaultOrInvalidInputIf ⊥) (sym memory) tt)) (λ is. inr (ap (λ rs. all_taken_back before (cells_in rs)) (sym same) ∙ is)) told

-- a refusal of rows that are left
pub left_own : (matching : Row → Bool) (p : Pool) (rows : List Row) (e : Error) → (e ≡ Memory) ⊎ (left_of matching p rows ≡ Err e) → IsOwn e
left_own matching p rows e (inl memory) = subst IsOwn (sym memory) tt
left_own matching p rows e (inr is) = taken_own p (cells_in (filter matching rows)) e (inr (left_refused matching p rows e is))

module _ (pool : Pool) (name : List ℕ) (h : Heading) (before after : Pool) (read rows : List Row) (same : read ≡ rows) where
  abbrev speaks : Row → Bool
  speaks = speaks_of pool name

  pub unleft : (e : Error) → (e ≡ Memory) ⊎ (left_of speaks before read ≡ Err e) → IsFaultOrInvalidInputIf ⊥ e ⊎ (all_taken_back before (cells_in (filter speaks rows)) ≡ Err e)
  unleft e (inl memory) = inl (subst (IsFaultOrInvalidInputIf ⊥) (sym memory) tt)
  unleft e (inr is) = inr (subst (λ rs. all_taken_back before (cells_in (filter speaks rs)) ≡ Err e) same (left_refused speaks before read e is))

  pub leaves_so : (left : List Row) → left_of speaks before read ≡ Ok (left, after) → (r : Result (Vec ℕ Global) Error) → MatchResult r (λ bytes. IsLaid h.long h.columns left bytes.items) (λ e. e ≡ Memory)
      → LeavesBytes pool name h rows before after r
  leaves_so left is (Ok bytes) laid =
      let parts = left_is speaks before read left after is in
      subst (λ rs. LeavesBytes pool name h rs before after (Ok bytes)) same (parts.1, subst (λ rs. IsLaid h.long h.columns rs bytes.items) parts.0 laid)
  leaves_so left is (Err e) memory = inl (subst (IsFaultOrInvalidInputIf ⊥) (sym memory) tt)

pub left_laid : (speaks : Row → Bool) (before after : Pool) (long : Bool) (columns : List Column) (read left : List Row) → left_of speaks before read ≡ Ok (left, after) → CanLay long columns read → CanLay long columns left
left_laid speaks before after long columns read left is can =
    subst (CanLay long columns) (sym (left_is speaks before read left after is).0) (fewer_laid (λ row. not (speaks row)) long columns read can)

pub laid_own : {T : Type 0} (Has : T → Type 0) (r : Result T Error) → MatchResult r Has (λ e. e ≡ Memory) → IfErr r IsOwn
laid_own Has (Ok x) told = tt
laid_own Has (Err e) memory = subst IsOwn (sym memory) tt

-- ---- what a draft changed, after four steps that mark it where they change it

still : (a b : PoolState) → (b.modified ≡ false → b ≡ a) → (before : PoolState) → (a.modified ≡ false → a ≡ before) → b.modified ≡ false → b ≡ before
still a b marked before same flag = let step = marked flag in step ∙ same (ap (λ (s : PoolState). s.modified) (sym step) ∙ flag)

pub changes_for : (state a b c d e : PoolState) (under : List PoolEntry) (changes : PoolChanges) → a ≡ state → (b.modified ≡ false → b ≡ a) → (c.modified ≡ false → c ≡ b) → (d.modified ≡ false → d ≡ c) → (e.modified ≡ false → e ≡ d)
    → under ≡ state.pool.places → AreChangesOver under changes → adopted under changes ≡ e → AreChangesFor state changes
changes_for state a b c d e under changes start one two three four unders over is =
    let now : adopted state.pool.places changes ≡ e = ap (λ u. adopted u changes) (sym unders) ∙ is in
    let kept : e.modified ≡ false → e ≡ state = still d e four state (still c d three state (still b c two state (still a b one state (λ flag. start)))) in
    record {
      over = subst (λ u. AreChangesOver u changes) unders over;
      marked = λ flag. now ∙ kept (ap (λ (s : PoolState). s.modified) (sym now) ∙ flag);
    }
