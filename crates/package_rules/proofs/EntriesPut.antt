-- Cells that are put into a set, one after the other.
use Rattle.std.proofs.Common.{◌≡◌, ◌∙◌, Bool, true, false, cond, List, [], ◌∷◌, ◌++◌, sym, refl, ap, ap₂}
use Rattle.std.specs.Prelude.{◌&&◌}
use Rattle.std.specs.BTreeMap.{is_at}
use Rattle.std.specs.BTreeSet.{contains}
use Rattle.std.specs.List.{list_any}
use Rattle.std.specs.Cmp.Lexicographic.{slice_cmp}
use Rattle.std.specs.Ordering.{is_eq, nat_cmp, ordering_then}
use Rattle.std.proofs.lemmas.Map.Lookups.{exact_bytes, exact_unsigned}
use Rattle.package_rules.specs.Asked.{ColumnSet, asks}
use Rattle.package_rules.specs.Firsts.{AreEntries, CellSet, entry_of}
use Rattle.package_rules.specs.Foreign.{Entry, is_entry}
use Rattle.package_rules.specs.Keys.{cell_cmp}
use Rattle.package_rules.specs.Said.{is_same}
use Rattle.package_rules.specs.declared.entries.CellKey.{CellKey}
use Rattle.package_rules.specs.contracts.entries.CellKeyOrd.TheImpl.{ghosts as keys}
use Rattle.package_rules.specs.contracts.parts.PartOrd.TheImpl.{ghosts as parts}
use Rattle.package_rules.proofs.FirstsPut.{both, eq_then, is_equal}
use Rattle.package_rules.proofs.Kept.{any_behind, one_more}
use Rattle.package_rules.proofs.PartOrder.{derived_order}

turned : (a b c : Bool) → (c && (b && a)) ≡ (a && (b && c))
turned true true true = refl
turned true true false = refl
turned true false true = refl
turned true false false = refl
turned false true true = refl
turned false true false = refl
turned false false true = refl
turned false false false = refl

key_is : (key q : CellKey) → is_at (keys.cmp key) q ≡ is_entry (entry_of key) (entry_of q)
key_is key q =
    eq_then (parts.cmp key.cell q.cell) (ordering_then (nat_cmp key.column q.column) (slice_cmp nat_cmp key.table.now q.table.now))
    ∙ ap (λ b. is_eq (parts.cmp key.cell q.cell) && b) (eq_then (nat_cmp key.column q.column) (slice_cmp nat_cmp key.table.now q.table.now))
    ∙ turned (is_same key.table.now q.table.now) (is_eq (nat_cmp key.column q.column)) (is_eq (parts.cmp key.cell q.cell))
    ∙ ap (λ o. is_same key.table.now q.table.now && (is_eq (nat_cmp key.column q.column) && is_eq o)) (derived_order key.cell q.cell)

-- a cell in a column that is asked for
pub put_entry : (a : ColumnSet) (es : List Entry) (old new : CellSet) (key : CellKey) → AreEntries a es old
    → ((q : CellKey) → contains keys.cmp new q ≡ cond (is_at (keys.cmp key) q) true (contains keys.cmp old q)) → AreEntries a (es ++ entry_of key ∷ []) new
put_entry a es old new key are put q asked =
    put q ∙ ap₂ (λ b c. cond b true c) (key_is key q) (are q asked) ∙ sym (any_behind (λ e. is_entry e (entry_of q)) es (entry_of key))

-- one in a column that isn't
pub pass_entry : (a : ColumnSet) (es : List Entry) (s : CellSet) (e : Entry) → AreEntries a es s → asks a e.table e.column ≡ false → AreEntries a (es ++ e ∷ []) s
pass_entry a es s e are none q asked =
    are q asked
    ∙ sym (any_behind (λ x. is_entry x (entry_of q)) es e ∙ ap (λ b. cond b true (list_any (λ x. is_entry x (entry_of q)) es)) (other (is_entry e (entry_of q)) refl))
  where
    other : (b : Bool) → is_entry e (entry_of q) ≡ b → is_entry e (entry_of q) ≡ false
    other false is = is
    other true is =
        let parts = both (is_same e.table q.table.now) (is_eq (nat_cmp e.column q.column) && is_eq (cell_cmp e.cell (entry_of q).cell)) is in
        let rest = both (is_eq (nat_cmp e.column q.column)) (is_eq (cell_cmp e.cell (entry_of q).cell)) parts.1 in
        let table : e.table ≡ q.table.now = exact_bytes e.table q.table.now (is_equal _ parts.0) in
        let column : e.column ≡ q.column = exact_unsigned e.column q.column (is_equal _ rest.0) in
        absurd (cc (sym none ∙ ap₂ (asks a) table column ∙ asked))
