use Rattle.std.proofs.Common.{◌≡◌, ◌∙◌, ap, false, refl, sym, true}
use Rattle.std.specs.Rc.{rc_value}
use Rattle.msi_tables.specs.Held.{heading_of}
use Rattle.msi_tables.specs.Table.{Heading}
use Rattle.msi_table_edits.specs.Describing.{rows_of_values}
use Rattle.msi_table_edits.proofs.ListedSo.{room_so}
use Rattle.msi_table_edits.proofs.RowsChecked.{one_of, rows_tested}
use Rattle.msi_table_edits.proofs.ValidatedFrom.{listed_fit, name_fits}
use Rattle.msi_table_edits.proofs.listing.check_listing.Goals as goal

pub returns-then-not-has_room-clause-answer : goal.returns-then-not-has_room-clause-answer
returns-then-not-has_room-clause-answer c = λ P same a r.
    let y = c.args.listing.now in
    (refl, sym (room_so P y.columns_rows.items y.tables_rows.items a.columns_rows a.tables_rows) ∙ sym c.has_room.ensures ∙ c.if-not-has_room.true)

pub returns-then-not-are_rows-clause-answer : goal.returns-then-not-are_rows-clause-answer
returns-then-not-are_rows-clause-answer c = λ P same a r.
    let test = sym (rows_tested c.columns.result.now c.deref-2.result.now _ _ (c.columns.ensures ∙ ap (λ t. (heading_of t).columns) c.deref.ensures ∙ ap (λ (h : Heading). h.columns) a.columns) (ap rows_of_values c.deref-2.ensures.value ∙ r.columns_said)) ∙ sym c.are_rows.ensures ∙ c.if-not-are_rows.true in
    let never : true ≡ false = sym listed_fit ∙ test in
    absurd (cc)

pub returns-then-not-are_rows-2-clause-answer : goal.returns-then-not-are_rows-2-clause-answer
returns-then-not-are_rows-2-clause-answer c = λ P same a r.
    let test = sym (one_of _) ∙ sym (rows_tested c.columns-2.result.now c.deref-4.result.now _ _ (c.columns-2.ensures ∙ ap (λ t. (heading_of t).columns) c.deref-3.ensures ∙ ap (λ (h : Heading). h.columns) a.tables) (ap rows_of_values c.deref-4.ensures.value ∙ r.tables_said)) ∙ sym c.are_rows-2.ensures ∙ c.if-not-are_rows-2.true in
    let never : true ≡ false = sym name_fits ∙ test in
    absurd (cc)

pub returns-then-not-are_wide-clause-answer : goal.returns-then-not-are_wide-clause-answer
returns-then-not-are_wide-clause-answer c = λ P same a r.
    let wide : (h : Heading) → h.long ≡ P.pool.long → h.long ≡ c.long_string_refs.result = λ h is. is ∙ ap (λ p. p.long) (sym same) ∙ sym c.long_string_refs.ensures in
    absurd (c.are_wide.ensures.other c.if-not-are_wide.true (wide (heading_of (rc_value c.args.listing.now.columns)) (ap (λ (h : Heading). h.long) a.columns)) (wide (heading_of (rc_value c.args.listing.now.tables)) (ap (λ (h : Heading). h.long) a.tables)))

pub returns-clause-answer : goal.returns-clause-answer
returns-clause-answer c = λ P same a r.
    let y = c.args.listing.now in
    sym (room_so P y.columns_rows.items y.tables_rows.items a.columns_rows a.tables_rows) ∙ sym c.has_room.ensures ∙ c.if-not-has_room.false

pub returns-clause-taken : goal.returns-clause-taken
returns-clause-taken c =
    let wide = c.are_wide.ensures.so c.if-not-are_wide.false in
    let long = c.long_string_refs.ensures in
    record {
      columns = sym (rows_tested c.columns.result.now c.deref-2.result.now _ _ (c.columns.ensures ∙ ap (λ t. (heading_of t).columns) c.deref.ensures) (ap rows_of_values c.deref-2.ensures.value)) ∙ sym c.are_rows.ensures ∙ c.if-not-are_rows.false;
      tables = sym (rows_tested c.columns-2.result.now c.deref-4.result.now _ _ (c.columns-2.ensures ∙ ap (λ t. (heading_of t).columns) c.deref-3.ensures) (ap rows_of_values c.deref-4.ensures.value)) ∙ sym c.are_rows-2.ensures ∙ c.if-not-are_rows-2.false;
      columns_wide = wide.0 ∙ long;
      tables_wide = wide.1 ∙ long;
    }
