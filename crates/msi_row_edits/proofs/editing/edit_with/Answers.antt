use Rattle.std.proofs.Common.{◌∙◌, ap, option_map, refl, sym}
use Rattle.std.specs.Prelude.{bytes_eq, find}
use Rattle.std.specs.Rc.{rc_value}
use Rattle.msi_row_edits.specs.Asked.{asked, rule_of}
use Rattle.msi_parts.proofs.Listed.{found_where}
use Rattle.msi_store.specs.Stores.{file_in}
use Rattle.msi_tables.specs.Held.{heading_of}
use Rattle.cfb.specs.Views.{mini_of}
use Rattle.cfb_mini.specs.Views.{allocator_of}
use Rattle.cfb_medium.specs.declared.error.Error.TheVariants.{NotFound}
use Rattle.msi_row_edits.proofs.Refusals.{own_kind, own_so, unput_not_full}
use Rattle.msi_row_edits.proofs.Exits.{first_cause, first_kind, first_refused, first_unput, none_edits, table_edits, table_fills}
use Rattle.msi_row_edits.proofs.editing.edit_with.Goals as goal

pub returns-in-Err-clause-edits : goal.returns-in-Err-clause-edits
returns-in-Err-clause-edits g c = first_refused (rule_of (asked c.args.query.now) c.args.name.now) c.args.store.now c.args.pool c.in-Err.error c.in-Err.ensures.refused_only_if

pub returns-in-Some-clause-edits : goal.returns-in-Some-clause-edits
returns-in-Some-clause-edits g c =
    let old = c.args.store.now in
    let name = c.args.name.now in
    let h = heading_of (rc_value c.in-Some.table.now) in
    let told = sym (found_where old.tables.items name) ∙ ap (option_map (λ t. heading_of (rc_value t))) (ap (λ ts. find (λ t. bytes_eq (heading_of (rc_value t)).name name) ts) (sym c.deref.ensures.value) ∙ sym c.shared_table.ensures ∙ ap (option_map (λ t. t.now)) c.in-Some.is) in
    table_edits (asked c.args.query.now) name old c.in-Ok.ensures.open (record old { file = c.edit_table.new.file }) h c.args.pool c.edit_table.result.0 told refl c.edit_table.result.1 c.edit_table.ensures.edits

pub returns-in-None-clause-edits : goal.returns-in-None-clause-edits
returns-in-None-clause-edits g c =
    let old = c.args.store.now in
    let name = c.args.name.now in
    let none = sym (found_where old.tables.items name) ∙ ap (option_map (λ t. heading_of (rc_value t))) (ap (λ ts. find (λ t. bytes_eq (heading_of (rc_value t)).name name) ts) (sym c.deref.ensures.value) ∙ sym c.shared_table.ensures ∙ ap (option_map (λ t. t.now)) c.in-None.is) in
    none_edits (asked c.args.query.now) name old c.in-Ok.ensures.open c.args.pool none

pub returns-in-Err-clause-cause : goal.returns-in-Err-clause-cause
returns-in-Err-clause-cause g c = first_cause (file_in c.args.store.now) c.in-Err.error c.in-Err.ensures.refused_only_if

pub returns-in-Err-clause-errors : goal.returns-in-Err-clause-errors
returns-in-Err-clause-errors g c = first_kind (file_in c.args.store.now) c.in-Err.error c.in-Err.ensures.refused_only_if

pub returns-in-None-clause-cause : goal.returns-in-None-clause-cause
returns-in-None-clause-cause g c = own_so (allocator_of (mini_of (file_in c.args.store.now))) (allocator_of (mini_of (file_in c.args.store.now))) NotFound tt

pub returns-in-None-clause-errors : goal.returns-in-None-clause-errors
returns-in-None-clause-errors g c = own_kind NotFound tt

pub returns-in-Err-clause-full_only_if : goal.returns-in-Err-clause-full_only_if
returns-in-Err-clause-full_only_if g c = λ is live tree P m s memory. unput_not_full c.in-Err.error (first_unput (file_in c.args.store.now) c.in-Err.error c.in-Err.ensures.refused_only_if) is

pub returns-in-Some-clause-full_only_if : goal.returns-in-Some-clause-full_only_if
returns-in-Some-clause-full_only_if g c =
    let old = c.args.store.now in
    let name = c.args.name.now in
    let h = heading_of (rc_value c.in-Some.table.now) in
    let told = sym (found_where old.tables.items name) ∙ ap (option_map (λ t. heading_of (rc_value t))) (ap (λ ts. find (λ t. bytes_eq (heading_of (rc_value t)).name name) ts) (sym c.deref.ensures.value) ∙ sym c.shared_table.ensures ∙ ap (option_map (λ t. t.now)) c.in-Some.is) in
    table_fills (asked c.args.query.now) name old c.in-Ok.ensures.open (record old { file = c.edit_table.new.file }) h c.args.pool c.edit_table.result.0 told refl c.edit_table.result.1 c.edit_table.ensures.full_only_if

pub returns-in-None-clause-full_only_if : goal.returns-in-None-clause-full_only_if
returns-in-None-clause-full_only_if g c = λ is live tree P m s memory. unput_not_full NotFound tt is
