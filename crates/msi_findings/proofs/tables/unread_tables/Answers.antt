use Rattle.std.proofs.Common.{◌≡◌, ◌∙◌, ◌+◌, ◌++◌, ◌∷◌, [], drop, ap, sym}
use Rattle.std.proofs.Math.ListN.{drop_of_length-le}
use Rattle.std.proofs.lemmas.List.{drop_more}
use Rattle.std.specs.Rc.{rc_value}
use Rattle.cfb.specs.Views.{file_case_table}
use Rattle.msi_findings.proofs.Unread.{unread_all, unread_more}
use Rattle.msi_findings.proofs.tables.unread_tables.Goals as goal
use Rattle.msi_findings.specs.Findings.{unread}
use Rattle.msi_schema.specs.Headings.{headings_in}
use Rattle.msi_stored.proofs.Later.{later}
use Rattle.msi_stored.proofs.StoredLaws.{file_then}
use Rattle.msi_tables.specs.Held.{heading_of}

pub loop-table-preserved : goal.loop-table-preserved
loop-table-preserved g c = record {
  rests = file_then c.args.file.now c.loop-table.file c.note.new.file c.loop-table.invariant.rests c.in-Ok.ensures.only_reads;
  found = λ tree held.
      let tables = c.args.tables.now in
      let i = c.loop-table.table-index in
      let item = c.table-item.result in
      let old = headings_in c.loop-table.found.items in
      let new = headings_in c.note.new.found.items in
      let hs = headings_in (drop (i + 1) tables) in
      let more : headings_in (drop i tables) ≡ heading_of (rc_value item) ∷ hs =
      ap headings_in (drop_more tables i item c.loop-table-test.true ∙ ap (λ t. t ∷ drop (i + 1) tables) (sym c.table-item.is)) in
      unread_more (file_case_table c.args.file.now) tree old new (unread (file_case_table c.args.file.now) tree (headings_in tables)) (headings_in (drop i tables)) hs (heading_of (rc_value item)) more
      (later c.args.file.now c.loop-table.file (λ n t. new ≡ old ++ unread n t (headings_in (item ∷ []))) c.loop-table.invariant.rests c.in-Ok.ensures.answer tree held)
      (c.loop-table.invariant.found tree held);
}

pub returns-clause-answer : goal.returns-clause-answer
returns-clause-answer g c tree held =
    let tables = c.args.tables.now in
    let none : headings_in (drop c.loop-table.table-index tables) ≡ [] = ap headings_in (drop_of_length-le tables c.loop-table-test.false) in
    unread_all (file_case_table c.args.file.now) tree (headings_in c.loop-table.found.items) (unread (file_case_table c.args.file.now) tree (headings_in tables)) (headings_in (drop c.loop-table.table-index tables)) none
    (c.loop-table.invariant.found tree held)
