use Rattle.std.proofs.Common.{◌≡◌, ◌∙◌, ◌++◌, ap, map}
use Rattle.cfb_entries.specs.Listed.{listed_in}
use Rattle.cfb_entries.specs.Lists.{entries_left}
use Rattle.cfb_tree.specs.CaseTableViews.{case_table_of}
use Rattle.msi_findings.specs.Misplaced.{names_of}
use Rattle.msi_findings.specs.Placing.{misplaced_in}
use Rattle.msi_findings.proofs.Placed.{misplaced_all, misplaced_more}
use Rattle.msi_findings.proofs.objects.among.Goals as goal

pub loop-entry-init : goal.loop-entry-init
loop-entry-init c headings has =
    ap (λ found. names_of found ++ misplaced_in (case_table_of c.args.letters.now) headings (map listed_in (entries_left c.into_iter-entry-iterator.result))) c.new-found.ensures.items
    ∙ ap (λ it. misplaced_in (case_table_of c.args.letters.now) headings (map listed_in (entries_left it))) c.into_iter-entry-iterator.ensures.into_iter_gives

pub loop-entry-preserved : goal.loop-entry-preserved
loop-entry-preserved c headings has =
    misplaced_more (case_table_of c.args.letters.now) headings (names_of c.loop-entry.found.items) (names_of c.note.new.found.items) _ (map listed_in (entries_left c.loop-entry.entry-iterator))
    (map listed_in (entries_left c.next.new.self)) (listed_in c.in-Some.entry) (ap (map listed_in) c.in-Some.ensures.steps) (c.in_ok-note.ensures.ok headings has) (c.loop-entry.invariant headings has)

pub returns-clause-ok : goal.returns-clause-ok
returns-clause-ok c headings has =
    misplaced_all (case_table_of c.args.letters.now) headings (names_of c.loop-entry.found.items) _ (map listed_in (entries_left c.loop-entry.entry-iterator)) (ap (map listed_in) c.in-None.ensures.steps.0) (c.loop-entry.invariant headings has)
