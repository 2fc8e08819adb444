use Rattle.std.proofs.Common.{◌≡◌, ◌∙◌, map, ap, sym}
use Rattle.std.specs.Prelude.{◌&&◌}
use Rattle.std.specs.List.{list_all}
use Rattle.cfb_entries.specs.Listed.{listed_in}
use Rattle.cfb_entries.specs.Lists.{entries_left}
use Rattle.cfb_tree.specs.CaseTableViews.{case_table_of}
use Rattle.msi_store.specs.Placing.{is_listed_well, is_placed}
use Rattle.msi_store.proofs.placing.are_entries_in_place.Goals as goal

pub loop-entry-init : goal.loop-entry-init
loop-entry-init c headings has =
    ap (λ it. list_all (is_listed_well (case_table_of c.args.letters.now) headings) (map listed_in (entries_left it))) (sym c.into_iter-entry-iterator.ensures.into_iter_gives)

pub loop-entry-preserved : goal.loop-entry-preserved
loop-entry-preserved c headings has =
    let letters = case_table_of c.args.letters.now in
    let one = listed_in c.in-Some.entry in
    let told : c.in_ok-is_in_place.field-0 ≡ is_listed_well letters headings one =
    c.in_ok-is_in_place.ensures.ok headings has ∙ ap (λ n. is_placed letters headings n c.is_storage.result) c.name.ensures ∙ ap (is_placed letters headings one.name) c.is_storage.ensures in
    c.loop-entry.invariant headings has ∙ ap (λ es. list_all (is_listed_well letters headings) (map listed_in es)) c.in-Some.ensures.steps
    ∙ ap (λ b. b && list_all (is_listed_well letters headings) (map listed_in (entries_left c.next.new.self))) (sym told ∙ c.if-not-branch.false)

pub returns-then-not-branch-clause-ok : goal.returns-then-not-branch-clause-ok
returns-then-not-branch-clause-ok c headings has =
    let letters = case_table_of c.args.letters.now in
    let one = listed_in c.in-Some.entry in
    let told : c.in_ok-is_in_place.field-0 ≡ is_listed_well letters headings one =
    c.in_ok-is_in_place.ensures.ok headings has ∙ ap (λ n. is_placed letters headings n c.is_storage.result) c.name.ensures ∙ ap (is_placed letters headings one.name) c.is_storage.ensures in
    sym (c.loop-entry.invariant headings has ∙ ap (λ es. list_all (is_listed_well letters headings) (map listed_in es)) c.in-Some.ensures.steps
    ∙ ap (λ b. b && list_all (is_listed_well letters headings) (map listed_in (entries_left c.next.new.self))) (sym told ∙ c.if-not-branch.true))

pub returns-clause-ok : goal.returns-clause-ok
returns-clause-ok c headings has =
    sym (c.loop-entry.invariant headings has ∙ ap (λ es. list_all (is_listed_well (case_table_of c.args.letters.now) headings) (map listed_in es)) c.in-None.ensures.steps.0)
