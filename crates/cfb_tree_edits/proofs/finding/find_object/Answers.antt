use Rattle.std.proofs.Common.{refl, sym, ap, ◌∙◌, map, inr}
use Rattle.cfb_siblings.proofs.Entries.{lost_in}
use Rattle.cfb_siblings.specs.Places.{path_of}
use Rattle.cfb_siblings.specs.Reading.{ReadBy}
use Rattle.cfb_tree.specs.EntryViews.{entry_in}
use Rattle.cfb_tree.specs.CaseTableViews.{case_table_of}
use Rattle.cfb_tree.specs.Objects.{object_at}
use Rattle.cfb_entries.proofs.Found.{names_are}
use Rattle.cfb_tree_edits.proofs.Objects.{object_there}
use Rattle.cfb_tree_edits.proofs.finding.find_object.Goals as goal

pub returns-in_default-clause-refused_only_if : goal.returns-in_default-clause-refused_only_if
returns-in_default-clause-refused_only_if c = λ reads tree h.
    let names = c.in-Ok.names.items in
    inr (inr (
      refl,
      path_of names,
      names_are c.args.path.now names c.in-Ok.ensures.names,
      ap (λ ns. object_at (case_table_of c.args.letters.now) tree (path_of ns)) (sym c.deref.ensures.value) ∙ c.in_default.ensures reads tree h,
    ))

pub returns-then-id-entries-clause-refused_only_if : goal.returns-then-id-entries-clause-refused_only_if
returns-then-id-entries-clause-refused_only_if c = λ reads tree h.
    let at = c.in-Some.ensures reads tree h in
    absurd (object_there (ReadBy reads) (case_table_of c.args.letters.now) (map entry_in c.args.entries.now) tree h _ c.in-Some.id at (lost_in c.args.entries.now c.in-Some.id c.if-id-entries.true))

pub returns-clause-found : goal.returns-clause-found
returns-clause-found c = λ reads tree h.
    let names = c.in-Ok.names.items in (
      path_of names,
      names_are c.args.path.now names c.in-Ok.ensures.names,
      rw (sym c.deref.ensures.value) (c.in-Some.ensures reads tree h),
    )
