use Rattle.std.proofs.Common.{refl, sym, ◌∙◌, ap, map, inr}
use Rattle.cfb_siblings.proofs.Entries.{found_in, lost_in}
use Rattle.cfb_siblings.specs.Places.{path_of}
use Rattle.cfb_tree.specs.EntryViews.{entry_in}
use Rattle.cfb_tree.specs.CaseTableViews.{case_table_of}
use Rattle.cfb_tree.specs.Objects.{object_at}
use Rattle.cfb_entries.proofs.Found.{entry_there, sizes_read, has_size, names_are}
use Rattle.cfb_entries.proofs.finding.find_by_path.Goals as goal

pub returns-in_default-clause-refused_only_if : goal.returns-in_default-clause-refused_only_if
returns-in_default-clause-refused_only_if c = λ tree h.
    let names = c.in-Ok.names.items in
    inr (inr (
      refl,
      path_of names,
      names_are c.args.path.now names c.in-Ok.ensures.names,
      ap (λ ns. object_at (case_table_of c.args.letters.now) tree (path_of ns)) (sym c.deref.ensures.value)
          ∙ c.in_default.ensures has_size tree (sizes_read (case_table_of c.args.letters.now) (map entry_in c.args.entries.now) tree h),
    ))

pub returns-in_default-get-clause-refused_only_if : goal.returns-in_default-get-clause-refused_only_if
returns-in_default-get-clause-refused_only_if c = λ tree h.
    let at = c.in-Some.ensures has_size tree (sizes_read (case_table_of c.args.letters.now) (map entry_in c.args.entries.now) tree h) in
    absurd (entry_there (case_table_of c.args.letters.now) (map entry_in c.args.entries.now) tree h _ c.in-Some.id at.leads
    (lost_in c.args.entries.now c.in-Some.id c.in_default-get.ensures.lookup.3))

pub returns-clause-found : goal.returns-clause-found
returns-clause-found c = λ tree h.
    let names = c.in-Ok.names.items in
    let at = c.in-Some.ensures has_size tree (sizes_read (case_table_of c.args.letters.now) (map entry_in c.args.entries.now) tree h) in
    let got = c.in-Some-get.ensures.lookup in (
      names_are c.args.path.now names c.in-Ok.ensures.names,
      c.in-Some.id,
      rw (sym c.deref.ensures.value) at.leads,
      found_in c.args.entries.now c.in-Some.id c.in-Some-get.entry.now got.3.0 got.1,
    )
