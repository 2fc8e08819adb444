use Rattle.std.proofs.Common.{◌∙◌, ap, chars, string_bytes}
use Rattle.cfb_tree.specs.EntryViews.{entry_in}
use Rattle.cfb_tree.specs.CaseTableViews.{case_table_of}
use Rattle.cfb_tree.specs.Names.{name_cmp}
use Rattle.cfb_siblings.proofs.Entries.{found_in}
use Rattle.cfb_directory.specs.Entries.{entries_in}
use Rattle.cfb_directory.proofs.Judging.{precedes_is}
use Rattle.cfb_directory.proofs.walk.precedes.Goals as goal

pub returns-clause-order : goal.returns-clause-order
returns-clause-order c =
    let first = c.in-Some.ensures.lookup in
    let second = c.in-Some-get.ensures.lookup in
    let found = found_in c.args.entries.now c.args.one c.in-Some.first.now first.3.0 first.1 in
    let found_too = found_in c.args.entries.now c.args.other c.in-Some-get.second.now second.3.0 second.1 in
    let named = rw c.in-Some-2.is at c.in_ok-first.ensures.some in
    let named_too = rw c.in-Some-3.is at c.in_ok-second.ensures.some in
    precedes_is (case_table_of c.args.letters.now) (entries_in c.args.entries.now) c.args.one c.args.other (entry_in c.in-Some.first.now) (entry_in c.in-Some-get.second.now)
    (chars (string_bytes c.in-Some-2.first)) (chars (string_bytes c.in-Some-3.second)) c.compare_names.result c.eq.result found found_too named named_too
    (c.compare_names.ensures ∙ ap (λ n. name_cmp (case_table_of c.args.letters.now) (chars n) (chars c.deref-2.result.now)) c.deref.ensures
    ∙ ap (λ n. name_cmp (case_table_of c.args.letters.now) (chars (string_bytes c.in-Some-2.first)) (chars n)) c.deref-2.ensures)
    c.eq.ensures
