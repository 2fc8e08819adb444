use Rattle.std.proofs.Common.{map, sym, ap, ◌∙◌}
use Rattle.std.specs.Prelude.{Some}
use Rattle.cfb_siblings.proofs.Entries.{found_in, lost_in}
use Rattle.cfb_tree.specs.EntryViews.{entry_in}
use Rattle.cfb_tree.specs.CaseTableViews.{case_table_of}
use Rattle.cfb_entries.proofs.Found.{entry_there, found}
use Rattle.cfb_entries.proofs.Telling.{kind_found}
use Rattle.cfb_entries.proofs.kinds.is_stream_at.Goals as goal

pub returns-in_default : goal.returns-in_default
returns-in_default c = λ tree h. sym (c.in_default.ensures tree h)

pub returns-in_default-get : goal.returns-in_default-get
returns-in_default-get c = λ tree h.
    let (names, named, leads) = c.in-Some.ensures tree h in
    absurd (entry_there (case_table_of c.args.letters.now) (map entry_in c.args.entries.now) tree h names c.in-Some.id leads
    (lost_in c.args.entries.now c.in-Some.id c.in_default-get.ensures.lookup.3))

pub returns : goal.returns
returns c = λ tree h.
    let letters = case_table_of c.args.letters.now in
    let directory = map entry_in c.args.entries.now in
    let e = entry_in c.in-Some-get.entry.now in
    let (names, named, leads) = c.in-Some.ensures tree h in
    let got = c.in-Some-get.ensures.lookup in
    let at = found_in c.args.entries.now c.in-Some.id c.in-Some-get.entry.now got.3.0 got.1 in
    ap Some c.is_stream.ensures ∙ kind_found letters tree directory names c.in-Some.id e at (found letters directory tree h names c.in-Some.id e leads at) c.args.path.now named
