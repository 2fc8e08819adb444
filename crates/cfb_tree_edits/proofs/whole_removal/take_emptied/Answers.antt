use Rattle.std.proofs.Common.{◌≡◌, ◌<◌, arith, length, refl, ap, sym, subst, ◌∙◌}
use Rattle.cfb_directory.specs.Entries.{entries_in}
use Rattle.cfb_directory.specs.Views.{entries_held}
use Rattle.cfb_mini.specs.Views.{directory_of}
use Rattle.cfb_siblings.specs.Places.{path_of}
use Rattle.cfb_siblings.specs.Reading.{ReadBy}
use Rattle.cfb_tree.specs.Changes.{last_of, parent_of, removed}
use Rattle.cfb_tree.specs.CaseTableViews.{case_table_of}
use Rattle.cfb_tree.specs.Objects.{EntriesHoldTree}
use Rattle.cfb_tree_edits.specs.WholeRemoval.{HasEmptyStorage}
use Rattle.cfb_tree_edits.specs.Live.{live_of}
use Rattle.cfb_tree_edits.specs.Orphans.{FileBecomesTree}
use Rattle.cfb_tree_edits.specs.Removing.{IsChildAt}
use Rattle.cfb_tree_edits.proofs.Below.{emptied_root}
use Rattle.cfb_tree_edits.proofs.Emptied.{emptied_leaf, emptied_there}
use Rattle.cfb_tree_edits.proofs.NewPlaces.{length-path}
use Rattle.cfb_tree_edits.proofs.SetFacts.{means_held}
use Rattle.cfb_tree_edits.proofs.Strays.{strays_same}
use Rattle.cfb_tree_edits.proofs.Streams.{reads}
use Rattle.cfb_tree_edits.proofs.whole_removal.take_emptied.Goals as goal
use Rattle.cfb_entries.proofs.Others.{path_is}
use Rattle.cfb_entries.proofs.Telling.{no_names}

pub returns-then-is_empty-clause-taken : goal.returns-then-is_empty-clause-taken
returns-then-is_empty-clause-taken g c = λ tree m empty.
    let it = c.args.mini.now in
    let l = case_table_of c.args.letters.now in
    let none : length c.args.names.now ≡ 0 = grind (arith, c.is_empty.ensures, c.if-is_empty.true) in
    let root = no_names c.args.names.now none in
    subst (λ p. HasEmptyStorage l tree p → FileBecomesTree l it it m.who (removed l p tree)) (sym root) (λ at. subst (FileBecomesTree l it it m.who) (emptied_root l tree tree refl at) (record { means = m; strays = strays_same it m.who })) empty

pub returns-in_default-clause-refused_only_if : goal.returns-in_default-clause-refused_only_if
returns-in_default-clause-refused_only_if g c = λ wrong tree m empty.
    let it = c.args.mini.now in
    let l = case_table_of c.args.letters.now in
    let Reads = reads (live_of it) m.who in
    let path = path_of c.args.names.now in
    let directory = entries_held (directory_of it) in
    let same : entries_in c.dir_entries.result.now ≡ directory = c.dir_entries.ensures ∙ ap entries_held c.directory-2.ensures in
    let held = subst (λ es. EntriesHoldTree l (ReadBy Reads) es tree) (sym same) (means_held l it tree m) in
    let some : 0 < length c.args.names.now = grind (arith, c.is_empty.ensures, c.if-is_empty.false) in
    emptied_there l tree path (subst (λ n. 0 < n) (sym (length-path c.args.names.now)) some) empty c.in_default.field-0 (c.in_default.ensures.refused_only_if Reads tree held)

pub returns-in-Err-clause-refused_only_if : goal.returns-in-Err-clause-refused_only_if
returns-in-Err-clause-refused_only_if g c = λ wrong tree m empty.
    let it = c.args.mini.now in
    let l = case_table_of c.args.letters.now in
    let Reads = reads (live_of it) m.who in
    let path = path_of c.args.names.now in
    let directory = entries_held (directory_of it) in
    let same : entries_in c.dir_entries.result.now ≡ directory = c.dir_entries.ensures ∙ ap entries_held c.directory-2.ensures in
    let held = subst (λ es. EntriesHoldTree l (ReadBy Reads) es tree) (sym same) (means_held l it tree m) in
    let some : 0 < length path = subst (λ n. 0 < n) (sym (length-path c.args.names.now)) c.in-Ok.ensures.some in
    let link = c.in-Ok.link in
    let id = c.in-Ok.id in
    let at = subst (λ es. IsChildAt l Reads es tree path link id) same (c.in-Ok.ensures.found Reads tree held) in
    let leaf = emptied_leaf l Reads directory tree path link id some empty at in
    c.in-Err.ensures.refused_only_if wrong l tree (parent_of path) (last_of path) m leaf

pub returns-clause-taken : goal.returns-clause-taken
returns-clause-taken g c = λ tree m empty.
    let it = c.args.mini.now in
    let l = case_table_of c.args.letters.now in
    let Reads = reads (live_of it) m.who in
    let path = path_of c.args.names.now in
    let directory = entries_held (directory_of it) in
    let same : entries_in c.dir_entries.result.now ≡ directory = c.dir_entries.ensures ∙ ap entries_held c.directory-2.ensures in
    let held = subst (λ es. EntriesHoldTree l (ReadBy Reads) es tree) (sym same) (means_held l it tree m) in
    let some : 0 < length path = subst (λ n. 0 < n) (sym (length-path c.args.names.now)) c.in-Ok.ensures.some in
    let link = c.in-Ok.link in
    let id = c.in-Ok.id in
    let at = subst (λ es. IsChildAt l Reads es tree path link id) same (c.in-Ok.ensures.found Reads tree held) in
    let leaf = emptied_leaf l Reads directory tree path link id some empty at in
    subst (FileBecomesTree l it c.take_out.new.mini m.who) (ap (λ p. removed l p tree) (path_is path some)) (c.in_default-take_out.ensures.taken l tree (parent_of path) (last_of path) m leaf)
