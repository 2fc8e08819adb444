use Rattle.std.proofs.Common.{◌≡◌, map, inl, inr, ap, refl, sym, subst, ◌∙◌, ⊎_elim}
use Rattle.std.specs.Option.{option_map}
use Rattle.std.specs.Prelude.{chars, slice_get, None, Some}
use Rattle.std.proofs.lemmas.Option.{slice_get_within}
use Rattle.cfb_directory.specs.Entries.{entries_in}
use Rattle.cfb_directory.specs.Views.{entries_held}
use Rattle.cfb_entries.specs.Rules.{answer_at}
use Rattle.cfb_entries.proofs.Found.{names_are}
use Rattle.cfb_tree_edits.specs.Live.{live_of}
use Rattle.cfb_tree_edits.proofs.FactRules.{object_kind}
use Rattle.cfb_tree_edits.proofs.NewPlaces.{storage_of, stream_of}
use Rattle.cfb_tree_edits.proofs.Objects.{object_there}
use Rattle.cfb_tree_edits.proofs.SetFacts.{means_held}
use Rattle.cfb_tree_edits.proofs.Streams.{reads}
use Rattle.cfb_spec.specs.TreeRules.{open_stream, refused}
use Rattle.cfb_mini.specs.Views.{directory_of}
use Rattle.cfb_siblings.specs.Places.{path_of, IsEntryAt}
use Rattle.cfb_siblings.specs.Reading.{ReadBy}
use Rattle.cfb_siblings.proofs.Entries.{found_in, lost_in}
use Rattle.cfb_tree.specs.EntryViews.{entry_in}
use Rattle.cfb_tree.specs.CaseTableViews.{case_table_of}
use Rattle.cfb_tree.specs.Objects.{EntriesHoldTree}
use Rattle.cfb_stream_writes.proofs.Refused.{open_missing, open_storage}
use Rattle.cfb_stream_writes.proofs.finding.find_stream.Goals as goal

pub returns-in-Err-clause-refused_only_if : goal.returns-in-Err-clause-refused_only_if
returns-in-Err-clause-refused_only_if g c = λ tree m.
    ⊎_elim
    (λ memory. inl memory)
    (λ none. inr (ap (λ o. answer_at (case_table_of c.args.letters.now) tree (λ p. open_stream p) (option_map (map chars) o)) none.1 ∙ ap refused (sym none.0)))
    c.in-Err.ensures.errors

pub returns-in_default-clause-refused_only_if : goal.returns-in_default-clause-refused_only_if
returns-in_default-clause-refused_only_if g c = λ tree m.
    let it = c.args.mini.now in
    let entries : entries_in c.dir_entries-entries.result.now ≡ entries_held (directory_of it) = c.dir_entries-entries.ensures ∙ ap entries_held c.directory.ensures in
    let l = case_table_of c.args.letters.now in
    let Reads = reads (live_of it) m.who in
    let path = path_of c.deref.result.now in
    let at_path = names_are c.args.path.now c.in-Ok.names.items c.in-Ok.ensures.names ∙ ap (λ ns. Some (path_of ns)) (sym c.deref.ensures.value) in
    let held = means_held l it tree m in
    let none = c.in_default.ensures Reads tree (subst (λ es. EntriesHoldTree l (ReadBy Reads) es tree) (sym entries) held) in
    inr (ap (answer_at l tree (λ p. open_stream p)) at_path ∙ open_missing l tree path none)

pub returns-in_default-get-clause-refused_only_if : goal.returns-in_default-get-clause-refused_only_if
returns-in_default-get-clause-refused_only_if g c = λ tree m.
    let it = c.args.mini.now in
    let entries : entries_in c.dir_entries-entries.result.now ≡ entries_held (directory_of it) = c.dir_entries-entries.ensures ∙ ap entries_held c.directory.ensures in
    let l = case_table_of c.args.letters.now in
    let Reads = reads (live_of it) m.who in
    let path = path_of c.deref.result.now in
    let at_path = names_are c.args.path.now c.in-Ok.names.items c.in-Ok.ensures.names ∙ ap (λ ns. Some (path_of ns)) (sym c.deref.ensures.value) in
    let held = means_held l it tree m in
    let id = c.in-Some.id in
    let at = subst (λ es. IsEntryAt (ReadBy Reads) l es tree path id) entries (c.in-Some.ensures Reads tree (subst (λ es. EntriesHoldTree l (ReadBy Reads) es tree) (sym entries) held)) in
    absurd (object_there (ReadBy Reads) l (entries_held (directory_of it)) tree held path id at
    (subst (λ es. slice_get es id ≡ None) entries (lost_in c.dir_entries-entries.result.now id c.in_default-get.ensures.lookup.3)))

pub returns-then-not-is_stream-clause-refused_only_if : goal.returns-then-not-is_stream-clause-refused_only_if
returns-then-not-is_stream-clause-refused_only_if g c = λ tree m.
    let it = c.args.mini.now in
    let entries : entries_in c.dir_entries-entries.result.now ≡ entries_held (directory_of it) = c.dir_entries-entries.ensures ∙ ap entries_held c.directory.ensures in
    let l = case_table_of c.args.letters.now in
    let Reads = reads (live_of it) m.who in
    let path = path_of c.deref.result.now in
    let at_path = names_are c.args.path.now c.in-Ok.names.items c.in-Ok.ensures.names ∙ ap (λ ns. Some (path_of ns)) (sym c.deref.ensures.value) in
    let held = means_held l it tree m in
    let id = c.in-Some.id in
    let at = subst (λ es. IsEntryAt (ReadBy Reads) l es tree path id) entries (c.in-Some.ensures Reads tree (subst (λ es. EntriesHoldTree l (ReadBy Reads) es tree) (sym entries) held)) in
    let e = entry_in c.in-Some-get.entry.now in
    let got = c.in-Some-get.ensures.lookup in
    let found : slice_get (entries_held (directory_of it)) id ≡ Some e = subst (λ es. slice_get es id ≡ Some e) entries (found_in c.dir_entries-entries.result.now id c.in-Some-get.entry.now got.3.0 got.1) in
    let is = storage_of at.object (object_kind Reads l (entries_held (directory_of it)) tree held id e found path at) (λ kind. let wrong = c.is_stream.ensures.1 kind in let not = c.if-not-is_stream.true in absurd (cc)) in
    inr (ap (answer_at l tree (λ p. open_stream p)) at_path ∙ open_storage l tree path is.0 is.1 is.2 (at.at_path ∙ ap Some is.3))

pub returns-clause-inside : goal.returns-clause-inside
returns-clause-inside g c =
    let it = c.args.mini.now in
    let entries : entries_in c.dir_entries-entries.result.now ≡ entries_held (directory_of it) = c.dir_entries-entries.ensures ∙ ap entries_held c.directory.ensures in
    let id = c.in-Some.id in
    let e = entry_in c.in-Some-get.entry.now in
    let got = c.in-Some-get.ensures.lookup in
    let found : slice_get (entries_held (directory_of it)) id ≡ Some e = subst (λ es. slice_get es id ≡ Some e) entries (found_in c.dir_entries-entries.result.now id c.in-Some-get.entry.now got.3.0 got.1) in
    slice_get_within (entries_held (directory_of it)) id e found

pub returns-clause-found : goal.returns-clause-found
returns-clause-found g c = λ tree m.
    let it = c.args.mini.now in
    let entries : entries_in c.dir_entries-entries.result.now ≡ entries_held (directory_of it) = c.dir_entries-entries.ensures ∙ ap entries_held c.directory.ensures in
    let l = case_table_of c.args.letters.now in
    let Reads = reads (live_of it) m.who in
    let path = path_of c.deref.result.now in
    let at_path = names_are c.args.path.now c.in-Ok.names.items c.in-Ok.ensures.names ∙ ap (λ ns. Some (path_of ns)) (sym c.deref.ensures.value) in
    let held = means_held l it tree m in
    let id = c.in-Some.id in
    let at = subst (λ es. IsEntryAt (ReadBy Reads) l es tree path id) entries (c.in-Some.ensures Reads tree (subst (λ es. EntriesHoldTree l (ReadBy Reads) es tree) (sym entries) held)) in
    let e = entry_in c.in-Some-get.entry.now in
    let got = c.in-Some-get.ensures.lookup in
    let found : slice_get (entries_held (directory_of it)) id ≡ Some e = subst (λ es. slice_get es id ≡ Some e) entries (found_in c.dir_entries-entries.result.now id c.in-Some-get.entry.now got.3.0 got.1) in
    let is = stream_of at.object (object_kind Reads l (entries_held (directory_of it)) tree held id e found path at) (c.is_stream.ensures.0 c.if-not-is_stream.false) in
    record { names = path; at_path = at_path; content = is.2; at = record { means = m; leads = at.leads; name = is.0; bits = is.1; at_path = at.at_path ∙ ap Some is.3 }; owners = refl }
