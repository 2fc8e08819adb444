use Rattle.std.proofs.Common.{◌≡◌, ◌<◌, length, map, refl, ap, sym, subst, ◌∙◌, arith}
use Rattle.std.specs.Prelude.{Some}
use Rattle.cfb_spec.specs.TreeRules.{refused}
use Rattle.cfb_siblings.specs.Places.{path_of, LeadsTo}
use Rattle.cfb_siblings.specs.Reading.{ReadBy}
use Rattle.cfb_siblings.proofs.Entries.{found_in, lost_in}
use Rattle.cfb_tree.specs.Directory.{kind_stream}
use Rattle.cfb_tree.specs.EntryViews.{entry_in}
use Rattle.cfb_tree.specs.CaseTableViews.{case_table_of}
use Rattle.cfb_tree.specs.Names.{is_name}
use Rattle.cfb_tree.specs.Objects.{object_at}
use Rattle.cfb_tree_edits.proofs.FactRules.{object_kind}
use Rattle.cfb_tree_edits.proofs.NewPlaces.{invalid_is, last_is, parent_is, step_made, step_orphan, step_taken, step_under_stream, step_unnamed, storage_of, stream_of}
use Rattle.cfb_tree_edits.proofs.Objects.{object_there}
use Rattle.cfb_tree_edits.proofs.finding.find_parent.Goals as goal

pub returns-in-Some-clause-refused_only_if : goal.returns-in-Some-clause-refused_only_if
returns-in-Some-clause-refused_only_if c = λ reads tree h object.
    let at = c.in-Some.ensures reads tree h in
    step_taken (case_table_of c.args.letters.now) tree (path_of c.args.names.now) at.object at.at_path object

pub returns-in_default-find_entry-clause-refused_only_if : goal.returns-in_default-find_entry-clause-refused_only_if
returns-in_default-find_entry-clause-refused_only_if c = λ reads tree h object.
    let l = case_table_of c.args.letters.now in
    step_orphan l tree (path_of c.args.names.now) (c.in_default.ensures reads tree h) (ap (object_at l tree) (sym (parent_is c.args.names.now)) ∙ c.in_default-find_entry.ensures reads tree h) object

pub returns-in_default-get-clause-refused_only_if : goal.returns-in_default-get-clause-refused_only_if
returns-in_default-get-clause-refused_only_if c = λ reads tree h object.
    let l = case_table_of c.args.letters.now in
    let id = c.in-Some-find_entry.parent in
    absurd (object_there (ReadBy reads) l (map entry_in c.args.entries.now) tree h _ id (c.in-Some-find_entry.ensures reads tree h) (lost_in c.args.entries.now id c.in_default-get.ensures.lookup.3))

pub returns-then-is_stream-clause-refused_only_if : goal.returns-then-is_stream-clause-refused_only_if
returns-then-is_stream-clause-refused_only_if c = λ reads tree h object.
    let l = case_table_of c.args.letters.now in
    let directory = map entry_in c.args.entries.now in
    let id = c.in-Some-find_entry.parent in
    let e = entry_in c.in-Some-get.entry.now in
    let got = c.in-Some-get.ensures.lookup in
    let found = found_in c.args.entries.now id c.in-Some-get.entry.now got.3.0 got.1 in
    let at = c.in-Some-find_entry.ensures reads tree h in
    let is = stream_of at.object (object_kind reads l directory tree h id e found _ at) (c.if-is_stream.ensures.0 refl) in
    step_under_stream l tree (path_of c.args.names.now) (c.in_default.ensures reads tree h) is.0 is.1 is.2 (ap (object_at l tree) (sym (parent_is c.args.names.now)) ∙ at.at_path ∙ ap Some is.3) object

pub returns-in-Err-clause-refused_only_if : goal.returns-in-Err-clause-refused_only_if
returns-in-Err-clause-refused_only_if c = λ reads tree h object.
    let l = case_table_of c.args.letters.now in
    let directory = map entry_in c.args.entries.now in
    let id = c.in-Some-find_entry.parent in
    let e = entry_in c.in-Some-get.entry.now in
    let got = c.in-Some-get.ensures.lookup in
    let found = found_in c.args.entries.now id c.in-Some-get.entry.now got.3.0 got.1 in
    let at = c.in-Some-find_entry.ensures reads tree h in
    let is = storage_of at.object (object_kind reads l directory tree h id e found _ at) (λ kind. let wrong = c.if-is_stream.ensures.1 kind in absurd (cc)) in
    let some : 0 < length c.args.names.now = let none = c.if-count-eq0.false in grind (arith, none) in
    let invalid = invalid_is _ (λ valid. let wrong = c.in-Err.ensures.valid.1 valid in absurd (cc)) in
    step_unnamed l tree (path_of c.args.names.now) (c.in_default.ensures reads tree h) is.0 is.1 is.2 (ap (object_at l tree) (sym (parent_is c.args.names.now)) ∙ at.at_path ∙ ap Some is.3) (ap is_name (last_is c.args.names.now _ some) ∙ invalid) object
    ∙ ap refused (sym c.in-Err.ensures.errors)

pub returns-clause-free : goal.returns-clause-free
returns-clause-free c = λ reads tree h.
    let l = case_table_of c.args.letters.now in
    let directory = map entry_in c.args.entries.now in
    let id = c.in-Some-find_entry.parent in
    let e = entry_in c.in-Some-get.entry.now in
    let got = c.in-Some-get.ensures.lookup in
    let found = found_in c.args.entries.now id c.in-Some-get.entry.now got.3.0 got.1 in
    let at = c.in-Some-find_entry.ensures reads tree h in
    let not_stream : e.kind ≡ kind_stream → ⊥ = λ kind. let wrong = c.if-is_stream.ensures.1 kind in absurd (cc) in
    let is = storage_of at.object (object_kind reads l directory tree h id e found _ at) not_stream in
    let some : 0 < length c.args.names.now = let none = c.if-count-eq0.false in grind (arith, none) in
    let valid = ap is_name (last_is c.args.names.now _ some) ∙ c.in_default-validate_name.ensures.valid.0 refl in
    record {
      free = c.in_default.ensures reads tree h;
      storage = record { leads = subst (λ p. LeadsTo l directory 0 p id) (parent_is c.args.names.now) at.leads; owner = record { entry = e; found = found; holds = not_stream } };
      valid = valid;
      rule = step_made l tree (path_of c.args.names.now) (c.in_default.ensures reads tree h) is.0 is.1 is.2 (ap (object_at l tree) (sym (parent_is c.args.names.now)) ∙ at.at_path ∙ ap Some is.3) valid;
    }
