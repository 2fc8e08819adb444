use Rattle.std.proofs.Common.{◌≡◌, inl, inr, ap, sym, subst, ◌∙◌, ⊎_elim, arith}
use Rattle.std.specs.Prelude.{slice_get, Err, Some}
use Rattle.std.proofs.lemmas.Option.{slice_get_past}
use Rattle.cfb_directory.specs.Entries.{entries_in}
use Rattle.cfb_directory.specs.Views.{entries_held}
use Rattle.cfb_entries.specs.Rules.{answer_at}
use Rattle.cfb_entries.proofs.Found.{names_are}
use Rattle.cfb_tree_edits.specs.Live.{live_of}
use Rattle.cfb_tree_edits.specs.Orphans.{FileBecomesTree}
use Rattle.cfb_tree_edits.proofs.FactRules.{object_kind}
use Rattle.cfb_tree_edits.proofs.NewPlaces.{storage_of, stream_of}
use Rattle.cfb_tree_edits.proofs.Objects.{object_there}
use Rattle.cfb_tree_edits.proofs.Resting.{keeps_refl}
use Rattle.cfb_tree_edits.proofs.SetFacts.{means_held}
use Rattle.cfb_tree_edits.proofs.Streams.{reads}
use Rattle.cfb_spec.specs.TreeRules.{create_stream}
use Rattle.cfb_mini.specs.Views.{directory_of}
use Rattle.cfb_siblings.specs.Places.{path_of, IsEntryAt}
use Rattle.cfb_siblings.specs.Reading.{ReadBy}
use Rattle.cfb_tree.specs.EntryViews.{entry_in}
use Rattle.cfb_tree.specs.CaseTableViews.{case_table_of}
use Rattle.cfb_tree.specs.Objects.{EntriesHoldTree}
use Rattle.cfb_stream_writes.specs.Streams.{IsStreamAt}
use Rattle.cfb_stream_writes.proofs.Links.{entries_count}
use Rattle.cfb_stream_writes.proofs.StreamsMade.{does_new, step_emptied, step_storage}
use Rattle.cfb_stream_writes.proofs.creating.create_stream.Goals as goal

pub returns-in_default-clause-tree_rule : goal.returns-in_default-clause-tree_rule
returns-in_default-clause-tree_rule g c =
    let it = c.args.mini.now in
    let l = case_table_of c.args.letters.now in
    let path = path_of c.deref.result.now in
    let at_path = names_are c.args.path.now c.in-Ok.names.items c.in-Ok.ensures.names ∙ ap (λ ns. Some (path_of ns)) (sym c.deref.ensures.value) in
    let same : entries_in c.dir_entries.result.now ≡ entries_held (directory_of it) = c.dir_entries.ensures ∙ ap entries_held c.directory-2.ensures in
    does_new l it c.make_object.new.mini _ path at_path
    (λ tree m. let Reads = reads (live_of it) m.who in c.in_default.ensures Reads tree (subst (λ es. EntriesHoldTree l (ReadBy Reads) es tree) (sym same) (means_held l it tree m)))
    c.make_object.result c.make_object.ensures.tree_rule

pub returns-then-id-dir_entries-clause-tree_rule : goal.returns-then-id-dir_entries-clause-tree_rule
returns-then-id-dir_entries-clause-tree_rule g c = record {
  done = tt;
  refused = λ tree m.
      let it = c.args.mini.now in
      let l = case_table_of c.args.letters.now in
      let Reads = reads (live_of it) m.who in
      let path = path_of c.deref.result.now in
      let id = c.in-Some.id in
      let same : entries_in c.dir_entries.result.now ≡ entries_held (directory_of it) = c.dir_entries.ensures ∙ ap entries_held c.directory-2.ensures in
      let again : entries_in c.dir_entries-2.result.now ≡ entries_held (directory_of it) = c.dir_entries-2.ensures ∙ ap entries_held c.directory-3.ensures in
      let size = entries_count c.dir_entries-2.result.now (entries_held (directory_of it)) again in
      let behind = c.if-id-dir_entries.true in
      let held = means_held l it tree m in
      let at = subst (λ es. IsEntryAt (ReadBy Reads) l es tree path id) same (c.in-Some.ensures Reads tree (subst (λ es. EntriesHoldTree l (ReadBy Reads) es tree) (sym same) held)) in
      absurd (object_there (ReadBy Reads) l (entries_held (directory_of it)) tree held path id at (slice_get_past (entries_held (directory_of it)) id (omega (arith, size, behind))));
  rests = inr (keeps_refl c.args.mini.now);
}

pub returns-then-not-is_stream-clause-tree_rule : goal.returns-then-not-is_stream-clause-tree_rule
returns-then-not-is_stream-clause-tree_rule g c = record {
  done = tt;
  refused = λ tree m.
      let it = c.args.mini.now in
      let l = case_table_of c.args.letters.now in
      let Reads = reads (live_of it) m.who in
      let path = path_of c.deref.result.now in
      let id = c.in-Some.id in
      let same : entries_in c.dir_entries.result.now ≡ entries_held (directory_of it) = c.dir_entries.ensures ∙ ap entries_held c.directory-2.ensures in
      let held = means_held l it tree m in
      let at = subst (λ es. IsEntryAt (ReadBy Reads) l es tree path id) same (c.in-Some.ensures Reads tree (subst (λ es. EntriesHoldTree l (ReadBy Reads) es tree) (sym same) held)) in
      let at_path = names_are c.args.path.now c.in-Ok.names.items c.in-Ok.ensures.names ∙ ap (λ ns. Some (path_of ns)) (sym c.deref.ensures.value) in
      let e = entry_in c.dir_entry.result.now in
      let found : slice_get (entries_held (directory_of it)) id ≡ Some e = ap (λ d. slice_get (entries_held d) id) (sym c.directory-4.ensures) ∙ c.dir_entry.ensures in
      let is = storage_of at.object (object_kind Reads l (entries_held (directory_of it)) tree held id e found path at) (λ kind. let wrong = c.is_stream.ensures.1 kind in let not = c.if-not-is_stream.true in absurd (cc)) in
      inr (ap (answer_at l tree (λ names. create_stream names)) at_path ∙ step_storage l tree path is.0 is.1 is.2 (at.at_path ∙ ap Some is.3), keeps_refl it);
  rests = inr (keeps_refl c.args.mini.now);
}

pub returns-in-Err-empty_stream-clause-tree_rule : goal.returns-in-Err-empty_stream-clause-tree_rule
returns-in-Err-empty_stream-clause-tree_rule g c = record {
  done = tt;
  refused = λ tree m.
      let it = c.args.mini.now in
      let l = case_table_of c.args.letters.now in
      let Reads = reads (live_of it) m.who in
      let path = path_of c.deref.result.now in
      let id = c.in-Some.id in
      let same : entries_in c.dir_entries.result.now ≡ entries_held (directory_of it) = c.dir_entries.ensures ∙ ap entries_held c.directory-2.ensures in
      let held = means_held l it tree m in
      let at = subst (λ es. IsEntryAt (ReadBy Reads) l es tree path id) same (c.in-Some.ensures Reads tree (subst (λ es. EntriesHoldTree l (ReadBy Reads) es tree) (sym same) held)) in
      let e = entry_in c.dir_entry.result.now in
      let found : slice_get (entries_held (directory_of it)) id ≡ Some e = ap (λ d. slice_get (entries_held d) id) (sym c.directory-4.ensures) ∙ c.dir_entry.ensures in
      let is = stream_of at.object (object_kind Reads l (entries_held (directory_of it)) tree held id e found path at) (c.is_stream.ensures.0 c.if-not-is_stream.false) in
      let here : IsStreamAt l it tree path id is.2 = record { means = m; leads = at.leads; name = is.0; bits = is.1; at_path = at.at_path ∙ ap Some is.3 } in
      ⊎_elim
      (λ fault. inl (inl fault))
      (λ wrong. absurd (c.in-Err-empty_stream.ensures.refused_only_if (ap Err wrong) l tree path is.2 here))
      c.in-Err-empty_stream.ensures.error_contract.fault;
  rests = c.in-Err-empty_stream.ensures.after_error;
}

pub returns-clause-tree_rule : goal.returns-clause-tree_rule
returns-clause-tree_rule g c = record {
  done = λ tree m.
      let it = c.args.mini.now in
      let new = c.empty_stream.new.mini in
      let l = case_table_of c.args.letters.now in
      let Reads = reads (live_of it) m.who in
      let path = path_of c.deref.result.now in
      let id = c.in-Some.id in
      let same : entries_in c.dir_entries.result.now ≡ entries_held (directory_of it) = c.dir_entries.ensures ∙ ap entries_held c.directory-2.ensures in
      let held = means_held l it tree m in
      let at = subst (λ es. IsEntryAt (ReadBy Reads) l es tree path id) same (c.in-Some.ensures Reads tree (subst (λ es. EntriesHoldTree l (ReadBy Reads) es tree) (sym same) held)) in
      let at_path = names_are c.args.path.now c.in-Ok.names.items c.in-Ok.ensures.names ∙ ap (λ ns. Some (path_of ns)) (sym c.deref.ensures.value) in
      let e = entry_in c.dir_entry.result.now in
      let found : slice_get (entries_held (directory_of it)) id ≡ Some e = ap (λ d. slice_get (entries_held d) id) (sym c.directory-4.ensures) ∙ c.dir_entry.ensures in
      let is = stream_of at.object (object_kind Reads l (entries_held (directory_of it)) tree held id e found path at) (c.is_stream.ensures.0 c.if-not-is_stream.false) in
      let here : IsStreamAt l it tree path id is.2 = record { means = m; leads = at.leads; name = is.0; bits = is.1; at_path = at.at_path ∙ ap Some is.3 } in
      let there = c.in_default-empty_stream.ensures.emptied l tree path is.2 here in
      let rule = step_emptied l tree path is.0 is.1 is.2 (at.at_path ∙ ap Some is.3) in
      let comes = subst (FileBecomesTree l it new m.who) (sym (ap (λ o. o.0) rule)) (record { means = there.0.means; strays = there.1 }) in
      record { names = path; at_path = at_path; accepted = ap (λ o. o.1) rule; means = comes.means; strays = comes.strays };
  refused = tt;
  rests = tt;
}
