use Rattle.std.proofs.Common.{◌≡◌, ◌≤◌, arith, inl, inr, length, ap, sym, subst, ◌∙◌, ⊎_elim}
use Rattle.std.specs.Prelude.{slice_get, Err, Some}
use Rattle.std.proofs.lemmas.Option.{slice_get_past}
use Rattle.cfb_entries.specs.Rules.{answer_at}
use Rattle.cfb_entries.proofs.Found.{names_are}
use Rattle.cfb_spec.specs.TreeRules.{remove_storage_all}
use Rattle.cfb_siblings.specs.Places.{path_of, IsEntryAt, IsStorageAt}
use Rattle.cfb_siblings.specs.Reading.{ReadBy}
use Rattle.cfb_tree.specs.Changes.{removed}
use Rattle.cfb_tree.specs.Directory.{kind_stream}
use Rattle.cfb_tree.specs.EntryViews.{entry_in}
use Rattle.cfb_tree.specs.CaseTableViews.{case_table_of}
use Rattle.cfb_tree.specs.Objects.{EntriesHoldTree}
use Rattle.cfb_directory.specs.Entries.{entries_in}
use Rattle.cfb_directory.specs.Views.{entries_held}
use Rattle.cfb_mini.specs.Views.{directory_of}
use Rattle.cfb_tree_edits.specs.WholeRemoval.{HasStorage}
use Rattle.cfb_tree_edits.specs.Live.{live_of}
use Rattle.cfb_tree_edits.specs.Orphans.{FileBecomesTree}
use Rattle.cfb_tree_edits.proofs.Emptied.{step_all, step_all_missing, step_all_stream}
use Rattle.cfb_tree_edits.proofs.FactRules.{object_kind}
use Rattle.cfb_tree_edits.proofs.NewPlaces.{storage_of, stream_of}
use Rattle.cfb_tree_edits.proofs.Objects.{object_there}
use Rattle.cfb_tree_edits.proofs.Resting.{keeps_refl}
use Rattle.cfb_tree_edits.proofs.SetFacts.{means_held}
use Rattle.cfb_tree_edits.proofs.Streams.{reads}
use Rattle.cfb_tree_edits.proofs.whole_removal.remove_storage_all.Goals as goal

pub returns-in_default-clause-tree_rule : goal.returns-in_default-clause-tree_rule
returns-in_default-clause-tree_rule g c = record {
  done = tt;
  refused = λ tree m.
      let it = c.args.mini.now in
      let l = case_table_of c.args.letters.now in
      let Reads = reads (live_of it) m.who in
      let path = path_of c.deref.result.now in
      let directory = entries_held (directory_of it) in
      let same : entries_in c.dir_entries.result.now ≡ directory = c.dir_entries.ensures ∙ ap entries_held c.directory-2.ensures in
      let held = means_held l it tree m in
      let told = subst (λ es. EntriesHoldTree l (ReadBy Reads) es tree) (sym same) held in
      let at_path = names_are c.args.path.now c.in-Ok.names.items c.in-Ok.ensures.names ∙ ap (λ ns. Some (path_of ns)) (sym c.deref.ensures.value) in
      inr (ap (answer_at l tree (λ names. remove_storage_all names)) at_path ∙ step_all_missing l tree path (c.in_default.ensures Reads tree told), keeps_refl it);
  rests = inr (keeps_refl c.args.mini.now);
}

pub returns-then-not-has_dir_entry-clause-tree_rule : goal.returns-then-not-has_dir_entry-clause-tree_rule
returns-then-not-has_dir_entry-clause-tree_rule g c = record {
  done = tt;
  refused = λ tree m.
      let it = c.args.mini.now in
      let l = case_table_of c.args.letters.now in
      let Reads = reads (live_of it) m.who in
      let path = path_of c.deref.result.now in
      let directory = entries_held (directory_of it) in
      let same : entries_in c.dir_entries.result.now ≡ directory = c.dir_entries.ensures ∙ ap entries_held c.directory-2.ensures in
      let held = means_held l it tree m in
      let told = subst (λ es. EntriesHoldTree l (ReadBy Reads) es tree) (sym same) held in
      let at_path = names_are c.args.path.now c.in-Ok.names.items c.in-Ok.ensures.names ∙ ap (λ ns. Some (path_of ns)) (sym c.deref.ensures.value) in
      let id = c.in-Some.id in
      let at = subst (λ es. IsEntryAt (ReadBy Reads) l es tree path id) same (c.in-Some.ensures Reads tree told) in
      let count : length (entries_held c.directory-3.result.now) ≡ length directory = ap (λ d. length (entries_held d)) c.directory-3.ensures in
      let past : length directory ≤ id = grind (arith, count, c.has_dir_entry.ensures, c.if-not-has_dir_entry.true) in
      absurd (object_there (ReadBy Reads) l directory tree held path id at (slice_get_past directory id past));
  rests = inr (keeps_refl c.args.mini.now);
}

pub returns-then-is_stream-clause-tree_rule : goal.returns-then-is_stream-clause-tree_rule
returns-then-is_stream-clause-tree_rule g c = record {
  done = tt;
  refused = λ tree m.
      let it = c.args.mini.now in
      let l = case_table_of c.args.letters.now in
      let Reads = reads (live_of it) m.who in
      let path = path_of c.deref.result.now in
      let directory = entries_held (directory_of it) in
      let same : entries_in c.dir_entries.result.now ≡ directory = c.dir_entries.ensures ∙ ap entries_held c.directory-2.ensures in
      let held = means_held l it tree m in
      let told = subst (λ es. EntriesHoldTree l (ReadBy Reads) es tree) (sym same) held in
      let at_path = names_are c.args.path.now c.in-Ok.names.items c.in-Ok.ensures.names ∙ ap (λ ns. Some (path_of ns)) (sym c.deref.ensures.value) in
      let id = c.in-Some.id in
      let at = subst (λ es. IsEntryAt (ReadBy Reads) l es tree path id) same (c.in-Some.ensures Reads tree told) in
      let e = entry_in c.dir_entry.result.now in
      let found : slice_get directory id ≡ Some e = ap (λ d. slice_get (entries_held d) id) (sym c.directory-4.ensures) ∙ c.dir_entry.ensures in
      let kind = object_kind Reads l directory tree held id e found path at in
      let is = stream_of at.object kind (c.is_stream.ensures.0 c.if-is_stream.true) in
      inr (ap (answer_at l tree (λ names. remove_storage_all names)) at_path ∙ step_all_stream l tree path is.0 is.1 is.2 (at.at_path ∙ ap Some is.3), keeps_refl it);
  rests = inr (keeps_refl c.args.mini.now);
}

pub returns-in-Err-take_all-clause-tree_rule : goal.returns-in-Err-take_all-clause-tree_rule
returns-in-Err-take_all-clause-tree_rule g c = record {
  done = tt;
  refused = λ tree m.
      let it = c.args.mini.now in
      let l = case_table_of c.args.letters.now in
      let Reads = reads (live_of it) m.who in
      let path = path_of c.deref.result.now in
      let directory = entries_held (directory_of it) in
      let same : entries_in c.dir_entries.result.now ≡ directory = c.dir_entries.ensures ∙ ap entries_held c.directory-2.ensures in
      let held = means_held l it tree m in
      let told = subst (λ es. EntriesHoldTree l (ReadBy Reads) es tree) (sym same) held in
      let at_path = names_are c.args.path.now c.in-Ok.names.items c.in-Ok.ensures.names ∙ ap (λ ns. Some (path_of ns)) (sym c.deref.ensures.value) in
      let id = c.in-Some.id in
      let at = subst (λ es. IsEntryAt (ReadBy Reads) l es tree path id) same (c.in-Some.ensures Reads tree told) in
      let e = entry_in c.dir_entry.result.now in
      let found : slice_get directory id ≡ Some e = ap (λ d. slice_get (entries_held d) id) (sym c.directory-4.ensures) ∙ c.dir_entry.ensures in
      let kind = object_kind Reads l directory tree held id e found path at in
      let never : e.kind ≡ kind_stream → ⊥ = λ kind. let wrong = c.is_stream.ensures.1 kind in absurd (cc) in
      let is = storage_of at.object kind never in
      let there = at.at_path ∙ ap Some is.3 in
      let here = ap path_of (c.deref.ensures.value ∙ sym c.deref-2.ensures.value) in
      let has = subst (HasStorage l tree) here (record { name = is.0; facts = is.1; inside = is.2; at_path = there }) in
      let storage = subst (λ p. IsStorageAt l directory p id) here (record { leads = at.leads; owner = record { entry = e; found = found; holds = never } }) in
      ⊎_elim
      (λ fault. inl (inl fault))
      (λ missing. absurd (c.in-Err-take_all.ensures.refused_only_if (ap Err missing) tree m has storage))
      c.in-Err-take_all.ensures.error_contract.fault;
  rests = c.in-Err-take_all.ensures.after_error;
}

pub returns-clause-tree_rule : goal.returns-clause-tree_rule
returns-clause-tree_rule g c = record {
  done = λ tree m.
      let it = c.args.mini.now in
      let l = case_table_of c.args.letters.now in
      let Reads = reads (live_of it) m.who in
      let path = path_of c.deref.result.now in
      let directory = entries_held (directory_of it) in
      let same : entries_in c.dir_entries.result.now ≡ directory = c.dir_entries.ensures ∙ ap entries_held c.directory-2.ensures in
      let held = means_held l it tree m in
      let told = subst (λ es. EntriesHoldTree l (ReadBy Reads) es tree) (sym same) held in
      let at_path = names_are c.args.path.now c.in-Ok.names.items c.in-Ok.ensures.names ∙ ap (λ ns. Some (path_of ns)) (sym c.deref.ensures.value) in
      let id = c.in-Some.id in
      let at = subst (λ es. IsEntryAt (ReadBy Reads) l es tree path id) same (c.in-Some.ensures Reads tree told) in
      let e = entry_in c.dir_entry.result.now in
      let found : slice_get directory id ≡ Some e = ap (λ d. slice_get (entries_held d) id) (sym c.directory-4.ensures) ∙ c.dir_entry.ensures in
      let kind = object_kind Reads l directory tree held id e found path at in
      let never : e.kind ≡ kind_stream → ⊥ = λ kind. let wrong = c.is_stream.ensures.1 kind in absurd (cc) in
      let is = storage_of at.object kind never in
      let there = at.at_path ∙ ap Some is.3 in
      let here = ap path_of (c.deref.ensures.value ∙ sym c.deref-2.ensures.value) in
      let has = subst (HasStorage l tree) here (record { name = is.0; facts = is.1; inside = is.2; at_path = there }) in
      let storage = subst (λ p. IsStorageAt l directory p id) here (record { leads = at.leads; owner = record { entry = e; found = found; holds = never } }) in
      let rule = step_all l tree path is.0 is.1 is.2 there in
      let comes = subst (FileBecomesTree l it c.take_all.new.mini m.who) (ap (λ p. removed l p tree) (sym here) ∙ sym (ap (λ o. o.0) rule)) (c.in_default-take_all.ensures.taken tree m has storage) in
      record { names = path; at_path = at_path; accepted = ap (λ o. o.1) rule; means = comes.means; strays = comes.strays };
  refused = tt;
  rests = tt;
}
