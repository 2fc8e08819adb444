use Rattle.std.proofs.Common.{◌≡◌, ◌<◌, length, inl, inr, ap, sym, subst, ◌∙◌, ⊎_elim}
use Rattle.std.specs.Prelude.{slice_get, Err, Some}
use Rattle.cfb_entries.specs.Rules.{answer_at}
use Rattle.cfb_entries.proofs.Found.{names_are}
use Rattle.cfb_spec.specs.TreeRules.{refused, remove_stream}
use Rattle.cfb_siblings.specs.Places.{path_of}
use Rattle.cfb_siblings.specs.Reading.{ReadBy}
use Rattle.cfb_tree.specs.Changes.{last_of, parent_of, removed}
use Rattle.cfb_tree.specs.Directory.{kind_stream}
use Rattle.cfb_tree.specs.EntryViews.{entry_in}
use Rattle.cfb_tree.specs.CaseTableViews.{case_table_of}
use Rattle.cfb_tree.specs.Objects.{EntriesHoldTree}
use Rattle.cfb_directory.specs.Entries.{entries_in}
use Rattle.cfb_directory.specs.Views.{entries_held}
use Rattle.cfb_mini.specs.Views.{directory_of}
use Rattle.cfb_tree_edits.specs.Live.{live_of}
use Rattle.cfb_tree_edits.specs.Orphans.{FileBecomesTree}
use Rattle.cfb_tree_edits.specs.Removing.{IsChildAt}
use Rattle.cfb_tree_edits.proofs.NewPlaces.{length-path, storage_of, stream_of}
use Rattle.cfb_tree_edits.proofs.Removals.{kind_of_object, step_missing, step_removed, step_root, step_storage}
use Rattle.cfb_tree_edits.proofs.Resting.{keeps_refl}
use Rattle.cfb_tree_edits.proofs.SetFacts.{means_held}
use Rattle.cfb_tree_edits.proofs.Streams.{reads}
use Rattle.cfb_tree_edits.proofs.Removed.{stream_held}
use Rattle.cfb_tree_edits.proofs.Taken.{leaf_at, leaf_one}
use Rattle.cfb_tree_edits.proofs.stream_removal.remove_stream.Goals as goal
use Rattle.cfb_entries.proofs.Others.{path_is}

pub returns-in-Err-find_child-clause-tree_rule : goal.returns-in-Err-find_child-clause-tree_rule
returns-in-Err-find_child-clause-tree_rule g c = record {
  done = tt;
  refused = λ tree m.
      let it = c.args.mini.now in
      let l = case_table_of c.args.letters.now in
      let Reads = reads (live_of it) m.who in
      let path = path_of c.deref.result.now in
      let same : entries_in c.dir_entries.result.now ≡ entries_held (directory_of it) = c.dir_entries.ensures ∙ ap entries_held c.directory-2.ensures in
      let held = means_held l it tree m in
      let at_path = names_are c.args.path.now c.in-Ok.names.items c.in-Ok.ensures.names ∙ ap (λ ns. Some (path_of ns)) (sym c.deref.ensures.value) in
      inr (
        ap (answer_at l tree (λ names. remove_stream names)) at_path ∙ ⊎_elim
            (λ missing. step_missing l tree path missing.1 ∙ ap refused (sym missing.0))
            (λ root. step_root l tree path root.1 ∙ ap refused (sym root.0))
            (c.in-Err-find_child.ensures.refused_only_if Reads tree (subst (λ es. EntriesHoldTree l (ReadBy Reads) es tree) (sym same) held)),
        keeps_refl it,
      );
  rests = inr (keeps_refl c.args.mini.now);
}

pub returns-then-not-is_stream-clause-tree_rule : goal.returns-then-not-is_stream-clause-tree_rule
returns-then-not-is_stream-clause-tree_rule g c = record {
  done = tt;
  refused = λ tree m.
      let it = c.args.mini.now in
      let l = case_table_of c.args.letters.now in
      let Reads = reads (live_of it) m.who in
      let path = path_of c.deref.result.now in
      let same : entries_in c.dir_entries.result.now ≡ entries_held (directory_of it) = c.dir_entries.ensures ∙ ap entries_held c.directory-2.ensures in
      let held = means_held l it tree m in
      let at_path = names_are c.args.path.now c.in-Ok.names.items c.in-Ok.ensures.names ∙ ap (λ ns. Some (path_of ns)) (sym c.deref.ensures.value) in
      let link = c.in-Ok-find_child.child.0 in
      let id = c.in-Ok-find_child.child.1 in
      let at = subst (λ es. IsChildAt l Reads es tree path link id) same (c.in-Ok-find_child.ensures.found Reads tree (subst (λ es. EntriesHoldTree l (ReadBy Reads) es tree) (sym same) held)) in
      let e = entry_in c.dir_entry.result.now in
      let found : slice_get (entries_held (directory_of it)) id ≡ Some e = ap (λ d. slice_get (entries_held d) id) (sym c.directory-3.ensures) ∙ c.dir_entry.ensures in
      let is = storage_of at.object (kind_of_object (entries_held (directory_of it)) (ReadBy Reads) id at.object at.own e at.is_object found) (λ kind. let wrong = c.is_stream.ensures.1 kind in let not = c.if-not-is_stream.true in absurd (cc)) in
      inr (ap (answer_at l tree (λ names. remove_stream names)) at_path ∙ step_storage l tree path is.0 is.1 is.2 (at.at_path ∙ ap Some is.3), keeps_refl it);
  rests = inr (keeps_refl c.args.mini.now);
}

pub returns-in-Err-take_out-clause-tree_rule : goal.returns-in-Err-take_out-clause-tree_rule
returns-in-Err-take_out-clause-tree_rule g c = record {
  done = tt;
  refused = λ tree m.
      let it = c.args.mini.now in
      let l = case_table_of c.args.letters.now in
      let Reads = reads (live_of it) m.who in
      let path = path_of c.deref.result.now in
      let same : entries_in c.dir_entries.result.now ≡ entries_held (directory_of it) = c.dir_entries.ensures ∙ ap entries_held c.directory-2.ensures in
      let held = means_held l it tree m in
      let link = c.in-Ok-find_child.child.0 in
      let id = c.in-Ok-find_child.child.1 in
      let at = subst (λ es. IsChildAt l Reads es tree path link id) same (c.in-Ok-find_child.ensures.found Reads tree (subst (λ es. EntriesHoldTree l (ReadBy Reads) es tree) (sym same) held)) in
      let e = entry_in c.dir_entry.result.now in
      let found : slice_get (entries_held (directory_of it)) id ≡ Some e = ap (λ d. slice_get (entries_held d) id) (sym c.directory-3.ensures) ∙ c.dir_entry.ensures in
      let kind : e.kind ≡ kind_stream = c.is_stream.ensures.0 c.if-not-is_stream.false in
      let some : 0 < length path = subst (λ n. 0 < n) (sym (length-path c.deref.result.now)) c.in-Ok-find_child.ensures.some in
      let leaf = leaf_at l Reads (entries_held (directory_of it)) tree path link id some at e found (λ never. absurd (never kind)) in
      ⊎_elim
      (λ fault. inl (inl fault))
      (λ missing. absurd (c.in-Err-take_out.ensures.refused_only_if (ap Err missing) l tree (parent_of path) (last_of path) m leaf))
      c.in-Err-take_out.ensures.error_contract.fault;
  rests = c.in-Err-take_out.ensures.after_error;
}

pub returns-clause-tree_rule : goal.returns-clause-tree_rule
returns-clause-tree_rule g c = record {
  done = λ tree m.
      let it = c.args.mini.now in
      let l = case_table_of c.args.letters.now in
      let Reads = reads (live_of it) m.who in
      let path = path_of c.deref.result.now in
      let same : entries_in c.dir_entries.result.now ≡ entries_held (directory_of it) = c.dir_entries.ensures ∙ ap entries_held c.directory-2.ensures in
      let held = means_held l it tree m in
      let at_path = names_are c.args.path.now c.in-Ok.names.items c.in-Ok.ensures.names ∙ ap (λ ns. Some (path_of ns)) (sym c.deref.ensures.value) in
      let link = c.in-Ok-find_child.child.0 in
      let id = c.in-Ok-find_child.child.1 in
      let at = subst (λ es. IsChildAt l Reads es tree path link id) same (c.in-Ok-find_child.ensures.found Reads tree (subst (λ es. EntriesHoldTree l (ReadBy Reads) es tree) (sym same) held)) in
      let e = entry_in c.dir_entry.result.now in
      let found : slice_get (entries_held (directory_of it)) id ≡ Some e = ap (λ d. slice_get (entries_held d) id) (sym c.directory-3.ensures) ∙ c.dir_entry.ensures in
      let kind : e.kind ≡ kind_stream = c.is_stream.ensures.0 c.if-not-is_stream.false in
      let some : 0 < length path = subst (λ n. 0 < n) (sym (length-path c.deref.result.now)) c.in-Ok-find_child.ensures.some in
      let leaf = leaf_at l Reads (entries_held (directory_of it)) tree path link id some at e found (λ never. absurd (never kind)) in
      let is = stream_of at.object (kind_of_object (entries_held (directory_of it)) (ReadBy Reads) id at.object at.own e at.is_object found) kind in
      let rule = step_removed l tree path is.0 is.1 is.2 (at.at_path ∙ ap Some is.3) in
      let new = c.take_out.new.mini in
      let comes = subst (FileBecomesTree l it new m.who) (ap (λ p. removed l p tree) (path_is path some) ∙ sym (ap (λ o. o.0) rule)) (c.in_default.ensures.taken l tree (parent_of path) (last_of path) m leaf) in
      record { names = path; at_path = at_path; accepted = ap (λ o. o.1) rule; means = comes.means; strays = comes.strays };
  refused = tt;
  rests = tt;
}

pub returns-clause-freed : goal.returns-clause-freed
returns-clause-freed g c = λ tree m.
    let it = c.args.mini.now in
    let l = case_table_of c.args.letters.now in
    let Reads = reads (live_of it) m.who in
    let path = path_of c.deref.result.now in
    let same : entries_in c.dir_entries.result.now ≡ entries_held (directory_of it) = c.dir_entries.ensures ∙ ap entries_held c.directory-2.ensures in
    let held = means_held l it tree m in
    let link = c.in-Ok-find_child.child.0 in
    let id = c.in-Ok-find_child.child.1 in
    let at = subst (λ es. IsChildAt l Reads es tree path link id) same (c.in-Ok-find_child.ensures.found Reads tree (subst (λ es. EntriesHoldTree l (ReadBy Reads) es tree) (sym same) held)) in
    let e = entry_in c.dir_entry.result.now in
    let found : slice_get (entries_held (directory_of it)) id ≡ Some e = ap (λ d. slice_get (entries_held d) id) (sym c.directory-3.ensures) ∙ c.dir_entry.ensures in
    let kind : e.kind ≡ kind_stream = c.is_stream.ensures.0 c.if-not-is_stream.false in
    let some : 0 < length path = subst (λ n. 0 < n) (sym (length-path c.deref.result.now)) c.in-Ok-find_child.ensures.some in
    let leaf = leaf_at l Reads (entries_held (directory_of it)) tree path link id some at e found (λ never. absurd (never kind)) in
    let has = stream_held l it tree m id e (leaf_one l it tree m (parent_of path) (last_of path) link id leaf) found kind in
    record {
      names = path;
      at_path = names_are c.args.path.now c.in-Ok.names.items c.in-Ok.ensures.names ∙ ap (λ ns. Some (path_of ns)) (sym c.deref.ensures.value);
      id = id;
      entry = e;
      leads = at.leads;
      found = found;
      of_kind = kind;
      content = has.0;
      has = has.1;
      gives = c.in_default.ensures.freed l tree (parent_of path) (last_of path) m leaf;
    }
