use Rattle.std.proofs.Common.{◌≡◌, inl, inr, ap, sym, subst, ◌∙◌, ⊎_elim, arith}
use Rattle.std.specs.Prelude.{slice_get, slice_set, Err, IfSome, Some}
use Rattle.cfb_entries.specs.Rules.{answer_at}
use Rattle.cfb_spec.specs.TreeRules.{refused}
use Rattle.cfb_medium.specs.Calls.{IsFaultOrInvalidInputIf}
use Rattle.cfb_tree.specs.Directory.{Entry}
use Rattle.cfb_tree.specs.EntryViews.{entry_in}
use Rattle.cfb_tree.specs.CaseTableViews.{case_table_of}
use Rattle.cfb_tree.specs.Objects.{EntriesHoldTree}
use Rattle.cfb_siblings.specs.Places.{IsEntryAt}
use Rattle.cfb_siblings.specs.Reading.{ReadBy}
use Rattle.cfb_directory.specs.Changes.{changed_entry}
use Rattle.cfb_directory.specs.Entries.{entries_in}
use Rattle.cfb_directory.specs.Views.{entries_held}
use Rattle.cfb_mini.specs.Views.{directory_of}
use Rattle.cfb_tree_edits.specs.Facts.{change_for, setting, MayHave}
use Rattle.cfb_tree_edits.specs.Live.{live_of}
use Rattle.cfb_tree_edits.specs.Orphans.{FileBecomesTree}
use Rattle.cfb_tree_edits.proofs.FactRules.{as_was, becomes, color_stays, links_stay, object_kind, place_stays, rule, same_links, step_done, step_missing, step_refused}
use Rattle.cfb_tree_edits.proofs.Resting.{keeps_refl}
use Rattle.cfb_tree_edits.proofs.SetFacts.{means_held, same_comes, set_comes}
use Rattle.cfb_tree_edits.proofs.Streams.{reads}
use Rattle.cfb_tree_edits.proofs.facts.set_fact.Goals as goal

pub returns-in-Err-clause-tree_rule : goal.returns-in-Err-clause-tree_rule
returns-in-Err-clause-tree_rule g c = record {
  done = tt;
  refused = λ tree m.
      let it = c.args.mini.now in
      let l = case_table_of c.args.letters.now in
      let Reads = reads (live_of it) m.who in
      let same : entries_in c.dir_entries.result.now ≡ entries_held (directory_of it) = c.dir_entries.ensures ∙ ap entries_held c.directory-2.ensures in
      ⊎_elim
      (λ memory. inl (inl (subst (IsFaultOrInvalidInputIf ⊥) (sym memory) tt)))
      (λ rest. inr (
        ⊎_elim
            (λ above. ap (answer_at l tree (setting c.args.fact)) above.1 ∙ ap refused (sym above.0))
            (λ missing. ap (answer_at l tree (setting c.args.fact)) missing.2 ∙ step_missing l tree missing.1 c.args.fact missing.3 ∙ ap refused (sym missing.0))
            rest,
        keeps_refl it,
      ))
      (c.in-Err.ensures.refused_only_if Reads tree (subst (λ es. EntriesHoldTree l (ReadBy Reads) es tree) (sym same) (means_held l it tree m)));
  rests = inr (keeps_refl c.args.mini.now);
}

pub returns-in-Ok-None-clause-tree_rule : goal.returns-in-Ok-None-clause-tree_rule
returns-in-Ok-None-clause-tree_rule g c = record {
  done = λ tree m.
      let it = c.args.mini.now in
      let l = case_table_of c.args.letters.now in
      let Reads = reads (live_of it) m.who in
      let same : entries_in c.dir_entries.result.now ≡ entries_held (directory_of it) = c.dir_entries.ensures ∙ ap entries_held c.directory-2.ensures in
      let held = means_held l it tree m in
      let id = c.in-Ok.id in
      let e = entry_in c.dir_entry.result.now in
      let found : slice_get (entries_held (directory_of it)) id ≡ Some e = ap (λ d. slice_get (entries_held d) id) (sym c.directory-3.ensures) ∙ c.dir_entry.ensures in
      let at = c.in-Ok.ensures.found Reads tree (subst (λ es. EntriesHoldTree l (ReadBy Reads) es tree) (sym same) held) in
      let here = subst (λ es. IsEntryAt (ReadBy Reads) l es tree at.0 id) same at.2 in
      let lacks = c.in-Ok-None.ensures.none c.in-Ok-None.field-0-is in
      let step = step_done l tree at.0 id e c.args.fact here.object here.at_path (object_kind Reads l (entries_held (directory_of it)) tree held id e found at.0 here) (inr lacks) in
      let comes = subst (FileBecomesTree l it it m.who) (sym (ap (λ o. o.0) step)) (same_comes l it tree m at.0 id e e (rule c.args.fact at.0) here found (same_links e) (as_was Reads l (entries_held (directory_of it)) tree held id e found c.args.fact at.0 here lacks)) in
      record { names = at.0; at_path = at.1; accepted = ap (λ o. o.1) step; means = comes.means; strays = comes.strays };
  refused = tt;
  rests = tt;
}

pub returns-in-Err-change_of-clause-tree_rule : goal.returns-in-Err-change_of-clause-tree_rule
returns-in-Err-change_of-clause-tree_rule g c = record {
  done = tt;
  refused = λ tree m.
      let it = c.args.mini.now in
      let l = case_table_of c.args.letters.now in
      let Reads = reads (live_of it) m.who in
      let same : entries_in c.dir_entries.result.now ≡ entries_held (directory_of it) = c.dir_entries.ensures ∙ ap entries_held c.directory-2.ensures in
      let held = means_held l it tree m in
      let id = c.in-Ok.id in
      let e = entry_in c.dir_entry.result.now in
      let found : slice_get (entries_held (directory_of it)) id ≡ Some e = ap (λ d. slice_get (entries_held d) id) (sym c.directory-3.ensures) ∙ c.dir_entry.ensures in
      let at = c.in-Ok.ensures.found Reads tree (subst (λ es. EntriesHoldTree l (ReadBy Reads) es tree) (sym same) held) in
      let here = subst (λ es. IsEntryAt (ReadBy Reads) l es tree at.0 id) same at.2 in
      let told = c.in-Err-change_of.ensures.refused_only_if in
      inr (
        ap (answer_at l tree (setting c.args.fact)) at.1
            ∙ step_refused l tree at.0 id e c.args.fact here.object here.at_path (object_kind Reads l (entries_held (directory_of it)) tree held id e found at.0 here) told.1
            ∙ ap refused (sym told.0),
        keeps_refl it,
      );
  rests = inr (keeps_refl c.args.mini.now);
}

pub returns-in-Err-with_dir_entry_mut-clause-tree_rule : goal.returns-in-Err-with_dir_entry_mut-clause-tree_rule
returns-in-Err-with_dir_entry_mut-clause-tree_rule g c = record {
  done = tt;
  refused = λ tree m.
      let it = c.args.mini.now in
      let id = c.in-Ok.id in
      let e = entry_in c.dir_entry.result.now in
      let found : slice_get (entries_held (directory_of it)) id ≡ Some e = ap (λ d. slice_get (entries_held d) id) (sym c.directory-3.ensures) ∙ c.dir_entry.ensures in
      let did = c.in-Err-with_dir_entry_mut.ensures in
      ⊎_elim (λ fault. inl (inl fault))
      (λ wrong. absurd (⊎_elim
      (λ missing. did.refused_only_if (ap Err missing) m.who.sectors m.owners)
      (λ large.
      let past = ((did.large e found).0 (ap Err large)).1 in
      let fits = m.sizes id e found in
      let told = subst (λ o. IfSome o (λ ch. (ch ≡ change_for c.args.fact) × MayHave c.args.fact c.in-Ok.id (entry_in c.dir_entry.result.now))) c.in-Ok-Some.field-0-is c.in-Ok-Some.ensures.some in
      let size = ap (λ ch. (changed_entry ch e).size) told.0 ∙ (place_stays c.args.fact e).1 in
      omega (arith, past, fits, size))
      wrong))
      did.error_contract.fault;
  rests = c.in-Err-with_dir_entry_mut.ensures.after_error;
}

pub returns-clause-tree_rule : goal.returns-clause-tree_rule
returns-clause-tree_rule g c = record {
  done = λ tree m.
      let it = c.args.mini.now in
      let new = c.with_dir_entry_mut.new.self in
      let l = case_table_of c.args.letters.now in
      let Reads = reads (live_of it) m.who in
      let same : entries_in c.dir_entries.result.now ≡ entries_held (directory_of it) = c.dir_entries.ensures ∙ ap entries_held c.directory-2.ensures in
      let held = means_held l it tree m in
      let id = c.in-Ok.id in
      let fact = c.args.fact in
      let e = entry_in c.dir_entry.result.now in
      let f = changed_entry (change_for fact) e in
      let found : slice_get (entries_held (directory_of it)) id ≡ Some e = ap (λ d. slice_get (entries_held d) id) (sym c.directory-3.ensures) ∙ c.dir_entry.ensures in
      let at = c.in-Ok.ensures.found Reads tree (subst (λ es. EntriesHoldTree l (ReadBy Reads) es tree) (sym same) held) in
      let here = subst (λ es. IsEntryAt (ReadBy Reads) l es tree at.0 id) same at.2 in
      let told = subst (λ o. IfSome o (λ ch. (ch ≡ change_for c.args.fact) × MayHave c.args.fact c.in-Ok.id (entry_in c.dir_entry.result.now))) c.in-Ok-Some.field-0-is c.in-Ok-Some.ensures.some in
      let change = ap (λ ch. changed_entry ch e) told.0 in
      let may = told.1 in
      let step = step_done l tree at.0 id e fact here.object here.at_path (object_kind Reads l (entries_held (directory_of it)) tree held id e found at.0 here) (inl may) in
      let place = place_stays fact e in
      let did = c.in_default.ensures in
      let changes = did.changes m.who.sectors e m.owners found (λ zero. ap (λ (x : Entry). x.start) change ∙ place.0) in
      let set = did.set e found ∙ ap (slice_set (entries_held (directory_of it)) id) change in
      let comes = subst (FileBecomesTree l it new m.who) (sym (ap (λ o. o.0) step))
      (set_comes l it tree m at.0 id e f (rule fact at.0) here found new (links_stay fact e) (color_stays fact e) place.0 place.1 (becomes Reads l (entries_held (directory_of it)) tree held id e found fact at.0 here may)
      c.with_dir_entry_mut.ensures.invariants did.error_contract.live.1 changes set) in
      record { names = at.0; at_path = at.1; accepted = ap (λ o. o.1) step; means = comes.means; strays = comes.strays };
  refused = tt;
  rests = tt;
}
