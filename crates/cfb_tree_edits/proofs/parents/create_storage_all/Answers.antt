use Rattle.std.proofs.Common.{◌≡◌, ◌+◌, ◌<◌, arith, inl, inr, chars, get_or, length, take, ap, sym, subst, ◌∙◌, rules, ℕ, List}
use Rattle.std.specs.Borrow.{Bor}
use Rattle.std.specs.Prelude.{Some}
use Rattle.cfb_entries.specs.Rules.{answer_at}
use Rattle.cfb_entries.proofs.Found.{names_are}
use Rattle.cfb_spec.specs.TreeRules.{create_storage_all}
use Rattle.cfb_medium.specs.Times.{units_of}
use Rattle.cfb_siblings.specs.Places.{path_of, path_to, IsStorageAt}
use Rattle.cfb_siblings.specs.Reading.{ReadBy}
use Rattle.cfb_tree.specs.CaseTableViews.{case_table_of}
use Rattle.cfb_tree.specs.Objects.{EntriesHoldTree}
use Rattle.cfb_directory.specs.Entries.{entries_in}
use Rattle.cfb_directory.specs.Views.{entries_held}
use Rattle.cfb_mini.specs.Views.{allocator_of, directory_of}
use Rattle.cfb_chain_io.proofs.GoingOn.{goes_cause, goes_then}
use Rattle.cfb_tree_edits.specs.Live.{live_of}
use Rattle.cfb_tree_edits.specs.Orphans.{FileBecomesTree, StaysTidy}
use Rattle.cfb_tree_edits.specs.Parents.{ComesAsFar, MeansAsFar}
use Rattle.cfb_tree_edits.proofs.AllMade.{all_made, as_far_more, as_far_strays, name_more, next_place, take_end}
use Rattle.cfb_tree_edits.proofs.NewPlaces.{length-path}
use Rattle.cfb_tree_edits.proofs.Resting.{keeps_refl}
use Rattle.cfb_tree_edits.proofs.SetFacts.{means_held}
use Rattle.cfb_tree_edits.proofs.Strays.{strays_same, strays_then}
use Rattle.cfb_tree_edits.proofs.Streams.{reads}
use Rattle.cfb_tree_edits.proofs.parents.create_storage_all.Goals as goal

pub returns-in-Err-first_missing-clause-tree_rule : goal.returns-in-Err-first_missing-clause-tree_rule
returns-in-Err-first_missing-clause-tree_rule g c = record {
  done = tt;
  refused = λ tree m.
      let it = c.args.mini.now in
      let l = case_table_of c.args.letters.now in
      let Reads = reads (live_of it) m.who in
      let names = c.deref.result.now in
      let path = path_of names in
      let moment = units_of c.args.moment in
      let same : entries_in c.dir_entries.result.now ≡ entries_held (directory_of it) = c.dir_entries.ensures ∙ ap entries_held c.directory-2.ensures in
      let held = subst (λ es. EntriesHoldTree l (ReadBy Reads) es tree) (sym same) (means_held l it tree m) in
      let at_path = names_are c.args.path.now c.in-Ok.names.items c.in-Ok.ensures.names ∙ ap (λ ns. Some (path_of ns)) (sym c.deref.ensures.value) in
      inr (ap (answer_at l tree (λ ns. create_storage_all ns moment)) at_path ∙ c.in-Err-first_missing.ensures.refused_only_if Reads tree held moment, keeps_refl it);
  rests = inr (keeps_refl c.args.mini.now);
}

pub returns-then-count-len-clause-tree_rule : goal.returns-then-count-len-clause-tree_rule
returns-then-count-len-clause-tree_rule g c = record {
  done = λ tree m.
      let it = c.args.mini.now in
      let l = case_table_of c.args.letters.now in
      let Reads = reads (live_of it) m.who in
      let names = c.deref.result.now in
      let path = path_of names in
      let moment = units_of c.args.moment in
      let same : entries_in c.dir_entries.result.now ≡ entries_held (directory_of it) = c.dir_entries.ensures ∙ ap entries_held c.directory-2.ensures in
      let held = subst (λ es. EntriesHoldTree l (ReadBy Reads) es tree) (sym same) (means_held l it tree m) in
      let at_path = names_are c.args.path.now c.in-Ok.names.items c.in-Ok.ensures.names ∙ ap (λ ns. Some (path_of ns)) (sym c.deref.ensures.value) in
      let count = c.in-Ok-first_missing.found.0 in
      let parent = c.in-Ok-first_missing.found.1 in
      let far = c.in-Ok-first_missing.ensures.found Reads tree held moment in
      let size : length names ≡ c.len.result = let whole = c.deref.ensures.len in let vec = c.len.ensures in omega (arith, whole, vec) in
      let all : count ≡ length path = let within = c.in-Ok-first_missing.ensures.within in let past = c.if-count-len.true in let names_size = length-path names in omega (arith, within, past, size, names_size) in
      let rule = all_made l moment tree tree path count far (ap (λ n. take n path) all ∙ take_end path) in
      let comes = subst (FileBecomesTree l it it m.who) (sym (ap (λ o. o.0) rule)) (record { means = m; strays = strays_same it m.who }) in
      record { names = path; at_path = at_path; accepted = ap (λ o. o.1) rule; means = comes.means; strays = comes.strays };
  refused = tt;
  rests = tt;
}

pub returns-in-Err-make_child-clause-tree_rule : goal.returns-in-Err-make_child-clause-tree_rule
returns-in-Err-make_child-clause-tree_rule g c = record {
  done = tt;
  refused = λ tree m.
      let it = c.args.mini.now in
      let l = case_table_of c.args.letters.now in
      let Reads = reads (live_of it) m.who in
      let names = c.deref.result.now in
      let path = path_of names in
      let moment = units_of c.args.moment in
      let same : entries_in c.dir_entries.result.now ≡ entries_held (directory_of it) = c.dir_entries.ensures ∙ ap entries_held c.directory-2.ensures in
      let held = subst (λ es. EntriesHoldTree l (ReadBy Reads) es tree) (sym same) (means_held l it tree m) in
      let at_path = names_are c.args.path.now c.in-Ok.names.items c.in-Ok.ensures.names ∙ ap (λ ns. Some (path_of ns)) (sym c.deref.ensures.value) in
      let count = c.in-Ok-first_missing.found.0 in
      let parent = c.in-Ok-first_missing.found.1 in
      let far = c.in-Ok-first_missing.ensures.found Reads tree held moment in
      let size : length names ≡ c.len.result = let whole = c.deref.ensures.len in let vec = c.len.ensures in omega (arith, whole, vec) in
      let short : count < length names = let less = c.if-count-len.false in omega (arith, less, size) in
      let below : count < length path = subst (λ n. count < n) (sym (length-path names)) short in
      let storage = subst (λ es. IsStorageAt l es (take count path) parent) same (c.in-Ok-first_missing.ensures.storage Reads tree held) in
      let so : MeansAsFar l moment tree path count parent it = record { now = tree; far = far; means = m; storage = storage } in
      let name = c.index.result.now in
      let name_is : name ≡ get_or names count name = c.index.ensures ∙ ap (λ ns. get_or ns count name) (sym c.deref.ensures.value) in
      let next = name_more names count name short ∙ ap (λ (x : Bor (List ℕ)). path_to (take count path) (chars x.now)) (sym name_is) in
      let place = next_place l c.args.moment tree path count parent it so below _ next in
      inl (c.in-Err-make_child.ensures.refused_only_if tree (take count path) m place);
  rests = c.in-Err-make_child.ensures.after_error;
}

pub returns-in-Err-make_missing-clause-tree_rule : goal.returns-in-Err-make_missing-clause-tree_rule
returns-in-Err-make_missing-clause-tree_rule g c = record {
  done = tt;
  refused = λ tree m.
      let it = c.args.mini.now in
      let l = case_table_of c.args.letters.now in
      let Reads = reads (live_of it) m.who in
      let names = c.deref.result.now in
      let path = path_of names in
      let moment = units_of c.args.moment in
      let same : entries_in c.dir_entries.result.now ≡ entries_held (directory_of it) = c.dir_entries.ensures ∙ ap entries_held c.directory-2.ensures in
      let held = subst (λ es. EntriesHoldTree l (ReadBy Reads) es tree) (sym same) (means_held l it tree m) in
      let at_path = names_are c.args.path.now c.in-Ok.names.items c.in-Ok.ensures.names ∙ ap (λ ns. Some (path_of ns)) (sym c.deref.ensures.value) in
      let count = c.in-Ok-first_missing.found.0 in
      let parent = c.in-Ok-first_missing.found.1 in
      let far = c.in-Ok-first_missing.ensures.found Reads tree held moment in
      let size : length names ≡ c.len.result = let whole = c.deref.ensures.len in let vec = c.len.ensures in omega (arith, whole, vec) in
      let short : count < length names = let less = c.if-count-len.false in omega (arith, less, size) in
      let below : count < length path = subst (λ n. count < n) (sym (length-path names)) short in
      let storage = subst (λ es. IsStorageAt l es (take count path) parent) same (c.in-Ok-first_missing.ensures.storage Reads tree held) in
      let so : MeansAsFar l moment tree path count parent it = record { now = tree; far = far; means = m; storage = storage } in
      let name = c.index.result.now in
      let name_is : name ≡ get_or names count name = c.index.ensures ∙ ap (λ ns. get_or ns count name) (sym c.deref.ensures.value) in
      let next = name_more names count name short ∙ ap (λ (x : Bor (List ℕ)). path_to (take count path) (chars x.now)) (sym name_is) in
      let place = next_place l c.args.moment tree path count parent it so below _ next in
      let mid = c.make_child.new.mini in
      let top = c.in-Ok-make_child.top in
      let one = as_far_more l c.args.moment tree path count parent it so below _ next mid top (c.in-Ok-make_child.ensures.made tree (take count path) m place) in
      let again = c.deref-2.ensures.value ∙ sym c.deref.ensures.value in
      let start = subst (λ ns. MeansAsFar l moment tree (path_of ns) (count + 1) top mid) (sym again) one in
      inl (c.in-Err-make_missing.ensures.refused_only_if tree start);
  rests = inl c.in-Err-make_missing.ensures.when_failed;
}

pub returns-in-Err-make_missing-clause-error_contract : goal.returns-in-Err-make_missing-clause-error_contract
returns-in-Err-make_missing-clause-error_contract g c =
    let a = allocator_of c.args.mini.now in
    let m = allocator_of c.make_child.new.mini in
    let b = allocator_of c.make_missing.new.mini in
    let told = c.in-Err-make_missing.ensures.error_contract in
    record {
      live = tt;
      failed = search rules;
      after = inl c.in-Err-make_missing.ensures.when_failed;
      cause = goes_cause a m b c.in-Err-make_missing.error c.make_child.ensures.invariants c.in-Ok-make_child.ensures.error_contract.live.1 told.cause;
      fault = told.fault;
    }

pub returns-in-Err-make_missing-clause-invariants : goal.returns-in-Err-make_missing-clause-invariants
returns-in-Err-make_missing-clause-invariants g c = goes_then _ _ _ c.make_child.ensures.invariants c.make_missing.ensures.invariants

pub returns-clause-invariants : goal.returns-clause-invariants
returns-clause-invariants g c = goes_then _ _ _ c.make_child.ensures.invariants c.make_missing.ensures.invariants

pub returns-clause-tree_rule : goal.returns-clause-tree_rule
returns-clause-tree_rule g c = record {
  done = λ tree m.
      let it = c.args.mini.now in
      let l = case_table_of c.args.letters.now in
      let Reads = reads (live_of it) m.who in
      let names = c.deref.result.now in
      let path = path_of names in
      let moment = units_of c.args.moment in
      let same : entries_in c.dir_entries.result.now ≡ entries_held (directory_of it) = c.dir_entries.ensures ∙ ap entries_held c.directory-2.ensures in
      let held = subst (λ es. EntriesHoldTree l (ReadBy Reads) es tree) (sym same) (means_held l it tree m) in
      let at_path = names_are c.args.path.now c.in-Ok.names.items c.in-Ok.ensures.names ∙ ap (λ ns. Some (path_of ns)) (sym c.deref.ensures.value) in
      let count = c.in-Ok-first_missing.found.0 in
      let parent = c.in-Ok-first_missing.found.1 in
      let far = c.in-Ok-first_missing.ensures.found Reads tree held moment in
      let size : length names ≡ c.len.result = let whole = c.deref.ensures.len in let vec = c.len.ensures in omega (arith, whole, vec) in
      let short : count < length names = let less = c.if-count-len.false in omega (arith, less, size) in
      let below : count < length path = subst (λ n. count < n) (sym (length-path names)) short in
      let storage = subst (λ es. IsStorageAt l es (take count path) parent) same (c.in-Ok-first_missing.ensures.storage Reads tree held) in
      let so : MeansAsFar l moment tree path count parent it = record { now = tree; far = far; means = m; storage = storage } in
      let name = c.index.result.now in
      let name_is : name ≡ get_or names count name = c.index.ensures ∙ ap (λ ns. get_or ns count name) (sym c.deref.ensures.value) in
      let next = name_more names count name short ∙ ap (λ (x : Bor (List ℕ)). path_to (take count path) (chars x.now)) (sym name_is) in
      let place = next_place l c.args.moment tree path count parent it so below _ next in
      let mid = c.make_child.new.mini in
      let top = c.in-Ok-make_child.top in
      let child = c.in-Ok-make_child.ensures.made tree (take count path) m place in
      let one = as_far_more l c.args.moment tree path count parent it so below _ next mid top child in
      let again = c.deref-2.ensures.value ∙ sym c.deref.ensures.value in
      let start = subst (λ ns. (far : MeansAsFar l moment tree (path_of ns) (count + 1) top mid) × StaysTidy it mid m.who far.means.who) (sym again)
      (one, as_far_strays l c.args.moment tree path count parent it so below _ next mid top child) in
      let new = c.make_missing.new.mini in
      let all = subst (λ ns. ComesAsFar l moment tree (path_of ns) (length ns) mid new start.0.means.who) again (c.in_default.ensures.made tree start.0) in
      let rule = all_made l moment tree all.far.now path (length names) all.far.far (ap (λ n. take n path) (sym (length-path names)) ∙ take_end path) in
      let strays = strays_then it mid new m.who start.0.means.who all.far.means.who start.1 all.strays in
      let comes = subst (FileBecomesTree l it new m.who) (sym (ap (λ o. o.0) rule)) (record { means = all.far.means; strays = strays }) in
      record { names = path; at_path = at_path; accepted = ap (λ o. o.1) rule; means = comes.means; strays = comes.strays };
  refused = tt;
  rests = tt;
}
