use Rattle.std.proofs.Common.{◌<◌, length, map, inl, inr, refl, ap, sym, subst, ◌∙◌, arith}
use Rattle.std.specs.Prelude.{Some}
use Rattle.cfb_siblings.specs.Places.{path_of, IsPlace, IsStorageAt, NameIsTaken, LeadsTo}
use Rattle.cfb_siblings.specs.Reading.{ReadBy}
use Rattle.cfb_siblings.proofs.Entries.{found_in, lost_in}
use Rattle.cfb_tree.specs.Changes.{parent_of}
use Rattle.cfb_tree.specs.EntryViews.{entry_in}
use Rattle.cfb_tree.specs.CaseTableViews.{case_table_of}
use Rattle.cfb_tree.specs.Objects.{object_at}
use Rattle.cfb_directory.proofs.Inserted.{object_lost}
use Rattle.cfb_tree_edits.proofs.FactRules.{object_kind}
use Rattle.cfb_tree_edits.proofs.NewPlaces.{last_is, length-path, parent_is, stream_of}
use Rattle.cfb_tree_edits.proofs.Objects.{object_there}
use Rattle.cfb_tree_edits.proofs.Removals.{last_path, none_below_none, none_below_stream}
use Rattle.cfb_tree_edits.proofs.finding.find_child.Goals as goal
use Rattle.cfb_entries.proofs.Telling.{no_names}

pub returns-then-count-eq0-clause-refused_only_if : goal.returns-then-count-eq0-clause-refused_only_if
returns-then-count-eq0-clause-refused_only_if c = λ reads tree h. inr (refl, no_names c.args.names.now (let none = c.if-count-eq0.true in grind (arith, none)))

pub returns-in_default-clause-refused_only_if : goal.returns-in_default-clause-refused_only_if
returns-in_default-clause-refused_only_if c = λ reads tree h.
    let l = case_table_of c.args.letters.now in
    let names = c.args.names.now in
    let some : 0 < length names = let none = c.if-count-eq0.false in grind (arith, none) in
    inl (refl, none_below_none l tree (path_of names) (subst (λ n. 0 < n) (sym (length-path names)) some) (ap (object_at l tree) (sym (parent_is names)) ∙ c.in_default.ensures reads tree h))

pub returns-in_default-get-clause-refused_only_if : goal.returns-in_default-get-clause-refused_only_if
returns-in_default-get-clause-refused_only_if c = λ reads tree h.
    let l = case_table_of c.args.letters.now in
    let parent = c.in-Some.parent in
    absurd (object_there (ReadBy reads) l (map entry_in c.args.entries.now) tree h _ parent (c.in-Some.ensures reads tree h) (lost_in c.args.entries.now parent c.in_default-get.ensures.lookup.3))

pub returns-then-is_stream-clause-refused_only_if : goal.returns-then-is_stream-clause-refused_only_if
returns-then-is_stream-clause-refused_only_if c = λ reads tree h.
    let l = case_table_of c.args.letters.now in
    let names = c.args.names.now in
    let directory = map entry_in c.args.entries.now in
    let parent = c.in-Some.parent in
    let e = entry_in c.in-Some-get.storage.now in
    let got = c.in-Some-get.ensures.lookup in
    let found = found_in c.args.entries.now parent c.in-Some-get.storage.now got.3.0 got.1 in
    let at = c.in-Some.ensures reads tree h in
    let some : 0 < length names = let none = c.if-count-eq0.false in grind (arith, none) in
    let is = stream_of at.object (object_kind reads l directory tree h parent e found _ at) (c.if-is_stream.ensures.0 refl) in
    inl (refl, none_below_stream l tree (path_of names) (subst (λ n. 0 < n) (sym (length-path names)) some) is.0 is.1 is.2 (ap (object_at l tree) (sym (parent_is names)) ∙ at.at_path ∙ ap Some is.3))

pub returns-in-Some-Free-clause-refused_only_if : goal.returns-in-Some-Free-clause-refused_only_if
returns-in-Some-Free-clause-refused_only_if c = λ reads tree h.
    let l = case_table_of c.args.letters.now in
    let names = c.args.names.now in
    let directory = map entry_in c.args.entries.now in
    let parent = c.in-Some.parent in
    let e = entry_in c.in-Some-get.storage.now in
    let got = c.in-Some-get.ensures.lookup in
    let found = found_in c.args.entries.now parent c.in-Some-get.storage.now got.3.0 got.1 in
    let at = c.in-Some.ensures reads tree h in
    let some : 0 < length names = let none = c.if-count-eq0.false in grind (arith, none) in
    let storage : IsStorageAt l directory (parent_of (path_of names)) parent =
    record { leads = subst (λ p. LeadsTo l directory 0 p parent) (parent_is names) at.leads; owner = record { entry = e; found = found; holds = λ kind. let wrong = c.if-is_stream.ensures.1 kind in absurd (cc) } } in
    let place = subst (IsPlace (ReadBy reads) l directory tree (parent_of (path_of names)) parent _) c.in-Some-Free.field-0-is (c.in-Some-Free.ensures reads tree (parent_of (path_of names)) h storage) in
    inl (refl, ap (object_at l tree) (sym (last_path names _ some)) ∙ place.2)

pub returns-in-None-clause-refused_only_if : goal.returns-in-None-clause-refused_only_if
returns-in-None-clause-refused_only_if c = λ reads tree h.
    let l = case_table_of c.args.letters.now in
    let names = c.args.names.now in
    let directory = map entry_in c.args.entries.now in
    let parent = c.in-Some.parent in
    let e = entry_in c.in-Some-get.storage.now in
    let got = c.in-Some-get.ensures.lookup in
    let found = found_in c.args.entries.now parent c.in-Some-get.storage.now got.3.0 got.1 in
    let at = c.in-Some.ensures reads tree h in
    let some : 0 < length names = let none = c.if-count-eq0.false in grind (arith, none) in
    let storage : IsStorageAt l directory (parent_of (path_of names)) parent =
    record { leads = subst (λ p. LeadsTo l directory 0 p parent) (parent_is names) at.leads; owner = record { entry = e; found = found; holds = λ kind. let wrong = c.if-is_stream.ensures.1 kind in absurd (cc) } } in
    absurd (c.in-None.ensures reads tree (parent_of (path_of names)) h storage)

pub returns-then-id-entries-clause-refused_only_if : goal.returns-then-id-entries-clause-refused_only_if
returns-then-id-entries-clause-refused_only_if c = λ reads tree h.
    let l = case_table_of c.args.letters.now in
    let names = c.args.names.now in
    let directory = map entry_in c.args.entries.now in
    let parent = c.in-Some.parent in
    let e = entry_in c.in-Some-get.storage.now in
    let got = c.in-Some-get.ensures.lookup in
    let found = found_in c.args.entries.now parent c.in-Some-get.storage.now got.3.0 got.1 in
    let at = c.in-Some.ensures reads tree h in
    let some : 0 < length names = let none = c.if-count-eq0.false in grind (arith, none) in
    let storage : IsStorageAt l directory (parent_of (path_of names)) parent =
    record { leads = subst (λ p. LeadsTo l directory 0 p parent) (parent_is names) at.leads; owner = record { entry = e; found = found; holds = λ kind. let wrong = c.if-is_stream.ensures.1 kind in absurd (cc) } } in
    let place = subst (IsPlace (ReadBy reads) l directory tree (parent_of (path_of names)) parent _) c.in-Some-Taken.field-0-is (c.in-Some-Taken.ensures reads tree (parent_of (path_of names)) h storage) in
    absurd (object_lost directory (ReadBy reads) c.in-Some-Taken.id place.2 place.4 place.5 (lost_in c.args.entries.now c.in-Some-Taken.id c.if-id-entries.true))

pub returns-clause-found : goal.returns-clause-found
returns-clause-found c = λ reads tree h.
    let l = case_table_of c.args.letters.now in
    let names = c.args.names.now in
    let directory = map entry_in c.args.entries.now in
    let parent = c.in-Some.parent in
    let e = entry_in c.in-Some-get.storage.now in
    let got = c.in-Some-get.ensures.lookup in
    let found = found_in c.args.entries.now parent c.in-Some-get.storage.now got.3.0 got.1 in
    let at = c.in-Some.ensures reads tree h in
    let some : 0 < length names = let none = c.if-count-eq0.false in grind (arith, none) in
    let storage : IsStorageAt l directory (parent_of (path_of names)) parent =
    record { leads = subst (λ p. LeadsTo l directory 0 p parent) (parent_is names) at.leads; owner = record { entry = e; found = found; holds = λ kind. let wrong = c.if-is_stream.ensures.1 kind in absurd (cc) } } in
    let place = subst (IsPlace (ReadBy reads) l directory tree (parent_of (path_of names)) parent _) c.in-Some-Taken.field-0-is (c.in-Some-Taken.ensures reads tree (parent_of (path_of names)) h storage) in
    let whole = last_path names _ some in
    record {
      parent = parent;
      storage = storage;
      taken = subst (λ n. NameIsTaken l directory parent n c.in-Some-Taken.link c.in-Some-Taken.id) (sym (last_is names _ some)) place.0;
      leads = subst (λ p. LeadsTo l directory 0 p c.in-Some-Taken.id) whole place.1;
      object = place.2;
      at_path = ap (object_at l tree) (sym whole) ∙ place.3;
      own = place.4;
      is_object = place.5;
    }
