use Rattle.std.proofs.Common.{◌≡◌, ◌+◌, ℕ, List, [], ◌∷◌, arith, drop, length, map, take, ap, sym, subst, ◌∙◌}
use Rattle.std.specs.Prelude.{None}
use Rattle.std.specs.Borrow.{Bor}
use Rattle.cfb_siblings.specs.Places.{path_of, IsPlace, IsStorageAt}
use Rattle.cfb_siblings.specs.Reading.{ReadBy}
use Rattle.cfb_siblings.proofs.Entries.{found_in, lost_in}
use Rattle.cfb_tree.specs.Directory.{kind_stream}
use Rattle.cfb_tree.specs.EntryViews.{entry_in}
use Rattle.cfb_tree.specs.CaseTableViews.{case_table_of}
use Rattle.cfb_tree.specs.Objects.{object_at}
use Rattle.cfb_tree_edits.specs.WholeRemoval.{HasStorage}
use Rattle.cfb_tree_edits.specs.Parents.{AreNames}
use Rattle.cfb_tree_edits.proofs.AllMade.{drop_end, name_more, name_refused, next_free, rest_is, stream_refused, there_first, there_more, within_path, IsThereAsFar}
use Rattle.cfb_tree_edits.proofs.GoingDown.{child_storage, child_stream, child_there, root_storage}
use Rattle.cfb_tree_edits.proofs.NewPlaces.{length-path}
use Rattle.cfb_tree_edits.proofs.parents.first_missing.Goals as goal

abbrev no_name : Bor (List ℕ)
no_name = record { ref_ptr = (0, 0); now = [] }

pub parts-init : goal.parts-init
parts-init c = λ reads tree h.
    let l = case_table_of c.args.letters.now in
    (there_first l tree (path_of c.args.names.now), root_storage l reads (map entry_in c.args.entries.now) tree h)

pub returns-then-are_names-clause-found : goal.returns-then-are_names-clause-found
returns-then-are_names-clause-found c = λ reads tree h moment.
    let l = case_table_of c.args.letters.now in
    let directory = map entry_in c.args.entries.now in
    let names = c.args.names.now in
    let path = path_of names in
    let i = c.parts.count in
    let far = c.parts.invariant reads tree h in
    let place = subst (IsPlace (ReadBy reads) l directory tree (take i path) c.parts.parent _) c.in-Some-Free.field-0-is (c.in-Some-Free.ensures reads tree (take i path) h far.1) in
    let none : object_at l tree (take (i + 1) path) ≡ None = ap (object_at l tree) (name_more names i no_name c.parts-test.true) ∙ place.2 in
    record {
      so_far = far.0.passed moment;
      storage = far.0.storage;
      free = next_free l tree path i (within_path names i no_name c.parts-test.true) none;
      valid = subst AreNames (rest_is i names) (c.are_names.ensures.0 c.if-are_names.true);
    }

pub returns-then-are_names-clause-storage : goal.returns-then-are_names-clause-storage
returns-then-are_names-clause-storage c = λ reads tree h. (c.parts.invariant reads tree h).1

pub returns-in-Some-Free-clause-refused_only_if : goal.returns-in-Some-Free-clause-refused_only_if
returns-in-Some-Free-clause-refused_only_if c = λ reads tree h moment.
    let l = case_table_of c.args.letters.now in
    let directory = map entry_in c.args.entries.now in
    let names = c.args.names.now in
    let path = path_of names in
    let i = c.parts.count in
    let far = c.parts.invariant reads tree h in
    let place = subst (IsPlace (ReadBy reads) l directory tree (take i path) c.parts.parent _) c.in-Some-Free.field-0-is (c.in-Some-Free.ensures reads tree (take i path) h far.1) in
    let none : object_at l tree (take (i + 1) path) ≡ None = ap (object_at l tree) (name_more names i no_name c.parts-test.true) ∙ place.2 in
    name_refused l moment tree path i (within_path names i no_name c.parts-test.true) (far.0.passed moment) far.0.storage none
    (λ all. let right = c.are_names.ensures.1 (subst AreNames (sym (rest_is i names)) all) in let wrong = c.if-are_names.false in absurd (cc))

pub returns-in-None-clause-refused_only_if : goal.returns-in-None-clause-refused_only_if
returns-in-None-clause-refused_only_if c = λ reads tree h moment. absurd (c.in-None.ensures reads tree (take c.parts.count (path_of c.args.names.now)) h (c.parts.invariant reads tree h).1)

pub returns-in_default-clause-refused_only_if : goal.returns-in_default-clause-refused_only_if
returns-in_default-clause-refused_only_if c = λ reads tree h moment.
    let l = case_table_of c.args.letters.now in
    let directory = map entry_in c.args.entries.now in
    let path = path_of c.args.names.now in
    let i = c.parts.count in
    let far = c.parts.invariant reads tree h in
    let id = c.in-Some-Taken.id in
    let place = subst (IsPlace (ReadBy reads) l directory tree (take i path) c.parts.parent _) c.in-Some-Taken.field-0-is (c.in-Some-Taken.ensures reads tree (take i path) h far.1) in
    absurd (child_there l reads directory tree h (take i path) c.parts.parent _ _ id place (lost_in c.args.entries.now id c.in_default.ensures.lookup.3))

pub returns-then-is_stream-clause-refused_only_if : goal.returns-then-is_stream-clause-refused_only_if
returns-then-is_stream-clause-refused_only_if c = λ reads tree h moment.
    let l = case_table_of c.args.letters.now in
    let directory = map entry_in c.args.entries.now in
    let names = c.args.names.now in
    let path = path_of names in
    let i = c.parts.count in
    let far = c.parts.invariant reads tree h in
    let id = c.in-Some-Taken.id in
    let place = subst (IsPlace (ReadBy reads) l directory tree (take i path) c.parts.parent _) c.in-Some-Taken.field-0-is (c.in-Some-Taken.ensures reads tree (take i path) h far.1) in
    let e = c.in-Some.entry.now in
    let got = c.in-Some.ensures.lookup in
    let found = found_in c.args.entries.now id e got.3.0 got.1 in
    let is = child_stream l reads directory tree h (take i path) c.parts.parent _ _ id place (entry_in e) found (c.is_stream.ensures.0 c.if-is_stream.true) in
    stream_refused l moment tree path i (within_path names i no_name c.parts-test.true) (far.0.passed moment) is.0 is.1 is.2 (ap (object_at l tree) (name_more names i no_name c.parts-test.true) ∙ is.3)

pub parts-preserved : goal.parts-preserved
parts-preserved c = λ reads tree h.
    let l = case_table_of c.args.letters.now in
    let directory = map entry_in c.args.entries.now in
    let names = c.args.names.now in
    let path = path_of names in
    let i = c.parts.count in
    let far = c.parts.invariant reads tree h in
    let id = c.in-Some-Taken.id in
    let place = subst (IsPlace (ReadBy reads) l directory tree (take i path) c.parts.parent _) c.in-Some-Taken.field-0-is (c.in-Some-Taken.ensures reads tree (take i path) h far.1) in
    let e = c.in-Some.entry.now in
    let got = c.in-Some.ensures.lookup in
    let found = found_in c.args.entries.now id e got.3.0 got.1 in
    let never : (entry_in e).kind ≡ kind_stream → ⊥ = λ kind. let wrong = c.is_stream.ensures.1 kind in absurd (cc) in
    let is = child_storage l reads directory tree h (take i path) c.parts.parent _ _ id place (entry_in e) found never in
    let next = name_more names i no_name c.parts-test.true in (
      there_more l tree path i (within_path names i no_name c.parts-test.true) far.0 (subst (HasStorage l tree) (sym next) is.0),
      subst (λ p. IsStorageAt l directory p id) (sym next) is.1,
    )

pub returns-clause-found : goal.returns-clause-found
returns-clause-found c = λ reads tree h moment.
    let l = case_table_of c.args.letters.now in
    let names = c.args.names.now in
    let path = path_of names in
    let last : c.parts.count ≡ length names = let past = c.parts-test.false in let within = c.parts.auto.count-end in omega (arith, past, within) in
    let far = subst (IsThereAsFar l tree path) last (c.parts.invariant reads tree h).0 in
    let end : drop (length names) path ≡ [] = ap (λ n. drop n path) (sym (length-path names)) ∙ drop_end path in
    record {
      so_far = far.passed moment;
      storage = far.storage;
      free = λ x rest is. let never : [] ≡ x ∷ rest = sym end ∙ is in absurd (cc);
      valid = subst AreNames (sym end) tt;
    }

pub returns-clause-storage : goal.returns-clause-storage
returns-clause-storage c = λ reads tree h.
    let l = case_table_of c.args.letters.now in
    let names = c.args.names.now in
    let last : c.parts.count ≡ length names = let past = c.parts-test.false in let within = c.parts.auto.count-end in omega (arith, past, within) in
    subst (λ n. IsStorageAt l (map entry_in c.args.entries.now) (take n (path_of names)) c.parts.parent) last (c.parts.invariant reads tree h).1
