use Rattle.std.proofs.Common.{map, ◌∙◌, ◌<◌, ◌∷◌, ap, sym, inl, inr, length, subst}
use Rattle.cfb_spec.specs.TreeRules.{walk_storage, shown, all_shown, stored_path}
use Rattle.cfb_siblings.specs.Places.{path_of}
use Rattle.cfb_tree.specs.EntryViews.{entry_in}
use Rattle.cfb_tree.specs.CaseTableViews.{case_table_of}
use Rattle.cfb_tree.specs.Objects.{inside_of}
use Rattle.cfb_entries.specs.Holding.{IsHeldAt}
use Rattle.cfb_entries.specs.Listed.{listed, listed_in, prefix_of_listed}
use Rattle.cfb_entries.specs.Rules.{answer_at}
use Rattle.cfb_entries.proofs.Found.{found}
use Rattle.cfb_entries.proofs.Telling.{refusal, walk_lost, walk_refused, walk_answer, top_prefix, object_name, some_names, top_told}
use Rattle.cfb_entries.proofs.listing.walk_at.Goals as goal

pub returns-in-Err-clause-answer : goal.returns-in-Err-clause-answer
returns-in-Err-clause-answer c = λ tree h.
    let letters = case_table_of c.args.letters.now in
    (tt, refusal letters tree (λ p. walk_storage p) (walk_lost letters tree) c.args.path.now c.in-Err.error (c.in-Err.ensures.refused_only_if tree h))

pub returns-then-is_stream-clause-answer : goal.returns-then-is_stream-clause-answer
returns-then-is_stream-clause-answer c = λ tree h.
    let letters = case_table_of c.args.letters.now in
    let directory = map entry_in c.args.entries.now in
    let names = c.in-Ok.found.0.items in
    let e = entry_in c.in-Ok.found.1.now in
    let (named, id, leads, at) = c.in-Ok.ensures.found tree h in
    let it = found letters directory tree h (path_of names) id e leads at in
    (tt, inr (ap (answer_at letters tree (λ p. walk_storage p)) named ∙ walk_refused letters tree directory (path_of names) id e at it (sym c.is_stream.ensures ∙ c.if-is_stream.true)))

pub returns-in-Err-top_of-clause-answer : goal.returns-in-Err-top_of-clause-answer
returns-in-Err-top_of-clause-answer c = λ tree h.
    let letters = case_table_of c.args.letters.now in
    let directory = map entry_in c.args.entries.now in
    let names = c.in-Ok.found.0.items in
    let e = entry_in c.in-Ok.found.1.now in
    let (named, id, leads, at) = c.in-Ok.ensures.found tree h in
    let it = found letters directory tree h (path_of names) id e leads at in (
      tt,
      inl (elim c.in-Err-top_of.ensures.errors [
        | inl memory ↦ memory
        | inr (some, none_there) ↦ absurd (none_there _ (object_name letters tree directory (path_of names) id e at it (some_names names (subst (λ ns. 0 < length ns) c.deref.ensures.value some))))
      ]),
    )

pub returns-in-Ok-walk-clause-answer : goal.returns-in-Ok-walk-clause-answer
returns-in-Ok-walk-clause-answer c = λ tree h.
    let letters = case_table_of c.args.letters.now in
    let directory = map entry_in c.args.entries.now in
    let names = c.in-Ok.found.0.items in
    let e = entry_in c.in-Ok.found.1.now in
    let (named, id, leads, at) = c.in-Ok.ensures.found tree h in
    let it = found letters directory tree h (path_of names) id e leads at in
    let held = subst (λ k. IsHeldAt directory k (inside_of it.object)) (sym c.children_link.ensures) it.held in
    let front = stored_path (path_of names) it.object in
    let top = top_told letters tree directory names id e at it (listed_in c.in-Ok-top_of.top) c.deref.result.now c.deref.ensures.value c.in-Ok-top_of.ensures.root c.in-Ok-top_of.ensures.below in
    let prefix = ap prefix_of_listed top ∙ top_prefix letters tree directory (path_of names) id e at it in (
      (
        shown front it.object ∷ all_shown front (inside_of it.object),
        ap (answer_at letters tree (λ p. walk_storage p)) named ∙ walk_answer letters tree directory (path_of names) id e at it (sym c.is_stream.ensures ∙ c.if-is_stream.false),
        ap (map listed_in) c.new.ensures ∙ (c.in-Ok-walk.ensures.answer front (inside_of it.object) held prefix).0 ∙ ap (λ x. x ∷ map listed (all_shown front (inside_of it.object))) top,
      ),
      tt,
    )

pub returns-clause-answer : goal.returns-clause-answer
returns-clause-answer c = λ tree h.
    let letters = case_table_of c.args.letters.now in
    let directory = map entry_in c.args.entries.now in
    let names = c.in-Ok.found.0.items in
    let e = entry_in c.in-Ok.found.1.now in
    let (named, id, leads, at) = c.in-Ok.ensures.found tree h in
    let it = found letters directory tree h (path_of names) id e leads at in
    let held = subst (λ k. IsHeldAt directory k (inside_of it.object)) (sym c.children_link.ensures) it.held in
    let front = stored_path (path_of names) it.object in
    let top = top_told letters tree directory names id e at it (listed_in c.in-Ok-top_of.top) c.deref.result.now c.deref.ensures.value c.in-Ok-top_of.ensures.root c.in-Ok-top_of.ensures.below in
    let prefix = ap prefix_of_listed top ∙ top_prefix letters tree directory (path_of names) id e at it in
    (tt, inl ((c.in-Err-walk.ensures.answer front (inside_of it.object) held prefix).1))
