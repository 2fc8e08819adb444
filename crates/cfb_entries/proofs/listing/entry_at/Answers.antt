use Rattle.std.proofs.Common.{map, ◌≢◌, ◌∙◌, [], ap, arith, inl, inr}
use Rattle.cfb_spec.specs.TreeRules.{entry, shown}
use Rattle.cfb_siblings.specs.Places.{path_of}
use Rattle.cfb_tree.specs.EntryViews.{entry_in}
use Rattle.cfb_tree.specs.CaseTableViews.{case_table_of}
use Rattle.cfb_entries.specs.Listed.{listed_at, prefix_text}
use Rattle.cfb_entries.specs.Rules.{answer_at}
use Rattle.cfb_entries.proofs.Found.{found}
use Rattle.cfb_entries.proofs.Telling.{both_cases, refusal, entry_lost, entry_answer, root_is, below_is, object_name, no_names, not_empty, some_names}
use Rattle.cfb_entries.proofs.listing.entry_at.Goals as goal

pub returns-in-Err-clause-answer : goal.returns-in-Err-clause-answer
returns-in-Err-clause-answer c = λ tree h.
    let letters = case_table_of c.args.letters.now in
    (tt, refusal letters tree (λ p. entry p) (entry_lost letters tree) c.args.path.now c.in-Err.error (c.in-Err.ensures.refused_only_if tree h))

pub returns-then-is_empty-clause-answer : goal.returns-then-is_empty-clause-answer
returns-then-is_empty-clause-answer c = λ tree h.
    let letters = case_table_of c.args.letters.now in
    let directory = map entry_in c.args.entries.now in
    let names = c.in-Ok.found.0.items in
    let e = entry_in c.in-Ok.found.1.now in
    let (named, id, leads, at) = c.in-Ok.ensures.found tree h in
    let it = found letters directory tree h (path_of names) id e leads at in
    let empty = c.is_empty.ensures in
    let none_there = no_names names (grind (arith, c.is_empty.ensures, c.if-is_empty.true, c.in-Ok.found.0.ok.0)) in
    both_cases _ _ _ _ c.root.result
    (λ x is. (
      shown (path_of names) it.object,
      ap (answer_at letters tree (λ p. entry p)) named ∙ entry_answer letters tree directory (path_of names) id e at it,
      is ∙ root_is letters tree directory (path_of names) id e at it none_there,
    ))
    (λ error memory. inl memory) c.root.ensures.listed c.root.ensures.errors

pub returns-clause-answer : goal.returns-clause-answer
returns-clause-answer c = λ tree h.
    let letters = case_table_of c.args.letters.now in
    let directory = map entry_in c.args.entries.now in
    let names = c.in-Ok.found.0.items in
    let e = entry_in c.in-Ok.found.1.now in
    let (named, id, leads, at) = c.in-Ok.ensures.found tree h in
    let it = found letters directory tree h (path_of names) id e leads at in
    let some : path_of names ≢ [] = some_names names (not_empty _ _ _ c.is_empty.ensures c.if-is_empty.false c.in-Ok.found.0.ok.0) in
    both_cases _ _ _ _ c.at.result
    (λ x told. let (name, has, is) = told in (
      shown (path_of names) it.object,
      ap (answer_at letters tree (λ p. entry p)) named ∙ entry_answer letters tree directory (path_of names) id e at it,
      is ∙ ap (λ text. listed_at e text name) (c.in_ok-text.ensures.text ∙ ap (λ ns. prefix_text (path_of ns)) c.deref.ensures.value)
          ∙ below_is letters tree directory (path_of names) id e at it some name has,
    ))
    (λ error wrong. elim wrong [ inl memory ↦ inl memory | inr (data_wrong, none_there) ↦ absurd (none_there _ (object_name letters tree directory (path_of names) id e at it some)) ])
    c.at.ensures.listed c.at.ensures.errors
