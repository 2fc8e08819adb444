use Rattle.std.proofs.Common.{map, ◌∙◌, ap, sym, inl, inr, subst, chars}
use Rattle.cfb_spec.specs.TreeRules.{read_storage, children_shown}
use Rattle.cfb_siblings.specs.Places.{path_of}
use Rattle.cfb_tree.specs.EntryViews.{entry_in}
use Rattle.cfb_tree.specs.CaseTableViews.{case_table_of}
use Rattle.cfb_tree.specs.Objects.{inside_of}
use Rattle.cfb_entries.specs.Holding.{IsHeldAt}
use Rattle.cfb_entries.specs.Listed.{listed_in, prefix_text}
use Rattle.cfb_entries.specs.Rules.{answer_at}
use Rattle.cfb_entries.proofs.Found.{found}
use Rattle.cfb_entries.proofs.Telling.{refusal, read_lost, read_refused, read_answer}
use Rattle.cfb_entries.proofs.listing.children_at.Goals as goal

pub returns-in-Err-clause-answer : goal.returns-in-Err-clause-answer
returns-in-Err-clause-answer c = λ tree h.
    let letters = case_table_of c.args.letters.now in
    (tt, refusal letters tree (λ p. read_storage p) (read_lost letters tree) c.args.path.now c.in-Err.error (c.in-Err.ensures.refused_only_if tree h))

pub returns-then-is_stream-clause-answer : goal.returns-then-is_stream-clause-answer
returns-then-is_stream-clause-answer c = λ tree h.
    let letters = case_table_of c.args.letters.now in
    let directory = map entry_in c.args.entries.now in
    let names = c.in-Ok.found.0.items in
    let e = entry_in c.in-Ok.found.1.now in
    let (named, id, leads, at) = c.in-Ok.ensures.found tree h in
    let it = found letters directory tree h (path_of names) id e leads at in
    (tt, inr (ap (answer_at letters tree (λ p. read_storage p)) named ∙ read_refused letters tree directory (path_of names) id e at it (sym c.is_stream.ensures ∙ c.if-is_stream.true)))

pub returns-in-Ok-children-clause-answer : goal.returns-in-Ok-children-clause-answer
returns-in-Ok-children-clause-answer c = λ tree h.
    let letters = case_table_of c.args.letters.now in
    let directory = map entry_in c.args.entries.now in
    let names = c.in-Ok.found.0.items in
    let e = entry_in c.in-Ok.found.1.now in
    let (named, id, leads, at) = c.in-Ok.ensures.found tree h in
    let it = found letters directory tree h (path_of names) id e leads at in
    let held = subst (λ k. IsHeldAt directory k (inside_of it.object)) (sym c.children_link.ensures) it.held in
    let prefix = ap chars c.deref-2.ensures ∙ c.in_ok-prefix.ensures.text ∙ ap (λ ns. prefix_text (path_of ns)) c.deref.ensures.value in (
      (
        children_shown (path_of names) (inside_of it.object),
        ap (answer_at letters tree (λ p. read_storage p)) named ∙ read_answer letters tree directory (path_of names) id e at it (sym c.is_stream.ensures ∙ c.if-is_stream.false),
        ap (map listed_in) c.new.ensures ∙ (c.in-Ok-children.ensures.answer (path_of names) (inside_of it.object) held prefix).0,
      ),
      tt,
    )

pub returns-clause-answer : goal.returns-clause-answer
returns-clause-answer c = λ tree h.
    let letters = case_table_of c.args.letters.now in
    let directory = map entry_in c.args.entries.now in
    let names = c.in-Ok.found.0.items in
    let e = entry_in c.in-Ok.found.1.now in
    let (named, id, leads, at) = c.in-Ok.ensures.found tree h in
    let it = found letters directory tree h (path_of names) id e leads at in
    let held = subst (λ k. IsHeldAt directory k (inside_of it.object)) (sym c.children_link.ensures) it.held in
    let prefix = ap chars c.deref-2.ensures ∙ c.in_ok-prefix.ensures.text ∙ ap (λ ns. prefix_text (path_of ns)) c.deref.ensures.value in
    (tt, inl ((c.in-Err-children.ensures.answer (path_of names) (inside_of it.object) held prefix).1))
